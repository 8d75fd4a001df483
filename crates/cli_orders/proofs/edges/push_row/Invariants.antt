use Rattle.std.proofs.Common.{◌≡◌, ◌++◌, drop}
use Rattle.std.specs.List.{flat_map}
use Rattle.cli_orders.specs.EdgeTexts.{edge_line}
use Rattle.cli_orders.proofs.edges.push_row.Given as goal

-- the lines so far and those of the moves that are left make the whole row
abbrev pub invariant-loop-edge : goal.invariant-loop-edge
invariant-loop-edge l =
    l.text.items ++ flat_map (edge_line l.from) (drop l.edge-index l.row) ≡ l.initial.text.items ++ flat_map (edge_line l.from) l.row
