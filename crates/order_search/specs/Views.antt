-- The meaning of an edge in the code.
use Rattle.std.specs.Prelude.{ℕ, Option, MatchOption}
use Rattle.order_search.specs.declared.graph.Edge.{Edge}
use Rattle.order_search.specs.declared.reached.NumberedEdge.{NumberedEdge}
use Rattle.order_search.specs.Paths.{EdgeView}

-- the edge as a value
abbrev pub edge_view : {L F : Type 0} → Edge L F → EdgeView L
edge_view e = record { label = e.label; node = e.node.items }

-- the edge's label, with the number of the node that it leads to
abbrev pub number_edge : {L F : Type 0} → Edge L F × ℕ → NumberedEdge L
number_edge pair = record { label = pair.0.label; to = pair.1 }

-- the edge has the fault that it reports, and none if it reports none
abbrev pub IsJudged : {L F : Type 0} → (EdgeView L → F → Type 0) → Edge L F → Type 0
IsJudged {L} {F} wrong e = MatchOption e.fault ((fault : F) → wrong (edge_view e) fault → ⊥) (λ fault. wrong (edge_view e) fault)

-- the same for whatever has a fault of its own
abbrev pub TellsFault : {F : Type 0} → (F → Type 0) → Option F → Type 0
TellsFault {F} flawed found = MatchOption found ((fault : F) → flawed fault → ⊥) (λ fault. flawed fault)
