use Rattle.std.proofs.Common.{◌≡◌, ◌++◌, drop}
use Rattle.cli_orders.specs.OrderTexts.{script_text}
use Rattle.cli_orders.proofs.script.script_of.Given as goal

-- the lines so far and those of the moves that are left make the whole script
abbrev pub invariant-loop-m : goal.invariant-loop-m
invariant-loop-m l = l.text.items ++ script_text (drop l.m-index l.moves) ≡ script_text l.moves
