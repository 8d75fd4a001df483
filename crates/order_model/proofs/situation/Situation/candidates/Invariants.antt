use Rattle.std.proofs.Common.{◌≡◌, take}
use Rattle.theory_orders.specs.Wrong.{leading}
use Rattle.order_model.specs.RuleBars.{bar_without}
use Rattle.order_model.specs.Situations.{in_memory}
use Rattle.order_model.proofs.situation.Situation.candidates.Given as goal

-- those of the moves so far
abbrev pub invariant-loop-m : goal.invariant-loop-m
invariant-loop-m l = l.found.items ≡ leading (bar_without l.away l.layout (in_memory l.self l.mem)) l.may_issue (take l.m-index l.moves)
