use Rattle.std.proofs.Common.{◌≡◌, fold, map}
use Rattle.cf_index.specs.Places.{set_places}
use Rattle.cf_index.specs.Spread.{numbered}
use Rattle.cf_index.proofs.visiting.visit_word.Given as goal

-- after the moves that are left the visitor is what it is after all of them
abbrev pub invariant-loop-rest : goal.invariant-loop-rest
invariant-loop-rest g l =
    fold g.V.Visitor.after l.visitor (map (numbered l.kind) (set_places 64 l.rest))
    ≡ fold g.V.Visitor.after l.initial.visitor (map (numbered l.kind) (set_places 64 l.word))

abbrev pub decreases-loop-rest : goal.decreases-loop-rest
decreases-loop-rest g l = l.rest
