use Rattle.std.proofs.Common.{◌≡◌, ◌++◌, drop}
use Rattle.cf_layout.specs.Layout.{place_of, computed_classes}
use Rattle.cf_layout.specs.Words.{members}
use Rattle.cf_layout.proofs.class_set.ClassSet.list.Given as goal

abbrev pub invariant-loop-class : goal.invariant-loop-class
invariant-loop-class l = l.list.items ++ members place_of (drop l.class-index computed_classes) l.self-inside.word
    ≡ members place_of computed_classes l.self-inside.word
