use Rattle.std.proofs.Common.{◌≡◌, ◌<◌, ◌^◌, take}
use Rattle.rv_inst.specs.declared.classes.Class.{Class}
use Rattle.cf_layout.specs.Layout.{place_of}
use Rattle.cf_layout.specs.Asked.{lists_class}
use Rattle.cf_layout.specs.Words.{has_bit}
use Rattle.cf_layout.proofs.class_set.ClassSet.of.Given as goal

abbrev pub invariant-loop-class : goal.invariant-loop-class
invariant-loop-class l = record {
  small : l.word < 2 ^ 9;
  bits : (c : Class) → place_of c < 9 → has_bit l.word (place_of c) ≡ lists_class (take l.class-index l.classes) c;
}
