use Rattle.std.proofs.Common.{◌≡◌, [], take, drop}
use Rattle.std.specs.Prelude.{◌||◌}
use Rattle.cf_layout.specs.Asked.{is_unit, is_sided}
use Rattle.cf_layout.specs.Refusal.{first_repeated}
use Rattle.cf_layout.proofs.checking.first_repeated.Given as goal

-- no class before this one is repeated
abbrev pub invariant-loop-index : goal.invariant-loop-index
invariant-loop-index l = first_repeated (λ c. is_unit l.units c || is_sided l.before c) (take l.index l.classes) (drop l.index l.classes)
    ≡ first_repeated (λ c. is_unit l.units c || is_sided l.before c) [] l.classes
