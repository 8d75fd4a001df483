-- A rule and its name.
use Rattle.std.proofs.Common.{◌≡◌, List, Bool, true, Some, find, refl, sym, subst, ◌∙◌}
use Rattle.std.specs.Cmp.Lexicographic.{same_text}
use Rattle.std.specs.Prelude.{slice_get}
use Rattle.std.specs.List.{position_or_len}
use Rattle.std.proofs.lemmas.List.Folds.{find_at}
use Rattle.std.proofs.lemmas.List.Sums.{passes_at_first}
use Rattle.std.proofs.lemmas.Option.{slice_get_within, get_or_from_slice_get}
use Rattle.order_rules.specs.declared.rule.Rule.TheVariants.{IssueLaneFull, ClimbNotMet, ClimbOwes, ClimbNotDone, FallNotMet, ExecuteSourceMissing, ExecuteDead, LaunchDead, LaunchNotMet, LaunchSourceMissing, RecoverNotDone, LeaveNotMet, LeaveOwes, LeaveNotDone, ExitNotMet, ServeNotMet, MeetDie, MeetGarner, MeetKill, MeetUpdate, ControlAboveMemory}
use Rattle.order_rules.specs.NameClaims.{AreNamed, IsNamedOnce}
use Rattle.order_rules.specs.Rules.{rule_name, is_rule_name, all_rules, rule_named}

-- what is found in a list passes the test
found-passes : {A : Type 0} (p : A → Bool) (xs : List A) (x : A) → find p xs ≡ Some x → p x ≡ true
found-passes p xs x found =
    let at : slice_get xs (position_or_len p xs) ≡ Some x = sym (find_at p xs) ∙ found in
    subst (λ y. p y ≡ true) (get_or_from_slice_get xs (position_or_len p xs) x x at)
    (passes_at_first p xs x (slice_get_within xs (position_or_len p xs) x at))

pub named_once : IsNamedOnce
unfolding rule_named
named_once text rule e = sym (same_text text (rule_name rule) (sym (found-passes (is_rule_name text) all_rules rule e)))

pub named : AreNamed
unfolding rule_named
named IssueLaneFull = refl
named ClimbNotMet = refl
named ClimbOwes = refl
named ClimbNotDone = refl
named FallNotMet = refl
named ExecuteSourceMissing = refl
named ExecuteDead = refl
named LaunchDead = refl
named LaunchNotMet = refl
named LaunchSourceMissing = refl
named RecoverNotDone = refl
named LeaveNotMet = refl
named LeaveOwes = refl
named LeaveNotDone = refl
named ExitNotMet = refl
named ServeNotMet = refl
named MeetDie = refl
named MeetGarner = refl
named MeetKill = refl
named MeetUpdate = refl
named ControlAboveMemory = refl

pub ruleset naming = (named, named_once)
