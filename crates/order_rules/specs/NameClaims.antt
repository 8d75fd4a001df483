-- The names of rules: each rule has a name of its own.
use Rattle.std.specs.Prelude.{◌≡◌, ℕ, List, Some}
use Rattle.order_rules.specs.declared.rule.Rule.{Rule}
use Rattle.order_rules.specs.Rules.{rule_name, rule_named}

-- a text names a rule only if it is the name of that rule
abbrev pub IsNamedOnce : Type 0
IsNamedOnce = (text : List ℕ) (rule : Rule) → rule_named text ≡ Some rule → rule_name rule ≡ text

-- each rule is named by its name
abbrev pub AreNamed : Type 0
AreNamed = (rule : Rule) → rule_named (rule_name rule) ≡ Some rule
