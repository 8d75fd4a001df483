-- The rules that can be taken away, one at a time, and their names. Most are one bar of one row of the table of moves;
-- four are a step of a meeting; and one is a rule of layouts, without which the table is unchanged.
use Rattle.std.specs.Prelude.{ℕ, List, [], ◌∷◌, codes, find, nat_eq, not, Bool, true, Option, Some, None}
use lib.Pointwise.{pointwise}
use Rattle.order_rules.specs.declared.rule.Rule.{Rule}
use Rattle.order_rules.specs.declared.rule.Rule.TheVariants.{IssueLaneFull, ClimbNotMet, ClimbOwes, ClimbNotDone, FallNotMet, ExecuteSourceMissing, ExecuteDead, LaunchDead, LaunchNotMet, LaunchSourceMissing, RecoverNotDone, LeaveNotMet, LeaveOwes, LeaveNotDone, ExitNotMet, ServeNotMet, MeetDie, MeetGarner, MeetKill, MeetUpdate, ControlAboveMemory}

-- the name of a rule: its move and its bar, or the step of the meeting
abbrev pub rule_name : Rule → List ℕ
rule_name IssueLaneFull = codes "issue:LaneFull"
rule_name ClimbNotMet = codes "climb:NotMet"
rule_name ClimbOwes = codes "climb:Owes"
rule_name ClimbNotDone = codes "climb:NotDone"
rule_name FallNotMet = codes "fall:NotMet"
rule_name ExecuteSourceMissing = codes "execute:SourceMissing"
rule_name ExecuteDead = codes "execute:Dead"
rule_name LaunchDead = codes "launch:Dead"
rule_name LaunchNotMet = codes "launch:NotMet"
rule_name LaunchSourceMissing = codes "launch:SourceMissing"
rule_name RecoverNotDone = codes "recover:NotDone"
rule_name LeaveNotMet = codes "leave:NotMet"
rule_name LeaveOwes = codes "leave:Owes"
rule_name LeaveNotDone = codes "leave:NotDone"
rule_name ExitNotMet = codes "exit:NotMet"
rule_name ServeNotMet = codes "serve:NotMet"
rule_name MeetDie = codes "meet:die"
rule_name MeetGarner = codes "meet:garner"
rule_name MeetKill = codes "meet:kill"
rule_name MeetUpdate = codes "meet:update"
rule_name ControlAboveMemory = codes "layout:ControlAboveMemory"

-- all rules
abbrev pub all_rules : List Rule
all_rules =
    IssueLaneFull ∷ ClimbNotMet ∷ ClimbOwes ∷ ClimbNotDone ∷ FallNotMet ∷ ExecuteSourceMissing ∷ ExecuteDead
    ∷ LaunchDead ∷ LaunchNotMet ∷ LaunchSourceMissing ∷ RecoverNotDone ∷ LeaveNotMet ∷ LeaveOwes ∷ LeaveNotDone
    ∷ ExitNotMet ∷ ServeNotMet ∷ MeetDie ∷ MeetGarner ∷ MeetKill ∷ MeetUpdate ∷ ControlAboveMemory ∷ []

-- the index of a rule among all
abbrev pub rule_number : Rule → ℕ
rule_number IssueLaneFull = 0
rule_number ClimbNotMet = 1
rule_number ClimbOwes = 2
rule_number ClimbNotDone = 3
rule_number FallNotMet = 4
rule_number ExecuteSourceMissing = 5
rule_number ExecuteDead = 6
rule_number LaunchDead = 7
rule_number LaunchNotMet = 8
rule_number LaunchSourceMissing = 9
rule_number RecoverNotDone = 10
rule_number LeaveNotMet = 11
rule_number LeaveOwes = 12
rule_number LeaveNotDone = 13
rule_number ExitNotMet = 14
rule_number ServeNotMet = 15
rule_number MeetDie = 16
rule_number MeetGarner = 17
rule_number MeetKill = 18
rule_number MeetUpdate = 19
rule_number ControlAboveMemory = 20

-- the text is the name of the rule
abbrev pub is_rule_name : List ℕ → Rule → Bool
is_rule_name text rule = pointwise nat_eq text (rule_name rule)

-- the rule of this name
unfoldable pub rule_named : List ℕ → Option Rule
rule_named text = find (is_rule_name text) all_rules

-- the rule holds: it is not the one that is taken away
unfoldable pub rule_holds : Option Rule → Rule → Bool
rule_holds None rule = true
rule_holds (Some away) rule = not (nat_eq (rule_number away) (rule_number rule))
