-- How taking a rule away affects the bars: each bar is the table's, or the table's bar is that of a rule taken away.
use Rattle.std.proofs.Common.{◌≡◌, ℕ, ◌+◌, Bool, true, false, Option, Some, None, refl, sym, ap, arith, ◌⊎◌, inl, inr, ◌∙◌, length}
use Rattle.std.specs.Prelude.{nat_eq, nat_lt, not, ◌&&◌, if◌then◌else◌, max, ◌*◌, ◌-◌, ◌||◌, slice_get}
use Rattle.std.proofs.lemmas.Bool.Decides.{nat_tests}
use Rattle.cf_layout.specs.Layout.{Plan, siding_of, unit_at}
use Rattle.cf_bind.specs.declared.passenger.Passenger.{Passenger}
use Rattle.cf_bind.specs.declared.passenger.Guess.{Guess}
use Rattle.cf_bind.specs.declared.moves.Move.{Move}
use Rattle.cf_bind.specs.declared.moves.Move.TheVariants.{Issue, Emit, Climb, Fall, Meet, Execute, Send, Launch, Slide, Access, Recover, Leave, Exit, Serve}
use Rattle.cf_bind.specs.declared.moves.Bar.{Bar}
use Rattle.cf_bind.specs.declared.moves.Bar.TheVariants.{Halted, Failed, NoPacket, Occupied, NotMet, NoUnit, NotDone, Owes, LaneFull, BadGuess, Dead, AlreadyDone, SourceMissing}
use Rattle.cf_semantics.specs.state.Options.{on, is_some}
use Rattle.cf_semantics.specs.state.State.{State, cell_at, siding_at}
use Rattle.cf_semantics.specs.state.Passengers.{kind, missing, requests, fresh}
use Rattle.cf_semantics.specs.state.Layouts.{isa_of, launches, recovers}
use Rattle.cf_semantics.specs.moves.Instructions.{is_memory, is_serial, fetched}
use Rattle.cf_semantics.specs.moves.Bars.{first, bar, row_bar, is_full, stops_at, may_guess, source_bar, entry_bar, last_op, running}
use Rattle.order_rules.specs.declared.rule.Rule.{Rule}
use Rattle.order_rules.specs.declared.rule.Rule.TheVariants.{IssueLaneFull, ClimbNotMet, ClimbOwes, ClimbNotDone, FallNotMet, ExecuteSourceMissing, ExecuteDead, LaunchDead, LaunchNotMet, LaunchSourceMissing, RecoverNotDone, LeaveNotMet, LeaveOwes, LeaveNotDone, ExitNotMet, ServeNotMet, MeetDie, MeetGarner, MeetKill, MeetUpdate, ControlAboveMemory}
use Rattle.order_rules.specs.Rules.{rule_holds, all_rules, rule_number}
use Rattle.order_model.specs.RuleBars.{lane_room, source_bar_under, row_bar_without, bar_without, rule_of_bar}
use Rattle.order_model.specs.RuleClaims.{BarsNoMore, IsBarredByTheRule}

-- the table's bar is that of a rule taken away
record IsGone (away : Option Rule) (mv : Move) (x : Option Bar) : Type 0 where
  why : Bar
  rule : Rule
  is : x ≡ Some why
  of : rule_of_bar mv why ≡ Some rule
  gone : rule_holds away rule ≡ false

-- a bar of the table and of the table without a rule
abbrev Follows : Option Rule → Move → Option Bar → Option Bar → Type 0
Follows away mv x y = (y ≡ x) ⊎ IsGone away mv x

-- a test that no rule changes
plain : (away : Option Rule) (mv : Move) (test : Bool) (b : Bar) (x y : Option Bar) → Follows away mv x y → Follows away mv (first test b x) (first test b y)
plain away mv true b x y f = inl refl
plain away mv false b x y f = f

-- a test of a rule
ruled : (away : Option Rule) (mv : Move) (rule : Rule) (keeps : Bool) (test : Bool) (b : Bar) (x y : Option Bar) →
    keeps ≡ rule_holds away rule → rule_of_bar mv b ≡ Some rule → Follows away mv x y → Follows away mv (first test b x) (first (keeps && test) b y)
ruled away mv rule true true b x y e r f = inl refl
ruled away mv rule false true b x y e r f = inr (record { why = b; rule = rule; is = refl; of = r; gone = sym e })
ruled away mv rule true false b x y e r f = f
ruled away mv rule false false b x y e r f = f

-- a bar that depends on a value
given : {A : Type 0} (away : Option Rule) (mv : Move) (o : Option A) (d : Option Bar) (f g : A → Option Bar) →
    ((a : A) → Follows away mv (f a) (g a)) → Follows away mv (on o d f) (on o d g)
given away mv None d f g h = inl refl
given away mv (Some a) d f g h = h a

same : (away : Option Rule) (mv : Move) (x : Option Bar) → Follows away mv x x
same away mv x = inl refl

-- the bar of a source without a value
sourced : (away : Option Rule) (mv : Move) (rule : Rule) (keeps : Bool) (p : Passenger) (x y : Option Bar) →
    keeps ≡ rule_holds away rule → ((r : ℕ) → rule_of_bar mv (SourceMissing r) ≡ Some rule) →
    Follows away mv x y → Follows away mv (source_bar p x) (source_bar_under keeps p y)
sourced away mv rule keeps p x y e r f = go keeps e (missing p.src1) (missing p.src2) where
  go : (keeps : Bool) → keeps ≡ rule_holds away rule → (a b : Option ℕ) →
      Follows away mv (on a (on b x (λ r. Some (SourceMissing r))) (λ r. Some (SourceMissing r)))
      (if keeps then on a (on b y (λ r. Some (SourceMissing r))) (λ r. Some (SourceMissing r)) else y)
  go true e None None = f
  go true e None (Some s) = inl refl
  go true e (Some s) b = inl refl
  go false e None None = f
  go false e None (Some s) = inr (record { why = SourceMissing s; rule = rule; is = refl; of = r s; gone = sym e })
  go false e (Some s) b = inr (record { why = SourceMissing s; rule = rule; is = refl; of = r s; gone = sym e })

-- the lane of the table has no more room than the one without the rule
roomed : (away : Option Rule) (plan : Plan) (g : Guess) (n : ℕ) → Follows away (Issue g)
    (first (nat_lt plan.lane n) LaneFull None) (first (nat_lt (lane_room away plan) n) LaneFull None)
roomed away plan g n = go (rule_holds away IssueLaneFull) refl (nat_lt plan.lane n) refl (nat_lt (max plan.lane (2 * plan.stages)) n) refl where
  go : (keeps : Bool) → keeps ≡ rule_holds away IssueLaneFull → (a : Bool) → a ≡ nat_lt plan.lane n → (b : Bool) →
      b ≡ nat_lt (max plan.lane (2 * plan.stages)) n →
      Follows away (Issue g) (first (nat_lt plan.lane n) LaneFull None)
      (first (nat_lt (if keeps then plan.lane else max plan.lane (2 * plan.stages)) n) LaneFull None)
  go true e a h b k = inl refl
  go false e true h true k = rw (sym h) (rw (sym k) (inl refl))
  go false e true h false k = rw (sym h) (inr (record { why = LaneFull; rule = IssueLaneFull; is = refl; of = refl; gone = sym e }))
  go false e false h true k = absurd (grind (arith, nat_tests))
  go false e false h false k = rw (sym h) (rw (sym k) (inl refl))

row_follows : (away : Option Rule) (plan : Plan) (s : State) (mv : Move) → Follows away mv (row_bar plan s mv) (row_bar_without away plan s mv)
row_follows away plan s (Issue g) = given away (Issue g) (cell_at s.cells 1) _ _ _ (λ c. given away (Issue g) (running s.fetch) _ _ _ (λ pc.
    let p = fresh s.cache (fetched (isa_of plan) s.mem pc) pc g in
    plain away (Issue g) (is_some c.passenger) Occupied _ _ (plain away (Issue g) (not (may_guess g p)) BadGuess _ _
    (roomed away plan g (length s.lane + length (requests p))))))
row_follows away plan s Emit = inl refl
row_follows away plan s (Climb i) = given away (Climb i) (cell_at s.cells i) _ _ _ (λ c. given away (Climb i) (cell_at s.cells (i + 1)) _ _ _ (λ d.
    given away (Climb i) c.passenger _ _ _ (λ p.
    ruled away (Climb i) ClimbNotMet _ (is_full c) NotMet _ _ refl refl (ruled away (Climb i) ClimbOwes _ (is_some p.owes) Owes _ _ refl refl
    (ruled away (Climb i) ClimbNotDone _ (stops_at plan p i) NotDone _ _ refl refl (inl refl))))))
row_follows away plan s (Fall i) = given away (Fall i) (cell_at s.cells i) _ _ _ (λ c. given away (Fall i) (cell_at s.cells (i - 1)) _ _ _ (λ d.
    plain away (Fall i) (not (is_some c.packet)) NoPacket _ _ (ruled away (Fall i) FallNotMet _ (is_full c) NotMet _ _ refl refl (inl refl))))
row_follows away plan s (Meet i) = inl refl
row_follows away plan s (Execute i) = given away (Execute i) (cell_at s.cells i) _ _ _ (λ c. given away (Execute i) c.passenger _ _ _ (λ p.
    ruled away (Execute i) ExecuteDead _ p.dead Dead _ _ refl refl (plain away (Execute i) p.done AlreadyDone _ _
    (plain away (Execute i) (not (unit_at plan (kind p) i)) NoUnit _ _
    (sourced away (Execute i) ExecuteSourceMissing _ p None None refl (λ r. refl) (inl refl))))))
row_follows away plan s (Send i) = inl refl
row_follows away plan s (Launch i) = given away (Launch i) (cell_at s.cells i) _ _ _ (λ c. given away (Launch i) c.passenger _ _ _ (λ p.
    ruled away (Launch i) LaunchDead _ p.dead Dead _ _ refl refl (plain away (Launch i) (p.done || p.launched) AlreadyDone _ _
    (plain away (Launch i) (not (launches plan (kind p) i)) NoUnit _ _
    (ruled away (Launch i) LaunchNotMet _ (is_memory (kind p) && is_full c) NotMet _ _ refl refl
    (sourced away (Launch i) LaunchSourceMissing _ p (entry_bar plan s p) (entry_bar plan s p) refl (λ r. refl) (inl refl)))))))
row_follows away plan s (Slide k c) = inl refl
row_follows away plan s Access = inl refl
row_follows away plan s (Recover i) = given away (Recover i) (cell_at s.cells i) _ _ _ (λ c. given away (Recover i) c.passenger _ _ _ (λ p.
    plain away (Recover i) (not (recovers plan (kind p) i)) NoUnit _ _ (plain away (Recover i) (not p.launched || p.recovered) AlreadyDone _ _
    (given away (Recover i) (siding_of plan (kind p)) _ _ _ (λ k. given away (Recover i) (last_op (siding_at s k)) _ _ _ (λ op.
    ruled away (Recover i) RecoverNotDone _ (is_memory (kind p) && not (is_some op.answer)) NotDone _ _ refl refl (inl refl)))))))
row_follows away plan s Leave = given away Leave (cell_at s.cells plan.stages) _ _ _ (λ c. given away Leave c.passenger _ _ _ (λ p.
    ruled away Leave LeaveNotMet _ (is_full c) NotMet _ _ refl refl (ruled away Leave LeaveOwes _ (is_some p.owes) Owes _ _ refl refl
    (ruled away Leave LeaveNotDone _ ((not p.dead && not p.done) || (p.launched && not p.recovered)) NotDone _ _ refl refl (inl refl)))))
row_follows away plan s Exit = given away Exit (cell_at s.cells 1) _ _ _ (λ c.
    plain away Exit (not (is_some c.packet)) NoPacket _ _ (ruled away Exit ExitNotMet _ (is_full c) NotMet _ _ refl refl (inl refl)))
row_follows away plan s Serve = given away Serve (cell_at s.cells plan.stages) _ _ _ (λ c. given away Serve c.passenger _ _ _ (λ p.
    plain away Serve p.dead Dead _ _ (plain away Serve p.done AlreadyDone _ _ (plain away Serve (not (is_serial (kind p))) NoUnit _ _
    (ruled away Serve ServeNotMet _ (is_full c) NotMet _ _ refl refl (inl refl))))))

bar_follows : (away : Option Rule) (plan : Plan) (s : State) (mv : Move) → Follows away mv (bar plan s mv) (bar_without away plan s mv)
unfolding bar bar_without
bar_follows away plan s mv = plain away mv (is_some s.ending) Halted _ _ (plain away mv s.failed Failed _ _ (row_follows away plan s mv))

not_both : (x : Option Bar) (b : Bar) → x ≡ Some b → x ≡ None → ⊥
not_both x b e n = cc

pub bars_no_more : BarsNoMore
bars_no_more away plan s mv e = go (bar_follows away plan s mv) where
  go : Follows away mv (bar plan s mv) (bar_without away plan s mv) → bar_without away plan s mv ≡ None
  go (inl f) = f ∙ e
  go (inr f) = absurd (not_both (bar plan s mv) f.why f.is e)

-- a number is that of one rule
rule_at : (r : Rule) → slice_get all_rules (rule_number r) ≡ Some r
rule_at IssueLaneFull = refl
rule_at ClimbNotMet = refl
rule_at ClimbOwes = refl
rule_at ClimbNotDone = refl
rule_at FallNotMet = refl
rule_at ExecuteSourceMissing = refl
rule_at ExecuteDead = refl
rule_at LaunchDead = refl
rule_at LaunchNotMet = refl
rule_at LaunchSourceMissing = refl
rule_at RecoverNotDone = refl
rule_at LeaveNotMet = refl
rule_at LeaveOwes = refl
rule_at LeaveNotDone = refl
rule_at ExitNotMet = refl
rule_at ServeNotMet = refl
rule_at MeetDie = refl
rule_at MeetGarner = refl
rule_at MeetKill = refl
rule_at MeetUpdate = refl
rule_at ControlAboveMemory = refl

same_number : (rule away : Rule) → rule_number away ≡ rule_number rule → Some away ≡ Some rule
same_number rule away e = sym (rule_at away) ∙ (ap (slice_get all_rules) e ∙ rule_at rule)

same_test : (m n : ℕ) → not (nat_eq m n) ≡ false → m ≡ n
same_test m n e = grind (arith, nat_tests)

-- only the rule that is taken away is gone
it_is_gone : (rule away : Rule) → rule_holds (Some away) rule ≡ false → Some rule ≡ Some away
unfolding rule_holds
it_is_gone rule away e = sym (same_number rule away (same_test (rule_number away) (rule_number rule) e))

one_value : {A : Type 0} (x : Option A) (a b : A) → x ≡ Some a → x ≡ Some b → a ≡ b
one_value x a b e f = cc

pub barred_by_it : IsBarredByTheRule
barred_by_it rule plan s mv b e n = go (bar_follows (Some rule) plan s mv) where
  go : Follows (Some rule) mv (bar plan s mv) (bar_without (Some rule) plan s mv) → rule_of_bar mv b ≡ Some rule
  go (inl f) = absurd (not_both (bar plan s mv) b e (sym f ∙ n))
  go (inr f) = ap (rule_of_bar mv) (one_value (bar plan s mv) b f.why e f.is) ∙ (f.of ∙ it_is_gone f.rule rule f.gone)

pub ruleset lifting = (bars_no_more, barred_by_it)
