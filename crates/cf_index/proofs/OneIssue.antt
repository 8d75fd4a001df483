-- If an Issue is allowed, a guess rule leaves exactly one, so that a move is left if there was one.
use Rattle.std.proofs.Common.{◌≡◌, ◌∙◌, refl, sym, ap, ℕ, suc, ◌+◌, ◌<◌, ℤ, pos, negsuc, List, [], ◌∷◌, length, Bool, true, false, arith}
use Rattle.std.specs.Prelude.{◌&&◌}
use Rattle.std.proofs.Math.Bool.{and-false}
use Rattle.std.proofs.lemmas.List.{length-append}
use Rattle.rv_inst.specs.declared.instruction.Instr.{Instr}
use Rattle.rv_inst.specs.declared.instruction.Instr.TheVariants.{Branch}
use Rattle.run_options.specs.declared.guess_rule.GuessRule.{GuessRule}
use Rattle.run_options.specs.declared.guess_rule.GuessRule.TheVariants as rules
use Rattle.cf_layout.specs.Layout.{Plan}
use Rattle.cf_bind.specs.declared.moves.Move.{Move}
use Rattle.cf_bind.specs.declared.moves.Move.TheVariants.{Issue}
use Rattle.cf_bind.specs.declared.packet.Fetch.{Fetch}
use Rattle.cf_bind.specs.declared.packet.Fetch.TheVariants.{Running, Waiting}
use Rattle.cf_bind.specs.declared.passenger.Guess.{Guess}
use Rattle.cf_bind.specs.declared.passenger.Guess.TheVariants.{Next, Taken, Wait, To}
use Rattle.cf_semantics.specs.moves.Bars.{running}
use Rattle.cf_semantics.specs.moves.Candidates.{candidates}
use Rattle.cf_semantics.specs.moves.Instructions.{Fetched, Got, Bad, fetched}
use Rattle.cf_semantics.specs.state.Layouts.{isa_of}
use Rattle.cf_semantics.specs.state.Options.{on}
use Rattle.cf_semantics.specs.state.State.{State}
use Rattle.cf_index.specs.Allowed.{allowed_issues, allowed_others, is_allowed, kept_issues, may_issue}
use Rattle.cf_index.specs.GuessRules.{guess_at, guess_back, guess_for, guess_of, guided, is_guess, keeps_move, keeps_guess}
use Rattle.cf_index.proofs.Firsts.{any_guided, candidates_parts, guided_parts}
use Rattle.cf_index.proofs.Guided.{allowed-issue, may_at, rule-may, three-flagged}

-- the guess of a rule is not an address
abbrev is_known : Guess → Bool
is_known (To t) = false
is_known g = true

back-known : (imm : ℤ) → is_known (guess_back imm) ≡ true
back-known (pos n) = refl
back-known (negsuc n) = refl

of-known : (r : GuessRule) (i : Instr) → is_known (guess_of r i) ≡ true
unfolding guess_of
of-known rules.Taken (Branch c a b imm) = refl
of-known rules.Taken i = refl
of-known rules.Backward (Branch c a b imm) = back-known imm
of-known rules.Backward i = refl
of-known rules.Wait (Branch c a b imm) = refl
of-known rules.Wait i = refl
of-known r i = refl

for-known : (r : GuessRule) (f : Fetched) → is_known (guess_for r f) ≡ true
for-known r (Got i) = of-known r i
for-known r (Bad e) = refl

at-known : (r : GuessRule) (plan : Plan) (s : State) → is_known (guess_at r plan s) ≡ true
unfolding guess_at
at-known r plan s = go s.fetch
  where
    go : (f : Fetch) → is_known (on (running f) Next (λ pc. guess_for r (fetched (isa_of plan) s.mem pc))) ≡ true
    go (Running pc) = for-known r (fetched (isa_of plan) s.mem pc)
    go Waiting = refl

-- a rule that does not keep every guess keeps only its own
keeps-own : (r : GuessRule) (plan : Plan) (s : State) (g : Guess) → (r ≡ rules.Any → ⊥) → keeps_guess r plan s g ≡ is_guess (guess_at r plan s) g
keeps-own rules.Any plan s g off = absurd (off refl)
keeps-own r plan s g off = refl

-- so if the next word may be issued, one Issue is left
both-hold : (a b : Bool) → a ≡ true → b ≡ true → true ≡ (a && b)
both-hold true true e f = refl
both-hold true false e f = absurd (cc)
both-hold false b e f = absurd (cc)

second-off : (a b : Bool) → b ≡ false → false ≡ (a && b)
second-off a true e = absurd (cc)
second-off a false e = sym (and-false a)

issue-own : (r : GuessRule) (plan : Plan) (s : State) (g : Guess) → (r ≡ rules.Any → ⊥) → guess_at r plan s ≡ g → is_allowed plan s (Issue Next) ≡ true →
    is_guess g g ≡ true → true ≡ may_issue r plan s g
issue-own r plan s g off own free same =
    let may : may_at plan s g ≡ true = ap (may_at plan s) (sym own) ∙ rule-may r plan s in
    let allowed : is_allowed plan s (Issue g) ≡ true = allowed-issue plan s g ∙ sym (both-hold (is_allowed plan s (Issue Next)) (may_at plan s g) free may) in
    let kept : keeps_guess r plan s g ≡ true = keeps-own r plan s g off ∙ ap (λ (h : Guess). is_guess h g) own ∙ same in
    both-hold (is_allowed plan s (Issue g)) (keeps_guess r plan s g) allowed kept

issue-other : (r : GuessRule) (plan : Plan) (s : State) (g h : Guess) → (r ≡ rules.Any → ⊥) → guess_at r plan s ≡ g → is_guess g h ≡ false →
    false ≡ may_issue r plan s h
issue-other r plan s g h off own other =
    second-off (is_allowed plan s (Issue h)) (keeps_guess r plan s h) (keeps-own r plan s h off ∙ ap (λ (k : Guess). is_guess k h) own ∙ other)

one-free : (r : GuessRule) (plan : Plan) (s : State) → (r ≡ rules.Any → ⊥) → is_allowed plan s (Issue Next) ≡ true →
    kept_issues r plan s ≡ Issue (guess_at r plan s) ∷ []
one-free r plan s off free = go (guess_at r plan s) refl
  where
    known : (t : ℕ) → guess_at r plan s ≡ To t → ⊥
    known t e = let k : false ≡ true = ap is_known (sym e) ∙ at-known r plan s in cc

    go : (g : Guess) → guess_at r plan s ≡ g → kept_issues r plan s ≡ Issue g ∷ []
    go Next e = sym (three-flagged (keeps_move r plan s) (is_allowed plan s) true false false (issue-own r plan s Next off e free refl)
        (issue-other r plan s Next Taken off e refl) (issue-other r plan s Next Wait off e refl))
    go Taken e = sym (three-flagged (keeps_move r plan s) (is_allowed plan s) false true false (issue-other r plan s Taken Next off e refl)
        (issue-own r plan s Taken off e free refl) (issue-other r plan s Taken Wait off e refl))
    go Wait e = sym (three-flagged (keeps_move r plan s) (is_allowed plan s) false false true (issue-other r plan s Wait Next off e refl)
        (issue-other r plan s Wait Taken off e refl) (issue-own r plan s Wait off e free refl))
    go (To t) e = absurd (known t e)

-- if the Issue by the next word is not allowed, none is
none-free : (plan : Plan) (s : State) → is_allowed plan s (Issue Next) ≡ false → allowed_issues plan s ≡ []
none-free plan s e =
    let t : is_allowed plan s (Issue Taken) ≡ false = allowed-issue plan s Taken ∙ ap (λ (b : Bool). b && may_at plan s Taken) e in
    let w : is_allowed plan s (Issue Wait) ≡ false = allowed-issue plan s Wait ∙ ap (λ (b : Bool). b && may_at plan s Wait) e in
    rw (e, t, w) refl

pub one-issue : (r : GuessRule) (plan : Plan) (s : State) → (r ≡ rules.Any → ⊥) → 0 < length (allowed_issues plan s) →
    kept_issues r plan s ≡ Issue (guess_at r plan s) ∷ []
one-issue r plan s off some = go (is_allowed plan s (Issue Next)) refl
  where
    go : (b : Bool) → is_allowed plan s (Issue Next) ≡ b → kept_issues r plan s ≡ Issue (guess_at r plan s) ∷ []
    go true e = one-free r plan s off e
    go false e = let none : length (allowed_issues plan s) ≡ 0 = ap length (none-free plan s e) in absurd (omega (arith, some, none))

-- a move is left if there is a candidate
pub some-left : (r : GuessRule) (plan : Plan) (s : State) → 0 < length (candidates plan s) → 0 < length (guided r plan s)
some-left rules.Any plan s some = rw (any_guided plan s) some
some-left r plan s some = go (allowed_issues plan s) refl
  where
    off : r ≡ rules.Any → ⊥
    off e = cc

    whole : length (allowed_issues plan s) + length (allowed_others plan s) ≡ length (candidates plan s)
    whole = sym (length-append (allowed_issues plan s) (allowed_others plan s)) ∙ ap length (sym (candidates_parts plan s))

    left : length (guided r plan s) ≡ length (kept_issues r plan s) + length (allowed_others plan s)
    left = ap length (guided_parts r plan s) ∙ length-append (kept_issues r plan s) (allowed_others plan s)

    go : (issues : List Move) → allowed_issues plan s ≡ issues → 0 < length (guided r plan s)
    go [] e = let none : length (allowed_issues plan s) ≡ 0 = ap length e in omega (arith, some, none, whole, left)
    go (m ∷ ms) e =
        let several : length (allowed_issues plan s) ≡ suc (length ms) = ap length e in
        let one : length (kept_issues r plan s) ≡ 1 = ap length (one-issue r plan s off (omega (arith, several))) in
        omega (arith, one, left)
