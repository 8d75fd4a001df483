-- What a guess rule leaves of the candidates: each move other than an Issue, and, if an Issue is allowed, the one by
-- the rule's guess.
use Rattle.std.proofs.Common.{◌≡◌, ◌∙◌, refl, sym, ap, ℕ, ◌+◌, ℤ, pos, negsuc, List, [], ◌∷◌, ◌++◌, length, Option, Some, None, Bool, true, false, cond, nat_lt}
use Rattle.std.specs.Prelude.{◌&&◌, not, filter, find, slice_get}
use Rattle.std.proofs.Math.Bool.{and-true, and-false}
use Rattle.rv_inst.specs.declared.classes.Class.{Class}
use Rattle.rv_inst.specs.declared.classes.Class.TheVariants.{Free}
use Rattle.rv_inst.specs.declared.instruction.Cond.{Cond}
use Rattle.rv_inst.specs.declared.instruction.Instr.{Instr}
use Rattle.rv_inst.specs.declared.instruction.Instr.TheVariants.{Branch, Jal, Jalr, Ebreak}
use Rattle.run_options.specs.declared.guess_rule.GuessRule.{GuessRule}
use Rattle.run_options.specs.declared.guess_rule.GuessRule.TheVariants as rules
use Rattle.cf_layout.specs.Accepted.{is_control}
use Rattle.cf_layout.specs.Layout.{Plan}
use Rattle.cf_bind.specs.declared.cell.Cell.{Cell}
use Rattle.cf_bind.specs.declared.moves.Bar.{Bar}
use Rattle.cf_bind.specs.declared.moves.Bar.TheVariants.{Occupied, BadGuess, LaneFull, NoSuchSite, Halted, Failed}
use Rattle.cf_bind.specs.declared.moves.Move.{Move}
use Rattle.cf_bind.specs.declared.moves.Move.TheVariants.{Issue, Emit}
use Rattle.cf_bind.specs.declared.packet.Fetch.{Fetch}
use Rattle.cf_bind.specs.declared.packet.Fetch.TheVariants.{Running, Waiting}
use Rattle.cf_bind.specs.declared.passenger.End.{End}
use Rattle.cf_bind.specs.declared.passenger.Guess.{Guess}
use Rattle.cf_bind.specs.declared.passenger.Guess.TheVariants.{Next, Taken, Wait, To}
use Rattle.cf_bind.specs.declared.passenger.Passenger.{Passenger}
use Rattle.cf_semantics.specs.claims.Weight.{is_issue}
use Rattle.cf_semantics.specs.moves.Bars.{bar, first, issue_bar, may_guess, running}
use Rattle.cf_semantics.specs.moves.Candidates.{other_moves}
use Rattle.cf_semantics.specs.moves.Instructions.{Fetched, Got, Bad, fetched, free_trap, is_indirect, kind_of}
use Rattle.cf_semantics.specs.state.Layouts.{isa_of}
use Rattle.cf_semantics.specs.state.Options.{on, is_some}
use Rattle.cf_semantics.specs.state.Passengers.{fresh, fresh_as, fresh_end, fresh_fence, requests}
use Rattle.cf_semantics.specs.state.State.{State, cell_at}
use Rattle.cf_index.specs.Allowed.{all_entering, is_allowed, kept_issues, may_issue}
use Rattle.cf_index.specs.GuessRules.{guess_at, guess_back, guess_for, guess_of, is_guess, keeps_move, keeps_guess}
use Rattle.cf_index.specs.Listed.{flagged}

-- the instruction that was fetched, if any
abbrev what_of : Fetched → Option Instr
what_of (Got i) = Some i
what_of (Bad e) = None

-- whether the guess may be made for it
abbrev may_what : Guess → Option Instr → Bool
may_what Next what = true
may_what Wait what = is_control (on what Free kind_of)
may_what Taken what = is_control (on what Free kind_of) && not (is_indirect (on what Ebreak (λ i. i)))
may_what (To t) what = is_control (on what Free kind_of) && is_indirect (on what Ebreak (λ i. i))

may-what : (g : Guess) (p : Passenger) → may_guess g p ≡ may_what g p.what
may-what Next p = refl
may-what Taken p = refl
may-what Wait p = refl
may-what (To t) p = refl

-- whether it may be made for what is at the address of fetch
abbrev pub may_at : Plan → State → Guess → Bool
may_at plan s g = on (running s.fetch) true (λ pc. may_what g (what_of (fetched (isa_of plan) s.mem pc)))

-- a new instruction is the one that was fetched, and requests the same registers by each guess
ended-what : (o : Option End) (i : Instr) (pc : ℕ) (g : Guess) → (on o (fresh_fence i pc g) (fresh_end (Some i) pc g)).what ≡ Some i
ended-what None i pc g = refl
ended-what (Some e) i pc g = refl

class-what : (c : Class) (cache : List (Option ℕ)) (i : Instr) (pc : ℕ) (g : Guess) → (fresh_as c cache i pc g).what ≡ Some i
class-what Free cache i pc g = ended-what (free_trap i pc) i pc g
class-what c cache i pc g = refl

fresh-what : (cache : List (Option ℕ)) (f : Fetched) (pc : ℕ) (g : Guess) → (fresh cache f pc g).what ≡ what_of f
unfolding fresh
fresh-what cache (Bad e) pc g = refl
fresh-what cache (Got i) pc g = class-what (kind_of i) cache i pc g

ended-requests : (o : Option End) (i : Instr) (pc : ℕ) (g : Guess) → requests (on o (fresh_fence i pc g) (fresh_end (Some i) pc g))
    ≡ requests (on o (fresh_fence i pc Next) (fresh_end (Some i) pc Next))
ended-requests None i pc g = refl
ended-requests (Some e) i pc g = refl

class-requests : (c : Class) (cache : List (Option ℕ)) (i : Instr) (pc : ℕ) (g : Guess) → requests (fresh_as c cache i pc g)
    ≡ requests (fresh_as c cache i pc Next)
class-requests Free cache i pc g = ended-requests (free_trap i pc) i pc g
class-requests c cache i pc g = refl

fresh-requests : (cache : List (Option ℕ)) (f : Fetched) (pc : ℕ) (g : Guess) → requests (fresh cache f pc g) ≡ requests (fresh cache f pc Next)
unfolding fresh
fresh-requests cache (Bad e) pc g = refl
fresh-requests cache (Got i) pc g = class-requests (kind_of i) cache i pc g

-- the row of Issue: if an Issue by the next word is not barred, BadGuess is the only bar of another guess
row-as : (there may full : Bool) → not (is_some (first there Occupied (first (not may) BadGuess (first full LaneFull None))))
    ≡ (not (is_some (first there Occupied (first (not true) BadGuess (first full LaneFull None)))) && may)
row-as true may full = refl
row-as false true true = refl
row-as false true false = refl
row-as false false true = refl
row-as false false false = refl

row-at : (plan : Plan) (s : State) (g : Guess) (c : Cell) (pc : ℕ) (f : Fetched) →
    not (is_some (first (is_some c.passenger) Occupied (first (not (may_guess g (fresh s.cache f pc g))) BadGuess
    (first (nat_lt plan.lane (length s.lane + length (requests (fresh s.cache f pc g)))) LaneFull None))))
    ≡ (not (is_some (first (is_some c.passenger) Occupied (first (not true) BadGuess
    (first (nat_lt plan.lane (length s.lane + length (requests (fresh s.cache f pc Next)))) LaneFull None)))) && may_what g (what_of f))
row-at plan s g c pc f =
    let may : may_guess g (fresh s.cache f pc g) ≡ may_what g (what_of f) = may-what g (fresh s.cache f pc g) ∙ ap (may_what g) (fresh-what s.cache f pc g) in
    rw (may, fresh-requests s.cache f pc g) (row-as (is_some c.passenger) (may_what g (what_of f)) _)

issue-row : (plan : Plan) (s : State) (g : Guess) (c : Cell) → not (is_some (issue_bar plan s g c)) ≡
    (not (is_some (issue_bar plan s Next c)) && may_at plan s g)
issue-row plan s g c = go s.fetch refl
  where
    go : (f : Fetch) → s.fetch ≡ f → not (is_some (issue_bar plan s g c)) ≡ (not (is_some (issue_bar plan s Next c)) && may_at plan s g)
    go (Running pc) e = rw e (row-at plan s g c pc (fetched (isa_of plan) s.mem pc))
    go Waiting e = rw e refl

-- so an Issue is allowed if and only if the one by the next word is and its guess may be made
pub allowed-issue : (plan : Plan) (s : State) (g : Guess) → is_allowed plan s (Issue g) ≡ (is_allowed plan s (Issue Next) && may_at plan s g)
unfolding bar
allowed-issue plan s g = by (is_some s.ending) s.failed (on (cell_at s.cells 1) (Some NoSuchSite) (issue_bar plan s g))
    (on (cell_at s.cells 1) (Some NoSuchSite) (issue_bar plan s Next)) (rest (cell_at s.cells 1))
  where
    rest : (o : Option Cell) → not (is_some (on o (Some NoSuchSite) (issue_bar plan s g)))
        ≡ (not (is_some (on o (Some NoSuchSite) (issue_bar plan s Next))) && may_at plan s g)
    rest None = refl
    rest (Some c) = issue-row plan s g c

    by : (ended failed : Bool) (x y : Option Bar) → not (is_some x) ≡ (not (is_some y) && may_at plan s g) →
        not (is_some (first ended Halted (first failed Failed x))) ≡ (not (is_some (first ended Halted (first failed Failed y))) && may_at plan s g)
    by true failed x y e = refl
    by false true x y e = refl
    by false false x y e = e

-- the guess of a rule may be made
back-may : (c : Cond) (a b : ℕ) (imm : ℤ) → may_what (guess_back imm) (Some (Branch c a b imm)) ≡ true
unfolding kind_of is_indirect
back-may c a b (pos n) = refl
back-may c a b (negsuc n) = refl

of-may : (r : GuessRule) (i : Instr) → may_what (guess_of r i) (Some i) ≡ true
unfolding guess_of kind_of is_indirect
of-may rules.Taken (Jal rd imm) = refl
of-may rules.Taken i = refl
of-may rules.Backward (Branch c a b imm) = back-may c a b imm
of-may rules.Backward i = refl
of-may rules.Wait (Jal rd imm) = refl
of-may rules.Wait i = refl
of-may r i = refl

for-may : (r : GuessRule) (f : Fetched) → may_what (guess_for r f) (what_of f) ≡ true
for-may r (Got i) = of-may r i
for-may r (Bad e) = refl

pub rule-may : (r : GuessRule) (plan : Plan) (s : State) → may_at plan s (guess_at r plan s) ≡ true
unfolding guess_at
rule-may r plan s = go s.fetch refl
  where
    go : (f : Fetch) → s.fetch ≡ f → may_at plan s (on (running s.fetch) Next (λ pc. guess_for r (fetched (isa_of plan) s.mem pc))) ≡ true
    go (Running pc) e = rw e (for-may r (fetched (isa_of plan) s.mem pc))
    go Waiting e = rw e refl

-- for all but branches and jumps it is the next word
of-next : (r : GuessRule) (i : Instr) → may_what Wait (Some i) ≡ false → guess_of r i ≡ Next
unfolding guess_of kind_of
of-next rules.Taken (Branch c a b imm) e = absurd (cc)
of-next rules.Taken (Jal rd imm) e = absurd (cc)
of-next rules.Taken (Jalr rd rs1 imm) e = absurd (cc)
of-next rules.Taken i e = refl
of-next rules.Backward (Branch c a b imm) e = absurd (cc)
of-next rules.Backward (Jal rd imm) e = absurd (cc)
of-next rules.Backward (Jalr rd rs1 imm) e = absurd (cc)
of-next rules.Backward i e = refl
of-next rules.Wait (Branch c a b imm) e = absurd (cc)
of-next rules.Wait (Jal rd imm) e = absurd (cc)
of-next rules.Wait (Jalr rd rs1 imm) e = absurd (cc)
of-next rules.Wait i e = refl
of-next r i e = refl

for-next : (r : GuessRule) (f : Fetched) → may_what Wait (what_of f) ≡ false → guess_for r f ≡ Next
for-next r (Got i) e = of-next r i e
for-next r (Bad end) e = refl

at-next : (r : GuessRule) (plan : Plan) (s : State) → may_at plan s Wait ≡ false → guess_at r plan s ≡ Next
unfolding guess_at
at-next r plan s = go s.fetch refl
  where
    go : (f : Fetch) → s.fetch ≡ f → may_at plan s Wait ≡ false → on (running s.fetch) Next (λ pc. guess_for r (fetched (isa_of plan) s.mem pc)) ≡ Next
    go (Running pc) e h = rw e (for-next r (fetched (isa_of plan) s.mem pc) (rw e at h))
    go Waiting e h = rw e refl

keeps-next : (r : GuessRule) (plan : Plan) (s : State) → guess_at r plan s ≡ Next → keeps_guess r plan s Next ≡ true
keeps-next rules.Any plan s e = refl
keeps-next r plan s e = rw e refl

-- if no Issue with the guess to wait is allowed, the rule keeps each Issue that is allowed
not-waiting : (plan : Plan) (s : State) (g : Guess) → may_at plan s Wait ≡ false → (g ≡ Next → ⊥) → may_at plan s g ≡ false
not-waiting plan s g = go s.fetch refl
  where
    what-of-no : (g : Guess) (what : Option Instr) → may_what Wait what ≡ false → (g ≡ Next → ⊥) → may_what g what ≡ false
    what-of-no Next what w off = absurd (off refl)
    what-of-no Taken what w off = rw w refl
    what-of-no Wait what w off = w
    what-of-no (To t) what w off = rw w refl

    go : (f : Fetch) → s.fetch ≡ f → may_at plan s Wait ≡ false → (g ≡ Next → ⊥) → may_at plan s g ≡ false
    go (Running pc) e w off = rw e (what-of-no g (what_of (fetched (isa_of plan) s.mem pc)) (rw e at w) off)
    go Waiting e w off = absurd (let f : true ≡ false = rw e at w in cc)

both-keep : (a b : Bool) → b ≡ true → a ≡ (a && b)
both-keep a b e = sym (ap (λ (c : Bool). a && c) e ∙ and-true a)

none-keeps : (a b : Bool) → a ≡ false → a ≡ (a && b)
none-keeps true b e = absurd (cc)
none-keeps false b e = refl

kept-guess : (r : GuessRule) (plan : Plan) (s : State) (g : Guess) → is_allowed plan s (Issue Wait) ≡ false →
    is_allowed plan s (Issue g) ≡ (is_allowed plan s (Issue g) && keeps_guess r plan s g)
kept-guess r plan s g none = go (is_allowed plan s (Issue Next)) refl g
  where
    no-issue : (g : Guess) → is_allowed plan s (Issue g) ≡ false → is_allowed plan s (Issue g) ≡ (is_allowed plan s (Issue g) && keeps_guess r plan s g)
    no-issue g e = none-keeps (is_allowed plan s (Issue g)) (keeps_guess r plan s g) e

    no-wait : is_allowed plan s (Issue Next) ≡ true → may_at plan s Wait ≡ false
    no-wait e =
        sym (ap (λ (b : Bool). b && may_at plan s Wait) e) ∙ (sym (allowed-issue plan s Wait) ∙ none)

    no-other : (g : Guess) → is_allowed plan s (Issue Next) ≡ true → (g ≡ Next → ⊥) → is_allowed plan s (Issue g) ≡ false
    no-other g e off = allowed-issue plan s g ∙ ap (λ (b : Bool). is_allowed plan s (Issue Next) && b) (not-waiting plan s g (no-wait e) off)
        ∙ and-false (is_allowed plan s (Issue Next))

    go : (b : Bool) → is_allowed plan s (Issue Next) ≡ b → (g : Guess) → is_allowed plan s (Issue g) ≡ (is_allowed plan s (Issue g) && keeps_guess r plan s g)
    go false e g = no-issue g (allowed-issue plan s g ∙ ap (λ (b : Bool). b && may_at plan s g) e)
    go true e Next = both-keep (is_allowed plan s (Issue Next)) (keeps_guess r plan s Next) (keeps-next r plan s (at-next r plan s (no-wait e)))
    go true e Taken = no-issue Taken (no-other Taken e (λ same. absurd (cc)))
    go true e Wait = no-issue Wait none
    go true e (To t) = no-issue (To t) (no-other (To t) e (λ same. absurd (cc)))

-- where an Issue by the next word is allowed, the others are by what was fetched
pub taken-by : (plan : Plan) (s : State) (pc : ℕ) (i : Instr) → is_allowed plan s (Issue Next) ≡ true → s.fetch ≡ Running pc →
    fetched (isa_of plan) s.mem pc ≡ Got i → (is_control (kind_of i) && not (is_indirect i)) ≡ is_allowed plan s (Issue Taken)
taken-by plan s pc i next runs got = sym (allowed-issue plan s Taken ∙ rw (next, runs, got) refl)

pub wait-by : (plan : Plan) (s : State) (pc : ℕ) (i : Instr) → is_allowed plan s (Issue Next) ≡ true → s.fetch ≡ Running pc →
    fetched (isa_of plan) s.mem pc ≡ Got i → is_control (kind_of i) ≡ is_allowed plan s (Issue Wait)
wait-by plan s pc i next runs got = sym (allowed-issue plan s Wait ∙ rw (next, runs, got) refl)

pub bad-by : (plan : Plan) (s : State) (pc : ℕ) (e : End) → is_allowed plan s (Issue Next) ≡ true → s.fetch ≡ Running pc →
    fetched (isa_of plan) s.mem pc ≡ Bad e → (false ≡ is_allowed plan s (Issue Taken)) × (false ≡ is_allowed plan s (Issue Wait))
bad-by plan s pc e next runs got =
    (sym (allowed-issue plan s Taken ∙ rw (next, runs, got) refl), sym (allowed-issue plan s Wait ∙ rw (next, runs, got) refl))

pub waiting-by : (plan : Plan) (s : State) → is_allowed plan s (Issue Next) ≡ true → s.fetch ≡ Waiting →
    (true ≡ is_allowed plan s (Issue Taken)) × (true ≡ is_allowed plan s (Issue Wait))
waiting-by plan s next waits =
    (sym (allowed-issue plan s Taken ∙ rw (next, waits) refl), sym (allowed-issue plan s Wait ∙ rw (next, waits) refl))

-- the guesses that a rule leaves: all of them if it keeps every guess or if none may wait, and otherwise its own
pub any_kept : (r : GuessRule) (plan : Plan) (s : State) (g : Guess) (there any : Bool) → there ≡ is_allowed plan s (Issue g) →
    (any ≡ true → r ≡ rules.Any) → any ≡ true → there ≡ may_issue r plan s g
any_kept r plan s g there any is means e =
    is ∙ sym (and-true (is_allowed plan s (Issue g))) ∙ ap (λ (r : GuessRule). is_allowed plan s (Issue g) && keeps_guess r plan s g) (sym (means e))

pub next_kept : (r : GuessRule) (plan : Plan) (s : State) (g : Guess) (there wait : Bool) → there ≡ is_allowed plan s (Issue g) →
    wait ≡ is_allowed plan s (Issue Wait) → wait ≡ false → there ≡ may_issue r plan s g
next_kept r plan s g there wait is waits e = is ∙ kept-guess r plan s g (sym waits ∙ e)

pub ruleset kept = (any_kept, next_kept)

pub own_kept : (r : GuessRule) (plan : Plan) (s : State) (g : Guess) (there kept : Bool) → there ≡ is_allowed plan s (Issue g) → (r ≡ rules.Any → ⊥) →
    kept ≡ (there && is_guess (guess_at r plan s) g) → kept ≡ may_issue r plan s g
own_kept rules.Any plan s g there kept is off means = absurd (off refl)
own_kept r plan s g there kept is off means = means ∙ rw is refl

-- a rule guesses no address
back-own : (imm : ℤ) (t : ℕ) → guess_back imm ≡ To t → ⊥
back-own (pos n) t e = absurd (cc)
back-own (negsuc n) t e = absurd (cc)

of-own : (r : GuessRule) (i : Instr) (t : ℕ) → guess_of r i ≡ To t → ⊥
unfolding guess_of
of-own rules.Taken (Branch c a b imm) t e = absurd (cc)
of-own rules.Taken (Jal rd imm) t e = absurd (cc)
of-own rules.Taken (Jalr rd rs1 imm) t e = absurd (cc)
of-own rules.Taken i t e = absurd (cc)
of-own rules.Backward (Branch c a b imm) t e = back-own imm t e
of-own rules.Backward (Jal rd imm) t e = absurd (cc)
of-own rules.Backward (Jalr rd rs1 imm) t e = absurd (cc)
of-own rules.Backward i t e = absurd (cc)
of-own rules.Wait (Branch c a b imm) t e = absurd (cc)
of-own rules.Wait (Jal rd imm) t e = absurd (cc)
of-own rules.Wait (Jalr rd rs1 imm) t e = absurd (cc)
of-own rules.Wait i t e = absurd (cc)
of-own r i t e = absurd (cc)

for-own : (r : GuessRule) (f : Fetched) (t : ℕ) → guess_for r f ≡ To t → ⊥
for-own r (Got i) t e = of-own r i t e
for-own r (Bad end) t e = absurd (cc)

at-own : (r : GuessRule) (plan : Plan) (s : State) (t : ℕ) → guess_at r plan s ≡ To t → ⊥
unfolding guess_at
at-own r plan s t = go s.fetch refl
  where
    go : (f : Fetch) → s.fetch ≡ f → on (running s.fetch) Next (λ pc. guess_for r (fetched (isa_of plan) s.mem pc)) ≡ To t → ⊥
    go (Running pc) e h = for-own r (fetched (isa_of plan) s.mem pc) t (rw e at h)
    go Waiting e h = absurd (let no : Next ≡ To t = rw e at h in cc)

-- the rule that keeps every guess guesses the next word
for-any : (f : Fetched) → Next ≡ guess_for rules.Any f
unfolding guess_of
for-any (Got i) = refl
for-any (Bad end) = refl

at-any : (plan : Plan) (s : State) → Next ≡ guess_at rules.Any plan s
unfolding guess_at
at-any plan s = go s.fetch refl
  where
    go : (f : Fetch) → s.fetch ≡ f → Next ≡ on (running s.fetch) Next (λ pc. guess_for rules.Any (fetched (isa_of plan) s.mem pc))
    go (Running pc) e = rw e (for-any (fetched (isa_of plan) s.mem pc))
    go Waiting e = rw e refl

pub any_at : (r : GuessRule) (plan : Plan) (s : State) → r ≡ rules.Any → Next ≡ guess_at r plan s
any_at r plan s e = rw e (at-any plan s)

-- of the Issues by the next word, taken and to wait, the first that is allowed and kept, if a single guess is kept
first-of : (q p : Move → Bool) (g : Guess) → q (Issue Next) ≡ true → q (Issue g) ≡ true → ((h : Guess) → p (Issue h) ≡ is_guess g h) →
    ((t : ℕ) → g ≡ To t → ⊥) → Some (Issue g) ≡ slice_get (filter p (filter q (Issue Next ∷ Issue Taken ∷ Issue Wait ∷ []))) 0
first-of q p Next next own keeps_move none = rw (next, keeps_move Next) refl
first-of q p Taken next own keeps_move none = rw (next, own, keeps_move Next, keeps_move Taken) refl
first-of q p Wait next own keeps_move none = go (q (Issue Taken)) refl
  where
    go : (b : Bool) → q (Issue Taken) ≡ b → Some (Issue Wait) ≡ slice_get (filter p (filter q (Issue Next ∷ Issue Taken ∷ Issue Wait ∷ []))) 0
    go true e = rw (next, e, own, keeps_move Next, keeps_move Taken, keeps_move Wait) refl
    go false e = rw (next, e, own, keeps_move Next, keeps_move Wait) refl
first-of q p (To t) next own keeps_move none = absurd (none t refl)

-- if the next word can be issued, the rule's own guess is the first that it keeps
pub own_first : (r : GuessRule) (plan : Plan) (s : State) → is_allowed plan s (Issue Next) ≡ true →
    Some (Issue (guess_at r plan s)) ≡ slice_get (kept_issues r plan s) 0
own_first rules.Any plan s next = rw (← at-any plan s, next) refl
own_first r plan s next =
    let may : is_allowed plan s (Issue (guess_at r plan s)) ≡ true = allowed-issue plan s (guess_at r plan s) ∙ rw (next, rule-may r plan s) refl in
    first-of (is_allowed plan s) (keeps_move r plan s) (guess_at r plan s) next may (λ h. refl) (at-own r plan s)

-- the moves that enter, by the flags
flag-step : (p q : Move → Bool) (x : Move) (b : Bool) (xs ys : List Move) → b ≡ (q x && p x) → ys ≡ filter p (filter q xs) →
    flagged b x ++ ys ≡ filter p (filter q (x ∷ xs))
flag-step p q x b xs ys e f = go b (q x) (p x) refl e
  where
    go : (b c d : Bool) → p x ≡ d → b ≡ (c && d) → flagged b x ++ ys ≡ filter p (cond c (x ∷ filter q xs) (filter q xs))
    go true true true k m = rw k (ap (λ (l : List Move). x ∷ l) f)
    go false true false k m = rw k f
    go false false d k m = f
    go true true false k m = absurd (cc)
    go true false d k m = absurd (cc)
    go false true true k m = absurd (cc)

pub all_flagged : (p q : Move → Bool) (n t w e : Bool) → n ≡ (q (Issue Next) && p (Issue Next)) → t ≡ (q (Issue Taken) && p (Issue Taken)) →
    w ≡ (q (Issue Wait) && p (Issue Wait)) → e ≡ q Emit → p Emit ≡ true →
    flagged n (Issue Next) ++ (flagged t (Issue Taken) ++ (flagged w (Issue Wait) ++ flagged e Emit)) ≡ filter p (filter q all_entering)
all_flagged p q n t w e next taken wait emit kept =
    flag-step p q (Issue Next) n (Issue Taken ∷ Issue Wait ∷ Emit ∷ []) _ next (flag-step p q (Issue Taken) t (Issue Wait ∷ Emit ∷ []) _ taken
    (flag-step p q (Issue Wait) w (Emit ∷ []) _ wait (last e (q Emit) emit)))
  where
    last : (b c : Bool) → b ≡ c → flagged b Emit ≡ filter p (cond c (Emit ∷ []) [])
    last true true m = rw kept refl
    last false false m = refl
    last true false m = absurd (cc)
    last false true m = absurd (cc)

-- the first Issue, by the flags
pub three-flagged : (p q : Move → Bool) (n t w : Bool) → n ≡ (q (Issue Next) && p (Issue Next)) → t ≡ (q (Issue Taken) && p (Issue Taken)) →
    w ≡ (q (Issue Wait) && p (Issue Wait)) → flagged n (Issue Next) ++ (flagged t (Issue Taken) ++ (flagged w (Issue Wait) ++ []))
    ≡ filter p (filter q (Issue Next ∷ Issue Taken ∷ Issue Wait ∷ []))
three-flagged p q n t w next taken wait =
    flag-step p q (Issue Next) n (Issue Taken ∷ Issue Wait ∷ []) _ next (flag-step p q (Issue Taken) t (Issue Wait ∷ []) _ taken
    (flag-step p q (Issue Wait) w [] [] wait refl))

-- Lists --

-- a test that keeps all moves except some Issues
abbrev KeepsOthers : (Move → Bool) → Type 0
KeepsOthers k = (mv : Move) → is_issue mv ≡ false → k mv ≡ true

pub keeps-others : (r : GuessRule) (plan : Plan) (s : State) → KeepsOthers (keeps_move r plan s)
keeps-others r plan s (Issue g) e = absurd (cc)
keeps-others r plan s mv e = refl

-- it leaves the same others
others-step : (b c : Bool) (x : Move) (xs ys : List Move) → is_issue x ≡ c → (c ≡ false → b ≡ true) → other_moves xs ≡ other_moves ys →
    other_moves (cond b (x ∷ xs) xs) ≡ other_moves (x ∷ ys)
others-step true true x xs ys i k e = rw i e
others-step false true x xs ys i k e = rw i e
others-step true false x xs ys i k e = rw i (ap (λ (l : List Move). x ∷ l) e)
others-step false false x xs ys i k e = absurd (let f = k refl in cc)

pub same-others : (k : Move → Bool) (xs : List Move) → KeepsOthers k → other_moves (filter k xs) ≡ other_moves xs
same-others k [] h = refl
same-others k (x ∷ xs) h = others-step (k x) (is_issue x) x (filter k xs) xs refl (h x) (same-others k xs h)

-- and all of them
kept-step : (k : Move → Bool) (c : Bool) (x : Move) (ys : List Move) → (c ≡ false → k x ≡ true) → filter k ys ≡ ys →
    filter k (cond (not c) (x ∷ ys) ys) ≡ cond (not c) (x ∷ ys) ys
kept-step k true x ys h e = e
kept-step k false x ys h e = rw (h refl) (ap (λ (l : List Move). x ∷ l) e)

pub kept-others : (k : Move → Bool) (xs : List Move) → KeepsOthers k → filter k (other_moves xs) ≡ other_moves xs
kept-others k [] h = refl
kept-others k (x ∷ xs) h = kept-step k (is_issue x) x (other_moves xs) (h x) (kept-others k xs h)

-- if what is found is kept, it is found among what is kept
found-step : (p k : Move → Bool) (x m : Move) (b c : Bool) (xs rest : List Move) → p x ≡ b → (b ≡ true → c ≡ true) →
    (find p xs ≡ Some m → find p rest ≡ Some m) → cond b (Some x) (find p xs) ≡ Some m → find p (cond c (x ∷ rest) rest) ≡ Some m
found-step p k x m true true xs rest e f more at = rw e at
found-step p k x m true false xs rest e f more at = absurd (let g = f refl in cc)
found-step p k x m false true xs rest e f more at = rw e (more at)
found-step p k x m false false xs rest e f more at = more at

pub found-kept : (p k : Move → Bool) (xs : List Move) (m : Move) → ((mv : Move) → p mv ≡ true → k mv ≡ true) → find p xs ≡ Some m →
    find p (filter k xs) ≡ Some m
found-kept p k [] m h e = absurd (cc)
found-kept p k (x ∷ xs) m h e = found-step p k x m (p x) (k x) xs (filter k xs) refl (h x) (λ f. found-kept p k xs m h f) e
