-- Moves taken back one after another.
use Rattle.std.proofs.Common.{◌≡◌, ◌≢◌, ℕ, zero, suc, ◌+◌, ◌<◌, ◌≤◌, List, [], ◌∷◌, ◌++◌, Option, Some, None, Bool, true, false, Ok, Err, refl, sym, ap, subst, ◌∙◌, append-nil, inl, inr, arith}
use Rattle.std.specs.Prelude.{◌⊎◌, Result, codes}
use Rattle.std.specs.Result.{IsErrAnd}
use Rattle.cf_io.specs.Causes.{HasCause}
use Rattle.cf_io.specs.Puts.{Writes, WritesFront}
use Rattle.cf_io.specs.declared.failed.Failed.{Failed}
use Rattle.cf_io.proofs.Owing.{writes-nothing, writes-again, front-again}
use Rattle.cf_report.specs.Putting.{PutsText}
use Rattle.cf_bind.specs.declared.moves.Move.{Move as AnyMove}
use Rattle.cf_semantics.specs.moves.Kept.{Kept, restored}
use Rattle.cf_core.specs.Processors.{Processor, in_state}
use Rattle.cf_debug.specs.Making.{ProcessorState, processor_state}
use Rattle.cf_debug.specs.Outcomes.{PutsBack, PutsNewest}
use Rattle.cf_debug.specs.Replies.{TakesMoves, TakesNewest, back_text, refused_line}
use Rattle.cf_debug.specs.Standing.{StandsAfterMoves, StandsSomewhere}
use Rattle.cf_debug.proofs.Standing.{stands-back}

-- this many were taken back, and their lines written
abbrev pub HasTaken : ℕ → (start now : ProcessorState) → (written after : Option (List ℕ)) → Type 0
HasTaken n start now written after = (lines : List ℕ) × TakesMoves n start now lines × Writes written after lines

-- none so far
pub taken-none : (start : ProcessorState) (written : Option (List ℕ)) → HasTaken 0 start start written written
unfolding TakesMoves
taken-none start written = ([], (refl, refl), writes-nothing written)

-- and one more
taken_more : (n : ℕ) (start now new : ProcessorState) (lines last : List ℕ) → TakesMoves n start now lines → TakesNewest now new last →
    TakesMoves (n + 1) start new (lines ++ last)
unfolding TakesMoves
taken_more n start now new lines last before newest =
    let e : suc n ≡ n + 1 = omega arith in
    let more : TakesMoves (suc n) start new (lines ++ last) = (now, lines, last, before, newest, refl) in
    subst (λ (m : ℕ). TakesMoves m start new (lines ++ last)) e more

pub taken-more : (n : ℕ) (start now new : ProcessorState) (written between after : Option (List ℕ)) (i j : ℕ) (answer : Result Bool Failed)
    (kept : Bool) → answer ≡ Ok kept → kept ≡ true → HasTaken n start now written between → PutsNewest now new between after i j answer →
    HasTaken (n + 1) start new written after
unfolding PutsNewest
taken-more n start now new written between after i j answer kept was all (lines, before, told) (text, put, inl (newest, other)) =
    let p : PutsText between after i j text (Ok true) = subst (PutsText between after i j text) (was ∙ ap Ok all) put in
    (lines ++ text, taken_more n start now new lines text before newest, writes-again written between after lines text told p.all)
taken-more n start now new written between after i j answer kept was all (lines, before, told) (text, put, inr (none, refused, other)) =
    absurd (other (was ∙ ap Ok all))

-- nothing more is kept
pub back-short : (n k : ℕ) (start now new : ProcessorState) (written between after : Option (List ℕ)) (i j : ℕ) (answer : Result Bool Failed)
    (kept : Bool) → answer ≡ Ok kept → kept ≡ false → n < k → HasTaken n start now written between → PutsNewest now new between after i j answer →
    PutsBack k start new written after (Ok tt)
unfolding PutsNewest PutsBack
back-short n k start now new written between after i j answer kept was gone few (lines, before, told) (text, put, inl (newest, other)) =
    absurd (other (was ∙ ap Ok gone))
back-short n k start now new written between after i j answer kept was gone few (lines, before, told) (text, put, inr (none, (same, why), other)) =
    let p : PutsText between after i j text (Ok false) = subst (PutsText between after i j text) (was ∙ ap Ok gone) put in
    let refused : List ℕ = refused_line (codes "NothingKept") in
    let all : TakesMoves n start new lines = subst (λ (b : ProcessorState). TakesMoves n start b lines) (sym same) before in
    let empty : new.ring ≡ [] = ap (λ (b : ProcessorState). b.ring) same ∙ none in (
      lines ++ refused,
      inr (n, lines, few, all, empty, refl),
      writes-again written between after lines refused told (subst (Writes between after) why p.all),
    )

-- the report failed
pub back-failed : (n k : ℕ) (start now new : ProcessorState) (written between after : Option (List ℕ)) (i j : ℕ) (failed : Failed)
    (answer : Result Bool Failed) (told : Result (Unit {0}) Failed) → IsErrAnd told (λ e. e ≡ failed) → answer ≡ Err failed → n < k →
    HasTaken n start now written between → PutsNewest now new between after i j answer →
    PutsBack k start new written after told
unfolding PutsNewest PutsBack
back-failed n k start now new written between after i j failed answer (Ok done) same is few taken puts = absurd same
back-failed n k start now new written between after i j failed answer (Err e) same_failed is few (lines, before, told) (text, put, inl (newest, other)) =
    let p : PutsText {T = Bool} between after i j text (Err failed) = subst (PutsText between after i j text) is put in (
      lines ++ text,
      (n + 1, omega (arith, few), inl (taken_more n start now new lines text before newest)),
      front-again written between after lines text told p.front,
    )
back-failed n k start now new written between after i j failed answer (Err e) same_failed is few (lines, before, told)
    (text, put, inr (none, (same, why), other)) =
    let p : PutsText {T = Bool} between after i j text (Err failed) = subst (PutsText between after i j text) is put in
    let refused : List ℕ = refused_line (codes "NothingKept") in
    let all : TakesMoves n start new lines = subst (λ (b : ProcessorState). TakesMoves n start b lines) (sym same) before in
    let empty : new.ring ≡ [] = ap (λ (b : ProcessorState). b.ring) same ∙ none in (
      lines ++ refused,
      (k, omega arith, inr (n, lines, few, all, empty, refl)),
      front-again written between after lines refused told (subst (WritesFront between after) why p.front),
    )

-- as many as were asked for
pub back-all : (n k : ℕ) (start now : ProcessorState) (written after : Option (List ℕ)) → n ≤ k → k ≤ n → HasTaken n start now written after →
    PutsBack k start now written after (Ok tt)
unfolding PutsBack
back-all n k start now written after few many (lines, before, told) =
    let e : n ≡ k = omega (arith, few, many) in
    (lines, inl (subst (λ (m : ℕ). TakesMoves m start now lines) e before), told)

-- Steps --

true_not_false : ◌≡◌ {A = Result Bool Failed} (Ok true) (Ok false) → ⊥
true_not_false h = cc

false_not_true : ◌≡◌ {A = Result Bool Failed} (Ok false) (Ok true) → ⊥
false_not_true h = cc

failed_not : (failed : Failed) (kept : Bool) → ◌≡◌ {A = Result Bool Failed} (Err failed) (Ok kept) → ⊥
failed_not failed kept h = cc

-- a text that was written, with another answer
answered : (written after : Option (List ℕ)) (i j : ℕ) (text : List ℕ) (done : Unit {0}) (kept : Bool) →
    PutsText {E = Failed} written after i j text (Ok done) → PutsText {E = Failed} written after i j text (Ok kept)
answered written after i j text done kept h =
    record { all = h.all; front = tt; cause = record { never_falls = h.cause.never_falls; rose = tt; still = h.cause.still } }

failed_so : (written after : Option (List ℕ)) (i j : ℕ) (text : List ℕ) (failed other : Failed) →
    PutsText {T = Unit {0}} written after i j text (Err failed) → PutsText {T = Bool} written after i j text (Err other)
failed_so written after i j text failed other h =
    record { all = tt; front = h.front; cause = record { never_falls = h.cause.never_falls; rose = h.cause.rose; still = tt } }

-- the newest move was taken back, and its line written
pub newest-put : (now new : ProcessorState) (written after : Option (List ℕ)) (i j : ℕ) (text : List ℕ) (done : Unit {0}) (first : Result (Unit {0}) Failed) →
    first ≡ Ok done → TakesNewest now new text → PutsText written after i j text first → PutsNewest now new written after i j (Ok true)
unfolding PutsNewest
newest-put now new written after i j text done first is newest put =
    (text, answered written after i j text done true (subst (PutsText written after i j text) is put), inl (newest, true_not_false))

-- or failed
pub newest-failed : (now new : ProcessorState) (written after : Option (List ℕ)) (i j : ℕ) (text : List ℕ) (failed : Failed) (first : Result (Unit {0}) Failed)
    (answer : Result Bool Failed) → first ≡ Err failed → IsErrAnd answer (λ e. e ≡ failed) → TakesNewest now new text → PutsText written after i j text first →
    PutsNewest now new written after i j answer
unfolding PutsNewest
newest-failed now new written after i j text failed first (Ok kept) is told newest put = absurd told
newest-failed now new written after i j text failed first (Err other) is told newest put =
    (text, failed_so written after i j text failed other (subst (PutsText written after i j text) is put), inl (newest, failed_not other false))

-- nothing was kept, and that was written
pub none-put : (core : Processor) (ring later : List Kept) (written after : Option (List ℕ)) (i j : ℕ) (done : Unit {0}) (first : Result (Unit {0}) Failed) →
    first ≡ Ok done → ring ≡ [] → later ≡ [] → PutsText written after i j (refused_line (codes "NothingKept")) first →
    PutsNewest (processor_state core ring None) (processor_state core later None) written after i j (Ok false)
unfolding PutsNewest
none-put core ring later written after i j done first is none left put =
    let refused : List ℕ = refused_line (codes "NothingKept") in
    let same = ap (λ (kept : List Kept). processor_state core kept None) (left ∙ sym none) in
    (refused, answered written after i j refused done false (subst (PutsText written after i j refused) is put), inr (none, (same, refl), false_not_true))

-- or failed
pub none-failed : (core : Processor) (ring later : List Kept) (written after : Option (List ℕ)) (i j : ℕ) (failed : Failed) (first : Result (Unit {0}) Failed)
    (answer : Result Bool Failed) → first ≡ Err failed → IsErrAnd answer (λ e. e ≡ failed) → ring ≡ [] → later ≡ [] →
    PutsText written after i j (refused_line (codes "NothingKept")) first →
    PutsNewest (processor_state core ring None) (processor_state core later None) written after i j answer
unfolding PutsNewest
none-failed core ring later written after i j failed first (Ok kept) is told none left put = absurd told
none-failed core ring later written after i j failed first (Err other) is told none left put =
    let refused : List ℕ = refused_line (codes "NothingKept") in
    let same = ap (λ (kept : List Kept). processor_state core kept None) (left ∙ sym none) in (
      refused,
      failed_so written after i j refused failed other (subst (PutsText written after i j refused) is put),
      inr (none, (same, refl), failed_not other true),
    )

-- the record that was removed is of the newest move, and with it that move is taken back
pub takes-newest : (core new : Processor) (ring later : List Kept) (k : Kept) (mv : AnyMove) → ring ≡ later ++ k ∷ [] →
    new ≡ in_state core (restored core.state k) → mv ≡ k.move →
    TakesNewest (processor_state core ring None) (processor_state new later None) (back_text mv)
takes-newest core new ring later k mv there is named =
    (later, k, there, ap (λ (p : Processor). processor_state p later None) is, ap back_text named)

-- and the session stays on its run
pub back-stands : (core new : Processor) (ring later : List Kept) (k : Kept) → StandsSomewhere core ring → ring ≡ later ++ k ∷ [] →
    new ≡ in_state core (restored core.state k) → StandsSomewhere new later
back-stands core new ring later k (start, h) there is =
    (start, stands-back start core new later k None None (subst (λ (kept : List Kept). StandsAfterMoves start core kept None None) there h) is)

pub none-stands : (core : Processor) (ring later : List Kept) → StandsSomewhere core ring → ring ≡ [] → later ≡ [] → StandsSomewhere core later
none-stands core ring later h none left = subst (StandsSomewhere core) (none ∙ sym left) h

-- Faults --

-- no fault was counted if the step was made
pub newest-still : (now new : ProcessorState) (written after : Option (List ℕ)) (i j start : ℕ) (answer : Result Bool Failed) (kept : Bool) →
    answer ≡ Ok kept → PutsNewest now new written after i j answer → i ≡ start → j ≡ start
unfolding PutsNewest
newest-still now new written after i j start answer kept is (text, put, left) begun =
    let p : PutsText {E = Failed} written after i j text (Ok kept) = subst (PutsText written after i j text) is put in
    p.cause.still ∙ begun

-- and one if it failed
pub newest-rose : (now new : ProcessorState) (written after : Option (List ℕ)) (i j start : ℕ) (failed : Failed) (answer : Result Bool Failed)
    (told : Result (Unit {0}) Failed) → answer ≡ Err failed → IsErrAnd told (λ e. e ≡ failed) → PutsNewest now new written after i j answer → i ≡ start →
    HasCause start j told
unfolding PutsNewest
newest-rose now new written after i j start failed answer (Ok done) is same (text, put, left) begun = absurd same
newest-rose now new written after i j start failed answer (Err other) is same (text, put, left) begun =
    let p : PutsText {T = Bool} written after i j text (Err failed) = subst (PutsText written after i j text) is put in
    subst (λ (n : ℕ). HasCause {T = Unit {0}} n j (Err other)) begun (record { never_falls = p.cause.never_falls; rose = p.cause.rose; still = tt })

pub none-rose : (start now : ℕ) (told : Result (Unit {0}) Failed) → told ≡ Ok tt → now ≡ start → HasCause start now told
none-rose start now (Ok done) is still = record { never_falls = omega (arith, still); rose = tt; still = still }
none-rose start now (Err failed) is still = absurd (cc)
