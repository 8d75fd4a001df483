-- What is kept after a look at moves: the first of those that finish earliest.
use Rattle.std.proofs.Common.{◌≡◌, ◌∙◌, refl, sym, ap, subst, ℕ, zero, suc, ◌-◌, ◌^◌, ◌<◌, ◌≤◌, List, [], ◌∷◌, ◌++◌, drop, fold, length, take, Bool, true, false, cond, nat_eq, nat_lt, arith, append-nil, append_assoc}
use Rattle.std.specs.Prelude.{filter}
use Rattle.std.specs.List.{AllByRecursion}
use Rattle.std.proofs.lemmas.Bool.Decides.{nat_tests}
use Rattle.std.proofs.lemmas.List.{take-append-drop}
use Rattle.std.proofs.lemmas.List.Elements.{filter-append}
use Rattle.cf_layout.specs.Layout.{Plan}
use Rattle.cf_layout.specs.Accepted.{IsAccepted}
use Rattle.cf_bind.specs.declared.moves.Move.{Move}
use Rattle.cf_index.specs.Allowed.{allowed_others}
use Rattle.cf_timed.specs.Clocks.{AreKept, ClockedState, begin_time, capped, finish_time}
use Rattle.cf_timed.specs.Delays.{AreDelays}
use Rattle.cf_timed.specs.DueMoves.{AreDue, KeptMoves, finishing, kept_below, kept_with, looked, most_kept, none_at, still_due}
use Rattle.cf_timed.proofs.DueMoves.{delay_some, others_kept}
use Rattle.cf_timed.proofs.Room.{all_both, all_passed}

-- those of the moves with this time
abbrev with_time : (Move → ℕ) → ℕ → List Move → List Move
with_time f t moves = filter (λ mv. nat_eq (f mv) t) moves

-- after some moves the least time and the first moves with it are known
record IsSeen (f : Move → ℕ) (seen : List Move) (kept : KeptMoves) : Type 0 where
  least : AllByRecursion (λ mv. kept.time ≤ f mv) seen
  moves : kept.moves ≡ take most_kept (with_time f kept.time seen)
  some : kept.time < 2 ^ 64 - 1 → 0 < length (with_time f kept.time seen)

-- a smaller time is that of none of them
none_with : (f : Move → ℕ) (least t : ℕ) (xs : List Move) → t < least → AllByRecursion (λ mv. least ≤ f mv) xs → with_time f t xs ≡ []
none_with f least t [] less h = refl
none_with f least t (x ∷ xs) less h =
    let low = h.0 in
    let e : nat_eq (f x) t ≡ false = grind (arith, nat_tests, low, less) in
    let r = none_with f least t xs less h.1 in
    rw (e, r) refl

all_lower : (f : Move → ℕ) (least t : ℕ) (xs : List Move) → t ≤ least → AllByRecursion (λ mv. least ≤ f mv) xs → AllByRecursion (λ mv. t ≤ f mv) xs
all_lower f least t [] less h = tt
all_lower f least t (x ∷ xs) less h = (let low = h.0 in omega (arith, low, less), all_lower f least t xs less h.1)

take_again : (n : ℕ) (xs ys : List Move) → take n (take n xs ++ ys) ≡ take n (xs ++ ys)
take_again zero xs ys = refl
take_again (suc n) [] ys = refl
take_again (suc n) (x ∷ xs) ys = ap (λ (l : List Move). x ∷ l) (take_again n xs ys)

some_before : (xs ys : List Move) → 0 < length xs → 0 < length (xs ++ ys)
some_before [] ys some = absurd (omega (arith, some))
some_before (x ∷ xs) ys some = omega arith

some_after : (xs ys : List Move) → 0 < length ys → 0 < length (xs ++ ys)
some_after [] ys some = some
some_after (x ∷ xs) ys some = omega arith

none_taken : (n : ℕ) (xs : List Move) → 0 < n → 0 < length xs → take n xs ≡ [] → ⊥
none_taken zero xs many some e = omega (arith, many)
none_taken (suc n) [] many some e = omega (arith, some)
none_taken (suc n) (x ∷ xs) many some e = cc

-- one more move
seen_more : (f : Move → ℕ) (seen : List Move) (kept : KeptMoves) (mv : Move) → IsSeen f seen kept → IsSeen f (seen ++ mv ∷ []) (kept_with kept mv (f mv))
seen_more f seen kept mv h = by (nat_lt (f mv) kept.time) (nat_eq (f mv) kept.time) refl refl
  where
    parts : (t : ℕ) → with_time f t (seen ++ mv ∷ []) ≡ with_time f t seen ++ with_time f t (mv ∷ [])
    parts t = filter-append (λ x. nat_eq (f x) t) seen (mv ∷ [])

    itself : nat_eq (f mv) (f mv) ≡ true
    itself = grind (arith, nat_tests)

    by : (less same : Bool) → nat_lt (f mv) kept.time ≡ less → nat_eq (f mv) kept.time ≡ same →
        IsSeen f (seen ++ mv ∷ []) (cond less (record { time = f mv; moves = mv ∷ [] })
        (cond same (record kept { moves = take most_kept (kept.moves ++ mv ∷ []) }) kept))
    by true same e g =
        let under : f mv < kept.time = grind (arith, nat_tests) in
        let one : with_time f (f mv) (mv ∷ []) ≡ mv ∷ [] = rw itself refl in
        let alone : with_time f (f mv) (seen ++ mv ∷ []) ≡ mv ∷ [] = parts (f mv)
        ∙ ap (λ (l : List Move). l ++ with_time f (f mv) (mv ∷ [])) (none_with f kept.time (f mv) seen under h.least) ∙ one in
        record {
          least = all_both (λ x. f mv ≤ f x) seen (mv ∷ []) (all_lower f kept.time (f mv) seen (omega (arith, under)) h.least) (omega arith, tt);
          moves = sym (ap (take most_kept) alone);
          some = λ below. rw alone (omega arith);
        }
    by false true e g =
        let is : f mv ≡ kept.time = grind (arith, nat_tests) in
        record {
          least = all_both (λ x. kept.time ≤ f x) seen (mv ∷ []) h.least (omega (arith, is), tt);
          moves =
              let one : with_time f kept.time (mv ∷ []) ≡ mv ∷ [] = rw g refl in
              ap (λ (l : List Move). take most_kept (l ++ mv ∷ [])) h.moves
              ∙ take_again most_kept (with_time f kept.time seen) (mv ∷ [])
              ∙ ap (λ (l : List Move). take most_kept (with_time f kept.time seen ++ l)) (sym one)
              ∙ ap (take most_kept) (sym (parts kept.time));
          some = λ below.
              let one : with_time f kept.time (mv ∷ []) ≡ mv ∷ [] = rw g refl in
              rw (parts kept.time) (some_after (with_time f kept.time seen) (with_time f kept.time (mv ∷ [])) (rw one (omega arith)));
        }
    by false false e g =
        let above : kept.time < f mv = grind (arith, nat_tests) in
        record {
          least = all_both (λ x. kept.time ≤ f x) seen (mv ∷ []) h.least (omega (arith, above), tt);
          moves =
              let none : with_time f kept.time (mv ∷ []) ≡ [] = rw g refl in
              h.moves
              ∙ ap (take most_kept) (sym (append-nil (with_time f kept.time seen)))
              ∙ ap (λ (l : List Move). take most_kept (with_time f kept.time seen ++ l)) (sym none)
              ∙ ap (take most_kept) (sym (parts kept.time));
          some = λ below. rw (parts kept.time) (some_before (with_time f kept.time seen) (with_time f kept.time (mv ∷ [])) (h.some below));
        }

-- all moves that are left
seen_rest : (c : ClockedState) (seen rest : List Move) (kept : KeptMoves) → IsSeen (capped c) seen kept →
    IsSeen (capped c) (seen ++ rest) (fold (looked c) kept rest)
seen_rest c seen [] kept h = let e = append-nil seen in rw e h
seen_rest c seen (mv ∷ rest) kept h =
    let all = seen_rest c (seen ++ mv ∷ []) rest (looked c kept mv) (seen_more (capped c) seen kept mv h) in
    let e = append_assoc seen (mv ∷ []) rest in
    rw e at all

-- what has been found of some moves, where no time is above the maximum number of 64 bits
abbrev all_looked : ClockedState → List Move → KeptMoves
all_looked c moves = fold (looked c) (none_at (2 ^ 64 - 1)) moves

seen_all : (c : ClockedState) (moves : List Move) → IsSeen (capped c) moves (all_looked c moves)
seen_all c moves = seen_rest c [] moves (none_at (2 ^ 64 - 1)) (record { least = tt; moves = refl; some = λ below. absurd (omega (arith, below)) })

-- what passes a test, and the first of it
all_pass : (p : Move → Bool) (xs : List Move) → AllByRecursion (λ mv. p mv ≡ true) xs → filter p xs ≡ xs
all_pass p [] h = refl
all_pass p (x ∷ xs) h = let e = h.0 in let r = all_pass p xs h.1 in rw (e, r) refl

all_first : (P : Move → Type 0) (n : ℕ) (xs : List Move) → AllByRecursion P xs → AllByRecursion P (take n xs)
all_first P zero xs h = tt
all_first P (suc n) [] h = tt
all_first P (suc n) (x ∷ xs) h = (h.0, all_first P n xs h.1)

-- a move with that time begins before it
all_begin : (c : ClockedState) (t : ℕ) (xs : List Move) → AreDelays c.clock.delays → t < 2 ^ 64 - 1 →
    AllByRecursion (λ mv. nat_lt (begin_time c.clock mv) t ≡ true) (with_time (capped c) t xs)
unfolding finish_time
all_begin c t [] spans below = tt
all_begin c t (x ∷ xs) spans below = by (nat_eq (capped c x) t) refl (all_begin c t xs spans below)
  where
    by : (b : Bool) → nat_eq (capped c x) t ≡ b → AllByRecursion (λ mv. nat_lt (begin_time c.clock mv) t ≡ true) (with_time (capped c) t xs) →
        AllByRecursion (λ mv. nat_lt (begin_time c.clock mv) t ≡ true) (cond b (x ∷ with_time (capped c) t xs) (with_time (capped c) t xs))
    by false e more = more
    by true e more =
        let some = delay_some c x spans in
        let is : capped c x ≡ t = grind (arith, nat_tests) in
        let under : begin_time c.clock x < t = omega (arith, some, is, below) in
        (grind (arith, nat_tests, under), more)

-- so what is kept is right
record IsFresh (plan : Plan) (c : ClockedState) (kept : KeptMoves) : Type 0 where
  due : AreDue plan c kept
  still : still_due c.clock kept ≡ kept.moves
  some : kept.moves ≡ [] → AllByRecursion (λ mv. 2 ^ 64 - 1 ≤ capped c mv) (allowed_others plan c.state)

fresh : (plan : Plan) (c : ClockedState) (kept : KeptMoves) → IsAccepted plan → AreDelays c.clock.delays →
    IsSeen (capped c) (allowed_others plan c.state) kept → IsFresh plan c (kept_below kept)
unfolding finishing still_due
fresh plan c kept acc spans h = by (nat_lt kept.time (2 ^ 64 - 1)) refl
  where
    others : List Move
    others = allowed_others plan c.state

    due : List Move
    due = with_time (capped c) kept.time others

    by : (b : Bool) → nat_lt kept.time (2 ^ 64 - 1) ≡ b → IsFresh plan c (cond b kept (record kept { moves = [] }))
    by false e = record {
      due = record { least = h.least; others = due; first = refl; sites = tt; below = λ some. absurd (omega (arith, some)) };
      still = refl;
      some = λ none. let late : 2 ^ 64 - 1 ≤ kept.time = grind (arith, nat_tests) in all_lower (capped c) kept.time (2 ^ 64 - 1) others late h.least;
    }
    by true e =
        let below : kept.time < 2 ^ 64 - 1 = grind (arith, nat_tests) in
        let p : Move → Bool = λ mv. nat_lt (begin_time c.clock mv) kept.time in
        let all : filter p kept.moves ≡ kept.moves = ap (filter p) h.moves
        ∙ all_pass p (take most_kept due) (all_first (λ mv. p mv ≡ true) most_kept due (all_begin c kept.time others spans below)) ∙ sym h.moves in
        record {
          due = record {
            least = h.least;
            others = drop most_kept due;
            first = sym (ap (λ (l : List Move). l ++ drop most_kept due) (all ∙ h.moves) ∙ take-append-drop most_kept due);
            sites = subst (AllByRecursion (AreKept plan)) (sym h.moves) (all_first (AreKept plan) most_kept due
                (all_passed (AreKept plan) (λ mv. nat_eq (capped c mv) kept.time) others (others_kept plan c.state acc)));
            below = λ some. below;
          };
          still = all;
          some = λ none. absurd (none_taken most_kept due (omega arith) (h.some below) (sym h.moves ∙ none));
        }

pub looked_due : (plan : Plan) (c : ClockedState) (kept : KeptMoves) → IsAccepted plan → AreDelays c.clock.delays →
    kept ≡ kept_below (all_looked c (allowed_others plan c.state)) → AreDue plan c kept
looked_due plan c kept acc spans e =
    subst (AreDue plan c) (sym e) (fresh plan c (all_looked c (allowed_others plan c.state)) acc spans (seen_all c (allowed_others plan c.state))).due

pub looked_still : (plan : Plan) (c : ClockedState) (kept : KeptMoves) → IsAccepted plan → AreDelays c.clock.delays →
    kept ≡ kept_below (all_looked c (allowed_others plan c.state)) → still_due c.clock kept ≡ kept.moves
looked_still plan c kept acc spans e =
    subst (λ (k : KeptMoves). still_due c.clock k ≡ k.moves) (sym e)
    (fresh plan c (all_looked c (allowed_others plan c.state)) acc spans (seen_all c (allowed_others plan c.state))).still

pub looked_some : (plan : Plan) (c : ClockedState) (kept : KeptMoves) → IsAccepted plan → AreDelays c.clock.delays →
    kept ≡ kept_below (all_looked c (allowed_others plan c.state)) → kept.moves ≡ [] →
    AllByRecursion (λ mv. 2 ^ 64 - 1 ≤ capped c mv) (allowed_others plan c.state)
looked_some plan c kept acc spans e none =
    (fresh plan c (all_looked c (allowed_others plan c.state)) acc spans (seen_all c (allowed_others plan c.state))).some
    (ap (λ (k : KeptMoves). k.moves) (sym e) ∙ none)
