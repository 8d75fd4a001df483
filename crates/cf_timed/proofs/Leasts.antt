-- The first of the moves that have the least time.
use Rattle.std.proofs.Common.{◌≡◌, refl, sym, ℕ, zero, suc, ◌+◌, ◌<◌, ◌≤◌, List, [], ◌∷◌, ◌++◌, length, get_or, Bool, true, false, arith}
use Rattle.std.specs.Prelude.{Some, nat_le, slice_get}
use Rattle.std.specs.List.{AllByRecursion, list_all, position_or_len}
use Rattle.std.proofs.lemmas.Bool.Decides.{nat_tests}
use Rattle.std.proofs.lemmas.List.Folds.{list_all_at}
use Rattle.std.proofs.lemmas.List.Sums.{list_all-from_AllPass, position_or_len_is}
use Rattle.cf_bind.specs.declared.moves.Move.{Move}
use Rattle.cf_timed.specs.Earliest.{first_least}

-- the move at this index is the first whose time is at most this number, and no move has a time below it
pub record IsLeast (time : Move → ℕ) (moves : List Move) (place least : ℕ) : Type 0 where
  pub within : place < length moves
  pub is : (d : Move) → time (get_or moves place d) ≤ least
  pub most : (k : ℕ) (d : Move) → k < length moves → least ≤ time (get_or moves k d)
  pub first : (k : ℕ) (d : Move) → k < place → least < time (get_or moves k d)

-- the move is the first of some moves that have the least time
pub record IsFirst (time : Move → ℕ) (moves : List Move) (least : ℕ) (mv : Move) : Type 0 where
  pub place : ℕ
  pub is_least : IsLeast time moves place least
  pub there : slice_get moves place ≡ Some mv
  pub is : time mv ≡ least

-- it is the first of those with the least time
pub least-of_all : (time : Move → ℕ) (moves : List Move) (place least : ℕ) (d : Move) → IsLeast time moves place least → place ≡ first_least time moves
unfolding first_least
least-of_all time moves place least d h =
    let w = h.within in
    sym (position_or_len_is (λ mv. list_all (λ other. nat_le (time mv) (time other)) moves) moves place d (omega (arith, w)) before (λ inside. here))
  where
    before : (k : ℕ) → k < place → list_all (λ other. nat_le (time (get_or moves k d)) (time other)) moves ≡ false
    before k below =
        let w = h.within in
        let f = h.first k d below in
        let i = h.is d in
        list_all_at (λ other. nat_le (time (get_or moves k d)) (time other)) moves place d w (grind (arith, nat_tests, f, i))

    here : list_all (λ other. nat_le (time (get_or moves place d)) (time other)) moves ≡ true
    here = list_all-from_AllPass (λ other. nat_le (time (get_or moves place d)) (time other)) moves (λ k e below. let m = h.most k e below in let i = h.is d in
        grind (arith, nat_tests, m, i))

-- it still is after a move that is later
pub after_one : (time : Move → ℕ) (x : Move) (moves : List Move) (place least : ℕ) → least < time x → IsLeast time moves place least →
    IsLeast time (x ∷ moves) (suc place) least
after_one time x moves place least later h = record {
  within = let w = h.within in omega (arith, w);
  is = h.is;
  most = most;
  first = first;
}
  where
    most : (k : ℕ) (d : Move) → k < length (x ∷ moves) → least ≤ time (get_or (x ∷ moves) k d)
    most zero d below = omega (arith, later)
    most (suc k) d below = h.most k d (omega arith)

    first : (k : ℕ) (d : Move) → k < suc place → least < time (get_or (x ∷ moves) k d)
    first zero d before = later
    first (suc k) d before = h.first k d (omega arith)

-- and after several moves that are later
pub least-after : (time : Move → ℕ) (front moves : List Move) (place least : ℕ) → ((k : ℕ) (d : Move) → k < length front → least < time (get_or front k d)) →
    IsLeast time moves place least →
    IsLeast time (front ++ moves) (length front + place) least
least-after time [] moves place least later h = let z : 0 + place ≡ place = omega arith in rw z h
least-after time (x ∷ front) moves place least later h =
    let r = least-after time front moves place least (λ k d below. later (suc k) d (omega arith)) h in
    let e : suc (length front) + place ≡ suc (length front + place) = omega arith in
    rw e (after_one time x (front ++ moves) (length front + place) least (later 0 x (omega arith)) r)

-- the first of several moves with the same time, if no move after them is sooner
pub least-front : (time : Move → ℕ) (front moves : List Move) (least : ℕ) → 0 < length front →
    ((k : ℕ) (d : Move) → k < length front → time (get_or front k d) ≡ least) → ((k : ℕ) (d : Move) → k < length moves → least ≤ time (get_or moves k d)) →
    IsLeast time (front ++ moves) 0 least
least-front time [] moves least some same later = absurd (omega arith)
least-front time (x ∷ front) moves least some same later = record {
  within = omega arith;
  is = λ d. let e = same 0 d some in omega (arith, e);
  most = all (x ∷ front) same;
  first = λ k d before. absurd (omega arith);
}
  where
    all : (xs : List Move) → ((k : ℕ) (d : Move) → k < length xs → time (get_or xs k d) ≡ least) → (k : ℕ) (d : Move) → k < length (xs ++ moves) →
        least ≤ time (get_or (xs ++ moves) k d)
    all [] same k d below = later k d below
    all (x ∷ xs) same zero d below = let e = same 0 d (omega arith) in omega (arith, e)
    all (x ∷ xs) same (suc k) d below = all xs (λ j e low. same (suc j) e (omega arith)) k d (omega arith)

-- two tests that agree on the moves
all_same : (p q : Move → Bool) (moves : List Move) → AllByRecursion (λ mv. p mv ≡ q mv) moves → list_all p moves ≡ list_all q moves
all_same p q [] same = refl
all_same p q (mv ∷ moves) same = let h = same.0 in let r = all_same p q moves same.1 in rw (h, r) refl

position_same : (p q : Move → Bool) (moves : List Move) → AllByRecursion (λ mv. p mv ≡ q mv) moves → position_or_len p moves ≡ position_or_len q moves
position_same p q [] same = refl
position_same p q (mv ∷ moves) same = let h = same.0 in let r = position_same p q moves same.1 in rw (h, r) refl

-- a test against all moves gives the same for each move, if the two times agree
each_same : (f g : Move → ℕ) (all moves : List Move) → AllByRecursion (λ mv. f mv ≡ g mv) all → AllByRecursion (λ mv. f mv ≡ g mv) moves →
    AllByRecursion (λ mv. list_all (λ other. nat_le (f mv) (f other)) all ≡ list_all (λ other. nat_le (g mv) (g other)) all) moves
each_same f g all [] same here = tt
each_same f g all (mv ∷ moves) same here = (one, each_same f g all moves same here.1)
  where
    times : (xs : List Move) → AllByRecursion (λ other. f other ≡ g other) xs → AllByRecursion (λ other. nat_le (f mv) (f other) ≡ nat_le (g mv) (g other)) xs
    times [] h = tt
    times (x ∷ xs) h = (let a = here.0 in let b = h.0 in rw (a, b) refl, times xs h.1)

    one : list_all (λ other. nat_le (f mv) (f other)) all ≡ list_all (λ other. nat_le (g mv) (g other)) all
    one = all_same (λ other. nat_le (f mv) (f other)) (λ other. nat_le (g mv) (g other)) all (times all same)

-- for two times that agree on the moves the first move with the least time is the same
pub least-same : (f g : Move → ℕ) (moves : List Move) → AllByRecursion (λ mv. f mv ≡ g mv) moves → first_least f moves ≡ first_least g moves
unfolding first_least
least-same f g moves same = position_same (λ mv. list_all (λ other. nat_le (f mv) (f other)) moves)
    (λ mv. list_all (λ other. nat_le (g mv) (g other)) moves) moves (each_same f g moves moves same same)
