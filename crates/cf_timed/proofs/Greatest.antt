-- The maximum time of the moves that pass one test or another.
use Rattle.std.proofs.Common.{◌≡◌, ◌∙◌, refl, sym, ap, ℕ, List, [], ◌∷◌, map, max, Bool, true, false, cond, arith}
use Rattle.std.specs.Prelude.{filter, ◌||◌}
use Rattle.std.specs.List.{list_any}
use Rattle.cf_timed.specs.declared.timed_move.TimedMove.{TimedMove}
use Rattle.cf_timed.specs.Arrivals.{greatest_where}
use Rattle.cf_timed.specs.Times.{greatest, greatest_time}

-- one more move
pub where_more : (test : TimedMove → Bool) (done : TimedMove) (moves : List TimedMove) → greatest_where test (done ∷ moves)
    ≡ max (cond (test done) done.time 0) (greatest_where test moves)
unfolding greatest_time
where_more test done moves = by (test done)
  where
    by : (b : Bool) → greatest_time (cond b (done ∷ filter test moves) (filter test moves)) ≡ max (cond b done.time 0) (greatest_time (filter test moves))
    by true = refl
    by false = omega arith

pub where_none : (test : TimedMove → Bool) → greatest_where test [] ≡ 0
unfolding greatest_time
where_none test = refl

-- a test that no move passes
pub where_never : (moves : List TimedMove) → greatest_where (λ done. false) moves ≡ 0
where_never [] = where_none (λ done. false)
where_never (done ∷ moves) = let r = where_never moves in where_more (λ d. false) done moves ∙ omega (arith, r)

-- one test or another
pub where_either : (p q : TimedMove → Bool) (moves : List TimedMove) → greatest_where (λ done. p done || q done) moves
    ≡ max (greatest_where p moves) (greatest_where q moves)
where_either p q [] = let a = where_none (λ done. p done || q done) in let b = where_none p in let c = where_none q in omega (arith, a, b, c)
where_either p q (done ∷ moves) =
    let r = where_either p q moves in
    let a = where_more (λ d. p d || q d) done moves in
    let b = where_more p done moves in
    let c = where_more q done moves in
    let e = one (p done) (q done) done.time in
    omega (arith, r, a, b, c, e)
  where
    one : (a b : Bool) (t : ℕ) → cond (a || b) t 0 ≡ max (cond a t 0) (cond b t 0)
    one true true t = omega arith
    one true false t = omega arith
    one false true t = omega arith
    one false false t = refl

-- the tests of a list, one after another
pub where_any : {X : Type 0} (test : X → TimedMove → Bool) (xs : List X) (moves : List TimedMove) → greatest (map (λ x. greatest_where (test x) moves) xs)
    ≡ greatest_where (λ done. list_any (λ x. test x done) xs) moves
where_any test [] moves = sym (where_never moves)
where_any {X} test (x ∷ xs) moves =
    ap (λ (n : ℕ). max (greatest_where (test x) moves) n) (where_any test xs moves)
    ∙ sym (where_either (test x) (λ done. list_any (λ y. test y done) xs) moves)
