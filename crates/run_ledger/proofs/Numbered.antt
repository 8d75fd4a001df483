-- Lists of the values of a function for the numbers from 0 on, of which one is replaced or all grow.
use Rattle.std.proofs.Common.{◌≡◌, ◌≢◌, ◌∙◌, refl, ap, ℕ, zero, suc, ◌+◌, ◌<◌, ◌≤◌, List, length, map, Bool, arith}
use Rattle.std.specs.Prelude.{slice_set}
use Rattle.cf_semantics.specs.moves.Candidates.{counted_from}
use Rattle.cf_timed.specs.Numbers.{number_at}
use Rattle.cf_timed.proofs.Numbered.{numbered_at, numbered_length}
use Rattle.run_ledger.specs.Ledgers.{charged, plus_if}

-- two functions that agree on the numbers
same_from : {X : Type 0} (f g : ℕ → X) (m n : ℕ) → ((i : ℕ) → m ≤ i → i < m + n → f i ≡ g i) → map f (counted_from m n) ≡ map g (counted_from m n)
same_from f g m zero same = refl
same_from f g m (suc n) same =
    let h = same m (omega arith) (omega arith) in
    let r = same_from f g (suc m) n (λ i low high. same i (omega arith) (omega arith)) in
    rw (h, r) refl

pub numbered_same : {X : Type 0} (f g : ℕ → X) (n : ℕ) → ((i : ℕ) → i < n → f i ≡ g i) → map f (counted_from 0 n) ≡ map g (counted_from 0 n)
numbered_same f g n same = same_from f g 0 n (λ i low high. same i (omega arith))

-- one of the values is replaced
set_from : (f g : ℕ → ℕ) (m n i v : ℕ) → i < n → v ≡ g (m + i) → ((j : ℕ) → j ≢ m + i → f j ≡ g j) →
    slice_set (map f (counted_from m n)) i v ≡ map g (counted_from m n)
set_from f g m zero i v within is same = absurd (omega arith)
set_from f g m (suc n) zero v within is same =
    let h : v ≡ g m = is ∙ ap g (omega arith) in
    let r = same_from f g (suc m) n (λ j low high. same j (omega arith)) in
    rw (h, r) refl
set_from f g m (suc n) (suc i) v within is same =
    let h = same m (omega arith) in
    let r = set_from f g (suc m) n i v (omega arith) (is ∙ ap g (omega arith)) (λ j other. same j (omega (arith, other))) in
    rw (h, r) refl

pub numbered_set : (f g : ℕ → ℕ) (n i v : ℕ) → i < n → v ≡ g i → ((j : ℕ) → j ≢ i → f j ≡ g j) →
    slice_set (map f (counted_from 0 n)) i v ≡ map g (counted_from 0 n)
numbered_set f g n i v within is same = set_from f g 0 n i v within (is ∙ ap g (omega arith)) (λ j other. same j (omega (arith, other)))

-- the values that count grow
pub charged_numbered : (counts : ℕ → Bool) (more : ℕ) (f g : ℕ → ℕ) (n : ℕ) (numbers : List ℕ) → numbers ≡ map f (counted_from 0 n) →
    ((i : ℕ) → i < n → plus_if (counts i) (f i) more ≡ g i) → charged counts more numbers ≡ map g (counted_from 0 n)
charged_numbered counts more f g n numbers is grows =
    let size : length numbers ≡ n = ap length is ∙ numbered_length f 0 n in
    ap (λ (k : ℕ). map (λ i. plus_if (counts i) (number_at numbers i) more) (counted_from 0 k)) size
    ∙ numbered_same (λ i. plus_if (counts i) (number_at numbers i) more) g n
    (λ i within. ap (λ (xs : List ℕ). plus_if (counts i) (number_at xs i) more) is ∙ ap (λ (k : ℕ). plus_if (counts i) k more) (numbered_at f n i within)
    ∙ grows i within)
