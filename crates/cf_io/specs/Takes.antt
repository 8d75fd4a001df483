-- How taking bytes affects the slice and what is left (a convention of this project).
use Rattle.std.specs.Prelude.{◌≡◌, ◌≤◌, ◌<◌, ℕ, List, [], take, drop, length, min, Option, Some, None, Result, Ok, IfOk, OnErr}

-- if the source exposes what it has left: its first n bytes were taken, and the others are left
abbrev pub GivesFront : Option (List ℕ) → Option (List ℕ) → List ℕ → ℕ → Type 0
GivesFront None after new n = Unit {0}
GivesFront (Some left) after new n =
    (n ≤ length left) × (take n new ≡ take n left) × (after ≡ Some (drop n left))

-- if the source exposes what it has left, it has nothing left
abbrev pub IsAtEnd : Option (List ℕ) → Type 0
IsAtEnd None = Unit {0}
IsAtEnd (Some left) = left ≡ []

-- one call of take: what is left before and after, the slice before and after, the answer
pub record Takes {E : Type 0} (left after : Option (List ℕ)) (into new : List ℕ)
    (result : Result ℕ E) : Type 0 where
  pub count : IfOk result (λ n. n ≤ length into)
  pub told : IfOk result (λ n. GivesFront left after new n)
  pub rest : IfOk result (λ n. drop n new ≡ drop n into)
  pub end : IfOk result (λ n. n ≡ 0 → 0 < length into → IsAtEnd left)
  pub empty : length into ≡ 0 → result ≡ Ok 0
  pub unchanged : OnErr result ((new ≡ into) × (after ≡ left))

-- n bytes were taken to the start of the slice, and its old bytes follow them
pub record TakesSome (left after : Option (List ℕ)) (into new : List ℕ) (n : ℕ) : Type 0 where
  pub count : n ≤ length into
  pub told : GivesFront left after new n
  pub rest : drop n new ≡ drop n into

-- if the source exposes what it has left: as many bytes as there is room for, or all
abbrev pub TakesMost : Option (List ℕ) → ℕ → ℕ → Type 0
TakesMost None room n = Unit {0}
TakesMost (Some left) room n = n ≡ min room (length left)

-- takes until the slice is full or the source is at its end, or until one take fails, which leaves room
pub record TakesAll {E : Type 0} (left after : Option (List ℕ)) (into new : List ℕ)
    (result : Result ℕ E) : Type 0 where
  pub taken : IfOk result (λ n. TakesSome left after into new n)
  pub most : IfOk result (λ n. TakesMost left (length into) n)
  pub failed : OnErr result ((n : ℕ) × (n < length into) × TakesSome left after into new n)
