-- Statements about an optional value.
use Rattle.std.specs.Prelude.{Option, Some, None, Bool, true, false}

-- f of the value, or d if there is none
abbrev pub on : {A B : Type 0} → Option A → B → (A → B) → B
on None d f = d
on (Some a) d f = f a

-- there is a value
abbrev pub is_some : {A : Type 0} → Option A → Bool
is_some None = false
is_some (Some a) = true

-- what is claimed of the value, or D if there is none
abbrev pub Where : {A : Type 0} → Option A → Type 0 → (A → Type 0) → Type 0
Where None D f = D
Where (Some a) D f = f a

-- what is claimed if the test holds
abbrev pub When : Bool → Type 0 → Type 0
When true A = A
When false A = Unit {0}
