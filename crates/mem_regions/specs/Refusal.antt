-- Why the parts of a program cannot be loaded: the first test that fails gives the refusal.
use Rattle.std.specs.Prelude.{ℕ, ◌+◌, ◌-◌, ◌^◌, List, [], ◌∷◌, ◌++◌, length, position, sum_by, Bool, min, max, nat_lt, if◌then◌else◌, Option, Some, None, Result, Ok, Err}
use Rattle.std.specs.Option.{option_or}
use Rattle.mem_regions.specs.declared.part.Part.{Part}
use Rattle.mem_regions.specs.declared.refusal.LoadErr.{LoadErr}
use Rattle.mem_regions.specs.declared.refusal.LoadErr.TheVariants.{Overlap, TooMany, TooLarge, WrapsAround, NoMemory}

-- the first address after a part
abbrev pub end_of : Part → ℕ
end_of p = p.base + p.size

-- the part ends beyond the last address of 32 bits
abbrev pub wraps : Part → Bool
wraps p = nat_lt (2 ^ 32) (end_of p)

-- the two parts share an address: the one that begins last begins before either ends
abbrev pub overlaps : Part → Part → Bool
overlaps p q = nat_lt (max p.base q.base) (min (end_of p) (end_of q))

-- more than 16 parts
unfoldable pub too_many : List Part → Option LoadErr
too_many parts = if nat_lt 16 (length parts) then Some (TooMany (min (length parts) (2 ^ 32 - 1))) else None

-- the index of the part that wraps around
abbrev pub wraps_at : Option ℕ → Option LoadErr
wraps_at None = None
wraps_at (Some i) = Some (WrapsAround i)

-- the first part that ends beyond the last address
unfoldable pub first_wrapping : List Part → Option LoadErr
first_wrapping parts = wraps_at (position wraps parts)

-- the sizes of all parts, added
abbrev pub total_size : List Part → ℕ
total_size parts = sum_by (λ p. p.size) parts

-- over 67,108,864 bytes in all
unfoldable pub too_large : List Part → Option LoadErr
too_large parts = if nat_lt 67108864 (total_size parts) then Some (TooLarge (total_size parts)) else None

-- the first overlap of a part with those before it, or otherwise that of the later parts
abbrev pub overlap_or : Option ℕ → ℕ → Option LoadErr → Option LoadErr
overlap_or None j after = after
overlap_or (Some i) j after = Some (Overlap i j)

-- the first overlap whose second part comes after the parts `before`
abbrev pub overlap_from : List Part → List Part → Option LoadErr
overlap_from before [] = None
overlap_from before (p ∷ ps) = overlap_or (position (λ b. overlaps b p) before) (length before) (overlap_from (before ++ p ∷ []) ps)

-- the pair of parts that share an address with the earliest second part, and then the earliest first part
unfoldable pub first_overlap : List Part → Option LoadErr
first_overlap parts = overlap_from [] parts

-- the first test that the parts fail
unfoldable pub refusal : List Part → Option LoadErr
refusal parts = option_or (too_many parts) (option_or (first_wrapping parts) (option_or (too_large parts) (first_overlap parts)))

-- the outcome of a test
abbrev pub load_answer : Option LoadErr → Result (Unit {0}) LoadErr
load_answer None = Ok tt
load_answer (Some e) = Err e

-- the refusal of the parts in an answer: none if there was not enough memory
abbrev pub refusal_told : LoadErr → Option LoadErr
refusal_told NoMemory = None
refusal_told e = Some e
