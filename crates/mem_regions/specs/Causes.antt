-- What each refusal says about the parts of a program, and what holds for parts that are accepted.
use Rattle.std.specs.Prelude.{◌≡◌, ℕ, ◌-◌, ◌^◌, ◌<◌, ◌≤◌, List, length, min, All}
use Rattle.std.specs.List.{HoldsAt}
use Rattle.mem_regions.specs.declared.part.Part.{Part}
use Rattle.mem_regions.specs.declared.refusal.LoadErr.{LoadErr}
use Rattle.mem_regions.specs.declared.refusal.LoadErr.TheVariants.{Overlap, TooMany, TooLarge, WrapsAround, NoMemory}
use Rattle.mem_regions.specs.Refusal.{end_of, total_size}

-- the address belongs to the part
abbrev pub IsAddressOf : Part → ℕ → Type 0
IsAddressOf p addr = (p.base ≤ addr) × (addr < end_of p)

-- some address belongs to both parts
abbrev pub Share : Part → Part → Type 0
Share p q = (addr : ℕ) × IsAddressOf p addr × IsAddressOf q addr

-- the part ends beyond the last address of 32 bits
abbrev pub Wraps : Part → Type 0
Wraps p = 2 ^ 32 < end_of p

-- the first part that wraps around
pub record IsFirstToWrap (parts : List Part) (i : ℕ) : Type 0 where
  pub within : i < length parts
  pub wraps : HoldsAt Wraps parts i
  pub first : (k : ℕ) → k < i → HoldsAt (λ p. ¬ Wraps p) parts k

-- the parts at two indices share an address
abbrev pub ShareAt : List Part → ℕ → ℕ → Type 0
ShareAt parts i j = HoldsAt (λ q. HoldsAt (λ p. Share p q) parts i) parts j

-- the parts at two indices share no address
abbrev pub ApartAt : List Part → ℕ → ℕ → Type 0
ApartAt parts i j = HoldsAt (λ q. HoldsAt (λ p. ¬ Share p q) parts i) parts j

-- the first pair of parts that share an address: no part before the second shares one with a part before itself, and
-- none before the first shares one with the second
pub record IsFirstOverlap (parts : List Part) (i j : ℕ) : Type 0 where
  pub before : i < j
  pub within : j < length parts
  pub share : ShareAt parts i j
  pub least_second : (k n : ℕ) → k < n → n < j → ApartAt parts k n
  pub least_first : (k : ℕ) → k < i → ApartAt parts k j

-- what a refusal says about the parts
abbrev pub IsLoadCause : List Part → LoadErr → Type 0
IsLoadCause parts (TooMany n) = (16 < length parts) × (n ≡ min (length parts) (2 ^ 32 - 1))
IsLoadCause parts (WrapsAround i) = IsFirstToWrap parts i
IsLoadCause parts (TooLarge n) = (67108864 < total_size parts) × (n ≡ total_size parts)
IsLoadCause parts (Overlap i j) = IsFirstOverlap parts i j
IsLoadCause parts NoMemory = Unit

-- what holds for parts that are accepted
pub record AreAccepted (parts : List Part) : Type 0 where
  pub few : length parts ≤ 16
  pub in_space : All (λ p. ¬ Wraps p) parts
  pub small : total_size parts ≤ 67108864
  pub apart : (k n : ℕ) → k < n → n < length parts → ApartAt parts k n
