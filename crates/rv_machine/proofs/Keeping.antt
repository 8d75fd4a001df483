-- What a cache stores is right as long as the code that is fetched is unchanged.
use Rattle.std.proofs.Common.{◌≡◌, ◌∙◌, ℕ, ◌<◌, ◌^◌, List, length, slice_index_or, slice_set, true, IsTrue, refl, ap, sym, subst, arith}
use Rattle.std.proofs.lemmas.List.Elements.{All-set}
use Rattle.std.proofs.lemmas.Bool.Decides.{nat_tests}
use Rattle.std.proofs.lemmas.Grind.{get_or-set_at}
use Rattle.std.specs.List.{All}
use Rattle.mem_regions.specs.Memory.{Memory}
use Rattle.mem_regions.specs.Fetching.{fetch_at}
use Rattle.mem_regions.specs.Writing.{stored}
use Rattle.mem_regions.proofs.Kept.{fetch_at-stored}
use Rattle.rv_inst.specs.declared.instruction.Instr.{Instr}
use Rattle.rv_machine.specs.declared.decode_cache.Found.TheVariants as found
use Rattle.rv_machine.specs.declared.decode_cache.Decoded.{Decoded}
use Rattle.rv_machine.specs.Quick.{HasSameCode}
use Rattle.rv_machine.specs.Decoded.{read_from, found_at, is_instruction, IsEmpty, IsKeptOf, IsCacheOf, place_at, nothing_kept, cache_keeps}

-- what is at an address depends only on the word that is fetched there
pub found_at-same : (m n : Memory) (pc : ℕ) → fetch_at n pc ≡ fetch_at m pc → found_at n pc ≡ found_at m pc
unfolding found_at
found_at-same m n pc e = ap read_from e

-- a cache of a memory is one of each memory with the same instruction words
pub cache-same : (m n : Memory) (places : List Decoded) → ((pc : ℕ) → fetch_at n pc ≡ fetch_at m pc) →
    IsCacheOf m places → IsCacheOf n places
unfolding IsCacheOf
cache-same m n places same cache = λ k d below small.
    found_at-same m n _ (same _) ∙ cache k d below small

pub cache-same-code : (m n : Memory) (places : List Decoded) → HasSameCode m n → IsCacheOf m places → IsCacheOf n places
unfolding HasSameCode
cache-same-code m n places same = cache-same m n places same

-- a store preserves this
pub cache-stored : (m : Memory) (addr width number : ℕ) (places : List Decoded) → IsCacheOf m places →
    IsCacheOf (stored m addr width number) places
cache-stored m addr width number places = cache-same m _ places (fetch_at-stored m addr width number)

-- if nothing is stored, all that is stored is right
pub cache-empty : (m : Memory) (places : List Decoded) → All IsEmpty places → IsCacheOf m places
unfolding IsCacheOf
cache-empty m places empty = λ k d below small. absurd (omega arith)

-- what is at one address is stored with the rest
pub cache-with : (m : Memory) (places : List Decoded) (k address pc word : ℕ) (i : Instr) → address ≡ pc →
    found_at m pc ≡ found.Instruction word i → IsCacheOf m places →
    IsCacheOf m (slice_set places k (record { address = address; word = word; instr = i }))
unfolding IsCacheOf
cache-with m places k address pc word i e is cache =
    let P : ℕ → Type 0 = λ n. found_at m n ≡ found.Instruction word i in
    let d : Decoded = record { address = address; word = word; instr = i } in
    All-set (IsKeptOf m) places k d (λ small. subst P (sym e) is) cache

-- the address is found where it was stored
pub keeps-with : (places : List Decoded) (address pc word : ℕ) (i : Instr) → address ≡ pc → place_at pc < length places →
    IsTrue (cache_keeps (slice_set places (place_at pc) (record { address = address; word = word; instr = i })) pc)
unfolding cache_keeps
keeps-with places address pc word i e below = grind (arith, nat_tests, get_or-set_at)

-- what the cache stores for an address is what memory has there
pub cache-at : (m : Memory) (places : List Decoded) (pc : ℕ) → IsCacheOf m places → IsTrue (cache_keeps places pc) →
    place_at pc < length places → pc < 2 ^ 32 →
    found_at m pc ≡ found.Instruction (slice_index_or places (place_at pc) nothing_kept).word
    (slice_index_or places (place_at pc) nothing_kept).instr
unfolding IsCacheOf cache_keeps
cache-at m places pc cache has below small =
    let d : Decoded = slice_index_or places (place_at pc) nothing_kept in
    let e : d.address ≡ pc = grind (arith, nat_tests) in
    let P : ℕ → Type 0 = λ n. found_at m n ≡ found.Instruction d.word d.instr in
    subst P e (cache (place_at pc) nothing_kept below (rw e small))

-- what the cache stores is an instruction
pub cache-has : (m : Memory) (places : List Decoded) (pc : ℕ) → IsCacheOf m places → cache_keeps places pc ≡ true →
    place_at pc < length places → pc < 2 ^ 32 → is_instruction (found_at m pc) ≡ true
cache-has m places pc cache has below small = rw (cache-at m places pc cache has below small) refl

pub ruleset keeping = (cache-at, cache-with, keeps-with)

pub ruleset having = (cache-has)

pub ruleset still = (cache-empty, cache-stored)
