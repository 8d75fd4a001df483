-- The moves of a word, shown one after another from the lowest number up.
use Rattle.std.proofs.Common.{◌≡◌, refl, ℕ, ◌-◌, ◌^◌, ◌<◌, List, [], ◌∷◌, drop, map, fold, Some, arith}
use Rattle.std.specs.Prelude.{slice_get}
use Rattle.std.specs.Int.{trailing_zeros}
use Rattle.std.specs.Int.RustNames.{bit_and}
use mir.Syntax.{w64}
use Rattle.std.proofs.lemmas.Nat.{and_le_r}
use Rattle.std.proofs.lemmas.List.Sums.{fold-append}
use Rattle.std.proofs.lemmas.Nat.Bits.{bit_at-trailing_zeros}
use Rattle.cf_bind.specs.declared.moves.Move.{Move}
use Rattle.cf_index.specs.declared.visiting.Spread.{Spread}
use Rattle.cf_index.specs.Places.{set_places}
use Rattle.cf_index.specs.Spread.{numbered}
use Rattle.cf_index.proofs.Places.{cleared, lowest, places_zero}

-- a list whose first element is known
first_and_rest : (xs : List ℕ) (t : ℕ) → slice_get xs 0 ≡ Some t → xs ≡ t ∷ drop 1 xs
first_and_rest [] t e = absurd (cc)
first_and_rest (x ∷ xs) t e = let h : x ≡ t = cc in rw h refl

-- the numbers of a word are the lowest and those of the word without it
places_next : (w : ℕ) → 0 < w → w < 2 ^ 64 → set_places 64 w ≡ trailing_zeros w64 w ∷ set_places 64 (bit_and w (w - 1))
places_next w some small = rw (cleared 64 w some small) (first_and_rest (set_places 64 w) (trailing_zeros w64 w) (lowest w some small))

-- the lowest move is shown, and then the others
pub shown_next : {V : Type 0} (after : V → Move → V) (kind : Spread) (v : V) (w : ℕ) → 0 < w → w < 2 ^ 64 →
    fold after (after v (numbered kind (trailing_zeros w64 w))) (map (numbered kind) (set_places 64 (bit_and w (w - 1))))
    ≡ fold after v (map (numbered kind) (set_places 64 w))
shown_next after kind v w some small = rw (places_next w some small) refl

-- for a word without a bit no move is shown
pub shown_none : {V : Type 0} (after : V → Move → V) (kind : Spread) (v : V) → fold after v (map (numbered kind) (set_places 64 0)) ≡ v
shown_none after kind v = rw (places_zero 64) refl

-- the lowest number is within the word
pub lowest_within : (w : ℕ) → 0 < w → w < 2 ^ 64 → trailing_zeros w64 w < 64
lowest_within w some small = (bit_at-trailing_zeros w64 w some small).0

-- a word without its lowest bit is smaller
pub less_word : (w : ℕ) → 0 < w → bit_and w (w - 1) < w
less_word w some = let h = and_le_r w (w - 1) in omega (arith, h)

-- what is shown part by part is shown as a whole
pub ruleset shown_parts = (fold-append)
