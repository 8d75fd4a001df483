-- Lists that are stored one after another in one list.
use Rattle.std.proofs.Common.{◌≡◌, ℕ, zero, suc, ◌+◌, ◌-◌, ◌<◌, ◌≤◌, List, [], ◌∷◌, ◌++◌, length, take, drop, refl, ap, ◌∙◌, arith}
use Rattle.std.specs.List.{slice_range}
use Rattle.std.specs.Prelude.{slice_index}
use Rattle.std.proofs.Math.Seq.{drop-append_seam}
use Rattle.std.proofs.lemmas.List.{length-drop, take-append-le, drop-append-le, take_all}
use Rattle.order_search.specs.Rows.{pieces_to, AreEnds, numbered_row, piece_start}

-- as many lists as there are ends
pub as_many : {X : Type 0} (from : ℕ) (ends : List ℕ) (numbers : List X) → length (pieces_to from ends numbers) ≡ length ends
as_many from [] numbers = refl
as_many from (end ∷ ends) numbers = ap suc (as_many end ends numbers)

pub ends_above : (from : ℕ) (ends : List ℕ) (total : ℕ) → AreEnds from ends total → from ≤ total
ends_above from [] total h = omega (arith, h)
ends_above from (end ∷ ends) total h = omega (arith, h.0, ends_above end ends total h.1)

-- a piece is within the list
pub record IsPiece (ends : List ℕ) (from number total : ℕ) : Type 0 where
  pub order : piece_start from ends number ≤ slice_index ends number
  pub inside : slice_index ends number ≤ total

pub is_piece : (from : ℕ) (ends : List ℕ) (total number : ℕ) → AreEnds from ends total → number < length ends → IsPiece ends from number total
is_piece from [] total number h within = absurd (omega (arith, within))
is_piece from (end ∷ ends) total zero h within = record { order = h.0; inside = ends_above end ends total h.1 }
is_piece from (end ∷ ends) total (suc zero) h within =
    let r = is_piece end ends total zero h.1 (omega (arith, within)) in record { order = r.order; inside = r.inside }
is_piece from (end ∷ ends) total (suc (suc number)) h within =
    let r = is_piece end ends total (suc number) h.1 (omega (arith, within)) in record { order = r.order; inside = r.inside }

-- the list with a number is this piece
pub row_is : {X : Type 0} (from : ℕ) (ends : List ℕ) (numbers : List X) (number : ℕ) → number < length ends →
    numbered_row (pieces_to from ends numbers) number ≡ slice_range numbers (piece_start from ends number) (slice_index ends number)
row_is from [] numbers number within = absurd (omega (arith, within))
row_is from (end ∷ ends) numbers zero within = refl
row_is from (end ∷ ends) numbers (suc zero) within = row_is end ends numbers zero (omega (arith, within))
row_is from (end ∷ ends) numbers (suc (suc number)) within = row_is end ends numbers (suc number) (omega (arith, within))

pub ruleset piece = (row_is, is_piece, as_many)

-- a piece stays the same when more numbers follow
within_still : {X : Type 0} (numbers more : List X) (from end : ℕ) → from ≤ end → end ≤ length numbers →
    slice_range (numbers ++ more) from end ≡ slice_range numbers from end
within_still numbers more from end order inside =
    ap (take (end - from)) (drop-append-le from numbers more (omega (arith, order, inside)))
    ∙ take-append-le (end - from) (drop from numbers) more (omega (arith, order, inside, length-drop from numbers))

last_piece : {X : Type 0} (numbers more : List X) (from : ℕ) → from ≡ length numbers → slice_range (numbers ++ more) from (length numbers + length more) ≡ more
last_piece numbers more from is =
    ap (take (length numbers + length more - from)) (ap (λ n. drop n (numbers ++ more)) is ∙ drop-append_seam numbers more)
    ∙ take_all (length numbers + length more - from) more (omega (arith, is))

-- one more list
pub one_more : {X : Type 0} (from : ℕ) (ends : List ℕ) (numbers more : List X) → AreEnds from ends (length numbers) →
    pieces_to from (ends ++ (length numbers + length more) ∷ []) (numbers ++ more) ≡ pieces_to from ends numbers ++ more ∷ []
one_more from [] numbers more h = ap (λ l. l ∷ []) (last_piece numbers more from h)
one_more from (end ∷ ends) numbers more h =
    let first = within_still numbers more from end h.0 (ends_above end ends (length numbers) h.1) in
    let rest = one_more end ends numbers more h.1 in cc

pub ends_more : (from : ℕ) (ends : List ℕ) (total more : ℕ) → AreEnds from ends total → AreEnds from (ends ++ (total + more) ∷ []) (total + more)
ends_more from [] total more h = (omega (arith, h), refl)
ends_more from (end ∷ ends) total more h = (h.0, ends_more end ends total more h.1)

pub ruleset pushing = (one_more, ends_more)

pub ruleset counting = (as_many)
