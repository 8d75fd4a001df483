-- The lines of moves one by one.
use Rattle.std.proofs.Common.{◌≡◌, ℕ, zero, suc, ◌+◌, ◌≤◌, List, [], ◌∷◌, ◌++◌, Some, length, take, drop, refl, ap, sym, ◌∙◌, append-nil, append_assoc, add-one}
use Rattle.std.specs.Prelude.{slice_get}
use Rattle.std.proofs.lemmas.List.{take_all}
use Rattle.cf_bind.specs.declared.moves.Move.{Move}
use Rattle.cli_conform.specs.LogLines.{allowed_line, allowed_lines}

-- the line of the next move follows those so far
next_line : (moves : List Move) (k : ℕ) (mv : Move) → slice_get moves k ≡ Some mv →
    allowed_lines (take k moves) ++ allowed_line mv ≡ allowed_lines (take (suc k) moves)
next_line [] k mv e = absurd (cc)
next_line (first ∷ moves) zero mv e = let same : first ≡ mv = cc in rw same (sym (append-nil (allowed_line mv)))
next_line (first ∷ moves) (suc k) mv e =
    append_assoc (allowed_line first) (allowed_lines (take k moves)) (allowed_line mv)
    ∙ ap (λ (text : List ℕ). allowed_line first ++ text) (next_line moves k mv e)

pub line-next : (moves : List Move) (k : ℕ) (mv : Move) → Some mv ≡ slice_get moves k →
    allowed_lines (take k moves) ++ allowed_line mv ≡ allowed_lines (take (k + 1) moves)
line-next moves k mv e = next_line moves k mv (sym e) ∙ ap (λ (n : ℕ). allowed_lines (take n moves)) (sym (add-one k))

rest_of : (moves : List Move) (k : ℕ) → allowed_lines (take k moves) ++ allowed_lines (drop k moves) ≡ allowed_lines moves
rest_of moves zero = refl
rest_of [] (suc k) = refl
rest_of (first ∷ moves) (suc k) =
    append_assoc (allowed_line first) (allowed_lines (take k moves)) (allowed_lines (drop k moves))
    ∙ ap (λ (text : List ℕ). allowed_line first ++ text) (rest_of moves k)

-- other lines may follow it
pub line-after : (moves : List Move) (k : ℕ) (mv : Move) → Some mv ≡ slice_get moves k →
    (rest : List ℕ) × ((allowed_lines (take k moves) ++ allowed_line mv) ++ rest ≡ allowed_lines moves)
line-after moves k mv e =
    (allowed_lines (drop (k + 1) moves), ap (λ (text : List ℕ). text ++ allowed_lines (drop (k + 1) moves)) (line-next moves k mv e) ∙ rest_of moves (k + 1))

-- these are all lines
pub lines-all : (moves : List Move) (k : ℕ) → length moves ≤ k → allowed_lines (take k moves) ≡ allowed_lines moves
lines-all moves k all = ap (λ (ms : List Move). allowed_lines ms) (take_all k moves all)
