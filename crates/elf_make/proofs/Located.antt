-- The bytes of a file from an offset on, and the numbers that are read there.
use Rattle.std.proofs.Common.{◌≡◌, ℕ, ◌+◌, ◌^◌, ◌<◌, List, [], ◌++◌, length, take, drop, sym, ap, ◌∙◌}
use Rattle.std.proofs.lemmas.List.{drop-drop}
use Rattle.std.proofs.Math.Seq.{drop-append_seam, take-append_seam}
use Rattle.byteorder.specs.Endian.{little_number, little_bytes}
use Rattle.byteorder.specs.Numbers.{little_number-reads_back}
use Rattle.elf_view.specs.Fields.{word, bytes_at}

-- after a part comes the next
pub after-part : (file part rest : List ℕ) (at next : ℕ) → drop at file ≡ part ++ rest → next ≡ at + length part → drop next file ≡ rest
after-part file part rest at next e h =
    ap (λ (n : ℕ). drop n file) h ∙ sym (drop-drop (length part) at file)
    ∙ ap (λ (l : List ℕ). drop (length part) l) e ∙ drop-append_seam part rest

-- the part itself
pub part-at : (file part rest : List ℕ) (at count : ℕ) → drop at file ≡ part ++ rest → count ≡ length part → bytes_at file at count ≡ part
part-at file part rest at count e h =
    ap (λ (l : List ℕ). take count l) e ∙ ap (λ (n : ℕ). take n (part ++ rest)) h ∙ take-append_seam part rest

-- a number of a part, by its offset there
pub word-in : (file part : List ℕ) (at k a : ℕ) → drop at file ≡ part → a ≡ at + k → word file a ≡ word part k
unfolding word
word-in file part at k a e h =
    ap (λ (l : List ℕ). little_number 4 l)
    (ap (λ (n : ℕ). drop n file) h ∙ sym (drop-drop k at file) ∙ ap (λ (l : List ℕ). drop k l) e)

-- a number is read as it was written
pub word-is : (n : ℕ) → n < 2 ^ 32 → little_number 4 (little_bytes 4 n) ≡ n
word-is n h = little_number-reads_back 4 n [] h
