-- What the loop that puts all bytes maintains.
use Rattle.std.proofs.Common.{◌≡◌, ℕ, ◌+◌, ◌-◌, ◌≤◌, List, ◌++◌, take, drop, length, Option, Some, None, subst, ap, refl, ◌∙◌, append_assoc}
use Rattle.std.proofs.Math.Seq.{take-add, take-length}
use Rattle.std.proofs.lemmas.List.{length-drop}
use Rattle.cf_io.specs.Puts.{Writes}

-- this many bytes from the start are written, and no fault was counted
pub record HasPut (written after : Option (List ℕ)) (bytes : List ℕ) (done before now : ℕ) :
    Type 0 where
  pub within : done ≤ length bytes
  pub told : Writes written after (take done bytes)
  pub still : now ≡ before

-- a prefix, and then a prefix of the rest
pub writes-add : (a b c : Option (List ℕ)) (bytes : List ℕ) (i n : ℕ) →
    Writes a b (take i bytes) → Writes b c (take n (drop i bytes)) → Writes a c (take (i + n) bytes)
writes-add None b c bytes i n first next = tt
writes-add (Some written) b c bytes i n first next =
    let P : Option (List ℕ) → Type 0 = λ told. Writes told c (take n (drop i bytes)) in
    let both : c ≡ Some ((written ++ take i bytes) ++ take n (drop i bytes)) = subst P first next in
    both ∙ ap Some (rw (append_assoc, take-add i n bytes) refl)

-- the slice from i on, as the code takes it
pub rest-from : (i : ℕ) (bytes : List ℕ) → take (length bytes - i) (drop i bytes) ≡ drop i bytes
rest-from i bytes = rw (← length-drop i bytes) (take-length (drop i bytes))
