-- The first place where a text and what is written to its comparison differ.
use Rattle.std.proofs.Common.{◌≡◌, ℕ, zero, suc, ◌-◌, ◌<◌, ◌≤◌, List, [], ◌∷◌, ◌++◌, length, take, drop, min, Option, Some, refl, sym, ap, arith, length-append}
use Rattle.std.specs.Prelude.{slice_get}
use Rattle.std.proofs.lemmas.List.{length-take}
use Rattle.cf_audit.specs.Compared.{IsOther}

-- a prefix of the group, followed by another byte of the group
pub record IsFrontOf (text group : List ℕ) (place other : ℕ) : Type 0 where
  pub same : take place text ≡ take place group
  pub next : slice_get group place ≡ Some other

front_of : (text group : List ℕ) (place k other : ℕ) → place ≤ length text → take place text ++ other ∷ [] ≡ take k group → IsFrontOf text group place other
front_of text [] zero zero other within e = absurd (cc)
front_of text [] zero (suc k) other within e = absurd (cc)
front_of text (g ∷ group) zero zero other within e = absurd (cc)
front_of text (g ∷ group) zero (suc k) other within e = let first : other ≡ g = cc in record { same = refl; next = ap Some (sym first) }
front_of [] group (suc place) k other within e = absurd (omega arith)
front_of (x ∷ text) [] (suc place) zero other within e = absurd (cc)
front_of (x ∷ text) [] (suc place) (suc k) other within e = absurd (cc)
front_of (x ∷ text) (g ∷ group) (suc place) zero other within e = absurd (cc)
front_of (x ∷ text) (g ∷ group) (suc place) (suc k) other within e =
    let first : x ≡ g = cc in
    let rest : take place text ++ other ∷ [] ≡ take k group = cc in
    let h = front_of text group place k other (omega arith) rest in
    record { same = rw first (ap (λ (l : List ℕ). g ∷ l) h.same); next = h.next }

-- a text agrees up to one index, and the rest agrees with the group up to another, at which the group has another byte
pub parted : (text group : List ℕ) (from to k other : ℕ) → from ≤ length text → to ≤ length text → IsOther text to other →
    take to text ++ other ∷ [] ≡ take from text ++ take k group
    → (from ≤ to) × IsFrontOf (drop from text) group (to - from) other
parted text group zero to k other within low differs e =
    let same : to - zero ≡ to = omega arith in
    (omega arith, rw same (front_of text group to k other low e))
parted [] group (suc from) to k other within low differs e = absurd (omega arith)
parted (x ∷ text) group (suc from) zero k other within low differs e =
    let first : x ≡ other = cc in
    absurd (differs (ap Some first))
parted (x ∷ text) group (suc from) (suc to) k other within low differs e =
    let rest : take to text ++ other ∷ [] ≡ take from text ++ take k group = cc in
    let h = parted text group from to k other (omega arith) (omega arith) differs rest in
    let same : suc to - suc from ≡ to - from = omega arith in
    (omega (arith, h.0), rw same h.1)

-- a byte after a prefix of a text
pub byte_after : (text : List ℕ) (from to : ℕ) (byte : Option ℕ) → from ≤ to → slice_get (drop from text) (to - from) ≡ byte → slice_get text to ≡ byte
byte_after text zero to byte low e = let same : to - zero ≡ to = omega arith in rw same at e
byte_after text (suc from) zero byte low e = absurd (omega arith)
byte_after [] (suc from) (suc to) byte low e = e
byte_after (x ∷ text) (suc from) (suc to) byte low e =
    let same : suc to - suc from ≡ to - from = omega arith in
    byte_after text from to byte (omega arith) (rw same at e)

-- a longer prefix continues a shorter one
pub goes_on : (text more : List ℕ) (from to : ℕ) → from ≤ length text → to ≤ length text → 0 < length more → take to text ≡ take from text ++ more → from < to
goes_on text more from to low high some e =
    let size : length (take to text) ≡ length (take from text ++ more) = ap length e in
    omega (arith, size, length-append (take from text) more, length-take {A = ℕ})

-- a prefix that may be longer than the text
pub front_within : (text : List ℕ) (place : ℕ) → take (min place (length text)) text ≡ take place text
front_within text zero = let none : min zero (length text) ≡ zero = omega arith in rw none refl
front_within [] (suc place) = let none : min (suc place) 0 ≡ zero = omega arith in rw none refl
front_within (x ∷ text) (suc place) =
    let more : min (suc place) (suc (length text)) ≡ suc (min place (length text)) = omega arith in
    rw more (ap (λ (front : List ℕ). x ∷ front) (front_within text place))

pub ruleset fronts = (front_within)
