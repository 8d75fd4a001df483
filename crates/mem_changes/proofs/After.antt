-- Bytes with changes made: other addresses, one list after another, and lists that agree.
use Rattle.std.proofs.Common.{◌≡◌, ◌≢◌, ℕ, suc, ◌+◌, ◌<◌, ◌≤◌, List, [], ◌∷◌, ◌++◌, Bool, true, false, length, refl, ap, sym, ◌∙◌, arith}
use Rattle.std.specs.Prelude.{◌==◌, if◌then◌else◌, filter}
use Rattle.std.specs.List.{AllByRecursion}
use Rattle.std.proofs.lemmas.Bool.Decides.{nat_tests}
use Rattle.mem_changes.specs.declared.changes.Change.{Change}
use Rattle.mem_changes.specs.Applied.{byte_after, bytes_after}

-- a change at this address, and at another one
pub changed_here : (addr byte y o : ℕ) → addr ≡ y → (if addr == y then byte else o) ≡ byte
changed_here addr byte y o e = go (addr == y) refl where
  go : (t : Bool) → t ≡ (addr == y) → (if t then byte else o) ≡ byte
  go true f = refl
  go false f = absurd (grind (arith, nat_tests))

pub changed_elsewhere : (addr byte y o : ℕ) → addr ≢ y → (if addr == y then byte else o) ≡ o
changed_elsewhere addr byte y o h = go (addr == y) refl where
  go : (t : Bool) → t ≡ (addr == y) → (if t then byte else o) ≡ o
  go true f = absurd (h (grind (arith, nat_tests)))
  go false f = refl

-- one list of changes after another
pub byte_after-append : (cs ds : List Change) (y o : ℕ) → byte_after (cs ++ ds) y o ≡ byte_after ds y (byte_after cs y o)
byte_after-append [] ds y o = refl
byte_after-append (c ∷ cs) ds y o = byte_after-append cs ds y (if c.addr == y then c.byte else o)

-- changes at other addresses
pub byte_after-avoids : (cs : List Change) (y o : ℕ) → AllByRecursion (λ c. c.addr ≢ y) cs → byte_after cs y o ≡ o
byte_after-avoids [] y o h = refl
byte_after-avoids (c ∷ cs) y o h = rw (changed_elsewhere c.addr c.byte y o h.0) (byte_after-avoids cs y o h.1)

-- changes among which those of this address are kept
pub byte_after-filter : (test : Change → Bool) (cs : List Change) (y o : ℕ) → ((c : Change) → c.addr ≡ y → test c ≡ true) →
    byte_after (filter test cs) y o ≡ byte_after cs y o
byte_after-filter test [] y o h = refl
byte_after-filter test (c ∷ cs) y o h = go (test c) refl (byte_after-filter test cs y (if c.addr == y then c.byte else o) h) (byte_after-filter test cs y o h)
  where
    go : (t : Bool) → test c ≡ t → byte_after (filter test cs) y (if c.addr == y then c.byte else o) ≡ byte_after cs y (if c.addr == y then c.byte else o) →
        byte_after (filter test cs) y o ≡ byte_after cs y o → byte_after (filter test (c ∷ cs)) y o ≡ byte_after (c ∷ cs) y o
    go true e here later = rw e here
    go false e here later = rw e (later ∙ ap (byte_after cs y) (sym (changed_elsewhere c.addr c.byte y o (λ f. let k : test c ≡ true = h c f in cc))))

pub length-bytes_after : (cs : List Change) (addr : ℕ) (bytes : List ℕ) → length (bytes_after cs addr bytes) ≡ length bytes
length-bytes_after cs addr [] = refl
length-bytes_after cs addr (b ∷ bytes) = ap (λ (n : ℕ). suc n) (length-bytes_after cs (suc addr) bytes)

pub bytes_after-append : (cs : List Change) (addr : ℕ) (xs ys : List ℕ) →
    bytes_after cs addr (xs ++ ys) ≡ bytes_after cs addr xs ++ bytes_after cs (addr + length xs) ys
bytes_after-append cs addr [] ys = ap (λ (a : ℕ). bytes_after cs a ys) (omega arith)
bytes_after-append cs addr (x ∷ xs) ys = ap (λ (l : List ℕ). byte_after cs addr x ∷ l)
    (bytes_after-append cs (suc addr) xs ys ∙ ap (λ (a : ℕ). bytes_after cs (suc addr) xs ++ bytes_after cs a ys) (omega arith))

-- two lists of changes that affect each of the bytes in the same way
pub bytes_agree : (cs ds : List Change) (addr : ℕ) (bytes : List ℕ) →
    ((y o : ℕ) → addr ≤ y → y < addr + length bytes → byte_after cs y o ≡ byte_after ds y o) → bytes_after cs addr bytes ≡ bytes_after ds addr bytes
bytes_agree cs ds addr [] h = refl
bytes_agree cs ds addr (b ∷ bytes) h =
    let here : byte_after cs addr b ≡ byte_after ds addr b = h addr b (omega arith) (omega arith) in
    let later : bytes_after cs (suc addr) bytes ≡ bytes_after ds (suc addr) bytes =
    bytes_agree cs ds (suc addr) bytes (λ y o f g. h y o (omega arith) (omega arith)) in
    cc

-- no changes
pub bytes_after-none : (addr : ℕ) (bytes : List ℕ) → bytes_after [] addr bytes ≡ bytes
bytes_after-none addr [] = refl
bytes_after-none addr (b ∷ bytes) = ap (λ (l : List ℕ). b ∷ l) (bytes_after-none (suc addr) bytes)
