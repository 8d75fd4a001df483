-- Pairs, optional values and lists are read back, provided their elements are.
use Rattle.std.proofs.Common.{◌≡◌, ℕ, Option, None, Some, List, ◌++◌, refl, append_assoc}
use Rattle.cf_semantics.specs.state.Options.{is_some}
use Rattle.order_keys.specs.Unpacked.{Unpacked, got, ReadsBack}
use Rattle.order_keys.specs.Numbers.{leading_byte, behind}
use Rattle.order_keys.specs.Compounds.{packed_pair, unpacked_pair, packed_triple, unpacked_triple, packed_option, unpacked_option, packed_some, unpacked_some}

pub pair_back : {A B : Type 0} {p : A → List ℕ} {q : B → List ℕ} {u : List ℕ → Unpacked A} {v : List ℕ → Unpacked B} →
    ReadsBack p u → ReadsBack q v → ReadsBack (packed_pair p q) (unpacked_pair u v)
unfolding packed_pair unpacked_pair
pair_back a b = record { back = λ x rest. simp (append_assoc, a.back, b.back) refl }

pub triple_back : {A B C : Type 0} {p : A → List ℕ} {q : B → List ℕ} {r : C → List ℕ}
    {u : List ℕ → Unpacked A} {v : List ℕ → Unpacked B} {w : List ℕ → Unpacked C} →
    ReadsBack p u → ReadsBack q v → ReadsBack r w → ReadsBack (packed_triple p q r) (unpacked_triple u v w)
unfolding packed_triple unpacked_triple
triple_back a b c = record { back = λ x rest. simp (append_assoc, a.back, b.back, c.back) refl }

option_reads : {A : Type 0} {p : A → List ℕ} {u : List ℕ → Unpacked A} → ReadsBack p u → (x : Option A) (rest : List ℕ) →
    unpacked_option u (packed_option p x ++ rest) ≡ got x rest
unfolding packed_option unpacked_option leading_byte behind
option_reads a None rest = refl
option_reads a (Some x) rest = simp a.back refl

pub option_back : {A : Type 0} {p : A → List ℕ} {u : List ℕ → Unpacked A} → ReadsBack p u →
    ReadsBack (packed_option p) (unpacked_option u)
option_back a = record { back = option_reads a }

-- a value is read back where it is said whether there is one
pub some_read : {A : Type 0} {p : A → List ℕ} {u : List ℕ → Unpacked A} → ReadsBack p u → (x : Option A) (rest : List ℕ) →
    unpacked_some u (is_some x) (packed_some p x ++ rest) ≡ got x rest
unfolding packed_some unpacked_some
some_read a None rest = refl
some_read a (Some x) rest = simp a.back refl
