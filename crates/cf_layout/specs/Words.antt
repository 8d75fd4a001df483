-- Sets of stages and of classes as bits of a word: bit i - 1 for stage i, and for a class the bit of its index in class
-- order.
use Rattle.std.specs.Prelude.{ℕ, ◌-◌, ◌^◌, ◌/◌, ◌%◌, ◌+◌, List, [], ◌∷◌, filter, nat_eq, Bool}
use Rattle.rv_inst.specs.declared.classes.Class.{Class}
use Rattle.cf_layout.specs.Layout.{place_of, computed_classes}
use Rattle.cf_layout.specs.Asked.{stage_numbers}

-- the word has the bit
unfoldable pub has_bit : ℕ → ℕ → Bool
has_bit w i = nat_eq (w / 2 ^ i % 2) 1

-- the elements of the list whose bit the word has
unfoldable pub members : {X : Type 0} → (X → ℕ) → List X → ℕ → List X
members bit xs w = filter (λ x. has_bit w (bit x)) xs

-- the word that has the bits of the list, all of which differ
unfoldable pub word_of_list : {X : Type 0} → (X → ℕ) → List X → ℕ
word_of_list bit [] = 0
word_of_list bit (x ∷ xs) = 2 ^ bit x + word_of_list bit xs

-- the bit of a stage
abbrev pub bit_of : ℕ → ℕ
bit_of stage = stage - 1

-- the stages of a word, ascending
abbrev pub stages_of_word : ℕ → List ℕ
stages_of_word w = members bit_of stage_numbers w

-- the classes of a word, in class order
abbrev pub classes_of_word : ℕ → List Class
classes_of_word w = members place_of computed_classes w
