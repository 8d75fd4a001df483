-- Bindings as bytes: the register, then its value if it is known; a flag elsewhere says whether it is.
use Rattle.std.specs.Prelude.{ℕ, Bool, false, Option, List, ◌++◌}
use Rattle.cf_bind.specs.declared.binding.Binding.{Binding}
use Rattle.cf_semantics.specs.state.Options.{is_some, on}
use Rattle.order_keys.specs.Unpacked.{Unpacked, got}
use Rattle.order_keys.specs.Numbers.{packed_byte, unpacked_byte, packed_word, unpacked_word}
use Rattle.order_keys.specs.Compounds.{packed_some, unpacked_some}

unfoldable pub packed_binding : Binding → List ℕ
packed_binding b = packed_byte b.reg ++ packed_some packed_word b.value

-- a binding whose value is known or is not
unfoldable pub unpacked_binding : Bool → List ℕ → Unpacked Binding
unpacked_binding known bs =
    let reg = unpacked_byte bs in
    let value = unpacked_some unpacked_word known reg.left in
    got (record { reg = reg.value; value = value.value }) value.left

-- whether there is a binding, and its value is known
abbrev pub has_value : Option Binding → Bool
has_value bound = on bound false (λ b. is_some b.value)
