use Rattle.std.proofs.Common.{◌≡◌, ◌++◌, length}
use Rattle.std.specs.Prelude.{option_map, false}
use Rattle.rv_asm.specs.Strings.{string_from}
use Rattle.rv_asm.proofs.strings.push_open_string.Given as goal

abbrev pub invariant-loop-byte : goal.invariant-loop-byte
invariant-loop-byte l =
    option_map (λ string. l.bytes.items ++ string) (string_from false l.rest)
    ≡ option_map (λ string. l.initial.bytes.items ++ string) (string_from false l.text)

abbrev pub decreases-loop-byte : goal.decreases-loop-byte
decreases-loop-byte l = length l.rest
