use Rattle.std.proofs.Common.{◌≡◌, ◌≤◌, ◌+◌, length}
use Rattle.std.specs.Prelude.{option_map, false}
use Rattle.rv_asm.specs.Strings.{string_from}
use Rattle.rv_asm.proofs.strings.open_string_len.Given as goal

abbrev pub invariant-loop-after : goal.invariant-loop-after
invariant-loop-after l = record {
  within : l.count + length l.rest ≤ length l.text;
  same : option_map (λ bytes. l.count + length bytes) (string_from false l.rest)
      ≡ option_map (λ bytes. length bytes) (string_from false l.text);
}

abbrev pub decreases-loop-after : goal.decreases-loop-after
decreases-loop-after l = length l.rest
