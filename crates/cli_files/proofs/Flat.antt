-- The parts of a flat image are never refused.
use Rattle.std.proofs.Common.{◌≡◌, ℕ, ◌≤◌, [], ◌∷◌, None, arith}
use Rattle.std.proofs.lemmas.Bool.Decides.{nat_tests}
use Rattle.std.proofs.lemmas.Grind.{common_steps}
use Rattle.mem_regions.specs.Refusal.{refusal, too_many, first_wrapping, too_large, first_overlap}
use Rattle.cli_files.specs.Image.{flat_part, stack_part}
use Rattle.cli_files.specs.Image.{most_bytes}

pub flat-accepted : (size : ℕ) → size ≤ most_bytes → refusal (flat_part size ∷ stack_part ∷ []) ≡ None
unfolding refusal too_many first_wrapping too_large first_overlap
flat-accepted size h = grind (arith, common_steps, nat_tests)

pub ruleset flat = (flat-accepted)
