-- The address of a guess comes after its word.
use Rattle.std.proofs.Common.{append_assoc}
use Rattle.cf_bind.proofs.move_texts.push_guess.Goals as goal

pub returns-in-To : goal.returns-in-To
returns-in-To c = simp (c.push_hex.ensures, c.push-in-To.ensures, c.in-To.is, append_assoc)
