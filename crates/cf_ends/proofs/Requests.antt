-- A request for which there is room drops no other.
use Rattle.std.proofs.Common.{◌≡◌, ℕ, ◌<◌, List, [], ◌∷◌, ◌++◌, length, arith}
use Rattle.std.specs.Prelude.{All}
use Rattle.std.proofs.lemmas.Grind.{common_steps}
use Rattle.std.proofs.lemmas.List.Elements.{All-push}
use Rattle.circular_buffer.specs.Buffer.{keep_last}

-- a lane with room keeps all its requests and the new one
pub all-kept : (lane : List ℕ) (r room : ℕ) → length lane < room → keep_last room (lane ++ r ∷ []) ≡ lane ++ r ∷ []
all-kept lane r room h = grind (arith, common_steps)

-- if each request was for a register, so is each one now
pub registers-kept : (lane : List ℕ) (r room : ℕ) → length lane < room → All (λ q. q < 32) lane → r < 32 → All (λ q. q < 32) (keep_last room (lane ++ r ∷ []))
registers-kept lane r room h all low = rw (all-kept lane r room h) (All-push (λ q. q < 32) lane r all low)

pub ruleset requesting = (all-kept, registers-kept)
