-- What a sweep has left of a kind of move: the stages above its last pick at which the move is allowed, as a word with bit
-- i - 1 for stage i.
use Rattle.std.specs.Prelude.{◌≡◌, ℕ, ◌+◌, ◌-◌, ◌<◌, ◌&&◌, true, false, nat_lt}
use Rattle.cf_bind.specs.declared.moves.Move.{Move}
use Rattle.cf_layout.specs.Layout.{Plan}
use Rattle.cf_layout.specs.Words.{has_bit}
use Rattle.cf_semantics.specs.moves.Moves.{moved}
use Rattle.cf_semantics.specs.state.State.{State}
use Rattle.cf_index.specs.Allowed.{word_allowed}

-- the word has the stages above stage a at which the move of this kind is allowed
unfoldable pub AreLeft : Plan → State → (a : ℕ) → (ℕ → Move) → ℕ → Type 0
AreLeft plan s a kind w = (k : ℕ) → has_bit w k ≡ (has_bit (word_allowed plan s kind) k && nat_lt a (k + 1))

-- the stage is the lowest of the word
pub record IsLowest (w i : ℕ) : Type 0 where
  pub numbered : 0 < i
  pub here : has_bit w (i - 1) ≡ true
  pub first : (k : ℕ) → k + 1 < i → has_bit w k ≡ false

-- the move of the kind was made at the lowest of the stages that were left above stage a
pub record IsMadeAt (plan : Plan) (old new : State) (a : ℕ) (kind : ℕ → Move) (w i : ℕ) : Type 0 where
  pub left : AreLeft plan old a kind w
  pub lowest : IsLowest w i
  pub moved_is : new ≡ moved plan old (kind i)
