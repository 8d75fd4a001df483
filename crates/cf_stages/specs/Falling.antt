-- Results that fall one after another, each from a stage above the one before ("Counterflow Pipeline Processor Architecture",
-- 1994: a result moves down when the stage below is free).
use Rattle.std.specs.Prelude.{◌≡◌, ℕ, ◌+◌, ◌<◌, List, [], ◌∷◌, Bool, false, IsTrue, not, ◌&&◌, length, nat_lt}
use Rattle.cf_bind.specs.declared.cell.Cell.{Cell}
use Rattle.cf_layout.specs.Words.{has_bit}
use Rattle.cf_semantics.specs.moves.Bars.{is_full}
use Rattle.cf_semantics.specs.state.Options.{on, is_some}
use Rattle.cf_semantics.specs.state.State.{cell_at}
use Rattle.cf_stages.specs.Changes.{cells_fallen, falls}

-- a result is in the stage, and has met the instruction there, if there is one
abbrev pub rests : List Cell → ℕ → Bool
rests cells i = on (cell_at cells i) false (λ c. is_some c.packet && not (is_full c))

-- the stages after the results of these have fallen one after another; the stage of the last Fall is listed first
unfoldable pub all_fallen : List Cell → List ℕ → List Cell
all_fallen cells [] = cells
all_fallen cells (i ∷ stages) = cells_fallen (all_fallen cells stages) i

-- the stage of the last Fall; if there was none, this stage
abbrev pub last_of : ℕ → List ℕ → ℕ
last_of a [] = a
last_of a (i ∷ stages) = i

-- of the stages above stage a, stage i is the lowest from which a result can fall
pub record IsNextFall (cells : List Cell) (a i : ℕ) : Type 0 where
  pub above : a < i
  pub free : IsTrue (falls cells i)
  pub first : (k : ℕ) → a < k → k < i → falls cells k ≡ false

-- the results of these stages fall, each the next one above the stage of the Fall before; the first is the next above stage a
unfoldable pub FallInTurn : List Cell → ℕ → List ℕ → Type 0
FallInTurn cells a [] = Unit {0}
FallInTurn cells a (i ∷ stages) = FallInTurn cells a stages × IsNextFall (all_fallen cells stages) (last_of a stages) i

-- the word has the stages above stage a from which a result can fall
unfoldable pub AreFalls : List Cell → ℕ → ℕ → Type 0
AreFalls cells a w = (k : ℕ) → has_bit w k ≡ (falls cells (k + 1) && nat_lt a (k + 1))

-- the word has these stages above some stage
abbrev pub AreSomeFalls : List Cell → ℕ → Type 0
AreSomeFalls cells w = (a : ℕ) × AreFalls cells a w

-- the word has the stages where a result rests
abbrev pub AreResting : List Cell → ℕ → Type 0
AreResting cells w = (k : ℕ) → has_bit w k ≡ rests cells (k + 1)

-- from the stage above which the word has those from which a result can fall, results fell in turn until none could: this
-- many, and the last from this stage, if any did
pub record FallsOn (cells : List Cell) (w : ℕ) (new : List Cell) (count last : ℕ) : Type 0 where
  pub start : ℕ
  pub word : AreFalls cells start w
  pub stages : List ℕ
  pub in_turn : FallInTurn cells start stages
  pub new_is : new ≡ all_fallen cells stages
  pub count_is : count ≡ length stages
  pub last_is : last ≡ last_of 0 stages
  pub ends : (k : ℕ) → last_of start stages < k → falls new k ≡ false
