-- Results that fall one after another, as far as they can in one sweep upward ("Counterflow Pipeline Processor Architecture",
-- 1994: a result moves down when the stage below is free).
use Rattle.std.specs.Prelude.{◌≡◌, ℕ, ◌-◌, List, [], ◌∷◌, IsSome, false}
use Rattle.cf_bind.specs.declared.moves.Move.TheVariants.{Fall, Launch}
use Rattle.cf_layout.specs.Layout.{Plan}
use Rattle.cf_semantics.specs.state.State.{State}
use Rattle.cf_stages.specs.Changes.{packet_at}
use Rattle.cf_stages.specs.Falling.{FallsOn}
use Rattle.cf_core.specs.Marks.{row_allows}
use Rattle.cf_core.specs.Processors.{Processor, after_move}

-- the processor after the results of these stages have fallen one after another; the stage of the last Fall is listed first
unfoldable pub fallen : Processor → List ℕ → Processor
fallen p [] = p
fallen p (i ∷ stages) = after_move (fallen p stages) (Fall i)

-- no result can come to a stage from which an operation can be launched, where it might bar the launch
unfoldable pub BarNoLaunch : Plan → State → Type 0
BarNoLaunch plan s = (i : ℕ) → IsSome (packet_at s.cells i) → row_allows plan s (Launch (i - 1)) ≡ false

-- the results fall in turn, from the stages of the word and from those above
pub record FallsTo (p new : Processor) (w count last : ℕ) : Type 0 where
  pub falls : FallsOn p.state.cells w new.state.cells count last
  pub is : new ≡ fallen p falls.stages
