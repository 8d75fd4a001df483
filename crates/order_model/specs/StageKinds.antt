-- The moves of a kind, one at each stage.
use Rattle.std.specs.Prelude.{ℕ}
use Rattle.cf_bind.specs.declared.moves.Move.{Move}
use Rattle.cf_bind.specs.declared.moves.Move.TheVariants.{Climb, Fall, Meet, Execute, Send, Launch, Recover}
use Rattle.order_model.specs.declared.listing.StagedKind.{StagedKind}
use Rattle.order_model.specs.declared.listing.StagedKind.TheVariants as kind

-- the move of this kind at a stage
abbrev pub kind_at : StagedKind → ℕ → Move
kind_at kind.Climb i = Climb i
kind_at kind.Fall i = Fall i
kind_at kind.Meet i = Meet i
kind_at kind.Execute i = Execute i
kind_at kind.Send i = Send i
kind_at kind.Launch i = Launch i
kind_at kind.Recover i = Recover i
