-- The contents of the pipes from the top down, without their stages. No move up or down changes it ("Counterflow
-- Pipeline Processor Architecture", 1994: the order of instructions and results).
use Rattle.std.specs.Prelude.{List, map}
use Rattle.cf_bind.specs.declared.cell.Cell.{Cell}
use Rattle.cf_bind.specs.declared.packet.Packet.{Packet}
use Rattle.cf_bind.specs.declared.passenger.Passenger.{Passenger}
use Rattle.cf_semantics.specs.state.Column.{Item, Up, Down, column_from}

-- an instruction or a result
pub data StageContent : Type 0 where
  Instruction : Passenger → StageContent
  Outcome : Packet → StageContent

-- an item of the column without the stage where it is
abbrev pub stage_content : Item → StageContent
stage_content (Up i p) = Instruction p
stage_content (Down i k) = Outcome k

-- the column of the stages, from the top down, without the stages
unfoldable pub contents : List Cell → List StageContent
contents cells = map stage_content (column_from 1 cells)
