-- The text of an instruction, of a result, and of their stage in a picture (a format of this project).
use Rattle.std.specs.Prelude.{ℕ, ◌&&◌, not, List, [], ◌++◌, Option, Some, None, Bool, true, false, codes, decimal, is_none, if◌then◌else◌}
use Rattle.cf_bind.specs.declared.binding.Binding.{Binding}
use Rattle.cf_bind.specs.declared.packet.Packet.{Packet}
use Rattle.cf_bind.specs.declared.packet.Packet.TheVariants.{Value, Turn, Halt}
use Rattle.cf_bind.specs.declared.passenger.Guess.{Guess}
use Rattle.cf_bind.specs.declared.passenger.Guess.TheVariants.{Next, Taken, Wait, To}
use Rattle.cf_bind.specs.declared.passenger.End.{End}
use Rattle.cf_bind.specs.declared.passenger.End.TheVariants as end
use Rattle.cf_bind.specs.declared.passenger.Passenger.{Passenger}
use Rattle.cf_bind.specs.declared.cell.Cell.{Cell}
use Rattle.texts.specs.Hexadecimal.{hex8}
use Rattle.texts.specs.Lines.{line, register_name}

-- a register with its value
abbrev pub value_text : ℕ → ℕ → List ℕ
value_text r v = register_name r ++ codes "=" ++ hex8 v

-- a result
unfoldable pub packet_text : Packet → List ℕ
packet_text (Value r v) = value_text r v
packet_text (Turn pc) = codes "turn " ++ hex8 pc
packet_text Halt = codes "halt"

-- the guess of an instruction
unfoldable pub guess_field : Guess → List ℕ
guess_field Next = codes "next"
guess_field Taken = codes "taken"
guess_field Wait = codes "wait"
guess_field (To t) = codes "to:" ++ hex8 t

-- a register with its value, or `?` if the value is unknown
abbrev pub known_text : ℕ → Option ℕ → List ℕ
known_text r (Some v) = value_text r v
known_text r None = register_name r ++ codes "=?"

-- a binding, or `-` if there is none
unfoldable pub binding_text : Option Binding → List ℕ
binding_text (Some b) = known_text b.reg b.value
binding_text None = codes "-"

-- what an instruction still has to send, or `-`
unfoldable pub owed_text : Option Packet → List ℕ
owed_text (Some k) = packet_text k
owed_text None = codes "-"

-- how far a live instruction has come
abbrev pub progress_text : Option End → (done launched : Bool) → List ℕ
progress_text (Some (end.Trap cause pc detail)) done launched = codes "trap"
progress_text (Some (end.Exit status)) done launched = codes "exit"
progress_text None done launched = if done then codes "done" else if launched then codes "out" else codes "new"

-- the state of an instruction; a dead instruction may still have its operation in a siding
unfoldable pub flag_text : Passenger → List ℕ
flag_text p =
    if p.dead then (if p.launched && not p.recovered then codes "dead-out" else codes "dead")
    else progress_text p.ending p.done p.launched

-- its address, its guess and its state
abbrev pub standing_text : Passenger → List ℕ
standing_text p = hex8 p.pc ++ codes " " ++ guess_field p.guess ++ codes " " ++ flag_text p ++ codes " "

-- its two sources and its destination
abbrev pub bindings_text : Passenger → List ℕ
bindings_text p =
    binding_text p.src1 ++ codes " " ++ binding_text p.src2 ++ codes " " ++ binding_text p.dst ++ codes " "

-- an instruction: its address, guess and flag, its sources and its destination, and what it still has to send
unfoldable pub passenger_text : Passenger → List ℕ
passenger_text p = standing_text p ++ bindings_text p ++ owed_text p.owes

-- the state of a stage with an instruction and a result, by whether they have met
abbrev pub met_text : Bool → List ℕ
met_text true = codes " complete | "
met_text false = codes " full | "

-- the contents of a stage
unfoldable pub held_text : Option Passenger → Option Packet → Bool → List ℕ
held_text (Some p) (Some k) met = met_text met ++ passenger_text p ++ codes " | " ++ packet_text k
held_text (Some p) None met = codes " instruction | " ++ passenger_text p
held_text None (Some k) met = codes " result | " ++ packet_text k
held_text None None met = []

-- nothing is in a stage
abbrev pub is_empty_cell : Cell → Bool
is_empty_cell c = is_none c.passenger && is_none c.packet

-- the line of a stage, and no line for an empty one
unfoldable pub stage_line : ℕ → Cell → List ℕ
stage_line i c =
    if is_empty_cell c then []
    else line ((codes "stage " ++ decimal i) ++ held_text c.passenger c.packet c.met)

-- the line of any stage: an empty one has a line too
unfoldable pub any_stage_line : ℕ → Cell → List ℕ
any_stage_line i c = if is_empty_cell c then line ((codes "stage " ++ decimal i) ++ codes " empty") else stage_line i c
