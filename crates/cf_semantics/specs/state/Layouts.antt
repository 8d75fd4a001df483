-- What the moves need to know about a layout.
use Rattle.std.specs.Prelude.{ℕ, Bool, false, ◌==◌, if◌then◌else◌}
use Rattle.rv_inst.specs.declared.classes.Class.{Class}
use Rattle.rv_inst.specs.declared.classes.Class.TheVariants.{Memory}
use Rattle.rv_inst.specs.declared.isa.Isa.{Isa}
use Rattle.rv_inst.specs.declared.isa.Isa.TheVariants.{Rv32i, Rv32im}
use Rattle.cf_layout.specs.Layout.{Plan, siding_of, launch_stage, recover_stage, last_stage, has_mul}
use Rattle.cf_semantics.specs.state.Options.{on}

-- a processor that multiplies and divides reads words as RV32IM, any other as RV32I
abbrev pub isa_of : Plan → Isa
isa_of plan = if has_mul plan then Rv32im else Rv32i

-- the number of Memory's siding, at whose end the port to memory is
unfoldable pub port : Plan → ℕ
port plan = on (siding_of plan Memory) 0 (λ k. k)

-- a siding for the class launches at the stage
abbrev pub launches : Plan → Class → ℕ → Bool
launches plan c i = on (siding_of plan c) false (λ k. launch_stage plan k == i)

-- a siding for the class recovers at the stage
abbrev pub recovers : Plan → Class → ℕ → Bool
recovers plan c i = on (siding_of plan c) false (λ k. recover_stage plan k == i)

-- the last unit for the class, which has no siding, is at the stage
abbrev pub ends_units : Plan → Class → ℕ → Bool
ends_units plan c i = on (siding_of plan c) (last_stage plan c == i) (λ k. false)
