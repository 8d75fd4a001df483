-- The built-in layout.
use Rattle.std.specs.Prelude.{[], ◌∷◌, false}
use Rattle.rv_inst.specs.declared.classes.Class.TheVariants.{Memory}
use Rattle.cf_layout.specs.Layout.{SidingPlan, Plan}

-- loads and stores leave the pipeline at stage 4 and come back at stage 6; two of them can be in flight
abbrev pub memory_siding : SidingPlan
memory_siding = record { classes = Memory ∷ []; launch = 4; recover = 6; cells = 2 }

-- eight stages: three adders, two units each for logic and for comparing, one each for shifts, branches and jumps, and
-- memory through a siding
abbrev pub plain : Plan
plain = record {
  stages = 8;
  lane = 16;
  cache = false;
  units = (2 ∷ 4 ∷ 6 ∷ []) ∷ (2 ∷ 4 ∷ []) ∷ (4 ∷ []) ∷ (2 ∷ 4 ∷ []) ∷ (3 ∷ []) ∷ (3 ∷ []) ∷ [] ∷ [] ∷ [] ∷ [];
  sidings = memory_siding ∷ [];
}
