-- The delays of a timed run: the fewest and the most ticks, for each kind of move and for each class that is executed,
-- launched or recovered (a format of this project).
use Rattle.std.specs.Prelude.{◌≡◌, ℕ, ◌+◌, ◌≤◌, List, None, length, map, slice_get, unwrap_or, All}
use Rattle.rv_inst.specs.declared.classes.Class.{Class}
use Rattle.rv_inst.specs.declared.classes.Class.TheVariants.{Add, Logic, Shift, Compare, Branch, Jump, Memory, Serial, Free, Mul, Div}
use Rattle.cf_bind.specs.declared.moves.Move.{Move}
use Rattle.cf_bind.specs.declared.moves.Move.TheVariants.{Execute, Launch, Recover}
use Rattle.cf_index.specs.Order.{kind_place}
use Rattle.cf_timed.specs.declared.span.Span.{Span}
use Rattle.cf_timed.specs.Drawing.{ticks_in}

-- 1 to 1,000 ticks
abbrev pub IsSpan : Span → Type 0
IsSpan span = (1 ≤ span.least) × (span.least ≤ span.greatest) × (span.greatest ≤ 1000)

-- one tick
abbrev pub one_tick : Span
one_tick = record { least = 1; greatest = 1 }

-- one for each of the fourteen kinds, in their order, followed by one for each class that is computed: of execute, of
-- launch, and of recover
abbrev pub span_count : ℕ
span_count = 41

pub record AreDelays (spans : List Span) : Type 0 where
  pub count : length spans ≡ span_count
  pub each : All IsSpan spans

-- the middle of each range
unfoldable pub middles_of : List Span → List ℕ
middles_of spans = map (λ span. ticks_in span None) spans

-- the index for a class: `first` is that of the first class of its kind; a class that is not computed has that of the
-- kind
abbrev pub class_slot : (kind first : ℕ) → Class → ℕ
class_slot kind first Add = first
class_slot kind first Logic = first + 1
class_slot kind first Shift = first + 2
class_slot kind first Compare = first + 3
class_slot kind first Branch = first + 4
class_slot kind first Jump = first + 5
class_slot kind first Memory = first + 6
class_slot kind first Mul = first + 7
class_slot kind first Div = first + 8
class_slot kind first Serial = kind
class_slot kind first Free = kind

-- the index for a move
abbrev pub slot_of : Move → Class → ℕ
slot_of (Execute i) class = class_slot 5 14 class
slot_of (Launch i) class = class_slot 7 23 class
slot_of (Recover i) class = class_slot 10 32 class
slot_of mv class = kind_place mv

-- how long a move takes, if the instruction that it executes, launches or recovers has this class
unfoldable pub span_of : List Span → Move → Class → Span
span_of spans mv class = unwrap_or (slice_get spans (slot_of mv class)) one_tick
