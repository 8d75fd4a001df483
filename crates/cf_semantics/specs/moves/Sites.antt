-- The sites of a moment, and which of them each move reads and may write. Moves at different sites can be made in
-- either order.
use Rattle.std.specs.Prelude.{◌≡◌, ℕ, ◌+◌, ◌-◌, List, [], ◌∷◌, length, map, Option, None, Bool, true, false, ◌==◌, ◌&&◌, ◌||◌, not, slice_get}
use Rattle.mem_regions.specs.Memory as regions
use Rattle.mem_regions.specs.Access.{bounds_of}
use Rattle.cf_layout.specs.Layout.{Plan, launch_stage, recover_stage}
use Rattle.cf_bind.specs.declared.cell.Cell.{Cell}
use Rattle.cf_bind.specs.declared.cell.Op.{Op}
use Rattle.cf_bind.specs.declared.packet.Fetch.{Fetch}
use Rattle.cf_bind.specs.declared.passenger.End.{End}
use Rattle.cf_bind.specs.declared.moves.Move.{Move}
use Rattle.cf_bind.specs.declared.moves.Move.TheVariants.{Issue, Emit, Climb, Fall, Meet, Execute, Send, Launch, Slide, Access, Recover, Leave, Exit, Serve}
use Rattle.cf_semantics.specs.declared.event.Event.{Event}
use Rattle.cf_semantics.specs.state.Options.{on, is_some}
use Rattle.cf_semantics.specs.state.State.{State, Moment, cell_at, siding_at}
use Rattle.cf_semantics.specs.state.Layouts.{port}
use Rattle.cf_semantics.specs.moves.Bars.{bar}
use Rattle.cf_semantics.specs.moves.Moves.{next}
use Rattle.cf_semantics.specs.moves.Events.{IsEvent}

-- a stage, by its number; a cell of a siding, by the numbers of both; and the rest of a moment, part by part
pub data Site : Type 0 where
  Stage : ℕ → Site
  SidingCell : ℕ → ℕ → Site
  Lane : Site
  Fetching : Site
  Cache : Site
  Registers : Site
  Memory : Site
  Code : Site
  Input : Site
  Output : Site
  Count : Site
  Ended : Site
  Failure : Site

-- what can be found at a site
pub data Content : Type 0 where
  OfStage : Option Cell → Content
  OfCell : Option (Option Op) → Content
  OfNumbers : List ℕ → Content
  OfFetch : Fetch → Content
  OfCache : List (Option ℕ) → Content
  OfMemory : List (List ℕ) → ℕ → Content
  OfCode : List (List ℕ) → Content
  OfCount : ℕ → Content
  OfEnding : Option End → Content
  OfFailure : Bool → Content

-- the bytes of all regions, in order
unfoldable pub bytes_of : regions.Memory → List (List ℕ)
bytes_of m = map (λ a. a.bytes) m.areas

-- the code of all regions, in order
unfoldable pub codes_of : regions.Memory → List (List ℕ)
codes_of m = map (λ a. a.code) m.areas

-- what is at a site; the memory is the bytes of its regions and the break, and the bounds of regions are at no site,
-- since no move changes them
abbrev pub content : Moment → Site → Content
content m (Stage i) = OfStage (cell_at m.state.cells i)
content m (SidingCell k c) = OfCell (slice_get (siding_at m.state k) c)
content m Lane = OfNumbers m.state.lane
content m Fetching = OfFetch m.state.fetch
content m Cache = OfCache m.state.cache
content m Registers = OfNumbers m.state.regs
content m Memory = OfMemory (bytes_of m.state.mem) m.state.mem.program_break
content m Code = OfCode (codes_of m.state.mem)
content m Input = OfNumbers m.rest
content m Output = OfNumbers m.output
content m Count = OfCount m.state.retired
content m Ended = OfEnding m.state.ending
content m Failure = OfFailure m.state.failed

abbrev pub same_site : Site → Site → Bool
same_site (Stage i) (Stage j) = i == j
same_site (SidingCell k c) (SidingCell j d) = (k == j) && (c == d)
same_site Lane Lane = true
same_site Fetching Fetching = true
same_site Cache Cache = true
same_site Registers Registers = true
same_site Memory Memory = true
same_site Code Code = true
same_site Input Input = true
same_site Output Output = true
same_site Count Count = true
same_site Ended Ended = true
same_site Failure Failure = true
same_site _ _ = false

-- the site is one of these
abbrev pub among : Site → List Site → Bool
among x [] = false
among x (y ∷ ys) = same_site x y || among x ys

-- the number of the last cell of a siding
abbrev pub last_number : State → ℕ → ℕ
last_number s k = length (siding_at s k) - 1

-- the first cell of a siding that launches at the stage
abbrev pub is_way_in : Plan → ℕ → Site → Bool
is_way_in plan i (SidingCell k c) = (launch_stage plan k == i) && (c == 0)
is_way_in plan i _ = false

-- the last cell of a siding that recovers at the stage
abbrev pub is_way_out : Plan → State → ℕ → Site → Bool
is_way_out plan s i (SidingCell k c) = (recover_stage plan k == i) && (c == last_number s k)
is_way_out plan s i _ = false

-- the table: the sites that a move reads and may write
abbrev pub uses : Plan → State → Move → Site → Bool
uses plan s (Issue g) x = among x (Stage 1 ∷ Lane ∷ Fetching ∷ Cache ∷ [])
uses plan s Emit x = among x (Stage plan.stages ∷ Lane ∷ [])
uses plan s (Climb i) x = among x (Stage i ∷ Stage (i + 1) ∷ [])
uses plan s (Fall i) x = among x (Stage i ∷ Stage (i - 1) ∷ [])
uses plan s (Meet i) x = among x (Stage i ∷ [])
uses plan s (Execute i) x = among x (Stage i ∷ [])
uses plan s (Send i) x = among x (Stage i ∷ [])
uses plan s (Launch i) x = among x (Stage i ∷ []) || is_way_in plan i x
uses plan s (Slide k c) x = among x (SidingCell k c ∷ SidingCell k (c + 1) ∷ [])
uses plan s Access x = among x (SidingCell (port plan) (last_number s (port plan)) ∷ Memory ∷ [])
uses plan s (Recover i) x = among x (Stage i ∷ []) || is_way_out plan s i x
uses plan s Leave x = among x (Stage plan.stages ∷ Registers ∷ Count ∷ [])
uses plan s Exit x = among x (Stage 1 ∷ Fetching ∷ Cache ∷ [])
uses plan s Serve x = among x (Stage plan.stages ∷ Memory ∷ Code ∷ Input ∷ Output ∷ [])

-- the further sites that a move reads: every move reads whether the program has ended, and whether the input or the
-- output has failed; Issue also reads the code, Emit and Serve the registers
abbrev pub only_reads : Move → Site → Bool
only_reads (Issue g) x = among x (Code ∷ Ended ∷ Failure ∷ [])
only_reads Emit x = among x (Registers ∷ Ended ∷ Failure ∷ [])
only_reads Serve x = among x (Registers ∷ Ended ∷ Failure ∷ [])
only_reads _ x = among x (Ended ∷ Failure ∷ [])

abbrev pub reads : Plan → State → Move → Site → Bool
reads plan s mv x = uses plan s mv x || only_reads mv x

-- the highest stage holds a live instruction that ends the program
abbrev pub ends_there : Plan → State → Bool
ends_there plan s = on (cell_at s.cells plan.stages) false (λ c. on c.passenger false (λ p. not p.dead && is_some p.ending))

-- the further sites that a move writes: Leave ends the program if the instruction does; a Serve may fail
abbrev pub only_writes : Plan → State → Move → Site → Bool
only_writes plan s Leave x = ends_there plan s && among x (Ended ∷ [])
only_writes plan s Serve x = among x (Failure ∷ [])
only_writes plan s _ x = false

abbrev pub writes : Plan → State → Move → Site → Bool
writes plan s mv x = uses plan s mv x || only_writes plan s mv x

-- neither writes a site that the other reads or writes
pub record AreIndependent (plan : Plan) (s : State) (a b : Move) : Type 0 where
  pub first : (x : Site) → writes plan s a x ≡ true → (reads plan s b x || writes plan s b x) ≡ false
  pub second : (x : Site) → writes plan s b x ≡ true → (reads plan s a x || writes plan s a x) ≡ false

-- what no move changes, and what is therefore at no site: the bounds of the regions, and how many cells each siding has
pub record HasFrame (s t : State) : Type 0 where
  pub bounds : bounds_of s.mem ≡ bounds_of t.mem
  pub sizes : (k : ℕ) → length (siding_at s k) ≡ length (siding_at t k)

-- the two moments have the same contents at these sites
pub record AreAlike (at : Site → Bool) (m t : Moment) : Type 0 where
  pub frame : HasFrame m.state t.state
  pub sites : (x : Site) → at x ≡ true → content m x ≡ content t x

-- the move leaves the frame unchanged, and every site that it does not write; its bar, its event and what it writes
-- depend only on the sites that it reads
pub record IsLocal (plan : Plan) (m : Moment) (mv : Move) : Type 0 where
  pub frame : bar plan m.state mv ≡ None → HasFrame m.state (next plan m mv).state
  pub leaves : bar plan m.state mv ≡ None → (x : Site) → writes plan m.state mv x ≡ false → content (next plan m mv) x ≡ content m x
  pub bars : (t : Moment) → AreAlike (reads plan m.state mv) m t → bar plan m.state mv ≡ bar plan t.state mv
  pub events : (t : Moment) (e : Event) → AreAlike (reads plan m.state mv) m t → IsEvent plan m.state mv e → IsEvent plan t.state mv e
  pub makes : (t : Moment) → AreAlike (reads plan m.state mv) m t → bar plan m.state mv ≡ None → (x : Site) → writes plan m.state mv x ≡ true →
      content (next plan m mv) x ≡ content (next plan t mv) x
