-- The table of sites is right: a move leaves what it does not write unchanged, and what it does depends only on what it
-- reads.
use Rattle.std.proofs.Common.{◌≡◌, ℕ, zero, suc, List, [], ◌∷◌, ◌++◌, Option, Some, None, Bool, true, false, ◌==◌, ◌||◌, refl, sym, ap, subst, ◌∙◌, arith}
use Rattle.std.specs.Prelude.{slice_get, slice_set, unwrap_or}
use Rattle.mem_regions.specs.Memory as regions
use Rattle.mem_regions.specs.Access.{bounds_of}
use Rattle.rv_machine.specs.Call.{Called}
use Rattle.rv_machine.specs.Call as called
use Rattle.cf_layout.specs.Layout.{Plan}
use Rattle.cf_bind.specs.declared.cell.Cell.{Cell}
use Rattle.cf_bind.specs.declared.cell.Op.{Op}
use Rattle.cf_bind.specs.declared.passenger.Passenger.{Passenger}
use Rattle.cf_bind.specs.declared.passenger.End.{End}
use Rattle.cf_bind.specs.declared.moves.Move.{Move}
use Rattle.cf_bind.specs.declared.moves.Move.TheVariants.{Issue, Emit, Climb, Fall, Meet, Execute, Send, Launch, Slide, Access, Recover, Leave, Exit, Serve}
use Rattle.cf_semantics.specs.state.Options.{on}
use Rattle.cf_semantics.specs.moves.Instructions.{serve_of}
use Rattle.cf_semantics.specs.declared.event.Event.{Event}
use Rattle.cf_semantics.specs.declared.event.Event.TheVariants as event
use Rattle.cf_semantics.specs.moves.Events.{IsEvent, meeting_event}
use Rattle.cf_semantics.specs.state.State.{State, Moment, cell_at, put_cell}
use Rattle.cf_semantics.specs.state.Passengers.{instruction}
use Rattle.cf_semantics.specs.moves.Bars.{bar}
use Rattle.cf_semantics.specs.moves.Moves.{asked, next, served}
use Rattle.cf_semantics.specs.moves.Sites.{AreAlike, HasFrame, IsLocal, Site, Stage, SidingCell, Lane, Fetching, Cache, Registers, Memory, Code, Input, Output, Count, Ended, Failure, OfStage, OfCell, OfNumbers, OfFetch, OfCache, OfMemory, OfCode, OfCount, OfEnding, bytes_of, codes_of, content, only_reads, only_writes, reads, uses, writes}
use Rattle.theory_refinement.proofs.column.Sidings.{cells_in}
use Rattle.theory_refinement.proofs.instructions.Steps.{served_bounds}
use Rattle.theory_confluence.proofs.sites.Contents.{after_break, after_same, memory_same}
use Rattle.theory_confluence.proofs.sites.Effects.{CellPut, Effect, StagePut, effect, put_op, put_ops, put_stages}
use Rattle.theory_confluence.proofs.sites.Independent.{is_serve, next_made}
use Rattle.theory_confluence.proofs.sites.Locals.{has_law, stage_same}
use Rattle.theory_confluence.proofs.sites.Touches.{accessing, cell_other, codes_stay, framed, made, op_other, get_other, touches, untouched, differ}

-- setting a site keeps two moments the same where they were the same
alike : (i j : ℕ) → (i == j) ≡ true → i ≡ j
alike i j e = grind (arith, e)

get_here : {A : Type 0} → (q : List A) (k : ℕ) (a : A) → slice_get (slice_set q k a) k ≡ on (slice_get q k) None (λ _. Some a)
get_here [] k a = refl
get_here (x ∷ q) zero a = refl
get_here (x ∷ q) (suc k) a = get_here q k a

get_put : {A : Type 0} → (q r : List A) (k m : ℕ) (a : A) → slice_get q m ≡ slice_get r m → slice_get (slice_set q k a) m ≡ slice_get (slice_set r k a) m
get_put q r k m a e = go (m == k) refl
  where
    go : (b : Bool) → (m == k) ≡ b → slice_get (slice_set q k a) m ≡ slice_get (slice_set r k a) m
    go false f = get_other q k m a (differ m k f) ∙ e ∙ sym (get_other r k m a (differ m k f))
    go true f = let z = alike m k f in rw (← z) (get_here q m a ∙ ap (λ (o : Option _). on o None (λ _. Some a)) e ∙ sym (get_here r m a))

cell_put : (cells others : List Cell) (i j : ℕ) (c : Cell) → cell_at cells j ≡ cell_at others j →
    cell_at (put_cell cells i c) j ≡ cell_at (put_cell others i c) j
cell_put cells others zero j c e = e
cell_put cells others (suc i) zero c e = refl
cell_put cells others (suc i) (suc j) c e = get_put cells others i j c e

stages_put : (ps : List StagePut) (cells others : List Cell) (j : ℕ) → cell_at cells j ≡ cell_at others j →
    cell_at (put_stages ps cells) j ≡ cell_at (put_stages ps others) j
stages_put [] cells others j e = e
stages_put (p ∷ ps) cells others j e = stages_put ps (put_cell cells p.stage p.cell) (put_cell others p.stage p.cell) j
    (cell_put cells others p.stage j p.cell e)

op_here : (ss : List (List (Option Op))) (k c : ℕ) (o : Option Op) → slice_get (cells_in (put_op ss k c o) k) c
    ≡ on (slice_get (cells_in ss k) c) None (λ _. Some o)
op_here [] k c o = refl
op_here (q ∷ ss) zero c o = get_here q c o
op_here (q ∷ ss) (suc k) c o = op_here ss k c o

op_put : (ss rs : List (List (Option Op))) (k c j d : ℕ) (o : Option Op) → slice_get (cells_in ss j) d ≡ slice_get (cells_in rs j) d →
    slice_get (cells_in (put_op ss k c o) j) d ≡ slice_get (cells_in (put_op rs k c o) j) d
op_put ss rs k c j d o e = go (j == k) (d == c) refl refl
  where
    away : (j ≡ k → d ≡ c → ⊥) → slice_get (cells_in (put_op ss k c o) j) d ≡ slice_get (cells_in (put_op rs k c o) j) d
    away n = op_other ss k c j d o n ∙ e ∙ sym (op_other rs k c j d o n)

    go : (a b : Bool) → (j == k) ≡ a → (d == c) ≡ b → slice_get (cells_in (put_op ss k c o) j) d ≡ slice_get (cells_in (put_op rs k c o) j) d
    go false b f g = away (λ x y. differ j k f x)
    go true false f g = away (λ x y. differ d c g y)
    go true true f g = let y = alike j k f in let z = alike d c g in rw (← y, ← z) (op_here ss j d o
        ∙ ap (λ (p : Option (Option Op)). on p None (λ _. Some o)) e ∙ sym (op_here rs j d o))

ops_put : (ps : List CellPut) (ss rs : List (List (Option Op))) (j d : ℕ) → slice_get (cells_in ss j) d ≡ slice_get (cells_in rs j) d →
    slice_get (cells_in (put_ops ps ss) j) d ≡ slice_get (cells_in (put_ops ps rs) j) d
ops_put [] ss rs j d e = e
ops_put (p ∷ ps) ss rs j d e = ops_put ps (put_op ss p.siding p.number p.op) (put_op rs p.siding p.number p.op) j d (op_put ss rs p.siding p.number j d p.op e)

-- the memory
bytes_put : (o : Option Op) (m n : regions.Memory) → bounds_of m ≡ bounds_of n → bytes_of m ≡ bytes_of n → bytes_of (accessing o m) ≡ bytes_of (accessing o n)
bytes_put None m n e f = f
bytes_put (Some op) m n e f = after_same op.instr op.a op.b m n e f

break_stays : (o : Option Op) (m : regions.Memory) → (accessing o m).program_break ≡ m.program_break
break_stays None m = refl
break_stays (Some op) m = after_break op.instr op.a op.b m

two : {bytes others : List (List ℕ)} {a b : ℕ} → bytes ≡ others → a ≡ b → OfMemory bytes a ≡ OfMemory others b
two e f = rw (e, f) refl

bytes_in : (m t : Moment) → content m Memory ≡ content t Memory → (bytes_of m.state.mem ≡ bytes_of t.state.mem)
    × (m.state.mem.program_break ≡ t.state.mem.program_break)
bytes_in m t e = (cc, cc)

-- an effect keeps two moments the same where they were the same
put_same : (e : Effect) (m t : Moment) (x : Site) → HasFrame m.state t.state → content m x ≡ content t x → content (made e m) x ≡ content (made e t) x
put_same e m t (Stage j) f h = ap OfStage (stages_put e.stages m.state.cells t.state.cells j (cc))
put_same e m t (SidingCell k c) f h = ap OfCell (ops_put e.ops m.state.sidings t.state.sidings k c (cc))
put_same e m t Lane f h = ap (λ (l : List ℕ). OfNumbers (unwrap_or e.lane l)) (cc)
put_same e m t Fetching f h = ap (λ l. OfFetch (unwrap_or e.fetch l)) (cc)
put_same e m t Cache f h = ap (λ (l : List (Option ℕ)). OfCache (unwrap_or e.cache l)) (cc)
put_same e m t Registers f h = ap (λ (l : List ℕ). OfNumbers (unwrap_or e.regs l)) (cc)
put_same e m t Memory f h = let z = bytes_in m t h in two (bytes_put e.access m.state.mem t.state.mem f.bounds z.0) (break_stays e.access m.state.mem ∙ z.1
    ∙ sym (break_stays e.access t.state.mem))
put_same e m t Code f h = ap OfCode (codes_stay e.access m.state.mem) ∙ h ∙ sym (ap OfCode (codes_stay e.access t.state.mem))
put_same e m t Input f h = h
put_same e m t Output f h = h
put_same e m t Count f h = ap (λ (n : ℕ). OfCount (unwrap_or e.count n)) (cc)
put_same e m t Ended f h = ap (λ (o : Option End). OfEnding (on e.ending o Some)) (cc)
put_same e m t Failure f h = h

-- a move reads all that it writes
written_read : (l : Plan) (s : State) (mv : Move) (x : Site) → writes l s mv x ≡ true → reads l s mv x ≡ true
written_read l s mv x w = go (uses l s mv x) refl
  where
    besides : (mv : Move) → only_writes l s mv x ≡ true → only_reads mv x ≡ true
    besides Leave h = grind (arith, h)
    besides Serve h = grind (arith, h)
    besides (Issue g) h = absurd (cc)
    besides Emit h = absurd (cc)
    besides (Climb i) h = absurd (cc)
    besides (Fall i) h = absurd (cc)
    besides (Meet i) h = absurd (cc)
    besides (Execute i) h = absurd (cc)
    besides (Send i) h = absurd (cc)
    besides (Launch i) h = absurd (cc)
    besides (Slide k c) h = absurd (cc)
    besides Access h = absurd (cc)
    besides (Recover i) h = absurd (cc)
    besides Exit h = absurd (cc)

    or_left : (a b : Bool) → a ≡ true → (a || b) ≡ true
    or_left true b e = refl
    or_left false b e = absurd (cc)

    or_right : (a b c : Bool) → a ≡ false → (a || b) ≡ true → (b ≡ true → c ≡ true) → (a || c) ≡ true
    or_right false b c e f g = g f
    or_right true b c e f g = absurd (cc)

    go : (b : Bool) → uses l s mv x ≡ b → reads l s mv x ≡ true
    go true e = or_left (uses l s mv x) (only_reads mv x) e
    go false e = or_right (uses l s mv x) (only_writes l s mv x) (only_reads mv x) e w (besides mv)

-- the event
event_same : (l : Plan) (m t : Moment) (mv : Move) (e : Event) → AreAlike (reads l m.state mv) m t → IsEvent l m.state mv e → IsEvent l t.state mv e
event_same l m t (Meet i) e h v = v ∙ ap (λ (o : Option Cell). on o event.Plain (λ c. on c.passenger event.Plain
    (λ p. on c.packet event.Plain (meeting_event p)))) (stage_same m t i (h.sites (Stage i) (self i)))
  where
    self : (i : ℕ) → reads l m.state (Meet i) (Stage i) ≡ true
    self i = grind arith
event_same l m t Leave e h v = λ c p f g. v c p (stage_same m t l.stages (h.sites (Stage l.stages) (self l.stages)) ∙ f) g
  where
    self : (n : ℕ) → reads l m.state Leave (Stage l.stages) ≡ true
    self n = grind arith
event_same l m t (Issue g) e h v = v
event_same l m t Emit e h v = v
event_same l m t (Climb i) e h v = v
event_same l m t (Fall i) e h v = v
event_same l m t (Execute i) e h v = v
event_same l m t (Send i) e h v = v
event_same l m t (Launch i) e h v = v
event_same l m t (Slide k c) e h v = v
event_same l m t Access e h v = v
event_same l m t (Recover i) e h v = v
event_same l m t Exit e h v = v
event_same l m t Serve e h v = v

-- any move but Serve
made_leaves : (l : Plan) (m : Moment) (mv : Move) → is_serve mv ≡ false → bar l m.state mv ≡ None → (x : Site) → writes l m.state mv x ≡ false →
    content (next l m mv) x ≡ content m x
made_leaves l m mv n e x w = ap (λ (k : Moment). content k x) (next_made l m mv n) ∙ untouched (effect l m.state mv) m x
    (go (touches (effect l m.state mv) x) refl)
  where
    clash : true ≡ false → ⊥
    clash e = cc

    go : (b : Bool) → touches (effect l m.state mv) x ≡ b → touches (effect l m.state mv) x ≡ false
    go false t = t
    go true t = absurd (clash (sym ((has_law l m mv).within e x t) ∙ w))

made_same : (l : Plan) (m t : Moment) (mv : Move) → is_serve mv ≡ false → AreAlike (reads l m.state mv) m t → bar l m.state mv ≡ None → (x : Site) →
    writes l m.state mv x ≡ true → content (next l m mv) x ≡ content (next l t mv) x
made_same l m t mv n h e x w =
    ap (λ (k : Moment). content k x) (next_made l m mv n)
    ∙ put_same (effect l m.state mv) m t x h.frame (h.sites x (written_read l m.state mv x w))
    ∙ ap (λ (f : Effect). content (made f t) x) ((has_law l m mv).effect_by t e h)
    ∙ sym (ap (λ (k : Moment). content k x) (next_made l t mv n))

-- Serve
serve_leaves : (l : Plan) (m : Moment) (x : Site) → writes l m.state Serve x ≡ false → content (next l m Serve) x ≡ content m x
unfolding next
serve_leaves l m x w = go (cell_at m.state.cells l.stages)
  where
    stage : (j : ℕ) (c : Cell) → writes l m.state Serve (Stage j) ≡ false → OfStage (cell_at (put_cell m.state.cells l.stages c) j)
        ≡ OfStage (cell_at m.state.cells j)
    stage j c w = ap OfStage (cell_other m.state.cells l.stages j c (differ j l.stages (first w)))
      where
        first : writes l m.state Serve (Stage j) ≡ false → (j == l.stages) ≡ false
        first w = grind (arith, w)

    clash : true ≡ false → ⊥
    clash e = cc

    answer : (x : Site) (c : Cell) (p : Passenger) (a : Called) → writes l m.state Serve x ≡ false → content (served m l.stages c p a) x ≡ content m x
    answer (Stage j) c p (called.Value a) w = stage j _ w
    answer (Stage j) c p (called.Exit z) w = stage j _ w
    answer (SidingCell k d) c p (called.Value a) w = refl
    answer (SidingCell k d) c p (called.Exit z) w = refl
    answer Lane c p (called.Value a) w = refl
    answer Lane c p (called.Exit z) w = refl
    answer Fetching c p (called.Value a) w = refl
    answer Fetching c p (called.Exit z) w = refl
    answer Cache c p (called.Value a) w = refl
    answer Cache c p (called.Exit z) w = refl
    answer Registers c p (called.Value a) w = refl
    answer Registers c p (called.Exit z) w = refl
    answer Count c p (called.Value a) w = refl
    answer Count c p (called.Exit z) w = refl
    answer Ended c p (called.Value a) w = refl
    answer Ended c p (called.Exit z) w = refl
    answer Failure c p a w = absurd (clash w)
    answer Memory c p a w = absurd (clash w)
    answer Code c p a w = absurd (clash w)
    answer Input c p a w = absurd (clash w)
    answer Output c p a w = absurd (clash w)

    who : (c : Cell) (o : Option Passenger) → content (on o m (asked m l.stages c)) x ≡ content m x
    who c None = refl
    who c (Some p) = answer x c p (serve_of (instruction p) m.state.regs m.state.mem m.rest) w

    go : (o : Option Cell) → content (on o m (λ c. on c.passenger m (asked m l.stages c))) x ≡ content m x
    go None = refl
    go (Some c) = who c c.passenger

-- what a Serve finds
record Served (l : Plan) (m t : Moment) : Type 0 where
  cell : cell_at m.state.cells l.stages ≡ cell_at t.state.cells l.stages
  regs : m.state.regs ≡ t.state.regs
  mem : m.state.mem ≡ t.state.mem
  rest : m.rest ≡ t.rest
  output : m.output ≡ t.output

found : (l : Plan) (m t : Moment) → AreAlike (reads l m.state Serve) m t → Served l m t
found l m t h = record {
  cell = top (h.sites (Stage l.stages) (self l.stages));
  regs = regs (h.sites Registers refl);
  mem = let z = bytes_in m t (h.sites Memory refl) in memory_same m.state.mem t.state.mem h.frame.bounds z.0 (codes (h.sites Code refl)) z.1;
  rest = input (h.sites Input refl);
  output = output (h.sites Output refl);
}
  where
    self : (n : ℕ) → reads l m.state Serve (Stage l.stages) ≡ true
    self n = grind arith

    top : content m (Stage l.stages) ≡ content t (Stage l.stages) → cell_at m.state.cells l.stages ≡ cell_at t.state.cells l.stages
    top e = cc

    regs : content m Registers ≡ content t Registers → m.state.regs ≡ t.state.regs
    regs e = cc

    codes : content m Code ≡ content t Code → codes_of m.state.mem ≡ codes_of t.state.mem
    codes e = cc

    input : content m Input ≡ content t Input → m.rest ≡ t.rest
    input e = cc

    output : content m Output ≡ content t Output → m.output ≡ t.output
    output e = cc

serve_same : (l : Plan) (m t : Moment) → AreAlike (reads l m.state Serve) m t → (x : Site) → content m x ≡ content t x →
    content (next l m Serve) x ≡ content (next l t Serve) x
unfolding next
serve_same l m t h x e = rw q.cell (go (cell_at t.state.cells l.stages))
  where
    q : Served l m t
    q = found l m t h

    answer : (x : Site) (c : Cell) (p : Passenger) (a : Called) → content m x ≡ content t x →
        content (served m l.stages c p a) x ≡ content (served t l.stages c p a) x
    answer (Stage j) c p (called.Value a) e = ap OfStage (cell_put m.state.cells t.state.cells l.stages j _ (cc))
    answer (Stage j) c p (called.Exit z) e = ap OfStage (cell_put m.state.cells t.state.cells l.stages j _ (cc))
    answer (SidingCell k d) c p (called.Value a) e = e
    answer (SidingCell k d) c p (called.Exit z) e = e
    answer Lane c p (called.Value a) e = e
    answer Lane c p (called.Exit z) e = e
    answer Fetching c p (called.Value a) e = e
    answer Fetching c p (called.Exit z) e = e
    answer Cache c p (called.Value a) e = e
    answer Cache c p (called.Exit z) e = e
    answer Registers c p (called.Value a) e = e
    answer Registers c p (called.Exit z) e = e
    answer Count c p (called.Value a) e = e
    answer Count c p (called.Exit z) e = e
    answer Ended c p (called.Value a) e = e
    answer Ended c p (called.Exit z) e = e
    answer Failure c p (called.Value a) e = e
    answer Failure c p (called.Exit z) e = e
    answer Memory c p (called.Value a) e = refl
    answer Memory c p (called.Exit z) e = e
    answer Code c p (called.Value a) e = refl
    answer Code c p (called.Exit z) e = e
    answer Input c p (called.Value a) e = refl
    answer Input c p (called.Exit z) e = e
    answer Output c p (called.Value a) e = ap (λ (o : List ℕ). OfNumbers (o ++ a.output)) q.output
    answer Output c p (called.Exit z) e = e

    who : (c : Cell) (o : Option Passenger) → content (on o m (asked m l.stages c)) x ≡ content (on o t (asked t l.stages c)) x
    who c None = e
    who c (Some p) = answer x c p (serve_of (instruction p) m.state.regs m.state.mem m.rest) e
        ∙ ap (λ (a : Called). content (served t l.stages c p a) x) (calls (instruction p))
      where
        calls : (i : _) → serve_of i m.state.regs m.state.mem m.rest ≡ serve_of i t.state.regs t.state.mem t.rest
        calls i = rw (q.regs, q.mem, q.rest) refl

    go : (o : Option Cell) → content (on o m (λ c. on c.passenger m (asked m l.stages c))) x ≡ content (on o t (λ c. on c.passenger t (asked t l.stages c))) x
    go None = e
    go (Some c) = who c c.passenger

serves : (mv : Move) → is_serve mv ≡ true → mv ≡ Serve
unfolding is_serve
serves Serve e = refl
serves (Issue g) e = absurd (cc)
serves Emit e = absurd (cc)
serves (Climb i) e = absurd (cc)
serves (Fall i) e = absurd (cc)
serves (Meet i) e = absurd (cc)
serves (Execute i) e = absurd (cc)
serves (Send i) e = absurd (cc)
serves (Launch i) e = absurd (cc)
serves (Slide k c) e = absurd (cc)
serves Access e = absurd (cc)
serves (Recover i) e = absurd (cc)
serves Leave e = absurd (cc)
serves Exit e = absurd (cc)

leaves : (l : Plan) (m : Moment) (mv : Move) → bar l m.state mv ≡ None → (x : Site) → writes l m.state mv x ≡ false → content (next l m mv) x ≡ content m x
leaves l m mv e x w = go (is_serve mv) refl
  where
    go : (b : Bool) → is_serve mv ≡ b → content (next l m mv) x ≡ content m x
    go false n = made_leaves l m mv n e x w
    go true n = let z = serves mv n in rw z (serve_leaves l m x (rw z at w))

makes : (l : Plan) (m t : Moment) (mv : Move) → AreAlike (reads l m.state mv) m t → bar l m.state mv ≡ None → (x : Site) → writes l m.state mv x ≡ true →
    content (next l m mv) x ≡ content (next l t mv) x
makes l m t mv h e x w = go (is_serve mv) refl
  where
    go : (b : Bool) → is_serve mv ≡ b → content (next l m mv) x ≡ content (next l t mv) x
    go false n = made_same l m t mv n h e x w
    go true n = let z = serves mv n in rw z (serve_same l m t (subst (λ (v : Move). AreAlike (reads l m.state v) m t) z h) x
        (h.sites x (written_read l m.state mv x w)))

-- the frame
serve_frame : (l : Plan) (m : Moment) → HasFrame m.state (next l m Serve).state
unfolding next
serve_frame l m = go (cell_at m.state.cells l.stages)
  where
    same : HasFrame m.state m.state
    same = record { bounds = refl; sizes = λ k. refl }

    answer : (c : Cell) (p : Passenger) (a : Called) → serve_of (instruction p) m.state.regs m.state.mem m.rest ≡ a →
        HasFrame m.state (served m l.stages c p a).state
    answer c p (called.Value a) e = record { bounds = sym (served_bounds (instruction p) m.state.regs m.state.mem m.rest a e); sizes = λ k. refl }
    answer c p (called.Exit z) e = record { bounds = refl; sizes = λ k. refl }

    who : (c : Cell) (o : Option Passenger) → HasFrame m.state (on o m (asked m l.stages c)).state
    who c None = same
    who c (Some p) = answer c p (serve_of (instruction p) m.state.regs m.state.mem m.rest) refl

    go : (o : Option Cell) → HasFrame m.state (on o m (λ c. on c.passenger m (asked m l.stages c))).state
    go None = same
    go (Some c) = who c c.passenger

keeps_frame : (l : Plan) (m : Moment) (mv : Move) → HasFrame m.state (next l m mv).state
keeps_frame l m mv = go (is_serve mv) refl
  where
    go : (b : Bool) → is_serve mv ≡ b → HasFrame m.state (next l m mv).state
    go false n = rw (next_made l m mv n) (framed (effect l m.state mv) m.state)
    go true n = rw (serves mv n) (serve_frame l m)

pub local : (l : Plan) (m : Moment) (mv : Move) → IsLocal l m mv
local l m mv = record {
  frame = λ _. keeps_frame l m mv;
  leaves = leaves l m mv;
  bars = (has_law l m mv).bar_by;
  events = λ t e h. event_same l m t mv e h;
  makes = λ t h. makes l m t mv h;
}
