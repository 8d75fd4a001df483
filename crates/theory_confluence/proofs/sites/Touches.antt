-- Where an effect is made, and that effects made at different sites can be made in either order.
use Rattle.std.proofs.Common.{◌≡◌, ◌≢◌, ℕ, zero, suc, List, [], ◌∷◌, length, Option, Some, None, Bool, true, false, ◌==◌, ◌&&◌, ◌||◌, refl, sym, ap, ◌∙◌, arith, length-set}
use Rattle.std.specs.Prelude.{slice_get, slice_set, unwrap_or, map}
use Rattle.mem_regions.specs.Area.{Area}
use Rattle.mem_regions.specs.Memory as regions
use Rattle.mem_regions.specs.Access.{bounds_of}
use Rattle.cf_bind.specs.declared.cell.Cell.{Cell}
use Rattle.cf_bind.specs.declared.cell.Op.{Op}
use Rattle.cf_bind.specs.declared.packet.Fetch.{Fetch}
use Rattle.cf_bind.specs.declared.passenger.End.{End}
use Rattle.cf_semantics.specs.state.Options.{on, is_some}
use Rattle.cf_semantics.specs.moves.Instructions.{mem_after}
use Rattle.cf_semantics.specs.state.State.{State, Moment, cell_at, put_cell}
use Rattle.cf_semantics.specs.moves.Sites.{HasFrame, Site, Stage, SidingCell, Lane, Fetching, Cache, Registers, Memory, Code, Input, Output, Count, Ended, Failure, OfStage, OfCell, OfNumbers, OfFetch, OfCache, OfCode, OfCount, OfEnding, content, codes_of}
use Rattle.cf_semantics.specs.moves.Fetches.{Text, area_text, code_of}
use Rattle.theory_refinement.proofs.column.Sidings.{cells_in}
use Rattle.theory_refinement.proofs.instructions.Steps.{bounds_after, code_after}
use Rattle.theory_confluence.proofs.sites.Effects.{Effect, StagePut, CellPut, applied, put_stages, put_op, put_ops}
use Rattle.std.proofs.lemmas.Bool.{or_parts, or_right}

abbrev pub any_stage : ℕ → List StagePut → Bool
any_stage j [] = false
any_stage j (p ∷ ps) = (j == p.stage) || any_stage j ps

abbrev pub any_cell : ℕ → ℕ → List CellPut → Bool
any_cell k c [] = false
any_cell k c (p ∷ ps) = ((k == p.siding) && (c == p.number)) || any_cell k c ps

-- the effect gives the site new contents
abbrev pub touches : Effect → Site → Bool
touches e (Stage j) = any_stage j e.stages
touches e (SidingCell k c) = any_cell k c e.ops
touches e Lane = is_some e.lane
touches e Fetching = is_some e.fetch
touches e Cache = is_some e.cache
touches e Registers = is_some e.regs
touches e Memory = is_some e.access
touches e Code = false
touches e Input = false
touches e Output = false
touches e Count = is_some e.count
touches e Ended = is_some e.ending
touches e Failure = false

-- a moment with an effect made
abbrev pub made : Effect → Moment → Moment
made e m = record m { state = applied e m.state }

pub differ : (i j : ℕ) → (i == j) ≡ false → i ≢ j
differ i j e f = grind (arith, e, f)

not_both : (k j c d : ℕ) → ((k == j) && (c == d)) ≡ false → k ≡ j → c ≡ d → ⊥
not_both k j c d e f g = grind (arith, e, f, g)

-- stages
pub get_other : {A : Type 0} → (q : List A) (k m : ℕ) (a : A) → m ≢ k → slice_get (slice_set q k a) m ≡ slice_get q m
get_other [] k m a e = refl
get_other (x ∷ q) zero zero a e = absurd (e refl)
get_other (x ∷ q) zero (suc m) a e = refl
get_other (x ∷ q) (suc k) zero a e = refl
get_other (x ∷ q) (suc k) (suc m) a e = get_other q k m a (λ f. e (ap suc f))

pub cell_other : (cells : List Cell) (i j : ℕ) (c : Cell) → j ≢ i → cell_at (put_cell cells i c) j ≡ cell_at cells j
cell_other cells zero j c e = refl
cell_other cells (suc i) zero c e = refl
cell_other cells (suc i) (suc j) c e = get_other cells i j c (λ f. e (ap suc f))

stages_other : (ps : List StagePut) (cells : List Cell) (j : ℕ) → any_stage j ps ≡ false → cell_at (put_stages ps cells) j ≡ cell_at cells j
stages_other [] cells j e = refl
stages_other (p ∷ ps) cells j e =
    let z = or_parts (j == p.stage) (any_stage j ps) e in
    stages_other ps (put_cell cells p.stage p.cell) j z.1 ∙ cell_other cells p.stage j p.cell (differ j p.stage z.0)

pub set_swap : {A : Type 0} → (q : List A) (i j : ℕ) (a b : A) → i ≢ j → slice_set (slice_set q i a) j b ≡ slice_set (slice_set q j b) i a
set_swap [] i j a b e = refl
set_swap (x ∷ q) zero zero a b e = absurd (e refl)
set_swap (x ∷ q) zero (suc j) a b e = refl
set_swap (x ∷ q) (suc i) zero a b e = refl
set_swap (x ∷ q) (suc i) (suc j) a b e = ap (λ (l : List _). x ∷ l) (set_swap q i j a b (λ f. e (ap suc f)))

pub put_swap : (cells : List Cell) (i j : ℕ) (c d : Cell) → i ≢ j → put_cell (put_cell cells i c) j d ≡ put_cell (put_cell cells j d) i c
put_swap cells zero zero c d e = refl
put_swap cells zero (suc j) c d e = refl
put_swap cells (suc i) zero c d e = refl
put_swap cells (suc i) (suc j) c d e = set_swap cells i j c d (λ f. e (ap suc f))

stage_past : (ps : List StagePut) (cells : List Cell) (j : ℕ) (d : Cell) → any_stage j ps ≡ false →
    put_stages ps (put_cell cells j d) ≡ put_cell (put_stages ps cells) j d
stage_past [] cells j d e = refl
stage_past (p ∷ ps) cells j d e =
    let z = or_parts (j == p.stage) (any_stage j ps) e in
    ap (put_stages ps) (put_swap cells j p.stage d p.cell (differ j p.stage z.0)) ∙ stage_past ps (put_cell cells p.stage p.cell) j d z.1

pub self : (i : ℕ) (b : Bool) → ((i == i) || b) ≡ true
self i b = grind arith

stages_swap : (ps qs : List StagePut) (cells : List Cell) → ((j : ℕ) → any_stage j qs ≡ true → any_stage j ps ≡ false) →
    put_stages ps (put_stages qs cells) ≡ put_stages qs (put_stages ps cells)
stages_swap ps [] cells h = refl
stages_swap ps (q ∷ qs) cells h = stages_swap ps qs (put_cell cells q.stage q.cell) (λ j e. h j (or_right (j == q.stage) (any_stage j qs) e))
    ∙ ap (put_stages qs) (stage_past ps cells q.stage q.cell (h q.stage (self q.stage (any_stage q.stage qs))))

-- sidings
pub op_other : (ss : List (List (Option Op))) (k c j d : ℕ) (o : Option Op) → (j ≡ k → d ≡ c → ⊥) →
    slice_get (cells_in (put_op ss k c o) j) d ≡ slice_get (cells_in ss j) d
op_other [] k c j d o e = refl
op_other (q ∷ ss) zero c zero d o e = get_other q c d o (e refl)
op_other (q ∷ ss) zero c (suc j) d o e = refl
op_other (q ∷ ss) (suc k) c zero d o e = refl
op_other (q ∷ ss) (suc k) c (suc j) d o e = op_other ss k c j d o (λ f. e (ap suc f))

ops_other : (ps : List CellPut) (ss : List (List (Option Op))) (j d : ℕ) → any_cell j d ps ≡ false →
    slice_get (cells_in (put_ops ps ss) j) d ≡ slice_get (cells_in ss j) d
ops_other [] ss j d e = refl
ops_other (p ∷ ps) ss j d e =
    let z = or_parts ((j == p.siding) && (d == p.number)) (any_cell j d ps) e in
    ops_other ps (put_op ss p.siding p.number p.op) j d z.1 ∙ op_other ss p.siding p.number j d p.op (not_both j p.siding d p.number z.0)

op_swap : (ss : List (List (Option Op))) (k c j d : ℕ) (o r : Option Op) → (k ≡ j → c ≡ d → ⊥) → put_op (put_op ss k c o) j d r ≡ put_op (put_op ss j d r) k c o
op_swap [] k c j d o r e = refl
op_swap (q ∷ ss) zero c zero d o r e = ap (λ (l : List (Option Op)). l ∷ ss) (set_swap q c d o r (e refl))
op_swap (q ∷ ss) zero c (suc j) d o r e = refl
op_swap (q ∷ ss) (suc k) c zero d o r e = refl
op_swap (q ∷ ss) (suc k) c (suc j) d o r e = ap (λ (l : List (List (Option Op))). q ∷ l) (op_swap ss k c j d o r (λ f. e (ap suc f)))

op_past : (ps : List CellPut) (ss : List (List (Option Op))) (j d : ℕ) (r : Option Op) → any_cell j d ps ≡ false →
    put_ops ps (put_op ss j d r) ≡ put_op (put_ops ps ss) j d r
op_past [] ss j d r e = refl
op_past (p ∷ ps) ss j d r e =
    let z = or_parts ((j == p.siding) && (d == p.number)) (any_cell j d ps) e in
    ap (put_ops ps) (op_swap ss j d p.siding p.number r p.op (not_both j p.siding d p.number z.0)) ∙ op_past ps (put_op ss p.siding p.number p.op) j d r z.1

pub self_cell : (i j : ℕ) (b : Bool) → (((i == i) && (j == j)) || b) ≡ true
self_cell i j b = grind arith

ops_swap : (ps qs : List CellPut) (ss : List (List (Option Op))) → ((j d : ℕ) → any_cell j d qs ≡ true → any_cell j d ps ≡ false) →
    put_ops ps (put_ops qs ss) ≡ put_ops qs (put_ops ps ss)
ops_swap ps [] ss h = refl
ops_swap ps (q ∷ qs) ss h = ops_swap ps qs (put_op ss q.siding q.number q.op) (λ j d e. h j d
    (or_right ((j == q.siding) && (d == q.number)) (any_cell j d qs) e)) ∙ ap (put_ops qs)
    (op_past ps ss q.siding q.number q.op (h q.siding q.number (self_cell q.siding q.number (any_cell q.siding q.number qs))))

-- single parts
given_other : {A : Type 0} → (o : Option A) (a : A) → is_some o ≡ false → unwrap_or o a ≡ a
given_other None a e = refl
given_other (Some b) a e = absurd (cc)

given_swap : {A : Type 0} → (o p : Option A) (a : A) → (is_some p ≡ true → is_some o ≡ false) → unwrap_or o (unwrap_or p a) ≡ unwrap_or p (unwrap_or o a)
given_swap None p a h = refl
given_swap (Some b) None a h = refl
given_swap (Some b) (Some c) a h = absurd (let z = h refl in cc)

end_other : (o p : Option End) → is_some o ≡ false → on o p Some ≡ p
end_other None p e = refl
end_other (Some b) p e = absurd (cc)

end_swap : (o p a : Option End) → (is_some p ≡ true → is_some o ≡ false) → on o (on p a Some) Some ≡ on p (on o a Some) Some
end_swap None p a h = refl
end_swap (Some b) None a h = refl
end_swap (Some b) (Some c) a h = absurd (let z = h refl in cc)

-- memory, with an access made
abbrev pub accessing : Option Op → regions.Memory → regions.Memory
accessing o mem = on o mem (λ op. mem_after op.instr op.a op.b mem)

mem_other : (o : Option Op) (mem : regions.Memory) → is_some o ≡ false → accessing o mem ≡ mem
mem_other None mem e = refl
mem_other (Some b) mem e = absurd (cc)

mem_swap : (o p : Option Op) (mem : regions.Memory) → (is_some p ≡ true → is_some o ≡ false) → accessing o (accessing p mem) ≡ accessing p (accessing o mem)
mem_swap None p mem h = refl
mem_swap (Some b) None mem h = refl
mem_swap (Some b) (Some c) mem h = absurd (let z = h refl in cc)

codes_in : (areas : List Area) → map (λ (t : Text). t.code) (map area_text areas) ≡ map (λ (a : Area). a.code) areas
codes_in [] = refl
codes_in (a ∷ areas) = ap (λ (l : List (List ℕ)). a.code ∷ l) (codes_in areas)

codes_are : (m : regions.Memory) → map (λ (t : Text). t.code) (code_of m) ≡ codes_of m
unfolding code_of codes_of
codes_are m = codes_in m.areas

pub codes_stay : (o : Option Op) (mem : regions.Memory) → codes_of (accessing o mem) ≡ codes_of mem
codes_stay None mem = refl
codes_stay (Some op) mem = sym (codes_are (mem_after op.instr op.a op.b mem)) ∙ ap (map (λ (t : Text). t.code)) (code_after op.instr op.a op.b mem)
    ∙ codes_are mem

pub bounds_stay : (o : Option Op) (mem : regions.Memory) → bounds_of (accessing o mem) ≡ bounds_of mem
bounds_stay None mem = refl
bounds_stay (Some op) mem = bounds_after op.instr op.a op.b mem

-- what an effect does not touch is unchanged
pub untouched : (e : Effect) (m : Moment) (x : Site) → touches e x ≡ false → content (made e m) x ≡ content m x
untouched e m (Stage j) h = ap OfStage (stages_other e.stages m.state.cells j h)
untouched e m (SidingCell k c) h = ap OfCell (ops_other e.ops m.state.sidings k c h)
untouched e m Lane h = ap OfNumbers (given_other e.lane m.state.lane h)
untouched e m Fetching h = ap OfFetch (given_other e.fetch m.state.fetch h)
untouched e m Cache h = ap OfCache (given_other e.cache m.state.cache h)
untouched e m Registers h = ap OfNumbers (given_other e.regs m.state.regs h)
untouched e m Memory h = ap (λ (mem : regions.Memory). content (record m { state = record m.state { mem = mem } }) Memory) (mem_other e.access m.state.mem h)
untouched e m Code h = ap OfCode (codes_stay e.access m.state.mem)
untouched e m Input h = refl
untouched e m Output h = refl
untouched e m Count h = ap OfCount (given_other e.count m.state.retired h)
untouched e m Ended h = ap OfEnding (end_other e.ending m.state.ending h)
untouched e m Failure h = refl

op_size : (ss : List (List (Option Op))) (k c j : ℕ) (o : Option Op) → length (cells_in (put_op ss k c o) j) ≡ length (cells_in ss j)
op_size [] k c j o = refl
op_size (q ∷ ss) zero c zero o = length-set q c o
op_size (q ∷ ss) zero c (suc j) o = refl
op_size (q ∷ ss) (suc k) c zero o = refl
op_size (q ∷ ss) (suc k) c (suc j) o = op_size ss k c j o

ops_size : (ps : List CellPut) (ss : List (List (Option Op))) (j : ℕ) → length (cells_in (put_ops ps ss) j) ≡ length (cells_in ss j)
ops_size [] ss j = refl
ops_size (p ∷ ps) ss j = ops_size ps (put_op ss p.siding p.number p.op) j ∙ op_size ss p.siding p.number j p.op

pub framed : (e : Effect) (s : State) → HasFrame s (applied e s)
framed e s = record { bounds = sym (bounds_stay e.access s.mem); sizes = λ k. sym (ops_size e.ops s.sidings k) }

abbrev state : List Cell → List (List (Option Op)) → List ℕ → Fetch → List (Option ℕ) → List ℕ → regions.Memory → ℕ → Option End → Bool → State
state c o l f k r m n e b = record { cells = c; sidings = o; lane = l; fetch = f; cache = k; regs = r; mem = m; retired = n; ending = e; failed = b }

-- effects at different sites
abbrev pub Apart : Effect → Effect → Type 0
Apart e f = (x : Site) → touches f x ≡ true → touches e x ≡ false

pub effects_swap : (e f : Effect) (s : State) → Apart e f → applied e (applied f s) ≡ applied f (applied e s)
effects_swap e f s h = parts
    (stages_swap e.stages f.stages s.cells (λ j. h (Stage j)))
    (ops_swap e.ops f.ops s.sidings (λ k c. h (SidingCell k c)))
    (given_swap e.lane f.lane s.lane (h Lane))
    (given_swap e.fetch f.fetch s.fetch (h Fetching))
    (given_swap e.cache f.cache s.cache (h Cache))
    (given_swap e.regs f.regs s.regs (h Registers))
    (mem_swap e.access f.access s.mem (h Memory))
    (given_swap e.count f.count s.retired (h Count))
    (end_swap e.ending f.ending s.ending (h Ended))
  where
    parts : {c c' : List Cell} {o o' : List (List (Option Op))} {l l' : List ℕ} {f f' : Fetch} {k k' : List (Option ℕ)} {r r' : List ℕ} {m m' : regions.Memory}
        {n n' : ℕ} {e e' : Option End} {b : Bool} →
        c ≡ c' → o ≡ o' → l ≡ l' → f ≡ f' → k ≡ k' → r ≡ r' → m ≡ m' → n ≡ n' → e ≡ e' →
        state c o l f k r m n e b ≡ state c' o' l' f' k' r' m' n' e' b
    parts p1 p2 p3 p4 p5 p6 p7 p8 p9 = rw (p1, p2, p3, p4, p5, p6, p7, p8, p9) refl
