-- What is waited for, at both ends of the processor: where it starts, and at Leave, Emit, Issue and Exit.
use Rattle.std.proofs.Common.{◌≡◌, ◌≢◌, ℕ, List, [], ◌∷◌, ◌++◌, Option, Some, None, Bool, true, false, ◌==◌, ◌&&◌, ◌||◌, refl, sym, ap, subst, ◌∙◌, arith, append_assoc, ◌⊎◌, inl, inr}
use Rattle.std.specs.Prelude.{slice_index, slice_set}
use Rattle.rv_machine.specs.Machine.{Machine}
use Rattle.cf_bind.specs.declared.binding.Binding.{Binding}
use Rattle.cf_bind.specs.declared.cell.Cell.{Cell}
use Rattle.cf_bind.specs.declared.moves.Move.TheVariants.{Emit, Exit, Issue, Leave}
use Rattle.cf_bind.specs.declared.packet.Packet.{Packet}
use Rattle.cf_bind.specs.declared.packet.Packet.TheVariants.{Halt, Turn, Value}
use Rattle.cf_bind.specs.declared.passenger.Guess.{Guess}
use Rattle.cf_bind.specs.declared.passenger.Passenger.{Passenger}
use Rattle.cf_layout.specs.Layout.{Plan}
use Rattle.theory_refinement.proofs.column.Column.{rider_first, rider_gone, top_cell}
use Rattle.theory_refinement.proofs.moves.Emit.{emit_is, emit_ready, next_emit}
use Rattle.theory_refinement.proofs.moves.Exit.{above_exit, exit_ready, exit_was, next_exit}
use Rattle.theory_refinement.proofs.column.Fold.{fit_append, fit_back, fit_front, walk_append}
use Rattle.theory_refinement.proofs.moves.Issue.{issue_items, issue_ready, next_issue}
use Rattle.theory_refinement.proofs.moves.Rows.{bar_row}
use Rattle.theory_refinement.proofs.moves.Leave.{leave_ready, left_cells, next_leave}
use Rattle.theory_refinement.proofs.invariant.Invariant.{Sound}
use Rattle.theory_refinement.proofs.invariant.Suited.{Suits}
use Rattle.cf_semantics.specs.moves.Bars.{bar}
use Rattle.cf_semantics.specs.state.Column.{Down, Item, Up, column, column_from, items, packet_in}
use Rattle.cf_semantics.specs.moves.Instructions.{fetched}
use Rattle.cf_semantics.specs.state.Layouts.{isa_of}
use Rattle.cf_semantics.specs.moves.Moves.{fetch_from, keeps, left, moved, turned, without_packet, without_passenger}
use Rattle.cf_semantics.specs.state.Passengers.{cached, cleared, forgets, fresh, goto, reg_in, requests}
use Rattle.cf_semantics.specs.claims.Path.{has_reg}
use Rattle.cf_semantics.specs.runs.Runs.{opened}
use Rattle.cf_semantics.specs.state.State.{State, put_cell}
use Rattle.cf_semantics.specs.claims.Walks.{Everywhere, walk}
use Rattle.theory_unknown_input.proofs.Clear.{Ends, Fits, IsClear, awaits, none_awaited, past}
use Rattle.theory_refinement.proofs.walks.Cache.{cached_cleared, set_cached}
use Rattle.theory_refinement.proofs.claims.Runs.{empty_column}

-- at the start of the processor nothing is waited for
pub clear_opened : (l : Plan) (x : Machine) → IsClear (opened l x)
unfolding opened
clear_opened l x = let e = empty_column 1 l.stages in record { fit = rw e tt; ends = rw e (λ r v f. refl) }

-- Leave

-- an instruction that is dead or done waits for nothing
settled : (p : Passenger) → (p.dead ≡ false → p.done ≡ true) → awaits p ≡ false
settled p f = go p.dead refl
  where
    go : (b : Bool) → p.dead ≡ b → awaits p ≡ false
    go true e = grind arith
    go false e = let d = f e in grind arith

-- below it no more is waited for than above it
past_settled : (n : ℕ) (p : Passenger) (w : ℕ → Bool) → awaits p ≡ false → past (Up n p) w ≡ w
unfolding past
past_settled n p w e = ap {B = ℕ → Bool} (λ (b : Bool). λ (r : ℕ). (b && has_reg p.dst r) || w r) e

-- the cache is unchanged at Leave
left_cache : (s : State) (n : ℕ) (c : Cell) (p : Passenger) → (left s n c p).cache ≡ s.cache
left_cache s n c p = grind arith

-- Leave keeps it: the instruction that leaves waits for nothing
pub leave_clear : {rest out : List ℕ} (l : Plan) (s : State) (x : Machine) → Suits l → bar l s Leave ≡ None → Sound l s rest out x → IsClear s →
    IsClear (moved l s Leave)
leave_clear l s x acc e h k =
    let r = leave_ready l s (bar_row l s Leave e) in
    let n = l.stages in
    let p = r.who in
    let c = top_cell s.cells n r.here h.size r.at_here in
    let below = packet_in n r.here.packet ++ column_from 1 c.below in
    let t = left s n r.here p in
    let was : column s ≡ Up n p ∷ below = c.was ∙ ap (λ (q : List Item). q ++ column_from 1 c.below) (rider_first n r.here p r.sits r.clear) in
    let is : column t ≡ below = ap (column_from 1) (left_cells s n r.here p) ∙ c.set (without_passenger r.here)
    ∙ ap (λ (q : List Item). q ++ column_from 1 c.below) (rider_gone n r.here) in
    let same = past_settled n p none_awaited (settled p r.over) in
    let fit = rw was at k.fit in
    let ends = rw was at k.ends in
    rw (next_leave l s r.here p r.at_here r.sits) (record {
      fit = rw is (subst (λ (w : ℕ → Bool). Everywhere Fits past below w) same fit.1);
      ends = rw (is, left_cache s n r.here p) (subst (λ (w : ℕ → Bool). Ends (walk past below w) s.cache) same ends);
    })

-- Emit

-- at the top any result fits
fits_first : (i : ℕ) (k : Packet) → Fits (Down i k) none_awaited
unfolding Fits
fits_first i (Value r v) = refl
fits_first i (Turn pc) = tt
fits_first i Halt = tt

-- a result changes nothing that is waited for
past_down : (i : ℕ) (k : Packet) (w : ℕ → Bool) → past (Down i k) w ≡ w
unfolding past
past_down i k w = refl

-- Emit keeps it: above the value that it sends down nothing is waited for
pub emit_clear : {rest out : List ℕ} (l : Plan) (s : State) (x : Machine) → Suits l → bar l s Emit ≡ None → Sound l s rest out x → IsClear s →
    IsClear (moved l s Emit)
emit_clear l s x acc e h k =
    let r = emit_ready l s (bar_row l s Emit e) in
    let n = l.stages in
    let what : Packet = Value r.asked (slice_index s.regs r.asked) in
    let d : Cell = record r.here { packet = Some what; met = false } in
    let t : State = record s { cells = put_cell s.cells n d; lane = r.others } in
    let is : column t ≡ Down n what ∷ column s = emit_is l s r what h.size in
    let same = sym (past_down n what none_awaited) in
    rw (next_emit l s r.here r.asked r.others r.at_here r.lane) (record {
      fit = rw is (fits_first n what, subst (λ (w : ℕ → Bool). Everywhere Fits past (column s) w) same k.fit);
      ends = rw is (subst (λ (w : ℕ → Bool). Ends (walk past (column s) w) s.cache) same k.ends);
    })

-- The cache at the bottom

-- a value may be cached for a register that is not waited for
keep_ends : (w : ℕ → Bool) (c : List (Option ℕ)) (r v : ℕ) → w r ≡ false → Ends w c → Ends w (slice_set c r (Some v))
keep_ends w c r v e h q u f = go (set_cached c r q u (Some v) f)
  where
    go : ((q ≡ r) × (Some v ≡ Some u)) ⊎ ((q ≢ r) × (cached c q ≡ Some u)) → w q ≡ false
    go (inl a) = rw a.0 e
    go (inr a) = h q u a.1

-- a cache that is cleared has no value
cleared_ends : (w : ℕ → Bool) (c : List (Option ℕ)) → Ends w (cleared c)
cleared_ends w c r v e = let z = cached_cleared c r in absurd (cc)

-- the new destination is forgotten: it is waited for in addition to what was
forget_ends : (i : ℕ) (p : Passenger) (w : ℕ → Bool) (c : List (Option ℕ)) → Ends w c → Ends (past (Up i p) w) (forgets (reg_in p.dst) c)
unfolding past
forget_ends i p w c h = of p.dst refl
  where
    other : (b : Binding) (q : ℕ) → q ≢ b.reg → (b.reg == q) ≡ false
    other b q f = go (b.reg == q) refl
      where
        go : (m : Bool) → (b.reg == q) ≡ m → (b.reg == q) ≡ false
        go false e = e
        go true e = absurd (f (grind arith))

    of : (o : Option Binding) → p.dst ≡ o → (q v : ℕ) → cached (forgets (reg_in o) c) q ≡ Some v → ((awaits p && has_reg o q) || w q) ≡ false
    of None e q v f = let z = h q v f in grind arith
    of (Some b) e q v f = go (set_cached c b.reg q v None f)
      where
        go : ((q ≡ b.reg) × (None ≡ Some v)) ⊎ ((q ≢ b.reg) × (cached c q ≡ Some v)) → ((awaits p && (b.reg == q)) || w q) ≡ false
        go (inl a) = absurd (let z = a.1 in cc)
        go (inr a) = rw (other b q a.0, h q v a.1) (grind arith)

-- Issue

-- an instruction fits anywhere
pub fits_up : (i : ℕ) (p : Passenger) (w : ℕ → Bool) → Fits (Up i p) w
unfolding Fits
fits_up i p w = tt

-- Issue keeps it: nothing is below the new instruction, and its destination is forgotten
pub issue_clear : {rest out : List ℕ} (l : Plan) (s : State) (x : Machine) (g : Guess) → Suits l → bar l s (Issue g) ≡ None → Sound l s rest out x → IsClear s →
    IsClear (moved l s (Issue g))
issue_clear l s x g acc e h k =
    let r = issue_ready l s g (bar_row l s (Issue g) e) in
    let p : Passenger = fresh s.cache (fetched (isa_of l) s.mem r.pc) r.pc g in
    let new = Up 1 p ∷ [] in
    let c : Cell = record r.here { passenger = Some p; met = false } in
    let t : State = record s { cells = c ∷ r.others; lane = s.lane ++ requests p; fetch = fetch_from (goto p); cache = forgets (reg_in p.dst) s.cache } in
    let was : column s ≡ column_from 2 r.others ++ items 1 r.here = ap (column_from 1) r.cells in
    let is : column t ≡ column s ++ new = ap (λ (q : List Item). column_from 2 r.others ++ q) (issue_items r.here p r.free)
    ∙ sym (append_assoc (column_from 2 r.others) (items 1 r.here) new) ∙ ap (λ (q : List Item). q ++ new) (sym was) in
    let w = walk past (column s) none_awaited in
    rw (next_issue l s g r.here r.others r.pc p r.cells r.runs refl) (record {
      fit = rw is (fit_append _ Fits past (column s) new none_awaited k.fit (fits_up 1 p w, tt));
      ends = rw (is, walk_append past (column s) new none_awaited) (forget_ends 1 p w s.cache k.ends);
    })

-- Exit

-- what is cached of a result that fits is of no register that is waited for
exit_ends : (i : ℕ) (k : Packet) (b : Bool) (c : List (Option ℕ)) (w : ℕ → Bool) → Fits (Down i k) w → Ends (past (Down i k) w) c → Ends w (keeps b c k)
unfolding Fits past
exit_ends i (Value r v) true c w f h = keep_ends w c r v f h
exit_ends i (Value r v) false c w f h = h
exit_ends i (Turn pc) b c w f h = cleared_ends w c
exit_ends i Halt b c w f h = cleared_ends w c

-- Exit keeps it: the cached value was cached before
pub exit_clear : {rest out : List ℕ} (l : Plan) (s : State) (x : Machine) → Suits l → bar l s Exit ≡ None → Sound l s rest out x → IsClear s →
    IsClear (moved l s Exit)
exit_clear l s x acc e h k =
    let r = exit_ready l s (bar_row l s Exit e) in
    let what = r.what in
    let last = Down 1 what ∷ [] in
    let upper = above_exit r in
    let was = exit_was s r in
    let t : State = record s { cells = without_packet r.here ∷ r.others; fetch = turned s.fetch what; cache = keeps l.cache s.cache what } in
    let fit = rw was at k.fit in
    let w = walk past upper none_awaited in
    rw (next_exit l s r.here r.others what r.cells r.lies) (record {
      fit = fit_front _ Fits past upper last none_awaited fit;
      ends = exit_ends 1 what l.cache s.cache w (fit_back _ Fits past upper last none_awaited fit).0
          (rw (was, walk_append past upper last none_awaited) at k.ends);
    })
