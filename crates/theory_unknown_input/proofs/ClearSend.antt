-- What is waited for, at Send: nothing above the instruction is, so that what it owes fits below it.
use Rattle.std.proofs.Common.{◌≡◌, ℕ, List, [], ◌∷◌, ◌++◌, Some, None, Bool, true, false, refl, subst, arith}
use Rattle.rv_machine.specs.Machine.{Machine}
use Rattle.cf_bind.specs.declared.cell.Cell.{Cell}
use Rattle.cf_bind.specs.declared.moves.Move.TheVariants.{Send}
use Rattle.cf_bind.specs.declared.packet.Packet.{Packet}
use Rattle.cf_bind.specs.declared.packet.Packet.TheVariants.{Halt, Turn, Value}
use Rattle.cf_bind.specs.declared.passenger.Passenger.{Passenger}
use Rattle.cf_layout.specs.Layout.{Plan}
use Rattle.theory_refinement.proofs.column.Change.{here}
use Rattle.theory_refinement.proofs.column.Fold.{fit_append, fit_back, fit_front, walk_append}
use Rattle.theory_refinement.proofs.moves.Rows.{bar_row}
use Rattle.theory_refinement.proofs.moves.Send.{next_send, send_ready, send_stretch}
use Rattle.theory_refinement.proofs.invariant.Invariant.{Sound}
use Rattle.theory_refinement.proofs.invariant.Lone as lone
use Rattle.theory_refinement.proofs.invariant.Suited.{Suits}
use Rattle.cf_semantics.specs.moves.Bars.{bar}
use Rattle.cf_semantics.specs.state.Column.{Down, Item, Up, column}
use Rattle.cf_semantics.specs.moves.Moves.{moved}
use Rattle.cf_semantics.specs.state.State.{State, put_cell}
use Rattle.cf_semantics.specs.claims.Walks.{Everywhere, walk}
use Rattle.theory_unknown_input.proofs.ClearEnds.{fits_up}
use Rattle.theory_unknown_input.proofs.Clear.{Ends, Fits, IsClear, none_awaited, past}
use Rattle.theory_refinement.proofs.walks.Lone.{lone_open}
use Rattle.theory_refinement.proofs.walks.Order.{past_open}

-- an item below which something may follow waits for nothing
past_unawaited : (l : Plan) (i : Item) (b : Bool) (w : ℕ → Bool) (r : ℕ) → lone.past l i b ≡ false → (b ≡ false → w r ≡ false) → past i w r ≡ false
unfolding lone.past past
past_unawaited l (Up i p) b w r e f = let z : b ≡ false = past_open l (Up i p) b e in let u = f z in grind arith
past_unawaited l (Down i k) b w r e f = f (past_open l (Down i k) b e)

-- if something may follow, nothing above is waited for
pub walk_unawaited : (l : Plan) (xs : List Item) (b : Bool) (w : ℕ → Bool) (r : ℕ) → walk (lone.past l) xs b ≡ false → (b ≡ false → w r ≡ false) →
    walk past xs w r ≡ false
walk_unawaited l [] b w r e f = f e
walk_unawaited l (x ∷ xs) b w r e f = walk_unawaited l xs (lone.past l x b) (past x w) r e (λ z. past_unawaited l x b w r z f)

-- what it owes fits below an instruction that is done, if nothing above waits
fits_sent : (i : ℕ) (p : Passenger) (k : Packet) (w : ℕ → Bool) → p.done ≡ true → ((r : ℕ) → w r ≡ false) → Fits (Down i k) (past (Up i p) w)
unfolding Fits past
fits_sent i p (Value r v) w d f = let u = f r in grind arith
fits_sent i p (Turn pc) w d f = tt
fits_sent i p Halt w d f = tt

-- what is waited for further down is the same before and after it is sent
past_sent : (i : ℕ) (p : Passenger) (k : Packet) (w : ℕ → Bool) → past (Up i p) w ≡ past (Down i k) (past (Up i (record p { owes = None })) w)
unfolding past
past_sent i p k w = refl

-- Send keeps it: above the value that goes down nothing is waited for
pub send_clear : {rest out : List ℕ} (l : Plan) (s : State) (x : Machine) (i : ℕ) → Suits l → bar l s (Send i) ≡ None → Sound l s rest out x → IsClear s →
    IsClear (moved l s (Send i))
send_clear l s x i acc e h k =
    let r = send_ready l s i (bar_row l s (Send i) e) in
    let p = send_stretch s i r in
    let who = r.who in
    let q : Passenger = record who { owes = None } in
    let d : Cell = record { passenger = Some q; packet = Some r.what; met = true } in
    let t : State = record s { cells = put_cell s.cells i d } in
    let up = p.above in
    let under = p.below in
    let new = Up i q ∷ Down i r.what ∷ [] in
    let was = p.was in
    let is : column t ≡ up ++ (new ++ under) = p.is in
    let o = here l s x up (Up i who ∷ []) under was h in
    let w = walk past up none_awaited in
    let free : (a : ℕ) → w a ≡ false = λ a. walk_unawaited l up false none_awaited a (lone_open i who _ o.lone_fit.0) (λ _. refl) in
    let done : who.done ≡ true = o.stands.0.owes_done (rw r.owes refl) in
    let same = past_sent i who r.what w in
    let fit = rw was at k.fit in
    let back = fit_back _ Fits past up ((Up i who ∷ []) ++ under) none_awaited fit in
    rw (next_send l s i r.here who r.what r.at_here r.sits r.owes) (record {
      fit = rw is (fit_append _ Fits past up (new ++ under) none_awaited (fit_front _ Fits past up ((Up i who ∷ []) ++ under) none_awaited fit)
          (fits_up i q w, (fits_sent i q r.what w done free, subst (λ (v : ℕ → Bool). Everywhere Fits past under v) same back.1)));
      ends = rw (is, walk_append past up (new ++ under) none_awaited) (subst (λ (v : ℕ → Bool). Ends (walk past under v) s.cache) same
          (rw (was, walk_append past up ((Up i who ∷ []) ++ under) none_awaited) at k.ends));
    })
