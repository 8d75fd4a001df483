-- An allowed move changes what holds of the stages that it touches, and of no other.
use Rattle.std.proofs.Common.{◌≡◌, ◌∙◌, ℕ, ◌+◌, ◌-◌, List, [], ◌∷◌, Option, Some, None, Bool, true, false, refl, sym, arith}
use Rattle.std.specs.Prelude.{if◌then◌else◌, slice_get, slice_set}
use Rattle.std.proofs.lemmas.Bool.Decides.{nat_tests}
use Rattle.cf_bind.specs.declared.cell.Cell.{Cell}
use Rattle.cf_bind.specs.declared.moves.Bar.TheVariants.{NoSuchSite}
use Rattle.cf_bind.specs.declared.moves.Move.{Move}
use Rattle.cf_bind.specs.declared.moves.Move.TheVariants.{Issue, Emit, Climb, Fall, Meet, Execute, Send, Launch, Slide, Access, Recover, Leave, Exit, Serve}
use Rattle.cf_bind.specs.declared.passenger.End.{End}
use Rattle.cf_bind.specs.declared.passenger.Passenger.{Passenger}
use Rattle.cf_bind.specs.declared.passenger.Guess.{Guess}
use Rattle.cf_layout.specs.Layout.{Plan, launch_stage, recover_stage, siding_of}
use Rattle.cf_semantics.specs.moves.Bars.{last_op, launch_bar, recover_bar, row_bar, running}
use Rattle.cf_semantics.specs.state.Layouts.{port}
use Rattle.cf_semantics.specs.moves.Moves.{accessed, back_in, cell_met, climbed, emitted, exited, fallen, issued, launch_trap, launched, left, left_live, moved, operation, recovered, set_last, sent, with_passenger, without_packet, without_passenger}
use Rattle.cf_semantics.specs.state.Options.{on}
use Rattle.cf_semantics.specs.state.Passengers.{finish, kind, trapped}
use Rattle.cf_semantics.specs.state.State.{State, cell_at, siding_at, with_cell, with_siding}
use Rattle.cf_core.specs.Marks.{one_stage, home_at, sites, touched}
use Rattle.cf_core.specs.declared.touching.Touched.{Touched}
use Rattle.cf_core.proofs.Bits.{SameBut}
use Rattle.cf_core.proofs.SameMarks.{cell-but, rest-but, siding-but}

-- One change and the next --

unchanged : (plan : Plan) (s : State) (i j : ℕ) → SameBut plan s s i j
unchanged plan s i j k off far = refl

both : (plan : Plan) (s t u : State) (i j : ℕ) → SameBut plan s t i j → SameBut plan t u i j → SameBut plan s u i j
both plan s t u i j first second k off far = second k off far ∙ first k off far

swapped : (plan : Plan) (s t : State) (i j : ℕ) → SameBut plan s t i j → SameBut plan s t j i
swapped plan s t i j same k off far = same k far off

where_there : {A : Type 0} (plan : Plan) (s : State) (i j : ℕ) (o : Option A) (f : A → State) → ((a : A) → o ≡ Some a → SameBut plan s (f a) i j) →
    SameBut plan s (on o s f) i j
where_there plan s i j None f same = unchanged plan s i j
where_there plan s i j (Some a) f same = same a refl

-- The moves within the pipes --

issue-but : (plan : Plan) (s : State) (g : Guess) → SameBut plan s (moved plan s (Issue g)) 1 1
unfolding moved
issue-but plan s g =
    where_there plan s 1 1 (cell_at s.cells 1) _ (λ c e. where_there plan s 1 1 (running s.fetch) (issued plan s g c) (λ pc f.
    both plan s _ (issued plan s g c pc) 1 1 (cell-but plan s 1 1 _) (rest-but plan _ (issued plan s g c pc) 1 1 refl refl)))

emitted_but : (plan : Plan) (s : State) (n : ℕ) (lane : List ℕ) (c : Cell) → SameBut plan s (emitted s n lane c) n n
emitted_but plan s n [] c = unchanged plan s n n
emitted_but plan s n (r ∷ lane) c = both plan s _ (emitted s n (r ∷ lane) c) n n (cell-but plan s n n _)
    (rest-but plan _ (emitted s n (r ∷ lane) c) n n refl refl)

emit-but : (plan : Plan) (s : State) → SameBut plan s (moved plan s Emit) plan.stages plan.stages
unfolding moved
emit-but plan s = where_there plan s plan.stages plan.stages (cell_at s.cells plan.stages) (emitted s plan.stages s.lane)
    (λ c e. emitted_but plan s plan.stages s.lane c)

-- two stages get other contents
pub two-but : (plan : Plan) (s : State) (i j : ℕ) (c d : Cell) → SameBut plan s (with_cell (with_cell s i c) j d) i j
two-but plan s i j c d =
    let t = with_cell s i c in
    both plan s t (with_cell t j d) i j (cell-but plan s i j c) (swapped plan t (with_cell t j d) j i (cell-but plan t j i d))

climb-but : (plan : Plan) (s : State) (i : ℕ) → SameBut plan s (moved plan s (Climb i)) i (i + 1)
unfolding moved
climb-but plan s i =
    where_there plan s i (i + 1) (cell_at s.cells i) _ (λ c e. where_there plan s i (i + 1) (cell_at s.cells (i + 1)) (climbed s i c) (λ d f.
    two-but plan s i (i + 1) (without_passenger c) (record d { passenger = c.passenger; met = false })))

fall-but : (plan : Plan) (s : State) (i : ℕ) → SameBut plan s (moved plan s (Fall i)) (i - 1) i
unfolding moved
fall-but plan s i =
    where_there plan s (i - 1) i (cell_at s.cells i) _ (λ c e. where_there plan s (i - 1) i (cell_at s.cells (i - 1)) (fallen s i c) (λ d f.
    let t = with_cell s i (without_packet c) in
    both plan s t (fallen s i c d) (i - 1) i (swapped plan s t i (i - 1) (cell-but plan s i (i - 1) (without_packet c))) (cell-but plan t (i - 1) i _)))

meet-but : (plan : Plan) (s : State) (i : ℕ) → SameBut plan s (moved plan s (Meet i)) i i
unfolding moved
meet-but plan s i =
    where_there plan s i i (cell_at s.cells i) _ (λ c e. where_there plan s i i c.passenger _
    (λ p f. where_there plan s i i c.packet (λ k. with_cell s i (cell_met c p k)) (λ k g. cell-but plan s i i (cell_met c p k))))

execute-but : (plan : Plan) (s : State) (i : ℕ) → SameBut plan s (moved plan s (Execute i)) i i
unfolding moved
execute-but plan s i =
    where_there plan s i i (cell_at s.cells i) _ (λ c e. where_there plan s i i c.passenger (λ p. with_cell s i (with_passenger c (finish p None)))
    (λ p f. cell-but plan s i i (with_passenger c (finish p None))))

send-but : (plan : Plan) (s : State) (i : ℕ) → SameBut plan s (moved plan s (Send i)) i i
unfolding moved
send-but plan s i =
    where_there plan s i i (cell_at s.cells i) _ (λ c e. where_there plan s i i c.passenger (λ p. with_cell s i (sent p)) (λ p f. cell-but plan s i i (sent p)))

left_live_but : (plan : Plan) (s : State) (n : ℕ) (p : Passenger) (o : Option End) → o ≡ p.ending → SameBut plan s (left_live s p) n n
left_live_but plan s n p None e = rw (← e) (rest-but plan s _ n n refl refl)
left_live_but plan s n p (Some end) e = rw (← e) (rest-but plan s _ n n refl refl)

left_but : (plan : Plan) (s : State) (n : ℕ) (p : Passenger) (dead : Bool) → SameBut plan s (if dead then s else left_live s p) n n
left_but plan s n p true = unchanged plan s n n
left_but plan s n p false = left_live_but plan s n p p.ending refl

leave-but : (plan : Plan) (s : State) → SameBut plan s (moved plan s Leave) plan.stages plan.stages
unfolding moved
leave-but plan s =
    let n = plan.stages in
    where_there plan s n n (cell_at s.cells n) _ (λ c e. where_there plan s n n c.passenger (left s n c) (λ p f.
    let t = with_cell s n (without_passenger c) in
    both plan s t (left s n c p) n n (cell-but plan s n n (without_passenger c)) (left_but plan t n p p.dead)))

exit-but : (plan : Plan) (s : State) → SameBut plan s (moved plan s Exit) 1 1
unfolding moved
exit-but plan s =
    where_there plan s 1 1 (cell_at s.cells 1) (exited plan s) (λ c e. where_there plan s 1 1 c.packet _ (λ k f.
    both plan s (with_cell s 1 (without_packet c)) _ 1 1 (cell-but plan s 1 1 (without_packet c))
    (rest-but plan (with_cell s 1 (without_packet c)) _ 1 1 refl refl)))

-- The moves beside them --

slide-but : (plan : Plan) (s : State) (k c : ℕ) → SameBut plan s (moved plan s (Slide k c)) (launch_stage plan k) (recover_stage plan k)
unfolding moved
slide-but plan s k c = where_there plan s (launch_stage plan k) (recover_stage plan k) (slice_get (siding_at s k) c) _ (λ o e. siding-but plan s k _)

access-but : (plan : Plan) (s : State) → SameBut plan s (moved plan s Access) (launch_stage plan (port plan)) (recover_stage plan (port plan))
unfolding moved
access-but plan s =
    let i = launch_stage plan (port plan) in
    let j = recover_stage plan (port plan) in
    where_there plan s i j (last_op (siding_at s (port plan))) (accessed plan s) (λ op e.
    both plan s _ (accessed plan s op) i j (siding-but plan s (port plan) _) (rest-but plan _ (accessed plan s op) i j refl refl))

-- an operation is launched from one stage of its siding, and recovered at the other
pub launch_site : (plan : Plan) (s : State) (i : ℕ) (c : Cell) (p : Passenger) (k : ℕ) → launch_bar plan s c i ≡ None → c.passenger ≡ Some p →
    siding_of plan (kind p) ≡ Some k → launch_stage plan k ≡ i
launch_site plan s i c p k free rides home = grind (arith, nat_tests)

pub recover_site : (plan : Plan) (s : State) (i : ℕ) (c : Cell) (p : Passenger) (k : ℕ) → recover_bar plan s c i ≡ None → c.passenger ≡ Some p →
    siding_of plan (kind p) ≡ Some k → recover_stage plan k ≡ i
recover_site plan s i c p k free rides home = grind (arith, nat_tests)

home_is : (plan : Plan) (s : State) (i : ℕ) (c : Cell) (p : Passenger) → cell_at s.cells i ≡ Some c → c.passenger ≡ Some p →
    home_at plan s i ≡ siding_of plan (kind p)
home_is plan s i c p here rides = rw (here, rides) refl

-- nothing changes but at the two stages of a siding, or at one stage
abbrev SameButAt : Plan → State → State → Touched → Type 0
SameButAt plan s t at = SameBut plan s t at.low at.high

launched_but : (plan : Plan) (s : State) (i : ℕ) (c : Cell) (p : Passenger) (trap : Option End) (home : Option ℕ) → launch_bar plan s c i ≡ None →
    c.passenger ≡ Some p → siding_of plan (kind p) ≡ home → launch_trap s p ≡ trap →
    SameButAt plan s (launched plan s i c p) (on home (one_stage i) (sites plan))
launched_but plan s i c p (Some e) None free rides home trap = rw trap (cell-but plan s i i (with_passenger c (trapped p e)))
launched_but plan s i c p (Some e) (Some k) free rides home trap = rw (trap, launch_site plan s i c p k free rides home)
    (cell-but plan s i (recover_stage plan k) (with_passenger c (trapped p e)))
launched_but plan s i c p None None free rides home trap = rw (trap, home) (unchanged plan s i i)
launched_but plan s i c p None (Some k) free rides home trap =
    let t = with_cell s i (with_passenger c (record p { launched = true })) in
    let site = launch_site plan s i c p k free rides home in
    let first : SameBut plan s t (launch_stage plan k) (recover_stage plan k) = λ j off far. cell-but plan s i (recover_stage plan k)
    (with_passenger c (record p { launched = true })) j (λ g. off (g ∙ sym site)) far in
    rw (trap, home) (both plan s t (with_siding t k (slice_set (siding_at s k) 0 (Some (operation p)))) (launch_stage plan k) (recover_stage plan k) first
    (siding-but plan t k (slice_set (siding_at s k) 0 (Some (operation p)))))

recovered_but : (plan : Plan) (s : State) (i : ℕ) (c : Cell) (p : Passenger) (home : Option ℕ) → recover_bar plan s c i ≡ None → c.passenger ≡ Some p →
    siding_of plan (kind p) ≡ home →
    SameButAt plan s (recovered plan s i c p) (on home (one_stage i) (sites plan))
recovered_but plan s i c p None free rides home = rw home (unchanged plan s i i)
recovered_but plan s i c p (Some k) free rides home =
    let site = recover_site plan s i c p k free rides home in
    rw home (where_there plan s (launch_stage plan k) (recover_stage plan k) (last_op (siding_at s k)) _ (λ op e.
    let t = with_cell s i (with_passenger c (back_in p op.answer)) in
    let first : SameBut plan s t (launch_stage plan k) (recover_stage plan k) = λ j off far. cell-but plan s i (launch_stage plan k)
    (with_passenger c (back_in p op.answer)) j (λ g. far (g ∙ sym site)) off in
    both plan s t (with_siding t k (set_last (siding_at s k) None)) (launch_stage plan k) (recover_stage plan k) first
    (siding-but plan t k (set_last (siding_at s k) None))))

launch-but : (plan : Plan) (s : State) (i : ℕ) → row_bar plan s (Launch i) ≡ None → SameButAt plan s (moved plan s (Launch i))
    (on (home_at plan s i) (one_stage i) (sites plan))
unfolding moved
launch-but plan s i free = by_cell (cell_at s.cells i) refl free
  where
    by_rider : (c : Cell) (o : Option Passenger) → cell_at s.cells i ≡ Some c → c.passenger ≡ o → launch_bar plan s c i ≡ None →
        SameButAt plan s (on o s (launched plan s i c)) (on (on o None (λ p. siding_of plan (kind p))) (one_stage i) (sites plan))
    by_rider c None here rides row = unchanged plan s i i
    by_rider c (Some p) here rides row = launched_but plan s i c p (launch_trap s p) (siding_of plan (kind p)) row rides refl refl

    by_cell : (o : Option Cell) → cell_at s.cells i ≡ o → on o (Some NoSuchSite) (λ c. launch_bar plan s c i) ≡ None →
        SameButAt plan s (on o s (λ c. on c.passenger s (launched plan s i c))) (on (on (on o None (λ c. c.passenger)) None (λ p. siding_of plan (kind p)))
        (one_stage i) (sites plan))
    by_cell None here row = unchanged plan s i i
    by_cell (Some c) here row = by_rider c c.passenger here refl row

recover-but : (plan : Plan) (s : State) (i : ℕ) → row_bar plan s (Recover i) ≡ None → SameButAt plan s (moved plan s (Recover i))
    (on (home_at plan s i) (one_stage i) (sites plan))
unfolding moved
recover-but plan s i free = by_cell (cell_at s.cells i) refl free
  where
    by_rider : (c : Cell) (o : Option Passenger) → cell_at s.cells i ≡ Some c → c.passenger ≡ o → recover_bar plan s c i ≡ None →
        SameButAt plan s (on o s (recovered plan s i c)) (on (on o None (λ p. siding_of plan (kind p))) (one_stage i) (sites plan))
    by_rider c None here rides row = unchanged plan s i i
    by_rider c (Some p) here rides row = recovered_but plan s i c p (siding_of plan (kind p)) row rides refl

    by_cell : (o : Option Cell) → cell_at s.cells i ≡ o → on o (Some NoSuchSite) (λ c. recover_bar plan s c i) ≡ None →
        SameButAt plan s (on o s (λ c. on c.passenger s (recovered plan s i c))) (on (on (on o None (λ c. c.passenger)) None (λ p. siding_of plan (kind p)))
        (one_stage i) (sites plan))
    by_cell None here row = unchanged plan s i i
    by_cell (Some c) here row = by_rider c c.passenger here refl row

-- in the table of moves Serve changes nothing by itself
serve-but : (plan : Plan) (s : State) → SameBut plan s (moved plan s Serve) plan.stages plan.stages
unfolding moved
serve-but plan s = unchanged plan s plan.stages plan.stages

pub moved-but : (plan : Plan) (s : State) (mv : Move) → row_bar plan s mv ≡ None → SameButAt plan s (moved plan s mv) (touched plan s mv)
unfolding touched
moved-but plan s (Issue g) free = issue-but plan s g
moved-but plan s Emit free = emit-but plan s
moved-but plan s (Climb i) free = climb-but plan s i
moved-but plan s (Fall i) free = fall-but plan s i
moved-but plan s (Meet i) free = meet-but plan s i
moved-but plan s (Execute i) free = execute-but plan s i
moved-but plan s (Send i) free = send-but plan s i
moved-but plan s (Launch i) free = launch-but plan s i free
moved-but plan s (Slide k c) free = slide-but plan s k c
moved-but plan s Access free = access-but plan s
moved-but plan s (Recover i) free = recover-but plan s i free
moved-but plan s Leave free = leave-but plan s
moved-but plan s Exit free = exit-but plan s
moved-but plan s Serve free = serve-but plan s
