-- The candidates: every allowed move but an Issue to an address is one of them; there is a candidate while the program
-- goes on; and under the hold rule an Issue is a candidate only if no other move is allowed.
use Rattle.std.proofs.Common.{◌≡◌, ℕ, zero, suc, ◌+◌, ◌-◌, ◌≤◌, ◌<◌, List, [], ◌∷◌, ◌++◌, length, map, filter, Option, Some, None, Bool, true, false, not, refl, sym, ap, subst, ◌∙◌, arith, cond}
use Rattle.std.specs.Prelude.{slice_get, nat_lt, unwrap_or, if◌then◌else◌}
use Rattle.cf_layout.specs.Layout.{Plan, SidingPlan, cells_of, no_siding}
use Rattle.cf_bind.specs.declared.cell.Cell.{Cell}
use Rattle.cf_bind.specs.declared.cell.Op.{Op}
use Rattle.cf_bind.specs.declared.moves.Bar.{Bar}
use Rattle.cf_bind.specs.declared.moves.Bar.TheVariants.{NoSuchSite}
use Rattle.cf_bind.specs.declared.moves.Move.{Move}
use Rattle.cf_bind.specs.declared.moves.Move.TheVariants.{Issue, Emit, Climb, Fall, Meet, Execute, Send, Launch, Slide, Access, Recover, Leave, Exit, Serve}
use Rattle.cf_bind.specs.declared.passenger.Guess.TheVariants.{Next}
use Rattle.cf_bind.specs.declared.passenger.Guess.TheVariants as guess
use Rattle.cf_semantics.specs.state.Options.{is_some, on}
use Rattle.cf_semantics.specs.state.State.{State, cell_at, siding_at}
use Rattle.cf_semantics.specs.moves.Bars.{bar, row_bar, slide_bar}
use Rattle.cf_semantics.specs.moves.Candidates.{all_moves, at_stages, candidates, counted_from, held_back, other_moves, slides_from}
use Rattle.cf_semantics.specs.claims.Weight.{is_issue}
use Rattle.cf_semantics.specs.state.Drained.{IsStuck}
use Rattle.theory_refinement.proofs.moves.Rows.{bar_row}

-- it is in the list
pub record Has {A : Type 0} (xs : List A) (x : A) : Type 0 where
  pub place : ℕ
  pub there : slice_get xs place ≡ Some x

has_head : {A : Type 0} → (x : A) (xs : List A) → Has (x ∷ xs) x
has_head x xs = record { place = 0; there = refl }

has_tail : {A : Type 0} → (y : A) (xs : List A) (x : A) → Has xs x → Has (y ∷ xs) x
has_tail y xs x h = record { place = suc h.place; there = h.there }

has_right : {A : Type 0} → (xs ys : List A) (x : A) → Has ys x → Has (xs ++ ys) x
has_right [] ys x h = h
has_right (y ∷ xs) ys x h = has_tail y (xs ++ ys) x (has_right xs ys x h)

has_left : {A : Type 0} → (xs ys : List A) (x : A) → Has xs x → Has (xs ++ ys) x
has_left xs ys x h = go xs h.place h.there
  where
    go : (xs : List _) (k : ℕ) → slice_get xs k ≡ Some x → Has (xs ++ ys) x
    go [] k e = absurd (cc)
    go (y ∷ xs) zero e = record { place = 0; there = e }
    go (y ∷ xs) (suc k) e = has_tail y (xs ++ ys) x (go xs k e)

has_map : {A B : Type 0} → (f : A → B) (xs : List A) (x : A) → Has xs x → Has (map f xs) (f x)
has_map f xs x h = go xs h.place h.there
  where
    go : (xs : List _) (k : ℕ) → slice_get xs k ≡ Some x → Has (map f xs) (f x)
    go [] k e = absurd (cc)
    go (y ∷ xs) zero e = let z : y ≡ x = cc in record { place = 0; there = ap (λ w. Some (f w)) z }
    go (y ∷ xs) (suc k) e = has_tail (f y) (map f xs) (f x) (go xs k e)

has_filter : {A : Type 0} → (p : A → Bool) (xs : List A) (x : A) → p x ≡ true → Has xs x → Has (filter p xs) x
has_filter p xs x q h = go xs h.place h.there
  where
    keep : (b : Bool) (y : _) (xs : List _) → Has xs x → Has (cond b (y ∷ xs) xs) x
    keep true y xs h = has_tail y xs x h
    keep false y xs h = h

    take : (b : Bool) (y : _) (xs : List _) → b ≡ true → y ≡ x → Has (cond b (y ∷ xs) xs) x
    take true y xs e f = record { place = 0; there = ap Some f }
    take false y xs e f = absurd (cc)

    go : (xs : List _) (k : ℕ) → slice_get xs k ≡ Some x → Has (filter p xs) x
    go [] k e = absurd (cc)
    go (y ∷ xs) zero e = let z : y ≡ x = cc in take (p y) y (filter p xs) (ap p z ∙ q) z
    go (y ∷ xs) (suc k) e = keep (p y) y (filter p xs) (go xs k e)

-- numbers
counted_has : (first n k : ℕ) → k < n → Has (counted_from first n) (first + k)
counted_has first zero k e = absurd (omega arith)
counted_has first (suc n) zero e = record { place = 0; there = ap Some (zero_plus first) }
  where
    zero_plus : (a : ℕ) → a ≡ a + 0
    zero_plus a = omega arith
counted_has first (suc n) (suc k) e = subst (λ (j : ℕ). Has (first ∷ counted_from (suc first) n) j) (one_on first k)
    (has_tail first (counted_from (suc first) n) (suc first + k) (counted_has (suc first) n k (omega arith)))
  where
    one_on : (a b : ℕ) → suc a + b ≡ a + suc b
    one_on a b = omega arith

stage_has : (l : Plan) (kind : ℕ → Move) (i : ℕ) → 1 ≤ i → i ≤ l.stages → Has (at_stages l kind) (kind i)
stage_has l kind zero e f = absurd (omega arith)
stage_has l kind (suc k) e f = has_map kind (counted_from 1 l.stages) (suc k) (subst (λ (j : ℕ). Has (counted_from 1 l.stages) j) (one_plus k)
    (counted_has 1 l.stages k (omega arith)))
  where
    one_plus : (a : ℕ) → 1 + a ≡ suc a
    one_plus a = omega arith

slide_has : (first : ℕ) (ss : List SidingPlan) (k c : ℕ) → c + 1 < (unwrap_or (slice_get ss k) no_siding).cells →
    Has (slides_from first ss) (Slide (first + k) c)
slide_has first [] k c e = absurd (omega arith)
slide_has first (s ∷ ss) zero c e = subst (λ (j : ℕ). Has (slides_from first (s ∷ ss)) (Slide j c)) (zero_plus first)
    (has_left (map (Slide first) (counted_from 0 (s.cells - 1))) (slides_from (suc first) ss) (Slide first c)
    (has_map (Slide first) (counted_from 0 (s.cells - 1)) c (subst (λ (j : ℕ). Has (counted_from 0 (s.cells - 1)) j) (plus_zero c)
    (counted_has 0 (s.cells - 1) c (omega (arith, e))))))
  where
    zero_plus : (a : ℕ) → a ≡ a + 0
    zero_plus a = omega arith

    plus_zero : (a : ℕ) → 0 + a ≡ a
    plus_zero a = omega arith
slide_has first (s ∷ ss) (suc k) c e = subst (λ (j : ℕ). Has (slides_from first (s ∷ ss)) (Slide j c)) (one_on first k)
    (has_right (map (Slide first) (counted_from 0 (s.cells - 1))) (slides_from (suc first) ss) (Slide (suc first + k) c) (slide_has (suc first) ss k c e))
  where
    one_on : (a b : ℕ) → suc a + b ≡ a + suc b
    one_on a b = omega arith

-- the processor is laid out as its layout says
pub record HasShape (l : Plan) (s : State) : Type 0 where
  pub cells : length s.cells ≡ l.stages
  pub sidings : (k : ℕ) → length (siding_at s k) ≡ cells_of l k

-- a stage that exists
at_there : (cells : List Cell) (i : ℕ) (f : Cell → Option Bar) → on (cell_at cells i) (Some NoSuchSite) f ≡ None → (1 ≤ i) × (i ≤ length cells)
at_there cells zero f e = absurd (cc)
at_there cells (suc k) f e = go cells k e
  where
    go : (cells : List Cell) (k : ℕ) → on (slice_get cells k) (Some NoSuchSite) f ≡ None → (1 ≤ suc k) × (suc k ≤ length cells)
    go [] k e = absurd (cc)
    go (c ∷ cells) zero e = (omega arith, omega arith)
    go (c ∷ cells) (suc k) e = let h = go cells k e in (omega arith, omega (arith, h.1))

on_stage : (l : Plan) (s : State) (kind : ℕ → Move) (i : ℕ) (f : Cell → Option Bar) → HasShape l s → on (cell_at s.cells i) (Some NoSuchSite) f ≡ None →
    Has (at_stages l kind) (kind i)
on_stage l s kind i f h e = let z = at_there s.cells i f e in stage_has l kind i z.0 (let c = h.cells in omega (arith, c, z.1))

get_below : (q : List (Option Op)) (k : ℕ) (f : Option Op → Option Bar) → on (slice_get q k) (Some NoSuchSite) f ≡ None → k < length q
get_below [] k f e = absurd (cc)
get_below (a ∷ q) zero f e = omega arith
get_below (a ∷ q) (suc k) f e = let h = get_below q k f e in omega (arith, h)

on_cell : (l : Plan) (s : State) (k c : ℕ) → HasShape l s → slide_bar (siding_at s k) c ≡ None → Has (slides_from 0 l.sidings) (Slide k c)
unfolding cells_of
on_cell l s k c h e =
    let z = get_below (siding_at s k) (c + 1) _ e in
    let n = h.sidings k in
    subst (λ (j : ℕ). Has (slides_from 0 l.sidings) (Slide j c)) (no_more k) (slide_has 0 l.sidings k c (omega (arith, z, n)))
  where
    no_more : (a : ℕ) → 0 + a ≡ a
    no_more a = omega arith

all_has : (l : Plan) (s : State) (mv : Move) → HasShape l s → is_issue mv ≡ false → bar l s mv ≡ None → Has (all_moves l) mv
unfolding all_moves
all_has l s mv h i e = go mv i (bar_row l s mv e)
  where
    falls : List Move
    falls = at_stages l Fall

    meets : List Move
    meets = at_stages l Meet

    executes : List Move
    executes = at_stages l Execute

    sends : List Move
    sends = at_stages l Send

    launches : List Move
    launches = at_stages l Launch

    slides : List Move
    slides = slides_from 0 l.sidings

    returns : List Move
    returns = Access ∷ at_stages l Recover

    last : List Move
    last = Leave ∷ Exit ∷ Serve ∷ []

    -- all moves up to a kind, that kind included
    upto_climbs : List Move
    upto_climbs = Issue guess.Next ∷ Issue guess.Taken ∷ Issue guess.Wait ∷ Emit ∷ at_stages l Climb

    upto_falls : List Move
    upto_falls = upto_climbs ++ falls

    upto_meets : List Move
    upto_meets = upto_falls ++ meets

    upto_executes : List Move
    upto_executes = upto_meets ++ executes

    upto_sends : List Move
    upto_sends = upto_executes ++ sends

    upto_launches : List Move
    upto_launches = upto_sends ++ launches

    upto_slides : List Move
    upto_slides = upto_launches ++ slides

    upto_returns : List Move
    upto_returns = upto_slides ++ returns

    from_returns : (mv : Move) → Has upto_returns mv → Has (all_moves l) mv
    from_returns mv h = has_left upto_returns last mv h

    from_slides : (mv : Move) → Has upto_slides mv → Has (all_moves l) mv
    from_slides mv h = from_returns mv (has_left upto_slides returns mv h)

    from_launches : (mv : Move) → Has upto_launches mv → Has (all_moves l) mv
    from_launches mv h = from_slides mv (has_left upto_launches slides mv h)

    from_sends : (mv : Move) → Has upto_sends mv → Has (all_moves l) mv
    from_sends mv h = from_launches mv (has_left upto_sends launches mv h)

    from_executes : (mv : Move) → Has upto_executes mv → Has (all_moves l) mv
    from_executes mv h = from_sends mv (has_left upto_executes sends mv h)

    from_meets : (mv : Move) → Has upto_meets mv → Has (all_moves l) mv
    from_meets mv h = from_executes mv (has_left upto_meets executes mv h)

    from_falls : (mv : Move) → Has upto_falls mv → Has (all_moves l) mv
    from_falls mv h = from_meets mv (has_left upto_falls meets mv h)

    from_climbs : (mv : Move) → Has upto_climbs mv → Has (all_moves l) mv
    from_climbs mv h = from_falls mv (has_left upto_climbs falls mv h)

    at_end : (mv : Move) → Has last mv → Has (all_moves l) mv
    at_end mv h = has_right upto_returns last mv h

    four : (xs : List Move) (mv : Move) → Has xs mv → Has (Issue guess.Next ∷ Issue guess.Taken ∷ Issue guess.Wait ∷ Emit ∷ xs) mv
    four xs mv h = record { place = suc (suc (suc (suc h.place))); there = h.there }

    go : (mv : Move) → is_issue mv ≡ false → row_bar l s mv ≡ None → Has (all_moves l) mv
    go (Issue g) i e = absurd (cc)
    go Emit i e = from_climbs Emit (record { place = 3; there = refl })
    go (Climb j) i e = from_climbs (Climb j) (four (at_stages l Climb) (Climb j) (on_stage l s Climb j _ h e))
    go (Fall j) i e = from_falls (Fall j) (has_right upto_climbs falls (Fall j) (on_stage l s Fall j _ h e))
    go (Meet j) i e = from_meets (Meet j) (has_right upto_falls meets (Meet j) (on_stage l s Meet j _ h e))
    go (Execute j) i e = from_executes (Execute j) (has_right upto_meets executes (Execute j) (on_stage l s Execute j _ h e))
    go (Send j) i e = from_sends (Send j) (has_right upto_executes sends (Send j) (on_stage l s Send j _ h e))
    go (Launch j) i e = from_launches (Launch j) (has_right upto_sends launches (Launch j) (on_stage l s Launch j _ h e))
    go (Slide k c) i e = from_slides (Slide k c) (has_right upto_launches slides (Slide k c) (on_cell l s k c h e))
    go Access i e = from_returns Access (has_right upto_slides returns Access (record { place = 0; there = refl }))
    go (Recover j) i e = from_returns (Recover j) (has_right upto_slides returns (Recover j)
        (has_tail Access (at_stages l Recover) (Recover j) (on_stage l s Recover j _ h e)))
    go Leave i e = at_end Leave (record { place = 0; there = refl })
    go Exit i e = at_end Exit (record { place = 1; there = refl })
    go Serve i e = at_end Serve (record { place = 2; there = refl })

-- each of all these moves that is allowed is a candidate
candidate : (l : Plan) (s : State) (mv : Move) → bar l s mv ≡ None → Has (all_moves l) mv → Has (candidates l s) mv
unfolding candidates
candidate l s mv e h = has_filter (λ v. not (is_some (bar l s v))) (all_moves l) mv (rw e refl) h

pub is_candidate : (l : Plan) (s : State) (mv : Move) → HasShape l s → is_issue mv ≡ false → bar l s mv ≡ None → Has (candidates l s) mv
is_candidate l s mv h i e = candidate l s mv e (all_has l s mv h i e)

-- what was kept passes the test, and was there before
pub kept_passes : {A : Type 0} → (p : A → Bool) (xs : List A) (k : ℕ) (x : A) → slice_get (filter p xs) k ≡ Some x → (p x ≡ true) × Has xs x
kept_passes p [] k x e = absurd (cc)
kept_passes p (y ∷ xs) k x e = go (p y) refl k e (λ j f. kept_passes p xs j x f)
  where
    go : (b : Bool) → p y ≡ b → (k : ℕ) → slice_get (cond b (y ∷ filter p xs) (filter p xs)) k ≡ Some x →
        ((j : ℕ) → slice_get (filter p xs) j ≡ Some x → (p x ≡ true) × Has xs x) → (p x ≡ true) × Has (y ∷ xs) x
    go true f zero e h = let z : y ≡ x = cc in (ap p (sym z) ∙ f, record { place = 0; there = ap Some z })
    go true f (suc k) e h = let r = h k e in (r.0, has_tail y xs x r.1)
    go false f k e h = let r = h k e in (r.0, has_tail y xs x r.1)

none_has : {A : Type 0} → (xs : List A) (x : A) → xs ≡ [] → Has xs x → ⊥
none_has [] x e h = let z = h.there in cc
none_has (y ∷ xs) x e h = absurd (cc)

-- if there is no other candidate, no move but Issue is allowed
pub no_other_stuck : (l : Plan) (s : State) → HasShape l s → other_moves (candidates l s) ≡ [] → IsStuck l s
no_other_stuck l s h n = λ mv i e. none_has (other_moves (candidates l s)) mv n (has_filter (λ v. not (is_issue v)) (candidates l s) mv (rw i refl)
    (is_candidate l s mv h i e))

some_there : {A : Type 0} → (y : A) (xs : List A) → nat_lt 0 (length (y ∷ xs)) ≡ true
some_there y xs = grind arith

pub held_stuck : (l : Plan) (s : State) (k : ℕ) (mv : Move) → HasShape l s → slice_get (held_back (candidates l s)) k ≡ Some mv → is_issue mv ≡ true →
    IsStuck l s
unfolding held_back
held_stuck l s k mv h e i = go (other_moves (candidates l s)) refl e
  where
    clash : not true ≡ true → ⊥
    clash e = cc

    go : (xs : List Move) → other_moves (candidates l s) ≡ xs → slice_get (if nat_lt 0 (length xs) then xs else candidates l s) k ≡ Some mv → IsStuck l s
    go [] f e = no_other_stuck l s h f
    go (y ∷ xs) f e =
        let g : slice_get (other_moves (candidates l s)) k ≡ Some mv = ap (λ (q : List Move). slice_get q k) f
        ∙ sym (ap (λ (b : Bool). slice_get (if b then y ∷ xs else candidates l s) k) (some_there y xs)) ∙ e in
        absurd (clash (ap not (sym i) ∙ (kept_passes (λ v. not (is_issue v)) (candidates l s) k mv g).0))

-- there is a move to pick, whether or not Issue is held back
pub some_pick : (l : Plan) (s : State) → HasShape l s → (IsStuck l s → bar l s (Issue Next) ≡ None) →
    ((mv : Move) × Has (candidates l s) mv) × ((mv : Move) × Has (held_back (candidates l s)) mv)
unfolding held_back
some_pick l s h r = go (other_moves (candidates l s)) refl
  where
    first : Has (all_moves l) (Issue Next)
    first = unfold all_moves in record { place = 0; there = refl }

    go : (xs : List Move) → other_moves (candidates l s) ≡ xs → ((mv : Move) × Has (candidates l s) mv)
        × ((mv : Move) × Has (if nat_lt 0 (length (other_moves (candidates l s))) then other_moves (candidates l s) else candidates l s) mv)
    go [] f = let c = candidate l s (Issue Next) (r (no_other_stuck l s h f)) first in ((Issue Next, c), (Issue Next, rw f c))
    go (y ∷ xs) f =
        let g : slice_get (other_moves (candidates l s)) 0 ≡ Some y = ap (λ (q : List Move). slice_get q 0) f in
        let c = (kept_passes (λ v. not (is_issue v)) (candidates l s) 0 y g).1 in
        ((y, c), (y, rw f (rw (some_there y xs) (has_head y xs))))

pub has_some : {A : Type 0} → (xs : List A) (x : A) → Has xs x → 1 ≤ length xs
has_some [] x h = absurd (let z = h.there in cc)
has_some (y ∷ xs) x h = omega arith
