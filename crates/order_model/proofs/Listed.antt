-- The list of all moves, part by part.
use Rattle.std.proofs.Common.{◌≡◌, ℕ, zero, suc, ◌+◌, ◌-◌, ◌<◌, List, [], ◌∷◌, ◌++◌, take, length, refl, ap, sym, ◌∙◌, arith, append_assoc}
use Rattle.std.specs.Prelude.{map, slice_get, unwrap_or}
use Rattle.std.proofs.lemmas.List.{append-nil}
use Rattle.cf_layout.specs.Layout.{SidingPlan, Plan, no_siding, cells_of}
use Rattle.cf_bind.specs.declared.passenger.Guess.TheVariants as guess
use Rattle.cf_bind.specs.declared.moves.Move.{Move}
use Rattle.cf_bind.specs.declared.moves.Move.TheVariants.{Issue, Emit, Climb, Fall, Meet, Execute, Send, Launch, Slide, Access, Recover, Leave, Exit, Serve}
use Rattle.cf_semantics.specs.moves.Candidates.{all_moves, at_stages, counted_from, slides_from}

-- one more move of a kind
counted_next : (f : ℕ → Move) (first n k : ℕ) → k ≡ suc n → map f (counted_from first k) ≡ map f (counted_from first n) ++ f (first + n) ∷ []
counted_next f first zero k e = rw e (ap (λ (i : ℕ). f i ∷ []) (omega arith))
counted_next f first (suc n) k e = rw e (ap (λ (l : List Move). f first ∷ l) (counted_next f (suc first) n (suc n) refl
    ∙ ap (λ (i : ℕ). map f (counted_from (suc first) n) ++ f i ∷ []) (omega arith)))

pub counted_more : (f : ℕ → Move) (first n : ℕ) (m : Move) → m ≡ f (first + n) → map f (counted_from first (n + 1)) ≡ map f (counted_from first n) ++ m ∷ []
counted_more f first n m e = counted_next f first n (n + 1) (omega arith) ∙ ap (λ (l : Move). map f (counted_from first n) ++ l ∷ []) (sym e)

-- a list that grew by a part
pub grown : (start now new a b c : List Move) → now ≡ start ++ a → new ≡ now ++ b → c ≡ a ++ b → new ≡ start ++ c
grown start now new a b c e f g = f ∙ ap (λ (l : List Move). l ++ b) e ∙ append_assoc start a b ∙ ap (λ (l : List Move). start ++ l) (sym g)

-- the moves within one more siding
slides_take : (first : ℕ) (sidings : List SidingPlan) (k n : ℕ) (d : SidingPlan) → n ≡ suc k → k < length sidings → slides_from first (take n sidings)
    ≡ slides_from first (take k sidings) ++ map (Slide (first + k)) (counted_from 0 ((unwrap_or (slice_get sidings k) d).cells - 1))
slides_take first [] k n d e h = absurd (omega arith)
slides_take first (s ∷ sidings) zero n d e h = rw e (append-nil (map (Slide first) (counted_from 0 (s.cells - 1)))
    ∙ ap (λ (i : ℕ). map (Slide i) (counted_from 0 (s.cells - 1))) (omega arith))
slides_take first (s ∷ sidings) (suc k) n d e h = rw e (ap (λ (l : List Move). map (Slide first) (counted_from 0 (s.cells - 1)) ++ l)
    (slides_take (suc first) sidings k (suc k) d refl (omega arith)
    ∙ ap (λ (i : ℕ). slides_from (suc first) (take k sidings) ++ map (Slide i) (counted_from 0 ((unwrap_or (slice_get sidings k) d).cells - 1))) (omega arith))
    ∙ sym (append_assoc (map (Slide first) (counted_from 0 (s.cells - 1))) (slides_from (suc first) (take k sidings)) _))

pub slides_more : (plan : Plan) (k : ℕ) → k < length plan.sidings → slides_from 0 (take (k + 1) plan.sidings)
    ≡ slides_from 0 (take k plan.sidings) ++ map (Slide k) (counted_from 0 (cells_of plan k - 1))
unfolding cells_of
slides_more plan k h = slides_take 0 plan.sidings k (k + 1) no_siding (omega arith) h
    ∙ ap (λ (i : ℕ). slides_from 0 (take k plan.sidings) ++ map (Slide i) (counted_from 0 ((unwrap_or (slice_get plan.sidings k) no_siding).cells - 1)))
    (omega arith)

-- the parts of the list, joined one after another, are the list
pub joined : (plan : Plan) (moves : List Move) → moves
    ≡ ((((((((((((Issue guess.Next ∷ Issue guess.Taken ∷ Issue guess.Wait ∷ Emit ∷ []) ++ at_stages plan Climb) ++ at_stages plan Fall) ++ at_stages plan Meet)
    ++ at_stages plan Execute) ++ at_stages plan Send) ++ at_stages plan Launch) ++ slides_from 0 plan.sidings) ++ Access ∷ []) ++ at_stages plan Recover)
    ++ Leave ∷ Exit ∷ Serve ∷ [])) → moves ≡ all_moves plan
unfolding all_moves
joined plan moves e = e ∙ simp append_assoc

pub ruleset listing = (joined)
