-- Only Serve finds out what the input has left.
use Rattle.std.proofs.Common.{◌≡◌, ℕ, List, refl, ◌⊎◌, inl, inr}
use Rattle.cf_layout.specs.Layout.{Plan}
use Rattle.cf_bind.specs.declared.moves.Move.{Move}
use Rattle.cf_bind.specs.declared.moves.Move.TheVariants.{Access, Climb, Emit, Execute, Exit, Fall, Issue, Launch, Leave, Meet, Recover, Send, Serve, Slide}
use Rattle.cf_semantics.specs.moves.Moves.{next}
use Rattle.cf_semantics.specs.state.State.{Moment}
use Rattle.theory_unknown_input.specs.UnknownInput.{finding}

-- any other move does the same whatever it finds, and leaves the input as it found it
pub found : (plan : Plan) (m : Moment) (mv : Move) (before rest : List ℕ) → (mv ≡ Serve) ⊎ (next plan (finding rest m) mv
    ≡ finding rest (next plan (finding before m) mv))
unfolding next
found plan m (Issue g) before rest = inr refl
found plan m Emit before rest = inr refl
found plan m (Climb i) before rest = inr refl
found plan m (Fall i) before rest = inr refl
found plan m (Meet i) before rest = inr refl
found plan m (Execute i) before rest = inr refl
found plan m (Send i) before rest = inr refl
found plan m (Launch i) before rest = inr refl
found plan m (Slide k c) before rest = inr refl
found plan m Access before rest = inr refl
found plan m (Recover i) before rest = inr refl
found plan m Leave before rest = inr refl
found plan m Exit before rest = inr refl
found plan m Serve before rest = inl refl
