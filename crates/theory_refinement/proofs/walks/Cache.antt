-- The register cache: part (l) at Exit and at Issue.
use Rattle.std.proofs.Common.{◌≡◌, ◌≢◌, ℕ, zero, suc, List, [], ◌∷◌, Option, Some, None, refl, sym, ap, ◌∙◌, arith, ◌⊎◌, inl, inr}
use Rattle.std.specs.Prelude.{slice_index, slice_set}
use Rattle.theory_refinement.proofs.invariant.Sure.{AreRegisters}
use Rattle.cf_semantics.specs.state.Passengers.{cached, cleared, forgets}

-- what the cache has for q once r was set
pub set_cached : (c : List (Option ℕ)) (r q v : ℕ) (o : Option ℕ) → cached (slice_set c r o) q ≡ Some v →
    ((q ≡ r) × (o ≡ Some v)) ⊎ ((q ≢ r) × (cached c q ≡ Some v))
set_cached [] r q v o e = absurd (grind arith)
set_cached (a ∷ c) zero zero v o e = inl (refl, e)
set_cached (a ∷ c) zero (suc q) v o e = inr (λ z. absurd (omega arith), e)
set_cached (a ∷ c) (suc r) zero v o e = inr (λ z. absurd (omega arith), e)
set_cached (a ∷ c) (suc r) (suc q) v o e = go (set_cached c r q v o e)
  where
    go : ((q ≡ r) × (o ≡ Some v)) ⊎ ((q ≢ r) × (cached c q ≡ Some v)) → ((suc q ≡ suc r) × (o ≡ Some v)) ⊎ ((suc q ≢ suc r) × (cached c q ≡ Some v))
    go (inl h) = inl (ap suc h.0, h.1)
    go (inr h) = inr (λ z. h.0 (omega arith), h.1)

pub keep_holds : (c : List (Option ℕ)) (regs : List ℕ) (r v : ℕ) → v ≡ slice_index regs r → AreRegisters c regs → AreRegisters (slice_set c r (Some v)) regs
keep_holds c regs r v e h q u f = go (set_cached c r q u (Some v) f)
  where
    go : ((q ≡ r) × (Some v ≡ Some u)) ⊎ ((q ≢ r) × (cached c q ≡ Some u)) → u ≡ slice_index regs q
    go (inl a) = let z : v ≡ u = cc in rw a.0 (sym z ∙ e)
    go (inr a) = h q u a.1

pub cached_cleared : (c : List (Option ℕ)) (r : ℕ) → cached (cleared c) r ≡ None
cached_cleared [] r = refl
cached_cleared (o ∷ c) zero = refl
cached_cleared (o ∷ c) (suc r) = cached_cleared c r

pub clear_holds : (c : List (Option ℕ)) (regs : List ℕ) → AreRegisters (cleared c) regs
clear_holds c regs r v e = let z = cached_cleared c r in absurd (cc)

-- a new destination is forgotten, and the other registers are unchanged
pub forget_holds : (c : List (Option ℕ)) (d : Option ℕ) (regs news : List ℕ) → ((r : ℕ) → d ≢ Some r → slice_index news r ≡ slice_index regs r) →
    AreRegisters c regs → AreRegisters (forgets d c) news
forget_holds c None regs news k h r v e = h r v e ∙ sym (k r (λ z. absurd (cc)))
forget_holds c (Some d) regs news k h r v e = go (set_cached c d r v None e)
  where
    go : ((r ≡ d) × (None ≡ Some v)) ⊎ ((r ≢ d) × (cached c r ≡ Some v)) → v ≡ slice_index news r
    go (inl a) = absurd (let z = a.1 in cc)
    go (inr a) = h r v a.1 ∙ sym (k r (λ z. a.0 (let y : d ≡ r = cc in sym y)))
