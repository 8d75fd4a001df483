-- What `part_mut` learns from its test, and how the memory is borrowed for the call that makes the test.
use Rattle.std.proofs.Common.{◌≡◌, ℕ, List, [], ◌∷◌, Bool, true, false, Option, Some, None, not, T, IsTrue, refl, sym, ◌∙◌}
use Rattle.std.specs.Prelude.{position}
use seplogic.Ra.Ura.{Ura}
use base.Fraction.{full_share}
use base.Logic.{ent, sep}
use base.Fml.{Lft, GName, Share, Fml, fsep, flft, fdead, flent, fobs, fauth, fobor, Incl-refl}
use mir.Syntax.{named}
use mir.Val.{Val, vptr}
use types.Logic.{Logic, sem}
use types.Kit.{‵, ◌⊛◌, later, ◌$◌, ◌∵◌, !, qed, move, use2, split, fsplit, fsplit3, fjoin, fjoin3, feq_l, feq_i, await, updating, now, done}
use contract.BorrowLft.{⊑_static}
use types.Tokens.{lent_back}
use types.Mut.{open_ref, close_ref}
use types.SemTy.{Body}
use denote.Memory.{mem, part_at}
use denote.Ref.{MutRef, ShrRef}
use denote.Lend.{lends_shr}
use Rattle.mem_regions.specs.Memory.{Memory}
use Rattle.mem_regions.specs.Ranges.{writes_in, can_write, writable_of}
use Rattle.mem_regions.proofs.Writes.{place_permits, writable_of-none}
use Rattle.mem_regions.specs.contracts.regions.Regions.{the_row as R}
use Rattle.mem_regions.proofs.regions.Regions.TheLaws.{the_row_laws}

-- a test whose negation holds is false
pub off : (t : Bool) → T (not t) → t ≡ false
off true h = absurd h
off false h = refl

-- a test whose double negation holds is true
can_of : (t c : Bool) → t ≡ c → T (not (not t)) → c ≡ true
can_of true c e h = sym e
can_of false c e h = absurd h

-- the test says that the range can be written
pub can : (m : Memory) (at len : ℕ) (t : Bool) → t ≡ can_write m at len → T (not (not t)) → IsTrue (can_write m at len)
can m at len t e h = can_of t (can_write m at len) e h

-- if nothing can be written, there is no index, and there are no bytes at it
nothing_lent : (m : Memory) (at len : ℕ) (place : Option ℕ) → place ≡ position (writes_in at len) m.areas → can_write m at len ≡ false →
    writable_of m at len ≡ None
unfolding can_write
nothing_lent m at len None e h = writable_of-none m at len e
nothing_lent m at len (Some i) e h = let on = place_permits m at len i e in cc

-- if the test fails, there are no bytes to be borrowed for writing
pub cannot_write : (m : Memory) (at len : ℕ) (t : Bool) → t ≡ can_write m at len → t ≡ false → writable_of m at len ≡ None
cannot_write m at len t e h = nothing_lent m at len (position (writes_in at len) m.areas) refl (sym e ∙ h)

module _ {M : Type 1} {𝓤 : Ura M} (𝓛 : Logic 𝓤) (κ : Lft) (q : Share) (b o : ℕ) (γ : GName) (m : Memory) where
  open 𝓛 use {H, A}

  -- the regions, borrowed by the holder
  abbrev pub Own : Fml
  Own = (MutRef (named 0) κ R).own_val (record { ref_ptr = (b, o); ghost_name = γ; now = m }) (vptr b o ∷ [])

  -- the regions, borrowed as `&` for α
  abbrev pub Shown : ℕ → Fml
  Shown α = (ShrRef (named 0) (α ∷ []) R).own_val (record { ref_ptr = (b, o); now = m }) (vptr b o ∷ [])

  -- what the holder keeps while the regions are borrowed as `&` for α
  abbrev pub Kept : ℕ → Fml
  Kept α = fsep (flent (α ∷ []) (part_at R full_share m b o)) (fsep (fobor κ q (Body (mem R) b o γ))
      (fsep (fobs γ (R.coded.code m)) (fauth γ (R.coded.code m))))

  -- they are borrowed as `&` ..
  pub shows_out : (α : ℕ) → ent 𝓤 (sep 𝓤 (sem 𝓛 Own) (sep 𝓤 (A.lft κ q) (A.lft (α ∷ []) full_share)))
      (H.⇛ (sep 𝓤 (sem 𝓛 (Shown α)) (sep 𝓤 (A.lft (α ∷ []) full_share) (sem 𝓛 (Kept α)))))
  shows_out α = qed 𝓛 (‵ Own ∷ ‵ (flft κ q) ∷ ‵ (flft (α ∷ []) full_share) ∷ []) ∵ updating ! $ fsplit3 ! $ feq_l ! (λ _. open_ref ! tt (mem R) $
      -- [the regions; the open borrow; obs; auth; the token of α]
      move ! (0 ∷ 4 ∷ []) $
      use2 𝓛 (later ((‵ (Shown α) ⊛ ‵ (flent (α ∷ []) (part_at R full_share m b o))) ⊛ ‵ (flft (α ∷ []) full_share)))
      (lends_shr 𝓛 R (named 0) (α ∷ []) full_share m b o R.lives (the_row_laws.shares 𝓛 m) ((α ∷ [], full_share) ∷ []) (⊑_static (α ∷ [])) (Incl-refl (α ∷ [])))
      $ await ! tt $ split ! $ split ! $
      -- [the `&`; the lender's right; the token of α; the open borrow; obs; auth]
      move ! (4 ∷ 5 ∷ []) $ fjoin ! $ move ! (4 ∷ 0 ∷ []) $ fjoin ! $ move ! (2 ∷ 0 ∷ []) $ fjoin ! $ move ! (1 ∷ 2 ∷ []) $ now ! $ done !)

  -- .. and come back
  pub comes_home : (α : ℕ) → ent 𝓤 (sep 𝓤 (A.dead (α ∷ [])) (sem 𝓛 (Kept α))) (H.⇛ (sep 𝓤 (sem 𝓛 Own) (A.lft κ q)))
  comes_home α = qed 𝓛 (‵ (fdead (α ∷ [])) ∷ ‵ (Kept α) ∷ []) ∵ updating ! $ move ! (1 ∷ []) $ fsplit ! $ move ! (2 ∷ 0 ∷ []) $ lent_back ! tt $ move ! (1
      ∷ []) $ fsplit3 ! $ move ! (3 ∷ []) $
      close_ref ! tt (mem R) m $ now ! $ feq_i ! (List Val) (vptr b o ∷ []) (vptr b o ∷ []) refl $ fjoin3 ! $ done !
