-- From the invariant: what nothing follows, parts (h) and (i) of soundness.
use Rattle.std.proofs.Common.{◌≡◌, ℕ, ◌<◌, List, [], ◌∷◌, ◌++◌, Some, Bool, true, false, refl, ap, subst, ◌∙◌, arith}
use Rattle.std.proofs.lemmas.Bool.Decides.{nat_tests}
use Rattle.rv_machine.specs.Machine.{Machine}
use Rattle.cf_layout.specs.Accepted.{memory_launch}
use Rattle.cf_layout.specs.Layout.{Plan}
use Rattle.cf_bind.specs.declared.packet.Fetch.TheVariants.{Waiting}
use Rattle.cf_bind.specs.declared.packet.Packet.{Packet}
use Rattle.cf_bind.specs.declared.passenger.Passenger.{Passenger}
use Rattle.cf_semantics.specs.state.Column.{Down, Item, Up, column}
use Rattle.cf_semantics.specs.claims.Path.{turns}
use Rattle.cf_semantics.specs.state.Places.{IsHarmless}
use Rattle.cf_semantics.specs.claims.Soundness.{HighBarriers, NoFollower, is_lone}
use Rattle.cf_semantics.specs.state.State.{State}
use Rattle.cf_semantics.specs.claims.Walks.{Everywhere, walk}
use Rattle.theory_refinement.proofs.invariant.Invariant.{Sound}
use Rattle.theory_refinement.proofs.invariant.Lone as lone
use Rattle.theory_refinement.proofs.layouts.Accepted.{launch_is}
use Rattle.theory_refinement.proofs.column.Fold.{fit_back, walk_append}
use Rattle.theory_refinement.proofs.walks.Lone.{no_rider, shut_past}

-- below what nothing may follow
shut_walk : (plan : Plan) (xs : List Item) → walk (lone.past plan) xs true ≡ true
shut_walk plan [] = refl
shut_walk plan (i ∷ xs) = ap (walk (lone.past plan) xs) (shut_past plan i) ∙ shut_walk plan xs

no_barrier : (i : ℕ) (k : Packet) → lone.Fits (Down i k) true → turns (Some k) ≡ false
unfolding lone.Fits
no_barrier i k h = go (turns (Some k)) refl
  where
    go : (b : Bool) → turns (Some k) ≡ b → turns (Some k) ≡ false
    go false e = e
    go true e = absurd (let z = h e in cc)

harmless : (plan : Plan) (xs : List Item) → Everywhere lone.Fits (lone.past plan) xs true → IsHarmless xs
harmless plan [] h = tt
harmless plan (Up i p ∷ xs) h = no_rider i p h.0
harmless plan (Down i k ∷ xs) h =
    (no_barrier i k h.0, harmless plan xs (subst (λ (b : Bool). Everywhere lone.Fits (lone.past plan) xs b) (shut_past plan (Down i k)) h.1))

-- an item that nothing may follow, at its position
alone : {rest out : List ℕ} (plan : Plan) (s : State) (x : Machine) (above : List Item) (i : Item) (below : List Item) → column s ≡ above ++ (i ∷ below) →
    ((b : Bool) → lone.past plan i b ≡ true) → Sound plan s rest out x → IsHarmless below × (s.fetch ≡ Waiting)
alone plan s x above i below e shut h =
    let b = walk (lone.past plan) above false in
    let fit = fit_back _ lone.Fits (lone.past plan) above (i ∷ below) false (rw e at h.lone_fit) in
    let all : walk (lone.past plan) (column s) false ≡ true =
    ap (λ (z : List Item). walk (lone.past plan) z false) e ∙ walk_append (lone.past plan) above (i ∷ below) false ∙ ap (walk (lone.past plan) below) (shut b)
    ∙ shut_walk plan below in
    (harmless plan below (subst (λ (z : Bool). Everywhere lone.Fits (lone.past plan) below z) (shut b) fit.1), h.lone_ends all)

-- (h) no follower
lone_shuts : (plan : Plan) (i : ℕ) (p : Passenger) (b : Bool) → is_lone p ≡ true → lone.past plan (Up i p) b ≡ true
unfolding lone.past
lone_shuts plan i p b e = grind arith

pub no_follower : {rest out : List ℕ} (plan : Plan) (s : State) (x : Machine) → Sound plan s rest out x → NoFollower s
no_follower plan s x h p e = alone plan s x p.above (Up p.stage p.who) p.below p.split (λ b. lone_shuts plan p.stage p.who b e) h

-- (i) high barriers
is_high : (plan : Plan) (i : ℕ) → memory_launch plan < i → lone.is_high plan i ≡ true
is_high plan i n = let e = launch_is plan in grind (arith, nat_tests)

packet_shuts : (plan : Plan) (i : ℕ) (k : Packet) (b : Bool) → turns (Some k) ≡ true → lone.is_high plan i ≡ true → lone.past plan (Down i k) b ≡ true
unfolding lone.past
packet_shuts plan i k b e f = grind arith

owing_shuts : (plan : Plan) (i : ℕ) (p : Passenger) (b : Bool) → turns p.owes ≡ true → lone.is_high plan i ≡ true → lone.past plan (Up i p) b ≡ true
unfolding lone.past
owing_shuts plan i p b e f = grind arith

pub high_barriers : {rest out : List ℕ} (plan : Plan) (s : State) (x : Machine) → Sound plan s rest out x → HighBarriers plan s
high_barriers plan s x h = record {
  lying = λ k e n. alone plan s x k.above (Down k.stage k.what) k.below k.split (λ b. packet_shuts plan k.stage k.what b e (is_high plan k.stage n)) h;
  owed = λ p e n. alone plan s x p.above (Up p.stage p.who) p.below p.split (λ b. owing_shuts plan p.stage p.who b e (is_high plan p.stage n)) h;
}
