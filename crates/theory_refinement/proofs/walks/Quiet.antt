-- Where nothing has passed the port: below a risk, memory, code, input and output are not touched.
use Rattle.std.proofs.Common.{◌≡◌, ℕ, List, [], ◌∷◌, Bool, true, false, ◌||◌, refl, ◌∙◌}
use Rattle.cf_bind.specs.declared.passenger.Passenger.{Passenger}
use Rattle.theory_refinement.proofs.walks.Port.{ported_calm, served_calm}
use Rattle.cf_semantics.specs.state.Column.{Down, Item, Up}
use Rattle.cf_semantics.specs.claims.Walks.{Everywhere, walk}
use Rattle.rv_inst.specs.declared.isa.Isa.{Isa}
use Rattle.cf_semantics.specs.claims.Ahead as ahead
use Rattle.theory_refinement.proofs.invariant.Port as dock
use Rattle.cf_semantics.specs.claims.Path as trail
use Rattle.cf_semantics.specs.claims.Soundness.{may_turn}

-- what the port leaves unchanged
pub record Unchanged (w v : dock.Dock) : Type 0 where
  pub mem : v.mem ≡ w.mem
  pub code : v.code ≡ w.code
  pub rest : v.rest ≡ w.rest
  pub out : v.out ≡ w.out

rider_quiet : (isa : Isa) (i : ℕ) (p : Passenger) (w : dock.Dock) → dock.Fits isa (Up i p) w → w.risky ≡ true →
    Unchanged w (dock.past isa (Up i p) w) × ((dock.past isa (Up i p) w).risky ≡ true)
unfolding dock.past dock.Fits
rider_quiet isa i p w h e = go (ahead.has_ported p w.answer) (ahead.has_served p) refl refl
  where
    go : (a b : Bool) → ahead.has_ported p w.answer ≡ a → ahead.has_served p ≡ b → Unchanged w (dock.past_passenger isa i p (trail.past isa (Up i p) w.path) w)
        × ((w.risky || may_turn (Up i p)) ≡ true)
    go true b f g = absurd (let z = ported_calm isa p w h f in cc)
    go false true f g = absurd (let z = served_calm isa p w h g in cc)
    go false false f g = (record { mem = rw f refl; code = rw g refl; rest = rw g refl; out = rw g refl }, rw e refl)

result_quiet : (isa : Isa) (i : ℕ) (k : _) (w : dock.Dock) → w.risky ≡ true → Unchanged w (dock.past isa (Down i k) w)
    × ((dock.past isa (Down i k) w).risky ≡ true)
unfolding dock.past
result_quiet isa i k w e = (record { mem = refl; code = refl; rest = refl; out = refl }, rw e refl)

pub quiet : (isa : Isa) (xs : List Item) (w : dock.Dock) → w.risky ≡ true → Everywhere (dock.Fits isa) (dock.past isa) xs w →
    Unchanged w (walk (dock.past isa) xs w)
quiet isa [] w e h = record { mem = refl; code = refl; rest = refl; out = refl }
quiet isa (Up i p ∷ xs) w e h =
    let a = rider_quiet isa i p w h.0 e in
    let b = quiet isa xs (dock.past isa (Up i p) w) a.1 h.1 in
    record { mem = b.mem ∙ a.0.mem; code = b.code ∙ a.0.code; rest = b.rest ∙ a.0.rest; out = b.out ∙ a.0.out }
quiet isa (Down i k ∷ xs) w e h =
    let a = result_quiet isa i k w e in
    let b = quiet isa xs (dock.past isa (Down i k) w) a.1 h.1 in
    record { mem = b.mem ∙ a.0.mem; code = b.code ∙ a.0.code; rest = b.rest ∙ a.0.rest; out = b.out ∙ a.0.out }
