-- Any instruction that fetch comes to can be issued if the lane has room for two requests.
use Rattle.std.proofs.Common.{◌≡◌, ℕ, ◌+◌, ◌<◌, ◌≤◌, List, [], ◌∷◌, Option, Some, None, Bool, true, false, refl, length, arith}
use Rattle.std.specs.Prelude.{◌&&◌, ◌==◌, if◌then◌else◌, not, nat_lt}
use Rattle.std.proofs.lemmas.Bool.Decides.{nat_tests}
use Rattle.cf_bind.specs.declared.cell.Cell.{Cell}
use Rattle.cf_bind.specs.declared.moves.Move.TheVariants.{Issue}
use Rattle.cf_bind.specs.declared.packet.Fetch.{Fetch}
use Rattle.cf_bind.specs.declared.packet.Fetch.TheVariants.{Running, Waiting}
use Rattle.cf_bind.specs.declared.passenger.Guess.TheVariants.{Next}
use Rattle.cf_bind.specs.declared.passenger.Passenger.{Passenger}
use Rattle.cf_layout.specs.Layout.{Plan}
use Rattle.cf_semantics.specs.moves.Bars.{bar}
use Rattle.cf_semantics.specs.moves.Instructions.{fetched}
use Rattle.cf_semantics.specs.state.Layouts.{isa_of}
use Rattle.cf_semantics.specs.state.Options.{on, is_some}
use Rattle.cf_semantics.specs.state.Passengers.{both, fresh, missing, requests}
use Rattle.cf_semantics.specs.state.State.{State, cell_at}
use Rattle.cf_stages.specs.Changes.{passenger_at}
use Rattle.cf_index.specs.Allowed.{is_allowed, is_running, issues_any}
use Rattle.cf_index.specs.Words.{goes_on}

-- an instruction has at most two sources
one_or_two : (r s : ℕ) (b : Bool) → length (if b then r ∷ [] else r ∷ s ∷ []) ≤ 2
one_or_two r s true = omega arith
one_or_two r s false = omega arith

few_both : (a b : Option ℕ) → length (both a b) ≤ 2
few_both None None = omega arith
few_both None (Some s) = omega arith
few_both (Some r) None = omega arith
few_both (Some r) (Some s) = one_or_two r s (r == s)

few_requests : (p : Passenger) → length (requests p) ≤ 2
few_requests p = few_both (missing p.src1) (missing p.src2)

-- there is a lowest stage
lowest : (cells : List Cell) → 0 < length cells → (c : Cell) × (cell_at cells 1 ≡ Some c)
lowest [] some = absurd (omega arith)
lowest (c ∷ cells) some = (c, refl)

none_there : (o : Option Cell) (c : Cell) → o ≡ Some c → not (is_some (on o None (λ d. d.passenger))) ≡ true → is_some c.passenger ≡ false
none_there o c here none = emptied (is_some c.passenger) (rw here at none)
  where
    emptied : (b : Bool) → not b ≡ true → b ≡ false
    emptied true e = absurd (cc)
    emptied false e = refl

any_row : (plan : Plan) (s : State) (c : Cell) (pc : ℕ) → is_some s.ending ≡ false → s.failed ≡ false → s.fetch ≡ Running pc → cell_at s.cells 1 ≡ Some c →
    is_some c.passenger ≡ false →
    nat_lt plan.lane (length s.lane + length (requests (fresh s.cache (fetched (isa_of plan) s.mem pc) pc Next))) ≡ false →
    is_allowed plan s (Issue Next) ≡ true
unfolding bar
any_row plan s c pc unended unfailed runs here none room = rw (unended, unfailed, here, runs, none, room) refl

any_running : (plan : Plan) (s : State) (f : Fetch) → is_some s.ending ≡ false → s.failed ≡ false → s.fetch ≡ f → is_running f ≡ true →
    0 < length s.cells → not (is_some (passenger_at s.cells 1)) ≡ true → length s.lane + 1 < plan.lane → is_allowed plan s (Issue Next) ≡ true
any_running plan s Waiting unended unfailed is runs some none room = absurd (cc)
any_running plan s (Running pc) unended unfailed is runs some none room =
    let c = lowest s.cells some in
    let p : Passenger = fresh s.cache (fetched (isa_of plan) s.mem pc) pc Next in
    let few = few_requests p in
    let fits : nat_lt plan.lane (length s.lane + length (requests p)) ≡ false = grind (arith, nat_tests, few, room) in
    any_row plan s c.0 pc unended unfailed is c.1 (none_there (cell_at s.cells 1) c.0 c.1 none) fits

going : (a b : Bool) → (not a && not b) ≡ true → (a ≡ false) × (b ≡ false)
going false false e = (refl, refl)
going false true e = absurd (cc)
going true b e = absurd (cc)

parts : (a b c d : Bool) → (a && (b && (c && d))) ≡ true → (a ≡ true) × (b ≡ true) × (c ≡ true) × (d ≡ true)
parts true true true true e = (refl, refl, refl, refl)
parts true true true false e = absurd (cc)
parts true true false d e = absurd (cc)
parts true false c d e = absurd (cc)
parts false b c d e = absurd (cc)

pub any_allowed : (plan : Plan) (s : State) → 0 < length s.cells → issues_any plan s ≡ true → is_allowed plan s (Issue Next) ≡ true
any_allowed plan s some e =
    let all = parts (goes_on s) (is_running s.fetch) (not (is_some (passenger_at s.cells 1))) (nat_lt (length s.lane + 1) plan.lane) e in
    let on_it = going (is_some s.ending) s.failed all.0 in
    let t = all.3 in
    let room : length s.lane + 1 < plan.lane = grind (arith, nat_tests, t) in
    any_running plan s s.fetch on_it.0 on_it.1 refl all.1 some all.2 room
