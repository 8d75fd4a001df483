-- What nothing may follow.
use Rattle.std.specs.Prelude.{◌≡◌, ℕ, Some, Bool, true, false, ◌&&◌, ◌||◌, nat_lt}
use Rattle.cf_layout.specs.Layout.{Plan, launch_stage}
use Rattle.cf_bind.specs.declared.packet.Fetch.{Fetch}
use Rattle.cf_bind.specs.declared.packet.Fetch.TheVariants.{Waiting}
use Rattle.cf_bind.specs.declared.passenger.Passenger.{Passenger}
use Rattle.cf_semantics.specs.state.Column.{Item, Up, Down}
use Rattle.cf_semantics.specs.state.Layouts.{port}
use Rattle.cf_semantics.specs.claims.Path.{turns}
use Rattle.cf_semantics.specs.claims.Soundness.{is_lone}

-- above the stage from which loads and stores are launched
abbrev pub is_high : Plan → ℕ → Bool
is_high plan i = nat_lt (launch_stage plan (port plan)) i

-- nothing may follow it
abbrev pub shuts : Plan → ℕ → Passenger → Bool
shuts plan i p = is_lone p || (turns p.owes && is_high plan i)

-- an item, with whether something above it lets nothing follow
unfoldable pub Fits : Item → Bool → Type 0
Fits (Up i p) shut = shut ≡ false
Fits (Down i k) shut = turns (Some k) ≡ true → shut ≡ false

-- one item further down
unfoldable pub past : Plan → Item → Bool → Bool
past plan (Up i p) shut = shut || shuts plan i p
past plan (Down i k) shut = shut || (turns (Some k) && is_high plan i)

-- below all: fetch waits
abbrev pub Ends : Bool → Fetch → Type 0
Ends shut f = shut ≡ true → f ≡ Waiting
