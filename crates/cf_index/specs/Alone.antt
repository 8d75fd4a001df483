-- Which moves cannot be exchanged with others, whatever places they use; and states that have the cells of their
-- layout.
use Rattle.std.specs.Prelude.{◌≡◌, ℕ, length, Bool, true, false}
use Rattle.cf_layout.specs.Layout.{Plan, cells_of}
use Rattle.cf_bind.specs.declared.moves.Move.{Move}
use Rattle.cf_bind.specs.declared.moves.Move.TheVariants.{Leave, Serve}
use Rattle.cf_semantics.specs.moves.Sites.{ends_there}
use Rattle.cf_semantics.specs.state.State.{State, siding_at}

-- Serve, whose call may fail, and the Leave that ends the program
abbrev pub stands_alone : Plan → State → Move → Bool
stands_alone plan s Serve = true
stands_alone plan s Leave = ends_there plan s
stands_alone plan s mv = false

-- the state has as many cells in each siding as the layout says
abbrev pub HasSidings : Plan → State → Type 0
HasSidings plan s = (k : ℕ) → length (siding_at s k) ≡ cells_of plan k
