-- Chains of a run: some of its moves, in order, each of which shares a site with the next one.
use Rattle.std.specs.Prelude.{◌≡◌, ℕ, ◌+◌, ◌≤◌, List, [], ◌∷◌, true, ◌⊎◌}
use Rattle.cf_layout.specs.Layout.{Plan}
use Rattle.cf_index.specs.Sites.{shares}
use Rattle.cf_timed.specs.Times.{DelayedMove}

-- the first list is a subsequence of the second
abbrev pub ArePart : List DelayedMove → List DelayedMove → Type 0
ArePart [] moves = Unit {0}
ArePart (d ∷ part) [] = ⊥
ArePart (d ∷ part) (first ∷ moves) = ((d ≡ first) × ArePart part moves) ⊎ ArePart (d ∷ part) moves

-- each shares a site with the next one
abbrev pub AreLinked : Plan → List DelayedMove → Type 0
AreLinked plan [] = Unit {0}
AreLinked plan (d ∷ []) = Unit {0}
AreLinked plan (d ∷ next ∷ moves) = (shares plan d.mv next.mv ≡ true) × AreLinked plan (next ∷ moves)

-- a chain of a run
pub record IsChain (plan : Plan) (moves chain : List DelayedMove) : Type 0 where
  pub part : ArePart chain moves
  pub linked : AreLinked plan chain

-- the sum of the delays of some moves
unfoldable pub sum_of_delays : List DelayedMove → ℕ
sum_of_delays [] = 0
sum_of_delays (d ∷ moves) = d.delay + sum_of_delays moves

-- the time of a run is the sum of the delays of some chain of it, and no chain has a larger sum
pub record IsLongest (plan : Plan) (moves : List DelayedMove) (time : ℕ) : Type 0 where
  pub chain : List DelayedMove
  pub is_chain : IsChain plan moves chain
  pub is : sum_of_delays chain ≡ time
  pub most : (other : List DelayedMove) → IsChain plan moves other → sum_of_delays other ≤ time
