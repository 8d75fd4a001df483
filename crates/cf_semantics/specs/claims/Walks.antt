-- Walks down the column: what is known on the way changes with each item that is passed.
use Rattle.std.specs.Prelude.{List, [], ◌∷◌}
use Rattle.cf_semantics.specs.state.Column.{Item}

-- what is known below the items
abbrev pub walk : {W : Type 0} → (Item → W → W) → List Item → W → W
walk past [] w = w
walk past (x ∷ xs) w = walk past xs (past x w)

-- what holds of each item, with what is known above it
abbrev pub Everywhere : {W : Type 0} → (Item → W → Type 0) → (Item → W → W) → List Item → W → Type 0
Everywhere Fits past [] w = Unit {0}
Everywhere Fits past (x ∷ xs) w = Fits x w × Everywhere Fits past xs (past x w)
