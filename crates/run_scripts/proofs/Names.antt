-- The names of kinds by their indices.
use Rattle.std.proofs.Common.{◌≡◌, ℕ, zero, suc, ◌<◌, ◌≤◌, List, [], ◌∷◌, length, map, refl, sym, arith}
use Rattle.std.specs.Prelude.{slice_get, slice_index_or, unwrap_or}
use Rattle.run_scripts.specs.declared.kind.Kind.{Kind}
use Rattle.run_scripts.specs.declared.kind.Kind.TheVariants.{Issue, Emit, Climb, Fall, Meet, Execute, Send, Launch, Slide, Access, Recover, Leave, Exit, Serve}
use Rattle.run_scripts.specs.Kinds.{name_at, name_of, names, kinds}

-- the name of a kind is at its index
name-there : (ks : List Kind) (place : ℕ) (kind : Kind) → place < length ks → kind ≡ slice_index_or ks place kind →
    unwrap_or (slice_get (map name_of ks) place) [] ≡ name_of kind
name-there [] place kind within is = absurd (omega (arith, within))
name-there (k ∷ ks) zero kind within is = let same : k ≡ kind = sym is in rw same refl
name-there (k ∷ ks) (suc place) kind within is = name-there ks place kind (omega (arith, within)) is

pub named-at : (place : ℕ) (kind : Kind) → place < 14 → kind ≡ slice_index_or kinds place kind → name_at place ≡ name_of kind
unfolding name_at names
named-at place kind within is = name-there kinds place kind within is

-- a name has few letters
pub name-few : (kind : Kind) → length (name_of kind) ≤ 7
name-few Issue = omega arith
name-few Emit = omega arith
name-few Climb = omega arith
name-few Fall = omega arith
name-few Meet = omega arith
name-few Execute = omega arith
name-few Send = omega arith
name-few Launch = omega arith
name-few Slide = omega arith
name-few Access = omega arith
name-few Recover = omega arith
name-few Leave = omega arith
name-few Exit = omega arith
name-few Serve = omega arith

pub ruleset named = (named-at, name-few)
