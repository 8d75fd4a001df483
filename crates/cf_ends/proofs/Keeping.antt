-- The cached values, by register.
use Rattle.std.proofs.Common.{◌≡◌, ℕ, zero, suc, List, [], ◌∷◌, Option, None, length, replicate, refl, ap, subst}
use Rattle.std.specs.Prelude.{slice_index_or}
use Rattle.cf_semantics.specs.state.Passengers.{cached, cleared}

-- what is read at a register is what is cached for it
pub kept-at : (cache : List (Option ℕ)) (r : ℕ) → slice_index_or cache r None ≡ cached cache r
kept-at [] r = refl
kept-at (o ∷ cache) zero = refl
kept-at (o ∷ cache) (suc r) = kept-at cache r

-- a cleared cache has no value in any of its entries
none-kept : (cache : List (Option ℕ)) → cleared cache ≡ replicate (length cache) None
none-kept [] = refl
none-kept (o ∷ cache) = ap (λ (l : List (Option ℕ)). None ∷ l) (none-kept cache)

none-of : (cache : List (Option ℕ)) (n : ℕ) → length cache ≡ n → cleared cache ≡ replicate n None
none-of cache n e = subst (λ (m : ℕ). cleared cache ≡ replicate m None) e (none-kept cache)

-- there is an entry for each of the 32 registers
pub none-of-32 : (cache : List (Option ℕ)) → length cache ≡ 32 → cleared cache ≡ replicate 32 None
none-of-32 cache e = none-of cache 32 e

pub ruleset reading = (kept-at)

pub ruleset clearing = (none-of-32)
