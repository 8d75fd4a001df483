-- What a lane lists, request by request, what the cache lists, and how many cells a siding has.
use Rattle.std.proofs.Common.{◌≡◌, ℕ, ◌+◌, ◌<◌, ◌≤◌, List, [], ◌∷◌, ◌++◌, length, drop, Option, refl, sym, subst, add-one, append-nil, append_assoc, arith}
use Rattle.std.specs.Prelude.{codes, slice_index}
use Rattle.std.proofs.Math.Seq.{drop-cons}
use Rattle.std.proofs.lemmas.Option.{unwrap_or-slice_get}
use Rattle.cf_layout.specs.Layout.{Plan, SidingPlan, no_siding, cells_of}
use Rattle.cf_layout.specs.Accepted.{IsAccepted}
use Rattle.texts.specs.Lines.{register_name}
use Rattle.cf_semantics.specs.state.Passengers.{cached}
use Rattle.cf_report.specs.Picture.{or_dash, requests_text, cached_text, kept_below}

pub requests-listed : (lane : List ℕ) → 0 < length lane → or_dash (requests_text lane) ≡ requests_text lane
requests-listed [] h = absurd (omega arith)
requests-listed (r ∷ lane) h = refl

pub requests-none : (lane : List ℕ) → length lane ≡ 0 → or_dash (requests_text lane) ≡ 32 ∷ 45 ∷ []
requests-none [] h = refl
requests-none (r ∷ lane) h = absurd (omega arith)

pub ruleset listed = (requests-listed, requests-none)

-- the requests from one on are that one and those after it
pub requests-next : (text : List ℕ) (lane : List ℕ) (j : ℕ) → j < length lane
    → ((text ++ codes " ") ++ register_name (slice_index lane j)) ++ requests_text (drop (j + 1) lane) ≡ text ++ requests_text (drop j lane)
requests-next text lane j h = rw (add-one, drop-cons lane j 0) (simp append_assoc)

pub ruleset listing = (requests-next)

-- an empty list of registers, and one more register
pub kept-none : (text : List ℕ) (cache : List (Option ℕ)) → text ≡ text ++ kept_below 0 cache
unfolding kept_below
kept-none text cache = sym (append-nil text)

pub kept-next : (text : List ℕ) (cache : List (Option ℕ)) (r : ℕ)
    → (text ++ kept_below r cache) ++ cached_text r (cached cache r) ≡ text ++ kept_below (r + 1) cache
unfolding kept_below
kept-next text cache r = rw add-one (append_assoc text (kept_below r cache) (cached_text r (cached cache r)))

-- a siding of an accepted layout has at most eight cells
pub cells-few : (plan : Plan) (k : ℕ) → IsAccepted plan → k < length plan.sidings → cells_of plan k ≤ 8
unfolding cells_of
cells-few plan k a below =
    subst (λ (siding : SidingPlan). siding.cells ≤ 8) (sym (unwrap_or-slice_get plan.sidings k no_siding)) (a.sidings k no_siding below).cells.1
