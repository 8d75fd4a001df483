-- The times of sites, with one more site and with one time set.
use Rattle.std.proofs.Common.{◌≡◌, ◌∙◌, refl, sym, ap, ℕ, zero, suc, ◌+◌, ◌≤◌, List, [], ◌∷◌, ◌++◌, length, get_or, map, max, Bool, true, false, cond, arith}
use Rattle.std.specs.Prelude.{filter, replicate, slice_set}
use Rattle.cf_layout.specs.Layout.{Plan}
use Rattle.std.proofs.lemmas.Option.{unwrap_or-slice_get}
use Rattle.std.proofs.lemmas.List.{map-append}
use Rattle.std.proofs.lemmas.List.Elements.{filter-append}
use Rattle.cf_bind.specs.declared.moves.Move.{Move}
use Rattle.cf_semantics.specs.moves.Candidates.{counted_from}
use Rattle.cf_semantics.specs.moves.Sites.{Site, Stage, SidingCell, Lane, Fetching, Memory, Code}
use Rattle.cf_index.proofs.Counted.{counted_split}
use Rattle.cf_timed.specs.Times.{greatest}
use Rattle.cf_timed.specs.DelayedRuns.{DelayRule}
use Rattle.cf_timed.specs.Numbers.{number_at}
use Rattle.cf_timed.specs.Clocks.{NoneLater, SiteTimes, allowed, drawing, put_time, put_times, siding_row, started, time_at}

-- a number by its index
pub number_read : (numbers : List ℕ) (i : ℕ) → get_or numbers i 0 ≡ number_at numbers i
number_read numbers i = sym (unwrap_or-slice_get numbers i 0)

-- a row of cells
pub row-read : (rows : List (List ℕ)) (k : ℕ) → siding_row rows k ≡ get_or rows k []
row-read rows k = unwrap_or-slice_get rows k []

-- a row beyond the last
pub row-past : (rows : List (List ℕ)) (k : ℕ) (row : List ℕ) → length rows ≤ k → slice_set rows k row ≡ rows
row-past [] k row past = refl
row-past (r ∷ rows) zero row past = absurd (omega arith)
row-past (r ∷ rows) (suc k) row past = ap (λ (l : List (List ℕ)). r ∷ l) (row-past rows k row (omega arith))

pub ruleset rows = (row-read, row-past)

-- the maximum of two lists, one after the other
pub greatest-append : (xs ys : List ℕ) → greatest (xs ++ ys) ≡ max (greatest xs) (greatest ys)
greatest-append [] ys = omega arith
greatest-append (x ∷ xs) ys = let r = greatest-append xs ys in omega (arith, r)

-- one more number, if it passes the test
pub numbers_more : (test : ℕ → Bool) (k : ℕ) → filter test (counted_from 0 (k + 1)) ≡ filter test (counted_from 0 k) ++ cond (test k) (k ∷ []) []
numbers_more test k = ap (filter test) (counted_split 0 k 1) ∙ filter-append test (counted_from 0 k) (counted_from (0 + k) 1)
    ∙ ap (λ (i : ℕ). filter test (counted_from 0 k) ++ filter test (counted_from i 1)) (omega arith)

-- the maximum time, with or without one more site
pub greatest_more : (c : SiteTimes) (place : ℕ → Site) (test : ℕ → Bool) (k : ℕ) → greatest (map (time_at c) (map place (filter test (counted_from 0 (k + 1)))))
    ≡ max (greatest (map (time_at c) (map place (filter test (counted_from 0 k))))) (cond (test k) (time_at c (place k)) 0)
greatest_more c place test k =
    ap (λ (l : List ℕ). greatest (map (time_at c) (map place l))) (numbers_more test k)
    ∙ ap (λ (l : List Site). greatest (map (time_at c) l)) (map-append place (filter test (counted_from 0 k)) (cond (test k) (k ∷ []) []))
    ∙ ap greatest (map-append (time_at c) (map place (filter test (counted_from 0 k))) (map place (cond (test k) (k ∷ []) [])))
    ∙ greatest-append (map (time_at c) (map place (filter test (counted_from 0 k)))) (map (time_at c) (map place (cond (test k) (k ∷ []) [])))
    ∙ by (test k)
  where
    by : (b : Bool) → max (greatest (map (time_at c) (map place (filter test (counted_from 0 k)))))
        (greatest (map (time_at c) (map place (cond b (k ∷ []) [])))) ≡ max (greatest (map (time_at c) (map place (filter test (counted_from 0 k)))))
        (cond b (time_at c (place k)) 0)
    by true = omega arith
    by false = refl

-- a time that is set at some sites and then at others
pub put_times-append : (c : SiteTimes) (t : ℕ) (xs ys : List Site) → put_times c t (xs ++ ys) ≡ put_times (put_times c t xs) t ys
put_times-append c t [] ys = refl
put_times-append c t (x ∷ xs) ys = put_times-append (put_time c t x) t xs ys

pub put_more : (c : SiteTimes) (t : ℕ) (place : ℕ → Site) (test : ℕ → Bool) (k : ℕ) → put_times c t (map place (filter test (counted_from 0 (k + 1))))
    ≡ cond (test k) (put_time (put_times c t (map place (filter test (counted_from 0 k)))) t (place k))
    (put_times c t (map place (filter test (counted_from 0 k))))
put_more c t place test k =
    ap (λ (l : List ℕ). put_times c t (map place l)) (numbers_more test k)
    ∙ ap (put_times c t) (map-append place (filter test (counted_from 0 k)) (cond (test k) (k ∷ []) []))
    ∙ put_times-append c t (map place (filter test (counted_from 0 k))) (map place (cond (test k) (k ∷ []) []))
    ∙ by (test k)
  where
    by : (b : Bool) → put_times (put_times c t (map place (filter test (counted_from 0 k)))) t (map place (cond b (k ∷ []) []))
        ≡ cond b (put_time (put_times c t (map place (filter test (counted_from 0 k)))) t (place k))
        (put_times c t (map place (filter test (counted_from 0 k))))
    by true = refl
    by false = refl

-- setting times leaves the layout unchanged
pub put_same : (c : SiteTimes) (t : ℕ) (xs : List Site) → (put_times c t xs).plan ≡ c.plan
put_same c t [] = refl
put_same c t (x ∷ xs) = put_same (put_time c t x) t xs ∙ one c t x
  where
    one : (c : SiteTimes) (t : ℕ) (x : Site) → (put_time c t x).plan ≡ c.plan
    one c t (Stage i) = refl
    one c t (SidingCell k i) = refl
    one c t Lane = refl
    one c t Fetching = refl
    one c t Memory = refl
    one c t Code = refl
    one c t _ = refl

pub put_delays : (c : SiteTimes) (t : ℕ) (xs : List Site) → (put_times c t xs).delays ≡ c.delays
put_delays c t [] = refl
put_delays c t (x ∷ xs) = put_delays (put_time c t x) t xs ∙ one c t x
  where
    one : (c : SiteTimes) (t : ℕ) (x : Site) → (put_time c t x).delays ≡ c.delays
    one c t (Stage i) = refl
    one c t (SidingCell k i) = refl
    one c t Lane = refl
    one c t Fetching = refl
    one c t Memory = refl
    one c t Code = refl
    one c t _ = refl

pub put_draws : (c : SiteTimes) (t : ℕ) (xs : List Site) → (put_times c t xs).draws ≡ c.draws
put_draws c t [] = refl
put_draws c t (x ∷ xs) = put_draws (put_time c t x) t xs ∙ one c t x
  where
    one : (c : SiteTimes) (t : ℕ) (x : Site) → (put_time c t x).draws ≡ c.draws
    one c t (Stage i) = refl
    one c t (SidingCell k i) = refl
    one c t Lane = refl
    one c t Fetching = refl
    one c t Memory = refl
    one c t Code = refl
    one c t _ = refl

pub put_latest : (c : SiteTimes) (t : ℕ) (xs : List Site) → (put_times c t xs).latest ≡ c.latest
put_latest c t [] = refl
put_latest c t (x ∷ xs) = put_latest (put_time c t x) t xs ∙ one c t x
  where
    one : (c : SiteTimes) (t : ℕ) (x : Site) → (put_time c t x).latest ≡ c.latest
    one c t (Stage i) = refl
    one c t (SidingCell k i) = refl
    one c t Lane = refl
    one c t Fetching = refl
    one c t Memory = refl
    one c t Code = refl
    one c t _ = refl

-- a list with one number set has no larger number
number_within : (xs : List ℕ) (i j t most : ℕ) → number_at xs j ≤ most → t ≤ most → number_at (slice_set xs i t) j ≤ most
number_within [] i j t most h g = h
number_within (x ∷ xs) zero zero t most h g = g
number_within (x ∷ xs) zero (suc j) t most h g = h
number_within (x ∷ xs) (suc i) zero t most h g = h
number_within (x ∷ xs) (suc i) (suc j) t most h g = number_within xs i j t most h g

cell_within : (rows : List (List ℕ)) (k m : ℕ) (row : List ℕ) (j most : ℕ) → number_at (siding_row rows m) j ≤ most → number_at row j ≤ most →
    number_at (siding_row (slice_set rows k row) m) j ≤ most
cell_within [] k m row j most h g = h
cell_within (r ∷ rows) zero zero row j most h g = g
cell_within (r ∷ rows) zero (suc m) row j most h g = h
cell_within (r ∷ rows) (suc k) zero row j most h g = h
cell_within (r ∷ rows) (suc k) (suc m) row j most h g = cell_within rows k m row j most h g

stage_put : (c : SiteTimes) (i t : ℕ) → NoneLater c → t ≤ c.latest → (x : Site) → time_at (put_time c t (Stage i)) x ≤ c.latest
stage_put c i t h g (Stage j) = number_within c.stages i j t c.latest (h.each (Stage j)) g
stage_put c i t h g (SidingCell m j) = h.each (SidingCell m j)
stage_put c i t h g Lane = h.each Lane
stage_put c i t h g Fetching = h.each Fetching
stage_put c i t h g Memory = h.each Memory
stage_put c i t h g Code = h.each Code
stage_put c i t h g _ = omega arith

cell_put : (c : SiteTimes) (k i t : ℕ) → NoneLater c → t ≤ c.latest → (x : Site) → time_at (put_time c t (SidingCell k i)) x ≤ c.latest
cell_put c k i t h g (Stage j) = h.each (Stage j)
cell_put c k i t h g (SidingCell m j) = cell_within c.cells k m (slice_set (siding_row c.cells k) i t) j c.latest (h.each (SidingCell m j))
    (number_within (siding_row c.cells k) i j t c.latest (h.each (SidingCell k j)) g)
cell_put c k i t h g Lane = h.each Lane
cell_put c k i t h g Fetching = h.each Fetching
cell_put c k i t h g Memory = h.each Memory
cell_put c k i t h g Code = h.each Code
cell_put c k i t h g _ = omega arith

-- so setting a time that is at most the maximum leaves no site with a later one
pub put_stage_within : (c : SiteTimes) (i t : ℕ) → NoneLater c → t ≤ c.latest → NoneLater (put_time c t (Stage i))
put_stage_within c i t h g = record { each = stage_put c i t h g }

pub put_cell_within : (c : SiteTimes) (k i t : ℕ) → NoneLater c → t ≤ c.latest → NoneLater (put_time c t (SidingCell k i))
put_cell_within c k i t h g = record { each = cell_put c k i t h g }

-- the same for the other sites
other_put : (c : SiteTimes) (lane fetch memory code : ℕ) → NoneLater c → lane ≤ c.latest → fetch ≤ c.latest → memory ≤ c.latest → code ≤ c.latest → (x : Site) →
    time_at (record c { lane = lane; fetch = fetch; memory = memory; code = code }) x ≤ c.latest
other_put c lane fetch memory code h l f m d (Stage j) = h.each (Stage j)
other_put c lane fetch memory code h l f m d (SidingCell k j) = h.each (SidingCell k j)
other_put c lane fetch memory code h l f m d Lane = l
other_put c lane fetch memory code h l f m d Fetching = f
other_put c lane fetch memory code h l f m d Memory = m
other_put c lane fetch memory code h l f m d Code = d
other_put c lane fetch memory code h l f m d _ = omega arith

pub put_lane_within : (c : SiteTimes) (t : ℕ) → NoneLater c → t ≤ c.latest → NoneLater (put_time c t Lane)
put_lane_within c t h g = record { each = other_put c t c.fetch c.memory c.code h g (h.each Fetching) (h.each Memory) (h.each Code) }

pub put_fetch_within : (c : SiteTimes) (t : ℕ) → NoneLater c → t ≤ c.latest → NoneLater (put_time c t Fetching)
put_fetch_within c t h g = record { each = other_put c c.lane t c.memory c.code h (h.each Lane) g (h.each Memory) (h.each Code) }

pub put_memory_within : (c : SiteTimes) (t : ℕ) → NoneLater c → t ≤ c.latest → NoneLater (put_time c t Memory)
put_memory_within c t h g = record { each = other_put c c.lane c.fetch t c.code h (h.each Lane) (h.each Fetching) g (h.each Code) }

pub put_code_within : (c : SiteTimes) (t : ℕ) → NoneLater c → t ≤ c.latest → NoneLater (put_time c t Code)
put_code_within c t h g = record { each = other_put c c.lane c.fetch c.memory t h (h.each Lane) (h.each Fetching) (h.each Memory) g }

-- raising the maximum time leaves no site with a later one
pub same_times : (c : SiteTimes) (t : ℕ) (x : Site) → time_at (allowed c t) x ≡ time_at c x
same_times c t (Stage j) = refl
same_times c t (SidingCell k j) = refl
same_times c t Lane = refl
same_times c t Fetching = refl
same_times c t Memory = refl
same_times c t Code = refl
same_times c t _ = refl

pub allowed_within : (c : SiteTimes) (t : ℕ) → NoneLater c → NoneLater (allowed c t)
allowed_within c t h = record { each = λ x. let e = same_times c t x in let g = h.each x in omega (arith, e, g) }

-- drawing a word changes no time
pub same_drawn : (c : SiteTimes) (mv : Move) (x : Site) → time_at (drawing c mv) x ≡ time_at c x
same_drawn c mv (Stage j) = refl
same_drawn c mv (SidingCell k j) = refl
same_drawn c mv Lane = refl
same_drawn c mv Fetching = refl
same_drawn c mv Memory = refl
same_drawn c mv Code = refl
same_drawn c mv _ = refl

pub drawn_within : (c : SiteTimes) (mv : Move) → NoneLater c → NoneLater (drawing c mv)
drawn_within c mv h = record { each = λ x. let e = same_drawn c mv x in let g = h.each x in omega (arith, e, g) }

-- at the start all times are 0
zeros : (n i : ℕ) → number_at (replicate n 0) i ≤ 0
zeros zero i = omega arith
zeros (suc n) zero = omega arith
zeros (suc n) (suc i) = zeros n i

zero_rows : (m n k i : ℕ) → number_at (siding_row (replicate m (replicate n 0)) k) i ≤ 0
zero_rows zero n k i = omega arith
zero_rows (suc m) n zero i = zeros n i
zero_rows (suc m) n (suc k) i = zero_rows m n k i

pub at_start : (plan : Plan) (rule : DelayRule) (x : Site) → time_at (started plan rule) x ≤ 0
unfolding started
at_start plan rule (Stage i) = zeros 34 i
at_start plan rule (SidingCell k i) = zero_rows 8 8 k i
at_start plan rule Lane = omega arith
at_start plan rule Fetching = omega arith
at_start plan rule Memory = omega arith
at_start plan rule Code = omega arith
at_start plan rule _ = omega arith

pub started_within : (plan : Plan) (rule : DelayRule) → NoneLater (started plan rule)
unfolding started
started_within plan rule = record { each = at_start plan rule }

-- no site that a move uses has a later time
pub reach_within : (c : SiteTimes) (xs : List Site) → NoneLater c → greatest (map (time_at c) xs) ≤ c.latest
reach_within c [] h = omega arith
reach_within c (x ∷ xs) h = let r = reach_within c xs h in let g = h.each x in omega (arith, r, g)
