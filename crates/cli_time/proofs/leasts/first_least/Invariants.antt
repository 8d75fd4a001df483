use Rattle.std.proofs.Common.{◌<◌, ◌≤◌, ℕ}
use Rattle.std.specs.Prelude.{slice_index}
use Rattle.cli_time.proofs.leasts.first_least.Given as goal

-- the place of the first minimum of the times so far
abbrev pub invariant-loop-place : goal.invariant-loop-place
invariant-loop-place l =
    (l.least < l.place)
    × ((k : ℕ) → k < l.place → slice_index l.times l.least ≤ slice_index l.times k)
    × ((k : ℕ) → k < l.least → slice_index l.times l.least < slice_index l.times k)
