-- The bit goes one place down by one subtraction.
use Rattle.std.proofs.Common.{◌≡◌, ℕ, ◌-◌, ◌*◌, ◌%◌, ◌^◌, ◌<◌, ◌≤◌, arith, true, false}
use Rattle.std.proofs.lemmas.Nat.{one_shl}
use Rattle.cf_layout.specs.Words.{has_bit}
use Rattle.cf_stages.specs.Words.{with_bit}
use Rattle.cf_stages.proofs.Carries.{lowered-word}
use Rattle.cf_stages.proofs.words.lowered.Goals as goal

-- the bit below is no greater than the word
taken_fits : (w i : ℕ) → 1 < i → i ≤ 32 → w < 2 ^ 32 → has_bit w (i - 1) ≡ true → has_bit w (i - 2) ≡ false → 1 * 2 ^ (i - 2) % 2 ^ 32 ≤ w
taken_fits w i low within less set clear =
    let e = one_shl (i - 2) 32 (omega arith) in
    let f = lowered-word w i low within less set clear in
    omega arith

pub overflow_sub-result-2 : goal.overflow_sub-result-2
overflow_sub-result-2 c = taken_fits c.args.word c.args.i c.requires.above c.requires.within c.ranges.word.fits c.requires.set c.requires.clear

-- what is left is the word with the bit in its new place
left : (w i : ℕ) → 1 < i → i ≤ 32 → w < 2 ^ 32 → has_bit w (i - 1) ≡ true → has_bit w (i - 2) ≡ false →
    w - 1 * 2 ^ (i - 2) % 2 ^ 32 ≡ with_bit (with_bit w (i - 1) false) (i - 2) true
left w i low within less set clear =
    let e = one_shl (i - 2) 32 (omega arith) in
    let f = lowered-word w i low within less set clear in
    omega arith

pub returns : goal.returns
returns c = left c.args.word c.args.i c.requires.above c.requires.within c.ranges.word.fits c.requires.set c.requires.clear
