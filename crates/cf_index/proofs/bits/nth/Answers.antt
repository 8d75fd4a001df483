use Rattle.std.proofs.Common.{◌≡◌, ◌∙◌, ◌-◌, ◌<◌, refl, length, bit_and, arith}
use Rattle.cf_index.specs.Places.{set_places}
use Rattle.cf_index.proofs.Places.{fewer_left, lowest_left, lowest_within, next_left, some_left}
use Rattle.cf_index.proofs.bits.nth.Goals as goal

pub loop-left-init : goal.loop-left-init
loop-left-init c = record { same = refl; more = c.requires }

pub overflow_sub-rest : goal.overflow_sub-rest
overflow_sub-rest c = some_left c.loop-left.rest c.loop-left.left c.loop-left.invariant.more

pub returns-then-rest-eq0-clause-number : goal.returns-then-rest-eq0-clause-number
returns-then-rest-eq0-clause-number c =
    let rest = c.loop-left.rest in
    let more = fewer_left rest c.loop-left.left c.loop-left.auto.rest-fits.fits c.loop-left-test.true c.loop-left.invariant.more in
    let some = some_left (bit_and rest (rest - 1)) _ more in
    let none = c.if-rest-eq0.true in
    absurd (omega (arith, some, none))

pub loop-left-preserved : goal.loop-left-preserved
loop-left-preserved c =
    let rest = c.loop-left.rest in
    let h = c.loop-left.invariant in
    record {
      same = next_left rest c.loop-left.left c.loop-left.auto.rest-fits.fits c.loop-left-test.true h.more ∙ h.same;
      more = fewer_left rest c.loop-left.left c.loop-left.auto.rest-fits.fits c.loop-left-test.true h.more;
    }

pub returns-clause-number : goal.returns-clause-number
returns-clause-number c =
    let rest = c.loop-left.rest in
    let done : c.loop-left.left ≡ 0 = let off = c.loop-left-test.false in omega (arith, off) in
    let some : 0 < length (set_places 64 rest) = let more = c.loop-left.invariant.more in omega (arith, more) in
    lowest_left rest c.loop-left.auto.rest-fits.fits some ∙ rw done at c.loop-left.invariant.same

pub returns-clause-within : goal.returns-clause-within
returns-clause-within c =
    let more = c.loop-left.invariant.more in
    lowest_within c.loop-left.rest c.loop-left.auto.rest-fits.fits (omega (arith, more))
