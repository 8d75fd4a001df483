use Rattle.std.proofs.Common.{◌∙◌, ap, fold, ◌^◌, ◌-◌, ◌≤◌, length, arith}
use Rattle.std.specs.Prelude.{slice_get}
use Rattle.cf_timed.specs.Clocks.{clocked}
use Rattle.cf_timed.specs.Seeking.{Seeking, shown}
use Rattle.cf_timed.proofs.Sought.{found-first, first-found}
use Rattle.cf_timed.proofs.clock.Clock.first_least.Goals as goal

pub returns-then-least-lt18446744073709551615 : goal.returns-then-least-lt18446744073709551615
returns-then-least-lt18446744073709551615 c =
    let few : length c.args.candidates.now ≤ 2 ^ 64 - 1 = omega (arith, c.len-count.ensures) in
    let f = found-first (clocked c.args.self.now c.args.core.now.state) c.args.candidates.now _ few (c.least.view_is ∙ c.visit.ensures
    ∙ ap (λ (s : Seeking). fold shown s c.args.candidates.now) c.new-least.ensures) c.if-least-lt18446744073709551615.true in
    f.2 ∙ ap (slice_get c.args.candidates.now) f.0

pub returns-else-least-lt18446744073709551615 : goal.returns-else-least-lt18446744073709551615
returns-else-least-lt18446744073709551615 c =
    let few : length c.args.candidates.now ≤ 2 ^ 64 - 1 = omega (arith, c.len-count.ensures) in
    let f = first-found (clocked c.args.self.now c.args.core.now.state) c.args.candidates.now _ few c.requires (c.least.view_is ∙ c.visit.ensures
    ∙ ap (λ (s : Seeking). fold shown s c.args.candidates.now) c.new-least.ensures) c.if-least-lt18446744073709551615.false in
    c.pick.ensures ∙ ap (slice_get c.args.candidates.now) f
