-- The line of the next candidate follows those so far.
use Rattle.std.proofs.Common.{◌≡◌, length, refl, arith}
use Rattle.cf_report.proofs.Puttings.{has-front, has-more, has-same, put-all}
use Rattle.cf_semantics.specs.moves.Candidates.{candidates}
use Rattle.report_closing.specs.Moves.{line_in}
use Rattle.cf_debug.proofs.Listing.{line-next, line-after, lines-done}
use Rattle.cf_debug.proofs.showing.put_allowed.Goals as goal

pub returns-in_err-put_standing : goal.returns-in_err-put_standing
returns-in_err-put_standing g c =
    has-front _ c.in_err-put_standing.was c.from_residual.ensures.0
    (line-after (line_in c.args.core.now.plan c.args.core.now.state) _ c.loop-place.place c.pick.result (rw c.fill.ensures at c.pick.ensures))
    c.loop-place.invariant c.put_standing.ensures

pub loop-place-preserved : goal.loop-place-preserved
loop-place-preserved g c =
    has-same _ (line-next (line_in c.args.core.now.plan c.args.core.now.state) _ c.loop-place.place c.pick.result (rw c.fill.ensures at c.pick.ensures))
    (has-more c.in_ok-put_standing.was c.loop-place.invariant c.put_standing.ensures)

pub returns : goal.returns
returns g c =
    let moves = candidates c.args.core.now.plan c.args.core.now.state in
    let count : c.len-place-end.result ≡ length moves = rw c.fill.ensures at c.len-place-end.ensures in
    put-all _ _ refl (lines-done (line_in c.args.core.now.plan c.args.core.now.state) moves c.loop-place.place (omega (arith, count, c.loop-place-test.false)))
    c.loop-place.invariant
