use Rattle.std.proofs.Common.{◌∙◌, ◌≤◌, ap, subst, sym, arith}
use Rattle.cf_timed.specs.Clocks.{AreKept, begin_time, clocked}
use Rattle.cf_timed.specs.DueMoves.{AreDue, still_due}
use Rattle.cf_timed.proofs.DueMoves.{due_skipped, first_timed, none_still, still_skipped}
use Rattle.cf_timed.proofs.Room.{one_of_all}
use Rattle.cf_timed.proofs.clock.Clock.first_kept.Goals as goal

pub reach_kept-begin-requires : goal.reach_kept-begin-requires
reach_kept-begin-requires c = rw c.requires.plan
    (one_of_all (AreKept c.args.core.now.plan) c.loop-mv.kept.moves 0 c.in-Some.mv.now c.loop-mv.invariant.0.sites (sym c.in-Some.ensures))

pub returns-then-begin-time-clause-first : goal.returns-then-begin-time-clause-first
returns-then-begin-time-clause-first c =
    first_timed c.args.core.now.plan (clocked c.args.self.now c.args.core.now.state) c.loop-mv.kept _ c.loop-mv.invariant.0 c.in-Some.ensures
    (omega (arith, c.reach_kept-begin.ensures, c.time-time.ensures, c.if-begin-time.true))
    (omega (arith, c.reach_kept-begin.ensures, c.time-time.ensures)) c.time-time.ensures

pub loop-mv-preserved : goal.loop-mv-preserved
loop-mv-preserved c =
    let past : c.loop-mv.kept.time ≤ begin_time c.args.self.now c.in-Some.mv.now =
    omega (arith, c.reach_kept-begin.ensures, c.time-time.ensures, c.if-begin-time.false)
    in (
      subst (AreDue c.args.core.now.plan (clocked c.args.self.now c.args.core.now.state)) (sym c.skip.ensures)
          (due_skipped c.args.core.now.plan (clocked c.args.self.now c.args.core.now.state) c.loop-mv.kept c.in-Some.mv.now c.loop-mv.invariant.0
          c.in-Some.ensures past),
      ap (still_due c.args.self.now) c.skip.ensures ∙ still_skipped c.args.self.now c.loop-mv.kept c.in-Some.mv.now c.in-Some.ensures past
          ∙ c.loop-mv.invariant.1,
    )

pub returns-clause-none : goal.returns-clause-none
returns-clause-none c = λ none. none_still c.args.self.now c.loop-mv.kept c.in_default.ensures
