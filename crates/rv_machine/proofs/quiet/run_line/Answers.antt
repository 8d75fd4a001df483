use Rattle.std.proofs.Common.{◌≡◌, ◌≢◌, ◌+◌, ◌-◌, ◌*◌, ◌<◌, ◌≤◌, ℕ, arith}
use Rattle.rv_inst.specs.Words.{word_sum}
use Rattle.rv_machine.specs.declared.flat_acting.Continuation.TheVariants.{On, To, Stop}
use Rattle.rv_machine.specs.declared.flat_acting.Continuation.{Continuation}
use Rattle.rv_machine.specs.Quick.{spot_address}
use Rattle.rv_machine.proofs.Quick.{same-code, index-is}
use Rattle.rv_machine.proofs.Lines.{line-same, same-again, inside-more}
use Rattle.rv_machine.proofs.LineSteps.{stands-there, passes-on, turned-on, turned-to}
use Rattle.rv_machine.proofs.Steps.{at-fits, retire-none}
use Rattle.rv_machine.proofs.quiet.run_line.Goals.{in-To+else-from-ge-OPS+then-at_end-last, in-Stop}
use Rattle.rv_machine.proofs.quiet.run_line.Goals as goal

pub act-requires-clause-fits : goal.act-requires-clause-fits
act-requires-clause-fits c =
    let i = c.loop-spot.invariant in
    at-fits c.loop-spot.mem (spot_address c.loop-spot.spot) _
    (stands-there c.loop-spot.mem c.args.line.now c.loop-spot.spot c.op.result.now i.base i.line i.inside c.op.ensures).is

pub act-requires-clause-written : goal.act-requires-clause-written
act-requires-clause-written c =
    let i = c.loop-spot.invariant in
    (stands-there c.loop-spot.mem c.args.line.now c.loop-spot.spot c.op.result.now i.base i.line i.inside c.op.ensures).written

pub returns-then-saturating_sub-left-clause-goes : goal.returns-then-saturating_sub-left-clause-goes
returns-then-saturating_sub-left-clause-goes c = retire-none _ c.args.from.retired

pub returns-then-saturating_sub-left-clause-code : goal.returns-then-saturating_sub-left-clause-code
returns-then-saturating_sub-left-clause-code c = same-code c.args.mem.now

-- at first nothing has retired in the line
count-first : (n at : ℕ) → at < 256 → n + (256 - at) + at - 256 ≡ n
count-first n at below = omega (arith, below)

within-more : (n : ℕ) → n < 256 → n < 257
within-more n below = omega (arith, below)

pub loop-spot-init : goal.loop-spot-init
loop-spot-init c =
    let at = c.spot-spot.result.at in
    let inside = c.spot-spot.ensures.within in
    let is : word_sum c.args.line.now.base (at * 4) ≡ c.args.from.pc =
    rw c.spot-spot.ensures.at
    (index-is c.args.line.now.base c.args.from.pc c.requires.line.within c.requires.below c.requires.line.aligned c.requires.aligned) in record {
      goes = rw (count-first c.args.from.retired at inside, is) (retire-none _ c.args.from.retired);
      onward = omega (arith, inside);
      within = omega (arith, inside, c.if-saturating_sub-left.false, c.saturating_sub.ensures);
      zero = c.requires.zero;
      code = same-code c.args.mem.now;
      window = c.requires.window;
      line = c.requires.line;
      base = c.spot-spot.ensures.base;
      inside = within-more at inside;
    }

on-goes : (turn : Continuation) → turn ≡ On → turn ≢ Stop
on-goes turn e f = grind arith

to-goes : (turn : Continuation) (index : ℕ) → turn ≡ To index → turn ≢ Stop
to-goes turn index e f = grind arith

-- the count before the operation is at least that at the start
count-before : (m n : ℕ) → m + 256 ≤ n → m ≤ n - 256
count-before m n le = omega (arith, le)

count-on : (end at m : ℕ) → m + 256 ≤ end + at → end + (at + 1) - 256 ≡ end + at - 256 + 1
count-on end at m le = omega (arith, le)

count-to : (end at m : ℕ) → m + 256 ≤ end + at → end + at + 1 - 256 ≡ end + at - 256 + 1
count-to end at m le = omega (arith, le)

count-at : (end at next other m : ℕ) → m + 256 ≤ end + at → other ≡ next → next < 256 → end + at + 1 - other + next - 256 ≡ end + at - 256 + 1
count-at end at next other m le same below = omega (arith, le, same, below)

pub loop-spot-preserved-in-On : goal.loop-spot-preserved-in-On
loop-spot-preserved-in-On c =
    let i = c.loop-spot.invariant in
    let before = c.loop-spot in
    let spot = before.spot in
    let goes = on-goes c.act.result c.in-On.is in record {
      goes = rw (count-on c.loop-spot.at_end spot.at c.args.from.retired i.onward, ← turned-on c.args.line.now spot i.base)
          (rw c.in-On.is at
          (passes-on _ before.mem c.act.new.mem c.args.line.now spot before.regs c.act.new.regs (before.at_end + spot.at - 256) c.args.from.retired
          c.act.result c.op.result.now i.base i.line i.inside c.op.ensures goes c.act.ensures.goes (count-before _ _ i.onward) i.goes));
      onward = omega (arith, i.onward);
      within = i.within;
      zero = c.act.ensures.zero;
      code = same-again c.args.mem.now c.loop-spot.mem c.act.new.mem i.code c.act.ensures.code;
      window = c.act.ensures.window;
      line = line-same c.loop-spot.mem c.act.new.mem c.args.line.now c.act.ensures.code i.line;
      base = i.base;
      inside = inside-more c.loop-spot.mem c.args.line.now spot.at i.line i.inside (λ slow. goes (c.act.ensures.slow (rw c.op.ensures slow)));
    }

pub returns-then-from-ge-OPS-clause-goes : goal.returns-then-from-ge-OPS-clause-goes
returns-then-from-ge-OPS-clause-goes c =
    let i = c.loop-spot.invariant in
    let before = c.loop-spot in
    let spot = before.spot in
    rw (count-to c.loop-spot.at_end spot.at c.args.from.retired i.onward, c.pc.ensures)
    (rw c.in-To.is at
    (passes-on _ before.mem c.act.new.mem c.args.line.now spot before.regs c.act.new.regs (before.at_end + spot.at - 256) c.args.from.retired
    c.act.result c.op.result.now i.base i.line i.inside c.op.ensures (to-goes c.act.result c.in-To.next c.in-To.is) c.act.ensures.goes
    (count-before _ _ i.onward) i.goes))

pub returns-then-from-ge-OPS-clause-code : goal.returns-then-from-ge-OPS-clause-code
returns-then-from-ge-OPS-clause-code c =
    same-again c.args.mem.now c.loop-spot.mem c.act.new.mem c.loop-spot.invariant.code c.act.ensures.code

pub loop-spot-preserved : goal.loop-spot-preserved
loop-spot-preserved c =
    let i = c.loop-spot.invariant in
    let before = c.loop-spot in
    let spot = before.spot in
    let same : c.from-in-To.result ≡ c.in-To.next = c.from-in-To.ensures in
    let inside : c.in-To.next < 256 = omega (arith, c.from.ensures, c.if-from-ge-OPS.false) in record {
      goes = rw (
        count-at c.loop-spot.at_end spot.at c.in-To.next c.from-in-To.result c.args.from.retired i.onward same inside,
        ← turned-to c.args.line.now spot c.in-To.next i.base,
      )
          (rw c.in-To.is at
          (passes-on _ before.mem c.act.new.mem c.args.line.now spot before.regs c.act.new.regs (before.at_end + spot.at - 256) c.args.from.retired
          c.act.result c.op.result.now i.base i.line i.inside c.op.ensures (to-goes c.act.result c.in-To.next c.in-To.is) c.act.ensures.goes
          (count-before _ _ i.onward) i.goes));
      onward = omega (arith, i.onward, same, inside);
      within = omega (arith, c.if-at_end-last.false);
      zero = c.act.ensures.zero;
      code = same-again c.args.mem.now c.loop-spot.mem c.act.new.mem i.code c.act.ensures.code;
      window = c.act.ensures.window;
      line = line-same c.loop-spot.mem c.act.new.mem c.args.line.now c.act.ensures.code i.line;
      base = i.base;
      inside = within-more c.in-To.next inside;
    }

pub returns-clause-code : goal.returns-clause-code
returns-clause-code c =
    same-again c.args.mem.now c.loop-spot.mem c.act.new.mem c.loop-spot.invariant.code c.act.ensures.code

pub returns-clause-goes : goal.returns-clause-goes
returns-clause-goes c =
    let i = c.loop-spot.invariant in
    let before = c.loop-spot in
    let spot = before.spot in
    elim c.match-act.branch [
      | in-To+else-from-ge-OPS+then-at_end-last w ↦
          let inside : w.in-To.next < 256 = omega (arith, w.from.ensures, w.if-from-ge-OPS.false) in
          rw (
            c.pc-2.ensures,
            w.spot-is,
            w.at_end-is,
            count-at c.loop-spot.at_end spot.at w.in-To.next w.from-in-To.result c.args.from.retired i.onward w.from-in-To.ensures inside,
          )
          (rw w.in-To.is at
          (passes-on _ before.mem c.act.new.mem c.args.line.now spot before.regs c.act.new.regs (before.at_end + spot.at - 256) c.args.from.retired
          c.act.result c.op.result.now i.base i.line i.inside c.op.ensures (to-goes c.act.result w.in-To.next w.in-To.is) c.act.ensures.goes
          (count-before _ _ i.onward) i.goes))
      | in-Stop w ↦
          rw (c.pc-2.ensures, w.spot-is, w.at_end-is, c.act.ensures.stop w.in-Stop.is, c.act.ensures.unchanged w.in-Stop.is, i.base) i.goes
    ]
