-- One more place, and the machine one step further.
use Rattle.std.proofs.Common.{◌≡◌, ◌∙◌, ◌+◌, ◌∷◌, [], inr, length, true, false, sym, ap, subst, arith, length-append}
use Rattle.order_machine.specs.Waypoints.{AreWaypoints, IsWaypoint, is_end, ends_at_last, machine_of}
use Rattle.order_machine.proofs.Passed.{further, last_place, more_places, waypoint_here}
use Rattle.order_machine.proofs.passing.waypoints.Goals as goal

pub returns-then-last-clause-places : goal.returns-then-last-clause-places
returns-then-last-clause-places c =
    let w = c.in_ok-place.place in
    let h = c.loop-step.invariant in
    let here : IsWaypoint c.args.isa c.args.image.now (machine_of c.args.machine) c.loop-step._step w =
    waypoint_here c.args.isa c.args.image.now (machine_of c.args.machine) c.loop-step._step
    c.loop-step.machine c.pass.new.machine w h.after c.in_ok-place.ensures.taken c.in_ok-place.ensures.pc c.in_ok-place.ensures.regs
    c.in_ok-place.ensures.was in
    subst (AreWaypoints c.args.isa c.args.image.now (machine_of c.args.machine) 0) (sym c.in_ok-push.ensures.items)
    (more_places c.args.isa c.args.image.now (machine_of c.args.machine) 0 c.loop-step._step c.loop-step.places.items w h.places (omega (arith, h.long)) here)

pub returns-then-last-clause-enough : goal.returns-then-last-clause-enough
returns-then-last-clause-enough c =
    let w = c.in_ok-place.place in
    let last : is_end w.next ≡ true = grind (arith) in
    inr (ap ends_at_last c.in_ok-push.ensures.items ∙ last_place c.loop-step.places.items w ∙ last)

pub loop-step-preserved : goal.loop-step-preserved
loop-step-preserved c =
    let w = c.in_ok-place.place in
    let h = c.loop-step.invariant in
    let here : IsWaypoint c.args.isa c.args.image.now (machine_of c.args.machine) c.loop-step._step w =
    waypoint_here c.args.isa c.args.image.now (machine_of c.args.machine) c.loop-step._step
    c.loop-step.machine c.pass.new.machine w h.after c.in_ok-place.ensures.taken c.in_ok-place.ensures.pc c.in_ok-place.ensures.regs
    c.in_ok-place.ensures.was in
    let going : is_end w.next ≡ false = grind (arith) in
    record {
      places = subst (AreWaypoints c.args.isa c.args.image.now (machine_of c.args.machine) 0) (sym c.in_ok-push.ensures.items)
          (more_places c.args.isa c.args.image.now (machine_of c.args.machine) 0 c.loop-step._step c.loop-step.places.items w h.places (omega (arith, h.long))
          here);
      long = ap length c.in_ok-push.ensures.items ∙ length-append c.loop-step.places.items (w ∷ []) ∙ ap (λ n. n + 1) h.long;
      after = further c.args.isa (machine_of c.args.machine) c.loop-step._step _ c.loop-step.machine c.pass.new.machine w.next h.after
          c.in_ok-place.ensures.taken going (omega arith);
      changes = c.in_ok-place.ensures.changes;
      count = let k = c.pass.ensures.count in let n = h.count in omega arith;
    }
