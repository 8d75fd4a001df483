-- The lane either has room for the requests of the instruction or it does not.
use Rattle.std.proofs.Common.{◌+◌, ◌<◌, ◌≤◌, ◌∙◌, ap, length, arith}
use Rattle.cf_bind.specs.declared.passenger.Guess.TheVariants as guess
use Rattle.cf_semantics.specs.state.Passengers.{requests}
use Rattle.cf_core.specs.Processors.{Processor}
use Rattle.cf_core.specs.declared.issuing.Issuable.{Issuable}
use Rattle.cf_core.proofs.moves.Guesses.{issue-fits, issue-full}
use Rattle.cf_core.proofs.processor.Processor.issuable_as.Goals as goal

pub returns-then-lane-lane_len-clause-taken : goal.returns-then-lane-lane_len-clause-taken
returns-then-lane-lane_len-clause-taken c =
    let q = c.args.self.now in
    let p = c.args.passenger.now in
    let full : q.plan.lane < length q.state.lane + length (requests p) =
    omega (
      arith,
      c.lane.ensures,
      c.lane_len.ensures.count,
      c.count.ensures,
      ap length c.requests.ensures.requests,
      ap (λ (x : Processor). x.plan.lane) c.self.view_is,
      ap (λ (x : Processor). length x.state.lane) c.self.view_is,
    ) in
    ap (λ (x : Issuable). x.taken) c.never.ensures ∙ issue-full q.plan q.state c.args.pc guess.Taken p c.requires.facts c.requires.runs c.requires.free
    c.requires.passenger full

pub returns-then-lane-lane_len-clause-wait : goal.returns-then-lane-lane_len-clause-wait
returns-then-lane-lane_len-clause-wait c =
    let q = c.args.self.now in
    let p = c.args.passenger.now in
    let full : q.plan.lane < length q.state.lane + length (requests p) =
    omega (
      arith,
      c.lane.ensures,
      c.lane_len.ensures.count,
      c.count.ensures,
      ap length c.requests.ensures.requests,
      ap (λ (x : Processor). x.plan.lane) c.self.view_is,
      ap (λ (x : Processor). length x.state.lane) c.self.view_is,
    ) in
    ap (λ (x : Issuable). x.wait) c.never.ensures ∙ issue-full q.plan q.state c.args.pc guess.Wait p c.requires.facts c.requires.runs c.requires.free
    c.requires.passenger full

pub returns-clause-next : goal.returns-clause-next
returns-clause-next c =
    let q = c.args.self.now in
    let p = c.args.passenger.now in
    let fits : length q.state.lane + length (requests p) ≤ q.plan.lane =
    omega (
      arith,
      c.lane.ensures,
      c.lane_len.ensures.count,
      c.count.ensures,
      ap length c.requests.ensures.requests,
      ap (λ (x : Processor). x.plan.lane) c.self.view_is,
      ap (λ (x : Processor). length x.state.lane) c.self.view_is,
    ) in
    issue-fits q.plan q.state c.args.pc guess.Next p c.requires.facts c.requires.runs c.requires.free c.requires.passenger fits

pub returns-clause-taken : goal.returns-clause-taken
returns-clause-taken c =
    let q = c.args.self.now in
    let p = c.args.passenger.now in
    let fits : length q.state.lane + length (requests p) ≤ q.plan.lane =
    omega (
      arith,
      c.lane.ensures,
      c.lane_len.ensures.count,
      c.count.ensures,
      ap length c.requests.ensures.requests,
      ap (λ (x : Processor). x.plan.lane) c.self.view_is,
      ap (λ (x : Processor). length x.state.lane) c.self.view_is,
    ) in
    c.may_guess.ensures ∙ issue-fits q.plan q.state c.args.pc guess.Taken p c.requires.facts c.requires.runs c.requires.free c.requires.passenger fits

pub returns-clause-wait : goal.returns-clause-wait
returns-clause-wait c =
    let q = c.args.self.now in
    let p = c.args.passenger.now in
    let fits : length q.state.lane + length (requests p) ≤ q.plan.lane =
    omega (
      arith,
      c.lane.ensures,
      c.lane_len.ensures.count,
      c.count.ensures,
      ap length c.requests.ensures.requests,
      ap (λ (x : Processor). x.plan.lane) c.self.view_is,
      ap (λ (x : Processor). length x.state.lane) c.self.view_is,
    ) in
    c.may_guess-2.ensures ∙ issue-fits q.plan q.state c.args.pc guess.Wait p c.requires.facts c.requires.runs c.requires.free c.requires.passenger fits
