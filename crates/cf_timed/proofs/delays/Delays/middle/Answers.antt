use Rattle.std.proofs.Common.{◌∙◌, ap, ℕ, List, None, slice_index_or, arith}
use Rattle.std.specs.Prelude.{slice_get, unwrap_or}
use Rattle.cf_timed.specs.declared.span.Span.{Span}
use Rattle.cf_timed.specs.Delays.{one_tick, slot_of, span_of}
use Rattle.cf_timed.specs.Drawing.{ticks_in}
use Rattle.cf_timed.proofs.Delaying.{is_span, ticks_few}
use Rattle.cf_timed.proofs.Middles.{middle_at}
use Rattle.cf_timed.proofs.delays.Delays.middle.Goals as goal

pub returns-clause-middle : goal.returns-clause-middle
unfolding span_of
returns-clause-middle c =
    let within = c.slot_of.ensures.within in
    let count = c.self.invariant.0.count in
    ap (λ (middles : List ℕ). slice_index_or middles c.slot_of.result 0) c.self.invariant.1
    ∙ middle_at c.self.inside.spans c.slot_of.result (omega (arith, within, count))
    ∙ ap (λ (slot : ℕ). ticks_in (unwrap_or (slice_get c.self.inside.spans slot) one_tick) None) c.slot_of.ensures.slot
    ∙ ap (λ (spans : List Span). ticks_in (unwrap_or (slice_get spans (slot_of c.args.mv c.args.class)) one_tick) None) c.self.view_is

pub returns-clause-few : goal.returns-clause-few
unfolding span_of
returns-clause-few c =
    let within = c.slot_of.ensures.within in
    let count = c.self.invariant.0.count in
    let is = ap (λ (middles : List ℕ). slice_index_or middles c.slot_of.result 0) c.self.invariant.1
    ∙ middle_at c.self.inside.spans c.slot_of.result (omega (arith, within, count))
    ∙ ap (λ (slot : ℕ). ticks_in (unwrap_or (slice_get c.self.inside.spans slot) one_tick) None) c.slot_of.ensures.slot in
    let few = ticks_few (unwrap_or (slice_get c.self.inside.spans (slot_of c.args.mv c.args.class)) one_tick) None
    (is_span c.self.inside.spans c.args.mv c.args.class c.self.invariant.0) in
    omega (arith, is, few)
