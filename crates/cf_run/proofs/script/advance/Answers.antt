use Rattle.std.proofs.Common.{sym}
use Rattle.cf_run.proofs.Moves.{turned-made, turned-stopped}
use Rattle.cf_run.proofs.script.advance.Goals as goal

pub returns-in-Ok-clause-turns : goal.returns-in-Ok-clause-turns
returns-in-Ok-clause-turns g c =
    turned-made _ _ _ _ _ _ _ c.in_default.ensures (sym (rw c.in-Ok-Some.field-0-is at c.in-Ok-Some.ensures.next)) c.next.ensures.left c.in-Ok.ensures.does

pub returns-in-Ok-clause-input_asked : goal.returns-in-Ok-clause-input_asked
returns-in-Ok-clause-input_asked g c = λ unasked.
    c.in-Ok.ensures.input_asked
    (λ asked. unasked (record
    { goes = c.in_default.ensures; line = _; move = _; next = sym (rw c.in-Ok-Some.field-0-is at c.in-Ok-Some.ensures.next); asked = asked }))

pub returns-in-Ok-clause-output_asked : goal.returns-in-Ok-clause-output_asked
returns-in-Ok-clause-output_asked g c = λ unasked.
    c.in-Ok.ensures.output_asked
    (λ asked. unasked (record
    { goes = c.in_default.ensures; line = _; move = _; next = sym (rw c.in-Ok-Some.field-0-is at c.in-Ok-Some.ensures.next); asked = asked }))

pub returns-in-Err-make_in_order-clause-turns : goal.returns-in-Err-make_in_order-clause-turns
returns-in-Err-make_in_order-clause-turns g c =
    turned-stopped _ _ _ _ _ _ _ c.in_default.ensures (sym (rw c.in-Ok-Some.field-0-is at c.in-Ok-Some.ensures.next)) c.next.ensures.left
    c.in-Err-make_in_order.ensures.does

pub returns-in-Err-make_in_order-clause-input_asked : goal.returns-in-Err-make_in_order-clause-input_asked
returns-in-Err-make_in_order-clause-input_asked g c = λ unasked.
    c.in-Err-make_in_order.ensures.input_asked (λ asked. unasked
    (record { goes = c.in_default.ensures; line = _; move = _; next = sym (rw c.in-Ok-Some.field-0-is at c.in-Ok-Some.ensures.next); asked = asked }))

pub returns-in-Err-make_in_order-clause-output_asked : goal.returns-in-Err-make_in_order-clause-output_asked
returns-in-Err-make_in_order-clause-output_asked g c = λ unasked.
    c.in-Err-make_in_order.ensures.output_asked (λ asked. unasked
    (record { goes = c.in_default.ensures; line = _; move = _; next = sym (rw c.in-Ok-Some.field-0-is at c.in-Ok-Some.ensures.next); asked = asked }))
