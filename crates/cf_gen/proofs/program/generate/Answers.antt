use Rattle.std.proofs.Common.{◌≡◌, ℕ, ◌+◌, ◌-◌, ◌≤◌, Option, List, ◌++◌, [], ap, sym, subst, ◌∙◌, arith, append-nil}
use Rattle.std.specs.List.{flat_map, range_with_len}
use Rattle.std.proofs.lemmas.Result.{on_err_weaker}
use Rattle.cf_gen.specs.Draws.{state_after_draws}
use Rattle.cf_gen.specs.Program.{drawn_statement, numbered_statement, closing_text, program_text}
use Rattle.cf_gen.proofs.Steps.{lines-before, lines-none, after-statement}
use Rattle.cf_io.proofs.Owing.{Owes, owes-next, owes-front, err-owes}
use Rattle.cf_gen.proofs.program.generate.Goals as goal
use Rattle.cf_gen.proofs.program.generate.Goals.{else-loop-i-test, then-loop-i-test+in_ok-put_all-2+else-i-number}

-- after the last statement only the closing lines are owed
all-put : (a b : Option (List ℕ)) (f : ℕ → List ℕ) (i end : ℕ) (closing whole : List ℕ) → end ≤ i
    → Owes a b (flat_map f (range_with_len i (end - i)) ++ closing) whole → Owes a b closing whole
all-put a b f i end closing whole h o =
    subst (λ (lines : List ℕ). Owes a b (lines ++ closing) whole) (lines-none f i end h) o

pub returns-in_err-put_all-2-clause-err : goal.returns-in_err-put_all-2-clause-err
returns-in_err-put_all-2-clause-err g c =
    let n = c.args.number in
    let i = c.loop-i.i in
    let text : c.bytes-in-loop-i.result.now ≡ numbered_statement n i =
    c.bytes-in-loop-i.ensures ∙ c.statement.ensures.text ∙ ap (drawn_statement n i) c.loop-i.invariant.state in
    err-owes _ _ _ _ _ _ _ _ _ _ c.in_err-put_all-2.was c.loop-i.invariant.owes
    (lines-before (numbered_statement n) i (n + 1) _ (closing_text n) (omega arith) text) c.put_all-in-loop-i.ensures.front

pub loop-i-preserved : goal.loop-i-preserved
loop-i-preserved g c =
    let n = c.args.number in
    let i = c.loop-i.i in
    let text : c.bytes-in-loop-i.result.now ≡ numbered_statement n i =
    c.bytes-in-loop-i.ensures ∙ c.statement.ensures.text ∙ ap (drawn_statement n i) c.loop-i.invariant.state in
    record {
      owes = owes-next _ _ _ _ _ _ _ c.loop-i.invariant.owes
          (lines-before (numbered_statement n) i (n + 1) _ (closing_text n) (omega arith) text) c.in_ok-put_all-2.ensures.all;
      state = c.statement.ensures.state ∙ ap (state_after_draws 5) c.loop-i.invariant.state ∙ sym (after-statement i n (omega arith));
      still = c.in_ok-put_all-2.ensures.cause.still ∙ c.loop-i.invariant.still;
    }

pub returns-clause-err : goal.returns-clause-err
returns-clause-err g c =
    let n = c.args.number in
    let before = g.K.Sink.written c.args.out.now in
    let text : closing_text n ≡ c.bytes-2.result.now ++ [] =
    sym (c.bytes-2.ensures ∙ c.closing.ensures) ∙ sym (append-nil _) in
    let owed : Owes before (g.K.Sink.written c.loop-i-test.out) (closing_text n) (program_text n) =
    elim c.loop-i-test.branch [
      | else-loop-i-test w ↦
          rw w.out-is (all-put before _ (numbered_statement n) c.loop-i.i (n + 1) _ _ (omega arith) c.loop-i.invariant.owes)
      | then-loop-i-test+in_ok-put_all-2+else-i-number w ↦
          let statement : w.bytes-in-loop-i.result.now ≡ numbered_statement n c.loop-i.i =
          w.bytes-in-loop-i.ensures ∙ w.statement.ensures.text ∙ ap (drawn_statement n c.loop-i.i) c.loop-i.invariant.state in
          let put : Owes before (g.K.Sink.written w.put_all-in-loop-i.new.sink) _ (program_text n) =
          owes-next _ _ _ _ _ _ _ c.loop-i.invariant.owes
          (lines-before (numbered_statement n) c.loop-i.i (n + 1) _ (closing_text n) (omega arith) statement) w.in_ok-put_all-2.ensures.all in
          rw w.out-is (all-put before _ (numbered_statement n) (c.loop-i.i + 1) (n + 1) _ _ (omega arith) put)
    ] in
    on_err_weaker _ (owes-front _ _ _ _ _ [] _ owed text) c.put_all-2.ensures.front
