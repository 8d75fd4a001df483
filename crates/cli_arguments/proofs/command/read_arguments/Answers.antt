-- What the loop has read, the argument that stops it, and what is missing at its end.
use Rattle.std.proofs.Common.{Result, ℕ, map, string_bytes, arith, subst, sym}
use Rattle.cli_arguments.specs.declared.command.Command.{Command}
use Rattle.cli_arguments.specs.Views.{reading_state_of, asked_of}
use Rattle.cli_arguments.proofs.Loop.{stops, goes-on, count-few, ends, Answers, answers-bounded}
use Rattle.cli_arguments.proofs.command.read_arguments.Goals as goal

pub returns-in_default : goal.returns-in_default
returns-in_default c = record {
  answers = stops string_bytes c.args.arguments.now c.loop-argument.argument-index c.loop-argument.index c.argument-item.result
      (reading_state_of c.loop-argument.reading) c.as_str.result.now (omega arith) c.argument-item.is
      c.loop-argument.invariant.counted c.loop-argument.invariant.read c.as_str.ensures.value c.in_default.ensures;
  bounded = tt;
}

pub overflow_add-index : goal.overflow_add-index
overflow_add-index c =
    omega (
      arith,
      count-few string_bytes c.args.arguments.now c.loop-argument.index (reading_state_of c.loop-argument.reading)
          (omega arith) c.loop-argument.invariant.read,
    )

pub loop-argument-preserved : goal.loop-argument-preserved
loop-argument-preserved c = record {
  counted = omega arith;
  read = goes-on string_bytes c.args.arguments.now c.loop-argument.argument-index c.loop-argument.index c.argument-item.result
      (reading_state_of c.loop-argument.reading) (reading_state_of c.in-Some.later) c.as_str.result.now (omega arith)
      c.argument-item.is c.loop-argument.invariant.counted c.loop-argument.invariant.read c.as_str.ensures.value
      c.in-Some.ensures;
}

pub returns : goal.returns
returns c =
    let e = ends string_bytes c.args.arguments.now c.loop-argument.index (reading_state_of c.loop-argument.reading) asked_of
    c.complete.result (omega arith) c.loop-argument.invariant.read c.complete.ensures in
    let a : Answers (map string_bytes c.args.arguments.now) asked_of c.ok_or.result =
    subst (λ (r : Result Command ℕ). Answers (map string_bytes c.args.arguments.now) asked_of r)
    (sym c.ok_or.ensures.value) e in
    record {
      answers = a;
      bounded = answers-bounded (map string_bytes c.args.arguments.now) asked_of c.ok_or.result a;
    }
