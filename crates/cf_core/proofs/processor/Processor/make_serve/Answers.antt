-- The words are brought up to date at the highest stage.
use Rattle.std.proofs.Common.{◌∙◌}
use Rattle.rv_machine.specs.Streams.{streams_of}
use Rattle.cf_bind.specs.declared.moves.Move.TheVariants.{Serve}
use Rattle.cf_core.proofs.KeptMarks.{made-marks, made-within}
use Rattle.cf_core.proofs.moves.KeptServe.{unbarred}
use Rattle.cf_core.proofs.processor.Processor.make_serve.Goals as goal

pub touched-touched-requires-clause-allowed : goal.touched-touched-requires-clause-allowed
touched-touched-requires-clause-allowed g c = unbarred c.args.self.now.plan c.args.self.now.state Serve c.requires.allowed

pub remark-requires-clause-within : goal.remark-requires-clause-within
remark-requires-clause-within g c =
    let before = streams_of (g.S.Source.left c.args.input.now) (g.K.Sink.written c.args.output.now) in
    let after = streams_of (g.S.Source.left c.serve_seen-made.new.input) (g.K.Sink.written c.serve_seen-made.new.output) in
    made-within c.args.self.now c.serve_seen-made.new.self Serve before after c.serve_seen-made.result c.touched-touched.result c.requires.facts
    c.requires.allowed c.serve_seen-made.ensures.makes c.touched-touched.ensures

pub returns-clause-marks : goal.returns-clause-marks
returns-clause-marks g c =
    let before = streams_of (g.S.Source.left c.args.input.now) (g.K.Sink.written c.args.output.now) in
    let after = streams_of (g.S.Source.left c.serve_seen-made.new.input) (g.K.Sink.written c.serve_seen-made.new.output) in
    c.remark.ensures ∙ made-marks c.args.self.now c.serve_seen-made.new.self c.args.marks.now Serve before after c.serve_seen-made.result
    c.touched-touched.result c.requires.facts c.requires.allowed c.serve_seen-made.ensures.makes c.requires.marks c.touched-touched.ensures
