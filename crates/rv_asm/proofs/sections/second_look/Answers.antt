use Rattle.std.proofs.Common.{◌≡◌, length, subst, arith, rules}
use Rattle.rv_text.specs.Lines.{text_lines}
use Rattle.rv_asm.specs.Assembling.{empty_sections, sections_from}
use Rattle.rv_asm.specs.Spelling.{IsRefusal}
use Rattle.rv_asm.specs.Filling.{line_pieces, IsFilled}
use Rattle.rv_text.proofs.LineCuts.{no_lines}
use Rattle.rv_asm.proofs.Filled.{IsReached, next-reached, refused, reached-end}
use Rattle.rv_asm.proofs.sections.second_look.Goals as goal

pub returns-in-Err-clause-err : goal.returns-in-Err-clause-err
returns-in-Err-clause-err c =
    refused c.loop-rest.above c.loop-rest.out c.cut_line.result.0.now (text_lines c.cut_line.result.1.now)
    (sections_from 0 (empty_sections c.args.labels) (text_lines c.args.source.now)) c.in-Err.kind
    (subst (λ lines. IsReached c.loop-rest.above c.loop-rest.out lines (sections_from 0 (empty_sections c.args.labels) (text_lines c.args.source.now)))
    c.cut_line.ensures.lines c.loop-rest.invariant.reached)
    (subst (λ text. IsRefusal c.in-Err.kind (line_pieces c.loop-rest.out.labels c.loop-rest.out.place text)) c.said.ensures.text c.in-Err.ensures.err)

pub loop-rest-preserved : goal.loop-rest-preserved
loop-rest-preserved c = record {
  reached = next-reached c.loop-rest.above c.loop-rest.out c.read.new.self c.cut_line.result.0.now (text_lines c.cut_line.result.1.now)
      (sections_from 0 (empty_sections c.args.labels) (text_lines c.args.source.now))
      (subst (λ lines. IsReached c.loop-rest.above c.loop-rest.out lines (sections_from 0 (empty_sections c.args.labels) (text_lines c.args.source.now)))
      c.cut_line.ensures.lines c.loop-rest.invariant.reached)
      (subst (λ text. IsFilled c.loop-rest.out text c.read.new.self) c.said.ensures.text c.in-Ok.ensures.ok);
  place = c.in-Ok.ensures.place;
  counted = omega (arith, c.loop-rest.invariant.counted, c.cut_line.ensures.shorter);
}

pub returns-clause-ok : goal.returns-clause-ok
returns-clause-ok c =
    let none : length c.loop-rest.rest.now ≡ 0 = search rules in
    reached-end c.loop-rest.above c.loop-rest.out (text_lines c.loop-rest.rest.now)
    (sections_from 0 (empty_sections c.args.labels) (text_lines c.args.source.now))
    (no_lines c.loop-rest.rest.now none) c.loop-rest.invariant.reached
