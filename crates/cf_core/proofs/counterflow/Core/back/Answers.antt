-- The processor is as it was before the move, and the words are brought up to date at the stages that the move had
-- touched.
use Rattle.std.proofs.Common.{◌≡◌, ◌∙◌, None, ap, sym, subst}
use Rattle.cf_semantics.specs.moves.Bars.{row_bar}
use Rattle.cf_core.specs.Marks.{Within, marks_of, remarked, touched}
use Rattle.cf_core.specs.Processors.{Processor, IsProcessor}
use Rattle.cf_core.specs.Undo.{HasJustMade, kept_by}
use Rattle.cf_core.proofs.BackMarks.{back-facts, back-free, back-marks, back-within}
use Rattle.cf_core.proofs.Places.{can-return}
use Rattle.cf_core.proofs.counterflow.Core.back.Goals as goal

pub put_back-requires : goal.put_back-requires
put_back-requires c =
    can-return c.self.inside.processor c.args.undo c.self.invariant.0 (subst (λ (p : Processor). HasJustMade p (kept_by c.args.undo))
    (sym c.self.view_is) c.requires)

pub touched-touched-requires-clause-facts : goal.touched-touched-requires-clause-facts
touched-touched-requires-clause-facts c =
    let after = subst (λ (p : Processor). HasJustMade p (kept_by c.args.undo)) (sym c.self.view_is) c.requires in
    subst (λ (p : Processor). IsProcessor p.plan p.state) (sym c.put_back.ensures) (back-facts c.self.inside.processor (kept_by c.args.undo) after)

pub touched-touched-requires-clause-allowed : goal.touched-touched-requires-clause-allowed
touched-touched-requires-clause-allowed c =
    let after = subst (λ (p : Processor). HasJustMade p (kept_by c.args.undo)) (sym c.self.view_is) c.requires in
    rw c.moved.ensures (subst (λ (p : Processor). row_bar p.plan p.state (kept_by c.args.undo).move ≡ None) (sym c.put_back.ensures)
    (back-free c.self.inside.processor (kept_by c.args.undo) after))

pub remark-requires-clause-within : goal.remark-requires-clause-within
remark-requires-clause-within c =
    let after = subst (λ (p : Processor). HasJustMade p (kept_by c.args.undo)) (sym c.self.view_is) c.requires in
    let p = c.self.inside.processor in
    let at = c.touched-touched.ensures ∙ ap (λ (q : Processor). touched q.plan q.state c.moved.result) c.put_back.ensures
    ∙ ap (touched p.plan _) c.moved.ensures in
    subst (λ (q : Processor). Within q.plan c.touched-touched.result) (sym c.put_back.ensures)
    (back-within p (kept_by c.args.undo) c.touched-touched.result after at)

pub remark-requires-clause-facts : goal.remark-requires-clause-facts
remark-requires-clause-facts c =
    let after = subst (λ (p : Processor). HasJustMade p (kept_by c.args.undo)) (sym c.self.view_is) c.requires in
    subst (λ (p : Processor). IsProcessor p.plan p.state) (sym c.put_back.ensures) (back-facts c.self.inside.processor (kept_by c.args.undo) after)

pub invariant_of-self : goal.invariant_of-self
invariant_of-self c =
    let after = subst (λ (p : Processor). HasJustMade p (kept_by c.args.undo)) (sym c.self.view_is) c.requires in
    let p = c.self.inside.processor in
    let at = c.touched-touched.ensures ∙ ap (λ (q : Processor). touched q.plan q.state c.moved.result) c.put_back.ensures
    ∙ ap (touched p.plan _) c.moved.ensures in
    let marks = back-marks p (kept_by c.args.undo) c.self.inside.marks c.touched-touched.result after c.self.invariant.1 at in (
      subst (λ (q : Processor). IsProcessor q.plan q.state) (sym c.put_back.ensures) (back-facts p (kept_by c.args.undo) after),
      c.remark.ensures
          ∙ ap (λ (q : Processor). remarked q.plan q.state c.self.inside.marks c.touched-touched.result) c.put_back.ensures
          ∙ marks
          ∙ ap (λ (q : Processor). marks_of q.plan q.state) (sym c.put_back.ensures),
    )
