use Rattle.std.proofs.Common.{◌≡◌, ◌-◌, ◌∙◌, sym, refl, arith}
use Rattle.elf_view.proofs.Tables.{not_cut, none_cut}
use Rattle.elf_view.proofs.refusal.first_cut.Goals as goal

pub loop-preserved : goal.loop-preserved
loop-preserved c = record {
  after = not_cut c.args.file.now c.loop.place c.args.size c.args.count c.loop.counter c.loop-test.true c.if-file-place.false
      ∙ c.loop.invariant.after;
  bound = omega arith;
}

pub returns-clause-fits : goal.returns-clause-fits
returns-clause-fits c =
    let done : c.args.count - c.loop.counter ≡ 0 = omega arith in
    none_cut c.args.file.now c.args.at c.args.size c.args.count (sym c.loop.invariant.after ∙ rw done refl)
