-- `==` decides whether two contents of the processor are the same.
use Rattle.std.proofs.Common.{◌≡◌, refl}
use Rattle.std.proofs.lemmas.Bool.Decides.{Decides-and, Decides-eqb}
use Rattle.std.specs.Bool.{Decides}
use Rattle.cf_bind.specs.declared.cell.Op.{Op}
use Rattle.cf_bind.specs.contracts.cell.OpPartialEq.TheImpl.{eq-value as op_eq}
use Rattle.cf_stages.proofs.Deciding.{instr_decides, option_decides}

-- two operations
pub op_decides : (a b : Op) → Decides (op_eq.it a b) (a ≡ b)
op_decides a b =
    let d = Decides-and _ _ (Decides-eqb a.pc b.pc)
    (Decides-and _ _ (instr_decides a.instr b.instr)
    (Decides-and _ _ (Decides-eqb a.a b.a)
    (Decides-and _ _ (Decides-eqb a.b b.b) (option_decides Decides-eqb a.answer b.answer)))) in (
      λ t. let f = d.0 t in λ i. record { pc = f.0 i; instr = f.1.0 i; a = f.1.1.0 i; b = f.1.1.1.0 i; answer = f.1.1.1.1 i },
      λ e. d.1 (rw e (refl, (refl, (refl, (refl, refl))))),
    )
