use Rattle.std.proofs.Common.{refl, ap}
use Rattle.rv_inst.specs.Operands.{class_of, register_op}
use Rattle.rv_machine.proofs.Acting.{acts-computing, acts-accessing, acts-serially, acts-passing}
use Rattle.rv_machine.proofs.Classes.{op-computes, mul-computes}
use Rattle.rv_machine.proofs.machine.Machine.execute.Goals as goal

pub returns-in-Lui-clause-acts : goal.returns-in-Lui-clause-acts
returns-in-Lui-clause-acts g c =
    acts-computing c.args.word c.args.i _ _ _ _ (rw c.in-Lui.is refl)
    c.compute.ensures.does

pub returns-in-Auipc-clause-acts : goal.returns-in-Auipc-clause-acts
returns-in-Auipc-clause-acts g c =
    acts-computing c.args.word c.args.i _ _ _ _ (rw c.in-Auipc.is refl)
    c.compute-in-Auipc.ensures.does

pub returns-in-Jal-clause-acts : goal.returns-in-Jal-clause-acts
returns-in-Jal-clause-acts g c =
    acts-computing c.args.word c.args.i _ _ _ _ (rw c.in-Jal.is refl)
    c.compute-in-Jal.ensures.does

pub returns-in-Jalr-clause-acts : goal.returns-in-Jalr-clause-acts
returns-in-Jalr-clause-acts g c =
    acts-computing c.args.word c.args.i _ _ _ _ (rw c.in-Jalr.is refl)
    c.compute-in-Jalr.ensures.does

pub returns-in-Branch-clause-acts : goal.returns-in-Branch-clause-acts
returns-in-Branch-clause-acts g c =
    acts-computing c.args.word c.args.i _ _ _ _ (rw c.in-Branch.is refl)
    c.compute-in-Branch.ensures.does

pub returns-in-Load-clause-acts : goal.returns-in-Load-clause-acts
returns-in-Load-clause-acts g c =
    acts-accessing c.args.word c.args.i _ _ _ _ (ap class_of c.in-Load.is) c.access_memory.ensures.does

pub returns-in-Store-clause-acts : goal.returns-in-Store-clause-acts
returns-in-Store-clause-acts g c =
    acts-accessing c.args.word c.args.i _ _ _ _ (ap class_of c.in-Store.is) c.access_memory-in-Store.ensures.does

pub returns-in-OpImm-clause-acts : goal.returns-in-OpImm-clause-acts
returns-in-OpImm-clause-acts g c =
    acts-computing c.args.word c.args.i _ _ _ _ (rw c.in-OpImm.is (op-computes (register_op c.in-OpImm.op)))
    c.compute-in-OpImm.ensures.does

pub returns-in-Op-clause-acts : goal.returns-in-Op-clause-acts
returns-in-Op-clause-acts g c =
    acts-computing c.args.word c.args.i _ _ _ _ (rw c.in-Op.is (op-computes c.in-Op.op))
    c.compute-in-Op.ensures.does

pub returns-in-Mul-clause-acts : goal.returns-in-Mul-clause-acts
returns-in-Mul-clause-acts g c =
    acts-computing c.args.word c.args.i _ _ _ _ (rw c.in-Mul.is (mul-computes c.in-Mul.op))
    c.compute-in-Mul.ensures.does

pub returns-in-Fence-clause-acts : goal.returns-in-Fence-clause-acts
returns-in-Fence-clause-acts g c =
    acts-passing c.args.word c.args.i _ _ _ _ (ap class_of c.in-Fence.is) c.pass.ensures.does

pub returns-in-Ebreak-clause-acts : goal.returns-in-Ebreak-clause-acts
returns-in-Ebreak-clause-acts g c =
    acts-passing c.args.word c.args.i _ _ _ _ (ap class_of c.in-Ebreak.is) c.pass-in-Ebreak.ensures.does

pub returns-in-Ecall-clause-acts : goal.returns-in-Ecall-clause-acts
returns-in-Ecall-clause-acts g c =
    acts-serially c.args.word c.args.i _ _ _ _ _ (ap class_of c.in-Ecall.is) c.serial.ensures.acts

pub returns-in-FenceI-clause-acts : goal.returns-in-FenceI-clause-acts
returns-in-FenceI-clause-acts g c =
    acts-serially c.args.word c.args.i _ _ _ _ _ (ap class_of c.in-FenceI.is) c.serial-in-FenceI.ensures.acts
