-- Each mnemonic is found by its name, and the name is one word.
use Rattle.std.proofs.Common.{◌≡◌, refl, lit<, Some}
use Rattle.rv_inst.specs.declared.instruction.Cond.TheVariants as cond
use Rattle.rv_inst.specs.declared.instruction.LoadKind.TheVariants as load
use Rattle.rv_inst.specs.declared.instruction.StoreKind.TheVariants as store
use Rattle.rv_inst.specs.declared.instruction.ImmOp.TheVariants as immop
use Rattle.rv_inst.specs.declared.instruction.RegOp.TheVariants as regop
use Rattle.rv_inst.specs.declared.instruction.MulOp.TheVariants as mulop
use Rattle.rv_text.specs.declared.mnemonic.Mnemonic.{Mnemonic}
use Rattle.rv_text.specs.declared.mnemonic.Mnemonic.TheVariants.{Lui, Auipc, Jal, Jalr, Branch, Load, Store, OpImm, Op, Fence, Ecall, Ebreak, FenceI, Mul}
use Rattle.rv_text.specs.Names.{mnemonic_name, mnemonic_named}
use Rattle.rv_text.proofs.Solid.{IsSolid}

-- a name is found, and is one word
pub record IsNamed (mnemonic : Mnemonic) : Type 0 where
  pub found : mnemonic_named (mnemonic_name mnemonic) ≡ Some mnemonic
  pub word : IsSolid (mnemonic_name mnemonic)

pub all_named : (mnemonic : Mnemonic) → IsNamed mnemonic
unfolding mnemonic_named
all_named Lui = record { found = refl; word = record { some = lit< tt; bytes = refl } }
all_named Auipc = record { found = refl; word = record { some = lit< tt; bytes = refl } }
all_named Jal = record { found = refl; word = record { some = lit< tt; bytes = refl } }
all_named Jalr = record { found = refl; word = record { some = lit< tt; bytes = refl } }
all_named (Branch cond.Eq) = record { found = refl; word = record { some = lit< tt; bytes = refl } }
all_named (Branch cond.Ne) = record { found = refl; word = record { some = lit< tt; bytes = refl } }
all_named (Branch cond.Lt) = record { found = refl; word = record { some = lit< tt; bytes = refl } }
all_named (Branch cond.Ge) = record { found = refl; word = record { some = lit< tt; bytes = refl } }
all_named (Branch cond.Ltu) = record { found = refl; word = record { some = lit< tt; bytes = refl } }
all_named (Branch cond.Geu) = record { found = refl; word = record { some = lit< tt; bytes = refl } }
all_named (Load load.Byte) = record { found = refl; word = record { some = lit< tt; bytes = refl } }
all_named (Load load.Half) = record { found = refl; word = record { some = lit< tt; bytes = refl } }
all_named (Load load.Word) = record { found = refl; word = record { some = lit< tt; bytes = refl } }
all_named (Load load.ByteU) = record { found = refl; word = record { some = lit< tt; bytes = refl } }
all_named (Load load.HalfU) = record { found = refl; word = record { some = lit< tt; bytes = refl } }
all_named (Store store.Byte) = record { found = refl; word = record { some = lit< tt; bytes = refl } }
all_named (Store store.Half) = record { found = refl; word = record { some = lit< tt; bytes = refl } }
all_named (Store store.Word) = record { found = refl; word = record { some = lit< tt; bytes = refl } }
all_named (OpImm immop.Add) = record { found = refl; word = record { some = lit< tt; bytes = refl } }
all_named (OpImm immop.Slt) = record { found = refl; word = record { some = lit< tt; bytes = refl } }
all_named (OpImm immop.Sltu) = record { found = refl; word = record { some = lit< tt; bytes = refl } }
all_named (OpImm immop.Xor) = record { found = refl; word = record { some = lit< tt; bytes = refl } }
all_named (OpImm immop.Or) = record { found = refl; word = record { some = lit< tt; bytes = refl } }
all_named (OpImm immop.And) = record { found = refl; word = record { some = lit< tt; bytes = refl } }
all_named (OpImm immop.Sll) = record { found = refl; word = record { some = lit< tt; bytes = refl } }
all_named (OpImm immop.Srl) = record { found = refl; word = record { some = lit< tt; bytes = refl } }
all_named (OpImm immop.Sra) = record { found = refl; word = record { some = lit< tt; bytes = refl } }
all_named (Op regop.Add) = record { found = refl; word = record { some = lit< tt; bytes = refl } }
all_named (Op regop.Sub) = record { found = refl; word = record { some = lit< tt; bytes = refl } }
all_named (Op regop.Sll) = record { found = refl; word = record { some = lit< tt; bytes = refl } }
all_named (Op regop.Slt) = record { found = refl; word = record { some = lit< tt; bytes = refl } }
all_named (Op regop.Sltu) = record { found = refl; word = record { some = lit< tt; bytes = refl } }
all_named (Op regop.Xor) = record { found = refl; word = record { some = lit< tt; bytes = refl } }
all_named (Op regop.Srl) = record { found = refl; word = record { some = lit< tt; bytes = refl } }
all_named (Op regop.Sra) = record { found = refl; word = record { some = lit< tt; bytes = refl } }
all_named (Op regop.Or) = record { found = refl; word = record { some = lit< tt; bytes = refl } }
all_named (Op regop.And) = record { found = refl; word = record { some = lit< tt; bytes = refl } }
all_named Fence = record { found = refl; word = record { some = lit< tt; bytes = refl } }
all_named Ecall = record { found = refl; word = record { some = lit< tt; bytes = refl } }
all_named Ebreak = record { found = refl; word = record { some = lit< tt; bytes = refl } }
all_named FenceI = record { found = refl; word = record { some = lit< tt; bytes = refl } }
all_named (Mul mulop.Mul) = record { found = refl; word = record { some = lit< tt; bytes = refl } }
all_named (Mul mulop.Mulh) = record { found = refl; word = record { some = lit< tt; bytes = refl } }
all_named (Mul mulop.Mulhsu) = record { found = refl; word = record { some = lit< tt; bytes = refl } }
all_named (Mul mulop.Mulhu) = record { found = refl; word = record { some = lit< tt; bytes = refl } }
all_named (Mul mulop.Div) = record { found = refl; word = record { some = lit< tt; bytes = refl } }
all_named (Mul mulop.Divu) = record { found = refl; word = record { some = lit< tt; bytes = refl } }
all_named (Mul mulop.Rem) = record { found = refl; word = record { some = lit< tt; bytes = refl } }
all_named (Mul mulop.Remu) = record { found = refl; word = record { some = lit< tt; bytes = refl } }
