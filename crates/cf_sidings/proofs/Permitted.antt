-- An access that was permitted when it was launched is permitted with its value.
use Rattle.std.proofs.Common.{◌≡◌, ℕ, List, None, Result, Ok, Err, refl}
use Rattle.mem_regions.specs.Access.{Bounds, permits_at}
use Rattle.mem_regions.specs.declared.access.MemErr.{MemErr}
use Rattle.mem_regions.specs.declared.access.MemErr.TheVariants.{Misaligned, NoAccess}
use Rattle.rv_inst.specs.declared.accesses.Access.{Access}
use Rattle.rv_inst.specs.declared.instruction.Instr.{Instr}
use Rattle.rv_inst.specs.declared.instruction.Instr.TheVariants.{Load, Store}
use Rattle.rv_inst.specs.Accesses.{access_made}
use Rattle.cf_semantics.specs.moves.Instructions.{refused, access_trap}

-- an answer that does not refuse
not_refused : (pc : ℕ) (access : Access) (r : Result (Unit {0}) MemErr) → refused pc access r ≡ None → r ≡ Ok tt
not_refused pc access (Ok tt) e = refl
not_refused pc access (Err Misaligned) e = absurd (cc)
not_refused pc access (Err NoAccess) e = absurd (cc)

-- the value of a store decides nothing
pub permitted-with : (i : Instr) (pc a b : ℕ) (bounds : List Bounds) → access_trap i pc a bounds ≡ None →
    permits_at bounds (access_made i a b).addr (access_made i a b).width (access_made i a b).write ≡ Ok tt
unfolding access_trap access_made
permitted-with (Load k rd rs1 imm) pc a b bounds e = not_refused pc (access_made (Load k rd rs1 imm) a 0) _ e
permitted-with (Store k rs1 rs2 imm) pc a b bounds e = not_refused pc (access_made (Store k rs1 rs2 imm) a 0) _ e
permitted-with i pc a b bounds e = not_refused pc (access_made i a 0) _ e

pub ruleset permitted_access = (permitted-with)
