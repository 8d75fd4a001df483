-- An operation of a line that passes is one more step of a run.
use Rattle.std.proofs.Common.{◌≡◌, ◌≢◌, ℕ, ◌+◌, ◌-◌, ◌*◌, ◌%◌, ◌<◌, ◌≤◌, List, sym, ap, subst, arith}
use Rattle.mem_regions.specs.Memory.{Memory}
use Rattle.rv_inst.specs.Words.{word_sum}
use Rattle.rv_machine.specs.declared.flat.Flat.{Flat}
use Rattle.rv_machine.specs.declared.flat_acting.Spot.{Spot}
use Rattle.rv_machine.specs.declared.flat_acting.Continuation.{Continuation}
use Rattle.rv_machine.specs.declared.flat_acting.Continuation.TheVariants.{On, To, Stop}
use Rattle.rv_machine.specs.declared.flat_lines.FlatLine.{FlatLine}
use Rattle.rv_machine.specs.Hart.{Hart}
use Rattle.rv_machine.specs.Flat.{StandsFor, instr_of}
use Rattle.rv_machine.specs.Lines.{IsLineOf, flat_at}
use Rattle.rv_machine.specs.Quick.{IsCarriedOut, spot_address, hart_of, RetireAlone}
use Rattle.rv_machine.proofs.Lines.{stands-from, word-aligned}
use Rattle.rv_machine.proofs.Steps.{turned, retires-alone, retire-next}

-- the operation at a spot of the line represents what memory has there
pub stands-there : (mem : Memory) (line : FlatLine) (spot : Spot) (f : Flat) → spot.base ≡ line.base → IsLineOf mem line →
    spot.at < 257 → f ≡ flat_at line spot.at → StandsFor mem (spot_address spot) f
stands-there mem line spot f b h below e =
    subst (λ (n : ℕ). StandsFor mem (word_sum n (spot.at * 4)) f) (sym b)
    (subst (StandsFor mem (word_sum line.base (spot.at * 4))) (sym e) (stands-from mem line spot.at h below))

address-aligned : (mem : Memory) (line : FlatLine) (spot : Spot) → spot.base ≡ line.base → IsLineOf mem line → spot_address spot % 4 ≡ 0
address-aligned mem line spot b h =
    subst (λ (n : ℕ). word_sum n (spot.at * 4) % 4 ≡ 0) (sym b) (word-aligned line.base spot.at h.aligned)

pub passes-on : (start : Hart) (mem new : Memory) (line : FlatLine) (spot : Spot) (regs later : List ℕ) (n m : ℕ) (turn : Continuation) (f : Flat) →
    spot.base ≡ line.base → IsLineOf mem line → spot.at < 257 → f ≡ flat_at line spot.at → turn ≢ Stop →
    IsCarriedOut turn (instr_of f) (hart_of (spot_address spot) regs mem) spot later new → m ≤ n →
    RetireAlone start (n - m) (record { pc = word_sum line.base (spot.at * 4); regs = regs; mem = mem; retired = n }) →
    RetireAlone start (n + 1 - m) (record { pc = turned turn spot; regs = later; mem = new; retired = n + 1 })
passes-on start mem new line spot regs later n m turn f b h below e other passes more run =
    let P : ℕ → Type 0 = λ base. RetireAlone start (n - m) (record { pc = word_sum base (spot.at * 4); regs = regs; mem = mem; retired = n }) in
    retire-next start _ _ n m more (subst P (sym b) run)
    (retires-alone mem new spot n regs later turn f (stands-there mem line spot f b h below e).is (address-aligned mem line spot b h) other passes)

-- the address after an index is that of the next one
next-address : (base at : ℕ) → word_sum (word_sum base (at * 4)) 4 ≡ word_sum base ((at + 1) * 4)
next-address base at = omega arith

pub turned-on : (line : FlatLine) (spot : Spot) → spot.base ≡ line.base → turned On spot ≡ word_sum line.base ((spot.at + 1) * 4)
turned-on line spot b = subst (λ (n : ℕ). word_sum (word_sum spot.base (spot.at * 4)) 4 ≡ word_sum n ((spot.at + 1) * 4)) b (next-address spot.base spot.at)

pub turned-to : (line : FlatLine) (spot : Spot) (index : ℕ) → spot.base ≡ line.base → turned (To index) spot ≡ word_sum line.base (index * 4)
turned-to line spot index b = ap (λ (n : ℕ). word_sum n (index * 4)) b
