-- The names of the directives and of the pseudo-instructions (RISC-V Assembly Programmer's Manual, "Pseudo Ops" and
-- "Assembler Pseudoinstructions").
use Rattle.std.specs.Prelude.{ℕ, Option, List, [], ◌∷◌, codes}
use Rattle.rv_inst.specs.declared.instruction.Cond.TheVariants as cond
use Rattle.rv_text.specs.Tables.{look_up}
use Rattle.rv_asm.specs.declared.operations.Directive.{Directive}
use Rattle.rv_asm.specs.declared.operations.Directive.TheVariants as directive
use Rattle.rv_asm.specs.declared.operations.Width.TheVariants as width
use Rattle.rv_asm.specs.declared.operations.Pseudo.{Pseudo}
use Rattle.rv_asm.specs.declared.operations.Pseudo.TheVariants as pseudo

-- the directives
abbrev pub directives : List (List ℕ × Directive)
directives =
    (codes ".text", directive.Text)
    ∷ (codes ".data", directive.Data)
    ∷ (codes ".globl", directive.Globl)
    ∷ (codes ".word", directive.Numbers width.Word)
    ∷ (codes ".half", directive.Numbers width.Half)
    ∷ (codes ".byte", directive.Numbers width.Byte)
    ∷ (codes ".ascii", directive.Ascii)
    ∷ (codes ".asciz", directive.Asciz)
    ∷ (codes ".space", directive.Space)
    ∷ (codes ".align", directive.Align)
    ∷ []

-- the pseudo-instructions
abbrev pub pseudos : List (List ℕ × Pseudo)
pseudos =
    (codes "nop", pseudo.Nop)
    ∷ (codes "li", pseudo.Li)
    ∷ (codes "la", pseudo.La)
    ∷ (codes "mv", pseudo.Mv)
    ∷ (codes "not", pseudo.Not)
    ∷ (codes "neg", pseudo.Neg)
    ∷ (codes "j", pseudo.J)
    ∷ (codes "jr", pseudo.Jr)
    ∷ (codes "ret", pseudo.Ret)
    ∷ (codes "call", pseudo.Call)
    ∷ (codes "beqz", pseudo.BranchZero cond.Eq)
    ∷ (codes "bnez", pseudo.BranchZero cond.Ne)
    ∷ (codes "bltz", pseudo.BranchZero cond.Lt)
    ∷ (codes "bgez", pseudo.BranchZero cond.Ge)
    ∷ []

-- the directive of a name
unfoldable pub directive_named : List ℕ → Option Directive
directive_named name = look_up directives name

-- the pseudo-instruction of a name
unfoldable pub pseudo_named : List ℕ → Option Pseudo
pseudo_named name = look_up pseudos name
