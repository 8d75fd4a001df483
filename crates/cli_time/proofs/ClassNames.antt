-- The names of classes are short.
use Rattle.std.proofs.Common.{ℕ, ◌≤◌, length, arith}
use Rattle.rv_inst.specs.declared.classes.Class.{Class}
use Rattle.rv_inst.specs.declared.classes.Class.TheVariants.{Add, Logic, Shift, Compare, Branch, Jump, Memory, Serial, Free, Mul, Div}
use Rattle.layout_file.specs.Names.{class_name}

pub class_short : (class : Class) → length (class_name class) ≤ 10
class_short Add = omega arith
class_short Logic = omega arith
class_short Shift = omega arith
class_short Compare = omega arith
class_short Branch = omega arith
class_short Jump = omega arith
class_short Memory = omega arith
class_short Serial = omega arith
class_short Free = omega arith
class_short Mul = omega arith
class_short Div = omega arith
