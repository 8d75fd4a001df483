-- The names of the classes of instructions in a layout file.
use Rattle.std.specs.Prelude.{ℕ, nat_eq, List, codes, take, find, Bool, Option}
use lib.Pointwise.{pointwise}
use Rattle.rv_inst.specs.declared.classes.Class.{Class}
use Rattle.cf_layout.specs.Layout.{computed_classes}
use Rattle.rv_inst.specs.declared.classes.Class.TheVariants.{Add, Logic, Shift, Compare, Branch, Jump, Memory, Serial, Free, Mul, Div}
use Rattle.layout_file.specs.declared.format.Format.{Format}
use Rattle.layout_file.specs.declared.format.Format.TheVariants.{First, Second}

-- the name of a class
abbrev pub class_name : Class → List ℕ
class_name Add = codes "add"
class_name Logic = codes "logic"
class_name Shift = codes "shift"
class_name Compare = codes "compare"
class_name Branch = codes "branch"
class_name Jump = codes "jump"
class_name Memory = codes "memory"
class_name Serial = codes "serial"
class_name Free = codes "free"
class_name Mul = codes "mul"
class_name Div = codes "div"

-- the two texts are the same
abbrev pub same_text : List ℕ → List ℕ → Bool
same_text s t = pointwise nat_eq s t

-- the class with this name, one of these
abbrev pub class_among : List Class → List ℕ → Option Class
class_among classes word = find (λ c. same_text (class_name c) word) classes

-- the classes that a file may name: `mul` and `div` only in format 2
abbrev pub classes_in : Format → List Class
classes_in First = take 7 computed_classes
classes_in Second = computed_classes

-- the class of a name in a format
unfoldable pub class_by_name : Format → List ℕ → Option Class
class_by_name format word = class_among (classes_in format) word
