-- Each word of a class names a class that units or sidings compute.
use Rattle.std.proofs.Common.{ℕ, List, [], ◌∷◌, Bool, true, false, cond, Option, Some, None, arith}
use Rattle.std.specs.Prelude.{unwrap_or, IfSome}
use Rattle.rv_inst.specs.declared.classes.Class.{Class}
use Rattle.rv_inst.specs.declared.classes.Class.TheVariants.{Add}
use Rattle.cf_layout.specs.Acceptable.{IsComputed}
use Rattle.layout_file.specs.declared.format.Format.{Format}
use Rattle.layout_file.specs.declared.format.Format.TheVariants.{First, Second}
use Rattle.layout_file.specs.Names.{class_among, class_name, same_text, classes_in, class_by_name}

-- all of these classes are computed
abbrev pub AllSmall : List Class → Type 0
AllSmall [] = Unit {0}
AllSmall (c ∷ cs) = IsComputed c × AllSmall cs

-- a class, or otherwise what comes after it, is computed if both are
either : (b : Bool) (c : Class) (rest : Option Class) → IsComputed c → IfSome rest IsComputed → IfSome (cond b (Some c) rest) IsComputed
either true c rest here after = here
either false c rest here after = after

-- so what is found among computed classes is computed
pub found_computed : (classes : List Class) (word : List ℕ) → AllSmall classes → IfSome (class_among classes word) IsComputed
found_computed [] word small = tt
found_computed (c ∷ cs) word small = either (same_text (class_name c) word) c _ small.0 (found_computed cs word small.1)

-- all classes that a file may name
pub all_small : (format : Format) → AllSmall (classes_in format)
all_small Second = (omega arith, (omega arith, (omega arith, (omega arith, (omega arith, (omega arith, (omega arith, (omega arith, (omega arith, tt)))))))))
all_small First = (omega arith, (omega arith, (omega arith, (omega arith, (omega arith, (omega arith, (omega arith, tt)))))))

-- each word names a computed class
pub class_computed : (format : Format) (word : List ℕ) → IfSome (class_by_name format word) IsComputed
unfolding class_by_name
class_computed format word = found_computed (classes_in format) word (all_small format)

-- if it names no class, `add` is used, which is computed too
or_add : (o : Option Class) → IfSome o IsComputed → IsComputed (unwrap_or o Add)
or_add None h = omega arith
or_add (Some c) h = h

pub word_computed : (format : Format) (word : List ℕ) → IsComputed (unwrap_or (class_by_name format word) Add)
word_computed format word = or_add (class_by_name format word) (class_computed format word)
