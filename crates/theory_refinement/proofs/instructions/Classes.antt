-- A class that passes the test for one class alone.
use Rattle.std.proofs.Common.{◌≡◌, true, arith}
use Rattle.rv_inst.specs.declared.classes.Class.{Class}
use Rattle.rv_inst.specs.declared.classes.Class.TheVariants.{Free, Memory, Serial}
use Rattle.cf_semantics.specs.moves.Instructions.{is_free, is_memory, is_serial}

pub memory_is : (c : Class) → is_memory c ≡ true → c ≡ Memory
memory_is c e = grind arith

pub serial_is : (c : Class) → is_serial c ≡ true → c ≡ Serial
serial_is c e = grind arith

pub free_is : (c : Class) → is_free c ≡ true → c ≡ Free
free_is c e = grind arith
