-- The entry of one more class is read.
use Rattle.std.proofs.Common.{◌≡◌, ℕ, ◌+◌, ◌<◌, ℤ, List, ◌++◌, length, get_or, drop, arith, add-one, append_assoc, drop-cons}
use Rattle.toml.specs.Data.{Members, get_member}
use Rattle.rv_inst.specs.declared.classes.Class.{Class}
use Rattle.layout_file.specs.Names.{class_name}
use Rattle.layout_file.specs.Reading.{unit_in, units_among}
use Rattle.layout_file.proofs.reading.unit_list.Goals as goal

one_more : (made now : List (Class × List ℤ)) (cs : List Class) (ms : Members) (i : ℕ) (d : Class) → i < length cs →
    now ≡ made ++ unit_in (get_or cs i d) (get_member (class_name (get_or cs i d)) ms)
    → made ++ units_among (drop i cs) ms ≡ units_among cs ms → now ++ units_among (drop (i + 1) cs) ms ≡ units_among cs ms
one_more made now cs ms i d within added so_far =
    let e = rw (drop-cons cs i d) at so_far in
    rw (add-one, added, append_assoc) e

pub loop-class-preserved : goal.loop-class-preserved
loop-class-preserved c = one_more c.loop-class.list.items c.add_unit.new.list.items c.args.classes.now _ c.loop-class.class-index _
    (omega arith) c.in_ok-add_unit.ensures c.loop-class.invariant
