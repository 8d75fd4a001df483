-- One more class is named.
use Rattle.std.proofs.Common.{◌≡◌, ℕ, ◌+◌, ◌<◌, List, [], ◌∷◌, ◌++◌, Some, length, get_or, drop, append_assoc}
use Rattle.rv_inst.specs.declared.classes.Class.{Class}
use Rattle.toml.specs.View.{view, items_view}
use Rattle.toml.specs.declared.value.Value.{Value}
use Rattle.layout_file.specs.declared.format.Format.{Format}
use Rattle.layout_file.specs.Names.{class_by_name}
use Rattle.layout_file.specs.Reading.{text_in, classes_of, first_nameless}
use Rattle.layout_file.proofs.Views.{items_from}
use Rattle.layout_file.proofs.reading.class_list.Goals as goal

one_more : (format : Format) (made now : List Class) (word : List ℕ) (class : Class) (vs : List Value) (i : ℕ) (v : Value) → i < length vs → v ≡ get_or vs i v →
    word ≡ text_in (view v) → class_by_name format word ≡ Some class → now ≡ made ++ (class ∷ [])
    → made ++ classes_of format (items_view (drop i vs)) ≡ classes_of format (items_view vs) →
    now ++ classes_of format (items_view (drop (i + 1) vs)) ≡ classes_of format (items_view vs)
one_more format made now word class vs i v within this read named pushed so_far =
    let e = rw (items_from vs i v within this, ← read, named) at so_far in
    rw (pushed, append_assoc) e

none_nameless : (format : Format) (word : List ℕ) (class : Class) (vs : List Value) (i : ℕ) (v : Value) → i < length vs → v ≡ get_or vs i v →
    word ≡ text_in (view v) → class_by_name format word ≡ Some class
    → first_nameless format (items_view (drop i vs)) ≡ first_nameless format (items_view vs) →
    first_nameless format (items_view (drop (i + 1) vs)) ≡ first_nameless format (items_view vs)
none_nameless format word class vs i v within this read named so_far = rw (items_from vs i v within this, ← read, named) at so_far

pub loop-value-preserved : goal.loop-value-preserved
loop-value-preserved c = record {
  made = one_more c.args.format c.loop-value.list.items c.push.new.self.items c.text_in.result.now c.in_ok-class_named.field-0 c.args.array.now
      c.loop-value.value-index c.value-item.result c.loop-value-test.true c.value-item.is c.text_in.ensures c.in_ok-class_named.ensures.class
      c.in_ok-push.ensures.items c.loop-value.invariant.made;
  named = none_nameless c.args.format c.text_in.result.now c.in_ok-class_named.field-0 c.args.array.now c.loop-value.value-index c.value-item.result
      c.loop-value-test.true c.value-item.is c.text_in.ensures c.in_ok-class_named.ensures.class c.loop-value.invariant.named;
}
