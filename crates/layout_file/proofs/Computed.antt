-- Every class that a document requests is a computed one.
use Rattle.std.proofs.Common.{ℤ, List, [], ◌∷◌, ◌++◌, All, Option, Some, None, codes}
use Rattle.std.specs.Prelude.{unwrap_or}
use Rattle.std.proofs.lemmas.List.Elements.{All-cons, All-nil}
use Rattle.toml.specs.Data.{Data, Items, no_items, item, Members, get_member, as_table}
use Rattle.rv_inst.specs.declared.classes.Class.{Class}
use Rattle.rv_inst.specs.declared.classes.Class.TheVariants.{Add}
use Rattle.cf_layout.specs.declared.parts.Siding.{Siding}
use Rattle.cf_layout.specs.Layout.{computed_classes}
use Rattle.cf_layout.specs.Acceptable.{IsComputed, AreComputed}
use Rattle.layout_file.specs.declared.format.Format.{Format}
use Rattle.layout_file.specs.declared.format.Format.TheVariants.{Second}
use Rattle.layout_file.specs.Names.{class_name, class_by_name}
use Rattle.layout_file.specs.Reading.{classes_of, items_at, members_at, unit_in, units_among, siding_in, sidings_of, sidings_in, parts_in, text_in, integers_of, items_in}
use Rattle.layout_file.proofs.Words.{AllSmall, all_small, word_computed}

-- the same for each text of an array
classes_computed : (format : Format) (ds : Items) → All IsComputed (classes_of format ds)
classes_computed format no_items = All-nil IsComputed
classes_computed format (item d ds) = All-cons IsComputed (unwrap_or (class_by_name format (text_in d)) Add) (classes_of format ds)
    (word_computed format (text_in d)) (classes_computed format ds)

-- the entries of computed classes
entry_computed : (c : Class) (o : Option Data) (rest : List (Class × List ℤ)) → IsComputed c → All (λ (unit : Class × List ℤ). IsComputed unit.0) rest →
    All (λ (unit : Class × List ℤ). IsComputed unit.0) (unit_in c o ++ rest)
entry_computed c None rest here all = all
entry_computed c (Some d) rest here all = All-cons (λ (unit : Class × List ℤ). IsComputed unit.0) (c, integers_of (items_in d)) rest here all

units_computed : (cs : List Class) (ms : Members) → AllSmall cs → All (λ (unit : Class × List ℤ). IsComputed unit.0) (units_among cs ms)
units_computed [] ms small = All-nil (λ (unit : Class × List ℤ). IsComputed unit.0)
units_computed (c ∷ cs) ms small = entry_computed c (get_member (class_name c) ms) (units_among cs ms) small.0 (units_computed cs ms small.1)

-- the sidings
abbrev HasComputed : Siding → Type 0
HasComputed siding = All IsComputed siding.classes

siding_computed : (format : Format) (ms : Members) → HasComputed (siding_in format ms)
unfolding siding_in
siding_computed format ms = classes_computed format (items_at (codes "classes") ms)

sidings_step : (format : Format) (o : Option Members) (rest : List Siding) → All HasComputed rest → All HasComputed (sidings_of format o ++ rest)
sidings_step format None rest all = all
sidings_step format (Some ms) rest all = All-cons HasComputed (siding_in format ms) rest (siding_computed format ms) all

sidings_computed : (format : Format) (ds : Items) → All HasComputed (sidings_in format ds)
sidings_computed format no_items = All-nil HasComputed
sidings_computed format (item d ds) = sidings_step format (as_table d) (sidings_in format ds) (sidings_computed format ds)

-- all parts
pub asked_computed : (format : Format) (ms : Members) → AreComputed (parts_in format ms)
unfolding parts_in
asked_computed format ms = record {
  units = units_computed computed_classes (members_at (codes "units") ms) (all_small Second);
  sidings = sidings_computed format (items_at (codes "siding") ms);
}
