-- The first test that holds is the one that is found.
use Rattle.std.proofs.Common.{◌≡◌, List, [], ◌∷◌, None, Some, Bool, true, false, refl, sym, ◌∙◌}
use Rattle.std.specs.Prelude.{find}
use Rattle.cf_bind.specs.declared.moves.Bar.{Bar}
use Rattle.cf_semantics.specs.state.Options.{on}
use Rattle.cf_semantics.specs.moves.Bars.{first_bar_of}

first_found : (rows : List (Bool × Bar)) → on (find (λ (row : Bool × Bar). row.0) rows) None (λ row. Some row.1) ≡ first_bar_of rows None
first_found [] = refl
first_found ((true, bar) ∷ rows) = refl
first_found ((false, bar) ∷ rows) = first_found rows

pub found : (rows : List (Bool × Bar)) (row : Bool × Bar) → find (λ (row : Bool × Bar). row.0) rows ≡ Some row → first_bar_of rows None ≡ Some row.1
found rows row e = sym (first_found rows) ∙ rw e refl

pub none_found : (rows : List (Bool × Bar)) → find (λ (row : Bool × Bar). row.0) rows ≡ None → first_bar_of rows None ≡ None
none_found rows e = sym (first_found rows) ∙ rw e refl

pub ruleset finding = (found, none_found)
