use Rattle.std.proofs.Common.{◌≡◌, ◌∙◌, false, refl, sym, true, Bool, List, []}
use Rattle.std.specs.Prelude.{◌&&◌, ◌||◌, nat_lt, not, if◌then◌else◌}
use Rattle.cf_bind.specs.declared.moves.Move.{Move}
use Rattle.cf_index.proofs.PackedWords.{from_none}
use Rattle.cf_index.proofs.StartsOver.{none_taken}
use Rattle.cf_index.proofs.packing.unheld_issues.Goals as goal

pub returns-then-not-is_lowest_free-clause-moves : goal.returns-then-not-is_lowest_free-clause-moves
returns-then-not-is_lowest_free-clause-moves c =
    let off : not c.is_lowest_free.result ≡ true = rw c.if-not-is_lowest_free.true refl in
    let kept = none_taken c.args.rule c.args.core.now.plan c.args.core.now.state false c.is_lowest_free.result c.is_lowest_free.ensures off in
    from_none 0 3 ∙ sym (none_either (c.args.held && (nat_lt 0 c.args.others || nat_lt 0 c.args.slides)) _ kept)
  where
    none_either : (b : Bool) (xs : List Move) → xs ≡ [] → (if b then [] else xs) ≡ []
    none_either true xs none = refl
    none_either false xs none = none

pub returns-then-is_any-clause-moves : goal.returns-then-is_any-clause-moves
returns-then-is_any-clause-moves c = rw (c.if-held.true, sym c.is_any.ensures ∙ c.if-is_any.true) (from_none 0 3)
