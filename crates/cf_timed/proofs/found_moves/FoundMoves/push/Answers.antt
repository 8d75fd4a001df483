use Rattle.std.proofs.Common.{◌≡◌, ◌≤◌, List, ap, arith, subst}
use Rattle.std.proofs.lemmas.Bool.Decides.{nat_tests}
use Rattle.cf_bind.specs.declared.moves.Move.{Move}
use Rattle.cf_timed.specs.DueMoves.{KeptMoves, most_kept, with_one}
use Rattle.cf_timed.proofs.KeptLists.{kept_full}
use Rattle.cf_timed.proofs.found_moves.FoundMoves.push.Goals as goal

pub returns-else-self-room_in : goal.returns-else-self-room_in
returns-else-self-room_in c =
    let full : most_kept ≤ c.self.inside.count = grind (arith, nat_tests) in
    subst (λ (k : KeptMoves). k ≡ with_one k c.args.mv) c.self.view_is
    (ap (λ (moves : List Move). record { time = c.self.inside.time; moves = moves })
    (kept_full c.self.inside.moves c.self.inside.count most_kept c.args.mv full c.self.invariant (omega arith)))
