use Rattle.std.proofs.Common.{◌∙◌, sym}
use Rattle.cf_bind.specs.declared.moves.Move.TheVariants.{Access, Recover, Leave, Exit}
use Rattle.cf_index.specs.Listed.{flagged, at_word, leaving_moves}
use Rattle.cf_index.proofs.Parts.{in_word, past_word, past_flag, at_flag, only_flag, length_flag, length-at_word, rest_below}
use Rattle.cf_index.proofs.leaving.Leaving.get.Goals as goal

pub returns-then-i-recovers : goal.returns-then-i-recovers
unfolding leaving_moves
returns-then-i-recovers c =
    past_flag _ _ _ _ _ c.if-i-accesses.false (
    in_word _ _ _ _ _ c.nth.ensures.number)

pub returns-then-i-leaves : goal.returns-then-i-leaves
unfolding leaving_moves
returns-then-i-leaves c =
    past_flag _ _ _ _ _ c.if-i-accesses.false (
    past_word _ _ _ _ _ _ c.count-recovers.ensures.numbers c.if-i-recovers.false (
    at_flag _ _ _ _ c.if-i-leaves.true))

pub returns-then-i-leaves-2 : goal.returns-then-i-leaves-2
unfolding leaving_moves
returns-then-i-leaves-2 c =
    past_flag _ _ _ _ _ c.if-i-accesses.false (
    past_word _ _ _ _ _ _ c.count-recovers.ensures.numbers c.if-i-recovers.false (
    past_flag _ _ _ _ _ c.if-i-leaves.false (
    at_flag _ _ _ _ c.if-i-leaves-2.true)))

pub returns-else-i-leaves-2 : goal.returns-else-i-leaves-2
unfolding leaving_moves
returns-else-i-leaves-2 c =
    let l = c.args.self.now in
    past_flag _ _ _ _ _ c.if-i-accesses.false (
    past_word _ _ _ _ _ _ c.count-recovers.ensures.numbers c.if-i-recovers.false (
    past_flag _ _ _ _ _ c.if-i-leaves.false (
    past_flag _ _ _ _ _ c.if-i-leaves-2.false (
    only_flag _ _ _ (
    rest_below (flagged l.exit Exit) _ _ _ (length_flag l.exit Exit) c.if-i-leaves-2.false (
    rest_below (flagged l.leave Leave) _ _ _ (length_flag l.leave Leave) c.if-i-leaves.false (
    rest_below (at_word Recover l.recover) _ _ _ (c.count-recovers.ensures.numbers ∙ sym (length-at_word Recover l.recover)) c.if-i-recovers.false (
    rest_below (flagged l.access Access) _ _ _ (length_flag l.access Access) c.if-i-accesses.false c.requires))))))))
