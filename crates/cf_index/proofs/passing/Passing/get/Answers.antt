use Rattle.cf_index.specs.Listed.{passing_moves}
use Rattle.cf_index.proofs.Parts.{in_word, past_word, of_word}
use Rattle.cf_index.proofs.passing.Passing.get.Goals as goal

pub returns-then-i-climbs : goal.returns-then-i-climbs
unfolding passing_moves
returns-then-i-climbs c =
    in_word _ _ _ _ _ c.nth.ensures.number

pub returns-then-i-falls : goal.returns-then-i-falls
unfolding passing_moves
returns-then-i-falls c =
    past_word _ _ _ _ _ _ c.count-climbs.ensures.numbers c.if-i-climbs.false (
    in_word _ _ _ _ _ c.nth-then-i-falls.ensures.number)

pub returns-then-i-meets : goal.returns-then-i-meets
unfolding passing_moves
returns-then-i-meets c =
    past_word _ _ _ _ _ _ c.count-climbs.ensures.numbers c.if-i-climbs.false (
    past_word _ _ _ _ _ _ c.count-falls.ensures.numbers c.if-i-falls.false (
    in_word _ _ _ _ _ c.nth-then-i-meets.ensures.number))

pub returns-then-i-executes : goal.returns-then-i-executes
unfolding passing_moves
returns-then-i-executes c =
    past_word _ _ _ _ _ _ c.count-climbs.ensures.numbers c.if-i-climbs.false (
    past_word _ _ _ _ _ _ c.count-falls.ensures.numbers c.if-i-falls.false (
    past_word _ _ _ _ _ _ c.count-meets.ensures.numbers c.if-i-meets.false (
    in_word _ _ _ _ _ c.nth-then-i-executes.ensures.number)))

pub returns-then-i-sends : goal.returns-then-i-sends
unfolding passing_moves
returns-then-i-sends c =
    past_word _ _ _ _ _ _ c.count-climbs.ensures.numbers c.if-i-climbs.false (
    past_word _ _ _ _ _ _ c.count-falls.ensures.numbers c.if-i-falls.false (
    past_word _ _ _ _ _ _ c.count-meets.ensures.numbers c.if-i-meets.false (
    past_word _ _ _ _ _ _ c.count-executes.ensures.numbers c.if-i-executes.false (
    in_word _ _ _ _ _ c.nth-then-i-sends.ensures.number))))

pub returns : goal.returns
unfolding passing_moves
returns c =
    past_word _ _ _ _ _ _ c.count-climbs.ensures.numbers c.if-i-climbs.false (
    past_word _ _ _ _ _ _ c.count-falls.ensures.numbers c.if-i-falls.false (
    past_word _ _ _ _ _ _ c.count-meets.ensures.numbers c.if-i-meets.false (
    past_word _ _ _ _ _ _ c.count-executes.ensures.numbers c.if-i-executes.false (
    past_word _ _ _ _ _ _ c.count-sends.ensures.numbers c.if-i-sends.false (
    of_word _ _ _ _ c.nth-2.ensures.number)))))
