use Rattle.std.proofs.Common.{arith}
use Rattle.cf_log.proofs.Holding.{is-cut, is-piece}
use Rattle.cf_log.proofs.feed.LogFeed.cut.Goals as goal

pub returns-then-size-rest-clause-no : goal.returns-then-size-rest-clause-no
returns-then-size-rest-clause-no c = λ same. is-piece _ _ _ c.rest-rest.ensures.rest c.find_byte-size.ensures.index c.if-size-rest.true

pub returns-clause-yes : goal.returns-clause-yes
returns-clause-yes c =
    λ same. is-cut _ _ _ _ _ c.rest-rest.ensures.rest c.find_byte-size.ensures.index (omega (arith, c.if-size-rest.false, c.find_byte-size.ensures.within))
    c.size_of_line-line.ensures.within c.size_of_line-line.ensures.line c.use_piece.ensures.line c.use_piece.ensures.rest
