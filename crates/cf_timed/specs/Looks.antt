-- A look at moves while it is made: what it has found is written through a reference.
use Rattle.cf_bind.specs.declared.moves.Move.{Move}
use Rattle.cf_timed.specs.declared.looking.Looking.{Looking}
use Rattle.cf_timed.specs.Clocks.{clocked}
use Rattle.cf_timed.specs.DueMoves.{looked}

-- one more move is looked at, and the reference is the same one
abbrev pub look_further : Looking → Move → Looking
look_further l mv = record l { found = record l.found { now = looked (clocked l.clock.now l.core.now.state) l.found.now mv } }
