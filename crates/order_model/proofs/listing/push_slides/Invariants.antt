use Rattle.std.proofs.Common.{◌≡◌, ◌++◌, take}
use Rattle.cf_semantics.specs.moves.Candidates.{slides_from}
use Rattle.order_model.proofs.listing.push_slides.Given as goal

-- the moves within the sidings so far
abbrev pub invariant-loop-siding : goal.invariant-loop-siding
invariant-loop-siding l = l.moves.items ≡ l.fn.moves.items ++ slides_from 0 (take l.siding l.layout.sidings)
