-- The position of a move in the order of all moves: its kind and its place within the kind, but not its cell within a
-- siding.
use Rattle.std.specs.Prelude.{Bool, nat_lt}
use Rattle.cf_bind.specs.declared.moves.Move.{Move}
use Rattle.cf_index.specs.declared.rank.Rank.{Rank}
use Rattle.cf_index.specs.Order.{below_or, kind_place, place}

-- the position of the move
abbrev pub rank_of : Move → Rank
rank_of mv = record { kind = kind_place mv; place = place mv }

-- the move comes after the rank
abbrev pub is_past : Rank → Move → Bool
is_past r mv = below_or r.kind (kind_place mv) (nat_lt r.place (place mv))
