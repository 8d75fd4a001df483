-- How the sites of a processor are recorded: each has a mark of the last move that used it.
use Rattle.std.specs.Prelude.{ℕ, ◌+◌, ◌-◌, ◌*◌, ◌^◌, List, [], ◌∷◌, length, map, min, replicate, slice_get, slice_set, unwrap_or, Bool, ◌&&◌, ◌||◌, nat_lt, nat_eq, if◌then◌else◌}
use Rattle.cf_layout.specs.Layout.{Plan}
use Rattle.cf_bind.specs.declared.moves.Move.{Move}
use Rattle.cf_semantics.specs.moves.Candidates.{counted_from}
use Rattle.cf_semantics.specs.moves.Sites.{Site, Stage, SidingCell, Lane, Fetching, Memory, Code}
use Rattle.cf_index.specs.Order.{kind_place}
use Rattle.cf_index.specs.Sites.{used}
use Rattle.cf_timed.specs.Numbers.{number_at}
use Rattle.cf_timed.specs.Times.{DelayedMove}
use Rattle.run_ledger.specs.Using.{uses_siding, uses_stage}
use Rattle.run_ledger.specs.declared.ledger.Ledger.{Ledger}
use Rattle.run_ledger.specs.declared.mark.ChainMark.{ChainMark}

-- the number of a site among all sites that moves use
abbrev pub place_number : Site → ℕ
place_number Lane = 0
place_number Fetching = 1
place_number Memory = 2
place_number Code = 3
place_number (Stage i) = 4 + i
place_number (SidingCell k c) = 38 + 8 * k + c
place_number _ = 102

-- the mark of a site that no move has used
abbrev pub no_chain_mark : ChainMark
no_chain_mark = record { time = 0; number = 0; kinds = replicate 14 0 }

-- the mark at a site
abbrev pub chain_mark_at : List ChainMark → ℕ → ChainMark
chain_mark_at marks place = unwrap_or (slice_get marks place) no_chain_mark

-- the second mark is of a move that finishes later, or at the same time with a larger number
abbrev pub is_later : ChainMark → ChainMark → Bool
is_later a b = nat_lt a.time b.time || (nat_eq a.time b.time && nat_lt a.number b.number)

-- the later of two marks
abbrev pub later : ChainMark → ChainMark → ChainMark
later a b = if is_later a b then b else a

-- the latest of a mark and some more
abbrev pub latest_of : ChainMark → List ChainMark → ChainMark
latest_of mark [] = mark
latest_of mark (next ∷ marks) = latest_of (later mark next) marks

-- a sum, capped at the maximum number of 64 bits
abbrev pub plus : ℕ → ℕ → ℕ
plus a b = min (a + b) (2 ^ 64 - 1)

-- a number, with this much added if it counts
abbrev pub plus_if : Bool → ℕ → ℕ → ℕ
plus_if counts number more = if counts then plus number more else number

-- some numbers, with this much added to those that count
abbrev pub charged : (ℕ → Bool) → ℕ → List ℕ → List ℕ
charged counts more numbers = map (λ i. plus_if (counts i) (number_at numbers i) more) (counted_from 0 (length numbers))

-- the counts by kind, with the move added
abbrev pub one_more : List ℕ → Move → List ℕ
one_more numbers mv = slice_set numbers (kind_place mv) (plus (number_at numbers (kind_place mv)) 1)

-- the mark is set at each of some sites
abbrev pub put_marks : ChainMark → List ChainMark → List ℕ → List ChainMark
put_marks mark marks [] = marks
put_marks mark marks (place ∷ places) = put_marks mark (slice_set marks place mark) places

-- the ledger with other marks
abbrev pub with_marks : Ledger → List ChainMark → Ledger
with_marks l marks = record l { marks = marks }

-- the ledger before the first move
unfoldable pub new_ledger : Plan → Ledger
new_ledger plan = record {
  layout = plan;
  count = 0;
  marks = replicate 102 no_chain_mark;
  last = no_chain_mark;
  stages = replicate 33 0;
  sidings = replicate 8 0;
  kinds = replicate 14 0;
}

-- the sites that a move uses, by their numbers
abbrev pub place_numbers : Plan → Move → List ℕ
place_numbers plan mv = map place_number (used plan mv)

-- the mark that the move follows: the latest at the sites that it uses
unfoldable pub followed : Ledger → Move → ChainMark
followed l mv = latest_of no_chain_mark (map (chain_mark_at l.marks) (place_numbers l.layout mv))

-- the mark of a move that is made now
unfoldable pub mark_of : Ledger → DelayedMove → ChainMark
mark_of l d = record {
  time = plus (followed l d.mv).time d.delay;
  number = plus l.count 1;
  kinds = one_more (followed l d.mv).kinds d.mv;
}

-- the ledger after a move
unfoldable pub ledger_noted : Ledger → DelayedMove → Ledger
ledger_noted l d = record {
  layout = l.layout;
  count = plus l.count 1;
  marks = put_marks (mark_of l d) l.marks (place_numbers l.layout d.mv);
  last = later l.last (mark_of l d);
  stages = charged (λ i. uses_stage l.layout i d.mv) d.delay l.stages;
  sidings = charged (λ k. uses_siding l.layout k d.mv) d.delay l.sidings;
  kinds = one_more l.kinds d.mv;
}

-- and after some moves
abbrev pub noted_all : Ledger → List DelayedMove → Ledger
noted_all l [] = l
noted_all l (d ∷ moves) = noted_all (ledger_noted l d) moves
