-- The counts of the moves of a trial, and how one more move adds to them.
use Rattle.std.specs.Prelude.{ℕ, ◌+◌, ◌≤◌, List, Bool, false, ◌&&◌, not, count_by, Option, Some, None, if◌then◌else◌}
use Rattle.cf_bind.specs.declared.cell.Cell.{Cell}
use Rattle.cf_bind.specs.declared.moves.Move.{Move}
use Rattle.cf_semantics.specs.state.Options.{on, is_some}
use Rattle.cf_semantics.specs.state.State.{State}
use Rattle.order_rules.specs.declared.rule.Rule.{Rule}
use Rattle.order_graph.specs.declared.found.OrderCounts.{OrderCounts}
use Rattle.order_graph.specs.OrderCounts.{is_meeting, is_kill, is_death, count_made}
use Rattle.order_graph.specs.OrderTrial.{OrderTrial, first_moment}

-- the counts of a list of moves from the start
unfoldable pub counts_of : OrderTrial → List Move → OrderCounts
counts_of t moves = record {
  meets = count_by is_meeting moves;
  kills = count_made (is_kill t.away) t.away t.plan (first_moment t) moves;
  dead = count_made (is_death t.away) t.away t.plan (first_moment t) moves;
}

-- nothing is counted
abbrev pub no_counts : OrderCounts
no_counts = record { meets = 0; kills = 0; dead = 0 }

-- with one more move, made in this state
unfoldable pub counts_with : Option Rule → State → Move → OrderCounts → OrderCounts
counts_with away s mv k = record {
  meets = k.meets + (if is_meeting mv then 1 else 0);
  kills = k.kills + (if is_kill away s mv then 1 else 0);
  dead = k.dead + (if is_death away s mv then 1 else 0);
}

-- none of the counts is above this number
pub record AreCountsUpTo (most : ℕ) (k : OrderCounts) : Type 0 where
  pub meets : k.meets ≤ most
  pub kills : k.kills ≤ most
  pub dead : k.dead ≤ most

-- the stage has a result; a live instruction; a dead instruction
abbrev pub has_packet : Option Cell → Bool
has_packet None = false
has_packet (Some c) = is_some c.packet

abbrev pub has_live : Option Cell → Bool
has_live None = false
has_live (Some c) = on c.passenger false (λ p. not p.dead)

abbrev pub has_dead : Option Cell → Bool
has_dead None = false
has_dead (Some c) = on c.passenger false (λ p. p.dead)

-- with a meeting, given the contents of its stage before and after it
abbrev pub counts_between : Option Cell → Option Cell → OrderCounts → OrderCounts
counts_between found left k = record {
  meets = k.meets + 1;
  kills = k.kills + (if has_packet found && not (has_packet left) then 1 else 0);
  dead = k.dead + (if has_live found && has_dead left then 1 else 0);
}
