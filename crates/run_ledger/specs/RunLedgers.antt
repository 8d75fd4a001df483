-- How the ledger of a run is kept: the sites, the gaps of the stages, and the latencies of the instructions.
use Rattle.std.specs.Prelude.{List, [], ◌∷◌, replicate}
use Rattle.cf_layout.specs.Layout.{Plan}
use Rattle.run_ledger.specs.ClassCounts.{latencies_noted, no_latencies}
use Rattle.run_ledger.specs.GapCounts.{empty_until, gaps_noted, no_gaps, waiting_until}
use Rattle.run_ledger.specs.Ledgers.{ledger_noted, new_ledger}
use Rattle.run_ledger.specs.SeenMoves.{SeenMove, untimed}
use Rattle.run_ledger.specs.declared.breakdown.Breakdown.{Breakdown}
use Rattle.run_ledger.specs.declared.run_ledger.RunLedger.{RunLedger}

-- the ledger before the first move
unfoldable pub begun : Plan → RunLedger
begun plan = record { sites = new_ledger plan; gaps = replicate 33 no_gaps; latencies = no_latencies }

-- the ledger after a move
unfoldable pub move_noted : RunLedger → SeenMove → RunLedger
move_noted l m = record {
  sites = ledger_noted l.sites (untimed m.done);
  gaps = gaps_noted l.sites.layout m.done m.state l.gaps;
  latencies = latencies_noted l.sites.layout m.done m.event l.latencies;
}

-- and after some moves
abbrev pub moves_noted : RunLedger → List SeenMove → RunLedger
moves_noted l [] = l
moves_noted l (m ∷ moves) = moves_noted (move_noted l m) moves

-- its breakdown
unfoldable pub breakdown_in : RunLedger → Breakdown
breakdown_in l = record {
  layout = l.sites.layout;
  stages = l.sites.stages;
  waiting = waiting_until l.sites.last.time l.gaps;
  empty = empty_until l.sites.last.time l.gaps;
  sidings = l.sites.sidings;
  moves = l.sites.kinds;
  retired = l.latencies.retired;
  latencies = l.latencies.ticks;
  chain = l.sites.last.kinds;
}
