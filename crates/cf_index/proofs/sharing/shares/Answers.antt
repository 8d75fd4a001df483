use Rattle.std.proofs.Common.{◌≡◌}
use Rattle.std.specs.Prelude.{◌&&◌}
use Rattle.cf_semantics.specs.moves.Sites.{Code, Fetching, Lane, Memory}
use Rattle.cf_index.proofs.SharedSites.{both_use, shares_tested}
use Rattle.cf_index.proofs.sharing.shares.Goals as goal

pub returns : goal.returns
returns c =
    let plan = c.args.layout.now in
    let a = c.args.a in
    let b = c.args.b in
    let lane : (c.uses_lane.result && c.uses_lane-2.result) ≡ both_use plan a b Lane = cc (c.uses_lane.ensures plan, c.uses_lane-2.ensures plan) in
    let fetch : (c.uses_fetch.result && c.uses_fetch-2.result) ≡ both_use plan a b Fetching = cc (c.uses_fetch.ensures plan, c.uses_fetch-2.ensures plan) in
    let memory : (c.uses_memory.result && c.uses_memory-2.result) ≡ both_use plan a b Memory = cc (c.uses_memory.ensures plan, c.uses_memory-2.ensures plan) in
    let code : (c.uses_code.result && c.uses_code-2.result) ≡ both_use plan a b Code = cc (c.uses_code.ensures plan, c.uses_code-2.ensures plan) in
    rw (lane, fetch, memory, code) (shares_tested plan a b c.stages_used.result c.stages_used-2.result c.cells_used.result c.cells_used-2.result
    c.overlap-stages.result c.overlap-cells.result
    c.stages_used.ensures.accepted c.requires.first
    (record { stages_are = c.stages_used.ensures.stages; cells_are = c.cells_used.ensures })
    (record { stages_are = c.stages_used-2.ensures.stages; cells_are = c.cells_used-2.ensures })
    c.overlap-stages.ensures c.overlap-cells.ensures)
