-- Equal memories have equal changes.
use Rattle.mem_changes.proofs.Once.{listed_once}
use Rattle.mem_changes.proofs.laws.one_list.Goals as goal

pub returns : goal.returns
returns c = listed_once
