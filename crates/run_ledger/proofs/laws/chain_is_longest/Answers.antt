use Rattle.run_ledger.proofs.Longest.{chain-is, chain-sum}
use Rattle.run_ledger.proofs.laws.chain_is_longest.Goals as goal

pub returns : goal.returns
returns c = record { chain = chain-is; sum = chain-sum }
