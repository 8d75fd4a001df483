use Rattle.std.proofs.Common.{ltb, rules}
use Rattle.std.proofs.lemmas.List.Sorted.{IsPartitionPoint-from_clause, IsPartitionedBy-ltb, IsNonDecreasingBy-drop}
use Rattle.asm_listing.proofs.Values.{passed, from_value}
use Rattle.asm_listing.proofs.labels.symbols_from.Goals as goal

pub returns-clause-same : goal.returns-clause-same
returns-clause-same c =
    let parted = IsPartitionedBy-ltb (λ x. x.value) _ c.args.value c.requires in
    let point = IsPartitionPoint-from_clause (λ x. ltb x.value c.args.value) _ _ c.partition_point-below.ensures.partitioned parted (λ a r q k. search rules) in
    rw c.split_at.ensures.back (passed c.args.value _ _ point.0)

pub returns-clause-least : goal.returns-clause-least
returns-clause-least c =
    let parted = IsPartitionedBy-ltb (λ x. x.value) _ c.args.value c.requires in
    let point = IsPartitionPoint-from_clause (λ x. ltb x.value c.args.value) _ _ c.partition_point-below.ensures.partitioned parted (λ a r q k. search rules) in
    rw c.split_at.ensures.back (from_value c.args.value _ _ point.1)

pub returns-clause-ascend : goal.returns-clause-ascend
returns-clause-ascend c = rw c.split_at.ensures.back (IsNonDecreasingBy-drop (λ x. x.value) _ _ c.requires)
