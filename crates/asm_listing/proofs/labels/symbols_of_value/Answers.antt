use Rattle.std.proofs.Common.{leb, rules}
use Rattle.std.proofs.lemmas.List.Sorted.{IsPartitionPoint-from_clause, IsPartitionedBy-leb}
use Rattle.asm_listing.proofs.Values.{front_is}
use Rattle.asm_listing.proofs.labels.symbols_of_value.Goals as goal

pub returns : goal.returns
returns c =
    let parted = IsPartitionedBy-leb (λ x. x.value) _ c.args.value c.symbols_from-rest.ensures.ascend in
    let point = IsPartitionPoint-from_clause (λ x. leb x.value c.args.value) _ _ c.partition_point-count.ensures.partitioned parted (λ a r q k. search rules) in
    rw (c.split_at.ensures.front, ← c.symbols_from-rest.ensures.same) (front_is c.args.value _ _ c.symbols_from-rest.ensures.least point.0 point.1)
