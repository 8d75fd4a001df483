use Rattle.std.proofs.Common.{rules}
use Rattle.std.proofs.lemmas.List.Sorted.{IsNonDecreasingBy-from_sort_by_key, answers_always}
use Rattle.asm_listing.proofs.Values.{lines_stay}
use Rattle.asm_listing.proofs.order.sort_by_value.Goals as goal

pub returns-clause-ascend : goal.returns-clause-ascend
returns-clause-ascend c = IsNonDecreasingBy-from_sort_by_key (λ x. x.value) _ c.in_ok-sort_by_key.ensures.sorted (λ a r q k. search rules)

pub returns-clause-lines : goal.returns-clause-lines
returns-clause-lines c =
    lines_stay _ _ c.sort_by_key.ensures.permutation
    (c.sort_by_key.ensures.stable (λ x. x.value) (answers_always _ _ _ (λ f a r g h. search rules)))
