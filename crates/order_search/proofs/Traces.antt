-- The labels that are collected on the way back to the first node.
use Rattle.std.proofs.Common.{◌≡◌, ℕ, ◌-◌, ◌<◌, List, [], ◌∷◌, ◌++◌, slice_get, Some, reverse, refl, ap, subst, ◌∙◌, arith}
use Rattle.std.proofs.lemmas.List.{append_assoc, reverse-append}
use Rattle.order_search.specs.declared.trail.Entered.{Entered}
use Rattle.order_search.specs.Exploring.{LabelsTo, at_first, by_edge, EndsWithLabel}

module _ {L : Type 0} (entered : List (Entered L)) (number : ℕ) (label : L) where
  -- the labels so far, from the last on, lead from the node at `at` to the node with the number, and one edge further
  abbrev pub LeadsFrom : List L → ℕ → Type 0
  LeadsFrom labels at = (tail : List L) × (reverse labels ≡ tail ++ label ∷ []) ×
      ((before : List L) → LabelsTo entered at before → LabelsTo entered number (before ++ tail))

  -- one edge back
  pub one_back : (labels : List L) (at : ℕ) (by : Entered L) → 0 < at → slice_get entered (at - 1) ≡ Some by →
      LeadsFrom labels at → LeadsFrom (labels ++ by.label ∷ []) by.from
  one_back labels at by above there (tail, collected, leads) = (
    by.label ∷ tail,
    reverse-append labels (by.label ∷ []) ∙ ap (λ l. by.label ∷ l) collected,
    λ before h. subst (LabelsTo entered number) (append_assoc before (by.label ∷ []) tail)
        (leads (before ++ by.label ∷ []) (by_edge at _ (at - 1) by before (omega (arith, above)) there h refl)),
  )

  -- at the first node
  pub is_trace : (labels : List L) (at : ℕ) → at ≡ 0 → LeadsFrom labels at → EndsWithLabel entered number label (reverse labels)
  is_trace labels at start (tail, collected, leads) = record {
    before = tail;
    lead = leads [] (at_first at [] start refl);
    whole = collected;
  }
