-- The lines of the moves, for each state in turn.
use Rattle.std.proofs.Common.{◌≡◌, ℕ, zero, suc, ◌+◌, List, [], ◌∷◌, ◌++◌, length, Some, ◌⊎◌, inl, inr, refl, sym, ap, subst, ◌∙◌, append-nil, append_assoc, length-append, arith}
use Rattle.std.specs.Prelude.{slice_get}
use Rattle.std.specs.List.{flat_map}
use Rattle.cf_bind.specs.declared.moves.Move.{Move}
use Rattle.order_search.specs.declared.reached.NumberedEdge.{NumberedEdge}
use Rattle.order_graph.specs.OrderAnswers.{AreNumberedMoves}
use Rattle.order_graph.specs.OrderTrial.{OrderTrial, IssuedState}
use Rattle.cli_orders.specs.EdgeTexts.{HasEdgesOf, edge_line, edge_lines}

abbrev Row : Type 0
Row = List (NumberedEdge Move)

-- no state yet
pub edges_none : (t : OrderTrial) (states : List IssuedState) → HasEdgesOf t states 0 []
unfolding edge_lines
edges_none t states = record { rows = []; all = refl; each = λ number row e. absurd (cc); text_is = refl }

-- the row of one more state
row_at : (rows : List Row) (row other : Row) (number : ℕ) → slice_get (rows ++ row ∷ []) number ≡ Some other →
    (slice_get rows number ≡ Some other) ⊎ ((number ≡ length rows) × (row ≡ other))
row_at [] row other zero e = inr (refl, cc)
row_at [] row other (suc number) e = absurd (cc)
row_at (first ∷ rows) row other zero e = inl e
row_at (first ∷ rows) row other (suc number) e = elim (row_at rows row other number e) [
  | inl earlier ↦ inl earlier
  | inr last ↦ inr (ap suc last.0, last.1)
]

lines_more : (from : ℕ) (rows : List Row) (row : Row) →
    edge_lines from (rows ++ row ∷ []) ≡ edge_lines from rows ++ flat_map (edge_line (from + length rows)) row
unfolding edge_lines
lines_more from [] row =
    let same : from ≡ from + 0 = omega arith in
    append-nil (flat_map (edge_line from) row) ∙ ap (λ (n : ℕ). flat_map (edge_line n) row) same
lines_more from (first ∷ rows) row =
    let same : suc from + length rows ≡ from + suc (length rows) = omega arith in
    ap (λ (text : List ℕ). flat_map (edge_line from) first ++ text)
    (lines_more (suc from) rows row ∙ ap (λ (n : ℕ). edge_lines (suc from) rows ++ flat_map (edge_line n) row) same)
    ∙ sym (append_assoc (flat_map (edge_line from) first) (edge_lines (suc from) rows) (flat_map (edge_line (from + suc (length rows))) row))

each_more : (t : OrderTrial) (states : List IssuedState) (rows : List Row) (row : Row) →
    ((number : ℕ) (other : Row) → slice_get rows number ≡ Some other → AreNumberedMoves t states number other) →
    AreNumberedMoves t states (length rows) row → (number : ℕ) (other : Row) → slice_get (rows ++ row ∷ []) number ≡ Some other →
    AreNumberedMoves t states number other
each_more t states rows row each here number other e = elim (row_at rows row other number e) [
  | inl earlier ↦ each number other earlier
  | inr last ↦ subst (λ (r : Row). AreNumberedMoves t states number r) last.1 (subst (λ (n : ℕ). AreNumberedMoves t states n row) (sym last.0) here)
]

pub edges_next : (t : OrderTrial) (states : List IssuedState) (count : ℕ) (text : List ℕ) (row : Row) → HasEdgesOf t states count text →
    AreNumberedMoves t states count row → HasEdgesOf t states (count + 1) (text ++ flat_map (edge_line count) row)
edges_next t states count text row h here =
    let counted : 0 + length h.rows ≡ count = omega (arith, h.all) in
    record {
      rows = h.rows ++ row ∷ [];
      all = length-append h.rows (row ∷ []) ∙ ap (λ (n : ℕ). n + 1) h.all;
      each = each_more t states h.rows row h.each (subst (λ (n : ℕ). AreNumberedMoves t states n row) (sym h.all) here);
      text_is = ap (λ (so_far : List ℕ). so_far ++ flat_map (edge_line count) row) h.text_is
          ∙ ap (λ (n : ℕ). edge_lines 0 h.rows ++ flat_map (edge_line n) row) (sym counted) ∙ sym (lines_more 0 h.rows row);
    }
