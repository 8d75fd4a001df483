-- The moves of a search, each with the numbers of the states before and after it (a format of this project).
use Rattle.std.specs.Prelude.{◌≡◌, ℕ, suc, List, [], ◌∷◌, ◌++◌, codes, decimal, length, slice_get, Some, Bool, true, false}
use Rattle.std.specs.List.{flat_map}
use Rattle.texts.specs.Lines.{line}
use Rattle.cf_bind.specs.declared.moves.Move.{Move}
use Rattle.cf_bind.specs.MoveTexts.{move_line}
use Rattle.order_search.specs.declared.reached.NumberedEdge.{NumberedEdge}
use Rattle.order_graph.specs.OrderAnswers.{AreNumberedMoves, states_of}
use Rattle.order_graph.specs.OrderTrial.{OrderTrial, IssuedState}
use Rattle.order_graph.specs.declared.reached.OrdersReached.{OrdersReached}

-- a move from the state of this number
unfoldable pub edge_line : ℕ → NumberedEdge Move → List ℕ
edge_line from edge = (decimal from ++ codes " " ++ decimal edge.to ++ codes " ") ++ line (move_line edge.label)

-- the moves of the states from this number on
unfoldable pub edge_lines : ℕ → List (List (NumberedEdge Move)) → List ℕ
edge_lines from [] = []
edge_lines from (row ∷ rows) = flat_map (edge_line from) row ++ edge_lines (suc from) rows

-- the text has the moves that lead on from each of the first states, this many of them
pub record HasEdgesOf (t : OrderTrial) (states : List IssuedState) (count : ℕ) (text : List ℕ) : Type 0 where
  pub rows : List (List (NumberedEdge Move))
  pub all : length rows ≡ count
  pub each : (number : ℕ) (row : List (NumberedEdge Move)) → slice_get rows number ≡ Some row → AreNumberedMoves t states number row
  pub text_is : text ≡ edge_lines 0 rows

-- the text has the moves from all states if edges are shown, and otherwise is empty
abbrev pub ShowsEdges : Bool → OrdersReached → List ℕ → Type 0
ShowsEdges true r text = HasEdgesOf r.graph.trial (states_of r) (length (states_of r)) text
ShowsEdges false r text = text ≡ []
