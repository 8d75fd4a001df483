-- The report of a search of all orders, and the script of a wrong one (formats of this project).
use Rattle.std.specs.Prelude.{◌≡◌, ℕ, List, [], ◌++◌, codes, decimal, length, Option, Some, None}
use Rattle.std.specs.List.{flat_map}
use Rattle.texts.specs.Lines.{line, counted_line}
use Rattle.rv_machine.specs.declared.outcome.Retired.{Retired}
use Rattle.cf_layout.specs.Layout.{Plan}
use Rattle.cf_bind.specs.declared.moves.Move.{Move}
use Rattle.cf_bind.specs.declared.passenger.Passenger.{Passenger}
use Rattle.cf_bind.specs.MoveTexts.{move_line}
use Rattle.cf_semantics.specs.moves.Events.{Shows}
use Rattle.cf_semantics.specs.runs.Lines.{line_of}
use Rattle.cf_semantics.specs.state.State.{State}
use Rattle.cf_report.specs.declared.tally.Tally.{Tally}
use Rattle.cf_report.specs.Lines.{retired_line}
use Rattle.report_closing.specs.Closing.{rest_text}
use Rattle.order_claims.specs.declared.wrong_kind.WrongKind.{WrongKind}
use Rattle.order_claims.specs.declared.wrong_kind.WrongKind.TheVariants as kinds
use Rattle.order_search.specs.declared.orders.Orders.{Orders}
use Rattle.order_search.specs.declared.orders.Orders.TheVariants.{Exactly, More, Endless}
use Rattle.order_graph.specs.declared.found.OrderCounts.{OrderCounts}
use Rattle.order_graph.specs.declared.found.WrongOrder.{WrongOrder}

-- the moves as a script has them, a line each
unfoldable pub script_text : List Move → List ℕ
script_text moves = flat_map (λ mv. line (move_line mv)) moves

-- the word for each kind of wrong list
abbrev pub kind_word : WrongKind → List ℕ
kind_word kinds.Retired = codes "retired"
kind_word kinds.Ended = codes "ended"
kind_word kinds.Output = codes "output"
kind_word kinds.Stuck = codes "stuck"
kind_word kinds.Memory = codes "memory"

-- the number of moves after which a list is wrong, and in which way
unfoldable pub wrong_line : ℕ → WrongKind → List ℕ
wrong_line moves kind = line (codes "wrong after " ++ decimal moves ++ codes " moves: " ++ kind_word kind)

-- the instruction that leaves, as in the line of one that retired
abbrev pub IsLeavingLine : Option Passenger → Option Retired → Type 0
IsLeavingLine None None = Unit {0}
IsLeavingLine None (Some shown) = ⊥
IsLeavingLine (Some p) None = ⊥
IsLeavingLine (Some p) (Some shown) = Shows (line_of p) shown

-- the line of the n-th instruction to retire, after this word; none if there is no such instruction
unfoldable pub named_line : List ℕ → ℕ → Option Retired → List ℕ
named_line name n None = []
named_line name n (Some line) = name ++ retired_line n line

-- what retired and what the machine would have retired, if that is how a list is wrong
unfoldable pub both_lines : WrongKind → ℕ → Option Retired → Option Retired → List ℕ
both_lines kinds.Retired n seen wanted = named_line (codes "seen ") n seen ++ named_line (codes "wanted ") n wanted
both_lines kinds.Ended n seen wanted = []
both_lines kinds.Output n seen wanted = []
both_lines kinds.Stuck n seen wanted = []
both_lines kinds.Memory n seen wanted = []

-- the counts of the moves, as the report of a run has them
abbrev pub order_tally : ℕ → OrderCounts → Tally
order_tally moves counts = record { moves = moves; meets = counts.meets; kills = counts.kills; dead = counts.dead }

-- the report of a wrong list: how it is wrong, and what the report of a run of its moves ends with
unfoldable pub wrong_text : Plan → (moves : ℕ) → WrongKind → (retired : ℕ) → (seen wanted : Option Retired) → State → Tally → List ℕ
wrong_text plan moves kind retired seen wanted s tally =
    wrong_line moves kind ++ both_lines kind retired seen wanted ++ counted_line (codes "retired ") retired ++ rest_text plan s tally

-- the same for the findings of a search, if the last move retires this line
abbrev pub wrong_report : Plan → WrongOrder → Option Retired → List ℕ
wrong_report plan w seen = wrong_text plan (length w.moves.items) w.kind w.reached.retired seen w.wanted w.reached
    (order_tally (length w.moves.items) w.counts)

abbrev pub IsWrongReport : Plan → WrongOrder → List ℕ → Type 0
IsWrongReport plan w report = (seen : Option Retired) × IsLeavingLine w.seen seen × (report ≡ wrong_report plan w seen)

-- the count does not say that lists of moves go on without end
abbrev pub DoEnd : Orders → Type 0
DoEnd (Exactly count) = Unit {0}
DoEnd More = Unit {0}
DoEnd Endless = ⊥

-- the number of lists of moves, if they end
unfoldable pub orders_line : Orders → List ℕ
orders_line (Exactly count) = counted_line (codes "orders ") count
orders_line More = line (codes "orders more than 18446744073709551615")
orders_line Endless = []

-- how many states are reached, how many moves lead on from them, how many states have none, and how many lists of moves
-- lead to these
unfoldable pub search_counts_text : (states moves ends : ℕ) → Orders → List ℕ
search_counts_text states moves ends orders =
    counted_line (codes "states ") states ++ counted_line (codes "moves ") moves ++ counted_line (codes "ends ") ends ++ orders_line orders

-- more states are reached than are allowed
unfoldable pub too_many_line : ℕ → List ℕ
too_many_line most = line (codes "more than " ++ decimal most ++ codes " states")
