-- Counts of routes in a graph that is given by rows of numbers: from which counts they follow, and which stay unknown.
use Rattle.std.specs.Prelude.{◌≡◌, ◌<◌, ◌≤◌, ◌+◌, ◌^◌, ℕ, List, [], ◌∷◌, Bool, true, false, length, slice_set, replicate, nat_lt, count_by, if◌then◌else◌}
use Rattle.std.specs.List.{slice_index_or, fold}
use Rattle.order_search.specs.declared.orders.Count.{Count}
use Rattle.order_search.specs.declared.orders.Count.TheVariants as known
use Rattle.order_search.specs.declared.orders.Orders.{Orders}
use Rattle.order_search.specs.declared.orders.Orders.TheVariants as orders
use Rattle.order_search.specs.Rows.{numbered_row}

-- whether the count is unknown
abbrev pub is_open_count : Count → Bool
is_open_count known.Open = true
is_open_count (known.Exactly n) = false
is_open_count known.More = false

-- the sum of two known numbers of routes; it does not fit into 64 bits if either does not, or if the sum does not
abbrev pub more_or_sum : Count → ℕ → Count
more_or_sum known.Open n = known.Open
more_or_sum (known.Exactly m) n = if nat_lt (m + n) (2 ^ 64) then known.Exactly (m + n) else known.More
more_or_sum known.More n = known.More

abbrev pub more_unless_open : Count → Count
more_unless_open known.Open = known.Open
more_unless_open (known.Exactly m) = known.More
more_unless_open known.More = known.More

-- the sum of two counts, which is known if both are
abbrev pub plus_count : Count → Count → Count
plus_count a known.Open = known.Open
plus_count a (known.Exactly n) = more_or_sum a n
plus_count a known.More = more_unless_open a

-- the count of the node with a number
abbrev pub count_at : List Count → ℕ → Count
count_at counts number = slice_index_or counts number known.Open

-- the sum of the counts of these nodes
abbrev pub total_count : List Count → List ℕ → Count
total_count counts row = fold (λ sum to. plus_count sum (count_at counts to)) (known.Exactly 0) row

-- the count of a node whose edges lead to these nodes: 1 if there are none
abbrev pub count_of : List Count → List ℕ → Count
count_of counts [] = known.Exactly 1
count_of counts (to ∷ row) = total_count counts (to ∷ row)

-- how many counts are open
abbrev pub open_count : List Count → ℕ
open_count counts = count_by is_open_count counts

-- an open count follows from those of the nodes to which the edges lead
pub record CountFollows (rows : List (List ℕ)) (old new : List Count) (number : ℕ) : Type 0 where
  pub within : number < length old
  pub open_before : is_open_count (count_at old number) ≡ true
  pub closed : is_open_count (count_of old (numbered_row rows number)) ≡ false
  pub new_is : new ≡ slice_set old number (count_of old (numbered_row rows number))

-- after a node was visited: its count follows, or none does
abbrev pub SettlesCount : List (List ℕ) → List Count → List Count → ℕ → Bool → Type 0
SettlesCount rows old new number true = CountFollows rows old new number
SettlesCount rows old new number false =
    (new ≡ old) × (is_open_count (count_at old number) ≡ true → is_open_count (count_of old (numbered_row rows number)) ≡ true)

-- counts that follow one after another
pub data Sweeps (rows : List (List ℕ)) (first : List Count) : List Count → Type 0 where
  unchanged : (counts : List Count) → counts ≡ first → Sweeps rows first counts
  one_more : (before counts : List Count) (number : ℕ) → Sweeps rows first before → CountFollows rows before counts number → Sweeps rows first counts

-- no open count of a node from this number on follows
abbrev pub IsStuckFrom : List (List ℕ) → List Count → ℕ → Type 0
IsStuckFrom rows counts from = (i : ℕ) → from ≤ i → i < length rows → is_open_count (count_at counts i) ≡ true →
    is_open_count (count_of counts (numbered_row rows i)) ≡ true

-- after the nodes from a number on were visited: some counts followed, or none does
abbrev pub SettlesFrom : List (List ℕ) → List Count → List Count → ℕ → Bool → Type 0
SettlesFrom rows old new from true = Sweeps rows old new × (open_count new < open_count old)
SettlesFrom rows old new from false = (new ≡ old) × IsStuckFrom rows new from

-- the answer that the count of the first node gives
abbrev pub counted_orders : Count → Orders
counted_orders known.Open = orders.Endless
counted_orders (known.Exactly n) = orders.Exactly n
counted_orders known.More = orders.More

-- the answer is that of counts from which no more follow
pub record IsSettled (rows : List (List ℕ)) (answer : Orders) : Type 0 where
  pub counts : List Count
  pub swept : Sweeps rows (replicate (length rows) known.Open) counts
  pub stuck : IsStuckFrom rows counts 0
  pub is : answer ≡ counted_orders (count_at counts 0)
