-- The stages of a key are where they were noted to be, and can be replaced by others.
use Rattle.std.proofs.Common.{◌≡◌, ℕ, zero, suc, ◌+◌, ◌-◌, ◌<◌, ◌≤◌, List, [], ◌∷◌, ◌++◌, length, take, drop, refl, sym, ap, subst, ◌∙◌, append_assoc, arith}
use Rattle.std.specs.Prelude.{slice_index}
use Rattle.std.specs.List.{between}
use Rattle.std.proofs.lemmas.List.{append-nil, drop_at, length-append, take_at}
use Rattle.std.proofs.lemmas.List.Edits.{split_between}
use Rattle.mem_changes.specs.MemoryChanges.{MemoryChanges}
use Rattle.cf_semantics.specs.state.State.{State}
use Rattle.cf_bind.specs.declared.cell.Cell.{Cell}
use Rattle.order_keys.specs.Numbers.{packed_byte, packed_long, unpacked_long}
use Rattle.order_keys.specs.Lists.{packed_items, packed_list}
use Rattle.order_keys.specs.Cells.{packed_cell, unpacked_cell}
use Rattle.order_keys.specs.declared.node.Node.{Node}
use Rattle.order_keys.specs.Compounds.{packed_triple}
use Rattle.order_keys.specs.Situations.{packed_sidings, packed_pipes, packed_fetching, fetching_of, packed_past, past_of, packed_situation}
use Rattle.order_keys.specs.Memories.{packed_changes}
use Rattle.order_keys.specs.Keys.{key_of_node}
use Rattle.order_keys.specs.Beside.{DiffersWithin}
use Rattle.order_keys.specs.Stages.{lefts_from, lefts_of}
use Rattle.order_keys.proofs.NumbersBack.{long_back}
use Rattle.order_keys.proofs.StagesBack.{cell_back}
use Rattle.order_keys.proofs.PlacesRead.{taken_all}

-- the bytes of consecutive stages, cut in two
pub items_cut : (cells : List Cell) (i : ℕ) → packed_items packed_cell (take i cells) ++ packed_items packed_cell (drop i cells) ≡ packed_items packed_cell
    cells
unfolding packed_items
items_cut cells zero = refl
items_cut [] (suc i) = refl
items_cut (c ∷ cells) (suc i) = simp append_assoc (ap (λ (l : List ℕ). packed_cell c ++ l) (items_cut cells i))

-- the bytes left after the first stages are as many as those of the other stages and of what follows
left_behind : (cells : List Cell) (rest : List ℕ) (i : ℕ) → i < length cells →
    slice_index (lefts_from (length cells) (packed_items packed_cell cells ++ rest)) i ≡ length (packed_items packed_cell (drop (suc i) cells) ++ rest)
unfolding lefts_from packed_items
left_behind [] rest i h = absurd (omega (arith, h))
left_behind (c ∷ cells) rest zero h = simp (append_assoc, cell_back.back) refl
left_behind (c ∷ cells) rest (suc i) h = simp (append_assoc, cell_back.back) (left_behind cells rest i (omega (arith, h)))

lefts_many : (cells : List Cell) (rest : List ℕ) → length (lefts_from (length cells) (packed_items packed_cell cells ++ rest)) ≡ length cells
unfolding lefts_from packed_items
lefts_many [] rest = refl
lefts_many (c ∷ cells) rest = simp (append_assoc, cell_back.back) (ap suc (lefts_many cells rest))

-- what follows the stages of a key
abbrev pub behind_stages : Node → List ℕ
behind_stages n =
    packed_sidings n.situation.sidings ++ (packed_list packed_byte n.situation.lane ++ (packed_fetching (fetching_of n.situation)
    ++ (packed_past (past_of n.situation) ++ (packed_changes n.changes ++ packed_byte n.issues))))

pub key_split : (n : Node) → key_of_node n ≡ packed_long (length n.situation.cells) ++ (packed_items packed_cell n.situation.cells ++ behind_stages n)
unfolding key_of_node packed_triple packed_situation packed_pipes packed_list
key_split n = simp append_assoc refl

items_append : (xs ys : List Cell) → packed_items packed_cell (xs ++ ys) ≡ packed_items packed_cell xs ++ packed_items packed_cell ys
unfolding packed_items
items_append [] ys = refl
items_append (x ∷ xs) ys = simp append_assoc (ap (λ (l : List ℕ). packed_cell x ++ l) (items_append xs ys))

-- how many bytes are left where a stage begins
left_at : (cells : List Cell) (rest : List ℕ) (i : ℕ) → i ≤ length cells →
    slice_index (lefts_of (packed_long (length cells) ++ (packed_items packed_cell cells ++ rest))) i ≡ length (packed_items packed_cell (drop i cells) ++ rest)
unfolding lefts_of
left_at cells rest zero h = simp long_back.back refl
left_at cells rest (suc i) h = simp long_back.back (left_behind cells rest i (omega (arith, h)))

many_lefts : (cells : List Cell) (rest : List ℕ) →
    length (lefts_of (packed_long (length cells) ++ (packed_items packed_cell cells ++ rest))) ≡ suc (length cells)
unfolding lefts_of
many_lefts cells rest = simp long_back.back (ap suc (lefts_many cells rest))

-- concatenated lists, grouped differently
cut_again : (a b c d : List ℕ) → a ++ ((b ++ c) ++ d) ≡ (a ++ b) ++ (c ++ d)
cut_again a b c d = simp append_assoc refl

joined_again : (a b c d e : List ℕ) → ((a ++ b) ++ c) ++ (d ++ e) ≡ a ++ ((b ++ (c ++ d)) ++ e)
joined_again a b c d e = simp append_assoc refl

module _ (n : Node) (key lefts : List ℕ) (is : key ≡ key_of_node n) (there : lefts ≡ lefts_of key) where
  split : key ≡ packed_long (length n.situation.cells) ++ (packed_items packed_cell n.situation.cells ++ behind_stages n)
  split = is ∙ key_split n

  of_split : lefts ≡ lefts_of (packed_long (length n.situation.cells) ++ (packed_items packed_cell n.situation.cells ++ behind_stages n))
  of_split = there ∙ ap lefts_of split

  pub lefts_size : length lefts ≡ suc (length n.situation.cells)
  lefts_size = ap length of_split ∙ many_lefts n.situation.cells (behind_stages n)

  left_is : (i : ℕ) → i ≤ length n.situation.cells → slice_index lefts i ≡ length (packed_items packed_cell (drop i n.situation.cells) ++ behind_stages n)
  left_is i h = ap (λ (l : List ℕ). slice_index l i) of_split ∙ left_at n.situation.cells (behind_stages n) i h

  abbrev front_of : ℕ → List ℕ
  front_of i = packed_long (length n.situation.cells) ++ packed_items packed_cell (take i n.situation.cells)

  abbrev back_of : ℕ → List ℕ
  back_of i = packed_items packed_cell (drop i n.situation.cells) ++ behind_stages n

  cut_at : (i : ℕ) → key ≡ front_of i ++ back_of i
  cut_at i = split ∙ ap (λ (l : List ℕ). packed_long (length n.situation.cells) ++ (l ++ behind_stages n)) (sym (items_cut n.situation.cells i))
      ∙ cut_again (packed_long (length n.situation.cells)) (packed_items packed_cell (take i n.situation.cells))
      (packed_items packed_cell (drop i n.situation.cells))
      (behind_stages n)

  long_front : (i : ℕ) → i ≤ length n.situation.cells → length (front_of i) + slice_index lefts i ≡ length key
  long_front i h = ap (λ (k : ℕ). length (front_of i) + k) (left_is i h) ∙ sym (length-append (front_of i) (back_of i)) ∙ sym (ap length (cut_at i))

  pub left_fits : (i : ℕ) → i ≤ length n.situation.cells → slice_index lefts i ≤ length key
  left_fits i h = let e = long_front i h in omega (arith, e)

  pub front_is : (i : ℕ) → i ≤ length n.situation.cells →
      take (length key - slice_index lefts i) key ≡ packed_long (length n.situation.cells) ++ packed_items packed_cell (take i n.situation.cells)
  front_is i h =
      let e = long_front i h in
      let size : length (front_of i) ≡ length key - slice_index lefts i = omega (arith, e) in
      ap (take (length key - slice_index lefts i)) (cut_at i) ∙ take_at (front_of i) (back_of i) (length key - slice_index lefts i) size

  pub back_is : (i : ℕ) → i ≤ length n.situation.cells →
      drop (length key - slice_index lefts i) key ≡ packed_items packed_cell (drop i n.situation.cells) ++ behind_stages n
  back_is i h =
      let e = long_front i h in
      let size : length (front_of i) ≡ length key - slice_index lefts i = omega (arith, e) in
      ap (drop (length key - slice_index lefts i)) (cut_at i) ∙ drop_at (front_of i) (back_of i) (length key - slice_index lefts i) size

-- what follows the stages does not depend on them
same_behind : (low high : ℕ) (before n : Node) → DiffersWithin low high before n → behind_stages n ≡ behind_stages before
same_behind low high before n d =
    ap (λ (s : State). packed_sidings s.sidings ++ (packed_list packed_byte s.lane ++ (packed_fetching (fetching_of s)
    ++ (packed_past (past_of s) ++ (packed_changes n.changes ++ packed_byte n.issues))))) d.others
    ∙ ap (λ (k : MemoryChanges). behind_stages (let r : Node = record before { changes = k; issues = n.issues } in r)) d.changes
    ∙ ap (λ (i : ℕ). behind_stages (let r : Node = record before { issues = i } in r)) d.issues

-- the key of another node, built from its parts
pub put_together : (low high : ℕ) (before n : Node) → low ≤ high → DiffersWithin low high before n →
    ((packed_long (length before.situation.cells) ++ packed_items packed_cell (take low before.situation.cells))
    ++ packed_items packed_cell (between low high n.situation.cells))
    ++ (packed_items packed_cell (drop high before.situation.cells) ++ behind_stages before) ≡ key_of_node n
put_together low high before n order d =
    let cells = n.situation.cells in
    let items : packed_items packed_cell (take low cells) ++ (packed_items packed_cell (between low high cells) ++ packed_items packed_cell (drop high cells))
    ≡ packed_items packed_cell cells
    = sym (ap (packed_items packed_cell) (split_between cells low high order) ∙ items_append (take low cells) (between low high cells ++ drop high cells)
    ∙ ap (λ (l : List ℕ). packed_items packed_cell (take low cells) ++ l) (items_append (between low high cells) (drop high cells))) in
    rw (← d.as_many, ← d.lower, ← d.upper, ← same_behind low high before n d)
    (joined_again (packed_long (length cells)) (packed_items packed_cell (take low cells)) (packed_items packed_cell (between low high cells))
    (packed_items packed_cell (drop high cells)) (behind_stages n)
    ∙ ap (λ (l : List ℕ). packed_long (length cells) ++ (l ++ behind_stages n)) items ∙ sym (key_split n))

-- where stages are, noted one after another
pub no_left : (bs : List ℕ) (count : ℕ) (left : List ℕ) (lefts : List ℕ) → count ≡ (unpacked_long bs).value → left ≡ (unpacked_long bs).left →
    lefts ≡ length left ∷ [] → lefts ++ lefts_from (count - 0) left ≡ lefts_of bs
unfolding lefts_of
no_left bs count left lefts c l one =
    let e : count - 0 ≡ count = omega arith in
    rw (e, one, c, l) refl

pub one_left : (count i : ℕ) (bs left lefts lefts' whole : List ℕ) → i < count → left ≡ (unpacked_cell bs).left → lefts' ≡ lefts ++ (length left ∷ []) →
    lefts ++ lefts_from (count - i) bs ≡ whole → lefts' ++ lefts_from (count - (i + 1)) left ≡ whole
unfolding lefts_from
one_left count i bs left lefts lefts' whole h l e so_far =
    let one : count - i ≡ suc (count - (i + 1)) = omega arith in
    let before = rw one at so_far in
    rw (e, l, append_assoc) before

pub all_left : (count i : ℕ) (bs lefts whole : List ℕ) → count ≤ i → lefts ++ lefts_from (count - i) bs ≡ whole → lefts ≡ whole
unfolding lefts_from
all_left count i bs lefts whole h so_far =
    let none : count - i ≡ 0 = omega arith in
    let before = rw none at so_far in
    sym (append-nil lefts) ∙ before

-- all stages are read
pub all_taken : (cells : List Cell) (i count : ℕ) → length cells ≡ count → count ≤ i → take i cells ≡ cells
all_taken cells i count e h = taken_all cells i (omega (arith, e, h))

-- and are the stages of the list that was passed by reference
pub written_back : (n : ℕ) (cells items : List Cell) → length cells ≡ n → take n (cells ++ drop (length cells) items) ≡ cells
written_back n cells items e = take_at cells (drop (length cells) items) n e

-- the positions of stages that are in the key
module _ (before n : Node) (key lefts : List ℕ) (low high : ℕ) (is : key ≡ key_of_node before) (there : lefts ≡ lefts_of key) (order : low ≤ high)
    (inside : high ≤ length n.situation.cells) (d : DiffersWithin low high before n) where
  high_there : high ≤ length before.situation.cells
  high_there = subst (λ k. high ≤ k) d.as_many inside

  low_there : low ≤ length before.situation.cells
  low_there = omega (arith, order, high_there)

  pub high_noted : high < length lefts
  high_noted = omega (arith, high_there, lefts_size before key lefts is there)

  pub low_noted : low < length lefts
  low_noted = omega (arith, low_there, lefts_size before key lefts is there)

  pub low_fits : slice_index lefts low ≤ length key
  low_fits = left_fits before key lefts is there low low_there

  pub high_fits : slice_index lefts high ≤ length key
  high_fits = left_fits before key lefts is there high high_there

  pub whole_key : ((take (length key - slice_index lefts low) key ++ packed_items packed_cell (between low high n.situation.cells))
      ++ drop (length key - slice_index lefts high) key) ≡ key_of_node n
  whole_key = rw (front_is before key lefts is there low low_there, back_is before key lefts is there high high_there)
      (put_together low high before n order d)
