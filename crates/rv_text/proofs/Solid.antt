-- Splitting a text returns the name and the operands that it was built from.
use Rattle.std.proofs.Common.{◌≡◌, ℕ, ◌+◌, ◌-◌, ◌<◌, Bool, true, false, List, [], ◌∷◌, ◌++◌, length, get_or, drop, refl, ◌∙◌, ap, arith, suc, zero, All, length-append}
use Rattle.std.specs.Prelude.{not, nat_lt, ◌&&◌, slice_index_or}
use Rattle.std.specs.List.{list_all, prefix_len, suffix_len, position_or_len, slice_split, before_first}
use Rattle.std.proofs.Math.ListN.{get_or-append}
use Rattle.std.proofs.Math.Seq.{drop-append_seam, take-append_seam, take-length, get_or-append_seam}
use Rattle.std.proofs.lemmas.List.{get_or-append-add, drop_all, append-nil}
use Rattle.std.proofs.lemmas.List.Sums.{prefix_len_is, suffix_len_is, position_or_len_is, AllPass-from_list_all}
use Rattle.std.proofs.lemmas.List.Splits.{slice_split_none, slice_split_at}
use Rattle.std.proofs.lemmas.Bool.Decides.{nat_tests}
use Rattle.std.proofs.lemmas.Grind.{common_steps}
use Rattle.rv_text.specs.Pieces.{is_blank, is_comma, without_front, without_end, trimmed, name_part, operand_part, pieces, operand_count, operand_at}

-- a byte that an operand may have: above the space, and not a comma
abbrev pub is_solid : ℕ → Bool
is_solid byte = nat_lt 32 byte && not (is_comma byte)

-- a nonempty text of such bytes
pub record IsSolid (text : List ℕ) : Type 0 where
  pub some : 0 < length text
  pub bytes : list_all is_solid text ≡ true

-- a text that neither begins nor ends with a blank
pub record IsBare (text : List ℕ) : Type 0 where
  pub some : 0 < length text
  pub first : is_blank (get_or text 0 0) ≡ false
  pub last : is_blank (get_or text (length text - 1) 0) ≡ false

solid_byte : (byte : ℕ) → is_solid byte ≡ true → is_blank byte ≡ false
solid_byte byte h = grind (arith, nat_tests)

solid_no_comma : (byte : ℕ) → is_solid byte ≡ true → is_comma byte ≡ false
solid_no_comma byte h = grind (arith, nat_tests)

-- in a text whose bytes all pass, the byte at each index passes
passes_at : (p : ℕ → Bool) (text : List ℕ) (k d : ℕ) → list_all p text ≡ true → k < length text → p (get_or text k d) ≡ true
passes_at p text k d all inside = grind (arith, common_steps, AllPass-from_list_all p text all)

pub IsBare-from_solid : (text : List ℕ) → IsSolid text → IsBare text
IsBare-from_solid text h = record {
  some = h.some;
  first = solid_byte (get_or text 0 0) (passes_at is_solid text 0 0 h.bytes h.some);
  last = solid_byte (get_or text (length text - 1) 0) (passes_at is_solid text (length text - 1) 0 h.bytes (let some = h.some in omega arith));
}

without_front-bare : (text : List ℕ) → IsBare text → without_front text ≡ text
unfolding without_front
without_front-bare text h =
    let none : prefix_len is_blank text ≡ 0 = prefix_len_is is_blank text 0 0 (omega arith) (λ k low. absurd (omega arith)) (λ _. h.first) in
    rw none refl

without_end-bare : (text : List ℕ) → IsBare text → without_end text ≡ text
unfolding without_end
without_end-bare text h =
    let none : suffix_len is_blank text ≡ length text - length text =
    suffix_len_is is_blank text (length text) 0 (omega arith) (λ k low high. absurd (omega arith)) (λ _. h.last) in
    let whole : length text - suffix_len is_blank text ≡ length text = omega arith in
    rw whole (take-length text)

pub trimmed-bare : (text : List ℕ) → IsBare text → trimmed text ≡ text
unfolding trimmed
trimmed-bare text h = ap without_end (without_front-bare text h) ∙ without_end-bare text h

-- the leading blank is dropped
pub trimmed-blank : (text : List ℕ) → IsBare text → trimmed (32 ∷ text) ≡ text
unfolding trimmed without_front
trimmed-blank text h =
    let none : prefix_len is_blank text ≡ 0 = prefix_len_is is_blank text 0 0 (omega arith) (λ k low. absurd (omega arith)) (λ _. h.first) in
    rw none (without_end-bare text h)

pub trimmed-solid : (text : List ℕ) → IsSolid text → trimmed text ≡ text
trimmed-solid text h = trimmed-bare text (IsBare-from_solid text h)

-- a text that begins with no blank
pub record Begins (text : List ℕ) : Type 0 where
  pub some : 0 < length text
  pub first : is_blank (get_or text 0 0) ≡ false

-- a text that ends with no blank
pub record Ends (text : List ℕ) : Type 0 where
  pub some : 0 < length text
  pub last : is_blank (get_or text (length text - 1) 0) ≡ false

pub Begins-solid : (text : List ℕ) → IsSolid text → Begins text
Begins-solid text h = let bare = IsBare-from_solid text h in record { some = bare.some; first = bare.first }

pub Ends-solid : (text : List ℕ) → IsSolid text → Ends text
Ends-solid text h = let bare = IsBare-from_solid text h in record { some = bare.some; last = bare.last }

pub Begins-append : (front back : List ℕ) → Begins front → Begins (front ++ back)
Begins-append front back h =
    let some : 0 < length front = h.some in
    record {
      some = omega (arith, length-append front back);
      first = rw (get_or-append front back 0 0 some) h.first;
    }

pub Ends-append : (front back : List ℕ) → Ends back → Ends (front ++ back)
Ends-append front back h =
    let some : 0 < length back = h.some in
    let at : length (front ++ back) - 1 ≡ length front + (length back - 1) = omega (arith, length-append front back) in
    record {
      some = omega (arith, length-append front back);
      last = rw (at, get_or-append-add front back (length back - 1) 0) h.last;
    }

pub Ends-cons : (byte : ℕ) (back : List ℕ) → Ends back → Ends (byte ∷ back)
Ends-cons byte back h = Ends-append (byte ∷ []) back h

pub IsBare-of : (text : List ℕ) → Begins text → Ends text → IsBare text
IsBare-of text b e = record { some = b.some; first = b.first; last = e.last }

-- the first index that passes, if nothing before it passes
pub position_at_seam : (p : ℕ → Bool) (front : List ℕ) (y : ℕ) (back : List ℕ)
    → ((k : ℕ) → k < length front → p (get_or front k 0) ≡ false) → p y ≡ true
    → position_or_len p (front ++ y ∷ back) ≡ length front
position_at_seam p front y back none here =
    position_or_len_is p (front ++ y ∷ back) (length front) 0
    (omega (arith, length-append front (y ∷ back)))
    (λ k low. rw (get_or-append front (y ∷ back) 0 k low) (none k low))
    (λ _. rw (get_or-append_seam front y back 0) here)

pub position_past : (p : ℕ → Bool) (front : List ℕ) → ((k : ℕ) → k < length front → p (get_or front k 0) ≡ false)
    → position_or_len p front ≡ length front
position_past p front none =
    position_or_len_is p front (length front) 0 (omega arith) none (λ h. absurd (omega arith))

no_blanks : (text : List ℕ) → IsSolid text → (k : ℕ) → k < length text → is_blank (get_or text k 0) ≡ false
no_blanks text h k low = solid_byte (get_or text k 0) (passes_at is_solid text k 0 h.bytes low)

no_commas : (text : List ℕ) → IsSolid text → All (λ byte. is_comma byte ≡ false) (32 ∷ text)
no_commas text h zero d low = refl
no_commas text h (suc k) d low = solid_no_comma (get_or text k d) (passes_at is_solid text k d h.bytes (omega arith))

-- the name, and what follows it
pub record IsCut (text name after : List ℕ) : Type 0 where
  pub name_is : name_part text ≡ name
  pub after_is : operand_part text ≡ after

pub cut_alone : (name : List ℕ) → IsSolid name → IsCut (name ++ []) name []
unfolding name_part operand_part
cut_alone name h =
    let bare = IsBare-from_solid name h in
    let same : trimmed name ≡ name = trimmed-bare name bare in
    let at : position_or_len is_blank name ≡ length name = position_past is_blank name (no_blanks name h) in
    let front : before_first is_blank name ≡ name = rw at (take-length name) in
    let ended : drop (length name) name ≡ [] = drop_all (length name) name (omega arith) in
    rw append-nil (record {
      name_is = rw same front;
      after_is = rw (same, front) ended;
    })

pub cut_before : (name rest : List ℕ) → IsSolid name → Ends rest → IsCut (name ++ 32 ∷ rest) name (32 ∷ rest)
unfolding name_part operand_part
cut_before name rest h e =
    let text : List ℕ = name ++ 32 ∷ rest in
    let same : trimmed (name ++ 32 ∷ rest) ≡ name ++ 32 ∷ rest =
    trimmed-bare (name ++ 32 ∷ rest) (IsBare-of (name ++ 32 ∷ rest)
    (Begins-append name (32 ∷ rest) (Begins-solid name h)) (Ends-append name (32 ∷ rest) (Ends-cons 32 rest e))) in
    let at : position_or_len is_blank (name ++ 32 ∷ rest) ≡ length name = position_at_seam is_blank name 32 rest (no_blanks name h) refl in
    let front : before_first is_blank (name ++ 32 ∷ rest) ≡ name = rw at (take-append_seam name (32 ∷ rest)) in
    record {
      name_is = rw same front;
      after_is = rw (same, front) (drop-append_seam name (32 ∷ rest));
    }

-- two operands
pub record AreTwo (text first second : List ℕ) : Type 0 where
  pub count : operand_count text ≡ 2
  pub first_is : operand_at text 0 ≡ first
  pub second_is : operand_at text 1 ≡ second

-- three operands
pub record AreThree (text first second third : List ℕ) : Type 0 where
  pub count : operand_count text ≡ 3
  pub first_is : operand_at text 0 ≡ first
  pub second_is : operand_at text 1 ≡ second
  pub third_is : operand_at text 2 ≡ third

pub counts : (rest : List ℕ) → IsBare rest → operand_count (32 ∷ rest) ≡ length (pieces (32 ∷ rest))
unfolding operand_count
counts rest h =
    let same = trimmed-blank rest h in
    let some = h.some in
    rw same (grind (arith, nat_tests))

pub two_pieces : (x y : List ℕ) → IsSolid x → IsSolid y
    → pieces (32 ∷ (x ++ 44 ∷ 32 ∷ (y ++ []))) ≡ (32 ∷ x) ∷ (32 ∷ y) ∷ []
two_pieces x y hx hy =
    slice_split_at is_comma (32 ∷ x) 44 (32 ∷ (y ++ [])) (no_commas x hx) refl
    ∙ ap (λ rest. (32 ∷ x) ∷ slice_split is_comma (32 ∷ rest)) (append-nil y)
    ∙ ap (λ rest. (32 ∷ x) ∷ rest) (slice_split_none is_comma (32 ∷ y) (no_commas y hy))

pub three_pieces : (x y z : List ℕ) → IsSolid x → IsSolid y → IsSolid z
    → pieces (32 ∷ (x ++ 44 ∷ 32 ∷ (y ++ 44 ∷ 32 ∷ (z ++ [])))) ≡ (32 ∷ x) ∷ (32 ∷ y) ∷ (32 ∷ z) ∷ []
three_pieces x y z hx hy hz =
    slice_split_at is_comma (32 ∷ x) 44 (32 ∷ (y ++ 44 ∷ 32 ∷ (z ++ []))) (no_commas x hx) refl
    ∙ ap (λ rest. (32 ∷ x) ∷ rest) (two_pieces y z hy hz)

two_rest : (x y : List ℕ) → IsSolid x → IsSolid y → IsBare (x ++ 44 ∷ 32 ∷ (y ++ []))
two_rest x y hx hy =
    let end : Ends (y ++ []) = rw append-nil (Ends-solid y hy) in
    IsBare-of _ (Begins-append x (44 ∷ 32 ∷ (y ++ [])) (Begins-solid x hx))
    (Ends-append x (44 ∷ 32 ∷ (y ++ [])) (Ends-cons 44 (32 ∷ (y ++ [])) (Ends-cons 32 (y ++ []) end)))

three_rest : (x y z : List ℕ) → IsSolid x → IsSolid y → IsSolid z → IsBare (x ++ 44 ∷ 32 ∷ (y ++ 44 ∷ 32 ∷ (z ++ [])))
three_rest x y z hx hy hz =
    let rest : List ℕ = y ++ 44 ∷ 32 ∷ (z ++ []) in
    let bare = two_rest y z hy hz in
    let end : Ends (y ++ 44 ∷ 32 ∷ (z ++ [])) = record { some = bare.some; last = bare.last } in
    IsBare-of _ (Begins-append x (44 ∷ 32 ∷ (y ++ 44 ∷ 32 ∷ (z ++ []))) (Begins-solid x hx))
    (Ends-append x (44 ∷ 32 ∷ (y ++ 44 ∷ 32 ∷ (z ++ []))) (Ends-cons 44 (32 ∷ (y ++ 44 ∷ 32 ∷ (z ++ []))) (Ends-cons 32 (y ++ 44 ∷ 32 ∷ (z ++ [])) end)))

at_piece : (text : List ℕ) (parts : List (List ℕ)) (k : ℕ) (x : List ℕ) → pieces text ≡ parts → slice_index_or parts k [] ≡ 32 ∷ x → IsSolid x →
    operand_at text k ≡ x
unfolding operand_at
at_piece text parts k x e at h =
    ap (λ l. trimmed (slice_index_or l k [])) e ∙ ap trimmed at ∙ trimmed-blank x (IsBare-from_solid x h)

pub two_operands : (x y : List ℕ) → IsSolid x → IsSolid y → AreTwo (32 ∷ (x ++ 44 ∷ 32 ∷ (y ++ []))) x y
two_operands x y hx hy =
    let e = two_pieces x y hx hy in
    record {
      count = counts (x ++ 44 ∷ 32 ∷ (y ++ [])) (two_rest x y hx hy) ∙ ap length e;
      first_is = at_piece _ _ 0 x e refl hx;
      second_is = at_piece _ _ 1 y e refl hy;
    }

pub three_operands : (x y z : List ℕ) → IsSolid x → IsSolid y → IsSolid z
    → AreThree (32 ∷ (x ++ 44 ∷ 32 ∷ (y ++ 44 ∷ 32 ∷ (z ++ [])))) x y z
three_operands x y z hx hy hz =
    let e = three_pieces x y z hx hy hz in
    record {
      count = counts (x ++ 44 ∷ 32 ∷ (y ++ 44 ∷ 32 ∷ (z ++ []))) (three_rest x y z hx hy hz) ∙ ap length e;
      first_is = at_piece _ _ 0 x e refl hx;
      second_is = at_piece _ _ 1 y e refl hy;
      third_is = at_piece _ _ 2 z e refl hz;
    }

pub no_operands : operand_count [] ≡ 0
unfolding operand_count trimmed without_front without_end
no_operands = refl

pub two_end : (x y : List ℕ) → IsSolid x → IsSolid y → Ends (x ++ 44 ∷ 32 ∷ (y ++ []))
two_end x y hx hy = let bare = two_rest x y hx hy in record { some = bare.some; last = bare.last }

pub three_end : (x y z : List ℕ) → IsSolid x → IsSolid y → IsSolid z → Ends (x ++ 44 ∷ 32 ∷ (y ++ 44 ∷ 32 ∷ (z ++ [])))
three_end x y z hx hy hz = let bare = three_rest x y z hx hy hz in record { some = bare.some; last = bare.last }
