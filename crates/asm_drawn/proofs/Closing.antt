-- The labels of a whole drawn program, and both passes through what follows its statements.
use Rattle.std.proofs.Common.{◌≡◌, ℕ, ◌+◌, ◌*◌, ◌%◌, ◌^◌, ◌<◌, ◌≤◌, true, false, List, [], ◌∷◌, ◌++◌, refl, sym, ◌∙◌, ap, subst, arith, suc, Some}
use Rattle.std.specs.Prelude.{None, codes, pos, negsuc}
use Rattle.rv_inst.specs.declared.instruction.Cond.TheVariants as cond
use Rattle.rv_inst.specs.declared.instruction.Instr.TheVariants as instr
use Rattle.rv_text.specs.declared.statement.Jump.TheVariants as jump
use Rattle.rv_text.specs.Reading.{aimed, distance_of, is_distance}
use Rattle.rv_asm.specs.declared.item.Far.TheVariants as far
use Rattle.rv_asm.specs.Items.{Nothing, Section}
use Rattle.rv_asm.specs.Labels.{LabelView, value_of_label}
use Rattle.rv_asm.specs.Places.{section_address, place_after, fits_at}
use Rattle.rv_asm.specs.Pieces.{pieces_of}
use Rattle.cf_gen.specs.Statements.{label_text}
use Rattle.asm_drawn.proofs.Entries.{Entry}
use Rattle.asm_drawn.proofs.Values.{numbered_none, numbered_value, value_kept, value_later}
use Rattle.asm_drawn.proofs.Walks.{Values, Goes, goes_on, goes_end}
use Rattle.asm_drawn.proofs.Blocks.{text_at, fits_text, after_nothing, has_nothing, has_single, has_distant, has_near, distance_ahead, distance_behind, AllHavePieces, block_goes}
use Rattle.asm_drawn.proofs.Fixed.{gathering, hex_line, converting, digit_line, writing, data_line, buf_line, space_line, digits_line, ascii_line, hex_line_is, digit_line_is, data_line_is, buf_line_is, space_line_is, digits_line_is, ascii_line_is}
use Rattle.asm_drawn.proofs.Codes.{gathering_code, converting_code, writing_code}
use Rattle.asm_drawn.proofs.Goings.{labels_before, fresh_label, HasNumbers}

-- the labels after the statements, which end c bytes after the start of the text
abbrev pub with_hex : List LabelView → ℕ → List LabelView
with_hex labels c = labels ++ record { name = codes "hex"; value = 0x10000 + (c + 40); in_text = true; global = false } ∷ []

abbrev pub with_digit : List LabelView → ℕ → List LabelView
with_digit labels c = with_hex labels c ++ record { name = codes "digit"; value = 0x10000 + (c + 64); in_text = true; global = false } ∷ []

abbrev pub with_buf : List LabelView → ℕ → List LabelView
with_buf labels c = with_digit labels c ++ record { name = codes "buf"; value = 0x200000; in_text = false; global = false } ∷ []

abbrev pub with_text : List LabelView → ℕ → List LabelView
with_text labels c = with_buf labels c ++ record { name = codes "text"; value = 0x200100; in_text = false; global = false } ∷ []

-- the four names are new
pub record AreNew (labels : List LabelView) : Type 0 where
  pub hex : value_of_label labels (codes "hex") ≡ None
  pub digit : value_of_label labels (codes "digit") ≡ None
  pub buf : value_of_label labels (codes "buf") ≡ None
  pub text : value_of_label labels (codes "text") ≡ None

pub are_new : (b k : ℕ) → AreNew (labels_before b k)
unfolding value_of_label
are_new b k = record {
  hex = numbered_none b k (codes "hex") (λ i low some. refl);
  digit = numbered_none b k (codes "digit") (λ i low some. refl);
  buf = numbered_none b k (codes "buf") (λ i low some. refl);
  text = numbered_none b k (codes "text") (λ i low some. refl);
}

-- and each is new when it is defined
digit_new : (labels : List LabelView) (c : ℕ) → AreNew labels → value_of_label (with_hex labels c) (codes "digit") ≡ None
unfolding value_of_label
digit_new labels c h = value_later labels _ (codes "digit") h.digit

buf_new : (labels : List LabelView) (c : ℕ) → AreNew labels → value_of_label (with_digit labels c) (codes "buf") ≡ None
unfolding value_of_label
buf_new labels c h = value_later (with_hex labels c) _ (codes "buf") (value_later labels _ (codes "buf") h.buf)

text_new : (labels : List LabelView) (c : ℕ) → AreNew labels → value_of_label (with_buf labels c) (codes "text") ≡ None
unfolding value_of_label
text_new labels c h =
    value_later (with_digit labels c) _ (codes "text") (value_later (with_hex labels c) _ (codes "text") (value_later labels _ (codes "text") h.text))

-- the values of all labels
pub record HasLabels (values : Values) (c : ℕ) : Type 0 where
  pub hex : values (codes "hex") ≡ Some (0x10000 + (c + 40))
  pub digit : values (codes "digit") ≡ Some (0x10000 + (c + 64))
  pub buf : values (codes "buf") ≡ Some 0x200000
  pub text : values (codes "text") ≡ Some 0x200100

kept_hex : (labels : List LabelView) (c : ℕ) (name : List ℕ) (v : ℕ) → value_of_label (with_hex labels c) name ≡ Some v
    → value_of_label (with_text labels c) name ≡ Some v
kept_hex labels c name v h =
    value_kept (with_buf labels c) _ name v (value_kept (with_digit labels c) _ name v (value_kept (with_hex labels c) _ name v h))

kept_digit : (labels : List LabelView) (c : ℕ) (name : List ℕ) (v : ℕ) → value_of_label (with_digit labels c) name ≡ Some v
    → value_of_label (with_text labels c) name ≡ Some v
kept_digit labels c name v h = value_kept (with_buf labels c) _ name v (value_kept (with_digit labels c) _ name v h)

pub has_labels : (labels : List LabelView) (c : ℕ) → AreNew labels → HasLabels (value_of_label (with_text labels c)) c
unfolding value_of_label
has_labels labels c h = record {
  hex = kept_hex labels c (codes "hex") (0x10000 + (c + 40)) (value_later labels _ (codes "hex") h.hex);
  digit = kept_digit labels c (codes "digit") (0x10000 + (c + 64)) (value_later (with_hex labels c) _ (codes "digit") (digit_new labels c h));
  buf = value_kept (with_buf labels c) _ (codes "buf") 0x200000 (value_later (with_digit labels c) _ (codes "buf") (buf_new labels c h));
  text = value_later (with_buf labels c) _ (codes "text") (text_new labels c h);
}

pub has_numbers : (b number c : ℕ) → number < 2 ^ 20 → HasNumbers (value_of_label (with_text (labels_before b (suc number)) c)) b number
unfolding value_of_label
has_numbers b number c small k low =
    kept_hex (labels_before b (suc number)) c (label_text (suc k)) (0x10000 + (b + 4 * k))
    (value_kept (labels_before b (suc number)) _ (label_text (suc k)) (0x10000 + (b + 4 * k))
    (numbered_value b (suc number) k (omega arith) (omega arith)))

-- the data
data_goes : (labels : List LabelView) (c t : ℕ) → AreNew labels → t % 4 ≡ 0 → t ≤ 1048576
    → Goes (value_of_label (with_text labels c)) (with_text labels c) (data_line ∷ buf_line ∷ space_line ∷ digits_line ∷ ascii_line ∷ [])
    (text_at t) (with_digit labels c)
unfolding place_after fits_at section_address pieces_of
data_goes labels c t new even small =
    goes_on _ _ data_line _ (text_at t) (with_digit labels c) (with_digit labels c) data_line_is refl (fits_text t (Section false) even (omega arith))
    (record { pieces = []; placed = λ others same. refl })
    (goes_on _ _ buf_line _ (record { in_text = false; text_len = t; data_len = 0 }) (with_digit labels c) (with_buf labels c) buf_line_is
    (fresh_label (with_digit labels c) (record { in_text = false; text_len = t; data_len = 0 }) (codes "buf") (buf_new labels c new)) refl (has_nothing _ _)
    (goes_on _ _ space_line _ (record { in_text = false; text_len = t; data_len = 0 }) (with_buf labels c) (with_buf labels c) space_line_is refl refl
    (record { pieces = _; placed = λ others same. refl })
    (goes_on _ _ digits_line _ (record { in_text = false; text_len = t; data_len = 256 }) (with_buf labels c) (with_text labels c) digits_line_is
    (fresh_label (with_buf labels c) (record { in_text = false; text_len = t; data_len = 256 }) (codes "text") (text_new labels c new)) refl (has_nothing _ _)
    (goes_on _ _ ascii_line [] (record { in_text = false; text_len = t; data_len = 256 }) (with_text labels c) (with_text labels c) ascii_line_is refl refl
    (record { pieces = _; placed = λ others same. refl })
    (goes_end _ (with_text labels c) _)))))

-- the code that writes
writing_pieces : (values : Values) (c : ℕ) → HasLabels values c → c < 2 ^ 20 → AllHavePieces values (c + 64) writing
unfolding aimed is_distance
writing_pieces values c h small =
    let behind : 0x10000 + (c + 64 + 4 + 4 + 4) ≡ 0x10000 + (c + 40) + suc 35 = omega arith in
    let distance : distance_of (pos (0x10000 + (c + 40))) (0x10000 + (c + 64 + 4 + 4 + 4)) ≡ negsuc 35 =
    ap (distance_of (pos (0x10000 + (c + 40)))) behind ∙ distance_behind (0x10000 + (c + 40)) 35 (omega arith) (omega arith) in (
      has_single values _ _,
      (
        has_single values _ _,
        (
          has_single values _ _,
          (
            has_near values (0x10000 + (c + 64 + 4 + 4 + 4)) (jump.Branch cond.Ne 18 0) (codes "hex") (0x10000 + (c + 40))
                (instr.Branch cond.Ne 18 0 (negsuc 35)) h.hex
                (ap (aimed (jump.Branch cond.Ne 18 0)) distance),
            (
              has_single values _ _,
              (
                has_distant values _ (far.Address 11) (codes "text") 0x200100 h.text,
                (
                  has_single values _ _,
                  (
                    has_single values _ _,
                    (has_single values _ _, (has_single values _ _, (has_single values _ _, (has_single values _ _, tt)))),
                  ),
                ),
              ),
            ),
          ),
        ),
      ),
    )

converting_pieces : (values : Values) (c : ℕ) → HasLabels values c → c < 2 ^ 20 → AllHavePieces values (c + 40) converting
unfolding aimed is_distance
converting_pieces values c h small =
    let ahead : 0x10000 + (c + 64) ≡ 0x10000 + (c + 40 + 4 + 4 + 4 + 4) + 8 = omega arith in
    let distance : distance_of (pos (0x10000 + (c + 64))) (0x10000 + (c + 40 + 4 + 4 + 4 + 4)) ≡ pos 8 =
    ap (λ (v : ℕ). distance_of (pos v) (0x10000 + (c + 40 + 4 + 4 + 4 + 4))) ahead
    ∙ distance_ahead (0x10000 + (c + 40 + 4 + 4 + 4 + 4)) 8 (omega arith) (omega arith) in (
      has_single values _ _,
      (
        has_single values _ _,
        (
          has_single values _ _,
          (
            has_single values _ _,
            (
              has_near values (0x10000 + (c + 40 + 4 + 4 + 4 + 4)) (jump.Branch cond.Lt 19 20) (codes "digit") (0x10000 + (c + 64))
                  (instr.Branch cond.Lt 19 20 (pos 8)) h.digit
                  (ap (aimed (jump.Branch cond.Lt 19 20)) distance),
              (has_single values _ _, tt),
            ),
          ),
        ),
      ),
    )

gathering_pieces : (values : Values) (c : ℕ) → HasLabels values c → AllHavePieces values c gathering
gathering_pieces values c h = (
  has_single values _ _,
  (
    has_single values _ _,
    (
      has_single values _ _,
      (
        has_single values _ _,
        (
          has_single values _ _,
          (
            has_single values _ _,
            (has_single values _ _, (has_distant values _ (far.Address 16) (codes "text") 0x200100 h.text, (has_single values _ _, tt))),
          ),
        ),
      ),
    ),
  ),
)

moved : (values : Values) (final : List LabelView) (rest : List Entry) (labels : List LabelView) (t k : ℕ) → t ≡ k
    → Goes values final rest (text_at k) labels → Goes values final rest (text_at t) labels
moved values final rest labels t k e h = subst (λ (n : ℕ). Goes values final rest (text_at n) labels) (sym e) h

-- what follows the statements and the last label
pub ending_goes : (labels : List LabelView) (c : ℕ) → AreNew labels → c % 4 ≡ 0 → c < 2 ^ 19
    → Goes (value_of_label (with_text labels c)) (with_text labels c)
    (gathering ++ hex_line ∷ converting ++ digit_line ∷ writing ++ data_line ∷ buf_line ∷ space_line ∷ digits_line ∷ ascii_line ∷ [])
    (text_at c) labels
unfolding section_address
ending_goes labels c new even small =
    let has = has_labels labels c new in
    let last = data_goes labels c (c + 116) new (omega arith) (omega arith) in
    let wrote = block_goes _ _ writing _ (c + 64) (with_digit labels c) writing_code (omega arith) (omega arith)
    (writing_pieces _ c has (omega arith)) (moved _ _ _ _ _ (c + 116) (omega arith) last) in
    let at_digit = goes_on _ _ digit_line _ (text_at (c + 64)) (with_hex labels c) (with_digit labels c) digit_line_is
    (fresh_label (with_hex labels c) (text_at (c + 64)) (codes "digit") (digit_new labels c new))
    (fits_text (c + 64) Nothing (omega arith) (omega arith)) (has_nothing _ _)
    (rw (after_nothing (c + 64)) wrote) in
    let converted = block_goes _ _ converting _ (c + 40) (with_hex labels c) converting_code (omega arith) (omega arith)
    (converting_pieces _ c has (omega arith)) (moved _ _ _ _ _ (c + 64) (omega arith) at_digit) in
    let at_hex = goes_on _ _ hex_line _ (text_at (c + 40)) labels (with_hex labels c) hex_line_is
    (fresh_label labels (text_at (c + 40)) (codes "hex") new.hex) (fits_text (c + 40) Nothing (omega arith) (omega arith)) (has_nothing _ _)
    (rw (after_nothing (c + 40)) converted) in
    block_goes _ _ gathering _ c labels gathering_code even (omega arith) (gathering_pieces _ c has) (moved _ _ _ _ _ (c + 40) (omega arith) at_hex)
