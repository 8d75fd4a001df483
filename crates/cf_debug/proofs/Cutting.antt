-- The bytes of the commands are cut into lines, a byte at a time.
use Rattle.std.proofs.Common.{◌≡◌, ◌≢◌, ℕ, zero, suc, ◌+◌, ◌-◌, ◌<◌, ◌≤◌, List, [], ◌∷◌, ◌++◌, All, length, map, take, drop, Option, Some, None, Bool, true, false, Ok, Err, min, refl, sym, ap, subst, ◌∙◌, append-nil, append_assoc, arith}
use Rattle.std.specs.Prelude.{◌⊎◌, ◌==◌, nat_lt, nat_eq, if◌then◌else◌}
use Rattle.std.specs.List.{ends_with}
use Rattle.std.proofs.lemmas.Bool.Decides.{nat_tests}
use Rattle.std.proofs.lemmas.List.{length-append, length-drop, length-take, length-take-le, map-append, take_all, take-append-drop, take-append-le}
use Rattle.std.proofs.lemmas.List.Elements.{All-append}
use Rattle.cf_io.specs.Takes.{GivesFront, IsAtEnd, Takes}
use Rattle.rv_machine.specs.Streams.{GivesInput}
use Rattle.rv_text.specs.Lines.{without_return}
use Rattle.cf_debug.specs.declared.command.Refusal.TheVariants.{TooLong}
use Rattle.cf_debug.specs.Commands.{command_in}
use Rattle.cf_debug.specs.declared.feed.Next.TheVariants.{Byte, AtEnd, TooMany, Fault}
use Rattle.cf_debug.specs.Cutting.{Feeding, Feeds, HasLines, IsPiece, held_line, joined}
use Rattle.cf_debug.specs.Limits.{most_taken}

-- Lines --

joined_byte : (pieces : List (List ℕ)) (line : List ℕ) (byte : ℕ) → joined pieces (line ++ byte ∷ []) ≡ joined pieces line ++ byte ∷ []
unfolding joined
joined_byte [] line byte = refl
joined_byte (piece ∷ pieces) line byte = ap (λ (rest : List ℕ). piece ++ 10 ∷ rest) (joined_byte pieces line byte)
    ∙ sym (append_assoc piece (10 ∷ joined pieces line) (byte ∷ []))

joined_end : (pieces : List (List ℕ)) (line : List ℕ) → joined (pieces ++ line ∷ []) [] ≡ joined pieces line ++ 10 ∷ []
unfolding joined
joined_end [] line = refl
joined_end (piece ∷ pieces) line = ap (λ (rest : List ℕ). piece ++ 10 ∷ rest) (joined_end pieces line)
    ∙ sym (append_assoc piece (10 ∷ joined pieces line) (10 ∷ []))

no_pieces : {X : Type 0} (P : X → Type 0) → All P []
no_pieces P i x low = absurd (omega (arith, low))

alone : {X : Type 0} (P : X → Type 0) (x : X) → P x → All P (x ∷ [])
alone P x h zero y low = h
alone P x h (suc i) y low = absurd (omega (arith, low))

-- no byte has been taken yet
pub has-none : HasLines [] [] []
unfolding joined
has-none = record { pieces = []; are_pieces = no_pieces IsPiece; is_piece = no_pieces (λ (byte : ℕ). byte ≢ 10); bytes_are = refl; lines_are = refl }

-- one more byte of the unfinished line
pub has-byte : (bytes : List ℕ) (lines : List (List ℕ)) (line : List ℕ) (byte : ℕ) → HasLines bytes lines line → byte ≢ 10 →
    HasLines (bytes ++ byte ∷ []) lines (line ++ byte ∷ [])
has-byte bytes lines line byte h other = record {
  pieces = h.pieces;
  are_pieces = h.are_pieces;
  is_piece = All-append (λ (b : ℕ). b ≢ 10) line (byte ∷ []) h.is_piece (alone (λ (b : ℕ). b ≢ 10) byte other);
  bytes_are = ap (λ (b : List ℕ). b ++ byte ∷ []) h.bytes_are ∙ sym (joined_byte h.pieces line byte);
  lines_are = h.lines_are;
}

-- or the line is ended
pub has-end : (bytes : List ℕ) (lines : List (List ℕ)) (line : List ℕ) → HasLines bytes lines line →
    HasLines (bytes ++ 10 ∷ []) (lines ++ without_return line ∷ []) []
has-end bytes lines line h = record {
  pieces = h.pieces ++ line ∷ [];
  are_pieces = All-append IsPiece h.pieces (line ∷ []) h.are_pieces (alone IsPiece line h.is_piece);
  is_piece = no_pieces (λ (byte : ℕ). byte ≢ 10);
  bytes_are = ap (λ (b : List ℕ). b ++ 10 ∷ []) h.bytes_are ∙ sym (joined_end h.pieces line);
  lines_are = ap (λ (ls : List (List ℕ)). ls ++ without_return line ∷ []) h.lines_are ∙ sym (map-append without_return h.pieces (line ∷ []));
}

-- What is kept of a line --

-- one more byte
pub held-more : (line : List ℕ) (byte : ℕ) → held_line (held_line line ++ byte ∷ []) ≡ held_line (line ++ byte ∷ [])
held-more line byte = of (nat_lt 258 (length line)) refl
  where
    of : (b : Bool) → nat_lt 258 (length line) ≡ b → held_line (held_line line ++ byte ∷ []) ≡ held_line (line ++ byte ∷ [])
    of true long =
        let more : 258 < length line = grind (arith, nat_tests, long) in
        let full : length (held_line line) ≡ 258 = length-take-le 258 line (omega (arith, more)) in
        take-append-le 258 (held_line line) (byte ∷ []) (omega (arith, full)) ∙ take_all 258 (held_line line) (omega (arith, full))
        ∙ sym (take-append-le 258 line (byte ∷ []) (omega (arith, more)))
    of false short =
        let few : length line ≤ 258 = grind (arith, nat_tests, short) in
        ap (λ (front : List ℕ). held_line (front ++ byte ∷ [])) (take_all 258 line few)

-- a line that is too long
too_long : (line : List ℕ) → 256 < length line → command_in line ≡ Err TooLong
unfolding command_in
too_long line long = of (nat_lt 256 (length line)) refl
  where
    of : (b : Bool) → nat_lt 256 (length line) ≡ b → command_in line ≡ Err TooLong
    of true is = rw is refl
    of false is = absurd (grind (arith, nat_tests, is, long))

-- a carriage return is one byte
nearly : (line : List ℕ) → length line ≤ length (without_return line) + 1
unfolding without_return
nearly line = of (ends_with nat_eq line (13 ∷ []))
  where
    of : (b : Bool) → length line ≤ length (if b then take (length line - 1) line else line) + 1
    of true = omega (arith, length-take (length line - 1) line)
    of false = omega arith

-- what is kept of a line gives the same command, whether or not the line is ended
pub held-whole : (line : List ℕ) → command_in (without_return (held_line line)) ≡ command_in (without_return line)
held-whole line = of (nat_lt 258 (length line)) refl
  where
    of : (b : Bool) → nat_lt 258 (length line) ≡ b → command_in (without_return (held_line line)) ≡ command_in (without_return line)
    of true long =
        let more : 258 < length line = grind (arith, nat_tests, long) in
        let full : length (held_line line) ≡ 258 = length-take-le 258 line (omega (arith, more)) in
        too_long (without_return (held_line line)) (omega (arith, full, nearly (held_line line))) ∙ sym
        (too_long (without_return line) (omega (arith, more, nearly line)))
    of false short =
        let few : length line ≤ 258 = grind (arith, nat_tests, short) in
        ap (λ (front : List ℕ). command_in (without_return front)) (take_all 258 line few)

pub held-last : (line : List ℕ) → command_in (held_line line) ≡ command_in line
held-last line = of (nat_lt 258 (length line)) refl
  where
    of : (b : Bool) → nat_lt 258 (length line) ≡ b → command_in (held_line line) ≡ command_in line
    of true long =
        let more : 258 < length line = grind (arith, nat_tests, long) in
        let full : length (held_line line) ≡ 258 = length-take-le 258 line (omega (arith, more)) in
        too_long (held_line line) (omega (arith, full)) ∙ sym (too_long line (omega (arith, more)))
    of false short =
        let few : length line ≤ 258 = grind (arith, nat_tests, short) in
        ap command_in (take_all 258 line few)

-- if nothing is kept of a line, it is empty
pub held-none : (line : List ℕ) → held_line line ≡ [] → line ≡ []
held-none [] none = refl
held-none (byte ∷ line) none = absurd (omega (arith, ap length none, length-take 258 (byte ∷ line)))

pub held-some : (line : List ℕ) → 0 < length (held_line line) → 0 < length line
held-some line some = omega (arith, some, length-take 258 line)

-- What is taken --

pub gives-none : (told : Option (List ℕ)) → GivesInput told told []
gives-none None = tt
gives-none (Some told) = (told, refl, refl)

pub gives-again : (a b c : Option (List ℕ)) (x y : List ℕ) → GivesInput a b x → GivesInput b c y → GivesInput a c (x ++ y)
gives-again None b c x y h k = tt
gives-again (Some told) b c x y (rest, is, left) k =
    let P : Option (List ℕ) → Type 0 = λ o. GivesInput o c y in
    let more : GivesInput (Some rest) c y = subst P left k in
    (more.0, is ∙ ap (λ (r : List ℕ). x ++ r) more.1 ∙ sym (append_assoc x y more.0), more.2)

-- What is left of a piece --

empty : (xs : List ℕ) → length xs ≡ 0 → xs ≡ []
empty [] none = refl
empty (x ∷ xs) none = absurd (omega (arith, none))

pub nothing_after : (at end : ℕ) (piece : List ℕ) → at ≡ end → drop at (take end piece) ≡ []
nothing_after at end piece same = empty (drop at (take end piece)) (omega (arith, same, length-drop at (take end piece), length-take end piece))

pub something_after : (at end : ℕ) (piece : List ℕ) → at < end → end ≤ length piece → 0 < length (drop at (take end piece))
something_after at end piece low within = omega (arith, low, within, length-drop at (take end piece), length-take end piece)

pub few_after : (at end : ℕ) (piece : List ℕ) → end ≤ 4096 → length (drop (at + 1) (take end piece)) < 4096
few_after at end piece within = omega (arith, within, length-drop (at + 1) (take end piece), length-take end piece)

pub fits_more : (n : ℕ) (line : List ℕ) (byte : ℕ) → length line < n → take n (line ++ byte ∷ []) ≡ line ++ byte ∷ []
fits_more n line byte low = take_all n (line ++ byte ∷ []) (omega (arith, low, length-append line (byte ∷ [])))

pub full_before : (n : ℕ) (line : List ℕ) (byte : ℕ) → length line ≡ n → take n (line ++ byte ∷ []) ≡ line
full_before n line byte full = take-append-le n line (byte ∷ []) (omega (arith, full)) ∙ take_all n line (omega (arith, full))

-- What comes next --

-- a byte that was taken before
pub feeds-used : (told : Option (List ℕ)) (now new : Feeding) (byte : ℕ) → now.rest ≡ byte ∷ new.rest → new.left ≡ now.left → length new.rest < most_taken →
    new.ended ≡ now.ended → now.ended ≡ false → Feeds told told now new (Byte byte)
unfolding Feeds
feeds-used told now new byte is left few same going =
    ([], gives-none told, append-nil now.rest ∙ is, omega (arith, left), few, same ∙ going)

-- a take that gave some bytes is not the end
not_ended : (n : ℕ) (ended : Bool) → (n ≡ 0 → ⊥) → ended ≡ (n == 0) → ended ≡ false
not_ended n ended some is = grind (arith, nat_tests, some, is)

-- a take that gave none is the end
is_ended : (n : ℕ) (ended : Bool) → n ≡ 0 → ended ≡ (n == 0) → ended ≡ true
is_ended n ended none is = grind (arith, nat_tests, none, is)

-- the first byte of those that were just taken
pub feeds-taken : (before after : Option (List ℕ)) (now filled new : Feeding) (byte : ℕ) → now.rest ≡ [] → GivesInput before after filled.rest →
    filled.left + length filled.rest ≡ now.left → length filled.rest ≤ most_taken → filled.rest ≡ byte ∷ new.rest → new.left ≡ filled.left →
    (n : ℕ) → (n ≡ 0 → ⊥) → filled.ended ≡ (n == 0) → new.ended ≡ filled.ended → Feeds before after now new (Byte byte)
unfolding Feeds
feeds-taken before after now filled new byte none gives left few is still n some ended same = (
  filled.rest,
  gives,
  ap (λ (r : List ℕ). r ++ filled.rest) none ∙ is,
  omega (arith, left, still),
  omega (arith, few, ap length is),
  same ∙ not_ended n filled.ended some ended,
)

-- what is known after a take of the source alone
same_rest : (now new : Feeding) (ended : Bool) → new.rest ≡ now.rest → new.left ≡ now.left → new.ended ≡ ended → new ≡ record now { ended = ended }
same_rest now new ended rest left is =
    ap (λ (r : List ℕ). record { rest = r; left = new.left; ended = new.ended }) rest
    ∙ ap (λ (k : ℕ). record { rest = now.rest; left = k; ended = new.ended }) left
    ∙ ap (λ (b : Bool). record { rest = now.rest; left = now.left; ended = b }) is

-- nothing was taken, for the commands are at their end
pub feeds-end : (before after : Option (List ℕ)) (now filled : Feeding) → now.rest ≡ [] → IsAtEnd before → GivesInput before after filled.rest →
    length filled.rest ≡ 0 → filled.left + length filled.rest ≡ now.left → (n : ℕ) → n ≡ 0 → filled.ended ≡ (n == 0) → Feeds before after now filled AtEnd
unfolding Feeds
feeds-end before after now filled none end gives empty_rest left n none_taken ended =
    let nothing : filled.rest ≡ [] = empty filled.rest empty_rest in
    let still : filled.left ≡ now.left = omega (arith, left, empty_rest) in (
      none,
      end,
      subst (GivesInput before after) nothing gives,
      same_rest now filled true (nothing ∙ sym none) still (is_ended n filled.ended none_taken ended),
    )

-- or the take failed
pub feeds-fault : (before after : Option (List ℕ)) (now filled : Feeding) → now.rest ≡ [] → filled ≡ now → GivesInput before after [] →
    Feeds before after now filled Fault
unfolding Feeds
feeds-fault before after now filled none same gives = (none, gives, same)

-- a take of one byte
pub one-more : {E : Type 0} (before after : Option (List ℕ)) (into new : List ℕ) (n : ℕ) (now later : Feeding) → length into ≡ 1 → length new ≡ 1 →
    Takes {E = E} before after into new (Ok n) → (n ≡ 0 → ⊥) → now.rest ≡ [] → now.left ≡ 0 → now.ended ≡ false → later.rest ≡ now.rest →
    later.left ≡ now.left - n → later.ended ≡ (n == 0) → Feeds before after now later TooMany
unfolding Feeds
one-more before after into new n now later one one_new takes some none spent going same left ended =
    let is_one : n ≡ 1 = omega (arith, takes.count, one, some_is n some) in (
      none,
      spent,
      (of new one_new (subst (λ (k : ℕ). GivesFront before after new k) is_one takes.told)),
      same_rest now later now.ended same (omega (arith, left, spent)) (not_ended n later.ended some ended ∙ sym going),
    )
  where
    some_is : (n : ℕ) → (n ≡ 0 → ⊥) → 0 < n
    some_is zero some = absurd (some refl)
    some_is (suc n) some = omega arith

    of : (new : List ℕ) → length new ≡ 1 → GivesFront before after new 1 → (byte : ℕ) × GivesInput before after (byte ∷ [])
    of [] size gives = absurd (omega (arith, size))
    of (byte ∷ rest) size gives = (byte, front before after byte rest gives)
      where
        front : (before after : Option (List ℕ)) (byte : ℕ) (rest : List ℕ) → GivesFront before after (byte ∷ rest) 1 → GivesInput before after (byte ∷ [])
        front None after byte rest gives = tt
        front (Some left) after byte rest (within, same, left_is) =
            (drop 1 left, sym (take-append-drop 1 left) ∙ ap (λ (t : List ℕ). t ++ drop 1 left) (sym same), left_is)

pub one-none : {E : Type 0} (before after : Option (List ℕ)) (into new : List ℕ) (n : ℕ) (now later : Feeding) → length into ≡ 1 →
    Takes {E = E} before after into new (Ok n) → n ≡ 0 → now.rest ≡ [] → later.rest ≡ now.rest → later.left ≡ now.left - n → later.ended ≡ (n == 0) →
    Feeds before after now later AtEnd
unfolding Feeds
one-none before after into new n now later one takes zero_taken none same left ended = (
  none,
  takes.end zero_taken (omega (arith, one)),
  nothing before after new (subst (λ (k : ℕ). GivesFront before after new k) zero_taken takes.told),
  same_rest now later true same (omega (arith, left, zero_taken)) (is_ended n later.ended zero_taken ended),
)
  where
    nothing : (before after : Option (List ℕ)) (new : List ℕ) → GivesFront before after new 0 → GivesInput before after []
    nothing None after new gives = tt
    nothing (Some left) after new (within, same, left_is) = (left, refl, left_is)

pub one-failed : {E : Type 0} (before after : Option (List ℕ)) (into new : List ℕ) (e : E) (now later : Feeding) → Takes before after into new (Err e) →
    now.rest ≡ [] → later.rest ≡ now.rest → later.left ≡ now.left → later.ended ≡ now.ended → Feeds before after now later Fault
unfolding Feeds
one-failed before after into new e now later takes none same left ended =
    (none, subst (λ (o : Option (List ℕ)). GivesInput before o []) (sym takes.unchanged.1) (gives-none before), same_rest now later now.ended same left ended)

-- One more byte, if a line has room for n --

pub pushed : (n : ℕ) (line items new : List ℕ) (byte : ℕ) (full : Bool) → full ≡ (length items == n) → length items ≤ n → full ≡ false → items ≡ line →
    new ≡ items ++ byte ∷ [] → new ≡ take n (line ++ byte ∷ [])
pushed n line items new byte full is fits room seen new_is =
    let low : length items < n = grind (arith, nat_tests, is, fits, room) in
    new_is ∙ sym (fits_more n items byte low) ∙ ap (λ (l : List ℕ). take n (l ++ byte ∷ [])) seen

pub stays-full : (n : ℕ) (line items : List ℕ) (byte : ℕ) (full : Bool) → full ≡ (length items == n) → full ≡ true → items ≡ line →
    line ≡ take n (line ++ byte ∷ [])
stays-full n line items byte full is no_room seen =
    let all : length items ≡ n = grind (arith, nat_tests, is, no_room) in
    sym (full_before n line byte (ap length (sym seen) ∙ all))
