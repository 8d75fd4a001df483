-- The bytes that are held: they are moved to the beginning, followed by what is taken, and cut into lines.
use Rattle.std.proofs.Common.{◌≡◌, ◌≢◌, ℕ, suc, ◌+◌, ◌-◌, ◌<◌, ◌≤◌, List, [], ◌∷◌, ◌++◌, All, length, get_or, take, drop, Option, Some, None, Bool, true, false, refl, sym, ap, subst, ◌∙◌, append-nil, append_assoc, inl, inr, arith}
use Rattle.std.specs.Prelude.{◌==◌, Result, Ok, Err, IfOk}
use Rattle.std.specs.List.{position_or_len, copy_within}
use Rattle.std.proofs.Math.Seq.{take-append-add, take-suc}
use Rattle.std.proofs.lemmas.Slice.{take-put_mid}
use borrow.Rule.Slice.PartMut.{put_mid}
use Rattle.std.proofs.lemmas.Bool.Decides.{nat_tests}
use Rattle.std.proofs.lemmas.Grind.{common_steps}
use Rattle.std.proofs.lemmas.List.{drop-take, get_or-take, get_or_append_left, length-append, length-drop, length-take, length-take-le, take-append-drop, take-take}
use Rattle.std.proofs.lemmas.List.Edits.{take-paste}
use Rattle.std.proofs.lemmas.List.Sums.{fails_before_first, passes_at_first}
use Rattle.cf_io.specs.Causes.{HasCause}
use Rattle.cf_io.specs.Takes.{GivesFront, IsAtEnd, Takes as TakesBytes}
use Rattle.rv_machine.specs.Streams.{GivesInput, IsTold}
use Rattle.rv_text.specs.Lines.{without_return}
use Rattle.cf_log.specs.Cutting.{LogFeeding, FeedsLog, FillsHeld, FinishesLog, IsCut, IsLogPiece, TakesOn, log_fed, most_held}
use Rattle.cf_log.specs.declared.feed.NextLine.{NextLine}
use Rattle.cf_log.specs.declared.feed.NextLine.TheVariants.{Line, Last, TooLong, AtEnd, Fault}

-- a list without elements
pub nothing : (xs : List ℕ) → length xs ≡ 0 → xs ≡ []
nothing [] none = refl
nothing (x ∷ xs) none = absurd (omega (arith, none))

-- what was moved to the beginning
pub moved : (held new : List ℕ) (from to : ℕ) → from ≤ to → to ≤ length held → new ≡ copy_within held from to 0 →
    take (to - from) new ≡ drop from (take to held)
moved held new from to order within is =
    let n : ℕ = to - from in
    let whole : from + n ≡ to = omega (arith, order) in
    let size : n ≤ length (drop from held) = grind (arith, common_steps, order, within) in
    let zero : 0 + n ≡ n = omega arith in
    let pasted_at : take (0 + n) (copy_within held from to 0) ≡ take n (drop from held) = take-paste held 0 (drop from held) n (omega arith) size in
    let pasted : take n (copy_within held from to 0) ≡ take n (drop from held) = ap (λ (k : ℕ). take k (copy_within held from to 0)) (sym zero) ∙ pasted_at in
    rw is (pasted ∙ sym (drop-take from n held) ∙ ap (λ (k : ℕ). drop from (take k held)) whole)

-- what was taken
gives : (before after : Option (List ℕ)) (new : List ℕ) (count : ℕ) → GivesFront before after new count → GivesInput before after (take count new)
gives None after new count told = tt
gives (Some left) after new count (within, same, is) =
    (drop count left, sym (take-append-drop count left) ∙ ap (λ (t : List ℕ). t ++ drop count left) (sym same), is)

pub fills : (before after : Option (List ℕ)) (had have new : List ℕ) (count : ℕ) → count ≤ length new → have ≡ had ++ take count new →
    GivesFront before after new count
    → FillsHeld before after had have count
fills before after had have new count within is told =
    (take count new, gives before after new count told, is, grind (arith, common_steps, within))

-- the same for the bytes that one take puts after others
pub taken-at : {E : Type 0} (before after : Option (List ℕ)) (held piece : List ℕ) (place size : ℕ) (result : Result ℕ E) → length held ≡ size → place < size
    → length piece ≡ length (take (size - place) (drop place held)) → TakesBytes before after (take (size - place) (drop place held)) piece result
    → IfOk result (λ count. FillsHeld before after (take place held) (take (place + count) (put_mid place (size - place) held piece)) count)
taken-at before after held piece place size (Ok count) whole low same t =
    let fits : length piece ≡ size - place = omega (arith, same, length-take (size - place) (drop place held), length-drop place held, whole) in
    let within : count ≤ length piece = omega (arith, t.count, same) in
    let front : length (take place held) ≡ place = length-take-le place held (omega (arith, low, whole)) in
    let all : take size (put_mid place (size - place) held piece) ≡ take place held ++ piece =
    take-put_mid place (size - place) held piece size (omega (arith, fits, low)) (omega (arith, low, whole)) in
    let cut : take (place + count) (put_mid place (size - place) held piece) ≡ take (place + count) (take place held ++ piece) =
    sym (take-take (place + count) size (put_mid place (size - place) held piece) (omega (arith, within, fits, low))) ∙ ap (take (place + count)) all in
    let some : take (place + count) (take place held ++ piece) ≡ take place held ++ take count piece =
    ap (λ (k : ℕ). take (k + count) (take place held ++ piece)) (sym front) ∙ take-append-add (take place held) piece count in
    fills before after (take place held) (take (place + count) (put_mid place (size - place) held piece)) piece count within (cut ∙ some) t.told
taken-at before after held piece place size (Err failed) whole low same t = tt

-- Pieces --

-- no byte before the first line feed is a line feed
pub before-feed : (bytes : List ℕ) (size : ℕ) → size ≡ position_or_len (λ b. b == 10) bytes → (k d : ℕ) → k < size → get_or bytes k d ≡ 10 → ⊥
before-feed bytes size is k d low here =
    let low' : k < position_or_len (λ b. b == 10) bytes = omega (arith, is, low) in
    let fails : (get_or bytes k d == 10) ≡ false = fails_before_first (λ b. b == 10) bytes k d low' in
    grind (arith, nat_tests, fails, here)

pub is-piece : (own bytes : List ℕ) (size : ℕ) → bytes ≡ own → size ≡ position_or_len (λ b. b == 10) bytes → size ≡ length bytes → IsLogPiece own
is-piece own bytes size same is whole = subst IsLogPiece same (λ k d low here. before-feed bytes size is k d (omega (arith, whole, low)) here)

-- what is before the first line feed
pub first-piece : (bytes : List ℕ) (size : ℕ) → size ≡ position_or_len (λ b. b == 10) bytes → size ≤ length bytes → IsLogPiece (take size bytes)
first-piece bytes size is within k d low here =
    let below : k < size = grind (arith, common_steps, low, within) in
    before-feed bytes size is k d below (sym (get_or-take size bytes k d below) ∙ here)

-- it is followed by the line feed and the rest
feed_at : (bytes : List ℕ) (size : ℕ) → size ≡ position_or_len (λ b. b == 10) bytes → size < length bytes → get_or bytes size 0 ≡ 10
feed_at bytes size is low =
    let low' : position_or_len (λ b. b == 10) bytes < length bytes = omega (arith, is, low) in
    let here : (get_or bytes (position_or_len (λ b. b == 10) bytes) 0 == 10) ≡ true = passes_at_first (λ b. b == 10) bytes 0 low' in
    let there : (get_or bytes size 0 == 10) ≡ true = rw is here in
    grind (arith, nat_tests, there)

parted : (bytes : List ℕ) (size : ℕ) → size < length bytes → get_or bytes size 0 ≡ 10 → bytes ≡ take size bytes ++ 10 ∷ drop (size + 1) bytes
parted bytes size low here =
    let more : size + 1 ≡ suc size = omega arith in
    let split : take (suc size) bytes ++ drop (suc size) bytes ≡ bytes = take-append-drop (suc size) bytes in
    let front : take (suc size) bytes ≡ take size bytes ++ get_or bytes size 0 ∷ [] = take-suc bytes size 0 low in
    rw more (sym split ∙ ap (λ (f : List ℕ). f ++ drop (suc size) bytes) (front ∙ ap (λ (b : ℕ). take size bytes ++ b ∷ []) here)
    ∙ append_assoc (take size bytes) (10 ∷ []) (drop (suc size) bytes))

-- the line is cut off
pub is-cut : (own bytes : List ℕ) (size line : ℕ) (new : LogFeeding) → bytes ≡ own → size ≡ position_or_len (λ b. b == 10) bytes → size < length bytes →
    line ≤ length (take size bytes)
    → take line (take size bytes) ≡ without_return (take size bytes) → new.line ≡ take line own → new.rest ≡ drop (size + 1) own → IsCut own new
is-cut own bytes size line new same is low within cut line_is rest_is = record {
  piece = take size bytes;
  is_piece = first-piece bytes size is (omega (arith, low));
  parts = sym same ∙ parted bytes size low (feed_at bytes size is low) ∙ ap (λ (r : List ℕ). take size bytes ++ 10 ∷ r) (ap (drop (size + 1)) same
      ∙ sym rest_is);
  line = line_is ∙ ap (take line) (sym same) ∙ sym (take-take line size bytes (omega (arith, within, length-take size bytes))) ∙ cut;
}

-- What is taken for one line --

-- these bytes are held; some of them were taken since then, because no line feed was among those before
pub record Takes (before after : Option (List ℕ)) (had have : List ℕ) : Type 0 where
  pub taken : List ℕ
  pub takes : TakesOn before after had taken
  pub is : have ≡ had ++ taken

gives-none : (told : Option (List ℕ)) → GivesInput told told []
gives-none None = tt
gives-none (Some told) = (told, refl, refl)

pub gives-again : (a b c : Option (List ℕ)) (x y : List ℕ) → GivesInput a b x → GivesInput b c y → GivesInput a c (x ++ y)
gives-again None b c x y h k = tt
gives-again (Some told) b c x y (rest, is, left) k =
    let P : Option (List ℕ) → Type 0 = λ o. GivesInput o c y in
    let more : GivesInput (Some rest) c y = subst P left k in
    (more.0, is ∙ ap (λ (r : List ℕ). x ++ r) more.1 ∙ sym (append_assoc x y more.0), more.2)

pub takes-none : (told : Option (List ℕ)) (had : List ℕ) → Takes told told had had
takes-none told had = record { taken = []; takes = (gives-none told, inl refl); is = sym (append-nil had) }

pub takes-same : (before after : Option (List ℕ)) (had have same : List ℕ) → Takes before after had have → same ≡ have → Takes before after had same
takes-same before after had have same t is = record { taken = t.taken; takes = t.takes; is = is ∙ t.is }

-- if there is no line feed among all of them, there is none among those before
front-piece : (had taken : List ℕ) → IsLogPiece (had ++ taken) → IsLogPiece had
front-piece had taken h k d low here =
    h k d (omega (arith, low, length-append had taken)) (get_or_append_left had taken d k low ∙ here)

-- some more bytes
pub takes-more : (a b c : Option (List ℕ)) (had have more : List ℕ) (count : ℕ) → Takes a b had have → IsLogPiece have → FillsHeld b c have more count →
    Takes a c had more
takes-more a b c had have more count t piece (taken, gives, is, size) = record {
  taken = t.taken ++ taken;
  takes = (gives-again a b c t.taken taken t.takes.0 gives, inr (front-piece had t.taken (subst IsLogPiece t.is piece)));
  is = is ∙ ap (λ (h : List ℕ). h ++ taken) t.is ∙ append_assoc had t.taken taken;
}

-- Lines --

-- what follows the line is part of what was held
cut-size : (bytes : List ℕ) (new : LogFeeding) → IsCut bytes new → length new.rest < length bytes
cut-size bytes new cut = omega (arith, ap length cut.parts, length-append cut.piece (10 ∷ new.rest))

pub feeds-line : (before after : Option (List ℕ)) (now new : LogFeeding) (have : List ℕ) → Takes before after now.rest have → IsCut have new →
    length have ≤ most_held → FeedsLog before after now new Line
unfolding FeedsLog
feeds-line before after now new have t cut few =
    (t.taken, t.takes, subst (λ (b : List ℕ). IsCut b new) t.is cut, omega (arith, cut-size have new cut, few))

pub feeds-long : (before after : Option (List ℕ)) (now new : LogFeeding) (have : List ℕ) → Takes before after now.rest have → IsLogPiece have →
    514 ≤ length have
    → new.line ≡ have → new.rest ≡ [] → FeedsLog before after now new TooLong
unfolding FeedsLog
feeds-long before after now new have t piece long is none =
    (t.taken, t.takes, sym t.is ∙ sym is, subst IsLogPiece (sym is) piece, subst (λ (l : List ℕ). 514 ≤ length l) (sym is) long, none)

pub feeds-fault : (a b c : Option (List ℕ)) (now new : LogFeeding) (have : List ℕ) → Takes a b now.rest have → IsLogPiece have
    → (new.rest ≡ have) × GivesInput b c [] → FeedsLog a c now new Fault
unfolding FeedsLog
feeds-fault a b c now new have t piece (same, gives) = (
  t.taken,
  (subst (GivesInput a c) (append-nil t.taken) (gives-again a b c t.taken [] t.takes.0 gives), t.takes.1),
  same ∙ t.is,
  subst IsLogPiece (sym same) piece,
)

-- if a source is at its end, what was taken is all that it had
all-told : (before now : Option (List ℕ)) (taken : List ℕ) → GivesInput before now taken → IsAtEnd now → IsTold before taken
all-told None now taken gives end = tt
all-told (Some told) now taken (rest, is, left) end =
    let none : rest ≡ [] = subst IsAtEnd left end in
    sym (is ∙ ap (λ (r : List ℕ). taken ++ r) none ∙ append-nil taken)

-- the last take gave nothing
pub record Ended (before after : Option (List ℕ)) (had more : List ℕ) : Type 0 where
  pub taken : List ℕ
  pub takes : TakesOn before after had taken
  pub all : IsTold before taken
  pub is : more ≡ had ++ taken

pub ended-takes : (a b c : Option (List ℕ)) (had have more : List ℕ) (count : ℕ) → Takes a b had have → FillsHeld b c have more count → count ≡ 0 → IsAtEnd b →
    Ended a c had more
ended-takes a b c had have more count t (taken, gives, is, size) zero end =
    let none : taken ≡ [] = nothing taken (sym size ∙ zero) in
    record {
      taken = t.taken;
      takes = (
        subst (GivesInput a c) (ap (λ (m : List ℕ). t.taken ++ m) none ∙ append-nil t.taken) (gives-again a b c t.taken taken t.takes.0 gives),
        t.takes.1,
      );
      all = all-told a b t.taken t.takes.0 end;
      is = is ∙ ap (λ (m : List ℕ). have ++ m) none ∙ append-nil have ∙ t.is;
    }

none-left : (had taken : List ℕ) → had ++ taken ≡ [] → (had ≡ []) × (taken ≡ [])
none-left had taken is =
    let size : length (had ++ taken) ≡ 0 = ap length is in
    (nothing had (omega (arith, size, length-append had taken)), nothing taken (omega (arith, size, length-append had taken)))

pub feeds-end : (before after : Option (List ℕ)) (now new : LogFeeding) (have more : List ℕ) (next : NextLine) → Ended before after now.rest more →
    IsLogPiece have →
    more ≡ have → FinishesLog more new next
    → FeedsLog before after now new next
unfolding FeedsLog FinishesLog
feeds-end before after now new have more Line e piece same f = absurd f
feeds-end before after now new have more TooLong e piece same f = absurd f
feeds-end before after now new have more Fault e piece same f = absurd f
feeds-end before after now new have more Last e piece same (some, is, none) =
    (e.taken, e.takes, e.all, sym e.is ∙ sym is, subst IsLogPiece (sym (is ∙ same)) piece, subst (λ (l : List ℕ). 0 < length l) (sym is) some, none)
feeds-end before after now new have more AtEnd e piece same (empty, none) =
    let parts = none-left now.rest e.taken (sym e.is ∙ empty) in
    (parts.0, subst (IsTold before) parts.1 e.all, subst (GivesInput before after) parts.1 e.takes.0, none)

-- a take that gave nothing leaves what was held
pub same-held : (b c : Option (List ℕ)) (have more : List ℕ) (count : ℕ) → FillsHeld b c have more count → count ≡ 0 → more ≡ have
same-held b c have more count (taken, gives, is, size) zero =
    is ∙ ap (λ (m : List ℕ). have ++ m) (nothing taken (sym size ∙ zero)) ∙ append-nil have

-- the end of a log is no fault
pub end-cause : (before now : ℕ) (rest : List ℕ) (new : LogFeeding) (next : NextLine) → FinishesLog rest new next → now ≡ before →
    HasCause before now (log_fed next)
unfolding FinishesLog
end-cause before now rest new Line f still = absurd f
end-cause before now rest new TooLong f still = absurd f
end-cause before now rest new Fault f still = absurd f
end-cause before now rest new Last f still = record { never_falls = omega (arith, still); rose = tt; still = still }
end-cause before now rest new AtEnd f still = record { never_falls = omega (arith, still); rose = tt; still = still }
