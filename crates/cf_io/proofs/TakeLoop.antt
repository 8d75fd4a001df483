-- What the loop that fills a slice maintains.
use Rattle.std.proofs.Common.{◌≡◌, ℕ, ◌+◌, ◌-◌, ◌≤◌, List, [], ◌++◌, length, take, drop, Option, Some, None, refl, subst, ap, sym, ◌∙◌, arith}
use Rattle.std.proofs.Math.Seq.{take-add, take-append-add, drop-append-add, take-length}
use Rattle.std.proofs.Math.ListN.{drop_of_length-le}
use Rattle.std.proofs.lemmas.List.{length-take, length-take-le, length-drop, length-append, drop-drop, append-nil}
use borrow.Rule.Slice.PartMut.{put_mid}
use Rattle.std.specs.Prelude.{Result, Ok}
use Rattle.cf_io.specs.Takes.{Takes, TakesSome, GivesFront, IsAtEnd, TakesMost}

-- this many bytes are taken, the slice has its length, and no fault was counted
pub record HasTaken (left after : Option (List ℕ)) (into new : List ℕ) (done before now : ℕ) :
    Type 0 where
  pub taken : TakesSome left after into new done
  pub same_length : length new ≡ length into
  pub still : now ≡ before

-- a write over the rest of a slice
rest_written : (i : ℕ) (slice piece : List ℕ) → i ≤ length slice →
    put_mid i (length slice - i) slice piece ≡ take i slice ++ piece
rest_written i slice piece within =
    let nothing_after : drop (length slice - i) (drop i slice) ≡ [] =
    drop_of_length-le (drop i slice) {i = length slice - i} (omega (arith, length-drop i slice)) in
    rw (nothing_after, append-nil) refl

-- it preserves the slice's length
pub length-put_mid : (i : ℕ) (slice piece : List ℕ) → i ≤ length slice →
    length piece ≡ length (take (length slice - i) (drop i slice)) →
    length (put_mid i (length slice - i) slice piece) ≡ length slice
length-put_mid i slice piece within same =
    let rest : ℕ = length slice - i in
    rw (rest_written i slice piece within, length-append)
    (omega (arith, same, length-take-le i slice within, length-take rest (drop i slice), length-drop i slice))

-- the start of such a slice
take_over : (i n : ℕ) (slice piece : List ℕ) → i ≤ length slice →
    take (i + n) (take i slice ++ piece) ≡ take i slice ++ take n piece
take_over i n slice piece within =
    let front : length (take i slice) ≡ i = length-take-le i slice within in
    ap (λ k. take (k + n) (take i slice ++ piece)) (sym front) ∙ take-append-add (take i slice) piece n

-- what comes after that prefix
drop_over : (i n : ℕ) (slice piece : List ℕ) → i ≤ length slice →
    drop (i + n) (take i slice ++ piece) ≡ drop n piece
drop_over i n slice piece within =
    let front : length (take i slice) ≡ i = length-take-le i slice within in
    ap (λ k. drop (k + n) (take i slice ++ piece)) (sym front) ∙ drop-append-add (take i slice) piece n

-- a prefix of what is left, and then a prefix of the rest
gives-add : (a b c : Option (List ℕ)) (slice piece : List ℕ) (i n : ℕ) → i ≤ length slice →
    GivesFront a b slice i → GivesFront b c piece n → GivesFront a c (take i slice ++ piece) (i + n)
gives-add None b c slice piece i n within first next = tt
gives-add (Some left) b c slice piece i n within first next =
    let P : Option (List ℕ) → Type 0 = λ told. GivesFront told c piece n in
    let more : GivesFront (Some (drop i left)) c piece n = subst P first.2 next in
    let joined : take i slice ++ take n piece ≡ take (i + n) left =
    rw (first.1, more.1, take-add i n left) refl in (
      omega (arith, length-drop i left, more.0, first.0),
      take_over i n slice piece within ∙ joined,
      more.2 ∙ ap Some (drop-drop n i left),
    )

-- one more piece after the bytes taken so far
takes-add : (a b c : Option (List ℕ)) (into slice piece : List ℕ) (i n : ℕ) →
    length slice ≡ length into → length piece ≡ length slice - i → TakesSome a b into slice i →
    GivesFront b c piece n → n ≤ length piece → drop n piece ≡ drop n (drop i slice) →
    TakesSome a c into (take i slice ++ piece) (i + n)
takes-add a b c into slice piece i n same fits before gives within rest =
    let done : i ≤ length slice = omega (arith, before.count, same) in record {
      count = omega (arith, before.count, within, fits, same);
      told = gives-add a b c slice piece i n done before.told gives;
      rest = drop_over i n slice piece done ∙ rest ∙ ap (drop n) before.rest ∙ drop-drop n i into;
    }

-- one call of take over the rest of a slice
pub takes_more : {E : Type 0} (a b c : Option (List ℕ)) (into slice piece : List ℕ) (i n : ℕ)
    (result : Result ℕ E) → length slice ≡ length into →
    length piece ≡ length (take (length slice - i) (drop i slice)) → TakesSome a b into slice i →
    Takes b c (take (length slice - i) (drop i slice)) piece result → result ≡ Ok n →
    TakesSome a c into (put_mid i (length slice - i) slice piece) (i + n)
takes_more {E = E} a b c into slice piece i n result same fits before takes ok =
    let lent : take (length slice - i) (drop i slice) ≡ drop i slice =
    rw (← length-drop i slice) (take-length (drop i slice)) in
    let P : Result ℕ E → Type 0 = λ answer. Takes b c (drop i slice) piece answer in
    let more : Takes b c (drop i slice) piece (Ok n) = subst P ok (rw lent at takes) in
    let size : length piece ≡ length slice - i = fits ∙ ap length lent ∙ length-drop i slice in
    let count : n ≤ length piece = omega (arith, more.count, size, length-drop i slice) in
    rw (rest_written i slice piece (omega (arith, before.count, same)))
    (takes-add a b c into slice piece i n same size before more.told count more.rest)

-- a take of no bytes from a source at its end: everything that it had left was taken before
pub most_at_end : (a b : Option (List ℕ)) (slice : List ℕ) (room i n : ℕ) → i ≤ room → n ≡ 0 →
    GivesFront a b slice i → IsAtEnd b → TakesMost a room (i + n)
most_at_end None b slice room i n within zero gives end = tt
most_at_end (Some left) b slice room i n within zero gives end =
    let P : Option (List ℕ) → Type 0 = λ told. IsAtEnd told in
    let nothing : drop i left ≡ [] = subst P gives.2 end in
    omega (arith, zero, length-drop i left, ap length nothing, gives.0, within)
