-- What happens to the gathered bytes while they are written to the next sink and while more are gathered.
use Rattle.std.proofs.Common.{◌≡◌, ℕ, ◌+◌, ◌-◌, ◌≤◌, ◌<◌, List, [], ◌++◌, take, drop, length, min, Bool, Option, Some, None, Result, Ok, Err, append-nil, ap, refl, sym, subst, ◌∙◌, append_assoc, take-append-drop, drop-drop, length-drop, length-take-le, arith}
use Rattle.std.proofs.lemmas.List.{drop-append-le}
use Rattle.std.proofs.lemmas.Slice.{take-put_mid}
use borrow.Rule.Slice.PartMut.{put_mid}
use Rattle.cf_io.specs.Puts.{Puts, Writes, WritesNothing}
use Rattle.cf_report.specs.Gathering.{Gathering, followed_by, written_by}

-- the bytes from this one on are still kept; all that was written is unchanged, and so is the count of faults
pub record IsPassing (written after : Option (List ℕ)) (bytes : List ℕ) (start done before now : ℕ) : Type 0 where
  pub within : done ≤ length bytes
  pub same : WritesNothing (followed_by written (drop start bytes)) (followed_by after (drop done bytes))
  pub still : now ≡ before

pub nothing-same : (told : Option (List ℕ)) → WritesNothing told told
nothing-same None = tt
nothing-same (Some told) = refl

-- the sink took some bytes
passes-more : (a b c : Option (List ℕ)) (bytes : List ℕ) (start done n : ℕ) →
    WritesNothing (followed_by a (drop start bytes)) (followed_by b (drop done bytes)) → Writes b c (take n (drop done bytes)) →
    WritesNothing (followed_by a (drop start bytes)) (followed_by c (drop (done + n) bytes))
passes-more None b c bytes start done n same put = tt
passes-more (Some told) None c bytes start done n same put = absurd (cc)
passes-more (Some told) (Some so) c bytes start done n same put =
    ap (λ (o : Option (List ℕ)). followed_by o (drop (done + n) bytes)) put
    ∙ ap Some (append_assoc so (take n (drop done bytes)) (drop (done + n) bytes)
    ∙ ap (λ (l : List ℕ). so ++ (take n (drop done bytes) ++ l)) (sym (drop-drop n done bytes))
    ∙ ap (λ (l : List ℕ). so ++ l) (take-append-drop n (drop done bytes)))
    ∙ same

pub passing-more : (a b c : Option (List ℕ)) (bytes : List ℕ) (start done n i j k : ℕ) → IsPassing a b bytes start done i j →
    n ≤ length (drop done bytes) → Writes b c (take n (drop done bytes)) → k ≡ j → IsPassing a c bytes start (done + n) i k
passing-more a b c bytes start done n i j k p within put still = record {
  within = let w = p.within in omega (arith, w, within, length-drop done bytes);
  same = passes-more a b c bytes start done n p.same put;
  still = still ∙ p.still;
}

-- the sink took none
same-passing : (a b c : Option (List ℕ)) (x y : List ℕ) → WritesNothing (followed_by a x) (followed_by b y) → WritesNothing b c →
    WritesNothing (followed_by a x) (followed_by c y)
same-passing None b c x y same put = tt
same-passing (Some told) None c x y same put = absurd (cc)
same-passing (Some told) (Some so) c x y same put = ap (λ (o : Option (List ℕ)). followed_by o y) put ∙ same

pub passing-same : (a b c : Option (List ℕ)) (bytes : List ℕ) (start done i j : ℕ) → IsPassing a b bytes start done i j → WritesNothing b c →
    WritesNothing (followed_by a (drop start bytes)) (followed_by c (drop done bytes))
passing-same a b c bytes start done i j p put = same-passing a b c (drop start bytes) (drop done bytes) p.same put

-- more bytes were gathered
pub kept-more : {K : Type 0} (now : Gathering K) (sink : K) (room start end count : ℕ) (gathers : Bool) (bytes piece new : List ℕ) →
    record { sink = sink; kept = drop start (take end bytes); room = room; gathers = gathers } ≡ now → start ≤ end → end ≤ length bytes → new ≡ piece →
    length piece ≡ count →
    drop start (take (end + count) (put_mid end (end + count - end) bytes new)) ≡ now.kept ++ piece
kept-more {K} now sink room start end count gathers bytes piece new view order within same size =
    ap (λ (l : List ℕ). drop start (take (end + count) (put_mid end (end + count - end) bytes l))) same
    ∙ ap (drop start) (take-put_mid end (end + count - end) bytes piece (end + count) (omega (arith, size)) within)
    ∙ drop-append-le start (take end bytes) piece (omega (arith, order, length-take-le end bytes within))
    ∙ ap (λ (g : Gathering K). g.kept ++ piece) view

kept-writes : (o b : Option (List ℕ)) (y p : List ℕ) → WritesNothing o (followed_by b y) → Writes o (followed_by b (y ++ p)) p
kept-writes None b y p same = tt
kept-writes (Some told) None y p same = absurd (cc)
kept-writes (Some told) (Some so) y p same = ap Some (sym (append_assoc so y p)) ∙ ap (λ (o : Option (List ℕ)). followed_by o p) same

-- a piece was written, of which this many bytes were gathered
pub kept-puts : {K E : Type 0} (written : K → Option (List ℕ)) (old mid new : Gathering K) (bytes : List ℕ) (n : ℕ) →
    WritesNothing (written_by written old) (written_by written mid) → 0 < mid.room → 0 < length bytes → n ≡ min (length bytes) mid.room →
    new.kept ≡ mid.kept ++ take n bytes → new.sink ≡ mid.sink → Puts {E = E} (written_by written old) (written_by written new) bytes (Ok n)
kept-puts {K} {E} written old mid new bytes n same room some count kept sink = record {
  count = omega (arith, count);
  some = λ h. omega (arith, count, room, some);
  told = rw (sink, kept) (kept-writes (written_by written old) (written mid.sink) mid.kept (take n bytes) same);
  empty = λ none. absurd (omega (arith, none, some));
  unchanged = tt;
}

through-writes : (o b c : Option (List ℕ)) (x : List ℕ) → WritesNothing o (followed_by b []) → Writes b c x → Writes o (followed_by c []) x
through-writes None b c x same put = tt
through-writes (Some told) None c x same put = absurd (cc)
through-writes (Some told) (Some so) c x same put =
    ap (λ (o : Option (List ℕ)). followed_by o []) put ∙ ap Some (append-nil (so ++ x))
    ∙ ap (λ (o : Option (List ℕ)). followed_by o x) (ap Some (sym (append-nil so)) ∙ same)

through-nothing : (o b c : Option (List ℕ)) → WritesNothing o (followed_by b []) → WritesNothing b c → WritesNothing o (followed_by c [])
through-nothing None b c same put = tt
through-nothing (Some told) None c same put = absurd (cc)
through-nothing (Some told) (Some so) c same put = ap (λ (o : Option (List ℕ)). followed_by o []) put ∙ same

through : {E : Type 0} (o b c : Option (List ℕ)) (bytes : List ℕ) (r : Result ℕ E) → WritesNothing o (followed_by b []) → Puts b c bytes r →
    Puts o (followed_by c []) bytes r
through o b c bytes (Ok n) same p =
    record { count = p.count; some = p.some; told = through-writes o b c (take n bytes) same p.told; empty = p.empty; unchanged = tt }
through o b c bytes (Err e) same p =
    record { count = tt; some = tt; told = tt; empty = p.empty; unchanged = through-nothing o b c same p.unchanged }

-- a piece was written to the next sink, with nothing kept before it
pub puts-through : {K E : Type 0} (written : K → Option (List ℕ)) (old mid new : Gathering K) (bytes : List ℕ) (r : Result ℕ E) →
    WritesNothing (written_by written old) (written_by written mid) → mid.kept ≡ [] → new.kept ≡ mid.kept →
    Puts (written mid.sink) (written new.sink) bytes r → Puts (written_by written old) (written_by written new) bytes r
puts-through {E = E} written old mid new bytes r same none still put =
    let passed : WritesNothing (written_by written old) (followed_by (written mid.sink) []) =
    subst (λ (l : List ℕ). WritesNothing (written_by written old) (followed_by (written mid.sink) l)) none same in
    subst (λ (l : List ℕ). Puts {E = E} (written_by written old) (followed_by (written new.sink) l) bytes r) (sym (still ∙ none))
    (through (written_by written old) (written mid.sink) (written new.sink) bytes r passed put)

pub ruleset keeping = (nothing-same, kept-puts, puts-through)
