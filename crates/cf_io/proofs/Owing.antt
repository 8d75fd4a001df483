-- Texts that are written one after another, as parts of a whole text that is owed.
use Rattle.std.proofs.Common.{◌≡◌, ℕ, ◌+◌, ◌≤◌, List, [], ◌++◌, length, take, Option, Some, None, refl, ap, sym, ◌∙◌, subst, append-nil, append_assoc, arith}
use Rattle.std.specs.Prelude.{Result, Ok, Err, OnErr}
use Rattle.std.proofs.lemmas.Result.{on_err_weaker}
use Rattle.std.proofs.lemmas.List.{length-append, take-append-le}
use Rattle.std.proofs.Math.Seq.{take-append-add}
use Rattle.cf_io.specs.Puts.{Writes, WritesFront}

-- nothing was written
pub writes-nothing : (told : Option (List ℕ)) → Writes told told []
writes-nothing None = tt
writes-nothing (Some told) = ap Some (sym (append-nil told))

-- a text and then another
pub writes-again : (a b c : Option (List ℕ)) (x y : List ℕ) → Writes a b x → Writes b c y → Writes a c (x ++ y)
writes-again None b c x y h k = tt
writes-again (Some told) b c x y h k =
    subst (λ (o : Option (List ℕ)). Writes o c y) h k ∙ ap Some (append_assoc told x y)

-- a prefix of the first text is a prefix of both
pub front-first : (a b : Option (List ℕ)) (x y : List ℕ) → WritesFront a b x → WritesFront a b (x ++ y)
front-first None b x y front = tt
front-first (Some told) b x y (n, short, k) =
    let within : n ≤ length x = omega (arith, short) in
    (n, omega (arith, length-append x y, short), k ∙ ap (λ (z : List ℕ). Some (told ++ z)) (sym (take-append-le n x y within)))

-- a text, and then a prefix of another
pub front-again : (a b c : Option (List ℕ)) (x y : List ℕ) → Writes a b x → WritesFront b c y → WritesFront a c (x ++ y)
front-again None b c x y h front = tt
front-again (Some told) b c x y h front =
    let (n, short, k) = subst (λ (o : Option (List ℕ)). WritesFront o c y) h front in
    let both : c ≡ Some (told ++ (x ++ take n y)) = k ∙ ap Some (append_assoc told x (take n y)) in
    (length x + n, omega (arith, length-append x y, short), both ∙ ap (λ (z : List ℕ). Some (told ++ z)) (sym (take-append-add x y n)))

-- this rest of a whole text is still owed
pub record Owes (before now : Option (List ℕ)) (rest whole : List ℕ) : Type 0 where
  pub done : List ℕ
  pub told : Writes before now done
  pub parts : done ++ rest ≡ whole

pub owes-all : (told : Option (List ℕ)) (whole : List ℕ) → Owes told told whole whole
owes-all told whole = record { done = []; told = writes-nothing told; parts = refl }

-- the next text was written
pub owes-next : (a b c : Option (List ℕ)) (rest next after whole : List ℕ) → Owes a b rest whole → rest ≡ next ++ after → Writes b c next → Owes a c after whole
owes-next a b c rest next after whole o e h = record {
  done = o.done ++ next;
  told = writes-again a b c o.done next o.told h;
  parts = append_assoc o.done next after ∙ ap (λ (l : List ℕ). o.done ++ l) (sym e) ∙ o.parts;
}

-- a prefix of it was written
pub owes-front : (a b c : Option (List ℕ)) (rest next after whole : List ℕ) → Owes a b rest whole → rest ≡ next ++ after → WritesFront b c next →
    WritesFront a c whole
owes-front a b c rest next after whole o e h =
    subst (λ (l : List ℕ). WritesFront a c l) (ap (λ (l : List ℕ). o.done ++ l) (sym e) ∙ o.parts)
    (front-again a b c o.done (next ++ after) o.told (front-first b c next after h))

-- nothing is owed any more
pub owes-none : (a b : Option (List ℕ)) (rest whole : List ℕ) → Owes a b rest whole → rest ≡ [] → Writes a b whole
owes-none a b rest whole o e =
    subst (λ (l : List ℕ). Writes a b l) (sym (append-nil o.done) ∙ ap (λ (l : List ℕ). o.done ++ l) (sym e) ∙ o.parts) o.told

-- a text, and then an answer that is a failure with a prefix of another
pub err-again : {E : Type 0} (a b c : Option (List ℕ)) (x y : List ℕ) (r : Result (Unit {0}) E)
    → Writes a b x → OnErr r (WritesFront b c y) → OnErr r (WritesFront a c (x ++ y))
err-again a b c x y r h k = on_err_weaker r (front-again a b c x y h) k

-- what holds, holds also if an answer is a failure
on-any : {E : Type 0} (P : Type 0) (s : Result (Unit {0}) E) → P → OnErr s P
on-any P (Ok u) h = tt
on-any P (Err e) h = h

pub err-owes : {E : Type 0} (a b c : Option (List ℕ)) (rest next after whole : List ℕ) (r s : Result (Unit {0}) E) (e : E)
    → r ≡ Err e → Owes a b rest whole → rest ≡ next ++ after → OnErr r (WritesFront b c next) → OnErr s (WritesFront a c whole)
err-owes a b c rest next after whole r s e fails o parts h =
    let front : WritesFront b c next = subst (λ q. OnErr q (WritesFront b c next)) fails h in
    on-any (WritesFront a c whole) s (owes-front a b c rest next after whole o parts front)

pub ruleset owing = (writes-nothing, writes-again, front-first, front-again)

pub ruleset owes = (owes-all, owes-next, owes-front, owes-none)
