-- What a report has received after a text was written and then another, or after the first one failed.
use Rattle.std.proofs.Common.{◌≡◌, ℕ, List, [], ◌++◌, Option, Ok, Err, refl, ◌∙◌, subst, arith}
use Rattle.std.specs.Prelude.{Result}
use Rattle.std.specs.Result.{IsErr}
use Rattle.std.proofs.lemmas.Bool.{false≢true}
use Rattle.cf_io.specs.Puts.{Writes}
use Rattle.cf_io.proofs.Owing.{writes-nothing, writes-again, front-first, front-again}
use Rattle.cf_report.specs.Putting.{PutsText}

again : {T U E : Type 0} (a b c : Option (List ℕ)) (i j k : ℕ) (x y : List ℕ) (t : T) (answer : Result U E)
    → PutsText {E = E} a b i j x (Ok t) → PutsText b c j k y answer → PutsText a c i k (x ++ y) answer
again a b c i j k x y t (Ok u) h g = record {
  all = writes-again a b c x y h.all g.all;
  front = tt;
  cause = record { never_falls = omega (arith, h.cause.never_falls, g.cause.never_falls); rose = tt; still = g.cause.still ∙ h.cause.still };
}
again a b c i j k x y t (Err e) h g = record {
  all = tt;
  front = front-again a b c x y h.all g.front;
  cause = record {
    never_falls = omega (arith, h.cause.never_falls, g.cause.never_falls);
    rose = omega (arith, h.cause.never_falls, g.cause.rose);
    still = tt;
  };
}

-- a text was written, and then another
pub puts-again : {T U E : Type 0} {a b c : Option (List ℕ)} {i j k : ℕ} {x y : List ℕ} (z : List ℕ) {first : Result T E} {answer : Result U E} {t : T}
    → first ≡ Ok t → x ++ y ≡ z → PutsText a b i j x first → PutsText b c j k y answer → PutsText a c i k z answer
puts-again {a = a} {b = b} {c = c} {i = i} {j = j} {k = k} {x = x} {y = y} z {answer = answer} {t = t} ok both h g =
    rw both at (again a b c i j k x y t answer (rw ok at h) g)

stopped : {T U E : Type 0} (a b : Option (List ℕ)) (i j : ℕ) (x y : List ℕ) (e : E) (answer : Result U E)
    → IsErr answer → PutsText {T = T} a b i j x (Err e) → PutsText a b i j (x ++ y) answer
stopped a b i j x y e (Ok u) failed h = absurd (false≢true failed)
stopped a b i j x y e (Err f) failed h = record {
  all = tt;
  front = front-first a b x y h.front;
  cause = record { never_falls = h.cause.never_falls; rose = h.cause.rose; still = tt };
}

-- writing a text failed, after which another was to come
pub puts-stopped : {T U E : Type 0} {a b : Option (List ℕ)} {i j : ℕ} {x : List ℕ} (y z : List ℕ) {first : Result T E} {answer : Result U E} {e : E}
    → first ≡ Err e → x ++ y ≡ z → IsErr answer → PutsText a b i j x first → PutsText a b i j z answer
puts-stopped {a = a} {b = b} {i = i} {j = j} {x = x} y z {answer = answer} {e = e} err both failed h =
    rw both at (stopped a b i j x y e answer failed (rw err at h))

-- a text has been written, and no fault was counted
pub record HasPut (written after : Option (List ℕ)) (before now : ℕ) (text : List ℕ) : Type 0 where
  pub told : Writes written after text
  pub still : now ≡ before

pub put-nothing : (told : Option (List ℕ)) (faults : ℕ) → HasPut told told faults faults []
put-nothing told faults = record { told = writes-nothing told; still = refl }

put-more : {T E : Type 0} (a b c : Option (List ℕ)) (i j k : ℕ) (x y : List ℕ) (t : T) → HasPut a b i j x → PutsText {E = E} b c j k y (Ok t) →
    HasPut a c i k (x ++ y)
put-more a b c i j k x y t h g = record {
  told = writes-again a b c x y h.told g.all;
  still = g.cause.still ∙ h.still;
}

-- one more text was written after it
pub has-more : {T E : Type 0} {a b c : Option (List ℕ)} {i j k : ℕ} {x y : List ℕ} {answer : Result T E} {t : T} → answer ≡ Ok t → HasPut a b i j x →
    PutsText b c j k y answer → HasPut a c i k (x ++ y)
has-more {a = a} {b = b} {c = c} {i = i} {j = j} {k = k} {x = x} {y = y} {t = t} ok h g = put-more a b c i j k x y t h (rw ok at g)

-- the same text
pub has-same : {a b : Option (List ℕ)} {i j : ℕ} {x : List ℕ} (y : List ℕ) → x ≡ y → HasPut a b i j x → HasPut a b i j y
has-same y same h = rw (← same) h

-- and that is all
pub put-all : {E : Type 0} {a b : Option (List ℕ)} {i j : ℕ} {x : List ℕ} (z : List ℕ) (answer : Result (Unit {0}) E) → answer ≡ Ok tt → x ≡ z →
    HasPut a b i j x → PutsText a b i j z answer
put-all z answer ok same h =
    rw (ok, ← same) (record { all = h.told; front = tt; cause = record { never_falls = omega (arith, h.still); rose = tt; still = h.still } })

-- the last text was written after it, or writing it failed
put-last : {T E : Type 0} (a b c : Option (List ℕ)) (i j k : ℕ) (x y : List ℕ) (answer : Result T E) → HasPut a b i j x → PutsText b c j k y answer →
    PutsText a c i k (x ++ y) answer
put-last a b c i j k x y (Ok t) h g = record {
  all = writes-again a b c x y h.told g.all;
  front = tt;
  cause = record { never_falls = omega (arith, h.still, g.cause.never_falls); rose = tt; still = g.cause.still ∙ h.still };
}
put-last a b c i j k x y (Err e) h g = record {
  all = tt;
  front = front-again a b c x y h.told g.front;
  cause = record {
    never_falls = omega (arith, h.still, g.cause.never_falls);
    rose = omega (arith, h.still, g.cause.rose);
    still = tt;
  };
}

pub has-last : {T E : Type 0} {a b c : Option (List ℕ)} {i j k : ℕ} {x y : List ℕ} {answer : Result T E} → HasPut a b i j x → PutsText b c j k y answer →
    PutsText a c i k (x ++ y) answer
has-last {a = a} {b = b} {c = c} {i = i} {j = j} {k = k} {x = x} {y = y} {answer = answer} h g = put-last a b c i j k x y answer h g

-- a write that failed fails the whole
pub has-failed : {T U E : Type 0} {a b : Option (List ℕ)} {i j : ℕ} {x : List ℕ} {first : Result T E} (answer : Result U E) {e : E} → first ≡ Err e →
    IsErr answer → PutsText a b i j x first → PutsText a b i j x answer
has-failed (Ok u) err failed h = absurd (false≢true failed)
has-failed {a = a} {b = b} {i = i} {j = j} {x = x} (Err f) {e = e} err failed h =
    let g = rw err at h in
    record { all = tt; front = g.front; cause = record { never_falls = g.cause.never_falls; rose = g.cause.rose; still = tt } }

-- the part of a text that was written before a failure is also part of a longer text
pub failed-more : {T E : Type 0} {a b : Option (List ℕ)} {i j : ℕ} {x : List ℕ} (y : List ℕ) (answer : Result T E) → IsErr answer → PutsText a b i j x answer →
    PutsText a b i j (x ++ y) answer
failed-more y (Ok t) failed h = absurd (false≢true failed)
failed-more {a = a} {b = b} {x = x} y (Err e) failed h = record { all = tt; front = front-first a b x y h.front; cause = h.cause }

-- writing the next text failed, and more was to come
pub has-front : {T U E : Type 0} {a b c : Option (List ℕ)} {i j k : ℕ} {x y z : List ℕ} {first : Result T E} (answer : Result U E) {e : E} → first ≡ Err e →
    IsErr answer → ((rest : List ℕ) × ((x ++ y) ++ rest ≡ z)) → HasPut a b i j x → PutsText b c j k y first → PutsText a c i k z answer
has-front {a = a} {c = c} {i = i} {k = k} answer err failed (rest, same) h g =
    subst (λ text. PutsText a c i k text answer) same (failed-more rest answer failed (has-last h (has-failed answer err failed g)))
