-- What streams expose if they are not used, and after two uses, one after the other.
use Rattle.std.proofs.Common.{◌≡◌, ℕ, List, [], ◌++◌, Option, Some, None, refl, ap, sym, ◌∙◌, subst, append-nil, append_assoc}
use Rattle.std.specs.Prelude.{unwrap_or}
use Rattle.cf_io.specs.Puts.{Writes}
use Rattle.rv_machine.specs.Streams.{Streams, IsTold, Becomes, Leaves, IsSpent}

-- an input that agrees with what is known: the empty one if nothing is known
abbrev pub some_rest : Option (List ℕ) → List ℕ
some_rest told = unwrap_or told []

pub rest-told : (told : Option (List ℕ)) → IsTold told (some_rest told)
rest-told None = tt
rest-told (Some told) = refl

pub rest-spent : (told : Option (List ℕ)) → IsSpent told (some_rest told)
rest-spent None = refl
rest-spent (Some told) = tt

-- an input from which nothing was taken, and an output to which nothing was written
input-stays : (told : Option (List ℕ)) (rest : List ℕ) → IsTold told rest → Becomes told told rest
input-stays None rest h = tt
input-stays (Some told) rest h = ap Some (sym h)

output-stays : (told : Option (List ℕ)) → Writes told told []
output-stays None = tt
output-stays (Some told) = ap Some (sym (append-nil told))

-- streams that were not used
pub stays : (s : Streams) (rest : List ℕ) → IsTold s.input rest → Leaves s s rest []
stays s rest h = record { input = input-stays s.input rest h; output = output-stays s.output }

-- an input after two reads, and an output after two writes
becomes-again : (a b c : Option (List ℕ)) (x y : List ℕ) → Becomes a b x → Becomes b c y →
    Becomes a c y
becomes-again None b c x y h k = tt
becomes-again (Some told) b c x y h k =
    let P : Option (List ℕ) → Type 0 = λ o. Becomes o c y in
    subst P h k

writes-again : (a b c : Option (List ℕ)) (x y : List ℕ) → Writes a b x → Writes b c y →
    Writes a c (x ++ y)
writes-again None b c x y h k = tt
writes-again (Some told) b c x y h k =
    let P : Option (List ℕ) → Type 0 = λ o. Writes o c y in
    let both : c ≡ Some ((told ++ x) ++ y) = subst P h k in
    both ∙ ap Some (append_assoc told x y)

-- streams after two uses
pub leaves-again : (a b c : Streams) (rest next x y : List ℕ) → Leaves a b rest x →
    Leaves b c next y → Leaves a c next (x ++ y)
leaves-again a b c rest next x y h k = record {
  input = becomes-again a.input b.input c.input rest next h.input k.input;
  output = writes-again a.output b.output c.output x y h.output k.output;
}
