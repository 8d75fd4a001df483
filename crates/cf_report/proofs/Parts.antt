-- What a report has received once it passed on what it had gathered, and once it failed to.
use Rattle.std.proofs.Common.{ℕ, List, ◌++◌, length, Option, Some, None, refl, sym, ap, ◌∙◌, subst, arith}
use Rattle.std.proofs.lemmas.List.{take_all}
use Rattle.cf_io.specs.Puts.{Writes, WritesFront, WritesNothing}
use Rattle.cf_report.specs.Putting.{WritesPart}

-- what it has received is unchanged
pub nothing-written : (told : Option (List ℕ)) → WritesNothing told told
nothing-written None = tt
nothing-written (Some told) = refl

-- unchanged at first, and then a text or a prefix of it is written
pub text-after : (a b c : Option (List ℕ)) (text : List ℕ) → WritesNothing a b → Writes b c text → Writes a c text
text-after None b c text same put = tt
text-after (Some told) b c text same put = subst (λ (o : Option (List ℕ)). Writes o c text) same put

pub front-after : (a b c : Option (List ℕ)) (text : List ℕ) → WritesNothing a b → WritesFront b c text → WritesFront a c text
front-after None b c text same put = tt
front-after (Some told) b c text same put = subst (λ (o : Option (List ℕ)). WritesFront o c text) same put

pub nothing-after : (a b c : Option (List ℕ)) → WritesNothing a b → WritesNothing b c → WritesNothing a c
nothing-after None b c same put = tt
nothing-after (Some told) b c same put = subst (λ (o : Option (List ℕ)). WritesNothing o c) same put

-- a text is written, and then nothing changes
pub text-before : (a b c : Option (List ℕ)) (text : List ℕ) → Writes a b text → WritesNothing b c → Writes a c text
text-before None b c text put same = tt
text-before (Some told) b c text put same = subst (λ (o : Option (List ℕ)). WritesNothing o c) put same

-- the whole text is a part of the text, and so is a prefix
pub part-whole : (a b : Option (List ℕ)) (text : List ℕ) → Writes a b text → WritesPart a b text
part-whole None b text put = tt
part-whole (Some told) b text put =
    (length text, omega arith, put ∙ ap (λ (l : List ℕ). Some (told ++ l)) (sym (take_all (length text) text (omega arith))))

pub part-front : (a b : Option (List ℕ)) (text : List ℕ) → WritesFront a b text → WritesPart a b text
part-front None b text front = tt
part-front (Some told) b text (n, short, is) = (n, omega (arith, short), is)
