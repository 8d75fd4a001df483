-- Marks that are set at the sites that a move uses.
use Rattle.std.proofs.Common.{◌≡◌, ◌∙◌, refl, sym, ap, ℕ, zero, suc, ◌+◌, ◌*◌, ◌<◌, List, [], ◌∷◌, drop, get_or, length, map, Bool, true}
use Rattle.std.proofs.Common.{false, cond, nat_eq, arith}
use Rattle.std.specs.Prelude.{slice_set, ◌&&◌, ◌||◌}
use Rattle.std.specs.List.{AllByRecursion}
use Rattle.std.proofs.lemmas.Bool.Decides.{nat_tests}
use Rattle.cf_semantics.specs.moves.Sites.{Site, Stage, SidingCell, Lane, Fetching, Memory, Code, among, same_site}
use Rattle.cf_timed.proofs.Numbered.{set_length}
use Rattle.run_ledger.specs.Ledgers.{chain_mark_at, place_number, put_marks, with_marks}
use Rattle.run_ledger.specs.declared.ledger.Ledger.{Ledger}
use Rattle.run_ledger.specs.declared.mark.ChainMark.{ChainMark}
use Rattle.cf_timed.specs.Clocks.{IsKept}

-- sites have different numbers
same_number : (x y : Site) → IsKept x → IsKept y → nat_eq (place_number x) (place_number y) ≡ same_site x y
same_number (Stage i) (Stage j) kx ky = grind (arith, nat_tests)
same_number (Stage i) (SidingCell m j) kx ky = grind (arith, nat_tests)
same_number (Stage i) Lane kx ky = grind (arith, nat_tests)
same_number (Stage i) Fetching kx ky = grind (arith, nat_tests)
same_number (Stage i) Memory kx ky = grind (arith, nat_tests)
same_number (Stage i) Code kx ky = grind (arith, nat_tests)
same_number (SidingCell k c) (Stage j) kx ky = grind (arith, nat_tests)
same_number (SidingCell k c) (SidingCell j d) kx ky = cells k c j d kx.1 ky.1
  where
    cells : (k c j d : ℕ) → c < 8 → d < 8 → nat_eq (38 + 8 * k + c) (38 + 8 * j + d) ≡ (nat_eq k j && nat_eq c d)
    cells k c j d small few = by (nat_eq k j) refl (nat_eq c d) refl
      where
        by : (a : Bool) → nat_eq k j ≡ a → (b : Bool) → nat_eq c d ≡ b → nat_eq (38 + 8 * k + c) (38 + 8 * j + d) ≡ (a && b)
        by true e true f = let p : k ≡ j = grind (arith, nat_tests) in let q : c ≡ d = grind (arith, nat_tests) in rw (p, q) (grind (arith, nat_tests))
        by true e false f = let p : k ≡ j = grind (arith, nat_tests) in rw p (grind (arith, nat_tests))
        by false e b f = grind (arith, nat_tests)
same_number (SidingCell k c) Lane kx ky = grind (arith, nat_tests)
same_number (SidingCell k c) Fetching kx ky = grind (arith, nat_tests)
same_number (SidingCell k c) Memory kx ky = grind (arith, nat_tests)
same_number (SidingCell k c) Code kx ky = grind (arith, nat_tests)
same_number Lane (Stage j) kx ky = grind (arith, nat_tests)
same_number Lane (SidingCell m j) kx ky = grind (arith, nat_tests)
same_number Lane Lane kx ky = refl
same_number Lane Fetching kx ky = refl
same_number Lane Memory kx ky = refl
same_number Lane Code kx ky = refl
same_number Fetching (Stage j) kx ky = grind (arith, nat_tests)
same_number Fetching (SidingCell m j) kx ky = grind (arith, nat_tests)
same_number Fetching Lane kx ky = refl
same_number Fetching Fetching kx ky = refl
same_number Fetching Memory kx ky = refl
same_number Fetching Code kx ky = refl
same_number Memory (Stage j) kx ky = grind (arith, nat_tests)
same_number Memory (SidingCell m j) kx ky = grind (arith, nat_tests)
same_number Memory Lane kx ky = refl
same_number Memory Fetching kx ky = refl
same_number Memory Memory kx ky = refl
same_number Memory Code kx ky = refl
same_number Code (Stage j) kx ky = grind (arith, nat_tests)
same_number Code (SidingCell m j) kx ky = grind (arith, nat_tests)
same_number Code Lane kx ky = refl
same_number Code Fetching kx ky = refl
same_number Code Memory kx ky = refl
same_number Code Code kx ky = refl
same_number _ _ kx ky = absurd (search (kx, ky))

-- the number of a site is among those of the ledger
number_within : (x : Site) → IsKept x → place_number x < 102
number_within (Stage i) kept = omega (arith, kept)
number_within (SidingCell k c) kept = omega (arith, kept.0, kept.1)
number_within Lane kept = omega arith
number_within Fetching kept = omega arith
number_within Memory kept = omega arith
number_within Code kept = omega arith
number_within _ kept = absurd (search kept)

-- a mark that was set, and the others
at_put : (marks : List ChainMark) (i j : ℕ) (mark : ChainMark) → i < length marks → chain_mark_at (slice_set marks i mark) j
    ≡ cond (nat_eq j i) mark (chain_mark_at marks j)
at_put [] i j mark within = absurd (omega arith)
at_put (m ∷ marks) zero zero mark within = refl
at_put (m ∷ marks) zero (suc j) mark within = let e : nat_eq (suc j) 0 ≡ false = grind (arith, nat_tests) in rw e refl
at_put (m ∷ marks) (suc i) zero mark within = let e : nat_eq 0 (suc i) ≡ false = grind (arith, nat_tests) in rw e refl
at_put (m ∷ marks) (suc i) (suc j) mark within = let e : nat_eq (suc j) (suc i) ≡ nat_eq j i = grind (arith, nat_tests) in
    rw e (at_put marks i j mark (omega arith))

-- the number of marks is unchanged
pub put_size : (mark : ChainMark) (marks : List ChainMark) (places : List ℕ) → length (put_marks mark marks places) ≡ length marks
put_size mark marks [] = refl
put_size mark marks (place ∷ places) = put_size mark (slice_set marks place mark) places ∙ set_length marks place mark

-- the mark at a site, after one was set at some sites
pub marks_put : (mark : ChainMark) (marks : List ChainMark) (ys : List Site) (x : Site) → length marks ≡ 102 → AllByRecursion IsKept ys → IsKept x →
    chain_mark_at (put_marks mark marks (map place_number ys)) (place_number x) ≡ cond (among x ys) mark (chain_mark_at marks (place_number x))
marks_put mark marks [] x room kept here = refl
marks_put mark marks (y ∷ ys) x room kept here =
    let w = number_within y kept.0 in
    marks_put mark (slice_set marks (place_number y) mark) ys x (set_length marks (place_number y) mark ∙ room) kept.1 here
    ∙ ap (λ (m : ChainMark). cond (among x ys) mark m) (at_put marks (place_number y) (place_number x) mark (omega (arith, w, room))
    ∙ ap (λ (b : Bool). cond b mark (chain_mark_at marks (place_number x))) (same_number x y here kept.0))
    ∙ both (same_site x y) (among x ys)
  where
    both : (a b : Bool) → cond b mark (cond a mark (chain_mark_at marks (place_number x))) ≡ cond (a || b) mark (chain_mark_at marks (place_number x))
    both true true = refl
    both true false = refl
    both false true = refl
    both false false = refl

-- what is set at the next of some sites
pub put_next : (mark : ChainMark) (marks : List ChainMark) (places : List ℕ) (i : ℕ) → i < length places →
    put_marks mark (slice_set marks (get_or places i 0) mark) (drop (i + 1) places) ≡ put_marks mark marks (drop i places)
put_next mark marks [] i within = absurd (omega arith)
put_next mark marks (p ∷ places) zero within = refl
put_next mark marks (p ∷ places) (suc i) within = let e : suc i + 1 ≡ suc (i + 1) = omega arith in rw e (put_next mark marks places i (omega arith))

-- and nothing else in the ledger changes
pub others_next : (l now next : Ledger) (marks : List ChainMark) → now ≡ with_marks l now.marks → next ≡ with_marks now marks → next ≡ with_marks l next.marks
others_next l now next marks before put =
    put ∙ ap (λ (k : Ledger). with_marks k marks) before ∙ ap (with_marks l) (sym (ap (λ (k : Ledger). k.marks) put))
