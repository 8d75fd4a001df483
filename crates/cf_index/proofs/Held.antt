-- Which moves are not an Issue, and when there are no such moves.
use Rattle.std.proofs.Common.{◌≡◌, ◌∙◌, refl, ℕ, ◌+◌, ◌<◌, ◌≤◌, List, [], ◌∷◌, ◌++◌, length, map, Bool, true, false, nat_lt, arith}
use Rattle.std.specs.Prelude.{not}
use Rattle.std.proofs.lemmas.Bool.Decides.{nat_tests}
use Rattle.std.proofs.lemmas.List.{length-append}
use Rattle.std.proofs.lemmas.List.Elements.{filter-append}
use Rattle.cf_bind.specs.declared.moves.Move.{Move}
use Rattle.cf_bind.specs.declared.moves.Move.TheVariants.{Climb, Fall, Meet, Execute, Send, Launch, Recover, Access, Leave, Exit, Serve}
use Rattle.cf_semantics.specs.claims.Weight.{is_issue}
use Rattle.cf_semantics.specs.moves.Candidates.{other_moves, held_back}
use Rattle.cf_index.specs.declared.passing.Passing.{Passing}
use Rattle.cf_index.specs.declared.leaving.Leaving.{Leaving}
use Rattle.cf_index.specs.Places.{set_places}
use Rattle.cf_index.specs.Listed.{flagged, at_word, slide_at, slides_of, passing_moves, leaving_moves}

-- a list of moves none of which is an Issue
kept : (f : ℕ → Move) (ks : List ℕ) → ((k : ℕ) → is_issue (f k) ≡ false) → other_moves (map f ks) ≡ map f ks
kept f [] none = refl
kept f (k ∷ ks) none = rw (none k, kept f ks none) refl

-- the moves of a word are not Issues, if their kind is not
others_word : (kind : ℕ → Move) (w : ℕ) → ((k : ℕ) → is_issue (kind k) ≡ false) → other_moves (at_word kind w) ≡ at_word kind w
unfolding at_word
others_word kind w none = kept (λ k. kind (k + 1)) (set_places 64 w) (λ k. none (k + 1))

others_slides : (w : ℕ) → other_moves (slides_of w) ≡ slides_of w
unfolding slides_of
others_slides w = kept slide_at (set_places 64 w) (λ k. refl)

others_flag : (b : Bool) (mv : Move) → is_issue mv ≡ false → other_moves (flagged b mv) ≡ flagged b mv
others_flag true mv none = rw none refl
others_flag false mv none = refl

-- nor are the moves of two parts, if neither part has an Issue
pub others_parts : (xs ys : List Move) → other_moves xs ≡ xs → other_moves ys ≡ ys → other_moves (xs ++ ys) ≡ xs ++ ys
others_parts xs ys p q = filter-append (λ mv. not (is_issue mv)) xs ys ∙ rw (p, q) refl

pub others_passing : (p : Passing) → other_moves (passing_moves p) ≡ passing_moves p
unfolding passing_moves
others_passing p =
    others_parts _ _ (others_word Climb p.climb (λ k. refl)) (
    others_parts _ _ (others_word Fall p.fall (λ k. refl)) (
    others_parts _ _ (others_word Meet p.meet (λ k. refl)) (
    others_parts _ _ (others_word Execute p.execute (λ k. refl)) (
    others_parts _ _ (others_word Send p.send (λ k. refl)) (others_word Launch p.launch (λ k. refl))))))

others_leaving : (l : Leaving) → other_moves (leaving_moves l) ≡ leaving_moves l
unfolding leaving_moves
others_leaving l =
    others_parts _ _ (others_flag l.access Access refl) (
    others_parts _ _ (others_word Recover l.recover (λ k. refl)) (
    others_parts _ _ (others_flag l.leave Leave refl) (
    others_parts _ _ (others_flag l.exit Exit refl) (others_flag l.serve Serve refl))))

-- what does not enter
pub others_after : (p : Passing) (w : ℕ) (l : Leaving) → other_moves (passing_moves p ++ (slides_of w ++ leaving_moves l)) ≡ passing_moves p
    ++ (slides_of w ++ leaving_moves l)
others_after p w l = others_parts _ _ (others_passing p) (others_parts _ _ (others_slides w) (others_leaving l))

-- Issues are held back if there are other moves
held_others : (es others rest : List Move) → others ≡ other_moves es → other_moves rest ≡ rest → 0 < length others + length rest →
    others ++ rest ≡ held_back (es ++ rest)
unfolding held_back
held_others es others rest e none some =
    let f : other_moves (es ++ rest) ≡ others ++ rest = filter-append (λ mv. not (is_issue mv)) es rest ∙ rw (none, ← e) refl in
    let t : nat_lt 0 (length (others ++ rest)) ≡ true = rw (length-append others rest) (grind (arith, nat_tests)) in
    rw (f, t) refl

-- and they are not if there are none
held_alone : (es others rest : List Move) → others ≡ other_moves es → other_moves rest ≡ rest → length others + length rest ≡ 0 →
    es ++ rest ≡ held_back (es ++ rest)
unfolding held_back
held_alone es others rest e none alone =
    let f : other_moves (es ++ rest) ≡ others ++ rest = filter-append (λ mv. not (is_issue mv)) es rest ∙ rw (none, ← e) refl in
    let t : nat_lt 0 (length (others ++ rest)) ≡ false = rw (length-append others rest) (grind (arith, nat_tests)) in
    rw (f, t) refl

-- the same, given how many moves each part has
counted : (others ps ss ls : List Move) (a b c d : ℕ) → a ≡ length others → b ≡ length ps → c ≡ length ss → d ≡ length ls →
    length others + length (ps ++ (ss ++ ls)) ≡ a + b + c + d
counted others ps ss ls a b c d p q r s = rw (length-append ps (ss ++ ls), length-append ss ls) (omega arith)

pub holds_others : (es others ps ss ls : List Move) (a b c d : ℕ) → others ≡ other_moves es → other_moves (ps ++ (ss ++ ls)) ≡ ps ++ (ss ++ ls) →
    a ≡ length others → b ≡ length ps → c ≡ length ss → d ≡ length ls → 0 < a + b + c + d → others ++ (ps ++ (ss ++ ls)) ≡ held_back (es ++ (ps ++ (ss ++ ls)))
holds_others es others ps ss ls a b c d e none p q r s some = let n = counted others ps ss ls a b c d p q r s in
    held_others es others (ps ++ (ss ++ ls)) e none (omega arith)

pub holds_alone : (es others ps ss ls : List Move) (a b c d : ℕ) → others ≡ other_moves es → other_moves (ps ++ (ss ++ ls)) ≡ ps ++ (ss ++ ls) →
    a ≡ length others → b ≡ length ps → c ≡ length ss → d ≡ length ls → a + b + c + d ≤ 0 → es ++ (ps ++ (ss ++ ls)) ≡ held_back (es ++ (ps ++ (ss ++ ls)))
holds_alone es others ps ss ls a b c d e none p q r s alone = let n = counted others ps ss ls a b c d p q r s in
    held_alone es others (ps ++ (ss ++ ls)) e none (omega arith)
