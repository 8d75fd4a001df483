-- The line of a move, read back, gives that move.
use Rattle.std.proofs.Common.{◌≡◌, ℕ, ◌<◌, ◌^◌, List, [], ◌∷◌, ◌++◌, refl, ◌∙◌, ap, Ok, lit<}
use Rattle.std.specs.Prelude.{codes, decimal}
use Rattle.cf_bind.specs.declared.passenger.Guess.TheVariants as guess
use Rattle.cf_bind.specs.declared.moves.Move.{Move}
use Rattle.cf_bind.specs.declared.moves.Move.TheVariants.{Issue, Emit, Climb, Fall, Meet, Execute, Send, Launch, Slide, Access, Recover, Leave, Exit, Serve}
use Rattle.texts.specs.Hexadecimal.{hex8}
use Rattle.cf_bind.specs.MoveTexts.{text_at_stage as stage_text, move_line}
use Rattle.run_scripts.specs.Kinds.{kind_named}
use Rattle.run_scripts.specs.Words.{first_number, first_address}
use Rattle.texts.specs.Answers.{and_then}
use Rattle.run_scripts.specs.MoveLines.{NumbersBelow, guess_read, at_stage, move_read, words_read, closed, move_in}
use Rattle.run_scripts.proofs.Written.{IsWord, Says, says-word, says-append, decimal-word, decimal-spells, address-word, address-spells}

-- a line is read by its words
by_words : (line : List ℕ) (words : List (List ℕ)) → Says line words → move_in line ≡ words_read words
unfolding move_in
by_words line words h = rw (h.ascii, h.words_are) refl

number_first : (n : ℕ) (words : List (List ℕ)) → n < 10 ^ 9 → first_number (decimal n ∷ words) ≡ Ok n
unfolding first_number
number_first n words h = rw (decimal-spells n h) refl

address_first : (w : ℕ) → w < 2 ^ 32 → first_address (hex8 w ∷ []) ≡ Ok w
unfolding first_address
address_first w h = rw (address-spells w h) refl

-- one word
alone : (name : List ℕ) (mv : Move) → IsWord name → words_read (name ∷ []) ≡ Ok mv → move_in name ≡ Ok mv
alone name mv word reads = by_words name (name ∷ []) (says-word name word) ∙ reads

-- two words
paired : (first second : List ℕ) (mv : Move) → IsWord first → IsWord second → words_read (first ∷ second ∷ []) ≡ Ok mv
    → move_in (first ++ codes " " ++ second) ≡ Ok mv
paired first second mv one two reads =
    by_words _ (first ∷ second ∷ []) (says-append first second (first ∷ []) (second ∷ []) (says-word first one) (says-word second two))
    ∙ reads

-- the name of a kind and the number of a stage
staged : (name : List ℕ) (make : ℕ → Move) (i : ℕ) → IsWord name
    → ((words : List (List ℕ)) → words_read (name ∷ words) ≡ and_then (at_stage make words) closed)
    → i < 10 ^ 9 → move_in (stage_text name i) ≡ Ok (make i)
staged name make i word reads h =
    paired name (decimal i) (make i) word (decimal-word i h)
    (reads (decimal i ∷ []) ∙ ap (λ found. and_then (and_then found (λ n. Ok (make n, []))) closed) (number_first i [] h))

slid : (k c : ℕ) → k < 10 ^ 9 → c < 10 ^ 9 → move_in (codes "slide " ++ decimal k ++ codes " " ++ decimal c) ≡ Ok (Slide k c)
unfolding words_read move_read kind_named
slid k c hk hc =
    let name : IsWord (codes "slide") = record { some = lit< tt; bytes = refl } in
    let front = says-append (codes "slide") (decimal k) _ _ (says-word (codes "slide") name) (says-word (decimal k) (decimal-word k hk)) in
    let line = says-append (codes "slide " ++ decimal k) (decimal c) _ _ front (says-word (decimal c) (decimal-word c hc)) in
    by_words _ (codes "slide" ∷ decimal k ∷ decimal c ∷ []) line
    ∙ rw (number_first k (decimal c ∷ []) hk, number_first c [] hc) refl

aimed : (t : ℕ) → t < 2 ^ 32 → move_in (codes "issue " ++ (codes "to " ++ hex8 t)) ≡ Ok (Issue (guess.To t))
unfolding words_read move_read kind_named guess_read
aimed t h =
    let name : IsWord (codes "issue") = record { some = lit< tt; bytes = refl } in
    let to : IsWord (codes "to") = record { some = lit< tt; bytes = refl } in
    let after = says-append (codes "to") (hex8 t) _ _ (says-word (codes "to") to) (says-word (hex8 t) (address-word t)) in
    let line = says-append (codes "issue") (codes "to " ++ hex8 t) _ _ (says-word (codes "issue") name) after in
    by_words _ (codes "issue" ∷ codes "to" ∷ hex8 t ∷ []) line
    ∙ rw (address_first t h) refl

pub read-back : (mv : Move) → NumbersBelow (10 ^ 9) mv → move_in (move_line mv) ≡ Ok mv
unfolding move_line words_read move_read kind_named guess_read
read-back (Issue guess.Next) h = paired (codes "issue") (codes "next") _ (record { some = lit< tt; bytes = refl })
    (record { some = lit< tt; bytes = refl }) refl
read-back (Issue guess.Taken) h = paired (codes "issue") (codes "taken") _ (record { some = lit< tt; bytes = refl })
    (record { some = lit< tt; bytes = refl }) refl
read-back (Issue guess.Wait) h = paired (codes "issue") (codes "wait") _ (record { some = lit< tt; bytes = refl })
    (record { some = lit< tt; bytes = refl }) refl
read-back (Issue (guess.To t)) h = aimed t h
read-back Emit h = alone (codes "emit") Emit (record { some = lit< tt; bytes = refl }) refl
read-back (Climb i) h = staged (codes "climb") Climb i (record { some = lit< tt; bytes = refl }) (λ words. refl) h
read-back (Fall i) h = staged (codes "fall") Fall i (record { some = lit< tt; bytes = refl }) (λ words. refl) h
read-back (Meet i) h = staged (codes "meet") Meet i (record { some = lit< tt; bytes = refl }) (λ words. refl) h
read-back (Execute i) h = staged (codes "execute") Execute i (record { some = lit< tt; bytes = refl }) (λ words. refl) h
read-back (Send i) h = staged (codes "send") Send i (record { some = lit< tt; bytes = refl }) (λ words. refl) h
read-back (Launch i) h = staged (codes "launch") Launch i (record { some = lit< tt; bytes = refl }) (λ words. refl) h
read-back (Slide k c) h = slid k c h.0 h.1
read-back Access h = alone (codes "access") Access (record { some = lit< tt; bytes = refl }) refl
read-back (Recover i) h = staged (codes "recover") Recover i (record { some = lit< tt; bytes = refl }) (λ words. refl) h
read-back Leave h = alone (codes "leave") Leave (record { some = lit< tt; bytes = refl }) refl
read-back Exit h = alone (codes "exit") Exit (record { some = lit< tt; bytes = refl }) refl
read-back Serve h = alone (codes "serve") Serve (record { some = lit< tt; bytes = refl }) refl

pub ruleset reading_back = (read-back)
