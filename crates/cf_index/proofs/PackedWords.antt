-- The candidates of a small processor as the bits of two words, part by part.
use Rattle.std.proofs.Common.{◌≡◌, ◌∙◌, sym, refl, ap, ℕ, zero, suc, ◌+◌, ◌-◌, ◌*◌, ◌/◌, ◌%◌, ◌^◌, ◌<◌, ◌≤◌, List, [], ◌∷◌, ◌++◌, length, map, append_assoc, append-nil, Bool, true, false, Some, nat_lt, arith}
use Rattle.std.specs.Prelude.{◌&&◌, ◌||◌, ◌==◌, filter, slice_get, if◌then◌else◌}
use mir.Val.{bool_byte}
use Rattle.std.proofs.Math.Nat.{pow-le-pow_right}
use Rattle.std.proofs.lemmas.Bool.Decides.{nat_tests}
use Rattle.std.specs.List.{list_any}
use Rattle.std.proofs.lemmas.List.Folds.{list_any-append}
use Rattle.std.proofs.lemmas.List.{length-append, length-map, map-append}
use Rattle.std.proofs.lemmas.List.Elements.{filter-append}
use Rattle.std.proofs.lemmas.Option.{slice_get-map}
use Rattle.run_options.specs.declared.guess_rule.GuessRule.{GuessRule}
use Rattle.cf_layout.specs.Layout.{Plan}
use Rattle.cf_layout.specs.Words.{has_bit}
use Rattle.cf_bind.specs.declared.passenger.Guess.TheVariants.{Next, Taken, Wait}
use Rattle.cf_bind.specs.declared.moves.Move.{Move}
use Rattle.cf_bind.specs.declared.moves.Move.TheVariants.{Issue, Emit, Climb, Fall, Meet, Execute, Send, Launch, Access, Recover, Leave, Exit, Serve}
use Rattle.cf_semantics.specs.moves.Candidates.{at_stages, counted_from, held_back, slides_from}
use Rattle.cf_semantics.specs.state.Options.{is_some}
use Rattle.cf_semantics.specs.state.State.{State, siding_at}
use Rattle.cf_stages.proofs.Bits.{word-lt}
use Rattle.cf_core.specs.declared.masks.Masks.{Masks}
use Rattle.cf_core.specs.Masks.{masks_of}
use Rattle.cf_index.specs.declared.passing.Passing.{Passing}
use Rattle.cf_index.specs.Allowed.{HasStages, all_leaving, all_passing, allowed_others, is_allowed, kept_issues, may_issue, passing_of, withheld, word_allowed}
use Rattle.cf_index.specs.GuessRules.{guided, keeps_move}
use Rattle.cf_index.specs.Listed.{at_word, flagged, passing_moves, slide_at, slides_of}
use Rattle.cf_index.specs.Order.{is_slide}
use Rattle.cf_index.specs.Packed.{FitsEight, packed_at, packed_from, packed_moves, packed_with}
use Rattle.cf_index.specs.Places.{set_places}
use Rattle.cf_index.proofs.AllowedWords.{passing-moves}
use Rattle.cf_index.proofs.Counted.{map_choice}
use Rattle.cf_index.proofs.EmptySidings.{no_leaving}
use Rattle.cf_index.proofs.Filled.{stages_chosen}
use Rattle.cf_index.proofs.Firsts.{guided_others, guided_parts}
use Rattle.cf_index.proofs.Guided.{three-flagged}
use Rattle.cf_index.proofs.Parts.{length-slides_of, slides_of-zero}
use Rattle.cf_index.proofs.Places.{lowest, places_split, places_zero}

-- moves of the same bits, by two functions that agree on them
same_kept : (f g : ℕ → Move) (p : ℕ → Bool) (a n : ℕ) → ((k : ℕ) → a ≤ k → k < a + n → f k ≡ g k) →
    map f (filter p (counted_from a n)) ≡ map g (filter p (counted_from a n))
same_kept f g p a zero same = refl
same_kept f g p a (suc n) same =
    let h = same a (omega arith) (omega arith) in
    let r = same_kept f g p (suc a) n (λ k low high. same k (omega arith) (omega arith)) in
    rw (map_choice f (p a) a (filter p (counted_from (suc a) n)), map_choice g (p a) a (filter p (counted_from (suc a) n)), h, r) refl

same_moves : (f g : ℕ → Move) (n w : ℕ) → ((k : ℕ) → k < n → f k ≡ g k) → map f (set_places n w) ≡ map g (set_places n w)
unfolding set_places
same_moves f g n w same = same_kept f g (has_bit w) 0 n (λ k low high. same k (omega arith))

-- all bits are those from 0 on
pub from_first : (w : ℕ) → packed_moves w ≡ packed_from 0 64 w
unfolding packed_moves packed_from
from_first w = same_moves packed_at (λ j. packed_at (0 + j)) 64 w (λ k below. ap packed_at (omega arith))

-- the bits of two parts
shifted : (c a : ℕ) (ks : List ℕ) → map (λ j. packed_at (c + j)) (map (λ j. a + j) ks) ≡ map (λ j. packed_at (c + a + j)) ks
shifted c a [] = refl
shifted c a (k ∷ ks) = let e : c + (a + k) ≡ c + a + k = omega arith in rw (e, shifted c a ks) refl

joined : (c a b low high w : ℕ) → w % 2 ^ a ≡ low → w / 2 ^ a ≡ high → packed_from c (a + b) w ≡ packed_from c a low ++ packed_from (c + a) b high
unfolding packed_from
joined c a b low high w r q =
    rw (
      places_split a b w,
      r,
      q,
      map-append (λ j. packed_at (c + j)) (set_places a low) (map (λ j. a + j) (set_places b high)),
      shifted c a (set_places b high),
    ) refl

-- no bits
pub from_none : (c n : ℕ) → packed_from c n 0 ≡ []
unfolding packed_from
from_none c n = rw (places_zero n) refl

-- the bits of eight stages
narrow : (w : ℕ) → w < 256 → set_places 64 w ≡ set_places 8 w
narrow w small =
    let r : w % 2 ^ 8 ≡ w = omega arith in
    let q : w / 2 ^ 8 ≡ 0 = omega arith in
    places_split 8 56 w ∙ rw (r, q, places_zero 56, append-nil) refl

eight : (kind : ℕ → Move) (c w : ℕ) → ((j : ℕ) → j < 8 → packed_at (c + j) ≡ kind (j + 1)) → w < 256 → packed_from c 8 w ≡ at_word kind w
unfolding packed_from at_word
eight kind c w same small = rw (narrow w small) (same_moves (λ j. packed_at (c + j)) (λ j. kind (j + 1)) 8 w same)

eight_joined : (kind : ℕ → Move) (c b low high : ℕ) → ((j : ℕ) → j < 8 → packed_at (c + j) ≡ kind (j + 1)) → low < 256 →
    packed_from c (8 + b) (low + 256 * high) ≡ at_word kind low ++ packed_from (c + 8) b high
eight_joined kind c b low high same small =
    joined c 8 b low high (low + 256 * high) (omega arith) (omega arith) ∙ ap (λ (l : List Move). l ++ packed_from (c + 8) b high) (eight kind c low same small)

-- the bit of a flag
flag_bit : (c : ℕ) (f : Bool) (mv : Move) → packed_at (c + 0) ≡ mv → packed_from c 1 (bool_byte f) ≡ flagged f mv
unfolding packed_from set_places has_bit
flag_bit c true mv e = ap (λ (m : Move). m ∷ []) e
flag_bit c false mv e = refl

flag_joined : (mv : Move) (c b : ℕ) (f : Bool) (high : ℕ) → packed_at (c + 0) ≡ mv →
    packed_from c (1 + b) (bool_byte f + 2 * high) ≡ flagged f mv ++ packed_from (c + 1) b high
flag_joined mv c b f high e =
    joined c 1 b (bool_byte f) high (bool_byte f + 2 * high) (low f) (rest f) ∙ ap (λ (l : List Move). l ++ packed_from (c + 1) b high) (flag_bit c f mv e)
  where
    low : (f : Bool) → (bool_byte f + 2 * high) % 2 ^ 1 ≡ bool_byte f
    low true = omega arith
    low false = omega arith

    rest : (f : Bool) → (bool_byte f + 2 * high) / 2 ^ 1 ≡ high
    rest true = omega arith
    rest false = omega arith

-- which moves the bits are
climb_at : (j : ℕ) → j < 8 → packed_at (4 + j) ≡ Climb (j + 1)
unfolding packed_at
climb_at j below = let q : (4 + j + 4) / 8 ≡ 1 = omega arith in let r : (4 + j + 4) % 8 + 1 ≡ j + 1 = omega arith in rw (q, r) refl

fall_at : (j : ℕ) → j < 8 → packed_at (12 + j) ≡ Fall (j + 1)
unfolding packed_at
fall_at j below = let q : (12 + j + 4) / 8 ≡ 2 = omega arith in let r : (12 + j + 4) % 8 + 1 ≡ j + 1 = omega arith in rw (q, r) refl

meet_at : (j : ℕ) → j < 8 → packed_at (20 + j) ≡ Meet (j + 1)
unfolding packed_at
meet_at j below = let q : (20 + j + 4) / 8 ≡ 3 = omega arith in let r : (20 + j + 4) % 8 + 1 ≡ j + 1 = omega arith in rw (q, r) refl

execute_at : (j : ℕ) → j < 8 → packed_at (28 + j) ≡ Execute (j + 1)
unfolding packed_at
execute_at j below = let q : (28 + j + 4) / 8 ≡ 4 = omega arith in let r : (28 + j + 4) % 8 + 1 ≡ j + 1 = omega arith in rw (q, r) refl

send_at : (j : ℕ) → j < 8 → packed_at (36 + j) ≡ Send (j + 1)
unfolding packed_at
send_at j below = let q : (36 + j + 4) / 8 ≡ 5 = omega arith in let r : (36 + j + 4) % 8 + 1 ≡ j + 1 = omega arith in rw (q, r) refl

launch_at : (j : ℕ) → j < 8 → packed_at (44 + j) ≡ Launch (j + 1)
unfolding packed_at
launch_at j below = let q : (44 + j + 4) / 8 ≡ 6 = omega arith in let r : (44 + j + 4) % 8 + 1 ≡ j + 1 = omega arith in rw (q, r) refl

recover_at : (j : ℕ) → j < 8 → packed_at (53 + j) ≡ Recover (j + 1)
unfolding packed_at
recover_at zero below = refl
recover_at (suc zero) below = refl
recover_at (suc (suc zero)) below = refl
recover_at (suc (suc (suc zero))) below = refl
recover_at (suc (suc (suc (suc zero)))) below = refl
recover_at (suc (suc (suc (suc (suc zero))))) below = refl
recover_at (suc (suc (suc (suc (suc (suc zero)))))) below = refl
recover_at (suc (suc (suc (suc (suc (suc (suc zero))))))) below = refl
recover_at (suc (suc (suc (suc (suc (suc (suc (suc j)))))))) below = absurd (omega arith)

one_at : (packed_at (0 + 0) ≡ Issue Next) × (packed_at (1 + 0) ≡ Issue Taken) × (packed_at (2 + 0) ≡ Issue Wait) × (packed_at (3 + 0) ≡ Emit)
    × (packed_at (52 + 0) ≡ Access) × (packed_at (61 + 0) ≡ Leave) × (packed_at (62 + 0) ≡ Exit) × (packed_at (63 + 0) ≡ Serve)
unfolding packed_at
one_at = (refl, refl, refl, refl, refl, refl, refl, refl)

-- the bits of the moves within the stages
passing_low : (p : Passing) → FitsEight p →
    packed_from 4 48 (p.climb + 256 * (p.fall + 256 * (p.meet + 256 * (p.execute + 256 * (p.send + 256 * (p.launch + 256 * 0)))))) ≡ passing_moves p
unfolding passing_moves
passing_low p fits =
    let launch = eight_joined Launch 44 0 p.launch 0 launch_at fits.launch ∙ rw (from_none 52 0, append-nil) refl in
    let send = eight_joined Send 36 8 p.send _ send_at fits.send in
    let execute = eight_joined Execute 28 16 p.execute _ execute_at fits.execute in
    let meet = eight_joined Meet 20 24 p.meet _ meet_at fits.meet in
    let fall = eight_joined Fall 12 32 p.fall _ fall_at fits.fall in
    let climb = eight_joined Climb 4 40 p.climb _ climb_at fits.climb in
    climb ∙ behind (at_word Climb p.climb) (
    fall ∙ behind (at_word Fall p.fall) (
    meet ∙ behind (at_word Meet p.meet) (
    execute ∙ behind (at_word Execute p.execute) (
    send ∙ behind (at_word Send p.send) launch))))
  where
    behind : (xs : List Move) {ys zs : List Move} → ys ≡ zs → xs ++ ys ≡ xs ++ zs
    behind xs e = ap (λ (l : List Move). xs ++ l) e

pub passing_part : (p : Passing) (rest : ℕ) → FitsEight p →
    packed_from 4 48 ((p.climb + 256 * (p.fall + 256 * (p.meet + 256 * (p.execute + 256 * (p.send + 256 * (p.launch + 256 * rest)))))) % 2 ^ 48)
    ≡ passing_moves p
passing_part p rest fits =
    let e : (p.climb + 256 * (p.fall + 256 * (p.meet + 256 * (p.execute + 256 * (p.send + 256 * (p.launch + 256 * rest)))))) % 2 ^ 48
    ≡ p.climb + 256 * (p.fall + 256 * (p.meet + 256 * (p.execute + 256 * (p.send + 256 * (p.launch + 256 * 0)))))
    = omega (arith, fits.climb, fits.fall, fits.meet, fits.execute, fits.send, fits.launch) in
    ap (packed_from 4 48) e ∙ passing_low p fits

-- and those that follow them
pub passing_rest : (p : Passing) (rest : ℕ) → FitsEight p →
    (p.climb + 256 * (p.fall + 256 * (p.meet + 256 * (p.execute + 256 * (p.send + 256 * (p.launch + 256 * rest)))))) / 2 ^ 48 ≡ rest
passing_rest p rest fits = omega (arith, fits.climb, fits.fall, fits.meet, fits.execute, fits.send, fits.launch)

pub ruleset passing_parts = (passing_part, passing_rest)

-- the bits of each Issue
pub issues_joined : (n t w : Bool) → packed_from 0 3 (bool_byte n + 2 * (bool_byte t + 2 * bool_byte w))
    ≡ flagged n (Issue Next) ++ (flagged t (Issue Taken) ++ flagged w (Issue Wait))
issues_joined n t w =
    flag_joined (Issue Next) 0 2 n _ one_at.0 ∙ ap (λ (l : List Move). flagged n (Issue Next) ++ l) (
    flag_joined (Issue Taken) 1 1 t _ one_at.1 ∙ ap (λ (l : List Move). flagged t (Issue Taken) ++ l) (flag_bit 2 w (Issue Wait) one_at.2))

-- the bits of all
pub all_joined : (issues others : ℕ) → issues < 8 → packed_moves (issues + 8 * others) ≡ packed_from 0 3 issues ++ packed_from 3 61 others
all_joined issues others small = from_first (issues + 8 * others) ∙ joined 0 3 61 issues others (issues + 8 * others) (omega arith) (omega arith)

-- How many they are, and which is at a place --

pub length_packed : (w : ℕ) → length (packed_moves w) ≡ length (set_places 64 w)
unfolding packed_moves
length_packed w = length-map (set_places 64 w) packed_at

pub picked : (w k i : ℕ) → Some k ≡ slice_get (set_places 64 w) i → Some (packed_at k) ≡ slice_get (packed_moves w) i
unfolding packed_moves
picked w k i e = rw (slice_get-map packed_at (set_places 64 w) i, ← e) refl

-- The words of a processor --

few_stages : (plan : Plan) (s : State) (kind : ℕ → Move) → plan.stages ≤ 8 → word_allowed plan s kind < 256
few_stages plan s kind few =
    let small = word-lt (λ i. is_allowed plan s (kind i)) plan.stages in
    let most : 2 ^ plan.stages ≤ 2 ^ 8 = pow-le-pow_right (omega arith) few in
    omega (arith, small, most)

pub fits : (plan : Plan) (s : State) → plan.stages ≤ 8 → FitsEight (passing_of plan s)
unfolding passing_of
fits plan s few = record {
  climb = few_stages plan s Climb few;
  fall = few_stages plan s Fall few;
  meet = few_stages plan s Meet few;
  execute = few_stages plan s Execute few;
  send = few_stages plan s Send few;
  launch = few_stages plan s Launch few;
}

pub few_recovers : (plan : Plan) (s : State) (m : Masks) → m ≡ masks_of plan s → plan.stages ≤ 8 → m.recover < 256
unfolding masks_of
few_recovers plan s m e few = rw e (few_stages plan s Recover few)

-- the flags of what issues, and all the others
pub issues_kept : (rule : GuessRule) (plan : Plan) (s : State) (n t w : Bool) → n ≡ may_issue rule plan s Next → t ≡ may_issue rule plan s Taken →
    w ≡ may_issue rule plan s Wait → flagged n (Issue Next) ++ (flagged t (Issue Taken) ++ flagged w (Issue Wait)) ≡ kept_issues rule plan s
issues_kept rule plan s n t w next taken wait =
    let e = three-flagged (keeps_move rule plan s) (is_allowed plan s) n t w next taken wait in
    rw append-nil at e

flag_step : (p : Move → Bool) (b : Bool) (mv : Move) (xs ys : List Move) → b ≡ p mv → xs ≡ filter p ys → flagged b mv ++ xs ≡ filter p (mv ∷ ys)
flag_step p true mv xs ys e f = rw (← e) (ap (λ (l : List Move). mv ∷ l) f)
flag_step p false mv xs ys e f = rw (← e) f

flag_alone : (p : Move → Bool) (b : Bool) (mv : Move) → b ≡ p mv → flagged b mv ≡ filter p (mv ∷ [])
flag_alone p true mv e = rw (← e) refl
flag_alone p false mv e = rw (← e) refl

-- Leave, Exit and Serve
pub ends_joined : (plan : Plan) (s : State) (leave exit serve : Bool) → leave ≡ is_allowed plan s Leave → exit ≡ is_allowed plan s Exit →
    serve ≡ is_allowed plan s Serve → packed_from 61 3 (bool_byte leave + 2 * (bool_byte exit + 2 * bool_byte serve))
    ≡ filter (is_allowed plan s) (Leave ∷ Exit ∷ Serve ∷ [])
ends_joined plan s leave exit serve leaves exits serves =
    flag_joined Leave 61 2 leave _ one_at.5 ∙ flag_step (is_allowed plan s) leave Leave _ (Exit ∷ Serve ∷ []) leaves (
    flag_joined Exit 62 1 exit _ one_at.6 ∙ flag_step (is_allowed plan s) exit Exit _ (Serve ∷ []) exits (
    flag_bit 63 serve Serve one_at.7 ∙ flag_alone (is_allowed plan s) serve Serve serves))

-- and Access and Recover before them
pub leaving_joined : (plan : Plan) (s : State) (access : Bool) (recover ends : ℕ) → plan.stages ≤ 32 → recover < 256 → access ≡ is_allowed plan s Access →
    HasStages plan s Recover recover → packed_from 61 3 ends ≡ filter (is_allowed plan s) (Leave ∷ Exit ∷ Serve ∷ []) →
    packed_from 52 12 (bool_byte access + 2 * (recover + 256 * ends)) ≡ filter (is_allowed plan s) (all_leaving plan)
leaving_joined plan s access recover ends few small accesses recovers e =
    let q = is_allowed plan s in
    let last = Leave ∷ Exit ∷ Serve ∷ [] in
    flag_joined Access 52 11 access _ one_at.4 ∙ flag_step q access Access _ (at_stages plan Recover ++ last) accesses (
    eight_joined Recover 53 3 recover ends recover_at small ∙ rw (stages_chosen plan s Recover recover few recovers, e)
    (sym (filter-append q (at_stages plan Recover) last)))

-- where the sidings are empty, neither is there
pub idle_joined : (plan : Plan) (s : State) (ends : ℕ) → ((k : ℕ) → list_any is_some (siding_at s k) ≡ false) →
    packed_from 61 3 ends ≡ filter (is_allowed plan s) (Leave ∷ Exit ∷ Serve ∷ []) →
    packed_from 52 12 (512 * ends) ≡ filter (is_allowed plan s) (all_leaving plan)
idle_joined plan s ends none e =
    joined 52 9 3 0 ends (512 * ends) (omega arith) (omega arith) ∙ rw (from_none 52 9) e ∙ sym (no_leaving plan s none)

-- Emit, before the moves within the stages
emit_low : (f : Bool) (passes : ℕ) → (bool_byte f + 2 * passes) % 2 ^ 49 ≡ bool_byte f + 2 * (passes % 2 ^ 48)
emit_low true passes = omega arith
emit_low false passes = omega arith

pub stages_part : (plan : Plan) (s : State) (emit : Bool) (p : Passing) (passes : ℕ) → plan.stages ≤ 8 → emit ≡ is_allowed plan s Emit → p ≡ passing_of plan s →
    packed_from 4 48 (passes % 2 ^ 48) ≡ passing_moves p → packed_from 3 49 ((bool_byte emit + 2 * passes) % 2 ^ 49)
    ≡ filter (is_allowed plan s) (Emit ∷ []) ++ filter (is_allowed plan s) (all_passing plan)
stages_part plan s emit p passes small emits words all =
    let few : plan.stages ≤ 32 = omega (arith, small) in
    let passed = ap passing_moves words ∙ passing-moves plan s few in
    ap (packed_from 3 49) (emit_low emit passes) ∙ flag_joined Emit 3 48 emit (passes % 2 ^ 48) one_at.3
    ∙ rw (all, passed, flag_alone (is_allowed plan s) emit Emit emits) refl

-- and what follows both
pub leaving_part : (f : Bool) (passes rest : ℕ) → passes / 2 ^ 48 ≡ rest → (bool_byte f + 2 * passes) / 2 ^ 49 ≡ rest
leaving_part true passes rest e = omega (arith, e)
leaving_part false passes rest e = omega (arith, e)

-- a word other than 0 has a number
has_some : (xs : List ℕ) (k : ℕ) → slice_get xs 0 ≡ Some k → 0 < length xs
has_some [] k e = absurd (cc)
has_some (x ∷ xs) k e = omega arith

-- where no other move is a candidate, none is held back
offered_by : (held any : Bool) (rule : GuessRule) (plan : Plan) (s : State) → any ≡ nat_lt 0 (length (allowed_others plan s)) →
    (if held && any then [] else kept_issues rule plan s) ++ allowed_others plan s ≡ withheld held (guided rule plan s)
unfolding held_back
offered_by false any rule plan s some = sym (guided_parts rule plan s)
offered_by true true rule plan s some = rw (guided_others rule plan s, ← some) refl
offered_by true false rule plan s some = rw (guided_others rule plan s, ← some) (sym (guided_parts rule plan s))

-- a word has a bit where it is not 0
some_move : (issues others : ℕ) → others < 2 ^ 61 → 0 < others → 0 < length (packed_from 3 61 others)
some_move issues others small some =
    let l = lowest (0 + 8 * others) (omega arith) (omega arith) in
    let all = all_joined 0 others (omega arith) ∙ ap (λ (l : List Move). l ++ packed_from 3 61 others) (from_none 0 3) in
    let e = sym (length_packed (0 + 8 * others)) ∙ ap length all in
    let more : 0 < length (set_places 64 (0 + 8 * others)) = has_some (set_places 64 (0 + 8 * others)) _ l in
    omega (arith, e, more)

any_others : (others : ℕ) (xs : List Move) → others < 2 ^ 61 → packed_from 3 61 others ≡ xs → nat_lt 0 others ≡ nat_lt 0 (length xs)
any_others zero xs small e = let n : length xs ≡ 0 = ap length (sym e ∙ from_none 3 61) in grind (arith, nat_tests)
any_others (suc k) xs small e = let n = some_move 0 (suc k) small (omega arith) in let l = ap length e in grind (arith, nat_tests)

any_slides : (slides : ℕ) (xs : List Move) → slides < 2 ^ 64 → slides_of slides ≡ xs → nat_lt 0 slides ≡ nat_lt 0 (length xs)
any_slides zero xs small e = let n : length xs ≡ 0 = ap length (sym e ∙ slides_of-zero) in grind (arith, nat_tests)
any_slides (suc k) xs small e =
    let l = lowest (suc k) (omega arith) small in
    let there = has_some (set_places 64 (suc k)) _ l in
    let n = sym (length-slides_of (suc k)) ∙ ap length e in
    let some : 0 < length xs = omega (arith, n, there) in
    grind (arith, nat_tests)

-- The two words --

low_moves : (w : ℕ) → w < 2 ^ 52 → packed_moves w ≡ packed_from 0 52 w
low_moves w small = from_first w ∙ joined 0 52 12 w 0 w (omega arith) (omega arith) ∙ rw (from_none 52 12, append-nil) refl

high_moves : (w : ℕ) → packed_moves (w - w % 2 ^ 52) ≡ packed_from 52 12 (w / 2 ^ 52)
high_moves w = from_first (w - w % 2 ^ 52) ∙ joined 0 52 12 0 (w / 2 ^ 52) (w - w % 2 ^ 52) (omega arith) (omega arith) ∙ rw (from_none 0 52) refl

parted : (w slides : ℕ) → packed_with w slides ≡ packed_from 0 52 (w % 2 ^ 52) ++ (slides_of slides ++ packed_from 52 12 (w / 2 ^ 52))
unfolding packed_with
parted w slides = rw (low_moves (w % 2 ^ 52) (omega arith), high_moves w) refl

-- without a Slide they are the moves of the first word
pub without_slides : (w slides : ℕ) → slides ≡ 0 → packed_with w slides ≡ packed_moves w
without_slides w slides none =
    rw none (parted w 0 ∙ rw slides_of-zero (sym (from_first w ∙ joined 0 52 12 (w % 2 ^ 52) (w / 2 ^ 52) w refl refl)))

-- how many they are
pub length_with : (w slides : ℕ) → length (packed_moves w) + length (slides_of slides) ≡ length (packed_with w slides)
unfolding packed_with
length_with w slides =
    let low = packed_moves (w % 2 ^ 52) in
    let high = packed_moves (w - w % 2 ^ 52) in
    let whole = ap length (without_slides w 0 refl) in
    let a = length-append low (slides_of slides ++ high) in
    let b = length-append (slides_of slides) high in
    let c = length-append low (slides_of 0 ++ high) in
    let d = length-append (slides_of 0) high in
    let none = ap length slides_of-zero in
    omega (arith, whole, a, b, c, d, none)

pub ruleset parting = (without_slides, length_with)

-- Slides are among them where the second word is not 0
no_slide : (b : Bool) (m n : Move) → is_slide m ≡ false → is_slide n ≡ false → is_slide (if b then m else n) ≡ false
no_slide true m n e f = e
no_slide false m n e f = f

no_slide_at : (k : ℕ) → is_slide (packed_at k) ≡ false
unfolding packed_at
no_slide_at k =
    let g = (k + 4) / 8 in
    let i = (k + 4) % 8 + 1 in
    let wait = no_slide (k == 2) (Issue Wait) Emit refl refl in
    let taken = no_slide (k == 1) (Issue Taken) _ refl wait in
    let enters = no_slide (k == 0) (Issue Next) _ refl taken in
    let j = k - 52 in
    let serve = no_slide (j == 11) Serve (Recover j) refl refl in
    let exit = no_slide (j == 10) Exit _ refl serve in
    let leave = no_slide (j == 9) Leave _ refl exit in
    let leaves = no_slide (j == 0) Access _ refl leave in
    let launch = no_slide (g == 6) (Launch i) _ refl leaves in
    let send = no_slide (g == 5) (Send i) _ refl launch in
    let execute = no_slide (g == 4) (Execute i) _ refl send in
    let meet = no_slide (g == 3) (Meet i) _ refl execute in
    let fall = no_slide (g == 2) (Fall i) _ refl meet in
    let climb = no_slide (g == 1) (Climb i) _ refl fall in
    no_slide (g == 0) _ _ enters climb

none_slide : (ks : List ℕ) → list_any is_slide (map packed_at ks) ≡ false
none_slide [] = refl
none_slide (k ∷ ks) = rw (no_slide_at k) (none_slide ks)

none_among : (w : ℕ) → list_any is_slide (packed_moves w) ≡ false
unfolding packed_moves
none_among w = none_slide (set_places 64 w)

each_slides : (ks : List ℕ) → list_any is_slide (map slide_at ks) ≡ nat_lt 0 (length (map slide_at ks))
each_slides [] = refl
each_slides (k ∷ ks) = let e : nat_lt 0 (suc (length (map slide_at ks))) ≡ true = grind (arith, nat_tests) in sym e

pub some_slide : (slides : ℕ) → slides < 2 ^ 64 → nat_lt 0 slides ≡ list_any is_slide (slides_of slides)
unfolding slides_of
some_slide slides small = any_slides slides (slides_of slides) small refl ∙ sym (each_slides (set_places 64 slides))

pub slides_among : (w slides : ℕ) → list_any is_slide (slides_of slides) ≡ list_any is_slide (packed_with w slides)
unfolding packed_with
slides_among w slides =
    let low = packed_moves (w % 2 ^ 52) in
    let high = packed_moves (w - w % 2 ^ 52) in
    rw (
      list_any-append is_slide low (slides_of slides ++ high),
      list_any-append is_slide (slides_of slides) high,
      none_among (w % 2 ^ 52),
      none_among (w - w % 2 ^ 52),
    ) (sym (or_none (list_any is_slide (slides_of slides))))
  where
    or_none : (b : Bool) → (b || false) ≡ b
    or_none true = refl
    or_none false = refl

-- what is offered is both, after the Issues
either_some : (a b c : ℕ) → (nat_lt 0 (a + c) || nat_lt 0 b) ≡ nat_lt 0 (a + (b + c))
either_some a b c = grind (arith, nat_tests)

any_word : (others slides : ℕ) (xs ss ls : List Move) → others < 2 ^ 61 → slides < 2 ^ 64 → packed_from 3 49 (others % 2 ^ 49) ≡ xs → slides_of slides ≡ ss →
    packed_from 52 12 (others / 2 ^ 49) ≡ ls → (nat_lt 0 others || nat_lt 0 slides) ≡ nat_lt 0 (length xs + (length ss + length ls))
any_word others slides xs ss ls small few stages sliding leaving =
    let whole = joined 3 49 12 (others % 2 ^ 49) (others / 2 ^ 49) others refl refl ∙ rw (stages, leaving) refl in
    let n = any_others others (xs ++ ls) small whole in
    let m = any_slides slides ss few sliding in
    rw (n, m, length-append xs ls) (either_some (length xs) (length ss) (length ls))

pub offered : (held any : Bool) (rule : GuessRule) (plan : Plan) (s : State) (issues others slides : ℕ) → issues < 8 → others < 2 ^ 61 → slides < 2 ^ 64 →
    any ≡ (nat_lt 0 others || nat_lt 0 slides) → packed_from 0 3 issues ≡ (if held && any then [] else kept_issues rule plan s) →
    packed_from 3 49 (others % 2 ^ 49) ≡ filter (is_allowed plan s) (Emit ∷ []) ++ filter (is_allowed plan s) (all_passing plan) →
    packed_from 52 12 (others / 2 ^ 49) ≡ filter (is_allowed plan s) (all_leaving plan) →
    slides_of slides ≡ filter (is_allowed plan s) (slides_from 0 plan.sidings) →
    packed_with (issues + 8 * others) slides ≡ withheld held (guided rule plan s)
offered held any rule plan s issues others slides few small narrow some enter stages leaving sliding =
    let q = is_allowed plan s in
    let emits = filter q (Emit ∷ []) in
    let passes = filter q (all_passing plan) in
    let slide = filter q (slides_from 0 plan.sidings) in
    let leaves = filter q (all_leaving plan) in
    let r : (issues + 8 * others) % 2 ^ 52 ≡ issues + 8 * (others % 2 ^ 49) = omega arith in
    let t : (issues + 8 * others) / 2 ^ 52 ≡ others / 2 ^ 49 = omega arith in
    let low = joined 0 3 49 issues (others % 2 ^ 49) (issues + 8 * (others % 2 ^ 49)) (omega arith) (omega arith) in
    let a = length-append emits (passes ++ (slide ++ leaves)) in
    let b = length-append passes (slide ++ leaves) in
    let c = length-append slide leaves in
    let d = length-append emits passes in
    let n : length (emits ++ passes) + (length slide + length leaves) ≡ length (emits ++ (passes ++ (slide ++ leaves))) = omega (arith, a, b, c, d) in
    let more = some ∙ any_word others slides (emits ++ passes) slide leaves small narrow stages sliding leaving ∙ ap (nat_lt 0) n in
    parted (issues + 8 * others) slides ∙ rw (r, t, low, enter, stages, leaving, sliding) (simp append_assoc) ∙ offered_by held any rule plan s more
