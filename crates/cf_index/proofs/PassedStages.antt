-- How many of the moves in the stages come before the first one after another move.
use Rattle.std.proofs.Common.{◌≡◌, ◌∙◌, refl, ap, ℕ, ◌+◌, ◌<◌, length, nat_lt, arith}
use Rattle.std.specs.Prelude.{filter}
use Rattle.cf_bind.specs.declared.moves.Move.{Move}
use Rattle.cf_bind.specs.declared.moves.Move.TheVariants.{Climb, Fall, Meet, Execute, Send, Launch}
use Rattle.cf_index.specs.declared.passing.Passing.{Passing}
use Rattle.cf_index.specs.Places.{set_places}
use Rattle.cf_index.specs.Listed.{passing_moves}
use Rattle.cf_index.specs.Order.{kind_place, passed_moves}
use Rattle.cf_index.proofs.Passed.{earlier, later, step_all, step_part, word_all, word_none, word_part, both_none, both_all, up_to}

pub passed_climb : (p : Passing) (i : ℕ) → passed_moves (Climb i) (passing_moves p) ≡ length (filter (λ k. nat_lt k i) (set_places 64 p.climb))
unfolding passing_moves
passed_climb p i =
    step_part (Climb i) Climb i p.climb _ (λ k. up_to i k) (both_none (Climb i) _ _ (word_none (Climb i) Fall p.fall (λ k. refl))
    (both_none (Climb i) _ _ (word_none (Climb i) Meet p.meet (λ k. refl)) (both_none (Climb i) _ _ (word_none (Climb i) Execute p.execute (λ k. refl))
    (both_none (Climb i) _ _ (word_none (Climb i) Send p.send (λ k. refl)) (word_none (Climb i) Launch p.launch (λ k. refl))))))

pub passed_fall : (p : Passing) (i : ℕ) → passed_moves (Fall i) (passing_moves p) ≡ length (set_places 64 p.climb) + length
    (filter (λ k. nat_lt k i) (set_places 64 p.fall))
unfolding passing_moves
passed_fall p i =
    step_all (Fall i) Climb p.climb _ (λ k. refl) ∙ ap (λ n. length (set_places 64 p.climb) + n) (
    step_part (Fall i) Fall i p.fall _ (λ k. up_to i k) (both_none (Fall i) _ _ (word_none (Fall i) Meet p.meet (λ k. refl))
    (both_none (Fall i) _ _ (word_none (Fall i) Execute p.execute (λ k. refl)) (both_none (Fall i) _ _ (word_none (Fall i) Send p.send (λ k. refl))
    (word_none (Fall i) Launch p.launch (λ k. refl))))))

pub passed_meet : (p : Passing) (i : ℕ) → passed_moves (Meet i) (passing_moves p) ≡ length (set_places 64 p.climb) +
    (length (set_places 64 p.fall) + length (filter (λ k. nat_lt k i) (set_places 64 p.meet)))
unfolding passing_moves
passed_meet p i =
    step_all (Meet i) Climb p.climb _ (λ k. refl) ∙ ap (λ n. length (set_places 64 p.climb) + n) (
    step_all (Meet i) Fall p.fall _ (λ k. refl) ∙ ap (λ n. length (set_places 64 p.fall) + n) (
    step_part (Meet i) Meet i p.meet _ (λ k. up_to i k) (both_none (Meet i) _ _ (word_none (Meet i) Execute p.execute (λ k. refl))
    (both_none (Meet i) _ _ (word_none (Meet i) Send p.send (λ k. refl)) (word_none (Meet i) Launch p.launch (λ k. refl))))))

pub passed_execute : (p : Passing) (i : ℕ) → passed_moves (Execute i) (passing_moves p) ≡ length (set_places 64 p.climb) +
    (length (set_places 64 p.fall) + (length (set_places 64 p.meet) + length (filter (λ k. nat_lt k i) (set_places 64 p.execute))))
unfolding passing_moves
passed_execute p i =
    step_all (Execute i) Climb p.climb _ (λ k. refl) ∙ ap (λ n. length (set_places 64 p.climb) + n) (
    step_all (Execute i) Fall p.fall _ (λ k. refl) ∙ ap (λ n. length (set_places 64 p.fall) + n) (
    step_all (Execute i) Meet p.meet _ (λ k. refl) ∙ ap (λ n. length (set_places 64 p.meet) + n) (
    step_part (Execute i) Execute i p.execute _ (λ k. up_to i k) (both_none (Execute i) _ _ (word_none (Execute i) Send p.send (λ k. refl))
    (word_none (Execute i) Launch p.launch (λ k. refl))))))

pub passed_send : (p : Passing) (i : ℕ) → passed_moves (Send i) (passing_moves p) ≡ length (set_places 64 p.climb) +
    (length (set_places 64 p.fall) + (length (set_places 64 p.meet) + (length (set_places 64 p.execute) + length
    (filter (λ k. nat_lt k i) (set_places 64 p.send)))))
unfolding passing_moves
passed_send p i =
    step_all (Send i) Climb p.climb _ (λ k. refl) ∙ ap (λ n. length (set_places 64 p.climb) + n) (
    step_all (Send i) Fall p.fall _ (λ k. refl) ∙ ap (λ n. length (set_places 64 p.fall) + n) (
    step_all (Send i) Meet p.meet _ (λ k. refl) ∙ ap (λ n. length (set_places 64 p.meet) + n) (
    step_all (Send i) Execute p.execute _ (λ k. refl) ∙ ap (λ n. length (set_places 64 p.execute) + n) (
    step_part (Send i) Send i p.send _ (λ k. up_to i k) (word_none (Send i) Launch p.launch (λ k. refl))))))

pub passed_launch : (p : Passing) (i : ℕ) → passed_moves (Launch i) (passing_moves p) ≡ length (set_places 64 p.climb) +
    (length (set_places 64 p.fall) + (length (set_places 64 p.meet) + (length (set_places 64 p.execute) +
    (length (set_places 64 p.send) + length (filter (λ k. nat_lt k i) (set_places 64 p.launch))))))
unfolding passing_moves
passed_launch p i =
    step_all (Launch i) Climb p.climb _ (λ k. refl) ∙ ap (λ n. length (set_places 64 p.climb) + n) (
    step_all (Launch i) Fall p.fall _ (λ k. refl) ∙ ap (λ n. length (set_places 64 p.fall) + n) (
    step_all (Launch i) Meet p.meet _ (λ k. refl) ∙ ap (λ n. length (set_places 64 p.meet) + n) (
    step_all (Launch i) Execute p.execute _ (λ k. refl) ∙ ap (λ n. length (set_places 64 p.execute) + n) (
    step_all (Launch i) Send p.send _ (λ k. refl) ∙ ap (λ n. length (set_places 64 p.send) + n) (
    word_part (Launch i) Launch i p.launch (λ k. up_to i k))))))

-- after a move of an earlier kind none of them is passed
pub passing_none : (p : Passing) (last : Move) → kind_place last < 2 → passed_moves last (passing_moves p) ≡ 0
unfolding passing_moves
passing_none p last before =
    both_none last _ _ (word_none last Climb p.climb (λ k. later last (Climb k) (omega arith)))
    (both_none last _ _ (word_none last Fall p.fall (λ k. later last (Fall k) (omega arith)))
    (both_none last _ _ (word_none last Meet p.meet (λ k. later last (Meet k) (omega arith)))
    (both_none last _ _ (word_none last Execute p.execute (λ k. later last (Execute k) (omega arith)))
    (both_none last _ _ (word_none last Send p.send (λ k. later last (Send k) (omega arith)))
    (word_none last Launch p.launch (λ k. later last (Launch k) (omega arith)))))))

-- after a move of a later kind all of them are
pub passing_all : (p : Passing) (last : Move) → 7 < kind_place last → passed_moves last (passing_moves p) ≡ length (passing_moves p)
unfolding passing_moves
passing_all p last after =
    both_all last _ _ (word_all last Climb p.climb (λ k. earlier last (Climb k) (omega arith)))
    (both_all last _ _ (word_all last Fall p.fall (λ k. earlier last (Fall k) (omega arith)))
    (both_all last _ _ (word_all last Meet p.meet (λ k. earlier last (Meet k) (omega arith)))
    (both_all last _ _ (word_all last Execute p.execute (λ k. earlier last (Execute k) (omega arith)))
    (both_all last _ _ (word_all last Send p.send (λ k. earlier last (Send k) (omega arith)))
    (word_all last Launch p.launch (λ k. earlier last (Launch k) (omega arith)))))))

pub ruleset passing = (passed_climb, passed_fall, passed_meet, passed_execute, passed_send, passed_launch)
