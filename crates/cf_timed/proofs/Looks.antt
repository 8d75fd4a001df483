-- A look finds what looking at one move after another gives, and its reference stays the same.
use Rattle.std.proofs.Common.{◌≡◌, ◌∙◌, refl, sym, ap, ◌-◌, ◌^◌, List, [], ◌∷◌, fold}
use Rattle.cf_bind.specs.declared.moves.Move.{Move}
use Rattle.cf_timed.specs.declared.looking.Looking.{Looking}
use Rattle.cf_timed.specs.Clocks.{clocked}
use Rattle.cf_timed.specs.DueMoves.{KeptMoves, kept_below, looked, none_at}
use Rattle.cf_timed.specs.Looks.{look_further}

all_same : (l : Looking) (moves : List Move) → (fold look_further l moves).found.ghost_name ≡ l.found.ghost_name
all_same l [] = refl
all_same l (mv ∷ moves) = all_same (look_further l mv) moves

all_found : (l : Looking) (moves : List Move) →
    (fold look_further l moves).found.now ≡ fold (looked (clocked l.clock.now l.core.now.state)) l.found.now moves
all_found l [] = refl
all_found l (mv ∷ moves) = all_found (look_further l mv) moves

pub same_reference : (l new : Looking) (moves : List Move) → new ≡ fold look_further l moves → l.found.ghost_name ≡ new.found.ghost_name
same_reference l new moves e = sym (ap (λ (n : Looking). n.found.ghost_name) e ∙ all_same l moves)

-- so in the end that is kept whose time is below the maximum number of 64 bits
pub kept_all : (l new : Looking) (kept : KeptMoves) (moves : List Move) → new ≡ fold look_further l moves → l.found.now ≡ none_at (2 ^ 64 - 1) →
    kept ≡ kept_below new.found.now → kept ≡ kept_below (fold (looked (clocked l.clock.now l.core.now.state)) (none_at (2 ^ 64 - 1)) moves)
kept_all l new kept moves e none last = last ∙ ap kept_below (ap (λ (n : Looking). n.found.now) e ∙ all_found l moves
    ∙ ap (λ (k : KeptMoves). fold (looked (clocked l.clock.now l.core.now.state)) k moves) none)
