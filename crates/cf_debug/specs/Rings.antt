-- The ring of records of moves, the oldest first; moves are taken back from the newest on.
use Rattle.std.specs.Prelude.{◌≡◌, ◌≢◌, ℕ, List, [], ◌∷◌, ◌++◌, None}
use Rattle.circular_buffer.specs.Buffer.{keep_last}
use Rattle.cf_layout.specs.Layout.{Plan}
use Rattle.cf_bind.specs.declared.moves.Move.{Move}
use Rattle.cf_bind.specs.declared.moves.Move.TheVariants.{Serve}
use Rattle.cf_semantics.specs.moves.Bars.{bar}
use Rattle.cf_semantics.specs.moves.Kept.{Kept, kept}
use Rattle.cf_semantics.specs.moves.Moves.{moved}
use Rattle.cf_semantics.specs.state.State.{State}
use Rattle.cf_core.specs.Undo.{CanStand}
use Rattle.cf_debug.specs.Limits.{most_kept}

-- with one more record; a full ring drops its oldest
abbrev pub with_record : List Kept → Kept → List Kept
with_record ring k = keep_last most_kept (ring ++ k ∷ [])

-- the ring after a move: what the move writes is kept; but Serve empties it, since its output cannot be taken back
unfoldable pub ring_after : Plan → State → Move → List Kept → List Kept
ring_after plan s Serve ring = []
ring_after plan s mv ring = with_record ring (kept plan s mv)

-- a move other than Serve was allowed in the state, and this is its record
pub record WasKept (plan : Plan) (s : State) (k : Kept) : Type 0 where
  pub stood : CanStand plan s
  pub allowed : bar plan s k.move ≡ None
  pub other : k.move ≢ Serve
  pub is : k ≡ kept plan s k.move

-- the records are those of moves that lead from one state to another
unfoldable pub RecordsLead : Plan → State → List Kept → State → Type 0
RecordsLead plan s [] last = last ≡ s
RecordsLead plan s (k ∷ ring) last = WasKept plan s k × RecordsLead plan (moved plan s k.move) ring last
