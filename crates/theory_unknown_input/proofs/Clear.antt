-- While an instruction that needs the whole machine is not answered, nothing in the processor has the value of its
-- destination below it; and a change in the middle of the column.
use Rattle.std.proofs.Common.{◌≡◌, ℕ, List, [], ◌∷◌, ◌++◌, Option, Some, Bool, true, false, ◌&&◌, ◌||◌, not, refl, arith}
use Rattle.cf_bind.specs.Meeting.{meeting}
use Rattle.cf_bind.specs.declared.packet.Packet.{Packet}
use Rattle.cf_bind.specs.declared.packet.Packet.TheVariants.{Value, Turn, Halt}
use Rattle.cf_bind.specs.declared.passenger.Passenger.{Passenger}
use Rattle.theory_refinement.proofs.column.Fold.{IsWalk, Replaces, replaced}
use Rattle.theory_refinement.proofs.walks.PathMeet.{met_items}
use Rattle.theory_refinement.proofs.invariant.Stands.{Blank}
use Rattle.cf_semantics.specs.state.Column.{Down, Item, Up, column}
use Rattle.cf_semantics.specs.moves.Instructions.{is_serial}
use Rattle.cf_semantics.specs.state.Passengers.{cached, kind}
use Rattle.cf_semantics.specs.claims.Path.{has_reg}
use Rattle.cf_semantics.specs.state.State.{State}
use Rattle.cf_semantics.specs.claims.Walks.{walk, Everywhere}

-- live, of the class that needs the whole machine, and not answered yet
abbrev pub awaits : Passenger → Bool
awaits p = not p.dead && (not p.done && is_serial (kind p))

-- the register gets its value from the answer
abbrev pub gives : Passenger → ℕ → Bool
gives p r = awaits p && has_reg p.dst r

-- at the top no register is waited for
abbrev pub none_awaited : ℕ → Bool
none_awaited r = false

-- a value is not of a register that an answer above it will give
unfoldable pub Fits : Item → (ℕ → Bool) → Type 0
Fits (Up i p) w = Unit {0}
Fits (Down i (Value r v)) w = w r ≡ false
Fits (Down i (Turn pc)) w = Unit {0}
Fits (Down i Halt) w = Unit {0}

-- one item further down
unfoldable pub past : Item → (ℕ → Bool) → (ℕ → Bool)
past (Up i p) w = λ r. gives p r || w r
past (Down i k) w = w

-- below all: nor is such a value cached
abbrev pub Ends : (ℕ → Bool) → List (Option ℕ) → Type 0
Ends w cache = (r v : ℕ) → cached cache r ≡ Some v → w r ≡ false

-- no value of a register that an answer will still give is below that call, and none is cached
pub record IsClear (s : State) : Type 0 where
  pub fit : Everywhere Fits past (column s) none_awaited
  pub ends : Ends (walk past (column s) none_awaited) s.cache

-- every register that is waited for with v is also waited for with w
pub record Follows (w v : ℕ → Bool) : Type 0 where
  pub fewer : (r : ℕ) → v r ≡ true → w r ≡ true

-- a register that is not waited for with w is not with v
pub not_awaited : (w v : ℕ → Bool) (r : ℕ) → Follows w v → w r ≡ false → v r ≡ false
not_awaited w v r f e = go (v r) refl
  where
    go : (b : Bool) → v r ≡ b → v r ≡ false
    go false g = g
    go true g = absurd (let z = f.fewer r g in cc)

-- an item that fits below w fits below v
item_follows : (i : Item) (w v : ℕ → Bool) → Follows w v → Fits i w → Fits i v
unfolding Fits
item_follows i w v f h = grind (arith, not_awaited)

-- and the same holds one item further down
past_follows : (i : Item) (w v : ℕ → Bool) → Follows w v → Fits i w → Follows (past i w) (past i v)
unfolding past
past_follows (Up i p) w v f h = record { fewer = λ r e. grind (arith, f.fewer r) }
past_follows (Down i k) w v f h = f

-- the walk, for any change in the middle of the column
pub clear_walk : IsWalk (ℕ → Bool) Fits past Follows
clear_walk = record { stays = item_follows; goes_on = past_follows }

-- a stretch of the column is replaced by one below which no more is waited for
pub clear_replaced : (s t : State) (above old new below : List Item) → column s ≡ above ++ (old ++ below) → column t ≡ above ++ (new ++ below) →
    t.cache ≡ s.cache → Replaces (ℕ → Bool) Fits past Follows old new (walk past above none_awaited) → IsClear s → IsClear t
clear_replaced s t above old new below was is c f h =
    let a = replaced (ℕ → Bool) Fits past Follows clear_walk above old new below none_awaited f (rw was at h.fit) in
    record { fit = rw is a.0; ends = rw (is, c) (fewer_end _ _ s.cache a.1 (rw was at h.ends)) }
  where
    fewer_end : (w v : ℕ → Bool) (cache : List (Option ℕ)) → Follows w v → Ends w cache → Ends v cache
    fewer_end w v cache f e = λ r n g. not_awaited w v r f (e r n g)

-- an instruction is replaced by one that gives no register that it did not
pub rider_clear : (i j : ℕ) (p q : Passenger) (w : ℕ → Bool) → ((r : ℕ) → gives q r ≡ true → gives p r ≡ true) →
    Replaces (ℕ → Bool) Fits past Follows (Up i p ∷ []) (Up j q ∷ []) w
unfolding Fits past
rider_clear i j p q w f = record { fit = λ h. h; follows = λ h. record { fewer = λ r e. grind (arith, f r) } }

-- an instruction is replaced by one that is not waited for
pub quiet_clear : (i j : ℕ) (p q : Passenger) (w : ℕ → Bool) → awaits q ≡ false → Replaces (ℕ → Bool) Fits past Follows (Up i p ∷ []) (Up j q ∷ []) w
quiet_clear i j p q w e = rider_clear i j p q w (λ r f. absurd (let z = e in grind arith))

-- a result is in another stage
pub packet_clear : (i j : ℕ) (k : Packet) (w : ℕ → Bool) → Replaces (ℕ → Bool) Fits past Follows (Down i k ∷ []) (Down j k ∷ []) w
unfolding Fits past
packet_clear i j k w = record { fit = λ h. grind arith; follows = λ h. record { fewer = λ r e. e } }

-- a meeting: what waits for its answer kills a value of its destination
pub met_clear : (i : ℕ) (p : Passenger) (k : Packet) (w : ℕ → Bool) → (p.done ≡ false → Blank p.dst) →
    Replaces (ℕ → Bool) Fits past Follows (Down i k ∷ Up i p ∷ []) (met_items i (meeting p k).passenger (meeting p k).packet) w
unfolding Fits past meeting
met_clear i p k w b = record { fit = λ h. grind arith; follows = λ h. record { fewer = λ r e. grind arith } }
