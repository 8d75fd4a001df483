-- The streams that the moves of a run use, with one more move.
use Rattle.std.proofs.Common.{◌≡◌, ℕ, List, [], ◌∷◌, ◌++◌, Option, Some, None, inl, inr, ap, sym, subst, ◌∙◌}
use Rattle.std.specs.Prelude.{◌⊎◌, Result, Ok}
use Rattle.run_options.specs.declared.reporting.Reporting.{Reporting}
use Rattle.cf_layout.specs.Layout.{Plan}
use Rattle.cf_bind.specs.declared.moves.Move.{Move}
use Rattle.cf_semantics.specs.moves.Moves.{next}
use Rattle.cf_semantics.specs.state.State.{State, Moment}
use Rattle.cf_core.specs.Processors.{Processor}
use Rattle.run_scripts.specs.Scripts.{next_of}
use Rattle.cf_run.specs.Made.{Made}
use Rattle.cf_run.specs.Going.{moment_of, Leads}
use Rattle.cf_run.specs.Moving.{RunPlace}
use Rattle.cf_run.specs.Reaching.{Reaches}
use Rattle.cf_run.specs.Scripts.{ScriptRun, Follows, ScriptTries}
use Rattle.cf_run.specs.Asking.{SomeAsks, NextAsks}
use Rattle.cf_run.proofs.Runs.{followed-more, followed-trace}

-- if one of the first moves of a list uses the stream, one of the whole list does
some-first : (asks : Processor → Move → Type 0) (plan : Plan) (s : State) (trace others : List Made) → SomeAsks asks plan s trace →
    SomeAsks asks plan s (trace ++ others)
unfolding SomeAsks
some-first asks plan s [] others h = absurd h
some-first asks plan s (made ∷ trace) others (inl h) = inl h
some-first asks plan s (made ∷ trace) others (inr h) = inr (some-first asks plan made.state trace others h)

-- and so it is if the last does
some-last : (asks : Processor → Move → Type 0) (plan : Plan) (limit : ℕ) (told : Option (List ℕ)) (m : Moment) (trace : List Made) (last : Moment)
    (made : Made) → Leads plan limit told m trace last → asks (record { plan = plan; state = last.state }) made.move →
    SomeAsks asks plan m.state (trace ++ made ∷ [])
unfolding SomeAsks Leads
some-last asks plan limit told m [] last made h k = inl (subst (λ (q : Moment). asks (record { plan = plan; state = q.state }) made.move) h k)
some-last asks plan limit told m (first ∷ trace) last made (rest, finds, is, h) k =
    inr (subst (λ (s : State). SomeAsks asks plan s (trace ++ made ∷ [])) (sym is.state) (some-last asks plan limit told
    (next plan (record m { rest = rest }) first.move) trace last made h k))

-- if the moves made so far use a stream, or the next one does, so do all of these
pub one-more : (asks : Processor → Move → Type 0) (limit : ℕ) (show : Reporting) (start now : RunPlace) (h : Reaches limit show start now) (made : Made) →
    SomeAsks asks start.core.plan start.core.state h.trace ⊎ asks now.core made.move
    → SomeAsks asks start.core.plan start.core.state (h.trace ++ made ∷ [])
one-more asks limit show start now h made (inl some) = some-first asks start.core.plan start.core.state h.trace (made ∷ []) some
one-more asks limit show start now h made (inr next) =
    some-last asks start.core.plan limit start.streams.input (moment_of start.core h.rest) h.trace h.last made h.leads
    (subst (λ (p : Processor). asks p made.move) h.core next)

-- a script has one next move
same_next : {E : Type 0} (answer : Result (Option (ℕ × Move)) E) (line other : ℕ) (mv last : Move) → answer ≡ Ok (Some (line, mv)) →
    answer ≡ Ok (Some (other, last)) → mv ≡ last
same_next answer line other mv last e f =
    let same : (line, mv) ≡ (other, last) = cc in
    ap (λ (next : ℕ × Move). next.1) same

-- the next move of the script is the one that uses the stream
next_asked : (asks : Processor → Move → Type 0) (limit : ℕ) (show : Reporting) (now new : ScriptRun) (t : ScriptTries limit show now new None) (made : Made) →
    made.move ≡ t.move → NextAsks asks limit now.place.core now.script → asks now.place.core made.move
next_asked asks limit show now new t made same next =
    subst (asks now.place.core) (same_next (next_of now.script) next.line t.line next.move t.move next.next t.next ∙ sym same) next.asked

-- the same for a run with one more move
asked-more : (asks : Processor → Move → Type 0) (limit : ℕ) (show : Reporting) (start now new : ScriptRun) (f : Follows limit show start now)
    (t : ScriptTries limit show now new None) → SomeAsks asks start.place.core.plan start.place.core.state f.reaches.trace
    ⊎ NextAsks asks limit now.place.core now.script
    → SomeAsks asks start.place.core.plan start.place.core.state (followed-more limit show start now new f t).reaches.trace
asked-more asks limit show start now new f t asked =
    let made = followed-trace limit show start now new f t in
    subst (SomeAsks asks start.place.core.plan start.place.core.state) (sym made.2) (one-more asks limit show start.place now.place f.reaches made.0
    (here asked))
  where
    here : SomeAsks asks start.place.core.plan start.place.core.state f.reaches.trace ⊎ NextAsks asks limit now.place.core now.script
        → SomeAsks asks start.place.core.plan start.place.core.state f.reaches.trace ⊎ asks now.place.core (followed-trace limit show start now new f t).0.move
    here (inl some) = inl some
    here (inr next) = let made = followed-trace limit show start now new f t in inr (next_asked asks limit show now new t made.0 made.1 next)

-- a stream that no move used is unchanged, with one more move
pub unasked-more : {T : Type 0} (asks : Processor → Move → Type 0) (limit : ℕ) (show : Reporting) (start now new : ScriptRun) (f : Follows limit show start now)
    (t : ScriptTries limit show now new None) (first between last : T) → ((SomeAsks asks start.place.core.plan start.place.core.state f.reaches.trace → ⊥) →
    between ≡ first) → ((NextAsks asks limit now.place.core now.script → ⊥) → last ≡ between)
    → (SomeAsks asks start.place.core.plan start.place.core.state (followed-more limit show start now new f t).reaches.trace → ⊥) → last ≡ first
unasked-more asks limit show start now new f t first between last before one unasked =
    one (λ next. unasked (asked-more asks limit show start now new f t (inr next))) ∙ before
    (λ some. unasked (asked-more asks limit show start now new f t (inl some)))
