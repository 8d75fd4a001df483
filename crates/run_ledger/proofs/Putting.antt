-- A ledger after a move, part by part.
use Rattle.std.proofs.Common.{◌≡◌, refl, ℕ, List}
use Rattle.cf_bind.specs.declared.moves.Move.{Move}
use Rattle.cf_timed.specs.Times.{delayed}
use Rattle.run_ledger.specs.Using.{uses_siding, uses_stage}
use Rattle.run_ledger.specs.Ledgers.{charged, later, mark_of, ledger_noted, one_more, place_numbers, plus, put_marks, with_marks}
use Rattle.run_ledger.specs.declared.ledger.Ledger.{Ledger}
use Rattle.run_ledger.specs.declared.mark.ChainMark.{ChainMark}

-- what each part is, for a ledger in which the mark was set
part-of : (l : Ledger) (mv : Move) (ticks : ℕ) (mark last : ChainMark) (count : ℕ) (places stages sidings kinds : List ℕ) →
    places ≡ place_numbers l.layout mv → mark ≡ mark_of l (delayed mv ticks)
    → last ≡ later l.last mark → count ≡ plus l.count 1 → stages ≡ charged (λ i. uses_stage l.layout i mv) ticks l.stages →
    sidings ≡ charged (λ k. uses_siding l.layout k mv) ticks l.sidings → kinds ≡ one_more l.kinds mv
    → record {
      layout = l.layout;
      count = count;
      marks = put_marks mark l.marks places;
      last = last;
      stages = stages;
      sidings = sidings;
      kinds = kinds;
    } ≡ ledger_noted l (delayed mv ticks)
unfolding ledger_noted
part-of l mv ticks mark last count places stages sidings kinds p m a b c d e = rw (a, b, c, d, e, p, m) refl

pub noted-is : (l put : Ledger) (mv : Move) (ticks : ℕ) (mark last : ChainMark) (count : ℕ) (places stages sidings kinds : List ℕ) →
    put ≡ with_marks l (put_marks mark l.marks places) → places ≡ place_numbers l.layout mv → mark ≡ mark_of l (delayed mv ticks)
    → last ≡ later put.last mark → count ≡ plus put.count 1 → stages ≡ charged (λ i. uses_stage put.layout i mv) ticks put.stages →
    sidings ≡ charged (λ k. uses_siding put.layout k mv) ticks put.sidings → kinds ≡ one_more put.kinds mv
    → record { layout = put.layout; count = count; marks = put.marks; last = last; stages = stages; sidings = sidings; kinds = kinds }
    ≡ ledger_noted l (delayed mv ticks)
noted-is l put mv ticks mark last count places stages sidings kinds s p m a b c d e =
    rw s (part-of l mv ticks mark last count places stages sidings kinds p m (rw s at a) (rw s at b) (rw s at c) (rw s at d) (rw s at e))
