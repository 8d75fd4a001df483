-- Processing a log never ends with a fault of the report.
use Rattle.std.proofs.Common.{◌≡◌, ◌∙◌, ℕ, List, length, Option, sym, subst, inl, inr}
use Rattle.cf_semantics.specs.state.State.{State}
use Rattle.run_finishes.specs.declared.finish.Ran.TheVariants as ran
use Rattle.cf_log.specs.declared.kind.LogKind.TheVariants.{TooLong}
use Rattle.cf_conform.specs.declared.answer.Conformed.{Conformed}
use Rattle.cf_conform.specs.declared.answer.Conformed.TheVariants.{Ran}
use Rattle.cf_conform.specs.declared.answer.LineStop.{LineStop}
use Rattle.cf_conform.specs.declared.answer.LineStop.TheVariants.{Refused, Differs, WriteFault}
use Rattle.cf_conform.specs.Conforming.{JudgesLog, StopsAfter, StopsLog, EndsLogAt, answer_at}
use Rattle.cf_conform.specs.LogPlaces.{LogPlace}

no_line_faults : (lines : ℕ) (stop : LineStop) → answer_at lines stop ≡ Ran ran.ReportFault → ⊥
no_line_faults lines (Refused kind) is = absurd (cc)
no_line_faults lines (Differs part) is = absurd (cc)
no_line_faults lines WriteFault is = absurd (cc)

no_end_faults : (limit : ℕ) (s : State) (found : Conformed) → EndsLogAt limit s found → found ≡ Ran ran.ReportFault → ⊥
unfolding EndsLogAt
no_end_faults limit s found ends is = subst (λ (f : Conformed). EndsLogAt limit s f) is ends

no_stop_faults : (limit : ℕ) (told : Option (List ℕ)) (taken rest : List ℕ) (lines : ℕ) (now new : LogPlace) (found : Conformed) →
    StopsLog limit told taken rest lines now new found → found ≡ Ran ran.ReportFault → ⊥
no_stop_faults limit told taken rest lines now new found (inl h) is = let other = sym h.answer_is ∙ is in absurd (cc)
no_stop_faults limit told taken rest lines now new found (inr (inl h)) is = no_line_faults lines h.stop (sym h.answer_is ∙ is)
no_stop_faults limit told taken rest lines now new found (inr (inr (inl h))) is = no_line_faults lines (Refused TooLong) (sym h.answer_is ∙ is)
no_stop_faults limit told taken rest lines now new found (inr (inr (inr (inl h)))) is = let other = sym h.answer_is ∙ is in absurd (cc)
no_stop_faults limit told taken rest lines now new found (inr (inr (inr (inr (inl h))))) is = no_end_faults limit now.core.state found h.ends is
no_stop_faults limit told taken rest lines now new found (inr (inr (inr (inr (inr h))))) is = no_end_faults limit now.core.state found h.ends is

no_answer_faults : (limit : ℕ) (told : Option (List ℕ)) (taken : List ℕ) (lines : List (List ℕ)) (rest : List ℕ) (now new : LogPlace) (found : Conformed) →
    StopsAfter limit told taken lines rest now new found → found ≡ Ran ran.ReportFault → ⊥
no_answer_faults limit told taken lines rest now new found (inl (cut, h)) is =
    no_stop_faults limit told taken rest (length lines) now new found h is
no_answer_faults limit told taken lines rest now new found (inr (last, same, ends)) is = no_end_faults limit now.core.state found ends is

pub no-log-faults : (limit : ℕ) (before after : Option (List ℕ)) (start new : LogPlace) (found : Conformed) →
    JudgesLog limit before after start new found → found ≡ Ran ran.ReportFault → ⊥
no-log-faults limit before after start new found h is =
    no_answer_faults limit before h.taken h.lines h.rest h.now new found h.stops is
