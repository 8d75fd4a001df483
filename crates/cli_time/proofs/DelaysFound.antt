-- Delays that a file gives or does not give.
use Rattle.std.proofs.Common.{◌≡◌, ◌≤◌, ℕ, ◌+◌, List, length, Option, Result, Ok, Err, IfOk, IfErr, inl}
use Rattle.cf_timed.specs.declared.span.Span.{Span}
use Rattle.cf_io.specs.Reads.{FilesSeen}
use Rattle.cf_timed.specs.DelayLines.{delays_in}
use Rattle.cli_files.specs.Files.{IsFrontOf}
use Rattle.cli_files.specs.declared.answer.Answer.{Answer}
use Rattle.cf_timed.specs.Limits.{most_delays}
use Rattle.cli_time.specs.DelayFiles.{IsDelaysAt, LacksDelays, RefusesText}

-- a text that was read and gives delays is in its file
pub delays-found : (before after : Option FilesSeen) (name text : List ℕ) (r : Result (List Span) Answer) →
    IsFrontOf (most_delays + 1) before after name text →
    IfOk r (λ delays. length text ≤ most_delays) → IfOk r (λ delays. delays_in text ≡ Ok delays) →
    IfOk r (IsDelaysAt name before after)
delays-found before after name text (Ok delays) front fits told =
    record { text = text; front = front; fits = fits; told = told }
delays-found before after name text (Err answer) front fits told = tt

-- a text that was read and gives none
pub delays-refused : (before after : Option FilesSeen) (name text : List ℕ) (r : Result (List Span) Answer) →
    IsFrontOf (most_delays + 1) before after name text →
    IfErr r (λ answer. RefusesText text answer.status answer.closing) →
    IfErr r (λ answer. LacksDelays name before after answer.status answer.closing)
delays-refused before after name text (Ok delays) front h = tt
delays-refused before after name text (Err answer) front h = inl (record { text = text; front = front; refuses = h })
