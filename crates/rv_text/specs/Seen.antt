-- The meaning of a statement that was read.
use Rattle.std.specs.Prelude.{◌≡◌, Result, Ok, Err, MatchResult}
use Rattle.rv_text.specs.declared.statement.Statement.{Statement}
use Rattle.rv_text.specs.declared.statement.Statement.TheVariants.{Whole, Aimed}
use Rattle.rv_text.specs.declared.text_err.TextErr.{TextErr}
use Rattle.rv_text.specs.Reading.{LineReading, WholeOf, AimedAt}

-- a statement with its target's text
abbrev pub statement_seen : Statement → LineReading
statement_seen (Whole i) = WholeOf i
statement_seen (Aimed jump target) = AimedAt jump target.now

-- the result is this answer
abbrev pub ReadsStatement : Result Statement TextErr → Result LineReading TextErr → Type 0
ReadsStatement result answer = MatchResult result (λ statement. answer ≡ Ok (statement_seen statement)) (λ e. answer ≡ Err e)
