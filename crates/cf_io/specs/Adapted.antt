-- The standard library's answers as those of this crate: a reader's or a writer's count, or that the call failed (a
-- convention of this project).
use Rattle.std.specs.Prelude.{ℕ, zero, suc, Result, Ok, Err}
use Rattle.cf_io.specs.declared.failed.Failed.{Failed}

-- of a reader: the number of bytes that it gave, where 0 is the end and not a failure
abbrev pub answer_of_reader : {E : Type 0} → Result ℕ E → Result ℕ Failed
answer_of_reader (Ok count) = Ok count
answer_of_reader (Err error) = Err record {}

-- of a writer, for a nonempty piece: the number of bytes that it accepted, where 0 is a failure
abbrev pub answer_of_writer : {E : Type 0} → Result ℕ E → Result ℕ Failed
answer_of_writer (Ok zero) = Err record {}
answer_of_writer (Ok (suc more)) = Ok (suc more)
answer_of_writer (Err error) = Err record {}
