-- Each spelling names one of the 32 registers.
use Rattle.std.proofs.Common.{ℕ, ◌<◌, Bool, true, false, List, [], ◌∷◌, Some, rules}
use Rattle.std.specs.Prelude.{IfSome, Option, if◌then◌else◌}
use Rattle.std.specs.Str.{bytes_eq}
use Rattle.rv_text.specs.Registers.{usual_names}
use Rattle.rv_text.specs.Tables.{look_up}

-- what is found is a register
abbrev pub FindsRegister : Option ℕ → Type 0
FindsRegister found = IfSome found (λ r. r < 32)

entry-finds : (b : Bool) (r : ℕ) (rest : Option ℕ) → r < 32 → FindsRegister rest → FindsRegister (if b then Some r else rest)
entry-finds true r rest h k = h
entry-finds false r rest h k = k

-- each number of a table is a register's
abbrev AllRegisters : List (List ℕ × ℕ) → Type 0
AllRegisters [] = Unit {0}
AllRegisters (entry ∷ entries) = (entry.1 < 32) × AllRegisters entries

look_up-finds : (table : List (List ℕ × ℕ)) (word : List ℕ) → AllRegisters table → FindsRegister (look_up table word)
look_up-finds [] word h = tt
look_up-finds (entry ∷ entries) word h =
    entry-finds (bytes_eq entry.0 word) entry.1 _ h.0 (look_up-finds entries word h.1)

pub usual_names-find : (word : List ℕ) → FindsRegister (look_up usual_names word)
usual_names-find word = look_up-finds usual_names word (search rules)

pub ruleset registers = (usual_names-find)
