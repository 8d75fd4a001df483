use Rattle.std.proofs.Common.{rules, tests, arith, inl}
use Rattle.std.proofs.lemmas.Iterator.Consumers.{YieldsList-from_first}
use Rattle.std.proofs.lemmas.Iterator.Search.{position_from_yields_List}
use Rattle.elf_view.specs.Fields.{entries}
use Rattle.elf_view.specs.Headers.{program_header, program_headers}
use Rattle.elf_view.specs.Refusal.{ends_outside}
use Rattle.elf_view.proofs.Tables.{length-entries, position_within}
use Rattle.elf_view.proofs.refusal.first_outside.Goals as goal

pub position-requires-clause-fits : goal.position-requires-clause-fits
position-requires-clause-fits c = inl (let few = length-entries program_header 32 c.programs.result.file.now c.programs.result.at c.programs.result.left in
    omega (arith, few))

pub returns-clause-index : goal.returns-clause-index
returns-clause-index c =
    position_from_yields_List (ends_outside c.args.file.now) c.position.new.self _ _ c.position.ensures.ran
    (YieldsList-from_first (λ x. x) (λ s. entries program_header 32 s.file.now s.at s.left) _ c.programs.ensures.headers) (λ x b q k. search (rules, tests))

pub returns-clause-within : goal.returns-clause-within
returns-clause-within c =
    position_within (ends_outside c.args.file.now) (program_headers c.args.file.now) c.position.result 65536
    (rw (← c.programs.ensures.headers, length-entries) (omega arith)) (returns-clause-index c)
