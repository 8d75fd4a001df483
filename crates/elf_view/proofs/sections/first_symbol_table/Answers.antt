use Rattle.std.proofs.Common.{rules, tests, arith, inl}
use Rattle.std.proofs.lemmas.Iterator.Consumers.{YieldsList-from_first}
use Rattle.std.proofs.lemmas.Iterator.Search.{position_from_yields_List}
use Rattle.elf_view.specs.Fields.{entries}
use Rattle.elf_view.specs.Headers.{section_header, section_headers, number_of_sections}
use Rattle.elf_view.specs.Sections.{is_symbol_table}
use Rattle.elf_view.proofs.Tables.{length-entries, position_within}
use Rattle.elf_view.proofs.sections.first_symbol_table.Goals as goal

pub position-requires-clause-fits : goal.position-requires-clause-fits
position-requires-clause-fits c = inl (let few = length-entries section_header 40 c.sections.result.file.now c.sections.result.at c.sections.result.left in
    omega (arith, few))

pub returns-clause-index : goal.returns-clause-index
returns-clause-index c =
    position_from_yields_List is_symbol_table c.position.new.self _ _ c.position.ensures.ran
    (YieldsList-from_first (λ x. x) (λ s. entries section_header 40 s.file.now s.at s.left) _ c.sections.ensures.headers) (λ x b q k. search (rules, tests))

pub returns-clause-within : goal.returns-clause-within
returns-clause-within c =
    position_within is_symbol_table (section_headers c.args.file.now) c.position.result (number_of_sections c.args.header.now)
    (rw (← c.sections.ensures.headers, length-entries) (omega arith)) (returns-clause-index c)

pub returns-clause-few : goal.returns-clause-few
returns-clause-few c =
    position_within is_symbol_table (section_headers c.args.file.now) c.position.result 65536
    (rw (← c.sections.ensures.headers, length-entries) (omega arith)) (returns-clause-index c)
