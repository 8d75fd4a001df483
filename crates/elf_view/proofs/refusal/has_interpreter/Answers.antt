use Rattle.std.proofs.Common.{rules, tests}
use Rattle.std.proofs.lemmas.Iterator.Consumers.{YieldsList-from_first}
use Rattle.std.proofs.lemmas.Iterator.Search.{any_from_yields_List}
use Rattle.elf_view.specs.Fields.{entries}
use Rattle.elf_view.specs.Headers.{program_header}
use Rattle.elf_view.specs.Segments.{is_interpreter}
use Rattle.elf_view.proofs.refusal.has_interpreter.Goals as goal

pub returns : goal.returns
returns c =
    any_from_yields_List is_interpreter c.any.new.self _ _ c.any.ensures.ran
    (YieldsList-from_first (λ x. x) (λ s. entries program_header 32 s.file.now s.at s.left) _ c.programs.ensures.headers) (λ x b q k. search (rules, tests))
