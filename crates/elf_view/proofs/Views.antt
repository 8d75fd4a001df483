-- What `view` promises, from the tests.
use Rattle.elf_view.proofs.Causes.{refusal-cause}
use Rattle.elf_view.proofs.Executables.{accepted-elf, refused-no_elf, segments-loadable}

pub ruleset views = (accepted-elf, segments-loadable, refusal-cause, refused-no_elf)
