use Rattle.std.proofs.Common.{rules, ◌≡◌, List, All, None, sym, subst}
use Rattle.elf_view.specs.Left.{segments_left}
use Rattle.elf_view.specs.Refusal.{file_refusal}
use Rattle.elf_view.specs.Segments.{LoadSegment, IsLoadable, segments_of}
use Rattle.elf_view.proofs.Executables.{segments-loadable}
use Rattle.elf_view.proofs.elf.Elf.segments.Goals as goal

pub returns-clause-loadable : goal.returns-clause-loadable
unfolding segments_of
returns-clause-loadable c =
    let list : segments_left c.new.result ≡ segments_of c.args.self.now = search rules in
    let accepted : file_refusal c.args.self.now ≡ None = search rules in
    subst (λ (xs : List LoadSegment). All (IsLoadable c.args.self.now) xs) (sym list) (segments-loadable c.args.self.now accepted)
