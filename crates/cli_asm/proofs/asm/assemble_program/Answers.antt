use Rattle.std.proofs.Common.{inl}
use Rattle.cli_asm.specs.Sources.{most_source}
use Rattle.cli_files.proofs.NoStreams.{no-cause}
use Rattle.cli_files.proofs.FileFronts.{file-front}
use Rattle.cli_asm.proofs.asm.assemble_program.Goals as goal

pub returns-in-Ok : goal.returns-in-Ok
returns-in-Ok g c = record {
  answers = inl (record {
    bytes = c.in-Ok.bytes.items;
    front = file-front most_source _ _ _ c.in-Ok.bytes c.in-Ok.ensures.bytes;
    comes = rw c.as_slice.ensures.value at c.assemble_source.ensures.comes;
  });
  files = rw c.in-Ok.ensures.cause.rose (no-cause _ _ c.assemble_source.ensures.files);
  input = c.assemble_source.ensures.input;
  output = c.assemble_source.ensures.output;
}
