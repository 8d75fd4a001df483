use Rattle.std.proofs.Common.{inl, ◌+◌}
use Rattle.cli_files.specs.Image.{most_bytes}
use Rattle.cli_files.proofs.NoStreams.{no-cause}
use Rattle.cli_files.proofs.FileFronts.{file-front}
use Rattle.cli_list.proofs.listing.list_program.Goals as goal

pub returns-in-Ok : goal.returns-in-Ok
returns-in-Ok g c = record {
  answers = inl (record {
    bytes = c.in-Ok.image.items;
    front = file-front (most_bytes + 1) _ _ _ c.in-Ok.image c.in-Ok.ensures.bytes;
    comes = rw c.as_slice.ensures.value at c.list_image.ensures.comes;
  });
  files = rw c.in-Ok.ensures.cause.rose (no-cause _ _ c.list_image.ensures.files);
  input = c.list_image.ensures.input;
  output = c.list_image.ensures.output;
}
