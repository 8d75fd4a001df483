use Rattle.std.proofs.Common.{◌∙◌, ap}
use Rattle.std.specs.List.{list_any}
use Rattle.cf_index.specs.Order.{is_slide}
use Rattle.cf_index.proofs.PackedWords.{slides_among}
use Rattle.cf_index.proofs.packed.PackedCandidates.has_slides.Goals as goal

pub returns : goal.returns
returns c = c.are_some.ensures ∙ slides_among c.self.inside.word c.self.inside.slides ∙ ap (list_any is_slide) c.self.view_is
