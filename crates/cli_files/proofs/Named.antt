-- A layout that an argument names, or that is missing.
use Rattle.std.proofs.Common.{ℕ, ◌+◌, List, Option, Result, Ok, Err, IfOk, IfErr, inl}
use Rattle.cf_io.specs.Reads.{FilesSeen}
use Rattle.cf_layout.specs.Layout.{Plan}
use Rattle.layout_file.specs.Answers.{Describes, DescribesLoosely}
use Rattle.cli_arguments.specs.Arguments.{in_file}
use Rattle.cli_files.specs.Files.{IsFrontOf}
use Rattle.layout_file.specs.Limits.{most_layout_bytes}
use Rattle.cli_files.specs.Layouts.{IsLayoutAt, IsNoLayout, LacksLayout}
use Rattle.cli_files.specs.LooseLayouts.{IsLooseLayoutAt, IsNoLooseLayout, LacksLooseLayout}
use Rattle.cli_files.specs.declared.answer.Answer.{Answer}

-- a layout that its file describes
pub layout-described : (before after : Option FilesSeen) (name file : List ℕ) (r : Result Plan Answer) →
    IsFrontOf (most_layout_bytes + 1) before after name file → IfOk r (λ plan. Describes file plan) →
    IfOk r (IsLayoutAt (in_file name) before after)
layout-described before after name file (Ok plan) front h = (file, front, h)
layout-described before after name file (Err answer) front h = tt

-- a file that is refused gives no layout
pub layout-refused : (before after : Option FilesSeen) (name file : List ℕ) (r : Result Plan Answer) →
    IsFrontOf (most_layout_bytes + 1) before after name file →
    IfErr r (λ answer. IsNoLayout file answer.status answer.closing) →
    IfErr r (λ answer. LacksLayout (in_file name) before after answer.status answer.closing)
layout-refused before after name file (Ok plan) front h = tt
layout-refused before after name file (Err answer) front h =
    inl (record { file = file; front = front; why = h })

-- the same, if a layout may break the rule on where control turns
pub loosely-described : (before after : Option FilesSeen) (name file : List ℕ) (r : Result Plan Answer) →
    IsFrontOf (most_layout_bytes + 1) before after name file → IfOk r (λ plan. DescribesLoosely file plan) →
    IfOk r (IsLooseLayoutAt (in_file name) before after)
loosely-described before after name file (Ok plan) front h = (file, front, h)
loosely-described before after name file (Err answer) front h = tt

pub loosely-refused : (before after : Option FilesSeen) (name file : List ℕ) (r : Result Plan Answer) →
    IsFrontOf (most_layout_bytes + 1) before after name file →
    IfErr r (λ answer. IsNoLooseLayout file answer.status answer.closing) →
    IfErr r (λ answer. LacksLooseLayout (in_file name) before after answer.status answer.closing)
loosely-refused before after name file (Ok plan) front h = tt
loosely-refused before after name file (Err answer) front h =
    inl (record { file = file; front = front; why = h })
