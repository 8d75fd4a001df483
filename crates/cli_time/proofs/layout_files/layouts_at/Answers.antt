use Rattle.std.proofs.Common.{◌+◌, ◌∙◌, List, map, take, ap, sym, subst}
use Rattle.std.specs.Prelude.{string_bytes}
use Rattle.cf_layout.specs.Layout.{Plan}
use Rattle.cli_arguments.specs.Arguments.{layout_in}
use Rattle.cli_files.specs.Causes.{files_answered}
use Rattle.cli_files.proofs.NoStreams.{no-cause}
use Rattle.cli_time.specs.LayoutFiles.{AreLayoutsAt}
use Rattle.cli_time.proofs.Lists.{pushed}
use Rattle.cli_time.proofs.LayoutLists.{read-next, refused-next, unheld-next}
use Rattle.cli_time.proofs.layout_files.layouts_at.Goals as goal

pub returns-in-Err : goal.returns-in-Err
returns-in-Err g c = record {
  gives = tt;
  lacks = refused-next _ _ c.loop-place.place _ _ _ _ _ _ c.argument_at.ensures c.loop-place.invariant.0 c.in-Err.ensures.lacks;
  faults = rw (← c.loop-place.invariant.1) c.in-Err.ensures.faults;
}

pub returns-then-is_err : goal.returns-then-is_err
returns-then-is_err g c = record {
  gives = tt;
  lacks = unheld-next _ _ c.loop-place.place _ c.in-Ok.layout _ _ _ _ _ c.argument_at.ensures c.loop-place.invariant.0 c.in-Ok.ensures.gives
      c.no_memory.ensures.status c.no_memory.ensures.closing;
  faults = rw (c.in-Ok.ensures.faults.still, c.loop-place.invariant.1) (no-cause _ _ (ap files_answered c.no_memory.ensures.status));
}

pub loop-place-preserved : goal.loop-place-preserved
loop-place-preserved g c =
    let after = pushed c.push.result c.is_err.result _ c.push.new.self.items c.in-Ok.layout c.push.ensures.items c.is_err.ensures.value c.if-is_err.false in
    let arguments = map layout_in (map string_bytes c.args.arguments.now) in (
      subst (λ (plans : List Plan). AreLayoutsAt (take (c.loop-place.place + 1) arguments) (g.F.Files.told c.args.files.now)
          (g.F.Files.told c.layout_at.new.files) plans)
          (sym after) (read-next arguments _ c.loop-place.place _ c.in-Ok.layout _ _ _ c.argument_at.ensures c.loop-place.invariant.0 c.in-Ok.ensures.gives),
      c.in-Ok.ensures.faults.still ∙ c.loop-place.invariant.1,
    )
