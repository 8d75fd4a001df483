use Rattle.std.proofs.Common.{◌∙◌, ap}
use Rattle.std.specs.List.{list_any}
use Rattle.cf_semantics.specs.state.Options.{is_some}
use Rattle.cf_sidings.proofs.Taken.{holds-some}
use Rattle.cf_sidings.proofs.sidings.Sidings.hold_some.Goals as goal

pub returns : goal.returns
returns c = holds-some c.self.inside.list.items c.self.inside.taken c.self.inside.inner c.self.invariant ∙ ap (list_any (list_any is_some)) c.self.view_is
