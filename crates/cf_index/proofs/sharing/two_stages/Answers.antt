use Rattle.std.proofs.Common.{◌∙◌, ◌+◌, ap, nat_eq, Bool, true}
use Rattle.std.specs.Prelude.{◌-◌, ◌&&◌, ◌||◌}
use Rattle.cf_index.proofs.SiteWords.{more_stage}
use Rattle.cf_index.proofs.sharing.two_stages.Goals as goal

pub returns : goal.returns
returns c = λ k.
    c.with_bit.ensures k
    ∙ ap (λ (b : Bool). (nat_eq k (c.args.j - 1) && true) || b) (c.stage_word.ensures k)
    ∙ more_stage k c.args.j (nat_eq (k + 1) c.args.i) c.requires.other_first
