use Rattle.std.proofs.Common.{◌∙◌, ◌/◌, ◌%◌, ◌^◌, ℕ, ap, subst, sym}
use Rattle.cf_index.specs.Packed.{FitsEight, packed_from}
use Rattle.cf_index.proofs.PackedWords.{fits, leaving_part, stages_part}
use Rattle.cf_index.proofs.packing.others.Goals as goal

pub passing_then-passes-requires-clause-passing : goal.passing_then-passes-requires-clause-passing
passing_then-passes-requires-clause-passing c =
    subst FitsEight (sym c.passing_words.ensures) (fits c.args.core.now.plan c.args.core.now.state c.requires.few)

pub returns-clause-stages : goal.returns-clause-stages
returns-clause-stages c =
    ap (λ (w : ℕ). packed_from 3 49 (w % 2 ^ 49)) c.flag_then.ensures
    ∙ stages_part c.args.core.now.plan c.args.core.now.state c.emits_among.result c.passing_words.result c.passing_then-passes.result c.requires.few
    c.emits_among.ensures c.passing_words.ensures c.passing_then-passes.ensures.moves

pub returns-clause-leaving : goal.returns-clause-leaving
returns-clause-leaving c =
    ap (packed_from 52 12) (ap (λ (w : ℕ). w / 2 ^ 49) c.flag_then.ensures
    ∙ leaving_part c.emits_among.result c.passing_then-passes.result c.args.leaves c.passing_then-passes.ensures.rest)
    ∙ c.requires.leaves
