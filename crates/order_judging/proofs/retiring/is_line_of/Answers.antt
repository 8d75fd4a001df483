-- Lines are the same if their parts are.
use Rattle.cf_semantics.specs.runs.Lines.{line_of, line_read}
use Rattle.order_judging.proofs.LineParts.{whole, parts}
use Rattle.order_judging.proofs.retiring.is_line_of.Goals as goal

pub returns : goal.returns
returns c =
    let l = line_read c.args.isa c.args.line.now in
    let o = line_of c.args.p.now in
    (λ t. whole l o (c.has_parts_of.ensures.0 t), λ e. c.has_parts_of.ensures.1 (parts l o e))
