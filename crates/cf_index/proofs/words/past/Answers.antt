use Rattle.std.proofs.Common.{◌∙◌, ℕ, Bool, ap, nat_lt, arith}
use Rattle.std.specs.Prelude.{◌&&◌, not}
use Rattle.cf_layout.specs.Words.{has_bit}
use Rattle.cf_index.proofs.WordBits.{beyond_word}
use Rattle.cf_index.proofs.words.past.Goals as goal

pub returns : goal.returns
returns c = λ k.
    c.without.ensures k ∙ ap (λ (b : Bool). has_bit c.args.word k && not b) (c.lowest.ensures k ∙ ap (λ (n : ℕ). nat_lt k n) c.min.ensures)
    ∙ beyond_word c.args.word c.args.i k (omega arith)
