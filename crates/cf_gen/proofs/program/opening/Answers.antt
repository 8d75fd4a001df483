use Rattle.std.proofs.Common.{◌≡◌, ℕ, ◌-◌, ◌++◌, ap, sym, ◌∙◌, arith, codes, decimal}
use Rattle.cf_gen.specs.Draws.{state_after_draw, state_after_draws, drawn_below}
use Rattle.cf_gen.specs.Statements.{register_operand}
use Rattle.cf_gen.specs.Program.{statement, load_line}
use Rattle.cf_gen.proofs.Steps.{lines-more, after-register}
use Rattle.cf_gen.proofs.program.opening.Goals as goal

pub loop-register-preserved : goal.loop-register-preserved
unfolding load_line
loop-register-preserved c =
    let x = c.args.draws.now in
    let r = c.loop-register.register in
    let number : c.below.result ≡ drawn_below 65536 (state_after_draws (r - 8) x) =
    c.below.ensures.number ∙ ap (λ (y : ℕ). drawn_below 65536 y) c.loop-register.invariant.state in
    let loaded : c.push_load.new.page ≡ c.loop-register.page ++ load_line x r =
    c.push_load.ensures.text ∙ ap (λ (n : ℕ). c.loop-register.page ++ statement (codes "li " ++ register_operand r ++ codes ", " ++ decimal n)) number in
    record {
      text = lines-more (load_line x) r 16 _ _ _ (omega arith) loaded c.loop-register.invariant.text;
      state = c.below.ensures.state ∙ ap state_after_draw c.loop-register.invariant.state ∙ sym (after-register r x (omega arith));
      size = omega arith;
    }

pub returns-clause-state : goal.returns-clause-state
returns-clause-state c =
    let last : c.loop-register.register ≡ 16 = omega arith in
    c.loop-register.invariant.state ∙ ap (λ (r : ℕ). state_after_draws (r - 8) c.args.draws.now) last
