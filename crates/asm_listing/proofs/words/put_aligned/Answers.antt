use Rattle.std.proofs.Common.{refl, rules, ◌∙◌}
use Rattle.asm_listing.specs.Lines.{IsFirstWord}
use Rattle.cf_io.proofs.Owing.{owes-next, err-owes}
use Rattle.asm_listing.proofs.Walked.{word-next, next-aligned}
use Rattle.asm_listing.proofs.words.put_aligned.Goals as goal

pub returns-in_err-put_word-clause-err : goal.returns-in_err-put_word-clause-err
returns-in_err-put_word-clause-err g c =
    let first : IsFirstWord c.loop-word.rest.now c.in-Some.word c.in-Some.after.now = search rules in
    err-owes _ _ _ _ _ _ _ _ _ _ c.in_err-put_word.was c.loop-word.invariant.owes
    (word-next _ c.loop-word.pc _ _ _ _ first refl c.loop-word.invariant.aligned c.loop-word.invariant.below) c.put_word.ensures.err

pub loop-word-preserved : goal.loop-word-preserved
loop-word-preserved g c =
    let first : IsFirstWord c.loop-word.rest.now c.in-Some.word c.in-Some.after.now = search rules in
    let next = next-aligned c.loop-word.pc _ refl c.loop-word.invariant.aligned in
    record {
      owes = owes-next _ _ _ _ _ _ _ c.loop-word.invariant.owes
          (word-next _ c.loop-word.pc _ _ _ _ first refl c.loop-word.invariant.aligned c.loop-word.invariant.below) c.in_ok-put_word.ensures.ok;
      aligned = next.0;
      below = next.1;
      still = c.in_ok-put_word.ensures.cause.still ∙ c.loop-word.invariant.still;
    }
