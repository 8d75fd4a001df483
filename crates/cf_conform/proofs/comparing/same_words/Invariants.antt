use Rattle.std.proofs.Common.{◌≡◌, length}
use Rattle.run_scripts.specs.Words.{words_of}
use Rattle.cf_conform.proofs.comparing.same_words.Given as goal

-- the words so far are the same
abbrev pub invariant-loop-right : goal.invariant-loop-right
invariant-loop-right l = record {
  same : l.left ≡ l.right → words_of l.one ≡ words_of l.other;
  apart : words_of l.one ≡ words_of l.other → l.left ≡ l.right;
}

abbrev pub decreases-loop-right : goal.decreases-loop-right
decreases-loop-right l = length l.left
