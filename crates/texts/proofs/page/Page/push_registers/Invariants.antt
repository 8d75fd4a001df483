use Rattle.std.proofs.Common.{◌≡◌, ◌+◌, ◌*◌, ◌++◌, drop, length}
use Rattle.texts.specs.Lines.{registers_from}
use Rattle.texts.proofs.page.Page.push_registers.Given as goal

-- the text written so far and the entries of the remaining registers make up the whole text
abbrev pub invariant-loop-word : goal.invariant-loop-word
invariant-loop-word l = record {
  text : l.self ++ registers_from l.register (drop l.word-index l.regs)
      ≡ l.initial.self ++ registers_from 0 l.regs;
  size : length l.self ≡ length l.initial.self + 13 * l.register;
  number : l.register ≡ l.word-index;
}
