use Rattle.std.proofs.Common.{◌≡◌, ◌++◌, take}
use Rattle.texts.proofs.page.Page.push.Given as goal

-- the bytes so far come after those that the page had
abbrev pub invariant-loop-byte : goal.invariant-loop-byte
invariant-loop-byte l =
    l.self-inside.text.items ≡ l.initial.self-inside.text.items ++ take l.byte-index l.text
