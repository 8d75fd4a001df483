use Rattle.std.proofs.Common.{◌≡◌, ◌+◌, ◌*◌, ◌++◌, drop, length}
use Rattle.cf_debug.specs.Replies.{bytes_text}
use Rattle.cf_debug.proofs.replies.push_bytes.Given as goal

-- what is written and the bytes that are left make the whole text
abbrev pub invariant-loop-byte : goal.invariant-loop-byte
invariant-loop-byte l = record {
  text : l.page ++ bytes_text (drop l.byte-index l.bytes) ≡ l.initial.page ++ bytes_text l.bytes;
  size : length l.page ≡ length l.initial.page + 3 * l.byte-index;
}
