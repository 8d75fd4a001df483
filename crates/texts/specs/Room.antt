-- The capacity of a page.
use Rattle.std.specs.Prelude.{ℕ}
use Rattle.texts.specs.declared.page.TheConstants.{ROOM}

-- the number of bytes that fit into a page
abbrev pub page_room : ℕ
page_room = ROOM
