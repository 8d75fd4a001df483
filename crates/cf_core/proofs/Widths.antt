-- The widths of accesses, as they are tested and as they are listed.
use Rattle.std.proofs.Common.{ℕ, arith}
use Rattle.std.specs.Prelude.{◌==◌, ◌||◌, IsTrue}
use Rattle.std.proofs.lemmas.Bool.Decides.{nat_tests}
use Rattle.mem_regions.specs.Access.{IsWidth}

pub width-listed : (width : ℕ) → IsTrue (width == 1 || width == 2 || width == 4) → IsWidth width
width-listed width h = grind (arith, nat_tests)

pub width-tested : (width : ℕ) → IsWidth width → IsTrue (width == 1 || width == 2 || width == 4)
width-tested width h = grind (arith, nat_tests)

pub ruleset widths = (width-listed, width-tested)
