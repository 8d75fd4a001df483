-- Lines store what memory has, as long as the code is the same.
use Rattle.std.proofs.Common.{get_or-set_other, replicate, ◌≡◌, ◌∙◌, ℕ, ◌+◌, ◌-◌, ◌*◌, ◌/◌, ◌%◌, ◌^◌, ◌<◌, ◌==◌, ◌≢◌, ◌⊎◌, inl, inr, Bool, false, List, length, slice_index_or, slice_set, true, Some, None, Option, IsTrue, refl, ap, sym, subst, arith}
use Rattle.std.specs.Prelude.{IfSome}
use Rattle.std.proofs.lemmas.List.{get_or-replicate}
use Rattle.std.proofs.lemmas.List.Elements.{All-set}
use Rattle.std.proofs.lemmas.Bool.Decides.{nat_tests}
use Rattle.std.proofs.lemmas.Grind.{get_or-set_at}
use Rattle.std.specs.List.{All}
use Rattle.mem_regions.specs.Memory.{Memory}
use Rattle.mem_regions.specs.Fetching.{fetch_at}
use Rattle.mem_regions.specs.Writing.{stored}
use Rattle.rv_inst.specs.declared.instruction.Instr.{Instr}
use Rattle.rv_machine.specs.declared.flat.Flat.{Flat}
use Rattle.rv_machine.specs.declared.flat.FlatOp.TheVariants.{Slow}
use Rattle.rv_machine.specs.declared.flat_lines.FlatLine.{FlatLine}
use Rattle.rv_machine.specs.Flat.{instr_of, IsAt, StandsFor}
use Rattle.rv_machine.specs.Lines.{no_operation, flat_at, index_in, covers, IsLineOf, AreLinesOf, IsBlank, no_line, line_at, cover}
use Rattle.rv_inst.specs.Words.{word_sum, word_difference}
use Rattle.rv_machine.specs.Quick.{HasSameCode}
use Rattle.rv_machine.proofs.Keeping.{found_at-same}
use Rattle.rv_machine.proofs.Quick.{store-same}

-- an unknown operation may represent anything
stands-none : (mem : Memory) (pc : ℕ) (f : Flat) → f ≡ no_operation → StandsFor mem pc f
stands-none mem pc f e = subst (StandsFor mem pc) (sym e) (record { is = tt; written = λ h. absurd (cc) })

-- a blank line is a line of any memory
pub line-blank : (mem : Memory) (line : FlatLine) → IsBlank line → IsLineOf mem line
line-blank mem line blank = record {
  aligned = blank.0;
  within = blank.1;
  last = blank.2 256 (omega arith);
  stand = λ j below. stands-none mem _ (flat_at line j) (blank.2 j (omega (arith, below)));
}

pub lines-blank : (mem : Memory) (lines : List FlatLine) → All IsBlank lines → AreLinesOf mem lines
unfolding AreLinesOf
lines-blank mem lines blank = λ k d below. line-blank mem (slice_index_or lines k d) (blank k d below)

-- what an operation represents depends only on the code
if-same : (m n : Memory) (pc : ℕ) (o : Option Instr) → fetch_at n pc ≡ fetch_at m pc → IfSome o (IsAt m pc) → IfSome o (IsAt n pc)
if-same m n pc None same h = tt
if-same m n pc (Some i) same h = record { word = h.word; is = found_at-same m n pc same ∙ h.is }

pub line-same : (m n : Memory) (line : FlatLine) → HasSameCode m n → IsLineOf m line → IsLineOf n line
unfolding HasSameCode
line-same m n line same h = record {
  aligned = h.aligned;
  within = h.within;
  last = h.last;
  stand = λ j below.
      let s = h.stand j below in
      record { is = if-same m n _ (instr_of (flat_at line j)) (same _) s.is; written = s.written };
}

pub lines-same : (m n : Memory) (lines : List FlatLine) → HasSameCode m n → AreLinesOf m lines → AreLinesOf n lines
unfolding AreLinesOf
lines-same m n lines same h = λ k d below. line-same m n (slice_index_or lines k d) same (h k d below)

-- a store preserves them
pub lines-stored : (m : Memory) (addr width number : ℕ) (lines : List FlatLine) → AreLinesOf m lines →
    AreLinesOf (stored m addr width number) lines
lines-stored m addr width number lines = lines-same m _ lines (store-same m addr width number)

-- the address of an operation is that of its word
address-is : (base pc : ℕ) → base % 4 ≡ 0 → base < 2 ^ 32 → pc % 4 ≡ 0 → pc < 2 ^ 32 →
    word_sum base (word_difference pc base / 4 * 4) ≡ pc
address-is base pc b small a below = omega (arith, b, small, a, below)

covered : (line : FlatLine) (pc : ℕ) → IsTrue (covers line pc) → word_difference pc line.base < 1024
unfolding covers
covered line pc h = grind (arith, nat_tests)

-- the index of an address that the line has
pub within-line : (line : FlatLine) (pc : ℕ) → IsTrue (covers line pc) → index_in line pc < 256
within-line line pc h = let d = covered line pc h in omega (arith, d)

pub ruleset spotting = (within-line)

-- a line that begins with the block of an address has the address
pub covers-block : (pc : ℕ) (ops : List Flat) → pc < 2 ^ 32 → IsTrue (covers (record { base = pc - pc % 1024; ops = ops }) pc)
unfolding covers
covers-block pc ops below = let d : word_difference pc (pc - pc % 1024) < 1024 = omega (arith, below) in grind (arith, nat_tests)

pub ruleset within = (within-line)

pub ruleset beginning = (covers-block)

-- a line with one more operation
op-by : (ops : List Flat) (j k : ℕ) (f : Flat) (P : ℕ → Flat → Type 0) (b : Bool) → (j == k) ≡ b → k < length ops →
    P k f → P j (slice_index_or ops j no_operation) → P j (slice_index_or (slice_set ops k f) j no_operation)
op-by ops j k f P true e inside new old =
    let same : j ≡ k = grind (arith, nat_tests) in
    rw (get_or-set_at ops k j f no_operation same inside) (subst (λ (n : ℕ). P n f) (sym same) new)
op-by ops j k f P false e inside new old =
    let other : j ≢ k = grind (arith, nat_tests) in
    rw (get_or-set_other ops k j f no_operation other) old

op-with : (ops : List Flat) (j k : ℕ) (f : Flat) (P : ℕ → Flat → Type 0) → length ops ≡ 257 → k < 256 →
    P k f → P j (slice_index_or ops j no_operation) → P j (slice_index_or (slice_set ops k f) j no_operation)
op-with ops j k f P len inside new old = op-by ops j k f P (j == k) refl (rw len (omega (arith, inside))) new old

last-with : (ops : List Flat) (k : ℕ) (f : Flat) → k < 256 → slice_index_or ops 256 no_operation ≡ no_operation →
    slice_index_or (slice_set ops k f) 256 no_operation ≡ no_operation
last-with ops k f below h = let other : 256 ≢ k = omega (arith, below) in rw (get_or-set_other ops k 256 f no_operation other) h

pub line-with : (mem : Memory) (line : FlatLine) (pc : ℕ) (f : Flat) → length line.ops ≡ 257 → IsLineOf mem line →
    IsTrue (covers line pc) → pc % 4 ≡ 0 → pc < 2 ^ 32 → StandsFor mem pc f →
    IsLineOf mem (record line { ops = slice_set line.ops (index_in line pc) f })
line-with mem line pc f len h c aligned below new = record {
  aligned = h.aligned;
  within = h.within;
  last = last-with line.ops (index_in line pc) f (within-line line pc c) h.last;
  stand = λ j inside.
      op-with line.ops j (index_in line pc) f (λ (n : ℕ) (g : Flat). StandsFor mem (word_sum line.base (n * 4)) g) len (within-line line pc c)
      (subst (λ (n : ℕ). StandsFor mem n f) (sym (address-is line.base pc h.aligned h.within aligned below)) new) (h.stand j inside);
}

-- it still covers what it covered
pub covers-with : (line : FlatLine) (pc : ℕ) (ops : List Flat) → IsTrue (covers line pc) →
    IsTrue (covers (record { base = line.base; ops = ops }) pc)
unfolding covers
covers-with line pc ops c = c

pub ruleset learning = (line-with, covers-with)

-- the line that is prepared: it is blank, or a line of the memory
pub line-begun : (mem : Memory) (line old : FlatLine) → IsLineOf mem old → (IsBlank line) ⊎ (line ≡ old) → IsLineOf mem line
line-begun mem line old h (inl blank) = line-blank mem line blank
line-begun mem line old h (inr same) = subst (IsLineOf mem) (sym same) h

-- lines with one more line
pub lines-with : (mem : Memory) (lines : List FlatLine) (k : ℕ) (line : FlatLine) → AreLinesOf mem lines → IsLineOf mem line →
    AreLinesOf mem (slice_set lines k line)
unfolding AreLinesOf
lines-with mem lines k line h new = All-set (IsLineOf mem) lines k line new h

-- the line at an index
pub line-of : (mem : Memory) (lines : List FlatLine) (k : ℕ) → k < length lines → AreLinesOf mem lines →
    IsLineOf mem (slice_index_or lines k no_line)
unfolding AreLinesOf
line-of mem lines k below h = h k no_line below

pub ruleset preparing = (line-begun, lines-with, line-of)

-- unknown operations, as many as a line has, are a blank line
pub blank-line : (base : ℕ) → base % 4 ≡ 0 → base < 2 ^ 32 → IsBlank (record { base = base; ops = replicate 257 no_operation })
blank-line base aligned within = (aligned, within, λ j below. get_or-replicate 257 j no_operation no_operation below)

-- having the same code is transitive
pub same-again : (a b c : Memory) → HasSameCode a b → HasSameCode b c → HasSameCode a c
unfolding HasSameCode
same-again a b c f g pc = g pc ∙ f pc

pub ruleset carrying = (lines-same)

pub ruleset still_lines = (lines-blank, lines-stored)

-- an address that a line covers is covered after the line is set
pub cover-with : (lines : List FlatLine) (pc : ℕ) (line : FlatLine) → line_at pc < length lines → IsTrue (covers line pc) →
    IsTrue (cover (slice_set lines (line_at pc) line) pc)
unfolding cover
cover-with lines pc line below c = rw (get_or-set_at lines (line_at pc) (line_at pc) line no_line refl below) c

pub ruleset covering = (cover-with)

-- the operation at an index of the line represents what memory has there; the operation after the last represents
-- nothing
stands-last : (mem : Memory) (line : FlatLine) (pc : ℕ) → IsLineOf mem line → StandsFor mem pc (flat_at line 256)
stands-last mem line pc h = stands-none mem pc (flat_at line 256) h.last

stands-by : (mem : Memory) (line : FlatLine) (at : ℕ) (b : Bool) → (at == 256) ≡ b → IsLineOf mem line → at < 257 →
    StandsFor mem (word_sum line.base (at * 4)) (flat_at line at)
stands-by mem line at true e h below =
    let last : at ≡ 256 = grind (arith, nat_tests) in
    subst (λ (n : ℕ). StandsFor mem (word_sum line.base (n * 4)) (flat_at line n)) (sym last) (stands-last mem line _ h)
stands-by mem line at false e h below =
    let other : at ≢ 256 = grind (arith, nat_tests) in h.stand at (omega (arith, other, below))

pub stands-from : (mem : Memory) (line : FlatLine) (at : ℕ) → IsLineOf mem line → at < 257 →
    StandsFor mem (word_sum line.base (at * 4)) (flat_at line at)
stands-from mem line at h below = stands-by mem line at (at == 256) refl h below

-- an index at which the operation is known is not the last
inside-by : (mem : Memory) (line : FlatLine) (at : ℕ) (b : Bool) → (at == 256) ≡ b → IsLineOf mem line → at < 257 →
    (flat_at line at).op ≢ Slow → at + 1 < 257
inside-by mem line at true e h below known =
    let last : at ≡ 256 = grind (arith, nat_tests) in
    absurd (known (ap (λ (n : ℕ). (flat_at line n).op) last ∙ ap (λ (f : Flat). f.op) h.last))
inside-by mem line at false e h below known = let other : at ≢ 256 = grind (arith, nat_tests) in omega (arith, other, below)

pub inside-more : (mem : Memory) (line : FlatLine) (at : ℕ) → IsLineOf mem line → at < 257 → (flat_at line at).op ≢ Slow → at + 1 < 257
inside-more mem line at h below known = inside-by mem line at (at == 256) refl h below known

-- the addresses of a line are those of words
pub word-aligned : (base at : ℕ) → base % 4 ≡ 0 → word_sum base (at * 4) % 4 ≡ 0
word-aligned base at aligned = omega (arith, aligned)
