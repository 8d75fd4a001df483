-- The outcome of reading a layout file.
use Rattle.std.specs.Prelude.{◌≡◌, ◌⊎◌, ℕ, ◌<◌, ◌≤◌, List, length, Option, Some, None, IsUtf8}
use Rattle.toml.specs.Data.{Members}
use Rattle.toml.specs.Parse.{parse_document}
use Rattle.cf_layout.specs.Layout.{Plan}
use Rattle.cf_layout.specs.Asked.{plan_of}
use Rattle.layout_file.specs.declared.fault.FileErr.{FileErr}
use Rattle.layout_file.specs.declared.fault.FileErr.TheVariants.{TooLong, NotToml, NoMemory}
use Rattle.layout_file.specs.Limits.{most_layout_bytes}
use Rattle.layout_file.specs.Reading.{requested_parts, fault_of, loose_fault_of}

-- the error is this fault, or memory ran out
abbrev pub ReportsFault : FileErr → Option FileErr → Type 0
ReportsFault e fault = (e ≡ NoMemory) ⊎ (fault ≡ Some e)

-- the file is not a TOML document: it is not UTF-8, or not in the grammar
abbrev pub IsNotToml : List ℕ → Type 0
IsNotToml file = IsUtf8 file → parse_document file ≡ None

-- the file is a TOML document with these members: it is UTF-8, and in the grammar
abbrev pub IsDocument : List ℕ → Members → Type 0
IsDocument file ms = IsUtf8 file × (parse_document file ≡ Some ms)

-- the file is not read as a document: it is too long, memory ran out, or it is not a TOML document
abbrev pub LacksDocument : List ℕ → FileErr → Type 0
LacksDocument file e = ((e ≡ TooLong) × (most_layout_bytes < length file))
    ⊎ ((length file ≤ most_layout_bytes) × ((e ≡ NoMemory) ⊎ ((e ≡ NotToml) × IsNotToml file)))

-- the file is a document in which a test finds this fault
abbrev pub HasFault : (Members → Option FileErr) → List ℕ → FileErr → Type 0
HasFault fault_in file e = (ms : Members) × IsDocument file ms × (fault_in ms ≡ Some e)

-- why reading a file that is not too long fails: memory ran out, the file is not a document, or it is a document with a
-- fault
abbrev pub FailsWithin : (Members → Option FileErr) → List ℕ → FileErr → Type 0
FailsWithin fault_in file e = (e ≡ NoMemory) ⊎ (((e ≡ NotToml) × IsNotToml file) ⊎ HasFault fault_in file e)

-- why reading fails, by a test of documents
abbrev pub FailsBy : (Members → Option FileErr) → List ℕ → FileErr → Type 0
FailsBy fault_in file e = ((e ≡ TooLong) × (most_layout_bytes < length file)) ⊎ ((length file ≤ most_layout_bytes) × FailsWithin fault_in file e)

-- the file is a document in which a test finds no fault, and describes the layout
abbrev pub DescribesBy : (Members → Option FileErr) → List ℕ → Plan → Type 0
DescribesBy fault_in file plan = (length file ≤ most_layout_bytes)
    × ((ms : Members) × IsDocument file ms × (fault_in ms ≡ None) × (plan ≡ plan_of (requested_parts ms)))

-- why reading fails, and what the file describes
abbrev pub LayoutFails : List ℕ → FileErr → Type 0
LayoutFails = FailsBy fault_of

abbrev pub Describes : List ℕ → Plan → Type 0
Describes = DescribesBy fault_of

-- the same, if the layout may break the rule on where control turns
abbrev pub LooseLayoutFails : List ℕ → FileErr → Type 0
LooseLayoutFails = FailsBy loose_fault_of

abbrev pub DescribesLoosely : List ℕ → Plan → Type 0
DescribesLoosely = DescribesBy loose_fault_of

-- the file is read as the layout: it describes this layout and no other, and reading it fails only if memory runs out
pub record ReadsAs (file : List ℕ) (plan : Plan) : Type 0 where
  pub describes : Describes file plan
  pub alone : (other : Plan) → Describes file other → other ≡ plan
  pub readable : (e : FileErr) → LayoutFails file e → e ≡ NoMemory
