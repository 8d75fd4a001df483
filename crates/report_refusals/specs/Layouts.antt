-- The report of a layout that is refused (a format of this project).
use Rattle.std.specs.Prelude.{ℕ, List, [], ◌∷◌, ◌++◌, codes, decimal}
use Rattle.std.specs.Fmt.{signed_decimal}
use Rattle.cf_layout.specs.declared.refusal.LayoutErr.{LayoutErr}
use Rattle.cf_layout.specs.declared.refusal.LayoutErr.TheVariants.{StagesOutOfRange, LaneOutOfRange, StageOutOfRange, ClassTwice, MissingUnit, EmptyUnit, MemoryNotSiding, MemorySharesSiding, SidingOrder, CellsOutOfRange, ControlAboveMemory, TooManySidings, EmptySiding}
use Rattle.layout_file.specs.Names.{class_name}
use Rattle.layout_file.specs.declared.fault.FileErr.{FileErr}
use Rattle.layout_file.specs.declared.fault.FileErr.TheVariants.{TooLong, NotToml, UnknownKey, MissingKey, WrongType, UnknownClass, UnknownFormat, Refused, NoMemory}
use Rattle.texts.specs.Lines.{line}
use Rattle.report_refusals.specs.Variants.{cut, variant}

-- why the parts of a layout are refused
unfoldable pub layout_refusal : LayoutErr → List ℕ
layout_refusal (StagesOutOfRange stages) = variant (codes "StagesOutOfRange") (signed_decimal stages ∷ [])
layout_refusal (LaneOutOfRange lane) = variant (codes "LaneOutOfRange") (signed_decimal lane ∷ [])
layout_refusal (StageOutOfRange c stage) = variant (codes "StageOutOfRange") (class_name c ∷ signed_decimal stage ∷ [])
layout_refusal (ClassTwice c) = variant (codes "ClassTwice") (class_name c ∷ [])
layout_refusal (MissingUnit c) = variant (codes "MissingUnit") (class_name c ∷ [])
layout_refusal (EmptyUnit c) = variant (codes "EmptyUnit") (class_name c ∷ [])
layout_refusal MemoryNotSiding = variant (codes "MemoryNotSiding") []
layout_refusal MemorySharesSiding = variant (codes "MemorySharesSiding") []
layout_refusal (SidingOrder launch recover) = variant (codes "SidingOrder") (signed_decimal launch ∷ signed_decimal recover ∷ [])
layout_refusal (CellsOutOfRange cells) = variant (codes "CellsOutOfRange") (signed_decimal cells ∷ [])
layout_refusal (ControlAboveMemory c stage launch) = variant (codes "ControlAboveMemory") (class_name c ∷ decimal stage ∷ decimal launch ∷ [])
layout_refusal (TooManySidings sidings) = variant (codes "TooManySidings") (decimal sidings ∷ [])
layout_refusal (EmptySiding index) = variant (codes "EmptySiding") (decimal index ∷ [])

-- why a file is not a layout
unfoldable pub layout_file_refusal : FileErr → List ℕ
layout_file_refusal TooLong = variant (codes "TooLong") []
layout_file_refusal NotToml = variant (codes "NotToml") []
layout_file_refusal (UnknownKey key) = variant (codes "UnknownKey") (cut key ∷ [])
layout_file_refusal (MissingKey key) = variant (codes "MissingKey") (cut key ∷ [])
layout_file_refusal (WrongType key) = variant (codes "WrongType") (cut key ∷ [])
layout_file_refusal (UnknownClass word) = variant (codes "UnknownClass") (cut word ∷ [])
layout_file_refusal (UnknownFormat format) = variant (codes "UnknownFormat") (signed_decimal format ∷ [])
layout_file_refusal (Refused error) = codes "Refused " ++ layout_refusal error
layout_file_refusal NoMemory = variant (codes "NoMemory") []

-- the whole report
unfoldable pub bad_layout : FileErr → List ℕ
bad_layout error = line (codes "bad layout: " ++ layout_file_refusal error)
