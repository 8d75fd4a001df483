-- The files that `orders` reads.
use Rattle.std.proofs.Common.{ℕ, List, [], ◌∷◌, ◌++◌, Bool, true, false, Option, inl, inr}
use Rattle.cf_io.specs.Reads.{FilesSeen}
use Rattle.rv_machine.specs.Hart.{Hart}
use Rattle.cf_layout.specs.Layout.{Plan}
use Rattle.cli_arguments.specs.Arguments.{NamedLayout}
use Rattle.cli_files.specs.Outside.{Outside}
use Rattle.cli_files.specs.Reads.{layout_files, WereRead}
use Rattle.cli_files.specs.declared.status.Status.{Status}
use Rattle.cli_files.proofs.Reading.{AllRead, were-all, loaded-read, loaded-lacking, loaded-loosely-read, loaded-loosely-lacking}
use Rattle.cli_orders.specs.Orders.{AnswersOrders, AreMissing, AreFilesThere, OrdersAsked, is_loose}

there-read : (b : Bool) (layout : NamedLayout) (name : List ℕ) (before after : Option FilesSeen) (plan : Plan) (hart : Hart) →
    AreFilesThere b layout name before after plan hart →
    AllRead (layout_files layout ++ name ∷ []) before after
there-read true layout name before after plan hart h = loaded-loosely-read layout name before after plan hart h
there-read false layout name before after plan hart h = loaded-read layout name before after plan hart h

missing-read : (b : Bool) (layout : NamedLayout) (name : List ℕ) (before after : Option FilesSeen) (answer : Status) (report : List ℕ) →
    AreMissing b layout name before after answer report →
    WereRead (layout_files layout ++ name ∷ []) before after
missing-read true layout name before after answer report h = loaded-loosely-lacking layout name before after answer report h
missing-read false layout name before after answer report h = loaded-lacking layout name before after answer report h

pub orders-read : (asked : OrdersAsked) (before after : Outside) (answer : Status) (report : List ℕ) →
    AnswersOrders asked before after answer report → WereRead (layout_files asked.layout ++ asked.program ∷ []) before.files after.files
orders-read asked before after answer report (inl r) =
    were-all (layout_files asked.layout ++ asked.program ∷ []) before.files after.files
    (there-read (is_loose asked.options.without) asked.layout asked.program before.files after.files r.plan r.hart r.loaded)
orders-read asked before after answer report (inr r) =
    missing-read (is_loose asked.options.without) asked.layout asked.program before.files after.files answer report r.lacks
