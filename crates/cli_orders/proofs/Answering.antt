-- The outcome of a search, and what `orders` answers.
use Rattle.std.proofs.Common.{◌≡◌, ℕ, List, Option, None, Result, Ok, Err, refl, inl, inr}
use Rattle.std.specs.Prelude.{IfOk}
use Rattle.rv_machine.specs.Hart.{Hart}
use Rattle.rv_machine.specs.Streams.{streams_of}
use Rattle.cf_layout.specs.Layout.{Plan}
use Rattle.order_graph.specs.declared.found.OrdersFound.{OrdersFound}
use Rattle.order_graph.specs.OrderAnswers.{AreOrdersFound, IsNotWrong, trial_of}
use Rattle.cli_arguments.specs.declared.command.OrdersOptions.{OrdersOptions}
use Rattle.cli_files.specs.Outside.{Report}
use Rattle.cli_reports.specs.Reporting.{ReportsAlone}
use Rattle.cli_reports.specs.declared.reporting.Reported.{Reported}
use Rattle.cli_orders.specs.Orders.{ComesOfFound, ComesOfOrders}

-- if both were found, the streams are unchanged
streams-same : (input left output written : Option (List ℕ)) → left ≡ input → written ≡ output → streams_of left written ≡ streams_of input output
streams-same input left output written e f = rw (e, f) refl

-- what was written of the findings of a search is what the command writes
pub orders-come : {E : Type 0} (options : OrdersOptions) (plan : Plan) (hart : Hart) (input left output written : Option (List ℕ))
    (blank full : Report) (found : Result OrdersFound E) (reported : Reported) →
    IfOk found (AreOrdersFound (trial_of options.without plan hart options.issues) options.states) → (options.without ≡ None → IfOk found IsNotWrong) →
    left ≡ input → ReportsAlone (ComesOfFound options plan found output written) blank full reported →
    ReportsAlone (ComesOfOrders options plan hart (streams_of input output) (streams_of left written)) blank full reported
orders-come options plan hart input left output written blank full (Ok found) reported finds sound same (text, inl puts, put) =
    (text, inl (record { found = found; finds = finds; sound = sound; puts = puts; input = same }), put)
orders-come options plan hart input left output written blank full (Ok found) reported finds sound same (text, inr (kept, says), put) =
    (text, inr (record { status_is = says.0; reports = says.1; streams = streams-same input left output written same kept }), put)
orders-come options plan hart input left output written blank full (Err error) reported finds sound same (text, (kept, says), put) =
    (text, inr (record { status_is = says.0; reports = says.1; streams = streams-same input left output written same kept }), put)
