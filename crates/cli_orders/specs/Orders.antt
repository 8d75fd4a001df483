-- The answer of the command `orders`, and its effect on the outside.
use Rattle.std.specs.Prelude.{◌≡◌, ◌⊎◌, ℕ, List, codes, length, Bool, true, false, Option, None, Some, Result, Ok, Err, IfSome}
use Rattle.cf_io.specs.Causes.{HasCause}
use Rattle.cf_io.specs.Puts.{Writes, WritesFront}
use Rattle.cf_io.specs.Reads.{FilesSeen}
use Rattle.cf_io.specs.declared.sink.Sink.{Ghosts as SinkMembers}
use Rattle.rv_machine.specs.Hart.{Hart}
use Rattle.rv_machine.specs.Streams.{Streams}
use Rattle.texts.specs.Lines.{line}
use Rattle.cf_layout.specs.Layout.{Plan}
use Rattle.order_rules.specs.declared.rule.Rule.{Rule}
use Rattle.order_rules.specs.declared.rule.Rule.TheVariants.{ControlAboveMemory}
use Rattle.order_graph.specs.declared.found.OrdersFound.{OrdersFound}
use Rattle.order_graph.specs.declared.found.OrdersFound.TheVariants.{Wrong, Reached, TooMany}
use Rattle.order_graph.specs.declared.reached.OrdersReached.{OrdersReached}
use Rattle.order_graph.specs.OrderAnswers.{AreOrdersFound, IsNotWrong, IsSearched, states_of, trial_of}
use Rattle.order_report.specs.Drawing.{IsDrawable}
use Rattle.order_shapes.specs.Shapes.{IsEncodable}
use Rattle.cli_arguments.specs.declared.command.OrdersOptions.{OrdersOptions}
use Rattle.cli_arguments.specs.Arguments.{NamedLayout}
use Rattle.cli_files.specs.Causes.{files_answered, input_answered, output_answered}
use Rattle.cli_files.specs.Loading.{IsLoaded, IsLoadedLoosely, LacksLoaded, LacksLoadedLoosely}
use Rattle.cli_files.specs.Memory.{LacksProcessor, SaysNoMemory}
use Rattle.cli_files.specs.Outside.{Outside, report_in}
use Rattle.cli_files.specs.declared.status.Status.{Status}
use Rattle.cli_files.specs.declared.status.Status.TheVariants as status
use Rattle.cli_reports.specs.Reporting.{ReportsAlone}
use Rattle.cli_reports.specs.declared.reporting.Reported.{Reported}
use Rattle.cli_orders.specs.EdgeTexts.{ShowsEdges}
use Rattle.cli_orders.specs.OrderTexts.{DoEnd, IsWrongReport, search_counts_text, script_text, too_many_line}

-- what the arguments ask of `orders`: where the layout is, the file with the program, and what the options say
pub record OrdersAsked : Type 0 where
  pub layout : NamedLayout
  pub program : List ℕ
  pub options : OrdersOptions

abbrev pub orders_asked : NamedLayout → List ℕ → OrdersOptions → OrdersAsked
orders_asked layout program options = record { layout = layout; program = program; options = options }

-- the effect of a call on the output and the report: the status says neither that a file failed nor that the input did,
-- and the count of the output's faults rose exactly if the status says that the output failed
pub record ReportsByOutput {K R : Type 0} (answers : Option (List ℕ) → Option (List ℕ) → Status → List ℕ → Type 0)
    (of_output : SinkMembers K) (of_report : SinkMembers R) (before after : K × R) (reported : Reported) : Type 0 where
  pub comes : ReportsAlone (answers (of_output.written before.0) (of_output.written after.0))
      (report_in of_report before.1) (report_in of_report after.1) reported
  pub files : files_answered reported.status ≡ Ok tt
  pub input : input_answered reported.status ≡ Ok tt
  pub output : HasCause (of_output.faults before.0) (of_output.faults after.0) (output_answered reported.status)

-- a text was written to the output, with this status and a report of this kind; or the output failed after a prefix of
-- it
abbrev pub PutsFirst : (text : List ℕ) → (said : Status) → (Reports : List ℕ → Type 0) → (before after : Option (List ℕ)) → Status → List ℕ → Type 0
PutsFirst text said Reports before after answer report =
    (Writes before after text × (answer ≡ said) × Reports report)
    ⊎ (WritesFront before after text × (answer ≡ status.WriteFault) × (report ≡ line (codes "write fault output")))

-- the moves from the states were written if they are shown, and the report counts the states
pub record PutsReached (edges : Bool) (r : OrdersReached) (before after : Option (List ℕ)) (answer : Status) (report : List ℕ) : Type 0 where
  pub text : List ℕ
  pub shows : ShowsEdges edges r text
  pub puts : PutsFirst text status.Done (λ report. report ≡ search_counts_text (length (states_of r)) r.reached.edges r.reached.ends r.reached.orders)
      before after answer report

-- what is written of the findings of a search: for a wrong list of moves its script, and how it is wrong; or the moves
-- and the counts; or that there are more states than were asked for
abbrev pub PutsFound : OrdersOptions → Plan → OrdersFound → (before after : Option (List ℕ)) → Status → List ℕ → Type 0
PutsFound options plan (Wrong w) before after answer report =
    PutsFirst (script_text w.moves.items) status.Wrong (IsWrongReport plan w) before after answer report
PutsFound options plan (Reached r) before after answer report = PutsReached options.show_edges r before after answer report
PutsFound options plan TooMany before after answer report =
    (after ≡ before) × (answer ≡ status.TooMany options.states) × (report ≡ too_many_line options.states)

-- memory was refused before anything was written
abbrev pub PutsNothing : (before after : Option (List ℕ)) → Status → List ℕ → Type 0
PutsNothing before after answer report = (after ≡ before) × SaysNoMemory answer report

-- the outcome of a search that has found something, or for which there was no memory
abbrev pub ComesOfFound : {E : Type 0} → OrdersOptions → Plan → Result OrdersFound E → (before after : Option (List ℕ)) → Status → List ℕ → Type 0
ComesOfFound options plan (Ok found) before after answer report = PutsFound options plan found before after answer report ⊎
    PutsNothing before after answer report
ComesOfFound options plan (Err error) before after answer report = PutsNothing before after answer report

-- what is needed of the findings: the state to which a wrong list leads can be drawn, and its last instruction encoded;
-- the states that were reached are those of a graph, and the lists of moves that lead to them end
abbrev pub CanBePut : OrdersFound → Type 0
CanBePut (Wrong w) = IsDrawable w.reached × IfSome w.seen IsEncodable
CanBePut (Reached r) = IsSearched r × DoEnd r.reached.orders
CanBePut TooMany = Unit {0}

-- all lists of moves of the program were tried, and this is written of the findings; if no rule is taken away, no list
-- is wrong
pub record SearchesOrders (options : OrdersOptions) (plan : Plan) (hart : Hart) (before after : Streams) (answer : Status) (report : List ℕ) : Type 0 where
  pub found : OrdersFound
  pub finds : AreOrdersFound (trial_of options.without plan hart options.issues) options.states found
  pub sound : options.without ≡ None → IsNotWrong found
  pub puts : PutsFound options plan found before.output after.output answer report
  pub input : after.input ≡ before.input

-- the outcome for a layout and a hart; or memory was refused
abbrev pub ComesOfOrders : OrdersOptions → Plan → Hart → Streams → Streams → Status → List ℕ → Type 0
ComesOfOrders options plan hart before after answer report =
    SearchesOrders options plan hart before after answer report ⊎ LacksProcessor before after answer report

-- the rule on where control turns is taken away
abbrev pub is_loose : Option Rule → Bool
is_loose (Some ControlAboveMemory) = true
is_loose _ = false

-- the layout and the program were found; a layout that breaks only that rule is accepted if the rule is taken away
abbrev pub AreFilesThere : (loose : Bool) → NamedLayout → (program : List ℕ) → Option FilesSeen → Option FilesSeen → Plan → Hart → Type 0
AreFilesThere true layout program before after plan hart = IsLoadedLoosely layout program before after plan hart
AreFilesThere false layout program before after plan hart = IsLoaded layout program before after plan hart

-- the first of the two that is missing, the status that says why, and the report
abbrev pub AreMissing : (loose : Bool) → NamedLayout → (program : List ℕ) → Option FilesSeen → Option FilesSeen → Status → List ℕ → Type 0
AreMissing true layout program before after answer report = LacksLoadedLoosely layout program before after answer report
AreMissing false layout program before after answer report = LacksLoaded layout program before after answer report

-- the layout and the program were read, and this is the outcome
pub record SearchesLoaded (asked : OrdersAsked) (before after : Outside) (answer : Status) (report : List ℕ) : Type 0 where
  pub plan : Plan
  pub hart : Hart
  pub loaded : AreFilesThere (is_loose asked.options.without) asked.layout asked.program before.files after.files plan hart
  pub comes : ComesOfOrders asked.options plan hart before.streams after.streams answer report

-- one of them is missing, and the streams were left unchanged
pub record RefusesOrders (asked : OrdersAsked) (before after : Outside) (answer : Status) (report : List ℕ) : Type 0 where
  pub lacks : AreMissing (is_loose asked.options.without) asked.layout asked.program before.files after.files answer report
  pub streams : after.streams ≡ before.streams

-- the answer of `orders` and its report
abbrev pub AnswersOrders : OrdersAsked → Outside → Outside → Status → List ℕ → Type 0
AnswersOrders asked before after answer report =
    SearchesLoaded asked before after answer report ⊎ RefusesOrders asked before after answer report
