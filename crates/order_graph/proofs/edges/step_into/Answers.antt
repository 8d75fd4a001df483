-- A move that leads on is made in a copy of the node.
use Rattle.std.proofs.Common.{◌≡◌, ◌+◌, ◌<◌, ◌^◌, None, sym, subst, ap, ◌∙◌}
use Rattle.mem_changes.specs.Differing.{AreChangesOf}
use Rattle.order_model.specs.RuleBars.{bar_without}
use Rattle.order_model.specs.RuleMoves.{next_without}
use Rattle.order_model.specs.Situations.{lone_moment, in_memory}
use Rattle.order_keys.specs.declared.node.Node.{Node}
use Rattle.order_graph.specs.OrderTrial.{OrderTrial}
use Rattle.order_graph.specs.KeyGraph.{memory_loaded}
use Rattle.order_graph.proofs.Facts.{node_allows, node_count, node_issues, node_memory, node_stepped}
use Rattle.order_graph.proofs.edges.step_into.Goals as goal

pub make_changing-requires-clause-allowed : goal.make_changing-requires-clause-allowed
make_changing-requires-clause-allowed c =
    subst (λ (t : OrderTrial). bar_without t.away t.plan (in_memory c.args.next.now.situation c.args.mem.now) c.args.m ≡ None) (sym c.trial.view_is)
    (subst (λ (k : Node). bar_without c.args.trial.now.away c.args.trial.now.plan (in_memory k.situation c.args.mem.now) c.args.m ≡ None) (sym c.requires.next)
    (node_allows c.args.trial.now c.args.node.now c.args.mem.now c.args.m c.requires.memory c.requires.leads))

pub make_changing-requires-clause-count : goal.make_changing-requires-clause-count
make_changing-requires-clause-count c =
    subst (λ (k : Node). k.situation.retired + 1 < 2 ^ 64) (sym c.requires.next)
    (node_count c.args.trial.now c.args.node.now c.note_trial.ensures c.requires.node)

pub make_changing-requires-clause-changes : goal.make_changing-requires-clause-changes
make_changing-requires-clause-changes c =
    subst (λ (t : OrderTrial). AreChangesOf (memory_loaded t) c.args.mem.now c.args.next.now.changes) (sym c.trial.view_is)
    (subst (λ (k : Node). AreChangesOf (memory_loaded c.args.trial.now) c.args.mem.now k.changes) (sym c.requires.next)
    (node_memory c.args.trial.now c.args.node.now c.args.mem.now c.note_trial.ensures c.requires.node c.requires.memory))

pub issues_with-next-requires : goal.issues_with-next-requires
issues_with-next-requires c = node_issues c.args.trial.now c.args.node.now c.note_trial.ensures c.requires.node

pub returns-clause-node : goal.returns-clause-node
returns-clause-node c =
    node_stepped c.args.trial.now c.args.node.now c.args.m c.args.mem.now c.make_changing.new.mem c.make_changing.new.self c.make_changing.new.changes
    c.issues_with-next.result c.note_trial.ensures c.requires.node c.requires.memory
    (subst (λ (t : OrderTrial). in_memory c.make_changing.new.self c.make_changing.new.mem
    ≡ (next_without t.away t.plan (lone_moment (in_memory c.args.node.now.situation c.args.mem.now)) c.args.m).state) c.trial.view_is
    (c.in_ok-make_changing.ensures.state
    ∙ ap (λ (k : Node). (next_without c.trial.inside.away c.trial.inside.layout (lone_moment (in_memory k.situation c.args.mem.now)) c.args.m).state)
    c.requires.next))
    (subst (λ (t : OrderTrial). AreChangesOf (memory_loaded t) c.make_changing.new.mem c.make_changing.new.changes) c.trial.view_is
    c.in_ok-make_changing.ensures.changes)
    c.note_bare.ensures c.issues_with-next.ensures
