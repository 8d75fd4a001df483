use Rattle.std.proofs.Common.{refl}
use Rattle.cli_files.proofs.NoStreams.{no-cause}
use Rattle.order_graph.specs.OrderAnswers.{trial_of}
use Rattle.cli_orders.proofs.Answering.{orders-come}
use Rattle.cli_orders.proofs.Showing.{all_can_be_put}
use Rattle.cli_orders.proofs.command.search_images_loosely.Goals as goal

pub put_found-requires : goal.put_found-requires
put_found-requires g c =
    let o = c.args.options in
    all_can_be_put (trial_of o.without c.args.layout.now c.args.images.machine o.issues) o.states c.search_loosely-found.result c.is_equipped.ensures
    c.search_loosely-found.ensures

pub returns : goal.returns
returns g c = record {
  reports = orders-come c.args.options c.args.layout.now c.args.images.machine _ _ _ _ _ _ c.search_loosely-found.result c.put_found.result
      c.search_loosely-found.ensures (λ none. absurd (c.requires.rule none)) refl c.put_found.ensures.comes;
  faults = record {
    files = c.put_found.ensures.files;
    input = no-cause _ _ c.put_found.ensures.input;
    output = c.put_found.ensures.output;
  };
}
