use Rattle.order_shapes.proofs.KeptShapes.{all_shaped}
use Rattle.order_shapes.proofs.laws.moves_keep_the_shape.Goals as goal

pub returns : goal.returns
returns c = all_shaped
