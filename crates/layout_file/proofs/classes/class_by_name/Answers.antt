use Rattle.layout_file.proofs.Words.{found_computed, all_small}
use Rattle.layout_file.specs.declared.format.Format.TheVariants.{Second}
use Rattle.layout_file.specs.Names.{classes_in}
use Rattle.layout_file.proofs.classes.class_by_name.Goals as goal

pub returns-in-Second-clause-computed : goal.returns-in-Second-clause-computed
returns-in-Second-clause-computed c = rw c.class_among-in-Second.ensures (found_computed (classes_in Second) c.args.word.now (all_small Second))
