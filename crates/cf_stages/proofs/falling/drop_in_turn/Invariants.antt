use Rattle.std.proofs.Common.{◌≡◌, ◌-◌}
use Rattle.cf_stages.specs.Parts.{AreStages, stages_of}
use Rattle.cf_stages.proofs.InTurn.{HasFallen}
use Rattle.cf_stages.proofs.falling.drop_in_turn.Given as goal

-- the words agree with the pipes, and results have fallen in turn
abbrev pub invariant-loop-rest : goal.invariant-loop-rest
invariant-loop-rest l =
    record {
      parts : AreStages l.passengers l.packets l.words.riding l.words.flying l.words.met;
      riding : l.words.riding ≡ l.fn.words.riding;
      fallen : HasFallen (stages_of l.fn.passengers l.fn.packets l.fn.words.riding l.fn.words.flying l.fn.words.met) l.left l.resting
          (stages_of l.passengers l.packets l.words.riding l.words.flying l.words.met) l.rest l.fallen.count l.fallen.last;
    }

abbrev pub decreases-loop-rest : goal.decreases-loop-rest
decreases-loop-rest l = 32 - l.fallen.last
