-- An instruction whose flags `launched` and `recovered` are set: the path is unchanged.
use Rattle.std.proofs.Common.{Bool}
use Rattle.cf_bind.specs.declared.passenger.Passenger.{Passenger}
use Rattle.cf_semantics.specs.moves.Instructions.{Bad, Fetched, Got, fetched}
use Rattle.cf_semantics.specs.claims.Path.{Walk}
use Rattle.cf_semantics.specs.claims.Soundness.{Holds}
use Rattle.rv_inst.specs.declared.isa.Isa.{Isa}
use Rattle.theory_refinement.proofs.invariant.Sure.{SureAt}

abbrev pub marked : Bool → Bool → Passenger → Passenger
marked launched recovered p = record p { launched = launched; recovered = recovered }

pub marked_at : (isa : Isa) (a b : Bool) (p : Passenger) (w : Walk) → SureAt isa p w → SureAt isa (marked a b p) w
unfolding SureAt
marked_at isa a b p w h = (
  record {
    path = h.0.path;
    reads = reads (fetched isa w.machine.hart.mem p.pc) h.0.reads;
    shape = λ j k. record { one = (h.0.shape j k).one; two = (h.0.shape j k).two; three = (h.0.shape j k).three };
    values = record {
      first = h.0.values.first;
      second = h.0.values.second;
      destination = h.0.values.destination;
      owed = h.0.values.owed;
      goes = h.0.values.goes;
      next = h.0.values.next;
      done = h.0.values.done;
      ends = h.0.values.ends;
    };
    unended = h.0.unended;
    unowing = h.0.unowing;
    owed = h.0.owed;
  },
  record { source1 = h.1.source1; source2 = h.1.source2 },
)
  where
    reads : (q : Fetched) → Holds p q → Holds (marked a b p) q
    reads (Got j) k = k
    reads (Bad e) k = k
