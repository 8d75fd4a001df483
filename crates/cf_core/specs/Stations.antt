-- What a layout has for each class: the stages with its units, the last of them, and its siding ("Counterflow Pipeline
-- Processor Architecture", 1994: units and sidings).
use Rattle.std.specs.Prelude.{◌≡◌, ℕ, ◌<◌, List, [], ◌∷◌, Option, Some, None, length}
use Rattle.rv_inst.specs.declared.classes.Class.{Class}
use Rattle.rv_inst.specs.declared.classes.Class.TheVariants.{Add, Logic, Shift, Compare, Branch, Jump, Memory, Serial, Free, Mul, Div}
use Rattle.cf_layout.specs.Layout.{Plan, last_stage, launch_stage, recover_stage, siding_of, unit_at}
use Rattle.cf_stages.specs.Words.{word_of}
use Rattle.cf_core.specs.declared.stations.SidingStages.{SidingStages}
use Rattle.cf_core.specs.declared.stations.Station.{Station}

-- a siding by its number
abbrev pub site_of : Plan → ℕ → SidingStages
site_of plan k = record { number = k; launch = launch_stage plan k; recover = recover_stage plan k }

-- the siding of a class
abbrev pub home_site : Plan → Option ℕ → Option SidingStages
home_site plan None = None
home_site plan (Some k) = Some (site_of plan k)

-- where instructions of a class are computed
unfoldable pub station_of : Plan → Class → Station
station_of plan c = record {
  units = word_of (unit_at plan c) plan.stages;
  last = last_stage plan c;
  siding = home_site plan (siding_of plan c);
}

-- the index of a class in the table
abbrev pub index_of : Class → ℕ
index_of Add = 0
index_of Logic = 1
index_of Shift = 2
index_of Compare = 3
index_of Branch = 4
index_of Jump = 5
index_of Memory = 6
index_of Serial = 7
index_of Free = 8
index_of Mul = 9
index_of Div = 10

-- the same for all classes
unfoldable pub stations_of : Plan → List Station
stations_of plan =
    station_of plan Add ∷ station_of plan Logic ∷ station_of plan Shift ∷ station_of plan Compare ∷ station_of plan Branch ∷ station_of plan Jump
    ∷ station_of plan Memory ∷ station_of plan Serial ∷ station_of plan Free ∷ station_of plan Mul ∷ station_of plan Div ∷ []

-- a siding is that of the class
pub record AreSidingStages (plan : Plan) (c : Class) (site : SidingStages) : Type 0 where
  pub siding : siding_of plan c ≡ Some site.number
  pub inside : site.number < length plan.sidings
  pub launch : site.launch ≡ launch_stage plan site.number
  pub recover : site.recover ≡ recover_stage plan site.number
