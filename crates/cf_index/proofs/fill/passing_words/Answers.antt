use Rattle.cf_index.proofs.fill.passing_words.Goals as goal

pub returns : goal.returns
returns c = λ x.
    record {
      climb = c.climbs_among.ensures x;
      fall = c.falls.ensures x;
      meet = c.meets.ensures x;
      execute = c.executes.ensures x;
      send = c.sends.ensures x;
      launch = c.launches.ensures x;
    }
