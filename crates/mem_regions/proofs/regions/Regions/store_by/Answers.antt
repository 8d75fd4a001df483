use Rattle.mem_regions.proofs.Windows.{window-stored, window-written}
use Rattle.mem_regions.proofs.regions.Regions.store_by.Goals as goal

pub returns-then-holds-clause-window : goal.returns-then-holds-clause-window
returns-then-holds-clause-window c = rw c.store_within.ensures (window-written _ _ _ _ _ c.requires.window)

pub returns-clause-window : goal.returns-clause-window
returns-clause-window c = rw c.store.ensures.memory (window-stored _ _ _ _ _ c.requires.window)
