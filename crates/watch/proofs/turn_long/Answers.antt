-- The window keeps its file header, as it is shortened.
use Rattle.watch.proofs.Turning.{header_alone}
use Rattle.watch.proofs.turn_long.Goals as goal

pub returns-clause-window : goal.returns-clause-window
returns-clause-window g c = header_alone _ _ _ c.requires.1 c.shorten.ensures c.seek.ensures
