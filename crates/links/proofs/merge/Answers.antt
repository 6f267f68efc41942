-- What can be merged fits.
use mathlib.Core.Path.{sym, ◌∙◌}
use Rattle.links.proofs.Merging.{added_fits}
use Rattle.links.proofs.merge.Goals as goal

pub add-requires : goal.add-requires
add-requires c = let x = c.args in let whole = added_fits x.one x.other (sym c.can_merge.ensures ∙ c.if-not-can_merge.false) in record { pairs_bound = whole.0; packets_bound = whole.1 }
