-- Both lengths say how many bytes there are of the frame.
use Rattle.std.proofs.Common.{length, true, false, ap, ◌∙◌, eq-eqb, ne_eqb}
use Rattle.watch.proofs.Shortening.{both}
use Rattle.watch.proofs.window.Window.shorten.Goals as goal
use Rattle.watch.proofs.window.Window.shorten.Goals.{then-self, else-self}

pub returns : goal.returns
returns c =
    elim c.if-self.branch [
      | then-self w ↦
          let is = w.field-is ∙ w.to_be_bytes-field.ensures in
          both _ _ c.if-self.field _ c.self.told c.self.invariant c.self.view_is c.requires (ap length is) _ _ c.copy_from_slice.ensures.after c.copy_from_slice-2.ensures.after true (eq-eqb _ _ w.if-self.true) is
      | else-self w ↦
          let is = w.field-is ∙ w.to_le_bytes-field.ensures in
          both _ _ c.if-self.field _ c.self.told c.self.invariant c.self.view_is c.requires (ap length is) _ _ c.copy_from_slice.ensures.after c.copy_from_slice-2.ensures.after false (ne_eqb _ _ w.if-self.false) is
    ]
