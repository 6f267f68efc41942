-- Each number is that of its look-up; a key that is not there holds nothing.
use mathlib.Core.Path.{ap, ◌∙◌}
use Prim.Native.Nat.{ℕ}
use Rattle.table.specs.Rows.{first_row_lem, place_of}
use Rattle.pushing.proofs.look.look_up.Goals as goal

pub find_key-row-requires : goal.find_key-row-requires
find_key-row-requires c = c.first_row-first.ensures.0 ∙ ap (first_row_lem c.args.t.now) c.sender_of.ensures

pub held_at-place-requires : goal.held_at-place-requires
held_at-place-requires c h = rw c.find_key-row.ensures (c.requires (rw (← c.find_key-row.ensures) h))

pub returns : goal.returns
returns c =
    let a = c.args in
    let row_is = c.find_key-row.ensures in
    let first_is = c.first_row-first.ensures.0 ∙ ap (first_row_lem a.t.now) c.sender_of.ensures in
    λ i. record {
      row = row_is i;
      place = (c.held_at-place.ensures ∙ ap (λ (r : ℕ). place_of a.t.now r a.a.fragment.number) row_is) i;
      free = c.find_free-free.ensures i;
      spare = c.find_spare-spare.ensures i;
      first = first_is i;
    }
