-- The claims of specs/Claims.antt, proved.
use mathlib.Core.Path.{sym, ◌∙◌}
use Rattle.numbers.proofs.Firm.{by_equation}
use Rattle.table.specs.Rows.{fresh_table, totals_in, lower_row_lem, dropped_key_lem}
use Rattle.table.specs.Claims.{Claims}

pub claims : Claims
claims = record {
  firmness = record {
    fresh = by_equation fresh_table;
    first_row = λ used row-keys sender a b x y. x.0 ∙ sym y.0;
    totals_at = λ sender-keys sender-places row. by_equation (totals_in sender-keys sender-places row);
    lower_row = λ a b. by_equation (lower_row_lem a b);
    without_key = λ t row. by_equation (dropped_key_lem t row);
    drop_key = λ t row. by_equation (dropped_key_lem t row);
  };
}
