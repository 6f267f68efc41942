-- Rule C4: link reports (part Q) in the numbers that cross to C, and the reports that come back.
use Rattle.std.specs.Prelude.{false, cond, [], ℕ, eqb, ℤ, pos, Option, None, Some, unwrap_or, is_some}
use Rattle.numbers.specs.Numbers.{Answer, gives, refuses, and_then, mapped}
use Rattle.links.specs.declared.LinkKind.{LinkKind}
use Rattle.links.specs.declared.LinkKind.TheVariants.{Tx, Rx}
use Rattle.links.specs.declared.LinkReport.{LinkReport}
use Rattle.links.specs.Pairs.{link_code}
use Rattle.links.specs.Reports.{is_zero, merged}
use Rattle.c_links.specs.declared.AshlarReport.{AshlarReport}

-- Rule Q4: the report, its kind by its code, and its lowest beside its flag: where there is none it is 0. Where it is
-- refused, all else is 0.
abbrev pub report_numbers_lem : Answer LinkReport → AshlarReport
report_numbers_lem (gives r) = record {
  errors = r.errors;
  packets = r.packets;
  sum = r.sum;
  count = r.pairs;
  kind = link_code r.kind;
  low = unwrap_or r.low (pos 0);
  has_low = is_some r.low;
  refusal = 0;
}
report_numbers_lem (refuses n vs) = record {
  errors = 0;
  packets = 0;
  sum = pos 0;
  count = 0;
  kind = 0;
  low = pos 0;
  has_low = false;
  refusal = n;
}

-- The report that a C caller lends. A kind that is neither 9 nor 10, or a lowest other than 0 without its flag: 19. Its
-- `refusal` is not looked at: what was refused has kind 0.
abbrev pub kind_with_lem : ℕ → Answer LinkKind
kind_with_lem n = cond (eqb n (link_code Tx)) (gives Tx) (cond (eqb n (link_code Rx)) (gives Rx) (refuses 19 []))

abbrev pub low_of_lem : AshlarReport → Answer (Option ℤ)
low_of_lem a = cond a.has_low (gives (Some a.low)) (cond (is_zero a.low) (gives None) (refuses 19 []))

abbrev pub lent_with_lem : LinkKind → AshlarReport → Option ℤ → LinkReport
lent_with_lem k a l =
    record { kind = k; pairs = a.count; errors = a.errors; packets = a.packets; low = l; sum = a.sum }

unfoldable pub report_from_lem : AshlarReport → Answer LinkReport
report_from_lem a = and_then (kind_with_lem a.kind) (λ k. mapped (λ l. lent_with_lem k a l) (low_of_lem a))

-- Rule Q7: two that a C caller lends, made into one.
abbrev pub merged_from : AshlarReport → AshlarReport → Answer LinkReport
merged_from one other = and_then (report_from_lem one) (λ a. and_then (report_from_lem other) (λ b. merged a b))
