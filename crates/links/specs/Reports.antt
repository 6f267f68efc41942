-- A report over the pairs of a value: exact totals that can be added up (rules Q4, Q6 and Q7).
use Rattle.std.specs.Prelude.{Bool, true, false, cond, ◌&&◌, List, [], ◌∷◌, ℕ, zero, suc, ◌+◌, ◌*◌, min, max, leb, eqb, length, ℤ, pos, negsuc, ◌+ℤ◌, ◌*ℤ◌, Option, None, Some}
use Rattle.std.specs.Int.Signed.{le_z}
use Rattle.numbers.specs.Numbers.{Answer, gives, refuses, and_then}
use Rattle.links.specs.declared.LinkKind.{LinkKind}
use Rattle.links.specs.declared.LinkKind.TheVariants.{Tx, Rx}
use Rattle.links.specs.declared.LinkReport.{LinkReport}
use Rattle.links.specs.Pairs.{pairs_in, errors_of, packets_of, signal_of}

-- the lower of two numbers
abbrev pub lower : ℤ → ℤ → ℤ
lower (pos a) (pos b) = pos (min a b)
lower (pos a) (negsuc b) = negsuc b
lower (negsuc a) (pos b) = negsuc a
lower (negsuc a) (negsuc b) = negsuc (max a b)

-- the lower of two, where there are two
abbrev pub lower_of_lem : Option ℤ → Option ℤ → Option ℤ
lower_of_lem None l = l
lower_of_lem (Some a) None = Some a
lower_of_lem (Some a) (Some b) = Some (lower a b)

-- Rule Q4: no pairs. Every sum is 0, and there is no lowest.
abbrev pub no_pairs_lem : LinkKind → LinkReport
no_pairs_lem k = record { kind = k; pairs = 0; errors = 0; packets = 0; low = None; sum = pos 0 }

-- Rule Q4: one pair. Kind 9 has no signal strengths.
abbrev pub lowest_in_lem : LinkKind → List ℕ → Option ℤ
lowest_in_lem Tx p = None
lowest_in_lem Rx p = Some (signal_of p)

abbrev pub sum_in : LinkKind → List ℕ → ℤ
sum_in Tx p = pos 0
sum_in Rx p = signal_of p

abbrev pub one_pair_lem : LinkKind → List ℕ → LinkReport
one_pair_lem k p = record {
  kind = k;
  pairs = 1;
  errors = errors_of k p;
  packets = packets_of k p;
  low = lowest_in_lem k p;
  sum = sum_in k p;
}

-- Rules Q4 and Q7: two of one kind added up.
abbrev pub added : LinkReport → LinkReport → LinkReport
added a b = record {
  kind = a.kind;
  pairs = a.pairs + b.pairs;
  errors = a.errors + b.errors;
  packets = a.packets + b.packets;
  low = lower_of_lem a.low b.low;
  sum = a.sum +ℤ b.sum;
}

-- Rule Q4: the report over a list of pairs.
unfoldable pub report_over : LinkKind → List (List ℕ) → LinkReport
report_over k [] = no_pairs_lem k
report_over k (p ∷ ps) = added (one_pair_lem k p) (report_over k ps)

-- Rule Q4: above 1,024 pairs, 19.
abbrev pub most_pairs : ℕ
most_pairs = 1024

unfoldable pub report_if_few : LinkKind → List (List ℕ) → Answer LinkReport
report_if_few k ps = cond (leb (length ps) most_pairs) (gives (report_over k ps)) (refuses 19 [])

-- Rule Q4: the report over a value. A value that doesn't read: 3 or 4.
unfoldable pub report_of : LinkKind → List ℕ → Answer LinkReport
report_of k s = and_then (pairs_in k s) (λ ps. report_if_few k ps)

-- Rule Q6: lowest and sum. There are none in kind 9 and without pairs. Otherwise n·l ≤ sum ≤ l + (n - 1)·127.
abbrev pub is_zero : ℤ → Bool
is_zero (pos n) = eqb n 0
is_zero (negsuc n) = false

abbrev pub a_signal : ℤ → Bool
a_signal l = le_z (negsuc 127) l && le_z l (pos 127)

abbrev pub signals_fit_lem : LinkKind → ℕ → Option ℤ → ℤ → Bool
signals_fit_lem Tx n None s = is_zero s
signals_fit_lem Tx n (Some l) s = false
signals_fit_lem Rx zero None s = is_zero s
signals_fit_lem Rx zero (Some l) s = false
signals_fit_lem Rx (suc n) None s = false
signals_fit_lem Rx (suc n) (Some l) s = a_signal l && (le_z (pos (suc n) *ℤ l) s && le_z s (l +ℤ pos (n * 127)))

-- Rule Q6: whether this is the report of some value.
unfoldable pub some_value_gives_lem : LinkReport → Bool
some_value_gives_lem r =
    leb r.pairs most_pairs &&
    (leb r.errors (r.pairs * 4294967295) &&
    (leb r.packets (r.pairs * 4294967295) &&
    signals_fit_lem r.kind r.pairs r.low r.sum))

abbrev pub same_kind_lem : LinkKind → LinkKind → Bool
same_kind_lem Tx Tx = true
same_kind_lem Tx Rx = false
same_kind_lem Rx Tx = false
same_kind_lem Rx Rx = true

-- Rule Q7: one report made from two. 19 where the kinds differ, where they have more than 1,024 pairs together, or
-- where one of them is the report of no value.
abbrev pub mergeable : LinkReport → LinkReport → Bool
mergeable a b =
    same_kind_lem a.kind b.kind &&
    (leb (a.pairs + b.pairs) most_pairs && (some_value_gives_lem a && some_value_gives_lem b))

unfoldable pub merged : LinkReport → LinkReport → Answer LinkReport
merged a b = cond {A = Answer LinkReport} (mergeable a b) (gives (added a b)) (refuses 19 [])
