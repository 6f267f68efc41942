-- The claims of specs/Claims.antt, proved.
use Rattle.searching.specs.Claims.{Claims}
use Rattle.searching.proofs.Search.{lowest_le, lowest_holds, lowest_before, lowest_is, lowest_none, lowest_same}
use Rattle.searching.proofs.Count.{count_le, count_none, count_all, count_less, count_some, count_same, count_more, count_at_most, count_sum}

pub claims : Claims
claims = record {
  finds = λ test n. record { within = lowest_le test n; passes = lowest_holds test n; first = lowest_before test n; only = lowest_is test n; none = lowest_none test n };
  counts = λ test n. record { at_most = count_le test n; none = count_none test n; all = count_all test n; not_all = count_less test n; not_none = count_some test n };
  agreeing = record { found = lowest_same; counted = count_same };
  one_more = count_more;
  at_most_sum = count_at_most;
  sum_of_two = count_sum;
}
