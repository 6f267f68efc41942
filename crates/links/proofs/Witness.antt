-- For each report that passes the test, a list of pairs that gives it. The totals are spread over the pairs from the
-- first on, each pair taking as much as it can hold.
use mathlib.Core.Path.{◌≡◌, refl, sym, ap, ◌∙◌}
use mathlib.Core.Bool.{Bool, true, false, ◌&&◌, false≢true}
use mathlib.Core.List.{List, [], ◌∷◌, ◌++◌, append_assoc}
use Prim.Native.Nat.{ℕ, zero, suc, ◌+◌, ◌*◌, ◌-◌, ◌/◌, ◌%◌, ◌≤◌, ◌<◌, min}
use native.Mathlib.Omega.{arith}
use borrow.Author.Tests.{eqb-true, leb-true}
use lib.Dec.{leb}
use lib.ListN.{length, get_or}
use lib.IntN.{ℤ, pos, negsuc, sub_ℕ, ◌+ℤ◌, ◌*ℤ◌}
use lib.Signed.{le_z}
use Rattle.numbers.specs.Bytes.{in_bytes, AllBytes}
use Rattle.numbers.proofs.Bytes.{said_back}
use Rattle.links.specs.declared.LinkKind.{LinkKind}
use Rattle.links.specs.declared.LinkKind.TheVariants.{Tx, Rx}
use Rattle.std.specs.Prelude.{Option, None, Some}
use Rattle.links.specs.declared.LinkReport.{LinkReport}
use Rattle.links.specs.Reports.{report_over, is_zero, signals_fit_lem, some_value_gives_lem, a_signal, most_pairs}
use Rattle.links.specs.PrivatePairs.{pair_bytes}
use Rattle.links.proofs.Signed.{raised, le_back, above, under, up, up_is, is_difference, pos_sub, sub_add, sub_times}
use Rattle.links.proofs.Joining.{own_kind}
use Rattle.links.proofs.Passing.{AllPairs, Total, of_errors, of_packets, in_pair, in_report, total_none, total_next, signal_up, lowest_up, sum_up, pairs_are, lowest_up_lem, sum_up_lem, no_lowest, no_sum}

-- a list of pairs that gives the report
pub record ListGives (r : LinkReport) : Type 0 where
  pub list : List (List ℕ)
  pub bytes : AllPairs list
  pub each_long : (i : ℕ) → i < length list → length (get_or list i []) ≡ pair_bytes r.kind
  pub is : report_over r.kind list ≡ r

abbrev pub zeros : ℕ → List ℕ → List ℕ
zeros zero s = s
zeros (suc n) s = 0 ∷ zeros n s

-- a pair with these totals, and with a signal that is u once raised by 128
abbrev pair_of : LinkKind → (Total → ℕ) → ℕ → List ℕ
pair_of Tx t u = zeros 15 (in_bytes 4 (t of_errors) ++ (in_bytes 4 (t of_packets) ++ zeros 6 []))
pair_of Rx t u = zeros 14 (in_bytes 4 (t of_errors) ++ (in_bytes 4 (t of_packets) ++ (raised u ∷ [])))

pair_length : (k : LinkKind) (t : Total → ℕ) (u : ℕ) → length (pair_of k t u) ≡ pair_bytes k
pair_length Tx t u = refl
pair_length Rx t u = refl

pair_total : (f : Total) (k : LinkKind) (t : Total → ℕ) (u : ℕ) → t f < 4294967296 → in_pair f k (pair_of k t u) ≡ t f
pair_total of_errors Tx t u h = said_back 4 (t of_errors) h
pair_total of_errors Rx t u h = said_back 4 (t of_errors) h
pair_total of_packets Tx t u h = said_back 4 (t of_packets) h
pair_total of_packets Rx t u h = said_back 4 (t of_packets) h

pair_signal : (t : Total → ℕ) (u : ℕ) → u < 256 → signal_up (pair_of Rx t u) ≡ u
pair_signal t u h = omega (arith, h)

-- what a pair takes of the totals, and what it leaves
abbrev taken : (Total → ℕ) → Total → ℕ
taken t f = min (t f) 4294967295

abbrev left : (Total → ℕ) → Total → ℕ
left t f = t f - min (t f) 4294967295

-- n pairs, over which the totals t, and x beyond n times the raised signal r, are spread
abbrev pairs_of : LinkKind → ℕ → (Total → ℕ) → ℕ → ℕ → List (List ℕ)
pairs_of k zero t r x = []
pairs_of k (suc n) t r x = pair_of k (taken t) (r + min x (255 - r)) ∷ pairs_of k n (left t) r (x - min x (255 - r))

many : (k : LinkKind) (n : ℕ) (t : Total → ℕ) (r x : ℕ) → length (pairs_of k n t r x) ≡ n
many k zero t r x = refl
many k (suc n) t r x = ap suc (many k n (left t) r (x - min x (255 - r)))

total_back : (f : Total) (k : LinkKind) (n : ℕ) (t : Total → ℕ) (r x : ℕ) → t f ≤ n * 4294967295 → in_report f (report_over k (pairs_of k n t r x)) ≡ t f
unfolding report_over
total_back f k zero t r x h = total_none f k ∙ omega (arith, h)
total_back f k (suc n) t r x h =
    let first : in_pair f k (pair_of k (taken t) (r + min x (255 - r))) ≡ taken t f = pair_total f k (taken t) (r + min x (255 - r)) (omega arith) in
    let others : in_report f (report_over k (pairs_of k n (left t) r (x - min x (255 - r)))) ≡ left t f =
    total_back f k n (left t) r (x - min x (255 - r)) (omega (arith, h)) in
    total_next f k (pair_of k (taken t) (r + min x (255 - r))) (report_over k (pairs_of k n (left t) r (x - min x (255 - r)))) ∙
    (λ i. first i + others i) ∙ split (t f)
  where
    split : (e : ℕ) → min e 4294967295 + (e - min e 4294967295) ≡ e
    split e = omega arith

-- what is left over one pair fewer
left_over : (n m x : ℕ) → x ≤ suc n * m → x - min x m ≤ n * m
left_over n m x h = omega (arith, h)

sum_back : (n : ℕ) (t : Total → ℕ) (r x : ℕ) → r ≤ 255 → x ≤ n * (255 - r) → sum_up (pairs_of Rx n t r x) ≡ n * r + x
sum_back zero t r x byte h = omega (arith, h)
sum_back (suc n) t r x byte h =
    let first : signal_up (pair_of Rx (taken t) (r + min x (255 - r))) ≡ r + min x (255 - r) = pair_signal (taken t) (r + min x (255 - r)) (omega (arith, byte)) in
    let others : sum_up (pairs_of Rx n (left t) r (x - min x (255 - r))) ≡ n * r + (x - min x (255 - r)) =
    sum_back n (left t) r (x - min x (255 - r)) byte (left_over n (255 - r) x h) in
    (λ i. first i + others i) ∙ omega arith

-- the last pair has the lowest signal
lowest_back : (n : ℕ) (t : Total → ℕ) (r x : ℕ) → r ≤ 255 → x ≤ n * (255 - r) →
    lowest_up (pair_of Rx (taken t) (r + min x (255 - r))) (pairs_of Rx n (left t) r (x - min x (255 - r))) ≡ r
lowest_back zero t r x byte h = pair_signal (taken t) (r + min x (255 - r)) (omega (arith, byte)) ∙ omega (arith, h)
lowest_back (suc n) t r x byte h =
    let first : signal_up (pair_of Rx (taken t) (r + min x (255 - r))) ≡ r + min x (255 - r) = pair_signal (taken t) (r + min x (255 - r)) (omega (arith, byte)) in
    (λ i. min (first i) (lowest_back n (left t) r (x - min x (255 - r)) byte (left_over n (255 - r) x h) i)) ∙ omega arith

-- the pairs are bytes, as many as a pair has
next_bytes : (b : ℕ) (s : List ℕ) → b < 256 → AllBytes s → AllBytes (b ∷ s)
next_bytes b s h g zero = h
next_bytes b s h g (suc i) = g i

pub zeros_bytes : (n : ℕ) (s : List ℕ) → AllBytes s → AllBytes (zeros n s)
zeros_bytes zero s h = h
zeros_bytes (suc n) s h = next_bytes 0 (zeros n s) (omega arith) (zeros_bytes n s h)

number_bytes : (w n : ℕ) (s : List ℕ) → AllBytes s → AllBytes (in_bytes w n ++ s)
number_bytes zero n s h = h
number_bytes (suc w) n s h = rw append_assoc (number_bytes w (n / 256) (n % 256 ∷ s) (next_bytes (n % 256) s (omega arith) h))

pub no_bytes : AllBytes []
no_bytes i = omega arith

totals_bytes : (t : Total → ℕ) (s : List ℕ) → AllBytes s → AllBytes (in_bytes 4 (t of_errors) ++ (in_bytes 4 (t of_packets) ++ s))
totals_bytes t s h = number_bytes 4 (t of_errors) (in_bytes 4 (t of_packets) ++ s) (number_bytes 4 (t of_packets) s h)

pair_bytes_lem : (k : LinkKind) (t : Total → ℕ) (u : ℕ) → AllBytes (pair_of k t u)
pair_bytes_lem Tx t u = zeros_bytes 15 (in_bytes 4 (t of_errors) ++ (in_bytes 4 (t of_packets) ++ zeros 6 [])) (totals_bytes t (zeros 6 []) (zeros_bytes 6 [] no_bytes))
pair_bytes_lem Rx t u =
    zeros_bytes 14 (in_bytes 4 (t of_errors) ++ (in_bytes 4 (t of_packets) ++ (raised u ∷ []))) (totals_bytes t (raised u ∷ []) (next_bytes (raised u) [] (omega arith) no_bytes))

pairs_bytes : (k : LinkKind) (n : ℕ) (t : Total → ℕ) (r x : ℕ) → AllPairs (pairs_of k n t r x)
pairs_bytes k zero t r x i = no_bytes
pairs_bytes k (suc n) t r x zero = pair_bytes_lem k (taken t) (r + min x (255 - r))
pairs_bytes k (suc n) t r x (suc i) = pairs_bytes k n (left t) r (x - min x (255 - r)) i

pairs_long : (k : LinkKind) (n : ℕ) (t : Total → ℕ) (r x i : ℕ) → i < length (pairs_of k n t r x) → length (get_or (pairs_of k n t r x) i []) ≡ pair_bytes k
pairs_long k zero t r x i h = absurd (none i h)
  where
    none : (i : ℕ) → i < 0 → ⊥
    none i h = omega (arith, h)
pairs_long k (suc n) t r x zero h = pair_length k (taken t) (r + min x (255 - r))
pairs_long k (suc n) t r x (suc i) h = pairs_long k n (left t) r (x - min x (255 - r)) i (omega (arith, h))

-- the report over these pairs, field by field
abbrev report_with : LinkKind → ℕ → (Total → ℕ) → Option ℤ → ℤ → LinkReport
report_with k n t l s = record { kind = k; pairs = n; errors = t of_errors; packets = t of_packets; low = l; sum = s }

list_gives : (k : LinkKind) (n : ℕ) (t : Total → ℕ) (r x : ℕ) (l : Option ℤ) (s : ℤ) → ((f : Total) → t f ≤ n * 4294967295) →
    (report_over k (pairs_of k n t r x)).low ≡ l → (report_over k (pairs_of k n t r x)).sum ≡ s → ListGives (report_with k n t l s)
list_gives k n t r x l s ht hl hs = record {
  list = pairs_of k n t r x;
  bytes = pairs_bytes k n t r x;
  each_long = pairs_long k n t r x;
  is = λ i. record {
    kind = own_kind k (pairs_of k n t r x) i;
    pairs = (pairs_are k (pairs_of k n t r x) ∙ many k n t r x) i;
    errors = total_back of_errors k n t r x (ht of_errors) i;
    packets = total_back of_packets k n t r x (ht of_packets) i;
    low = hl i;
    sum = hs i;
  };
}

is_zero_lem : (s : ℤ) → is_zero s ≡ true → pos 0 ≡ s
is_zero_lem (pos n) h = ap pos (sym (eqb-true n 0 h))
is_zero_lem (negsuc n) h = absurd (false≢true h)

pub two : (a b : Bool) → (a && b) ≡ true → (a ≡ true) × (b ≡ true)
two true b h = (refl, h)
two false b h = absurd (false≢true h)

-- lowest and sum of kind 10, raised: what the test says of them, and the pairs that have them
module _ (n : ℕ) (t : Total → ℕ) (l s : ℤ) (ht : (f : Total) → t f ≤ suc n * 4294967295)
    (least : le_z (negsuc 127) l ≡ true) (most : le_z l (pos 127) ≡ true)
    (sum_low : le_z (pos (suc n) *ℤ l) s ≡ true) (sum-high : le_z s (l +ℤ pos (n * 127)) ≡ true) where
  abbrev r : ℕ
  r = up 128 l

  l_least : 0 + under l ≤ above l + 128
  l_least = le_back 0 128 (above l) (under l) (ap (le_z (negsuc 127)) (sym (is_difference l)) ∙ least)

  l_most : above l + 0 ≤ 127 + under l
  l_most = le_back (above l) (under l) 127 0 (ap (λ z. le_z z (pos 127)) (sym (is_difference l)) ∙ most)

  l_is : l ≡ sub_ℕ r 128
  l_is = up_is 128 l (omega (arith, l_least))

  s_low : suc n * r + under s ≤ above s + suc n * 128
  s_low =
      le_back (suc n * r) (suc n * 128) (above s) (under s)
      (sym (λ i. le_z (sub_times (suc n) r 128 i) (is_difference s i)) ∙ ap (λ z. le_z (pos (suc n) *ℤ z) s) (sym l_is) ∙ sum_low)

  s_high : above s + (128 + 0) ≤ (r + n * 127) + under s
  s_high =
      le_back (above s) (under s) (r + n * 127) (128 + 0)
      (ap (λ z. le_z z (sub_ℕ (r + n * 127) (128 + 0))) (sym (is_difference s)) ∙
      ap (le_z s) (sym (ap (λ z. z +ℤ pos (n * 127)) l_is ∙ ap (λ z. sub_ℕ r 128 +ℤ z) (pos_sub (n * 127)) ∙ sub_add r 128 (n * 127) 0)) ∙ sum-high)

  abbrev x : ℕ
  x = up (suc n * 128) s - suc n * r

  x_fits : x ≤ n * (255 - r)
  x_fits = within (up (suc n * 128) s) (omega (arith, s_high, s_low)) (omega (arith, l_most))
    where
      within : (t : ℕ) → t ≤ r + n * 255 → r ≤ 255 → t - suc n * r ≤ n * (255 - r)
      within t h k = omega (arith, h, over (255 - r) (omega (arith, k)))
        where
          over : (d : ℕ) → 255 ≡ r + d → n * 255 ≡ n * r + n * d
          over d e = rw e (omega arith)

  signals_given : ListGives (report_with Rx (suc n) t (Some l) s)
  signals_given =
      list_gives Rx (suc n) t r x (Some l) s ht
      (lowest_up_lem first others (pairs_bytes Rx (suc n) t r x) ∙ ap (λ u. Some (sub_ℕ u 128)) (lowest_back n t r x byte x_fits) ∙ ap Some (sym l_is))
      (sum_up_lem (first ∷ others) (pairs_bytes Rx (suc n) t r x) ∙
      (λ i. sub_ℕ (sum_back (suc n) t r x byte (wider x_fits) i) (many Rx (suc n) t r x i * 128)) ∙
      ap (λ u. sub_ℕ u (suc n * 128)) (omega (arith, s_low)) ∙ sym (up_is (suc n * 128) s (omega (arith, s_low))))
    where
      byte : r ≤ 255
      byte = omega (arith, l_most)

      first : List ℕ
      first = pair_of Rx (taken t) (r + min x (255 - r))

      others : List (List ℕ)
      others = pairs_of Rx n (left t) r (x - min x (255 - r))

      wider : x ≤ n * (255 - r) → x ≤ suc n * (255 - r)
      wider h = omega (arith, h)

-- by the kind, the number of pairs and the lowest
by_fields : (k : LinkKind) (n : ℕ) (t : Total → ℕ) (l : Option ℤ) (s : ℤ) → ((f : Total) → t f ≤ n * 4294967295) → signals_fit_lem k n l s ≡ true →
    ListGives (report_with k n t l s)
unfolding report_over
by_fields Tx n t None s ht h = list_gives Tx n t 0 0 None s ht (no_lowest (pairs_of Tx n t 0 0)) (no_sum (pairs_of Tx n t 0 0) ∙ is_zero_lem s h)
by_fields Tx n t (Some l) s ht h = absurd (false≢true h)
by_fields Rx zero t None s ht h = list_gives Rx 0 t 0 0 None s ht refl (is_zero_lem s h)
by_fields Rx zero t (Some l) s ht h = absurd (false≢true h)
by_fields Rx (suc n) t None s ht h = absurd (false≢true h)
by_fields Rx (suc n) t (Some l) s ht h =
    let parts = two (a_signal l) (le_z (pos (suc n) *ℤ l) s && le_z s (l +ℤ pos (n * 127))) h in
    let signal = two (le_z (negsuc 127) l) (le_z l (pos 127)) parts.0 in
    let sums = two (le_z (pos (suc n) *ℤ l) s) (le_z s (l +ℤ pos (n * 127))) parts.1 in
    signals_given n t l s ht signal.0 signal.1 sums.0 sums.1

-- as many pairs as the report says, which are few
pub list_length : (r : LinkReport) (l : ListGives r) → length l.list ≡ r.pairs
list_length r l = sym (pairs_are r.kind l.list) ∙ ap (λ r. r.pairs) l.is

pub few_pairs : (r : LinkReport) → some_value_gives_lem r ≡ true → r.pairs ≤ most_pairs
unfolding some_value_gives_lem
few_pairs r h = leb-true r.pairs most_pairs (two (leb r.pairs most_pairs) _ h).0

pub some_list : (r : LinkReport) → some_value_gives_lem r ≡ true → ListGives r
unfolding some_value_gives_lem
some_list r h = by_fields r.kind r.pairs (λ f. in_report f r) r.low r.sum fit packets.1
  where
    signals : Bool
    signals = signals_fit_lem r.kind r.pairs r.low r.sum

    few : (leb r.pairs most_pairs ≡ true) × ((leb r.errors (r.pairs * 4294967295) && (leb r.packets (r.pairs * 4294967295) && signals)) ≡ true)
    few = two (leb r.pairs most_pairs) (leb r.errors (r.pairs * 4294967295) && (leb r.packets (r.pairs * 4294967295) && signals)) h

    errors : (leb r.errors (r.pairs * 4294967295) ≡ true) × ((leb r.packets (r.pairs * 4294967295) && signals) ≡ true)
    errors = two (leb r.errors (r.pairs * 4294967295)) (leb r.packets (r.pairs * 4294967295) && signals) few.1

    packets : (leb r.packets (r.pairs * 4294967295) ≡ true) × (signals ≡ true)
    packets = two (leb r.packets (r.pairs * 4294967295)) signals errors.1

    fit : (f : Total) → in_report f r ≤ r.pairs * 4294967295
    fit of_errors = leb-true r.errors (r.pairs * 4294967295) errors.0
    fit of_packets = leb-true r.packets (r.pairs * 4294967295) packets.0
