-- The report over every list of pairs passes the test of a report, and its sums fit the machine's numbers.
use mathlib.Core.Path.{◌≡◌, refl, sym, ap, subst, ◌∙◌}
use mathlib.Core.Bool.{Bool, true, ◌&&◌}
use mathlib.Core.List.{List, [], ◌∷◌}
use Prim.Native.Nat.{ℕ, zero, suc, ◌+◌, ◌*◌, ◌-◌, ◌^◌, ◌≤◌, ◌<◌, min, max}
use native.Mathlib.Omega.{arith}
use native.Mathlib.Nat.{pow-suc, mul-le-mul_left, mul-le-mul_right, min-le_right, mul_assoc, mul_comm, lt_of_lt_of_le}
use borrow.Author.Tests.{le-leb}
use lib.ListN.{length, take, drop, get_or}
use lib.Seq.{get_or-drop}
use lib.IntN.{pos, negsuc, sub_ℕ, ◌+ℤ◌}
use lib.Signed.{le_z}
use mir.Syntax.{w32}
use mir.Val.{SFits}
use Rattle.numbers.specs.Bytes.{big_endian_after, number_at, AllBytes}
use Rattle.links.specs.declared.LinkKind.{LinkKind}
use Rattle.links.specs.declared.LinkKind.TheVariants.{Tx, Rx}
use Rattle.std.specs.Prelude.{None, Some}
use Rattle.links.specs.declared.LinkReport.{LinkReport}
use Rattle.links.specs.Pairs.{errors_of, packets_of, signal_of}
use Rattle.links.specs.Reports.{lower, lower_of_lem, no_pairs_lem, one_pair_lem, added, report_over, signals_fit_lem, some_value_gives_lem, most_pairs}
use Rattle.links.proofs.Joining.{own_kind}
use Rattle.links.proofs.Signed.{by_order, sub_same, pos_sub, neg_sub, sub_add, sub_le, sub_times, sub_fits, raised, signed_raised}

-- each pair is bytes
abbrev pub AllPairs : List (List ℕ) → Type 0
AllPairs ps = (i : ℕ) → AllBytes (get_or ps i [])

both : {a b : Bool} → a ≡ true → b ≡ true → (a && b) ≡ true
both h k = rw (h, k)

-- a number of w bytes is below 256 ^ w
digits_below : (w n : ℕ) (s : List ℕ) → AllBytes s → big_endian_after n (take w s) < suc n * 256 ^ w
digits_below zero n s h = omega arith
digits_below (suc w) n [] h = omega (arith, pow-suc 256 w, mul-le-mul_left (suc n) (least w))
  where
    least : (w : ℕ) → 1 ≤ 256 ^ suc w
    least zero = omega arith
    least (suc w) = omega (arith, least w, pow-suc 256 (suc w))
digits_below (suc w) n (b ∷ s) h =
    let more : suc (n * 256 + b) * 256 ^ w ≤ (suc n * 256) * 256 ^ w = mul-le-mul_right (256 ^ w) (omega (arith, h 0)) in
    let same : (suc n * 256) * 256 ^ w ≡ suc n * 256 ^ suc w =
    mul_assoc (suc n) 256 (256 ^ w) ∙ ap (λ x. suc n * x) (mul_comm 256 (256 ^ w) ∙ sym (pow-suc 256 w)) in
    rw same at (lt_of_lt_of_le (digits_below w (n * 256 + b) s (λ i. h (suc i))) more)

number_below : (w p : ℕ) (s : List ℕ) → AllBytes s → number_at w p s < 1 * 256 ^ w
number_below w p s h = digits_below w 0 (drop p s) (λ i. rw get_or-drop (h (p + i)))

pub pairs_are : (k : LinkKind) (ps : List (List ℕ)) → (report_over k ps).pairs ≡ length ps
unfolding report_over
pairs_are k [] = refl
pairs_are k (p ∷ ps) = omega (arith, pairs_are k ps)

-- errors and packets alike: of a pair, and their sum in a report
pub data Total : Type 0 where
  of_errors : Total
  of_packets : Total

abbrev pub in_pair : Total → LinkKind → List ℕ → ℕ
in_pair of_errors k p = errors_of k p
in_pair of_packets k p = packets_of k p

abbrev pub in_report : Total → LinkReport → ℕ
in_report of_errors r = r.errors
in_report of_packets r = r.packets

pub total_none : (f : Total) (k : LinkKind) → in_report f (no_pairs_lem k) ≡ 0
total_none of_errors k = refl
total_none of_packets k = refl

pub total_next : (f : Total) (k : LinkKind) (p : List ℕ) (r : LinkReport) → in_report f (added (one_pair_lem k p) r) ≡ in_pair f k p + in_report f r
total_next of_errors k p r = refl
total_next of_packets k p r = refl

total_below : (f : Total) (k : LinkKind) (p : List ℕ) → AllBytes p → in_pair f k p ≤ 4294967295
total_below of_errors Tx p h = omega (arith, number_below 4 15 p h)
total_below of_errors Rx p h = omega (arith, number_below 4 14 p h)
total_below of_packets Tx p h = omega (arith, number_below 4 19 p h)
total_below of_packets Rx p h = omega (arith, number_below 4 18 p h)

pub total_fits : (f : Total) (k : LinkKind) (ps : List (List ℕ)) → AllPairs ps → in_report f (report_over k ps) ≤ length ps * 4294967295
unfolding report_over
total_fits f k [] h = omega (arith, total_none f k)
total_fits f k (p ∷ ps) h = omega (arith, total_next f k p (report_over k ps), total_below f k p (h 0), total_fits f k ps (λ i. h (suc i)))

-- the signal of a pair, raised by 128; the lowest and the sum of these
abbrev pub signal_up : List ℕ → ℕ
signal_up p = raised (number_at 1 22 p)

abbrev pub lowest_up : List ℕ → List (List ℕ) → ℕ
lowest_up p [] = signal_up p
lowest_up p (q ∷ ps) = min (signal_up p) (lowest_up q ps)

abbrev pub sum_up : List (List ℕ) → ℕ
sum_up [] = 0
sum_up (p ∷ ps) = signal_up p + sum_up ps

signal_up_lem : (p : List ℕ) → AllBytes p → signal_of p ≡ sub_ℕ (signal_up p) 128
signal_up_lem p h = signed_raised (number_at 1 22 p) (omega (arith, number_below 1 22 p h))

-- the lower of two that are raised alike
lower_up : (a b c : ℕ) → lower (sub_ℕ a c) (sub_ℕ b c) ≡ sub_ℕ (min a b) c
lower_up a b c =
    by_order (λ z. lower z (sub_ℕ b c) ≡ sub_ℕ (min a b) c) a c
    (λ h. by_order (λ z. lower (negsuc (c - suc a)) z ≡ sub_ℕ (min a b) c) b c
    (λ k. negative (max (c - suc a) (c - suc b)) (omega (arith, h, k)))
    (λ k. negative (c - suc a) (omega (arith, h, k))))
    (λ h. by_order (λ z. lower (pos (a - c)) z ≡ sub_ℕ (min a b) c) b c
    (λ k. negative (c - suc b) (omega (arith, h, k)))
    (λ k. pos_sub (min (a - c) (b - c)) ∙ sub_same (min (a - c) (b - c)) 0 (min a b) c (omega (arith, h, k))))
  where
    negative : (m : ℕ) → c ≡ min a b + suc m → negsuc m ≡ sub_ℕ (min a b) c
    negative m e = neg_sub m ∙ sub_same 0 (suc m) (min a b) c (omega (arith, e))

pub lowest_up_lem : (p : List ℕ) (ps : List (List ℕ)) → AllPairs (p ∷ ps) → (report_over Rx (p ∷ ps)).low ≡ Some (sub_ℕ (lowest_up p ps) 128)
unfolding report_over
lowest_up_lem p [] h = ap Some (signal_up_lem p (h 0))
lowest_up_lem p (q ∷ ps) h =
    ap (λ x. lower_of_lem (Some (signal_of p)) x) (lowest_up_lem q ps (λ i. h (suc i))) ∙
    ap (λ x. Some (lower x (sub_ℕ (lowest_up q ps) 128))) (signal_up_lem p (h 0)) ∙ ap Some (lower_up (signal_up p) (lowest_up q ps) 128)

pub sum_up_lem : (ps : List (List ℕ)) → AllPairs ps → (report_over Rx ps).sum ≡ sub_ℕ (sum_up ps) (length ps * 128)
unfolding report_over
sum_up_lem [] h = refl
sum_up_lem (p ∷ ps) h =
    ap (λ x. signal_of p +ℤ x) (sum_up_lem ps (λ i. h (suc i))) ∙
    ap (λ x. x +ℤ sub_ℕ (sum_up ps) (length ps * 128)) (signal_up_lem p (h 0)) ∙
    sub_add (signal_up p) 128 (sum_up ps) (length ps * 128) ∙ ap (sub_ℕ (signal_up p + sum_up ps)) (omega arith)

-- n·l ≤ sum ≤ l + (n - 1)·255, raised
lowest_byte : (p : List ℕ) (ps : List (List ℕ)) → lowest_up p ps ≤ 255
lowest_byte p [] = omega arith
lowest_byte p (q ∷ ps) = omega arith

sum_least : (p : List ℕ) (ps : List (List ℕ)) → suc (length ps) * lowest_up p ps ≤ sum_up (p ∷ ps)
sum_least p [] = omega arith
sum_least p (q ∷ ps) =
    let less : suc (length ps) * min (signal_up p) (lowest_up q ps) ≤ suc (length ps) * lowest_up q ps =
    mul-le-mul_left (suc (length ps)) (min-le_right (signal_up p) (lowest_up q ps)) in
    omega (arith, less, sum_least q ps)

sum_most : (p : List ℕ) (ps : List (List ℕ)) → sum_up (p ∷ ps) ≤ lowest_up p ps + length ps * 255
sum_most p [] = omega arith
sum_most p (q ∷ ps) = omega (arith, sum_most q ps, lowest_byte q ps)

raised_fit : (n r s : ℕ) → r ≤ 255 → suc n * r ≤ s → s ≤ r + n * 255 → signals_fit_lem Rx (suc n) (Some (sub_ℕ r 128)) (sub_ℕ s (suc n * 128)) ≡ true
raised_fit n r s byte least most =
    both (both (sub_le 0 128 r 128 (omega arith)) (sub_le r 128 127 0 (omega (arith, byte))))
    (both
    (ap (λ x. le_z x (sub_ℕ s (suc n * 128))) (sub_times (suc n) r 128) ∙ sub_le (suc n * r) (suc n * 128) s (suc n * 128) (omega (arith, least)))
    (ap (le_z (sub_ℕ s (suc n * 128))) (ap (λ x. sub_ℕ r 128 +ℤ x) (pos_sub (n * 127)) ∙ sub_add r 128 (n * 127) 0) ∙
    sub_le s (suc n * 128) (r + n * 127) (128 + 0) (omega (arith, most))))

pub no_lowest : (ps : List (List ℕ)) → (report_over Tx ps).low ≡ None
unfolding report_over
no_lowest [] = refl
no_lowest (p ∷ ps) = no_lowest ps

pub no_sum : (ps : List (List ℕ)) → (report_over Tx ps).sum ≡ pos 0
unfolding report_over
no_sum [] = refl
no_sum (p ∷ ps) = ap (λ x. pos 0 +ℤ x) (no_sum ps)

signals_fit_law : (k : LinkKind) (ps : List (List ℕ)) → AllPairs ps → signals_fit_lem k (length ps) (report_over k ps).low (report_over k ps).sum ≡ true
unfolding report_over
signals_fit_law Tx ps h = ap (λ l. signals_fit_lem Tx (length ps) l (report_over Tx ps).sum) (no_lowest ps) ∙ ap (signals_fit_lem Tx (length ps) None) (no_sum ps)
signals_fit_law Rx [] h = refl
signals_fit_law Rx (p ∷ ps) h =
    ap (λ l. signals_fit_lem Rx (suc (length ps)) l (report_over Rx (p ∷ ps)).sum) (lowest_up_lem p ps h) ∙
    ap (signals_fit_lem Rx (suc (length ps)) (Some (sub_ℕ (lowest_up p ps) 128))) (sum_up_lem (p ∷ ps) h) ∙
    raised_fit (length ps) (lowest_up p ps) (sum_up (p ∷ ps)) (lowest_byte p ps) (sum_least p ps) (sum_most p ps)

pub lists_pass : (k : LinkKind) (ps : List (List ℕ)) → AllPairs ps → length ps ≤ most_pairs → some_value_gives_lem (report_over k ps) ≡ true
unfolding some_value_gives_lem
lists_pass k ps h few =
    rw (pairs_are k ps, own_kind k ps)
    (both (le-leb (length ps) most_pairs few)
    (both (le-leb (report_over k ps).errors (length ps * 4294967295) (total_fits of_errors k ps h))
    (both (le-leb (report_over k ps).packets (length ps * 4294967295) (total_fits of_packets k ps h))
    (signals_fit_law k ps h))))

-- the sum fits in 32 bits
sum_most_of : (ps : List (List ℕ)) → sum_up ps ≤ length ps * 255
sum_most_of [] = omega arith
sum_most_of (p ∷ ps) = omega (arith, sum_most_of ps)

pub sum_fits : (k : LinkKind) (ps : List (List ℕ)) → AllPairs ps → length ps ≤ most_pairs → SFits w32 (report_over k ps).sum
sum_fits Tx ps h few = subst (SFits w32) (sym (no_sum ps)) (record { sfits = omega arith })
sum_fits Rx ps h few = subst (SFits w32) (sym (sum_up_lem ps h)) (sub_fits (sum_up ps) (length ps * 128) (omega (arith, sum_most_of ps, few)) (omega (arith, few)))
