-- The claims of specs/Claims.antt, proved.
use mathlib.Core.Path.{◌≡◌, refl, sym, ap, ◌∙◌}
use mathlib.Core.Bool.{Bool, true, false, cond, ◌&&◌}
use mathlib.Core.List.{List, [], ◌++◌}
use Prim.Native.Nat.{ℕ, ◌+◌, ◌≤◌}
use native.Mathlib.Omega.{arith}
use borrow.Author.Tests.{leb-true}
use lib.Dec.{leb}
use lib.ListN.{length, length-append}
use Rattle.numbers.specs.Bytes.{AllBytes}
use Rattle.numbers.specs.Numbers.{Answer, gives, refuses}
use Rattle.numbers.proofs.Firm.{by_equation, by_answer, both, never}
use Rattle.numbers.proofs.Answers.{given, gave}
use Rattle.links.specs.declared.LinkKind.{LinkKind}
use Rattle.links.specs.declared.LinkKind.TheVariants.{Tx, Rx}
use Rattle.links.specs.declared.LinkReport.{LinkReport}
use Rattle.links.specs.Pairs.{pairs_in}
use Rattle.links.specs.Reports.{most_pairs, report_over, report_if_few, report_of, some_value_gives_lem, same_kind_lem, mergeable, merged}
use Rattle.links.specs.Claims.{Firmness, AnyOrder, ValuesPass, NoOthersPass, MadeFromTwo, Claims}
use Rattle.links.proofs.At.{same_pair, said_back}
use Rattle.links.proofs.Joining.{own_kind, over_append, any_order, either_order}
use Rattle.links.proofs.Passing.{pairs_are, lists_pass}
use Rattle.links.proofs.Witness.{list_length, few_pairs, some_list}
use Rattle.links.proofs.Reading.{few_reported}
use Rattle.links.proofs.Loop.{pairs_are_bytes}
use Rattle.links.proofs.Values.{value_of, value_bytes, pairs_of_value}

firmness : Firmness
firmness = record {
  report = λ kind value. by_answer _;
  merge = λ one other. by_answer _;
  tx_pair = λ value number. by_answer _;
  rx_pair = λ value number. by_answer _;
  tx_pair_at = λ s at. by_equation _;
  rx_pair_at = λ s at. by_equation _;
  put_tx_pair = λ pair out. both _ _ (by_answer _) (by_equation _);
  put_rx_pair = λ pair out. both _ _ (by_answer _) (by_equation _);
  u8_from_link_kind = λ kind. by_equation _;
  ashlar_tx_pair_from_tx_pair = λ read. by_equation _;
  ashlar_rx_pair_from_rx_pair = λ read. by_equation _;
}

same_report : AnyOrder
unfolding report_of report_if_few
same_report k s t ps qs x y d =
    let same = any_order k d in
    let long : length ps ≡ length qs = sym (pairs_are k ps) ∙ ap (λ r. r.pairs) same ∙ pairs_are k qs in
    rw (x, y) (λ i. cond {A = Answer LinkReport} (leb (long i) most_pairs) (gives (same i)) (refuses 19 []))

-- a report that is given: the pairs it is over, and that they are few
record Given (k : LinkKind) (s : List ℕ) (r : LinkReport) : Type 0 where
  pairs : List (List ℕ)
  are : pairs_in k s ≡ gives pairs
  few : length pairs ≤ most_pairs
  is : report_over k pairs ≡ r

reported : (k : LinkKind) (s : List ℕ) (r : LinkReport) → report_of k s ≡ gives r → Given k s r
unfolding report_of report_if_few
reported k s r x =
    let g = gave (pairs_in k s) (λ ps. report_if_few k ps) r x in
    by_count g.first g.is (leb (length g.first) most_pairs) refl g.then
  where
    by_count : (ps : List (List ℕ)) → pairs_in k s ≡ gives ps → (t : Bool) → leb (length ps) most_pairs ≡ t →
        cond {A = Answer LinkReport} t (gives (report_over k ps)) (refuses 19 []) ≡ gives r → Given k s r
    by_count ps y true t e = record { pairs = ps; are = y; few = leb-true (length ps) most_pairs t; is = given (report_over k ps) r e }
    by_count ps y false t e = never r 19 [] (sym e)

values_pass : ValuesPass
values_pass k s r bytes x =
    let g = reported k s r x in (
      ap (λ r. r.kind) (sym g.is) ∙ own_kind k g.pairs,
      ap some_value_gives_lem (sym g.is) ∙ lists_pass k g.pairs (pairs_are_bytes k s g.pairs bytes g.are) g.few,
    )

no_others_pass : NoOthersPass
no_others_pass r h =
    let l = some_list r h in
    record {
      value = value_of l.list;
      bytes = value_bytes l.list l.bytes;
      reports = few_reported r.kind (value_of l.list) l.list (pairs_of_value r.kind l.list l.each_long)
          (omega (arith, list_length r l, few_pairs r h)) ∙ ap gives l.is;
    }

same_kind : (k : LinkKind) → same_kind_lem k k ≡ true
same_kind Tx = refl
same_kind Rx = refl

-- of two lists' reports the test asks whether the pairs are few
if_few : (k : LinkKind) (ps qs : List (List ℕ)) → some_value_gives_lem (report_over k ps) ≡ true → some_value_gives_lem (report_over k qs) ≡ true →
    mergeable (report_over k ps) (report_over k qs) ≡ leb (length (ps ++ qs)) most_pairs
if_few k ps qs h g =
    (λ i. same_kind_lem (own_kind k ps i) (own_kind k qs i) && (leb (pairs_are k ps i + pairs_are k qs i) most_pairs && (h i && g i))) ∙
    ap (λ t. t && (leb (length ps + length qs) most_pairs && (true && true))) (same_kind k) ∙
    alone (leb (length ps + length qs) most_pairs) ∙ ap (λ n. leb n most_pairs) (sym (length-append ps qs))
  where
    alone : (t : Bool) → (t && (true && true)) ≡ t
    alone true = refl
    alone false = refl

joined : (k : LinkKind) (ps qs : List (List ℕ)) → some_value_gives_lem (report_over k ps) ≡ true → some_value_gives_lem (report_over k qs) ≡ true →
    merged (report_over k ps) (report_over k qs) ≡ report_if_few k (ps ++ qs)
unfolding report_if_few merged
joined k ps qs h g = λ i. cond {A = Answer LinkReport} (if_few k ps qs h g i) (gives (sym (over_append k ps qs) i)) (refuses 19 [])

made_from_two : MadeFromTwo
made_from_two k s t ps qs a b bytes bytes' x y p q =
    let f = over s ps a bytes x p in
    let g = over t qs b bytes' y q in
    (λ i. merged (f.0 i) (g.0 i)) ∙ joined k ps qs f.1 g.1
  where
    over : (s : List ℕ) (ps : List (List ℕ)) (a : LinkReport) → AllBytes s → pairs_in k s ≡ gives ps → report_of k s ≡ gives a →
        (a ≡ report_over k ps) × (some_value_gives_lem (report_over k ps) ≡ true)
    over s ps a bytes x p =
        let f = reported k s a p in
        let same : f.pairs ≡ ps = given f.pairs ps (sym f.are ∙ x) in
        (sym f.is ∙ ap (report_over k) same, lists_pass k ps (pairs_are_bytes k s ps bytes x) (rw same at f.few))

pub claims : Claims
claims = record {
  firmness = firmness;
  same_pair = same_pair;
  said_back = said_back;
  any_order = same_report;
  values_pass = values_pass;
  no_others_pass = no_others_pass;
  made_from_two = made_from_two;
  either_order = either_order;
}
