-- What is claimed of this crate's calls and definitions; proofs/Claims.antt proves it.
use Rattle.std.specs.Prelude.{◌≡◌, true, ℕ, [], length, take, drop, Result}
use mathlib.Core.List.{List, ◌∷◌, ◌++◌, flatten, Permᴰ}
use Rattle.numbers.specs.Bytes.{AllBytes}
use Rattle.numbers.specs.Numbers.{Answer, gives, answered}
use Rattle.numbers.specs.Firmness.{Firm}
use Rattle.layouts.specs.Layouts.{size_of, tx_pair_fields, rx_pair_fields}
use Rattle.layouts.specs.declared.Span.{Span}
use Rattle.layouts.specs.Access.{locate_entry}
use Rattle.numbers.specs.declared.Refusal.{Refusal}
use Rattle.framing.specs.Tlv.{leaves}
use Rattle.fields.specs.Answers.{crossing}
use Rattle.fields.specs.Writing.{put_size, made_bytes}
use Rattle.links.specs.declared.LinkKind.{LinkKind}
use Rattle.links.specs.declared.LinkKind.TheVariants.{Tx, Rx}
use Rattle.links.specs.declared.LinkReport.{LinkReport}
use Rattle.links.specs.declared.TxPair.{TxPair}
use Rattle.links.specs.declared.RxPair.{RxPair}
use Rattle.links.specs.declared.AshlarTxPair.{AshlarTxPair}
use Rattle.links.specs.declared.AshlarRxPair.{AshlarRxPair}
use Rattle.links.specs.Pairs.{link_code, pairs_in, tx_pair_of, rx_pair_of, tx_fields_lem, rx_fields_lem, tx_numbers_lem, tx_pair_at_lem, rx_numbers_lem, rx_pair_at_lem}
use Rattle.links.specs.Writing.{tx_bytes, rx_bytes, tx_made, rx_made}
use Rattle.links.specs.Reports.{report_if_few, report_of, some_value_gives_lem, merged}

-- Rule A4, for each public call by its name, and each conversion by its two types: any two answers that its contract allows are one.
pub record Firmness : Type 0 where
  pub report : (kind : LinkKind) (value : List ℕ) → Firm (λ r. answered r ≡ report_of kind value)
  pub merge : (one other : LinkReport) → Firm (λ r. answered r ≡ merged one other)
  pub tx_pair : (value : List ℕ) (number : ℕ) → Firm (λ r. answered r ≡ tx_pair_of value number)
  pub rx_pair : (value : List ℕ) (number : ℕ) → Firm (λ r. answered r ≡ rx_pair_of value number)
  pub tx_pair_at : (s : List ℕ) (at : ℕ) → Firm (λ r. r ≡ tx_pair_at_lem s at)
  pub rx_pair_at : (s : List ℕ) (at : ℕ) → Firm (λ r. r ≡ rx_pair_at_lem s at)
  pub put_tx_pair : (pair : AshlarTxPair) (out : List ℕ)
      → Firm {A = Result ℕ Refusal × List ℕ} (λ o.
      (answered o.0 ≡ put_size (tx_made pair) (length out))
      × (o.1 ≡ leaves (put_size (tx_made pair) (length out)) (made_bytes (tx_made pair)) out))
  pub put_rx_pair : (pair : AshlarRxPair) (out : List ℕ)
      → Firm {A = Result ℕ Refusal × List ℕ} (λ o.
      (answered o.0 ≡ put_size (rx_made pair) (length out))
      × (o.1 ≡ leaves (put_size (rx_made pair) (length out)) (made_bytes (rx_made pair)) out))
  pub u8_from_link_kind : (kind : LinkKind) → Firm (λ code. code ≡ link_code kind)
  pub ashlar_tx_pair_from_tx_pair : (read : Result TxPair Refusal)
      → Firm (λ numbers. numbers ≡ crossing tx_numbers_lem (tx_fields_lem []) (answered read))
  pub ashlar_rx_pair_from_rx_pair : (read : Result RxPair Refusal)
      → Firm (λ numbers. numbers ≡ crossing rx_numbers_lem (rx_fields_lem []) (answered read))

-- Rules Q3 and E11: at the start of the entry that a number leads to stands the pair with this number.
pub record FoundAs {A B : Type 0} (numbers : ℕ → A → B) (asked : Answer A) (at : B) : Type 0 where
  pub pair : A
  pub is : asked ≡ gives pair
  pub same : at ≡ numbers 0 pair

pub record SamePair : Type 0 where
  pub tx : (s : List ℕ) (i : ℕ) (e : Span) → locate_entry (link_code Tx) (i ∷ []) s ≡ gives e →
      FoundAs tx_numbers_lem (tx_pair_of s i) (tx_pair_at_lem s e.start)
  pub rx : (s : List ℕ) (i : ℕ) (e : Span) → locate_entry (link_code Rx) (i ∷ []) s ≡ gives e →
      FoundAs rx_numbers_lem (rx_pair_of s i) (rx_pair_at_lem s e.start)

-- Rules K8, E11 and A6: the fields of a pair say all of its bytes.
pub record PairBytesSaid : Type 0 where
  pub tx : (s : List ℕ) (p : ℕ) → AllBytes s → (tx_pair_at_lem s p).refusal ≡ 0 →
      flatten (tx_bytes (tx_pair_at_lem s p)) ≡ take (size_of tx_pair_fields) (drop p s)
  pub rx : (s : List ℕ) (p : ℕ) → AllBytes s → (rx_pair_at_lem s p).refusal ≡ 0 →
      flatten (rx_bytes (rx_pair_at_lem s p)) ≡ take (size_of rx_pair_fields) (drop p s)

-- Rule Q5: the order of the pairs makes no difference. Two values with the same pairs, in whatever order, have one
-- report.
abbrev pub AnyOrder : Type 0
AnyOrder = (k : LinkKind) (s t : List ℕ) (ps qs : List (List ℕ)) → pairs_in k s ≡ gives ps → pairs_in k t ≡ gives qs →
    Permᴰ ps qs → report_of k s ≡ report_of k t

-- Rule Q6: the report of every value passes the test.
abbrev pub ValuesPass : Type 0
ValuesPass = (k : LinkKind) (s : List ℕ) (r : LinkReport) → AllBytes s → report_of k s ≡ gives r →
    (r.kind ≡ k) × (some_value_gives_lem r ≡ true)

-- Rule Q6: and no other does. For each report that passes there is a value, and it is bytes.
pub record ValueGiving (r : LinkReport) : Type 0 where
  pub value : List ℕ
  pub bytes : AllBytes value
  pub reports : report_of r.kind value ≡ gives r

abbrev pub NoOthersPass : Type 0
NoOthersPass = (r : LinkReport) → some_value_gives_lem r ≡ true → ValueGiving r

-- Rule Q7: what is made from the reports of two values is the report over the pairs of both, or 19 if these are too
-- many.
abbrev pub MadeFromTwo : Type 0
MadeFromTwo = (k : LinkKind) (s t : List ℕ) (ps qs : List (List ℕ)) (a b : LinkReport) → AllBytes s → AllBytes t →
    pairs_in k s ≡ gives ps → pairs_in k t ≡ gives qs → report_of k s ≡ gives a → report_of k t ≡ gives b →
    merged a b ≡ report_if_few k (ps ++ qs)

-- Rule Q7: either order gives the same.
abbrev pub EitherOrder : Type 0
EitherOrder = (a b : LinkReport) → merged a b ≡ merged b a

-- everything that is claimed of this crate
pub record Claims : Type 0 where
  pub firmness : Firmness
  pub same_pair : SamePair
  pub said_back : PairBytesSaid
  pub any_order : AnyOrder
  pub values_pass : ValuesPass
  pub no_others_pass : NoOthersPass
  pub made_from_two : MadeFromTwo
  pub either_order : EitherOrder
