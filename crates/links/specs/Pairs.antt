-- The pairs of a link metric, and their fields (rules Q1 to Q3), at the places that the table of kinds says (rule K8).
-- A pair's numbers stand highest byte first (rule B1).
use Rattle.std.specs.Prelude.{cond, List, [], ℕ, ◌-◌, ltb, get_or, ℤ, pos, negsuc}
use Rattle.numbers.specs.Bytes.{number_at}
use Rattle.numbers.specs.Numbers.{Answer, and_then, mapped}
use Rattle.records.specs.Values.{address_at_lem}
use Rattle.layouts.specs.Layouts.{place, tx_pair_fields, rx_pair_fields, layout_of}
use Rattle.layouts.specs.Access.{of_value_lem, parts_in, nth_of}
use Rattle.fields.specs.Fields.{fields_at}
use Rattle.fields.specs.Answers.{crossing}
use Rattle.links.specs.declared.LinkKind.{LinkKind}
use Rattle.links.specs.declared.LinkKind.TheVariants.{Tx, Rx}
use Rattle.links.specs.declared.TxPair.{TxPair}
use Rattle.links.specs.declared.RxPair.{RxPair}
use Rattle.links.specs.declared.AshlarTxPair.{AshlarTxPair}
use Rattle.links.specs.declared.AshlarRxPair.{AshlarRxPair}

-- the codes of rule K2
abbrev pub link_code : LinkKind → ℕ
link_code Tx = 9
link_code Rx = 10

-- Rule Q1: the pairs of a value, which are its entries (rule K3). A value that doesn't read: 3 or 4.
unfoldable pub pairs_in : LinkKind → List ℕ → Answer (List (List ℕ))
pairs_in k s = and_then (layout_of (link_code k)) (λ l. of_value_lem parts_in l s)

-- the number in field k, counted from 0, of fields of these sizes
abbrev pub field_number : List ℕ → ℕ → List ℕ → ℕ
field_number ws k p = number_at (get_or ws k 0) (place ws k) p

-- Rule Q1: errors and packets. In kind 9 they stand one byte later, after the bridge byte.
abbrev pub errors_of : LinkKind → List ℕ → ℕ
errors_of Tx p = number_at 4 15 p
errors_of Rx p = number_at 4 14 p

abbrev pub packets_of : LinkKind → List ℕ → ℕ
packets_of Tx p = number_at 4 19 p
packets_of Rx p = number_at 4 18 p

-- Rule Q2: a byte as a number from -128 to 127, in two's complement.
abbrev pub signed : ℕ → ℤ
signed b = cond (ltb b 128) (pos b) (negsuc (255 - b))

-- the signal strength of a pair of kind 10
abbrev pub signal_of : List ℕ → ℤ
signal_of p = signed (number_at 1 22 p)

-- Rule Q1: all fields of a pair.
abbrev pub tx_fields_lem : List ℕ → TxPair
tx_fields_lem p = record {
  own = address_at_lem p 0;
  neighbour = address_at_lem p 6;
  media = number_at 2 12 p;
  bridge = number_at 1 14 p;
  errors = errors_of Tx p;
  packets = packets_of Tx p;
  throughput = number_at 2 23 p;
  availability = number_at 2 25 p;
  rate = number_at 2 27 p;
}

abbrev pub rx_fields_lem : List ℕ → RxPair
rx_fields_lem p = record {
  own = address_at_lem p 0;
  neighbour = address_at_lem p 6;
  media = number_at 2 12 p;
  errors = errors_of Rx p;
  packets = packets_of Rx p;
  signal = signal_of p;
}

-- Rule Q3: pair i of a value, from 0. No such pair: 6.
unfoldable pub pair_at : LinkKind → List ℕ → ℕ → Answer (List ℕ)
pair_at k s i = and_then (pairs_in k s) (λ ps. nth_of ps i)

abbrev pub tx_pair_of : List ℕ → ℕ → Answer TxPair
tx_pair_of s i = mapped tx_fields_lem (pair_at Tx s i)

abbrev pub rx_pair_of : List ℕ → ℕ → Answer RxPair
rx_pair_of s i = mapped rx_fields_lem (pair_at Rx s i)

-- Rules E11 and C4: the pair that starts at p, as it crosses to C: its fields and 0, or the number of the refusal and
-- every field 0.
abbrev pub tx_numbers_lem : ℕ → TxPair → AshlarTxPair
tx_numbers_lem n p = record {
  errors = p.errors;
  packets = p.packets;
  media = p.media;
  throughput = p.throughput;
  availability = p.availability;
  rate = p.rate;
  own = p.own;
  neighbour = p.neighbour;
  bridge = p.bridge;
  refusal = n;
}

unfoldable pub tx_pair_at_lem : List ℕ → ℕ → AshlarTxPair
tx_pair_at_lem s p = crossing tx_numbers_lem (tx_fields_lem []) (mapped tx_fields_lem (fields_at tx_pair_fields s p))

abbrev pub rx_numbers_lem : ℕ → RxPair → AshlarRxPair
rx_numbers_lem n p = record {
  errors = p.errors;
  packets = p.packets;
  media = p.media;
  own = p.own;
  neighbour = p.neighbour;
  signal = p.signal;
  refusal = n;
}

unfoldable pub rx_pair_at_lem : List ℕ → ℕ → AshlarRxPair
rx_pair_at_lem s p = crossing rx_numbers_lem (rx_fields_lem []) (mapped rx_fields_lem (fields_at rx_pair_fields s p))
