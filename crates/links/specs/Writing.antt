-- A pair of a link metric, written (rules Q1 and O5).
use mathlib.Core.List.{List, [], ◌∷◌, flatten}
use Rattle.std.specs.Prelude.{ℕ, ◌-◌, ℤ, pos, negsuc}
use Rattle.numbers.specs.Bytes.{in_bytes}
use Rattle.numbers.specs.Numbers.{Answer, gives}
use Rattle.records.specs.Values.{octets}
use Rattle.links.specs.declared.AshlarTxPair.{AshlarTxPair}
use Rattle.links.specs.declared.AshlarRxPair.{AshlarRxPair}

-- the bytes of each field of a pair, in their order; a signal strength in two's complement (rule Q2)
abbrev pub signed_byte : ℤ → ℕ
signed_byte (pos n) = n
signed_byte (negsuc n) = 255 - n

abbrev pub tx_bytes : AshlarTxPair → List (List ℕ)
tx_bytes r =
    octets r.own ∷ octets r.neighbour ∷ in_bytes 2 r.media ∷ in_bytes 1 r.bridge ∷ in_bytes 4 r.errors ∷
    in_bytes 4 r.packets ∷ in_bytes 2 r.throughput ∷ in_bytes 2 r.availability ∷ in_bytes 2 r.rate ∷ []

abbrev pub rx_bytes : AshlarRxPair → List (List ℕ)
rx_bytes r =
    octets r.own ∷ octets r.neighbour ∷ in_bytes 2 r.media ∷ in_bytes 4 r.errors ∷ in_bytes 4 r.packets ∷
    in_bytes 1 (signed_byte r.signal) ∷ []

-- Rule O5: the pair as bytes. Reading can give each, so none is refused by 9.
abbrev pub tx_made : AshlarTxPair → Answer (List ℕ)
tx_made r = gives (flatten (tx_bytes r))

abbrev pub rx_made : AshlarRxPair → Answer (List ℕ)
rx_made r = gives (flatten (rx_bytes r))
