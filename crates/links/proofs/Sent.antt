-- The bytes of a pair, as the code puts them together.
use mathlib.Core.Path.{◌≡◌, ap, ◌∙◌}
use mathlib.Core.List.{List, [], ◌∷◌, flatten}
use Prim.Native.Nat.{ℕ, ◌/◌, ◌%◌, ◌<◌}
use native.Mathlib.Omega.{arith}
use lib.ListN.{get_or}
use lib.IntN.{ℤ, pos, negsuc}
use mir.Val.{SFits}
use Rattle.std.specs.Int.{w8, w16, w32, to_be_bytes, cast_unsigned}
use Rattle.links.specs.declared.AshlarTxPair.{AshlarTxPair}
use Rattle.links.specs.declared.AshlarRxPair.{AshlarRxPair}
use Rattle.links.specs.Writing.{signed_byte, tx_bytes, rx_bytes}

-- a number by its bytes, as each list of them is read
pub record Two (l : List ℕ) (n : ℕ) : Type 0 where
  pub high : get_or l 0 0 ≡ n / 256 % 256
  pub low : get_or l 1 0 ≡ n % 256

pub two : (l : List ℕ) (n : ℕ) → l ≡ to_be_bytes w16 n → Two l n
two l n e = record { high = ap (λ l. get_or l 0 0) e ∙ omega arith; low = ap (λ l. get_or l 1 0) e ∙ omega arith }

pub record Four (l : List ℕ) (n : ℕ) : Type 0 where
  pub first : get_or l 0 0 ≡ n / 256 / 256 / 256 % 256
  pub second : get_or l 1 0 ≡ n / 256 / 256 % 256
  pub third : get_or l 2 0 ≡ n / 256 % 256
  pub fourth : get_or l 3 0 ≡ n % 256

pub four : (l : List ℕ) (n : ℕ) → l ≡ to_be_bytes w32 n → Four l n
four l n e = record {
  first = ap (λ l. get_or l 0 0) e ∙ omega arith;
  second = ap (λ l. get_or l 1 0) e ∙ omega arith;
  third = ap (λ l. get_or l 2 0) e ∙ omega arith;
  fourth = ap (λ l. get_or l 3 0) e ∙ omega arith;
}

-- a byte by itself
byte_small : (b : ℕ) → b < 256 → b ≡ b % 256
byte_small b h = omega (arith, h)

pub tx_sent : (r : AshlarTxPair) (m e p t v q : List ℕ) → r.bridge < 256 → m ≡ to_be_bytes w16 r.media → e ≡ to_be_bytes w32 r.errors → p ≡ to_be_bytes w32 r.packets →
    t ≡ to_be_bytes w16 r.throughput → v ≡ to_be_bytes w16 r.availability → q ≡ to_be_bytes w16 r.rate →
    r.own.b0 ∷ r.own.b1 ∷ r.own.b2 ∷ r.own.b3 ∷ r.own.b4 ∷ r.own.b5 ∷ r.neighbour.b0 ∷ r.neighbour.b1 ∷ r.neighbour.b2 ∷ r.neighbour.b3 ∷ r.neighbour.b4 ∷ r.neighbour.b5 ∷ get_or m 0 0 ∷ get_or m 1 0 ∷ r.bridge ∷ get_or e 0 0 ∷ get_or e 1 0 ∷ get_or e 2 0 ∷ get_or e 3 0 ∷ get_or p 0 0 ∷ get_or p 1 0 ∷ get_or p 2 0 ∷ get_or p 3 0 ∷ get_or t 0 0 ∷ get_or t 1 0 ∷ get_or v 0 0 ∷ get_or v 1 0 ∷ get_or q 0 0 ∷ get_or q 1 0 ∷ []
    ≡ flatten (tx_bytes r)
unfolding flatten
tx_sent r m e p t v q small em ee ep et ev eq =
    let m2 = two m r.media em in
    let e4 = four e r.errors ee in
    let p4 = four p r.packets ep in
    let t2 = two t r.throughput et in
    let v2 = two v r.availability ev in
    let q2 = two q r.rate eq in
    λ i. r.own.b0 ∷ r.own.b1 ∷ r.own.b2 ∷ r.own.b3 ∷ r.own.b4 ∷ r.own.b5 ∷ r.neighbour.b0 ∷ r.neighbour.b1 ∷ r.neighbour.b2 ∷ r.neighbour.b3 ∷ r.neighbour.b4 ∷ r.neighbour.b5 ∷ m2.high i ∷ m2.low i ∷ byte_small r.bridge small i ∷ e4.first i ∷ e4.second i ∷ e4.third i ∷ e4.fourth i ∷ p4.first i ∷ p4.second i ∷ p4.third i ∷ p4.fourth i ∷ t2.high i ∷ t2.low i ∷ v2.high i ∷ v2.low i ∷ q2.high i ∷ q2.low i ∷ []

-- a signal strength as a byte
signed_sent : (z : ℤ) → SFits w8 z → cast_unsigned w8 z ≡ signed_byte z % 256
signed_sent (pos a) f = omega (arith, f.sfits)
signed_sent (negsuc a) f = omega (arith, f.sfits)

pub rx_sent : (r : AshlarRxPair) (m e p : List ℕ) (b : ℕ) → SFits w8 r.signal → m ≡ to_be_bytes w16 r.media → e ≡ to_be_bytes w32 r.errors → p ≡ to_be_bytes w32 r.packets →
    b ≡ cast_unsigned w8 r.signal →
    r.own.b0 ∷ r.own.b1 ∷ r.own.b2 ∷ r.own.b3 ∷ r.own.b4 ∷ r.own.b5 ∷ r.neighbour.b0 ∷ r.neighbour.b1 ∷ r.neighbour.b2 ∷ r.neighbour.b3 ∷ r.neighbour.b4 ∷ r.neighbour.b5 ∷ get_or m 0 0 ∷ get_or m 1 0 ∷ get_or e 0 0 ∷ get_or e 1 0 ∷ get_or e 2 0 ∷ get_or e 3 0 ∷ get_or p 0 0 ∷ get_or p 1 0 ∷ get_or p 2 0 ∷ get_or p 3 0 ∷ b ∷ []
    ≡ flatten (rx_bytes r)
unfolding flatten
rx_sent r m e p b fits em ee ep eb =
    let m2 = two m r.media em in
    let e4 = four e r.errors ee in
    let p4 = four p r.packets ep in
    let s = eb ∙ signed_sent r.signal fits in
    λ i. r.own.b0 ∷ r.own.b1 ∷ r.own.b2 ∷ r.own.b3 ∷ r.own.b4 ∷ r.own.b5 ∷ r.neighbour.b0 ∷ r.neighbour.b1 ∷ r.neighbour.b2 ∷ r.neighbour.b3 ∷ r.neighbour.b4 ∷ r.neighbour.b5 ∷ m2.high i ∷ m2.low i ∷ e4.first i ∷ e4.second i ∷ e4.third i ∷ e4.fourth i ∷ p4.first i ∷ p4.second i ∷ p4.third i ∷ p4.fourth i ∷ s i ∷ []
