-- A pair at a place: it is there, or every field is 0. It is the one that its number leads to, and it says all of its
-- bytes.
use mathlib.Core.Path.{◌≡◌, refl, sym, ap, ◌∙◌}
use mathlib.Core.Bool.{Bool, true, false, cond}
use mathlib.Core.List.{List, [], ◌∷◌, flatten}
use Prim.Native.Nat.{ℕ, ◌+◌, ◌-◌, ◌<◌, ◌≤◌}
use native.Mathlib.Omega.{arith}
use borrow.Author.Tests.{leb-true, le-leb}
use lib.Dec.{leb, ltb}
use lib.IntN.{pos, negsuc}
use lib.ListN.{length, take, drop, length-drop}
use lib.Seq.{length-take-le, take-take, drop-drop}
use Rattle.numbers.specs.Bytes.{in_bytes, number_at, AllBytes}
use Rattle.numbers.specs.Numbers.{gives, refuses, mapped}
use Rattle.numbers.proofs.Answers.{mapped_given}
use Rattle.numbers.proofs.Bytes.{part_bytes, number_at_lem, bytes_at_back}
use Rattle.records.specs.Values.{octets, address_at_lem}
use Rattle.layouts.specs.Layouts.{size_of, tx_pair_fields, rx_pair_fields}
use Rattle.layouts.specs.declared.Span.{Span}
use Rattle.layouts.specs.Access.{part_of, locate_entry}
use Rattle.fields.specs.Fields.{fields_at}
use Rattle.fields.specs.Answers.{crossing}
use Rattle.fields.specs.Claims.{split}
use Rattle.fields.proofs.Laws.{by_bytes}
use Rattle.fields.proofs.Order.{joined, padded_take}
use Rattle.links.specs.declared.LinkKind.{LinkKind}
use Rattle.links.specs.declared.LinkKind.TheVariants.{Tx, Rx}
use Rattle.links.specs.Pairs.{link_code, signed, tx_fields_lem, rx_fields_lem, pair_at, tx_numbers_lem, tx_pair_at_lem, rx_numbers_lem, rx_pair_at_lem}
use Rattle.links.specs.PrivatePairs.{pair_bytes}
use Rattle.links.specs.Writing.{signed_byte, tx_bytes, rx_bytes}
use Rattle.links.specs.Claims.{FoundAs, SamePair, PairBytesSaid}
use Rattle.links.proofs.Reading.{whole, pair_given}

module _ {A B : Type 0} (read : List ℕ → A) (numbers : ℕ → A → B) (ws s : List ℕ) (p : ℕ) (r : B) where
  pub at_there : leb (p + size_of ws) (length s) ≡ true → r ≡ numbers 0 (read (take (p + size_of ws - p) (drop p s))) →
      r ≡ crossing numbers (read []) (mapped read (fields_at ws s p))
  unfolding fields_at
  at_there e x =
      let long : p + size_of ws - p ≡ size_of ws = omega arith in
      x ∙ ap (λ n. numbers 0 (read (take n (drop p s)))) long ∙ rw e

-- the pair that a number leads to
found : {A B : Type 0} (k : LinkKind) (read : List ℕ → A) (numbers : ℕ → A → B) (ws s : List ℕ) (i : ℕ) (e : Span) → pair_bytes k ≡ size_of ws →
    locate_entry (link_code k) (i ∷ []) s ≡ gives e → FoundAs numbers (mapped read (pair_at k s i)) (crossing numbers (read []) (mapped read (fields_at ws s e.start)))
found k read numbers ws s i e sized x =
    let w = whole k s i e x in
    let inside : e.start + size_of ws ≤ length s = omega (arith, w.long, w.inside, sized) in
    let long : e.end - e.start ≡ e.start + size_of ws - e.start = omega (arith, w.long, sized) in
    record {
      pair = read (part_of (gives e) s);
      is = mapped_given read (pair_at k s i) (part_of (gives e) s) (pair_given k s i e x);
      same = sym (at_there read numbers ws s e.start (numbers 0 (read (part_of (gives e) s))) (le-leb (e.start + size_of ws) (length s) inside)
          (ap (λ n. numbers 0 (read (take n (drop e.start s)))) long));
    }

pub same_pair : SamePair
unfolding tx_pair_at_lem rx_pair_at_lem
same_pair = record {
  tx = λ s i e x. found Tx tx_fields_lem tx_numbers_lem tx_pair_fields s i e refl x;
  rx = λ s i e x. found Rx rx_fields_lem rx_numbers_lem rx_pair_fields s i e refl x;
}

-- fields by their places, from q on
abbrev from : ℕ → List ℕ → List ℕ → List (List ℕ)
from q [] p = []
from q (w ∷ ws) p = take w (drop q p) ∷ from (q + w) ws p

from_split : (q : ℕ) (ws p : List ℕ) → from q ws p ≡ split ws (drop q p)
from_split q [] p = refl
from_split q (w ∷ ws) p = ap (λ t. take w (drop q p) ∷ t) (from_split (q + w) ws p ∙ ap (split ws) (sym (drop-drop w q p)))

-- a signal strength, in the byte that says it
signed_back : (b : ℕ) → b < 256 → signed_byte (signed b) ≡ b
signed_back b h = go (ltb b 128) refl where
  go : (t : Bool) → ltb b 128 ≡ t → signed_byte (cond t (pos b) (negsuc (255 - b))) ≡ b
  go true e = refl
  go false e = omega (arith, h)

-- of pairs that are there
module _ {A B : Type 0} (read : List ℕ → A) (numbers : ℕ → A → B) (refusal : B → ℕ) (bytes : B → List (List ℕ)) (ws : List ℕ)
    (number : (n : ℕ) (a : A) → refusal (numbers n a) ≡ n) (each : (p : List ℕ) → AllBytes p → length p ≡ size_of ws → bytes (numbers 0 (read p)) ≡ from 0 ws p) where
  said : (s : List ℕ) (p : ℕ) → AllBytes s → refusal (crossing numbers (read []) (mapped read (fields_at ws s p))) ≡ 0 →
      flatten (bytes (crossing numbers (read []) (mapped read (fields_at ws s p)))) ≡ take (size_of ws) (drop p s)
  unfolding fields_at
  said s p all = go (leb (p + size_of ws) (length s)) refl where
    go : (t : Bool) → leb (p + size_of ws) (length s) ≡ t →
        let r = crossing numbers (read []) (mapped read (cond t (gives (take (size_of ws) (drop p s))) (refuses 3 []))) in
        refusal r ≡ 0 → flatten (bytes r) ≡ take (size_of ws) (drop p s)
    go true e x =
        let own = take (size_of ws) (drop p s) in
        let long = length-take-le (size_of ws) (drop p s) (rw length-drop (omega (arith, leb-true (p + size_of ws) (length s) e))) in
        ap flatten (each own (part_bytes (size_of ws) p s all) long ∙ from_split 0 ws own) ∙ joined ws own ∙ take-take (size_of ws) (size_of ws) (drop p s) (omega arith)
    go false e x = let z : ◌≡◌ {A = ℕ} 3 0 = sym (number 3 (read [])) ∙ x in absurd (omega (arith, z))

-- the bytes of a pair, field by field
module _ (p : List ℕ) (all : AllBytes p) where
  at_start : 6 ≤ length p → octets (address_at_lem p 0) ≡ take 6 p
  at_start h = by_bytes 6 0 p (octets (address_at_lem p 0)) refl ∙ padded_take 6 p h

  after_that : 12 ≤ length p → octets (address_at_lem p 6) ≡ take 6 (drop 6 p)
  after_that h = by_bytes 6 6 p (octets (address_at_lem p 6)) refl ∙ padded_take 6 (drop 6 p) (rw length-drop (omega (arith, h)))

  number_back : (w q : ℕ) → q + w ≤ length p → in_bytes w (number_at w q p) ≡ take w (drop q p)
  number_back w q h = bytes_at_back w q p h all

  tx_each : length p ≡ 29 → tx_bytes (tx_numbers_lem 0 (tx_fields_lem p)) ≡ from 0 tx_pair_fields p
  tx_each h = λ i.
      at_start (omega (arith, h)) i ∷ after_that (omega (arith, h)) i ∷ number_back 2 12 (omega (arith, h)) i ∷ number_back 1 14 (omega (arith, h)) i ∷
      number_back 4 15 (omega (arith, h)) i ∷ number_back 4 19 (omega (arith, h)) i ∷ number_back 2 23 (omega (arith, h)) i ∷
      number_back 2 25 (omega (arith, h)) i ∷ number_back 2 27 (omega (arith, h)) i ∷ []

  signal_back : length p ≡ 23 → in_bytes 1 (signed_byte (signed (number_at 1 22 p))) ≡ take 1 (drop 22 p)
  signal_back h =
      let byte : number_at 1 22 p < 256 = omega (arith, all 22, number_at_lem 1 22 p (omega (arith, h))) in
      ap (in_bytes 1) (signed_back (number_at 1 22 p) byte) ∙ number_back 1 22 (omega (arith, h))

  rx_each : length p ≡ 23 → rx_bytes (rx_numbers_lem 0 (rx_fields_lem p)) ≡ from 0 rx_pair_fields p
  rx_each h = λ i.
      at_start (omega (arith, h)) i ∷ after_that (omega (arith, h)) i ∷ number_back 2 12 (omega (arith, h)) i ∷ number_back 4 14 (omega (arith, h)) i ∷
      number_back 4 18 (omega (arith, h)) i ∷ signal_back h i ∷ []

pub said_back : PairBytesSaid
unfolding tx_pair_at_lem rx_pair_at_lem
said_back = record {
  tx = said tx_fields_lem tx_numbers_lem (λ r. r.refusal) tx_bytes tx_pair_fields (λ n a. refl) tx_each;
  rx = said rx_fields_lem rx_numbers_lem (λ r. r.refusal) rx_bytes rx_pair_fields (λ n a. refl) rx_each;
}
