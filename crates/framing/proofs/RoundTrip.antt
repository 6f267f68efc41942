-- Reading what was written gives the same type and value, and writing what was read gives the consumed bytes.
use mathlib.Core.Path.{◌≡◌, sym, ap, ◌∙◌}
use mathlib.Core.List.{List, [], ◌∷◌, ◌++◌}
use Prim.Native.Nat.{ℕ, ◌+◌, ◌≤◌}
use native.Mathlib.Omega.{arith}
use lib.ListN.{length, take, drop, length-append}
use lib.Seq.{take-append_seam, take-add, length-take-le}
use Rattle.numbers.specs.Numbers.{gives}
use Rattle.numbers.specs.Bytes.{in_bytes, AllBytes}
use Rattle.numbers.proofs.Bytes.{said_back, bytes_at_back}
use Rattle.framing.specs.declared.TlvRead.{TlvRead}
use Rattle.framing.specs.Tlv.{read_tlv_lem, declared, value_in_lem, longest_value, tlv_bytes}
use Rattle.framing.specs.Claims.{as_read_lem}
use Rattle.framing.proofs.Reading.{whole, Reads, reads}

pub read_written : (t : ℕ) (v rest : List ℕ) → length v ≤ longest_value → gives (as_read_lem t v) ≡ read_tlv_lem (tlv_bytes t v ++ rest)
read_written t v rest h =
    let n : length v ≡ declared (tlv_bytes t v ++ rest) = sym (said_back 2 (length v) (omega arith)) in
    let l : length (v ++ rest) ≡ length v + length rest = length-append v rest in
    whole (tlv_bytes t v ++ rest) (length v) n (omega arith) (omega (arith, l))

pub value_written : (t : ℕ) (v rest : List ℕ) → length v ≤ longest_value → value_in_lem (read_tlv_lem (tlv_bytes t v ++ rest)) (tlv_bytes t v ++ rest) ≡ v
value_written t v rest h = rw (← read_written t v rest h) (take-append_seam v rest)

pub written_read : (s : List ℕ) → AllBytes s → (t : TlvRead) → gives t ≡ read_tlv_lem s → tlv_bytes t.tlv_type (value_in_lem (read_tlv_lem s) s) ≡ take t.consumed s
written_read s b t e = rw (← e) (by_bytes s b t (reads s t e))
  where
    by_bytes : (s : List ℕ) → AllBytes s → (t : TlvRead) → Reads s t → tlv_bytes t.tlv_type (take t.value_length (drop 3 s)) ≡ take t.consumed s
    by_bytes [] b t r = absurd (omega (arith, r.all, r.inside))
    by_bytes (x ∷ []) b t r = absurd (omega (arith, r.all, r.inside))
    by_bytes (x ∷ y ∷ []) b t r = absurd (omega (arith, r.all, r.inside))
    by_bytes (x ∷ y ∷ z ∷ s) b t r =
        let n = t.value_length in
        let l : length (take n s) ≡ n = length-take-le n s (omega (arith, r.all, r.inside)) in
        let two : in_bytes 2 n ≡ y ∷ z ∷ [] = rw r.long (bytes_at_back 2 1 (x ∷ y ∷ z ∷ s) (omega arith) b) in
        let all : take t.consumed (x ∷ y ∷ z ∷ s) ≡ x ∷ y ∷ z ∷ take n s = ap (λ (m : ℕ). take m (x ∷ y ∷ z ∷ s)) r.all ∙ take-add 3 n (x ∷ y ∷ z ∷ s) in
        rw (r.typed, l) (ap (λ (h : List ℕ). x ∷ (h ++ take n s)) two ∙ sym all)
