-- Laws of `read_tlv_lem`: its three cases, and what a TLV that reads says of the bytes.
use mathlib.Core.Path.{◌≡◌, refl, sym, ap, ◌∙◌}
use mathlib.Core.Bool.{Bool, true, false, cond}
use mathlib.Core.List.{List, [], ◌∷◌}
use Prim.Native.Nat.{ℕ, ◌+◌, ◌-◌, ◌<◌, ◌≤◌}
use native.Mathlib.Omega.{arith}
use lib.Dec.{ltb}
use lib.ListN.{length, get_or, take, drop}
use lib.Seq.{get_or-take}
use borrow.Author.Tests.{ltb-false, lt-ltb, le-ltb}
use Rattle.numbers.specs.Numbers.{gives, refuses}
use Rattle.numbers.proofs.Bytes.{number_at_lem}
use Rattle.framing.specs.declared.TlvRead.{TlvRead}
use Rattle.framing.specs.Tlv.{read_tlv_lem, declared, value_in_lem, value_from}

pub short : (s : List ℕ) → length s < 3 → refuses 1 ((3 - length s) ∷ []) ≡ read_tlv_lem s
unfolding read_tlv_lem
short s h = simp (lt-ltb (length s) 3 h)

-- `n` is how the code came by the declared length
pub past : (s : List ℕ) (n : ℕ) → n ≡ declared s → 3 ≤ length s → length s - 3 < n → refuses 2 ((n - (length s - 3)) ∷ []) ≡ read_tlv_lem s
unfolding read_tlv_lem
past s n e h l = rw e (simp (le-ltb (length s) 3 h, lt-ltb (length s - 3) (declared s) (rw e at l)))

-- the same where the header's three bytes are among both that are compared
pub past_end : (s : List ℕ) (n : ℕ) → n ≡ declared s → 3 ≤ length s → length s < 3 + n → refuses 2 ((3 + n - length s) ∷ []) ≡ read_tlv_lem s
past_end s n e h l = let m : 3 + n - length s ≡ n - (length s - 3) = omega arith in rw m (past s n e h (omega arith))

pub whole : (s : List ℕ) (n : ℕ) → n ≡ declared s → 3 ≤ length s → n ≤ length s - 3 → gives (record { tlv_type = get_or s 0 0; value_length = n; consumed = 3 + n }) ≡ read_tlv_lem s
unfolding read_tlv_lem
whole s n e h l = rw e (simp (le-ltb (length s) 3 h, le-ltb (length s - 3) (declared s) (rw e at l)))

-- what a TLV that reads says of the bytes
pub record Reads (s : List ℕ) (t : TlvRead) : Type 0 where
  pub typed : t.tlv_type ≡ get_or s 0 0
  pub long : t.value_length ≡ declared s
  pub all : t.consumed ≡ 3 + t.value_length
  pub inside : t.consumed ≤ length s

by_tests : (x y : Bool) (vs ws : List ℕ) (t u : TlvRead) → gives t ≡ cond x (refuses 1 vs) (cond y (refuses 2 ws) (gives u)) → (x ≡ false) × ((y ≡ false) × (t ≡ u))
by_tests true y vs ws t u e = let z : ◌≡◌ {A = ℕ} 0 1 = cc in absurd (omega arith)
by_tests false true vs ws t u e = let z : ◌≡◌ {A = ℕ} 0 1 = cc in absurd (omega arith)
by_tests false false vs ws t u e = (refl, (refl, cc))

pub reads : (s : List ℕ) (t : TlvRead) → gives t ≡ read_tlv_lem s → Reads s t
unfolding read_tlv_lem
reads s t e =
    let h = by_tests (ltb (length s) 3) (ltb (length s - 3) (declared s)) _ _ t _ e in
    let long = ltb-false (length s) 3 h.0 in
    let fits = ltb-false (length s - 3) (declared s) h.1.0 in
    record {
      typed = ap (λ (u : TlvRead). u.tlv_type) h.1.1;
      long = ap (λ (u : TlvRead). u.value_length) h.1.1;
      all = ap (λ (u : TlvRead). u.consumed) h.1.1 ∙ ap (λ (n : ℕ). 3 + n) (sym (ap (λ (u : TlvRead). u.value_length) h.1.1));
      inside = omega (arith, ap (λ (u : TlvRead). u.consumed) h.1.1, long, fits);
    }

-- what reads reads the same wherever its bytes stand
pub reads_same : (s u : List ℕ) (t : TlvRead) → gives t ≡ read_tlv_lem s → t.consumed ≤ length u → take t.consumed u ≡ take t.consumed s → gives t ≡ read_tlv_lem u
reads_same s u t e l same = rw (r.all, r.typed, ← byte 0 (omega arith)) (whole u t.value_length d (omega (arith, r.all)) (omega (arith, r.all)))
  where
    r : Reads s t
    r = reads s t e

    byte : (i : ℕ) → i < 3 → get_or u i 0 ≡ get_or s i 0
    byte i h = sym (get_or-take t.consumed u i 0 (omega (arith, r.all))) ∙ ap (λ (b : List ℕ). get_or b i 0) same ∙ get_or-take t.consumed s i 0 (omega (arith, r.all))

    d : t.value_length ≡ declared u
    d = r.long ∙ sym (number_at_lem 2 1 s (omega (arith, r.all, r.inside))) ∙ rw (← byte 1 (omega arith), ← byte 2 (omega arith)) (number_at_lem 2 1 u (omega (arith, r.all)))

-- the part that holds the value, its bytes and where it starts
module _ (s : List ℕ) where
  pub value_given : (t : TlvRead) → gives t ≡ read_tlv_lem s → (take (t.consumed - 3) (drop 3 s) ≡ value_in_lem (read_tlv_lem s) s) × (3 ≡ value_from (read_tlv_lem s))
  value_given t e = let l : t.consumed - 3 ≡ t.value_length = omega (arith, (reads s t e).all) in rw (← e, l) (refl, refl)

  pub value_refused : (n : ℕ) (vs part : List ℕ) → refuses n vs ≡ read_tlv_lem s → length part ≡ 0 → part ≡ value_in_lem (read_tlv_lem s) s
  value_refused n vs [] e l = rw (← e)
  value_refused n vs (b ∷ part) e l = absurd (omega arith)

  pub from_start : (n : ℕ) (vs : List ℕ) → refuses n vs ≡ read_tlv_lem s → 0 ≡ value_from (read_tlv_lem s)
  from_start n vs e = rw (← e)
