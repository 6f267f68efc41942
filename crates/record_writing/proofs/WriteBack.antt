-- A record that was read is written as the bytes that it was read from: a law for each code of one byte, then the
-- kinds.
use mathlib.Core.Path.{◌≡◌, refl, sym, ap}
use mathlib.Core.Bool.{Bool, true, false, cond}
use mathlib.Core.List.{List, [], ◌∷◌}
use Prim.Native.Nat.{ℕ, zero, suc, ◌+◌, ◌%◌, ◌≤◌, ◌<◌}
use native.Mathlib.Omega.{arith}
use lib.Dec.{leb, ltb, eqb}
use lib.ListN.{length, get_or, take, drop}
use lib.Seq.{drop-cons}
use borrow.Author.Tests.{le-leb, ltb-true, lt-ltb, eqb-true, eqb-false}
use Rattle.numbers.specs.Numbers.{gives}
use Rattle.numbers.specs.Bytes.{AllBytes}
use Rattle.records.specs.declared.AssociationState.{AssociationState}
use Rattle.records.specs.declared.Record.{Record}
use Rattle.records.specs.declared.RecordRead.{RecordRead}
use Rattle.records.specs.Values.{band_of_lem, band_byte_lem, version_of_lem, version_byte_lem, result_of, result_byte_lem, profile_of_lem, profile_byte_lem, state_of, state_byte_lem, has_address, query_in_lem, bytes_of}
use Rattle.records.specs.declared.RecordKind.{RecordKind}
use Rattle.records.specs.Kinds.{kind_of}
use Rattle.records.specs.Reading.{fixed, of_kind_lem}
use Rattle.records.proofs.Given.{reads, reads_empty}
use Rattle.record_writing.specs.Writing.{lowest_band_lem, lowest_version_lem, lowest_result_lem, lowest_profile_lem, readable}
use Rattle.record_writing.proofs.Flags.{flags_kept}

-- n elements from p, one by one
abbrev each : ℕ → ℕ → List ℕ → List ℕ
each p zero s = []
each p (suc n) s = get_or s p 0 ∷ each (suc p) n s

front_from : (n p : ℕ) (s : List ℕ) → p + n ≤ length s → take n (drop p s) ≡ each p n s
front_from zero p s h = refl
front_from (suc n) p s h = rw (drop-cons s p 0 (omega arith)) (ap (λ (l : List ℕ). get_or s p 0 ∷ l) (front_from n (suc p) s (omega arith)))

front : (n : ℕ) (s : List ℕ) → n ≤ length s → each 0 n s ≡ take n s
front n s h = sym (front_from n 0 s (omega arith))

band_kept : (b : ℕ) → (band_byte_lem (band_of_lem b) ≡ b) × (leb (lowest_band_lem (band_of_lem b)) (band_byte_lem (band_of_lem b)) ≡ true)
band_kept zero = (refl, refl)
band_kept (suc zero) = (refl, refl)
band_kept (suc (suc zero)) = (refl, refl)
band_kept (suc (suc (suc b))) = (refl, le-leb 3 (suc (suc (suc b))) (omega arith))

version_kept : (b : ℕ) → (version_byte_lem (version_of_lem b) ≡ b) × (leb (lowest_version_lem (version_of_lem b)) (version_byte_lem (version_of_lem b)) ≡ true)
version_kept zero = (refl, refl)
version_kept (suc zero) = (refl, refl)
version_kept (suc (suc b)) = (refl, le-leb 2 (suc (suc b)) (omega arith))

result_kept : (b : ℕ) → (result_byte_lem (result_of b) ≡ b) × (leb (lowest_result_lem (result_of b)) (result_byte_lem (result_of b)) ≡ true)
result_kept zero = (refl, refl)
result_kept (suc b) = (refl, le-leb 1 (suc b) (omega arith))

profile_kept : (b : ℕ) → ltb 0 b ≡ true → (profile_byte_lem (profile_of_lem b) ≡ b) × (leb (lowest_profile_lem (profile_of_lem b)) (profile_byte_lem (profile_of_lem b)) ≡ true)
profile_kept zero h = let l = ltb-true 0 0 h in absurd (omega arith)
profile_kept (suc zero) h = (refl, refl)
profile_kept (suc (suc zero)) h = (refl, refl)
profile_kept (suc (suc (suc zero))) h = (refl, refl)
profile_kept (suc (suc (suc (suc b)))) h = (refl, le-leb 4 (suc (suc (suc (suc b)))) (omega arith))

state_kept : (b : ℕ) → b < 256 → eqb (b % 128) 0 ≡ true → state_byte_lem (state_of b) ≡ b
state_kept b h a = go (eqb b 128) refl where
  go : (x : Bool) → eqb b 128 ≡ x → state_byte_lem (cond x AssociationState.JoinedBss AssociationState.LeftBss) ≡ b
  go true e = sym (eqb-true b 128 e)
  go false e =
      let d = eqb-false b 128 e in
      let m = eqb-true (b % 128) 0 a in
      omega arith

-- what was read, and the bytes that it was read from
pub record Kept (k : RecordKind) (s : List ℕ) (x : RecordRead) : Type 0 where
  pub same : kind_of x.value ≡ k
  pub bytes : bytes_of x.value ≡ take x.consumed s
  pub good : readable x.value ≡ true

-- a layout whose bytes are the record's
holds : (k : RecordKind) (n : ℕ) (ok : Bool) (r : Record) (s : List ℕ) (x : RecordRead) → fixed n ok r s ≡ gives x →
    (n ≤ length s → ok ≡ true → Kept k s (record { value = r; consumed = n })) → Kept k s x
holds k n ok r s x e then = let h = reads n ok r s x e in rw (← h.is) (then h.within h.taken)

query_kept : (s : List ℕ) → let n = cond {A = ℕ} (has_address (get_or s 0 0)) 8 2 in n ≤ length s → Kept RecordKind.LinkMetricQuery s (record { value = Record.LinkMetricQuery (query_in_lem s); consumed = n })
query_kept s h = go (eqb (get_or s 0 0) 1) refl
  where
    go : (x : Bool) → eqb (get_or s 0 0) 1 ≡ x → Kept RecordKind.LinkMetricQuery s (record { value = Record.LinkMetricQuery (query_in_lem s); consumed = cond (has_address (get_or s 0 0)) 8 2 })
    go true e = record { same = refl; bytes = simp e (front 8 s (simp e at h)); good = simp e }
    go false e = record { same = refl; bytes = simp e (front 2 s (simp e at h)); good = simp e }

pub kept : (k : RecordKind) (s : List ℕ) → AllBytes s → (x : RecordRead) → of_kind_lem k s ≡ gives x → Kept k s x
kept RecordKind.EndOfMessage s b x e = rw (← reads_empty _ s x e) (record { same = refl; bytes = refl; good = refl })
kept RecordKind.AlMacAddress s b x e = holds _ _ _ _ s x e (λ h a. record { same = refl; bytes = front 6 s h; good = refl })
kept RecordKind.MacAddress s b x e = holds _ _ _ _ s x e (λ h a. record { same = refl; bytes = front 6 s h; good = refl })
kept RecordKind.SearchedRole s b x e = holds _ _ _ _ s x e (λ h a. record { same = refl; bytes = front 1 s h; good = a })
kept RecordKind.SupportedRole s b x e = holds _ _ _ _ s x e (λ h a. record { same = refl; bytes = front 1 s h; good = a })
kept RecordKind.SupportedFreqBand s b x e = let y = band_kept (get_or s 0 0) in holds _ _ _ _ s x e (λ h a. record { same = refl; bytes = rw y.0 (front 1 s h); good = y.1 })
kept RecordKind.Ieee1905ProfileVersion s b x e = let y = version_kept (get_or s 0 0) in holds _ _ _ _ s x e (λ h a. record { same = refl; bytes = rw y.0 (front 1 s h); good = y.1 })
kept RecordKind.LinkMetricResultCode s b x e = let y = result_kept (get_or s 0 0) in holds _ _ _ _ s x e (λ h a. record { same = refl; bytes = rw y.0 (front 1 s h); good = y.1 })
kept RecordKind.LinkMetricQuery s b x e = holds _ _ _ _ s x e (λ h a. query_kept s h)
kept RecordKind.ClientAssociation s b x e = holds _ _ _ _ s x e (λ h a. record { same = refl; bytes = rw (state_kept (get_or s 12 0) (b 12) a) (front 13 s h); good = refl })
kept RecordKind.MultiApProfile s b x e = holds _ _ _ _ s x e (λ h a. let y = profile_kept (get_or s 0 0) a in record { same = refl; bytes = rw y.0 (front 1 s h); good = y.1 })
kept RecordKind.Profile2ApCapability s b x e = holds _ _ _ _ s x e (λ h a. record { same = refl; bytes = rw (flags_kept s (b 2)) (front 4 s h); good = lt-ltb (get_or s 2 0 % 8) 8 (omega arith) })
