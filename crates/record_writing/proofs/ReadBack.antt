-- A record that can be read stands in its own bytes, with anything after them. A law for each code of one byte, then
-- the kinds.
use mathlib.Core.Path.{◌≡◌, refl, sym, ap}
use mathlib.Core.Bool.{Bool, true}
use mathlib.Core.List.{List, [], ◌++◌}
use Prim.Native.Nat.{ℕ, ◌%◌}
use native.Mathlib.Omega.{arith}
use lib.Dec.{leb, ltb, eqb}
use lib.ListN.{length, length-append}
use borrow.Author.Tests.{leb-true, lt-ltb, ltb-true, not-true}
use Rattle.std.specs.Prelude.{Option, Some, None}
use Rattle.numbers.specs.Numbers.{gives}
use Rattle.records.specs.declared.SupportedFreqBand.{SupportedFreqBand}
use Rattle.records.specs.declared.Ieee1905ProfileVersion.{Ieee1905ProfileVersion}
use Rattle.records.specs.declared.LinkMetricResultCode.{LinkMetricResultCode}
use Rattle.records.specs.declared.MacAddr.{MacAddr}
use Rattle.records.specs.declared.AssociationState.{AssociationState}
use Rattle.records.specs.declared.MultiApProfile.{MultiApProfile}
use Rattle.records.specs.declared.Record.{Record}
use Rattle.records.specs.Values.{bands, band_of_lem, band_byte_lem, versions, version_of_lem, version_byte_lem, results, result_of, result_byte_lem, profiles, profile_of_lem, profile_byte_lem, state_of, state_byte_lem, bytes_of}
use Rattle.records.specs.declared.RecordKind.{RecordKind}
use Rattle.records.specs.Kinds.{kind_of}
use Rattle.records.specs.Reading.{fixed, of_kind_lem}
use Rattle.records.proofs.Codes.{past}
use Rattle.records.proofs.Ways.{bare, whole}
use Rattle.record_writing.specs.Writing.{lowest_band_lem, lowest_version_lem, lowest_result_lem, lowest_profile_lem, agrees, readable}
use Rattle.record_writing.specs.Claims.{itself}
use Rattle.record_writing.proofs.Flags.{flags_read}

band_back : (x : SupportedFreqBand) → leb (lowest_band_lem x) (band_byte_lem x) ≡ true → band_of_lem (band_byte_lem x) ≡ x
band_back SupportedFreqBand.Band_802_11_2_4 h = refl
band_back SupportedFreqBand.Band_802_11_5 h = refl
band_back SupportedFreqBand.Band_802_11_60 h = refl
band_back (SupportedFreqBand.Reserved b) h = sym (past bands (SupportedFreqBand.Reserved b) b (leb-true 3 b h))

version_back : (x : Ieee1905ProfileVersion) → leb (lowest_version_lem x) (version_byte_lem x) ≡ true → version_of_lem (version_byte_lem x) ≡ x
version_back Ieee1905ProfileVersion.Ieee1905_1 h = refl
version_back Ieee1905ProfileVersion.Ieee1905_1a h = refl
version_back (Ieee1905ProfileVersion.Reserved b) h = sym (past versions (Ieee1905ProfileVersion.Reserved b) b (leb-true 2 b h))

result_back : (x : LinkMetricResultCode) → leb (lowest_result_lem x) (result_byte_lem x) ≡ true → result_of (result_byte_lem x) ≡ x
result_back LinkMetricResultCode.InvalidNeighbor h = refl
result_back (LinkMetricResultCode.UnknownCode b) h = sym (past results (LinkMetricResultCode.UnknownCode b) b (leb-true 1 b h))

profile_back : (x : MultiApProfile) → leb (lowest_profile_lem x) (profile_byte_lem x) ≡ true → (profile_of_lem (profile_byte_lem x) ≡ x) × (ltb 0 (profile_byte_lem x) ≡ true)
profile_back MultiApProfile.Profile1 h = (refl, refl)
profile_back MultiApProfile.Profile2 h = (refl, refl)
profile_back MultiApProfile.Profile3 h = (refl, refl)
profile_back (MultiApProfile.Reserved b) h =
    let l = leb-true 4 b h in
    (sym (past profiles (MultiApProfile.Reserved b) b l), lt-ltb 0 b (omega arith))

state_back : (x : AssociationState) → (state_of (state_byte_lem x) ≡ x) × (eqb (state_byte_lem x % 128) 0 ≡ true)
state_back AssociationState.LeftBss = (refl, refl)
state_back AssociationState.JoinedBss = (refl, refl)

-- a layout of as many bytes as the record has, that holds the record
stands : (n : ℕ) (ok : Bool) (held r : Record) (t : List ℕ) → n ≡ length (bytes_of r) → ok ≡ true → held ≡ r → fixed n ok held (bytes_of r ++ t) ≡ gives (itself r)
stands n ok held r t size taken is = rw (is, size) (sym (whole (length (bytes_of r)) ok r (bytes_of r ++ t) (omega (arith, length-append (bytes_of r) t)) taken))

query_back : (n k : ℕ) (m : Option MacAddr) (t : List ℕ) → agrees n m ≡ true →
    let q = Record.LinkMetricQuery (record { neighbor_type = n; neighbor_mac = m; requested_metrics = k }) in of_kind_lem RecordKind.LinkMetricQuery (bytes_of q ++ t) ≡ gives (itself q)
query_back n k (Some m) t h = stands _ _ _ (Record.LinkMetricQuery (record { neighbor_type = n; neighbor_mac = Some m; requested_metrics = k })) t (simp h) refl (simp h)
query_back n k None t h =
    let f = not-true (eqb n 1) h in
    stands _ _ _ (Record.LinkMetricQuery (record { neighbor_type = n; neighbor_mac = None; requested_metrics = k })) t (simp f) refl (simp f)

pub back : (r : Record) (t : List ℕ) → readable r ≡ true → (r ≡ Record.EndOfMessage → t ≡ []) → of_kind_lem (kind_of r) (bytes_of r ++ t) ≡ gives (itself r)
back Record.EndOfMessage t h e = rw (e refl) (sym (bare Record.EndOfMessage [] (omega arith)))
back (Record.AlMacAddress m) t h e = stands _ _ _ (Record.AlMacAddress m) t refl refl refl
back (Record.MacAddress m) t h e = stands _ _ _ (Record.MacAddress m) t refl refl refl
back (Record.SearchedRole role) t h e = stands _ _ _ (Record.SearchedRole role) t refl h refl
back (Record.SupportedRole role) t h e = stands _ _ _ (Record.SupportedRole role) t refl h refl
back (Record.SupportedFreqBand x) t h e = stands _ _ _ (Record.SupportedFreqBand x) t refl refl (ap Record.SupportedFreqBand (band_back x h))
back (Record.Ieee1905ProfileVersion x) t h e = stands _ _ _ (Record.Ieee1905ProfileVersion x) t refl refl (ap Record.Ieee1905ProfileVersion (version_back x h))
back (Record.LinkMetricResultCode x) t h e = stands _ _ _ (Record.LinkMetricResultCode x) t refl refl (ap Record.LinkMetricResultCode (result_back x h))
back (Record.LinkMetricQuery q) t h e = query_back q.neighbor_type q.requested_metrics q.neighbor_mac t h
back (Record.ClientAssociation a) t h e =
    let x = state_back a.association_state in
    stands _ _ _ (Record.ClientAssociation a) t refl x.1 (ap (λ (y : AssociationState). Record.ClientAssociation (record { sta_mac = a.sta_mac; ap_mac = a.ap_mac; association_state = y })) x.0)
back (Record.MultiApProfile x) t h e = stands _ _ _ (Record.MultiApProfile x) t refl (profile_back x h).1 (ap Record.MultiApProfile (profile_back x h).0)
back (Record.Profile2ApCapability c) t h e =
    stands _ _ _ (Record.Profile2ApCapability c) t refl refl (ap Record.Profile2ApCapability (flags_read c (bytes_of (Record.Profile2ApCapability c) ++ t) (ltb-true c.flags_reserved 8 h) refl refl refl refl))
