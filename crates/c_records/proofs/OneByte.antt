-- Which codes a single byte is written under.
use mathlib.Core.Path.{◌≡◌, refl, sym, ap, ◌∙◌}
use mathlib.Core.Bool.{Bool, true, false, cond}
use mathlib.Core.List.{List, [], ◌∷◌}
use Prim.Native.Nat.{ℕ, ◌<◌}
use native.Mathlib.Omega.{arith}
use lib.Dec.{eqb}
use borrow.Author.Tests.{eqb-true}
use Rattle.numbers.specs.Numbers.{refuses, is_given}
use Rattle.records.specs.declared.RecordKind.{RecordKind}
use Rattle.records.specs.declared.Record.{Record}
use Rattle.records.specs.Values.{has_address}
use Rattle.records.specs.Kinds.{record_kinds, code_of}
use Rattle.records.specs.Reading.{fixed, of_kind_lem, with_code}
use Rattle.records.proofs.Ways.{by_code, by_kind, filled, cut}
use Rattle.c_records.specs.Writing.{byte_meant, byte_record_lem}
use Rattle.c_records.specs.Claims.{byte_kinds, BytesByCode}

differ : {A : Type 0} → true ≡ false → A
differ e = let z : ◌≡◌ {A = ℕ} 0 1 = cc in absurd (omega arith)

two_or_more : (x : Bool) → 1 < cond x 8 2
two_or_more true = omega arith
two_or_more false = omega arith

as_others : (k : RecordKind) (b : ℕ) → is_given (with_code (code_of k) byte_kinds) ≡ false → byte_meant (of_kind_lem k (b ∷ [])) ≡ refuses 16 []
as_others RecordKind.EndOfMessage b h = ap byte_meant (sym (filled _ (b ∷ []) (omega arith)))
as_others RecordKind.AlMacAddress b h = ap byte_meant (sym (cut 6 _ _ (b ∷ []) (omega arith)))
as_others RecordKind.MacAddress b h = ap byte_meant (sym (cut 6 _ _ (b ∷ []) (omega arith)))
as_others RecordKind.SearchedRole b h = differ h
as_others RecordKind.SupportedRole b h = differ h
as_others RecordKind.SupportedFreqBand b h = differ h
as_others RecordKind.Ieee1905ProfileVersion b h = differ h
as_others RecordKind.LinkMetricResultCode b h = differ h
as_others RecordKind.LinkMetricQuery b h = ap byte_meant (sym (cut _ _ _ (b ∷ []) (two_or_more (has_address b))))
as_others RecordKind.ClientAssociation b h = ap byte_meant (sym (cut 13 _ _ (b ∷ []) (omega arith)))
as_others RecordKind.MultiApProfile b h = differ h
as_others RecordKind.Profile2ApCapability b h = ap byte_meant (sym (cut 4 _ _ (b ∷ []) (omega arith)))

-- a layout of one byte gives its record, or is refused by its check
single : (ok : Bool) (r : Record) (b : ℕ) → byte_meant (fixed 1 ok r (b ∷ [])) ≡ refuses 16 [] → ⊥
unfolding fixed
single true r b e = let z : ◌≡◌ {A = ℕ} 0 1 = cc in omega arith
single false r b e = let z : ◌≡◌ {A = ℕ} 9 16 = cc in omega arith

as_theirs : (k : RecordKind) (b : ℕ) → is_given (with_code (code_of k) byte_kinds) ≡ true → byte_meant (of_kind_lem k (b ∷ [])) ≡ refuses 16 [] → ⊥
as_theirs RecordKind.EndOfMessage b h e = differ (sym h)
as_theirs RecordKind.AlMacAddress b h e = differ (sym h)
as_theirs RecordKind.MacAddress b h e = differ (sym h)
as_theirs RecordKind.SearchedRole b h e = single _ _ b e
as_theirs RecordKind.SupportedRole b h e = single _ _ b e
as_theirs RecordKind.SupportedFreqBand b h e = single _ _ b e
as_theirs RecordKind.Ieee1905ProfileVersion b h e = single _ _ b e
as_theirs RecordKind.LinkMetricResultCode b h e = single _ _ b e
as_theirs RecordKind.LinkMetricQuery b h e = differ (sym h)
as_theirs RecordKind.ClientAssociation b h e = differ (sym h)
as_theirs RecordKind.MultiApProfile b h e = single _ _ b e
as_theirs RecordKind.Profile2ApCapability b h e = differ (sym h)

-- a code has its kind in a list, or none
data Known (c : ℕ) (ks : List RecordKind) : Type 0 where
  kind : (k : RecordKind) → code_of k ≡ c → Known c ks
  none : with_code c ks ≡ refuses 16 [] → Known c ks

known : (c : ℕ) (ks : List RecordKind) → Known c ks
known c [] = none refl
known c (k ∷ ks) = go (eqb c (code_of k)) refl (known c ks)
  where
    go : (x : Bool) → eqb c (code_of k) ≡ x → Known c ks → Known c (k ∷ ks)
    go true t later = kind k (sym (eqb-true c (code_of k) t))
    go false t (kind j own) = kind j own
    go false t (none e) = none (rw t e)

others : (code b : ℕ) → is_given (with_code code byte_kinds) ≡ false → byte_record_lem code b ≡ refuses 16 []
others code b h = go (known code record_kinds)
  where
    go : Known code record_kinds → byte_record_lem code b ≡ refuses 16 []
    go (kind k own) = rw (← own) (ap byte_meant (by_kind k (b ∷ [])) ∙ as_others k b (rw (← own) at h))
    go (none e) = ap byte_meant (sym (by_code code (b ∷ []) (refuses 16 []) (sym e)))

theirs : (code b : ℕ) → is_given (with_code code byte_kinds) ≡ true → byte_record_lem code b ≡ refuses 16 [] → ⊥
theirs code b h e = go (known code byte_kinds)
  where
    go : Known code byte_kinds → ⊥
    go (kind k own) = as_theirs k b (rw (← own) at h) (ap byte_meant (sym (by_kind k (b ∷ []))) ∙ (rw (← own) at e))
    go (none f) = differ (sym (rw f at h))

pub bytes_by_code : BytesByCode
bytes_by_code = record { others = others; theirs = theirs }
