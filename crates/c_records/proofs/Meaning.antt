-- A record and its fields say each other, shape by shape.
use mathlib.Core.Path.{◌≡◌, refl, sym, ap, ◌∙◌}
use mathlib.Core.Bool.{Bool, true, false, cond}
use mathlib.Core.List.{[], ◌∷◌}
use Prim.Native.Nat.{ℕ}
use native.Mathlib.Omega.{arith}
use lib.Dec.{eqb, ltb}
use borrow.Author.Tests.{eqb-true, ltb-false, le-ltb}
use Rattle.std.specs.Prelude.{Option, Some, None}
use Rattle.numbers.specs.Numbers.{Answer, gives, refuses}
use Rattle.numbers.specs.Bytes.{is_same_lem}
use Rattle.numbers.proofs.Firm.{never}
use Rattle.numbers.proofs.Answers.{given}
use Rattle.numbers.proofs.Bytes.{are_same}
use Rattle.records.specs.declared.MacAddr.{MacAddr}
use Rattle.records.specs.declared.LinkMetricQuery.{LinkMetricQuery}
use Rattle.records.specs.declared.AssociationState.{AssociationState}
use Rattle.records.specs.declared.ClientAssociation.{ClientAssociation}
use Rattle.records.specs.declared.Profile2ApCapability.{Profile2ApCapability}
use Rattle.records.specs.declared.RecordKind.{RecordKind}
use Rattle.records.specs.declared.Record.{Record}
use Rattle.records.specs.Values.{octets, units_code, bytes_of}
use Rattle.records.specs.Kinds.{code_of, kind_of}
use Rattle.record_writing.proofs.Flags.{units_code_lem, units_small}
use Rattle.c_stations.specs.Numbers.{no_address_lem, association_with_lem}
use Rattle.c_records.specs.declared.AshlarQuery.{AshlarQuery}
use Rattle.c_records.specs.declared.AshlarAssociation.{AshlarAssociation}
use Rattle.c_records.specs.declared.AshlarCapability.{AshlarCapability}
use Rattle.c_records.specs.Shapes.{crossed_query, crossed_association, crossed_capability, byte_of, shape_of, address_fields, byte_fields, query_fields, association_fields, capability_fields}
use Rattle.c_records.specs.Writing.{address_record_lem, query_with_lem, query_record_lem, association_record_lem, capability_with, capability_record_lem}
use Rattle.c_records.specs.Claims.{fields_alone}

-- a record by its shape
pub data Seen : Record → Type 0 where
  nothing : Seen Record.EndOfMessage
  al_mac : (m : MacAddr) → Seen (Record.AlMacAddress m)
  mac : (m : MacAddr) → Seen (Record.MacAddress m)
  byte : (r : Record) (names b : ℕ) → shape_of r ≡ byte_of names b → bytes_of r ≡ b ∷ [] → Seen r
  query : (q : LinkMetricQuery) → Seen (Record.LinkMetricQuery q)
  association : (a : ClientAssociation) → Seen (Record.ClientAssociation a)
  capability : (c : Profile2ApCapability) → Seen (Record.Profile2ApCapability c)

pub seen : (r : Record) → Seen r
seen Record.EndOfMessage = nothing
seen (Record.AlMacAddress m) = al_mac m
seen (Record.MacAddress m) = mac m
seen (Record.SearchedRole x) = byte _ _ _ refl refl
seen (Record.SupportedRole x) = byte _ _ _ refl refl
seen (Record.SupportedFreqBand x) = byte _ _ _ refl refl
seen (Record.Ieee1905ProfileVersion x) = byte _ _ _ refl refl
seen (Record.LinkMetricResultCode x) = byte _ _ _ refl refl
seen (Record.LinkMetricQuery q) = query q
seen (Record.ClientAssociation a) = association a
seen (Record.MultiApProfile x) = byte _ _ _ refl refl
seen (Record.Profile2ApCapability c) = capability c

-- what has another shape gives no fields
none : {A B : Type 0} (a : A) → refuses 16 [] ≡ gives a → B
none a e = never a 16 [] (sym e)

-- Of a record that was read to its fields and back.

address_again : (r : Record) → Seen r → (m : MacAddr) → address_fields (shape_of r) ≡ gives m → address_record_lem (code_of (kind_of r)) m ≡ gives r
unfolding address_record_lem
address_again r nothing m e = none m e
address_again r (al_mac m') m e = ap (λ (a : MacAddr). gives (Record.AlMacAddress a)) (sym (given m' m e))
address_again r (mac m') m e = ap (λ (a : MacAddr). gives (Record.MacAddress a)) (sym (given m' m e))
address_again r (byte _ names b s l) m e = none m (rw s at e)
address_again r (query q) m e = none m e
address_again r (association a) m e = none m e
address_again r (capability c) m e = none m e

pub address_means : (r : Record) (m : MacAddr) → address_fields (shape_of r) ≡ gives m → address_record_lem (code_of (kind_of r)) m ≡ gives r
address_means r m e = address_again r (seen r) m e

-- a record of one byte is that byte
byte_again : (r : Record) → Seen r → (f : ℕ × Bool) → byte_fields (shape_of r) ≡ gives f → bytes_of r ≡ f.0 ∷ []
byte_again r nothing f e = none f e
byte_again r (al_mac m) f e = none f e
byte_again r (mac m) f e = none f e
byte_again r (byte _ names b s l) f e = l ∙ ap (λ (g : ℕ × Bool). g.0 ∷ []) (given _ f (rw s at e))
byte_again r (query q) f e = none f e
byte_again r (association a) f e = none f e
byte_again r (capability c) f e = none f e

pub byte_means : (r : Record) (f : ℕ × Bool) → byte_fields (shape_of r) ≡ gives f → bytes_of r ≡ f.0 ∷ []
byte_means r f e = byte_again r (seen r) f e

query_itself : (n k : ℕ) (m : Option MacAddr) → let q : LinkMetricQuery = record { neighbor_type = n; neighbor_mac = m; requested_metrics = k } in query_record_lem (crossed_query q) ≡ gives (Record.LinkMetricQuery q)
unfolding query_record_lem
query_itself n k (Some m) = refl
query_itself n k None = refl

query_again : (r : Record) → Seen r → (q : AshlarQuery) → query_fields (shape_of r) ≡ gives q → query_record_lem q ≡ gives r
query_again r nothing q e = none q e
query_again r (al_mac m) q e = none q e
query_again r (mac m) q e = none q e
query_again r (byte _ names b s l) q e = none q (rw s at e)
query_again r (query q') q e = ap query_record_lem (sym (given _ q e)) ∙ query_itself q'.neighbor_type q'.requested_metrics q'.neighbor_mac
query_again r (association a) q e = none q e
query_again r (capability c) q e = none q e

pub query_means : (r : Record) (q : AshlarQuery) → query_fields (shape_of r) ≡ gives q → query_record_lem q ≡ gives r
query_means r q e = query_again r (seen r) q e

association_itself : (s p : MacAddr) (st : AssociationState) → let a : ClientAssociation = record { sta_mac = s; ap_mac = p; association_state = st } in association_record_lem (crossed_association a) ≡ gives (Record.ClientAssociation a)
association_itself s p AssociationState.LeftBss = refl
association_itself s p AssociationState.JoinedBss = refl

association_again : (r : Record) → Seen r → (f : AshlarAssociation × ℕ) → association_fields (shape_of r) ≡ gives f → association_record_lem f.0 ≡ gives r
association_again r nothing f e = none f e
association_again r (al_mac m) f e = none f e
association_again r (mac m) f e = none f e
association_again r (byte _ names b s l) f e = none f (rw s at e)
association_again r (query q) f e = none f e
association_again r (association a) f e = ap (λ (g : AshlarAssociation × ℕ). association_record_lem g.0) (sym (given _ f e)) ∙ association_itself a.sta_mac a.ap_mac a.association_state
association_again r (capability c) f e = none f e

pub association_means : (r : Record) (f : AshlarAssociation × ℕ) → association_fields (shape_of r) ≡ gives f → association_record_lem f.0 ≡ gives r
association_means r f e = association_again r (seen r) f e

capability_itself : (c : Profile2ApCapability) → capability_record_lem (crossed_capability c) ≡ gives (Record.Profile2ApCapability c)
capability_itself c = let u = units_small c.byte_counter_units in simp (le-ltb 3 (units_code c.byte_counter_units) (omega (arith, u.0)), u.1)

capability_again : (r : Record) → Seen r → (f : AshlarCapability × ℕ) → capability_fields (shape_of r) ≡ gives f → capability_record_lem f.0 ≡ gives r
capability_again r nothing f e = none f e
capability_again r (al_mac m) f e = none f e
capability_again r (mac m) f e = none f e
capability_again r (byte _ names b s l) f e = none f (rw s at e)
capability_again r (query q) f e = none f e
capability_again r (association a) f e = none f e
capability_again r (capability c) f e = ap (λ (g : AshlarCapability × ℕ). capability_record_lem g.0) (sym (given _ f e)) ∙ capability_itself c

pub capability_means : (r : Record) (f : AshlarCapability × ℕ) → capability_fields (shape_of r) ≡ gives f → capability_record_lem f.0 ≡ gives r
capability_means r f e = capability_again r (seen r) f e

-- Of fields to the record that they mean and back.

pub address_meant : (code : ℕ) (m : MacAddr) (r : Record) → address_record_lem code m ≡ gives r → (code_of (kind_of r) ≡ code) × (address_fields (shape_of r) ≡ gives m)
unfolding address_record_lem
address_meant code m r e = first (eqb code 1) refl e
  where
    second : (x : Bool) → eqb code 2 ≡ x → cond x (gives (Record.MacAddress m)) (refuses 16 []) ≡ gives r → (code_of (kind_of r) ≡ code) × (address_fields (shape_of r) ≡ gives m)
    second true t e = rw (← given (Record.MacAddress m) r e) (sym (eqb-true code 2 t), refl)
    second false t e = none r e

    first : (x : Bool) → eqb code 1 ≡ x → cond x (gives (Record.AlMacAddress m)) (cond (eqb code 2) (gives (Record.MacAddress m)) (refuses 16 [])) ≡ gives r → (code_of (kind_of r) ≡ code) × (address_fields (shape_of r) ≡ gives m)
    first true t e = rw (← given (Record.AlMacAddress m) r e) (sym (eqb-true code 1 t), refl)
    first false t e = second (eqb code 2) refl e

no_neighbor : (m : MacAddr) → is_same_lem (octets m) (octets no_address_lem) ≡ true → no_address_lem ≡ m
no_neighbor m t =
    let o = are_same (octets m) (octets no_address_lem) t in
    let e0 : m.b0 ≡ 0 = cc in
    let e1 : m.b1 ≡ 0 = cc in
    let e2 : m.b2 ≡ 0 = cc in
    let e3 : m.b3 ≡ 0 = cc in
    let e4 : m.b4 ≡ 0 = cc in
    let e5 : m.b5 ≡ 0 = cc in
    rw (e0, e1, e2, e3, e4, e5)

pub query_meant : (q : AshlarQuery) (r : Record) → query_record_lem q ≡ gives r → (code_of (kind_of r) ≡ code_of RecordKind.LinkMetricQuery) × (query_fields (shape_of r) ≡ gives q)
unfolding query_record_lem
query_meant q r e = first q.has_neighbor refl e
  where
    Meant : Type 0
    Meant = (code_of (kind_of r) ≡ code_of RecordKind.LinkMetricQuery) × (query_fields (shape_of r) ≡ gives q)

    shown : MacAddr → Bool → Answer AshlarQuery
    shown m has = gives (record { neighbor = m; neighbor_type = q.neighbor_type; has_neighbor = has; metrics = q.metrics })

    without : Answer Record
    without = gives (Record.LinkMetricQuery (query_with_lem q None))

    second : (x : Bool) → is_same_lem (octets q.neighbor) (octets no_address_lem) ≡ x → q.has_neighbor ≡ false → cond x without (refuses 9 []) ≡ gives r → Meant
    second true t f e = rw (← given (Record.LinkMetricQuery (query_with_lem q None)) r e) (refl, ap (λ (m : MacAddr). shown m false) (no_neighbor q.neighbor t) ∙ ap (shown q.neighbor) (sym f))
    second false t f e = never r 9 [] (sym e)

    first : (x : Bool) → q.has_neighbor ≡ x → cond x (gives (Record.LinkMetricQuery (query_with_lem q (Some q.neighbor)))) (cond (is_same_lem (octets q.neighbor) (octets no_address_lem)) without (refuses 9 [])) ≡ gives r → Meant
    first true t e = rw (← given (Record.LinkMetricQuery (query_with_lem q (Some q.neighbor))) r e) (refl, ap (shown q.neighbor) (sym t))
    first false t e = second (is_same_lem (octets q.neighbor) (octets no_address_lem)) refl t e

association_back : (s p : MacAddr) (joined : Bool) → crossed_association (association_with_lem s p joined) ≡ record { station = s; point = p; joined = joined }
association_back s p true = refl
association_back s p false = refl

pub association_meant : (a : AshlarAssociation) (r : Record) → association_record_lem a ≡ gives r → (code_of (kind_of r) ≡ code_of RecordKind.ClientAssociation) × (fields_alone association_fields (shape_of r) ≡ gives a)
association_meant a r e = rw (← given (Record.ClientAssociation (association_with_lem a.station a.point a.joined)) r e) (refl, ap gives (association_back a.station a.point a.joined))

pub capability_meant : (c : AshlarCapability) (r : Record) → capability_record_lem c ≡ gives r → (code_of (kind_of r) ≡ code_of RecordKind.Profile2ApCapability) × (fields_alone capability_fields (shape_of r) ≡ gives c)
capability_meant c r e = go (ltb 3 c.byte_counter_units) refl e
  where
    go : (x : Bool) → ltb 3 c.byte_counter_units ≡ x → cond x (refuses 9 []) (gives (Record.Profile2ApCapability (capability_with c))) ≡ gives r → (code_of (kind_of r) ≡ code_of RecordKind.Profile2ApCapability) × (fields_alone capability_fields (shape_of r) ≡ gives c)
    go true t e = never r 9 [] (sym e)
    go false t e =
        let few = ltb-false 3 c.byte_counter_units t in
        rw (← given (Record.Profile2ApCapability (capability_with c)) r e) (refl, rw (units_code_lem c.byte_counter_units (omega arith)))
