-- What is claimed of this crate's calls; proofs/Claims.antt proves it.
use Rattle.std.specs.Prelude.{◌≡◌, List, [], ◌∷◌, ◌++◌, ℕ, ◌+◌, ◌<◌, ◌≤◌, length, take, Result}
use Rattle.std.specs.Borrow.{Bor}
use Rattle.numbers.specs.Numbers.{Answer, gives, refuses, answered}
use Rattle.numbers.specs.declared.Refusal.{Refusal}
use Rattle.numbers.specs.Bytes.{AllBytes}
use Rattle.numbers.specs.Parts.{behind}
use Rattle.numbers.specs.Firmness.{Firm}
use Rattle.framing.specs.Tlv.{read_tlv_lem, value_in_lem, value_from, header, tlv_bytes, longest_value, write_size, leaves}
use Rattle.framing.specs.Cmdu.{read_header, flags_for_lem, header_bytes_lem, header_size}
use Rattle.framing.specs.declared.CmduFields.{CmduFields}
use Rattle.framing.specs.declared.CmduHeader.{CmduHeader}
use Rattle.framing.specs.declared.TlvRead.{TlvRead}

-- Rule A4, for each public call by its name: any two outcomes that its contract allows are one.
pub record Firmness : Type 0 where
  pub read_tlv : (s : List ℕ) → Firm (λ r. answered r ≡ read_tlv_lem s)
  -- the part's bytes, and where it lies
  pub value : (s : Bor (List ℕ))
      → Firm {A = List ℕ × (ℕ × ℕ)} (λ o. (o.0 ≡ value_in_lem (read_tlv_lem s.now) s.now) × (o.1 ≡ behind (value_from (read_tlv_lem s.now)) s))
  -- the answer, and what the room holds
  pub write_header : (t n : ℕ) (out : List ℕ)
      → Firm {A = Result ℕ Refusal × List ℕ} (λ o. (answered o.0 ≡ write_size n (length out)) × (o.1 ≡ leaves (write_size n (length out)) (header t n) out))
  pub write_tlv : (t : ℕ) (bytes out : List ℕ)
      → Firm {A = Result ℕ Refusal × List ℕ} (λ o. (answered o.0 ≡ write_size (length bytes) (length out)) × (o.1 ≡ leaves (write_size (length bytes) (length out)) (tlv_bytes t bytes) out))
  pub read_cmdu_header : (s : List ℕ) → Firm (λ h. answered h ≡ read_header s)
  pub write_cmdu_header : (fields : CmduFields) (out : List ℕ)
      → Firm {A = Result ℕ Refusal × List ℕ} (λ o. (answered o.0 ≡ header_size (length out)) × (o.1 ≡ leaves (header_size (length out)) (header_bytes_lem fields) out))

-- what reading returns for the TLV of type t and value v
abbrev pub as_read_lem : ℕ → List ℕ → TlvRead
as_read_lem t v = record { tlv_type = t; value_length = length v; consumed = 3 + length v }

-- Rule A6, for TLVs.
pub record RoundTrip : Type 0 where
  -- reading what was written gives the same type and value, whatever stands after it
  pub read_written : (t : ℕ) (v rest : List ℕ) → length v ≤ longest_value
      → gives (as_read_lem t v) ≡ read_tlv_lem (tlv_bytes t v ++ rest)
  pub value_written : (t : ℕ) (v rest : List ℕ) → length v ≤ longest_value
      → value_in_lem (read_tlv_lem (tlv_bytes t v ++ rest)) (tlv_bytes t v ++ rest) ≡ v
  -- writing what was read gives the consumed bytes
  pub written_read : (s : List ℕ) → AllBytes s → (t : TlvRead) → gives t ≡ read_tlv_lem s
      → tlv_bytes t.tlv_type (value_in_lem (read_tlv_lem s) s) ≡ take t.consumed s

-- fields whose numbers fit their two bytes
pub record NumbersFit (f : CmduFields) : Type 0 where
  pub two_of_type : f.message_type < 65536
  pub two_of_id : f.message_id < 65536

-- what reading returns for a header with these fields
abbrev pub as_written_lem : CmduFields → CmduHeader
as_written_lem f = record {
  message_version = f.message_version;
  reserved = 0;
  message_type = f.message_type;
  message_id = f.message_id;
  fragment = f.fragment;
  flags = flags_for_lem f.last_fragment;
  last_fragment = f.last_fragment;
}

-- Rules A6 and B7: reading a header that was written gives its five fields, whatever stands after it.
abbrev pub HeaderBack : Type 0
HeaderBack = (f : CmduFields) (rest : List ℕ) → NumbersFit f → gives (as_written_lem f) ≡ read_header (header_bytes_lem f ++ rest)

-- the number of a refusal; 0 where there is none
abbrev pub number_in : {A : Type 0} → Answer A → ℕ
number_in (gives a) = 0
number_in (refuses n vs) = n

-- Rule B4: the shortfall is exact. With fewer bytes appended to s than are missing, the reading is refused by n again.
-- With as many or more, it is not refused by n.
pub record Missing {A : Type 0} (read : List ℕ → Answer A) (s : List ℕ) (n missing : ℕ) : Type 0 where
  pub again : (more : List ℕ) → length more < missing → number_in (read (s ++ more)) ≡ n
  pub no_longer : (more : List ℕ) → missing ≤ length more → number_in (read (s ++ more)) ≡ n → ⊥

-- Rule B4, for a TLV and for a CMDU header.
pub record Shortfalls : Type 0 where
  pub of_tlv : (s : List ℕ) (n missing : ℕ) → read_tlv_lem s ≡ refuses n (missing ∷ []) → Missing read_tlv_lem s n missing
  pub of_header : (s : List ℕ) (n missing : ℕ) → read_header s ≡ refuses n (missing ∷ [])
      → Missing read_header s n missing

-- everything that is claimed of this crate
pub record Claims : Type 0 where
  pub firmness : Firmness
  pub round_trip : RoundTrip
  pub header_back : HeaderBack
  pub shortfalls : Shortfalls
