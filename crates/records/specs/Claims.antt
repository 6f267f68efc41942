-- What is claimed of this crate's calls; proofs/Claims.antt proves it.
use Rattle.std.specs.Prelude.{◌≡◌, List, ℕ, ◌≤◌, length}
use Rattle.numbers.specs.Numbers.{gives, answered, mapped}
use Rattle.numbers.specs.Firmness.{Firm}
use Rattle.records.specs.declared.Record.{Record}
use Rattle.records.specs.declared.RecordKind.{RecordKind}
use Rattle.records.specs.declared.RecordRead.{RecordRead}
use Rattle.records.specs.declared.SupportedFreqBand.{SupportedFreqBand}
use Rattle.records.specs.declared.Ieee1905ProfileVersion.{Ieee1905ProfileVersion}
use Rattle.records.specs.declared.LinkMetricResultCode.{LinkMetricResultCode}
use Rattle.records.specs.declared.AssociationState.{AssociationState}
use Rattle.records.specs.declared.MultiApProfile.{MultiApProfile}
use Rattle.records.specs.Values.{band_of_lem, band_byte_lem, version_of_lem, version_byte_lem, result_of, result_byte_lem, state_byte_lem, profile_of_lem, profile_byte_lem, units_of}
use Rattle.records.specs.Kinds.{code_of, kind_of}
use Rattle.records.specs.Reading.{is_record_lem, of_kind_lem, read_record_lem}

-- Rule A4, for each public call by its name, and each conversion by its two types: any two answers that its contract allows are one.
pub record Firmness : Type 0 where
  pub read_record : (code : ℕ) (s : List ℕ) → Firm (λ r. answered r ≡ read_record_lem code s)
  pub read_client_association : (s : List ℕ) → Firm (λ r. answered r ≡ of_kind_lem RecordKind.ClientAssociation s)
  pub from_u8 : (input : ℕ) → Firm (λ units. units ≡ units_of input)
  pub supported_freq_band_from_u8 : (input : ℕ) → Firm (λ r. r ≡ band_of_lem input)
  pub u8_from_supported_freq_band : (code : SupportedFreqBand) → Firm (λ r. r ≡ band_byte_lem code)
  pub ieee1905_profile_version_from_u8 : (input : ℕ) → Firm (λ r. r ≡ version_of_lem input)
  pub u8_from_ieee1905_profile_version : (code : Ieee1905ProfileVersion) → Firm (λ r. r ≡ version_byte_lem code)
  pub link_metric_result_code_from_u8 : (input : ℕ) → Firm (λ r. r ≡ result_of input)
  pub u8_from_link_metric_result_code : (code : LinkMetricResultCode) → Firm (λ r. r ≡ result_byte_lem code)
  pub u8_from_association_state : (state : AssociationState) → Firm (λ r. r ≡ state_byte_lem state)
  pub multi_ap_profile_from_u8 : (input : ℕ) → Firm (λ r. r ≡ profile_of_lem input)
  pub u8_from_multi_ap_profile : (code : MultiApProfile) → Firm (λ r. r ≡ profile_byte_lem code)
  pub code_of : (item : Record) → Firm (λ n. n ≡ code_of (kind_of item))
  pub is_record : (code : ℕ) → Firm (λ b. b ≡ is_record_lem code)
  pub measure : (code : ℕ) (s : List ℕ) → Firm (λ m. answered m ≡ mapped (λ x. x.consumed) (read_record_lem code s))

-- Rules K1 and K2: no two kinds have one code. A value is read by the kind that has the code.
abbrev pub OwnCodes : Type 0
OwnCodes = (k : RecordKind) (s : List ℕ) → read_record_lem (code_of k) s ≡ of_kind_lem k s

-- Rule K1: the bytes consumed lie in the value, so the rest is what follows them.
abbrev pub Inside : Type 0
Inside = (code : ℕ) (s : List ℕ) (x : RecordRead) → read_record_lem code s ≡ gives x → x.consumed ≤ length s

-- everything that is claimed of this crate
pub record Claims : Type 0 where
  pub firmness : Firmness
  pub own_codes : OwnCodes
  pub inside : Inside
