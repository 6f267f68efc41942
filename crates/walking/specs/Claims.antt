-- What is claimed of this crate's calls; proofs/Claims.antt proves it.
use Rattle.std.specs.Prelude.{◌≡◌, true, false, ℕ, zero, suc, ◌+◌, ◌-◌, ◌/◌, ◌%◌, ◌<◌, ◌≤◌, length, take, drop, get_or, replicate, Result}
use mathlib.Core.List.{List, [], ◌∷◌, ◌++◌, map, flatten}
use Rattle.numbers.specs.Numbers.{Answer, gives, refuses}
use Rattle.numbers.specs.Firmness.{Firm}
use Rattle.framing.specs.declared.TlvRead.{TlvRead}
use Rattle.framing.specs.Tlv.{read_tlv_lem, tlv_bytes}
use Rattle.framing.specs.Claims.{number_in}
use Rattle.numbers.specs.Bytes.{AllBytes}
use Rattle.numbers.specs.declared.Refusal.{Refusal}
use Rattle.walking.specs.declared.PayloadError.{PayloadError}
use Rattle.walking.specs.declared.Tlv.{Tlv}
use Rattle.walking.specs.declared.Unwalked.{Unwalked}
use Rattle.walking.specs.declared.WalkCount.{WalkCount}
use Rattle.walking.specs.Pieces.{pieces}
use Rattle.walking.specs.Walk.{is_marker_lem, answered_at, stepped_of, step_at, walk_of, counted, no_tlv, offset_at, listed, filled}

-- Rule A4, for each public call by its name, and each conversion by its two types: any two outcomes that its contract allows are one.
pub record Firmness : Type 0 where
  pub step : (p : List ℕ) (at : ℕ) → Firm (λ s. stepped_of s ≡ step_at p at)
  pub walk : (p : List ℕ) → Firm (λ w. answered_at w ≡ counted (walk_of p))
  -- the answer, and what the list holds
  pub walk_into : (list : List Tlv) (p : List ℕ)
      → Firm {A = Result WalkCount Unwalked × List Tlv} (λ o. (answered_at o.0 ≡ listed (length list) (walk_of p)) × (o.1 ≡ filled (listed (length list) (walk_of p)) (walk_of p).items list))
  pub payload_error_from_unwalked : (stopped : Unwalked) → Firm (λ error. error ≡ PayloadError.Unwalked stopped)
  pub payload_error_from_refusal : (refusal : Refusal) → Firm (λ error. error ≡ PayloadError.Refused refusal)

-- the TLV of a record, with its value from the payload
abbrev pub tlv_of_lem : List ℕ → Tlv → List ℕ
tlv_of_lem p t = tlv_bytes t.tlv_type (take t.length (drop (t.offset + 3) p))

-- Rule A6: the TLVs of a walk that is not refused, written one after the other, and then the padding are the payload.
-- The padding is the payload's last bytes.
abbrev pub WalkWritten : Type 0
WalkWritten = (p : List ℕ) → AllBytes p → (padding : ℕ) → (walk_of p).end ≡ gives padding
    → (flatten (map (tlv_of_lem p) (walk_of p).items) ++ drop (length p - padding) p ≡ p) × (padding ≤ length p)

-- Rules W2 and W3: a marker among the TLVs of a walk is the last of them. Whatever bytes follow it instead, the walk
-- has the same TLVs, and answers how many bytes follow.
pub record Ends (p : List ℕ) (tlvs : List Tlv) (k : ℕ) : Type 0 where
  pub is_last : k + 1 ≡ length tlvs
  pub not_looked_at : (other : List ℕ)
      → walk_of (take (offset_at tlvs k + 3) p ++ other) ≡ record { items = tlvs; end = gives (length other) }

-- Rules W2 and W3, for every marker that a walk comes to.
abbrev pub MarkerEnds : Type 0
MarkerEnds = (p : List ℕ) (k : ℕ) → k < length (walk_of p).items → is_marker_lem (get_or (walk_of p).items k no_tlv) ≡ true
    → Ends p (walk_of p).items k

-- none of these TLVs is a marker
abbrev pub Unmarked : List Tlv → Type 0
Unmarked tlvs = (k : ℕ) → k < length tlvs → is_marker_lem (get_or tlvs k no_tlv) ≡ false

-- Rules W2 and W3: without a marker the walk ends where no byte is left, so there is no padding.
abbrev pub NoMarker : Type 0
NoMarker = (p : List ℕ) (padding : ℕ) → (walk_of p).end ≡ gives padding → Unmarked (walk_of p).items → padding ≡ 0

-- the number and the offset of a refusal; 0 and 0 where there is none
abbrev pub refused_at_lem : {A : Type 0} → Answer A → ℕ × ℕ
refused_at_lem (gives a) = (0, 0)
refused_at_lem (refuses n []) = (n, 0)
refused_at_lem (refuses n (at ∷ vs)) = (n, at)

-- Rule W4: with fewer bytes appended than are missing, the walk is refused by n at the same offset again. With exactly
-- as many, it is not refused by n, at any offset.
pub record MissingAt (p : List ℕ) (n at missing : ℕ) : Type 0 where
  pub again : (more : List ℕ) → length more < missing → refused_at_lem (counted (walk_of (p ++ more))) ≡ (n, at)
  pub no_longer : (more : List ℕ) → length more ≡ missing → number_in (counted (walk_of (p ++ more))) ≡ n → ⊥

-- Rule W4, for every walk that is refused.
abbrev pub WalkShortfall : Type 0
WalkShortfall = (p : List ℕ) (n at missing : ℕ) → counted (walk_of p) ≡ refuses n (at ∷ missing ∷ [])
    → MissingAt p n at missing

-- one TLV and nothing else
pub record IsTlv (s : List ℕ) : Type 0 where
  pub tlv : TlvRead
  pub reads : read_tlv_lem s ≡ gives tlv
  pub all : tlv.consumed ≡ length s

-- Rules A6 and W1: the pieces of a payload whose walk is not refused. One after the other, and then the padding, they
-- are the payload. Each is one TLV.
pub record InPieces : Type 0 where
  pub one_by_one : (p : List ℕ) (padding : ℕ) → (walk_of p).end ≡ gives padding
      → flatten (pieces p) ++ drop (length p - padding) p ≡ p
  pub each : (p : List ℕ) (k : ℕ) → k < length (pieces p) → IsTlv (get_or (pieces p) k [])
  -- what follows whole TLVs without a marker adds its pieces to theirs, and the walk goes on to its end
  pub followed : (a b : List ℕ) (padding : ℕ) → (walk_of a).end ≡ gives 0 → Unmarked (walk_of a).items
      → (walk_of b).end ≡ gives padding
      → (pieces (a ++ b) ≡ pieces a ++ pieces b) × ((walk_of (a ++ b)).end ≡ gives padding)
  -- what follows whole TLVs with a marker, which is the last of them, is padding
  pub padded : (a b : List ℕ) (k : ℕ) → (walk_of a).end ≡ gives 0 → k < length (walk_of a).items
      → is_marker_lem (get_or (walk_of a).items k no_tlv) ≡ true
      → (pieces (a ++ b) ≡ pieces a) × ((walk_of (a ++ b)).end ≡ gives (length b))

-- so many TLVs of type 1 without a value, and after them one with a value of r bytes
abbrev pub short_tlvs : ℕ → ℕ → List ℕ
short_tlvs zero r = 0x01 ∷ 0x00 ∷ r ∷ replicate r 0x00
short_tlvs (suc k) r = 0x01 ∷ 0x00 ∷ 0x00 ∷ short_tlvs k r

-- Rule W7: how many elements a TLV list needs, a third of the payload's bytes, rounded down.
pub record RoomNeeded : Type 0 where
  -- no payload has more TLVs, also where its walk is refused: these are the TLVs in front of the fault
  pub at_most : (p : List ℕ) → length (walk_of p).items ≤ length p / 3
  -- with that many elements, or more, the walk answers as it does without a list: it never gives 14
  pub enough : (p : List ℕ) (room : ℕ) → length p / 3 ≤ room → listed room (walk_of p) ≡ counted (walk_of p)
  pub never_14 : (p : List ℕ) → number_in (counted (walk_of p)) ≡ 14 → ⊥
  -- a payload of n bytes that has as many, for each n from 3 on
  pub reached : (n : ℕ) → 3 ≤ n → (length (short_tlvs (n / 3 - 1) (n % 3)) ≡ n)
      × (counted (walk_of (short_tlvs (n / 3 - 1) (n % 3))) ≡ gives (record { count = n / 3; padding = 0 }))
  -- one or two bytes: the walk is refused with no TLV in front of the fault
  pub below_3 : (p : List ℕ) → 0 < length p → length p < 3
      → walk_of p ≡ record { items = []; end = refuses 1 (0 ∷ (3 - length p) ∷ []) }

-- everything that is claimed of this crate
pub record Claims : Type 0 where
  pub firmness : Firmness
  pub walk_written : WalkWritten
  pub marker_ends : MarkerEnds
  pub no_marker : NoMarker
  pub walk_shortfall : WalkShortfall
  pub in_pieces : InPieces
  pub room_needed : RoomNeeded
