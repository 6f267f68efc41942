-- What is claimed of finding, besides what the calls promise; proofs/Claims.antt proves it.
use Rattle.std.specs.Prelude.{◌≡◌, Bool, true, false, cond, List, [], ◌∷◌, ◌++◌, ℕ, zero, suc, ◌+◌, ◌-◌, ◌≤◌, ◌<◌, eqb, length, get_or, take, drop}
use Rattle.std.proofs.Math.Option.{Option, none, some}
use Rattle.numbers.specs.Numbers.{Answer, gives, refuses, mapped, answered}
use Rattle.numbers.specs.Firmness.{Firm}
use Rattle.framing.specs.declared.TlvRead.{TlvRead}
use Rattle.framing.specs.Tlv.{read_tlv_lem, value_in_lem}
use Rattle.records.specs.declared.Record.{Record}
use Rattle.kinds.specs.declared.Typed.{Typed}
use Rattle.kinds.specs.Kinds.{is_kind_lem, read_kind_lem}
use Rattle.walking.specs.declared.Tlv.{Tlv}
use Rattle.walking.specs.declared.WalkCount.{WalkCount}
use Rattle.walking.specs.Walk.{is_marker_lem, walk_of, filled, no_tlv, offset_at}
use Rattle.finding.specs.declared.Hit.{Hit}
use Rattle.finding.specs.declared.Sought.{Sought}
use Rattle.finding.specs.Finding.{if_given, is_there_lem, reads_as_lem, with_next, find_from, find_in_payload_lem, find_onward_lem}
use Rattle.walking.specs.Walk.{payload_answered}

-- Rule A4: for each public call, by its name, any two answers that its contract allows are one.
pub record Firmness : Type 0 where
  pub find : (list : List Tlv) (payload : List ℕ) (code from : ℕ) → Firm (λ r. answered r ≡ find_from code list payload from)
  pub find_place : (list : List Tlv) (payload : List ℕ) (code from : ℕ) → Firm (λ r. answered r ≡ mapped (λ h. h.looked) (find_from code list payload from))
  pub find_in_payload : (payload : List ℕ) (code from : ℕ) → Firm (λ r. payload_answered r ≡ find_in_payload_lem code payload from)
  pub find_onward : (payload : List ℕ) (code offset looked : ℕ) → Firm (λ r. payload_answered r ≡ find_onward_lem code payload offset looked)

-- Rule F1: what is found is the first that reads, and where none is found none reads. This is said by places from 0,
-- without the definition's recursion: the place is one less than the number of those that were looked at.
abbrev pub reads_at : ℕ → List ℕ → List Tlv → ℕ → Bool
reads_at code payload tlvs k = is_there_lem (reads_as_lem code payload (get_or tlvs k no_tlv))

pub record IsFirst (code : ℕ) (payload : List ℕ) (tlvs : List Tlv) (from : ℕ) (h : Hit) : Type 0 where
  pub behind : from < h.looked
  pub there : h.looked ≤ length tlvs
  pub is : get_or tlvs (h.looked - 1) no_tlv ≡ h.tlv
  pub reads : some h.reading ≡ reads_as_lem code payload h.tlv
  pub first : (k : ℕ) → from ≤ k → k + 1 < h.looked → reads_at code payload tlvs k ≡ false

abbrev pub FindsTheFirst : Type 0
FindsTheFirst = (code : ℕ) (payload : List ℕ) (tlvs : List Tlv) (from : ℕ) (h : Hit) → gives h ≡ find_from code tlvs payload from → IsFirst code payload tlvs from h

-- 15 carries the list's length, wherever the search starts.
abbrev pub FindsNone : Type 0
FindsNone = (code : ℕ) (payload : List ℕ) (tlvs : List Tlv) (from : ℕ) (vs : List ℕ) → refuses 15 vs ≡ find_from code tlvs payload from
    → (vs ≡ length tlvs ∷ []) × ((k : ℕ) → from ≤ k → k < length tlvs → reads_at code payload tlvs k ≡ false)

-- Rule F3: going on after each answer gives every readable record of the kind once, in the list's order. A record, if
-- it reads as said, before these:
abbrev pub hit_then : Option (Typed Record) → ℕ → Tlv → List Hit → List Hit
hit_then (some r) looked t hits = record { looked = looked; tlv = t; reading = r } ∷ hits
hit_then none looked t hits = hits

-- every one of these records that reads, with its place counted from 1; so many stand in front of them
abbrev pub all_that_read : ℕ → List ℕ → ℕ → List Tlv → List Hit
all_that_read code payload before [] = []
all_that_read code payload before (t ∷ ts) = hit_then (reads_as_lem code payload t) (before + 1) t (all_that_read code payload (before + 1) ts)

-- an answer, and what follows it
abbrev pub and_on_lem : Answer Hit → (Hit → List Hit) → List Hit
and_on_lem (gives h) on = h ∷ on h
and_on_lem (refuses n vs) on = []

-- The answers of one search after the other, each from the number that the last answer gave; at most as many as the
-- first number says.
abbrev pub collected : ℕ → ℕ → List Tlv → List ℕ → ℕ → List Hit
collected zero code tlvs payload from = []
collected (suc most) code tlvs payload from = and_on_lem (find_from code tlvs payload from) (λ h. collected most code tlvs payload h.looked)

abbrev pub GoingOn : Type 0
GoingOn = (code : ℕ) (payload : List ℕ) (tlvs : List Tlv) → is_kind_lem code ≡ true → (most from : ℕ) → length tlvs ≤ from + most
    → collected most code tlvs payload from ≡ all_that_read code payload from (drop from tlvs)

-- Rule F4: over the list that a walk made of a payload, what is found is the payload's first TLV of that kind that
-- reads, in the words of framing alone. What the TLV at the start of s reads as, if it is of the kind:
abbrev pub tlv_read_as : ℕ → List ℕ → Answer TlvRead → Option (Typed Record)
tlv_read_as code s (gives t) = cond (eqb t.tlv_type code) (if_given (read_kind_lem code (value_in_lem (gives t) s))) none
tlv_read_as code s (refuses n vs) = none

abbrev pub tlv_as : ℕ → List ℕ → Option (Typed Record)
tlv_as code s = tlv_read_as code s (read_tlv_lem s)

-- Whether TLV number k of the payload reads as one of the kind, where it stands.
abbrev pub reads_there : ℕ → List ℕ → ℕ → Bool
reads_there code payload k = is_there_lem (tlv_as code (drop (offset_at (walk_of payload).items k) payload))

-- The TLV at the place that was found reads so. None before it does, from the place asked for on.
pub record IsFirstTlv (payload : List ℕ) (code from : ℕ) (h : Hit) : Type 0 where
  pub reads : some h.reading ≡ tlv_as code (drop h.tlv.offset payload)
  pub first : (k : ℕ) → from ≤ k → k + 1 < h.looked → reads_there code payload k ≡ false

pub record OverAWalk : Type 0 where
  pub found_is_tlv : (payload : List ℕ) (code from : ℕ) (h : Hit) → gives h ≡ find_from code (walk_of payload).items payload from → IsFirstTlv payload code from h
  -- Rule F4, 15: none of the payload's TLVs does, from that place on.
  pub none_is_tlv : (payload : List ℕ) (code from : ℕ) (vs : List ℕ) → refuses 15 vs ≡ find_from code (walk_of payload).items payload from
      → (k : ℕ) → from ≤ k → k < length (walk_of payload).items → reads_there code payload k ≡ false
  -- Rules W5 and F3: in a list longer than the walk's, as `walk_into` leaves it, the same is found, if the payload has
  -- one.
  pub in_filled_list : (payload : List ℕ) (code : ℕ) (c : WalkCount) (lent : List Tlv) (h : Hit) → gives h ≡ find_from code (walk_of payload).items payload 0
      → gives h ≡ find_from code (filled (gives c) (walk_of payload).items lent) payload 0
  -- Rule F4: without a list the answer is the one over the walk's list, if a walk gets through the payload.
  pub without_list : (payload : List ℕ) (code from padding : ℕ) → (walk_of payload).end ≡ gives padding
      → find_in_payload_lem code payload from ≡ mapped (with_next payload) (find_from code (walk_of payload).items payload from)
  -- Rule W3: padding is not looked at. Whatever else follows the marker, TLV number k of the walk, the same is found.
  pub not_in_padding : (payload : List ℕ) (k : ℕ) → k < length (walk_of payload).items → is_marker_lem (get_or (walk_of payload).items k no_tlv) ≡ true → (other : List ℕ) (code from : ℕ)
      → mapped (λ s. s.hit) (find_in_payload_lem code (take (offset_at (walk_of payload).items k + 3) payload ++ other) from) ≡ mapped (λ s. s.hit) (find_in_payload_lem code payload from)

-- the answers of going on by offset, one after the other; at most as many as the first number says
abbrev pub and_onward : Answer Sought → (Sought → List Hit) → List Hit
and_onward (gives s) on = s.hit ∷ on s
and_onward (refuses n vs) on = []

abbrev pub collected_onward : ℕ → ℕ → List ℕ → ℕ → ℕ → List Hit
collected_onward zero code payload at looked = []
collected_onward (suc most) code payload at looked =
    and_onward (find_onward_lem code payload at looked) (λ s. collected_onward most code payload s.next s.hit.looked)

-- Rule F5: over a payload that a walk gets through, going on by offset answers what going on by place does.
pub record ByOffset (payload : List ℕ) (code : ℕ) : Type 0 where
  pub from_the_start : find_onward_lem code payload 0 0 ≡ find_in_payload_lem code payload 0
  -- the records, where the next one stands, 15 and its number
  pub goes_on : (from : ℕ) (s : Sought) → gives s ≡ find_in_payload_lem code payload from
      → find_onward_lem code payload s.next s.hit.looked ≡ find_in_payload_lem code payload s.hit.looked
  -- so all of them are the same records in the same order
  pub same_records : (most : ℕ) → collected_onward most code payload 0 0 ≡ collected most code (walk_of payload).items payload 0

abbrev pub GoingOnByOffset : Type 0
GoingOnByOffset = (payload : List ℕ) (code padding : ℕ) → (walk_of payload).end ≡ gives padding → ByOffset payload code

-- everything that is claimed of this crate
pub record Claims : Type 0 where
  pub firmness : Firmness
  pub finds_the_first : FindsTheFirst
  pub finds_none : FindsNone
  pub going_on : GoingOn
  pub over_a_walk : OverAWalk
  pub going_on_by_offset : GoingOnByOffset
