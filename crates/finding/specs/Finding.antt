-- Finding (rules F1 to F5): the first TLV record that has the code of the kind, lies inside the payload, and whose
-- value reads.
use Rattle.std.specs.Prelude.{Bool, true, false, cond, List, [], ◌∷◌, ℕ, ◌+◌, eqb, leb, ltb, length, take, drop}
use Rattle.std.proofs.Math.Option.{Option, none, some}
use Rattle.numbers.specs.Numbers.{Answer, gives, refuses, and_then, mapped}
use Rattle.records.specs.declared.Record.{Record}
use Rattle.kinds.specs.declared.Typed.{Typed}
use Rattle.kinds.specs.Kinds.{is_kind_lem, read_kind_lem}
use Rattle.walking.specs.declared.Tlv.{Tlv}
use Rattle.walking.specs.Steps.{Walk}
use Rattle.walking.specs.Walk.{is_marker_lem, walk_of, walk_on}
use Rattle.finding.specs.declared.Hit.{Hit}
use Rattle.finding.specs.declared.Sought.{Sought}

-- Rule F2: a record that has the code and lies inside a payload of this size. The sum is one of whole numbers.
abbrev pub is_candidate_lem : ℕ → ℕ → Tlv → Bool
is_candidate_lem code size t = cond (eqb t.tlv_type code) (leb (t.offset + 3 + t.length) size) false

-- Rule F2: a record's value. The type and the length in the payload are not looked at.
abbrev pub value_of : List ℕ → Tlv → List ℕ
value_of payload t = take t.length (drop (t.offset + 3) payload)

-- what is given, or nothing
abbrev pub if_given : {A : Type 0} → Answer A → Option A
if_given (gives a) = some a
if_given (refuses n vs) = none

abbrev pub is_there_lem : {A : Type 0} → Option A → Bool
is_there_lem (some a) = true
is_there_lem none = false

-- Rule F1: what the value reads as, if the record has the code and lies inside the payload, and its value reads.
unfoldable pub reads_as_lem : ℕ → List ℕ → Tlv → Option (Typed Record)
reads_as_lem code payload t = cond (is_candidate_lem code (length payload) t) (if_given (read_kind_lem code (value_of payload t))) none

-- The record t, if it reads as said; otherwise what is found after it. So many were looked at, t included.
abbrev pub there_or : Option (Typed Record) → ℕ → Tlv → Option Hit → Option Hit
there_or (some r) looked t behind = some (record { looked = looked; tlv = t; reading = r })
there_or none looked t behind = behind

-- Rule F1: the first of these records that reads. As many stand in front of them as the number says.
unfoldable pub first_of : ℕ → List ℕ → ℕ → List Tlv → Option Hit
first_of code payload before [] = none
first_of code payload before (t ∷ ts) = there_or (reads_as_lem code payload t) (before + 1) t (first_of code payload (before + 1) ts)

-- what was found, or else a refusal
abbrev pub found_or : Option Hit → Answer Hit → Answer Hit
found_or (some h) other = gives h
found_or none other = other

-- Rules F1 and F3: the first record of the kind after the first `from` records of the list. 15 where there is none, with
-- the list's length, wherever the search starts. A code that no kind has: 16, before anything else.
unfoldable pub find_from : ℕ → List Tlv → List ℕ → ℕ → Answer Hit
find_from code tlvs payload from =
    cond (is_kind_lem code) (found_or (first_of code payload from (drop from tlvs)) (refuses 15 (length tlvs ∷ []))) (refuses 16 [])

-- Rule F5: the offset after a TLV. After the marker the message has no TLV: it is the payload's end.
abbrev pub offset_after : List ℕ → Tlv → ℕ
offset_after payload t = cond (is_marker_lem t) (length payload) (t.offset + 3 + t.length)

abbrev pub with_next : List ℕ → Hit → Sought
with_next payload h = record { hit = h; next = offset_after payload h.tlv }

-- Rule F4: the same over the TLVs that a walk of the payload goes over. 16 comes first, then the walk's refusal.
unfoldable pub find_in_payload_lem : ℕ → List ℕ → ℕ → Answer Sought
find_in_payload_lem code payload from =
    cond (is_kind_lem code) (and_then (walk_of payload).end (λ padding. mapped (with_next payload) (find_from code (walk_of payload).items payload from)))
    (refuses 16 [])

-- Rule F5: the first of the TLVs of this walk that reads; where none does, the walk's refusal, or else 15 with the number
-- of all TLVs. As many stand in front of them as `before` says.
abbrev pub first_in_lem : ℕ → List ℕ → ℕ → Walk Tlv → Answer Hit
first_in_lem code payload before w =
    found_or (first_of code payload before w.items) (and_then w.end (λ padding. refuses 15 ((before + length w.items) ∷ [])))

-- Rule F5: going on at an offset, after so many TLVs. No more TLVs than bytes stand in front of an offset, so a greater
-- number counts as the offset.
unfoldable pub find_onward_lem : ℕ → List ℕ → ℕ → ℕ → Answer Sought
find_onward_lem code payload at looked =
    cond (is_kind_lem code) (mapped (with_next payload) (first_in_lem code payload (cond (ltb looked at) looked at) (walk_on payload at))) (refuses 16 [])
