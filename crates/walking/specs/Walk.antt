-- The walk over a payload's TLVs and where a message ends (rules W1 to W6; IEEE 1905.1, clause 6.4.1, for the marker).
use Rattle.std.specs.Prelude.{Bool, false, cond, List, [], ◌∷◌, ◌++◌, ℕ, ◌+◌, eqb, ltb, length, drop, get_or, Result, Ok, Err}
use Rattle.numbers.specs.Numbers.{Answer, gives, refuses, and_then, mapped, number, values, told}
use Rattle.framing.specs.declared.TlvRead.{TlvRead}
use Rattle.framing.specs.Tlv.{read_tlv_lem}
use Rattle.walking.specs.Steps.{Ahead, ended, passed, last, Walk, walk_from}
use Rattle.walking.specs.declared.Tlv.{Tlv}
use Rattle.walking.specs.declared.Stepped.{Stepped}
use Rattle.walking.specs.declared.Unwalked.{Unwalked}
use Rattle.walking.specs.declared.WalkCount.{WalkCount}
use Rattle.walking.specs.declared.PayloadError.{PayloadError}

-- Rule W2: the end marker is a TLV of type 0 with an empty value.
abbrev pub is_marker_lem : Tlv → Bool
is_marker_lem t = cond (eqb t.tlv_type 0) (eqb t.length 0) false

-- What each answer of a step and of a walk says. A refusal carries an offset in front of its values (rules W4 and N3).
abbrev pub answered_at : {A : Type 0} → Result A Unwalked → Answer A
answered_at (Ok a) = gives a
answered_at (Err u) = refuses (number u.refusal) (u.at ∷ values u.refusal)

-- The same where a refusal may have no offset.
abbrev pub payload_answered : {A : Type 0} → Result A PayloadError → Answer A
payload_answered (Ok a) = gives a
payload_answered (Err (PayloadError.Unwalked u)) = answered_at (Err u)
payload_answered (Err (PayloadError.Refused r)) = told r

abbrev pub ahead_of : Stepped → Ahead Tlv
ahead_of Stepped.End = ended
ahead_of (Stepped.Tlv t next) = passed t next
ahead_of (Stepped.Last t end) = last t end

abbrev pub stepped_of : Result Stepped Unwalked → Answer (Ahead Tlv)
stepped_of r = mapped ahead_of (answered_at r)

-- The step over a TLV that ends at `end`, the marker or another (rules W2 and W6).
abbrev pub step_over_lem : Tlv → ℕ → Ahead Tlv
step_over_lem t end = cond (is_marker_lem t) (last t end) (passed t end)

-- The step at the offset `at`, by what reading the TLV there says (rules W4 and W6).
abbrev pub step_by_lem : ℕ → Answer TlvRead → Answer (Ahead Tlv)
step_by_lem at (gives t) = gives (step_over_lem (record { tlv_type = t.tlv_type; length = t.value_length; offset = at }) (at + t.consumed))
step_by_lem at (refuses n vs) = refuses n (at ∷ vs)

-- Rule W6: one step of the walk, at the offset `at` of a payload.
unfoldable pub step_at : List ℕ → ℕ → Answer (Ahead Tlv)
step_at p at = cond (ltb at (length p)) (step_by_lem at (read_tlv_lem (drop at p))) (gives ended)

-- Rules W1 and W2: the walk of a payload, from its start. A payload has no more TLVs than bytes.
unfoldable pub walk_of : List ℕ → Walk Tlv
walk_of p = walk_from (step_at p) (length p) (length p) 0

-- the same from an offset on, instead of the start
unfoldable pub walk_on : List ℕ → ℕ → Walk Tlv
walk_on p at = walk_from (step_at p) (length p) (length p) at

-- Rule W3: the walk's answer, or its refusal.
abbrev pub counted : Walk Tlv → Answer WalkCount
counted w = mapped (λ padding. record { count = length w.items; padding = padding }) w.end

-- the offset of a TLV that a walk went over, by its number from 0
abbrev pub no_tlv : Tlv
no_tlv = record { tlv_type = 0; length = 0; offset = 0 }

abbrev pub offset_at : List Tlv → ℕ → ℕ
offset_at tlvs k = (get_or tlvs k no_tlv).offset

-- Rule W5: the answer with a TLV list of `room` elements. 1 and 2 come first, wherever the fault is. Then comes 14,
-- with the offset of the first TLV that has no element.
abbrev pub listed : ℕ → Walk Tlv → Answer WalkCount
listed room w = and_then (counted w) (λ c. cond (ltb room c.count) (refuses 14 (offset_at w.items room ∷ [])) (gives c))

-- Rules W5 and A3: what the TLV list then holds. Further elements keep what they held. On a refusal all do.
abbrev pub filled : Answer WalkCount → List Tlv → List Tlv → List Tlv
filled (gives c) tlvs list = tlvs ++ drop c.count list
filled (refuses n vs) tlvs list = list
