-- What fragments cut a message (rules M1 to M4).
use Rattle.std.specs.Prelude.{Bool, true, false, cond, ◌&&◌, ◌||◌, ℕ, ◌+◌, eqb, leb, ltb, length, take, drop, get_or}
use Rattle.std.specs.Bool.{beq}
use mathlib.Core.List.{List, [], ◌∷◌, map, flatten}
use Rattle.numbers.specs.Numbers.{Answer, gives, refuses, and_then, mapped, is_given}
use Rattle.numbers.specs.Bytes.{is_same_lem}
use Rattle.walking.specs.Walk.{walk_of}
use Rattle.walking.specs.Pieces.{pieces}
use Rattle.cutting.specs.declared.Proposed.{Proposed}

-- Rule M1: the TLVs of a message, each as its bytes. Where the walk refuses the message, so it is refused here, with
-- the offset of the TLV that failed. Bytes after the marker: 4.
unfoldable pub tlvs_of : List ℕ → Answer (List (List ℕ))
tlvs_of message = and_then (walk_of message).end (λ padding. cond (eqb padding 0) (gives (pieces message)) (refuses 4 []))

-- Rule M3: the longest payload of a fragment, and the most fragments of a message.
abbrev pub longest_payload : ℕ
longest_payload = 1492

abbrev pub most_fragments : ℕ
most_fragments = 9

-- Rule M2: the payload of a proposed fragment, a part of the lent payloads.
abbrev pub payload_in : List ℕ → Proposed → List ℕ
payload_in payloads f = take f.length (drop f.start payloads)

-- Rule M3: one or more whole TLVs and nothing else.
unfoldable pub is_tlvs_lem : List ℕ → Bool
is_tlvs_lem payload = is_given (tlvs_of payload) && ltb 0 (length payload)

-- Rule M3: only the empty message has a fragment that is empty, and then it is the only one.
abbrev pub is_empty_one : (message : List ℕ) (count : ℕ) → Bool
is_empty_one message count = eqb (length message) 0 && eqb count 1

-- Rule M3: equal version, type and id.
abbrev pub is_alike_lem : Proposed → Proposed → Bool
is_alike_lem f g = eqb f.version g.version && eqb f.message_type g.message_type && eqb f.id g.id

-- Rule M3: what is asked of the i-th of `count` fragments, from 0, line by line. Its number is i. Only the final one is
-- marked last. It is like the first one. Its payload lies inside the lent payloads, is not too long, and is a run of
-- one or more whole TLVs.
unfoldable pub is_fragment : (message payloads : List ℕ) (count : ℕ) (first : Proposed) (i : ℕ) (f : Proposed) → Bool
is_fragment message payloads count first i f =
    eqb f.number i
    && beq f.last (eqb (i + 1) count)
    && is_alike_lem f first
    && leb (f.start + f.length) (length payloads)
    && leb f.length longest_payload
    && (is_tlvs_lem (payload_in payloads f) || is_empty_one message count)

-- each of these passes a test, with its number from i on
abbrev pub each_from : {A : Type 0} → (ℕ → A → Bool) → ℕ → List A → Bool
each_from test i [] = true
each_from test i (a ∷ rest) = test i a && each_from test (i + 1) rest

-- what a place past the end of a list is taken to hold
abbrev pub no_fragment : Proposed
no_fragment = record { version = 0; message_type = 0; id = 0; number = 0; last = false; start = 0; length = 0 }

-- Rule M3: the fragments are a cutting of the message. There are one to nine, each is as asked, and their payloads,
-- joined, are the message.
unfoldable pub is_cutting_lem : (message payloads : List ℕ) → List Proposed → Bool
is_cutting_lem message payloads fs =
    leb 1 (length fs)
    && leb (length fs) most_fragments
    && each_from (is_fragment message payloads (length fs) (get_or fs 0 no_fragment)) 0 fs
    && is_same_lem (flatten (map (payload_in payloads) fs)) message

-- Rule M4: the message's own refusals come first, whatever the fragments are. Then the answer is whether they are a
-- cutting of it.
unfoldable pub check_of : (message : List ℕ) → List Proposed → (payloads : List ℕ) → Answer Bool
check_of message fs payloads = mapped (λ tlvs. is_cutting_lem message payloads fs) (tlvs_of message)
