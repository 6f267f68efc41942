-- What the checker's private steps promise each other. No contract of a public call cites these.
use Rattle.std.specs.Prelude.{Bool, false, cond, Option, Some, None, unwrap_or, option_and_then, ◌&&◌, ◌||◌, List, [], ◌∷◌, ℕ, ◌+◌, eqb, leb, length, take, drop}
use Rattle.std.specs.Bool.{beq}
use Rattle.numbers.specs.Numbers.{Answer, mapped}
use Rattle.numbers.specs.Bytes.{is_same_lem}
use Rattle.cutting.specs.Cuts.{tlvs_of, longest_payload, most_fragments, payload_in, is_tlvs_lem, is_empty_one, is_alike_lem}
use Rattle.cutting.specs.declared.Proposed.{Proposed}
use Rattle.cutting.specs.declared.following.Reached.{Reached}

-- what is said of a message alone (rule M1): it is whole TLVs, or it is refused
abbrev pub alone : (message : List ℕ) → Answer (Unit {0})
alone message = mapped (λ tlvs. tt {0}) (tlvs_of message)

-- the message goes on with these bytes at the offset `at`
unfoldable pub goes_on_lem : (message : List ℕ) (at : ℕ) (part : List ℕ) → Bool
goes_on_lem message at part = leb (at + length part) (length message) && is_same_lem part (take (length part) (drop at message))

-- the first fragment, once the fragment f has come
abbrev pub first_by_lem : Reached → Proposed → Proposed
first_by_lem s f = unwrap_or s.first f

-- f has the next number, the right mark, and the fields of the first one
unfoldable pub is_headed_lem : Reached → (first f : Proposed) → Bool
is_headed_lem s first f = eqb f.number s.number && beq f.last (eqb (s.number + 1) s.count) && is_alike_lem f first

-- its payload is as asked, and the message goes on with it
unfoldable pub is_carried_lem : (message payloads : List ℕ) → Reached → Proposed → Bool
is_carried_lem message payloads s f =
    leb (f.start + f.length) (length payloads)
    && leb f.length longest_payload
    && (is_tlvs_lem (payload_in payloads f) || is_empty_one message s.count)
    && goes_on_lem message s.at (payload_in payloads f)

-- before the first of `count` fragments, where a message can have so many
abbrev pub before : (count : ℕ) → Option Reached
before count =
    cond (leb 1 count && leb count most_fragments) (Some (record { count = count; number = 0; at = 0; first = None })) None

-- past a fragment that is as asked
abbrev pub past_fragment : Reached → Proposed → Reached
past_fragment s f = record { count = s.count; number = f.number + 1; at = s.at + f.length; first = Some (first_by_lem s f) }

-- one fragment more, where it is as asked
unfoldable pub taken_by : (message payloads : List ℕ) → Reached → Proposed → Option Reached
taken_by message payloads s f =
    cond (is_headed_lem s (first_by_lem s f) f && is_carried_lem message payloads s f) (Some (past_fragment s f)) None

-- all fragments from here on
unfoldable pub followed_from : (message payloads : List ℕ) → Reached → List Proposed → Option Reached
followed_from message payloads s [] = Some s
followed_from message payloads s (f ∷ fs) =
    option_and_then (λ t. followed_from message payloads t fs) (taken_by message payloads s f)

-- all of them
abbrev pub all_followed : (message payloads : List ℕ) → List Proposed → Option Reached
all_followed message payloads fs = option_and_then (λ s. followed_from message payloads s fs) (before (length fs))

-- they end where a message of this size does
abbrev pub is_whole : (size : ℕ) → Option Reached → Bool
is_whole size None = false
is_whole size (Some s) = eqb s.at size
