-- How the cutter cuts a message (rule M5): each fragment is filled as far as whole TLVs go.
use Rattle.std.specs.Prelude.{Bool, true, cond, ◌&&◌, List, [], ◌∷◌, ◌++◌, map, ℕ, ◌+◌, leb, ltb, length, drop}
use Rattle.numbers.specs.Numbers.{Answer, gives, refuses, and_then}
use Rattle.cutting.specs.Cuts.{tlvs_of, longest_payload, most_fragments}

-- Rule M5: where the fragments end, over TLVs of these lengths. The open fragment holds `used` bytes so far, and ends
-- at the offset `at`. A TLV that it has no room for begins the next one.
unfoldable pub ends_from : (used at : ℕ) → List ℕ → List ℕ
ends_from used at [] = at ∷ []
ends_from used at (x ∷ xs) =
    cond (leb (used + x) longest_payload) (ends_from (used + x) (at + x) xs) (at ∷ ends_from x (at + x) xs)

-- no TLV is longer than the longest payload
abbrev pub all_fit : List ℕ → Bool
all_fit [] = true
all_fit (x ∷ xs) = leb x longest_payload && all_fit xs

-- Rule M5: the ends over TLVs of these lengths, from the start of a message. A TLV that no fragment holds, or more than
-- nine fragments: 21.
unfoldable pub ends_over : List ℕ → Answer (List ℕ)
ends_over sizes =
    cond (all_fit sizes && leb (length (ends_from 0 0 sizes)) most_fragments) (gives (ends_from 0 0 sizes)) (refuses 21 [])

-- Rule M5: the ends for a message. Its own refusals come first, then 21.
unfoldable pub ends_of_lem : (message : List ℕ) → Answer (List ℕ)
ends_of_lem message = and_then (tlvs_of message) (λ tlvs. ends_over (map length tlvs))

-- Rule M5: the same for a list of `room` places. Fewer places than fragments: 7.
unfoldable pub cut_into : (message : List ℕ) (room : ℕ) → Answer (List ℕ)
cut_into message room = and_then (ends_of_lem message) (λ ends. cond (ltb room (length ends)) (refuses 7 []) (gives ends))

-- Rules M5 and A3: what the lent list then holds. Further elements keep what they held. On a refusal all do.
abbrev pub with_ends : Answer (List ℕ) → List ℕ → List ℕ
with_ends (gives ends) list = ends ++ drop (length ends) list
with_ends (refuses n vs) list = list
