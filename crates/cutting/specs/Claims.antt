-- What is claimed of this crate's calls; proofs/Claims.antt proves it.
use Rattle.std.specs.Prelude.{◌≡◌, true, ℕ, ◌+◌, ◌-◌, ◌≤◌, eqb, length, Result}
use mathlib.Core.List.{List, [], ◌∷◌, map, flatten}
use Rattle.numbers.specs.Numbers.{gives, refuses, mapped}
use Rattle.numbers.specs.Firmness.{Firm}
use Rattle.walking.specs.Pieces.{pieces}
use Rattle.cutting.specs.Cuts.{tlvs_of, payload_in, check_of}
use Rattle.walking.specs.Walk.{payload_answered}
use Rattle.cutting.specs.Greedy.{cut_into, with_ends}
use Rattle.cutting.specs.declared.Proposed.{Proposed}
use Rattle.walking.specs.declared.PayloadError.{PayloadError}

-- Rule A4, for each public call by its name: any two outcomes that its contract allows are one.
pub record Firmness : Type 0 where
  pub check : (message : List ℕ) (fragments : List Proposed) (payloads : List ℕ)
      → Firm (λ r. payload_answered r ≡ check_of message fragments payloads)
  -- the answer, and what the list holds
  pub cut : (message list : List ℕ)
      → Firm {A = Result ℕ PayloadError × List ℕ} (λ o. (payload_answered o.0 ≡ mapped length (cut_into message (length list))) × (o.1 ≡ with_ends (cut_into message (length list)) list))

-- Rule M5: how ends become fragments, from this number and this offset on. Each begins where the one before it ends,
-- and only the final one is marked last. Their payloads are parts of the message itself.
abbrev pub fragments_from : (version message_type id number start : ℕ) → List ℕ → List Proposed
fragments_from version message_type id number start [] = []
fragments_from version message_type id number start (end ∷ ends) =
    record {
      version = version;
      message_type = message_type;
      id = id;
      number = number;
      last = eqb (length ends) 0;
      start = start;
      length = end - start;
    }
    ∷ fragments_from version message_type id (number + 1) end ends

-- Rule M6: the cutter always passes. Its fragments, under any version, type and id, are accepted.
abbrev pub AlwaysPasses : Type 0
AlwaysPasses = (message : List ℕ) (room : ℕ) (ends : List ℕ) → cut_into message room ≡ gives ends
    → (version message_type id : ℕ)
    → check_of message (fragments_from version message_type id 0 0 ends) message ≡ gives true

-- Rule M6: for a message that is not refused by itself, 21 is given exactly where no fragments whatever are accepted.
pub record NoneExactly (message : List ℕ) (room : ℕ) : Type 0 where
  pub none_accepted : cut_into message room ≡ refuses 21 [] → (payloads : List ℕ) (fragments : List Proposed)
      → check_of message fragments payloads ≡ gives true → ⊥
  pub only_then :
      ((payloads : List ℕ) (fragments : List Proposed) → check_of message fragments payloads ≡ gives true → ⊥)
      → cut_into message room ≡ refuses 21 []

-- Rule M6: no fragments that are accepted are fewer than the cutter's.
abbrev pub Fewest : Type 0
Fewest = (message : List ℕ) (room : ℕ) (ends : List ℕ) → cut_into message room ≡ gives ends
    → (payloads : List ℕ) (fragments : List Proposed) → check_of message fragments payloads ≡ gives true
    → length ends ≤ length fragments

-- Rule M3: fragments that are accepted cut no TLV. The message's TLVs are those of the payloads, one after the other.
abbrev pub NoneCut : Type 0
NoneCut = (message payloads : List ℕ) (fragments : List Proposed) → check_of message fragments payloads ≡ gives true
    → pieces message ≡ flatten (map (λ f. pieces (payload_in payloads f)) fragments)

-- everything that is claimed of this crate
pub record Claims : Type 0 where
  pub firmness : Firmness
  pub always_passes : AlwaysPasses
  pub none_exactly : (message : List ℕ) (tlvs : List (List ℕ)) → tlvs_of message ≡ gives tlvs → (room : ℕ)
      → NoneExactly message room
  pub fewest : Fewest
  pub none_cut : NoneCut
