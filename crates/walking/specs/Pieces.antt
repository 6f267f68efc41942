-- The TLVs of a payload as pieces of its bytes.
use Rattle.std.specs.Prelude.{List, map, ℕ, ◌+◌, take, drop}
use Rattle.walking.specs.declared.Tlv.{Tlv}
use Rattle.walking.specs.Walk.{walk_of}

-- the bytes of a TLV of the payload: its first three bytes and its value (rule B2)
abbrev pub tlv_in : List ℕ → Tlv → List ℕ
tlv_in p t = take (3 + t.length) (drop t.offset p)

-- one for each TLV that a walk goes over
abbrev pub pieces : List ℕ → List (List ℕ)
pieces p = map (tlv_in p) (walk_of p).items
