-- The CMDU header (IEEE 1905.1, clause 6.2): how it is read (rule B6) and written (rule B7).
use Rattle.std.specs.Prelude.{Bool, cond, List, [], ◌∷◌, ◌++◌, ℕ, ◌-◌, ◌/◌, ◌%◌, ltb, eqb, length, get_or}
use Rattle.numbers.specs.Numbers.{Answer, gives, refuses}
use Rattle.numbers.specs.Bytes.{number_at, in_bytes}
use Rattle.framing.specs.declared.CmduFields.{CmduFields}
use Rattle.framing.specs.declared.CmduHeader.{CmduHeader}

-- Rule B6: the fields in the first 8 bytes.
abbrev pub header_in : List ℕ → CmduHeader
header_in s = record {
  message_version = get_or s 0 0;
  reserved = get_or s 1 0;
  message_type = number_at 2 2 s;
  message_id = number_at 2 4 s;
  fragment = get_or s 6 0;
  flags = get_or s 7 0;
  last_fragment = eqb (get_or s 7 0 / 128 % 2) 1;
}

-- Rule B6: none of the fields is checked. Fewer than 8 bytes are refused by 1 with the shortfall.
unfoldable pub read_header : List ℕ → Answer CmduHeader
read_header s = cond (ltb (length s) 8) (refuses 1 ((8 - length s) ∷ [])) (gives (header_in s))

-- Rule B7: bit 7 of the flags is the last mark, and the other bits are 0.
abbrev pub flags_for_lem : Bool → ℕ
flags_for_lem last = cond last 128 0

-- Rule B7: the 8 bytes of a header with these fields. The reserved byte is 0.
abbrev pub header_bytes_lem : CmduFields → List ℕ
header_bytes_lem f =
    f.message_version ∷ 0 ∷ (in_bytes 2 f.message_type ++ (in_bytes 2 f.message_id ++ (f.fragment ∷ flags_for_lem f.last_fragment ∷ [])))

-- Rule B7: room for fewer than 8 bytes is refused by 7. Otherwise the answer is the number of bytes written.
unfoldable pub header_size : ℕ → Answer ℕ
header_size room = cond (ltb room 8) (refuses 7 []) (gives 8)
