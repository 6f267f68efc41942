-- A TLV (rule B2; IEEE 1905.1, clause 6.4): how it is read (rule B3) and written (rule B5).
use Rattle.std.specs.Prelude.{cond, List, [], ◌∷◌, ◌++◌, ℕ, ◌+◌, ◌-◌, ltb, length, take, drop, get_or}
use Rattle.numbers.specs.Numbers.{Answer, gives, refuses}
use Rattle.numbers.specs.Bytes.{number_at, in_bytes}
use Rattle.framing.specs.declared.TlvRead.{TlvRead}

-- Rule B2: the length that the two bytes after the type say.
abbrev pub declared : List ℕ → ℕ
declared s = number_at 2 1 s

-- Rule B3: the TLV at the start of s. 1 carries how many of the first three bytes are missing, 2 how many of the value.
unfoldable pub read_tlv_lem : List ℕ → Answer TlvRead
read_tlv_lem s =
    cond (ltb (length s) 3) (refuses 1 ((3 - length s) ∷ []))
    (cond (ltb (length s - 3) (declared s)) (refuses 2 ((declared s - (length s - 3)) ∷ []))
    (gives (record { tlv_type = get_or s 0 0; value_length = declared s; consumed = 3 + declared s })))

-- Rules B3 and A5: the value is a part of the bytes. Here is that part, and where it starts in them. Where no TLV
-- reads, it is the empty part at their start.
abbrev pub value_in_lem : Answer TlvRead → List ℕ → List ℕ
value_in_lem (gives t) s = take t.value_length (drop 3 s)
value_in_lem (refuses n vs) s = []

abbrev pub value_from : Answer TlvRead → ℕ
value_from (gives t) = 3
value_from (refuses n vs) = 0

-- Rule B2: the first three bytes of a TLV whose value has n bytes, and the whole TLV.
abbrev pub header : ℕ → ℕ → List ℕ
header t n = t ∷ in_bytes 2 n

abbrev pub tlv_bytes : ℕ → List ℕ → List ℕ
tlv_bytes t v = header t (length v) ++ v

-- Rule B5: the longest value that can be written. Its length just fits into two bytes.
abbrev pub longest_value : ℕ
longest_value = 65535

-- Rule B5: a TLV whose value has n bytes is refused by 8, then by 7. Otherwise the answer is the number of bytes
-- written.
unfoldable pub write_size : ℕ → ℕ → Answer ℕ
write_size n room = cond (ltb longest_value n) (refuses 8 []) (cond (ltb room (3 + n)) (refuses 7 []) (gives (3 + n)))

-- Rules B5 and A3: what the room holds afterwards. The bytes stand at its start, and what follows them keeps what it
-- held. On a refusal all of it does.
abbrev pub leaves : Answer ℕ → List ℕ → List ℕ → List ℕ
leaves (gives n) bytes out = bytes ++ drop (length bytes) out
leaves (refuses n vs) bytes out = out
