-- Writing from the bytes of a value (rules O2 and O3). They are read first, with the refusals of reading; 8 and 7 come
-- last. 9 is given for a record alone.
use Rattle.std.specs.Prelude.{List, [], ℕ, take}
use Rattle.numbers.specs.Numbers.{Answer, gives, refuses, and_then}
use Rattle.framing.specs.Tlv.{write_size, tlv_bytes}
use Rattle.records.specs.declared.Record.{Record}
use Rattle.kinds.specs.declared.Typed.{Typed}
use Rattle.kinds.specs.Kinds.{read_kind_lem}

-- Rules O2 and O3: the number of bytes written, or the refusal.
unfoldable pub write_kind_lem : ℕ → List ℕ → ℕ → Answer ℕ
write_kind_lem code s room = and_then (read_kind_lem code s) (λ t. write_size t.consumed room)

-- Rule O2: the TLV whose value is the bytes consumed, without the rest.
abbrev pub tlv_for : ℕ → List ℕ → Answer (Typed Record) → List ℕ
tlv_for code s (gives t) = tlv_bytes code (take t.consumed s)
tlv_for code s (refuses n vs) = []

unfoldable pub kind_bytes : ℕ → List ℕ → List ℕ
kind_bytes code s = tlv_for code s (read_kind_lem code s)
