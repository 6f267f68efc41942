-- The classic pcap file form, by its public description (rules G1 to G4).
use Rattle.std.specs.Prelude.{Bool, false, cond, ℕ, ◌+◌, ◌*◌, ◌/◌, ◌%◌, eqb, ltb, length, take, drop}
use mathlib.Core.List.{List, ◌++◌, reverse, map, flatten}
use Rattle.numbers.specs.Bytes.{big_endian, number_at, in_bytes}

-- Rule G1: the numbers of the file's own stand all with their highest byte first, or all with their lowest byte first.
-- Such a number in the w bytes of s from p on:
abbrev pub field_at : Bool → ℕ → ℕ → List ℕ → ℕ
field_at highFirst w p s = big_endian (cond highFirst (take w (drop p s)) (reverse (take w (drop p s))))

-- and the w bytes that say n
abbrev pub field_bytes : Bool → ℕ → ℕ → List ℕ
field_bytes highFirst w n = cond highFirst (in_bytes w n) (reverse (in_bytes w n))

-- Rule G1: the magic number a1b2c3d4, and the version's two numbers, 2 and 4; link type 1 is Ethernet.
abbrev pub magic : ℕ
magic = 2712847316

abbrev pub major : ℕ
major = 2

abbrev pub minor : ℕ
minor = 4

abbrev pub link_type : ℕ
link_type = 1

-- Rule G1: what else a file header says, and no reader looks at.
pub record Unread : Type 0 where
  pub zone : ℕ
  pub accuracy : ℕ
  pub snap : ℕ

-- Rule G1: a file header, 24 bytes.
abbrev pub file_header_lem : Bool → Unread → List ℕ
file_header_lem highFirst u =
    field_bytes highFirst 4 magic
    ++ (field_bytes highFirst 2 major
    ++ (field_bytes highFirst 2 minor
    ++ (field_bytes highFirst 4 u.zone
    ++ (field_bytes highFirst 4 u.accuracy
    ++ (field_bytes highFirst 4 u.snap
    ++ field_bytes highFirst 4 link_type)))))

-- Rule G2: a record of a capture, when a frame was seen and all its bytes.
pub record Stored : Type 0 where
  pub seconds : ℕ
  pub microseconds : ℕ
  pub frame : List ℕ

-- Rule G2: a record header, 16 bytes. The stored length is also the original one.
abbrev pub record_header_lem : Bool → ℕ → ℕ → ℕ → List ℕ
record_header_lem highFirst seconds microseconds n =
    field_bytes highFirst 4 seconds ++ (field_bytes highFirst 4 microseconds ++ (field_bytes highFirst 4 n ++ field_bytes highFirst 4 n))

abbrev pub record_bytes_lem : Bool → Stored → List ℕ
record_bytes_lem highFirst r = record_header_lem highFirst r.seconds r.microseconds (length r.frame) ++ r.frame

-- Rules G1 and G2: a capture, its file header and its records one after the other.
abbrev pub file_bytes : Bool → Unread → List Stored → List ℕ
file_bytes highFirst u rs = file_header_lem highFirst u ++ flatten (map (record_bytes_lem highFirst) rs)

-- Rule G3: milliseconds as seconds and microseconds, and back. What is less than a millisecond is left out.
abbrev pub seconds_in : ℕ → ℕ
seconds_in milliseconds = milliseconds / 1000

abbrev pub microseconds_in : ℕ → ℕ
microseconds_in milliseconds = milliseconds % 1000 * 1000

abbrev pub milliseconds_of : ℕ → ℕ → ℕ
milliseconds_of seconds microseconds = seconds * 1000 + microseconds / 1000

-- Rule G4: the EtherType of IEEE 1905.1, 0x893A. It stands in bytes 12 and 13 of a frame, after two addresses.
abbrev pub ether_type : ℕ
ether_type = 35130

-- Rule G4: a 1905 frame has this EtherType, and 22 bytes or more: room for both headers.
abbrev pub is1905 : List ℕ → Bool
is1905 frame = cond (ltb (length frame) 22) false (eqb (number_at 2 12 frame) ether_type)
