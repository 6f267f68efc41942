-- The captures of the examples (part G), byte for byte.
use Rattle.std.specs.Prelude.{true, List, [], ◌∷◌, ◌++◌, ℕ}
use Rattle.pushing.specs.declared.Arrival.{Arrival}
use Rattle.captures.specs.declared.Frame.{Frame}

-- a file header with its lowest bytes first: magic, version, zone, accuracy, snap length, link type
abbrev pub low_header : List ℕ
low_header =
    (0xD4 ∷ 0xC3 ∷ 0xB2 ∷ 0xA1 ∷ 0x02 ∷ 0x00 ∷ 0x04 ∷ 0x00 ∷ [])
    ++ ((0x00 ∷ 0x00 ∷ 0x00 ∷ 0x00 ∷ 0x00 ∷ 0x00 ∷ 0x00 ∷ 0x00 ∷ [])
    ++ (0xFF ∷ 0xFF ∷ 0x00 ∷ 0x00 ∷ 0x01 ∷ 0x00 ∷ 0x00 ∷ 0x00 ∷ []))

-- the same with its highest bytes first
abbrev pub high_header : List ℕ
high_header =
    (0xA1 ∷ 0xB2 ∷ 0xC3 ∷ 0xD4 ∷ 0x00 ∷ 0x02 ∷ 0x00 ∷ 0x04 ∷ [])
    ++ ((0x00 ∷ 0x00 ∷ 0x00 ∷ 0x00 ∷ 0x00 ∷ 0x00 ∷ 0x00 ∷ 0x00 ∷ [])
    ++ (0x00 ∷ 0x00 ∷ 0xFF ∷ 0xFF ∷ 0x00 ∷ 0x00 ∷ 0x00 ∷ 0x01 ∷ []))

-- a fragment of two bytes from 0A:0B:0C:0D:0E:0F, with the message id 0x1234, at 1,001 milliseconds
abbrev pub an_arrival : Arrival
an_arrival = record { key = 0x0A0B0C0D0E0F1234; time = 1001; fragment = record { message_type = 0x0506; version = 1; number = 3; last = true } }

-- its frame: destination, source, EtherType, CMDU header, payload
abbrev pub a_frame : List ℕ
a_frame =
    (0x01 ∷ 0x80 ∷ 0xC2 ∷ 0x00 ∷ 0x00 ∷ 0x13 ∷ [])
    ++ ((0x0A ∷ 0x0B ∷ 0x0C ∷ 0x0D ∷ 0x0E ∷ 0x0F ∷ [])
    ++ ((0x89 ∷ 0x3A ∷ [])
    ++ ((0x01 ∷ 0x00 ∷ 0x05 ∷ 0x06 ∷ 0x12 ∷ 0x34 ∷ 0x03 ∷ 0x80 ∷ [])
    ++ (0xA0 ∷ 0xA1 ∷ []))))

-- the record headers before it, in both byte orders: 1 second, 1,000 microseconds, and twice the length 24
abbrev pub low_record : List ℕ
low_record =
    (0x01 ∷ 0x00 ∷ 0x00 ∷ 0x00 ∷ 0xE8 ∷ 0x03 ∷ 0x00 ∷ 0x00 ∷ [])
    ++ ((0x18 ∷ 0x00 ∷ 0x00 ∷ 0x00 ∷ 0x18 ∷ 0x00 ∷ 0x00 ∷ 0x00 ∷ [])
    ++ a_frame)

abbrev pub high_record : List ℕ
high_record =
    (0x00 ∷ 0x00 ∷ 0x00 ∷ 0x01 ∷ 0x00 ∷ 0x00 ∷ 0x03 ∷ 0xE8 ∷ [])
    ++ ((0x00 ∷ 0x00 ∷ 0x00 ∷ 0x18 ∷ 0x00 ∷ 0x00 ∷ 0x00 ∷ 0x18 ∷ [])
    ++ a_frame)

-- the frame as it is read where its record is the first of a file
abbrev pub as_read : Frame
as_read = record {
  seconds = 1;
  microseconds = 1000;
  sender = record { b0 = 0x0A; b1 = 0x0B; b2 = 0x0C; b3 = 0x0D; b4 = 0x0E; b5 = 0x0F };
  cmdu = record {
    message_version = 1;
    reserved = 0;
    message_type = 0x0506;
    message_id = 0x1234;
    fragment = 3;
    flags = 0x80;
    last_fragment = true;
  };
  offset = 62;
  length = 2;
}
