-- Reading a capture (rules G6 to G9): the check of the whole file, the step over one record, and the list of frames.
use Rattle.std.specs.Prelude.{Bool, true, false, cond, List, [], ◌∷◌, ◌++◌, ℕ, ◌+◌, ◌-◌, eqb, leb, ltb, length, take, drop, Result}
use Rattle.numbers.specs.Numbers.{Answer, gives, refuses, answered, and_then, mapped}
use Rattle.numbers.specs.declared.Refusal.{Refusal}
use Rattle.framing.specs.Cmdu.{header_in}
use Rattle.walking.specs.Steps.{Ahead, ended, passed, Walk, walk_from}
use Rattle.keys.specs.Keys.{key_of}
use Rattle.records.specs.Values.{octets, address_at_lem}
use Rattle.pushing.specs.declared.Arrival.{Arrival}
use Rattle.captures.specs.Form.{field_at, magic, major, minor, link_type, Stored, is1905, milliseconds_of}
use Rattle.captures.specs.declared.Frame.{Frame}
use Rattle.captures.specs.declared.Reached.{Reached}
use Rattle.captures.specs.declared.FrameCount.{FrameCount}

-- Rules G1 and G6: the byte order of a file, by its magic; true is the highest byte first. Another magic: 22.
abbrev pub order_by : List ℕ → Answer Bool
order_by s =
    cond (eqb (field_at true 4 0 s) magic) (gives true)
    (cond (eqb (field_at false 4 0 s) magic) (gives false)
    (refuses 22 []))

-- Rule G6: the version is 2.4, and the link type, all 32 bits of it, is 1.
abbrev pub is_ours_lem : Bool → List ℕ → Bool
is_ours_lem highFirst s =
    cond (eqb (field_at highFirst 2 4 s) major) (cond (eqb (field_at highFirst 2 6 s) minor) (eqb (field_at highFirst 4 20 s) link_type) false) false

-- Rule G6: the file header. Fewer than 24 bytes are refused by 2 with the shortfall, another form by 22. Otherwise it
-- says the byte order.
unfoldable pub file_order : List ℕ → Answer Bool
file_order s =
    cond (ltb (length s) 24) (refuses 2 ((24 - length s) ∷ []))
    (and_then (order_by s) (λ highFirst. cond (is_ours_lem highFirst s) (gives highFirst) (refuses 22 [])))

-- what stands where there is no frame to give
abbrev pub no_frame_lem : Frame
no_frame_lem = record {
  seconds = 0;
  microseconds = 0;
  sender = record { b0 = 0; b1 = 0; b2 = 0; b3 = 0; b4 = 0; b5 = 0 };
  cmdu = record {
    message_version = 0;
    reserved = 0;
    message_type = 0;
    message_id = 0;
    fragment = 0;
    flags = 0;
    last_fragment = false;
  };
  offset = 0;
  length = 0;
}

-- Rule G7: what a step goes over, a 1905 frame or another, which is passed over.
pub data Captured : Type 0 where
  ours : Frame → Captured
  other : Captured

-- Rules G4 and G7: a record whose record header stands at the offset `at` of a file. The payload is everything
-- from byte 22 of the frame on, and its offset is one in the file.
abbrev pub captured_at : ℕ → Stored → Captured
captured_at at r =
    cond (is1905 r.frame)
    (ours (record {
      seconds = r.seconds;
      microseconds = r.microseconds;
      sender = address_at_lem r.frame 6;
      cmdu = header_in (drop 14 r.frame);
      offset = at + 38;
      length = length r.frame - 22;
    }))
    other

-- Rule G2: the record at the offset `at` of a file, with a frame of n bytes.
abbrev pub stored_at : Bool → List ℕ → ℕ → ℕ → Stored
stored_at highFirst s at n = record {
  seconds = field_at highFirst 4 at s;
  microseconds = field_at highFirst 4 (at + 4) s;
  frame = take n (drop (at + 16) s);
}

-- Rule G6, of the record at the offset `at`, with a stored and an original length: 23 where these differ, then 2 with
-- how many bytes of the frame are missing.
abbrev pub lengths_at : Bool → List ℕ → ℕ → ℕ → ℕ → Answer (Ahead Captured)
lengths_at highFirst s at stored original =
    cond (eqb stored original)
    (cond (ltb (length s - (at + 16)) stored) (refuses 2 ((stored - (length s - (at + 16))) ∷ []))
    (gives (passed (captured_at at (stored_at highFirst s at stored)) (at + 16 + stored))))
    (refuses 23 [])

-- Rules G6 and G7: the step over the record at the offset `at`. At or past the end no byte is left; fewer than 16 bytes
-- are refused by 2 with the shortfall.
unfoldable pub record_at_lem : Bool → List ℕ → ℕ → Answer (Ahead Captured)
record_at_lem highFirst s at =
    cond (leb (length s) at) (gives ended)
    (cond (ltb (length s - at) 16) (refuses 2 ((16 - (length s - at)) ∷ []))
    (lengths_at highFirst s at (field_at highFirst 4 (at + 8) s) (field_at highFirst 4 (at + 12) s)))

-- Rule G7: the step as it is called. The file header is looked at first.
abbrev pub file_step : List ℕ → ℕ → Answer (Ahead Captured)
file_step s at = and_then (file_order s) (λ highFirst. record_at_lem highFirst s at)

-- what each answer of a step says
abbrev pub found_of : Reached → Ahead Captured
found_of Reached.FileEnd = ended
found_of (Reached.Ours f next) = passed (ours f) next
found_of (Reached.Other next) = passed other next

abbrev pub reached_of : Result Reached Refusal → Answer (Ahead Captured)
reached_of r = mapped found_of (answered r)

-- Rule G6: the walk over a file's records, from the end of its file header on. A file has no more records than bytes.
abbrev pub records_in : Bool → List ℕ → Walk Captured
records_in highFirst s = walk_from (record_at_lem highFirst s) (length s) (length s) 24

-- Rules G6 and G8: the 1905 frames, in the file's order, and how many others there are.
abbrev pub frames_in : List Captured → List Frame
frames_in [] = []
frames_in (ours f ∷ cs) = f ∷ frames_in cs
frames_in (other ∷ cs) = frames_in cs

abbrev pub others_in_lem : List Captured → ℕ
others_in_lem [] = 0
others_in_lem (ours f ∷ cs) = others_in_lem cs
others_in_lem (other ∷ cs) = 1 + others_in_lem cs

pub record Capture : Type 0 where
  pub frames : List Frame
  pub others : ℕ

-- Rule G6: what a file holds. A fault anywhere in it refuses the whole file.
unfoldable pub capture_in : List ℕ → Answer Capture
capture_in s =
    and_then (file_order s) (λ highFirst. mapped (λ _. record { frames = frames_in (records_in highFirst s).items; others = others_in_lem (records_in highFirst s).items }) (records_in highFirst s).end)

-- Rule G6: what the check answers, how many frames there are and how many others are passed over.
abbrev pub frames_counted : Answer Capture → Answer FrameCount
frames_counted = mapped (λ c. record { handed = length c.frames; passed_over = c.others })

-- Rule G8: with a list of `room` elements. The check's refusals come first, then 14.
abbrev pub with_room_lem : ℕ → Answer Capture → Answer Capture
with_room_lem room a = and_then a (λ c. cond (ltb room (length c.frames)) (refuses 14 []) (gives c))

-- Rules G8 and A3: what the list then holds. Further elements keep what they held. On a refusal all do.
abbrev pub frames_left : Answer Capture → List Frame → List Frame
frames_left (gives c) list = c.frames ++ drop (length c.frames) list
frames_left (refuses n vs) list = list

-- Rules G9 and A5: a frame's payload is a part of the file. Here is that part, and where it starts. A frame of another
-- file may not lie inside this one: then it is the empty part at the file's start.
abbrev pub is_inside : List ℕ → Frame → Bool
is_inside s f = leb (f.offset + f.length) (length s)

abbrev pub frame_payload : List ℕ → Frame → List ℕ
frame_payload s f = cond (is_inside s f) (take f.length (drop f.offset s)) []

abbrev pub payload_from : List ℕ → Frame → ℕ
payload_from s f = cond (is_inside s f) f.offset 0

-- Rules G3, G9 and T2: what push takes of a frame.
abbrev pub arrival_of_lem : Frame → Arrival
arrival_of_lem f = record {
  key = key_of (octets f.sender) f.cmdu.message_id;
  time = milliseconds_of f.seconds f.microseconds;
  fragment = record {
    message_type = f.cmdu.message_type;
    version = f.cmdu.message_version;
    number = f.cmdu.fragment;
    last = f.cmdu.last_fragment;
  };
}
