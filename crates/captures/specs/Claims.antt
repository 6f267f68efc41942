-- What is claimed of this crate's calls; proofs/Claims.antt proves it.
use Rattle.std.specs.Prelude.{◌≡◌, Bool, true, false, not, List, [], ◌∷◌, map, ℕ, ◌<◌, ◌≤◌, length, Result}
use Rattle.std.specs.Borrow.{Bor}
use Rattle.numbers.specs.Numbers.{gives, refuses, answered}
use Rattle.numbers.specs.declared.Refusal.{Refusal}
use Rattle.numbers.specs.Bytes.{AllBytes}
use Rattle.numbers.specs.Parts.{behind}
use Rattle.numbers.specs.Firmness.{Firm}
use Rattle.framing.specs.Tlv.{leaves}
use Rattle.walking.specs.Steps.{passed}
use Rattle.machines.specs.Machine.{those}
use Rattle.table.specs.Rows.{place_size}
use Rattle.pushing.specs.declared.Arrival.{Arrival}
use Rattle.captures.specs.declared.Frame.{Frame}
use Rattle.captures.specs.declared.FrameCount.{FrameCount}
use Rattle.captures.specs.Form.{Unread, Stored, file_bytes, seconds_in, microseconds_in, milliseconds_of, is1905}
use Rattle.captures.specs.Writing.{our_header, file_header_size, frame_record, frame_size}
use Rattle.captures.specs.Reading.{no_frame_lem, Captured, file_step, reached_of, Capture, capture_in, frames_counted, with_room_lem, frames_left, frame_payload, payload_from, arrival_of_lem}
use Rattle.captures.specs.HandedBack.{seen_of, seen_in, Arrived, file_of, arrived_in}

-- Rule A4, for each public call by its name: any two outcomes that its contract allows are one.
pub record Firmness : Type 0 where
  -- the answer, and what the room holds
  pub write_file_header : (out : List ℕ)
      → Firm {A = Result ℕ Refusal × List ℕ} (λ o. (answered o.0 ≡ file_header_size (length out)) × (o.1 ≡ leaves (file_header_size (length out)) our_header out))
  pub write_frame : (a : Arrival) (payload out : List ℕ)
      → Firm {A = Result ℕ Refusal × List ℕ} (λ o. (answered o.0 ≡ frame_size a.time (length payload) (length out)) × (o.1 ≡ leaves (frame_size a.time (length payload) (length out)) (frame_record a payload) out))
  pub no_frame : Firm (λ r. r ≡ no_frame_lem)
  pub step : (file : List ℕ) (at : ℕ) → Firm (λ r. reached_of r ≡ file_step file at)
  pub check : (file : List ℕ) → Firm (λ r. answered r ≡ frames_counted (capture_in file))
  -- the answer, and what the list holds
  pub frames_into : (list : List Frame) (file : List ℕ)
      → Firm {A = Result FrameCount Refusal × List Frame} (λ o. (answered o.0 ≡ frames_counted (with_room_lem (length list) (capture_in file))) × (o.1 ≡ frames_left (with_room_lem (length list) (capture_in file)) list))
  -- the part's bytes, and where it lies
  pub payload : (file : Bor (List ℕ)) (frame : Frame)
      → Firm {A = List ℕ × (ℕ × ℕ)} (λ o. (o.0 ≡ frame_payload file.now frame) × (o.1 ≡ behind (payload_from file.now frame) file))
  pub arrival_of : (frame : Frame) → Firm {A = Arrival} (λ r. r ≡ arrival_of_lem frame)

-- Rule G3: milliseconds are stored without loss.
abbrev pub TimeKept : Type 0
TimeKept = (time : ℕ) → milliseconds_of (seconds_in time) (microseconds_in time) ≡ time

-- each member of a list is so
abbrev pub Each : {A : Type 0} → (A → Type 0) → List A → Type 0
Each P [] = Unit
Each P (x ∷ xs) = P x × Each P xs

-- Rule G2: a record whose numbers fit their four bytes
pub record Storable (r : Stored) : Type 0 where
  pub in_seconds : r.seconds < 4294967296
  pub in_microseconds : r.microseconds < 4294967296
  pub in_length : length r.frame < 4294967296

-- Rule G10: a capture reads the same in either byte order, whatever its zone, accuracy and snap length. The frames
-- are as they are in both: the orders differ in the numbers of the file's own alone.
abbrev pub EitherByteOrder : Type 0
EitherByteOrder = (u v : Unread) (rs : List Stored) → Each Storable rs → capture_in (file_bytes true u rs) ≡ capture_in (file_bytes false v rs)

-- Rule G10: of the records of a file, exactly the 1905 frames are handed back, in their order, and the others are
-- counted.
pub record HandsBack (s : List ℕ) (rs : List Stored) : Type 0 where
  pub capture : Capture
  pub accepted : capture_in s ≡ gives capture
  pub the_ours : map (seen_in s) capture.frames ≡ map seen_of (those (λ r. is1905 r.frame) rs)
  pub the_others : capture.others ≡ length (those (λ r. not (is1905 r.frame)) rs)

-- Rules G1 and G2: a file that has the form, with these records
pub record HasForm (s : List ℕ) : Type 0 where
  pub high_first : Bool
  pub unread : Unread
  pub records : List Stored
  pub storable : Each Storable records
  pub bytes : s ≡ file_bytes high_first unread records

-- Rules G6 and G10: every file that has the form is accepted and handed back so, and no other file is accepted.
pub record FormRead : Type 0 where
  pub of_form : (highFirst : Bool) (u : Unread) (rs : List Stored) → Each Storable rs → HandsBack (file_bytes highFirst u rs) rs
  pub no_other : (s : List ℕ) → AllBytes s → (capture : Capture) → capture_in s ≡ gives capture → HasForm s

-- Rule G5: what the writer refuses neither by 12 nor by 23
pub record Writable (p : Arrived) : Type 0 where
  pub is_short : length p.payload ≤ place_size
  pub in_time : seconds_in p.arrival.time < 4294967296
  -- a key of 64 bits, and a type of 16
  pub key_fits : p.arrival.key < 18446744073709551616
  pub type_fits : p.arrival.fragment.message_type < 65536

-- Rule G10: pushes that were written come back as the same pushes, in their order, and nothing else does.
pub record PushesBack (ps : List Arrived) : Type 0 where
  pub capture : Capture
  pub accepted : capture_in (file_of ps) ≡ gives capture
  pub same : map (arrived_in (file_of ps)) capture.frames ≡ ps
  pub alone : capture.others ≡ 0

-- Rule G7: the offsets to which steps go, from the first record on
pub data Reaches (s : List ℕ) : ℕ → Type 0 where
  first_record : Reaches s 24
  next_record : {at next : ℕ} {c : Captured} → Reaches s at → file_step s at ≡ gives (passed c next) → Reaches s next

-- Rules G6 and G7: where the check refuses nothing, no step does. So no frame of a file with a fault is handed back by
-- steps that come after the check.
abbrev pub NoLateFault : Type 0
NoLateFault = (s : List ℕ) (capture : Capture) → capture_in s ≡ gives capture → (at : ℕ) → Reaches s at → (n : ℕ) (vs : List ℕ) → file_step s at ≡ refuses n vs → ⊥

-- everything that is claimed of this crate
pub record Claims : Type 0 where
  pub firmness : Firmness
  pub time_kept : TimeKept
  pub either_order : EitherByteOrder
  pub form_read : FormRead
  pub pushes_back : (ps : List Arrived) → Each Writable ps → PushesBack ps
  pub no_late_fault : NoLateFault
