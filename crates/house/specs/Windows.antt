-- A window of a capture (rule H10): its file header, and some of the bytes that follow it.
use Rattle.std.specs.Prelude.{◌≡◌, Bool, List, [], ◌∷◌, ◌++◌, ℕ, zero, suc, ◌+◌, ◌-◌, eqb, length, take, drop, get_or}
use Rattle.numbers.specs.Numbers.{Answer, gives, refuses}
use Rattle.walking.specs.Steps.{Ahead, ended, passed, last, walk_from}
use Rattle.captures.specs.declared.Frame.{Frame}
use Rattle.captures.specs.Form.{field_bytes}
use Rattle.captures.specs.Reading.{Captured, ours, other, file_order, record_at_lem, file_step}
use Rattle.house.specs.House.{House}
use Rattle.house.specs.Story.{after_records}

-- the records of a file from the offset `at` on, up to a fault; none where the file header is refused
abbrev pub records_by : Answer Bool → List ℕ → ℕ → List Captured
records_by (gives highFirst) s at = (walk_from (record_at_lem highFirst s) (length s) (length s) at).items
records_by (refuses n vs) s at = []

abbrev pub records_from : List ℕ → ℕ → List Captured
records_from s at = records_by (file_order s) s at

-- where these records stop: the offset of the first step from `at` on that goes over none. A file has no more records
-- than bytes.
abbrev pub stop_by : Answer (Ahead Captured) → ℕ → (ℕ → ℕ) → ℕ
stop_by (gives (passed c next)) at on = on next
stop_by (gives (last c end)) at on = at
stop_by (gives ended) at on = at
stop_by (refuses n vs) at on = at

unfoldable pub stop_within : List ℕ → ℕ → ℕ → ℕ
stop_within s zero at = at
stop_within s (suc most) at = stop_by (file_step s at) at (λ next. stop_within s most next)

abbrev pub stop_of : List ℕ → ℕ → ℕ
stop_of s at = stop_within s (length s) at

-- Rule H10: the file header and what is at hand; and the whole file, with what stands before that and after it
abbrev pub window_of : (header part : List ℕ) → List ℕ
window_of header part = header ++ part

abbrev pub file_around : (header before part later : List ℕ) → List ℕ
file_around header before part later = header ++ (before ++ (part ++ later))

-- a record that stands so many bytes further on
abbrev pub frame_onwards : ℕ → Frame → Frame
frame_onwards n f = record {
  seconds = f.seconds;
  microseconds = f.microseconds;
  sender = f.sender;
  cmdu = f.cmdu;
  offset = n + f.offset;
  length = f.length;
}

abbrev pub onwards : ℕ → Captured → Captured
onwards n (ours f) = ours (frame_onwards n f)
onwards n other = other

-- the house after the records of a file; a window is a file too
abbrev pub after_file : ℕ → House → List ℕ → House
after_file room z s = after_records room s z (records_from s 24)

-- Rule H10: the bytes of a window that its records leave
abbrev pub left_in : List ℕ → List ℕ
left_in w = drop (stop_of w 24) w

-- Rule H10: a window that a frame overruns is shortened. Both lengths in its first record header, from byte 32 on, then
-- say as many bytes as there are of the frame. The magic number's first byte shows the byte order: 0xA1 is its highest.
abbrev pub is_high_first : List ℕ → Bool
is_high_first w = eqb (get_or w 0 0) 161

unfoldable pub shortened : List ℕ → List ℕ
shortened w = take 32 w ++ (field_bytes (is_high_first w) 4 (length w - 40) ++ (field_bytes (is_high_first w) 4 (length w - 40) ++ drop 40 w))

-- Rule H10: what follows the file header, as it comes in: bytes that are read, or those of a frame past the window's end,
-- which are skipped
pub data Coming : Type 0 where
  read : List ℕ → Coming
  skip : List ℕ → Coming

abbrev pub bytes_coming : List Coming → List ℕ
bytes_coming [] = []
bytes_coming (read bytes ∷ cs) = bytes ++ bytes_coming cs
bytes_coming (skip bytes ∷ cs) = bytes ++ bytes_coming cs

-- Rule H10: the house after one window and the next. Each is the file header, what the one before left, and what is read;
-- or, where a frame overruns it, the shortened window, after which nothing is left.
abbrev pub after_windows : ℕ → (header : List ℕ) → House → (left : List ℕ) → List Coming → House
after_windows room header z left [] = z
after_windows room header z left (read bytes ∷ cs) = after_windows room header (after_file room z (window_of header (left ++ bytes))) (left_in (window_of header (left ++ bytes))) cs
after_windows room header z left (skip bytes ∷ cs) = after_windows room header (after_file room z (shortened (window_of header left))) [] cs

-- Rule H10: bytes are skipped only where the window is full and its first frame lacks just these
abbrev pub window_size : ℕ
window_size = 131072

abbrev pub SkipsLong : (header left : List ℕ) → List Coming → Type 0
SkipsLong header left [] = Unit
SkipsLong header left (read bytes ∷ cs) = SkipsLong header (left_in (window_of header (left ++ bytes))) cs
SkipsLong header left (skip bytes ∷ cs) = (length (window_of header left) ≡ window_size) × ((file_step (window_of header left) 24 ≡ refuses 2 (length bytes ∷ [])) × SkipsLong header [] cs)
