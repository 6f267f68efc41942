-- A file of the form reads as its records.
use mathlib.Core.Path.{◌≡◌, refl, sym, ap, ◌∙◌}
use mathlib.Core.Bool.{Bool, true, false, cond}
use mathlib.Core.List.{List, [], ◌∷◌, ◌++◌, map, flatten, reverse, reverse-reverse, append_assoc, append-nil}
use Prim.Native.Nat.{ℕ, zero, suc, ◌+◌, ◌-◌, ◌/◌, ◌%◌, ◌^◌, ◌<◌, ◌≤◌}
use native.Mathlib.Omega.{arith}
use lib.ListN.{length, take, drop, length-append, length-reverse, length-drop}
use lib.Seq.{take_at, drop_at, drop-drop, drop-append-le}
use Rattle.numbers.specs.Numbers.{gives}
use Rattle.numbers.specs.Bytes.{big_endian, in_bytes}
use Rattle.numbers.proofs.Bytes.{said_back}
use Rattle.walking.specs.Steps.{passed, Walk}
use Rattle.captures.specs.Form.{field_at, field_bytes, magic, Unread, file_header_lem, Stored, record_header_lem, record_bytes_lem, file_bytes}
use Rattle.captures.specs.Reading.{Captured, captured_at, file_order, record_at_lem, frames_in, others_in_lem, Capture, capture_in}
use Rattle.captures.specs.Claims.{Each, Storable}
use Rattle.captures.proofs.Heads.{high, low}
use Rattle.captures.proofs.Records.{at_end_lem, whole}
use Rattle.captures.proofs.Walks.{ahead, no_more, goes_on}
use Rattle.captures.proofs.Checking.{held}

in_width : (w n : ℕ) → length (in_bytes w n) ≡ w
in_width zero n = refl
in_width (suc w) n = length-append (in_bytes w (n / 256)) (n % 256 ∷ []) ∙ omega (arith, in_width w (n / 256))

-- so many bytes, and read where they stand they say the number
pub width : (o : Bool) (w n : ℕ) → length (field_bytes o w n) ≡ w
width true w n = in_width w n
width false w n = length-reverse (in_bytes w n) ∙ in_width w n

said : (o : Bool) (w n : ℕ) → n < 256 ^ w → big_endian (cond o (field_bytes o w n) (reverse (field_bytes o w n))) ≡ n
said true w n h = said_back w n h
said false w n h = ap big_endian (reverse-reverse (in_bytes w n)) ∙ said_back w n h

pub field_there : (o : Bool) (w n p : ℕ) (a b s : List ℕ) → n < 256 ^ w → length a ≡ p → s ≡ a ++ (field_bytes o w n ++ b) → field_at o w p s ≡ n
field_there o w n p a b s h l e =
    let there : take w (drop p s) ≡ field_bytes o w n = ap (λ (t : List ℕ). take w (drop p t)) e ∙ ap (take w) (drop_at a (field_bytes o w n ++ b) p l) ∙ take_at (field_bytes o w n) b w (width o w n) in
    ap (λ (t : List ℕ). big_endian (cond o t (reverse t))) there ∙ said o w n h

-- the file header of a file that has the form
pub headed : (o : Bool) (u : Unread) (rest : List ℕ) → gives o ≡ file_order (file_header_lem o u ++ rest)
headed true u rest = high (file_header_lem true u ++ rest) (omega arith) magic refl refl true refl
headed false u rest = low (file_header_lem false u ++ rest) (omega arith) _ refl (λ e. omega arith) magic refl refl true refl

-- a record that stands in a file, after `at` bytes
module _ (o : Bool) (before rest : List ℕ) (at : ℕ) (l : length before ≡ at) (r : Stored) (fits : Storable r) where
  abbrev n : ℕ
  n = length r.frame

  abbrev f : ℕ → List ℕ
  f = field_bytes o 4

  abbrev s : List ℕ
  s = before ++ (record_bytes_lem o r ++ rest)

  -- what stands where in it
  from_seconds : s ≡ before ++ (f r.seconds ++ (f r.microseconds ++ (f n ++ (f n ++ (r.frame ++ rest)))))
  from_seconds = simp append_assoc

  from_microseconds : s ≡ (before ++ f r.seconds) ++ (f r.microseconds ++ (f n ++ (f n ++ (r.frame ++ rest))))
  from_microseconds = simp append_assoc

  from_stored : s ≡ (before ++ (f r.seconds ++ f r.microseconds)) ++ (f n ++ (f n ++ (r.frame ++ rest)))
  from_stored = simp append_assoc

  from_original : s ≡ (before ++ (f r.seconds ++ (f r.microseconds ++ f n))) ++ (f n ++ (r.frame ++ rest))
  from_original = simp append_assoc

  from_frame : s ≡ (before ++ record_header_lem o r.seconds r.microseconds n) ++ (r.frame ++ rest)
  from_frame = simp append_assoc

  long : (k m : ℕ) (a : List ℕ) → length a ≡ k → at + k ≡ m → length (before ++ a) ≡ m
  long k m a e g = length-append before a ∙ omega arith

  two : (a b : ℕ) → length (f a ++ f b) ≡ 8
  two a b = length-append (f a) (f b) ∙ omega (arith, width o 4 a, width o 4 b)

  three : (a b c : ℕ) → length (f a ++ (f b ++ f c)) ≡ 12
  three a b c = length-append (f a) (f b ++ f c) ∙ omega (arith, width o 4 a, two b c)

  four : (a b c d : ℕ) → length (f a ++ (f b ++ (f c ++ f d))) ≡ 16
  four a b c d = length-append (f a) (f b ++ (f c ++ f d)) ∙ omega (arith, width o 4 a, three b c d)

  frame_on : drop (at + 16) s ≡ r.frame ++ rest
  frame_on = ap (drop (at + 16)) from_frame ∙ drop_at (before ++ record_header_lem o r.seconds r.microseconds n) (r.frame ++ rest) (at + 16) (long 16 (at + 16) _ (four _ _ _ _) refl)

  frame_there : take n (drop (at + 16) s) ≡ r.frame
  frame_there = ap (take n) frame_on ∙ take_at r.frame rest n refl

  pub payload_there : 22 ≤ n → take (n - 22) (drop (at + 38) s) ≡ drop 22 r.frame
  payload_there h =
      let k : at + 38 ≡ at + 16 + 22 = omega arith in
      ap (λ (m : ℕ). take (n - 22) (drop m s)) k
      ∙ ap (take (n - 22)) (sym (drop-drop 22 (at + 16) s) ∙ ap (drop 22) frame_on ∙ drop-append-le 22 r.frame rest h)
      ∙ take_at (drop 22 r.frame) rest (n - 22) (length-drop 22 r.frame)

  pub size : length s ≡ at + 16 + n + length rest
  size = ap length from_frame ∙ length-append (before ++ record_header_lem o r.seconds r.microseconds n) (r.frame ++ rest) ∙ omega (arith, long 16 (at + 16) (record_header_lem o r.seconds r.microseconds n) (four r.seconds r.microseconds n n) refl, length-append r.frame rest)

  pub stands : gives (passed (captured_at at r) (at + 16 + n)) ≡ record_at_lem o s at
  stands =
      let first = field_there o 4 r.seconds at before _ s fits.in_seconds l from_seconds in
      let second = field_there o 4 r.microseconds (at + 4) (before ++ f r.seconds) _ s fits.in_microseconds (long 4 (at + 4) _ (width o 4 r.seconds) refl) from_microseconds in
      let third = field_there o 4 n (at + 8) (before ++ (f r.seconds ++ f r.microseconds)) _ s fits.in_length (long 8 (at + 8) _ (two _ _) refl) from_stored in
      let fourth = field_there o 4 n (at + 12) (before ++ (f r.seconds ++ (f r.microseconds ++ f n))) _ s fits.in_length (long 12 (at + 12) _ (three _ _ _) refl) from_original in
      ap (λ (x : Stored). gives (passed (captured_at at x) (at + 16 + n))) (sym (is_stored first second frame_there))
      ∙ whole o s at (omega (arith, size)) (omega (arith, size)) n n (sym third) (sym fourth) refl (omega (arith, size))
    where
      is_stored : {a b : ℕ} {t : List ℕ} → a ≡ r.seconds → b ≡ r.microseconds → t ≡ r.frame → ◌≡◌ {A = Stored} (record { seconds = a; microseconds = b; frame = t }) r
      is_stored e g h = rw (e, g, h)

-- the next one stands after it
pub and_this : (o : Bool) (before : List ℕ) (at : ℕ) → length before ≡ at → (r : Stored) → Storable r → length (before ++ record_bytes_lem o r) ≡ at + 16 + length r.frame
and_this o before at l r fits = ap (λ (t : List ℕ). length (before ++ t)) (sym (append-nil (record_bytes_lem o r))) ∙ size o before [] at l r fits ∙ omega arith

-- what the records of a file come to, the first of which stands at `at`
abbrev pub records_from : ℕ → List Stored → List Captured
records_from at [] = []
records_from at (r ∷ rs) = captured_at at r ∷ records_from (at + 16 + length r.frame) rs

abbrev pub capture_of : List Stored → Capture
capture_of rs = record { frames = frames_in (records_from 24 rs); others = others_in_lem (records_from 24 rs) }

module _ (o : Bool) (s : List ℕ) where
  all_ahead : (rs : List Stored) (before : List ℕ) (at : ℕ) → length before ≡ at → s ≡ before ++ flatten (map (record_bytes_lem o) rs) → Each Storable rs → ahead o s at ≡ record { items = records_from at rs; end = gives 0 }
  unfolding flatten
  all_ahead [] before at l e fits = no_more o s at (at_end_lem o s at (omega (arith, ap length (e ∙ append-nil before))))
  all_ahead (r ∷ rs) before at l e fits =
      let rest = flatten (map (record_bytes_lem o) rs) in
      let next = at + 16 + length r.frame in
      let here = goes_on o s at (captured_at at r) next (stands o before rest at l r fits.0 ∙ ap (λ (t : List ℕ). record_at_lem o t at) (sym e)) in
      let on = all_ahead rs (before ++ record_bytes_lem o r) next (and_this o before at l r fits.0) (e ∙ sym (append_assoc before (record_bytes_lem o r) rest)) fits.1 in
      here ∙ ap (λ (w : Walk Captured). record { items = captured_at at r ∷ w.items; end = w.end }) on

pub header_long : (o : Bool) (u : Unread) → length (file_header_lem o u) ≡ 24
header_long true u = refl
header_long false u = refl

pub form_is : (o : Bool) (u : Unread) (rs : List Stored) → Each Storable rs → capture_in (file_bytes o u rs) ≡ gives (capture_of rs)
form_is o u rs fits =
    let s = file_bytes o u rs in
    let w = all_ahead o s rs (file_header_lem o u) 24 (header_long o u) refl fits in
    sym (held s o (headed o u _)) ∙ rw w
