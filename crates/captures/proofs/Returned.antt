-- What is handed back of a file that has the form: exactly its 1905 frames, as they are stored.
use mathlib.Core.Path.{◌≡◌, refl, sym, ap, ◌∙◌}
use mathlib.Core.Bool.{Bool, true, false, not}
use mathlib.Core.List.{List, [], ◌∷◌, ◌++◌, map, flatten, append_assoc}
use Prim.Native.Nat.{ℕ, ◌+◌, ◌-◌}
use native.Mathlib.Omega.{arith}
use lib.ListN.{length, drop}
use borrow.Author.Tests.{le-leb}
use Rattle.framing.specs.Cmdu.{header_in}
use Rattle.machines.specs.Machine.{those}
use Rattle.records.specs.Values.{address_at_lem}
use Rattle.captures.specs.declared.Frame.{Frame}
use Rattle.captures.specs.Form.{Unread, Stored, record_bytes_lem, file_header_lem, file_bytes, is1905}
use Rattle.captures.specs.Reading.{frames_in, others_in_lem, frame_payload}
use Rattle.captures.specs.HandedBack.{Seen, seen_of, seen_in}
use Rattle.captures.specs.Claims.{Each, Storable, HandsBack}
use Rattle.captures.proofs.Frames.{long}
use Rattle.captures.proofs.Forms.{payload_there, size, and_this, records_from, capture_of, header_long, form_is}

-- a 1905 frame that stands in a file, after `at` bytes, is handed back as it is stored
module _ (o : Bool) (before rest : List ℕ) (at : ℕ) (l : length before ≡ at) (r : Stored) (fits : Storable r) (is : is1905 r.frame ≡ true) where
  abbrev s : List ℕ
  s = before ++ (record_bytes_lem o r ++ rest)

  abbrev handed : Frame
  handed = record { seconds = r.seconds; microseconds = r.microseconds; sender = address_at_lem r.frame 6; cmdu = header_in (drop 14 r.frame); offset = at + 38; length = length r.frame - 22 }

  handed_so : seen_in s handed ≡ seen_of r
  handed_so =
      let h = long r.frame is in
      let inside = le-leb (at + 38 + (length r.frame - 22)) (length s) (omega (arith, size o before rest at l r fits)) in
      let part : frame_payload s handed ≡ drop 22 r.frame = rw inside (payload_there o before rest at l r fits h) in
      ap (λ (p : List ℕ). record { seconds = r.seconds; microseconds = r.microseconds; sender = address_at_lem r.frame 6; cmdu = header_in (drop 14 r.frame); payload = p }) part

-- the test of a record
abbrev pub of_ours : Stored → Bool
of_ours r = is1905 r.frame

abbrev pub of_other : Stored → Bool
of_other r = not (is1905 r.frame)

module _ (o : Bool) (s : List ℕ) where
  ours_back : (rs : List Stored) (before : List ℕ) (at : ℕ) → length before ≡ at → s ≡ before ++ flatten (map (record_bytes_lem o) rs) → Each Storable rs → map (seen_in s) (frames_in (records_from at rs)) ≡ map seen_of (those of_ours rs)
  unfolding flatten those
  ours_back [] before at l e fits = refl
  ours_back (r ∷ rs) before at l e fits =
      by_test (is1905 r.frame) refl (ours_back rs (before ++ record_bytes_lem o r) (at + 16 + length r.frame) (and_this o before at l r fits.0) (e ∙ sym (append_assoc before (record_bytes_lem o r) (flatten (map (record_bytes_lem o) rs)))) fits.1)
    where
      by_test : (b : Bool) → is1905 r.frame ≡ b → map (seen_in s) (frames_in (records_from (at + 16 + length r.frame) rs)) ≡ map seen_of (those of_ours rs) → map (seen_in s) (frames_in (records_from at (r ∷ rs))) ≡ map seen_of (those of_ours (r ∷ rs))
      by_test true is on =
          let rest = flatten (map (record_bytes_lem o) rs) in
          let this : seen_in s (handed o before rest at l r fits.0 is) ≡ seen_of r = ap (λ (t : List ℕ). seen_in t (handed o before rest at l r fits.0 is)) e ∙ handed_so o before rest at l r fits.0 is in
          rw is (ap (λ (x : Seen). x ∷ map (seen_in s) (frames_in (records_from (at + 16 + length r.frame) rs))) this ∙ ap (λ (xs : List Seen). seen_of r ∷ xs) on)
      by_test false is on = rw is on

others_back : (rs : List Stored) (at : ℕ) → others_in_lem (records_from at rs) ≡ length (those of_other rs)
unfolding those
others_back [] at = refl
others_back (r ∷ rs) at = by_test (is1905 r.frame) refl (others_back rs (at + 16 + length r.frame))
  where
    by_test : (b : Bool) → is1905 r.frame ≡ b → others_in_lem (records_from (at + 16 + length r.frame) rs) ≡ length (those of_other rs) → others_in_lem (records_from at (r ∷ rs)) ≡ length (those of_other (r ∷ rs))
    by_test true is on = rw is on
    by_test false is on = rw is (omega arith)

pub of_form : (o : Bool) (u : Unread) (rs : List Stored) → Each Storable rs → HandsBack (file_bytes o u rs) rs
of_form o u rs fits = record {
  capture = capture_of rs;
  accepted = form_is o u rs fits;
  the_ours = ours_back o (file_bytes o u rs) rs (file_header_lem o u) 24 (header_long o u) refl fits;
  the_others = others_back rs 24;
}
