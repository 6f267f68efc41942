-- Pushes that were written come back as the same pushes.
use mathlib.Core.Path.{◌≡◌, refl, sym, ap, ◌∙◌}
use mathlib.Core.Bool.{true, false}
use mathlib.Core.List.{List, [], ◌∷◌, ◌++◌, map, map-map, flatten}
use Prim.Native.Nat.{ℕ}
use native.Mathlib.Omega.{arith}
use lib.ListN.{length}
use borrow.Author.Tests.{le-ltb}
use Rattle.numbers.proofs.Answers.{given}
use Rattle.framing.specs.declared.CmduHeader.{CmduHeader}
use Rattle.framing.specs.Cmdu.{header_in, header_bytes_lem}
use Rattle.framing.specs.Claims.{as_written_lem}
use Rattle.framing.proofs.Heading.{whole, header_back}
use Rattle.keys.specs.Keys.{key_of, sender_of_lem, sender_bytes}
use Rattle.keys.proofs.Claims as keys
use Rattle.machines.specs.Machine.{those}
use Rattle.records.specs.Values.{octets}
use Rattle.captures.specs.Form.{Unread, Stored, record_bytes_lem, file_header_lem, file_bytes, seconds_in, microseconds_in, milliseconds_of, is1905}
use Rattle.captures.specs.Writing.{fields_of, stored_of}
use Rattle.captures.specs.Reading.{capture_in}
use Rattle.captures.specs.HandedBack.{Seen, seen_of, seen_in, Arrived, file_of, arrived_in}
use Rattle.captures.specs.Claims.{TimeKept, Each, Storable, HandsBack, Writable, PushesBack}
use Rattle.captures.proofs.Returned.{of_ours, of_other, of_form}

pub time_kept : TimeKept
time_kept time = omega arith

-- what a push is, by what was seen of it
abbrev arrived_by : Seen → Arrived
arrived_by x = record {
  arrival = record {
    key = key_of (octets x.sender) x.cmdu.message_id;
    time = milliseconds_of x.seconds x.microseconds;
    fragment = record { message_type = x.cmdu.message_type; version = x.cmdu.message_version; number = x.cmdu.fragment; last = x.cmdu.last_fragment };
  };
  payload = x.payload;
}

-- the record of a push
abbrev stored_for : Arrived → Stored
stored_for p = stored_of p.arrival p.payload

module _ (p : Arrived) (w : Writable p) where
  pub storable : Storable (stored_for p)
  storable = record { in_seconds = w.in_time; in_microseconds = omega arith; in_length = omega (arith, w.is_short) }

  pub its_type : is1905 (stored_for p).frame ≡ true
  its_type = rw (le-ltb (length (stored_for p).frame) 22 (omega arith))

  -- its CMDU header as it is read
  its_header : header_in (header_bytes_lem (fields_of p.arrival) ++ p.payload) ≡ as_written_lem (fields_of p.arrival)
  its_header =
      let s = header_bytes_lem (fields_of p.arrival) ++ p.payload in
      given _ _ (whole s _ _ (omega arith) refl refl ∙ sym (header_back (fields_of p.arrival) p.payload (record { two_of_type = w.type_fits; two_of_id = omega arith })))

  -- a push with this header, key and time
  abbrev made : CmduHeader → ℕ → ℕ → Arrived
  made h key time = record {
    arrival = record { key = key; time = time; fragment = record { message_type = h.message_type; version = h.message_version; number = h.fragment; last = h.last_fragment } };
    payload = p.payload;
  }

  pub same_push : arrived_by (seen_of (stored_for p)) ≡ p
  same_push =
      let a = p.arrival in
      let time = milliseconds_of (seconds_in a.time) (microseconds_in a.time) in
      let h = as_written_lem (fields_of a) in
      ap (λ (x : CmduHeader). made x (key_of (sender_bytes (sender_of_lem a.key)) x.message_id) time) its_header
      ∙ ap (λ (key : ℕ). made h key time) ((keys.claims).key_remade a.key (omega (arith, w.key_fits)))
      ∙ ap (λ (t : ℕ). made h a.key t) (time_kept a.time)

-- all of them
all_storable : (ps : List Arrived) → Each Writable ps → Each Storable (map stored_for ps)
all_storable [] w = tt
all_storable (p ∷ ps) w = (storable p w.0, all_storable ps w.1)

all_ours : (ps : List Arrived) → Each Writable ps → map (λ (r : Stored). arrived_by (seen_of r)) (those of_ours (map stored_for ps)) ≡ ps
unfolding those
all_ours [] w = refl
all_ours (p ∷ ps) w = rw (its_type p w.0) (ap (λ (x : Arrived). x ∷ map (λ (r : Stored). arrived_by (seen_of r)) (those of_ours (map stored_for ps))) (same_push p w.0) ∙ ap (λ (xs : List Arrived). p ∷ xs) (all_ours ps w.1))

no_other : (ps : List Arrived) → Each Writable ps → length (those of_other (map stored_for ps)) ≡ 0
unfolding those
no_other [] w = refl
no_other (p ∷ ps) w = rw (its_type p w.0) (no_other ps w.1)

pub pushes_back : (ps : List Arrived) → Each Writable ps → PushesBack ps
pushes_back ps w = record { capture = b.capture; accepted = ap capture_in same_file ∙ b.accepted; same = same; alone = b.the_others ∙ no_other ps w }
  where
    u : Unread
    u = record { zone = 0; accuracy = 0; snap = 65535 }

    b : HandsBack (file_bytes false u (map stored_for ps)) (map stored_for ps)
    b = of_form false u (map stored_for ps) (all_storable ps w)

    same_file : file_of ps ≡ file_bytes false u (map stored_for ps)
    same_file = ap (λ (bs : List (List ℕ)). file_header_lem false u ++ flatten bs) (sym (map-map (record_bytes_lem false) stored_for ps))

    same : map (arrived_in (file_of ps)) b.capture.frames ≡ ps
    same =
        ap (λ (s : List ℕ). map (arrived_in s) b.capture.frames) same_file
        ∙ sym (map-map arrived_by (seen_in (file_bytes false u (map stored_for ps))) b.capture.frames)
        ∙ ap (map arrived_by) b.the_ours
        ∙ map-map arrived_by seen_of (those of_ours (map stored_for ps))
        ∙ all_ours ps w
