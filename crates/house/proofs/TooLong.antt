-- What is longer than a fragment may be (rules H10 and T4): it only sweeps, and of its bytes only those before its payload
-- make a difference.
use mathlib.Core.Path.{◌≡◌, refl, sym, ap, ◌∙◌}
use mathlib.Core.Bool.{Bool, true, false, cond}
use mathlib.Core.List.{List, [], ◌++◌}
use Prim.Native.Nat.{ℕ, ◌+◌, ◌-◌, ◌<◌, ◌≤◌}
use native.Mathlib.Omega.{arith}
use lib.Dec.{eqb, ltb}
use lib.ListN.{length, take, drop, length-append, length-drop}
use lib.Seq.{length-take-le}
use borrow.Author.Tests.{le-ltb, le-leb, ltb-true, ltb-false}
use Rattle.numbers.specs.Numbers.{refuses}
use Rattle.numbers.specs.Bytes.{big_endian}
use Rattle.framing.specs.Cmdu.{header_in}
use Rattle.machines.specs.Machine.{run}
use Rattle.records.specs.Values.{address_at_lem}
use Rattle.pushing.specs.Push.{refuse, table_by, store_by, answer_by}
use Rattle.pushing.proofs.Ways.{way_11, way_12}
use Rattle.orders.specs.Runs.{finished_by}
use Rattle.stations.specs.Events.{table_from}
use Rattle.captures.specs.declared.Frame.{Frame}
use Rattle.captures.specs.Form.{Stored, ether_type, is1905}
use Rattle.captures.specs.Reading.{captured_at, frame_payload}
use Rattle.captures.specs.HandedBack.{Arrived, arrived_in}
use Rattle.house.specs.House.{House, house_of, swept_for, way_in, after_message, after_arrival}
use Rattle.house.specs.Story.{after_one}
use Rattle.house.proofs.Story.{none_in_nothing}
use Rattle.house.proofs.Windows.{in_front}

module _ (room : ℕ) (z : House) (x : Arrived) (long : 1492 < length x.payload) where
  refused_by_lem : way_in room z x ≡ refuse (cond (ltb (length z.store) 47744) 11 12) []
  refused_by_lem = by_store (ltb (length z.store) 47744) refl
    where
      by_store : (b : Bool) → ltb (length z.store) 47744 ≡ b → way_in room z x ≡ refuse (cond b 11 12) []
      by_store true e = way_11 (swept_for z x) z.store x.arrival x.payload room (ltb-true _ _ e)
      by_store false e = way_12 (swept_for z x) z.store x.arrival x.payload room (ltb-false _ _ e) long

  no_event : after_message z.stations [] ≡ z.stations
  unfolding run
  no_event = ap (run table_from z.stations) none_in_nothing

  pub only_swept : after_arrival room z x ≡ house_of (swept_for z x) z.store z.stations
  only_swept =
      (λ i. record {
        table = table_by (refused_by_lem i) (swept_for z x) x.arrival (length x.payload);
        store = store_by (refused_by_lem i) z.store x.payload;
        stations = after_message z.stations (finished_by (refused_by_lem i) x.payload);
      })
      ∙ ap (house_of (swept_for z x) z.store) no_event

  pub by_12 : 47744 ≤ length z.store → answer_by (way_in room z x) ≡ refuses 12 []
  by_12 h = ap answer_by (way_12 (swept_for z x) z.store x.arrival x.payload room h long)

-- what stands in front of a longer frame says whether it is one of 1905
type_front : (a r : List ℕ) → 22 ≤ length a → is1905 (a ++ r) ≡ is1905 a
type_front a r l = rw (le-ltb (length (a ++ r)) 22 (omega (arith, length-append a r)), le-ltb (length a) 22 l) (ap (λ (t : List ℕ). eqb (big_endian t) ether_type) (in_front a r 2 12 (omega arith)))

-- a frame of more than 1,514 bytes does what any longer one does that begins with it
module _ (room : ℕ) (z : House) (seconds microseconds : ℕ) (a r : List ℕ) (long : 1514 < length a) where
  abbrev stored : List ℕ → Stored
  stored frame = record { seconds = seconds; microseconds = microseconds; frame = frame }

  abbrev framed : ℕ → List ℕ → Frame
  framed at frame = record {
    seconds = seconds;
    microseconds = microseconds;
    sender = address_at_lem frame 6;
    cmdu = header_in (drop 14 frame);
    offset = at + 38;
    length = length frame - 22;
  }

  -- the house after a long frame
  abbrev swept_house : House
  swept_house = house_of (swept_for z (arrived_in [] (framed 0 a))) z.store z.stations

  one_long : (s : List ℕ) (at : ℕ) (frame : List ℕ) → 1514 < length frame → at + 16 + length frame ≤ length s → is1905 frame ≡ true → after_one room s z (captured_at at (stored frame)) ≡ swept_house
  one_long s at frame more inside is =
      let fits : at + 38 + (length frame - 22) ≤ length s = omega arith in
      let part : frame_payload s (framed at frame) ≡ take (length frame - 22) (drop (at + 38) s) = rw (le-leb (at + 38 + (length frame - 22)) (length s) fits) refl in
      let size : length (frame_payload s (framed at frame)) ≡ length frame - 22 = ap length part ∙ length-take-le (length frame - 22) (drop (at + 38) s) (simp length-drop (omega arith)) in
      rw is (only_swept room z (arrived_in s (framed at frame)) (omega (arith, size)))

  pub same_done : (s s' : List ℕ) (at at' : ℕ) → at + 16 + length (a ++ r) ≤ length s → at' + 16 + length a ≤ length s' → after_one room s z (captured_at at (stored (a ++ r))) ≡ after_one room s' z (captured_at at' (stored a))
  same_done s s' at at' inside inside' = by_type (is1905 a) refl
    where
      by_type : (b : Bool) → is1905 a ≡ b → after_one room s z (captured_at at (stored (a ++ r))) ≡ after_one room s' z (captured_at at' (stored a))
      by_type true t = one_long s at (a ++ r) (omega (arith, length-append a r)) inside (type_front a r (omega arith) ∙ t) ∙ sym (one_long s' at' a long inside' t)
      by_type false t = rw (type_front a r (omega arith) ∙ t, t) refl
