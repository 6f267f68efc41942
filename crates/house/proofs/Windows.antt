-- What a step finds in a window is what it finds in the file (rule H10): bytes after a whole record change nothing, and
-- bytes before it only where it stands.
use mathlib.Core.Path.{◌≡◌, refl, sym, ap, ◌∙◌}
use mathlib.Core.Bool.{Bool, true, false, cond}
use mathlib.Core.List.{List, [], ◌∷◌, ◌++◌, reverse}
use Prim.Native.Nat.{ℕ, ◌+◌, ◌-◌, ◌≤◌}
use native.Mathlib.Omega.{arith}
use lib.Dec.{leb}
use lib.ListN.{length, take, drop, length-append, length-drop}
use lib.Seq.{drop-append-add, drop-append-le, take-append-le, length-take-le}
use borrow.Author.Tests.{le-ltb, le-leb}
use Rattle.numbers.specs.Numbers.{Answer, gives, refuses, and_then}
use Rattle.numbers.specs.Bytes.{big_endian}
use Rattle.numbers.proofs.Firm.{never}
use Rattle.machines.specs.Happened.{asks_for}
use Rattle.framing.specs.Cmdu.{header_in}
use Rattle.records.specs.Values.{address_at_lem}
use Rattle.walking.specs.Steps.{ended, passed, Walk}
use Rattle.captures.specs.declared.Frame.{Frame}
use Rattle.captures.specs.Form.{field_at, Stored, is1905}
use Rattle.captures.specs.Reading.{Captured, order_by, is_ours_lem, file_order, captured_at, stored_at, record_at_lem, file_step, arrival_of_lem}
use Rattle.captures.proofs.Frames.{long}
use Rattle.captures.proofs.Records.{Passes, passes, whole}
use Rattle.captures.proofs.Walks.{ahead, no_more, goes_on, stops, in_file, Under, in_order, no_file, under}
use Rattle.house.specs.House.{brought_of}
use Rattle.house.specs.Windows.{records_by, records_from, window_of, file_around, onwards}
use Rattle.house.specs.Claims.{InWindow}

-- the records ahead of an offset, step by step
module _ (s : List ℕ) (at : ℕ) where
  by_walk : (o : Bool) (l : List Captured) → gives o ≡ file_order s → (ahead o s at).items ≡ l → records_from s at ≡ l
  by_walk o l e f = ap (λ (a : Answer Bool). records_by a s at) (sym e) ∙ f

  pub one_ahead : (c : Captured) (next : ℕ) → gives (passed c next) ≡ file_step s at → records_from s at ≡ c ∷ records_from s next
  one_ahead c next e = by_header (under s at _ e)
    where
      by_header : Under s at (gives (passed c next)) → records_from s at ≡ c ∷ records_from s next
      by_header (no_file n vs g h) = never _ _ _ h
      by_header (in_order o g h) = by_walk o _ g (ap (λ (w : Walk Captured). w.items) (goes_on o s at c next h) ∙ ap (λ (a : Answer Bool). c ∷ records_by a s next) g)

  pub none_ahead : gives ended ≡ file_step s at → records_from s at ≡ []
  none_ahead e = by_header (under s at _ e)
    where
      by_header : Under s at (gives ended) → records_from s at ≡ []
      by_header (no_file n vs g h) = never _ _ _ h
      by_header (in_order o g h) = by_walk o _ g (ap (λ (w : Walk Captured). w.items) (no_more o s at h))

  pub none_past : (n : ℕ) (vs : List ℕ) → refuses n vs ≡ file_step s at → records_from s at ≡ []
  none_past n vs e = by_header (under s at _ e)
    where
      by_header : Under s at (refuses n vs) → records_from s at ≡ []
      by_header (no_file m us g h) = ap (λ (a : Answer Bool). records_by a s at) (sym g)
      by_header (in_order o g h) = by_walk o _ g (ap (λ (w : Walk Captured). w.items) (stops o s at n vs h))

-- bytes that stand in front of others
pub in_front : (a r : List ℕ) (n q : ℕ) → q + n ≤ length a → take n (drop q (a ++ r)) ≡ take n (drop q a)
in_front a r n q l = ap (take n) (drop-append-le q a r (omega arith)) ∙ take-append-le n (drop q a) r (simp length-drop (omega arith))

-- the file header alone says the byte order
module _ (h : List ℕ) (header : length h ≡ 24) (r : List ℕ) where
  front : (n q : ℕ) → q + n ≤ 24 → take n (drop q (h ++ r)) ≡ take n (drop q h)
  front n q l = in_front h r n q (omega (arith, header))

  field_front : (o : Bool) (n q : ℕ) → q + n ≤ 24 → field_at o n q (h ++ r) ≡ field_at o n q h
  field_front o n q l = ap (λ (t : List ℕ). big_endian (cond o t (reverse t))) (front n q l)

  order_front : order_by (h ++ r) ≡ order_by h
  order_front = rw (field_front true 4 0 (omega arith), field_front false 4 0 (omega arith)) refl

  ours_front : (o : Bool) → is_ours_lem o (h ++ r) ≡ is_ours_lem o h
  ours_front o = rw (field_front o 2 4 (omega arith), field_front o 2 6 (omega arith), field_front o 4 20 (omega arith)) refl

  abbrev ordered : List ℕ → Answer Bool
  ordered t = and_then (order_by t) (λ highFirst. cond (is_ours_lem highFirst t) (gives highFirst) (refuses 22 []))

  long_enough : (t : List ℕ) → 24 ≤ length t → file_order t ≡ ordered t
  unfolding file_order
  long_enough t l = rw (le-ltb (length t) 24 l) refl

  pub head_same : file_order (h ++ r) ≡ file_order h
  head_same =
      long_enough (h ++ r) (omega (arith, length-append h r))
      ∙ (λ i. and_then (order_front i) (λ highFirst. cond (ours_front highFirst i) (gives highFirst) (refuses 22 [])))
      ∙ sym (long_enough h (omega arith))

module _ (h b p l : List ℕ) (header : length h ≡ 24) where
  abbrev w : List ℕ
  w = window_of h p

  abbrev s : List ℕ
  s = file_around h b p l

  pub long_w : length w ≡ 24 + length p
  long_w = length-append h p ∙ ap (λ (n : ℕ). n + length p) header

  pub long_s : length s ≡ 24 + (length b + (length p + length l))
  long_s = length-append h (b ++ (p ++ l)) ∙ omega (arith, header, length-append b (p ++ l), length-append p l)

  -- bytes of the window, in the file
  bytes_same : (n q : ℕ) → 24 ≤ q → q + n ≤ length w → take n (drop (length b + q) s) ≡ take n (drop q w)
  bytes_same n q up inside =
      let k = q - 24 in
      let e₁ : length b + q ≡ length h + (length b + k) = omega (arith, header) in
      let e₂ : q ≡ length h + k = omega (arith, header) in
      ap (λ (m : ℕ). take n (drop m s)) e₁
      ∙ ap (take n) (drop-append-add h (b ++ (p ++ l)) (length b + k))
      ∙ ap (take n) (drop-append-add b (p ++ l) k)
      ∙ ap (take n) (drop-append-le k p l (omega (arith, long_w)))
      ∙ take-append-le n (drop k p) l (simp length-drop (omega (arith, long_w)))
      ∙ sym (ap (take n) (drop-append-add h p k))
      ∙ sym (ap (λ (m : ℕ). take n (drop m w)) e₂)

  pub field_same : (o : Bool) (n q q' : ℕ) → q' ≡ length b + q → 24 ≤ q → q + n ≤ length w → field_at o n q' s ≡ field_at o n q w
  field_same o n q q' e up inside = ap (λ (m : ℕ). field_at o n m s) e ∙ ap (λ (t : List ℕ). big_endian (cond o t (reverse t))) (bytes_same n q up inside)

  payload_same : (q n : ℕ) → 24 ≤ q → q + n ≤ length w → cond (leb (length b + q + n) (length s)) (take n (drop (length b + q) s)) [] ≡ cond (leb (q + n) (length w)) (take n (drop q w)) []
  payload_same q n up inside = rw (le-leb (length b + q + n) (length s) (omega (arith, long_s, long_w)), le-leb (q + n) (length w) inside) (bytes_same n q up inside)

  module _ (at : ℕ) (up : 24 ≤ at) where
    -- the frame of a record, as a step gives it
    abbrev our_frame : Stored → Frame
    our_frame r = record {
      seconds = r.seconds;
      microseconds = r.microseconds;
      sender = address_at_lem r.frame 6;
      cmdu = header_in (drop 14 r.frame);
      offset = at + 38;
      length = length r.frame - 22;
    }

    -- a record that lies in the window is the file's, so many bytes further on
    stored_same : (o : Bool) (n : ℕ) → at + 16 + n ≤ length w → stored_at o s (length b + at) n ≡ stored_at o w at n
    stored_same o n inside =
        let seconds = field_same o 4 at (length b + at) refl up (omega arith) in
        let microseconds = field_same o 4 (at + 4) (length b + at + 4) (omega arith) (omega arith) (omega arith) in
        let e : length b + at + 16 ≡ length b + (at + 16) = omega arith in
        let frame : take n (drop (length b + at + 16) s) ≡ take n (drop (at + 16) w) = ap (λ (m : ℕ). take n (drop m s)) e ∙ bytes_same n (at + 16) (omega arith) inside in
        λ i. record { seconds = seconds i; microseconds = microseconds i; frame = frame i }

    captured_same : (r : Stored) → captured_at (length b + at) r ≡ onwards (length b) (captured_at at r)
    captured_same r = by_type (is1905 r.frame) refl
      where
        by_type : (x : Bool) → is1905 r.frame ≡ x → captured_at (length b + at) r ≡ onwards (length b) (captured_at at r)
        by_type true e = let m : length b + at + 38 ≡ length b + (at + 38) = omega arith in rw (e, m) refl
        by_type false e = rw e refl

    record_same : (o : Bool) (c : Captured) (next : ℕ) → gives (passed c next) ≡ record_at_lem o w at → gives (passed (onwards (length b) c) (length b + next)) ≡ record_at_lem o s (length b + at)
    record_same o c next e =
        let q = passes o w at c next e in
        let n = q.size in
        let inside : at + 16 + n ≤ length w = omega (arith, q.behind, q.inside) in
        let there = whole o s (length b + at) (omega (arith, long_s, long_w)) (omega (arith, long_s, long_w)) n n
        (q.stored ∙ sym (field_same o 4 (at + 8) (length b + at + 8) (omega arith) (omega arith) (omega arith)))
        (q.original ∙ sym (field_same o 4 (at + 12) (length b + at + 12) (omega arith) (omega arith) (omega arith)))
        refl (omega (arith, long_s, long_w)) in
        let is : onwards (length b) c ≡ captured_at (length b + at) (stored_at o s (length b + at) n) = ap (onwards (length b)) q.is ∙ sym (captured_same (stored_at o w at n)) ∙ ap (captured_at (length b + at)) (sym (stored_same o n inside)) in
        let to : length b + next ≡ length b + at + 16 + n = omega (arith, q.behind) in
        rw (is, to) there

    step_same : (c : Captured) (next : ℕ) → file_step w at ≡ gives (passed c next) → file_step s (length b + at) ≡ gives (passed (onwards (length b) c) (length b + next))
    step_same c next e = by_header (under w at _ (sym e))
      where
        by_header : Under w at (gives (passed c next)) → file_step s (length b + at) ≡ gives (passed (onwards (length b) c) (length b + next))
        by_header (no_file n vs f g) = never _ _ _ g
        by_header (in_order o f g) =
            let same : gives o ≡ file_order s = f ∙ head_same h header p ∙ sym (head_same h header (b ++ (p ++ l))) in
            sym (record_same o c next g ∙ in_file s (length b + at) o same)

    -- a record of the file that ends inside the window is one of the window
    record_back : (o : Bool) (c : Captured) (next : ℕ) → gives (passed c next) ≡ record_at_lem o s (length b + at) → next ≤ length b + length w → (d : Captured) × ((to : ℕ) × (gives (passed d to) ≡ record_at_lem o w at))
    record_back o c next e inside =
        let q = passes o s (length b + at) c next e in
        let n = q.size in
        let there = whole o w at (omega (arith, q.behind)) (omega (arith, q.behind)) n n
        (q.stored ∙ field_same o 4 (at + 8) (length b + at + 8) (omega arith) (omega arith) (omega (arith, q.behind)))
        (q.original ∙ field_same o 4 (at + 12) (length b + at + 12) (omega arith) (omega arith) (omega (arith, q.behind)))
        refl (omega (arith, q.behind)) in
        (_, (_, there))

    pub step_back : (c : Captured) (next : ℕ) → gives (passed c next) ≡ file_step s (length b + at) → next ≤ length b + length w → (d : Captured) × ((to : ℕ) × (gives (passed d to) ≡ file_step w at))
    step_back c next e inside = by_header (under s (length b + at) _ e)
      where
        by_header : Under s (length b + at) (gives (passed c next)) → (d : Captured) × ((to : ℕ) × (gives (passed d to) ≡ file_step w at))
        by_header (no_file n vs f g) = never _ _ _ g
        by_header (in_order o f g) =
            let found = record_back o c next g inside in
            let same : gives o ≡ file_order w = f ∙ head_same h header (b ++ (p ++ l)) ∙ sym (head_same h header p) in
            (found.0, (found.1.0, found.1.1 ∙ in_file w at o same))

    -- and what it brings is the same
    brings_same : (c : Captured) (next : ℕ) → file_step w at ≡ gives (passed c next) → brought_of s (onwards (length b) c) ≡ brought_of w c
    brings_same c next e = by_header (under w at _ (sym e))
      where
        by_header : Under w at (gives (passed c next)) → brought_of s (onwards (length b) c) ≡ brought_of w c
        by_header (no_file n vs f g) = never _ _ _ g
        by_header (in_order o f g) = by_record o (passes o w at c next g)
          where
            by_record : (o : Bool) → Passes o w at c next → brought_of s (onwards (length b) c) ≡ brought_of w c
            by_record o q = ap (λ (d : Captured). brought_of s (onwards (length b) d)) q.is ∙ by_type (is1905 (stored_at o w at q.size).frame) refl ∙ sym (ap (brought_of w) q.is)
              where
                by_type : (x : Bool) → is1905 (stored_at o w at q.size).frame ≡ x → brought_of s (onwards (length b) (captured_at at (stored_at o w at q.size))) ≡ brought_of w (captured_at at (stored_at o w at q.size))
                by_type true t =
                    let frame = (stored_at o w at q.size).frame in
                    let size : length frame ≡ q.size = length-take-le q.size (drop (at + 16) w) (simp length-drop (omega (arith, q.behind, q.inside))) in
                    let inside : at + 38 + (length frame - 22) ≤ length w = omega (arith, size, long frame t, q.behind, q.inside) in
                    rw t (ap (λ (bytes : List ℕ). asks_for (record { arrival = arrival_of_lem (our_frame (stored_at o w at q.size)); payload = bytes })) (payload_same (at + 38) (length frame - 22) (omega arith) inside))
                by_type false t = rw t refl

pub in_window : (header before part later : List ℕ) → length header ≡ 24 → (at : ℕ) → 24 ≤ at → (c : Captured) (next : ℕ) → file_step (window_of header part) at ≡ gives (passed c next) → InWindow header before part later at c next
in_window h b p l header at up c next e = record { same_step = step_same h b p l header at up c next e; same_brought = brings_same h b p l header at up c next e }
