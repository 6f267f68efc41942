-- A window that a frame overruns (rule H10): once it is shortened, it does to the house what the frame does whole.
use mathlib.Core.Path.{◌≡◌, refl, sym, ap, ◌∙◌}
use mathlib.Core.Bool.{Bool, true, false, cond}
use mathlib.Core.List.{List, [], ◌∷◌, ◌++◌, reverse, append_assoc}
use Prim.Native.Nat.{ℕ, ◌+◌, ◌-◌, ◌<◌, ◌≤◌}
use native.Mathlib.Omega.{arith}
use lib.Dec.{eqb, ltb}
use lib.ListN.{length, take, drop, length-append, length-drop, take-append-drop, get_or-append}
use lib.Seq.{take-append-add, drop-append-add, drop-append-le, drop_at, take_at, take_all, length-take-le}
use borrow.Author.Tests.{eq-eqb, ne_eqb, ltb-true, ltb-false, eqb-true, eqb-false}
use Rattle.numbers.specs.Numbers.{gives, refuses}
use Rattle.numbers.specs.Bytes.{big_endian, AllBytes}
use Rattle.numbers.proofs.Firm.{never}
use Rattle.walking.specs.Steps.{passed}
use Rattle.captures.specs.Form.{field_at, field_bytes, magic, Stored}
use Rattle.captures.specs.Reading.{is_ours_lem, file_order, captured_at, stored_at, record_at_lem, file_step}
use Rattle.captures.proofs.Heads as heads
use Rattle.captures.proofs.Forms.{width, field_there}
use Rattle.captures.proofs.Records.{unlike, cut, whole}
use Rattle.captures.proofs.Walks.{Under, in_order, no_file, in_file, under}
use Rattle.house.specs.House.{House}
use Rattle.house.specs.Story.{after_one, after_records}
use Rattle.house.specs.Windows.{records_from, window_of, file_around, after_file, is_high_first, shortened}
use Rattle.house.proofs.Windows.{one_ahead, in_front, head_same, field_same, long_w, long_s}
use Rattle.house.proofs.Stops.{past, none_here}
use Rattle.house.proofs.Hearing.{none_heard, one_heard}
use Rattle.house.proofs.TooLong.{same_done}

-- a file header that is all there is refused by 22 alone
module _ (s : List ℕ) (h : 24 ≤ length s) (n : ℕ) (vs : List ℕ) (e : refuses n vs ≡ file_order s) where
  by_rest : (o b : Bool) → cond b (gives o) (refuses 22 []) ≡ file_order s → n ≡ 22
  by_rest o true f = never _ _ _ (f ∙ sym e)
  by_rest o false f = let g = e ∙ sym f in cc

  by_22 : n ≡ 22
  by_22 = by_magic (eqb (field_at true 4 0 s) magic) refl (eqb (field_at false 4 0 s) magic) refl
    where
      by_magic : (x : Bool) → eqb (field_at true 4 0 s) magic ≡ x → (y : Bool) → eqb (field_at false 4 0 s) magic ≡ y → n ≡ 22
      by_magic true p y q = by_rest true (is_ours_lem true s) (heads.high s h _ refl (eqb-true _ _ p) _ refl)
      by_magic false p true q = by_rest false (is_ours_lem false s) (heads.low s h _ refl (eqb-false _ _ p) _ refl (eqb-true _ _ q) _ refl)
      by_magic false p false q = let g = e ∙ sym (heads.neither s h _ refl (eqb-false _ _ p) _ refl (eqb-false _ _ q)) in cc

-- the first byte shows the byte order
first_byte : (o : Bool) (s : List ℕ) → AllBytes s → gives o ≡ file_order s → is_high_first s ≡ o
first_byte o s all e = by_order o s all (heads.says o s e).long (heads.says o s e).magic_is
  where
    by_order : (o : Bool) (s : List ℕ) → AllBytes s → 24 ≤ length s → field_at o 4 0 s ≡ magic → is_high_first s ≡ o
    by_order true (a ∷ b ∷ c ∷ d ∷ s) all l m = eq-eqb a 161 (omega (arith, all 0, all 1, all 2, all 3, m))
    by_order false (a ∷ b ∷ c ∷ d ∷ s) all l m = ne_eqb a 161 (λ e. omega (arith, all 0, all 1, all 2, all 3, m))
    by_order o (a ∷ b ∷ c ∷ []) all l m = absurd (omega arith)
    by_order o (a ∷ b ∷ []) all l m = absurd (omega arith)
    by_order o (a ∷ []) all l m = absurd (omega arith)
    by_order o [] all l m = absurd (omega arith)

-- a record whose frame the end of a file cuts by so many bytes
record Lacks (o : Bool) (s : List ℕ) (at missing : ℕ) : Type 0 where
  size : ℕ
  stored : size ≡ field_at o 4 (at + 8) s
  original : size ≡ field_at o 4 (at + 12) s
  lacks : length s - (at + 16) < size
  so_many : size - (length s - (at + 16)) ≡ missing

module _ (o : Bool) (s : List ℕ) (at missing : ℕ) (h : at + 16 < length s) (e : refuses 2 (missing ∷ []) ≡ record_at_lem o s at) where
  abbrev n : ℕ
  n = field_at o 4 (at + 8) s

  abbrev m : ℕ
  m = field_at o 4 (at + 12) s

  lacking : Lacks o s at missing
  lacking = by_lengths (eqb n m) refl (ltb (length s - at - 16) n) refl
    where
      by_lengths : (x : Bool) → eqb n m ≡ x → (y : Bool) → ltb (length s - at - 16) n ≡ y → Lacks o s at missing
      by_lengths false p y q = let g = e ∙ sym (unlike o s at (omega arith) (omega arith) n m refl refl (eqb-false _ _ p)) in let z : ◌≡◌ {A = ℕ} 2 23 = cc in absurd (omega arith)
      by_lengths true p false q = never _ _ _ (whole o s at (omega arith) (omega arith) n m refl refl (eqb-true _ _ p) (ltb-false _ _ q) ∙ sym e)
      by_lengths true p true q =
          let g = cut o s at (omega arith) (omega arith) n m refl refl (eqb-true _ _ p) (ltb-true _ _ q) ∙ sym e in
          let i : n - (length s - at - 16) ≡ missing = cc in
          let l = ltb-true (length s - at - 16) n q in
          record { size = n; stored = refl; original = eqb-true n m p; lacks = omega arith; so_many = omega arith }

module _ (h : List ℕ) (header : length h ≡ 24) (all : AllBytes h) (b p rest later : List ℕ) (full : length (window_of h p) ≡ 131072) where
  abbrev w : List ℕ
  w = window_of h p

  abbrev s : List ℕ
  s = file_around h b p (rest ++ later)

  long_p : length p ≡ 131048
  long_p = omega (arith, long_w h b p [] header, full)

  module _ (o : Bool) (says : gives o ≡ file_order w) (q : Lacks o w 24 (length rest)) where
    abbrev f : List ℕ
    f = field_bytes o 4 131032

    -- what there is of the frame, and all of it
    abbrev start : List ℕ
    start = drop 16 p

    abbrev seconds : ℕ
    seconds = field_at o 4 24 w

    abbrev microseconds : ℕ
    microseconds = field_at o 4 28 w

    abbrev stored_with : List ℕ → Stored
    stored_with frame = record { seconds = seconds; microseconds = microseconds; frame = frame }

    long_start : length start ≡ 131032
    long_start = simp length-drop (omega (arith, long_p))

    size_is : q.size ≡ 131032 + length rest
    size_is = omega (arith, q.lacks, q.so_many, full)

    long_all : length (start ++ rest) ≡ q.size
    long_all = omega (arith, length-append start rest, long_start, size_is)

    -- in the file
    long_file : length s ≡ 24 + (length b + (131048 + (length rest + length later)))
    long_file = omega (arith, long_s h b p (rest ++ later) header, long_p, length-append rest later)

    frame_there : take q.size (drop (length b + 24 + 16) s) ≡ start ++ rest
    frame_there =
        let at : length b + 24 + 16 ≡ length h + (length b + 16) = omega (arith, header) in
        ap (λ (k : ℕ). take q.size (drop k s)) at
        ∙ ap (take q.size) (drop-append-add h (b ++ (p ++ (rest ++ later))) (length b + 16) ∙ drop-append-add b (p ++ (rest ++ later)) 16 ∙ drop-append-le 16 p (rest ++ later) (omega (arith, long_p)) ∙ sym (append_assoc start rest later))
        ∙ take_at (start ++ rest) later q.size long_all

    same_field : (k : ℕ) → 24 ≤ k → k ≤ 36 → (k' : ℕ) → k' ≡ length b + k → field_at o 4 k' s ≡ field_at o 4 k w
    same_field k low high k' e = field_same h b p (rest ++ later) header o 4 k k' e low (omega (arith, full))

    is_stored : stored_at o s (length b + 24) q.size ≡ stored_with (start ++ rest)
    is_stored = λ i. record {
      seconds = same_field 24 (omega arith) (omega arith) (length b + 24) refl i;
      microseconds = same_field 28 (omega arith) (omega arith) (length b + 24 + 4) (omega arith) i;
      frame = frame_there i;
    }

    in_the_file : gives (passed (captured_at (length b + 24) (stored_with (start ++ rest))) (length b + 24 + 16 + q.size)) ≡ file_step s (length b + 24)
    in_the_file =
        ap (λ (r : Stored). gives (passed (captured_at (length b + 24) r) (length b + 24 + 16 + q.size))) (sym is_stored)
        ∙ whole o s (length b + 24) (omega (arith, long_file)) (omega (arith, long_file)) q.size q.size
        (q.stored ∙ sym (same_field 32 (omega arith) (omega arith) (length b + 24 + 8) (omega arith)))
        (q.original ∙ sym (same_field 36 (omega arith) (omega arith) (length b + 24 + 12) (omega arith)))
        refl (omega (arith, long_file, size_is))
        ∙ in_file s (length b + 24) o (says ∙ head_same h header p ∙ sym (head_same h header (b ++ (p ++ (rest ++ later)))))

    -- in the shortened window
    abbrev front : List ℕ
    front = h ++ take 8 p

    abbrev part : List ℕ
    part = take 8 p ++ (f ++ (f ++ start))

    long_front : length front ≡ 32
    long_front = omega (arith, length-append h (take 8 p), length-take-le 8 p (omega (arith, long_p)), header)

    high_first : is_high_first w ≡ o
    high_first = ap (λ (k : ℕ). eqb k 161) (get_or-append h p 0 0 (omega (arith, header))) ∙ first_byte o h all (says ∙ head_same h header p)

    is_window : shortened w ≡ window_of h part
    unfolding shortened
    is_window =
        let size : length w - 40 ≡ 131032 = omega (arith, full) in
        let first : 32 ≡ length h + 8 = omega (arith, header) in
        let second : 40 ≡ length h + 16 = omega (arith, header) in
        let before : take 32 w ≡ front = ap (λ (k : ℕ). take k w) first ∙ take-append-add h p 8 in
        let after : drop 40 w ≡ start = ap (λ (k : ℕ). drop k w) second ∙ drop-append-add h p 16 in
        (λ i. before i ++ (field_bytes (high_first i) 4 (size i) ++ (field_bytes (high_first i) 4 (size i) ++ after i))) ∙ append_assoc h (take 8 p) (f ++ (f ++ start))

    from_front : window_of h part ≡ front ++ (f ++ (f ++ start))
    from_front = sym (append_assoc h (take 8 p) (f ++ (f ++ start)))

    from_second : window_of h part ≡ (front ++ f) ++ (f ++ start)
    from_second = from_front ∙ sym (append_assoc front f (f ++ start))

    from_start : window_of h part ≡ (front ++ (f ++ f)) ++ start
    from_start = simp append_assoc

    long_fields : length (front ++ (f ++ f)) ≡ 40
    long_fields = omega (arith, length-append front (f ++ f), length-append f f, width o 4 131032, long_front)

    long_part : length (window_of h part) ≡ 131072
    long_part = ap length from_start ∙ omega (arith, length-append (front ++ (f ++ f)) start, long_fields, long_start)

    window_there : take 131032 (drop (24 + 16) (window_of h part)) ≡ start
    window_there = ap (λ (t : List ℕ). take 131032 (drop 40 t)) from_start ∙ ap (take 131032) (drop_at (front ++ (f ++ f)) start 40 long_fields) ∙ take_all 131032 start (omega (arith, long_start))

    same_front : (k : ℕ) → k + 4 ≤ 32 → field_at o 4 k (window_of h part) ≡ field_at o 4 k w
    same_front k l = ap (λ (t : List ℕ). big_endian (cond o t (reverse t))) (
        ap (λ (t : List ℕ). take 4 (drop k t)) from_front
        ∙ in_front front (f ++ (f ++ start)) 4 k (omega (arith, long_front))
        ∙ sym (in_front front (drop 8 p) 4 k (omega (arith, long_front)))
        ∙ ap (λ (t : List ℕ). take 4 (drop k t)) (append_assoc h (take 8 p) (drop 8 p) ∙ ap (λ (t : List ℕ). h ++ t) (take-append-drop 8 p)))

    is_kept : stored_at o (window_of h part) 24 131032 ≡ stored_with start
    is_kept = λ i. record { seconds = same_front 24 (omega arith) i; microseconds = same_front 28 (omega arith) i; frame = window_there i }

    in_the_window : gives (passed (captured_at 24 (stored_with start)) 131072) ≡ file_step (window_of h part) 24
    in_the_window =
        ap (λ (r : Stored). gives (passed (captured_at 24 r) 131072)) (sym is_kept)
        ∙ whole o (window_of h part) 24 (omega (arith, long_part)) (omega (arith, long_part)) 131032 131032
        (sym (field_there o 4 131032 32 front (f ++ start) (window_of h part) (omega arith) long_front from_front))
        (sym (field_there o 4 131032 36 (front ++ f) start (window_of h part) (omega arith) (omega (arith, length-append front f, width o 4 131032, long_front)) from_second))
        refl (omega (arith, long_part))
        ∙ in_file (window_of h part) 24 o (says ∙ head_same h header p ∙ sym (head_same h header part))

    -- what both do
    module _ (room : ℕ) (z : House) where
      by_window : after_file room z (window_of h part) ≡ after_one room (window_of h part) z (captured_at 24 (stored_with start))
      by_window =
          ap (after_records room (window_of h part) z) (one_ahead (window_of h part) 24 (captured_at 24 (stored_with start)) 131072 in_the_window)
          ∙ one_heard room (window_of h part) z (captured_at 24 (stored_with start)) (records_from (window_of h part) 131072)
          ∙ none_heard room (window_of h part) (after_one room (window_of h part) z (captured_at 24 (stored_with start))) (records_from (window_of h part) 131072) (none_here (window_of h part) 131072 (past (window_of h part) 131072 (omega (arith, long_part))))

      by_file : after_records room s z (records_from s (length b + 24)) ≡ after_records room s (after_one room s z (captured_at (length b + 24) (stored_with (start ++ rest)))) (records_from s (length b + 24 + 16 + q.size))
      by_file =
          ap (after_records room s z) (one_ahead s (length b + 24) (captured_at (length b + 24) (stored_with (start ++ rest))) (length b + 24 + 16 + q.size) in_the_file)
          ∙ one_heard room s z (captured_at (length b + 24) (stored_with (start ++ rest))) (records_from s (length b + 24 + 16 + q.size))

      so_ordered : after_records room s (after_file room z (shortened w)) (records_from s (length b + 24 + length p + length rest)) ≡ after_records room s z (records_from s (length b + 24))
      so_ordered =
          let done : after_file room z (shortened w) ≡ after_one room s z (captured_at (length b + 24) (stored_with (start ++ rest))) =
          ap (after_file room z) is_window ∙ by_window ∙ sym (same_done room z seconds microseconds start rest (omega (arith, long_start)) s (window_of h part) (length b + 24) 24 (omega (arith, long_file, long_all, size_is)) (omega (arith, long_part, long_start))) in
          let there : length b + 24 + length p + length rest ≡ length b + 24 + 16 + q.size = omega (arith, size_is, long_p) in
          (λ i. after_records room s (done i) (records_from s (there i))) ∙ sym by_file

  -- the frame that lacks the bytes `rest`, and then the records after it
  pub overrun : file_step w 24 ≡ refuses 2 (length rest ∷ []) → (room : ℕ) (z : House) → after_records room s (after_file room z (shortened w)) (records_from s (length b + 24 + length p + length rest)) ≡ after_records room s z (records_from s (length b + 24))
  overrun e room z = by_header (under w 24 _ (sym e))
    where
      by_header : Under w 24 (refuses 2 (length rest ∷ [])) → after_records room s (after_file room z (shortened w)) (records_from s (length b + 24 + length p + length rest)) ≡ after_records room s z (records_from s (length b + 24))
      by_header (no_file n vs f g) = let i : 2 ≡ n = cc in absurd (omega (arith, by_22 w (omega (arith, full)) n vs f))
      by_header (in_order o f g) = so_ordered o f (lacking o w 24 (length rest) (omega (arith, full)) g) room z
