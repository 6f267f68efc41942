-- A file that is accepted has the form: a file header, and records one after the other.
use mathlib.Core.Path.{◌≡◌, refl, sym, ap, ◌∙◌}
use mathlib.Core.Bool.{Bool, true, false}
use mathlib.Core.List.{List, [], ◌∷◌, ◌++◌, map, flatten, reverse, reverse_aux, reverse-reverse, append_assoc}
use Prim.Native.Nat.{ℕ, zero, suc, ◌+◌, ◌<◌, ◌≤◌}
use native.Mathlib.Omega.{arith}
use lib.ListN.{length, take, drop, length-drop, length-reverse, take-append-drop, drop_of_length-le}
use lib.Seq.{drop-drop, length-take-le}
use Rattle.numbers.specs.Numbers.{Answer, gives}
use Rattle.numbers.specs.Bytes.{big_endian, in_bytes, AllBytes}
use Rattle.numbers.proofs.Bytes.{bytes_back, bytes_at_back, part_bytes, digits_at}
use Rattle.numbers.proofs.Firm.{never}
use Rattle.walking.proofs.Going.{Goes, at_end_lem, onward, final, stopped}
use Rattle.captures.specs.Form.{field_at, field_bytes, magic, major, minor, link_type, Unread, file_header_lem, Stored, record_header_lem, record_bytes_lem}
use Rattle.captures.specs.Reading.{Captured, stored_at, record_at_lem, Capture, capture_in}
use Rattle.captures.specs.Claims.{Each, Storable, HasForm}
use Rattle.captures.proofs.Heads.{Says, says}
use Rattle.captures.proofs.Records.{Passes, passes, ends, never_last}
use Rattle.captures.proofs.Walks.{goes}
use Rattle.captures.proofs.Faults.{opened}

all_reversed : (l r : List ℕ) → AllBytes l → AllBytes r → AllBytes (reverse_aux l r)
all_reversed [] r h k = k
all_reversed (x ∷ l) r h k = all_reversed l (x ∷ r) (λ i. h (suc i)) with_x
  where
    with_x : AllBytes (x ∷ r)
    with_x zero = h 0
    with_x (suc i) = k i

module _ (o : Bool) (s : List ℕ) (all : AllBytes s) where
  abbrev f : ℕ → ℕ → List ℕ
  f = field_bytes o

  -- a number of the file's own says its bytes
  field_back : (w p : ℕ) → p + w ≤ length s → f w (field_at o w p s) ≡ take w (drop p s)
  field_back w p l = by_order o
    where
      by_order : (o : Bool) → field_bytes o w (field_at o w p s) ≡ take w (drop p s)
      by_order true = bytes_at_back w p s l all
      by_order false =
          let t = take w (drop p s) in
          let long : length (reverse t) ≡ w = length-reverse t ∙ length-take-le w (drop p s) (simp length-drop (omega arith)) in
          ap reverse (ap (λ (k : ℕ). in_bytes k (big_endian (reverse t))) (sym long) ∙ bytes_back (reverse t) (all_reversed t [] (part_bytes w p s all) (λ i. omega arith))) ∙ reverse-reverse t

  -- and in four bytes is below 2 to the 32
  bound : (p : ℕ) → p + 4 ≤ length s → field_at o 4 p s < 4294967296
  bound p l = by_order o
    where
      by_order : (o : Bool) → field_at o 4 p s < 4294967296
      by_order true = rw (← digits_at 4 p s l) (omega (arith, all p, all (p + 1), all (p + 1 + 1), all (p + 1 + 1 + 1)))
      by_order false = rw (← digits_at 4 p s l) (omega (arith, all p, all (p + 1), all (p + 1 + 1), all (p + 1 + 1 + 1)))

  -- w bytes, and those after them
  join : (p q w : ℕ) (t : List ℕ) → p + w ≡ q → t ≡ drop q s → take w (drop p s) ++ t ≡ drop p s
  join p q w t e g = ap (λ (x : List ℕ). take w (drop p s) ++ x) (g ∙ ap (λ (k : ℕ). drop k s) (sym e) ∙ sym (drop-drop w p s)) ∙ take-append-drop w (drop p s)

  -- the record at `at` and what follows it
  module _ (at : ℕ) (c : Captured) (next : ℕ) (p : Passes o s at c next) where
    abbrev r : Stored
    r = stored_at o s at p.size

    sized : length r.frame ≡ p.size
    sized = length-take-le p.size (drop (at + 16) s) (simp length-drop (omega (arith, p.behind, p.inside)))

    abbrev four : ℕ → List ℕ
    four k = take 4 (drop (at + k) s)

    header_is : record_header_lem o r.seconds r.microseconds (length r.frame) ≡ take 4 (drop at s) ++ (four 4 ++ (four 8 ++ four 12))
    header_is =
        let n = length r.frame in
        let inside : at + 16 ≤ length s = omega (arith, p.behind, p.inside) in
        ap (λ (x : List ℕ). x ++ (f 4 r.microseconds ++ (f 4 n ++ f 4 n))) (field_back 4 at (omega arith))
        ∙ ap (λ (x : List ℕ). take 4 (drop at s) ++ (x ++ (f 4 n ++ f 4 n))) (field_back 4 (at + 4) (omega arith))
        ∙ ap (λ (x : List ℕ). take 4 (drop at s) ++ (four 4 ++ (x ++ f 4 n))) (ap (f 4) (sized ∙ p.stored) ∙ field_back 4 (at + 8) (omega arith))
        ∙ ap (λ (x : List ℕ). take 4 (drop at s) ++ (four 4 ++ (four 8 ++ x))) (ap (f 4) (sized ∙ p.original) ∙ field_back 4 (at + 12) (omega arith))

    and_on : record_bytes_lem o r ++ drop next s ≡ drop at s
    and_on =
        ap (λ (x : List ℕ). (x ++ r.frame) ++ drop next s) header_is
        ∙ simp append_assoc (join at (at + 4) 4 _ refl (join (at + 4) (at + 8) 4 _ (omega arith) (join (at + 8) (at + 12) 4 _ (omega arith) (join (at + 12) (at + 16) 4 _ (omega arith) (join (at + 16) next p.size _ (sym p.behind) refl)))))

    fits : Storable r
    fits =
        let inside : at + 16 ≤ length s = omega (arith, p.behind, p.inside) in
        record { in_seconds = bound at (omega arith); in_microseconds = bound (at + 4) (omega arith); in_length = omega (arith, sized, p.stored, bound (at + 8) (omega arith)) }

  -- the records from `at` on
  record Rebuilt (at : ℕ) : Type 0 where
    records : List Stored
    storable : Each Storable records
    bytes : flatten (map (record_bytes_lem o) records) ≡ drop at s

  rebuilt : {at : ℕ} {cs : List Captured} {end : Answer ℕ} → Goes (record_at_lem o s) (length s) at cs end → (k : ℕ) → end ≡ gives k → Rebuilt at
  unfolding flatten
  rebuilt (at_end_lem {at} e) k g = record { records = []; storable = tt; bytes = sym (drop_of_length-le s (ends o s at e)) }
  rebuilt (onward {at} {t} {next} e g) k h =
      let p = passes o s at t next e in
      let b = rebuilt g k h in
      record { records = r at t next p ∷ b.records; storable = (fits at t next p, b.storable); bytes = ap (λ (x : List ℕ). record_bytes_lem o (r at t next p) ++ x) b.bytes ∙ and_on at t next p }
  rebuilt (final {at} {t} {to} e) k g = never_last o s at t to e
  rebuilt (stopped e) k g = never _ _ _ (sym g)

  -- the file header and what follows it
  abbrev unread_in : Unread
  unread_in = record { zone = field_at o 4 8 s; accuracy = field_at o 4 12 s; snap = field_at o 4 16 s }

  header_on : Says o s → file_header_lem o unread_in ++ drop 24 s ≡ s
  header_on h =
      let l = h.long in
      let first : f 4 magic ≡ take 4 (drop 0 s) = ap (f 4) (sym h.magic_is) ∙ field_back 4 0 (omega arith) in
      let second : f 2 major ≡ take 2 (drop 4 s) = ap (f 2) (sym h.major_is) ∙ field_back 2 4 (omega arith) in
      let third : f 2 minor ≡ take 2 (drop 6 s) = ap (f 2) (sym h.minor_is) ∙ field_back 2 6 (omega arith) in
      let last_one : f 4 link_type ≡ take 4 (drop 20 s) = ap (f 4) (sym h.link_is) ∙ field_back 4 20 (omega arith) in
      rw (first, second, third, field_back 4 8 (omega arith), field_back 4 12 (omega arith), field_back 4 16 (omega arith), last_one)
      (simp append_assoc (join 0 4 4 _ refl (join 4 6 2 _ refl (join 6 8 2 _ refl (join 8 12 4 _ refl (join 12 16 4 _ refl (join 16 20 4 _ refl (join 20 24 4 _ refl refl))))))))

pub no_other : (s : List ℕ) → AllBytes s → (c : Capture) → capture_in s ≡ gives c → HasForm s
no_other s all c e =
    let file = opened s c e in
    let o = file.order in
    let b = rebuilt o s all (goes o s 24) file.rest file.ends in
    record {
      high_first = o;
      unread = unread_in o s all;
      records = b.records;
      storable = b.storable;
      bytes = sym (ap (λ (t : List ℕ). file_header_lem o (unread_in o s all) ++ t) b.bytes ∙ header_on o s all (says o s file.says));
    }
