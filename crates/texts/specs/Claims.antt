-- What is claimed of this crate's calls and definitions; proofs/Claims.antt proves it.
use Rattle.std.specs.Prelude.{◌≡◌, true, false, List, [], ◌∷◌, ℕ, ◌+◌, ◌<◌, ◌≤◌, length, take}
use Rattle.std.specs.Borrow.{Bor}
use Rattle.numbers.specs.Numbers.{Answer, gives, refuses, answered}
use Rattle.numbers.specs.Firmness.{Firm}
use Rattle.numbers.specs.Parts.{behind}
use Rattle.layouts.specs.declared.Path.{Path}
use Rattle.layouts.specs.declared.Consumed.{Consumed}
use Rattle.layouts.specs.Reading.{end_of}
use Rattle.layouts.specs.declared.Span.{Span}
use Rattle.layouts.specs.Access.{numbers_of, part_of, start_in}
use Rattle.layouts.specs.Claims.{Shown}
use Rattle.utf8.specs.Utf8.{is_utf8_lem}
use Rattle.texts.specs.Texts.{TextKind, inventory_code, text_kind, radio, is_text_lem}
use Rattle.texts.specs.Reading.{read_text}
use Rattle.texts.specs.Access.{locate_radio, count_radios, radios_of, locate_text_lem, locate_radio_text_lem}

-- Rule A4: for each public call, by its name, any two answers that its contract allows are one. A part is its bytes and
-- its place.
pub record Firmness : Type 0 where
  pub is_text : (code : ℕ) → Firm (λ r. r ≡ is_text_lem code)
  pub read_value : (code : ℕ) (s : List ℕ) → Firm (λ r. answered r ≡ read_text code s)
  pub locate : (code : ℕ) (path : Path) (s : List ℕ) → Firm (λ r. answered r ≡ locate_radio code (numbers_of path) s)
  pub entry : (code : ℕ) (path : Path) (s : Bor (List ℕ)) → Firm {A = List ℕ × (ℕ × ℕ)} (λ r.
      (r.0 ≡ part_of (locate_radio code (numbers_of path) s.now) s.now) × (r.1 ≡ behind (start_in (locate_radio code (numbers_of path) s.now)) s))
  pub count : (code : ℕ) (path : Path) (s : List ℕ) → Firm (λ r. answered r ≡ count_radios code (numbers_of path) s)
  pub radios : (code : ℕ) (s : List ℕ) → Firm (λ r. answered r ≡ radios_of code s)
  pub radio_end : (s : List ℕ) (at : ℕ) → Firm (λ r. answered r ≡ end_of radio s at)
  pub locate_text : (code number : ℕ) (s : List ℕ) → Firm (λ r. answered r ≡ locate_text_lem code number s)
  pub text : (code number : ℕ) (s : Bor (List ℕ)) → Firm {A = List ℕ × (ℕ × ℕ)} (λ r.
      (r.0 ≡ part_of (locate_text_lem code number s.now) s.now) × (r.1 ≡ behind (start_in (locate_text_lem code number s.now)) s))
  pub locate_radio_text : (number : ℕ) (s : List ℕ) → Firm (λ r. answered r ≡ locate_radio_text_lem number s)
  pub radio_text : (number : ℕ) (s : Bor (List ℕ)) → Firm {A = List ℕ × (ℕ × ℕ)} (λ r.
      (r.0 ≡ part_of (locate_radio_text_lem number s.now) s.now) × (r.1 ≡ behind (start_in (locate_radio_text_lem number s.now)) s))

-- Rules E5 and E7: a text that is found lies in the q bytes consumed, and is valid.
pub record ValidText (x : Answer Span) (s : List ℕ) (q : ℕ) : Type 0 where
  pub lies : Shown x q
  pub valid : is_utf8_lem (part_of x s) ≡ true

-- What holds for every value of every kind that holds text.
pub record TextValues : Type 0 where
  -- Rule K1: 16 for every other code.
  pub other_codes : (code : ℕ) (s : List ℕ) → is_text_lem code ≡ false →
      (read_text code s ≡ refuses 16 []) × ((is : List ℕ) → locate_radio code is s ≡ refuses 16 [])
      × ((is : List ℕ) → count_radios code is s ≡ refuses 16 []) × ((i : ℕ) → locate_text_lem code i s ≡ refuses 16 [])
  -- Rule K1: what is consumed is never longer than the value, and together with the rest it is as long.
  pub consumed_within : (code : ℕ) (s : List ℕ) (r : Consumed) → read_text code s ≡ gives r →
      (r.consumed ≤ length s) × (r.consumed + r.rest ≡ length s)
  -- Rule K2: ControlUrl takes all bytes, so it leaves no rest.
  pub no_rest : (s : List ℕ) (r : Consumed) → read_text 22 s ≡ gives r → r.rest ≡ 0
  -- Rule E3: the value's own list has as many entries as reading says, none in 21 and 22. A radio has no list.
  pub own_count : (code : ℕ) (s : List ℕ) (r : Consumed) → read_text code s ≡ gives r →
      count_radios code [] s ≡ gives r.entries
  pub no_lower_count : (code i : ℕ) (is s : List ℕ) (r : Consumed) → read_text code s ≡ gives r →
      count_radios code (i ∷ is) s ≡ refuses 6 []
  pub no_radios : (code : ℕ) (s : List ℕ) (k : TextKind) (r : Consumed) → text_kind code ≡ gives k →
      k.radios ≡ false → read_text code s ≡ gives r → r.entries ≡ 0
  -- Rule E8: every radio can be asked for by one number, and has a text. No other entry can be asked for.
  pub every_radio : (code : ℕ) (s : List ℕ) (r : Consumed) (i : ℕ) → read_text code s ≡ gives r → i < r.entries →
      Shown (locate_radio code (i ∷ []) s) r.consumed
  pub every_radio_text : (s : List ℕ) (r : Consumed) (i : ℕ) → read_text inventory_code s ≡ gives r → i < r.entries →
      ValidText (locate_radio_text_lem i s) s r.consumed
  pub no_other : (code i : ℕ) (s : List ℕ) (r : Consumed) → read_text code s ≡ gives r → r.entries ≤ i →
      (locate_radio code (i ∷ []) s ≡ refuses 6 []) × (code ≡ inventory_code → locate_radio_text_lem i s ≡ refuses 6 [])
  pub one_number : (code i j : ℕ) (is s : List ℕ) (r : Consumed) → read_text code s ≡ gives r →
      (locate_radio code [] s ≡ refuses 6 []) × (locate_radio code (i ∷ j ∷ is) s ≡ refuses 6 [])
  -- Rule E7: kinds 21 and 0xD4 have three texts, 22 has one. A number past the last: 6.
  pub every_text : (code : ℕ) (s : List ℕ) (k : TextKind) (r : Consumed) (i : ℕ) → text_kind code ≡ gives k →
      read_text code s ≡ gives r → i < k.many →
      ValidText (locate_text_lem code i s) s r.consumed
  pub beyond : (code : ℕ) (s : List ℕ) (k : TextKind) (r : Consumed) (i : ℕ) → text_kind code ≡ gives k →
      read_text code s ≡ gives r → k.many ≤ i → locate_text_lem code i s ≡ refuses 6 []

-- What is read depends on the consumed bytes alone, so the rest need not be written (rule O2). They read the same, with
-- no rest, and so does every radio and every text in them.
pub record TextAlone (code : ℕ) (s : List ℕ) (r : Consumed) : Type 0 where
  pub reads : read_text code (take r.consumed s) ≡ gives (record { consumed = r.consumed; rest = 0; entries = r.entries })
  pub counts : (is : List ℕ) → count_radios code is (take r.consumed s) ≡ count_radios code is s
  pub located : (is : List ℕ) → locate_radio code is (take r.consumed s) ≡ locate_radio code is s
  pub parts : (is : List ℕ) →
      part_of (locate_radio code is (take r.consumed s)) (take r.consumed s) ≡ part_of (locate_radio code is s) s
  pub texts : (i : ℕ) → locate_text_lem code i (take r.consumed s) ≡ locate_text_lem code i s
  pub text_parts : (i : ℕ) →
      part_of (locate_text_lem code i (take r.consumed s)) (take r.consumed s) ≡ part_of (locate_text_lem code i s) s
  pub radio_texts : code ≡ inventory_code → (i : ℕ) → locate_radio_text_lem i (take r.consumed s) ≡ locate_radio_text_lem i s
  pub radio_text_parts : code ≡ inventory_code → (i : ℕ) →
      part_of (locate_radio_text_lem i (take r.consumed s)) (take r.consumed s) ≡ part_of (locate_radio_text_lem i s) s

abbrev pub TextsAlone : Type 0
TextsAlone = (code : ℕ) (s : List ℕ) (r : Consumed) → read_text code s ≡ gives r → TextAlone code s r

-- everything that is claimed of this crate
pub record Claims : Type 0 where
  pub firmness : Firmness
  pub values : TextValues
  pub consumed_alone : TextsAlone
