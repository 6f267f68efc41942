-- Laws of reading a kind by its code, from what its family's crate answered.
use mathlib.Core.Path.{◌≡◌, refl, sym, ap, ◌∙◌, subst}
use mathlib.Core.Bool.{true, false}
use mathlib.Core.List.{List, []}
use Prim.Native.Nat.{ℕ, ◌+◌, ◌-◌, ◌≤◌}
use native.Mathlib.Omega.{arith}
use lib.ListN.{length, take}
use lib.Seq.{length-take-le}
use Rattle.numbers.specs.Numbers.{Answer, gives, refuses, and_then, mapped}
use Rattle.numbers.proofs.Firm.{never}
use Rattle.numbers.proofs.Answers.{given, mapped_gave}
use Rattle.framing.specs.Tlv.{write_size, tlv_bytes, leaves}
use Rattle.records.specs.declared.Record.{Record}
use Rattle.records.specs.declared.RecordRead.{RecordRead}
use Rattle.records.specs.Reading.{read_record_lem}
use Rattle.records.proofs.Given.{is_known_lem, known, consumed_within}
use Rattle.layouts.specs.Reading.{read_value_lem}
use Rattle.layouts.specs.Layouts.{is_list_lem}
use Rattle.layouts.specs.declared.Span.{Span}
use Rattle.layouts.specs.Access.{part_of, start_in, locate_entry, count_entries}
use Rattle.layouts.proofs.Claims as lists
use Rattle.layouts.proofs.Within.{Within as LiesIn}
use Rattle.texts.specs.Texts.{is_text_lem}
use Rattle.texts.specs.Reading.{read_text}
use Rattle.texts.specs.Access.{locate_radio, count_radios}
use Rattle.texts.proofs.Asked.{text_within}
use Rattle.texts.proofs.Claims as texts
use Rattle.kinds.specs.declared.Family.{Family}
use Rattle.kinds.specs.declared.Typed.{Typed}
use Rattle.kinds.specs.declared.Contents.{Contents}
use Rattle.kinds.specs.Kinds.{family_of_lem, is_kind_by, is_kind_lem, one_record, one_list, read_by, read_kind_lem, without_record, no_entry_in_lem, locate_by, locate_kind, count_by, count_kind, text_by, locate_text_in}
use Rattle.kinds.specs.Writing.{write_kind_lem, kind_bytes}

-- what is measured of a record is what reading it gives, without the record
module _ (code : ℕ) (s : List ℕ) (n : ℕ) (e : gives n ≡ mapped (λ (r : RecordRead). r.consumed) (read_record_lem code s)) where
  pub measured_inside : n ≤ length s
  measured_inside =
      let g = mapped_gave (λ (r : RecordRead). r.consumed) (read_record_lem code s) n (sym e) in
      let i : g.first.consumed ≡ n = given g.first.consumed n g.then in
      omega (arith, i, consumed_within code s g.first g.is)

  pub measured : mapped without_record (mapped (one_record (length s)) (read_record_lem code s)) ≡ gives (record { held = Contents.One tt; consumed = n; rest = length s - n })
  measured =
      let g = mapped_gave (λ (r : RecordRead). r.consumed) (read_record_lem code s) n (sym e) in
      let i : g.first.consumed ≡ n = given g.first.consumed n g.then in
      rw (g.is, i)

pub unmeasured : (code : ℕ) (s : List ℕ) (n : ℕ) (vs : List ℕ) → refuses n vs ≡ mapped (λ (r : RecordRead). r.consumed) (read_record_lem code s) → refuses n vs ≡ mapped without_record (mapped (one_record (length s)) (read_record_lem code s))
unmeasured code s n vs = by_reading (read_record_lem code s)
  where
    by_reading : (x : Answer RecordRead) → refuses n vs ≡ mapped (λ (r : RecordRead). r.consumed) x → refuses n vs ≡ mapped without_record (mapped (one_record (length s)) x)
    by_reading (gives r) e = never _ _ _ (sym e)
    by_reading (refuses m us) e = let i : n ≡ m = cc in let j : vs ≡ us = cc in rw (i, j)

-- what is refused where there is no entry is the same, whatever was asked for
pub asked : {A B : Type 0} (code : ℕ) (s : List ℕ) (n : ℕ) (vs : List ℕ) → ◌≡◌ {A = Answer A} (refuses n vs) (no_entry_in_lem code s) → ◌≡◌ {A = Answer B} (refuses n vs) (no_entry_in_lem code s)
asked {A} {B} code s n vs = go (read_kind_lem code s)
  where
    go : (x : Answer (Typed Record)) → ◌≡◌ {A = Answer A} (refuses n vs) (and_then x (λ t. refuses 6 [])) → ◌≡◌ {A = Answer B} (refuses n vs) (and_then x (λ t. refuses 6 []))
    go (gives t) e = let i : n ≡ 6 = cc in let j : vs ≡ [] = cc in rw (i, j)
    go (refuses m us) e = let i : n ≡ m = cc in let j : vs ≡ us = cc in rw (i, j)

-- and then the empty start is shown
pub no_part : {A : Type 0} (y : Answer A) (s : List ℕ) → ([] ≡ part_of (and_then y (λ a. refuses 6 [])) s) × (0 ≡ start_in (and_then y (λ a. refuses 6 [])))
no_part (gives a) s = (refl, refl)
no_part (refuses n vs) s = (refl, refl)

-- what was consumed lies in the value, and the rest is what is left of it
abbrev Within : List ℕ → Typed Record → Type 0
Within s t = (t.consumed ≤ length s) × (t.consumed + t.rest ≡ length s)

module _ (code : ℕ) (s : List ℕ) where
  module _ {family : Family} (e : family ≡ family_of_lem code) where
    pub reads : read_by family code s ≡ read_kind_lem code s
    unfolding read_kind_lem
    reads = ap (λ (f : Family). read_by f code s) e

    pub located : (is : List ℕ) → locate_by family code is s ≡ locate_kind code is s
    unfolding locate_kind
    located is = ap (λ (f : Family). locate_by f code is s) e

    pub counted : (is : List ℕ) → count_by family code is s ≡ count_kind code is s
    unfolding count_kind
    counted is = ap (λ (f : Family). count_by f code is s) e

    pub text_located : (number : ℕ) → text_by family code number s ≡ locate_text_in code number s
    unfolding locate_text_in
    text_located number = ap (λ (f : Family). text_by f code number s) e

  -- the same by what the tests say of the code: a list kind, a kind that holds text, or neither
  pub as_list : is_list_lem code ≡ true →
      (read_kind_lem code s ≡ mapped one_list (read_value_lem code s)) × ((is : List ℕ) → locate_kind code is s ≡ locate_entry code is s) × ((is : List ℕ) → count_kind code is s ≡ count_entries code is s)
  as_list l = let e : Family.List ≡ family_of_lem code = rw l in (sym (reads e), λ is. sym (located e is), λ is. sym (counted e is))

  pub as_text : is_list_lem code ≡ false → is_text_lem code ≡ true →
      (read_kind_lem code s ≡ mapped one_list (read_text code s)) × ((is : List ℕ) → locate_kind code is s ≡ locate_radio code is s) × ((is : List ℕ) → count_kind code is s ≡ count_radios code is s)
  as_text l x = let e : Family.Text ≡ family_of_lem code = rw (l, x) in (sym (reads e), λ is. sym (located e is), λ is. sym (counted e is))

  pub as_record : is_list_lem code ≡ false → is_text_lem code ≡ false →
      (read_kind_lem code s ≡ mapped (one_record (length s)) (read_record_lem code s)) × ((is : List ℕ) → count_kind code is s ≡ no_entry_in_lem code s)
  as_record l x = let e : Family.Record ≡ family_of_lem code = rw (l, x) in (sym (reads e), λ is. sym (counted e is))

  module _ (t : Typed Record) (e : gives t ≡ read_kind_lem code s) where
    by_family : gives t ≡ read_by (family_of_lem code) code s
    by_family = e ∙ sym (reads refl)

    pub within : Within s t
    within = go (family_of_lem code) by_family
      where
        go : (family : Family) → gives t ≡ read_by family code s → Within s t
        go Family.List h = let g = mapped_gave one_list (read_value_lem code s) t (sym h) in subst (Within s) (given (one_list g.first) t g.then) ((lists.values).consumed_within code s g.first g.is)
        go Family.Text h = let g = mapped_gave one_list (read_text code s) t (sym h) in subst (Within s) (given (one_list g.first) t g.then) ((texts.values).consumed_within code s g.first g.is)
        go Family.Record h =
            let g = mapped_gave (one_record (length s)) (read_record_lem code s) t (sym h) in
            let l = consumed_within code s g.first g.is in
            subst (Within s) (given (one_record (length s) g.first) t g.then) (l, omega arith)

    -- what reads is of a kind
    pub of_a_kind : true ≡ is_kind_lem code
    of_a_kind = go (family_of_lem code) by_family
      where
        go : (family : Family) → gives t ≡ read_by family code s → true ≡ is_kind_by family code
        go Family.List h = refl
        go Family.Text h = refl
        go Family.Record h = let g = mapped_gave (one_record (length s)) (read_record_lem code s) t (sym h) in sym (ap is_known_lem g.is) ∙ known code s

    pub size : t.consumed ≡ length (take t.consumed s)
    size = sym (length-take-le t.consumed s within.0)

    pub written : (room : ℕ) → write_size (length (take t.consumed s)) room ≡ write_kind_lem code s room
    unfolding write_kind_lem
    written room = rw (← e) (ap (λ (n : ℕ). write_size n room) (sym size))

    pub written_bytes : tlv_bytes code (take t.consumed s) ≡ kind_bytes code s
    unfolding kind_bytes
    written_bytes = rw (← e)

    pub left : (out : List ℕ) → leaves (write_size (length (take t.consumed s)) (length out)) (tlv_bytes code (take t.consumed s)) out ≡ leaves (write_kind_lem code s (length out)) (kind_bytes code s) out
    left out = rw (written (length out), written_bytes)

  pub unwritten : (n : ℕ) (vs : List ℕ) (room : ℕ) → refuses n vs ≡ read_kind_lem code s → refuses n vs ≡ write_kind_lem code s room
  unfolding write_kind_lem
  unwritten n vs room e = rw (← e)

-- a text lies in its value
pub text_inside : (code number : ℕ) (s : List ℕ) (r : Span) → locate_text_in code number s ≡ gives r → LiesIn r.start r.end s
text_inside code number s r e = go (family_of_lem code) (text_located code s refl number ∙ e)
  where
    never_there : (y : Answer (Typed Record)) → ◌≡◌ {A = Answer Span} (and_then y (λ t. refuses 6 [])) (gives r) → LiesIn r.start r.end s
    never_there (gives t) f = never _ _ _ (sym f)
    never_there (refuses n vs) f = never _ _ _ (sym f)

    go : (family : Family) → text_by family code number s ≡ gives r → LiesIn r.start r.end s
    go Family.List f = never_there (read_kind_lem code s) f
    go Family.Text f = text_within code number s r f
    go Family.Record f = never_there (read_kind_lem code s) f
