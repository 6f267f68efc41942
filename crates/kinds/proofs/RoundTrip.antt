-- Round trips: what was written reads back as what it was written from, and what was read is written as it stood.
use mathlib.Core.Path.{◌≡◌, refl, sym, ap, ◌∙◌, subst}
use mathlib.Core.Bool.{Bool, true, false}
use mathlib.Core.List.{List, [], ◌++◌}
use Prim.Native.Nat.{ℕ, ◌+◌, ◌-◌, ◌≤◌, ◌<◌}
use native.Mathlib.Omega.{arith}
use lib.Dec.{ltb}
use lib.ListN.{length, take, drop, get_or, length-take, get_or-eq_default}
use lib.Seq.{length-take-le, take-append_seam, take-length, get_or-take, get_or-drop}
use borrow.Author.Tests.{ltb-true, ltb-false}
use Rattle.numbers.specs.Numbers.{Answer, gives, refuses, and_then, mapped}
use Rattle.numbers.proofs.Answers.{given, mapped_gave, mapped_given}
use Rattle.framing.specs.declared.TlvRead.{TlvRead}
use Rattle.framing.specs.Tlv.{read_tlv_lem, value_in_lem, longest_value, write_size, tlv_bytes}
use Rattle.numbers.specs.Bytes.{AllBytes}
use Rattle.framing.proofs.Claims.{round_trip}
use Rattle.records.specs.declared.Record.{Record}
use Rattle.records.specs.Kinds.{code_of, kind_of}
use Rattle.records.specs.Values.{bytes_of}
use Rattle.records.specs.Reading.{is_record_lem, read_record_lem}
use Rattle.records.proofs.Given.{is_known_lem, known, consumed_within}
use Rattle.record_writing.specs.Writing.{readable, record_size_lem}
use Rattle.record_writing.proofs.Claims.{round_trips}
use Rattle.layouts.specs.Reading.{read_value_lem}
use Rattle.layouts.specs.Access.{part_of}
use Rattle.layouts.proofs.Claims as lists
use Rattle.texts.specs.Reading.{read_text}
use Rattle.texts.specs.Access.{locate_radio_text_lem}
use Rattle.texts.proofs.Claims as texts
use Rattle.kinds.specs.declared.Family.{Family}
use Rattle.kinds.specs.declared.Typed.{Typed}
use Rattle.kinds.specs.declared.Contents.{Contents}
use Rattle.kinds.specs.Kinds.{family_of_lem, one_record, one_list, read_by, read_kind_lem, locate_by, locate_kind, count_by, count_kind, text_by, locate_text_in}
use Rattle.kinds.specs.Writing.{kind_bytes}
use Rattle.kinds.specs.Claims.{value_at, SameValue, ReadsBack, RecordReadsBack, WritesBack, ValueWritesBack, TlvWritesBack}
use Rattle.kinds.proofs.Apart.{of_records, inventory}
use Rattle.kinds.proofs.Laws.{reads, within, size, written, written_bytes}

-- what is claimed of the value v, by the family
record SameBy (family : Family) (code : ℕ) (t : Typed Record) (s v : List ℕ) : Type 0 where
  pub reads : read_by family code v ≡ gives (record { held = t.held; consumed = t.consumed; rest = 0 })
  pub counts : (is : List ℕ) → count_by family code is v ≡ count_by family code is s
  pub located : (is : List ℕ) → locate_by family code is v ≡ locate_by family code is s
  pub parts : (is : List ℕ) → part_of (locate_by family code is v) v ≡ part_of (locate_by family code is s) s
  pub texts : (i : ℕ) → text_by family code i v ≡ text_by family code i s
  pub text_parts : (i : ℕ) → part_of (text_by family code i v) v ≡ part_of (text_by family code i s) s
  pub radio_texts : code ≡ 0xD4 → (i : ℕ) → locate_radio_text_lem i v ≡ locate_radio_text_lem i s
  pub radio_text_parts : code ≡ 0xD4 → (i : ℕ) → part_of (locate_radio_text_lem i v) v ≡ part_of (locate_radio_text_lem i s) s

same_by : (code : ℕ) (t : Typed Record) (s v : List ℕ) → SameBy (family_of_lem code) code t s v → SameValue code t s v
unfolding read_kind_lem locate_kind count_kind locate_text_in
same_by code t s v a = record {
  reads = a.reads;
  counts = a.counts;
  located = a.located;
  parts = a.parts;
  texts = a.texts;
  text_parts = a.text_parts;
  radio_texts = a.radio_texts;
  radio_text_parts = a.radio_text_parts;
}

-- of two values that read, what is asked for where there is none is 6
six : {A : Type 0} (x y : Answer (Typed Record)) (a b : Typed Record) → x ≡ gives a → y ≡ gives b → ◌≡◌ {A = Answer A} (and_then x (λ t. refuses 6 [])) (and_then y (λ t. refuses 6 []))
six x y a b e f = rw (e, f)

no_parts_lem : (x y : Answer (Typed Record)) (s v : List ℕ) (a b : Typed Record) → x ≡ gives a → y ≡ gives b → part_of (and_then x (λ t. refuses 6 [])) v ≡ part_of (and_then y (λ t. refuses 6 [])) s
no_parts_lem x y s v a b e f = rw (e, f)

module _ (code : ℕ) (s : List ℕ) (bytes : AllBytes s) where
  no_radios : {A : Type 0} {family : Family} → family ≡ family_of_lem code → (family ≡ Family.Text → ⊥) → code ≡ 0xD4 → A
  no_radios e n c = absurd (n (e ∙ ap family_of_lem c ∙ inventory))

  -- the consumed bytes alone are such a value
  alone_by : (family : Family) → family ≡ family_of_lem code → (t : Typed Record) → read_by family code s ≡ gives t → SameBy family code t s (take t.consumed s)
  alone_by Family.List e t h =
      let g = mapped_gave one_list (read_value_lem code s) t h in
      let v = take g.first.consumed s in
      let a = lists.consumed_alone code s g.first g.is in
      let r = mapped_given one_list _ _ a.reads in
      let r' = sym (reads code v e) ∙ r in
      let x = sym (reads code s e) ∙ mapped_given one_list _ _ g.is in
      subst (λ (t : Typed Record). SameBy Family.List code t s (take t.consumed s)) (given (one_list g.first) t g.then)
      (record {
        reads = r;
        counts = a.counts;
        located = a.located;
        parts = a.parts;
        texts = λ i. six _ _ _ _ r' x;
        text_parts = λ i. no_parts_lem _ _ s v _ _ r' x;
        radio_texts = no_radios e (λ (n : Family.List ≡ Family.Text). let z : ◌≡◌ {A = ℕ} 0 1 = cc in omega arith);
        radio_text_parts = no_radios e (λ (n : Family.List ≡ Family.Text). let z : ◌≡◌ {A = ℕ} 0 1 = cc in omega arith);
      })
  alone_by Family.Text e t h =
      let g = mapped_gave one_list (read_text code s) t h in
      let a = texts.consumed_alone code s g.first g.is in
      subst (λ (t : Typed Record). SameBy Family.Text code t s (take t.consumed s)) (given (one_list g.first) t g.then)
      (record {
        reads = mapped_given one_list _ _ a.reads;
        counts = a.counts;
        located = a.located;
        parts = a.parts;
        texts = a.texts;
        text_parts = a.text_parts;
        radio_texts = a.radio_texts;
        radio_text_parts = a.radio_text_parts;
      })
  alone_by Family.Record e t h =
      let g = mapped_gave (one_record (length s)) (read_record_lem code s) t h in
      let v = take g.first.consumed s in
      let l : length v ≡ g.first.consumed = length-take-le g.first.consumed s (consumed_within code s g.first g.is) in
      let z : length v - g.first.consumed ≡ 0 = omega (arith, l) in
      let r : read_by Family.Record code v ≡ gives (record { held = Contents.One g.first.value; consumed = g.first.consumed; rest = 0 })
      = mapped_given (one_record (length v)) _ _ (round_trips.write_back code s g.first bytes g.is).alone ∙ ap (λ (n : ℕ). gives (record { held = Contents.One g.first.value; consumed = g.first.consumed; rest = n })) z in
      let r' = sym (reads code v e) ∙ r in
      let x = sym (reads code s e) ∙ mapped_given (one_record (length s)) _ _ g.is in
      subst (λ (t : Typed Record). SameBy Family.Record code t s (take t.consumed s)) (given (one_record (length s) g.first) t g.then)
      (record {
        reads = r;
        counts = λ is. six _ _ _ _ r' x;
        located = λ is. six _ _ _ _ r' x;
        parts = λ is. no_parts_lem _ _ s v _ _ r' x;
        texts = λ i. six _ _ _ _ r' x;
        text_parts = λ i. no_parts_lem _ _ s v _ _ r' x;
        radio_texts = no_radios e (λ (n : Family.Record ≡ Family.Text). let z : ◌≡◌ {A = ℕ} 0 1 = cc in omega arith);
        radio_text_parts = no_radios e (λ (n : Family.Record ≡ Family.Text). let z : ◌≡◌ {A = ℕ} 0 1 = cc in omega arith);
      })

  alone : (t : Typed Record) → read_kind_lem code s ≡ gives t → SameValue code t s (take t.consumed s)
  alone t e = same_by code t s (take t.consumed s) (alone_by (family_of_lem code) refl t (reads code s refl ∙ e))

pub reads_back : ReadsBack
reads_back code s behind t bytes e fits =
    let u : List ℕ = take t.consumed s in
    let z : t.consumed ≡ length u = size code s t (sym e) in
    let l : length u ≤ longest_value = omega (arith, z) in
    let b : tlv_bytes code u ≡ kind_bytes code s = written_bytes code s t (sym e) in
    let v : value_at (kind_bytes code s ++ behind) ≡ u = ap (λ (w : List ℕ). value_at (w ++ behind)) (sym b) ∙ round_trip.value_written code u behind l in
    (ap (λ (w : List ℕ). read_tlv_lem (w ++ behind)) (sym b) ∙ sym (round_trip.read_written code u behind l), subst (SameValue code t s) (sym v) (alone code s bytes t e))

-- from a record
pub record_reads_back : RecordReadsBack
record_reads_back r behind h =
    let c : ℕ = code_of (kind_of r) in
    let w : List ℕ = tlv_bytes c (bytes_of r) ++ behind in
    let b = round_trips.tlv_back r behind h in
    let k : is_record_lem c ≡ true = sym (known c (value_at w)) ∙ ap is_known_lem b.1 in
    let l : length (value_at w) ≡ length (bytes_of r) = ap length (ap (λ (x : Answer TlvRead). value_in_lem x w) b.0 ∙ take-append_seam (bytes_of r) behind) in
    let z : length (value_at w) - length (bytes_of r) ≡ 0 = omega (arith, l) in
    sym (reads c (value_at w) (of_records c k))
    ∙ ap (mapped (one_record (length (value_at w)))) b.1
    ∙ ap (λ (n : ℕ). gives (record { held = Contents.One r; consumed = length (bytes_of r); rest = n })) z

-- a record that was read has the code that was read, and the consumed bytes
record Kept (code : ℕ) (s : List ℕ) (t : Typed Record) (r : Record) : Type 0 where
  pub own : code_of (kind_of r) ≡ code
  pub bytes : bytes_of r ≡ take t.consumed s
  pub writable : readable r ≡ true

module _ (code : ℕ) (s : List ℕ) (bytes : AllBytes s) (t : Typed Record) (r : Record) (held : t.held ≡ Contents.One r) where
  kept_by : (family : Family) → read_by family code s ≡ gives t → Kept code s t r
  kept_by Family.List h = let g = mapped_gave one_list (read_value_lem code s) t h in let z : ◌≡◌ {A = ℕ} 0 1 = cc (ap (λ t. t.held) (given (one_list g.first) t g.then)) in absurd (omega arith)
  kept_by Family.Text h = let g = mapped_gave one_list (read_text code s) t h in let z : ◌≡◌ {A = ℕ} 0 1 = cc (ap (λ t. t.held) (given (one_list g.first) t g.then)) in absurd (omega arith)
  kept_by Family.Record h =
      let g = mapped_gave (one_record (length s)) (read_record_lem code s) t h in
      let i : one_record (length s) g.first ≡ t = given (one_record (length s) g.first) t g.then in
      let v : g.first.value ≡ r = cc (ap (λ t. t.held) i) in
      let w = round_trips.write_back code s g.first bytes g.is in
      record {
        own = ap (λ r. code_of (kind_of r)) (sym v) ∙ w.own;
        bytes = ap bytes_of (sym v) ∙ w.bytes ∙ ap (λ (t : Typed Record). take t.consumed s) i;
        writable = ap readable (sym v) ∙ w.writable;
      }

  kept : read_kind_lem code s ≡ gives t → Kept code s t r
  kept e = kept_by (family_of_lem code) (reads code s refl ∙ e)

pub value_writes_back : ValueWritesBack
unfolding record_size_lem
value_writes_back code s t bytes e = record {
  answer = λ room. sym (written code s t (sym e) room) ∙ ap (λ (n : ℕ). write_size n room) (sym (size code s t (sym e)));
  bytes = sym (written_bytes code s t (sym e));
  record_answer = λ r h room. let k = kept code s bytes t r h e in rw k.writable (ap (λ (n : ℕ). write_size n room) (ap length k.bytes ∙ sym (size code s t (sym e))));
  record_bytes = λ r h. let k = kept code s bytes t r h e in rw (k.own, k.bytes);
}

-- a part of bytes are bytes
part_bytes : (n k : ℕ) (s : List ℕ) → AllBytes s → AllBytes (take n (drop k s))
part_bytes n k s bytes i = go (ltb i n) refl
  where
    go : (b : Bool) → ltb i n ≡ b → get_or (take n (drop k s)) i 0 < 256
    go true f = rw (get_or-take n (drop k s) i 0 (ltb-true i n f), get_or-drop) (bytes (k + i))
    go false f = rw (get_or-eq_default (take n (drop k s)) 0 {n = i} (omega (arith, length-take n (drop k s), ltb-false i n f))) (omega arith)

pub tlv_writes_back : TlvWritesBack
tlv_writes_back s t v bytes e h rest =
    let b : AllBytes (value_at s) = rw e (part_bytes t.value_length 3 s bytes) in
    let all = (within t.tlv_type (value_at s) v (sym h)).1 in
    let c : v.consumed ≡ length (value_at s) = omega arith in
    subst (WritesBack t.tlv_type (value_at s) v)
    (ap (λ (n : ℕ). tlv_bytes t.tlv_type (take n (value_at s))) c ∙ ap (tlv_bytes t.tlv_type) (take-length (value_at s)) ∙ round_trip.written_read s bytes t (sym e))
    (value_writes_back t.tlv_type (value_at s) v b h)
