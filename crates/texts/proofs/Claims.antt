-- The claims of specs/Claims.antt, proved.
use mathlib.Core.Path.{◌≡◌, refl, sym, ap, ◌∙◌}
use mathlib.Core.Bool.{Bool, true, false, cond}
use mathlib.Core.List.{List, [], ◌∷◌}
use Prim.Native.Nat.{ℕ, zero, suc, ◌+◌, ◌-◌, ◌<◌, ◌≤◌}
use native.Mathlib.Nat.{le_of_suc-le-suc}
use native.Mathlib.Omega.{arith}
use lib.ListN.{length, take}
use lib.Seq.{length-take-le}
use lib.Dec.{eqb}
use borrow.Author.Tests.{eqb-true}
use Rattle.numbers.specs.Numbers.{Answer, gives, refuses, mapped, is_given}
use Rattle.numbers.proofs.Firm.{by_equation, by_answer, both, never}
use Rattle.numbers.proofs.Answers.{given, gave, mapped_gave, follows, stops, mapped_given, mapped_refused}
use Rattle.layouts.specs.Layouts.{Layout, bytes}
use Rattle.layouts.specs.declared.Consumed.{Consumed}
use Rattle.layouts.specs.declared.Span.{Span}
use Rattle.layouts.specs.Access.{part_of, nth_of}
use Rattle.layouts.specs.Claims.{Shown}
use Rattle.layouts.proofs.Within.{end_within}
use Rattle.layouts.proofs.Spans.{spans_many, nth_past}
use Rattle.layouts.proofs.Claims.{part_alone}
use Rattle.utf8.specs.Utf8.{is_utf8_lem}
use Rattle.texts.specs.Texts.{TextKind, string, text_kind, radio, is_text_lem}
use Rattle.texts.specs.Reading.{text_span_lem, radio_list_lem, Laid, text_in_lem, all_valid_lem, whole_of, consumed_in, read_text}
use Rattle.texts.specs.Access.{of_text, radio_in_lem, radio_count, locate_radio, count_radios, locate_text_lem, locate_radio_text_lem}
use Rattle.texts.specs.Claims.{Firmness, ValidText, TextValues, TextAlone, TextsAlone, Claims}
use Rattle.texts.proofs.Laws.{Among}
use Rattle.texts.proofs.Whole.{Parts, parts, valid, list_within, each_within}
use Rattle.texts.proofs.Asked.{answers, text_among, radio_among, one_radio, Inside, text_inside}
use Rattle.texts.proofs.Local.{span_same, counted_alone, whole_value, all_consumed, all_alone}

firmness : Firmness
firmness = record {
  is_text = λ code. by_equation _;
  read_value = λ code s. by_answer _;
  locate = λ code path s. by_answer _;
  entry = λ code path s. both _ _ (by_equation _) (by_equation _);
  count = λ code path s. by_answer _;
  radios = λ code s. by_answer _;
  radio_end = λ s at. by_answer _;
  locate_text = λ code number s. by_answer _;
  text = λ code number s. both _ _ (by_equation _) (by_equation _);
  locate_radio_text = λ number s. by_answer _;
  radio_text = λ number s. both _ _ (by_equation _) (by_equation _);
}

-- the three kinds, and which one a code is compared with
abbrev fields : TextKind
fields = record { many = 3; piece = bytes 64; radios = false }

abbrev inventory : TextKind
inventory = record { many = 3; piece = string; radios = true }

abbrev picked : Bool → Bool → Bool → Answer TextKind
picked a b c = cond a (gives fields) (cond b (gives whole_value) (cond c (gives inventory) (refuses 16 [])))

-- what holds of each of them, holds of the kind of any code
each : (P : TextKind → Type 0) → P fields → P whole_value → P inventory → (code : ℕ) (k : TextKind) → text_kind code ≡ gives k → P k
unfolding text_kind
each P a b c code k e = go (eqb code 21) (eqb code 22) (eqb code 0xD4) e
  where
    go : (x y z : Bool) → picked x y z ≡ gives k → P k
    go true y z e = rw (← (given _ k e)) a
    go false true z e = rw (← (given _ k e)) b
    go false false true e = rw (← (given _ k e)) c
    go false false false e = never k 16 [] (sym e)

-- what holds of their codes holds of every code of a kind that holds text
pub of_three : (P : ℕ → Type 0) → P 21 → P 22 → P 0xD4 → (code : ℕ) → is_text_lem code ≡ true → P code
unfolding is_text_lem text_kind
of_three P a b c code e = go (eqb code 21) refl (eqb code 22) refl (eqb code 0xD4) refl e
  where
    go : (x : Bool) → eqb code 21 ≡ x → (y : Bool) → eqb code 22 ≡ y → (z : Bool) → eqb code 0xD4 ≡ z → is_given (picked x y z) ≡ true → P code
    go true f y g z h e = rw (eqb-true code 21 f) a
    go false f true g z h e = rw (eqb-true code 22 g) b
    go false f false g true h e = rw (eqb-true code 0xD4 h) c
    go false f false g false h e = let z : ◌≡◌ {A = ℕ} 0 1 = cc in absurd (omega arith)

-- any other code gives 16
unknown : (code : ℕ) → is_text_lem code ≡ false → text_kind code ≡ refuses 16 []
unfolding is_text_lem text_kind
unknown code n = go (eqb code 21) (eqb code 22) (eqb code 0xD4) n
  where
    absurdly : {A : Type 0} → true ≡ false → A
    absurdly e = let z : ◌≡◌ {A = ℕ} 0 1 = cc in absurd (omega arith)

    go : (x y z : Bool) → is_given (picked x y z) ≡ false → picked x y z ≡ refuses 16 []
    go true y z e = absurdly e
    go false true z e = absurdly e
    go false false true e = absurdly e
    go false false false e = refl

-- the kind and the value that a reading came of
record Read (code : ℕ) (s : List ℕ) (r : Consumed) : Type 0 where
  kind : TextKind
  is : text_kind code ≡ gives kind
  value : Laid
  reads : whole_of kind s ≡ gives value
  says : consumed_in s value ≡ r

read : (code : ℕ) (s : List ℕ) (r : Consumed) → read_text code s ≡ gives r → Read code s r
unfolding read_text
read code s r e =
    let k = gave (text_kind code) (λ k. mapped (consumed_in s) (whole_of k s)) r e in
    let v = mapped_gave (consumed_in s) (whole_of k.first s) r k.then in
    record { kind = k.first; is = k.is; value = v.first; reads = v.is; says = given _ r v.then }

-- a number below how many there are
record Numbered (rs : List Span) (i : ℕ) : Type 0 where
  one : Span
  is : nth_of rs i ≡ gives one

some_number : (rs : List Span) (i : ℕ) → i < length rs → Numbered rs i
some_number [] i l = absurd (omega arith)
some_number (r ∷ rs) zero l = record { one = r; is = refl }
some_number (r ∷ rs) (suc i) l = let n = some_number rs i (le_of_suc-le-suc l) in record { one = n.one; is = n.is }

valid_number : (l : Layout) (s : List ℕ) (rs : List Span) (i : ℕ) (r : Span) → all_valid_lem l s rs ≡ true → nth_of rs i ≡ gives r → is_utf8_lem (text_in_lem l s r) ≡ true
valid_number l s [] i r a e = never r 6 [] (sym e)
valid_number l s (g ∷ rs) i r a e = go i (is_utf8_lem (text_in_lem l s g)) refl a e (λ j. valid_number l s rs j r)
  where
    go : (i : ℕ) (t : Bool) → is_utf8_lem (text_in_lem l s g) ≡ t → cond t (all_valid_lem l s rs) false ≡ true → nth_of (g ∷ rs) i ≡ gives r →
        ((j : ℕ) → all_valid_lem l s rs ≡ true → nth_of rs j ≡ gives r → is_utf8_lem (text_in_lem l s r) ≡ true) → is_utf8_lem (text_in_lem l s r) ≡ true
    go zero true t a e on = rw (← (given g r e)) t
    go (suc i) true t a e on = on i a e
    go i false t a e on = let z : ◌≡◌ {A = ℕ} 0 1 = cc in absurd (omega arith)

-- a part in the first q bytes is the same in them
part_same : (x : Answer Span) (s : List ℕ) (q : ℕ) → q ≤ length s → ((r : Span) → x ≡ gives r → Inside r q) → part_of x (take q s) ≡ part_of x s
part_same (gives r) s q l inside = let i = inside r refl in part_alone s r.start q r.end i.0 i.1 l
part_same (refuses n vs) s q l inside = refl

-- a radio's text is asked of its radio
radio_text_is : (i : ℕ) (s : List ℕ) → locate_radio_text_lem i s ≡ mapped (text_span_lem radio s) (of_text 0xD4 (λ k v. radio_in_lem (i ∷ []) v) s)
unfolding locate_radio locate_radio_text_lem
radio_text_is i s = refl

-- a value that reads
module _ (code : ℕ) (s : List ℕ) (r : Consumed) (a : Read code s r) where
  end : a.value.radios.end ≡ r.consumed
  end = ap (λ r. r.consumed) a.says

  many : a.value.list.many ≡ r.entries
  many = ap (λ r. r.entries) a.says

  ends : (a.value.texts.end ≤ r.consumed) × (r.consumed ≤ length s)
  ends =
      let l = (valid a.kind s a.value a.reads).laid in
      let b = list_within a.kind s a.value l in
      let c = each_within a.kind s a.value l in
      let e = end in
      (omega arith, omega arith)

  from : Parts a.kind s a.value
  from = parts a.kind s a.value (valid a.kind s a.value a.reads).laid

  radios : length a.value.radios.each ≡ r.entries
  radios = spans_many _ _ _ a.value.radios from.each ∙ many

  texts : length a.value.texts.each ≡ a.kind.many
  texts = spans_many _ _ _ a.value.texts from.own

  says : {A : Type 0} (f : TextKind → Laid → Answer A) → of_text code f s ≡ f a.kind a.value
  says f = answers code f s a.kind a.value a.is a.reads

  -- where each part that it gives lies
  radio_lies : (is : List ℕ) (p : Span) → radio_in_lem is a.value ≡ gives p → Inside p r.consumed
  radio_lies is p e =
      let f = one_radio is a.value p e in
      let b = radio_among a.kind s a.value a.reads f.number p f.is in
      let h = b.high in
      let z = end in
      ((end_within radio s p.start p.end b.reads).0, omega arith)

  text_lies : (i : ℕ) (p : Span) → mapped (text_span_lem a.kind.piece s) (nth_of a.value.texts.each i) ≡ gives p → Inside p r.consumed
  text_lies i p e =
      let m = mapped_gave (text_span_lem a.kind.piece s) (nth_of a.value.texts.each i) p e in
      let b = text_inside a.kind.piece s _ _ m.first (text_among a.kind s a.value a.reads i m.first m.is) in
      let z = ends in
      rw (← (given _ p m.then)) (b.0, omega arith)

  radio_text_lies : (i : ℕ) (p : Span) → mapped (text_span_lem radio s) (nth_of a.value.radios.each i) ≡ gives p → Inside p r.consumed
  radio_text_lies i p e =
      let m = mapped_gave (text_span_lem radio s) (nth_of a.value.radios.each i) p e in
      let b = text_inside radio s _ _ m.first (radio_among a.kind s a.value a.reads i m.first m.is) in
      let z = end in
      rw (← (given _ p m.then)) (b.0, omega arith)

  text_asked : (i : ℕ) → locate_text_lem code i s ≡ mapped (text_span_lem a.kind.piece s) (nth_of a.value.texts.each i)
  unfolding locate_text_lem
  text_asked i = says (λ k v. mapped (text_span_lem k.piece s) (nth_of v.texts.each i))

  radio_text_asked : code ≡ 0xD4 → (i : ℕ) → locate_radio_text_lem i s ≡ mapped (text_span_lem radio s) (nth_of a.value.radios.each i)
  radio_text_asked c i = radio_text_is i s ∙ ap (mapped (text_span_lem radio s)) (ap (λ n. of_text n (λ k v. radio_in_lem (i ∷ []) v) s) (sym c) ∙ says (λ k v. radio_in_lem (i ∷ []) v))

  -- the text of one that has this number
  shown_text : (x : Answer Span) (l : Layout) (rs : List Span) (i : ℕ) → x ≡ mapped (text_span_lem l s) (nth_of rs i) → all_valid_lem l s rs ≡ true → i < length rs →
      ((p : Span) → mapped (text_span_lem l s) (nth_of rs i) ≡ gives p → Inside p r.consumed) → ValidText x s r.consumed
  shown_text x l rs i is good less inside =
      let n = some_number rs i less in
      let e = mapped_given (text_span_lem l s) _ _ n.is in
      let b = inside _ e in
      record {
        lies = record { span = text_span_lem l s n.one; is = is ∙ e; ordered = b.0; inside = b.1 };
        valid = ap (λ x. is_utf8_lem (part_of x s)) (is ∙ e) ∙ valid_number l s rs i n.one good n.is;
      }

-- 16 for every other code
module _ (code : ℕ) (s : List ℕ) (n : is_text_lem code ≡ false) where
  nothing : {A : Type 0} (f : TextKind → Laid → Answer A) → of_text code f s ≡ refuses 16 []
  unfolding of_text
  nothing f = stops (text_kind code) 16 [] _ (unknown code n)

  other_codes : (read_text code s ≡ refuses 16 []) × ((is : List ℕ) → locate_radio code is s ≡ refuses 16 []) × ((is : List ℕ) → count_radios code is s ≡ refuses 16 [])
      × ((i : ℕ) → locate_text_lem code i s ≡ refuses 16 [])
  unfolding read_text locate_radio count_radios locate_text_lem
  other_codes = (stops (text_kind code) 16 [] _ (unknown code n), λ is. nothing _, λ is. nothing _, λ i. nothing _)

-- consumed and rest are the value; a kind to the end leaves none
consumed_within : (code : ℕ) (s : List ℕ) (r : Consumed) → read_text code s ≡ gives r → (r.consumed ≤ length s) × (r.consumed + r.rest ≡ length s)
consumed_within code s r x =
    let a = read code s r x in
    let e = ends code s r a in
    let z = end code s r a in
    let rest : length s - a.value.radios.end ≡ r.rest = ap (λ r. r.rest) a.says in
    (e.1, omega arith)

no_rest : (s : List ℕ) (r : Consumed) → read_text 22 s ≡ gives r → r.rest ≡ 0
unfolding text_kind
no_rest s r x =
    let a = read 22 s r x in
    let k : whole_value ≡ a.kind = given _ a.kind a.is in
    let all = all_consumed s a.value (ap (λ k. whole_of k s) k ∙ a.reads) in
    let rest : length s - a.value.radios.end ≡ r.rest = ap (λ r. r.rest) a.says in
    omega arith

own_count : (code : ℕ) (s : List ℕ) (r : Consumed) → read_text code s ≡ gives r → count_radios code [] s ≡ gives r.entries
unfolding count_radios
own_count code s r x = let a = read code s r x in says code s r a (λ k v. radio_count [] v) ∙ ap gives (many code s r a)

no_lower_count : (code i : ℕ) (is s : List ℕ) (r : Consumed) → read_text code s ≡ gives r → count_radios code (i ∷ is) s ≡ refuses 6 []
unfolding count_radios
no_lower_count code i is s r x = says code s r (read code s r x) (λ k v. radio_count (i ∷ is) v)

no_radios : (code : ℕ) (s : List ℕ) (k : TextKind) (r : Consumed) → text_kind code ≡ gives k → k.radios ≡ false → read_text code s ≡ gives r → r.entries ≡ 0
unfolding radio_list_lem
no_radios code s k r y b x =
    let a = read code s r x in
    let none : a.kind.radios ≡ false = ap (λ k. k.radios) (given _ k (sym a.is ∙ y)) ∙ b in
    let l = (parts a.kind s a.value (valid a.kind s a.value a.reads).laid).counts in
    sym (many code s r a) ∙ sym (ap (λ m. m.many) (given _ a.value.list (rw none at l)))

every_radio : (code : ℕ) (s : List ℕ) (r : Consumed) (i : ℕ) → read_text code s ≡ gives r → i < r.entries → Shown (locate_radio code (i ∷ []) s) r.consumed
unfolding locate_radio
every_radio code s r i x l =
    let a = read code s r x in
    let z = radios code s r a in
    let n = some_number a.value.radios.each i (omega arith) in
    let b = radio_lies code s r a (i ∷ []) n.one n.is in
    record { span = n.one; is = says code s r a (λ k v. radio_in_lem (i ∷ []) v) ∙ n.is; ordered = b.0; inside = b.1 }

every_radio_text : (s : List ℕ) (r : Consumed) (i : ℕ) → read_text 0xD4 s ≡ gives r → i < r.entries → ValidText (locate_radio_text_lem i s) s r.consumed
every_radio_text s r i x l =
    let a = read 0xD4 s r x in
    let z = radios 0xD4 s r a in
    shown_text 0xD4 s r a (locate_radio_text_lem i s) radio a.value.radios.each i (radio_text_asked 0xD4 s r a refl i) (valid a.kind s a.value a.reads).radios (omega arith) (radio_text_lies 0xD4 s r a i)

no_other : (code i : ℕ) (s : List ℕ) (r : Consumed) → read_text code s ≡ gives r → r.entries ≤ i →
    (locate_radio code (i ∷ []) s ≡ refuses 6 []) × (code ≡ 0xD4 → locate_radio_text_lem i s ≡ refuses 6 [])
unfolding locate_radio
no_other code i s r x l =
    let a = read code s r x in
    let z = radios code s r a in
    let p = nth_past a.value.radios.each i (omega arith) in
    (says code s r a (λ k v. radio_in_lem (i ∷ []) v) ∙ p, λ e. radio_text_asked code s r a e i ∙ mapped_refused (text_span_lem radio s) _ 6 [] p)

one_number : (code i j : ℕ) (is s : List ℕ) (r : Consumed) → read_text code s ≡ gives r → (locate_radio code [] s ≡ refuses 6 []) × (locate_radio code (i ∷ j ∷ is) s ≡ refuses 6 [])
unfolding locate_radio
one_number code i j is s r x = let a = read code s r x in (says code s r a (λ k v. radio_in_lem [] v), says code s r a (λ k v. radio_in_lem (i ∷ j ∷ is) v))

module _ (code : ℕ) (s : List ℕ) (k : TextKind) (r : Consumed) (i : ℕ) (y : text_kind code ≡ gives k) (x : read_text code s ≡ gives r) where
  so_many : length (read code s r x).value.texts.each ≡ k.many
  so_many = let a = read code s r x in texts code s r a ∙ ap (λ k. k.many) (given _ k (sym a.is ∙ y))

  every_text : i < k.many → ValidText (locate_text_lem code i s) s r.consumed
  every_text l =
      let a = read code s r x in
      let z = so_many in
      shown_text code s r a (locate_text_lem code i s) a.kind.piece a.value.texts.each i (text_asked code s r a i) (valid a.kind s a.value a.reads).own (omega arith) (text_lies code s r a i)

  beyond : k.many ≤ i → locate_text_lem code i s ≡ refuses 6 []
  beyond l =
      let a = read code s r x in
      let z = so_many in
      text_asked code s r a i ∙ mapped_refused _ _ 6 [] (nth_past a.value.texts.each i (omega arith))

whole_alone : (code : ℕ) (k : TextKind) → text_kind code ≡ gives k → (s : List ℕ) (v : Laid) → whole_of k s ≡ gives v → whole_of k (take v.radios.end s) ≡ gives v
whole_alone = each (λ k. (s : List ℕ) (v : Laid) → whole_of k s ≡ gives v → whole_of k (take v.radios.end s) ≡ gives v)
    (λ s v e. counted_alone fields s v e tt) all_alone (λ s v e. counted_alone inventory s v e tt)

-- what is asked of the consumed bytes is what is asked of the value
module _ (code : ℕ) (s : List ℕ) (r : Consumed) (x : read_text code s ≡ gives r) where
  abbrev t : List ℕ
  t = take r.consumed s

  a : Read code s r
  a = read code s r x

  alone_reads : whole_of a.kind t ≡ gives a.value
  alone_reads = ap (λ q. whole_of a.kind (take q s)) (sym (end code s r a)) ∙ whole_alone code a.kind a.is s a.value a.reads

  fits : r.consumed ≤ length s
  fits = (ends code s r a).1

  same : {A : Type 0} (f : TextKind → Laid → Answer A) → of_text code f t ≡ f a.kind a.value
  same f = answers code f t a.kind a.value a.is alone_reads

  -- a text is where it was
  still : (l : Layout) (rs : List Span) (i p q : ℕ) → q ≤ r.consumed → ((e : Span) → nth_of rs i ≡ gives e → Among l s p q e) →
      mapped (text_span_lem l t) (nth_of rs i) ≡ mapped (text_span_lem l s) (nth_of rs i)
  still l rs i p q b lies = go (nth_of rs i) refl where
    go : (y : Answer Span) → nth_of rs i ≡ y → mapped (text_span_lem l t) y ≡ mapped (text_span_lem l s) y
    go (gives e) x = let c = lies e x in let h = c.high in ap gives (span_same s r.consumed fits l e.start e.end (omega arith) c.reads)
    go (refuses n vs) x = refl

  text : (i : ℕ) → locate_text_lem code i t ≡ mapped (text_span_lem a.kind.piece s) (nth_of a.value.texts.each i)
  unfolding locate_text_lem
  text i = same (λ k v. mapped (text_span_lem k.piece t) (nth_of v.texts.each i)) ∙ still a.kind.piece a.value.texts.each i _ _ (ends code s r a).0 (text_among a.kind s a.value a.reads i)

  radio_text : code ≡ 0xD4 → (i : ℕ) → locate_radio_text_lem i t ≡ mapped (text_span_lem radio s) (nth_of a.value.radios.each i)
  radio_text c i =
      let z = end code s r a in
      radio_text_is i t ∙ ap (mapped (text_span_lem radio t)) (ap (λ n. of_text n (λ k v. radio_in_lem (i ∷ []) v) t) (sym c) ∙ same (λ k v. radio_in_lem (i ∷ []) v)) ∙
      still radio a.value.radios.each i _ _ (omega arith) (radio_among a.kind s a.value a.reads i)

  part : (x y z : Answer Span) → x ≡ z → y ≡ z → ((p : Span) → z ≡ gives p → Inside p r.consumed) → part_of x t ≡ part_of y s
  part x y z d e inside = ap (λ y. part_of y t) d ∙ part_same z s r.consumed fits inside ∙ ap (λ y. part_of y s) (sym e)

  alone : TextAlone code s r
  unfolding read_text locate_radio count_radios
  alone =
      let w = fits in
      let l : length t ≡ r.consumed = length-take-le r.consumed s w in
      let e = end code s r a in
      let none : length t - a.value.radios.end ≡ 0 = omega arith in
      let m = many code s r a in
      record {
        reads = follows (text_kind code) a.kind _ a.is ∙ mapped_given (consumed_in t) _ _ alone_reads ∙ rw (none, e, m);
        counts = λ is. same (λ k v. radio_count is v) ∙ sym (says code s r a (λ k v. radio_count is v));
        located = λ is. same (λ k v. radio_in_lem is v) ∙ sym (says code s r a (λ k v. radio_in_lem is v));
        parts = λ is. part _ _ _ (same (λ k v. radio_in_lem is v)) (says code s r a (λ k v. radio_in_lem is v)) (radio_lies code s r a is);
        texts = λ i. text i ∙ sym (text_asked code s r a i);
        text_parts = λ i. part _ _ _ (text i) (text_asked code s r a i) (text_lies code s r a i);
        radio_texts = λ c i. radio_text c i ∙ sym (radio_text_asked code s r a c i);
        radio_text_parts = λ c i. part _ _ _ (radio_text c i) (radio_text_asked code s r a c i) (radio_text_lies code s r a i);
      }

pub consumed_alone : TextsAlone
consumed_alone = alone

pub values : TextValues
values = record {
  other_codes = other_codes;
  consumed_within = consumed_within;
  no_rest = no_rest;
  own_count = own_count;
  no_lower_count = no_lower_count;
  no_radios = no_radios;
  every_radio = every_radio;
  every_radio_text = every_radio_text;
  no_other = no_other;
  one_number = one_number;
  every_text = every_text;
  beyond = beyond;
}

pub claims : Claims
claims = record { firmness = firmness; values = values; consumed_alone = consumed_alone }
