-- A value that is there whole: its layout in the steps of the code, and what it came of.
use mathlib.Core.Path.{◌≡◌, refl, sym, ap, ◌∙◌}
use mathlib.Core.Bool.{Bool, true, false, cond}
use mathlib.Core.List.{List, []}
use Prim.Native.Nat.{ℕ, ◌≤◌}
use native.Mathlib.Omega.{arith}
use lib.ListN.{length}
use Rattle.numbers.specs.Numbers.{Answer, gives, refuses, and_then, mapped}
use Rattle.numbers.proofs.Firm.{never}
use Rattle.numbers.proofs.Answers.{given, gave, mapped_gave, mapped_given, follows, stops, regrouped}
use Rattle.layouts.specs.Layouts.{Layout, c1_of}
use Rattle.layouts.specs.Rows.{row_layout}
use Rattle.layouts.specs.declared.ListAt.{ListAt}
use Rattle.layouts.specs.Reading.{entries_end, end_of}
use Rattle.layouts.specs.declared.Span.{Span}
use Rattle.layouts.specs.Access.{numbers, nth_of, Spans, spans_from}
use Rattle.layouts.proofs.Within as layouts
use Rattle.layouts.proofs.Within.{Within, end_within}
use Rattle.layouts.proofs.Spans.{spans_end, spans_within}
use Rattle.texts.specs.Texts.{TextKind, radio}
use Rattle.texts.specs.Reading.{text_span_lem, radio_list_lem, radios_in_lem, Laid, laid_of, all_valid_lem, valid_of, whole_of}
use Rattle.texts.specs.declared.reading.Outline.{Outline}
use Rattle.texts.specs.declared.rows.TextRow.{TextRow}
use Rattle.texts.specs.PrivateSteps.{row_kind, valid_in, nth_at, outline_of}
use Rattle.texts.specs.Access.{radio_in_lem}
use Rattle.texts.proofs.Laws.{nth_held, Among, among}

-- the outline of a value: where its pieces end, its list, and where its radios end
abbrev pub outlined : List ℕ → ListAt → Answer Outline
outlined s m = mapped (λ q. record { list = m; end = q }) (entries_end (end_of radio s) m.many m.first)

pub outline_steps : (k : TextKind) (s : List ℕ) →
    mapped outline_of (laid_of k s) ≡ and_then (radios_in_lem k s) (outlined s)
unfolding laid_of radios_in_lem
outline_steps k s =
    own (spans_from (end_of k.piece s) k.many 0) ∙ ap (λ x. and_then x (λ p. and_then (radio_list_lem k.radios s p) (outlined s))) (spans_end (end_of k.piece s) k.many 0) ∙
    sym (regrouped (entries_end (end_of k.piece s) k.many 0) (λ p. radio_list_lem k.radios s p) (outlined s))
  where
    ends : (t : Spans) (m : ListAt) (y : Answer Spans) →
        mapped outline_of (mapped (λ r. record { texts = t; list = m; radios = r }) y) ≡ mapped (λ q. record { list = m; end = q }) (mapped (λ r. r.end) y)
    ends t m (gives r) = refl
    ends t m (refuses n vs) = refl

    list : (t : Spans) (y : Answer ListAt) →
        mapped outline_of (and_then y (λ m. mapped (λ r. record { texts = t; list = m; radios = r }) (spans_from (end_of radio s) m.many m.first))) ≡ and_then y (outlined s)
    list t (gives m) = ends t m (spans_from (end_of radio s) m.many m.first) ∙ ap (mapped (λ q. record { list = m; end = q })) (spans_end (end_of radio s) m.many m.first)
    list t (refuses n vs) = refl

    own : (y : Answer Spans) →
        mapped outline_of (and_then y (λ t. and_then (radio_list_lem k.radios s t.end) (λ m. mapped (λ r. record { texts = t; list = m; radios = r }) (spans_from (end_of radio s) m.many m.first)))) ≡
        and_then (mapped (λ r. r.end) y) (λ p. and_then (radio_list_lem k.radios s p) (outlined s))
    own (gives t) = list t (radio_list_lem k.radios s t.end)
    own (refuses n vs) = refl

-- what a layout that is there came of
pub record Parts (k : TextKind) (s : List ℕ) (v : Laid) : Type 0 where
  pub own : spans_from (end_of k.piece s) k.many 0 ≡ gives v.texts
  pub counts : radio_list_lem k.radios s v.texts.end ≡ gives v.list
  pub each : spans_from (end_of radio s) v.list.many v.list.first ≡ gives v.radios

pub parts : (k : TextKind) (s : List ℕ) (v : Laid) → laid_of k s ≡ gives v → Parts k s v
unfolding laid_of
parts k s v e =
    let t = gave (spans_from (end_of k.piece s) k.many 0) (λ t. and_then (radio_list_lem k.radios s t.end) (λ m. mapped (λ r. record { texts = t; list = m; radios = r }) (spans_from (end_of radio s) m.many m.first))) v e in
    let m = gave (radio_list_lem k.radios s t.first.end) (λ m. mapped (λ r. record { texts = t.first; list = m; radios = r }) (spans_from (end_of radio s) m.many m.first)) v t.then in
    let r = mapped_gave (λ r. record { texts = t.first; list = m.first; radios = r }) (spans_from (end_of radio s) m.first.many m.first.first) v m.then in
    let is : record { texts = t.first; list = m.first; radios = r.first } ≡ v = given _ v r.then in
    rw (← is) (record { own = t.is; counts = m.is; each = r.is })

-- its radios are where their list says
pub radios_there : (k : TextKind) (s : List ℕ) (v : Laid) → laid_of k s ≡ gives v → radios_in_lem k s ≡ gives v.list
unfolding radios_in_lem
radios_there k s v e =
    let p = parts k s v e in
    let own = sym (spans_end (end_of k.piece s) k.many 0) ∙ mapped_given (λ r. r.end) _ _ p.own in
    follows _ _ _ own ∙ p.counts

-- its texts are valid, or not
module _ (k : TextKind) (v : Laid) (s : List ℕ) where
  pub valid_all : all_valid_lem k.piece s v.texts.each ≡ true → all_valid_lem radio s v.radios.each ≡ true → valid_of k v s ≡ gives v
  unfolding valid_of
  valid_all a b = rw (a, b)

  bad_own : all_valid_lem k.piece s v.texts.each ≡ false → valid_of k v s ≡ refuses 18 []
  unfolding valid_of
  bad_own a = rw a

  bad_radio : all_valid_lem k.piece s v.texts.each ≡ true → all_valid_lem radio s v.radios.each ≡ false → valid_of k v s ≡ refuses 18 []
  unfolding valid_of
  bad_radio a b = rw (a, b)

-- an outline that was answered is that of a value; a refusal is the value's
pub record Whole (x : Answer Laid) (o : Outline) : Type 0 where
  pub value : Laid
  pub is : x ≡ gives value
  pub list : value.list ≡ o.list
  pub end : value.radios.end ≡ o.end

pub whole_of_lem : (x : Answer Laid) (o : Outline) → mapped outline_of x ≡ gives o → Whole x o
whole_of_lem x o e =
    let m = mapped_gave outline_of x o e in
    let z = given (outline_of m.first) o m.then in
    record { value = m.first; is = m.is; list = ap (λ o. o.list) z; end = ap (λ o. o.end) z }

pub not_outlined : (x : Answer Laid) (n : ℕ) (vs : List ℕ) → mapped outline_of x ≡ refuses n vs → x ≡ refuses n vs
not_outlined (gives v) n vs e = never _ n vs e
not_outlined (refuses m us) n vs e = let a : m ≡ n = cc in let b : us ≡ vs = cc in rw (a, b)

pub not_read : {A : Type 0} (k : TextKind) (s : List ℕ) (f : Laid → Answer A) (n : ℕ) (vs : List ℕ) → mapped outline_of (whole_of k s) ≡ refuses n vs → refuses n vs ≡ and_then (whole_of k s) f
not_read k s f n vs e = sym (stops (whole_of k s) n vs f (not_outlined (whole_of k s) n vs e))

module _ (k : TextKind) (s : List ℕ) where
  -- a value that is cut, and one that is there, with texts that are valid or not
  pub whole_cut : (n : ℕ) (vs : List ℕ) → laid_of k s ≡ refuses n vs → whole_of k s ≡ refuses n vs
  unfolding whole_of
  whole_cut n vs e = stops _ n vs _ e

  module _ (v : Laid) (e : laid_of k s ≡ gives v) where
    on : whole_of k s ≡ valid_of k v s
    unfolding whole_of
    on = follows _ v _ e

    own_valid : valid_in k.piece s (spans_from (end_of k.piece s) k.many 0) ≡ all_valid_lem k.piece s v.texts.each
    own_valid = ap (valid_in k.piece s) (parts k s v e).own

    radios_valid : valid_in radio s (spans_from (end_of radio s) v.list.many v.list.first) ≡ all_valid_lem radio s v.radios.each
    radios_valid = ap (valid_in radio s) (parts k s v e).each

    pub whole_good : valid_in k.piece s (spans_from (end_of k.piece s) k.many 0) ≡ true → valid_in radio s (spans_from (end_of radio s) v.list.many v.list.first) ≡ true → whole_of k s ≡ gives v
    whole_good a b = on ∙ valid_all k v s (sym own_valid ∙ a) (sym radios_valid ∙ b)

    pub whole_bad_own : valid_in k.piece s (spans_from (end_of k.piece s) k.many 0) ≡ false → whole_of k s ≡ refuses 18 []
    whole_bad_own a = on ∙ bad_own k v s (sym own_valid ∙ a)

    pub whole_bad_radio : valid_in k.piece s (spans_from (end_of k.piece s) k.many 0) ≡ true → valid_in radio s (spans_from (end_of radio s) v.list.many v.list.first) ≡ false → whole_of k s ≡ refuses 18 []
    whole_bad_radio a b = on ∙ bad_radio k v s (sym own_valid ∙ a) (sym radios_valid ∙ b)

-- what a value that reads came of: its layout, and that its texts are valid
pub record Valid (k : TextKind) (s : List ℕ) (v : Laid) : Type 0 where
  pub laid : laid_of k s ≡ gives v
  pub own : all_valid_lem k.piece s v.texts.each ≡ true
  pub radios : all_valid_lem radio s v.radios.each ≡ true

pub valid : (k : TextKind) (s : List ℕ) (v : Laid) → whole_of k s ≡ gives v → Valid k s v
unfolding whole_of valid_of
valid k s v e =
    let g = gave (laid_of k s) (λ v. valid_of k v s) v e in
    go g.first g.is (all_valid_lem k.piece s g.first.texts.each) refl (all_valid_lem radio s g.first.radios.each) refl g.then
  where
    go : (w : Laid) → laid_of k s ≡ gives w → (a : Bool) → all_valid_lem k.piece s w.texts.each ≡ a → (b : Bool) → all_valid_lem radio s w.radios.each ≡ b →
        cond a (cond b (gives w) (refuses 18 [])) (refuses 18 []) ≡ gives v → Valid k s v
    go w l true a true b e = rw (← (given w v e)) (record { laid = l; own = a; radios = b })
    go w l true a false b e = never v 18 [] (sym e)
    go w l false a c b e = never v 18 [] (sym e)

-- of a value that is there: where its parts lie, and which each number asks for
module _ (k : TextKind) (s : List ℕ) (v : Laid) (e : laid_of k s ≡ gives v) where
  pub own_within : Within 0 v.texts.end s
  own_within = spans_within (end_of k.piece s) s (end_within k.piece s) k.many 0 v.texts (omega arith) (parts k s v e).own

  pub list_within : Within v.texts.end v.list.first s
  unfolding radio_list_lem
  list_within = go k.radios (parts k s v e).counts where
    go : (b : Bool) → radio_list_lem b s v.texts.end ≡ gives v.list → Within v.texts.end v.list.first s
    go false e = let y : v.texts.end ≡ v.list.first = ap (λ m. m.first) (given _ v.list e) in let w = own_within in omega arith
    go true e = layouts.list_within (c1_of radio) s v.texts.end v.list e

  pub each_within : Within v.list.first v.radios.end s
  each_within = spans_within (end_of radio s) s (end_within radio s) v.list.many v.list.first v.radios list_within.1 (parts k s v e).each

-- the same of a value whose outline was answered
module _ (k : TextKind) (s : List ℕ) (o : Outline) (w : Whole (whole_of k s) o) where
  there : laid_of k s ≡ gives w.value
  there = (valid k s w.value w.is).laid

  pub whole_end : o.end ≤ length s
  whole_end = rw (← w.end) (each_within k s w.value there).1

  pub text_found : (i : ℕ) → nth_at k.piece k.many i s 0 ≡ nth_of w.value.texts.each i
  text_found i = nth_held k.piece k.many i s 0 w.value.texts (parts k s w.value there).own

  pub radio_found : (i : ℕ) → nth_at radio o.list.many i s o.list.first ≡ nth_of w.value.radios.each i
  radio_found i = rw (← w.list) (nth_held radio w.value.list.many i s w.value.list.first w.value.radios (parts k s w.value there).each)

-- in the code's terms, of a value whose outline was answered
module _ (k : TextKind) (s : List ℕ) (o : Outline) (e : mapped outline_of (whole_of k s) ≡ gives o) where
  abbrev whole : Whole (whole_of k s) o
  whole = whole_of_lem (whole_of k s) o e

  pub outline_inside : o.end ≤ length s
  outline_inside = whole_end k s o whole

  -- its radio with this number
  pub radio_asked : (d i j m : ℕ) → d ≡ 1 → and_then (whole_of k s) (λ v. radio_in_lem (numbers d i j m) v) ≡ nth_at radio o.list.many i s o.list.first
  radio_asked d i j m x = follows (whole_of k s) whole.value _ whole.is ∙ rw x (sym (radio_found k s o whole i))

-- and its text with this number, of a row of the table
module _ (row : TextRow) (s : List ℕ) (o : Outline) (e : mapped outline_of (whole_of (row_kind row) s) ≡ gives o) where
  abbrev l : Layout
  l = row_layout row.piece

  value : Whole (whole_of (row_kind row) s) o
  value = whole_of_lem (whole_of (row_kind row) s) o e

  abbrev asked : ℕ → Answer Span
  asked i = and_then (whole_of (row_kind row) s) (λ v. mapped (text_span_lem l s) (nth_of v.texts.each i))

  text_asked : (i : ℕ) → asked i ≡ mapped (text_span_lem l s) (nth_at l row.many i s 0)
  text_asked i = follows (whole_of (row_kind row) s) value.value _ value.is ∙ ap (mapped (text_span_lem l s)) (sym (text_found (row_kind row) s o value i))

  pub text_missing : (i n : ℕ) (vs : List ℕ) → nth_at l row.many i s 0 ≡ refuses n vs → asked i ≡ refuses n vs
  text_missing i n vs x = text_asked i ∙ rw x

  module _ (i : ℕ) (a : Span) (x : nth_at l row.many i s 0 ≡ gives a) where
    pub text_there : (t : Span) → t ≡ text_span_lem l s a → asked i ≡ gives t
    text_there t y = text_asked i ∙ rw (x, y)

    own : Among l s 0 value.value.texts.end a
    own = among l row.many i s 0 value.value.texts (parts (row_kind row) s value.value (there (row_kind row) s o value)).own a (sym (text_found (row_kind row) s o value i) ∙ x)

    pub piece_ordered : a.start ≤ a.end
    piece_ordered = (end_within l s a.start a.end own.reads).0

    pub piece_inside : a.end ≤ length s
    piece_inside = (end_within l s a.start a.end own.reads).1
