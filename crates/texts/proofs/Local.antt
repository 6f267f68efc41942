-- What is read depends on the consumed bytes alone: in the first m bytes, the entries that end there read the same, and
-- their texts are the same.
use mathlib.Core.Path.{◌≡◌, refl, sym, ap, ◌∙◌}
use mathlib.Core.Bool.{Bool, true, false}
use mathlib.Core.List.{List}
use Prim.Native.Nat.{ℕ, zero, suc, ◌+◌, ◌-◌, ◌≤◌}
use native.Mathlib.Nat.{div-one}
use native.Mathlib.Omega.{arith}
use lib.Dec.{T}
use lib.ListN.{length, take}
use lib.Seq.{take_all}
use Rattle.numbers.specs.Numbers.{gives}
use Rattle.numbers.proofs.Answers.{given, follows, mapped_given}
use Rattle.layouts.specs.Layouts.{to_end, Layout, bytes, entry, c1_of, to_end_of}
use Rattle.layouts.specs.declared.ListAt.{ListAt}
use Rattle.layouts.specs.Reading.{count_at_lem, end_of}
use Rattle.layouts.specs.Access.{part_of, Spans, spans_from}
use Rattle.layouts.proofs.Within.{behind_head, ends_in, end_within}
use Rattle.layouts.proofs.Table.{all_counted}
use Rattle.layouts.proofs.Spans.{none, cons, spans_within, plain_start}
use Rattle.layouts.proofs.Local.{Agree, taken, list_local, spans_local, end_local}
use Rattle.layouts.proofs.Claims.{part_alone}
use Rattle.texts.specs.Texts.{TextKind, radio}
use Rattle.texts.specs.Reading.{text_span_lem, radio_list_lem, Laid, laid_of, text_in_lem, all_valid_lem, whole_of}
use Rattle.texts.proofs.Laws.{text_lies}
use Rattle.texts.proofs.Whole.{Parts, parts, valid, valid_all, own_within, list_within, each_within}

module _ (s : List ℕ) (m : ℕ) (fits : m ≤ length s) where
  abbrev t : List ℕ
  t = take m s

  agree : Agree m s t
  agree = taken m s fits

  entries : (l : Layout) → T (all_counted l) → (n p : ℕ) (r : Spans) → r.end ≤ m → spans_from (end_of l s) n p ≡ gives r → spans_from (end_of l t) n p ≡ gives r
  entries l c = spans_local s t m agree (end_of l s) (end_of l t) (end_within l s) (λ p q. end_local s t m agree l p q c)

  radios : (b : Bool) (p : ℕ) (l : ListAt) → l.first ≤ m → radio_list_lem b s p ≡ gives l → radio_list_lem b t p ≡ gives l
  unfolding radio_list_lem
  radios false p l b e = e
  radios true p l b e = list_local s t m agree (c1_of radio) p l tt b e

  pub span_same : (l : Layout) (p q : ℕ) → q ≤ m → end_of l s p ≡ gives q → text_span_lem l t (record { start = p; end = q }) ≡ text_span_lem l s (record { start = p; end = q })
  unfolding text_span_lem
  span_same (bytes n) p q b e = rw (part_alone s p m q (end_within (bytes n) s p q e).0 b fits)
  span_same (entry n w f) p q b e = refl

  text_same : (l : Layout) (p q : ℕ) → q ≤ m → end_of l s p ≡ gives q → text_in_lem l t (record { start = p; end = q }) ≡ text_in_lem l s (record { start = p; end = q })
  text_same l p q b e =
      let x = text_lies l s p q e in
      let r = text_span_lem l s (record { start = p; end = q }) in
      ap (λ r. part_of (gives r) t) (span_same l p q b e) ∙ part_alone s r.start m r.end x.ordered (omega (arith, x.high)) fits

  valid_same : (l : Layout) (n p : ℕ) (r : Spans) → r.end ≤ m → spans_from (end_of l s) n p ≡ gives r → all_valid_lem l t r.each ≡ all_valid_lem l s r.each
  valid_same l zero p r b e = ap (λ r. all_valid_lem l t r.each) (sym (none (end_of l s) p r e)) ∙ ap (λ r. all_valid_lem l s r.each) (none (end_of l s) p r e)
  valid_same l (suc n) p r b e =
      let c = cons (end_of l s) n p r e in
      let a = end_within l s p c.stop c.reads in
      let w = spans_within (end_of l s) s (end_within l s) n c.stop c.others a.1 c.are in
      let z : c.others.end ≡ r.end = ap (λ r. r.end) c.all in
      ap (λ r. all_valid_lem l t r.each) (sym c.all) ∙
      rw (text_same l p c.stop (omega arith) c.reads, valid_same l n c.stop c.others (omega arith) c.are) (ap (λ r. all_valid_lem l s r.each) c.all)

-- a value that reads whole reads the same in the bytes that it consumes, if every list of its pieces has a count
module _ (k : TextKind) (s : List ℕ) (v : Laid) (e : whole_of k s ≡ gives v) where
  laid : laid_of k s ≡ gives v
  laid = (valid k s v e).laid

  from : Parts k s v
  from = parts k s v laid

  pub counted_alone : T (all_counted k.piece) → whole_of k (take v.radios.end s) ≡ gives v
  unfolding whole_of laid_of
  counted_alone c =
      let m = v.radios.end in
      let a = own_within k s v laid in
      let b = list_within k s v laid in
      let d = each_within k s v laid in
      let x = entries s m d.1 k.piece c k.many 0 v.texts (omega arith) from.own in
      let y = radios s m d.1 k.radios v.texts.end v.list (omega arith) from.counts in
      let z = entries s m d.1 radio tt v.list.many v.list.first v.radios (omega arith) from.each in
      let there : laid_of k (take m s) ≡ gives v = follows _ _ _ x ∙ follows _ _ _ y ∙ mapped_given _ _ _ z in
      let f = valid_same s m d.1 k.piece k.many 0 v.texts (omega arith) from.own ∙ (valid k s v e).own in
      let g = valid_same s m d.1 radio v.list.many v.list.first v.radios (omega arith) from.each ∙ (valid k s v e).radios in
      follows _ v _ there ∙ valid_all k v (take m s) f g

-- a text to the end leaves nothing after it
to_end_all : (s : List ℕ) (q : ℕ) → end_of (to_end_of (bytes 1)) s 0 ≡ gives q → q ≡ length s
unfolding count_at_lem
to_end_all s q e =
    let g = ends_in 0 to_end (bytes 1) s 0 q e in
    let c = given _ g.list (behind_head 0 to_end (bytes 1) s 0 g.list g.has).counts in
    let first : 0 + 0 ≡ g.list.first = ap (λ m. m.first) c in
    let many : length s - (0 + 0) ≡ g.list.many = sym (div-one (length s - (0 + 0))) ∙ ap (λ m. m.many) c in
    let p = plain_start 1 s g.list.many g.list.first q g.ends in
    omega arith

-- the whole value
abbrev pub whole_value : TextKind
whole_value = record { many = 1; piece = to_end_of (bytes 1); radios = false }

module _ (s : List ℕ) (v : Laid) (e : whole_of whole_value s ≡ gives v) where
  pub all_consumed : v.radios.end ≡ length s
  all_consumed =
      let l = (valid whole_value s v e).laid in
      let f = end_of (to_end_of (bytes 1)) s in
      let c = cons f 0 0 v.texts (parts whole_value s v l).own in
      let z = to_end_all s c.stop c.reads in
      let n : c.stop ≡ c.others.end = ap (λ r. r.end) (none f c.stop c.others c.are) in
      let x : c.others.end ≡ v.texts.end = ap (λ r. r.end) c.all in
      let b = list_within whole_value s v l in
      let d = each_within whole_value s v l in
      omega arith

  pub all_alone : whole_of whole_value (take v.radios.end s) ≡ gives v
  all_alone = let z = all_consumed in rw (take_all v.radios.end s (omega arith)) e
