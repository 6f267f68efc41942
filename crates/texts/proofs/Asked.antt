-- What was asked of a value that reads: the kind, the value, and where what was found lies in it.
use mathlib.Core.Path.{◌≡◌, refl, sym, ◌∙◌}
use mathlib.Core.List.{List, [], ◌∷◌}
use Prim.Native.Nat.{ℕ, zero, suc, ◌≤◌}
use native.Mathlib.Omega.{arith}
use lib.ListN.{length}
use Rattle.numbers.specs.Numbers.{Answer, gives, refuses, mapped, and_then}
use Rattle.numbers.proofs.Firm.{never}
use Rattle.numbers.proofs.Answers.{given, gave, mapped_gave, follows}
use Rattle.layouts.specs.Layouts.{Layout}
use Rattle.layouts.specs.declared.Span.{Span}
use Rattle.layouts.specs.Access.{numbers, nth_of}
use Rattle.layouts.proofs.Within.{Within, end_within}
use Rattle.layouts.proofs.Finding.{numbers_more}
use Rattle.texts.specs.Texts.{TextKind, text_kind, radio}
use Rattle.texts.specs.Reading.{text_span_lem, Laid, whole_of}
use Rattle.texts.specs.Access.{of_text, radio_in_lem, radio_count, locate_radio, locate_text_lem, locate_radio_text_lem}
use Rattle.texts.specs.PrivateSteps.{InValue}
use Rattle.texts.proofs.Laws.{text_lies, Among, among}
use Rattle.texts.proofs.Whole.{parts, valid}

pub record Asked (A : Type 0) (code : ℕ) (f : TextKind → Laid → Answer A) (s : List ℕ) (a : A) : Type 0 where
  pub kind : TextKind
  pub is : text_kind code ≡ gives kind
  pub value : Laid
  pub reads : whole_of kind s ≡ gives value
  pub says : f kind value ≡ gives a

pub asked : {A : Type 0} (code : ℕ) (f : TextKind → Laid → Answer A) (s : List ℕ) (a : A) → of_text code f s ≡ gives a → Asked A code f s a
unfolding of_text
asked code f s a e =
    let k = gave (text_kind code) (λ k. and_then (whole_of k s) (λ v. f k v)) a e in
    let v = gave (whole_of k.first s) (λ v. f k.first v) a k.then in
    record { kind = k.first; is = k.is; value = v.first; reads = v.is; says = v.then }

pub answers : {A : Type 0} (code : ℕ) (f : TextKind → Laid → Answer A) (s : List ℕ) (k : TextKind) (v : Laid) → text_kind code ≡ gives k → whole_of k s ≡ gives v → of_text code f s ≡ f k v
unfolding of_text
answers code f s k v x y = follows (text_kind code) k (λ k. and_then (whole_of k s) (λ v. f k v)) x ∙ follows (whole_of k s) v (λ v. f k v) y

-- what was found lies in the value that was read
module _ (k : TextKind) (s : List ℕ) (v : Laid) (e : whole_of k s ≡ gives v) (i : ℕ) (a : Span) where
  pub text_among : nth_of v.texts.each i ≡ gives a → Among k.piece s 0 v.texts.end a
  text_among x = among k.piece k.many i s 0 v.texts (parts k s v (valid k s v e).laid).own a x

  pub radio_among : nth_of v.radios.each i ≡ gives a → Among radio s v.list.first v.radios.end a
  radio_among x = among radio v.list.many i s v.list.first v.radios (parts k s v (valid k s v e).laid).each a x

-- radios are counted without a number
module _ (d i j k : ℕ) (v : Laid) where
  pub count_all : d ≡ 0 → radio_count (numbers d i j k) v ≡ gives v.list.many
  count_all x = rw x

  pub count_under : (d ≡ 0 → ⊥) → radio_count (numbers d i j k) v ≡ refuses 6 []
  count_under ne = rw (numbers_more d i j k (omega arith))

  -- one is asked for by one number
  pub one_number : d ≡ 1 → radio_in_lem (numbers d i j k) v ≡ nth_of v.radios.each i
  one_number x = rw x

pub no_radio : (d i j k : ℕ) (v : Laid) → (d ≡ 1 → ⊥) → radio_in_lem (numbers d i j k) v ≡ refuses 6 []
no_radio zero i j k v ne = refl
no_radio (suc zero) i j k v ne = absurd (ne refl)
no_radio (suc (suc d)) i j k v ne = refl

pub record Found (ns : List ℕ) (v : Laid) (r : Span) : Type 0 where
  pub number : ℕ
  pub one : ns ≡ number ∷ []
  pub is : nth_of v.radios.each number ≡ gives r

pub one_radio : (is : List ℕ) (v : Laid) (r : Span) → radio_in_lem is v ≡ gives r → Found is v r
one_radio [] v r e = never r 6 [] (sym e)
one_radio (i ∷ []) v r e = record { number = i; one = refl; is = e }
one_radio (i ∷ j ∷ is) v r e = never r 6 [] (sym e)

pub in_value : (x : Answer Span) (s : List ℕ) → ((r : Span) → x ≡ gives r → Within r.start r.end s) → InValue x s
in_value (gives r) s inside = inside r refl
in_value (refuses n vs) s inside = tt

-- a span in the first q bytes
abbrev pub Inside : Span → ℕ → Type 0
Inside r q = (r.start ≤ r.end) × (r.end ≤ q)

pub text_inside : (l : Layout) (s : List ℕ) (p q : ℕ) (a : Span) → Among l s p q a → Inside (text_span_lem l s a) q
text_inside l s p q a b = let t = text_lies l s a.start a.end b.reads in let h = b.high in (t.ordered, omega arith)

-- each of the three parts lies in the value
pub radio_within : (code : ℕ) (is s : List ℕ) (r : Span) → locate_radio code is s ≡ gives r → Within r.start r.end s
unfolding locate_radio
radio_within code is s r e =
    let a = asked code (λ k v. radio_in_lem is v) s r e in
    let f = one_radio is a.value r a.says in
    end_within radio s r.start r.end (radio_among a.kind s a.value a.reads f.number r f.is).reads

pub text_within : (code i : ℕ) (s : List ℕ) (r : Span) → locate_text_lem code i s ≡ gives r → Within r.start r.end s
unfolding locate_text_lem
text_within code i s r e =
    let a = asked code (λ k v. mapped (text_span_lem k.piece s) (nth_of v.texts.each i)) s r e in
    let m = mapped_gave (text_span_lem a.kind.piece s) (nth_of a.value.texts.each i) r a.says in
    let b = text_among a.kind s a.value a.reads i m.first m.is in
    let t = text_lies a.kind.piece s m.first.start m.first.end b.reads in
    let w = end_within a.kind.piece s m.first.start m.first.end b.reads in
    rw (← (given _ r m.then)) (t.ordered, omega arith)

pub radio_text_within : (i : ℕ) (s : List ℕ) (r : Span) → locate_radio_text_lem i s ≡ gives r → Within r.start r.end s
unfolding locate_radio locate_radio_text_lem
radio_text_within i s r e =
    let m = mapped_gave (text_span_lem radio s) (locate_radio 0xD4 (i ∷ []) s) r e in
    let a = asked 0xD4 (λ k v. radio_in_lem (i ∷ []) v) s m.first m.is in
    let b = radio_among a.kind s a.value a.reads i m.first a.says in
    let t = text_lies radio s m.first.start m.first.end b.reads in
    let w = end_within radio s m.first.start m.first.end b.reads in
    rw (← (given _ r m.then)) (t.ordered, omega arith)

pub radio_ordered : (code : ℕ) (is s : List ℕ) (r : Span) → locate_radio code is s ≡ gives r → r.start ≤ r.end
radio_ordered code is s r e = (radio_within code is s r e).0

pub radio_inside : (code : ℕ) (is s : List ℕ) (r : Span) → locate_radio code is s ≡ gives r → r.end ≤ length s
radio_inside code is s r e = (radio_within code is s r e).1

-- so each lies in the value, where it is found
pub radio_lies : (code : ℕ) (is s : List ℕ) → InValue (locate_radio code is s) s
radio_lies code is s = in_value (locate_radio code is s) s (radio_within code is s)

pub text_lies_lem : (code i : ℕ) (s : List ℕ) → InValue (locate_text_lem code i s) s
text_lies_lem code i s = in_value (locate_text_lem code i s) s (text_within code i s)

pub radio_text_lies : (i : ℕ) (s : List ℕ) → InValue (locate_radio_text_lem i s) s
radio_text_lies i s = in_value (locate_radio_text_lem i s) s (radio_text_within i s)
