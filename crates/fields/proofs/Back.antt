-- What was written, wherever it stands, reads as the same fields.
use mathlib.Core.Path.{◌≡◌, refl, sym, ap, ◌∙◌}
use mathlib.Core.Bool.{Bool, true, false, cond, ◌&&◌}
use mathlib.Core.List.{List, [], ◌∷◌, ◌++◌, append_assoc, append-nil}
use Prim.Native.Nat.{ℕ, zero, suc, ◌+◌}
use native.Mathlib.Omega.{arith}
use borrow.Author.Tests.{eqb-true, leb-true, le-leb}
use lib.Dec.{eqb, leb, T}
use lib.ListN.{length, take, drop, length-append}
use lib.Seq.{length-take-le, take_at, drop-append_seam, drop-append-add, get_or-append_seam, take-append_seam}
use Rattle.numbers.specs.Numbers.{gives, refuses, mapped}
use Rattle.numbers.proofs.Firm.{never}
use Rattle.numbers.proofs.Answers.{given, gave, follows, mapped_given}
use Rattle.layouts.specs.Layouts.{size_of}
use Rattle.layouts.proofs.Within.{reaches}
use Rattle.fields.specs.declared.parts.TextPlace.{TextPlace}
use Rattle.fields.specs.Fields.{fields_at, text_at, WithText, nothing_there, entry_at, Fielded, row_for, fields_for, entry_for}
use Rattle.fields.specs.Answers.{crossing, zero_filled}
use Rattle.fields.specs.Writing.{only_zeros_lem, text_bytes, longest_text_lem, entry_of, entry_in}
use Rattle.fields.proofs.Laws.{tested, every, each, text_there}

-- what an entry was made of
pub record MadeOf (text : Bool) (fs : List Fielded) (code : ℕ) (bs t bytes : List ℕ) : Type 0 where
  pub row : Fielded
  pub is_row : row_for fs code ≡ gives row
  pub zeros : only_zeros_lem (drop (size_of row.sizes) bs) ≡ true
  pub few : leb (length t) (longest_text_lem text) ≡ true
  pub is : take (size_of row.sizes) bs ++ text_bytes text t ≡ bytes

pub made_of : (text : Bool) (fs : List Fielded) (code : ℕ) (bs t bytes : List ℕ) → entry_in text fs code bs t ≡ gives bytes → MadeOf text fs code bs t bytes
unfolding entry_in entry_of
made_of text fs code bs t bytes e =
    let g = gave (row_for fs code) (λ f. entry_of text (size_of f.sizes) bs t) bytes e in
    go g.first g.is (only_zeros_lem (drop (size_of g.first.sizes) bs)) (leb (length t) (longest_text_lem text)) refl refl g.then
  where
    go : (f : Fielded) → row_for fs code ≡ gives f → (z l : Bool) → only_zeros_lem (drop (size_of f.sizes) bs) ≡ z → leb (length t) (longest_text_lem text) ≡ l →
        cond (z && l) (gives (take (size_of f.sizes) bs ++ text_bytes text t)) (refuses 9 []) ≡ gives bytes → MadeOf text fs code bs t bytes
    go f r true true z few e = record { row = f; is_row = r; zeros = z; few = few; is = given (take (size_of f.sizes) bs ++ text_bytes text t) bytes e }
    go f r true false z few e = never bytes 9 [] (sym e)
    go f r false l z few e = never bytes 9 [] (sym e)

-- zeros that were left out are filled in again
pub filled_back : (n : ℕ) (bs : List ℕ) → only_zeros_lem (drop n bs) ≡ true → zero_filled (length bs) (take n bs) ≡ bs
filled_back zero [] h = refl
filled_back (suc n) [] h = refl
filled_back (suc n) (b ∷ bs) h = ap (λ t. b ∷ t) (filled_back n bs h)
filled_back zero (b ∷ bs) h = go (filled_back zero bs) (eqb b 0) refl h where
  go : (only_zeros_lem bs ≡ true → zero_filled (length bs) [] ≡ bs) → (t : Bool) → eqb b 0 ≡ t → (t && only_zeros_lem bs) ≡ true → 0 ∷ zero_filled (length bs) [] ≡ b ∷ bs
  go others true e h = λ i. sym (eqb-true b 0 e) i ∷ others h i
  go others false e h = let z : ◌≡◌ {A = ℕ} 0 1 = ap (λ t. cond t 1 0) h in absurd (omega (arith, z))

-- fields between other bytes
pub fields_between : (ws own before rest : List ℕ) → length own ≡ size_of ws → fields_at ws (before ++ (own ++ rest)) (length before) ≡ gives own
unfolding fields_at
fields_between ws own before rest long =
    let part : take (size_of ws) (drop (length before) (before ++ (own ++ rest))) ≡ own =
    ap (take (size_of ws)) (drop-append_seam before (own ++ rest)) ∙ take_at own rest (size_of ws) long in
    reaches (length before + size_of ws) (before ++ (own ++ rest)) _ (omega (arith, long, length-append before (own ++ rest), length-append own rest)) ∙ ap gives part

-- a text after its length, between other bytes
module _ (t before rest : List ℕ) where
  abbrev whole : List ℕ
  whole = before ++ (length t ∷ (t ++ rest))

  pub text_between : text_at whole (length before) ≡ gives (record { start = length before + 1; length = length t })
  text_between =
      let long = length-append before (length t ∷ (t ++ rest)) in
      let after = length-append t rest in
      text_there whole (length before) (length t) (omega (arith, long)) (sym (get_or-append_seam before (length t) (t ++ rest) 0))
      (le-leb (length before + 1 + length t) (length whole) (omega (arith, long, after)))

  pub text_itself : take (length t) (drop (length before + 1) whole) ≡ t
  text_itself = ap (take (length t)) (drop-append-add before (length t ∷ (t ++ rest)) 1) ∙ take-append_seam t rest

no_text : (t : List ℕ) → leb (length t) 0 ≡ true → t ≡ []
no_text [] h = refl
no_text (b ∷ t) h = let few = leb-true (length (b ∷ t)) 0 h in absurd (omega (arith, few))

-- of calls whose structs say w bytes
module _ {R : Type 0} (refusal : R → ℕ) (said : R → List ℕ) (w : ℕ) (fs : List Fielded) (short : T (every (λ g. leb (size_of g.sizes) w) fs)) (bs : List ℕ) (all : length bs ≡ w) where
  own_long : (code : ℕ) (g : Fielded) → row_for fs code ≡ gives g → length (take (size_of g.sizes) bs) ≡ size_of g.sizes
  own_long code g row =
      let few = leb-true (size_of g.sizes) w (tested (leb (size_of g.sizes) w) (each (λ g. leb (size_of g.sizes) w) fs short code g row).1) in
      length-take-le (size_of g.sizes) bs (omega (arith, few, all))

  pub back : (f : ℕ → List ℕ → R) → ((own : List ℕ) → refusal (f 0 own) ≡ 0) → ((own : List ℕ) → said (f 0 own) ≡ zero_filled w own) →
      (code : ℕ) (bytes before rest : List ℕ) → entry_in false fs code bs [] ≡ gives bytes →
      let r = crossing f [] (fields_for fs code (before ++ (bytes ++ rest)) (length before)) in (refusal r ≡ 0) × (said r ≡ bs)
  unfolding fields_for
  back f none says code bytes before rest e =
      let m = made_of false fs code bs [] bytes e in
      let own = take (size_of m.row.sizes) bs in
      let is : bytes ≡ own = sym m.is ∙ append-nil own in
      let x : fields_for fs code (before ++ (bytes ++ rest)) (length before) ≡ gives own =
      follows (row_for fs code) m.row (λ g. fields_at g.sizes (before ++ (bytes ++ rest)) (length before)) m.is_row ∙
      ap (λ b. fields_at m.row.sizes (before ++ (b ++ rest)) (length before)) is ∙
      fields_between m.row.sizes own before rest (own_long code m.row m.is_row) in
      rw x (none own, says own ∙ ap (λ n. zero_filled n own) (sym all) ∙ filled_back (size_of m.row.sizes) bs m.zeros)

  -- an entry that was written, as it is read
  record Entered (text : Bool) (code : ℕ) (t bytes before rest : List ℕ) : Type 0 where
    own : List ℕ
    text_place : TextPlace
    is : entry_for text fs code (before ++ (bytes ++ rest)) (length before) ≡ gives (record { own = own; text = text_place })
    whole : zero_filled w own ≡ bs
    names : take text_place.length (drop text_place.start (before ++ (bytes ++ rest))) ≡ t

  texted_back : (code : ℕ) (t bytes before rest : List ℕ) → entry_in true fs code bs t ≡ gives bytes → Entered true code t bytes before rest
  unfolding entry_for entry_at
  texted_back code t bytes before rest e =
      let m = made_of true fs code bs t bytes e in
      let ws = m.row.sizes in
      let own = take (size_of ws) bs in
      let s = before ++ (bytes ++ rest) in
      let sized = own_long code m.row m.is_row in
      let text : TextPlace = record { start = length (before ++ own) + 1; length = length t } in
      let entry : WithText = record { own = own; text = text } in
      let after : bytes ++ rest ≡ own ++ (length t ∷ (t ++ rest)) = ap (λ b. b ++ rest) (sym m.is) ∙ append_assoc own (length t ∷ t) rest in
      let one : s ≡ before ++ (own ++ (length t ∷ (t ++ rest))) = ap (λ b. before ++ b) after in
      let two : s ≡ (before ++ own) ++ (length t ∷ (t ++ rest)) = one ∙ sym (append_assoc before own (length t ∷ (t ++ rest))) in
      let place : length before + size_of ws ≡ length (before ++ own) = omega (arith, sized, length-append before own) in
      let x : fields_at ws s (length before) ≡ gives own = ap (λ s. fields_at ws s (length before)) one ∙ fields_between ws own before (length t ∷ (t ++ rest)) sized in
      let y : text_at s (length before + size_of ws) ≡ gives text = (λ i. text_at (two i) (place i)) ∙ text_between t (before ++ own) rest in
      let z : entry_for true fs code s (length before) ≡ gives entry =
      follows (row_for fs code) m.row (λ g. entry_at true g.sizes s (length before)) m.is_row ∙
      follows (fields_at ws s (length before)) own (λ own. mapped (λ t. record { own = own; text = t }) (text_at s (length before + size_of ws))) x ∙
      mapped_given (λ t. record { own = own; text = t }) (text_at s (length before + size_of ws)) text y in
      record {
        own = own;
        text_place = text;
        is = z;
        whole = ap (λ n. zero_filled n own) (sym all) ∙ filled_back (size_of ws) bs m.zeros;
        names = ap (λ s. take (length t) (drop (length (before ++ own) + 1) s)) two ∙ text_itself t (before ++ own) rest;
      }

  plain_back : (code : ℕ) (t bytes before rest : List ℕ) → entry_in false fs code bs t ≡ gives bytes → Entered false code t bytes before rest
  unfolding entry_for entry_at
  plain_back code t bytes before rest e =
      let m = made_of false fs code bs t bytes e in
      let own = take (size_of m.row.sizes) bs in
      let s = before ++ (bytes ++ rest) in
      let is : bytes ≡ own = sym m.is ∙ append-nil own in
      let x : fields_at m.row.sizes s (length before) ≡ gives own =
      ap (λ b. fields_at m.row.sizes (before ++ (b ++ rest)) (length before)) is ∙
      fields_between m.row.sizes own before rest (own_long code m.row m.is_row) in
      record {
        own = own;
        text_place = nothing_there.text;
        is = follows (row_for fs code) m.row (λ g. entry_at false g.sizes s (length before)) m.is_row ∙
            mapped_given (λ own. record { own = own; text = nothing_there.text }) (fields_at m.row.sizes s (length before)) own x;
        whole = ap (λ n. zero_filled n own) (sym all) ∙ filled_back (size_of m.row.sizes) bs m.zeros;
        names = sym (no_text t m.few);
      }

  either : (text : Bool) (code : ℕ) (t bytes before rest : List ℕ) → entry_in text fs code bs t ≡ gives bytes → Entered text code t bytes before rest
  either true = texted_back
  either false = plain_back

  pub texts_back : (f : ℕ → WithText → R) (start long : R → ℕ) → ((e : WithText) → refusal (f 0 e) ≡ 0) → ((e : WithText) → said (f 0 e) ≡ zero_filled w e.own) →
      ((e : WithText) → start (f 0 e) ≡ e.text.start) → ((e : WithText) → long (f 0 e) ≡ e.text.length) →
      (text : Bool) (code : ℕ) (t bytes before rest : List ℕ) → entry_in text fs code bs t ≡ gives bytes →
      let s = before ++ (bytes ++ rest) in
      let r = crossing f nothing_there (entry_for text fs code s (length before)) in
      (refusal r ≡ 0) × ((said r ≡ bs) × (take (long r) (drop (start r) s) ≡ t))
  texts_back f start long none says starts lengths text code t bytes before rest e =
      let d = either text code t bytes before rest e in
      let s = before ++ (bytes ++ rest) in
      let entry : WithText = record { own = d.own; text = d.text_place } in
      let same : crossing f nothing_there (entry_for text fs code s (length before)) ≡ f 0 entry = ap (crossing f nothing_there) d.is in (
        ap refusal same ∙ none entry,
        (
          ap said same ∙ says entry ∙ d.whole,
          (λ i. take (long (same i)) (drop (start (same i)) s)) ∙ (λ i. take (lengths entry i) (drop (starts entry i) s)) ∙ d.names,
        ),
      )
