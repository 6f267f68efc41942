-- What is not refused says the own bytes of its entry.
use mathlib.Core.Path.{◌≡◌, refl, sym, ap, ◌∙◌}
use mathlib.Core.Bool.{Bool, true, false, cond}
use mathlib.Core.List.{List, [], ◌∷◌, ◌++◌}
use Prim.Native.Nat.{ℕ, ◌+◌, ◌≤◌}
use native.Mathlib.Omega.{arith}
use borrow.Author.Tests.{leb-true}
use lib.Dec.{leb, T}
use lib.ListN.{length, take, drop, get_or, length-drop}
use lib.Seq.{length-take-le, drop-drop}
use Rattle.numbers.specs.Numbers.{Answer, gives, refuses, mapped, and_then}
use Rattle.records.specs.Values.{octets, address_at_lem}
use Rattle.layouts.specs.Layouts.{size_of}
use Rattle.fields.specs.declared.parts.TextPlace.{TextPlace}
use Rattle.fields.specs.Fields.{fields_at, text_at, WithText, nothing_there, entry_at, Fielded, row_for, fields_for, entry_for}
use Rattle.fields.specs.Answers.{crossing, zero_filled}
use Rattle.fields.proofs.Laws.{by_bytes, tested, every, each}
use Rattle.fields.proofs.Order.{padded_add, padded_own}

-- a text is there or cut
by_text : (s : List ℕ) (p : ℕ) (P : Answer TextPlace → Type 0) → ((t : TextPlace) → P (gives t)) → P (refuses 3 []) → P (text_at s p)
unfolding text_at
by_text s p P one none = go (leb (p + 1) (length s))
  where
    whole : (n : ℕ) (t : Bool) → P (cond t (gives (record { start = p + 1; length = n })) (refuses 3 []))
    whole n true = one (record { start = p + 1; length = n })
    whole n false = none

    go : (t : Bool) → P (and_then (cond t (gives (get_or s p 0)) (refuses 3 [])) (λ n. cond (leb (p + 1 + n) (length s)) (gives (record { start = p + 1; length = n })) (refuses 3 [])))
    go true = whole (get_or s p 0) (leb (p + 1 + get_or s p 0) (length s))
    go false = none

-- of fields that say up to w bytes
module _ {R : Type 0} (refusal : R → ℕ) (bytes : R → List ℕ) (w : ℕ) (fs : List Fielded) (short : T (every (λ g. leb (size_of g.sizes) w) fs)) where
  abbrev Says : Fielded → List ℕ → R → Type 0
  Says g p r = refusal r ≡ 0 → take (size_of g.sizes) (bytes r) ≡ p

  -- they say the part, if it is there
  part : (code : ℕ) (g : Fielded) → row_for fs code ≡ gives g → (s : List ℕ) (p : ℕ) (r : R) → p + size_of g.sizes ≤ length s →
      (let own = take (size_of g.sizes) (drop p s) in bytes r ≡ zero_filled w own → take (size_of g.sizes) (bytes r) ≡ own)
  part code g row s p r inside says =
      let own = take (size_of g.sizes) (drop p s) in
      let few = leb-true (size_of g.sizes) w (tested (leb (size_of g.sizes) w) (each (λ g. leb (size_of g.sizes) w) fs short code g row).1) in
      let long : length own ≡ size_of g.sizes = length-take-le (size_of g.sizes) (drop p s) (rw length-drop (omega (arith, inside))) in
      ap (take (size_of g.sizes)) says ∙ (rw long at (padded_own w own (omega (arith, long, few))))

  refused : (g : Fielded) (p : List ℕ) (r : R) → refusal r ≡ 3 → Says g p r
  refused g p r three none = let e : ◌≡◌ {A = ℕ} 3 0 = sym three ∙ none in absurd (omega (arith, e))

  pub said : (f : ℕ → List ℕ → R) → ((n : ℕ) (own : List ℕ) → refusal (f n own) ≡ n) → ((own : List ℕ) → bytes (f 0 own) ≡ zero_filled w own) →
      (code : ℕ) (s : List ℕ) (p : ℕ) (g : Fielded) → row_for fs code ≡ gives g → Says g (take (size_of g.sizes) (drop p s)) (crossing f [] (fields_for fs code s p))
  unfolding fields_for fields_at
  said f number says code s p g row = rw row (go (leb (p + size_of g.sizes) (length s)) refl)
    where
      go : (t : Bool) → leb (p + size_of g.sizes) (length s) ≡ t →
          Says g (take (size_of g.sizes) (drop p s)) (crossing f [] (cond t (gives (take (size_of g.sizes) (drop p s))) (refuses 3 [])))
      go true e x = part code g row s p (f 0 (take (size_of g.sizes) (drop p s))) (leb-true (p + size_of g.sizes) (length s) e) (says (take (size_of g.sizes) (drop p s)))
      go false e x = refused g (take (size_of g.sizes) (drop p s)) (f 3 []) (number 3 []) x

  pub entry_said : (f : ℕ → WithText → R) → ((n : ℕ) (e : WithText) → refusal (f n e) ≡ n) → ((e : WithText) → bytes (f 0 e) ≡ zero_filled w e.own) →
      (text : Bool) (code : ℕ) (s : List ℕ) (p : ℕ) (g : Fielded) → row_for fs code ≡ gives g → Says g (take (size_of g.sizes) (drop p s)) (crossing f nothing_there (entry_for text fs code s p))
  unfolding entry_for entry_at fields_at
  entry_said f number says text code s p g row = rw row (go text (leb (p + size_of g.sizes) (length s)) refl)
    where
      one : (t : TextPlace) → leb (p + size_of g.sizes) (length s) ≡ true → Says g (take (size_of g.sizes) (drop p s)) (f 0 (record { own = take (size_of g.sizes) (drop p s); text = t }))
      one t e x =
          let r : WithText = record { own = take (size_of g.sizes) (drop p s); text = t } in
          part code g row s p (f 0 r) (leb-true (p + size_of g.sizes) (length s) e) (says r)

      none : Says g (take (size_of g.sizes) (drop p s)) (f 3 nothing_there)
      none = refused g (take (size_of g.sizes) (drop p s)) (f 3 nothing_there) (number 3 nothing_there)

      go : (text t : Bool) → leb (p + size_of g.sizes) (length s) ≡ t → Says g (take (size_of g.sizes) (drop p s)) (crossing f nothing_there (entry_at text g.sizes s p))
      go true true e =
          rw e (by_text s (p + size_of g.sizes)
          (λ x. Says g (take (size_of g.sizes) (drop p s)) (crossing f nothing_there (mapped (λ t. record { own = take (size_of g.sizes) (drop p s); text = t }) x)))
          (λ t. one t e) none)
      go true false e = rw e none
      go false true e = rw e (one nothing_there.text e)
      go false false e = rw e none

-- fields after an address, and after a byte
pub after_six : (p : List ℕ) → octets (address_at_lem p 0) ++ zero_filled 16 (drop 6 p) ≡ zero_filled 22 p
after_six p = ap (λ t. t ++ zero_filled 16 (drop 6 p)) (by_bytes 6 0 p (octets (address_at_lem p 0)) refl) ∙ sym (padded_add 6 16 p)

pub byte_and_two : (w : ℕ) (p : List ℕ) → get_or p 0 0 ∷ (zero_filled w (drop 1 p) ++ zero_filled w (drop (1 + w) p)) ≡ zero_filled (1 + (w + w)) p
byte_and_two w p =
    ap (λ t. get_or p 0 0 ∷ (zero_filled w (drop 1 p) ++ zero_filled w t)) (sym (drop-drop w 1 p)) ∙ ap (λ t. get_or p 0 0 ∷ t) (sym (padded_add w w (drop 1 p))) ∙
    ap (λ t. t ++ zero_filled (w + w) (drop 1 p)) (by_bytes 1 0 p (get_or p 0 0 ∷ []) refl) ∙ sym (padded_add 1 (w + w) p)
