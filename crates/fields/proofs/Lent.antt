-- Laws of entries that are put into lent room: what is made, and what the room holds afterwards.
use Rattle.std.specs.Prelude.{Option, Some}
use mathlib.Core.Path.{◌≡◌, refl, sym, ap, ◌∙◌}
use mathlib.Core.Bool.{Bool, true, false, cond, ◌&&◌}
use mathlib.Core.List.{List, [], ◌++◌, append_assoc, append-nil}
use Prim.Native.Nat.{ℕ, ◌+◌, ◌-◌, ◌<◌, ◌≤◌}
use native.Mathlib.Omega.{arith}
use borrow.Author.Tests.{lt-ltb, le-ltb, leb-true}
use borrow.Rule.Slice.PartMut.{mid_of, put_mid}
use lib.Dec.{leb}
use lib.ListN.{length, take, drop, length-append, drop_of_length-le}
use lib.Seq.{take-length, take-append_seam, drop-append_seam, drop-drop}
use Rattle.numbers.specs.Numbers.{Answer, gives, refuses, and_then}
use Rattle.framing.specs.Tlv.{leaves}
use Rattle.framing.proofs.Writing.{tail_put}
use Rattle.layouts.specs.Layouts.{size_of}
use Rattle.fields.specs.Fields.{Fielded, row_for}
use Rattle.fields.specs.Writing.{only_zeros_lem, text_bytes, longest_text_lem, entry_of, entry_in, put_size, made_bytes}
use Rattle.fields.specs.PrivateSteps.{size_in_lem, made_with}
use Rattle.fields.proofs.Laws.{by_row}

-- what a writing call answers and leaves
abbrev pub Puts : Answer (List ℕ) → List ℕ → Answer ℕ → List ℕ → Type 0
Puts made out a after = (a ≡ put_size made (length out)) × (after ≡ leaves (put_size made (length out)) (made_bytes made) out)

pub puts_as : (x y : Answer (List ℕ)) (out after : List ℕ) (a : Answer ℕ) → x ≡ y → Puts x out a after → Puts y out a after
puts_as x y out after a e p = rw (← e) p

pub puts_none : (n : ℕ) (y : Answer (List ℕ)) (out : List ℕ) → refuses n [] ≡ y → Puts y out (refuses n []) out
unfolding put_size
puts_none n y out e = rw (← e) (refl, refl)

module _ (bytes out : List ℕ) where
  pub no_room : length out < length bytes → Puts (gives bytes) out (refuses 7 []) out
  unfolding put_size
  no_room h = rw (lt-ltb (length out) (length bytes) h) (refl, refl)

  pub fits : (n : ℕ) (after : List ℕ) → n ≡ length bytes → length bytes ≤ length out → after ≡ bytes ++ drop (length bytes) out → Puts (gives bytes) out (gives n) after
  unfolding put_size
  fits n after long h e = rw (long, le-ltb (length out) (length bytes) h) (refl, e)

-- bytes that were copied to the start
pub copied : (bytes out after : List ℕ) → after ≡ take (length bytes) bytes ++ drop (length bytes) out → after ≡ bytes ++ drop (length bytes) out
copied bytes out after e = e ∙ ap (λ t. t ++ drop (length bytes) out) (take-length bytes)

-- fields at the start, and the text in the part after them that was lent
pub both_put : (own v out between ys : List ℕ) → between ≡ take (length own) own ++ drop (length own) out →
    ys ≡ v ++ drop (length v) (mid_of (length own) (length between - length own) between) →
    put_mid (length own) (length between - length own) between ys ≡ (own ++ v) ++ drop (length (own ++ v)) out
both_put own v out between ys e e' =
    let c : between ≡ own ++ drop (length own) out = copied own out between e in
    let start : take (length own) between ≡ own = ap (take (length own)) c ∙ take-append_seam own (drop (length own) out) in
    let rest : drop (length own + length v) between ≡ drop (length own + length v) out =
    sym (drop-drop (length v) (length own) between) ∙
    ap (λ (l : List ℕ). drop (length v) (drop (length own) l)) c ∙
    ap (drop (length v)) (drop-append_seam own (drop (length own) out)) ∙ drop-drop (length v) (length own) out in
    tail_put (length own) between v ys e' ∙ (λ i. start i ++ (v ++ rest i)) ∙
    ap (λ n. own ++ (v ++ drop n out)) (sym (length-append own v)) ∙ sym (append_assoc own v (drop (length (own ++ v)) out))

-- what is put into the rest of an array, after what stands at its start
pub put_last : (n m : ℕ) (o y z : List ℕ) → length o ≡ n → length z ≡ m → put_mid n m (o ++ z) y ≡ o ++ y
put_last n m o y z long more =
    let front : take n (o ++ z) ≡ o = ap (λ k. take k (o ++ z)) (sym long) ∙ take-append_seam o z in
    let none : drop m (drop n (o ++ z)) ≡ [] = drop-drop m n (o ++ z) ∙ drop_of_length-le (o ++ z) {i = n + m} (omega (arith, length-append o z, long, more)) in
    (λ i. front i ++ (y ++ none i)) ∙ ap (λ t. o ++ t) (append-nil y)

and_right : (a b : Bool) → (a && b) ≡ true → b ≡ true
and_right true b e = e
and_right false b e = absurd (never_true e) where
  never_true : false ≡ true → ⊥
  never_true e = let z : ◌≡◌ {A = ℕ} 0 1 = ap (λ t. cond t 1 0) e in absurd (omega (arith, z))

pub short_text : (z text : Bool) (t : List ℕ) → (z && leb (length t) (longest_text_lem text)) ≡ true → text ≡ true → length t ≤ 255
short_text z text t e is = leb-true (length t) 255 (and_right z (leb (length t) 255) (rw is at e))

-- what is made, by the code's own tests
module _ (text : Bool) (n : ℕ) (bytes t : List ℕ) where
  abbrev readable : Bool
  readable = only_zeros_lem (drop n bytes) && leb (length t) (longest_text_lem text)

  pub made_never : readable ≡ false → refuses 9 [] ≡ made_with text (Some n) bytes t
  unfolding made_with entry_of
  made_never e = rw e

  pub made : readable ≡ true → gives (take n bytes ++ text_bytes text t) ≡ made_with text (Some n) bytes t
  unfolding made_with entry_of
  made e = rw e

-- the same by the code of a kind
pub in_code : (text : Bool) (fs : List Fielded) (code : ℕ) (n : Option ℕ) (bytes t : List ℕ) → n ≡ size_in_lem (row_for fs code) → made_with text n bytes t ≡ entry_in text fs code bytes t
unfolding made_with entry_in
in_code text fs code n bytes t sized =
    rw sized (by_row (λ x. made_with text (size_in_lem x) bytes t ≡ and_then x (λ g. entry_of text (size_of g.sizes) bytes t)) refl (λ g. refl) fs code)
