-- Laws of parts: fields that are there or not, as the code finds them and as their answer says.
use mathlib.Core.Path.{◌≡◌, refl, sym, ap, ◌∙◌}
use mathlib.Core.Bool.{Bool, true, false, cond}
use mathlib.Core.List.{List, [], ◌∷◌}
use Prim.Native.Nat.{ℕ, zero, suc, ◌+◌, ◌-◌, ◌<◌, ◌≤◌}
use native.Mathlib.Nat.{add-suc, add-zero}
use native.Mathlib.Omega.{arith}
use borrow.Author.Tests.{eqb-true, leb-true, leb-false, le-leb, lt-leb}
use lib.Dec.{eqb, leb, T}
use lib.ListN.{length, drop, get_or, get_or-eq_default}
use Rattle.numbers.specs.Numbers.{Answer, gives, refuses, and_then, answered, number}
use Rattle.numbers.proofs.Firm.{never}
use Rattle.numbers.proofs.Answers.{given}
use Rattle.layouts.proofs.Within.{reaches, cut}
use Rattle.std.specs.Prelude.{Option, Result, Ok, Err}
use Rattle.std.specs.Borrow.{Bor}
use Rattle.numbers.specs.declared.Refusal.{Refusal}
use Rattle.fields.specs.declared.parts.Entry.{Entry}
use Rattle.fields.specs.Fields.{fields_at, text_at, WithText, nothing_there, entry_at, Fielded, row_for, fields_for, entry_for}
use Rattle.fields.specs.Answers.{crossing, zero_filled}
use Rattle.fields.specs.PrivateSteps.{size_in_lem, part_told, own_at_lem, entry_is, entry_told, entry_with}

-- bytes one by one, as code reads them
abbrev pub listed : ℕ → ℕ → ℕ → List ℕ → List ℕ
listed zero k p s = []
listed (suc w) k p s = get_or s (p + k) 0 ∷ listed w (suc k) p s

padded_step : (w q : ℕ) (s : List ℕ) → get_or s q 0 ∷ zero_filled w (drop (suc q) s) ≡ zero_filled (suc w) (drop q s)
padded_step w zero [] = refl
padded_step w zero (b ∷ s) = refl
padded_step w (suc q) [] = refl
padded_step w (suc q) (b ∷ s) = padded_step w q s

padded_listed : (w k p : ℕ) (s : List ℕ) → listed w k p s ≡ zero_filled w (drop (p + k) s)
padded_listed zero k p s = refl
padded_listed (suc w) k p s =
    ap (λ t. get_or s (p + k) 0 ∷ t) (padded_listed w (suc k) p s ∙ ap (λ q. zero_filled w (drop q s)) (add-suc p k)) ∙ padded_step w (p + k) s

pub by_bytes : (w p : ℕ) (s bs : List ℕ) → bs ≡ listed w 0 p s → bs ≡ zero_filled w (drop p s)
by_bytes w p s bs e = e ∙ padded_listed w 0 p s ∙ ap (λ q. zero_filled w (drop q s)) (add-zero p)

-- the same bytes, each at its place
pub filled : (w : ℕ) (p ys : List ℕ) → length ys ≡ w → ((i : ℕ) → i < w → get_or ys i 0 ≡ get_or p i 0) → ys ≡ zero_filled w p
filled zero p [] long each = refl
filled zero p (y ∷ ys) long each = absurd (omega (arith, long))
filled (suc w) p [] long each = absurd (omega (arith, long))
filled (suc w) [] (y ∷ ys) long each = λ i. each 0 (omega arith) i ∷ filled w [] ys (omega (arith, long)) (λ k less. each (suc k) (omega (arith, less))) i
filled (suc w) (b ∷ p) (y ∷ ys) long each = λ i. each 0 (omega arith) i ∷ filled w p ys (omega (arith, long)) (λ k less. each (suc k) (omega (arith, less))) i

-- a byte past the end is taken for 0
pub past : (s : List ℕ) (q : ℕ) → length s ≤ q → 0 ≡ get_or s q 0
past s q h = sym (get_or-eq_default s 0 {n = q} h)

-- the test for room without a sum
pub room : (n p m : ℕ) → p ≤ m → leb n (m - p) ≡ leb (p + n) m
room n p m h = go (leb n (m - p)) refl where
  go : (t : Bool) → leb n (m - p) ≡ t → t ≡ leb (p + n) m
  go true e = let l = leb-true n (m - p) e in sym (le-leb (p + n) m (omega (arith, h, l)))
  go false e = let l = leb-false n (m - p) e in sym (lt-leb (p + n) m (omega (arith, h, l)))

-- the text at p: its length is missing, the text is cut, or it is there
pub no_length : (s : List ℕ) (p : ℕ) → length s ≤ p → text_at s p ≡ refuses 3 []
unfolding text_at
no_length s p h = rw (cut (p + 1) s (get_or s p 0) (omega (arith, h)))

module _ (s : List ℕ) (p n : ℕ) (h : p < length s) (is : n ≡ get_or s p 0) where
  pub text_cut : leb (p + 1 + n) (length s) ≡ false → text_at s p ≡ refuses 3 []
  unfolding text_at
  text_cut e = rw (reaches (p + 1) s (get_or s p 0) (omega (arith, h)), ← is, e)

  pub text_there : leb (p + 1 + n) (length s) ≡ true → text_at s p ≡ gives (record { start = p + 1; length = n })
  unfolding text_at
  text_there e = rw (reaches (p + 1) s (get_or s p 0) (omega (arith, h)), ← is, e)

pub tested : (t : Bool) → T t → t ≡ true
tested true h = refl
tested false h = absurd h

-- what a test says of each row, it says of the row of any code
abbrev pub every : (Fielded → Bool) → List Fielded → Bool
every t [] = true
every t (f ∷ fs) = cond (t f) (every t fs) false

pub by_code : (t : Fielded → Bool) (code : ℕ) (P : Answer Fielded → Type 0) → P (refuses 16 []) →
    ((f : Fielded) → code ≡ f.code → T (t f) → P (gives f)) → (fs : List Fielded) → T (every t fs) → P (row_for fs code)
by_code t code P none one [] h = none
by_code t code P none one (f ∷ fs) h = go (by_code t code P none one fs) (t f) refl h (eqb code f.code) refl
  where
    go : (T (every t fs) → P (row_for fs code)) → (b : Bool) → t f ≡ b → T (cond b (every t fs) false) →
        (c : Bool) → eqb code f.code ≡ c → P (cond c (gives f) (row_for fs code))
    go rest true e h true d = one f (eqb-true code f.code d) (rw e tt)
    go rest true e h false d = rest h
    go rest false e h c d = absurd h

pub each : (t : Fielded → Bool) (fs : List Fielded) → T (every t fs) → (code : ℕ) (f : Fielded) → row_for fs code ≡ gives f → (code ≡ f.code) × T (t f)
each t fs h code f =
    by_code t code (λ x. x ≡ gives f → (code ≡ f.code) × T (t f)) (λ e. never f 16 [] (sym e))
    (λ g same holds e. let is : g ≡ f = given g f e in rw (← is) (same, holds)) fs h

-- the row of a code, or none
pub by_row : (P : Answer Fielded → Type 0) → P (refuses 16 []) → ((f : Fielded) → P (gives f)) → (fs : List Fielded) (code : ℕ) → P (row_for fs code)
by_row P none one [] code = none
by_row P none one (f ∷ fs) code = go (by_row P none one fs code) (eqb code f.code) where
  go : P (row_for fs code) → (t : Bool) → P (cond t (gives f) (row_for fs code))
  go rest true = one f
  go rest false = rest

module _ (s : List ℕ) (p : ℕ) (fs : List Fielded) (code : ℕ) where
  own_for : own_at_lem (size_in_lem (row_for fs code)) s p ≡ fields_for fs code s p
  unfolding fields_for fields_at
  own_for = by_row (λ x. own_at_lem (size_in_lem x) s p ≡ and_then x (λ f. fields_at f.sizes s p)) refl (λ f. refl) fs code

  with_text : (text : Bool) → entry_with text (size_in_lem (row_for fs code)) s p ≡ entry_for text fs code s p
  unfolding entry_for entry_at fields_at
  with_text true = by_row (λ x. entry_with true (size_in_lem x) s p ≡ and_then x (λ f. entry_at true f.sizes s p)) refl (λ f. refl) fs code
  with_text false = by_row (λ x. entry_with false (size_in_lem x) s p ≡ and_then x (λ f. entry_at false f.sizes s p)) refl (λ f. refl) fs code

  -- what crosses to C is what the definition says: of a part, and of an entry
  pub part_crossed : {B : Type 0} (f : ℕ → List ℕ → B) (size : Option ℕ) (x : Result (Bor (List ℕ)) Refusal) (none : Bor (List ℕ)) (o : ℕ × Bor (List ℕ)) →
      size ≡ size_in_lem (row_for fs code) → part_told x ≡ own_at_lem size s p → none.now ≡ [] → o ≡ crossing {B = ℕ × Bor (List ℕ)} (λ n a. (n, a)) none (answered x) →
      f o.0 o.1.now ≡ crossing f [] (fields_for fs code s p)
  part_crossed f size x none o sized is empty crosses =
      rw crosses (go x ∙ ap (crossing f []) (is ∙ ap (λ n. own_at_lem n s p) sized ∙ own_for))
    where
      go : (x : Result (Bor (List ℕ)) Refusal) → (let o = crossing {B = ℕ × Bor (List ℕ)} (λ n a. (n, a)) none (answered x) in f o.0 o.1.now) ≡ crossing f [] (part_told x)
      go (Ok a) = refl
      go (Err r) = ap (f (number r)) empty

  pub entry_crossed : {B : Type 0} (f : ℕ → WithText → B) (text : Bool) (size : Option ℕ) (x : Result Entry Refusal) (none : Entry) (o : ℕ × Entry) →
      size ≡ size_in_lem (row_for fs code) → entry_told x ≡ entry_with text size s p → entry_is none ≡ nothing_there → o ≡ crossing {B = ℕ × Entry} (λ n a. (n, a)) none (answered x) →
      f o.0 (entry_is o.1) ≡ crossing f nothing_there (entry_for text fs code s p)
  entry_crossed f text size x none o sized is empty crosses =
      rw crosses (go x ∙ ap (crossing f nothing_there) (is ∙ ap (λ n. entry_with text n s p) sized ∙ with_text text))
    where
      go : (x : Result Entry Refusal) → (let o = crossing {B = ℕ × Entry} (λ n a. (n, a)) none (answered x) in f o.0 (entry_is o.1)) ≡ crossing f nothing_there (entry_told x)
      go (Ok a) = refl
      go (Err r) = ap (f (number r)) empty
