-- Going on over entries of any form gives what asking by number gives, by induction: over the levels, and over the
-- entries of a list. What a form of entries has to bring along is said of its steps and of its numbers.
use mathlib.Core.Path.{◌≡◌, refl, sym, ap, ◌∙◌, subst}
use mathlib.Core.List.{List, [], ◌∷◌, ◌++◌, append_assoc, append-nil}
use Prim.Native.Nat.{ℕ, zero, suc, ◌+◌, ◌<◌}
use native.Mathlib.Nat.{zero-add}
use native.Mathlib.Omega.{arith}
use lib.ListN.{length, length-append}
use Rattle.numbers.specs.Numbers.{Answer, gives, and_then}
use Rattle.numbers.proofs.Answers.{given, gave, follows}
use Rattle.layouts.specs.declared.ListAt.{ListAt}
use Rattle.layouts.specs.Reading.{entries_end}
use Rattle.kinds.specs.Kinds.{count_kind}
use Rattle.entries.specs.declared.Cursor.{Cursor}
use Rattle.entries.specs.declared.EntryAt.{EntryAt}
use Rattle.entries.specs.Entries.{next_is, none_left_lem, gone_on_lem}
use Rattle.entries.specs.Claims.{GoesOver, finished, goes, or_none, asked_for, of_each, by_numbers}

-- A form of entries: where one without a list ends; or the list of one, and the form of its entries.
pub data Form : Type 0 where
  leaf : (ℕ → Answer ℕ) → Form
  node : (ℕ → Answer ListAt) → Form → Form

abbrev pub end_in : Form → ℕ → Answer ℕ
end_in (leaf f) p = f p
end_in (node g t) p = and_then (g p) (λ m. entries_end (end_in t) m.many m.first)

abbrev pub item : ℕ → ℕ → ℕ → EntryAt
item p n k = record { start = p; entries = n; level = k }

-- what is asked for by one number more
abbrev pub block : ℕ → ℕ → List ℕ → List ℕ → List EntryAt
block depth code s is = asked_for code s is ∷ by_numbers depth code s is

-- where the list has no entries, none is asked for below
pub none_below : (d code : ℕ) (s is : List ℕ) → or_none (count_kind code is s) ≡ 0 → by_numbers d code s is ≡ []
unfolding by_numbers
none_below zero code s is e = refl
none_below (suc d) code s is e = rw e

pub no_depth : (code : ℕ) (s is : List ℕ) → by_numbers 0 code s is ≡ []
unfolding by_numbers
no_depth code s is = refl

pub below_is : (d code n : ℕ) (s is : List ℕ) → or_none (count_kind code is s) ≡ n → by_numbers (suc d) code s is ≡ of_each (λ i. block d code s (is ++ i ∷ [])) 0 n
unfolding by_numbers
below_is d code n s is e = rw e

pub one_more : (is : List ℕ) (i : ℕ) → length (is ++ i ∷ []) ≡ suc (length is)
one_more is i = let e = length-append is (i ∷ []) in omega arith

module _ (s : List ℕ) where
  -- Steps from the cursors `put p n`, which stand at p with n entries left in a list of this form, of level k, and d
  -- levels to go into below it: the entry at p is given with the number of its entries. The next cursor stands after
  -- it, or in its list, and when that is gone over it stands after the entry too.
  pub record Enters (g : ℕ → Answer ListAt) (k : ℕ) (put : ℕ → ℕ → Cursor) (n : ℕ) (On : (ℕ → ℕ → Cursor) → Type 0) : Type 0 where
    pub into : ℕ → ℕ → Cursor
    pub step : (p : ℕ) (m : ListAt) → g p ≡ gives m → gone_on_lem (put p (suc n)) s ≡ gives (next_is (item p m.many k) (into m.first m.many))
    pub out : (q : ℕ) → into q 0 ≡ put q n
    pub on : On into

  abbrev pub Steps : Form → ℕ → ℕ → (ℕ → ℕ → Cursor) → Type 0
  Steps (leaf f) k d put = (p q n : ℕ) → f p ≡ gives q → gone_on_lem (put p (suc n)) s ≡ gives (next_is (item p 0 k) (put q n))
  Steps (node g t) k zero put = (p q n : ℕ) (m : ListAt) → g p ≡ gives m → end_in (node g t) p ≡ gives q → gone_on_lem (put p (suc n)) s ≡ gives (next_is (item p m.many k) (put q n))
  Steps (node g t) k (suc d) put = (n : ℕ) → Enters g k put n (λ into. Steps t (suc k) d into)

  module _ (code : ℕ) where
    -- what the numbers of the entry at p ask for: that entry, and with one number more those of its list
    abbrev pub Asked : Form → ℕ → List ℕ → Type 0
    Asked (leaf f) p is = asked_for code s is ≡ item p 0 (length is)
    Asked (node g t) p is = (m : ListAt) → g p ≡ gives m →
        (asked_for code s is ≡ item p m.many (length is)) × ((i q : ℕ) → i < m.many → entries_end (end_in t) i m.first ≡ gives q → Asked t q (is ++ i ∷ []))

    -- a step to the entry that is asked for
    begins : {c c' : Cursor} {e e' : EntryAt} {es : List EntryAt} → e ≡ e' → gone_on_lem c s ≡ gives (next_is e' c') → GoesOver s c' es → GoesOver s c (e ∷ es)
    begins {c} {es = es} same x go = subst (λ e. GoesOver s c (e ∷ es)) (sym same) (goes x go)

    -- one entry, with those below it
    abbrev OneOver : Form → ℕ → ℕ → (ℕ → ℕ → Cursor) → Type 0
    OneOver t k d put = (p q n : ℕ) (is : List ℕ) (es : List EntryAt) → length is ≡ k → end_in t p ≡ gives q → Asked t p is →
        GoesOver s (put q n) es → GoesOver s (put p (suc n)) (block d code s is ++ es)

    -- n entries of a list, from number i on
    all_over : (t : Form) (k d : ℕ) (put : ℕ → ℕ → Cursor) → OneOver t k d put → (n p q i : ℕ) (is : List ℕ) (es : List EntryAt) → suc (length is) ≡ k →
        entries_end (end_in t) n p ≡ gives q → ((j r : ℕ) → j < n → entries_end (end_in t) j p ≡ gives r → Asked t r (is ++ (i + j) ∷ [])) →
        GoesOver s (put q 0) es → GoesOver s (put p n) (of_each (λ i. block d code s (is ++ i ∷ [])) i n ++ es)
    unfolding entries_end
    all_over t k d put one zero p q i is es l x asked go = subst (λ p. GoesOver s (put p 0) es) (sym (given p q x)) go
    all_over t k d put one (suc n) p q i is es l x asked go =
        let g = gave (end_in t p) (λ r. entries_end (end_in t) n r) q x in
        let r = g.first in
        let here : i + 0 ≡ i = omega arith in
        let mine : Asked t p (is ++ i ∷ []) = rw here at (asked 0 p (omega arith) refl) in
        let others = all_over t k d put one n r q (suc i) is es l g.then
        (λ j a h y.
        let next : i + suc j ≡ suc i + j = omega arith in
        rw next at (asked (suc j) a (omega arith) (follows (end_in t p) r (λ r. entries_end (end_in t) j r) g.is ∙ y)))
        go in
        subst (GoesOver s (put p (suc n))) (sym (append_assoc (block d code s (is ++ i ∷ [])) (of_each (λ i. block d code s (is ++ i ∷ [])) (suc i) n) es))
        (one p r n (is ++ i ∷ []) _ (one_more is i ∙ l) g.is mine others)

    one_over : (t : Form) (k d : ℕ) (put : ℕ → ℕ → Cursor) → Steps t k d put → OneOver t k d put
    one_over (leaf f) k d put step p q n is es l x asked go =
        let none = none_below d code s is (ap (λ e. e.entries) asked) in
        begins (asked ∙ ap (item p 0) l) (step p q n x) (subst (λ below. GoesOver s (put q n) (below ++ es)) (sym none) go)
    one_over (node g t) k zero put step p q n is es l x asked go =
        let m = gave (g p) (λ m. entries_end (end_in t) m.many m.first) q x in
        let mine = (asked m.first m.is).0 in
        begins (mine ∙ ap (item p m.first.many) l) (step p q n m.first m.is x) (subst (λ below. GoesOver s (put q n) (below ++ es)) (sym (no_depth code s is)) go)
    one_over (node g t) k (suc d) put step p q n is es l x asked go =
        let m = gave (g p) (λ m. entries_end (end_in t) m.many m.first) q x in
        let a = asked m.first m.is in
        let e = step n in
        let list = below_is d code m.first.many s is (ap (λ e. e.entries) a.0) in
        let below = all_over t (suc k) d e.into (one_over t (suc k) d e.into e.on) m.first.many m.first.first q 0 is es (ap suc l) m.then
        (λ j r h y. subst (λ j. Asked t r (is ++ j ∷ [])) (sym (zero-add j)) (a.1 j r h y)) (subst (λ c. GoesOver s c es) (sym (e.out q)) go) in
        begins (a.0 ∙ ap (item p m.first.many) l) (e.step p m.first m.is) (subst (λ below. GoesOver s (e.into m.first.first m.first.many) (below ++ es)) (sym list) below)

    -- the entries of a value's list m, of this form and of level 1, and then the end
    pub list_over : (t : Form) (d : ℕ) (put : ℕ → ℕ → Cursor) → Steps t 1 d put → (m : ListAt) (q : ℕ) → entries_end (end_in t) m.many m.first ≡ gives q →
        or_none (count_kind code [] s) ≡ m.many → ((i r : ℕ) → i < m.many → entries_end (end_in t) i m.first ≡ gives r → Asked t r (i ∷ [])) →
        gone_on_lem (put q 0) s ≡ gives none_left_lem → GoesOver s (put m.first m.many) (by_numbers (suc d) code s [])
    list_over t d put steps m q x many asked stop =
        let list = below_is d code m.many s [] many in
        let all = all_over t 1 d put (one_over t 1 d put steps) m.many m.first q 0 [] [] refl x
        (λ j r h y. subst (λ j. Asked t r (j ∷ [])) (sym (zero-add j)) (asked j r h y)) (finished stop) in
        subst (GoesOver s (put m.first m.many)) (append-nil _ ∙ sym list) all
