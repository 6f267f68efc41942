-- How the definitions of the cursor go on: the level of the next entry, the step, and the beginning.
use mathlib.Core.Path.{◌≡◌, refl, ap, ◌∙◌}
use mathlib.Core.Bool.{true}
use mathlib.Core.List.{List, []}
use Prim.Native.Nat.{ℕ, zero, suc, ◌-◌, ◌<◌, ◌≤◌}
use native.Mathlib.Omega.{arith}
use lib.Dec.{ltb}
use borrow.Author.Tests.{lt-ltb, le-ltb}
use Rattle.numbers.specs.Numbers.{Answer, gives, refuses, mapped}
use Rattle.numbers.proofs.Answers.{mapped_given, mapped_refused, follows, stops}
use Rattle.records.specs.declared.Record.{Record}
use Rattle.layouts.specs.declared.ListAt.{ListAt}
use Rattle.std.specs.Prelude.{Option}
use Rattle.entries.specs.declared.Gone.{Gone}
use Rattle.kinds.specs.declared.Contents.{Contents}
use Rattle.kinds.specs.declared.Typed.{Typed}
use Rattle.kinds.specs.Kinds.{read_kind_lem}
use Rattle.entries.specs.declared.Cursor.{Cursor}
use Rattle.entries.specs.Entries.{first_left, first_cursor_lem, entries_in_lem, list_in, beginning, pass_in_lem, next_level_lem, entered, moved, next_is, none_left_lem, stepped, gone_from, gone_on_lem}

-- the same of an answer is the same
mapped_alike : {A B : Type 0} (f g : A → B) (x : Answer A) → ((a : A) → f a ≡ g a) → mapped f x ≡ mapped g x
mapped_alike f g (gives a) e = ap gives (e a)
mapped_alike f g (refuses n vs) e = refl

-- with a level to go into, all entries of the list are to come
pub first_all : (d n : ℕ) → (d ≡ 0 → ⊥) → first_left d n ≡ n
first_all zero n f = absurd (f refl)
first_all (suc d) n f = refl

-- where no list has entries left, there is no next entry
none_left : (c : Cursor) → c.left3 ≤ 0 → c.left2 ≤ 0 → c.left1 ≤ 0 → next_level_lem c ≡ 0
unfolding next_level_lem
none_left c h3 h2 h1 = rw (le-ltb 0 c.left3 h3, le-ltb 0 c.left2 h2, le-ltb 0 c.left1 h1)

-- so where no deeper list has any, the outermost has
pub outermost : (c : Cursor) → c.left3 ≤ 0 → c.left2 ≤ 0 → 0 < next_level_lem c → 0 < c.left1
outermost c h3 h2 h = go c.left1 refl where
  go : (n : ℕ) → c.left1 ≡ n → 0 < n
  go zero e = let none = none_left c h3 h2 (omega arith) in absurd (omega arith)
  go (suc n) e = omega arith

-- a step to an entry, and one that is refused
module _ (c : Cursor) (s : List ℕ) (k : ℕ) (is : next_level_lem c ≡ k) (some : k ≡ 0 → ⊥) where
  pub gone_step : gone_on_lem c s ≡ mapped (stepped c k) (pass_in_lem c.code k (ltb k c.depth) s c.at)
  unfolding gone_on_lem
  gone_step = ap (λ k. gone_from k c s) is ∙ go k some where
    go : (k : ℕ) → (k ≡ 0 → ⊥) → gone_from k c s ≡ mapped (stepped c k) (pass_in_lem c.code k (ltb k c.depth) s c.at)
    go zero f = absurd (f refl)
    go (suc k) f = refl

  pub gone_to : (m : ListAt) → pass_in_lem c.code k (ltb k c.depth) s c.at ≡ gives m → gone_on_lem c s ≡ gives (stepped c k m)
  gone_to m x = gone_step ∙ mapped_given (stepped c k) _ m x

  pub gone_cut : (n : ℕ) (vs : List ℕ) → pass_in_lem c.code k (ltb k c.depth) s c.at ≡ refuses n vs → gone_on_lem c s ≡ refuses n vs
  gone_cut n vs x = gone_step ∙ mapped_refused (stepped c k) _ n vs x

-- a value that doesn't read, and one that does
module _ (code depth : ℕ) (s : List ℕ) where
  pub begun_not : (n : ℕ) (vs : List ℕ) → read_kind_lem code s ≡ refuses n vs → beginning code depth s ≡ refuses n vs
  unfolding beginning
  begun_not n vs x = stops (read_kind_lem code s) n vs _ x

  module _ (t : Typed Record) (x : read_kind_lem code s ≡ gives t) where
    pub begun_on : beginning code depth s ≡ mapped (λ m. record { cursor = first_cursor_lem code depth m; entries = m.many; consumed = t.consumed; rest = t.rest }) (list_in t.held code s)
    unfolding beginning
    begun_on = follows (read_kind_lem code s) t _ x

    -- a record has no entries; a list has those that are found
    pub begun_record : (r : Record) → t.held ≡ Contents.One r → beginning code depth s ≡ refuses 6 []
    begun_record r h = begun_on ∙ rw h

    module _ (n : ℕ) (h : t.held ≡ Contents.List n) where
      pub begun_list : (m : ListAt) → entries_in_lem code s ≡ gives m → beginning code depth s ≡ gives (record { cursor = first_cursor_lem code depth m; entries = m.many; consumed = t.consumed; rest = t.rest })
      begun_list m e = begun_on ∙ rw (h, e)

      pub begun_cut : (k : ℕ) (vs : List ℕ) → entries_in_lem code s ≡ refuses k vs → beginning code depth s ≡ refuses k vs
      begun_cut k vs e = begun_on ∙ rw (h, e)

-- the cursors of each level, and the steps from them
module _ (code depth : ℕ) (s : List ℕ) where
  abbrev pub cursor : ℕ → ℕ → ℕ → ℕ → Cursor
  cursor p i j k = record { at = p; left1 = i; left2 = j; left3 = k; code = code; depth = depth }

  pub no_more : (p : ℕ) → gone_on_lem (cursor p 0 0 0) s ≡ gives none_left_lem
  unfolding gone_on_lem
  no_more p = rw (none_left (cursor p 0 0 0) (omega arith) (omega arith) (omega arith))

  -- what a step of level k from p gives: the entry, and a cursor that depends on where it goes on and on what it enters
  abbrev pub step_to : ℕ → ℕ → (ℕ → ℕ → Cursor) → Answer (Option Gone)
  step_to k p next = mapped (λ m. next_is (record { start = p; entries = m.many; level = k }) (next m.first (entered (ltb k depth) m.many))) (pass_in_lem code k (ltb k depth) s p)

  from : (k p i j n : ℕ) (next : ℕ → ℕ → Cursor) → next_level_lem (cursor p i j n) ≡ k → (k ≡ 0 → ⊥) → ((m q : ℕ) → moved (cursor p i j n) m q ≡ next q m) →
      gone_on_lem (cursor p i j n) s ≡ step_to k p next
  from k p i j n next is some goes =
      gone_step (cursor p i j n) s k is some ∙
      mapped_alike (stepped (cursor p i j n) k) (λ m. next_is (record { start = p; entries = m.many; level = k }) (next m.first (entered (ltb k depth) m.many)))
      (pass_in_lem code k (ltb k depth) s p) (λ m. ap (next_is (record { start = p; entries = m.many; level = k })) (goes (entered (ltb k depth) m.many) m.first))

  some : (n : ℕ) → ltb 0 (suc n) ≡ true
  some n = lt-ltb 0 (suc n) (omega arith)

  less : (n : ℕ) → suc n - 1 ≡ n
  less n = omega arith

  pub step_3 : (p i j n : ℕ) → gone_on_lem (cursor p i j (suc n)) s ≡ step_to 3 p (λ q m. cursor q i j n)
  unfolding next_level_lem moved
  step_3 p i j n = from 3 p i j (suc n) (λ q m. cursor q i j n) (rw (some n)) (λ e. omega arith) (λ m q. rw (some n, less n))

  pub step_2 : (p i n : ℕ) → gone_on_lem (cursor p i (suc n) 0) s ≡ step_to 2 p (λ q m. cursor q i n m)
  unfolding next_level_lem moved
  step_2 p i n = from 2 p i (suc n) 0 (λ q m. cursor q i n m) (rw (some n)) (λ e. omega arith) (λ m q. rw (some n, less n))

  pub step_1 : (p n : ℕ) → gone_on_lem (cursor p (suc n) 0 0) s ≡ step_to 1 p (λ q m. cursor q n m 0)
  unfolding next_level_lem moved
  step_1 p n = from 1 p (suc n) 0 0 (λ q m. cursor q n m 0) (rw (some n)) (λ e. omega arith) (λ m q. rw (less n))
