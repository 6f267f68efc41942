-- The entries of a list kind: their form is the layout's, their numbers lead to them, and each step goes over one.
use mathlib.Core.Path.{◌≡◌, refl, sym, ap, ◌∙◌, subst}
use mathlib.Core.Bool.{Bool, true, false}
use mathlib.Core.List.{List, [], ◌∷◌, ◌++◌}
use Prim.Native.Nat.{ℕ, zero, suc, ◌+◌, ◌<◌, ◌≤◌}
use native.Mathlib.Omega.{arith}
use lib.Dec.{eqb, ltb}
use borrow.Author.Tests.{lt-ltb, le-ltb}
use Rattle.numbers.specs.Numbers.{Answer, gives, and_then, mapped}
use Rattle.numbers.proofs.Firm.{never}
use Rattle.numbers.proofs.Answers.{given, follows, mapped_given, mapped_refused}
use Rattle.layouts.specs.Layouts.{Counting, Layout, bytes, entry, layout_of}
use Rattle.layouts.specs.declared.ListAt.{ListAt}
use Rattle.layouts.specs.Reading.{list_of, entries_end, end_of}
use Rattle.layouts.specs.Access.{below, Spot, find_entry_lem, start_in, span_of, length_at, at_level, gone_over, pass_entry}
use Rattle.layouts.specs.Claims.{levels_of}
use Rattle.layouts.proofs.Within.{list_leaf, leafless, ends_in}
use Rattle.layouts.proofs.Finding.{child_there, find_here}
use Rattle.layouts.proofs.Reached.{child_reads, under, find_last, ending, span_last}
use Rattle.layouts.proofs.Passes.{pass_enter, pass_over}
use Rattle.texts.specs.Texts.{inventory_code}
use Rattle.kinds.specs.Kinds.{locate_kind, count_kind}
use Rattle.entries.specs.declared.Cursor.{Cursor}
use Rattle.entries.specs.Entries.{first_cursor_lem, pass_in_lem, entered, next_is, gone_on_lem}
use Rattle.entries.specs.Claims.{GoesOver, finished, or_none, by_numbers}
use Rattle.entries.proofs.Laws.{cursor, no_more, step_to, step_1, step_2, step_3}
use Rattle.entries.proofs.Going.{Form, leaf, node, end_in, item, no_depth, Steps, Asked, list_over}

-- the form of a layout's entries
abbrev pub form_of : List ℕ → Layout → Form
form_of s (bytes n) = leaf (end_of (bytes n) s)
form_of s (entry n w e) = node (list_of (entry n w e) s) (form_of s e)

-- an entry ends where the layout says
ends_by : (s : List ℕ) (n : ℕ) (w : Counting) (e : Layout) → (λ p. and_then (list_of (entry n w e) s p) (λ m. entries_end (end_of e s) m.many m.first)) ≡ end_of (entry n w e) s
unfolding end_of
ends_by s n w e = refl

pub form_end : (s : List ℕ) (l : Layout) → end_in (form_of s l) ≡ end_of l s
form_end s (bytes n) = refl
form_end s (entry n w e) = ap (λ f. λ p. and_then (list_of (entry n w e) s p) (λ m. entries_end f m.many m.first)) (form_end s e) ∙ ends_by s n w e

-- Of a value with this layout that reads: what its numbers ask for.
module _ (code : ℕ) (s : List ℕ) (top : Layout) (counts : (is : List ℕ) → count_kind code is s ≡ length_at top is s) (spans : (is : List ℕ) → locate_kind code is s ≡ span_of top is s) where
  abbrev spot : Layout → ℕ → Spot
  spot l p = record { layout = l; start = p }

  -- where the numbers lead to an entry, how many entries it has
  many : (l : Layout) (is : List ℕ) (p : ℕ) → find_entry_lem top is s 0 ≡ gives (spot l p) → count_kind code is s ≡ mapped (λ m. m.many) (list_of l s p)
  unfolding length_at
  many l is p f = counts is ∙ follows (find_entry_lem top is s 0) (spot l p) _ f

  -- and where it starts
  starts : (l : Layout) (is : List ℕ) (i p q : ℕ) → find_entry_lem top (is ++ i ∷ []) s 0 ≡ gives (spot l p) → end_of l s p ≡ gives q → start_in (locate_kind code (is ++ i ∷ []) s) ≡ p
  starts l is i p q f x =
      ap start_in (spans (is ++ i ∷ []) ∙ span_last top is s i ∙ follows (find_entry_lem top (is ++ i ∷ []) s 0) (spot l p) (ending s) f ∙ mapped_given _ _ q x)

  -- entry i of the list m of one that was found and reads
  pub record Under (l : Layout) (is : List ℕ) (i r : ℕ) : Type 0 where
    pub found : find_entry_lem top (is ++ i ∷ []) s 0 ≡ gives (spot (below l) r)
    pub stop : ℕ
    pub reads : end_of (below l) s r ≡ gives stop

  pub one_under : (l : Layout) (is : List ℕ) (p q : ℕ) (m : ListAt) (i r : ℕ) → find_entry_lem top is s 0 ≡ gives (spot l p) → end_of l s p ≡ gives q → list_of l s p ≡ gives m →
      i < m.many → entries_end (end_of (below l) s) i m.first ≡ gives r → Under l is i r
  one_under l is p q m i r f x has h y =
      let c = (child_reads l s p q i m x has h).nth in
      let same : c.start ≡ r = given c.start r (sym c.starts ∙ y) in
      record {
        found = find_last top is s i 0 ∙ follows (find_entry_lem top is s 0) (spot l p) (under i s) f ∙ follows _ r _ (child_there l i s p m has h ∙ y);
        stop = c.lies.stop;
        reads = ap (end_of (below l) s) (sym same) ∙ c.lies.reads;
      }

  pub asked : (l : Layout) (is : List ℕ) (i p q : ℕ) → find_entry_lem top (is ++ i ∷ []) s 0 ≡ gives (spot l p) → end_of l s p ≡ gives q → Asked s code (form_of s l) p (is ++ i ∷ [])
  asked (bytes n) is i p q f x =
      let none = many (bytes n) (is ++ i ∷ []) p f ∙ mapped_refused _ _ 6 [] (list_leaf n s p) in
      rw (starts (bytes n) is i p q f x, none)
  asked (entry n w e) is i p q f x = λ m has.
      let some = many (entry n w e) (is ++ i ∷ []) p f ∙ mapped_given _ _ m has in (
        rw (starts (entry n w e) is i p q f x, some),
        λ j r h y.
            let u = one_under (entry n w e) (is ++ i ∷ []) p q m j r f x has h (rw (form_end s e) at y) in
            asked e (is ++ i ∷ []) j r u.stop u.found u.reads,
      )

-- The steps of a level k, whose cursors are `put`. With m entries of an entry's list to go over, `into` stands there.
module _ (code depth : ℕ) (s : List ℕ) (k : ℕ) (put : ℕ → ℕ → Cursor) (into : ℕ → ℕ → ℕ → Cursor) (out : (n q : ℕ) → into n q 0 ≡ put q n)
    (law : (p n : ℕ) → gone_on_lem (put p (suc n)) s ≡ step_to code depth s k p (into n)) where
  to : (p n : ℕ) (m : ListAt) → pass_in_lem code k (ltb k depth) s p ≡ gives m → gone_on_lem (put p (suc n)) s ≡ gives (next_is (item p m.many k) (into n m.first (entered (ltb k depth) m.many)))
  to p n m x = law p n ∙ mapped_given _ _ m x

  -- the next one stands after it
  after : (p n : ℕ) (m : ListAt) → pass_in_lem code k (ltb k depth) s p ≡ gives m → entered (ltb k depth) m.many ≡ 0 → gone_on_lem (put p (suc n)) s ≡ gives (next_is (item p m.many k) (put m.first n))
  after p n m x e = to p n m x ∙ ap (λ c. gives (next_is (item p m.many k) c)) (ap (into n m.first) e ∙ out n m.first)

  -- an entry without a list is passed
  pub leaf_steps : (f : ℕ → Answer ℕ) → ((enter : Bool) (p : ℕ) → pass_in_lem code k enter s p ≡ mapped (λ q. record { many = 0; first = q }) (f p)) → (d : ℕ) → Steps s (leaf f) k d put
  leaf_steps f is d p q n x = after p n (record { many = 0; first = q }) (is (ltb k depth) p ∙ mapped_given _ _ q x) (none (ltb k depth)) where
    none : (b : Bool) → entered b 0 ≡ 0
    none true = refl
    none false = refl

  -- one with a list too, unless it is entered
  pub steps : (l : Layout) → ((enter : Bool) (p : ℕ) → pass_in_lem code k enter s p ≡ gone_over enter l s p) → (d : ℕ) → depth ≡ k + d →
      ((h : ℕ) (w : Counting) (e : Layout) (d n : ℕ) → l ≡ entry h w e → depth ≡ suc k + d → Steps s (form_of s e) (suc k) d (into n)) → Steps s (form_of s l) k d put
  unfolding gone_over
  steps (bytes h) is d at-depth on = leaf_steps (end_of (bytes h) s) is d
  steps (entry h w e) is zero at-depth on = λ p q n m has x.
      let shut : ltb k depth ≡ false = le-ltb k depth (omega arith) in
      let pass = is false p ∙ pass_over (entry h w e) s p m has ∙ mapped_given _ _ q (sym (ap (λ f. f p) (form_end s (entry h w e))) ∙ x) in
      after p n (record { many = m.many; first = q }) (ap (λ b. pass_in_lem code k b s p) shut ∙ pass) (ap (λ b. entered b m.many) shut)
  steps (entry h w e) is (suc d) at-depth on = λ n.
      let opened : ltb k depth ≡ true = lt-ltb k depth (omega arith) in
      record {
        into = into n;
        step = λ p m has.
            to p n m (ap (λ b. pass_in_lem code k b s p) opened ∙ is true p ∙ pass_enter (entry h w e) s p m has) ∙
            ap (λ b. gives (next_is (item p m.many k) (into n m.first (entered b m.many)))) opened;
        out = out n;
        on = on h w e d n refl (omega arith);
      }

-- one level down
level_next : (k : ℕ) (l : Layout) (n : ℕ) (w : Counting) (e : Layout) → at_level k l ≡ gives (entry n w e) → at_level (suc k) l ≡ gives e
unfolding at_level
level_next zero l n w e x = rw (given l (entry n w e) x)
level_next (suc k) (bytes m) n w e x = never (entry n w e) 6 [] (sym x)
level_next (suc k) (entry m v l) n w e x = level_next k l n w e x

-- so many levels are above it
level_depth : (k : ℕ) (l e : Layout) → at_level k l ≡ gives e → levels_of l ≡ k + levels_of e
unfolding at_level
level_depth zero l e x = let same = ap levels_of (given l e x) in omega arith
level_depth (suc k) (bytes m) e x = never e 6 [] (sym x)
level_depth (suc k) (entry m v l) e x = let rest = level_depth k l e x in omega arith

-- the steps of a list kind, which has at most three levels
module _ (code depth : ℕ) (s : List ℕ) (top : Layout) (is : layout_of code ≡ gives top) (other : eqb code inventory_code ≡ false) (three : levels_of top ≤ 3) where
  passes : (k : ℕ) (l : Layout) → at_level k top ≡ gives l → (enter : Bool) (p : ℕ) → pass_in_lem code k enter s p ≡ gone_over enter l s p
  unfolding pass_in_lem pass_entry
  passes k l x enter p = rw other (follows (layout_of code) top (λ l. and_then (at_level k l) (λ e. gone_over enter e s p)) is ∙ follows (at_level k top) l (λ e. gone_over enter e s p) x)

  steps_3 : (i j d : ℕ) (l : Layout) → at_level 3 top ≡ gives l → depth ≡ 3 + d → Steps s (form_of s l) 3 d (λ p n. cursor code depth s p i j n)
  steps_3 i j d l x at-depth =
      steps code depth s 3 (λ p n. cursor code depth s p i j n) (λ n p m. cursor code depth s p i j n) (λ n q. refl) (λ p n. step_3 code depth s p i j n) l (passes 3 l x) d at-depth
      (λ h w e d n same next.
      let deep = level_depth 3 top l x in
      let more = ap levels_of same in
      absurd (omega arith))

  steps_2 : (i d : ℕ) (l : Layout) → at_level 2 top ≡ gives l → depth ≡ 2 + d → Steps s (form_of s l) 2 d (λ p n. cursor code depth s p i n 0)
  steps_2 i d l x at-depth =
      steps code depth s 2 (λ p n. cursor code depth s p i n 0) (λ n p m. cursor code depth s p i n m) (λ n q. refl) (λ p n. step_2 code depth s p i n) l (passes 2 l x) d at-depth
      (λ h w e d n same next. steps_3 i n d e (level_next 2 top h w e (x ∙ ap gives same)) next)

  pub steps_1 : (d : ℕ) (l : Layout) → at_level 1 top ≡ gives l → depth ≡ 1 + d → Steps s (form_of s l) 1 d (λ p n. cursor code depth s p n 0 0)
  steps_1 d l x at-depth =
      steps code depth s 1 (λ p n. cursor code depth s p n 0 0) (λ n p m. cursor code depth s p n m 0) (λ n q. refl) (λ p n. step_1 code depth s p n) l (passes 1 l x) d at-depth
      (λ h w e d n same next. steps_2 n d e (level_next 1 top h w e (x ∙ ap gives same)) next)

-- the whole of a value of a list kind
module _ (code : ℕ) (s : List ℕ) (top : Layout) (q : ℕ) (m : ListAt) (is : layout_of code ≡ gives top) (other : eqb code inventory_code ≡ false) (three : levels_of top ≤ 3)
    (has : list_of top s 0 ≡ gives m) (reads : end_of top s 0 ≡ gives q)
    (counts : (is : List ℕ) → count_kind code is s ≡ length_at top is s) (spans : (is : List ℕ) → locate_kind code is s ≡ span_of top is s) where
  pub own_many : count_kind code [] s ≡ gives m.many
  own_many = many code s top counts spans top [] 0 (find_here top s 0) ∙ mapped_given _ _ m has

  pub goes_over : (depth : ℕ) → GoesOver s (first_cursor_lem code depth m) (by_numbers depth code s [])
  unfolding at_level
  goes_over zero = subst (GoesOver s (first_cursor_lem code 0 m)) (sym (no_depth code s [])) (finished (no_more code 0 s m.first))
  goes_over (suc d) = go top is three has reads counts spans where
    go : (top : Layout) → layout_of code ≡ gives top → levels_of top ≤ 3 → list_of top s 0 ≡ gives m → end_of top s 0 ≡ gives q →
        ((is : List ℕ) → count_kind code is s ≡ length_at top is s) → ((is : List ℕ) → locate_kind code is s ≡ span_of top is s) → GoesOver s (first_cursor_lem code (suc d) m) (by_numbers (suc d) code s [])
    go (bytes n) is three has reads counts spans = leafless n s 0 m has
    go (entry n w e) is three has reads counts spans =
        let top = entry n w e in
        let g = ends_in n w e s 0 q reads in
        let same : g.list ≡ m = given g.list m (sym g.has ∙ has) in
        let all : entries_end (end_of e s) m.many m.first ≡ gives q = rw same at g.ends in
        list_over s code (form_of s e) d (λ p n. cursor code (suc d) s p n 0 0) (steps_1 code (suc d) s top is other three d e refl (omega arith)) m q (rw (form_end s e) all)
        (ap or_none own_many)
        (λ i r h y.
        let u = one_under code s top counts spans top [] 0 q m i r (find_here top s 0) reads has h (rw (form_end s e) at y) in
        asked code s top counts spans e [] i r u.stop u.found u.reads)
        (no_more code (suc d) s q)
