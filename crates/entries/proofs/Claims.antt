-- The claims of specs/Claims.antt, proved.
use mathlib.Core.Path.{◌≡◌, refl, sym, ap, ◌∙◌, subst}
use mathlib.Core.Bool.{Bool, true, false}
use mathlib.Core.List.{List, []}
use Prim.Native.Nat.{ℕ}
use native.Mathlib.Omega.{arith}
use lib.Dec.{eqb}
use lib.ListN.{length}
use borrow.Author.Tests.{eqb-true}
use Rattle.numbers.specs.Numbers.{Answer, gives, refuses, and_then, mapped}
use Rattle.numbers.proofs.Firm.{by_answer, never}
use Rattle.numbers.proofs.Answers.{given, gave, follows, stops, mapped_given, mapped_gave, mapped_refused}
use Rattle.records.specs.declared.Record.{Record}
use Rattle.records.specs.Reading.{read_record_lem}
use Rattle.layouts.specs.Layouts.{Layout, layout_of, is_list_lem}
use Rattle.layouts.specs.declared.ListAt.{ListAt}
use Rattle.layouts.specs.declared.Consumed.{Consumed}
use Rattle.layouts.specs.Reading.{list_of, read_as_lem, read_value_lem}
use Rattle.layouts.specs.Access.{length_at, span_of, at_level, pass_entry, locate_entry, count_entries, of_value_lem}
use Rattle.layouts.proofs.Values.{ended, answers}
use Rattle.layouts.proofs.Passes.{level_here, pass_enter}
use Rattle.layouts.proofs.Claims as lists
use Rattle.texts.specs.Texts.{TextKind, inventory_code, text_kind, is_text_lem}
use Rattle.texts.specs.Reading.{whole_of, consumed_in, read_text}
use Rattle.texts.specs.Access.{of_text, count_radios}
use Rattle.kinds.specs.declared.Typed.{Typed}
use Rattle.kinds.specs.Kinds.{one_record, one_list, read_kind_lem, locate_kind, count_kind}
use Rattle.kinds.proofs.Apart.{apart}
use Rattle.kinds.proofs.Laws.{as_list, as_text, as_record}
use Rattle.entries.specs.declared.Start.{Start}
use Rattle.entries.specs.Entries.{first_cursor_lem, entries_in_lem, list_in, beginning}
use Rattle.entries.specs.Claims.{Firmness, GoesOver, by_numbers, AsAsked, AsCounted, Claims}
use Rattle.entries.proofs.Laws.{begun_not, begun_on}
use Rattle.entries.proofs.Lists as by-lists
use Rattle.entries.proofs.Radios as by-radios

firmness : Firmness
firmness = record { begin = λ code depth s. by_answer _; go_on = λ cursor s. by_answer _ }

-- no list kind has the code of DeviceInventory
no_inventory : (code : ℕ) (l : Layout) → layout_of code ≡ gives l → eqb code inventory_code ≡ false
unfolding layout_of
no_inventory code l x = go (eqb code inventory_code) refl where
  go : (b : Bool) → eqb code inventory_code ≡ b → b ≡ false
  go true e = never l 16 [] (sym x ∙ ap layout_of (eqb-true code inventory_code e))
  go false e = refl

-- What is claimed of a value that reads as t: its outermost list m, gone over from its first entry, is as it is asked
-- for and counted.
record Whole (code : ℕ) (s : List ℕ) (t : Typed Record) : Type 0 where
  list : ListAt
  there : list_in t.held code s ≡ gives list
  over_it : (depth : ℕ) → GoesOver s (first_cursor_lem code depth list) (by_numbers depth code s [])
  counts : count_kind code [] s ≡ gives list.many

-- of a list kind
module _ (code : ℕ) (s : List ℕ) (list : is_list_lem code ≡ true) where
  no_text : is_text_lem code ≡ false
  no_text = go (is_text_lem code) refl where
    go : (b : Bool) → is_text_lem code ≡ b → b ≡ false
    go true e = let z : ◌≡◌ {A = ℕ} 0 1 = cc ((apart code).1 e, list) in absurd (omega arith)
    go false e = refl

  first_there : (top : Layout) (m : ListAt) → layout_of code ≡ gives top → list_of top s 0 ≡ gives m → entries_in_lem code s ≡ gives m
  unfolding entries_in_lem pass_entry
  first_there top m is has =
      rw no_text (follows (layout_of code) top _ is ∙ follows (at_level 0 top) top _ (level_here 0 top (omega arith)) ∙ pass_enter top s 0 m has)

  whole_list : (c : Consumed) → read_value_lem code s ≡ gives c → Whole code s (one_list c)
  unfolding read_value_lem count_entries locate_entry
  whole_list c x =
      let a = gave (layout_of code) (λ l. read_as_lem l s) c x in
      let top = a.first in
      let e = ended top s c a.then in
      let k = as_list code s list in
      let counts : (is : List ℕ) → count_kind code is s ≡ length_at top is s = λ is. k.2 is ∙ answers (λ l t. length_at l is t) code s top c a.is a.then in
      let spans : (is : List ℕ) → locate_kind code is s ≡ span_of top is s = λ is. k.1 is ∙ answers (λ l t. span_of l is t) code s top c a.is a.then in
      let other = no_inventory code top a.is in
      let three = (lists.values).levels_3 code top a.is in
      record {
        list = e.list;
        there = first_there top e.list a.is e.has;
        over_it = by-lists.goes_over code s top c.consumed e.list a.is other three e.has e.ends counts spans;
        counts = by-lists.own_many code s top c.consumed e.list a.is other three e.has e.ends counts spans;
      }

-- of a kind that holds text
module _ (code : ℕ) (s : List ℕ) (no_list : is_list_lem code ≡ false) (text : is_text_lem code ≡ true) where
  whole_text : (c : Consumed) → read_text code s ≡ gives c → Whole code s (one_list c)
  unfolding read_text entries_in_lem
  whole_text c x =
      let a = gave (text_kind code) (λ k. mapped (consumed_in s) (whole_of k s)) c x in
      let v = mapped_gave (consumed_in s) (whole_of a.first s) c a.then in
      record {
        list = v.first.list;
        there = rw text (by-radios.radios_are code s a.first v.first no_list text a.is v.is);
        over_it = by-radios.goes_over code s a.first v.first no_list text a.is v.is;
        counts = by-radios.own_many code s a.first v.first no_list text a.is v.is;
      }

-- of any kind: where there is a list, it is so
module _ (code : ℕ) (s : List ℕ) (t : Typed Record) (x : read_kind_lem code s ≡ gives t) where
  -- a record has no list
  one_record_lem : is_list_lem code ≡ false → is_text_lem code ≡ false → list_in t.held code s ≡ refuses 6 []
  one_record_lem no_list no_text =
      let g = mapped_gave (one_record (length s)) (read_record_lem code s) t (sym (as_record code s no_list no_text).0 ∙ x) in
      ap (λ t. list_in t.held code s) (sym (given (one_record (length s) g.first) t g.then))

  whole_of_lem : (is_list_lem code ≡ false → is_text_lem code ≡ false → ⊥) → Whole code s t
  whole_of_lem some = go (is_list_lem code) refl (is_text_lem code) refl where
    go : (a : Bool) → is_list_lem code ≡ a → (b : Bool) → is_text_lem code ≡ b → Whole code s t
    go true l b e =
        let g = mapped_gave one_list (read_value_lem code s) t (sym (as_list code s l).0 ∙ x) in
        subst (Whole code s) (given (one_list g.first) t g.then) (whole_list code s l g.first g.is)
    go false l true e =
        let g = mapped_gave one_list (read_text code s) t (sym (as_text code s l e).0 ∙ x) in
        subst (Whole code s) (given (one_list g.first) t g.then) (whole_text code s l e g.first g.is)
    go false l false e = absurd (some l e)

as_asked : AsAsked
unfolding beginning
as_asked code depth s b x =
    let g = gave (read_kind_lem code s) (λ t. mapped (λ m. record { cursor = first_cursor_lem code depth m; entries = m.many; consumed = t.consumed; rest = t.rest }) (list_in t.held code s)) b x in
    let t = g.first in
    let m = mapped_gave (λ m. record { cursor = first_cursor_lem code depth m; entries = m.many; consumed = t.consumed; rest = t.rest }) (list_in t.held code s) b g.then in
    let w = whole_of_lem code s t g.is (λ l e. never m.first 6 [] (sym m.is ∙ one_record_lem code s t g.is l e)) in
    let list : w.list ≡ m.first = given w.list m.first (sym w.there ∙ m.is) in
    let cursor : first_cursor_lem code depth m.first ≡ b.cursor = ap (λ b. b.cursor) (given _ b m.then) in
    subst (λ c. GoesOver s c (by_numbers depth code s [])) (ap (first_cursor_lem code depth) list ∙ cursor) (w.over_it depth)

-- what doesn't read isn't counted
unmapped : {A B : Type 0} (f : A → B) (x : Answer A) (n : ℕ) (vs : List ℕ) → mapped f x ≡ refuses n vs → x ≡ refuses n vs
unmapped f (gives a) n vs e = never _ n vs e
unmapped f (refuses m us) n vs e = let a : m ≡ n = cc in let b : us ≡ vs = cc in rw (a, b)

list_unread : (code : ℕ) (s : List ℕ) (n : ℕ) (vs : List ℕ) → read_value_lem code s ≡ refuses n vs → count_entries code [] s ≡ refuses n vs
unfolding read_value_lem count_entries of_value_lem
list_unread code s n vs = go (layout_of code) where
  go : (y : Answer Layout) → and_then y (λ l. read_as_lem l s) ≡ refuses n vs → and_then y (λ l. and_then (read_as_lem l s) (λ r. length_at l [] s)) ≡ refuses n vs
  go (gives l) x = stops (read_as_lem l s) n vs _ x
  go (refuses k us) x = let a : k ≡ n = cc in let b : us ≡ vs = cc in rw (a, b)

text_unread : (code : ℕ) (s : List ℕ) (n : ℕ) (vs : List ℕ) → read_text code s ≡ refuses n vs → count_radios code [] s ≡ refuses n vs
unfolding read_text count_radios of_text
text_unread code s n vs = go (text_kind code) where
  go : (y : Answer TextKind) → and_then y (λ k. mapped (consumed_in s) (whole_of k s)) ≡ refuses n vs → and_then y (λ k. and_then (whole_of k s) (λ v. gives v.list.many)) ≡ refuses n vs
  go (gives k) x = stops (whole_of k s) n vs _ (unmapped (consumed_in s) (whole_of k s) n vs x)
  go (refuses k us) x = let a : k ≡ n = cc in let b : us ≡ vs = cc in rw (a, b)

unread : (code : ℕ) (s : List ℕ) (n : ℕ) (vs : List ℕ) → read_kind_lem code s ≡ refuses n vs → count_kind code [] s ≡ refuses n vs
unread code s n vs x = go (is_list_lem code) refl (is_text_lem code) refl where
  go : (a : Bool) → is_list_lem code ≡ a → (b : Bool) → is_text_lem code ≡ b → count_kind code [] s ≡ refuses n vs
  go true l b e = let k = as_list code s l in k.2 [] ∙ list_unread code s n vs (unmapped one_list (read_value_lem code s) n vs (sym k.0 ∙ x))
  go false l true e = let k = as_text code s l e in k.2 [] ∙ text_unread code s n vs (unmapped one_list (read_text code s) n vs (sym k.0 ∙ x))
  go false l false e = (as_record code s l e).1 [] ∙ stops (read_kind_lem code s) n vs _ x

as_counted : AsCounted
as_counted code depth s = go (read_kind_lem code s) refl where
  go : (y : Answer (Typed Record)) → read_kind_lem code s ≡ y → mapped (λ b. b.entries) (beginning code depth s) ≡ count_kind code [] s
  go (refuses n vs) x = mapped_refused (λ b. b.entries) _ n vs (begun_not code depth s n vs x) ∙ sym (unread code s n vs x)
  go (gives t) x = ap (mapped (λ b. b.entries)) (begun_on code depth s t x) ∙ by_kind (is_list_lem code) refl (is_text_lem code) refl where
    start : ListAt → Start
    start m = record { cursor = first_cursor_lem code depth m; entries = m.many; consumed = t.consumed; rest = t.rest }

    listed : Whole code s t → mapped (λ b. b.entries) (mapped start (list_in t.held code s)) ≡ count_kind code [] s
    listed w = mapped_given (λ b. b.entries) _ _ (mapped_given start _ _ w.there) ∙ sym w.counts

    by_kind : (a : Bool) → is_list_lem code ≡ a → (b : Bool) → is_text_lem code ≡ b → mapped (λ b. b.entries) (mapped start (list_in t.held code s)) ≡ count_kind code [] s
    by_kind true l b e = listed (whole_of_lem code s t x (λ n m. let z : ◌≡◌ {A = ℕ} 0 1 = cc in omega arith))
    by_kind false l true e = listed (whole_of_lem code s t x (λ n m. let z : ◌≡◌ {A = ℕ} 0 1 = cc in omega arith))
    by_kind false l false e =
        mapped_refused (λ b. b.entries) _ 6 [] (mapped_refused start _ 6 [] (one_record_lem code s t x l e)) ∙
        sym ((as_record code s l e).1 [] ∙ follows (read_kind_lem code s) t _ x)

pub claims : Claims
claims = record { firmness = firmness; as_asked = as_asked; as_counted = as_counted }
