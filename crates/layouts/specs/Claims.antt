-- What is claimed of this crate's calls and definitions; proofs/Claims.antt proves it.
use Rattle.std.specs.Prelude.{◌≡◌, Bool, ℕ, suc, ◌+◌, ◌*◌, ◌<◌, ◌≤◌, length, take}
use mathlib.Core.List.{List, [], ◌∷◌, ◌++◌, flatten}
use Rattle.std.specs.Borrow.{Bor}
use Rattle.numbers.specs.Numbers.{Answer, gives, mapped, answered}
use Rattle.numbers.specs.Firmness.{Firm}
use Rattle.numbers.specs.Parts.{behind}
use Rattle.layouts.specs.declared.LayoutRow.{LayoutRow}
use Rattle.layouts.specs.declared.ListAt.{ListAt}
use Rattle.layouts.specs.declared.Consumed.{Consumed}
use Rattle.layouts.specs.declared.Span.{Span}
use Rattle.layouts.specs.declared.Path.{Path}
use Rattle.layouts.specs.Layouts.{Counting, to_end, Layout, bytes, entry, layout_of, is_list_lem}
use Rattle.layouts.specs.Rows.{row_layout}
use Rattle.layouts.specs.Reading.{list_of, entries_end, end_of, read_value_lem}
use Rattle.layouts.specs.Access.{numbers_of, span_of, nth_of, parts_in, locate_entry, part_of, start_in, count_entries, pass_entry}

-- Rule A4, for each public call by its name: any two answers that its contract allows are one. A part is its bytes and
-- its place.
pub record Firmness : Type 0 where
  pub list_at : (row : LayoutRow) (s : List ℕ) (at : ℕ) → Firm (λ r. answered r ≡ list_of (row_layout row) s at)
  pub read_list : (row : LayoutRow) (n : ℕ) (s : List ℕ) (at : ℕ) → Firm (λ r. answered r ≡ entries_end (end_of (row_layout row) s) n at)
  pub is_list : (code : ℕ) → Firm (λ r. r ≡ is_list_lem code)
  pub read_value : (code : ℕ) (s : List ℕ) → Firm (λ r. answered r ≡ read_value_lem code s)
  pub locate : (code : ℕ) (path : Path) (s : List ℕ) → Firm (λ r. answered r ≡ locate_entry code (numbers_of path) s)
  pub entry : (code : ℕ) (path : Path) (s : Bor (List ℕ)) → Firm {A = List ℕ × (ℕ × ℕ)} (λ r.
      (r.0 ≡ part_of (locate_entry code (numbers_of path) s.now) s.now) × (r.1 ≡ behind (start_in (locate_entry code (numbers_of path) s.now)) s))
  pub count : (code : ℕ) (path : Path) (s : List ℕ) → Firm (λ r. answered r ≡ count_entries code (numbers_of path) s)
  pub pass : (code level : ℕ) (enter : Bool) (s : List ℕ) (at : ℕ) → Firm (λ r. answered r ≡ pass_entry code level enter s at)

-- how many levels of lists a layout has (rule E1)
abbrev pub levels_of : Layout → ℕ
levels_of (bytes n) = 0
levels_of (entry n w e) = suc (levels_of e)

-- an entry that is found lies in the q bytes consumed
pub record Shown (x : Answer Span) (q : ℕ) : Type 0 where
  pub span : Span
  pub is : x ≡ gives span
  pub ordered : span.start ≤ span.end
  pub inside : span.end ≤ q

-- a number below a count
pub record Below (x : Answer ℕ) (i : ℕ) : Type 0 where
  pub many : ℕ
  pub counts : x ≡ gives many
  pub less : i < many

-- What holds for every value of every list kind (rules K1, E1, E2 and E3).
pub record ListValues : Type 0 where
  -- Rule E1: no kind has more than three levels
  pub levels_3 : (code : ℕ) (l : Layout) → layout_of code ≡ gives l → levels_of l ≤ 3
  -- Rule K1: the bytes consumed and the rest together are the value
  pub consumed_within : (code : ℕ) (s : List ℕ) (r : Consumed) → read_value_lem code s ≡ gives r →
      (r.consumed ≤ length s) × (r.consumed + r.rest ≡ length s)
  -- Rule E3: the outermost list has as many entries as reading says
  pub own_count : (code : ℕ) (s : List ℕ) (r : Consumed) → read_value_lem code s ≡ gives r →
      count_entries code [] s ≡ gives r.entries
  -- Rule E1: every entry can be asked for. A number below the count of its list leads to an entry, whose part lies in
  -- the bytes consumed
  pub every_entry : (code : ℕ) (is s : List ℕ) (r : Consumed) (n i : ℕ) → read_value_lem code s ≡ gives r →
      count_entries code is s ≡ gives n → i < n →
      Shown (locate_entry code (is ++ i ∷ []) s) r.consumed
  -- Rule E2: no other can. Where an entry is found, its last number is below the count of the list that the numbers
  -- before it lead to, and there is a number
  pub no_other : (code : ℕ) (is s : List ℕ) (i : ℕ) (r : Span) → locate_entry code (is ++ i ∷ []) s ≡ gives r →
      Below (count_entries code is s) i
  pub no_numbers : (code : ℕ) (s : List ℕ) (r : Span) → locate_entry code [] s ≡ gives r → ⊥

-- Rules K1 and O2: what is read depends on the bytes consumed alone. They read the same without the rest, and so do
-- every list and every entry in them.
pub record ListAlone (code : ℕ) (s : List ℕ) (r : Consumed) : Type 0 where
  pub reads : read_value_lem code (take r.consumed s) ≡ gives (record { consumed = r.consumed; rest = 0; entries = r.entries })
  pub counts : (is : List ℕ) → count_entries code is (take r.consumed s) ≡ count_entries code is s
  pub located : (is : List ℕ) → locate_entry code is (take r.consumed s) ≡ locate_entry code is s
  pub parts : (is : List ℕ) →
      part_of (locate_entry code is (take r.consumed s)) (take r.consumed s) ≡ part_of (locate_entry code is s) s

abbrev pub ListsAlone : Type 0
ListsAlone = (code : ℕ) (s : List ℕ) (r : Consumed) → read_value_lem code s ≡ gives r → ListAlone code s r

-- Rules K3 and E1, for any layout, whether or not it is in the table: the parts of the entries of a value's outermost
-- list, as a list.
pub record Parts (l : Layout) (s : List ℕ) (m : ListAt) (q : ℕ) : Type 0 where
  pub parts : List (List ℕ)
  pub are : parts_in l s ≡ gives parts
  pub many : length parts ≡ m.many
  -- part number i is the one that asking for entry i returns; beyond the last, both refuse
  pub by_number : (i : ℕ) → nth_of parts i ≡ mapped (λ e. part_of (gives e) s) (span_of l (i ∷ []) s)
  -- what stands before the first one, and then all of them joined, are the bytes consumed
  pub all : take m.first s ++ flatten parts ≡ take q s

abbrev pub PartsOfEntries : Type 0
PartsOfEntries = (l : Layout) (s : List ℕ) (m : ListAt) (q : ℕ) → list_of l s 0 ≡ gives m → end_of l s 0 ≡ gives q →
    Parts l s m q

-- Rule K3: entries of h bytes without a list stand one after the other, h bytes each. A list to the end has no count
-- before it.
pub record Plain : Type 0 where
  pub runs : (n : ℕ) (w : Counting) (h : ℕ) (s : List ℕ) (m : ListAt) (q i : ℕ) →
      list_of (entry n w (bytes h)) s 0 ≡ gives m → end_of (entry n w (bytes h)) s 0 ≡ gives q → i < m.many →
      span_of (entry n w (bytes h)) (i ∷ []) s ≡ gives (record { start = m.first + i * h; end = m.first + i * h + h })
  pub after_head : (n : ℕ) (e : Layout) (s : List ℕ) (m : ListAt) → list_of (entry n to_end e) s 0 ≡ gives m →
      m.first ≡ n

-- everything that is claimed of this crate
pub record Claims : Type 0 where
  pub firmness : Firmness
  pub values : ListValues
  pub consumed_alone : ListsAlone
  pub parts_of_entries : PartsOfEntries
  pub plain : Plain
