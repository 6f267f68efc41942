-- Asking for an entry by its numbers, and for how many entries a list has (rules E1 to E3).
use Rattle.std.specs.Prelude.{Bool, true, false, cond, List, [], ◌∷◌, map, ℕ, zero, suc, ◌-◌, ltb, take, drop}
use Rattle.numbers.specs.Numbers.{Answer, gives, refuses, and_then, mapped}
use Rattle.layouts.specs.declared.Path.{Path}
use Rattle.layouts.specs.declared.ListAt.{ListAt}
use Rattle.layouts.specs.declared.Span.{Span}
use Rattle.layouts.specs.Layouts.{Layout, bytes, entry, layout_of}
use Rattle.layouts.specs.Reading.{list_of, entries_end, end_of, read_as_lem}

-- Rule E1: the numbers of a path, `depth` of them. Those past the third are 0, because no kind has more than three
-- levels.
abbrev pub numbers : ℕ → ℕ → ℕ → ℕ → List ℕ
numbers zero i j k = []
numbers (suc d) i j k = i ∷ numbers d j k 0

abbrev pub numbers_of : Path → List ℕ
numbers_of path = numbers path.depth path.i0 path.i1 path.i2

-- the layout of the entries in its list
abbrev pub below : Layout → Layout
below (bytes n) = bytes n
below (entry n w e) = e

-- Rule E2: where entry i starts in the list of the entry at p. A number at or above the count is refused by 6.
unfoldable pub child_at : Layout → ℕ → List ℕ → ℕ → Answer ℕ
child_at l i s p = and_then (list_of l s p) (λ m. cond (ltb i m.many) (entries_end (end_of (below l) s) i m.first) (refuses 6 []))

-- an entry: its layout, and where it starts
pub record Spot : Type 0 where
  pub layout : Layout
  pub start : ℕ

-- Rule E1: the entry with these numbers, one for each level down, in the entry that starts at p.
unfoldable pub find_entry_lem : Layout → List ℕ → List ℕ → ℕ → Answer Spot
find_entry_lem e [] s p = gives (record { layout = e; start = p })
find_entry_lem e (i ∷ is) s p = and_then (child_at e i s p) (λ q. find_entry_lem (below e) is s q)

-- Rules E1 and E2: where the entry with these numbers starts, and where the lists that it holds end. Without a number
-- there is no such entry.
unfoldable pub span_of : Layout → List ℕ → List ℕ → Answer Span
span_of l [] s = refuses 6 []
span_of l (i ∷ is) s = and_then (find_entry_lem l (i ∷ is) s 0) (λ f. mapped (λ q. record { start = f.start; end = q }) (end_of f.layout s f.start))

-- Rule E3: how many entries the list of the entry with these numbers has; without numbers, the outermost list.
unfoldable pub length_at : Layout → List ℕ → List ℕ → Answer ℕ
length_at l is s = and_then (find_entry_lem l is s 0) (λ f. mapped (λ m. m.many) (list_of f.layout s f.start))

-- Rules E2 and N2: the whole value has to read before the entry is looked for.
unfoldable pub of_value_lem : {A : Type 0} → (Layout → List ℕ → Answer A) → Layout → List ℕ → Answer A
of_value_lem f l s = and_then (read_as_lem l s) (λ r. f l s)

-- Rules E1 and E2, for the list kinds.
unfoldable pub locate_entry : ℕ → List ℕ → List ℕ → Answer Span
locate_entry code is s = and_then (layout_of code) (λ l. of_value_lem (λ l t. span_of l is t) l s)

-- Rule E3, for the list kinds.
unfoldable pub count_entries : ℕ → List ℕ → List ℕ → Answer ℕ
count_entries code is s = and_then (layout_of code) (λ l. of_value_lem (λ l t. length_at l is t) l s)

-- Rules E1 and A5: the part itself, and where it starts. Where there is none, it is the empty part at the start.
abbrev pub part_of : Answer Span → List ℕ → List ℕ
part_of (gives r) s = take (r.end - r.start) (drop r.start s)
part_of (refuses n vs) s = []

abbrev pub start_in : Answer Span → ℕ
start_in (gives r) = r.start
start_in (refuses n vs) = 0

-- Rule E9: the layout of an entry of level k. A value is the one of level 0, and the entries of its list are those of
-- level 1. A level that a layout doesn't have: 6.
unfoldable pub at_level : ℕ → Layout → Answer Layout
at_level zero l = gives l
at_level (suc k) (bytes n) = refuses 6 []
at_level (suc k) (entry n w e) = at_level k e

-- Rule E9: going over the entry at p. How many entries its own list has, 0 where it has none, and where to go on: at
-- the first of these if the list is opened, otherwise where the entry ends.
unfoldable pub gone_over : Bool → Layout → List ℕ → ℕ → Answer ListAt
gone_over enter (bytes n) s p = mapped (λ q. record { many = 0; first = q }) (end_of (bytes n) s p)
gone_over true (entry n w e) s p = list_of (entry n w e) s p
gone_over false (entry n w e) s p = and_then (list_of (entry n w e) s p) (λ m. mapped (λ q. record { many = m.many; first = q }) (end_of (entry n w e) s p))

-- Rule E9, for the list kinds.
unfoldable pub pass_entry : ℕ → ℕ → Bool → List ℕ → ℕ → Answer ListAt
pass_entry code k enter s p = and_then (layout_of code) (λ l. and_then (at_level k l) (λ e. gone_over enter e s p))

-- number i of these, from 0; 6 where there is none (rule E2)
abbrev pub nth_of : {A : Type 0} → List A → ℕ → Answer A
nth_of [] i = refuses 6 []
nth_of (x ∷ xs) zero = gives x
nth_of (x ∷ xs) (suc i) = nth_of xs i

-- entries one after the other: where each lies, and where the last one ends
pub record Spans : Type 0 where
  pub each : List Span
  pub end : ℕ

abbrev pub before : Span → Spans → Spans
before e r = record { each = e ∷ r.each; end = r.end }

-- n entries from p on, if each ends where f says
unfoldable pub spans_from : (ℕ → Answer ℕ) → ℕ → ℕ → Answer Spans
spans_from f zero p = gives (record { each = []; end = p })
spans_from f (suc n) p = and_then (f p) (λ q. mapped (before (record { start = p; end = q })) (spans_from f n q))

-- the entries of the list of the entry that starts at p
unfoldable pub spans_in : Layout → List ℕ → ℕ → Answer Spans
spans_in l s p = and_then (list_of l s p) (λ m. spans_from (end_of (below l) s) m.many m.first)

-- the parts of the entries of a value's outermost list
unfoldable pub parts_in : Layout → List ℕ → Answer (List (List ℕ))
parts_in l s = mapped (λ r. map (λ e. part_of (gives e) s) r.each) (spans_in l s 0)
