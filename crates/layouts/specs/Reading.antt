-- Reading a value of a list kind (rules K1, K3 and K4).
use Rattle.std.specs.Prelude.{cond, List, [], ℕ, zero, suc, ◌+◌, ◌-◌, ◌/◌, ltb, leb, length, get_or}
use Rattle.numbers.specs.Numbers.{Answer, gives, refuses, and_then}
use Rattle.layouts.specs.declared.ListAt.{ListAt}
use Rattle.layouts.specs.declared.Consumed.{Consumed}
use Rattle.layouts.specs.Layouts.{Counting, c1, to_end, Layout, bytes, entry, layout_of}

-- Rule K1: the answer a, if the value has q bytes. A value that stops before is refused by 3.
abbrev pub reaching : {A : Type 0} → ℕ → List ℕ → A → Answer A
reaching q s a = cond (leb q (length s)) (gives a) (refuses 3 [])

abbrev pub head_of : Layout → ℕ
head_of (bytes n) = n
head_of (entry n w e) = n

-- how its own list is counted; where there is none, it makes no difference
abbrev pub counting_of_lem : Layout → Counting
counting_of_lem (bytes n) = c1
counting_of_lem (entry n w e) = w

-- Rule K3: the list at p. Its count is the byte there. A list to the end has as many whole entries of h bytes as fit,
-- and none if h is 0.
unfoldable pub count_at_lem : Counting → ℕ → List ℕ → ℕ → Answer ListAt
count_at_lem c1 h s p = reaching (p + 1) s (record { many = get_or s p 0; first = p + 1 })
count_at_lem to_end h s p = gives (record { many = (length s - p) / h; first = p })

-- The list of the entry that starts at p: it follows the entry's head. An entry without a list: 6 (rules E2 and E3).
unfoldable pub list_of : Layout → List ℕ → ℕ → Answer ListAt
list_of (bytes n) s p = refuses 6 []
list_of (entry n w e) s p = and_then (reaching (p + n) s (p + n)) (λ q. count_at_lem w (head_of e) s q)

-- Rule K3: where n entries from p on end, one after the other, if each ends where f says.
unfoldable pub entries_end : (ℕ → Answer ℕ) → ℕ → ℕ → Answer ℕ
entries_end f zero p = gives p
entries_end f (suc n) p = and_then (f p) (λ q. entries_end f n q)

-- Rule K3: where the entry that starts at p ends. If it has a list, it ends where that list ends.
unfoldable pub end_of : Layout → List ℕ → ℕ → Answer ℕ
end_of (bytes n) s p = reaching (p + n) s (p + n)
end_of (entry n w e) s p = and_then (list_of (entry n w e) s p) (λ m. entries_end (end_of e s) m.many m.first)

-- Rule K4: a value of n entries whose layout ends at e. What follows is the rest. After a list to the end, as kinds 6,
-- 7, 9 and 10 have it, it is refused by 4.
unfoldable pub consumed_to_lem : Counting → ℕ → ℕ → List ℕ → Answer Consumed
consumed_to_lem c1 e n s = gives (record { consumed = e; rest = length s - e; entries = n })
consumed_to_lem to_end e n s = cond (ltb e (length s)) (refuses 4 []) (gives (record { consumed = e; rest = 0; entries = n }))

-- Rule K7: the layout is looked at first (3), then left-over bytes (4).
unfoldable pub read_as_lem : Layout → List ℕ → Answer Consumed
read_as_lem l s = and_then (list_of l s 0) (λ m. and_then (end_of l s 0) (λ e. consumed_to_lem (counting_of_lem l) e m.many s))

-- Rule K1, for the list kinds: the value of the kind with this code.
unfoldable pub read_value_lem : ℕ → List ℕ → Answer Consumed
read_value_lem code s = and_then (layout_of code) (λ l. read_as_lem l s)
