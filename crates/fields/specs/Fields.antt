-- The own fields of an entry, at the place where the entry starts in its value (rules K8 and E11).
use Rattle.std.specs.Prelude.{Bool, true, false, cond, List, [], ◌∷◌, ℕ, ◌+◌, eqb, take, drop, get_or}
use Rattle.numbers.specs.Numbers.{Answer, gives, refuses, and_then, mapped}
use Rattle.layouts.specs.Layouts.{size_of, service_fields, local_fields, other_neighbour_fields, neighbour_fields, link_fields, interface_fields, ipv4_fields, ipv6_interface_fields, ipv6_fields, radio_fields, bss_fields, reported_bss_fields, name_fields}
use Rattle.layouts.specs.Reading.{reaching}
use Rattle.texts.specs.Texts.{inventory_code}
use Rattle.fields.specs.declared.parts.TextPlace.{TextPlace}

-- Rule E11: the bytes of fields of these sizes, the first of which starts at p. A value that ends before they do: 3.
unfoldable pub fields_at : List ℕ → List ℕ → ℕ → Answer (List ℕ)
fields_at ws s p = reaching (p + size_of ws) s (take (size_of ws) (drop p s))

-- Rule K8: a name or a text that follows fields. The byte at p says how many bytes it has. A value that ends before
-- they do: 3.
unfoldable pub text_at : List ℕ → ℕ → Answer TextPlace
text_at s p = and_then (reaching (p + 1) s (get_or s p 0)) (λ n. reaching (p + 1 + n) s (record { start = p + 1; length = n }))

-- an entry: its own fields, and the text that follows them
pub record WithText : Type 0 where
  pub own : List ℕ
  pub text : TextPlace

abbrev pub nothing_there : WithText
nothing_there = record { own = []; text = record { start = 0; length = 0 } }

-- Rule E11: the entry at p, with a text or without.
unfoldable pub entry_at : Bool → List ℕ → List ℕ → ℕ → Answer WithText
entry_at false ws s p = mapped (λ own. record { own = own; text = nothing_there.text }) (fields_at ws s p)
entry_at true ws s p = and_then (fields_at ws s p) (λ own. mapped (λ t. record { own = own; text = t }) (text_at s (p + size_of ws)))

-- Rule K8: the entries of the kind with this code that so many numbers lead to have fields of these sizes.
pub record Fielded : Type 0 where
  pub code : ℕ
  pub level : ℕ
  pub sizes : List ℕ

abbrev fielded : ℕ → ℕ → List ℕ → Fielded
fielded n k ws = record { code = n; level = k; sizes = ws }

-- Rule K8: which entries each call is about. Level 0 is what stands before the list.
abbrev pub front_rows : List Fielded
front_rows = fielded 6 0 local_fields ∷ fielded 7 0 local_fields ∷ fielded 9 0 link_fields ∷ fielded 10 0 link_fields ∷ []

abbrev pub neighbour_rows : List Fielded
neighbour_rows = fielded 6 1 other_neighbour_fields ∷ fielded 7 1 neighbour_fields ∷ []

abbrev pub interface_rows : List Fielded
interface_rows = fielded 4 2 interface_fields ∷ fielded 23 1 interface_fields ∷ fielded 24 1 ipv6_interface_fields ∷ []

abbrev pub ipv4_rows : List Fielded
ipv4_rows = fielded 23 2 ipv4_fields ∷ []

abbrev pub ipv6_rows : List Fielded
ipv6_rows = fielded 24 2 ipv6_fields ∷ []

abbrev pub byte_rows : List Fielded
byte_rows = fielded 0x80 1 service_fields ∷ fielded 0x83 3 name_fields ∷ fielded 0xB7 3 name_fields ∷ []

abbrev pub radio_rows : List Fielded
radio_rows = fielded 0x83 1 radio_fields ∷ fielded 0xB7 1 radio_fields ∷ fielded inventory_code 1 radio_fields ∷ []

abbrev pub bss_rows : List Fielded
bss_rows = fielded 0x83 2 bss_fields ∷ fielded 0xB7 2 reported_bss_fields ∷ []

-- Rule E11: the row for a code. A kind without such entries: 16.
abbrev pub row_for : List Fielded → ℕ → Answer Fielded
row_for [] n = refuses 16 []
row_for (f ∷ fs) n = cond (eqb n f.code) (gives f) (row_for fs n)

unfoldable pub fields_for : List Fielded → ℕ → List ℕ → ℕ → Answer (List ℕ)
fields_for fs code s p = and_then (row_for fs code) (λ f. fields_at f.sizes s p)

unfoldable pub entry_for : Bool → List Fielded → ℕ → List ℕ → ℕ → Answer WithText
entry_for text fs code s p = and_then (row_for fs code) (λ f. entry_at text f.sizes s p)
