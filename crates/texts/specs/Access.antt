-- Access by numbers (rules E1 to E3, E7 and E8): a radio of a value as an entry, and each text as its own part. The
-- whole value has to read first: 16, 3, 18, and then 6.
use Rattle.std.specs.Prelude.{List, [], ◌∷◌, ℕ}
use Rattle.numbers.specs.Numbers.{Answer, gives, refuses, and_then, mapped}
use Rattle.layouts.specs.declared.ListAt.{ListAt}
use Rattle.layouts.specs.declared.Span.{Span}
use Rattle.layouts.specs.Access.{nth_of}
use Rattle.texts.specs.Texts.{TextKind, inventory_code, text_kind, radio}
use Rattle.texts.specs.Reading.{text_span_lem, radios_in_lem, Laid, whole_of}

-- Rules E2 and E7: what is asked of a value, once it has read.
unfoldable pub of_text : {A : Type 0} → ℕ → (TextKind → Laid → Answer A) → List ℕ → Answer A
of_text code f s = and_then (text_kind code) (λ k. and_then (whole_of k s) (λ v. f k v))

-- Rule E8: a radio is asked for by one number. It is an id and a text after its length. No number, or a second one,
-- asks for no entry: 6.
abbrev pub radio_in_lem : List ℕ → Laid → Answer Span
radio_in_lem [] v = refuses 6 []
radio_in_lem (i ∷ []) v = nth_of v.radios.each i
radio_in_lem (i ∷ j ∷ is) v = refuses 6 []

unfoldable pub locate_radio : ℕ → List ℕ → List ℕ → Answer Span
locate_radio code is s = of_text code (λ k v. radio_in_lem is v) s

-- Rule E3: how many radios there are. A kind without radios has none, and a radio has no list.
abbrev pub radio_count : List ℕ → Laid → Answer ℕ
radio_count [] v = gives v.list.many
radio_count (i ∷ is) v = refuses 6 []

unfoldable pub count_radios : ℕ → List ℕ → List ℕ → Answer ℕ
count_radios code is s = of_text code (λ k v. radio_count is v) s

-- Rule E9: how many radios a value of the kind with this code has, and where the first one starts.
unfoldable pub radios_of : ℕ → List ℕ → Answer ListAt
radios_of code s = and_then (text_kind code) (λ k. radios_in_lem k s)

-- Rule E7: the value's own text with this number. Rule E8: the text of the radio with this number.
unfoldable pub locate_text_lem : ℕ → ℕ → List ℕ → Answer Span
locate_text_lem code i s = of_text code (λ k v. mapped (text_span_lem k.piece s) (nth_of v.texts.each i)) s

unfoldable pub locate_radio_text_lem : ℕ → List ℕ → Answer Span
locate_radio_text_lem i s = mapped (text_span_lem radio s) (locate_radio inventory_code (i ∷ []) s)
