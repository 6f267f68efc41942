-- Reading a value that holds text (rules K1, E5 and E6): its pieces and then its radios, by the readers of counted
-- layouts; then each text by RFC 3629.
use Rattle.std.specs.Prelude.{Bool, true, false, cond, List, [], ◌∷◌, ℕ, suc, ◌+◌, ◌-◌, eqb, length}
use Rattle.numbers.specs.Numbers.{Answer, gives, refuses, and_then, mapped}
use Rattle.layouts.specs.Layouts.{Counting, c1, to_end, Layout, bytes, entry, c1_of}
use Rattle.layouts.specs.declared.ListAt.{ListAt}
use Rattle.layouts.specs.declared.Consumed.{Consumed}
use Rattle.layouts.specs.Reading.{list_of, entries_end, end_of}
use Rattle.layouts.specs.declared.Span.{Span}
use Rattle.layouts.specs.Access.{part_of, Spans, spans_from}
use Rattle.utf8.specs.Utf8.{is_utf8_lem}
use Rattle.texts.specs.Texts.{TextKind, text_kind, radio}

-- Rule E6: how many bytes stand before the first zero byte; all of them, where there is none.
unfoldable pub until_zero_lem : List ℕ → ℕ
until_zero_lem [] = 0
until_zero_lem (b ∷ s) = cond (eqb b 0) 0 (suc (until_zero_lem s))

-- the bytes of a count
abbrev pub count_size_lem : Counting → ℕ
count_size_lem c1 = 1
count_size_lem to_end = 0

-- Where the text of a piece or of a radio lies. In a field it goes up to the first zero byte (rule E6). Otherwise it is
-- all bytes of the list, which stands after the head and the count (rules E7 and E8).
unfoldable pub text_span_lem : Layout → List ℕ → Span → Span
text_span_lem (bytes n) s r = record { start = r.start; end = r.start + until_zero_lem (part_of (gives r) s) }
text_span_lem (entry n w e) s r = record { start = r.start + n + count_size_lem w; end = r.end }

-- Rule K3: how many radios there are, in a count of one byte, and where the first one starts.
unfoldable pub radio_list_lem : Bool → List ℕ → ℕ → Answer ListAt
radio_list_lem false s p = gives (record { many = 0; first = p })
radio_list_lem true s p = list_of (c1_of radio) s p

-- The list of the radios stands after the pieces. The texts make no difference to it.
unfoldable pub radios_in_lem : TextKind → List ℕ → Answer ListAt
radios_in_lem k s = and_then (entries_end (end_of k.piece s) k.many 0) (λ p. radio_list_lem k.radios s p)

-- A value that is there whole: where its pieces lie, the list of its radios, and where the radios lie.
pub record Laid : Type 0 where
  pub texts : Spans
  pub list : ListAt
  pub radios : Spans

unfoldable pub laid_of : TextKind → List ℕ → Answer Laid
laid_of k s =
    and_then (spans_from (end_of k.piece s) k.many 0) (λ t.
    and_then (radio_list_lem k.radios s t.end) (λ m.
    mapped (λ r. record { texts = t; list = m; radios = r }) (spans_from (end_of radio s) m.many m.first)))

-- Rule E5: each of these texts is UTF-8 by RFC 3629, section 4.
abbrev pub text_in_lem : Layout → List ℕ → Span → List ℕ
text_in_lem l s r = part_of (gives (text_span_lem l s r)) s

abbrev pub all_valid_lem : Layout → List ℕ → List Span → Bool
all_valid_lem l s [] = true
all_valid_lem l s (r ∷ rs) = cond (is_utf8_lem (text_in_lem l s r)) (all_valid_lem l s rs) false

-- Rules K7 and E5: the layout is looked at first (3). Then the value's own texts and those of its radios are looked at
-- (18).
unfoldable pub valid_of : TextKind → Laid → List ℕ → Answer Laid
valid_of k v s = cond (all_valid_lem k.piece s v.texts.each) (cond (all_valid_lem radio s v.radios.each) (gives v) (refuses 18 [])) (refuses 18 [])

unfoldable pub whole_of : TextKind → List ℕ → Answer Laid
whole_of k s = and_then (laid_of k s) (λ v. valid_of k v s)

-- Rule K1: what the value of the kind with this code reads as. It says how many bytes are consumed, how many follow,
-- and how many radios there are.
abbrev pub consumed_in : List ℕ → Laid → Consumed
consumed_in s v = record { consumed = v.radios.end; rest = length s - v.radios.end; entries = v.list.many }

unfoldable pub read_text : ℕ → List ℕ → Answer Consumed
read_text code s = and_then (text_kind code) (λ k. mapped (consumed_in s) (whole_of k s))
