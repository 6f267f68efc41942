-- UTF-8 (rule E5), by the grammar of RFC 3629, section 4:
--
--     UTF8-octets = *( UTF8-char )
--     UTF8-char   = UTF8-1 / UTF8-2 / UTF8-3 / UTF8-4
--     UTF8-1      = %x00-7F
--     UTF8-2      = %xC2-DF UTF8-tail
--     UTF8-3      = %xE0 %xA0-BF UTF8-tail / %xE1-EC 2( UTF8-tail ) /
--                   %xED %x80-9F UTF8-tail / %xEE-EF 2( UTF8-tail )
--     UTF8-4      = %xF0 %x90-BF 2( UTF8-tail ) / %xF1-F3 3( UTF8-tail ) /
--                   %xF4 %x80-8F 2( UTF8-tail )
--     UTF8-tail   = %x80-BF
use Rattle.std.specs.Prelude.{◌≡◌, Bool, true, false, cond, ◌⊎◌, ℕ, ◌≤◌, leb}
use mathlib.Core.List.{List, [], ◌∷◌, flatten}
use Rattle.std.specs.Prelude.{Option, None, Some}

-- the bytes from `low` to `high`
pub record Range : Type 0 where
  pub low : ℕ
  pub high : ℕ

infix 70 ◌to◌
abbrev pub ◌to◌ : ℕ → ℕ → Range
l to h = record { low = l; high = h }

abbrev pub tail : Range
tail = 0x80 to 0xBF

-- a form of a character: the range of its first byte, and one for each byte after it
pub record Form : Type 0 where
  pub first : Range
  pub behind : List Range

infix 4 ◌then◌
abbrev pub ◌then◌ : Range → List Range → Form
r then rs = record { first = r; behind = rs }

-- the forms of a character: UTF8-1 to UTF8-4 of the grammar, a line for each alternative
abbrev pub forms : List Form
forms =
    (0x00 to 0x7F then []) ∷
    (0xC2 to 0xDF then tail ∷ []) ∷
    (0xE0 to 0xE0 then 0xA0 to 0xBF ∷ tail ∷ []) ∷
    (0xE1 to 0xEC then tail ∷ tail ∷ []) ∷
    (0xED to 0xED then 0x80 to 0x9F ∷ tail ∷ []) ∷
    (0xEE to 0xEF then tail ∷ tail ∷ []) ∷
    (0xF0 to 0xF0 then 0x90 to 0xBF ∷ tail ∷ tail ∷ []) ∷
    (0xF1 to 0xF3 then tail ∷ tail ∷ tail ∷ []) ∷
    (0xF4 to 0xF4 then 0x80 to 0x8F ∷ tail ∷ tail ∷ []) ∷
    []

-- bytes in these ranges, one in each
abbrev pub Fits : List Range → List ℕ → Type 0
Fits [] [] = Unit
Fits [] (b ∷ bs) = ⊥
Fits (r ∷ rs) [] = ⊥
Fits (r ∷ rs) (b ∷ bs) = (r.low ≤ b) × (b ≤ r.high) × Fits rs bs

-- a character: bytes of one of the forms
abbrev pub OneOf : List Form → List ℕ → Type 0
OneOf [] c = ⊥
OneOf (f ∷ fs) c = Fits (f.first ∷ f.behind) c ⊎ OneOf fs c

abbrev pub Characters : List (List ℕ) → Type 0
Characters [] = Unit
Characters (c ∷ cs) = OneOf forms c × Characters cs

-- Rule E5: a text is characters, one after the other (UTF8-octets of the grammar).
pub record Octets (s : List ℕ) : Type 0 where
  pub list : List (List ℕ)
  pub each : Characters list
  pub all : flatten list ≡ s

-- The same as a test, which goes from byte to byte. Claims says that it accepts exactly the octets. Where a character
-- has begun, the ranges of the bytes that are still to come are awaited.
abbrev pub in_range : Range → ℕ → Bool
in_range r b = cond (leb r.low b) (leb b r.high) false

-- the ranges after the first byte b of a character; none where no character begins with b
abbrev pub begun : List Form → ℕ → Option (List Range)
begun [] b = None
begun (f ∷ fs) b = cond (in_range f.first b) (Some f.behind) (begun fs b)

-- what is awaited after the byte b
abbrev pub onward : List Range → ℕ → Option (List Range)
onward [] b = begun forms b
onward (r ∷ rs) b = cond (in_range r b) (Some rs) None

abbrev pub may_end : List Range → Bool
may_end [] = true
may_end (r ∷ rs) = false

abbrev pub goes_on_lem : Option (List Range) → (List Range → Bool) → Bool
goes_on_lem None f = false
goes_on_lem (Some rs) f = f rs

unfoldable pub accepts : List Range → List ℕ → Bool
accepts rs [] = may_end rs
accepts rs (b ∷ s) = goes_on_lem (onward rs b) (λ t. accepts t s)

-- Rule E5, as a test.
abbrev pub is_utf8_lem : List ℕ → Bool
is_utf8_lem s = accepts [] s
