-- The kinds that hold text (rule K2): 21, 22 and 0xD4.
use Rattle.std.specs.Prelude.{Bool, true, false, cond, [], ℕ, eqb}
use Rattle.numbers.specs.Numbers.{Answer, gives, refuses, is_given}
use Rattle.layouts.specs.Layouts.{Layout, bytes, c1_of, to_end_of, ◌then◌}

-- A kind has a number of pieces of one layout, one after the other, each with a text. Then come the radios, if it has
-- any.
pub record TextKind : Type 0 where
  pub many : ℕ
  pub piece : Layout
  pub radios : Bool

abbrev with_pieces : ℕ → Layout → Bool → TextKind
with_pieces n l r = record { many = n; piece = l; radios = r }

-- Rule K2: a text after a length of one byte.
abbrev pub string : Layout
string = c1_of (bytes 1)

-- the code of DeviceInventory, the one kind that has radios
abbrev pub inventory_code : ℕ
inventory_code = 0xD4

-- Rule K2: DeviceIdentificationType (21) has three texts in fields of 64 bytes. ControlUrl (22) has one text, all
-- bytes. DeviceInventory (0xD4) has three texts, each after its length, and then the radios. Any other code: 16.
unfoldable pub text_kind : ℕ → Answer TextKind
text_kind code =
    cond (eqb code 21) (gives (with_pieces 3 (bytes 64) false))
    (cond (eqb code 22) (gives (with_pieces 1 (to_end_of (bytes 1)) false))
    (cond (eqb code inventory_code) (gives (with_pieces 3 string true))
    (refuses 16 [])))

-- Rule E8: a radio is an id of 6 bytes, a length, and a text.
abbrev pub radio : Layout
radio = 6 then string

unfoldable pub is_text_lem : ℕ → Bool
is_text_lem code = is_given (text_kind code)
