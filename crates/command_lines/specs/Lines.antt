-- The fields of a line, and of a part of one.
use Rattle.std.specs.Prelude.{ℕ, List}
use Rattle.command_lines.specs.Fields.{field_in}
use Rattle.command_lines.specs.declared.line.Line.{Line}

-- field number n, from 0
abbrev pub field_of : Line → ℕ → List ℕ
field_of line n = field_in line.separator n line.text.now
