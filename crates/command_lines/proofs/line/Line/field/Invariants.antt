-- As many separators are passed as its number says.
use Rattle.std.proofs.Common.{◌≡◌, ◌-◌}
use Rattle.command_lines.specs.Fields.{field_in}
use Rattle.command_lines.specs.Lines.{field_of}
use Rattle.command_lines.proofs.line.Line.field.Given as goal

abbrev pub invariant-loop : goal.invariant-loop
invariant-loop l = field_in l.self.separator (l.n - l.counter) l.rest ≡ field_of l.self l.n
