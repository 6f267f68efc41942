-- For private functions alone; no contract of a public call cites this file. How long a pair is.
use Rattle.std.specs.Prelude.{ℕ}
use Rattle.links.specs.declared.LinkKind.{LinkKind}
use Rattle.links.specs.declared.LinkKind.TheVariants.{Tx, Rx}

abbrev pub pair_bytes : LinkKind → ℕ
pair_bytes Tx = 29
pair_bytes Rx = 23
