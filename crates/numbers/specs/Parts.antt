-- Where a part lies that a call returns (rule A5). Its bytes and its place together fix it.
use Rattle.std.specs.Prelude.{ℕ, ◌+◌}
use Rattle.std.specs.Borrow.{Bor}

-- the place n bytes after the start of a slice of bytes: its block, and the byte in it
abbrev pub behind : {X : Type 0} → ℕ → Bor X → ℕ × ℕ
behind n s = (s.ref_ptr.0, n + s.ref_ptr.1)
