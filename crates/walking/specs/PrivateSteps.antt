-- What the walk's own private steps promise each other. No contract of a public call cites these.
use Rattle.std.specs.Prelude.{Option, Some, None}
use Rattle.numbers.specs.Numbers.{Answer, gives, refuses}
use Rattle.walking.specs.Steps.{Ahead, ended, passed, last}
use Rattle.walking.specs.declared.Passed.{Passed}
use Rattle.walking.specs.declared.Tlv.{Tlv}

-- the TLV that a step passes, and where it ends
abbrev pub passed_by : Answer (Ahead Tlv) → Option Passed
passed_by (gives (passed t next)) = Some (record { tlv = t; next = next })
passed_by (gives (last t end)) = Some (record { tlv = t; next = end })
passed_by (gives ended) = None
passed_by (refuses n vs) = None
