-- Rule T10: in which of its two slices the part lies that the showing call returns.
use Rattle.numbers.specs.Numbers.{Answer, gives, refuses}
use Rattle.pushing.specs.Push.{PushAnswer, waiting, duplicated, inconsistent, missing, missing_last, single, joined}

-- Rule T10: a joined message lies in the output, a single fragment in the payload. Where there is no message, the
-- empty part lies in the payload.
abbrev pub shown_from : {S : Type 0} → Answer PushAnswer → S → S → S
shown_from (gives waiting) payload out = payload
shown_from (gives duplicated) payload out = payload
shown_from (gives inconsistent) payload out = payload
shown_from (gives missing) payload out = payload
shown_from (gives missing_last) payload out = payload
shown_from (gives (single n)) payload out = payload
shown_from (gives (joined n)) payload out = out
shown_from (refuses n values) payload out = payload
