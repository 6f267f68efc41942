-- Rule T10: the bytes of a message that are shown after a push.
use Rattle.std.specs.Prelude.{List, [], cond, ℕ, leb, length, take}
use Rattle.numbers.specs.Numbers.{Answer, gives, refuses}
use Rattle.pushing.specs.Push.{PushAnswer, waiting, duplicated, inconsistent, missing, missing_last, single, joined}

-- Rule T10: the first n bytes of a slice, or none where the slice has fewer.
abbrev pub start_of : ℕ → List ℕ → List ℕ
start_of n s = cond (leb n (length s)) (take n s) []

-- Rule T10: a single fragment is shown from the payload, a joined message from the output. Where there is no message,
-- no byte is shown.
abbrev pub shown : Answer PushAnswer → List ℕ → List ℕ → List ℕ
shown (gives waiting) payload out = []
shown (gives duplicated) payload out = []
shown (gives inconsistent) payload out = []
shown (gives missing) payload out = []
shown (gives missing_last) payload out = []
shown (gives (single n)) payload out = start_of n payload
shown (gives (joined n)) payload out = start_of n out
shown (refuses n values) payload out = []
