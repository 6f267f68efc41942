-- Rule N1: the number for each refusal, and the values that it carries.
use Rattle.std.specs.Prelude.{Bool, true, false, List, [], ◌∷◌, ℕ, get_or, Result, Ok, Err}
use Rattle.numbers.specs.declared.Refusal.{Refusal}
use Rattle.numbers.specs.declared.Refusal.TheVariants.{TooFewBytes, RunsPastEnd, CutShort, LeftOver, BadValue, NoEntry, NoRoom, ValueTooLong, NeverRead, TableFull, StoreTooSmall, PayloadTooLong, OutputTooSmall, ListTooShort, NotFound, UnknownKind, NoStationRoom, NotText, NoReport, SenderFull, NoCutting, NotACapture, BadFrame}

-- Rule A2: a call answers, or it refuses with a number and the values beside it. This says what a call returns, without
-- the code's own types.
pub data Answer (A : Type 0) : Type 0 where
  gives : A → Answer A
  refuses : ℕ → List ℕ → Answer A

-- what follows an answer that is no refusal; a refusal stays
abbrev pub and_then : {A B : Type 0} → Answer A → (A → Answer B) → Answer B
and_then (gives a) f = f a
and_then (refuses n vs) f = refuses n vs

-- the answer, turned into another by f; a refusal stays
abbrev pub mapped : {A B : Type 0} → (A → B) → Answer A → Answer B
mapped f (gives a) = gives (f a)
mapped f (refuses n vs) = refuses n vs

abbrev pub is_given : {A : Type 0} → Answer A → Bool
is_given (gives a) = true
is_given (refuses n vs) = false

-- Rule N1: the number for each refusal, and what it carries. 1 and 2 carry the shortfall, 13 the length of the message,
-- 15 how many records were looked at, and the others nothing. A walk adds an offset in front (rule N3).
abbrev pub numbered : Refusal → ℕ × List ℕ
numbered (TooFewBytes missing) = (1, missing ∷ [])
numbered (RunsPastEnd missing) = (2, missing ∷ [])
numbered CutShort = (3, [])
numbered LeftOver = (4, [])
numbered BadValue = (5, [])
numbered NoEntry = (6, [])
numbered NoRoom = (7, [])
numbered ValueTooLong = (8, [])
numbered NeverRead = (9, [])
numbered TableFull = (10, [])
numbered StoreTooSmall = (11, [])
numbered PayloadTooLong = (12, [])
numbered (OutputTooSmall length) = (13, length ∷ [])
numbered ListTooShort = (14, [])
numbered (NotFound looked) = (15, looked ∷ [])
numbered UnknownKind = (16, [])
numbered NoStationRoom = (17, [])
numbered NotText = (18, [])
numbered NoReport = (19, [])
numbered SenderFull = (20, [])
numbered NoCutting = (21, [])
numbered NotACapture = (22, [])
numbered BadFrame = (23, [])

abbrev pub number : Refusal → ℕ
number r = (numbered r).0

abbrev pub values : Refusal → List ℕ
values r = (numbered r).1

-- a refusal as an answer
abbrev pub told : {A : Type 0} → Refusal → Answer A
told r = refuses (number r) (values r)

-- what a call's result says
abbrev pub answered : {A : Type 0} → Result A Refusal → Answer A
answered (Ok a) = gives a
answered (Err r) = told r

-- what it carries: the first of its values, or 0 where it has none
abbrev pub carried : Refusal → ℕ
carried r = get_or (values r) 0 0
