-- No refusal carries two values.
use Rattle.std.proofs.Common.{◌≡◌, refl, get_or}
use Rattle.numbers.specs.Numbers.{values}
use Rattle.numbers.specs.declared.Refusal.{Refusal}
use Rattle.numbers.specs.declared.Refusal.TheVariants.{TooFewBytes, RunsPastEnd, CutShort, LeftOver, BadValue, NoEntry, NoRoom, ValueTooLong, NeverRead, TableFull, StoreTooSmall, PayloadTooLong, OutputTooSmall, ListTooShort, NotFound, UnknownKind, NoStationRoom, NotText, NoReport, SenderFull, NoCutting, NotACapture, BadFrame}

pub one_value : (r : Refusal) → get_or (values r) 1 0 ≡ 0
one_value (TooFewBytes missing) = refl
one_value (RunsPastEnd missing) = refl
one_value CutShort = refl
one_value LeftOver = refl
one_value BadValue = refl
one_value NoEntry = refl
one_value NoRoom = refl
one_value ValueTooLong = refl
one_value NeverRead = refl
one_value TableFull = refl
one_value StoreTooSmall = refl
one_value PayloadTooLong = refl
one_value (OutputTooSmall length) = refl
one_value ListTooShort = refl
one_value (NotFound looked) = refl
one_value UnknownKind = refl
one_value NoStationRoom = refl
one_value NotText = refl
one_value NoReport = refl
one_value SenderFull = refl
one_value NoCutting = refl
one_value NotACapture = refl
one_value BadFrame = refl
