-- The house that the program keeps (rule H1), and how its records are gone over (rule H10).
use Rattle.std.specs.Prelude.{ℕ, Option, Some, None}
use Rattle.numbers.specs.Numbers.{Answer, gives, refuses}
use Rattle.walking.specs.Steps.{Ahead, ended, passed, last}
use Rattle.captures.specs.Reading.{Captured}
use Rattle.house.specs.House.{House, house_of}
use Rattle.watch.specs.declared.hearing.Watch.{Watch}

abbrev pub house_in : Watch → House
house_in w = house_of w.table w.store w.held

-- where the next step starts, after one that goes over a record
abbrev pub next_in_lem : Answer (Ahead Captured) → Option ℕ
next_in_lem (gives (passed c next)) = Some next
next_in_lem (gives (last c end)) = None
next_in_lem (gives ended) = None
next_in_lem (refuses n vs) = None
