-- What the cutter's private steps promise each other. No contract of a public call cites these.
use Rattle.std.specs.Prelude.{cond, List, [], ℕ, ◌+◌, ◌-◌, eqb, leb, ltb, take, slice_set, Option, Some, None, Result, Ok, Err}
use Rattle.numbers.specs.Numbers.{Answer, gives, refuses}
use Rattle.cutting.specs.Cuts.{longest_payload}
use Rattle.walking.specs.Walk.{payload_answered}
use Rattle.walking.specs.declared.PayloadError.{PayloadError}
use Rattle.cutting.specs.declared.filling.Planned.{Planned}
use Rattle.cutting.specs.declared.filling.Open.{Open}

-- the open fragment after one more TLV, of x bytes: with it, or the next one, which it begins, or none any more
unfoldable pub with_tlv_lem : Option Open → ℕ → Option Open
with_tlv_lem None x = None
with_tlv_lem (Some o) x =
    cond (ltb longest_payload x) None
    (cond (leb o.used (longest_payload - x)) (Some (record { used = o.used + x; before = o.before }))
    (cond (ltb o.before 8) (Some (record { used = x; before = o.before + 1 })) None))

-- the ends that are found, with where the open fragment ends so far
abbrev pub ends_with : Option Open → ℕ → List ℕ → List ℕ
ends_with None end ends = ends
ends_with (Some o) end ends = slice_set ends o.before end

-- what is answered in the end
abbrev pub places_for : Option Open → (room : ℕ) → Answer ℕ
places_for None room = refuses 21 []
places_for (Some o) room = cond (ltb room (o.before + 1)) (refuses 7 []) (gives (o.before + 1))

unfoldable pub answer_for_lem : Option Open → (padding room : ℕ) → Answer ℕ
answer_for_lem o padding room = cond (eqb padding 0) (places_for o room) (refuses 4 [])

-- the ends that go into the list
abbrev pub planned_of : Result Planned PayloadError → Answer (List ℕ)
planned_of (Ok p) = gives (take p.count p.ends)
planned_of (Err e) = payload_answered (Err e)
