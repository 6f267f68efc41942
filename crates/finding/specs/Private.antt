-- For private functions alone; no contract of a public call cites this file.
use Rattle.std.specs.Prelude.{cond, List, [], ◌∷◌, ℕ, ◌+◌, ◌-◌, length, drop, Result, Ok, Err}
use Rattle.std.proofs.Math.Option.{Option, none}
use Rattle.numbers.specs.Numbers.{Answer, refuses, and_then, mapped}
use Rattle.records.specs.declared.Record.{Record}
use Rattle.kinds.specs.declared.Typed.{Typed}
use Rattle.kinds.specs.Kinds.{is_kind_lem}
use Rattle.walking.specs.declared.Tlv.{Tlv}
use Rattle.walking.specs.Steps.{Walk}
use Rattle.finding.specs.declared.Spot.{Spot}
use Rattle.walking.specs.declared.PayloadError.{PayloadError}
use Rattle.finding.specs.declared.Hit.{Hit}
use Rattle.finding.specs.declared.Sought.{Sought}
use Rattle.finding.specs.Finding.{reads_as_lem, there_or, first_of, found_or, with_next}
use Rattle.walking.specs.Walk.{payload_answered}

-- what is refused where nothing was found among so many records
abbrev pub none_of_lem : {A : Type 0} → ℕ → ℕ → Answer A
none_of_lem code size = cond (is_kind_lem code) (refuses 15 (size ∷ [])) (refuses 16 [])

-- one record, if it reads as said; so many were looked at
abbrev pub looked_as : Option (Typed Record) → ℕ → Tlv → Answer Hit
looked_as x looked t = found_or (there_or x looked t none) (refuses 15 (looked ∷ []))

-- a hit, and where the search goes on
abbrev pub going_on_lem : ℕ → Hit → Sought
going_on_lem next h = record { hit = h; next = next }

-- what the end of a search is answered by
abbrev pub spot_as : ℕ → List ℕ → Result Spot PayloadError → Answer Sought
spot_as code payload (Ok s) = mapped (going_on_lem s.next) (looked_as (reads_as_lem code payload s.tlv) s.looked s.tlv)
spot_as code payload (Err e) = payload_answered (Err e)

-- the first of these TLVs that reads, from the place `from` on; as many stand in front of them as `before` says
abbrev pub rest_of : ℕ → List ℕ → ℕ → ℕ → List Tlv → Option Hit
rest_of code payload from before ts = first_of code payload (before + (from - before)) (drop (from - before) ts)

abbrev pub sought_in : ℕ → List ℕ → ℕ → ℕ → Walk Tlv → Answer Sought
sought_in code payload from before w =
    mapped (with_next payload) (found_or (rest_of code payload from before w.items) (and_then w.end (λ padding. refuses 15 ((before + length w.items) ∷ []))))
