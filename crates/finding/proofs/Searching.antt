-- How a search through a payload goes on, answers, or ends: what is found among the TLVs from `at` on, in front of which
-- stand `looked` of them, is what is to be found. Of those, as many are skipped as their places come before `from`.
use mathlib.Core.Path.{◌≡◌, refl, sym, ap, ◌∙◌}
use mathlib.Core.Bool.{Bool, true, false, cond}
use mathlib.Core.List.{List, [], ◌∷◌}
use mathlib.Core.Option.{Option, none, some}
use Prim.Native.Nat.{ℕ, suc, ◌+◌, ◌-◌, ◌≤◌, min}
use native.Mathlib.Omega.{arith}
use lib.Dec.{ltb}
use lib.ListN.{length, drop, drop_of_length-le}
use borrow.Author.Tests.{ltb-true, ltb-false}
use Rattle.numbers.specs.Numbers.{Answer, gives, refuses, and_then, mapped}
use Rattle.records.specs.declared.Record.{Record}
use Rattle.kinds.specs.declared.Typed.{Typed}
use Rattle.kinds.specs.Kinds.{is_kind_lem}
use Rattle.walking.specs.declared.Tlv.{Tlv}
use Rattle.walking.specs.Steps.{ended, passed, last, Walk}
use Rattle.walking.specs.declared.WalkCount.{WalkCount}
use Rattle.walking.specs.Walk.{step_at, walk_of, walk_on, counted}
use Rattle.walking.proofs.Chained.{of_walk_on, the_walk_on, from_the_start}
use Rattle.walking.proofs.Going.{at_end_lem, onward, final, stopped}
use Rattle.walking.proofs.Listed as Counts
use Rattle.walking.proofs.Stepping.{Steps, steps}
use Rattle.finding.specs.declared.Hit.{Hit}
use Rattle.finding.specs.declared.Sought.{Sought}
use Rattle.finding.specs.Finding.{is_there_lem, reads_as_lem, there_or, first_of, found_or, offset_after, with_next, find_from, find_in_payload_lem, find_onward_lem}
use Rattle.finding.specs.Private.{looked_as, going_on_lem, spot_as, rest_of, sought_in}
use Rattle.std.specs.Prelude.{Ok}
use Rattle.finding.proofs.Passing.{first_nil, first_cons}

-- whether the record at this place is the one that is looked for
abbrev is_sought_lem : ℕ → List ℕ → Tlv → ℕ → ℕ → Bool
is_sought_lem code p t place from = cond (ltb place from) false (is_there_lem (reads_as_lem code p t))

-- if so, what is found is that record, and else what is found after it
sought_by : (b : Bool) (x : Option (Typed Record)) (looked : ℕ) (t : Tlv) (on : Option Hit) (other : Answer Hit) → true ≡ cond b false (is_there_lem x)
    → looked_as x looked t ≡ found_or (cond b on (there_or x looked t on)) other
sought_by true x looked t on other e = let z : ◌≡◌ {A = ℕ} 0 1 = cc in absurd (omega arith)
sought_by false (some r) looked t on other e = refl
sought_by false none looked t on other e = let z : ◌≡◌ {A = ℕ} 0 1 = cc in absurd (omega arith)

passed_by : (b : Bool) (x : Option (Typed Record)) (looked : ℕ) (t : Tlv) (on : Option Hit) → false ≡ cond b false (is_there_lem x) → on ≡ cond b on (there_or x looked t on)
passed_by true x looked t on e = refl
passed_by false (some r) looked t on e = let z : ◌≡◌ {A = ℕ} 0 1 = cc in absurd (omega arith)
passed_by false none looked t on e = refl

module _ (code : ℕ) (p : List ℕ) (from : ℕ) where
  rest_nil : (before : ℕ) → rest_of code p from before [] ≡ none
  rest_nil before =
      let h : length {A = Tlv} [] ≤ from - before = omega arith in
      ap (first_of code p (before + (from - before))) (drop_of_length-le [] h) ∙ first_nil code p (before + (from - before))

  rest_cons : (before : ℕ) (t : Tlv) (ts : List Tlv)
      → rest_of code p from before (t ∷ ts) ≡ cond (ltb before from) (rest_of code p from (before + 1) ts) (there_or (reads_as_lem code p t) (before + 1) t (rest_of code p from (before + 1) ts))
  rest_cons before t ts = by_place (ltb before from) refl
    where
      by_place : (b : Bool) → ltb before from ≡ b → rest_of code p from before (t ∷ ts) ≡ cond b (rest_of code p from (before + 1) ts) (there_or (reads_as_lem code p t) (before + 1) t (rest_of code p from (before + 1) ts))
      by_place true e =
          let l = ltb-true before from e in
          let k : from - before ≡ suc (from - (before + 1)) = omega arith in
          let i : before + (from - before) ≡ before + 1 + (from - (before + 1)) = omega arith in
          ap (λ (n : ℕ). first_of code p n (drop (from - before) (t ∷ ts))) i ∙ ap (λ (n : ℕ). first_of code p (before + 1 + (from - (before + 1))) (drop n (t ∷ ts))) k
      by_place false e =
          let l = ltb-false before from e in
          let k : from - before ≡ 0 = omega arith in
          let i : before + (from - before) ≡ before = omega arith in
          let k' : 0 ≡ from - (before + 1) = omega arith in
          let i' : before + 1 ≡ before + 1 + (from - (before + 1)) = omega arith in
          ap (λ (n : ℕ). first_of code p n (drop (from - before) (t ∷ ts))) i ∙ ap (λ (n : ℕ). first_of code p before (drop n (t ∷ ts))) k ∙ first_cons code p before t ts
          ∙ ap (λ (n : ℕ). there_or (reads_as_lem code p t) (before + 1) t (first_of code p n ts)) i'
          ∙ ap (λ (n : ℕ). there_or (reads_as_lem code p t) (before + 1) t (first_of code p (before + 1 + (from - (before + 1))) (drop n ts))) k'

  -- what is answered where none is found: the walk's refusal, or 15 with the number of all
  abbrev none_in : ℕ → Walk Tlv → Answer Hit
  none_in before w = and_then w.end (λ padding. refuses 15 ((before + length w.items) ∷ []))

  pub record Searching (offset before at looked : ℕ) : Type 0 where
    pub will : sought_in code p from looked (walk_on p at) ≡ sought_in code p from before (walk_on p offset)
    pub slow : looked ≤ at

  pub begins : (offset before : ℕ) → before ≤ offset → Searching offset before offset before
  begins offset before h = record { will = refl; slow = h }

  module _ (offset before at looked : ℕ) (w : Searching offset before at looked) where
    abbrev Answered : Answer Sought → Type 0
    Answered a = a ≡ sought_in code p from before (walk_on p offset)

    -- what is ahead, the search answers by
    by_ahead : (v : Walk Tlv) → walk_on p at ≡ v → Answered (sought_in code p from looked v)
    by_ahead v e = ap (sought_in code p from looked) (sym e) ∙ w.will

    no_more : (end : Answer ℕ) → mapped (with_next p) (and_then end (λ padding. refuses 15 (looked ∷ []))) ≡ sought_in code p from looked (record { items = []; end = end })
    no_more end =
        let n : looked ≡ looked + 0 = omega arith in
        ap (λ (k : ℕ). mapped (with_next p) (and_then end (λ padding. refuses 15 (k ∷ [])))) n
        ∙ ap (λ (x : Option Hit). mapped (with_next p) (found_or x (and_then end (λ padding. refuses 15 ((looked + 0) ∷ []))))) (sym (rest_nil looked))

    pub ends : gives ended ≡ step_at p at → Answered (refuses 15 (looked ∷ []))
    ends e = no_more (gives 0) ∙ by_ahead _ (the_walk_on p at [] (gives 0) (at_end_lem e))

    pub stops : (n : ℕ) (vs : List ℕ) → refuses n vs ≡ step_at p at → Answered (refuses n vs)
    stops n vs e = no_more (refuses n vs) ∙ by_ahead _ (the_walk_on p at [] (refuses n vs) (stopped e))

    -- a TLV that is reached, before these
    module _ (b : Bool) (t : Tlv) (next : ℕ) (o : Steps p at b t next) (ts : List Tlv) (end : Answer ℕ) (a : Answered (sought_in code p from looked (record { items = t ∷ ts; end = end }))) where
      is_it : (on : ℕ) → on ≡ offset_after p t → true ≡ is_sought_lem code p t looked from → Answered (spot_as code p (Ok (record { looked = looked + 1; tlv = t; next = on })))
      is_it on f h =
          by_reading (reads_as_lem code p t)
          ∙ ap (mapped (with_next p)) (sought_by (ltb looked from) (reads_as_lem code p t) (looked + 1) t (rest_of code p from (looked + 1) ts) (none_in looked (record { items = t ∷ ts; end = end })) h)
          ∙ ap (λ (x : Option Hit). mapped (with_next p) (found_or x (none_in looked (record { items = t ∷ ts; end = end })))) (sym (rest_cons looked t ts)) ∙ a
        where
          by_reading : (x : Option (Typed Record)) → mapped (going_on_lem on) (looked_as x (looked + 1) t) ≡ mapped (with_next p) (looked_as x (looked + 1) t)
          by_reading (some r) = ap (λ (k : ℕ). gives (going_on_lem k (record { looked = looked + 1; tlv = t; reading = r }))) f
          by_reading none = refl

      is_not : false ≡ is_sought_lem code p t looked from → Answered (sought_in code p from (looked + 1) (record { items = ts; end = end }))
      is_not h =
          let n : looked + 1 + length ts ≡ looked + suc (length ts) = omega arith in
          ap (λ (k : ℕ). mapped (with_next p) (found_or (rest_of code p from (looked + 1) ts) (and_then end (λ padding. refuses 15 (k ∷ []))))) n
          ∙ ap (λ (x : Option Hit). mapped (with_next p) (found_or x (none_in looked (record { items = t ∷ ts; end = end })))) (passed_by (ltb looked from) (reads_as_lem code p t) (looked + 1) t (rest_of code p from (looked + 1) ts) h ∙ sym (rest_cons looked t ts)) ∙ a

    -- at the marker: after it nothing is found
    module _ (t : Tlv) (end : ℕ) (e : gives (last t end) ≡ step_at p at) where
      alone : Answered (sought_in code p from looked (record { items = t ∷ []; end = gives (length p - end) }))
      alone = by_ahead _ (the_walk_on p at (t ∷ []) (gives (length p - end)) (final e))

      pub marker_found : true ≡ is_sought_lem code p t looked from → Answered (spot_as code p (Ok (record { looked = looked + 1; tlv = t; next = length p })))
      marker_found = let o = steps p at true t end e in is_it true t end o [] (gives (length p - end)) alone (length p) (rw o.marks)

      pub marker_passed : false ≡ is_sought_lem code p t looked from → Answered (refuses 15 ((looked + 1) ∷ []))
      marker_passed h =
          let n : looked + 1 ≡ looked + 1 + 0 = omega arith in
          ap (λ (k : ℕ). refuses 15 (k ∷ [])) n
          ∙ ap (λ (x : Option Hit). mapped (with_next p) (found_or x (refuses 15 ((looked + 1 + 0) ∷ [])))) (sym (rest_nil (looked + 1)))
          ∙ is_not true t end (steps p at true t end e) [] (gives (length p - end)) alone h

    module _ (t : Tlv) (next : ℕ) (e : gives (passed t next) ≡ step_at p at) where
      reached : Answered (sought_in code p from looked (record { items = t ∷ (walk_on p next).items; end = (walk_on p next).end }))
      reached = by_ahead _ (the_walk_on p at (t ∷ (walk_on p next).items) (walk_on p next).end (onward e (of_walk_on p next)))

      pub found : true ≡ is_sought_lem code p t looked from → Answered (spot_as code p (Ok (record { looked = looked + 1; tlv = t; next = next })))
      found =
          let o = steps p at false t next e in
          let n : next ≡ t.offset + 3 + t.length = omega (arith, o.passing.behind, o.passing.starts) in
          is_it false t next o (walk_on p next).items (walk_on p next).end reached next (n ∙ rw o.marks)

      pub goes_on : false ≡ is_sought_lem code p t looked from → Searching offset before next (looked + 1)
      goes_on h =
          let o = steps p at false t next e in
          record { will = is_not false t next o (walk_on p next).items (walk_on p next).end reached h; slow = omega (arith, w.slow, o.passing.behind) }

-- the whole answer: 16, then the walk's refusal, then what the search found
module _ (code : ℕ) (p : List ℕ) where
  pub no_kind : (from : ℕ) → is_kind_lem code ≡ false → refuses 16 [] ≡ find_in_payload_lem code p from
  unfolding find_in_payload_lem
  no_kind from e = rw e

  pub unwalked : (from : ℕ) → is_kind_lem code ≡ true → (n : ℕ) (vs : List ℕ) → refuses n vs ≡ counted (walk_of p) → refuses n vs ≡ find_in_payload_lem code p from
  unfolding find_in_payload_lem
  unwalked from e n vs c = rw (e, Counts.ended_by (walk_of p) n vs c)

  pub walked : (from : ℕ) → is_kind_lem code ≡ true → (n : WalkCount) → gives n ≡ counted (walk_of p) → sought_in code p from 0 (walk_on p 0) ≡ find_in_payload_lem code p from
  unfolding find_in_payload_lem find_from
  walked from e n c =
      let k : from - 0 ≡ from = omega arith in
      let i : 0 + (from - 0) ≡ from = omega arith in
      let m : 0 + length (walk_of p).items ≡ length (walk_of p).items = omega arith in
      rw (from_the_start p, e, (Counts.ended_with (walk_of p) n c).0, i, k, m)

  pub no_kind_onward : (at looked : ℕ) → is_kind_lem code ≡ false → refuses 16 [] ≡ find_onward_lem code p at looked
  unfolding find_onward_lem
  no_kind_onward at looked e = rw e

  pub onward_from : (at looked before : ℕ) → is_kind_lem code ≡ true → before ≡ cond (ltb looked at) looked at → sought_in code p 0 before (walk_on p at) ≡ find_onward_lem code p at looked
  unfolding find_onward_lem
  onward_from at looked before e f =
      let k : 0 - before ≡ 0 = omega arith in
      let i : before + (0 - before) ≡ before = omega arith in
      rw (e, ← f, i, k)

-- the number that a search goes on from
pub least_is : (at looked : ℕ) → min looked at ≡ cond (ltb looked at) looked at
least_is at looked = by_test (ltb looked at) refl
  where
    by_test : (b : Bool) → ltb looked at ≡ b → min looked at ≡ cond b looked at
    by_test true l = omega (arith, ltb-true looked at l)
    by_test false l = omega (arith, ltb-false looked at l)
