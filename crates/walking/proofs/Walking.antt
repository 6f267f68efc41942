-- What the counting walk's loop keeps, and how a turn goes on or ends: from `at` on stand the TLVs from number k on.
use mathlib.Core.Path.{◌≡◌, sym, ◌∙◌, ap, subst}
use mathlib.Core.List.{List, [], ◌∷◌}
use Prim.Native.Nat.{ℕ, ◌+◌, ◌-◌, ◌≤◌}
use native.Mathlib.Omega.{arith}
use lib.ListN.{length, drop, length-drop}
use lib.Seq.{drop-drop}
use Rattle.numbers.specs.Numbers.{gives}
use Rattle.walking.specs.declared.Tlv.{Tlv}
use Rattle.walking.specs.Steps.{ended, passed, last}
use Rattle.walking.specs.Walk.{step_at, walk_of, counted}
use Rattle.walking.proofs.Chained.{Has, of_walk}
use Rattle.walking.proofs.Going.{Turned, turned}
use Rattle.walking.proofs.Stepping.{passes}

module _ (p : List ℕ) where
  abbrev tlvs : List Tlv
  tlvs = (walk_of p).items

  pub record Walking (at k : ℕ) : Type 0 where
    pub goes : Has p at (drop k tlvs) (walk_of p).end
    pub few : k ≤ length tlvs
    pub slow : k ≤ at

  pub begins : Walking 0 0
  begins = record { goes = of_walk p; few = omega arith; slow = omega arith }

  module _ (at k : ℕ) (w : Walking at k) where
    -- the answer, by what is left and how it ends
    answers : (rest : List Tlv) (padding : ℕ) → drop k tlvs ≡ rest → (walk_of p).end ≡ gives padding → gives (record { count = k + length rest; padding = padding }) ≡ counted (walk_of p)
    answers rest padding e f =
        let n : k + length rest ≡ length tlvs = omega (arith, w.few, length-drop k tlvs, ap length e) in
        rw (f, n)

    pub ends : gives ended ≡ step_at p at → gives (record { count = k; padding = 0 }) ≡ counted (walk_of p)
    ends e =
        let t = turned (step_at p) (length p) w.goes (gives ended) e in
        let n : k ≡ k + 0 = omega arith in
        ap (λ (m : ℕ). gives (record { count = m; padding = 0 })) n ∙ answers [] 0 t.0 t.1

    pub ends_at : (t : Tlv) (to : ℕ) → gives (last t to) ≡ step_at p at → gives (record { count = k + 1; padding = length p - to }) ≡ counted (walk_of p)
    ends_at t to e = let u = turned (step_at p) (length p) w.goes (gives (last t to)) e in answers (t ∷ []) (length p - to) u.0 u.1

    -- the TLV that a step passes is the next, and those after it follow
    module _ (t : Tlv) (next : ℕ) (e : gives (passed t next) ≡ step_at p at) where
      split : Turned (step_at p) (length p) (gives (passed t next)) (drop k tlvs) (walk_of p).end
      split = turned (step_at p) (length p) w.goes (gives (passed t next)) e

      after : split.0 ≡ drop (k + 1) tlvs
      after = sym (sym (drop-drop 1 k tlvs) ∙ ap (λ (l : List Tlv). drop 1 l) split.1.0)

      pub ahead : drop k tlvs ≡ t ∷ drop (k + 1) tlvs
      ahead = split.1.0 ∙ ap (λ (l : List Tlv). t ∷ l) after

      pub goes_on : Walking next (k + 1)
      goes_on = record {
        goes = subst (λ (l : List Tlv). Has p next l (walk_of p).end) after split.1.1;
        few = omega (arith, length-drop k tlvs, ap length split.1.0);
        slow = omega (arith, (passes p at t next e).behind, w.slow);
      }
