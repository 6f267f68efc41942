-- Laws of the tests that a fragment has to pass, by what the code looks at.
use mathlib.Core.Path.{◌≡◌, refl}
use mathlib.Core.Bool.{Bool, true, false, ◌||◌}
use mathlib.Core.List.{List, [], ◌∷◌}
use Prim.Native.Nat.{ℕ, ◌+◌, ◌-◌, ◌≤◌, ◌<◌}
use native.Mathlib.Omega.{arith}
use lib.Dec.{eqb}
use lib.Pointwise.{pointwise}
use lib.ListN.{length, take, drop, length-drop}
use lib.Seq.{length-take-le}
use borrow.Author.Tests.{le-leb, lt-leb, leb-true}
use Rattle.numbers.specs.Bytes.{is_same_lem}
use Rattle.numbers.proofs.Bytes.{both_true}
use Rattle.cutting.specs.Cuts.{longest_payload, payload_in, is_tlvs_lem, is_empty_one}
use Rattle.cutting.specs.PrivateFollowing.{goes_on_lem, is_carried_lem}
use Rattle.cutting.specs.declared.Proposed.{Proposed}
use Rattle.cutting.specs.declared.following.Reached.{Reached}

-- the comparison with the message, byte by byte
module _ (m : List ℕ) (at : ℕ) (p : List ℕ) where
  pub too_short : length m < at + length p → false ≡ goes_on_lem m at p
  unfolding goes_on_lem
  too_short h = rw (lt-leb (at + length p) (length m) h)

  pub by_part : at + length p ≤ length m → pointwise eqb p (take (at + length p - at) (drop at m)) ≡ goes_on_lem m at p
  unfolding goes_on_lem
  by_part h =
      let n : at + length p - at ≡ length p = omega arith in
      rw (le-leb (at + length p) (length m) h, n) (pairs p (take (length p) (drop at m)))
    where
      pairs : (s t : List ℕ) → pointwise eqb s t ≡ is_same_lem s t
      pairs [] [] = refl
      pairs [] (b ∷ t) = refl
      pairs (a ∷ s) [] = refl
      pairs (a ∷ s) (b ∷ t) = rw (pairs s t)

-- the payload, which the code takes from where it starts to where it ends
pub part : (ps : List ℕ) (f : Proposed) → take (f.start + f.length - f.start) (drop f.start ps) ≡ payload_in ps f
part ps f = let n : f.start + f.length - f.start ≡ f.length = omega arith in rw n

module _ (m ps : List ℕ) (s : Reached) (f : Proposed) where
  pub outside : length ps < f.start + f.length → false ≡ is_carried_lem m ps s f
  unfolding is_carried_lem
  outside h = rw (lt-leb (f.start + f.length) (length ps) h)

  module _ (inside : f.start + f.length ≤ length ps) where
    pub too_long : longest_payload < f.length → false ≡ is_carried_lem m ps s f
    unfolding is_carried_lem
    too_long h = rw (le-leb (f.start + f.length) (length ps) inside, lt-leb f.length longest_payload h)

    module _ (short : f.length ≤ longest_payload) (p : List ℕ) (is : p ≡ payload_in ps f) (run : Bool) (is_run : run ≡ (is_tlvs_lem p || is_empty_one m s.count)) where
      pub no_run : run ≡ false → false ≡ is_carried_lem m ps s f
      unfolding is_carried_lem
      no_run e = rw (le-leb (f.start + f.length) (length ps) inside, le-leb f.length longest_payload short, ← is, ← is_run, e)

      pub by_bytes : run ≡ true → goes_on_lem m s.at p ≡ is_carried_lem m ps s f
      unfolding is_carried_lem
      by_bytes e = rw (le-leb (f.start + f.length) (length ps) inside, le-leb f.length longest_payload short, ← is, ← is_run, e)

  -- a payload that the message goes on with ends inside it
  pub reaches : is_carried_lem m ps s f ≡ true → s.at + f.length ≤ length m
  unfolding is_carried_lem goes_on_lem
  reaches e =
      let o = both_true _ _ e in
      let inside = leb-true (f.start + f.length) (length ps) (both_true _ _ (both_true _ _ o.0).0).0 in
      omega (arith, leb-true (s.at + length (payload_in ps f)) (length m) (both_true _ _ o.1).0, length-take-le f.length (drop f.start ps) (omega (arith, length-drop f.start ps)))
