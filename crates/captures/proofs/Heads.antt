-- Laws of `file_order`: a law for each case, and what a file header that is in order says.
use mathlib.Core.Path.{◌≡◌, refl}
use mathlib.Core.Bool.{Bool, true, false, cond}
use mathlib.Core.List.{List, [], ◌∷◌}
use Prim.Native.Nat.{ℕ, ◌-◌, ◌<◌, ◌≤◌}
use native.Mathlib.Omega.{arith}
use lib.Dec.{eqb, ltb}
use lib.ListN.{length}
use borrow.Author.Tests.{lt-ltb, le-ltb, eq-eqb, ne_eqb, ltb-false, eqb-true}
use Rattle.numbers.specs.Numbers.{gives, refuses, and_then}
use Rattle.numbers.proofs.Firm.{never}
use Rattle.captures.specs.Form.{field_at, magic, major, minor, link_type}
use Rattle.captures.specs.Reading.{is_ours_lem, file_order}

module _ (s : List ℕ) where
  pub cut : length s < 24 → refuses 2 ((24 - length s) ∷ []) ≡ file_order s
  unfolding file_order
  cut h = simp (lt-ltb (length s) 24 h)

  -- `n` and `m` are what the code takes the magic for, and `b` what it takes for the test of the rest
  module _ (h : 24 ≤ length s) (n : ℕ) (e : n ≡ field_at true 4 0 s) where
    pub high : n ≡ magic → (b : Bool) → b ≡ is_ours_lem true s → cond b (gives true) (refuses 22 []) ≡ file_order s
    unfolding file_order
    high f b g = rw g (simp (le-ltb (length s) 24 h, eq-eqb (field_at true 4 0 s) magic (rw e at f)))

    module _ (f : n ≡ magic → ⊥) (m : ℕ) (e' : m ≡ field_at false 4 0 s) where
      pub low : m ≡ magic → (b : Bool) → b ≡ is_ours_lem false s → cond b (gives false) (refuses 22 []) ≡ file_order s
      unfolding file_order
      low g b k = rw k (simp (le-ltb (length s) 24 h, ne_eqb (field_at true 4 0 s) magic (rw e at f), eq-eqb (field_at false 4 0 s) magic (rw e' at g)))

      pub neither : (m ≡ magic → ⊥) → refuses 22 [] ≡ file_order s
      unfolding file_order
      neither g = simp (le-ltb (length s) 24 h, ne_eqb (field_at true 4 0 s) magic (rw e at f), ne_eqb (field_at false 4 0 s) magic (rw e' at g))

-- a test that is passed, and what it then gives
passed_so : (y h o : Bool) → gives o ≡ cond y (gives h) (refuses 22 []) → (y ≡ true) × (o ≡ h)
passed_so true h o e = (refl, cc)
passed_so false h o e = never _ _ _ e

by_header : (x a b : Bool) (vs : List ℕ) (rest : Bool → Bool) (o : Bool) → gives o ≡ cond x (refuses 2 vs) (and_then (cond a (gives true) (cond b (gives false) (refuses 22 []))) (λ h. cond (rest h) (gives h) (refuses 22 [])))
    → (x ≡ false) × ((cond o a b ≡ true) × (rest o ≡ true))
by_header true a b vs rest o e = never _ _ _ e
by_header false true b vs rest o e = let p = passed_so (rest true) true o e in rw p.1 (refl, (refl, p.0))
by_header false false true vs rest o e = let p = passed_so (rest false) false o e in rw p.1 (refl, (refl, p.0))
by_header false false false vs rest o e = never _ _ _ e

by_three : (x y z : Bool) → cond x (cond y z false) false ≡ true → (x ≡ true) × ((y ≡ true) × (z ≡ true))
by_three true true z e = (refl, (refl, e))
by_three true false z e = let f : ◌≡◌ {A = ℕ} 0 1 = cc in absurd (omega arith)
by_three false y z e = let f : ◌≡◌ {A = ℕ} 0 1 = cc in absurd (omega arith)

-- what a file header that is in order says
pub record Says (o : Bool) (s : List ℕ) : Type 0 where
  pub long : 24 ≤ length s
  pub magic_is : field_at o 4 0 s ≡ magic
  pub major_is : field_at o 2 4 s ≡ major
  pub minor_is : field_at o 2 6 s ≡ minor
  pub link_is : field_at o 4 20 s ≡ link_type

pub says : (o : Bool) (s : List ℕ) → gives o ≡ file_order s → Says o s
unfolding file_order
says o s e =
    let h = by_header (ltb (length s) 24) (eqb (field_at true 4 0 s) magic) (eqb (field_at false 4 0 s) magic) _ (λ x. is_ours_lem x s) o e in
    let t = by_three (eqb (field_at o 2 4 s) major) (eqb (field_at o 2 6 s) minor) (eqb (field_at o 4 20 s) link_type) h.1.1 in
    record {
      long = ltb-false (length s) 24 h.0;
      magic_is = by_order o h.1.0;
      major_is = eqb-true (field_at o 2 4 s) major t.0;
      minor_is = eqb-true (field_at o 2 6 s) minor t.1.0;
      link_is = eqb-true (field_at o 4 20 s) link_type t.1.1;
    }
  where
    by_order : (o : Bool) → cond o (eqb (field_at true 4 0 s) magic) (eqb (field_at false 4 0 s) magic) ≡ true → field_at o 4 0 s ≡ magic
    by_order true e = eqb-true (field_at true 4 0 s) magic e
    by_order false e = eqb-true (field_at false 4 0 s) magic e
