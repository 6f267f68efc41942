-- What is kept while fragments are filled, over the lengths of the TLVs: the ends so far and those of the rest are the
-- ends of all (rule M5).
use Rattle.std.specs.Prelude.{Option, Some, None}
use mathlib.Core.Path.{◌≡◌, refl, ap, ◌∙◌, subst}
use mathlib.Core.Bool.{Bool, true, false, cond, ◌&&◌}
use mathlib.Core.List.{List, [], ◌∷◌, ◌++◌, append_assoc}
use Prim.Native.Nat.{ℕ, ◌+◌, ◌-◌, ◌≤◌, ◌<◌}
use native.Mathlib.Omega.{arith}
use native.Mathlib.Numerals.{add-one}
use lib.Dec.{leb, ltb}
use lib.ListN.{length, take, get_or, set, length-append, length-set}
use lib.Seq.{take-suc, take-set-le, get_or-set_same, length-take-le}
use borrow.Author.Tests.{le-leb, lt-leb, leb-true, leb-false, ltb-true, ltb-false}
use Rattle.numbers.specs.Numbers.{Answer, gives, refuses}
use Rattle.cutting.specs.Cuts.{longest_payload, most_fragments}
use Rattle.cutting.specs.Greedy.{ends_from, all_fit, ends_over}
use Rattle.cutting.specs.PrivateFilling.{with_tlv_lem, ends_with}
use Rattle.cutting.specs.declared.filling.Open.{Open}
use Rattle.cutting.proofs.Opened.{stays_none, too_long, goes_in, begins_next, too_many}

pub some : (used at : ℕ) (xs : List ℕ) → 1 ≤ length (ends_from used at xs)
unfolding ends_from
some used at [] = omega arith
some used at (x ∷ xs) = by_test (leb (used + x) longest_payload) _ _ (some (used + x) (at + x) xs)
  where
    by_test : (b : Bool) (es fs : List ℕ) → 1 ≤ length es → 1 ≤ length (cond b es (at ∷ fs))
    by_test true es fs h = h
    by_test false es fs h = omega arith

module _ (all : List ℕ) where
  pub record Good (at : ℕ) (o : Open) (ends rest : List ℕ) : Type 0 where
    pub small : o.before ≤ 8
    pub so_far : ends_from 0 0 all ≡ take o.before ends ++ ends_from o.used at rest
    pub fit : all_fit all ≡ all_fit rest
    pub here : get_or ends o.before 0 ≡ at

  abbrev pub Fills : ℕ → Option Open → List ℕ → List ℕ → Type 0
  Fills at None ends rest = ends_over all ≡ refuses 21 []
  Fills at (Some o) ends rest = Good at o ends rest

  pub record Filled (at : ℕ) (o : Option Open) (ends rest : List ℕ) : Type 0 where
    pub long : length ends ≡ most_fragments
    pub so : Fills at o ends rest

  not_all : all_fit all ≡ false → ends_over all ≡ refuses 21 []
  unfolding ends_over
  not_all e = rw e

  not_few : most_fragments < length (ends_from 0 0 all) → ends_over all ≡ refuses 21 []
  unfolding ends_over
  not_few h = rw (lt-leb (length (ends_from 0 0 all)) most_fragments h) (by_fit (all_fit all))
    where
      by_fit : (b : Bool) → cond (b && false) (gives (ends_from 0 0 all)) (refuses 21 []) ≡ refuses 21 []
      by_fit true = refl
      by_fit false = refl

  pub both : all_fit all ≡ true → length (ends_from 0 0 all) ≤ most_fragments → ends_over all ≡ gives (ends_from 0 0 all)
  unfolding ends_over
  both e h = rw (e, le-leb (length (ends_from 0 0 all)) most_fragments h)

  -- one more TLV, of x bytes
  module _ (at : ℕ) (ends : List ℕ) (long : length ends ≡ most_fragments) (x : ℕ) (rest : List ℕ) where
    abbrev After : Option Open → Type 0
    After p = Filled (at + x) p (ends_with p (at + x) ends) rest

    module _ (o : Open) (g : Good at o ends (x ∷ rest)) where
      long' : (k : ℕ) → length (set ends k (at + x)) ≡ most_fragments
      long' k = length-set ends k (at + x) ∙ long

      in_it : x ≤ longest_payload → o.used ≤ longest_payload - x → After (Some (record { used = o.used + x; before = o.before }))
      unfolding ends_from
      in_it h l = record {
        long = long' o.before;
        so = record {
          small = g.small;
          so_far = g.so_far ∙ rw (take-set-le o.before ends o.before (at + x) (omega arith), le-leb (o.used + x) longest_payload (omega arith));
          fit = g.fit ∙ rw (le-leb x longest_payload h);
          here = get_or-set_same ends o.before (at + x) 0 (omega (arith, g.small, long));
        };
      }

      one_more : o.before < 8 → take (o.before + 1) (set ends (o.before + 1) (at + x)) ≡ take o.before ends ++ (at ∷ [])
      one_more b =
          take-set-le (o.before + 1) ends (o.before + 1) (at + x) (omega arith) ∙ ap (λ (k : ℕ). take k ends) (add-one o.before) ∙ take-suc ends o.before 0 (omega (arith, long)) ∙ rw g.here

      in_next : x ≤ longest_payload → longest_payload - x < o.used → o.before < 8 → After (Some (record { used = x; before = o.before + 1 }))
      unfolding ends_from
      in_next h l b = record {
        long = long' (o.before + 1);
        so = record {
          small = omega arith;
          so_far = g.so_far ∙ rw (lt-leb (o.used + x) longest_payload (omega arith), one_more b, append_assoc);
          fit = g.fit ∙ rw (le-leb x longest_payload h);
          here = get_or-set_same ends (o.before + 1) (at + x) 0 (omega (arith, long));
        };
      }

      -- a tenth fragment
      tenth : longest_payload - x < o.used → 8 ≤ o.before → ends_over all ≡ refuses 21 []
      unfolding ends_from
      tenth l b =
          let next : List ℕ = ends_from x (at + x) rest in
          let are : ends_from 0 0 all ≡ take o.before ends ++ (at ∷ next) = g.so_far ∙ rw (lt-leb (o.used + x) longest_payload (omega arith)) in
          not_few (omega (arith, ap length are, length-append (take o.before ends) (at ∷ next), length-take-le o.before ends (omega (arith, g.small, long)), some x (at + x) rest))

      over_one : After (with_tlv_lem (Some o) x)
      over_one = by_tests (ltb longest_payload x) (leb o.used (longest_payload - x)) (ltb o.before 8) refl refl refl
        where
          by_tests : (a b c : Bool) → ltb longest_payload x ≡ a → leb o.used (longest_payload - x) ≡ b → ltb o.before 8 ≡ c → After (with_tlv_lem (Some o) x)
          by_tests true b c p q r = let h = ltb-true longest_payload x p in subst After (too_long o x h) (record { long = long; so = not_all (g.fit ∙ rw (lt-leb x longest_payload h)) })
          by_tests false true c p q r =
              let h = ltb-false longest_payload x p in
              let l = leb-true o.used (longest_payload - x) q in
              subst After (goes_in o x h l) (in_it h l)
          by_tests false false true p q r =
              let h = ltb-false longest_payload x p in
              let l = leb-false o.used (longest_payload - x) q in
              let b = ltb-true o.before 8 r in
              subst After (begins_next o x h l b) (in_next h l b)
          by_tests false false false p q r =
              let h = ltb-false longest_payload x p in
              let l = leb-false o.used (longest_payload - x) q in
              let b = ltb-false o.before 8 r in
              subst After (too_many o x h l b) (record { long = long; so = tenth l b })

  pub goes_on : (at : ℕ) (o : Option Open) (ends : List ℕ) (x : ℕ) (rest : List ℕ) → Filled at o ends (x ∷ rest) → Filled (at + x) (with_tlv_lem o x) (ends_with (with_tlv_lem o x) (at + x) ends) rest
  goes_on at None ends x rest f = subst (After at ends f.long x rest) (stays_none x) (record { long = f.long; so = f.so })
  goes_on at (Some o) ends x rest f = over_one at ends f.long x rest o f.so

  -- the ends that were found once all TLVs are in
  abbrev pub found_by : Option Open → List ℕ → Answer (List ℕ)
  found_by None ends = refuses 21 []
  found_by (Some o) ends = gives (take (o.before + 1) ends)

  pub all_in : (at : ℕ) (o : Option Open) (ends : List ℕ) → Filled at o ends [] → ends_over all ≡ found_by o ends
  unfolding ends_from
  all_in at None ends f = f.so
  all_in at (Some o) ends f =
      let g = f.so in
      let are : ends_from 0 0 all ≡ take (o.before + 1) ends = g.so_far ∙ rw (add-one, take-suc ends o.before 0 (omega (arith, g.small, f.long)), g.here) in
      both g.fit (omega (arith, ap length are, length-take-le (o.before + 1) ends (omega (arith, g.small, f.long)), g.small)) ∙ ap gives are
