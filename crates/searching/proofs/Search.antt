-- Laws of `lowest`: what it finds passes the test, no number before it does, and a number that passes after none did is found.
use mathlib.Core.Path.{◌≡◌, refl, sym, ap, ◌∙◌}
use mathlib.Core.List.{List}
use mathlib.Core.Bool.{Bool, true, false, cond, false≢true}
use Prim.Native.Nat.{ℕ, zero, suc, ◌+◌, ◌≤◌, ◌<◌}
use native.Mathlib.Omega.{arith}
use native.Mathlib.Numerals.{add-one}
use lib.Dec.{eqb, ltb}
use borrow.Author.Tests.{eqb-true, eqb-false, ltb-true, ltb-false, lt-ltb, le-ltb}
use Rattle.std.specs.Prelude.{Option, Some, None, MatchOption}
use Rattle.std.specs.Option.{unwrap_or, is_some}
use Rattle.std.specs.declared.ops.Range.{Range}
use Rattle.std.specs.Bool.{⊤}
use Rattle.std.specs.Fn.{CalledAt}
use Rattle.std.specs.Iterator.{YieldsThen}
use Rattle.std.specs.List.{FoldsTo}
use Rattle.std.proofs.iter.Yields.{nat_range_steps}
use Rattle.std.proofs.lemmas.Iterator.{first_from_Range}
use denote.Param.Members.{Mut}
use denote.Ref.{Bor}
use Rattle.searching.specs.Search.{lowest}

module _ (test : ℕ → Bool) where
  -- what one more number does
  more_found : (n : ℕ) → lowest test n < n → lowest test (suc n) ≡ lowest test n
  unfolding lowest
  more_found n h = rw (lt-ltb (lowest test n) n h)

  more_here : (n : ℕ) → n ≤ lowest test n → test n ≡ true → lowest test (suc n) ≡ n
  unfolding lowest
  more_here n h e = rw (le-ltb (lowest test n) n h, e)

  more_past : (n : ℕ) → n ≤ lowest test n → test n ≡ false → lowest test (suc n) ≡ suc n
  unfolding lowest
  more_past n h e = rw (le-ltb (lowest test n) n h, e)

  pub before_all : 0 ≡ lowest test 0
  unfolding lowest
  before_all = refl

  -- what a search finds
  pub lowest_le : (n : ℕ) → lowest test n ≤ n
  unfolding lowest
  lowest_le zero = omega arith
  lowest_le (suc n) = by_below (ltb (lowest test n) n) refl (test n) refl
    where
      by_below : (b : Bool) → ltb (lowest test n) n ≡ b → (c : Bool) → test n ≡ c → cond b (lowest test n) (cond c n (suc n)) ≤ suc n
      by_below true e c q = omega (arith, ltb-true (lowest test n) n e)
      by_below false e true q = omega arith
      by_below false e false q = omega arith

  holds_by : (n : ℕ) → (lowest test n < n → test (lowest test n) ≡ true) → lowest test (suc n) < suc n → (b : Bool) → ltb (lowest test n) n ≡ b → (c : Bool) → test n ≡ c → test (lowest test (suc n)) ≡ true
  holds_by n below h true e c q = ap test (more_found n (ltb-true _ _ e)) ∙ below (ltb-true _ _ e)
  holds_by n below h false e true q = ap test (more_here n (ltb-false _ _ e) q) ∙ q
  holds_by n below h false e false q = absurd (omega (arith, more_past n (ltb-false (lowest test n) n e) q))

  pub lowest_holds : (n : ℕ) → lowest test n < n → test (lowest test n) ≡ true
  lowest_holds zero h = absurd (omega arith)
  lowest_holds (suc n) h = holds_by n (lowest_holds n) h (ltb (lowest test n) n) refl (test n) refl

  at_end_lem : (n i : ℕ) → (i < lowest test n → test i ≡ false) → (b : Bool) → ltb i n ≡ b → n ≤ lowest test n → test n ≡ false → i < suc n → test i ≡ false
  at_end_lem n i below true e p q l = below (omega (arith, ltb-true i n e))
  at_end_lem n i below false e p q l = let same : i ≡ n = omega (arith, ltb-false i n e) in ap test same ∙ q

  before_by : (n i : ℕ) → (i < lowest test n → test i ≡ false) → i < lowest test (suc n) → (b : Bool) → ltb (lowest test n) n ≡ b → (c : Bool) → test n ≡ c → test i ≡ false
  before_by n i below h true e c q = below (omega (arith, more_found n (ltb-true _ _ e)))
  before_by n i below h false e true q = below (omega (arith, more_here n (ltb-false _ _ e) q, ltb-false (lowest test n) n e))
  before_by n i below h false e false q = at_end_lem n i below (ltb i n) refl (ltb-false _ _ e) q (omega (arith, more_past n (ltb-false _ _ e) q))

  pub lowest_before : (n i : ℕ) → i < lowest test n → test i ≡ false
  lowest_before zero i h = absurd (omega (arith, lowest_le 0))
  lowest_before (suc n) i h = before_by n i (lowest_before n i) h (ltb (lowest test n) n) refl (test n) refl

  -- two numbers that pass, none before either, are one
  pub lowest_is : (n i : ℕ) → i < n → test i ≡ true → ((j : ℕ) → j < i → test j ≡ false) → i ≡ lowest test n
  lowest_is n i h e none = by_order (ltb i (lowest test n)) refl (ltb (lowest test n) i) refl
    where
      by_order : (b : Bool) → ltb i (lowest test n) ≡ b → (c : Bool) → ltb (lowest test n) i ≡ c → i ≡ lowest test n
      by_order true p c q = absurd (false≢true (sym (lowest_before n i (ltb-true _ _ p)) ∙ e))
      by_order false p true q = absurd (false≢true (sym (none (lowest test n) (ltb-true _ _ q)) ∙ lowest_holds n (omega (arith, ltb-true (lowest test n) i q))))
      by_order false p false q = omega (arith, ltb-false i (lowest test n) p, ltb-false (lowest test n) i q)

  pub lowest_none : (n : ℕ) → ((j : ℕ) → j < n → test j ≡ false) → n ≡ lowest test n
  lowest_none n none = by_order (ltb (lowest test n) n) refl
    where
      by_order : (b : Bool) → ltb (lowest test n) n ≡ b → n ≡ lowest test n
      by_order true q = absurd (false≢true (sym (none (lowest test n) (ltb-true _ _ q)) ∙ lowest_holds n (ltb-true _ _ q)))
      by_order false q = omega (arith, ltb-false (lowest test n) n q, lowest_le n)

  -- a loop that has passed i numbers finds the next, or passes it
  pub found : (n i : ℕ) → i ≡ lowest test i → i < n → test i ≡ true → i ≡ lowest test n
  found n i p h e = lowest_is n i h e (λ j l. lowest_before i j (omega arith))

  pub passed : (i : ℕ) → i ≡ lowest test i → test i ≡ false → i + 1 ≡ lowest test (i + 1)
  passed i p e = rw add-one (sym (more_past i (omega arith) e))

  -- what `find` answers over a range of numbers, none before which passes
  lowest_from : (start n : ℕ) (r : Option ℕ) → start ≤ n → ((k : ℕ) → k < start → test k ≡ false)
      → MatchOption r ((k : ℕ) → start ≤ k → k < n → test k ≡ false) (λ i. (start ≤ i) × (i < n) × (test i ≡ true) × ((k : ℕ) → start ≤ k → k < i → test k ≡ false))
      → unwrap_or r n ≡ lowest test n
  lowest_from start n None h before none = lowest_none n (λ j l. by_start j l (ltb j start) refl)
    where
      by_start : (j : ℕ) → j < n → (b : Bool) → ltb j start ≡ b → test j ≡ false
      by_start j l true e = before j (ltb-true _ _ e)
      by_start j l false e = none j (ltb-false _ _ e) l
  lowest_from start n (Some i) h before at = lowest_is n i at.1 at.2 (λ j l. by_start j l (ltb j start) refl)
    where
      by_start : (j : ℕ) → j < i → (b : Bool) → ltb j start ≡ b → test j ≡ false
      by_start j l true e = before j (ltb-true _ _ e)
      by_start j l false e = at.3 j (ltb-false _ _ e) l

  pub lowest_by_find : {F : Type 0} {g : Mut F (Bor ℕ × Unit {0}) Bool} {s : Range ℕ} (u : Range ℕ) (f : F) (r : Option ℕ)
      → (xs : List ℕ) × (j : F) × YieldsThen nat_range_steps s xs r u × FoldsTo (λ p x q. CalledAt g p x false q) f xs j × MatchOption r ⊤ (λ x. (h : F) × CalledAt g j x true h)
      → ((x : ℕ) (q : F) → CalledAt g f x true q → test x ≡ true) → ((x : ℕ) (q : F) → CalledAt g f x false q → (q ≡ f) × (test x ≡ false))
      → s.start ≤ s.end → ((k : ℕ) → k < s.start → test k ≡ false) → unwrap_or r s.end ≡ lowest test s.end
  lowest_by_find {s = s} u f r ran passes fails h before =
      lowest_from s.start s.end r h before (first_from_Range s u f r (λ i. test i ≡ true) (λ i. test i ≡ false) ran passes fails)

  -- whether there is one
  pub some_by_find : {F : Type 0} {g : Mut F (Bor ℕ × Unit {0}) Bool} {s : Range ℕ} (u : Range ℕ) (f : F) (r : Option ℕ)
      → (xs : List ℕ) × (j : F) × YieldsThen nat_range_steps s xs r u × FoldsTo (λ p x q. CalledAt g p x false q) f xs j × MatchOption r ⊤ (λ x. (h : F) × CalledAt g j x true h)
      → ((x : ℕ) (q : F) → CalledAt g f x true q → test x ≡ true) → ((x : ℕ) (q : F) → CalledAt g f x false q → (q ≡ f) × (test x ≡ false))
      → s.start ≤ s.end → ((k : ℕ) → k < s.start → test k ≡ false) → is_some r ≡ ltb (lowest test s.end) s.end
  some_by_find {s = s} u f r ran passes fails h before =
      by_answer r (first_from_Range s u f r (λ i. test i ≡ true) (λ i. test i ≡ false) ran passes fails) (lowest_by_find u f r ran passes fails h before)
    where
      by_answer : (o : Option ℕ) → MatchOption o ((k : ℕ) → s.start ≤ k → k < s.end → test k ≡ false) (λ i. (s.start ≤ i) × (i < s.end) × (test i ≡ true) × ((k : ℕ) → s.start ≤ k → k < i → test k ≡ false))
          → unwrap_or o s.end ≡ lowest test s.end → is_some o ≡ ltb (lowest test s.end) s.end
      by_answer None at e = sym (le-ltb _ _ (omega (arith, e)))
      by_answer (Some i) at e = sym (lt-ltb _ _ (omega (arith, e, at.1)))

-- tests that agree find the same
pub lowest_same : (p q : ℕ → Bool) (n : ℕ) → ((i : ℕ) → i < n → p i ≡ q i) → lowest p n ≡ lowest q n
lowest_same p q n same = by_end (ltb (lowest p n) n) refl
  where
    by_end : (b : Bool) → ltb (lowest p n) n ≡ b → lowest p n ≡ lowest q n
    by_end true e =
        let h = ltb-true (lowest p n) n e in
        lowest_is q n (lowest p n) h (sym (same (lowest p n) h) ∙ lowest_holds p n h) (λ j l. sym (same j (omega arith)) ∙ lowest_before p n j l)
    by_end false e =
        let end : lowest p n ≡ n = omega (arith, ltb-false (lowest p n) n e, lowest_le p n) in
        end ∙ lowest_none q n (λ j l. sym (same j l) ∙ lowest_before p n j (omega arith))

-- one number more passes
pub lowest_with : (p q : ℕ → Bool) (n i : ℕ) → i < n → p i ≡ true → ((k : ℕ) → (k ≡ i → ⊥) → p k ≡ q k) → lowest p n ≡ cond (ltb i (lowest q n)) i (lowest q n)
lowest_with p q n i l passes same = by_order (ltb i (lowest q n)) refl
  where
    none_before : (j : ℕ) → j < i → j < lowest q n → p j ≡ false
    none_before j h h₂ = same j (λ e. omega arith) ∙ lowest_before q n j h₂

    by_order : (b : Bool) → ltb i (lowest q n) ≡ b → lowest p n ≡ cond b i (lowest q n)
    by_order true e = let h = ltb-true i (lowest q n) e in sym (lowest_is p n i l passes (λ j k. none_before j k (omega arith)))
    by_order false e =
        let h = ltb-false i (lowest q n) e in
        sym (lowest_is p n (lowest q n) (omega arith) (by_number (eqb (lowest q n) i) refl) (λ j k. none_before j (omega arith) k))
      where
        by_number : (c : Bool) → eqb (lowest q n) i ≡ c → p (lowest q n) ≡ true
        by_number true f = ap p (eqb-true _ _ f) ∙ passes
        by_number false f = same (lowest q n) (eqb-false _ _ f) ∙ lowest_holds q n (omega (arith, ltb-false i (lowest q n) e))
