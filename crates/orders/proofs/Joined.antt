-- Rules T8 and T9 where nothing is missing: fragments 0 to n - 1 of one version and type, the highest marked last, are
-- a message.
use mathlib.Core.Path.{◌≡◌, refl, sym, ap, ◌∙◌, subst}
use mathlib.Core.List.{[]}
use mathlib.Core.Bool.{Bool, true, false, not, ◌&&◌, false≢true}
use Prim.Native.Nat.{ℕ, ◌-◌, ◌≤◌, ◌<◌}
use native.Mathlib.Omega.{arith}
use lib.Dec.{ltb}
use borrow.Author.Tests.{ltb-true, ltb-false, lt-ltb, le-ltb, eq-eqb}
use Rattle.searching.specs.Search.{lowest, some}
use Rattle.pushing.specs.Joining.{Held, Kept, nothing, kept, Fragments, is_kept_lem, is_last_lem, unlike, inconsistent_with, reach, gapped, payload_of, in_order_lem}
use Rattle.pushing.specs.Push.{end, missing, message_way, join_way}
use Rattle.searching.proofs.Search.{lowest_before, lowest_is, lowest_none}
use Rattle.pushing.proofs.Pieces.{some_at, in_order_same}

pub none_passes : (test : ℕ → Bool) (n : ℕ) → ((k : ℕ) → k < n → test k ≡ false) → some test n ≡ false
none_passes test n none = le-ltb (lowest test n) n (omega (arith, lowest_none test n none))

module _ (new : Held) (fs : Fragments) (h : ℕ → Held) (n : ℕ) (in-byte : n < 256)
    (there : (k : ℕ) → k < n → fs k ≡ kept (h k)) (beyond : (k : ℕ) → n ≤ k → fs k ≡ nothing)
    (alike : (k : ℕ) → k < n → ((h k).version ≡ new.version) × ((h k).message_type ≡ new.message_type)) where
  by_number : (P : Kept → Type 0) (k : ℕ) → (k < n → P (kept (h k))) → (n ≤ k → P nothing) → P (fs k)
  by_number P k f g = by_order (ltb k n) refl
    where
      by_order : (b : Bool) → ltb k n ≡ b → P (fs k)
      by_order true e = subst P (sym (there k (ltb-true k n e))) (f (ltb-true k n e))
      by_order false e = subst P (sym (beyond k (ltb-false k n e))) (g (ltb-false k n e))

  consistent : inconsistent_with new fs ≡ false
  unfolding inconsistent_with
  consistent = none_passes (λ k. unlike new (fs k)) 256 (λ k l. by_number (λ (x : Kept). unlike new x ≡ false) k
      (λ q. rw (eq-eqb (h k).version new.version (alike k q).0, eq-eqb (h k).message_type new.message_type (alike k q).1)) (λ q. refl))

  pub reaches : reach fs ≡ n
  unfolding reach
  reaches = sym (lowest_is (λ k. not (is_kept_lem (fs k))) 256 n in-byte (ap (λ (x : Kept). not (is_kept_lem x)) (beyond n (omega arith)))
      (λ j l. ap (λ (x : Kept). not (is_kept_lem x)) (there j l)))

  no_gap : gapped fs ≡ false
  unfolding gapped
  no_gap = none_passes (λ k. is_kept_lem (fs k) && ltb (reach fs) k) 256 (λ k l. by_number (λ (x : Kept). (is_kept_lem x && ltb (reach fs) k) ≡ false) k
      (λ q. le-ltb (reach fs) k (omega (arith, reaches))) (λ q. refl))

  pub joins : 1 ≤ n → (h (n - 1)).last ≡ true → (room : ℕ) → join_way new fs room ≡ message_way n (in_order_lem (λ k. (h k).payload) n) room
  unfolding join_way
  joins l last room =
      let marked : is_last_lem (fs (reach fs - 1)) ≡ true = ap (λ (k : ℕ). is_last_lem (fs (k - 1))) reaches ∙ ap is_last_lem (there (n - 1) (omega arith)) ∙ last in
      rw (consistent, no_gap, marked, reaches, in_order_same (λ k. payload_of (fs k)) (λ k. (h k).payload) n (λ k l. ap payload_of (there k l)))

-- and where one is missing: a number that is there, beyond one that is not
pub misses : (new : Held) (fs : Fragments) (k low : ℕ) → inconsistent_with new fs ≡ false → k < 256 → fs low ≡ nothing → low < k → is_kept_lem (fs k) ≡ true → (room : ℕ) → join_way new fs room ≡ end missing []
unfolding join_way gapped reach
misses new fs k low same in-byte none below there room =
    let test : ℕ → Bool = λ j. not (is_kept_lem (fs j)) in
    let at_low : lowest test 256 ≤ low = not_beyond test low (ap (λ (x : Kept). not (is_kept_lem x)) none) in
    let gap : (is_kept_lem (fs k) && ltb (lowest test 256) k) ≡ true = rw (there, lt-ltb (lowest test 256) k (omega arith)) in
    rw (same, lt-ltb _ _ (some_at (λ j. is_kept_lem (fs j) && ltb (lowest test 256) j) 256 k in-byte gap))
  where
    not_beyond : (test : ℕ → Bool) (j : ℕ) → test j ≡ true → lowest test 256 ≤ j
    not_beyond test j e = by_order (ltb j (lowest test 256)) refl
      where
        by_order : (b : Bool) → ltb j (lowest test 256) ≡ b → lowest test 256 ≤ j
        by_order true q = absurd (false≢true (sym (lowest_before test 256 j (ltb-true _ _ q)) ∙ e))
        by_order false q = ltb-false _ _ q
