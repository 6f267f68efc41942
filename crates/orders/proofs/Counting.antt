-- The number of a sweep is the sum of the shares of the keys held.
use mathlib.Core.Path.{◌≡◌, refl, sym, ap, ◌∙◌}
use mathlib.Core.List.{List}
use mathlib.Core.Bool.{Bool, true, false, cond, false≢true}
use Prim.Native.Nat.{ℕ, zero, suc, ◌+◌, ◌≤◌, ◌<◌}
use native.Mathlib.Omega.{arith}
use lib.Dec.{ltb}
use borrow.Author.Tests.{ltb-true, ltb-false, lt-ltb, le-ltb}
use Rattle.table.specs.declared.Table.{Table}
use Rattle.searching.specs.Count.{how_many}
use Rattle.sweeping.specs.Sweep.{expired, swept}
use Rattle.table.specs.Rows.{row_of}
use Rattle.pushing.specs.Joining.{never, since}
use Rattle.table.proofs.Sound.{Sound, row_holds}
use Rattle.searching.proofs.Count.{count_before_all, count_next}
use Rattle.orders.specs.Runs.{State, Holding, holding, holds_nothing}
use Rattle.orders.specs.Shares.{share, total, is_in, distinct}
use Rattle.orders.proofs.Rows.{is_used_lem, code_at, first_at}
use Rattle.orders.proofs.Lookups.{row_is}
use Rattle.orders.proofs.Holdings.{present}
use Rattle.orders.proofs.Sweeps.{due_is, due_never}
use Rattle.orders.proofs.Totals.{total_same, total_none, total_one}

-- one row's share
unfoldable row_share : Table → ℕ → ℕ → ℕ
row_share t time row = cond (expired t time row) 1 0

-- a key's share is that of its row
module _ (z : State) (s : Sound z.table) (time : ℕ) where
  abbrev t : Table
  t = z.table

  abbrev share_of : ℕ → ℕ
  share_of k = share time (holding k z)

  share_row : (k row : ℕ) → row_of t k ≡ row → row < 16 → share_of k ≡ row_share t time row
  unfolding share row_share
  share_row k row e h = ap (λ (b : Bool). cond b 1 0) (due_is t time k row e h)

  share_none : (k : ℕ) → 16 ≤ row_of t k → share_of k ≡ 0
  unfolding share
  share_none k h = rw (due_never t time k h)

  unused_none : (row : ℕ) → is_used_lem t row ≡ false → row_share t time row ≡ 0
  unfolding row_share
  unused_none row u = rw u

  -- the shares of the keys whose rows are below n
  abbrev share_below : ℕ → ℕ → ℕ
  share_below n k = cond (ltb (row_of t k) n) (share_of k) 0

  below_other : (n k : ℕ) → (row_of t k ≡ n → ⊥) → share_below (suc n) k ≡ share_below n k
  below_other n k ne = by_row (ltb (row_of t k) n) refl
    where
      by_row : (b : Bool) → ltb (row_of t k) n ≡ b → share_below (suc n) k ≡ share_below n k
      by_row true e = rw (lt-ltb (row_of t k) n (ltb-true _ _ e), lt-ltb (row_of t k) (suc n) (omega (arith, ltb-true (row_of t k) n e)))
      by_row false e = rw (e, le-ltb (row_of t k) (suc n) (omega (arith, ne, ltb-false (row_of t k) n e)))

  below_here : (n k : ℕ) → row_of t k ≡ n → (share_below (suc n) k ≡ share_of k) × (share_below n k ≡ 0)
  below_here n k e = (rw (lt-ltb (row_of t k) (suc n) (omega arith)), rw (le-ltb (row_of t k) n (omega arith)))

  module _ (ks : List ℕ) (once : distinct ks ≡ true) (all : (k : ℕ) → is_in k ks ≡ false → holding k z ≡ holds_nothing) where
    held_in : (row : ℕ) → is_used_lem t row ≡ true → is_in (code_at t row) ks ≡ true
    held_in row u = by_in (is_in (code_at t row) ks) refl
      where
        by_in : (b : Bool) → is_in (code_at t row) ks ≡ b → b ≡ true
        by_in true e = refl
        by_in false e =
            let never_since : never ≡ since (first_at t row) = ap (λ (v : Holding). v.first) (sym (all (code_at t row) e) ∙ present z s (code_at t row) row u refl) in
            let no : ◌≡◌ {A = ℕ} 0 1 = cc in
            absurd (omega arith)

    next : (n : ℕ) → n < 16 → (b : Bool) → is_used_lem t n ≡ b → total (share_below (suc n)) ks ≡ total (share_below n) ks + row_share t time n
    next n h true u =
        let c = code_at t n in
        let here : row_of t c ≡ n = row_is t c s n u refl in
        total_one (share_below n) (share_below (suc n)) c
        (λ k ne. below_other n k (λ e. ne (sym (row_holds t k (omega arith)).1 ∙ ap (code_at t) e)))
        (below_here n c here).1 ks once (held_in n u)
        ∙ ap (λ (m : ℕ). total (share_below n) ks + m) ((below_here n c here).0 ∙ share_row c n here h)
    next n h false u =
        total_same (share_below (suc n)) (share_below n) ks (λ k q. below_other n k (λ e. false≢true (sym u ∙ ap (is_used_lem t) (sym e) ∙ (row_holds t k (omega arith)).0)))
        ∙ omega (arith, unused_none n u)

    keys_total : (n : ℕ) → n ≤ 16 → total (share_below n) ks ≡ how_many (expired t time) n
    unfolding row_share
    keys_total zero h = total_none (share_below 0) ks (λ k. rw (le-ltb (row_of t k) 0 (omega arith))) ∙ count_before_all (expired t time)
    keys_total (suc n) h = next n (omega arith) (is_used_lem t n) refl ∙ ap (λ (m : ℕ). m + row_share t time n) (keys_total n (omega arith)) ∙ sym (count_next (expired t time) n)

    all_below : (k : ℕ) → share_below 16 k ≡ share_of k
    all_below k = by_row (ltb (row_of t k) 16) refl
      where
        by_row : (b : Bool) → ltb (row_of t k) 16 ≡ b → cond b (share_of k) 0 ≡ share_of k
        by_row true e = refl
        by_row false e = sym (share_none k (ltb-false _ _ e))

    pub counts_add_up : (swept t time).dropped ≡ total share_of ks
    counts_add_up = sym (keys_total 16 (omega arith)) ∙ total_same (share_below 16) share_of ks (λ k q. all_below k)
