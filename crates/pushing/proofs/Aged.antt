-- What a sweep does to what one key holds: nothing, or it drops the key, by the key's first time alone.
use mathlib.Core.Path.{◌≡◌, refl, sym, ap, ◌∙◌, subst}
use mathlib.Core.List.{List}
use mathlib.Core.Bool.{Bool, true, false, cond, ◌&&◌, false≢true}
use Prim.Native.Nat.{ℕ, zero, suc, ◌≤◌, ◌<◌}
use native.Mathlib.Omega.{arith}
use lib.Dec.{eqb, ltb}
use lib.ListN.{get_or}
use borrow.Author.Tests.{eqb-true, eqb-false, ltb-true, ltb-false, lt-ltb}
use Rattle.table.specs.declared.Table.{Table}
use Rattle.table.specs.Rows.{row_of, without}
use Rattle.pushing.specs.Joining.{nothing, held_by_lem, never, due, first_time}
use Rattle.sweeping.specs.Sweep.{is_old, expired, swept_rows, swept}
use Rattle.table.proofs.Sound.{Sound, row_holds, no_row}
use Rattle.table.proofs.Apart.{row_after_drop, drop_gone}
use Rattle.sweeping.proofs.Sweeping.{rows_none, rows_next, later}
use Rattle.sweeping.proofs.Sound.{sweep_sound}
use Rattle.pushing.proofs.Apart.{Untouched, drop_untouched}
use Rattle.pushing.proofs.Own.{absent, absent_since}

module _ (t : Table) (s : Sound t) (store : List ℕ) (time key : ℕ) where
  abbrev after : ℕ → Table
  after n = swept_rows t time n

  abbrev row : ℕ
  row = row_of t key

  abbrev old : Bool
  old = is_old time (get_or t.firsts row 0)

  -- after n rows the key is as it was, or dropped
  data Fate (n : ℕ) : Type 0 where
    stays : Untouched key t (after n) store store → row_of (after n) key ≡ row → (row < n → old ≡ false) → Fate n
    goes : row < n → old ≡ true → 16 ≤ row_of (after n) key → Fate n

  module _ (n : ℕ) (h : n < 16) where
    abbrev s' : Sound (after n)
    s' = sweep_sound t s time n (omega arith)

    both : (a b : Bool) → (a && b) ≡ true → (a ≡ true) × (b ≡ true)
    both true true e = (refl, refl)
    both true false e = absurd (false≢true e)
    both false b e = absurd (false≢true e)

    -- no row but the key's own holds the key
    not_key : expired t time n ≡ true → (row_of (after n) key ≡ n → ⊥) → get_or (after n).row_keys n 0 ≡ key → ⊥
    not_key e ne c = by_end (ltb (row_of (after n) key) 16) refl
      where
        used : get_or (after n).used n false ≡ true
        used = (later t time n n (omega arith)).0 ∙ (both (get_or t.used n false) (is_old time (get_or t.firsts n 0)) e).0

        by_end : (b : Bool) → ltb (row_of (after n) key) 16 ≡ b → ⊥
        by_end false q = no_row (after n) s' key (ltb-false _ _ q) n used c
        by_end true q = let holds = row_holds (after n) key (ltb-true _ _ q) in ne (s'.keyed (row_of (after n) key) n holds.0 used (holds.1 ∙ sym c))

    kept_on : (T : Table) → T ≡ after n → Fate n → expired t time n ≡ false → after (suc n) ≡ T → Fate (suc n)
    kept_on T e (goes l o g) x q = goes (omega arith) o (subst (λ (z : Table). 16 ≤ row_of z key) (sym (q ∙ e)) g)
    kept_on T e (stays u r l) x q =
        stays (subst (λ (z : Table). Untouched key t z store store) (sym (q ∙ e)) u) (ap (λ (z : Table). row_of z key) (q ∙ e) ∙ r) (λ l₂. by_row (eqb row n) refl l₂)
      where
        by_row : (b : Bool) → eqb row n ≡ b → row < suc n → old ≡ false
        by_row false f l₂ = let ne : row ≡ n → ⊥ = eqb-false _ _ f in by_less (ltb row n) refl ne l₂
          where
            by_less : (c : Bool) → ltb row n ≡ c → (row ≡ n → ⊥) → row < suc n → old ≡ false
            by_less true g ne₂ l₃ = l (ltb-true _ _ g)
            by_less false g ne₂ l₃ = absurd (ne₂ (omega (arith, ltb-false row n g)))
        by_row true f l₂ =
            let same : row ≡ n = eqb-true _ _ f in
            let used : get_or t.used row false ≡ true = (row_holds t key (omega arith)).0 in
            let young : (get_or t.used row false && old) ≡ false = ap (λ (k : ℕ). get_or t.used k false && is_old time (get_or t.firsts k 0)) same ∙ x in
            rw used at young

    dropped_on : Fate n → expired t time n ≡ true → after (suc n) ≡ without (after n) n → Fate (suc n)
    dropped_on (goes l o g) x q =
        goes (omega arith) o (subst (λ (z : Table). 16 ≤ row_of z key) (sym q) (rw (row_after_drop (after n) s' n h key (not_key x (λ e. omega arith))) g))
    dropped_on (stays u r l) x q = by_row (eqb row n) refl
      where
        by_row : (b : Bool) → eqb row n ≡ b → Fate (suc n)
        by_row true f =
            let same : row ≡ n = eqb-true _ _ f in
            let aged = both (get_or t.used n false) (is_old time (get_or t.firsts n 0)) x in
            goes (omega arith) (ap (λ (k : ℕ). is_old time (get_or t.firsts k 0)) same ∙ aged.1) (subst (λ (z : Table). 16 ≤ row_of z key) (sym q) (drop_gone (after n) s' n h key (r ∙ same)))
        by_row false f =
            let ne : row ≡ n → ⊥ = eqb-false _ _ f in
            let other = not_key x (λ e. ne (sym r ∙ e)) in
            let same = drop_untouched (after n) s' n h store key other in
            stays (subst (λ (z : Table). Untouched key t z store store) (sym q) ((λ k. same.0 k ∙ u.0 k), same.1 ∙ u.1)) (ap (λ (z : Table). row_of z key) q ∙ row_after_drop (after n) s' n h key other ∙ r)
            (λ l₂. by_less (ltb row n) refl l₂)
          where
            by_less : (c : Bool) → ltb row n ≡ c → row < suc n → old ≡ false
            by_less true g l₃ = l (ltb-true _ _ g)
            by_less false g l₃ = absurd (eqb-false row n f (omega (arith, ltb-false row n g)))

    on : Fate n → (b : Bool) → expired t time n ≡ b → Fate (suc n)
    on fate true x = dropped_on fate x (rows_next t time n ∙ rw x)
    on fate false x = kept_on (after n) refl fate x (rows_next t time n ∙ rw x)

  fates : (n : ℕ) → n ≤ 16 → Fate n
  fates zero h = stays (subst (λ (z : Table). Untouched key t z store store) (rows_none t time) ((λ k. refl), refl)) (ap (λ (z : Table). row_of z key) (sym (rows_none t time))) (λ l. absurd (omega arith))
  fates (suc n) h = on n (omega arith) (fates n (omega arith)) (expired t time n) refl

  age : (b : Bool) → ltb row 16 ≡ b → due time (first_time t key) ≡ (b && old)
  unfolding first_time
  age true e = rw e
  age false e = rw e

  -- what the key holds after a sweep, and its first time
  pub sweep_told : ((k : ℕ) → held_by_lem (swept t time).table store key k ≡ cond (due time (first_time t key)) nothing (held_by_lem t store key k)) × (first_time (swept t time).table key ≡ cond (due time (first_time t key)) never (first_time t key))
  sweep_told = by_fate (fates 16 (omega arith))
    where
      by_fate : Fate 16 → ((k : ℕ) → held_by_lem (after 16) store key k ≡ cond (due time (first_time t key)) nothing (held_by_lem t store key k)) × (first_time (after 16) key ≡ cond (due time (first_time t key)) never (first_time t key))
      by_fate (stays u r l) = rw (young (ltb row 16) refl) u
        where
          young : (b : Bool) → ltb row 16 ≡ b → due time (first_time t key) ≡ false
          young true e = age true e ∙ l (ltb-true _ _ e)
          young false e = age false e
      by_fate (goes l o g) =
          let aged : due time (first_time t key) ≡ true = age true (lt-ltb _ _ l) ∙ o in
          let s'' = sweep_sound t s time 16 (omega arith) in
          rw aged ((λ k. absent (after 16) s'' key g store k), absent_since (after 16) s'' key g)
