-- What a push does to the store's length, to the holdings of other keys and to its own key's: the table's laws, for a
-- store of which each push lends the first bytes.
use mathlib.Core.Path.{◌≡◌, refl, sym, ap, ◌∙◌}
use mathlib.Core.List.{List, ◌++◌}
use mathlib.Core.Bool.{Bool, true, false, cond}
use Prim.Native.Nat.{ℕ, ◌*◌, ◌≤◌, ◌<◌}
use native.Mathlib.Omega.{arith}
use lib.Dec.{eqb, ltb}
use lib.ListN.{length, drop, take-append-drop}
use lib.Seq.{paste, length_front, length-paste}
use borrow.Author.Tests.{ltb-true, ltb-false, lt-ltb}
use Rattle.table.specs.declared.Table.{Table}
use Rattle.pushing.specs.declared.Arrival.{Arrival}
use Rattle.table.specs.Rows.{row_of}
use Rattle.pushing.specs.Joining.{Kept, kept, held_of, held_by_lem, Since, first_time}
use Rattle.pushing.specs.Push.{Way, refuse, duplicate, keep_at, open_at, end, table_by, store_by}
use Rattle.pushing.proofs.Apart.{push_untouched}
use Rattle.pushing.proofs.Own.{absent_since, held_after, since_after, push_told}
use Rattle.pushing.proofs.Ways.{way_11, Went, went, went_refuse, went_duplicate, went_keep, went_open, went_end}
use Rattle.table.proofs.Sound.{Sound}
use Rattle.orders.specs.Runs.{State, Push, part, way_of, after_way, Holding, holding}
use Rattle.orders.proofs.Holdings.{holding_same, held_front}
use Rattle.orders.proofs.Telling.{shape, since_or, by_own_lem}

module _ (z : State) (p : Push) (s : Sound z.table) where
  abbrev t : Table
  t = z.table

  abbrev a : Arrival
  a = p.arrival

  abbrev row : ℕ
  row = row_of t a.key

  abbrev number : ℕ
  number = a.fragment.number

  abbrev Goes : Way → Type 0
  Goes w = Went t (part z p) a p.payload p.room w

  unchanged : record { table = t; store = part z p ++ drop p.lent z.store } ≡ z
  unchanged = ap (λ (l : List ℕ). record { table = t; store = l }) (take-append-drop p.lent z.store)

  written : (i : ℕ) → i < 32 → 47744 ≤ length (part z p) → length p.payload ≤ 1492 → length (paste (part z p) (i * 1492) p.payload (length p.payload)) ≡ length (part z p)
  written i h h₁ h₂ = length-paste (part z p) (i * 1492) p.payload (length p.payload) (omega arith) (omega arith)

  -- a payload that is written leaves the lent part as long as it was
  pub front_same : {w : Way} → Goes w → length (store_by w (part z p) p.payload) ≡ length (part z p)
  front_same (went_refuse n values why) = refl
  front_same went_duplicate = refl
  front_same (went_keep i h₁ h₂ h₃ l e h k few) = written i h h₁ h₂
  front_same (went_open i r h₁ h₂ h₃ l e h k e₂ h₄ few few₂) = written i h h₁ h₂
  front_same (went_end h bytes h₁ h₂ h₃ l e) = refl

  pub stored_long : {w : Way} → Goes w → length (after_way w z p).store ≡ length z.store
  stored_long {w} g = length_front z.store (store_by w (part z p) p.payload) p.lent (front_same g)

  abbrev v : Holding
  v = holding a.key z

  -- what a way leaves of its key's holding goes by its shape
  held_by : (w : Way) (n : ℕ) → held_by_lem t (part z p) a.key n ≡ v.fragments n → held_after w (held_by_lem t (part z p) a.key) number (held_of a.fragment p.payload) n ≡ (by_own_lem (shape w) v p).fragments n
  held_by (refuse m values) n e = e
  held_by duplicate n e = e
  held_by (keep_at i) n e = ap (λ (k : Kept). cond (eqb n number) (kept (held_of a.fragment p.payload)) k) e
  held_by (open_at i r) n e = ap (λ (k : Kept). cond (eqb n number) (kept (held_of a.fragment p.payload)) k) e
  held_by (end h bytes) n e = refl

  there : row < 16 → first_time t a.key ≡ since_or (first_time t a.key) a.time
  unfolding first_time
  there h = rw (lt-ltb row 16 h)

  first_by : {w : Way} → Goes w → since_after w (first_time t a.key) a.time ≡ (by_own_lem (shape w) v p).first
  first_by (went_refuse n values why) = refl
  first_by went_duplicate = refl
  first_by (went_keep i h₁ h₂ h₃ l e h k few) = there k
  first_by (went_open i r h₁ h₂ h₃ l e h k e₂ h₄ few few₂) = ap (λ (f : Since). since_or f a.time) (sym (absent_since t s a.key k))
  first_by (went_end h bytes h₁ h₂ h₃ l e) = refl

  -- the table's promises are about the part of the store that is lent: what comes after it makes no difference
  abbrev t' : Table
  t' = table_by (way_of z p) t a (length p.payload)

  before : 47744 ≤ length (part z p) → (c n : ℕ) → held_by_lem t (part z p) c n ≡ held_by_lem t z.store c n
  before long c n = sym (held_front t s (part z p) (drop p.lent z.store) long (row_of t c) n) ∙ ap (λ (l : List ℕ). held_by_lem t l c n) (take-append-drop p.lent z.store)

  module _ (s' : Sound t') where
    behind : 47744 ≤ length (part z p) → (c n : ℕ) → held_by_lem t' (after_way (way_of z p) z p).store c n ≡ held_by_lem t' (store_by (way_of z p) (part z p) p.payload) c n
    behind long c n = held_front t' s' (store_by (way_of z p) (part z p) p.payload) (drop p.lent z.store) (omega (arith, front_same (went t (part z p) a p.payload p.room))) (row_of t' c) n

    pub others_same : (c : ℕ) → (a.key ≡ c → ⊥) → holding c (after_way (way_of z p) z p) ≡ holding c z
    others_same c ne = by_long (ltb (length (part z p)) 47744) refl
      where
        by_long : (b : Bool) → ltb (length (part z p)) 47744 ≡ b → holding c (after_way (way_of z p) z p) ≡ holding c z
        by_long true e = ap (λ (w : Way). holding c (after_way w z p)) (way_11 t (part z p) a p.payload p.room (ltb-true _ _ e)) ∙ ap (holding c) unchanged
        by_long false e =
            let long = ltb-false (length (part z p)) 47744 e in
            let same = push_untouched t s (part z p) a p.payload p.room c ne in
            holding_same z (after_way (way_of z p) z p) c ((λ n. behind long c n ∙ same.0 n ∙ before long c n), same.1)

    -- the key's own is made from what it was
    pub own_same : holding a.key (after_way (way_of z p) z p) ≡ by_own_lem (shape (way_of z p)) v p
    own_same = by_long (ltb (length (part z p)) 47744) refl
      where
        by_long : (b : Bool) → ltb (length (part z p)) 47744 ≡ b → holding a.key (after_way (way_of z p) z p) ≡ by_own_lem (shape (way_of z p)) v p
        by_long true e =
            let is = way_11 t (part z p) a p.payload p.room (ltb-true _ _ e) in
            ap (λ (w : Way). holding a.key (after_way w z p)) is ∙ ap (holding a.key) unchanged ∙ sym (ap (λ (w : Way). by_own_lem (shape w) v p) is)
        by_long false e =
            let long = ltb-false (length (part z p)) 47744 e in
            let told = push_told t s (part z p) a p.payload p.room in
            λ i. record {
              first = (told.1 ∙ first_by (went t (part z p) a p.payload p.room)) i;
              fragments = λ n. (behind long a.key n ∙ told.0 n ∙ held_by (way_of z p) n (before long a.key n)) i;
            }
