-- A table that hears one key alone has room for whatever the key was given room for among others: it holds no more than
-- the key held there.
use mathlib.Core.Path.{◌≡◌, refl, sym, ap, ◌∙◌, subst}
use mathlib.Core.List.{List, []}
use mathlib.Core.Bool.{Bool, true, false, cond, not, false≢true, or-false}
use Prim.Native.Nat.{ℕ, ◌-◌, ◌≤◌, ◌<◌}
use native.Mathlib.Omega.{arith}
use lib.Dec.{eqb}
use borrow.Author.Tests.{eqb-true, eqb-false, eq-eqb, ne_eqb, not-false}
use Rattle.numbers.specs.Numbers.{Answer}
use Rattle.keys.specs.Keys.{sender_of_lem}
use Rattle.table.specs.declared.Table.{Table}
use Rattle.table.specs.declared.Totals.{Totals}
use Rattle.table.specs.Rows.{places, owner_of, fresh_table, place_at, row_of, is_spare, lowest_free, is_free, totals_of}
use Rattle.table.specs.InStep.{of_sender, kept_for}
use Rattle.pushing.specs.Joining.{is_kept_lem, never, since, due}
use Rattle.pushing.specs.Push.{PushAnswer, Way, keep_at, own_totals}
use Rattle.searching.proofs.Search.{lowest_holds, lowest_before}
use Rattle.pushing.proofs.Ways.{Went, went, went_refuse, went_duplicate, went_keep, went_open, went_end}
use Rattle.table.proofs.Sound.{Sound, fresh_sound, used_row, row_holds}
use Rattle.table.proofs.InStep.{kept_by}
use Rattle.pushing.proofs.Sound.{sound}
use Rattle.pushing.proofs.InStep.{good}
use Rattle.orders.specs.Runs.{State, Push, Call, push, sweep, pushed, finished_by, refused_by, part, way_of, after, is_left, concerns, start, Holding, holding, holds_nothing}
use Rattle.orders.specs.Claims.{CoversRoom}
use Rattle.table.proofs.Places.{all_same}
use Rattle.orders.proofs.Rows.{is_used_lem, code_at, first_at}
use Rattle.orders.proofs.Lookups.{never_true, row_none, row_is}
use Rattle.orders.proofs.Holdings.{absent, present}
use Rattle.orders.proofs.Telling.{acts, shape, passes_by, passes_is, own_way}
use Rattle.orders.proofs.Pushing.{Good, Full, many_places, many_keys, no_place, no_row, Turn, as_told, full, turn, same_answer, way_shape}
use Rattle.searching.specs.Count.{how_many}
use Rattle.searching.proofs.Count.{count_none, count_all, count_less}
use Rattle.machines.proofs.Lists.{left_true}
use Rattle.orders.proofs.Count.{count_within}
use Rattle.orders.proofs.Found.{owns, count_held}
use Rattle.orders.proofs.Locality.{has_room, left_room, untouched, own_sweep}
use Rattle.machines.specs.Story.{Echo}

-- a push that was kept found a free place, and its sender below its share
kept_free : (t : Table) (store : List ℕ) (p : Push) {w : Way} → Went t store p.arrival p.payload p.room w → shape w ≡ keep_at 0 → (lowest_free t < 32) × ((own_totals t p.arrival).places < 8)
kept_free t store p (went_refuse n values why) e = let no : ◌≡◌ {A = ℕ} 0 1 = cc in absurd (omega arith)
kept_free t store p went_duplicate e = let no : ◌≡◌ {A = ℕ} 0 1 = cc in absurd (omega arith)
kept_free t store p (went_keep i h₁ h₂ h₃ l q h k few) e = (omega arith, few)
kept_free t store p (went_open i r h₁ h₂ h₃ l q h k q₂ h₄ few few₂) e = (omega arith, few)
kept_free t store p (went_end h bytes h₁ h₂ h₃ l q) e = let no : ◌≡◌ {A = ℕ} 0 1 = cc in absurd (omega arith)

-- only this key holds anything
abbrev pub Lone : ℕ → State → Type 0
Lone c z = (k : ℕ) → (k ≡ c → ⊥) → holding k z ≡ holds_nothing

module _ (out : ℕ → Bool) (covers : CoversRoom out) (long : ℕ) (c : ℕ) where
  lone_code : (z : State) → Sound z.table → Lone c z → (row : ℕ) → is_used_lem z.table row ≡ true → code_at z.table row ≡ c
  lone_code z s lone row u = by_key (eqb (code_at z.table row) c) refl
    where
      by_key : (b : Bool) → eqb (code_at z.table row) c ≡ b → code_at z.table row ≡ c
      by_key true e = eqb-true _ _ e
      by_key false e =
          let never_since : never ≡ since (first_at z.table row) = ap (λ (v : Holding). v.first) (sym (lone (code_at z.table row) (eqb-false _ _ e)) ∙ present z s (code_at z.table row) row u refl) in
          let no : ◌≡◌ {A = ℕ} 0 1 = cc in
          absurd (omega arith)

  -- a table that hears this key alone and is full for it
  module _ (z z' : State) (g : Good long z) (g' : Good long z') (lone : Lone c z') (same : holding c z ≡ holding c z') (free : lowest_free z.table < 32) (few : (totals_of z.table (sender_of_lem c)).places < 8) where
    s : Sound z.table
    s = sound g.made

    s' : Sound z'.table
    s' = sound g'.made

    -- each place that is not free is the key's
    owned_one : (i : ℕ) → ((place_at z'.table i).owner ≡ 0 → ⊥) → (place_at z'.table i).owner ≡ owner_of (row_of z'.table c)
    owned_one i some =
        let p = place_at z'.table i in
        let is : p.owner ≡ owner_of (p.owner - 1) = omega (arith, some) in
        let used = s'.owned i (p.owner - 1) is in
        is ∙ ap owner_of (sym (row_is z'.table c s' (p.owner - 1) used (lone_code z' s' lone (p.owner - 1) used)))

    owned_all : 32 ≤ lowest_free z'.table → (i : ℕ) → i < 32 → (place_at z'.table i).owner ≡ owner_of (row_of z'.table c)
    owned_all h i l = owned_one i (λ e. false≢true (sym (lowest_before (λ k. is_free (place_at z'.table k)) 32 i (omega arith)) ∙ eq-eqb (place_at z'.table i).owner 0 e))

    -- the key has as many places in both tables
    equal : how_many (owns z.table (row_of z.table c)) places ≡ how_many (owns z'.table (row_of z'.table c)) places
    equal =
        count_held z.table s z.store (row_of z.table c)
        ∙ ap (λ (v : Holding). how_many (λ k. is_kept_lem (v.fragments k)) 256) same
        ∙ sym (count_held z'.table s' z'.store (row_of z'.table c))

    -- its sender has these among others, and no other alone
    sender_has : (i : ℕ) → owns z.table (row_of z.table c) i ≡ true → kept_for z.table (sender_of_lem c) i ≡ true
    sender_has i e =
        let at : (place_at z.table i).owner ≡ owner_of (row_of z.table c) = eqb-true _ _ e in
        let own = row_holds z.table c (used_row z.table s (row_of z.table c) (s.owned i (row_of z.table c) at)) in
        let its : of_sender z.table (sender_of_lem c) (row_of z.table c) ≡ true = rw (own.0, own.1, eq-eqb (sender_of_lem c) (sender_of_lem c) refl) in
        kept_by z.table (sender_of_lem c) i (row_of z.table c) at ∙ its

    key_has : (i : ℕ) → kept_for z'.table (sender_of_lem c) i ≡ true → owns z'.table (row_of z'.table c) i ≡ true
    key_has i e = eq-eqb _ _ (owned_one i (λ none. false≢true (sym (kept_none none) ∙ e)))
      where
        kept_none : (place_at z'.table i).owner ≡ 0 → kept_for z'.table (sender_of_lem c) i ≡ false
        kept_none none = rw (eq-eqb (place_at z'.table i).owner 0 none)

    -- a key without a row is held by nobody alone
    none_of : 16 ≤ row_of z'.table c → (row : ℕ) → row < 16 → of_sender z'.table (sender_of_lem c) row ≡ false
    none_of h row l = never_true _ (λ e.
        let used : is_used_lem z'.table row ≡ true = left_true (is_used_lem z'.table row) _ e in
        let at : row_of z'.table c ≡ row = row_is z'.table c s' row used (lone_code z' s' lone row used) in
        omega arith)

    never_full : Full z'.table c → ⊥
    never_full (many_places h) =
        let more = count_within (owns z.table (row_of z.table c)) (kept_for z.table (sender_of_lem c)) places sender_has in
        let less = count_within (kept_for z'.table (sender_of_lem c)) (owns z'.table (row_of z'.table c)) places key_has in
        let said = ap (λ (held : Totals). held.places) ((good g.made).0.as_counted (sender_of_lem c)) in
        let said' = ap (λ (held : Totals). held.places) ((good g'.made).0.as_counted (sender_of_lem c)) in
        omega (arith, more, less, said, said', equal)
    never_full (many_keys h k) =
        let none = count_none (of_sender z'.table (sender_of_lem c)) 16 (none_of h) in
        let said' = ap (λ (held : Totals). held.keys) ((good g'.made).0.as_counted (sender_of_lem c)) in
        omega (arith, none, said')
    never_full (no_place h) =
        let all = count_all (owns z'.table (row_of z'.table c)) places (λ i l. eq-eqb _ _ (owned_all h i l)) in
        let open-place : (place_at z.table (lowest_free z.table)).owner ≡ 0 = eqb-true _ _ (lowest_holds (λ k. is_free (place_at z.table k)) 32 free) in
        let less = count_less (owns z.table (row_of z.table c)) places (lowest_free z.table) free (ne_eqb (place_at z.table (lowest_free z.table)).owner (owner_of (row_of z.table c)) (λ o. omega arith)) in
        omega (arith, less, all, equal)
    never_full (no_row h k) =
        let used : is_used_lem z'.table 0 ≡ true = not-false _ (lowest_before (is_spare z'.table) 16 0 (omega arith)) in
        let at : row_of z'.table c ≡ 0 = row_is z'.table c s' 0 used (lone_code z' s' lone 0 used) in
        omega arith

  -- a call that was left among others is left there
  left_by : (z : State) (p : Push) → is_left out z (push p) ≡ passes_by out (shape (way_of z p))
  left_by z p = passes_is out (finished_by (way_of z p) p.payload) (way_of z p) ∙ ap (λ (a : Answer PushAnswer). not (refused_by out (pushed a []))) (sym (same_answer (way_of z p)))

  push_echoed : (z z' : State) (p : Push) → p.arrival.key ≡ c → Good long z → Good long z' → Lone c z' → holding c z ≡ holding c z' → is_left out z (push p) ≡ true → is_left out z' (push p) ≡ true
  push_echoed z z' p is g g' lone same acc = by_turn (turn long z' p g')
    where
      told : shape (way_of z p) ≡ own_way long (holding p.arrival.key z) p
      told = way_shape long z p g (sym (has_room z p) ∙ left_room out covers z (push p) acc)

      alike : own_way long (holding p.arrival.key z) p ≡ own_way long (holding p.arrival.key z') p
      alike = ap (λ (v : Holding). own_way long v p) (subst (λ (k : ℕ). holding k z ≡ holding k z') (sym is) same)

      by_turn : Turn long z' p → is_left out z' (push p) ≡ true
      by_turn (as_told e) = left_by z' p ∙ ap (passes_by out) (e ∙ sym alike ∙ sym told) ∙ sym (left_by z p) ∙ acc
      by_turn (full r for e own l f) =
          let found = kept_free z.table (part z p) p (went z.table (part z p) p.arrival p.payload p.room) (told ∙ alike ∙ own) in
          let few : (totals_of z.table (sender_of_lem c)).places < 8 = subst (λ (k : ℕ). (totals_of z.table (sender_of_lem k)).places < 8) is found.1 in
          absurd (never_full z z' g g' lone same found.0 few (subst (Full z'.table) is f))

  echoed : (z z' : State) (e : Call) → Good long z → Good long z' → Lone c z' → holding c z ≡ holding c z' → concerns c e ≡ true → is_left out z e ≡ true → is_left out z' e ≡ true
  echoed z z' (push p) g g' lone same h acc = push_echoed z z' p (eqb-true _ _ (sym (or-false (eqb p.arrival.key c)) ∙ h)) g g' lone same acc
  echoed z z' (sweep time) g g' lone same h acc = refl

  stays_lone : (z : State) (e : Call) → Good long z → Lone c z → concerns c e ≡ true → Lone c (after z e)
  stays_lone z (push p) g lone h k ne = untouched long z g k p (λ q. ne (q ∙ eqb-true _ _ (sym (or-false (eqb p.arrival.key c)) ∙ h))) ∙ lone k ne
  stays_lone z (sweep time) g lone h k ne = own_sweep long z g k time ∙ ap (λ (v : Holding). cond (due time v.first) holds_nothing v) (lone k ne)

  pub echo : Echo (acts long) (is_left out) (Good long) c (Lone c)
  echo = record { stays_lone = stays_lone; echoed = echoed }

-- a fresh table holds nothing
pub fresh_holds : (store : List ℕ) (k : ℕ) → holding k (start store) ≡ holds_nothing
fresh_holds store k = absent (start store) fresh_sound k (omega (arith, row_none fresh_table k (λ row u e. false≢true (sym (all_same 16 row false) ∙ u))))
