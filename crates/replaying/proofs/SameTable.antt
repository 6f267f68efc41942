-- What a store held at first makes no difference to any reply of a run from a fresh table: two runs of the same calls
-- have the same table, and under each key the same fragments, at every call.
use mathlib.Core.Path.{◌≡◌, refl, sym, ap, ◌∙◌, subst}
use mathlib.Core.Bool.{Bool, true, false, not}
use mathlib.Core.List.{List, [], ◌∷◌}
use Prim.Native.Nat.{ℕ, min, ◌≤◌, ◌<◌}
use lib.Dec.{eqb, ltb}
use lib.ListN.{length, length-take}
use borrow.Author.Tests.{ltb-true, ltb-false, eqb-true, eqb-false}
use Rattle.machines.specs.Machine.{gathered}
use Rattle.table.specs.declared.Table.{Table}
use Rattle.table.specs.Rows.{row_of}
use Rattle.sweeping.specs.Sweep.{swept}
use Rattle.pushing.specs.declared.Arrival.{Arrival}
use Rattle.pushing.specs.Joining.{held_of, held_in_lem, held_by_lem, and_new}
use Rattle.pushing.specs.Push.{Way, way_by, keep_way, join_way, looked_up, own_totals, way, table_by, answer_by}
use Rattle.pushing.proofs.Ways.{way_11}
use Rattle.pushing.proofs.Sound.{sound}
use Rattle.orders.specs.Runs.{State, Push, Call, push, sweep, Reply, pushed, dropped, finished_by, for_room, part, way_of, after, reply_to, has_room_lem, refused_by, start, Holding, holding}
use Rattle.orders.specs.Claims.{Alike}
use Rattle.orders.proofs.Pushing.{Good, held_lent}
use Rattle.orders.proofs.Locality.{refused_nothing, good_after, good_start, untouched}
use Rattle.orders.proofs.Alone.{fresh_holds}
use Rattle.orders.proofs.Orders.{alike}
use Rattle.replaying.proofs.SameCalls.{replies_in}

-- two states with one table, and stores of one length that hold the same for it
record Agree (long : ℕ) (z z' : State) : Type 0 where
  good : Good long z
  good' : Good long z'
  same_table : z.table ≡ z'.table
  same_held : (key : ℕ) → holding key z ≡ holding key z'

module _ (long : ℕ) (z z' : State) (g : Agree long z z') where
  abbrev t : Table
  t = z.table

  -- the fragments under a key, in the one store and in the other, by the one table
  held_is : (key : ℕ) → held_in_lem t z.store (row_of t key) ≡ held_in_lem t z'.store (row_of t key)
  held_is key =
      ap (λ (v : Holding). v.fragments) (g.same_held key)
      ∙ ap (λ (x : Table). held_by_lem x z'.store key) (sym g.same_table)

  like : (key : ℕ) → Alike z z' key
  like key = alike z z' g.good.made g.good'.made (g.good.same_long ∙ sym g.good'.same_long) key (g.same_held key)

  module _ (p : Push) where
    abbrev a : Arrival
    a = p.arrival

    -- as many bytes are lent
    part_same : length (part z p) ≡ length (part z' p)
    part_same =
        length-take p.lent z.store
        ∙ ap (λ (n : ℕ). min p.lent n) (g.good.same_long ∙ sym g.good'.same_long)
        ∙ sym (length-take p.lent z'.store)

    by_length : (b : Bool) → ltb (length (part z p)) 47744 ≡ b → way t (part z p) a p.payload p.room ≡ way t (part z' p) a p.payload p.room
    unfolding way
    by_length true e = way_11 t (part z p) a p.payload p.room (ltb-true _ _ e) ∙ sym (way_11 t (part z' p) a p.payload p.room (subst (λ (n : ℕ). n < 47744) part_same (ltb-true _ _ e)))
    by_length false e =
        let h : 47744 ≤ length (part z p) = ltb-false _ _ e in
        let h' : 47744 ≤ length (part z' p) = subst (λ (n : ℕ). 47744 ≤ n) part_same h in
        let s = sound g.good.made in
        let row = row_of t a.key in
        let new = held_of a.fragment p.payload in
        let fs : held_in_lem t (part z p) row ≡ held_in_lem t (part z' p) row = held_lent z s p.lent h row ∙ held_is a.key ∙ sym (held_lent (record { table = t; store = z'.store }) s p.lent h' row) in
        λ i. way_by (part_same i) (length p.payload) (looked_up t a).place a.fragment.last (keep_way (looked_up t a) (own_totals t a)) (join_way new (and_new (fs i) a.fragment.number new) p.room)

    way_same : way_of z p ≡ way_of z' p
    way_same = by_length (ltb (length (part z p)) 47744) refl ∙ ap (λ (x : Table). way x (part z' p) a p.payload p.room) g.same_table

    push_reply : reply_to z (push p) ≡ reply_to z' (push p)
    push_reply = ap (λ (w : Way). pushed (answer_by w) (finished_by w p.payload)) way_same

    room_same : has_room_lem z (push p) ≡ has_room_lem z' (push p)
    room_same = ap (λ (r : Reply). not (refused_by for_room r)) push_reply

    by_key : (key : ℕ) (b : Bool) → eqb key a.key ≡ b → (r : Bool) → has_room_lem z (push p) ≡ r → holding key (after z (push p)) ≡ holding key (after z' (push p))
    by_key key false e r f =
        untouched long z g.good key p (eqb-false _ _ e) ∙ g.same_held key ∙ sym (untouched long z' g.good' key p (eqb-false _ _ e))
    by_key key true e true f = (like key).push_same p (sym (eqb-true _ _ e)) f (sym room_same ∙ f)
    by_key key true e false f =
        ap (holding key) (refused_nothing for_room z (push p) f) ∙ g.same_held key ∙ sym (ap (holding key) (refused_nothing for_room z' (push p) (sym room_same ∙ f)))

    push_agrees : Agree long (after z (push p)) (after z' (push p))
    push_agrees = record {
      good = good_after long z (push p) g.good;
      good' = good_after long z' (push p) g.good';
      same_table = ap (λ (w : Way). table_by w t a (length p.payload)) way_same ∙ ap (λ (x : Table). table_by (way_of z' p) x a (length p.payload)) g.same_table;
      same_held = λ key. by_key key (eqb key a.key) refl (has_room_lem z (push p)) refl;
    }

  module _ (time : ℕ) where
    sweep_reply : reply_to z (sweep time) ≡ reply_to z' (sweep time)
    sweep_reply = ap (λ (x : Table). dropped (swept x time).dropped) g.same_table

    sweep_agrees : Agree long (after z (sweep time)) (after z' (sweep time))
    sweep_agrees = record {
      good = good_after long z (sweep time) g.good;
      good' = good_after long z' (sweep time) g.good';
      same_table = ap (λ (x : Table). (swept x time).table) g.same_table;
      same_held = λ key. (like key).sweep_same time;
    }

same_replies : (long : ℕ) (es : List Call) (z z' : State) → Agree long z z' → replies_in z es ≡ replies_in z' es
unfolding gathered
same_replies long [] z z' g = refl
same_replies long (push p ∷ es) z z' g = λ i. push_reply long z z' g p i ∷ same_replies long es (after z (push p)) (after z' (push p)) (push_agrees long z z' g p) i
same_replies long (sweep time ∷ es) z z' g = λ i. sweep_reply long z z' g time i ∷ same_replies long es (after z (sweep time)) (after z' (sweep time)) (sweep_agrees long z z' g time) i

pub same_store : (store store' : List ℕ) → length store ≡ length store' → (es : List Call) → replies_in (start store) es ≡ replies_in (start store') es
same_store store store' long es = same_replies (length store') es (start store) (start store') (record {
  good = subst (λ (n : ℕ). Good n (start store)) long (good_start store);
  good' = good_start store';
  same_table = refl;
  same_held = λ key. fresh_holds store key ∙ sym (fresh_holds store' key);
})
