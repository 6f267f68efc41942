-- Over a run: the fragments of a message find room one after the other, wait, and complete with the last.
use mathlib.Core.Path.{◌≡◌, refl, sym, ap, ◌∙◌, subst}
use mathlib.Core.List.{List, [], ◌∷◌}
use mathlib.Core.Bool.{Bool, true, false, cond, not, ◌||◌, false≢true, true≢false, or_assoc, or-true, or-false}
use Prim.Native.Nat.{ℕ, ◌+◌, ◌≤◌, ◌<◌}
use native.Mathlib.Omega.{arith}
use lib.Dec.{eqb, ltb, leb}
use lib.ListN.{length, get_or, set, length-set}
use lib.Seq.{get_or-set_same}
use borrow.Author.Tests.{leb-true, leb-false, eq-eqb, ne_eqb, ltb-true, not-true}
use Rattle.keys.specs.Keys.{sender_of_lem}
use Rattle.table.specs.declared.Table.{Table}
use Rattle.table.specs.declared.Totals.{Totals}
use Rattle.searching.specs.Search.{lowest}
use Rattle.table.specs.Rows.{places, fresh_table, place_at, is_free, row_of, spare_row, lowest_free, with_key, with_place, first_row_lem, no_totals, totals_of, with_totals}
use Rattle.pushing.specs.Joining.{Held, nothing, kept, Since, never, since, due}
use Rattle.pushing.specs.Push.{Way, keep_at, place_for, own_totals, table_by, answer_by}
use Rattle.pushing.specs.Made.{Made, by_fresh}
use Rattle.pushing.proofs.Ways.{Went, went, went_refuse, went_duplicate, went_keep, went_open, went_end}
use Rattle.table.proofs.Sound.{Sound}
use Rattle.pushing.proofs.Sound.{sound}
use Rattle.machines.specs.Machine.{those, gathered, every}
use Rattle.orders.specs.Runs.{State, Push, Call, push, sweep, Reply, pushed, finished_by, part, way_of, after, reply_to, is_left, any_number, for_room, has_room_lem, is_own, concerns, start, Holding, holding, holds_nothing, ends, crossed, replies_to_left}
use Rattle.orders.specs.Shares.{is_in, distinct}
use Rattle.orders.specs.Messages.{Message, held_at, whole, Brings, Sent, sending, free_in, senders_totals, Room, spares, completing}
use Rattle.orders.specs.Claims.{CoversRoom, Completes, CompletesAmong}
use Rattle.searching.proofs.Search.{lowest_before}
use Rattle.table.proofs.Places.{put_elsewhere}
use Rattle.machines.proofs.Lists.{left_true, right_true, every_remains, every_gathered}
use Rattle.orders.proofs.Holdings.{absent}
use Rattle.orders.proofs.Telling.{acts, shape, own_way, since_or, by_own_lem, with_new, tell, answer}
use Rattle.orders.proofs.Pushing.{Good, Full, many_places, many_keys, no_place, no_row, way_shape, room_unless}
use Rattle.orders.proofs.Locality.{has_room, good_after, own_push, own_mine, local}
use Rattle.orders.proofs.Alone.{fresh_holds}
use Rattle.searching.specs.Count.{how_many}
use Rattle.searching.proofs.Count.{count_none, one_fewer}
use Rattle.orders.proofs.Count.{at_most}
use Rattle.orders.proofs.Completion.{Has, waits, added, completes_as}
use Rattle.machines.specs.Story.{story, view_after, said_along, answers, ActsByKey}
use Rattle.machines.proofs.Story as Y

-- none is free before the lowest
some_free : (t : Table) → 1 ≤ free_in t → lowest_free t < places
some_free t h = by_order (leb places (lowest_free t)) refl
  where
    by_order : (b : Bool) → leb places (lowest_free t) ≡ b → lowest_free t < places
    by_order true e = let low = leb-true places (lowest_free t) e in absurd (omega (arith, count_none (λ i. is_free (place_at t i)) places (λ k l. lowest_before (λ i. is_free (place_at t i)) places k (omega arith))))
    by_order false e = leb-false places (lowest_free t) e

-- a push that is kept takes one place
taken : (t t' : Table) (i : ℕ) → ((j : ℕ) → (j ≡ i → ⊥) → place_at t' j ≡ place_at t j) → i < places → free_in t ≤ free_in t' + 1
taken t t' i same h = one_fewer (λ j. is_free (place_at t j)) (λ j. is_free (place_at t' j)) i (λ j ne. ap is_free (sym (same j ne))) places h

-- totals that are put for a sender are what is said of it, or nothing is
put_places_lem : (u : Table) → length u.sender_places ≡ 16 → (sender : ℕ) (held : Totals) → (totals_of (with_totals u sender held) sender).places ≤ held.places
put_places_lem u long sender held = by_row (first_row_lem u sender) (ltb (first_row_lem u sender) 16) refl
  where
    by_row : (row : ℕ) (b : Bool) → ltb row 16 ≡ b → (cond b (record { keys = get_or (set u.sender_keys row held.keys) row 0; places = get_or (set u.sender_places row held.places) row 0 }) no_totals).places ≤ held.places
    by_row row true e = omega (arith, get_or-set_same u.sender_places row held.places 0 (omega (arith, ltb-true row 16 e)))
    by_row row false e = omega arith

-- what it leaves: at most one place fewer that is free, and one more of its sender
abbrev Taken : Table → Table → ℕ → Type 0
Taken t t' sender = (free_in t ≤ free_in t' + 1) × ((totals_of t' sender).places ≤ (totals_of t sender).places + 1)

kept_fewer : (t : Table) → Sound t → (store : List ℕ) (p : Push) {w : Way} → Went t store p.arrival p.payload p.room w → shape w ≡ keep_at 0 → Taken t (table_by w t p.arrival (length p.payload)) (sender_of_lem p.arrival.key)
kept_fewer t s store p (went_refuse n values why) e = let no : ◌≡◌ {A = ℕ} 0 1 = cc in absurd (omega arith)
kept_fewer t s store p went_duplicate e = let no : ◌≡◌ {A = ℕ} 0 1 = cc in absurd (omega arith)
kept_fewer t s store p (went_keep i h₁ h₂ h₃ l q h k few) e =
    let a = p.arrival in
    let new = place_for (row_of t a.key) a.fragment (length p.payload) in (
      taken t (with_place t i new) i (put_elsewhere t i new) h,
      put_places_lem (with_place t i new) s.sender_places_long (sender_of_lem a.key) (record { keys = (own_totals t a).keys; places = (own_totals t a).places + 1 }),
    )
kept_fewer t s store p (went_open i r h₁ h₂ h₃ l q h k q₂ h₄ few few₂) e =
    let a = p.arrival in
    let opened = with_key (with_totals t (sender_of_lem a.key) no_totals) r a.key a.time in
    let new = place_for r a.fragment (length p.payload) in (
      taken t (with_place opened i new) i (put_elsewhere opened i new) h,
      put_places_lem (with_place opened i new) (length-set t.sender_places (first_row_lem t (sender_of_lem a.key)) 0 ∙ s.sender_places_long) (sender_of_lem a.key) (record { keys = (own_totals t a).keys + 1; places = (own_totals t a).places + 1 }),
    )
kept_fewer t s store p (went_end h bytes h₁ h₂ h₃ l q) e = let no : ◌≡◌ {A = ℕ} 0 1 = cc in absurd (omega arith)

module _ (m : Message) (long : ℕ) (store : 47744 ≤ long) (bring : ℕ → Push) (brings : (k : ℕ) → k ≤ m.final → Brings m k (bring k)) where
  -- the numbers still to come: each once, none of them there, and with those there all below the final one
  record Due (done : ℕ → Bool) (ks : List ℕ) : Type 0 where
    once : distinct ks ≡ true
    new : (k : ℕ) → is_in k ks ≡ true → done k ≡ false
    all : (k : ℕ) → (done k || is_in k ks) ≡ ltb k m.final

  first_in : (k : ℕ) (ks : List ℕ) → is_in k (k ∷ ks) ≡ true
  unfolding is_in
  first_in k ks = rw (eq-eqb k k refl)

  due_here : (done : ℕ → Bool) (k : ℕ) (ks : List ℕ) → Due done (k ∷ ks) → (done k ≡ false) × (k < m.final)
  due_here done k ks d =
      (d.new k (first_in k ks), ltb-true k m.final (sym (d.all k) ∙ rw (first_in k ks) (or-true (done k))))

  due_next : (done : ℕ → Bool) (k : ℕ) (ks : List ℕ) → Due done (k ∷ ks) → Due (λ j. done j || eqb k j) ks
  unfolding is_in distinct
  due_next done k ks d =
      let out : is_in k ks ≡ false = not-true (is_in k ks) (left_true (not (is_in k ks)) _ d.once) in
      record {
        once = right_true (not (is_in k ks)) _ d.once;
        new = λ j h.
            let ne : k ≡ j → ⊥ = λ e. false≢true (sym out ∙ ap (λ (x : ℕ). is_in x ks) e ∙ h) in
            rw (ne_eqb k j ne, d.new j (rw (ne_eqb k j ne) h));
        all = λ j. or_assoc (done j) (eqb k j) (is_in j ks) ∙ d.all j;
      }

  due_last : (done : ℕ → Bool) (v : Holding) → Due done [] → Has m done v → Has m (λ k. ltb k m.final) v
  unfolding is_in
  due_last done v d has k = has k ∙ ap (λ (b : Bool). cond b (kept (held_at m k)) nothing) (sym (or-false (done k)) ∙ d.all k)

  absent_yet : (done : ℕ → Bool) (v : Holding) (k : ℕ) → Has m done v → done k ≡ false → v.fragments k ≡ nothing
  absent_yet done v k has e = has k ∙ ap (λ (b : Bool). cond b (kept (held_at m k)) nothing) e

  abbrev come : List ℕ → List Call
  come ks = sending m bring ks

  -- what is answered along some calls of the key, and what it holds after them
  abbrev Told : Holding → List Call → List Reply → Holding → Type 0
  Told v es rs u = (answers (acts long) m.key v es ≡ rs) × (view_after (acts long) v es ≡ u)

  told_push : (v v' u : Holding) (p : Push) (es : List Call) (r : Reply) (rs : List Reply) → p.arrival.key ≡ m.key → answer long v (push p) ≡ r → tell long v (push p) ≡ v' → Told v' es rs u → Told v (push p ∷ es) (r ∷ rs) u
  unfolding said_along view_after
  told_push v v' u p es r rs key said next rest = (rw (eq-eqb p.arrival.key m.key key, said, next, rest.0), rw next rest.1)

  told_none : (v : Holding) → Told v [] [] v
  unfolding said_along view_after
  told_none v = (refl, refl)

  module _ (room : 1 ≤ m.final → length (whole m) ≤ (bring m.final).room) where
    as_told : (ks : List ℕ) (done : ℕ → Bool) (v : Holding) → Due done ks → Has m done v → Told v (come ks) (completing m ks) holds_nothing
    as_told [] done v d has =
        let last = brings m.final (omega arith) in
        let end = completes_as m long store (bring m.final) last v (due_last done v d has) room in
        told_push v holds_nothing holds_nothing (bring m.final) [] _ [] last.key end.0 end.1 (told_none holds_nothing)
    as_told (k ∷ ks) done v d has =
        let here = due_here done k ks d in
        let b = brings k (omega (arith, here.1)) in
        let new = absent_yet done v k has here.0 in
        let is = waits m long store k (bring k) b v new (λ e. omega (arith, here.1)) in
        told_push v (with_new v (bring k)) holds_nothing (bring k) (come ks) _ (completing m ks) b.key
        (ap (λ (w : Way). pushed (answer_by w) (finished_by w (bring k).payload)) is)
        (ap (λ (w : Way). by_own_lem w v (bring k)) is)
        (as_told ks (λ j. done j || eqb k j) (with_new v (bring k)) (due_next done k ks d) (added m long store k (bring k) b v new done has))

  -- each finds room
  held_row_lem : (z : State) → Good long z → (p : Push) → p.arrival.key ≡ m.key → (u : Holding) → holding m.key z ≡ with_new u p → 16 ≤ row_of z.table m.key → ⊥
  held_row_lem z g p e u h out = never_since u.first (ap (λ (v : Holding). v.first) (sym (absent z (sound g.made) m.key out) ∙ h))
    where
      never_since : (f : Since) → never ≡ since_or f p.arrival.time → ⊥
      never_since never q = let no : ◌≡◌ {A = ℕ} 0 1 = cc in omega arith
      never_since (since first) q = let no : ◌≡◌ {A = ℕ} 0 1 = cc in omega arith

  -- room for n more of them in the table, and in the sender's share
  record Finds (n : ℕ) (t : Table) : Type 0 where
    free : n ≤ free_in t
    share_left : (senders_totals m t).places + n ≤ 8
    seat : 1 ≤ n → 16 ≤ row_of t m.key → (spare_row t < 16) × ((senders_totals m t).keys < 4)

  finds_room : (ks : List ℕ) (done : ℕ → Bool) (z : State) → Good long z → Due done ks → Has m done (holding m.key z) → Finds (length ks) z.table → every after has_room_lem z (come ks) ≡ true
  unfolding every
  finds_room [] done z g d has finds =
      let p = bring m.final in
      let b = brings m.final (omega arith) in
      let roomy : has_room_lem z (push p) ≡ true = has_room z p ∙ room_unless long z p g (λ l f. true≢false (sym (ap (λ (h : Held). h.last) b.fragment ∙ eq-eqb m.final m.final refl) ∙ l)) in
      rw roomy
  finds_room (k ∷ ks) done z g d has finds =
      let p = bring k in
      let here = due_here done k ks d in
      let b = brings k (omega (arith, here.1)) in
      let new = absent_yet done (holding m.key z) k has here.0 in
      let free = some_free z.table (omega (arith, finds.free)) in
      let roomy : has_room_lem z (push p) ≡ true = has_room z p ∙ room_unless long z p g (λ l f. not_full free (subst (Full z.table) b.key f)) in
      let is : own_way long (holding m.key z) p ≡ keep_at 0 = waits m long store k p b (holding m.key z) new (λ e. omega (arith, here.1)) in
      let at_key : holding p.arrival.key z ≡ holding m.key z = ap (λ (c : ℕ). holding c z) b.key in
      let way : shape (way_of z p) ≡ keep_at 0 = way_shape long z p g (sym (has_room z p) ∙ roomy) ∙ ap (λ (v : Holding). own_way long v p) at_key ∙ is in
      let next : holding m.key (after z (push p)) ≡ with_new (holding m.key z) p
      = ap (λ (c : ℕ). holding c (after z (push p))) (sym b.key) ∙ own_push long z g p roomy ∙ ap (λ (v : Holding). tell long v (push p)) at_key ∙ ap (λ (w : Way). by_own_lem w (holding m.key z) p) is in
      let left = kept_fewer z.table (sound g.made) (part z p) p (went z.table (part z p) p.arrival p.payload p.room) way in
      let has' : Has m (λ j. done j || eqb k j) (holding m.key (after z (push p))) = subst (Has m (λ j. done j || eqb k j)) (sym next) (added m long store k p b (holding m.key z) new done has) in
      let g' = good_after long z (push p) g in
      let same-sender : sender_of_lem p.arrival.key ≡ sender_of_lem m.key = ap sender_of_lem b.key in
      let more = subst (λ (x : ℕ). (totals_of (after z (push p)).table x).places ≤ (totals_of z.table x).places + 1) same-sender left.1 in
      let finds' : Finds (length ks) (after z (push p)).table = record {
        free = omega (arith, left.0, finds.free);
        share_left = omega (arith, more, finds.share_left);
        seat = λ l out. absurd (held_row_lem (after z (push p)) g' p b.key (holding m.key z) next out);
      } in
      rw (roomy, finds_room ks (λ j. done j || eqb k j) (after z (push p)) g' (due_next done k ks d) has' finds')
    where
      not_full : lowest_free z.table < 32 → Full z.table m.key → ⊥
      not_full free (many_places h) = omega (arith, finds.share_left)
      not_full free (many_keys h h') = omega (arith, (finds.seat (omega arith) h).1)
      not_full free (no_place h) = omega arith
      not_full free (no_row h h') = omega (arith, (finds.seat (omega arith) h).0)

  -- all the calls are the key's own pushes
  all_own : (ks : List ℕ) (done : ℕ → Bool) → Due done ks → those (is_own m.key) (come ks) ≡ come ks
  unfolding those
  all_own [] done d = rw (eq-eqb (bring m.final).arrival.key m.key (brings m.final (omega arith)).key)
  all_own (k ∷ ks) done d =
      rw (eq-eqb (bring k).arrival.key m.key (brings k (omega (arith, (due_here done k ks d).1))).key, all_own ks (λ j. done j || eqb k j) (due_next done k ks d))

  all_spare : (ks : List ℕ) (z : State) → every after (spares m.key) z (come ks) ≡ true
  unfolding every
  all_spare [] z = refl
  all_spare (k ∷ ks) z = all_spare ks (after z (push (bring k)))

-- sweeps that spare a key change nothing of what it sees and is answered
module _ (out : ℕ → Bool) (covers : CoversRoom out) (long key : ℕ) where
  abbrev Calm : Holding → List Call → Type 0
  Calm v es = (answers (acts long) key v es ≡ answers (acts long) key v (those (is_own key) es)) × (view_after (acts long) v es ≡ view_after (acts long) v (those (is_own key) es))

  calm_in : (z : State) (e : Call) (es : List Call) → concerns key e ≡ true → spares key z e ≡ true → Calm (tell long (holding key z) e) es → Calm (holding key z) (e ∷ es)
  unfolding said_along view_after those
  calm_in z (push p) es h s calm = let own : is_own key (push p) ≡ true = sym (or-false (is_own key (push p))) ∙ h in (rw own (rw (own, calm.0)), rw own calm.1)
  calm_in z (sweep time) es h s calm =
      let spared = not-true (due time (holding key z).first) s in
      let same : Calm (holding key z) es = rw spared at calm in
      (rw spared same.0, rw spared same.1)

  abbrev told : State → List Call → List Call
  told = story (acts long) (is_left out) key

  L : ActsByKey (acts long) (is_left out) (Good long)
  L = local out covers long

  calm : (es : List Call) (z : State) → Good long z → every after (spares key) z es ≡ true → Calm (holding key z) (told z es)
  unfolding every those gathered said_along view_after
  calm [] z g h = (refl, refl)
  calm (e ∷ es) z g h =
      let ih = calm es (after z e) (good_after long z e g) (right_true (spares key z e) _ h) in
      Y.next (acts long) (is_left out) (Good long) L key (Calm (holding key z)) z e es
      (λ p q. calm_in z e (told (after z e) es) q (left_true (spares key z e) _ h) (subst (λ (v : Holding). Calm v (told (after z e) es)) (L.same key z e g p q) ih))
      (λ p q. subst (λ (v : Holding). Calm v (told (after z e) es)) (L.other key z e g q) ih)
      (λ p. subst (λ (s : State). Calm (holding key s) (told (after z e) es)) (L.no_effect z e g p) ih)

-- a message completes among any calls, where those of its key that are left are its pushes and each sweep spares the key
module _ (m : Message) (bring : ℕ → Push) (order : List ℕ) (sent : Sent m bring order) (z : State) (made : Made z.table) (enough : 47744 ≤ length z.store) (absent-key : holding m.key z ≡ holds_nothing) where
  abbrev long : ℕ
  long = length z.store

  g : Good long z
  g = record { made = made; same_long = refl }

  abbrev none : ℕ → Bool
  none k = false

  due_all : Due m long enough bring sent.brings none order
  due_all = record { once = sent.once; new = λ k h. refl; all = sent.all }

  has_none : Has m none (holding m.key z)
  has_none k = ap (λ (v : Holding). v.fragments k) absent-key

  among : (out : ℕ → Bool) → CoversRoom out → (run : List Call) → those (is_own m.key) (crossed out z run) ≡ sending m bring order
      → every after (spares m.key) z run ≡ true → (replies_to_left out m.key z run ≡ completing m order) × (holding m.key (ends z run) ≡ holds_nothing)
  among out covers run these spared =
      let quiet = calm out covers long m.key run z g spared in
      let left : those (is_own m.key) (told out covers long m.key z run) ≡ sending m bring order = own_mine m.key (crossed out z run) ∙ these in
      let told = as_told m long enough bring sent.brings sent.room order none (holding m.key z) due_all has_none in (
        Y.gathered_alone (acts long) (is_left out) (Good long) (local out covers long) m.key run z g ∙ quiet.0 ∙ ap (answers (acts long) m.key (holding m.key z)) left ∙ told.0,
        Y.alone (acts long) (is_left out) (Good long) (local out covers long) m.key run z g ∙ quiet.1 ∙ ap (view_after (acts long) (holding m.key z)) left ∙ told.1,
      )

  pub completes_among : (run : List Call) → those (is_own m.key) (crossed any_number z run) ≡ sending m bring order → every after (spares m.key) z run ≡ true → CompletesAmong m order z run
  completes_among run these spared = let x = among any_number (λ n h. refl) run these spared in record { answers = x.0; holds = x.1 }

  -- by itself, where there is room
  pub completes : Room m z.table → Completes m bring order z
  completes has-place =
      let few : length order ≤ m.final = at_most m.final order sent.once (λ k h. ltb-true k m.final (sym (sent.all k) ∙ h)) in
      let finds : Finds m long enough bring sent.brings (length order) z.table = record {
        free = omega (arith, has-place.free);
        share_left = omega (arith, has-place.share_of_places);
        seat = λ l out. (has-place.row (omega arith), has-place.share_of_keys (omega arith));
      } in
      let roomy = finds_room m long enough bring sent.brings order none z g due_all has_none finds in
      let these = ap (those (is_own m.key)) (every_remains after has_room_lem (sending m bring order) z roomy) ∙ all_own m long enough bring sent.brings order none due_all in
      let x = among for_room (λ n h. h) (sending m bring order) these (all_spare m long enough bring sent.brings order z) in
      record { answers = sym (every_gathered after has_room_lem (λ s e. is_own m.key e) reply_to (sending m bring order) z roomy) ∙ x.0; holds = x.1 }

-- a fresh table has room for every message: no sender holds anything
pub fresh_totals : (sender : ℕ) → totals_of fresh_table sender ≡ no_totals
unfolding lowest
fresh_totals sender = refl

fresh_room : (m : Message) → Room m fresh_table
unfolding how_many lowest
fresh_room m =
    let none = fresh_totals (sender_of_lem m.key) in
    let fits : m.final ≤ 32 = omega (arith, m.few) in
    record {
      free = fits;
      row = λ l. omega arith;
      share_of_places = omega (arith, m.few, ap (λ (held : Totals). held.places) none);
      share_of_keys = λ l. omega (arith, ap (λ (held : Totals). held.keys) none);
    }

pub fresh_completes : (m : Message) (bring : ℕ → Push) (order : List ℕ) → Sent m bring order → (store : List ℕ) → 47744 ≤ length store → Completes m bring order (start store)
fresh_completes m bring order sent store long = completes m bring order sent (start store) by_fresh long (fresh_holds store m.key) (fresh_room m)
