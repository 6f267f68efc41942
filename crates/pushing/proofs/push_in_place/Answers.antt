-- What was looked up is what the definitions look up, and each way out does what its way does.
use mathlib.Core.Path.{◌≡◌, refl, sym, ap, ◌∙◌, subst}
use mathlib.Core.List.{List}
use mathlib.Core.Bool.{true, false}
use Prim.Native.Nat.{ℕ, ◌*◌, ◌≤◌, ◌<◌}
use native.Mathlib.Omega.{arith}
use lib.ListN.{length}
use lib.Seq.{paste}
use Rattle.std.proofs.lemmas.Result.{err_from_is_err_and}
use Rattle.std.specs.Prelude.{Result, Ok, Err}
use Rattle.numbers.specs.declared.Refusal.{Refusal}
use Rattle.table.specs.declared.Table.{Table}
use Rattle.table.specs.declared.Totals.{Totals}
use Rattle.pushing.specs.declared.Arrival.{Arrival}
use Rattle.pushing.specs.declared.Pushed.{Pushed}
use Rattle.pushing.specs.declared.Pushed.TheVariants.{WaitingForMoreFragments}
use Rattle.pushing.specs.declared.join.Compared.{Compared}
use Rattle.pushing.specs.declared.look.LookedUp.{LookedUp}
use Rattle.table.specs.Rows.{place_of, is_row_of, row_of, totals_in, dropped_key_lem}
use Rattle.pushing.specs.Made.{Made}
use Rattle.pushing.specs.Push.{Way, duplicate, looked_up, own_totals, keep_way, way, Goes}
use Rattle.pushing.specs.PrivateSteps.{kept_way, kept_by_lem, compared_in, join_in, Ends}
use Rattle.table.proofs.Sound.{no_place}
use Rattle.searching.proofs.Search.{lowest_le}
use Rattle.pushing.proofs.Byte.{number_byte}
use Rattle.pushing.proofs.Sound.{sound}
use Rattle.pushing.proofs.Ways.{way_11, way_12, way_duplicate, way_last, way_keep}
use Rattle.pushing.proofs.Pieces.{judged}
use Rattle.pushing.proofs.Steps.{Fits, left_by, keep_room, keep_goes, join_goes}
use Rattle.pushing.proofs.push_in_place.Goals as goal

-- once the table is looked up
module _ (t : Table) (made : Made t) (stored lent : List ℕ) (arrival : Arrival) (payload : List ℕ) (found : LookedUp) (found_is : found ≡ looked_up t arrival) where
  abbrev its : Way
  its = way t stored arrival payload (length lent)

  row_is : found.row ≡ row_of t arrival.key
  row_is = ap (λ (l : LookedUp). l.row) found_is

  row_in : found.row ≤ 16
  row_in = omega (arith, row_is, lowest_le (is_row_of t arrival.key) 16)

  -- the number is there
  there : 47744 ≤ length stored → length payload ≤ 1492 → found.place < 32 → its ≡ duplicate
  there h₁ h₂ h = way_duplicate t stored arrival payload (length lent) h₁ h₂ (subst (λ (l : LookedUp). l.place < 32) found_is h)

  module _ (h₁ : 47744 ≤ length stored) (h₂ : length payload ≤ 1492) (h₃ : 32 ≤ found.place) where
    free : 32 ≤ place_of t (row_of t arrival.key) arrival.fragment.number
    free = subst (λ (l : LookedUp). 32 ≤ l.place) found_is h₃

    abbrev compared : ℕ → Compared
    compared row = compared_in t.owners t.versions t.message_types row arrival.fragment

    -- the fragment is marked last
    joined : arrival.fragment.number < 256 → arrival.fragment.last ≡ true → (last : Compared) → last ≡ compared found.row → (r : Result Pushed Refusal) (lent' : List ℕ) → Ends (join_in t.sizes t.owners t.numbers stored payload last (length lent)) r lent lent'
        → (t' : Table) → t' ≡ left_by t stored arrival payload (length lent) r → Goes its t stored lent arrival payload r t' stored lent'
    joined byte marked last is r lent' ends t' dropped =
        rw dropped
        (join_goes t stored arrival payload (length lent) (way_last t stored arrival payload (length lent) h₁ h₂ free marked) lent lent' r
        (subst (λ (w : Way). Ends w r lent lent') (judged t stored (row_of t arrival.key) arrival.fragment payload (sound made) byte free marked (length lent))
        (subst (λ (l : Compared). Ends (join_in t.sizes t.owners t.numbers stored payload l (length lent)) r lent lent') (is ∙ ap compared row_is) ends)))

    -- it is not, and there is room for it or not
    module _ (unmarked : arrival.fragment.last ≡ false) (held : Totals) (totals_is : held ≡ totals_in t.sender_keys t.sender_places found.first) where
      held_is : held ≡ own_totals t arrival
      held_is = totals_is ∙ ap (λ (l : LookedUp). totals_in t.sender_keys t.sender_places l.first) found_is

      keeps : (r : Result (Unit {0}) Refusal) → kept_way found r ≡ keep_way found held → its ≡ kept_way (looked_up t arrival) r
      keeps r e = way_keep t stored arrival payload (length lent) h₁ h₂ free unmarked ∙ sym (λ i. keep_way (found_is i) (held_is i)) ∙ sym e ∙ ap (λ (l : LookedUp). kept_way l r) found_is

      module _ (e : kept_way found (Ok tt) ≡ keep_way found held) where
        room : Fits t stored arrival payload (length lent) found held
        room =
            let fits = Fits t stored arrival payload (length lent) in
            subst (λ (h : Totals). fits found h) (sym held_is) (subst (λ (l : LookedUp). fits l (own_totals t arrival)) (sym found_is) (keep_room t stored arrival payload (length lent) (keeps (Ok tt) e)))

        kept : (t' : Table) → t' ≡ kept_by_lem found held t arrival (length payload)
            → (stored' : List ℕ) → stored' ≡ paste stored (found.free * 1492) payload (length payload) → Goes its t stored lent arrival payload (Ok WaitingForMoreFragments) t' stored' lent
        kept t' is stored' stores =
            let goes = keep_goes t stored arrival payload (length lent) (sound made) (keeps (Ok tt) e) lent in
            record {
              answers = goes.answers;
              keeps = is ∙ (λ i. kept_by_lem (found_is i) (held_is i) t arrival (length payload)) ∙ goes.keeps;
              stores = stores ∙ ap (λ (l : LookedUp). paste stored (l.free * 1492) payload (length payload)) found_is ∙ goes.stores;
              puts = goes.puts;
            }

pub look_up-found-requires : goal.look_up-found-requires
look_up-found-requires c h =
    no_place c.args.t.now (sound c.requires) (row_of c.args.t.now c.args.a.key) c.args.a.fragment.number h

pub returns-then-store-lt-STORE_SIZE : goal.returns-then-store-lt-STORE_SIZE
returns-then-store-lt-STORE_SIZE c =
    let a = c.args in
    rw (way_11 a.t.now a.store.now a.a a.payload.now (length a.out.now) c.if-store-lt-STORE_SIZE.true) (record { answers = refl; keeps = refl; stores = refl; puts = refl })

pub returns-then-payload-gt-PLACE_SIZE : goal.returns-then-payload-gt-PLACE_SIZE
returns-then-payload-gt-PLACE_SIZE c =
    let a = c.args in
    rw (way_12 a.t.now a.store.now a.a a.payload.now (length a.out.now) c.if-store-lt-STORE_SIZE.false c.if-payload-gt-PLACE_SIZE.true) (record { answers = refl; keeps = refl; stores = refl; puts = refl })

pub returns-then-found-lt-PLACES : goal.returns-then-found-lt-PLACES
returns-then-found-lt-PLACES c =
    let a = c.args in
    rw (there a.t.now c.requires a.store.now a.out.now a.a a.payload.now c.look_up-found.result c.look_up-found.ensures c.if-store-lt-STORE_SIZE.false c.if-payload-gt-PLACE_SIZE.false c.if-found-lt-PLACES.true) (record { answers = refl; keeps = refl; stores = refl; puts = refl })

pub compare-last-requires : goal.compare-last-requires
compare-last-requires c =
    let a = c.args in
    row_in a.t.now c.requires a.store.now a.out.now a.a a.payload.now c.look_up-found.result c.look_up-found.ensures

pub finish-requires : goal.finish-requires
finish-requires c =
    let a = c.args in
    (omega (arith, row_in a.t.now c.requires a.store.now a.out.now a.a a.payload.now c.look_up-found.result c.look_up-found.ensures, ap (λ (l : Compared). l.row) c.compare-last.ensures), (sound c.requires).small, c.if-store-lt-STORE_SIZE.false, c.if-payload-gt-PLACE_SIZE.false)

pub returns-in_err-answer : goal.returns-in_err-answer
returns-in_err-answer c =
    let a = c.args in
    let p = err_from_is_err_and c.from_residual.result c.from_residual.ensures.1 in
    rw (p.1, p.2) (joined a.t.now c.requires a.store.now a.out.now a.a a.payload.now c.look_up-found.result c.look_up-found.ensures c.if-store-lt-STORE_SIZE.false c.if-payload-gt-PLACE_SIZE.false c.if-found-lt-PLACES.false (number_byte a.a _ c.well_formed.1.1.1.0) c.if-a.true c.compare-last.result c.compare-last.ensures (Err c.in_err-answer.field-0.0) _ c.in_err-answer.ensures _ refl)

pub returns-then-a : goal.returns-then-a
returns-then-a c =
    let a = c.args in
    joined a.t.now c.requires a.store.now a.out.now a.a a.payload.now c.look_up-found.result c.look_up-found.ensures c.if-store-lt-STORE_SIZE.false c.if-payload-gt-PLACE_SIZE.false c.if-found-lt-PLACES.false (number_byte a.a _ c.well_formed.1.1.1.0) c.if-a.true c.compare-last.result c.compare-last.ensures (Ok c.in_ok-answer.answer) _ c.in_ok-answer.ensures _ (c.drop_key.ensures ∙ ap (λ (l : LookedUp). dropped_key_lem a.t.now l.row) c.look_up-found.ensures)

pub returns-in_err-check_room : goal.returns-in_err-check_room
returns-in_err-check_room c =
    let a = c.args in
    let p = err_from_is_err_and c.from_residual-in_err-check_room.result c.from_residual-in_err-check_room.ensures.1 in
    rw (p.1, p.2, keeps a.t.now c.requires a.store.now a.out.now a.a a.payload.now c.look_up-found.result c.look_up-found.ensures c.if-store-lt-STORE_SIZE.false c.if-payload-gt-PLACE_SIZE.false c.if-found-lt-PLACES.false c.if-a.false c.totals_at-held.result c.totals_at-held.ensures (Err c.in_err-check_room.field-0.0) c.in_err-check_room.ensures) (record { answers = refl; keeps = refl; stores = refl; puts = refl })

pub overflow_mul-found : goal.overflow_mul-found
overflow_mul-found c =
    let a = c.args in
    let has = room a.t.now c.requires a.store.now a.out.now a.a a.payload.now c.look_up-found.result c.look_up-found.ensures c.if-store-lt-STORE_SIZE.false c.if-payload-gt-PLACE_SIZE.false c.if-found-lt-PLACES.false c.if-a.false c.totals_at-held.result c.totals_at-held.ensures c.in_ok-check_room.ensures in
    omega (arith, has.2)

pub copy-requires : goal.copy-requires
copy-requires c =
    let a = c.args in
    let has = room a.t.now c.requires a.store.now a.out.now a.a a.payload.now c.look_up-found.result c.look_up-found.ensures c.if-store-lt-STORE_SIZE.false c.if-payload-gt-PLACE_SIZE.false c.if-found-lt-PLACES.false c.if-a.false c.totals_at-held.result c.totals_at-held.ensures c.in_ok-check_room.ensures in
    omega (arith, has.0, has.1, has.2)

pub with_fragment-requires : goal.with_fragment-requires
with_fragment-requires c =
    let a = c.args in
    let has = room a.t.now c.requires a.store.now a.out.now a.a a.payload.now c.look_up-found.result c.look_up-found.ensures c.if-store-lt-STORE_SIZE.false c.if-payload-gt-PLACE_SIZE.false c.if-found-lt-PLACES.false c.if-a.false c.totals_at-held.result c.totals_at-held.ensures c.in_ok-check_room.ensures in
    (has.2, has.3, has.4, has.5, has.1)

pub returns : goal.returns
returns c =
    let a = c.args in
    kept a.t.now c.requires a.store.now a.out.now a.a a.payload.now c.look_up-found.result c.look_up-found.ensures c.if-store-lt-STORE_SIZE.false c.if-payload-gt-PLACE_SIZE.false c.if-found-lt-PLACES.false c.if-a.false c.totals_at-held.result c.totals_at-held.ensures c.in_ok-check_room.ensures _ c.with_fragment.ensures _ c.copy.ensures
