-- A table in which one row was written: where each station is in it.
use mathlib.Core.Path.{◌≡◌, refl, sym, ap, ◌∙◌}
use mathlib.Core.Bool.{Bool, true, false}
use Prim.Native.Nat.{ℕ, ◌+◌, ◌<◌, ◌≤◌}
use native.Mathlib.Omega.{arith}
use lib.Dec.{eqb, ltb}
use lib.ListN.{length, get_or, set, length-set}
use lib.Seq.{get_or-set_same, get_or-set_other}
use borrow.Author.Tests.{ltb-true, ltb-false, eqb-true, eqb-false, eq-eqb, ne_eqb}
use Rattle.searching.proofs.Search.{lowest_holds, lowest_before, lowest_is, lowest_none, lowest_same}
use Rattle.stations.specs.Whereabouts.{nowhere, at}
use Rattle.stations.specs.Rows.{Stations, point_at, row_with_lem, with_row, where_of}
use Rattle.stations.proofs.Ways.{known_place, unknown_place}

-- what the calls keep: both lists have their length, no code but 0 stands twice, and a free row has no access point
pub record Kept (t : Stations) : Type 0 where
  pub long : length t ≡ 256
  pub once : (i j : ℕ) → i < 128 → j < 128 → get_or t i 0 ≡ get_or t j 0 → (get_or t i 0 ≡ 0 → ⊥) → i ≡ j
  pub bare : (i : ℕ) → i < 128 → get_or t i 0 ≡ 0 → point_at t i ≡ 0

-- the row that is found has the code, and where none is found no row has it
pub has_mark : (t : Stations) (mark : ℕ) → row_with_lem t mark < 128 → get_or t (row_with_lem t mark) 0 ≡ mark
has_mark t mark h = eqb-true _ _ (lowest_holds (λ row. eqb (get_or t row 0) mark) 128 h)

pub no_mark : (t : Stations) (mark : ℕ) → 128 ≤ row_with_lem t mark → (i : ℕ) → i < 128 → get_or t i 0 ≡ mark → ⊥
no_mark t mark h i l = eqb-false _ _ (lowest_before (λ row. eqb (get_or t row 0) mark) 128 i (omega arith))

-- row r now has the code c and the access point p, and all others are as they were
pub record Written (t t' : Stations) (r c p : ℕ) : Type 0 where
  pub within : r < 128
  pub long : length t' ≡ length t
  pub mark : get_or t' r 0 ≡ c
  pub point : point_at t' r ≡ p
  pub marks : (i : ℕ) → i < 128 → (i ≡ r → ⊥) → get_or t' i 0 ≡ get_or t i 0
  pub points : (i : ℕ) → i < 128 → (i ≡ r → ⊥) → point_at t' i ≡ point_at t i

pub row_written : (t : Stations) (r c p : ℕ) → length t ≡ 256 → r < 128 → Written t (with_row t r c p) r c p
row_written t r c p long h = record {
  within = h;
  long = length-set (set t r c) (128 + r) p ∙ length-set t r c;
  mark = get_or-set_other (set t r c) (128 + r) r p 0 (λ e. absurd (omega arith)) ∙ get_or-set_same t r c 0 (omega arith);
  point = get_or-set_same (set t r c) (128 + r) p 0 (omega (arith, length-set t r c));
  marks = λ i l ne. get_or-set_other (set t r c) (128 + r) i p 0 (λ e. absurd (omega arith)) ∙ get_or-set_other t r i c 0 ne;
  points = λ i l ne. get_or-set_other (set t r c) (128 + r) (128 + i) p 0 (λ e. ne (omega arith)) ∙ get_or-set_other t r (128 + i) c 0 (λ e. absurd (omega arith));
}

pub point_written : (t : Stations) (r p : ℕ) → length t ≡ 256 → r < 128 → Written t (set t (128 + r) p) r (get_or t r 0) p
point_written t r p long h = record {
  within = h;
  long = length-set t (128 + r) p;
  mark = get_or-set_other t (128 + r) r p 0 (λ e. absurd (omega arith));
  point = get_or-set_same t (128 + r) p 0 (omega arith);
  marks = λ i l ne. get_or-set_other t (128 + r) i p 0 (λ e. absurd (omega arith));
  points = λ i l ne. get_or-set_other t (128 + r) (128 + i) p 0 (λ e. ne (omega arith));
}

module _ (t t' : Stations) (r c p : ℕ) (w : Written t t' r c p) where
  -- a station that had not the row and has it not now is where it was
  module _ (station : ℕ) (was : get_or t r 0 ≡ station + 1 → ⊥) (is : c ≡ station + 1 → ⊥) where
    same_test : (i : ℕ) → i < 128 → (b : Bool) → eqb i r ≡ b → eqb (get_or t' i 0) (station + 1) ≡ eqb (get_or t i 0) (station + 1)
    same_test i l true e =
        let same : i ≡ r = eqb-true i r e in
        ne_eqb _ _ (λ q. is (sym w.mark ∙ ap (λ (k : ℕ). get_or t' k 0) (sym same) ∙ q)) ∙ sym (ne_eqb _ _ (λ q. was (ap (λ (k : ℕ). get_or t k 0) (sym same) ∙ q)))
    same_test i l false e = ap (λ (x : ℕ). eqb x (station + 1)) (w.marks i l (eqb-false i r e))

    same_row : row_with_lem t' (station + 1) ≡ row_with_lem t (station + 1)
    same_row = lowest_same (λ i. eqb (get_or t' i 0) (station + 1)) (λ i. eqb (get_or t i 0) (station + 1)) 128 (λ i l. same_test i l (eqb i r) refl)

    pub stays : where_of t' station ≡ where_of t station
    stays = by_end (ltb (row_with_lem t (station + 1)) 128) refl
      where
        by_end : (b : Bool) → ltb (row_with_lem t (station + 1)) 128 ≡ b → where_of t' station ≡ where_of t station
        by_end true e =
            let n = row_with_lem t (station + 1) in
            let l : n < 128 = ltb-true _ _ e in
            known_place t' station n (sym same_row) l ∙ ap at (w.points n l (λ q. was (ap (λ (k : ℕ). get_or t k 0) (sym q) ∙ has_mark t (station + 1) l))) ∙ sym (known_place t station n refl l)
        by_end false e =
            let l : 128 ≤ row_with_lem t (station + 1) = ltb-false _ _ e in
            unknown_place t' station (row_with_lem t (station + 1)) (sym same_row) l ∙ sym (unknown_place t station (row_with_lem t (station + 1)) refl l)

  -- no other row has the station
  abbrev pub Alone : ℕ → Type 0
  Alone mark = (i : ℕ) → i < 128 → (i ≡ r → ⊥) → get_or t i 0 ≡ mark → ⊥

  pub goes : (station : ℕ) → c ≡ station + 1 → Alone (station + 1) → where_of t' station ≡ at p
  goes station is none = known_place t' station r here w.within ∙ ap at w.point
    where
      here : r ≡ row_with_lem t' (station + 1)
      here = lowest_is (λ i. eqb (get_or t' i 0) (station + 1)) 128 r w.within (eq-eqb _ _ (w.mark ∙ is))
          (λ j l. ne_eqb _ _ (λ q. none j (omega (arith, w.within)) (λ e. absurd (omega arith)) (sym (w.marks j (omega (arith, w.within)) (λ e. absurd (omega arith))) ∙ q)))

  pub gone : (station : ℕ) → (c ≡ station + 1 → ⊥) → Alone (station + 1) → where_of t' station ≡ nowhere
  gone station is none = unknown_place t' station 128 here (omega arith)
    where
      not_there : (j : ℕ) → j < 128 → (b : Bool) → eqb j r ≡ b → eqb (get_or t' j 0) (station + 1) ≡ false
      not_there j l true e = ne_eqb _ _ (λ q. is (sym w.mark ∙ ap (λ (k : ℕ). get_or t' k 0) (sym (eqb-true j r e)) ∙ q))
      not_there j l false e = ne_eqb _ _ (λ q. none j l (eqb-false j r e) (sym (w.marks j l (eqb-false j r e)) ∙ q))

      here : 128 ≡ row_with_lem t' (station + 1)
      here = lowest_none (λ i. eqb (get_or t' i 0) (station + 1)) 128 (λ j l. not_there j l (eqb j r) refl)

  -- the table is kept, where no other row has the code, unless it is 0, and a row that is freed has no access point
  pub keeps : Kept t → ((c ≡ 0 → ⊥) → Alone c) → (c ≡ 0 → p ≡ 0) → Kept t'
  keeps k none clean = record { long = w.long ∙ k.long; once = once; bare = λ i l e. bare i l e (eqb i r) refl }
    where
      bare : (i : ℕ) → i < 128 → get_or t' i 0 ≡ 0 → (b : Bool) → eqb i r ≡ b → point_at t' i ≡ 0
      bare i l e true q =
          let same : i ≡ r = eqb-true i r q in
          ap (point_at t') same ∙ w.point ∙ clean (sym w.mark ∙ ap (λ (n : ℕ). get_or t' n 0) (sym same) ∙ e)
      bare i l e false q = let ne = eqb-false i r q in w.points i l ne ∙ k.bare i l (sym (w.marks i l ne) ∙ e)

      by_rows : (i j : ℕ) → i < 128 → j < 128 → get_or t' i 0 ≡ get_or t' j 0 → (get_or t' i 0 ≡ 0 → ⊥) → (a : Bool) → eqb i r ≡ a → (b : Bool) → eqb j r ≡ b → i ≡ j
      by_rows i j l m e used true q true q' = eqb-true i r q ∙ sym (eqb-true j r q')
      by_rows i j l m e used true q false q' =
          let ne = eqb-false j r q' in
          let is : get_or t' i 0 ≡ c = ap (λ (n : ℕ). get_or t' n 0) (eqb-true i r q) ∙ w.mark in
          absurd (none (λ z. used (is ∙ z)) j m ne (sym (w.marks j m ne) ∙ sym e ∙ is))
      by_rows i j l m e used false q true q' =
          let ne = eqb-false i r q in
          let is : get_or t' j 0 ≡ c = ap (λ (n : ℕ). get_or t' n 0) (eqb-true j r q') ∙ w.mark in
          absurd (none (λ z. used (e ∙ is ∙ z)) i l ne (sym (w.marks i l ne) ∙ e ∙ is))
      by_rows i j l m e used false q false q' =
          let was = w.marks i l (eqb-false i r q) in
          k.once i j l m (sym was ∙ e ∙ w.marks j m (eqb-false j r q')) (λ z. used (was ∙ z))

      once : (i j : ℕ) → i < 128 → j < 128 → get_or t' i 0 ≡ get_or t' j 0 → (get_or t' i 0 ≡ 0 → ⊥) → i ≡ j
      once i j l m e used = by_rows i j l m e used (eqb i r) refl (eqb j r) refl
