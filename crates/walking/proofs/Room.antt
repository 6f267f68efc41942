-- How much room a TLV list needs: each TLV takes at least three bytes.
use mathlib.Core.Path.{◌≡◌, refl, sym, ap, ◌∙◌}
use mathlib.Core.Bool.{Bool, true, false, cond}
use mathlib.Core.List.{List, [], ◌∷◌}
use Prim.Native.Nat.{ℕ, zero, suc, ◌+◌, ◌*◌, ◌-◌, ◌/◌, ◌%◌, ◌<◌, ◌≤◌}
use native.Mathlib.Omega.{arith}
use lib.Dec.{ltb}
use lib.ListN.{length, drop, get_or, length-map, length-append, length-replicate}
use borrow.Author.Tests.{le-ltb}
use Rattle.numbers.specs.Numbers.{Answer, gives, refuses, and_then, mapped}
use Rattle.numbers.proofs.Firm.{never}
use Rattle.framing.specs.Claims.{number_in}
use Rattle.framing.specs.declared.TlvRead.{TlvRead}
use Rattle.framing.specs.Tlv.{read_tlv_lem, declared}
use Rattle.framing.proofs.Reading.{short}
use Rattle.walking.specs.declared.Tlv.{Tlv}
use Rattle.walking.specs.Steps.{ended, Walk, walk_from}
use Rattle.walking.specs.declared.WalkCount.{WalkCount}
use Rattle.walking.specs.Walk.{is_marker_lem, step_by_lem, step_at, walk_of, counted, listed, no_tlv, offset_at}
use Rattle.walking.specs.Pieces.{tlv_in, pieces}
use Rattle.walking.specs.Claims.{Unmarked, short_tlvs, RoomNeeded}
use Rattle.walking.proofs.Chained.{Has, of_walk, the_walk}
use Rattle.walking.proofs.Going.{at_end_lem, onward, final, stopped}
use Rattle.walking.proofs.Pieces.{in_pieces}
use Rattle.walking.proofs.Stepping.{passes, lasts, by_reading}

-- what a walk over n TLVs answers
abbrev overall : ℕ → ℕ → WalkCount
overall n padding = record { count = n; padding = padding }

module _ (p : List ℕ) where
  thirds : {at : ℕ} {ts : List Tlv} {end : Answer ℕ} → Has p at ts end → at ≤ length p → at + 3 * length ts ≤ length p
  thirds (at_end_lem e) h = omega (arith, h)
  thirds (stopped e) h = omega (arith, h)
  thirds (final {at} {t} {to} e) h = let o = lasts p at t to e in omega (arith, o.behind, o.inside)
  thirds (onward {at} {t} {next} {ts} e g) h = let o = passes p at t next e in omega (arith, o.behind, thirds g o.inside)

  at_most : length (walk_of p).items ≤ length p / 3
  at_most = omega (arith, thirds (of_walk p) (omega arith))

  enough : (room : ℕ) → length p / 3 ≤ room → listed room (walk_of p) ≡ counted (walk_of p)
  enough room h = by_end (walk_of p).end
    where
      by_end : (end : Answer ℕ) → and_then {A = WalkCount} {B = WalkCount} (mapped (overall (length (walk_of p).items)) end)
          (λ c. cond (ltb room c.count) (refuses 14 (offset_at (walk_of p).items room ∷ [])) (gives c)) ≡ mapped (overall (length (walk_of p).items)) end
      by_end (gives k) = rw (le-ltb room (length (walk_of p).items) (omega (arith, at_most, h)))
      by_end (refuses n vs) = refl

  -- a walk is refused where a TLV is, by 1 or 2
  by_tests : (x y : Bool) (vs ws : List ℕ) (t : TlvRead) (n : ℕ) (us : List ℕ) → refuses n us ≡ cond x (refuses 1 vs) (cond y (refuses 2 ws) (gives t)) → n < 3
  by_tests true y vs ws t n us e = let i : n ≡ 1 = cc in omega (arith, i)
  by_tests false true vs ws t n us e = let i : n ≡ 2 = cc in omega (arith, i)
  by_tests false false vs ws t n us e = never _ _ _ (sym e)

  cut : (s : List ℕ) (n : ℕ) (us : List ℕ) → refuses n us ≡ read_tlv_lem s → n < 3
  unfolding read_tlv_lem
  cut s n us e =
      by_tests (ltb (length s) 3) (ltb (length s - 3) (declared s)) ((3 - length s) ∷ []) ((declared s - (length s - 3)) ∷ [])
      (record { tlv_type = get_or s 0 0; value_length = declared s; consumed = 3 + declared s }) n us e

  by_fault : (b : Bool) (a : Answer TlvRead) (at n : ℕ) (us : List ℕ) → a ≡ read_tlv_lem (drop at p) → refuses n us ≡ cond b (step_by_lem at a) (gives ended) → n < 3
  by_fault true (gives t) at n us f e = never _ _ _ (sym e)
  by_fault true (refuses m vs) at n us f e = let i : n ≡ m = cc in omega (arith, i, cut (drop at p) m vs f)
  by_fault false a at n us f e = never _ _ _ (sym e)

  at_fault : (at n : ℕ) (us : List ℕ) → refuses n us ≡ step_at p at → n < 3
  unfolding step_at
  at_fault at n us e = by_fault (ltb at (length p)) (read_tlv_lem (drop at p)) at n us refl e

  low : {at : ℕ} {ts : List Tlv} {end : Answer ℕ} → Has p at ts end → number_in end < 3
  low (at_end_lem e) = omega arith
  low (final e) = omega arith
  low (stopped {at} {n} {vs} e) = at_fault at n vs e
  low (onward e g) = low g

  never_14 : number_in (counted (walk_of p)) ≡ 14 → ⊥
  never_14 = by_end (walk_of p).end (low (of_walk p))
    where
      by_end : (end : Answer ℕ) → number_in end < 3 → number_in {A = WalkCount} (mapped (overall (length (walk_of p).items)) end) ≡ 14 → ⊥
      by_end (gives k) l e = omega arith
      by_end (refuses n vs) l e = omega (arith, e, l)

  below_3 : 0 < length p → length p < 3 → walk_of p ≡ record { items = []; end = refuses 1 (0 ∷ (3 - length p) ∷ []) }
  below_3 h l = the_walk p [] (refuses 1 (0 ∷ (3 - length p) ∷ [])) (stopped (by_reading p 0 h (refuses 1 ((3 - length p) ∷ [])) (short p l)))

-- a payload that has as many TLVs as its length allows
abbrev Full : ℕ → ℕ → Type 0
Full k r = counted (walk_of (short_tlvs k r)) ≡ gives (record { count = k + 1; padding = 0 })

one : (r : ℕ) → r < 3 → Full 0 r
unfolding read_tlv_lem step_at walk_from walk_of
one zero h = refl
one (suc zero) h = refl
one (suc (suc zero)) h = refl
one (suc (suc (suc r))) h = absurd (omega arith)

head_whole : walk_of (0x01 ∷ 0x00 ∷ 0x00 ∷ []) ≡ record { items = record { tlv_type = 1; length = 0; offset = 0 } ∷ []; end = gives 0 }
unfolding read_tlv_lem step_at walk_from walk_of
head_whole = refl

head_unmarked : Unmarked (walk_of (0x01 ∷ 0x00 ∷ 0x00 ∷ [])).items
head_unmarked k l = rw head_whole (of_it k (omega (arith, ap (λ (w : Walk Tlv). length w.items) head_whole)))
  where
    of_it : (k : ℕ) → k < 1 → is_marker_lem (get_or (record { tlv_type = 1; length = 0; offset = 0 } ∷ []) k no_tlv) ≡ false
    of_it zero l = refl
    of_it (suc k) l = absurd (omega arith)

counts : (p : List ℕ) (n : ℕ) → counted (walk_of p) ≡ gives (record { count = n; padding = 0 }) → ((walk_of p).end ≡ gives 0) × (length (walk_of p).items ≡ n)
counts p n e = by_end (walk_of p).end e
  where
    by_end : (end : Answer ℕ) → mapped (overall (length (walk_of p).items)) end ≡ gives (overall n 0) → (end ≡ gives 0) × (length (walk_of p).items ≡ n)
    by_end (gives k) e = let i : overall (length (walk_of p).items) k ≡ overall n 0 = cc in (ap (λ (c : WalkCount). gives c.padding) i, ap (λ (c : WalkCount). c.count) i)
    by_end (refuses m vs) e = never _ _ _ (sym e)

full : (k r : ℕ) → r < 3 → Full k r
full zero r h = one r h
full (suc k) r h =
    let c = counts (short_tlvs k r) (k + 1) (full k r h) in
    let f = in_pieces.followed (0x01 ∷ 0x00 ∷ 0x00 ∷ []) (short_tlvs k r) 0 (ap (λ (w : Walk Tlv). w.end) head_whole) head_unmarked c.0 in
    let whole : List ℕ = short_tlvs (suc k) r in
    let n : length (walk_of whole).items ≡ suc k + 1 = omega (
      arith,
      length-map (walk_of whole).items (tlv_in whole),
      ap length f.0,
      length-append (pieces (0x01 ∷ 0x00 ∷ 0x00 ∷ [])) (pieces (short_tlvs k r)),
      length-map (walk_of (0x01 ∷ 0x00 ∷ 0x00 ∷ [])).items (tlv_in (0x01 ∷ 0x00 ∷ 0x00 ∷ [])),
      ap (λ (w : Walk Tlv). length w.items) head_whole,
      length-map (walk_of (short_tlvs k r)).items (tlv_in (short_tlvs k r)),
      c.1,
    ) in
    rw (f.1, n)

long : (k r : ℕ) → length (short_tlvs k r) ≡ 3 * k + 3 + r
long zero r = omega (arith, length-replicate {A = ℕ} r 0x00)
long (suc k) r = omega (arith, long k r)

reached : (n : ℕ) → 3 ≤ n → (length (short_tlvs (n / 3 - 1) (n % 3)) ≡ n) × (counted (walk_of (short_tlvs (n / 3 - 1) (n % 3))) ≡ gives (record { count = n / 3; padding = 0 }))
reached n h =
    let m : n / 3 - 1 + 1 ≡ n / 3 = omega arith in
    (omega (arith, long (n / 3 - 1) (n % 3)), full (n / 3 - 1) (n % 3) (omega arith) ∙ ap (λ (k : ℕ). gives (record { count = k; padding = 0 })) m)

pub room_needed : RoomNeeded
room_needed = record { at_most = at_most; enough = enough; never_14 = never_14; reached = reached; below_3 = below_3 }
