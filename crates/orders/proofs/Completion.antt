-- A message completes when its last fragment comes after all the others (rule D6): each push adds its piece to what the
-- key holds, and the last joins them all.
use mathlib.Core.Path.{◌≡◌, refl, sym, ap, ◌∙◌, subst}
use mathlib.Core.List.{List, []}
use mathlib.Core.Bool.{Bool, true, false, cond, ◌||◌, or-true, or-false}
use Prim.Native.Nat.{ℕ, suc, min, ◌-◌, ◌≤◌}
use native.Mathlib.Omega.{arith}
use lib.Dec.{eqb, ltb}
use lib.ListN.{length}
use lib.Seq.{take-length}
use borrow.Author.Tests.{eqb-true, eqb-false, eq-eqb, ne_eqb, ltb-true, ltb-false, lt-ltb, le-ltb, le-leb}
use Rattle.numbers.specs.Numbers.{gives}
use Rattle.pushing.specs.Joining.{Held, nothing, kept, held_of, is_kept_lem, in_order_lem}
use Rattle.pushing.specs.Push.{Way, keep_at, end, message_way, single, joined, answer_by}
use Rattle.pushing.specs.Show.{start_of}
use Rattle.pushing.proofs.Ways.{last_single, last_joined, start_over}
use Rattle.orders.specs.Runs.{Push, push, pushed, finished_by, Holding, holds_nothing}
use Rattle.orders.specs.Messages.{Message, held_at, whole, Brings, completed}
use Rattle.orders.proofs.Telling.{own_joining, own_way, own_keep, own_last, by_own_lem, with_new, tell, answer}
use Rattle.orders.proofs.Joined.{joins}

-- the numbers that are there, and what a key holds of the message with them
abbrev pub Has : Message → (ℕ → Bool) → Holding → Type 0
Has m done v = (k : ℕ) → v.fragments k ≡ cond (done k) (kept (held_at m k)) nothing

module _ (m : Message) (long : ℕ) (store : 47744 ≤ long) where
  module _ (k : ℕ) (p : Push) (b : Brings m k p) (v : Holding) (new : v.fragments k ≡ nothing) where
    h₁ : 47744 ≤ min p.lent long
    h₁ = omega (arith, b.lent)

    h₂ : length p.payload ≤ 1492
    h₂ = subst (λ (l : List ℕ). length l ≤ 1492) (sym (ap (λ (h : Held). h.payload) b.fragment)) (m.small k)

    h₃ : is_kept_lem (v.fragments p.arrival.fragment.number) ≡ false
    h₃ = ap (λ (n : ℕ). is_kept_lem (v.fragments n)) b.number ∙ ap is_kept_lem new

    -- one that is not the last waits, and is added
    pub waits : (k ≡ m.final → ⊥) → own_way long v p ≡ keep_at 0
    waits ne = own_keep long v p h₁ h₂ h₃ (ap (λ (h : Held). h.last) b.fragment ∙ ne_eqb k m.final ne)

    pub added : (done : ℕ → Bool) → Has m done v → Has m (λ j. done j || eqb k j) (with_new v p)
    added done has j = by_number (eqb j k) refl
      where
        by_number : (c : Bool) → eqb j k ≡ c → cond (eqb j p.arrival.fragment.number) (kept (held_of p.arrival.fragment p.payload)) (v.fragments j) ≡ cond (done j || eqb k j) (kept (held_at m j)) nothing
        by_number true e =
            let same : j ≡ k = eqb-true j k e in
            rw (eq-eqb j p.arrival.fragment.number (same ∙ sym b.number), eq-eqb k j (sym same), or-true (done j))
            (ap kept (b.fragment ∙ ap (held_at m) (sym same)))
        by_number false e =
            let ne = eqb-false j k e in
            rw (ne_eqb j p.arrival.fragment.number (λ q. ne (q ∙ b.number)), ne_eqb k j (λ q. ne (sym q)), or-false (done j)) (has j)

  -- the last joins them all
  module _ (p : Push) (b : Brings m m.final p) (v : Holding) (has : Has m (λ k. ltb k m.final) v) where
    not_yet : v.fragments m.final ≡ nothing
    not_yet = has m.final ∙ ap (λ (c : Bool). cond c (kept (held_at m m.final)) nothing) (le-ltb m.final m.final (omega arith))

    all : Has m (λ j. ltb j m.final || eqb m.final j) (with_new v p)
    all = added m.final p b v not_yet (λ k. ltb k m.final) has

    up_to : (j : ℕ) → (ltb j m.final || eqb m.final j) ≡ ltb j (suc m.final)
    up_to j = by_order (ltb j m.final) refl (eqb m.final j) refl
      where
        by_order : (x : Bool) → ltb j m.final ≡ x → (y : Bool) → eqb m.final j ≡ y → (x || y) ≡ ltb j (suc m.final)
        by_order true e y f = sym (lt-ltb j (suc m.final) (omega (arith, ltb-true j m.final e)))
        by_order false e true f = sym (lt-ltb j (suc m.final) (omega (arith, eqb-true m.final j f)))
        by_order false e false f = sym (le-ltb j (suc m.final) (omega (arith, ltb-false j m.final e, eqb-false m.final j f)))

    joins_all : own_joining v p ≡ message_way (suc m.final) (whole m) p.room
    joins_all =
        joins (held_of p.arrival.fragment p.payload) (with_new v p).fragments (held_at m) (suc m.final) (omega (arith, m.few))
        (λ k l. all k ∙ ap (λ (c : Bool). cond c (kept (held_at m k)) nothing) (up_to k ∙ lt-ltb k (suc m.final) l))
        (λ k l. all k ∙ ap (λ (c : Bool). cond c (kept (held_at m k)) nothing) (up_to k ∙ le-ltb k (suc m.final) l))
        (λ k l. (sym (ap (λ (h : Held). h.version) b.fragment), sym (ap (λ (h : Held). h.message_type) b.fragment)))
        (omega arith) (ap (λ (k : ℕ). eqb k m.final) (last_is m.final) ∙ eq-eqb m.final m.final refl) p.room
      where
        last_is : (n : ℕ) → suc n - 1 ≡ n
        last_is n = omega arith

    goes : own_way long v p ≡ message_way (suc m.final) (whole m) p.room
    goes = own_last long v p (h₁ m.final p b v not_yet) (h₂ m.final p b v not_yet) (h₃ m.final p b v not_yet) (ap (λ (h : Held). h.last) b.fragment ∙ eq-eqb m.final m.final refl) ∙ joins_all

    -- alone it is the payload itself
    only : m.final ≡ 0 → p.payload ≡ whole m
    unfolding in_order_lem
    only e = ap (λ (h : Held). h.payload) b.fragment ∙ ap m.piece e ∙ ap (in_order_lem m.piece) (ap suc (sym e))

    pub completes_as : (1 ≤ m.final → length (whole m) ≤ p.room) → (answer long v (push p) ≡ pushed (gives (completed m)) (whole m)) × (tell long v (push p) ≡ holds_nothing)
    completes_as room = by_count (eqb m.final 0) refl
      where
        by_count : (c : Bool) → eqb m.final 0 ≡ c → (answer long v (push p) ≡ pushed (gives (cond c (single (length (whole m))) (joined (length (whole m))))) (whole m)) × (tell long v (push p) ≡ holds_nothing)
        by_count true e =
            let is : own_way long v p ≡ end (single (length (whole m))) [] = goes ∙ last_single (suc m.final) (whole m) p.room (omega (arith, eqb-true m.final 0 e)) in
            let same = only (eqb-true m.final 0 e) in
            let bytes : start_of (length (whole m)) p.payload ≡ whole m = ap (start_of (length (whole m))) same ∙ rw (le-leb (length (whole m)) (length (whole m)) (omega arith)) (take-length (whole m)) in (
              ap (λ (w : Way). pushed (answer_by w) (finished_by w p.payload)) is ∙ ap (pushed (gives (single (length (whole m))))) bytes,
              ap (λ (w : Way). by_own_lem w v p) is,
            )
        by_count false e =
            let some : 1 ≤ m.final = omega (arith, eqb-false m.final 0 e) in
            let is : own_way long v p ≡ end (joined (length (whole m))) (whole m) = goes ∙ last_joined (suc m.final) (whole m) p.room (omega arith) (room some) in
            (ap (λ (w : Way). pushed (answer_by w) (finished_by w p.payload)) is ∙ ap (pushed (gives (joined (length (whole m))))) (start_over (whole m) []), ap (λ (w : Way). by_own_lem w v p) is)
