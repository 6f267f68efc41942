-- Whatever is asked of a table that the calls made happens: push and sweep each have an outcome that the contract allows.
use mathlib.Core.Path.{◌≡◌, refl, sym, ap, ◌∙◌, subst}
use mathlib.Core.List.{List, [], ◌∷◌, ◌++◌, append-nil}
use mathlib.Core.Bool.{Bool, true, false}
use Prim.Native.Nat.{ℕ, ◌≤◌}
use native.Mathlib.Omega.{arith}
use lib.Dec.{leb}
use lib.ListN.{length, take, drop, drop_of_length-le}
use lib.Seq.{length-take-le, take_all, take_at, drop_at}
use borrow.Author.Tests.{leb-true, leb-false}
use Rattle.std.specs.Prelude.{Result, Ok, Err}
use Rattle.numbers.specs.Numbers.{Answer, gives}
use Rattle.numbers.specs.declared.Refusal.{Refusal}
use Rattle.pushing.specs.declared.Pushed.{Pushed}
use Rattle.pushing.specs.declared.Pushed.TheVariants.{WaitingForMoreFragments, DuplicatedFragment, InconsistentMetadata, MissingFragments, MissingLastFragment, Single, Joined}
use Rattle.pushing.specs.Push.{PushAnswer, waiting, duplicated, inconsistent, missing, missing_last, single, joined, Way, pushed_of, Goes, store_by, output_by, answer_by}
use Rattle.pushing.proofs.Sound.{sound}
use Rattle.pushing.proofs.Ways.{went}
use Rattle.sweeping.specs.Sweep.{swept}
use Rattle.machines.specs.Happened.{Happened, no_call, next_call, steps_of}
use Rattle.orders.specs.Runs.{State, Push, Call, after, part, way_of, push, holding, start}
use Rattle.orders.specs.Happened.{TableAsked, push_asked, sweep_asked, TableGot, push_got, sweep_got, TableCall, PushMeets, table_meets, table_contract, call_of, calls_of, was_left, is_about}
use Rattle.machines.specs.Machine.{those}
use Rattle.keys.specs.Keys.{Origin}
use Rattle.orders.specs.Claims.{OwnRun}
use Rattle.orders.proofs.Telling.{own_way, by_own_way}
use Rattle.orders.proofs.Pushing.{Good, Turn, as_told, full, turn, same_answer}
use Rattle.orders.proofs.Effects.{front_same}
use Rattle.orders.proofs.Locality.{good_after, good_start}

-- an answer of the code that says this
abbrev Said : Answer PushAnswer → Type 0
Said a = (answer : Result Pushed Refusal) × (pushed_of answer ≡ a)

given_said : (h : PushAnswer) → Said (gives h)
given_said waiting = (Ok WaitingForMoreFragments, refl)
given_said duplicated = (Ok DuplicatedFragment, refl)
given_said inconsistent = (Ok InconsistentMetadata, refl)
given_said missing = (Ok MissingFragments, refl)
given_said missing_last = (Ok MissingLastFragment, refl)
given_said (single n) = (Ok (Single n), refl)
given_said (joined n) = (Ok (Joined n), refl)

-- a front that is replaced by one as long
front_replaced : (d e : List ℕ) (n : ℕ) → length e ≡ length (take n d) → (take n (e ++ drop n d) ≡ e) × (drop n (e ++ drop n d) ≡ drop n d)
front_replaced d e n l = by_order (leb n (length d)) refl
  where
    by_order : (b : Bool) → leb n (length d) ≡ b → (take n (e ++ drop n d) ≡ e) × (drop n (e ++ drop n d) ≡ drop n d)
    by_order true h = let is = l ∙ length-take-le n d (leb-true _ _ h) in (take_at e (drop n d) n is, drop_at e (drop n d) n is)
    by_order false h =
        let over = leb-false n (length d) h in
        let short : length e ≤ n = omega (arith, l, ap length (take_all n d (omega arith))) in
        rw (drop_of_length-le d {i = n} (omega arith), append-nil e) (take_all n e short, drop_of_length-le e {i = n} short)

module _ (long : ℕ) (z : State) (g : Good long z) where
  push_said : (p : Push) → Said (answer_by (way_of z p))
  push_said p = by_turn (turn long z p g)
    where
      told : Said (answer_by (own_way long (holding p.arrival.key z) p))
      told = by_own_way long (holding p.arrival.key z) p (λ (w : Way). Said (answer_by w)) (λ x e. (Err x, refl)) (Ok DuplicatedFragment, refl) (λ h bytes e. given_said h) (λ e. (Ok WaitingForMoreFragments, refl))

      by_turn : Turn long z p → Said (answer_by (way_of z p))
      by_turn (as_told e) = subst Said (sym (ap answer_by e) ∙ same_answer (way_of z p)) told
      by_turn (full r for e own l f) = (Err r, sym (ap answer_by e))

  push_meets : (p : Push) (out : List ℕ) → length out ≡ p.room → PushMeets z p out (push_said p).0 (output_by (way_of z p) out) (after z (push p))
  push_meets p out room =
      let back = front_replaced z.store (store_by (way_of z p) (part z p) p.payload) p.lent (front_same z p (sound g.made) (went z.table (part z p) p.arrival p.payload p.room)) in
      let goes : Goes (way_of z p) z.table (part z p) out p.arrival p.payload (push_said p).0 (after z (push p)).table (part (after z (push p)) p) (output_by (way_of z p) out)
      = record { answers = (push_said p).1; keeps = refl; stores = back.0; puts = refl } in
      record { goes = rw room goes; rest = back.1 }

  meets : (a : TableAsked) → (got : TableGot) × table_meets z a got (after z (call_of a))
  meets (push_asked o p key out room) = (push_got (push_said p).0 (output_by (way_of z p) out), push_meets p out room)
  meets (sweep_asked time) = (sweep_got (swept z.table time).dropped, (refl, refl))

-- what some calls asked can be asked again
again : (long : ℕ) (calls : List TableCall) (z : State) → Good long z → (calls' : List TableCall) × (end : State) × Happened table_contract z calls' end × (calls_of calls' ≡ calls_of calls)
unfolding steps_of
again long [] z g = ([], z, no_call, refl)
again long (c ∷ calls) z g =
    let e = call_of c.asked in
    let m = meets long z g c.asked in
    let rest = again long calls (after z e) (good_after long z e g) in
    (record { was = z; asked = c.asked; got = m.0; became = after z e } ∷ rest.0, rest.1, next_call m.1 rest.2, ap (λ (l : List Call). e ∷ l) rest.3)

pub own_run : (out : ℕ → Bool) (store : List ℕ) (calls : List TableCall) (o : Origin) → OwnRun out store calls o
own_run out store calls o =
    let run = again (length store) (those (is_about o) (those (was_left out) calls)) (start store) (good_start store) in
    record { alone = run.0; last = run.1; happened = run.2; asked = run.3 }
