-- When each answer is given to an event.
use mathlib.Core.Path.{◌≡◌, refl, sym, ap, ◌∙◌, subst}
use mathlib.Core.Bool.{Bool, true, false, cond, ◌&&◌, false≢true}
use mathlib.Core.List.{[]}
use Prim.Native.Nat.{ℕ}
use native.Mathlib.Omega.{arith}
use lib.Dec.{eqb}
use borrow.Author.Tests.{eqb-true, eqb-false, eq-eqb, ne_eqb}
use Rattle.numbers.specs.Numbers.{gives, refuses, is_given}
use Rattle.numbers.proofs.Answers.{given}
use Rattle.numbers.proofs.Firm.{never}
use Rattle.stations.specs.declared.Heard.{Heard}
use Rattle.stations.specs.Addresses.{address_of}
use Rattle.stations.specs.Whereabouts.{Whereabouts, nowhere, at, Event, is_at, is_nowhere, heard_of_join, heard_of, answer_at}
use Rattle.stations.specs.Rows.{Stations, where_of, all_held, answer_to, after_leave, table_after}
use Rattle.stations.specs.Claims.{HeardWhen, AnsweredWhen}

module _ (e : Event) where
  join_when : (was : Whereabouts) → e.is_join ≡ true → HeardWhen e was (heard_of_join e.point was)
  join_when nowhere q = (q, refl)
  join_when (at p) q = by_point (eqb p e.point) refl
    where
      by_point : (b : Bool) → eqb p e.point ≡ b → HeardWhen e (at p) (cond b Heard.There (Heard.Moved (address_of p)))
      by_point true f = (q, ap at (eqb-true p e.point f))
      by_point false f = (q, record { came_from = p; there = refl; elsewhere = eqb-false p e.point f; shown_as = refl })

  nowhere_at : (point : ℕ) → nowhere ≡ at point → ⊥
  nowhere_at point h = let z : ◌≡◌ {A = ℕ} 0 1 = cc in omega arith

  not_there : (was : Whereabouts) → (was ≡ at e.point → ⊥) → is_at e.point was ≡ false
  not_there nowhere ne = refl
  not_there (at p) ne = ne_eqb p e.point (λ q. ne (ap at q))

  leave_when : (was : Whereabouts) → e.is_join ≡ false → HeardWhen e was (cond (is_at e.point was) Heard.Removed Heard.Stale)
  leave_when nowhere q = (q, nowhere_at e.point)
  leave_when (at p) q = by_point (eqb p e.point) refl
    where
      by_point : (b : Bool) → eqb p e.point ≡ b → HeardWhen e (at p) (cond b Heard.Removed Heard.Stale)
      by_point true f = (q, ap at (eqb-true p e.point f))
      by_point false f = (q, λ h. eqb-false p e.point f (let same : p ≡ e.point = cc in same))

  heard_when : (was : Whereabouts) → HeardWhen e was (heard_of e was)
  heard_when was = by_state e.is_join refl
    where
      by_state : (b : Bool) → e.is_join ≡ b → HeardWhen e was (cond b (heard_of_join e.point was) (cond (is_at e.point was) Heard.Removed Heard.Stale))
      by_state true q = join_when was q
      by_state false q = leave_when was q

  -- the way back
  when_heard : (was : Whereabouts) (h : Heard) → HeardWhen e was h → heard_of e was ≡ h
  when_heard was Heard.New w = rw (w.0, w.1)
  when_heard was (Heard.Moved from) w = rw (w.0, w.1.there, ne_eqb w.1.came_from e.point w.1.elsewhere, w.1.shown_as)
  when_heard was Heard.There w = rw (w.0, w.1, eq-eqb e.point e.point refl)
  when_heard was Heard.Removed w = rw (w.0, w.1, eq-eqb e.point e.point refl)
  when_heard was Heard.Stale w = rw (w.0, not_there was w.1)

  -- what is answered is a refusal, or what is heard
  answer_only : (full : Bool) (was : Whereabouts) (h : Heard) → answer_at full e was ≡ gives h → heard_of e was ≡ h
  answer_only full was h q = by_test (e.is_join && (is_nowhere was && full)) q
    where
      by_test : (b : Bool) → cond b (refuses 17 []) (gives (heard_of e was)) ≡ gives h → heard_of e was ≡ h
      by_test true q = never _ _ _ (sym q)
      by_test false q = given _ _ q

  answer_if : (full : Bool) (was : Whereabouts) → is_given (answer_at full e was) ≡ true → answer_at full e was ≡ gives (heard_of e was)
  answer_if full was q = by_test (e.is_join && (is_nowhere was && full)) q
    where
      by_test : (b : Bool) → is_given {A = Heard} (cond b (refuses 17 []) (gives (heard_of e was))) ≡ true → cond b (refuses 17 []) (gives (heard_of e was)) ≡ gives (heard_of e was)
      by_test true q = absurd (false≢true q)
      by_test false q = refl

pub answered_when : (t : Stations) (e : Event) (h : Heard) → AnsweredWhen t e h
answered_when t e h =
    let was = where_of t e.station in
    record {
      only = λ q. subst (HeardWhen e was) (answer_only e (all_held t) was h q) (heard_when e was);
      if = λ takes w. answer_if e (all_held t) was takes ∙ ap (λ (x : Heard). gives x) (when_heard e was h w);
    }

-- a stale leave alters nothing
pub stale_unaltered : (t : Stations) (e : Event) → answer_to t e ≡ gives Heard.Stale → table_after t e ≡ t
unfolding after_leave
stale_unaltered t e q = let w = (answered_when t e Heard.Stale).only q in rw (w.0, not_there e (where_of t e.station) w.1)
