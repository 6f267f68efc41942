-- One station's events: where they lead is where the latest join named, if no later leave did.
use mathlib.Core.Path.{◌≡◌, refl, sym, ap, ◌∙◌}
use mathlib.Core.Bool.{Bool, true, false, cond, true≢false}
use mathlib.Core.List.{List, [], ◌∷◌, ◌++◌}
use Prim.Native.Nat.{ℕ}
use native.Mathlib.Omega.{arith}
use lib.Dec.{eqb}
use borrow.Author.Tests.{eqb-false, eq-eqb, ne_eqb}
use Rattle.machines.specs.Machine.{those}
use Rattle.stations.specs.Whereabouts.{Whereabouts, nowhere, at, Event, is_at, where_after}
use Rattle.stations.specs.Runs.{LatestJoin}

unfoldable pub led : Whereabouts → List Event → Whereabouts
led p [] = p
led p (e ∷ es) = led (where_after e p) es

module _ (point : ℕ) where
  abbrev named : Event → Bool
  named e = eqb e.point point

  -- no join, and no leave that named the access point
  record Quiet (es : List Event) : Type 0 where
    pub no_join : those (λ e. e.is_join) es ≡ []
    pub no_leave : those named es ≡ []

  -- either the latest join did it, or the station was there all the time
  data Because (p : Whereabouts) (es : List Event) : Type 0 where
    joined_it : LatestJoin point es → Because p es
    was_there : p ≡ at point → Quiet es → Because p es

  nothing_left : {X : Type 0} (e : Event) (es : List Event) → e ∷ es ≡ [] → X
  nothing_left e es h = let z : ◌≡◌ {A = ℕ} 0 1 = cc in absurd (omega arith)

  -- the first event of quiet ones is a leave of another access point
  first_quiet : (e : Event) (es : List Event) → Quiet (e ∷ es) → (e.is_join ≡ false) × (named e ≡ false) × Quiet es
  unfolding those
  first_quiet e es q = by_tests e.is_join (named e) refl refl q.no_join q.no_leave
    where
      by_tests : (a b : Bool) → e.is_join ≡ a → named e ≡ b → cond a (e ∷ those (λ x. x.is_join) es) (those (λ x. x.is_join) es) ≡ [] → cond b (e ∷ those named es) (those named es) ≡ []
          → (e.is_join ≡ false) × (named e ≡ false) × Quiet es
      by_tests true b f g h h' = nothing_left e _ h
      by_tests false true f g h h' = nothing_left e _ h'
      by_tests false false f g h h' = (f, g, record { no_join = h; no_leave = h' })

  one_more : (e : Event) (es : List Event) → e.is_join ≡ false → named e ≡ false → Quiet es → Quiet (e ∷ es)
  unfolding those
  one_more e es f g q = record { no_join = rw f q.no_join; no_leave = rw g q.no_leave }

  -- a leave of another access point leaves the station there
  not_moved : (e : Event) → e.is_join ≡ false → named e ≡ false → where_after e (at point) ≡ at point
  not_moved e f g = rw (f, ne_eqb point e.point (λ q. eqb-false e.point point g (sym q)))

  stays_there : (es : List Event) → Quiet es → led (at point) es ≡ at point
  unfolding led
  stays_there [] q = refl
  stays_there (e ∷ es) q =
      let x = first_quiet e es q in
      ap (λ (p : Whereabouts). led p es) (not_moved e x.0 x.1) ∙ stays_there es x.2

  led_append : (before later : List Event) (p : Whereabouts) → led p (before ++ later) ≡ led (led p before) later
  unfolding led
  led_append [] later p = refl
  led_append (e ∷ before) later p = led_append before later (where_after e p)

  pub leads : (p : Whereabouts) (es : List Event) → LatestJoin point es → led p es ≡ at point
  unfolding led
  leads p es l =
      ap (led p) l.are
      ∙ led_append l.before (l.join ∷ l.later) p
      ∙ ap (λ (x : Whereabouts). led x l.later) (joined_there (led p l.before))
      ∙ stays_there l.later (record { no_join = l.latest; no_leave = l.not_left })
    where
      joined_there : (x : Whereabouts) → where_after l.join x ≡ at point
      joined_there x = rw l.joins (ap at l.named)

  -- the way back
  back : (e : Event) (es : List Event) (p : Whereabouts) → Because (where_after e p) es → (b : Bool) → e.is_join ≡ b → (c : Bool) → is_at e.point p ≡ c → Because p (e ∷ es)
  back e es p (joined_it l) b f c g = joined_it (record {
    before = e ∷ l.before;
    join = l.join;
    later = l.later;
    are = ap (λ (x : List Event). e ∷ x) l.are;
    joins = l.joins;
    named = l.named;
    latest = l.latest;
    not_left = l.not_left;
  })
  back e es p (was_there there q) true f c g =
      let same : at e.point ≡ at point = sym (rw f) ∙ there in
      joined_it (record { before = []; join = e; later = es; are = refl; joins = f; named = cc; latest = q.no_join; not_left = q.no_leave })
  back e es p (was_there there q) false f true g =
      let no : nowhere ≡ at point = sym (rw (f, g)) ∙ there in
      let z : ◌≡◌ {A = ℕ} 0 1 = cc in
      absurd (omega arith)
  back e es p (was_there there q) false f false g =
      let is : p ≡ at point = sym (rw (f, g)) ∙ there in
      let other : named e ≡ false = ne_eqb e.point point (λ h. true≢false (sym (ap (is_at e.point) is ∙ eq-eqb point e.point (sym h)) ∙ g)) in
      was_there is (one_more e es f other q)

  because : (es : List Event) (p : Whereabouts) → led p es ≡ at point → Because p es
  unfolding led those
  because [] p h = was_there h (record { no_join = refl; no_leave = refl })
  because (e ∷ es) p h = back e es p (because es (where_after e p) h) e.is_join refl (is_at e.point p) refl

  pub led_only : (es : List Event) → led nowhere es ≡ at point → LatestJoin point es
  led_only es h = by_case (because es nowhere h)
    where
      by_case : Because nowhere es → LatestJoin point es
      by_case (joined_it l) = l
      by_case (was_there is q) = let z : ◌≡◌ {A = ℕ} 0 1 = cc in absurd (omega arith)
