-- One key's story, told alone, for any machine: what one call does to what is seen of a key, given once, gives what any
-- calls do to it and what is gathered of them.
use mathlib.Core.Path.{◌≡◌, refl, sym, ap, ◌∙◌}
use mathlib.Core.List.{List, [], ◌∷◌}
use mathlib.Core.Bool.{Bool, true, false, ◌&&◌, false≢true, and-false}
use Prim.Native.Nat.{ℕ}
use Rattle.machines.specs.Machine.{those, run, gathered, every}
use Rattle.machines.specs.Story.{Machine, concerns_key, hers, story, view_after, said_along, answers, ActsByKey, Echo}

module _ {S E A Vw : Type 0} (m : Machine S E A Vw) (passes : S → E → Bool) (Good : S → Type 0) (L : ActsByKey m passes Good) where
  pub good_run : (es : List E) (s : S) → Good s → Good (run m.step s es)
  unfolding run
  good_run [] s g = g
  good_run (e ∷ es) s g = good_run es (m.step s e) (L.stays s e g)

  module _ (c : ℕ) where
    abbrev told : S → List E → List E
    told = story m passes c

    -- the next call is in the story, or leaves the view as it was
    story_in : (s : S) (e : E) (es : List E) → passes s e ≡ true → concerns_key m c e ≡ true → told s (e ∷ es) ≡ e ∷ told (m.step s e) es
    unfolding those gathered
    story_in s e es p q = rw (p, q)

    story_other : (s : S) (e : E) (es : List E) → passes s e ≡ true → concerns_key m c e ≡ false → told s (e ∷ es) ≡ told (m.step s e) es
    unfolding those gathered
    story_other s e es p q = rw (p, q)

    story_crossed : (s : S) (e : E) (es : List E) → passes s e ≡ false → told s (e ∷ es) ≡ told (m.step s e) es
    unfolding those gathered
    story_crossed s e es p = rw p

    -- a statement on a story holds of the next call's, by cases
    pub next : (P : List E → Type 0) (s : S) (e : E) (es : List E)
        → (passes s e ≡ true → concerns_key m c e ≡ true → P (e ∷ told (m.step s e) es))
        → (passes s e ≡ true → concerns_key m c e ≡ false → P (told (m.step s e) es))
        → (passes s e ≡ false → P (told (m.step s e) es))
        → P (told s (e ∷ es))
    next P s e es f g h = by_case (passes s e) (concerns_key m c e) refl refl
      where
        by_case : (o k : Bool) → passes s e ≡ o → concerns_key m c e ≡ k → P (told s (e ∷ es))
        by_case true true p q = rw (story_in s e es p q) (f p q)
        by_case true false p q = rw (story_other s e es p q) (g p q)
        by_case false k p q = rw (story_crossed s e es p) (h p)

    -- the view
    pub alone : (es : List E) (s : S) → Good s → m.view c (run m.step s es) ≡ view_after m (m.view c s) (told s es)
    unfolding run view_after those gathered
    alone [] s g = refl
    alone (e ∷ es) s g =
        let ih = alone es (m.step s e) (L.stays s e g) in
        next (λ (l : List E). m.view c (run m.step (m.step s e) es) ≡ view_after m (m.view c s) l) s e es
        (λ p q. ih ∙ ap (λ (v : Vw). view_after m v (told (m.step s e) es)) (L.same c s e g p q))
        (λ p q. ih ∙ ap (λ (v : Vw). view_after m v (told (m.step s e) es)) (L.other c s e g q))
        (λ p. ih ∙ ap (λ (z : S). view_after m (m.view c z) (told (m.step s e) es)) (L.no_effect s e g p))

    -- what is gathered of calls that concern the key goes by what is seen of it, where each single call's does
    module _ {X : Type 0} (asks : E → Bool) (says : S → E → X) (says' : Vw → E → X) (concern : (e : E) → asks e ≡ true → concerns_key m c e ≡ true)
        (said : (s : S) (e : E) → Good s → passes s e ≡ true → asks e ≡ true → says s e ≡ says' (m.view c s) e) where
      abbrev gather : S → List E → List X
      gather = gathered m.step (λ s e. asks e && passes s e) says

      gathered_in : (s : S) (e : E) (es : List E) → Good s → passes s e ≡ true → gather (m.step s e) es ≡ said_along m asks says' (m.tell (m.view c s) e) (told (m.step s e) es)
          → (b : Bool) → asks e ≡ b → gather s (e ∷ es) ≡ said_along m asks says' (m.view c s) (e ∷ told (m.step s e) es)
      unfolding gathered said_along
      gathered_in s e es g p ih true q = rw (q, p, ih, said s e g p q)
      gathered_in s e es g p ih false q = rw (q, ih)

      gathered_other : (s : S) (e : E) (es : List E) → concerns_key m c e ≡ false → (b : Bool) → asks e ≡ b → gather s (e ∷ es) ≡ gather (m.step s e) es
      unfolding gathered
      gathered_other s e es p true q = absurd (false≢true (sym p ∙ concern e q))
      gathered_other s e es p false q = rw q

      gathered_crossed : (s : S) (e : E) (es : List E) → passes s e ≡ false → gather s (e ∷ es) ≡ gather (m.step s e) es
      unfolding gathered
      gathered_crossed s e es p = rw (p, and-false (asks e))

      pub gathered_by : (es : List E) (s : S) → Good s → gather s es ≡ said_along m asks says' (m.view c s) (told s es)
      unfolding gathered said_along those
      gathered_by [] s g = refl
      gathered_by (e ∷ es) s g =
          let ih = gathered_by es (m.step s e) (L.stays s e g) in
          next (λ (l : List E). gather s (e ∷ es) ≡ said_along m asks says' (m.view c s) l) s e es
          (λ p q. gathered_in s e es g p (ih ∙ ap (λ (v : Vw). said_along m asks says' v (told (m.step s e) es)) (L.same c s e g p q)) (asks e) refl)
          (λ p q. gathered_other s e es q (asks e) refl ∙ ih ∙ ap (λ (v : Vw). said_along m asks says' v (told (m.step s e) es)) (L.other c s e g q))
          (λ p. gathered_crossed s e es p ∙ ih ∙ ap (λ (z : S). said_along m asks says' (m.view c z) (told (m.step s e) es)) (L.no_effect s e g p))

    -- what is answered to the key's own calls
    pub gathered_alone : (es : List E) (s : S) → Good s → gathered m.step (hers m passes c) m.says s es ≡ answers m c (m.view c s) (told s es)
    gathered_alone = gathered_by (m.own c) m.says m.answer (λ e h. rw h) (L.said c)

    pass_in : (s : S) (e : E) (es : List E) → passes s e ≡ true → every m.step passes (m.step s e) es ≡ true → every m.step passes s (e ∷ es) ≡ true
    unfolding every
    pass_in s e es p h = rw (p, h)

    pub none_crossed : (Lone : S → Type 0) → Echo m passes Good c Lone → (es : List E) (s s' : S) → Good s → Good s' → Lone s' → m.view c s ≡ m.view c s' → every m.step passes s' (told s es) ≡ true
    unfolding those gathered every
    none_crossed Lone K [] s s' g g' l v = refl
    none_crossed Lone K (e ∷ es) s s' g g' l v =
        next (λ (es' : List E). every m.step passes s' es' ≡ true) s e es
        (λ p q.
        let p' = K.echoed s s' e g g' l v q p in
        pass_in s' e (told (m.step s e) es) p' (none_crossed Lone K es (m.step s e) (m.step s' e) (L.stays s e g) (L.stays s' e g') (K.stays_lone s' e g' l q) (L.same c s e g p q ∙ ap (λ (z : Vw). m.tell z e) v ∙ sym (L.same c s' e g' p' q))))
        (λ p q. none_crossed Lone K es (m.step s e) s' (L.stays s e g) g' l (L.other c s e g q ∙ v))
        (λ p. none_crossed Lone K es (m.step s e) s' (L.stays s e g) g' l (ap (m.view c) (L.no_effect s e g p) ∙ v))
