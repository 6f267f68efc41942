-- Two runs of any machine: one key's story told alone, and the same calls in another order.
use mathlib.Core.Path.{◌≡◌, sym, ap, ◌∙◌}
use mathlib.Core.List.{List}
use mathlib.Core.Bool.{Bool, true, ◌&&◌}
use Prim.Native.Nat.{ℕ}
use Rattle.machines.specs.Machine.{those, run, remaining, gathered, every}
use Rattle.machines.specs.Story.{Machine, concerns_key, hers, story, view_after, said_along, ActsByKey, Echo}
use Rattle.machines.proofs.Lists.{those_twice, every_remains, every_gathered}
use Rattle.machines.proofs.Story as Y

module _ {S E A Vw : Type 0} (m : Machine S E A Vw) (passes : S → E → Bool) (Good : S → Type 0) (L : ActsByKey m passes Good) where
  abbrev told : ℕ → S → List E → List E
  told = story m passes

  -- stories that are alike end alike
  pub alike_view : (c : ℕ) (es fs : List E) (s s' : S) → Good s → Good s' → m.view c s ≡ m.view c s' → told c s es ≡ told c s' fs → m.view c (run m.step s es) ≡ m.view c (run m.step s' fs)
  alike_view c es fs s s' g g' v h =
      let between : view_after m (m.view c s) (told c s es) ≡ view_after m (m.view c s') (told c s' fs) = cc in
      Y.alone m passes Good L c es s g ∙ between ∙ sym (Y.alone m passes Good L c fs s' g')

  -- what goes by what is seen of the key is said alike
  alike_said : {X : Type 0} (c : ℕ) (asks : E → Bool) (says : S → E → X) (says' : Vw → E → X) → ((e : E) → asks e ≡ true → concerns_key m c e ≡ true)
      → ((s : S) (e : E) → Good s → passes s e ≡ true → asks e ≡ true → says s e ≡ says' (m.view c s) e) → (es fs : List E) (s s' : S) → Good s → Good s' → m.view c s ≡ m.view c s' → told c s es ≡ told c s' fs
      → gathered m.step (λ s e. asks e && passes s e) says s es ≡ gathered m.step (λ s e. asks e && passes s e) says s' fs
  alike_said c asks says says' concern said es fs s s' g g' v h =
      let between : said_along m asks says' (m.view c s) (told c s es) ≡ said_along m asks says' (m.view c s') (told c s' fs) = cc in
      Y.gathered_by m passes Good L c asks says says' concern said es s g ∙ between ∙ sym (Y.gathered_by m passes Good L c asks says says' concern said fs s' g')

  pub alike_gathered : (c : ℕ) (es fs : List E) (s s' : S) → Good s → Good s' → m.view c s ≡ m.view c s' → told c s es ≡ told c s' fs → gathered m.step (hers m passes c) m.says s es ≡ gathered m.step (hers m passes c) m.says s' fs
  alike_gathered c = alike_said c (m.own c) m.says m.answer (λ e h. rw h) (L.said c)

  -- one key's story, told alone
  module _ (c : ℕ) (Lone : S → Type 0) (K : Echo m passes Good c Lone) (es : List E) (s s' : S) (g : Good s) (g' : Good s') (l : Lone s') (v : m.view c s ≡ m.view c s') where
    pub all_pass : every m.step passes s' (told c s es) ≡ true
    all_pass = Y.none_crossed m passes Good L c Lone K es s s' g g' l v

    same_story : told c s es ≡ told c s' (told c s es)
    same_story = sym (ap (those (concerns_key m c)) (every_remains m.step passes (told c s es) s' all_pass) ∙ those_twice (concerns_key m c) (remaining m.step passes s es))

    pub projected_view : m.view c (run m.step s es) ≡ m.view c (run m.step s' (told c s es))
    projected_view = alike_view c es (told c s es) s s' g g' v same_story

    pub projected_said : {X : Type 0} (asks : E → Bool) (says : S → E → X) (says' : Vw → E → X) → ((e : E) → asks e ≡ true → concerns_key m c e ≡ true)
        → ((s : S) (e : E) → Good s → passes s e ≡ true → asks e ≡ true → says s e ≡ says' (m.view c s) e)
        → gathered m.step (λ s e. asks e && passes s e) says s es ≡ gathered m.step (λ s e. asks e) says s' (told c s es)
    projected_said asks says says' concern said =
        alike_said c asks says says' concern said es (told c s es) s s' g g' v same_story ∙ every_gathered m.step passes (λ s e. asks e) says (told c s es) s' all_pass

    pub projected_gathered : gathered m.step (hers m passes c) m.says s es ≡ gathered m.step (λ s e. m.own c e) m.says s' (told c s es)
    projected_gathered = projected_said (m.own c) m.says m.answer (λ e h. rw h) (L.said c)
