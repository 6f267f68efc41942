-- A machine whose calls act key by key, and one key's story: the calls that concern the key, and what it sees and is
-- answered as they come.
use Rattle.std.specs.Prelude.{◌≡◌, List, [], ◌∷◌, Bool, true, false, cond, ◌&&◌, ◌||◌, ℕ}
use Rattle.machines.specs.Machine.{those, remaining}

pub record Machine (S E A Vw : Type 0) : Type 0 where
  pub step : S → E → S
  pub says : S → E → A
  -- what is seen of a key, which calls are its own, and which are everyone's
  pub view : ℕ → S → Vw
  pub own : ℕ → E → Bool
  pub common : E → Bool
  -- what a call makes of what is seen, and says then
  pub tell : Vw → E → Vw
  pub answer : Vw → E → A

module _ {S E A Vw : Type 0} (m : Machine S E A Vw) where
  abbrev pub concerns_key : ℕ → E → Bool
  concerns_key c e = m.own c e || m.common e

  -- a key's own calls that pass a test
  abbrev pub hers : (S → E → Bool) → ℕ → S → E → Bool
  hers passes c s e = m.own c e && passes s e

  -- the calls that pass and concern a key
  abbrev pub story : (S → E → Bool) → ℕ → S → List E → List E
  story passes c s es = those (concerns_key c) (remaining m.step passes s es)

  -- what is seen after a story; what is said along it to the calls that are asked for, and what is answered to the
  -- key's own
  unfoldable pub view_after : Vw → List E → Vw
  view_after v [] = v
  view_after v (e ∷ es) = view_after (m.tell v e) es

  unfoldable pub said_along : {X : Type 0} → (E → Bool) → (Vw → E → X) → Vw → List E → List X
  said_along asks says v [] = []
  said_along asks says v (e ∷ es) = cond (asks e) (says v e ∷ said_along asks says (m.tell v e) es) (said_along asks says (m.tell v e) es)

  abbrev pub answers : ℕ → Vw → List E → List A
  answers c = said_along (m.own c) m.answer

  -- what one call does in a good state: one that passes acts on what is seen of the keys that it concerns, and one that
  -- does not pass on nothing
  pub record ActsByKey (passes : S → E → Bool) (Good : S → Type 0) : Type 0 where
    pub stays : (s : S) (e : E) → Good s → Good (m.step s e)
    pub no_effect : (s : S) (e : E) → Good s → passes s e ≡ false → m.step s e ≡ s
    pub same : (c : ℕ) (s : S) (e : E) → Good s → passes s e ≡ true → concerns_key c e ≡ true → m.view c (m.step s e) ≡ m.tell (m.view c s) e
    pub other : (c : ℕ) (s : S) (e : E) → Good s → concerns_key c e ≡ false → m.view c (m.step s e) ≡ m.view c s
    pub said : (c : ℕ) (s : S) (e : E) → Good s → passes s e ≡ true → m.own c e ≡ true → m.says s e ≡ m.answer (m.view c s) e

  -- a state that is given only this key's calls: what passed among others passes there
  pub record Echo (passes : S → E → Bool) (Good : S → Type 0) (c : ℕ) (Lone : S → Type 0) : Type 0 where
    pub stays_lone : (s : S) (e : E) → Good s → Lone s → concerns_key c e ≡ true → Lone (m.step s e)
    pub echoed : (s s' : S) (e : E) → Good s → Good s' → Lone s' → m.view c s ≡ m.view c s' → concerns_key c e ≡ true → passes s e ≡ true → passes s' e ≡ true
