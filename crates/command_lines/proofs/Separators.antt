-- The laws of fields, by the place of the first separator.
use Rattle.std.proofs.Common.{◌≡◌, ℕ, suc, ◌+◌, ◌-◌, ◌<◌, ◌≤◌, Bool, true, false, cond, not, eqb, List, [], ◌∷◌, take, drop, refl, ap, arith}
use Rattle.std.specs.List.{before_first, after_first, position_or_len}
use Rattle.command_lines.specs.Fields.{up_to, past_first, field_in}

starts : (here : Bool) (b : ℕ) (s u : List ℕ) (n : ℕ) → u ≡ take n s → cond here [] (b ∷ u) ≡ take (cond (not here) (1 + n) 0) (b ∷ s)
starts true b s u n e = refl
starts false b s u n e = let k : 1 + n ≡ suc n = omega arith in rw k (ap (λ (l : List ℕ). b ∷ l) e)

pub up_to_is : (separator : ℕ) (s : List ℕ) → up_to separator s ≡ before_first (λ b. eqb b separator) s
unfolding up_to
up_to_is separator [] = refl
up_to_is separator (b ∷ s) = starts (eqb b separator) b s (up_to separator s) (position_or_len (λ x. eqb x separator) s) (up_to_is separator s)

follows : (here : Bool) (b : ℕ) (s u : List ℕ) (n : ℕ) → u ≡ drop (n + 1) s → cond here s u ≡ drop (cond (not here) (1 + n) 0 + 1) (b ∷ s)
follows true b s u n e = refl
follows false b s u n e = let k : 1 + n + 1 ≡ suc (n + 1) = omega arith in rw k e

pub past_first_is : (separator : ℕ) (s : List ℕ) → past_first separator s ≡ after_first (λ b. eqb b separator) s
unfolding past_first
past_first_is separator [] = refl
past_first_is separator (b ∷ s) = follows (eqb b separator) b s (past_first separator s) (position_or_len (λ x. eqb x separator) s) (past_first_is separator s)

-- a field more is passed, and none is left to pass
pub field_next : (separator n i : ℕ) (s : List ℕ) → i < n → field_in separator (n - (i + 1)) (past_first separator s) ≡ field_in separator (n - i) s
unfolding field_in
field_next separator n i s h =
    let e : n - i ≡ suc (n - (i + 1)) = omega arith in
    rw e

pub field_last : (separator n i : ℕ) (s : List ℕ) → n ≤ i → up_to separator s ≡ field_in separator (n - i) s
unfolding field_in
field_last separator n i s h =
    let e : n - i ≡ 0 = omega arith in
    rw e
