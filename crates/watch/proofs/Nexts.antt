-- A step goes over a record exactly where it says where the next one starts.
use Rattle.std.proofs.Common.{◌≡◌, ℕ, false, refl, sym, ap, rules}
use Rattle.std.specs.Prelude.{Some, None}
use Rattle.numbers.specs.Numbers.{Answer, gives, refuses}
use Rattle.walking.specs.Steps.{Ahead, ended, passed, last}
use Rattle.captures.specs.Reading.{Captured}
use Rattle.house.proofs.Stops.{goes_over_lem}
use Rattle.watch.specs.Watching.{next_in_lem}

pub over : (x : Answer (Ahead Captured)) (n : ℕ) → next_in_lem x ≡ Some n → (c : Captured) × (gives (passed c n) ≡ x)
over (gives (passed c m)) n e = let same : m ≡ n = cc in (c, ap (λ (k : ℕ). gives (passed c k)) (sym same))
over (gives (last c m)) n e = absurd (search rules)
over (gives ended) n e = absurd (search rules)
over (refuses m vs) n e = absurd (search rules)

pub over_none : (x : Answer (Ahead Captured)) → next_in_lem x ≡ None → goes_over_lem x ≡ false
over_none (gives (passed c m)) e = absurd (search rules)
over_none (gives (last c m)) e = refl
over_none (gives ended) e = refl
over_none (refuses m vs) e = refl
