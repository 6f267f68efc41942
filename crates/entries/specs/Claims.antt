-- What is claimed of the cursor, besides what the calls promise; proofs/Claims.antt proves it.
use Rattle.std.specs.Prelude.{◌≡◌, List, [], ◌∷◌, ◌++◌, ℕ, zero, suc, length}
use Rattle.numbers.specs.Numbers.{Answer, gives, refuses, mapped, answered}
use Rattle.numbers.specs.Firmness.{Firm}
use Rattle.layouts.specs.Access.{start_in}
use Rattle.kinds.specs.Kinds.{locate_kind, count_kind}
use Rattle.entries.specs.declared.Cursor.{Cursor}
use Rattle.entries.specs.declared.EntryAt.{EntryAt}
use Rattle.entries.specs.declared.Start.{Start}
use Rattle.entries.specs.Entries.{beginning, next_is, none_left_lem, gone_on_lem}

-- Rule A4: for each public call, by its name, any two answers that its contract allows are one.
pub record Firmness : Type 0 where
  pub begin : (code depth : ℕ) (s : List ℕ) → Firm (λ r. answered r ≡ beginning code depth s)
  pub go_on : (cursor : Cursor) (s : List ℕ) → Firm (λ r. answered r ≡ gone_on_lem cursor s)

-- Going on from c over the bytes s gives these entries, one after the other, and then the end. Nothing is refused.
pub data GoesOver (s : List ℕ) : Cursor → List EntryAt → Type 0 where
  finished : {c : Cursor} → gone_on_lem c s ≡ gives none_left_lem → GoesOver s c []
  goes : {c d : Cursor} {e : EntryAt} {es : List EntryAt} → gone_on_lem c s ≡ gives (next_is e d) → GoesOver s d es → GoesOver s c (e ∷ es)

-- The entries of a value as asking by number gives them (rules E1 and E3): how many the list of the entry with these
-- numbers has, 0 where it has none, and that entry itself. Its level is how many numbers it has.
abbrev pub or_none : Answer ℕ → ℕ
or_none (gives n) = n
or_none (refuses k vs) = 0

abbrev pub asked_for : ℕ → List ℕ → List ℕ → EntryAt
asked_for code s is = record { start = start_in (locate_kind code is s); entries = or_none (count_kind code is s); level = length is }

-- what f says of the number i and of the n - 1 numbers after it, joined
abbrev pub of_each : {A : Type 0} → (ℕ → List A) → ℕ → ℕ → List A
of_each f i zero = []
of_each f i (suc n) = f i ++ of_each f (suc i) n

-- Each entry of the list of the entry with the numbers `is`, and after it the entries below it, `depth` levels in all.
unfoldable pub by_numbers : ℕ → ℕ → List ℕ → List ℕ → List EntryAt
by_numbers zero code s is = []
by_numbers (suc depth) code s is = of_each (λ i. asked_for code s (is ++ i ∷ []) ∷ by_numbers depth code s (is ++ i ∷ [])) 0 (or_none (count_kind code is s))

-- Rule E10: over a value, going on gives exactly the entries that asking by number gives, in the same order.
abbrev pub AsAsked : Type 0
AsAsked = (code depth : ℕ) (s : List ℕ) (b : Start) → beginning code depth s ≡ gives b → GoesOver s b.cursor (by_numbers depth code s [])

-- Rules E3 and E9: beginning gives as many entries as counting does, and refuses as it does.
abbrev pub AsCounted : Type 0
AsCounted = (code depth : ℕ) (s : List ℕ) → mapped (λ b. b.entries) (beginning code depth s) ≡ count_kind code [] s

-- everything that is claimed of this crate
pub record Claims : Type 0 where
  pub firmness : Firmness
  pub as_asked : AsAsked
  pub as_counted : AsCounted
