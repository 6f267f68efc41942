-- Facts of the whole table, each proved once over its lines by a test that antt computes.
use mathlib.Core.Path.{◌≡◌, refl}
use mathlib.Core.Bool.{Bool, true, false, cond}
use mathlib.Core.List.{List, [], ◌∷◌}
use Prim.Native.Nat.{ℕ}
use native.Mathlib.Omega.{arith}
use lib.Dec.{eqb, T}
use Rattle.numbers.specs.Numbers.{gives}
use Rattle.layouts.specs.Layouts.{Counting, c1, to_end, Layout, bytes, entry, Line, table, line_of, layout_of}
use Rattle.layouts.specs.Reading.{counting_of_lem}

abbrev holds : (Layout → Bool) → List Line → Bool
holds f [] = true
holds f (l ∷ ls) = cond (f l.layout) (holds f ls) false

each_line : (f : Layout → Bool) (ls : List Line) → T (holds f ls) → (code : ℕ) (k : Layout) → line_of code ls ≡ gives k → T (f k)
each_line f [] h code k x = let z : ◌≡◌ {A = ℕ} 0 1 = cc in absurd (omega arith)
each_line f (l ∷ ls) h code k x = go (each_line f ls) (f l.layout) refl h (eqb code l.code) x where
  go : (T (holds f ls) → (code : ℕ) (k : Layout) → line_of code ls ≡ gives k → T (f k)) → (b : Bool) → f l.layout ≡ b → T (cond b (holds f ls) false) →
      (t : Bool) → cond t (gives l.layout) (line_of code ls) ≡ gives k → T (f k)
  go rest true e h true x = let same : l.layout ≡ k = cc in rw (← same, e) tt
  go rest true e h false x = rest h code k x
  go rest false e h t x = absurd h

-- what a test says of each line, it says of the layout of any code
pub each : (f : Layout → Bool) → T (holds f table) → (code : ℕ) (k : Layout) → layout_of code ≡ gives k → T (f k)
unfolding layout_of
each f h code k x = each_line f table h code k x

-- no list of the layout goes to the end
abbrev pub all_counted : Layout → Bool
all_counted (bytes n) = true
all_counted (entry n c1 e) = all_counted e
all_counted (entry n to_end e) = false

-- where a value's own list has a count, every list has one
abbrev counted_if : Counting → Layout → Bool
counted_if c1 l = all_counted l
counted_if to_end l = true

pub inner_counted : (code : ℕ) (k : Layout) → layout_of code ≡ gives k → counting_of_lem k ≡ c1 → T (all_counted k)
inner_counted code k x e = rw e at (each (λ k. counted_if (counting_of_lem k) k) tt code k x)
