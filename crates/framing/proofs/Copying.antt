-- A copy to the start of a list, one element a turn.
use mathlib.Core.Path.{◌≡◌, sym, ap, ◌∙◌}
use mathlib.Core.List.{List, ◌++◌}
use Prim.Native.Nat.{ℕ, suc, ◌+◌, ◌<◌}
use native.Mathlib.Omega.{arith}
use native.Mathlib.Numerals.{add-one}
use lib.ListN.{length, take, drop, get_or, set}
use lib.Seq.{drop-cons, set_at, take-suc, length-take-le, append_snoc}

pub one_more : (b o : List ℕ) (i : ℕ) → i < length b → i < length o → set (take i b ++ drop i o) i (get_or b i 0) ≡ take (i + 1) b ++ drop (i + 1) o
one_more b o i h k =
    ap (λ (l : List ℕ). set (take i b ++ l) i (get_or b i 0)) (drop-cons o i 0 k)
    ∙ set_at (take i b) (get_or o i 0) (drop (suc i) o) (get_or b i 0) i (length-take-le i b (omega arith))
    ∙ sym (append_snoc (take i b) (get_or b i 0) (drop (suc i) o))
    ∙ ap (λ (l : List ℕ). l ++ drop (suc i) o) (sym (take-suc b i 0 h))
    ∙ ap (λ (n : ℕ). take n b ++ drop n o) (sym (add-one i))
