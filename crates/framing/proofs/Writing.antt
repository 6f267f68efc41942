-- Laws of `write_size` and of what a buffer holds after a writing.
use mathlib.Core.Path.{◌≡◌, refl, sym, ap, ◌∙◌}
use mathlib.Core.Bool.{Bool, true, false, cond}
use mathlib.Core.List.{List, [], ◌∷◌, ◌++◌, append-nil}
use Prim.Native.Nat.{ℕ, ◌+◌, ◌-◌, ◌/◌, ◌%◌, ◌<◌, ◌≤◌}
use native.Mathlib.Omega.{arith}
use lib.Dec.{ltb}
use lib.ListN.{length, take, drop, set, length-take, length-drop}
use lib.Seq.{take_all, drop-drop, drop-length}
use borrow.Author.Tests.{ltb-false, lt-ltb, le-ltb}
use borrow.Rule.Slice.PartMut.{mid_of, put_mid}
use Rattle.numbers.specs.Numbers.{Answer, gives, refuses}
use Rattle.framing.specs.Tlv.{longest_value, write_size, header, tlv_bytes, leaves}

pub too_long : (n room : ℕ) → longest_value < n → refuses 8 [] ≡ write_size n room
unfolding write_size
too_long n room h = simp (lt-ltb longest_value n h)

pub no_room : (n room : ℕ) → n ≤ longest_value → room < 3 + n → refuses 7 [] ≡ write_size n room
unfolding write_size
no_room n room h k = simp (le-ltb longest_value n h, lt-ltb room (3 + n) k)

pub fits : (n room : ℕ) → n ≤ longest_value → 3 + n ≤ room → gives (3 + n) ≡ write_size n room
unfolding write_size
fits n room h k = simp (le-ltb longest_value n h, le-ltb room (3 + n) k)

by_tests : (x y : Bool) (m k : ℕ) → gives m ≡ cond x (refuses 8 []) (cond y (refuses 7 []) (gives k)) → (x ≡ false) × ((y ≡ false) × (m ≡ k))
by_tests true y m k e = let z : ◌≡◌ {A = ℕ} 0 1 = cc in absurd (omega arith)
by_tests false true m k e = let z : ◌≡◌ {A = ℕ} 0 1 = cc in absurd (omega arith)
by_tests false false m k e = (refl, (refl, cc))

-- what is written fits both limits
pub written : (m n room : ℕ) → gives m ≡ write_size n room → (m ≡ 3 + n) × ((n ≤ longest_value) × (3 + n ≤ room))
unfolding write_size
written m n room e =
    let h = by_tests (ltb longest_value n) (ltb room (3 + n)) m (3 + n) e in
    (h.1.1, (ltb-false longest_value n h.0, ltb-false room (3 + n) h.1.0))

-- a refusal leaves all as lent
pub kept : (a : Answer ℕ) (n : ℕ) (vs bytes out : List ℕ) → refuses n vs ≡ a → out ≡ leaves a bytes out
kept a n vs bytes out e = rw (← e)

-- three stores at the front are the header
pub header_put : (t n : ℕ) (out : List ℕ) → n ≤ longest_value → 3 ≤ length out → set (set (set out 0 t) 1 (n / 256)) 2 (n % 256) ≡ header t n ++ drop 3 out
header_put t n [] f h = absurd (omega arith)
header_put t n (_ ∷ []) f h = absurd (omega arith)
header_put t n (_ ∷ _ ∷ []) f h = absurd (omega arith)
header_put t n (_ ∷ _ ∷ _ ∷ out) f h = let high : n / 256 % 256 ≡ n / 256 = omega arith in rw high

-- what was given room stands at the start
pub put : (a : Answer ℕ) (m : ℕ) (bytes out : List ℕ) → gives m ≡ a → bytes ++ drop (length bytes) out ≡ leaves a bytes out
put a m bytes out e = rw (← e)

drop_all : (k : ℕ) (l : List ℕ) → length l ≡ k → drop k l ≡ []
drop_all k l e = rw (← e) (drop-length l)

-- What a callee that was lent `&mut out[a..]` wrote there, said of the whole buffer.
pub tail_put : (a : ℕ) (out v ys : List ℕ) → ys ≡ v ++ drop (length v) (mid_of a (length out - a) out) → put_mid a (length out - a) out ys ≡ take a out ++ (v ++ drop (a + length v) out)
tail_put a out v ys e =
    ap (λ (l : List ℕ). take a out ++ l)
    (ap (λ (l : List ℕ). ys ++ l) (drop_all (length out - a) (drop a out) (length-drop a out))
    ∙ append-nil ys
    ∙ e
    ∙ ap (λ (l : List ℕ). v ++ drop (length v) l) (take_all (length out - a) (drop a out) (omega (arith, length-drop a out)))
    ∙ ap (λ (l : List ℕ). v ++ l) (drop-drop (length v) a out))

-- a header at the start, and the value in the part from byte 3 onward that was lent: the whole TLV
pub tlv_put : (t : ℕ) (v out between ys : List ℕ) → between ≡ header t (length v) ++ drop 3 out → ys ≡ v ++ drop (length v) (mid_of 3 (length between - 3) between)
    → put_mid 3 (length between - 3) between ys ≡ tlv_bytes t v ++ drop (length (tlv_bytes t v)) out
tlv_put t v out between ys e e' =
    let n : ℕ = length v in
    let l : 3 + n ≡ length (tlv_bytes t v) = omega arith in
    tail_put 3 between v ys e'
    ∙ ap (λ (b : List ℕ). take 3 b ++ (v ++ drop (3 + n) b)) e
    ∙ ap (λ (b : List ℕ). header t n ++ (v ++ b)) (sym (drop-drop n 3 (header t n ++ drop 3 out)) ∙ drop-drop n 3 out ∙ ap (λ (k : ℕ). drop k out) l)

-- with the header written the buffer is as long as it was, and the part from byte 3 onward has room for the value
pub lent : (t n : ℕ) (out between : List ℕ) → 3 + n ≤ length out → between ≡ header t n ++ drop 3 out → (length between ≡ length out) × (n ≤ length (mid_of 3 (length between - 3) between))
lent t n out between h e =
    let same : length between ≡ length out = ap length e ∙ omega (arith, length-drop 3 out) in
    (same, simp (length-take, length-drop) (omega arith))
