-- The bytes of a window that are not gone over yet move to its start, and more of the file follows them (rule H10).
use Rattle.std.proofs.Common.{◌≡◌, ℕ, ◌+◌, ◌-◌, ◌≤◌, List, ◌++◌, length, take, drop, sym, ap, ◌∙◌, append_assoc, arith, length-drop, length-take, length-take-le, take-add, take-take, drop_at}
use lib.Seq.{paste, take-paste, take-append-add, take-append-le}
use Rattle.watch.specs.Refills.{Refills}

-- a part of a list, two ways
part : (s : List ℕ) (from n : ℕ) → from + n ≤ length s → take n (drop from s) ≡ drop from (take (from + n) s)
part s from n inside = sym (ap (drop from) (take-add from n s) ∙ drop_at (take from s) (take n (drop from s)) from (length-take-le from s (omega (arith, inside))))

-- so many bytes are moved
pub all_moved : (s : List ℕ) (from end : ℕ) → 24 ≤ from → from ≤ end → end ≤ length s
    → take (24 + (end - from)) (paste s 24 (drop from s) (end - from)) ≡ take 24 s ++ drop from (take end s)
all_moved s from end up order inside =
    let all : from + (end - from) ≡ end = omega (arith, order) in
    take-paste s 24 (drop from s) (end - from) (omega (arith, up, order, inside)) (simp length-drop (omega (arith, order, inside)))
    ∙ ap (λ (t : List ℕ). take 24 s ++ t) (part s from (end - from) (omega (arith, all, inside)))
    ∙ ap (λ (k : ℕ). take 24 s ++ drop from (take k s)) all

-- a window has as many bytes as are counted
pub counted : (bytes w : List ℕ) (have : ℕ) → length bytes ≡ 131072 → have ≤ 131072 → take have bytes ≡ w → length w ≡ have
counted bytes w have size inside view = ap length (sym view) ∙ length-take-le have bytes (omega (arith, size, inside))

-- its file header stays
pub header : (bytes w : List ℕ) (have : ℕ) → 24 ≤ have → take have bytes ≡ w → take 24 bytes ≡ take 24 w
header bytes w have low view = sym (take-take 24 have bytes low) ∙ ap (take 24) view

-- the window that goes on: `kept` bytes of it are the file header and what is left, and so many more are read
module _ (bytes moved room post w : List ℕ) (have at kept more : ℕ) (size : length bytes ≡ 131072) (inside : have ≤ 131072) (view : take have bytes ≡ w) (up : 24 ≤ at) (below : at ≤ length w)
    (long : length moved ≡ 131072) (e : kept ≡ 24 + (have - at)) (f : take kept moved ≡ take 24 bytes ++ drop at (take have bytes)) (rest : length room ≡ 131072 - kept) (came : more ≤ length room) where
  there : length w ≡ have
  there = counted bytes w have size inside view

  fits : kept ≤ 131072
  fits = omega (arith, there, up, below, inside, e)

  front : length (take kept moved) ≡ kept
  front = length-take-le kept moved (omega (arith, fits, long))

  goes_on : take (kept + more) (take kept moved ++ (room ++ post)) ≡ take 24 w ++ (drop at w ++ take more room)
  goes_on =
      ap (λ (k : ℕ). take (k + more) (take kept moved ++ (room ++ post))) (sym front)
      ∙ take-append-add (take kept moved) (room ++ post) more
      ∙ ap (λ (t : List ℕ). take kept moved ++ t) (take-append-le more room post came)
      ∙ ap (λ (t : List ℕ). t ++ take more room) (f ∙ (λ i. header bytes w have (omega (arith, there, up, below)) view i ++ drop at (view i)))
      ∙ append_assoc (take 24 w) (drop at w) (take more room)

  pub refilled : Refills w (take (kept + more) (take kept moved ++ (room ++ post))) at more
  refilled = record {
    bytes = take more room;
    so_many = sym (length-take-le more room came);
    holds = goes_on;
    inside = omega (arith, length-take (kept + more) (take kept moved ++ (room ++ post)), fits, rest, came);
  }
