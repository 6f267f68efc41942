-- What a turn of the program does, and its turns one after the other: the windows of a file (rule H10).
use Rattle.std.proofs.Common.{◌≡◌, ℕ, ◌≤◌, List, [], ◌∷◌, ◌++◌, length, take, drop, sym, refl, ap, ◌∙◌, subst, append-nil, arith, length-append, take-append-drop, length-take-le, take_all, take-take, take_at}
use lib.Seq.{take-append-le}
use Rattle.house.specs.House.{House}
use Rattle.house.specs.Story.{after_records}
use Rattle.house.specs.Windows.{records_from, stop_of, left_in, window_of, shortened, after_file, Coming, read, skip, after_windows}
use Rattle.house.proofs.Stops.{stops, bounds}
use Rattle.watch.specs.Refills.{Refills}
use Rattle.watch.specs.Turns.{Turns, goes_on, overruns, ByWindows}

-- no bytes
none : (l : List ℕ) → length l ≡ 0 → l ≡ []
none [] e = refl
none (x ∷ l) e = absurd (omega (arith, e))

-- the first bytes are those of the window
head_kept : (w l : List ℕ) → 24 ≤ length w → take 24 (take 24 w ++ l) ≡ take 24 w
head_kept w l h = take_at (take 24 w) l 24 (length-take-le 24 w h)

head_shortened : (s : List ℕ) → 32 ≤ length s → take 24 (shortened s) ≡ take 24 s
unfolding shortened
head_shortened s h = take-append-le 24 (take 32 s) _ (omega (arith, length-take-le 32 s h)) ∙ take-take 24 32 s (omega arith)

shortened_low : (s : List ℕ) → 32 ≤ length s → 24 ≤ length (shortened s)
unfolding shortened
shortened_low s h = simp length-append (omega (arith, length-take-le 32 s h))

-- the file header of a window that is shortened
pub header_alone : (w s next : List ℕ) → length w ≡ 131072 → s ≡ shortened w → (24 ≤ length s → next ≡ take 24 s) → next ≡ take 24 (shortened w)
header_alone w s next full e goes = goes (omega (arith, ap length e, shortened_low w (omega (arith, full)))) ∙ ap (take 24) e

-- the window w is heard up to where its records stop, and w' is the next one
module _ (n : ℕ) (z z₁ : House) (w w' seen : List ℕ) (stop more : ℕ) (low : 24 ≤ length w) (e : seen ≡ w) (told : z₁ ≡ after_records n seen z (records_from seen 24)) (stopped : stop ≡ stop_of seen 24)
    (refills : 24 ≤ stop → stop ≤ length w → Refills w w' stop more) where
  heard : z₁ ≡ after_file n z w
  heard = told ∙ (λ i. after_records n (e i) z (records_from (e i) 24))

  stop_is : stop ≡ stop_of w 24
  stop_is = stopped ∙ ap (λ (s : List ℕ). stop_of s 24) e

  within : (24 ≤ stop) × (stop ≤ length w)
  within = let o = bounds w low (stops w 24) in (omega (arith, stop_is, o.0), omega (arith, stop_is, o.1))

  refilled : Refills w w' stop more
  refilled = refills within.0 within.1

  holds : w' ≡ take 24 w ++ (left_in w ++ refilled.bytes)
  holds = refilled.holds ∙ ap (λ (k : ℕ). take 24 w ++ (drop k w ++ refilled.bytes)) stop_is

  at_least : 24 ≤ length w'
  at_least = omega (arith, ap length holds, length-append (take 24 w) (left_in w ++ refilled.bytes), length-take-le 24 w low)

  -- the turn, and that the next window has a file header too
  pub went_on : Turns n w w' z z₁ × (24 ≤ length w')
  went_on = (goes_on refilled.bytes holds heard, at_least)

  module _ (z₂ : House) (w'' : List ℕ) (n' : ℕ) (nothing : more ≤ 0) (full : length w' ≡ 131072) (same : n' ≡ n) (long-told : z₂ ≡ after_file n' z₁ (shortened w')) (f : w'' ≡ take 24 (shortened w')) where
    all : w' ≡ take 24 w ++ left_in w
    all =
        holds
        ∙ ap (λ (l : List ℕ). take 24 w ++ (left_in w ++ l)) (none refilled.bytes (omega (arith, refilled.so_many, nothing)))
        ∙ ap (λ (l : List ℕ). take 24 w ++ l) (append-nil (left_in w))

    next : w'' ≡ take 24 w
    next = f ∙ head_shortened w' (omega (arith, full)) ∙ ap (take 24) all ∙ head_kept w (left_in w) low

    pub overran : Turns n w w'' z z₂ × (24 ≤ length w'')
    overran = (
      overruns next (sym (ap length all) ∙ full) (long-told ∙ (λ i. after_file (same i) (heard i) (shortened (all i)))),
      omega (arith, ap length next, length-take-le 24 w low),
    )

-- the windows so far
abbrev left_after : (header left : List ℕ) → List Coming → List ℕ
left_after header left [] = left
left_after header left (read bytes ∷ cs) = left_after header (left_in (window_of header (left ++ bytes))) cs
left_after header left (skip bytes ∷ cs) = left_after header [] cs

module _ (n : ℕ) (header : List ℕ) where
  one_more : (z : House) (left : List ℕ) (cs : List Coming) (c : Coming)
      → (after_windows n header z left (cs ++ (c ∷ [])) ≡ after_windows n header (after_windows n header z left cs) (left_after header left cs) (c ∷ []))
      × (left_after header left (cs ++ (c ∷ [])) ≡ left_after header (left_after header left cs) (c ∷ []))
  one_more z left [] c = (refl, refl)
  one_more z left (read bytes ∷ cs) c = one_more (after_file n z (window_of header (left ++ bytes))) (left_in (window_of header (left ++ bytes))) cs c
  one_more z left (skip bytes ∷ cs) c = one_more (after_file n z (shortened (window_of header left))) [] cs c

-- the windows `told` are heard, and the window w is the next one
pub record Telling (n : ℕ) (z₀ z : House) (w : List ℕ) : Type 0 where
  header : List ℕ
  told : List Coming
  new : List ℕ
  is_header : take 24 w ≡ header
  heard : z ≡ after_windows n header z₀ [] told
  next : w ≡ window_of header (left_after header [] told ++ new)

pub begins : (n : ℕ) (z : House) (w : List ℕ) → Telling n z z w
begins n z w = record { header = take 24 w; told = []; new = drop 24 w; is_header = refl; heard = refl; next = sym (take-append-drop 24 w) }

pub ends : (n : ℕ) (z₀ z : House) (w : List ℕ) → Telling n z₀ z w → ByWindows n z₀ z
ends n z₀ z w t = record { file_header = t.header; comings = t.told; heard = t.heard }

module _ (n : ℕ) (z₀ z z' : House) (w w' : List ℕ) (low : 24 ≤ length w) (t : Telling n z₀ z w) where
  abbrev header : List ℕ
  header = t.header

  -- the window that was the next one is heard
  abbrev cs : List Coming
  cs = t.told ++ (read t.new ∷ [])

  so_far : after_file n z w ≡ after_windows n header z₀ [] cs
  so_far = (λ i. after_file n (t.heard i) (t.next i)) ∙ sym (one_more n header z₀ [] t.told (read t.new)).0

  so_left : left_in w ≡ left_after header [] cs
  so_left = ap left_in t.next ∙ sym (one_more n header z₀ [] t.told (read t.new)).1

  turned : Turns n w w' z z' → Telling n z₀ z' w'
  turned (goes_on bytes e f) = record {
    header = header;
    told = cs;
    new = bytes;
    is_header = ap (take 24) e ∙ head_kept w (left_in w ++ bytes) low ∙ t.is_header;
    heard = f ∙ so_far;
    next = e ∙ (λ i. t.is_header i ++ (so_left i ++ bytes));
  }
  turned (overruns e full f) = record {
    header = header;
    told = cs ++ (skip [] ∷ []);
    new = [];
    is_header = ap (take 24) e ∙ take_all 24 (take 24 w) (omega (arith, length-take-le 24 w low)) ∙ t.is_header;
    heard = f ∙ (λ i. after_file n (so_far i) (shortened (t.is_header i ++ so_left i))) ∙ sym (one_more n header z₀ [] cs (skip [])).0;
    next = e ∙ t.is_header ∙ sym (append-nil header) ∙ ap (λ (l : List ℕ). header ++ (l ++ [])) (sym (one_more n header z₀ [] cs (skip [])).1);
  }

  -- `n'` is what the code takes the output's length for
  pub turned_so : (n' : ℕ) → n' ≡ n → Turns n' w w' z z' → Telling n z₀ z' w'
  turned_so n' e t' = turned (subst (λ (k : ℕ). Turns k w w' z z') e t')
