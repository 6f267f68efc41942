-- What the loop of the check keeps, and how a turn goes on or ends: from `at` on stand the records that are not counted
-- yet.
use mathlib.Core.Path.{◌≡◌, refl, sym, ap, ◌∙◌}
use mathlib.Core.Bool.{Bool}
use mathlib.Core.List.{List, ◌∷◌}
use Prim.Native.Nat.{ℕ, ◌+◌, ◌<◌, ◌≤◌}
use native.Mathlib.Omega.{arith}
use lib.ListN.{length}
use Rattle.numbers.specs.Numbers.{Answer, gives, refuses, and_then, mapped}
use Rattle.numbers.proofs.Firm.{never}
use Rattle.walking.specs.Steps.{ended, passed, Walk}
use Rattle.captures.specs.declared.Frame.{Frame}
use Rattle.captures.specs.Reading.{Captured, ours, other, file_order, file_step, records_in, frames_in, others_in_lem, Capture, capture_in, frames_counted}
use Rattle.captures.proofs.Records.{passes}
use Rattle.captures.proofs.Walks.{ahead, no_more, goes_on, stops, in_file, Under, in_order, no_file, under}

module _ (s : List ℕ) where
  -- what a file holds whose file header is in order, and what one holds whose file header isn't
  abbrev held_by_lem : Walk Captured → Answer Capture
  held_by_lem w = mapped (λ _. record { frames = frames_in w.items; others = others_in_lem w.items }) w.end

  pub held : (o : Bool) → gives o ≡ file_order s → held_by_lem (records_in o s) ≡ capture_in s
  unfolding capture_in
  held o e = ap (λ (a : Answer Bool). and_then a (λ highFirst. held_by_lem (records_in highFirst s))) e

  pub none_held : (n : ℕ) (vs : List ℕ) → refuses n vs ≡ file_order s → refuses n vs ≡ capture_in s
  unfolding capture_in
  none_held n vs e = ap (λ (a : Answer Bool). and_then a (λ highFirst. held_by_lem (records_in highFirst s))) e

  -- of a file whose numbers stand in the order o: n frames and k others are counted, and the others are from `at` on
  pub record Left (o : Bool) (at n k : ℕ) : Type 0 where
    frames_are : n + length (frames_in (ahead o s at).items) ≡ length (frames_in (records_in o s).items)
    others_are : k + others_in_lem (ahead o s at).items ≡ others_in_lem (records_in o s).items
    ends_so : (ahead o s at).end ≡ (records_in o s).end

  pub record Counting (at n k : ℕ) : Type 0 where
    pub slow : n + k ≤ at
    pub left : (o : Bool) → gives o ≡ file_order s → Left o at n k

  pub begins : Counting 24 0 0
  begins = record { slow = omega arith; left = λ o e. record { frames_are = omega arith; others_are = omega arith; ends_so = refl } }

  module _ (at : ℕ) where
    -- a step that goes over a record goes forward inside the file
    pub forward : (c : Captured) (next : ℕ) → gives (passed c next) ≡ file_step s at → (at < next) × (next ≤ length s)
    forward c next e = by_header (under s at _ e)
      where
        by_header : Under s at (gives (passed c next)) → (at < next) × (next ≤ length s)
        by_header (in_order o f g) = let p = passes o s at c next g in (omega (arith, p.behind), p.inside)
        by_header (no_file n vs f g) = never _ _ _ g

    module _ (n k : ℕ) (counting : Counting at n k) where
      turns : (c : Captured) (next n' k' : ℕ) → gives (passed c next) ≡ file_step s at → n' + k' ≡ n + k + 1
          → ((cs : List Captured) → n' + length (frames_in cs) ≡ n + length (frames_in (c ∷ cs))) → ((cs : List Captured) → k' + others_in_lem cs ≡ k + others_in_lem (c ∷ cs)) → Counting next n' k'
      turns c next n' k' e h frames others = record { slow = omega (arith, counting.slow, (forward c next e).0); left = by_order }
        where
          by_order : (o : Bool) → gives o ≡ file_order s → Left o next n' k'
          by_order o g =
              let l = counting.left o g in
              let w = goes_on o s at c next (e ∙ sym (in_file s at o g)) in
              record {
                frames_are = frames (ahead o s next).items ∙ ap (λ (v : Walk Captured). n + length (frames_in v.items)) (sym w) ∙ l.frames_are;
                others_are = others (ahead o s next).items ∙ ap (λ (v : Walk Captured). k + others_in_lem v.items) (sym w) ∙ l.others_are;
                ends_so = sym (ap (λ (v : Walk Captured). v.end) w) ∙ l.ends_so;
              }

      pub ours_next : (f : Frame) (next : ℕ) → gives (passed (ours f) next) ≡ file_step s at → Counting next (n + 1) k
      ours_next f next e = turns (ours f) next (n + 1) k e (omega arith) (λ cs. omega arith) (λ cs. refl)

      pub other_next : (next : ℕ) → gives (passed other next) ≡ file_step s at → Counting next n (k + 1)
      other_next next e = turns other next n (k + 1) e (omega arith) (λ cs. refl) (λ cs. omega arith)

      pub ends : gives ended ≡ file_step s at → gives (record { handed = n; passed_over = k }) ≡ frames_counted (capture_in s)
      ends e = by_header (under s at _ e)
        where
          by_header : Under s at (gives ended) → gives (record { handed = n; passed_over = k }) ≡ frames_counted (capture_in s)
          by_header (no_file m vs f g) = never _ _ _ g
          by_header (in_order o f g) =
              let l = counting.left o f in
              let w = no_more o s at g in
              let all : (records_in o s).end ≡ gives 0 = sym l.ends_so ∙ ap (λ (v : Walk Captured). v.end) w in
              let frames : n ≡ length (frames_in (records_in o s).items) = omega (arith, l.frames_are, ap (λ (v : Walk Captured). length (frames_in v.items)) w) in
              let others : k ≡ others_in_lem (records_in o s).items = omega (arith, l.others_are, ap (λ (v : Walk Captured). others_in_lem v.items) w) in
              rw (← held o f, all, frames, others)

      pub refused : (m : ℕ) (vs : List ℕ) → refuses m vs ≡ file_step s at → refuses m vs ≡ frames_counted (capture_in s)
      refused m vs e = ap frames_counted (by_header (under s at _ e))
        where
          by_header : Under s at (refuses m vs) → refuses m vs ≡ capture_in s
          by_header (no_file m' vs' f g) =
              let i : m ≡ m' = cc in
              let j : vs ≡ vs' = cc in
              rw (i, j) (none_held m' vs' f)
          by_header (in_order o f g) =
              let all : (records_in o s).end ≡ refuses m vs = sym (counting.left o f).ends_so ∙ ap (λ (v : Walk Captured). v.end) (stops o s at m vs g) in
              rw (← held o f, all)
