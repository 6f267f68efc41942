-- The 1905 frames ahead of an offset, step by step, and what the loop that fills the list keeps.
use Rattle.std.specs.Prelude.{Option, Some, None, IsSome}
use mathlib.Core.Path.{◌≡◌, refl, sym, ap, ◌∙◌}
use mathlib.Core.Bool.{Bool}
use mathlib.Core.List.{List, [], ◌∷◌, ◌++◌}
use Prim.Native.Nat.{ℕ, suc, ◌+◌, ◌≤◌, ◌<◌}
use native.Mathlib.Omega.{arith}
use native.Mathlib.Numerals.{add-one}
use lib.ListN.{length, get_or, take, drop, set, length-drop}
use lib.Seq.{drop-cons, take-suc, take-suc-set, take_all}
use Rattle.numbers.specs.Numbers.{Answer, gives, refuses}
use Rattle.numbers.proofs.Firm.{never}
use Rattle.walking.specs.Steps.{ended, passed, Walk}
use Rattle.captures.specs.declared.Frame.{Frame}
use Rattle.captures.specs.declared.Handed.{Handed}
use Rattle.captures.specs.Reading.{Captured, ours, other, file_order, file_step, frames_in}
use Rattle.captures.specs.PrivateReading.{frames_by, frames_from, Hands}
use Rattle.captures.proofs.Walks.{ahead, no_more, goes_on, stops, Under, in_order, no_file, under}

module _ (s : List ℕ) (at : ℕ) where
  -- by the walk of a file whose file header is in order
  by_walk : (o : Bool) (l : List Frame) → gives o ≡ file_order s → frames_in (ahead o s at).items ≡ l → frames_from s at ≡ l
  by_walk o l e f = ap (λ (a : Answer Bool). frames_by a s at) (sym e) ∙ f

  pub ours_ahead : (f : Frame) (next : ℕ) → gives (passed (ours f) next) ≡ file_step s at → frames_from s at ≡ f ∷ frames_from s next
  ours_ahead f next e = by_header (under s at _ e)
    where
      by_header : Under s at (gives (passed (ours f) next)) → frames_from s at ≡ f ∷ frames_from s next
      by_header (no_file n vs g h) = never _ _ _ h
      by_header (in_order o g h) = by_walk o _ g (ap (λ (w : Walk Captured). frames_in w.items) (goes_on o s at (ours f) next h) ∙ ap (λ (a : Answer Bool). f ∷ frames_by a s next) g)

  pub other_ahead : (next : ℕ) → gives (passed other next) ≡ file_step s at → frames_from s at ≡ frames_from s next
  other_ahead next e = by_header (under s at _ e)
    where
      by_header : Under s at (gives (passed other next)) → frames_from s at ≡ frames_from s next
      by_header (no_file n vs g h) = never _ _ _ h
      by_header (in_order o g h) = by_walk o _ g (ap (λ (w : Walk Captured). frames_in w.items) (goes_on o s at other next h) ∙ ap (λ (a : Answer Bool). frames_by a s next) g)

  pub none_ahead : gives ended ≡ file_step s at → frames_from s at ≡ []
  none_ahead e = by_header (under s at _ e)
    where
      by_header : Under s at (gives ended) → frames_from s at ≡ []
      by_header (no_file n vs g h) = never _ _ _ h
      by_header (in_order o g h) = by_walk o _ g (ap (λ (w : Walk Captured). frames_in w.items) (no_more o s at h))

  pub none_past : (n : ℕ) (vs : List ℕ) → refuses n vs ≡ file_step s at → frames_from s at ≡ []
  none_past n vs e = by_header (under s at _ e)
    where
      by_header : Under s at (refuses n vs) → frames_from s at ≡ []
      by_header (no_file m us g h) = ap (λ (a : Answer Bool). frames_by a s at) (sym g)
      by_header (in_order o g h) = by_walk o _ g (ap (λ (w : Walk Captured). frames_in w.items) (stops o s at n vs h))

  -- where there is one ahead, it is handed
  pub some_handed : (r : Option Handed) → Hands s at r → 0 < length (frames_from s at) → IsSome r
  some_handed (Some h) e l = refl
  some_handed None e l = absurd (omega (arith, ap length e))

module _ (s : List ℕ) where
  abbrev ts : List Frame
  ts = frames_from s 24

  pub record Filled (i at : ℕ) (zs : List Frame) : Type 0 where
    pub so_far : take i zs ≡ take i ts
    pub here : drop i ts ≡ frames_from s at

  module _ (i at : ℕ) (zs : List Frame) (f : Filled i at zs) where
    module _ (l : i < length ts) where
      pub more : (r : Option Handed) → Hands s at r → IsSome r
      more r e = some_handed s at r e (omega (arith, ap length f.here, length-drop i ts))

      pub goes_over : i < length zs → (h : Handed) (r : Option Handed) → r ≡ Some h → Hands s at r → Filled (i + 1) h.next (set zs i h.frame)
      goes_over room h r is hands =
          let split : get_or ts i h.frame ∷ drop (suc i) ts ≡ h.frame ∷ frames_from s h.next = sym (drop-cons ts i h.frame l) ∙ f.here ∙ rw is at hands in
          let t : h.frame ≡ get_or ts i h.frame = sym (ap (λ (l : List Frame). get_or l 0 h.frame) split) in
          record {
            so_far = ap (λ (m : ℕ). take m (set zs i h.frame)) (add-one i) ∙ take-suc-set zs i h.frame room ∙ rw f.so_far (ap (λ (x : Frame). take i ts ++ (x ∷ [])) t ∙ sym (take-suc ts i h.frame l)) ∙ ap (λ (m : ℕ). take m ts) (sym (add-one i));
            here = ap (λ (m : ℕ). drop m ts) (add-one i) ∙ ap (λ (l : List Frame). drop 1 l) split;
          }

    -- as many as there are
    pub ends : length zs ≤ i → length ts ≤ i → zs ≡ ts
    ends room l = sym (take_all i zs room) ∙ f.so_far ∙ take_all i ts l
