-- The windows of a file, one after the other, do what the file does whole (rule H10).
use mathlib.Core.Path.{◌≡◌, refl, sym, ap, ◌∙◌, subst}
use mathlib.Core.Bool.{true, false, true≢false}
use mathlib.Core.List.{List, [], ◌∷◌, ◌++◌, append_assoc, append-nil}
use Prim.Native.Nat.{ℕ, ◌+◌, ◌-◌, ◌≤◌}
use native.Mathlib.Omega.{arith}
use lib.ListN.{length, take, drop, length-append, take-append-drop}
use lib.Seq.{drop-append-add, length-take-le}
use Rattle.numbers.specs.Numbers.{Answer, gives, refuses}
use Rattle.numbers.specs.Bytes.{AllBytes}
use Rattle.machines.specs.Happened.{Asks}
use Rattle.walking.specs.Steps.{Ahead, ended, passed, last}
use Rattle.captures.specs.HandedBack.{Arrived}
use Rattle.captures.specs.Reading.{Captured, file_step}
use Rattle.captures.proofs.Checking.{forward}
use Rattle.house.specs.House.{House, after_brought}
use Rattle.house.specs.Story.{after_one, after_records}
use Rattle.house.specs.Windows.{records_from, stop_of, window_of, file_around, onwards, after_file, left_in, shortened, Coming, read, skip, bytes_coming, after_windows, SkipsLong}
use Rattle.house.proofs.Windows.{one_ahead, long_w, long_s, step_back, in_window}
use Rattle.house.proofs.Stops.{goes_over_lem, Over, Stops, here, onward, past, stops, bounds, none_there, none_here}
use Rattle.house.proofs.Hearing.{none_heard, one_heard}
use Rattle.house.proofs.Overrun.{overrun}

is_over : (s : List ℕ) (at : ℕ) → (d : Captured) × ((to : ℕ) × (gives (passed d to) ≡ file_step s at)) → Over s at true
is_over s at found = ap goes_over_lem (sym found.1.1)

module _ (room : ℕ) (h : List ℕ) (header : length h ≡ 24) (all : AllBytes h) where
  -- the house after a file's records from an offset on
  abbrev heard_from : List ℕ → House → ℕ → House
  heard_from s z at = after_records room s z (records_from s at)

  -- the file's records are the window's, and then those from where the window's stop
  module _ (b p l : List ℕ) where
    abbrev w : List ℕ
    w = window_of h p

    abbrev s : List ℕ
    s = file_around h b p l

    one_window : {at stop : ℕ} → 24 ≤ at → Stops w at stop → (z : House) → heard_from s z (length b + at) ≡ heard_from s (heard_from w z at) (length b + stop)
    one_window up (here {at} none) z = ap (λ (y : House). heard_from s y (length b + at)) (sym (none_heard room w z (records_from w at) (none_here w at none)))
    one_window up (onward {at} {next} {stop} {c} e g) z =
        let same = in_window h b p l header at up c next (sym e) in
        ap (after_records room s z) (one_ahead s (length b + at) (onwards (length b) c) (length b + next) (sym same.same_step))
        ∙ one_heard room s z (onwards (length b) c) (records_from s (length b + next))
        ∙ ap (λ (y : Asks Arrived). heard_from s (after_brought room z y) (length b + next)) same.same_brought
        ∙ one_window (omega (arith, (forward w at c next e).0)) g (after_one room w z c)
        ∙ ap (λ (y : House). heard_from s y (length b + stop)) (sym (one_heard room w z c (records_from w next)) ∙ ap (after_records room w z) (sym (one_ahead w at c next e)))

  -- where a window has no record, the file that ends with it has none
  none_on : (b p : List ℕ) (at : ℕ) → 24 ≤ at → Over (window_of h p) at false → Over (h ++ (b ++ p)) (length b + at) false
  none_on b p at up none = subst (λ (q : List ℕ). Over (h ++ (b ++ q)) (length b + at) false) (append-nil p) (by_step (file_step (file_around h b p []) (length b + at)) refl)
    where
      by_step : (x : Answer (Ahead Captured)) → x ≡ file_step (file_around h b p []) (length b + at) → goes_over_lem x ≡ false
      by_step (gives (passed c next)) e =
          let o = forward (file_around h b p []) (length b + at) c next e in
          let size : length (file_around h b p []) ≡ length b + length (window_of h p) = omega (arith, long_s h b p [] header, long_w h b p [] header) in
          let back = step_back h b p [] header at up c next e (omega (arith, o.1, size)) in
          absurd (true≢false (sym (is_over (window_of h p) at back) ∙ none))
      by_step (gives (last c end)) e = refl
      by_step (gives ended) e = refl
      by_step (refuses n vs) e = refl

  -- what is left moves to the start of the next window
  module _ (b p l : List ℕ) (k stop : ℕ) (at : stop ≡ 24 + k) (inside : k ≤ length p) where
    left_is : drop stop (window_of h p) ≡ drop k p
    left_is = let there : stop ≡ length h + k = omega (arith, header) in ap (λ (n : ℕ). drop n (h ++ p)) there ∙ drop-append-add h p k

    moved : (b ++ take k p) ++ drop stop (window_of h p) ≡ b ++ p
    moved =
        ap (λ (q : List ℕ). (b ++ take k p) ++ q) left_is
        ∙ append_assoc b (take k p) (drop k p)
        ∙ ap (λ (q : List ℕ). b ++ q) (take-append-drop k p)

    all_moved : (b ++ take k p) ++ (drop stop (window_of h p) ++ l) ≡ b ++ (p ++ l)
    all_moved = sym (append_assoc (b ++ take k p) (drop stop (window_of h p)) l) ∙ ap (λ (q : List ℕ). q ++ l) moved ∙ append_assoc b p l

    further : length (b ++ take k p) + 24 ≡ length b + stop
    further = omega (arith, length-append b (take k p), length-take-le k p inside)

  -- `b` is gone over already, and `left` has no record of its own
  told : (cs : List Coming) (z : House) (b left : List ℕ) → Over (h ++ (b ++ left)) (length b + 24) false → SkipsLong h left cs → after_windows room h z left cs ≡ heard_from (h ++ (b ++ (left ++ bytes_coming cs))) z (length b + 24)
  told [] z b left none skips =
      sym (none_heard room (h ++ (b ++ (left ++ []))) z (records_from (h ++ (b ++ (left ++ []))) (length b + 24)) (none_here (h ++ (b ++ (left ++ []))) (length b + 24) (subst (λ (q : List ℕ). Over (h ++ (b ++ q)) (length b + 24) false) (sym (append-nil left)) none)))
  told (read bytes ∷ cs) z b left none skips =
      let p = left ++ bytes in
      let w = window_of h p in
      let stop = stop_of w 24 in
      let within = bounds w (omega (arith, long_w h b p [] header)) (stops w 24) in
      let k = stop - 24 in
      let at : stop ≡ 24 + k = omega (arith, within.0) in
      let inside : k ≤ length p = omega (arith, within.1, long_w h b p [] header) in
      let none' : Over (h ++ ((b ++ take k p) ++ left_in w)) (length (b ++ take k p) + 24) false =
      ap goes_over_lem (λ i. file_step (h ++ moved b p [] k stop at inside i) (further b p [] k stop at inside i)) ∙ none_on b p stop within.0 (none_there w (stops w 24)) in
      told cs (after_file room z w) (b ++ take k p) (left_in w) none' skips
      ∙ (λ i. heard_from (h ++ all_moved b p (bytes_coming cs) k stop at inside i) (after_file room z w) (further b p [] k stop at inside i))
      ∙ sym (one_window b p (bytes_coming cs) (omega arith) (stops w 24) z)
      ∙ ap (λ (q : List ℕ). heard_from (h ++ (b ++ q)) z (length b + 24)) (append_assoc left bytes (bytes_coming cs))
  told (skip bytes ∷ cs) z b left none skips =
      let z' = after_file room z (shortened (window_of h left)) in
      let b' = b ++ (left ++ bytes) in
      let size : length b' ≡ length b + (length left + length bytes) = omega (arith, length-append b (left ++ bytes), length-append left bytes) in
      let none' : Over (h ++ (b' ++ [])) (length b' + 24) false = past (h ++ (b' ++ [])) (length b' + 24) (omega (arith, long_s h b' [] [] header)) in
      let same : b' ++ bytes_coming cs ≡ b ++ (left ++ (bytes ++ bytes_coming cs)) = simp append_assoc in
      let further : length b' + 24 ≡ length b + 24 + length left + length bytes = omega (arith, size) in
      told cs z' b' [] none' skips.1.1
      ∙ (λ i. heard_from (h ++ same i) z' (further i))
      ∙ overrun h header all b left bytes (bytes_coming cs) skips.0 skips.1.0 room z

  pub windows : (z : House) (cs : List Coming) → SkipsLong h [] cs → after_windows room h z [] cs ≡ heard_from (h ++ bytes_coming cs) z 24
  windows z cs skips = told cs z [] [] (past (h ++ []) 24 (omega (arith, long_s h [] [] [] header))) skips
