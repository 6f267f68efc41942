-- Laws of `with_room_lem`: what is counted with a list is all that the file holds.
use mathlib.Core.Path.{◌≡◌, refl, sym, ap, ◌∙◌}
use mathlib.Core.Bool.{Bool, true, false, cond}
use mathlib.Core.List.{List, [], ◌++◌}
use Prim.Native.Nat.{ℕ, ◌≤◌}
use native.Mathlib.Omega.{arith}
use lib.Dec.{ltb}
use lib.ListN.{length, drop}
use borrow.Author.Tests.{ltb-false}
use Rattle.numbers.specs.Numbers.{Answer, gives, refuses, mapped}
use Rattle.numbers.proofs.Answers.{given}
use Rattle.numbers.proofs.Firm.{never}
use Rattle.captures.specs.declared.Frame.{Frame}
use Rattle.captures.specs.declared.FrameCount.{FrameCount}
use Rattle.captures.specs.Reading.{file_order, records_in, Capture, capture_in, frames_counted, with_room_lem, frames_left}
use Rattle.captures.specs.PrivateReading.{frames_by, frames_from}
use Rattle.captures.proofs.Checking.{held, none_held}

counted : (c : Capture) (d : FrameCount) → gives d ≡ frames_counted (gives c) → d ≡ record { handed = length c.frames; passed_over = c.others }
counted c d e = given _ _ e

-- what a file holds is what the steps from 24 on find
all_frames : (s : List ℕ) (c : Capture) → capture_in s ≡ gives c → c.frames ≡ frames_from s 24
all_frames s c e = by_header (file_order s) refl
  where
    by_end : (end : Answer ℕ) (b : Capture) → mapped (λ _. b) end ≡ gives c → c.frames ≡ b.frames
    by_end (gives n) b f = ap (λ (x : Capture). x.frames) (sym (given _ _ f))
    by_end (refuses n vs) b f = never _ _ _ (sym f)

    by_header : (a : Answer Bool) → a ≡ file_order s → c.frames ≡ frames_from s 24
    by_header (gives o) f = by_end (records_in o s).end _ (held s o f ∙ e) ∙ ap (λ (a : Answer Bool). frames_by a s 24) f
    by_header (refuses n vs) f = never _ _ _ (sym (none_held s n vs f ∙ e))

-- what is counted with a list of that room: all that the file holds, and there is room for it
pub record Listed (s : List ℕ) (room : ℕ) (d : FrameCount) : Type 0 where
  pub room_for_lem : d.handed ≤ room
  pub all : d.handed ≡ length (frames_from s 24)
  pub left : (ys : List Frame) → frames_left (with_room_lem room (capture_in s)) ys ≡ frames_from s 24 ++ drop d.handed ys

pub listed : (s : List ℕ) (room : ℕ) (d : FrameCount) → gives d ≡ frames_counted (with_room_lem room (capture_in s)) → Listed s room d
listed s room d e = by_capture (capture_in s) refl e
  where
    by_test : (c : Capture) (b : Bool) → capture_in s ≡ gives c → ltb room (length c.frames) ≡ b → gives d ≡ frames_counted (cond b (refuses 14 []) (gives c)) → Listed s room d
    by_test c true f g e = never _ _ _ e
    by_test c false f g e =
        let n : d.handed ≡ length c.frames = ap (λ (x : FrameCount). x.handed) (counted c d e) in
        let all = all_frames s c f in
        record {
          room_for_lem = omega (arith, ltb-false room (length c.frames) g);
          all = n ∙ ap length all;
          left = λ ys. rw (f, g, n, all);
        }

    by_capture : (a : Answer Capture) → capture_in s ≡ a → gives d ≡ frames_counted (with_room_lem room a) → Listed s room d
    by_capture (refuses n vs) f e = never _ _ _ e
    by_capture (gives c) f e = by_test c (ltb room (length c.frames)) f refl e
