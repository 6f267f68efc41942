-- Laws of `is1905` and of `captured_at`: which frames are handed back, and as what.
use Rattle.std.specs.Prelude.{Result, Ok, Err, IsOk}
use mathlib.Core.Path.{◌≡◌, refl, sym, ◌∙◌}
use mathlib.Core.Bool.{Bool, true, false, cond}
use mathlib.Core.List.{List}
use Prim.Native.Nat.{ℕ, ◌+◌, ◌-◌, ◌≤◌}
use native.Mathlib.Omega.{arith}
use lib.Dec.{eqb, ltb}
use lib.ListN.{length, take, drop, length-drop}
use borrow.Author.Tests.{ltb-false}
use Rattle.numbers.specs.Numbers.{gives, answered}
use Rattle.numbers.specs.declared.Refusal.{Refusal}
use Rattle.numbers.specs.Bytes.{number_at}
use Rattle.numbers.proofs.Answers.{given}
use Rattle.numbers.proofs.Firm.{never}
use Rattle.framing.specs.declared.CmduHeader.{CmduHeader}
use Rattle.framing.specs.Cmdu.{header_in, read_header}
use Rattle.framing.proofs.Heading as cmdu
use Rattle.records.specs.Values.{address_at_lem}
use Rattle.walking.proofs.Stepping.{whole_rest}
use Rattle.captures.specs.Form.{Stored, ether_type, is1905}
use Rattle.captures.specs.Reading.{ours, captured_at}

module _ (frame : List ℕ) where
  pub long : is1905 frame ≡ true → 22 ≤ length frame
  long e = ltb-false (length frame) 22 (by_test (ltb (length frame) 22) (eqb (number_at 2 12 frame) ether_type) e)
    where
      by_test : (x y : Bool) → cond x false y ≡ true → x ≡ false
      by_test true y f = let z : ◌≡◌ {A = ℕ} 0 1 = cc in absurd (omega arith)
      by_test false y f = refl

  -- its CMDU header reads, in the part that the code lends
  module _ (is : is1905 frame ≡ true) where
    reads : gives (header_in (drop 14 frame)) ≡ read_header (take (length frame - 14) (drop 14 frame))
    reads = rw (whole_rest frame 14) (cmdu.whole (drop 14 frame) _ _ (simp length-drop (omega (arith, long is))) refl refl)

    pub is_read : (r : Result CmduHeader Refusal) → answered r ≡ read_header (take (length frame - 14) (drop 14 frame)) → IsOk r
    is_read (Ok h) e = refl
    is_read (Err r) e = never _ _ _ (reads ∙ sym e)

    pub header_is : (h : CmduHeader) → gives h ≡ read_header (take (length frame - 14) (drop 14 frame)) → h ≡ header_in (drop 14 frame)
    header_is h e = given _ _ (e ∙ sym reads)

module _ (at : ℕ) (r : Stored) where
  pub as_ours : is1905 r.frame ≡ true → (h : CmduHeader) → h ≡ header_in (drop 14 r.frame)
      → ours (record { seconds = r.seconds; microseconds = r.microseconds; sender = address_at_lem r.frame 6; cmdu = h; offset = at + 38; length = length r.frame - 22 }) ≡ captured_at at r
  as_ours is h e = rw (is, e)
