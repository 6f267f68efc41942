-- What the checker's loop keeps: from fragment i on they go as far as all of them do.
use Rattle.std.specs.Prelude.{Option, Some, option_and_then, Err}
use mathlib.Core.Path.{◌≡◌, sym, ap, ◌∙◌}
use mathlib.Core.Bool.{Bool}
use mathlib.Core.List.{List}
use Prim.Native.Nat.{ℕ, ◌+◌, ◌≤◌, ◌<◌}
use native.Mathlib.Numerals.{add-one}
use lib.ListN.{length, get_or, drop, drop_of_length-le}
use lib.Seq.{drop-cons}
use Rattle.numbers.specs.Numbers.{gives}
use Rattle.cutting.specs.Cuts.{tlvs_of, no_fragment, is_cutting_lem, check_of}
use Rattle.walking.specs.Walk.{payload_answered}
use Rattle.cutting.specs.PrivateFollowing.{alone, taken_by, followed_from, all_followed}
use Rattle.walking.specs.declared.PayloadError.{PayloadError}
use Rattle.cutting.specs.declared.Proposed.{Proposed}
use Rattle.cutting.specs.declared.following.Reached.{Reached}
use Rattle.cutting.proofs.Whole.{with_tlvs, without_tlvs}

module _ (m : List ℕ) (fs : List Proposed) (ps : List ℕ) where
  abbrev pub Checking : ℕ → Reached → Type 0
  Checking i d = followed_from m ps d (drop i fs) ≡ all_followed m ps fs

  module _ (i : ℕ) (d : Reached) (w : Checking i d) where
    pub one_more : i < length fs → (r : Option Reached) → r ≡ taken_by m ps d (get_or fs i no_fragment) → option_and_then (λ t. followed_from m ps t (drop (i + 1) fs)) r ≡ all_followed m ps fs
    unfolding followed_from
    one_more l r e = rw (e, add-one i) (ap (followed_from m ps d) (sym (drop-cons fs i no_fragment l)) ∙ w)

    pub ends : length fs ≤ i → Some d ≡ all_followed m ps fs
    unfolding followed_from
    ends l = ap (followed_from m ps d) (sym (drop_of_length-le fs l)) ∙ w

  -- the message is whole TLVs, so the answer is whether they are a cutting of it
  pub answers : gives (tt {0}) ≡ alone m → (b : Bool) → b ≡ is_cutting_lem m ps fs → gives b ≡ check_of m fs ps
  unfolding check_of
  answers whole b e = ap gives e ∙ with_tlvs (tlvs_of m) (is_cutting_lem m ps fs) whole

  -- the message's own refusal
  pub refused : (error : PayloadError) → payload_answered {A = Unit {0}} (Err error) ≡ alone m → payload_answered (Err error) ≡ check_of m fs ps
  unfolding check_of
  refused (PayloadError.Unwalked u) e = without_tlvs (tlvs_of m) (is_cutting_lem m ps fs) _ _ e
  refused (PayloadError.Refused r) e = without_tlvs (tlvs_of m) (is_cutting_lem m ps fs) _ _ e
