-- Laws of `tlvs_of` (rule M1): a message's TLVs are given where its walk comes to the end with no padding.
use Rattle.std.specs.Prelude.{Err}
use mathlib.Core.Path.{◌≡◌, refl, sym, ap, ◌∙◌}
use mathlib.Core.Bool.{Bool, true, false, cond, ◌&&◌}
use mathlib.Core.List.{List, []}
use Prim.Native.Nat.{ℕ}
use lib.Dec.{eqb, ltb}
use lib.ListN.{length}
use borrow.Author.Tests.{eqb-true, ne_eqb}
use Rattle.numbers.specs.Numbers.{Answer, gives, refuses, and_then, mapped, is_given}
use Rattle.numbers.proofs.Answers.{given}
use Rattle.numbers.proofs.Firm.{never}
use Rattle.walking.specs.declared.WalkCount.{WalkCount}
use Rattle.walking.specs.Walk.{walk_of, counted}
use Rattle.walking.specs.Pieces.{pieces}
use Rattle.walking.proofs.Listed.{ended_with, ended_by}
use Rattle.cutting.specs.Cuts.{tlvs_of, is_tlvs_lem}
use Rattle.walking.specs.Walk.{payload_answered}
use Rattle.walking.specs.declared.PayloadError.{PayloadError}
use Rattle.cutting.specs.PrivateFollowing.{alone}

module _ (m : List ℕ) where
  pub unwalked : (n : ℕ) (vs : List ℕ) → (walk_of m).end ≡ refuses n vs → tlvs_of m ≡ refuses n vs
  unfolding tlvs_of
  unwalked n vs e = rw e

  pub padded : (padding : ℕ) → (walk_of m).end ≡ gives padding → (padding ≡ 0 → ⊥) → tlvs_of m ≡ refuses 4 []
  unfolding tlvs_of
  padded padding e h = rw (e, ne_eqb padding 0 h)

  pub whole : (walk_of m).end ≡ gives 0 → tlvs_of m ≡ gives (pieces m)
  unfolding tlvs_of
  whole e = rw e

  -- the other way round
  pub record Are (ts : List (List ℕ)) : Type 0 where
    pub ends : (walk_of m).end ≡ gives 0
    pub pieces_are : pieces m ≡ ts

  pub given_tlvs : (ts : List (List ℕ)) → tlvs_of m ≡ gives ts → Are ts
  unfolding tlvs_of
  given_tlvs ts = by_end (walk_of m).end refl
    where
      by_padding : (padding : ℕ) (b : Bool) → (walk_of m).end ≡ gives padding → eqb padding 0 ≡ b → cond b (gives (pieces m)) (refuses 4 []) ≡ gives ts → Are ts
      by_padding padding true e f is = record { ends = e ∙ ap gives (eqb-true padding 0 f); pieces_are = given (pieces m) ts is }
      by_padding padding false e f is = never _ _ _ (sym is)

      by_end : (end : Answer ℕ) → (walk_of m).end ≡ end → and_then end (λ padding. cond (eqb padding 0) (gives (pieces m)) (refuses 4 [])) ≡ gives ts → Are ts
      by_end (gives padding) e is = by_padding padding (eqb padding 0) e refl is
      by_end (refuses n vs) e is = never _ _ _ (sym is)

  -- what a walk that was counted says
  pub says_whole : (c : WalkCount) → gives c ≡ counted (walk_of m) → c.padding ≡ 0 → gives (tt {0}) ≡ alone m
  says_whole c e z = rw (whole ((ended_with (walk_of m) c e).0 ∙ ap gives z))

  pub says_padded : (c : WalkCount) → gives c ≡ counted (walk_of m) → (c.padding ≡ 0 → ⊥) → refuses 4 [] ≡ alone m
  says_padded c e h = rw (padded c.padding (ended_with (walk_of m) c e).0 h)

  pub says_unwalked : (n : ℕ) (vs : List ℕ) → refuses n vs ≡ counted (walk_of m) → refuses n vs ≡ alone m
  says_unwalked n vs e = rw (unwalked n vs (ended_by (walk_of m) n vs e))

  -- one or more whole TLVs
  pub are_tlvs : gives (tt {0}) ≡ alone m → ltb 0 (length m) ≡ is_tlvs_lem m
  unfolding is_tlvs_lem
  are_tlvs e = by_given (tlvs_of m) e
    where
      by_given : (a : Answer (List (List ℕ))) → gives (tt {0}) ≡ mapped (λ tlvs. tt {0}) a → ltb 0 (length m) ≡ (is_given a && ltb 0 (length m))
      by_given (gives ts) e = refl
      by_given (refuses n vs) e = never _ _ _ e

  pub no_tlvs : (error : PayloadError) → payload_answered {A = Unit {0}} (Err error) ≡ alone m → false ≡ is_tlvs_lem m
  unfolding is_tlvs_lem
  no_tlvs error e = by_case error (tlvs_of m) e
    where
      by_case : (error : PayloadError) (a : Answer (List (List ℕ))) → payload_answered {A = Unit {0}} (Err error) ≡ mapped (λ tlvs. tt {0}) a → false ≡ (is_given a && ltb 0 (length m))
      by_case (PayloadError.Unwalked u) (gives ts) e = never _ _ _ (sym e)
      by_case (PayloadError.Refused r) (gives ts) e = never _ _ _ (sym e)
      by_case error (refuses n vs) e = refl

-- what is said of the message alone is said of what is asked of it besides
pub with_tlvs : {A : Type 0} (a : Answer A) (b : Bool) → gives (tt {0}) ≡ mapped (λ tlvs. tt {0}) a → gives b ≡ mapped (λ tlvs. b) a
with_tlvs (gives ts) b e = refl
with_tlvs (refuses n vs) b e = never _ _ _ e

pub without_tlvs : {A : Type 0} (a : Answer A) (b : Bool) (n : ℕ) (vs : List ℕ) → refuses n vs ≡ mapped (λ tlvs. tt {0}) a → refuses n vs ≡ mapped (λ tlvs. b) a
without_tlvs (gives ts) b n vs e = never _ _ _ (sym e)
without_tlvs (refuses m us) b n vs e = let i : n ≡ m = cc in let j : vs ≡ us = cc in rw (i, j)
