-- What reading says: of the code, whatever the value is; and of the bytes of a value that reads.
use mathlib.Core.Path.{◌≡◌, refl, sym}
use mathlib.Core.Bool.{Bool, true, false, cond, not}
use mathlib.Core.List.{List, [], ◌∷◌}
use Prim.Native.Nat.{ℕ, ◌≤◌}
use native.Mathlib.Omega.{arith}
use lib.Dec.{ltb, eqb}
use lib.ListN.{length}
use borrow.Author.Tests.{ltb-false, eqb-true}
use Rattle.numbers.specs.Numbers.{Answer, gives, refuses, and_then, is_given}
use Rattle.numbers.proofs.Answers.{given, gave}
use Rattle.numbers.proofs.Firm.{never}
use Rattle.records.specs.declared.Record.{Record}
use Rattle.records.specs.declared.RecordKind.{RecordKind}
use Rattle.records.specs.declared.RecordRead.{RecordRead}
use Rattle.records.specs.Kinds.{record_kinds, code_of}
use Rattle.records.specs.Reading.{empty, fixed, of_kind_lem, with_code, is_record_lem, read_record_lem}

-- an answer that is not 16
abbrev pub is_known_lem : {A : Type 0} → Answer A → Bool
is_known_lem (gives a) = true
is_known_lem (refuses n vs) = not (eqb n 16)

-- what a fixed layout that reads says: it lies within the value, nothing of it is refused, and the answer is what it
-- holds
pub record Reads (n : ℕ) (ok : Bool) (r : Record) (s : List ℕ) (x : RecordRead) : Type 0 where
  pub within : n ≤ length s
  pub taken : ok ≡ true
  pub is : record { value = r; consumed = n } ≡ x

-- what each kind's reading is: 16 is no answer of it, and what was consumed lies in the value
pub record Formed (s : List ℕ) (a : Answer RecordRead) : Type 0 where
  pub is_known : is_known_lem a ≡ true
  pub inside : (x : RecordRead) → a ≡ gives x → x.consumed ≤ length s

module _ (n : ℕ) (ok : Bool) (r : Record) (s : List ℕ) where
  pub reads : (x : RecordRead) → fixed n ok r s ≡ gives x → Reads n ok r s x
  unfolding fixed
  reads x e = go (ltb (length s) n) ok refl refl e
    where
      go : (short b : Bool) → ltb (length s) n ≡ short → ok ≡ b → cond short (refuses 3 []) (cond b (gives (record { value = r; consumed = n })) (refuses 5 [])) ≡ gives x → Reads n ok r s x
      go true b f g e = never _ _ _ (sym e)
      go false false f g e = never _ _ _ (sym e)
      go false true f g e = record { within = ltb-false (length s) n f; taken = g; is = given _ _ e }

  fixed_formed : Formed s (fixed n ok r s)
  unfolding fixed
  fixed_formed = record { is_known = go (ltb (length s) n) ok; inside = λ x e. let h = reads x e in rw (← h.is) h.within }
    where
      go : (short b : Bool) → is_known_lem {A = RecordRead} (cond short (refuses 3 []) (cond b (gives (record { value = r; consumed = n })) (refuses 5 []))) ≡ true
      go true b = refl
      go false false = refl
      go false true = refl

module _ (r : Record) (s : List ℕ) where
  pub reads_empty : (x : RecordRead) → empty r s ≡ gives x → record { value = r; consumed = 0 } ≡ x
  unfolding empty
  reads_empty x e = go (ltb 0 (length s)) e
    where
      go : (more : Bool) → cond more (refuses 4 []) (gives (record { value = r; consumed = 0 })) ≡ gives x → record { value = r; consumed = 0 } ≡ x
      go true e = never _ _ _ (sym e)
      go false e = given _ _ e

  empty_formed : Formed s (empty r s)
  unfolding empty
  empty_formed = record { is_known = go (ltb 0 (length s)); inside = λ x e. rw (← reads_empty x e) (omega arith) }
    where
      go : (more : Bool) → is_known_lem {A = RecordRead} (cond more (refuses 4 []) (gives (record { value = r; consumed = 0 }))) ≡ true
      go true = refl
      go false = refl

formed : (k : RecordKind) (s : List ℕ) → Formed s (of_kind_lem k s)
formed RecordKind.EndOfMessage s = empty_formed _ s
formed RecordKind.AlMacAddress s = fixed_formed _ _ _ s
formed RecordKind.MacAddress s = fixed_formed _ _ _ s
formed RecordKind.SearchedRole s = fixed_formed _ _ _ s
formed RecordKind.SupportedRole s = fixed_formed _ _ _ s
formed RecordKind.SupportedFreqBand s = fixed_formed _ _ _ s
formed RecordKind.Ieee1905ProfileVersion s = fixed_formed _ _ _ s
formed RecordKind.LinkMetricResultCode s = fixed_formed _ _ _ s
formed RecordKind.LinkMetricQuery s = fixed_formed _ _ _ s
formed RecordKind.ClientAssociation s = fixed_formed _ _ _ s
formed RecordKind.MultiApProfile s = fixed_formed _ _ _ s
formed RecordKind.Profile2ApCapability s = fixed_formed _ _ _ s

-- a code has its kind in the list, or is refused by 16
coded : (c : ℕ) (ks : List RecordKind) (k : RecordKind) → with_code c ks ≡ gives k → code_of k ≡ c
coded c [] k e = never _ _ _ (sym e)
coded c (j ∷ ks) k e = go (eqb c (code_of j)) refl (coded c ks k) e
  where
    go : (b : Bool) → eqb c (code_of j) ≡ b → (with_code c ks ≡ gives k → code_of k ≡ c) → cond b (gives j) (with_code c ks) ≡ gives k → code_of k ≡ c
    go true f later e = let i : j ≡ k = cc in rw (← i) (sym (eqb-true c (code_of j) f))
    go false f later e = later e

unknown : (c : ℕ) (ks : List RecordKind) → is_known_lem (with_code c ks) ≡ is_given (with_code c ks)
unknown c [] = refl
unknown c (k ∷ ks) = go (eqb c (code_of k)) (unknown c ks)
  where
    go : (b : Bool) → is_known_lem (with_code c ks) ≡ is_given (with_code c ks) → is_known_lem (cond b (gives k) (with_code c ks)) ≡ is_given (cond b (gives k) (with_code c ks))
    go true later = refl
    go false later = later

pub known : (c : ℕ) (s : List ℕ) → is_known_lem (read_record_lem c s) ≡ is_record_lem c
unfolding read_record_lem
known c s = go (with_code c record_kinds) (unknown c record_kinds)
  where
    go : (a : Answer RecordKind) → is_known_lem a ≡ is_given a → is_known_lem (and_then a (λ k. of_kind_lem k s)) ≡ is_given a
    go (gives k) e = (formed k s).is_known
    go (refuses n vs) e = e

-- the kind that a code which reads has
pub record Coded (c : ℕ) (s : List ℕ) (x : RecordRead) : Type 0 where
  pub kind : RecordKind
  pub its : code_of kind ≡ c
  pub reads : of_kind_lem kind s ≡ gives x

pub kind_read : (c : ℕ) (s : List ℕ) (x : RecordRead) → read_record_lem c s ≡ gives x → Coded c s x
unfolding read_record_lem
kind_read c s x e = let g = gave (with_code c record_kinds) (λ k. of_kind_lem k s) x e in record { kind = g.first; its = coded c record_kinds g.first g.is; reads = g.then }

-- consumed never exceeds the value's length, so that the rest is what stands after it
pub consumed_within : (c : ℕ) (s : List ℕ) (x : RecordRead) → read_record_lem c s ≡ gives x → x.consumed ≤ length s
consumed_within c s x e = let k = kind_read c s x e in (formed k.kind s).inside x k.reads
