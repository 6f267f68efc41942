-- How firm each answer is (rule A4): no two are said alike.
use Rattle.std.specs.Prelude.{Result, Ok, Err}
use Rattle.numbers.specs.Firmness.{Firm}
use mathlib.Core.Path.{◌≡◌, refl, sym, ap, ◌∙◌}
use mathlib.Core.List.{◌∷◌}
use Prim.Native.Nat.{ℕ}
use native.Mathlib.Omega.{arith}
use lib.ListN.{length}
use Rattle.numbers.specs.Numbers.{Answer, refuses, told, number, values}
use Rattle.numbers.specs.declared.Refusal.{Refusal}
use Rattle.numbers.proofs.Firm.{firm, firm_numbered, so_many, never}
use Rattle.walking.specs.Steps.{Ahead}
use Rattle.walking.specs.Walk.{answered_at, payload_answered, ahead_of, stepped_of}
use Rattle.walking.specs.declared.Stepped.{Stepped}
use Rattle.walking.specs.declared.Tlv.{Tlv}
use Rattle.walking.specs.declared.Unwalked.{Unwalked}
use Rattle.walking.specs.declared.PayloadError.{PayloadError}

-- a refusal with an offset, and one without: the first has a value more
pub with_offset : {A : Type 0} (r r' : Refusal) (at at' : ℕ) → ◌≡◌ {A = Answer A} (refuses (number r) (at ∷ values r)) (refuses (number r') (at' ∷ values r')) → (r ≡ r') × (at ≡ at')
with_offset r r' at at' e = (firm_numbered r r' (cc) (cc), cc)

pub offset_apart : {A B : Type 0} (r r' : Refusal) (at : ℕ) → ◌≡◌ {A = Answer A} (refuses (number r) (at ∷ values r)) (told r') → B
offset_apart r r' at e =
    let n : number r ≡ number r' = cc in
    let v : at ∷ values r ≡ values r' = cc in
    absurd (omega (arith, so_many r r' n, ap length v))

answered_at_one : {A : Type 0} (a b : Result A Unwalked) → answered_at a ≡ answered_at b → a ≡ b
answered_at_one (Ok a) (Ok b) e = ap Ok (cc)
answered_at_one (Ok a) (Err u) e = never _ _ _ e
answered_at_one (Err u) (Ok b) e = never _ _ _ (sym e)
answered_at_one {A = A} (Err u) (Err v) e = let o = with_offset {A = A} u.refusal v.refusal u.at v.at e in ap Err (rw (o.0, o.1))

-- a result that is said by what it answers
pub by_answer_at : {A : Type 0} (defined : Answer A) → Firm (λ r. answered_at r ≡ defined)
by_answer_at defined a b p q = answered_at_one a b (p ∙ sym q)

payload_one : {A : Type 0} (a b : Result A PayloadError) → payload_answered a ≡ payload_answered b → a ≡ b
payload_one (Ok a) (Ok b) e = ap Ok (cc)
payload_one (Ok a) (Err (PayloadError.Unwalked u)) e = never _ _ _ e
payload_one (Ok a) (Err (PayloadError.Refused r)) e = never _ _ _ e
payload_one (Err (PayloadError.Unwalked u)) (Ok b) e = never _ _ _ (sym e)
payload_one (Err (PayloadError.Refused r)) (Ok b) e = never _ _ _ (sym e)
payload_one {A = A} (Err (PayloadError.Unwalked u)) (Err (PayloadError.Unwalked v)) e = let o = with_offset {A = A} u.refusal v.refusal u.at v.at e in ap (λ x. Err (PayloadError.Unwalked x)) (rw (o.0, o.1))
payload_one {A = A} (Err (PayloadError.Unwalked u)) (Err (PayloadError.Refused r)) e = offset_apart {A = A} u.refusal r u.at e
payload_one {A = A} (Err (PayloadError.Refused r)) (Err (PayloadError.Unwalked u)) e = offset_apart {A = A} u.refusal r u.at (sym e)
payload_one {A = A} (Err (PayloadError.Refused r)) (Err (PayloadError.Refused r')) e = ap (λ x. Err (PayloadError.Refused x)) (firm A r r' e)

pub by_payload_answer : {A : Type 0} (defined : Answer A) → Firm (λ r. payload_answered r ≡ defined)
by_payload_answer defined a b p q = payload_one a b (p ∙ sym q)

ahead_one : (a b : Stepped) → ahead_of a ≡ ahead_of b → a ≡ b
ahead_one Stepped.End Stepped.End e = refl
ahead_one Stepped.End (Stepped.Tlv t n) e = cc
ahead_one Stepped.End (Stepped.Last t n) e = cc
ahead_one (Stepped.Tlv t n) Stepped.End e = cc
ahead_one (Stepped.Tlv t n) (Stepped.Tlv t' n') e = cc
ahead_one (Stepped.Tlv t n) (Stepped.Last t' n') e = cc
ahead_one (Stepped.Last t n) Stepped.End e = cc
ahead_one (Stepped.Last t n) (Stepped.Tlv t' n') e = cc
ahead_one (Stepped.Last t n) (Stepped.Last t' n') e = cc

pub stepped_one : (a b : Result Stepped Unwalked) → stepped_of a ≡ stepped_of b → a ≡ b
stepped_one (Ok a) (Ok b) e = ap Ok (ahead_one a b (cc))
stepped_one (Ok a) (Err u) e = never _ _ _ e
stepped_one (Err u) (Ok b) e = never _ _ _ (sym e)
stepped_one (Err u) (Err v) e = let o = with_offset {A = Ahead Tlv} u.refusal v.refusal u.at v.at e in ap Err (rw (o.0, o.1))
