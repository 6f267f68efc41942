-- How firm each answer is (rule A4): no two are said alike.
use Rattle.std.specs.Prelude.{Result, Ok, Err}
use mathlib.Core.Path.{◌≡◌, refl, sym, ap}
use Rattle.numbers.proofs.Firm.{firm, never}
use Rattle.numbers.specs.declared.Refusal.{Refusal}
use Rattle.walking.specs.Steps.{Ahead}
use Rattle.captures.specs.Reading.{Captured, found_of, reached_of}
use Rattle.captures.specs.declared.Reached.{Reached}

found_one : (a b : Reached) → found_of a ≡ found_of b → a ≡ b
found_one Reached.FileEnd Reached.FileEnd e = refl
found_one Reached.FileEnd (Reached.Ours f n) e = cc
found_one Reached.FileEnd (Reached.Other n) e = cc
found_one (Reached.Ours f n) Reached.FileEnd e = cc
found_one (Reached.Ours f n) (Reached.Ours f' n') e = cc
found_one (Reached.Ours f n) (Reached.Other n') e = cc
found_one (Reached.Other n) Reached.FileEnd e = cc
found_one (Reached.Other n) (Reached.Ours f n') e = cc
found_one (Reached.Other n) (Reached.Other n') e = cc

pub reached_one : (a b : Result Reached Refusal) → reached_of a ≡ reached_of b → a ≡ b
reached_one (Ok a) (Ok b) e = ap Ok (found_one a b (cc))
reached_one (Ok a) (Err r) e = never _ _ _ e
reached_one (Err r) (Ok b) e = never _ _ _ (sym e)
reached_one (Err r) (Err r') e = ap Err (firm (Ahead Captured) r r' e)
