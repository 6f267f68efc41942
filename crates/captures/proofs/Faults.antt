-- A file that the check takes has no fault that a step could come to.
use mathlib.Core.Path.{◌≡◌, refl, sym, ap, ◌∙◌}
use mathlib.Core.Bool.{Bool}
use mathlib.Core.List.{List}
use Prim.Native.Nat.{ℕ}
use Rattle.numbers.specs.Numbers.{Answer, gives, refuses, mapped}
use Rattle.numbers.proofs.Firm.{never}
use Rattle.walking.specs.Steps.{Walk}
use Rattle.captures.specs.Reading.{Captured, file_order, records_in, Capture, capture_in}
use Rattle.captures.specs.Claims.{Reaches, first_record, next_record, NoLateFault}
use Rattle.captures.proofs.Walks.{ahead, goes_on, stops, in_file}
use Rattle.captures.proofs.Checking.{held, none_held}

-- a file that is taken: its byte order, and that the walk over its records comes to an end
pub record Opened (s : List ℕ) : Type 0 where
  pub order : Bool
  pub says : gives order ≡ file_order s
  pub rest : ℕ
  pub ends : (records_in order s).end ≡ gives rest

pub opened : (s : List ℕ) (c : Capture) → capture_in s ≡ gives c → Opened s
opened s c e = by_header (file_order s) refl
  where
    by_end : (o : Bool) → gives o ≡ file_order s → (end : Answer ℕ) (b : Capture) → (records_in o s).end ≡ end → mapped (λ _. b) end ≡ gives c → Opened s
    by_end o f (gives n) b g h = record { order = o; says = f; rest = n; ends = g }
    by_end o f (refuses n vs) b g h = never _ _ _ (sym h)

    by_header : (a : Answer Bool) → a ≡ file_order s → Opened s
    by_header (gives o) f = by_end o f (records_in o s).end _ refl (held s o f ∙ e)
    by_header (refuses n vs) f = never _ _ _ (sym (none_held s n vs f ∙ e))

module _ (s : List ℕ) (file : Opened s) where
  abbrev o : Bool
  o = file.order

  still : {at : ℕ} → Reaches s at → (ahead o s at).end ≡ gives file.rest
  still first_record = file.ends
  still (next_record {at} {next} {c} r e) = sym (ap (λ (w : Walk Captured). w.end) (goes_on o s at c next (sym e ∙ sym (in_file s at o file.says)))) ∙ still r

pub no_late_fault : NoLateFault
no_late_fault s c e at r n vs f =
    let file = opened s c e in
    let o = file.order in
    never _ _ _ (sym (still s file r) ∙ ap (λ (w : Walk Captured). w.end) (stops o s at n vs (sym f ∙ sym (in_file s at o file.says))))
