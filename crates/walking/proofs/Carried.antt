-- How far a walk goes alike with more bytes after the payload: over all its TLVs, where none is a marker, and up to
-- where it ended or was refused.
use mathlib.Core.Path.{◌≡◌, sym, ap, ◌∙◌}
use mathlib.Core.Bool.{true, false}
use mathlib.Core.List.{List, [], ◌++◌}
use Prim.Native.Nat.{ℕ, zero, suc, ◌≤◌}
use native.Mathlib.Omega.{arith}
use lib.ListN.{length, length-append, drop}
use lib.Seq.{drop-append-le}
use Rattle.numbers.specs.Numbers.{Answer, gives, refuses}
use Rattle.numbers.proofs.Firm.{never}
use Rattle.framing.specs.Tlv.{read_tlv_lem}
use Rattle.framing.proofs.Shortfall.{longer}
use Rattle.walking.specs.declared.Tlv.{Tlv}
use Rattle.walking.specs.Steps.{passed, last}
use Rattle.walking.specs.Walk.{is_marker_lem, step_at}
use Rattle.walking.specs.Claims.{Unmarked}
use Rattle.walking.proofs.Chained.{Has}
use Rattle.walking.proofs.Going.{at_end_lem, onward, final, stopped}
use Rattle.walking.proofs.Stepping.{passes, steps, steps_same}

-- the marker is a marker
pub marked_last : {B : Type 0} (p : List ℕ) (at : ℕ) (t : Tlv) (to : ℕ) → gives (last t to) ≡ step_at p at → is_marker_lem t ≡ false → B
marked_last p at t to e not = let f = sym not ∙ (steps p at true t to e).marks in let z : ◌≡◌ {A = ℕ} 0 1 = cc in absurd (omega arith)

module _ (p more : List ℕ) where
  -- a TLV that is passed is passed with more after the payload too
  stays : (at : ℕ) (t : Tlv) (next : ℕ) → gives (passed t next) ≡ step_at p at → gives (passed t next) ≡ step_at (p ++ more) at
  stays at t next e =
      let o = passes p at t next e in
      let d : read_tlv_lem (drop at p ++ more) ≡ read_tlv_lem (drop at (p ++ more)) = ap read_tlv_lem (sym (drop-append-le at p more (omega (arith, o.behind, o.inside)))) in
      steps_same p at false t next (steps p at false t next e) (p ++ more) (omega (arith, o.behind, o.inside, length-append p more)) (longer (drop at p) more _ o.reads_as ∙ d)

  -- the offset at which the walk ended, what stands there, and that the longer walk goes on from there
  pub record Carried (from : ℕ) (ts : List Tlv) (end : Answer ℕ) : Type 0 where
    pub to : ℕ
    pub within : to ≤ length p
    pub stops : Has p to [] end
    pub on : (us : List Tlv) (fin : Answer ℕ) → Has (p ++ more) to us fin → Has (p ++ more) from (ts ++ us) fin

  pub carried : {at : ℕ} {ts : List Tlv} {end : Answer ℕ} → Has p at ts end → at ≤ length p → Unmarked ts → Carried at ts end
  carried (at_end_lem {at} e) h not = record { to = at; within = h; stops = at_end_lem e; on = λ us fin g. g }
  carried (stopped {at} e) h not = record { to = at; within = h; stops = stopped e; on = λ us fin g. g }
  carried (final {at} {t} {to} e) h not = marked_last p at t to e (not 0 (omega arith))
  carried (onward {at} {t} {next} e g) h not =
      let c = carried g (passes p at t next e).inside (λ k l. not (suc k) (omega arith)) in
      record { to = c.to; within = c.within; stops = c.stops; on = λ us fin g'. onward (stays at t next e) (c.on us fin g') }

-- a walk that is refused came to no marker
pub refused_unmarked : (p : List ℕ) {at : ℕ} {ts : List Tlv} {end : Answer ℕ} → Has p at ts end → (n : ℕ) (vs : List ℕ) → end ≡ refuses n vs → Unmarked ts
refused_unmarked p (at_end_lem e) n vs f k l = absurd (omega arith)
refused_unmarked p (stopped e) n vs f k l = absurd (omega arith)
refused_unmarked p (final e) n vs f k l = never _ _ _ f
refused_unmarked p (onward {at} {t} {next} e g) n vs f zero l = (steps p at false t next e).marks
refused_unmarked p (onward e g) n vs f (suc k) l = refused_unmarked p g n vs f k (omega arith)
