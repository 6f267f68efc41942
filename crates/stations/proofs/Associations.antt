-- What reading a value of kind 0x92 gives: a client association, and no other record.
use mathlib.Core.Path.{◌≡◌, sym, ap, ◌∙◌}
use mathlib.Core.List.{List}
use Prim.Native.Nat.{ℕ}
use Rattle.numbers.specs.Numbers.{gives}
use Rattle.records.specs.declared.RecordKind.{RecordKind}
use Rattle.records.specs.declared.Record.{Record}
use Rattle.records.specs.declared.RecordRead.{RecordRead}
use Rattle.records.specs.Reading.{of_kind_lem, read_record_lem}
use Rattle.records.specs.Values.{association_in_lem}
use Rattle.records.proofs.Ways.{by_kind}
use Rattle.records.proofs.Given.{reads}
use Rattle.stations.specs.Events.{association_code}

module _ (s : List ℕ) where
  pub reads_association : (x : RecordRead) → read_record_lem association_code s ≡ gives x → x.value ≡ Record.ClientAssociation (association_in_lem s)
  reads_association x e = sym (ap (λ (y : RecordRead). y.value) (reads _ _ _ s _ (sym (by_kind RecordKind.ClientAssociation s) ∙ e)).is)

  -- the kind's own reader gives what reading by its code does
  pub by_reader : read_record_lem association_code s ≡ of_kind_lem RecordKind.ClientAssociation s
  by_reader = by_kind RecordKind.ClientAssociation s
