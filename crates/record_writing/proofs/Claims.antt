-- The claims of specs/Claims.antt, proved.
use mathlib.Core.Path.{◌≡◌, refl, sym, ap, ◌∙◌}
use mathlib.Core.Bool.{true, false}
use mathlib.Core.List.{List, [], ◌++◌, append-nil}
use Prim.Native.Nat.{ℕ, ◌≤◌}
use native.Mathlib.Omega.{arith}
use lib.ListN.{length}
use lib.Seq.{length-take-le}
use Rattle.numbers.specs.Numbers.{gives}
use Rattle.numbers.proofs.Firm.{by_equation, by_answer, both}
use Rattle.numbers.specs.Bytes.{AllBytes}
use Rattle.framing.specs.Claims.{as_read_lem}
use Rattle.framing.specs.Tlv.{longest_value, read_tlv_lem, value_in_lem, tlv_bytes}
use Rattle.framing.proofs.RoundTrip.{read_written, value_written}
use Rattle.records.specs.declared.Record.{Record}
use Rattle.records.specs.declared.RecordRead.{RecordRead}
use Rattle.records.specs.Values.{bytes_of}
use Rattle.records.specs.Kinds.{code_of, kind_of}
use Rattle.records.specs.Reading.{read_record_lem}
use Rattle.records.proofs.Ways.{by_kind}
use Rattle.records.proofs.Given.{kind_read, consumed_within}
use Rattle.record_writing.specs.Writing.{readable}
use Rattle.record_writing.specs.Claims.{Firmness, itself, Rewritten, RoundTrips, Claims}
use Rattle.record_writing.proofs.Room.{short_values}
use Rattle.record_writing.proofs.ReadBack.{back}
use Rattle.record_writing.proofs.WriteBack.{kept}

firmness : Firmness
firmness = record {
  size_of = λ item. by_equation _;
  byte_at = λ item i. by_equation _;
  units_byte = λ units a b x y. x.0 ∙ sym y.0;
  write_value = λ item out. both _ _ (by_answer _) (by_equation _);
  write_record = λ item out. both _ _ (by_answer _) (by_equation _);
}

read_back : (r : Record) (rest : List ℕ) → readable r ≡ true → (r ≡ Record.EndOfMessage → rest ≡ []) → read_record_lem (code_of (kind_of r)) (bytes_of r ++ rest) ≡ gives (itself r)
read_back r rest h e = by_kind (kind_of r) (bytes_of r ++ rest) ∙ back r rest h e

alone : (r : Record) → readable r ≡ true → read_record_lem (code_of (kind_of r)) (bytes_of r) ≡ gives (itself r)
alone r h = rw (append-nil (bytes_of r)) at (read_back r [] h (λ e. refl))

write_back : (c : ℕ) (s : List ℕ) (x : RecordRead) → AllBytes s → read_record_lem c s ≡ gives x → Rewritten c s x
write_back c s x b e =
    let k = kind_read c s x e in
    let y = kept k.kind s b x k.reads in
    let own : code_of (kind_of x.value) ≡ c = ap code_of y.same ∙ k.its in
    let size : length (bytes_of x.value) ≡ x.consumed = ap length y.bytes ∙ length-take-le x.consumed s (consumed_within c s x e) in
    let again : itself x.value ≡ x = rw size in
    record { own = own; bytes = y.bytes; writable = y.good; alone = rw (← y.bytes, ← own, ← again) (alone x.value y.good) }

never_read : (r : Record) (c : ℕ) (s : List ℕ) (x : RecordRead) → readable r ≡ false → AllBytes s → read_record_lem c s ≡ gives x → x.value ≡ r → ⊥
never_read r c s x f b e v =
    let z : true ≡ false = sym (write_back c s x b e).writable ∙ ap readable v ∙ f in
    let z' : ◌≡◌ {A = ℕ} 0 1 = cc in
    omega arith

tlv_back : (r : Record) (rest : List ℕ) → readable r ≡ true → let t = tlv_bytes (code_of (kind_of r)) (bytes_of r) ++ rest in
    (read_tlv_lem t ≡ gives (as_read_lem (code_of (kind_of r)) (bytes_of r))) × (read_record_lem (code_of (kind_of r)) (value_in_lem (read_tlv_lem t) t) ≡ gives (itself r))
tlv_back r rest h =
    let c = code_of (kind_of r) in
    let short : length (bytes_of r) ≤ longest_value = omega (arith, short_values r) in
    (sym (read_written c (bytes_of r) rest short), rw (value_written c (bytes_of r) rest short) (alone r h))

pub round_trips : RoundTrips
round_trips = record { read_back = read_back; tlv_back = tlv_back; write_back = write_back; never_read = never_read }

pub claims : Claims
claims = record { firmness = firmness; round_trips = round_trips }
