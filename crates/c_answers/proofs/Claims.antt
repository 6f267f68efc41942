-- The claims of specs/Claims.antt, proved.
use mathlib.Core.Path.{◌≡◌, refl}
use mathlib.Core.Bool.{Bool, true, false, cond}
use mathlib.Core.List.{List, []}
use Prim.Native.Nat.{ℕ}
use lib.Dec.{leb}
use lib.ListN.{length, take}
use Rattle.numbers.specs.Numbers.{gives, refuses}
use Rattle.numbers.proofs.Firm.{by_equation}
use Rattle.pushing.specs.Push.{waiting, duplicated, inconsistent, missing, missing_last, single, joined}
use Rattle.records.specs.declared.Record.{Record}
use Rattle.kinds.specs.declared.Contents.{Contents}
use Rattle.kinds.specs.Kinds.{held_without}
use Rattle.c_answers.specs.Numbers.{contents_numbers, shown_in_lem}
use Rattle.c_answers.specs.Claims.{Firmness, MeasuredAsRead, NamesThePart, ShowsTheMessage, Claims}

firmness : Firmness
firmness = record {
  header_numbers = λ read. by_equation _;
  walk_numbers = λ walked. by_equation _;
  step_numbers = λ stepped. by_equation _;
  kind_numbers = λ size. by_equation _;
  found_numbers = λ placed. by_equation _;
  part_numbers = λ located. by_equation _;
  push_numbers = λ pushed. by_equation _;
  shown_in = λ pushed payload-size out-size. by_equation _;
  check_numbers = λ checked. by_equation _;
  cut_numbers = λ cutting. by_equation _;
}

measured_as_read : MeasuredAsRead
measured_as_read (gives t) = by_held t.held
  where
    by_held : (h : Contents Record) → contents_numbers (held_without h) t.consumed t.rest ≡ contents_numbers h t.consumed t.rest
    by_held (Contents.One r) = refl
    by_held (Contents.List n) = refl
measured_as_read (refuses n vs) = refl

names_the_part : NamesThePart
names_the_part (gives r) value = refl
names_the_part (refuses n vs) value = refl

start : (b : Bool) (n : ℕ) (s : List ℕ) → take (cond b n 0) s ≡ cond b (take n s) []
start true n s = refl
start false n s = refl

shows_the_message : ShowsTheMessage
unfolding shown_in_lem
shows_the_message (gives waiting) payload out = refl
shows_the_message (gives duplicated) payload out = refl
shows_the_message (gives inconsistent) payload out = refl
shows_the_message (gives missing) payload out = refl
shows_the_message (gives missing_last) payload out = refl
shows_the_message (gives (single n)) payload out = start (leb n (length payload)) n payload
shows_the_message (gives (joined n)) payload out = start (leb n (length out)) n out
shows_the_message (refuses n vs) payload out = refl

pub claims : Claims
claims = record {
  firmness = firmness;
  measured_as_read = measured_as_read;
  names_the_part = names_the_part;
  shows_the_message = shows_the_message;
}
