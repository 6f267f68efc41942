-- What is claimed of this crate's calls; proofs/Claims.antt proves it.
use Rattle.std.specs.Prelude.{◌≡◌, cond, List, ℕ, length, take, drop, Bool, Result}
use Rattle.numbers.specs.Numbers.{Answer, mapped, answered}
use Rattle.numbers.specs.Firmness.{Firm}
use Rattle.numbers.specs.declared.Refusal.{Refusal}
use Rattle.framing.specs.declared.CmduHeader.{CmduHeader}
use Rattle.walking.specs.declared.WalkCount.{WalkCount}
use Rattle.walking.specs.declared.Stepped.{Stepped}
use Rattle.walking.specs.declared.Unwalked.{Unwalked}
use Rattle.walking.specs.Walk.{answered_at, stepped_of}
use Rattle.records.specs.declared.Record.{Record}
use Rattle.kinds.specs.declared.Typed.{Typed}
use Rattle.kinds.specs.Kinds.{without_record}
use Rattle.layouts.specs.declared.Span.{Span}
use Rattle.layouts.specs.Access.{part_of}
use Rattle.pushing.specs.declared.Pushed.{Pushed}
use Rattle.pushing.specs.Push.{PushAnswer, pushed_of}
use Rattle.pushing.specs.Show.{shown}
use Rattle.walking.specs.declared.PayloadError.{PayloadError}
use Rattle.walking.specs.Walk.{payload_answered}
use Rattle.c_answers.specs.declared.AshlarPart.{AshlarPart}
use Rattle.c_answers.specs.declared.AshlarPushed.{AshlarPushed}
use Rattle.c_answers.specs.declared.AshlarShown.{AshlarShown}
use Rattle.c_answers.specs.Numbers.{header_numbers_lem, walk_numbers_lem, step_numbers_lem, kind_numbers_lem, found_numbers_lem, part_numbers_lem, push_numbers_lem, shown_in_lem, check_numbers_lem, cut_numbers_lem}

-- Rule A4: for each public call, by its name, any two answers that its contract allows are one.
pub record Firmness : Type 0 where
  pub header_numbers : (read : Result CmduHeader Refusal) → Firm (λ r. r ≡ header_numbers_lem (answered read))
  pub walk_numbers : (walked : Result WalkCount Unwalked) → Firm (λ r. r ≡ walk_numbers_lem (answered_at walked))
  pub step_numbers : (stepped : Result Stepped Unwalked) → Firm (λ r. r ≡ step_numbers_lem (stepped_of stepped))
  pub kind_numbers : (size : Result (Typed Unit) Refusal) → Firm (λ r. r ≡ kind_numbers_lem (answered size))
  pub found_numbers : (placed : Result ℕ Refusal) → Firm (λ r. r ≡ found_numbers_lem (answered placed))
  pub part_numbers : (located : Result Span Refusal) → Firm (λ r. r ≡ part_numbers_lem (answered located))
  pub push_numbers : (pushed : Result Pushed Refusal) → Firm (λ r. r ≡ push_numbers_lem (pushed_of pushed))
  pub shown_in : (pushed : AshlarPushed) (payload-size out-size : ℕ)
      → Firm (λ r. r ≡ shown_in_lem pushed payload-size out-size)
  pub check_numbers : (checked : Result Bool PayloadError) → Firm (λ r. r ≡ check_numbers_lem (payload_answered checked))
  pub cut_numbers : (cutting : Result ℕ PayloadError) → Firm (λ r. r ≡ cut_numbers_lem (payload_answered cutting))

-- Rule C1: a value that was measured crosses as the value that was read does.
abbrev pub MeasuredAsRead : Type 0
MeasuredAsRead = (x : Answer (Typed Record)) → kind_numbers_lem (mapped without_record x) ≡ kind_numbers_lem x

-- Rules E7 and E8: the part that an answer of `part_numbers` names is the one that the layer's own call returns.
abbrev pub part_in_lem : AshlarPart → List ℕ → List ℕ
part_in_lem p value = take p.length (drop p.start value)

abbrev pub NamesThePart : Type 0
NamesThePart = (x : Answer Span) (value : List ℕ) → part_in_lem (part_numbers_lem x) value ≡ part_of x value

-- Rule T10: the part that an answer of `shown_in` names is the one that the table's own showing call returns.
abbrev pub message_in : AshlarShown → List ℕ → List ℕ → List ℕ
message_in s payload out = take s.length (cond s.in_output out payload)

abbrev pub ShowsTheMessage : Type 0
ShowsTheMessage =
    (h : Answer PushAnswer) (payload out : List ℕ)
    → message_in (shown_in_lem (push_numbers_lem h) (length payload) (length out)) payload out ≡ shown h payload out

-- everything that is claimed of this crate
pub record Claims : Type 0 where
  pub firmness : Firmness
  pub measured_as_read : MeasuredAsRead
  pub names_the_part : NamesThePart
  pub shows_the_message : ShowsTheMessage
