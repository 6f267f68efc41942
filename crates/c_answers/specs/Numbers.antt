-- Rule C1: the answers of the calls about TLVs, kinds and fragments, in the numbers that cross to C. `refusal` is the
-- refusal's number of part N, and 0 where nothing is refused. A field that a refusal doesn't carry is 0.
use Rattle.std.specs.Prelude.{◌≡◌, Bool, true, false, cond, List, ℕ, ◌-◌, eqb, leb, get_or, Result}
use Rattle.numbers.specs.Numbers.{Answer, gives, refuses}
use Rattle.numbers.specs.declared.Refusal.{Refusal}
use Rattle.framing.specs.declared.CmduHeader.{CmduHeader}
use Rattle.walking.specs.declared.Tlv.{Tlv}
use Rattle.walking.specs.Steps.{Ahead, ended, passed, last}
use Rattle.walking.specs.declared.WalkCount.{WalkCount}
use Rattle.layouts.specs.declared.Span.{Span}
use Rattle.kinds.specs.declared.Contents.{Contents}
use Rattle.kinds.specs.declared.Typed.{Typed}
use Rattle.table.specs.declared.Table.{Table}
use Rattle.pushing.specs.declared.Arrival.{Arrival}
use Rattle.pushing.specs.declared.Pushed.{Pushed}
use Rattle.pushing.specs.Push.{PushAnswer, waiting, duplicated, inconsistent, missing, missing_last, single, joined, pushed_of, Way, Goes}
use Rattle.c_answers.specs.declared.AshlarHeader.{AshlarHeader}
use Rattle.c_answers.specs.declared.AshlarWalk.{AshlarWalk}
use Rattle.c_answers.specs.declared.AshlarStep.{AshlarStep}
use Rattle.c_answers.specs.declared.AshlarKind.{AshlarKind}
use Rattle.c_answers.specs.declared.AshlarFound.{AshlarFound}
use Rattle.c_answers.specs.declared.AshlarPart.{AshlarPart}
use Rattle.c_answers.specs.declared.AshlarPushed.{AshlarPushed}
use Rattle.c_answers.specs.declared.AshlarShown.{AshlarShown}
use Rattle.c_answers.specs.declared.AshlarChecked.{AshlarChecked}
use Rattle.c_answers.specs.declared.AshlarCutting.{AshlarCutting}

-- Rule B6: the fields of a CMDU header. A refusal carries one value, the shortfall.
abbrev pub header_numbers_lem : Answer CmduHeader → AshlarHeader
header_numbers_lem (gives h) = record {
  shortfall = 0;
  version = h.message_version;
  reserved = h.reserved;
  message_type = h.message_type;
  message_id = h.message_id;
  number = h.fragment;
  flags = h.flags;
  last = h.last_fragment;
  refusal = 0;
}
header_numbers_lem (refuses n vs) = record {
  shortfall = get_or vs 0 0;
  version = 0;
  reserved = 0;
  message_type = 0;
  message_id = 0;
  number = 0;
  flags = 0;
  last = false;
  refusal = n;
}

-- Rules W3 to W5 and N3: a walk's refusal has the offset of a TLV as its first value. For 1 and 2 the second value is
-- the shortfall; 14 has none.
abbrev pub walk_numbers_lem : Answer WalkCount → AshlarWalk
walk_numbers_lem (gives c) = record { count = c.count; padding = c.padding; at = 0; shortfall = 0; refusal = 0 }
walk_numbers_lem (refuses n vs) = record { count = 0; padding = 0; at = get_or vs 0 0; shortfall = get_or vs 1 0; refusal = n }

-- Rule W6: what a step of the walk finds. The end is 1, a TLV 2, the marker 3, and a refusal 0. What it refuses is in a
-- walk's numbers, the offset as the TLV's.
abbrev pub tlv_at_lem : ℕ → Tlv
tlv_at_lem offset = record { tlv_type = 0; length = 0; offset = offset }

abbrev pub unstepped_by : AshlarWalk → AshlarStep
unstepped_by w = record { tlv = tlv_at_lem w.at; next = 0; shortfall = w.shortfall; answer = 0; refusal = w.refusal }

abbrev pub step_numbers_lem : Answer (Ahead Tlv) → AshlarStep
step_numbers_lem (gives ended) = record { tlv = tlv_at_lem 0; next = 0; shortfall = 0; answer = 1; refusal = 0 }
step_numbers_lem (gives (passed t next)) = record { tlv = t; next = next; shortfall = 0; answer = 2; refusal = 0 }
step_numbers_lem (gives (last t end)) = record { tlv = t; next = end; shortfall = 0; answer = 3; refusal = 0 }
step_numbers_lem (refuses n vs) = unstepped_by (walk_numbers_lem (refuses n vs))

-- Rules K1 and C1: a record doesn't cross; it is the first bytes of its value, as many as were consumed. For a list,
-- how many entries its outermost level has.
abbrev pub contents_numbers : {R : Type 0} → Contents R → ℕ → ℕ → AshlarKind
contents_numbers (Contents.One r) consumed rest =
    record { entries = 0; consumed = consumed; rest = rest; is_list = false; refusal = 0 }
contents_numbers (Contents.List n) consumed rest =
    record { entries = n; consumed = consumed; rest = rest; is_list = true; refusal = 0 }

abbrev pub kind_numbers_lem : {R : Type 0} → Answer (Typed R) → AshlarKind
kind_numbers_lem (gives t) = contents_numbers t.held t.consumed t.rest
kind_numbers_lem (refuses n vs) = record { entries = 0; consumed = 0; rest = 0; is_list = false; refusal = n }

-- Rule F1: finding answers how many records were looked at, alone: 15 carries it too. What the value of the one that was
-- found reads as is for `read_kind` to say.
abbrev pub found_numbers_lem : Answer ℕ → AshlarFound
found_numbers_lem (gives k) = record { looked = k; refusal = 0 }
found_numbers_lem (refuses n vs) = record { looked = get_or vs 0 0; refusal = n }

-- Rules E7 and E8: a text or a radio is a part of the value, given by where its first byte stands and by its length.
abbrev pub part_numbers_lem : Answer Span → AshlarPart
part_numbers_lem (gives r) = record { start = r.start; length = r.end - r.start; refusal = 0 }
part_numbers_lem (refuses n vs) = record { start = 0; length = 0; refusal = n }

-- Push's named answers (rules T5 to T9) are numbers from 1 on, and 0 for a refusal. The length is the message's, or the
-- one that 13 carries.
abbrev pub named_as : ℕ → ℕ → AshlarPushed
named_as answer length = record { length = length; answer = answer; refusal = 0 }

abbrev pub answer_numbers : PushAnswer → AshlarPushed
answer_numbers waiting = named_as 1 0
answer_numbers duplicated = named_as 2 0
answer_numbers inconsistent = named_as 3 0
answer_numbers missing = named_as 4 0
answer_numbers missing_last = named_as 5 0
answer_numbers (single n) = named_as 6 n
answer_numbers (joined n) = named_as 7 n

abbrev pub push_numbers_lem : Answer PushAnswer → AshlarPushed
push_numbers_lem (gives h) = answer_numbers h
push_numbers_lem (refuses n vs) = record { length = get_or vs 0 0; answer = 0; refusal = n }

-- A push goes the way w (rules T4 to T9), and answer' is what it answers, in numbers.
pub record Numbered (w : Way) (t : Table) (store out : List ℕ) (a : Arrival) (payload : List ℕ)
    (answer' : AshlarPushed) (table' : Table) (store' out' : List ℕ) : Type 0 where
  pub pushed : Result Pushed Refusal
  pub crosses : answer' ≡ push_numbers_lem (pushed_of pushed)
  pub goes : Goes w t store out a payload pushed table' store' out'

-- Rule T10: the message of an answer lies in the output or in the payload. Where the answer states more bytes than that
-- slice has, none is shown.
abbrev pub within_of : ℕ → ℕ → ℕ
within_of n size = cond (leb n size) n 0

unfoldable pub shown_in_lem : AshlarPushed → ℕ → ℕ → AshlarShown
shown_in_lem pushed payload-size out-size =
    cond (eqb pushed.answer 7) (record { length = within_of pushed.length out-size; in_output = true })
    (cond (eqb pushed.answer 6) (record { length = within_of pushed.length payload-size; in_output = false })
    (record { length = 0; in_output = false }))

-- Rules M1 and M4: whether fragments are a cutting of the message. What is refused is the message itself, in a walk's
-- numbers: 1 and 2 with offset and shortfall, 4 without.
abbrev pub unchecked_by : AshlarWalk → AshlarChecked
unchecked_by w = record { at = w.at; shortfall = w.shortfall; accepted = false; refusal = w.refusal }

abbrev pub check_numbers_lem : Answer Bool → AshlarChecked
check_numbers_lem (gives accepted) = record { at = 0; shortfall = 0; accepted = accepted; refusal = 0 }
check_numbers_lem (refuses n vs) = unchecked_by (walk_numbers_lem (refuses n vs))

-- Rule M5: how many fragments there are. 21 and 7 carry nothing, as 4.
abbrev pub uncut_by : AshlarWalk → AshlarCutting
uncut_by w = record { count = 0; at = w.at; shortfall = w.shortfall; refusal = w.refusal }

abbrev pub cut_numbers_lem : Answer ℕ → AshlarCutting
cut_numbers_lem (gives n) = record { count = n; at = 0; shortfall = 0; refusal = 0 }
cut_numbers_lem (refuses n vs) = uncut_by (walk_numbers_lem (refuses n vs))
