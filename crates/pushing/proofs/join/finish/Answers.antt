-- What was looked up is what `join_in` asks, and a joined message has room.
use mathlib.Core.Path.{◌≡◌, sym, ap, ◌∙◌, subst}
use mathlib.Core.List.{List}
use mathlib.Core.Bool.{Bool}
use Prim.Native.Nat.{ℕ, ◌+◌, ◌≤◌}
use lib.Dec.{eqb}
use lib.ListN.{length, get_or}
use Rattle.std.proofs.lemmas.Result.{err_from_is_err_and}
use Rattle.std.specs.Prelude.{Result, Ok, Err}
use Rattle.numbers.specs.Numbers.{Answer}
use Rattle.numbers.specs.declared.Refusal.{Refusal}
use Rattle.pushing.specs.declared.Pushed.{Pushed}
use Rattle.pushing.specs.declared.join.Reach.{Reach}
use Rattle.pushing.specs.declared.join.Compared.{Compared}
use Rattle.table.specs.Rows.{owner_of}
use Rattle.pushing.specs.Push.{Way, PushAnswer, join_by, pushed_of, answer_by}
use Rattle.pushing.specs.PrivateSteps.{count_for, pieces_to, reach_for, gap_in, join_in}
use Rattle.pushing.proofs.Pieces.{pieces_size}
use Rattle.pushing.proofs.Verdicts.{Writes, writes, puts_joined, puts_none}
use Rattle.pushing.proofs.join.finish.Goals as goal

-- once the answer is there
module _ (sizes owners numbers stored payload : List ℕ) (last : Compared) (room : ℕ) (seen : Reach) (gapped : Bool) (answer' : Result Pushed Refusal)
    (small : (i : ℕ) → get_or sizes i 0 ≤ 1492) (long : 47744 ≤ length stored)
    (seen_is : seen ≡ reach_for sizes owners numbers last.row last.number (length payload))
    (gapped_is : gapped ≡ gap_in owners numbers (owner_of last.row) last.number seen.count)
    (judged : (bytes : List ℕ) → seen.total ≡ length bytes → pushed_of answer' ≡ answer_by (join_by last.unlike gapped (eqb seen.count (last.number + 1)) seen.count bytes room)) where
  abbrev bytes : List ℕ
  bytes = pieces_to sizes owners numbers stored last.row last.number payload seen.count

  abbrev its : Way
  its = join_by last.unlike gapped (eqb seen.count (last.number + 1)) seen.count bytes room

  count-is : seen.count ≡ count_for owners numbers last.row last.number
  count-is = ap (λ (z : Reach). z.count) seen_is

  total-is : seen.total ≡ length bytes
  total-is =
      ap (λ (z : Reach). z.total) seen_is
      ∙ sym (pieces_size sizes owners numbers stored last.row last.number payload small long (count_for owners numbers last.row last.number))
      ∙ ap (λ (n : ℕ). length (pieces_to sizes owners numbers stored last.row last.number payload n)) (sym count-is)

  its_is : its ≡ join_in sizes owners numbers stored payload last room
  its_is =
      let gap_is = gapped_is ∙ ap (gap_in owners numbers (owner_of last.row) last.number) count-is in
      λ i. join_by last.unlike (gap_is i) (eqb (count-is i) (last.number + 1)) (count-is i) (pieces_to sizes owners numbers stored last.row last.number payload (count-is i)) room

  answered : pushed_of answer' ≡ answer_by (join_in sizes owners numbers stored payload last room)
  answered = judged bytes total-is ∙ ap answer_by its_is

  wrote : Writes bytes room (join_in sizes owners numbers stored payload last room) (pushed_of answer')
  wrote =
      subst (λ (w : Way). Writes bytes room w (pushed_of answer')) its_is
      (subst (λ (x : Answer PushAnswer). Writes bytes room its x) (sym (judged bytes total-is)) (writes bytes room last.unlike gapped (eqb seen.count (last.number + 1)) seen.count))

pub returns-in_err-answer : goal.returns-in_err-answer
returns-in_err-answer c =
    let a = c.args in
    let p = err_from_is_err_and c.from_residual.result c.from_residual.ensures.1 in
    rw (p.1, p.2) (record { answers = answered a.t.now.sizes a.t.now.owners a.t.now.numbers a.store.now a.payload.now a.last (length a.out.now) c.reach_of-reached.result c.is_gapped-gapped.result (Err c.in_err-answer.field-0.0) c.requires.1 c.requires.2 c.reach_of-reached.ensures.0 c.is_gapped-gapped.ensures c.in_err-answer.ensures; puts = wrote a.t.now.sizes a.t.now.owners a.t.now.numbers a.store.now a.payload.now a.last (length a.out.now) c.reach_of-reached.result c.is_gapped-gapped.result (Err c.in_err-answer.field-0.0) c.requires.1 c.requires.2 c.reach_of-reached.ensures.0 c.is_gapped-gapped.ensures c.in_err-answer.ensures a.out.now })

pub join_into-requires : goal.join_into-requires
join_into-requires c =
    let a = c.args in
    let joins = puts_joined _ _ _ _ c.in-Joined.field-0 c.in-Joined.is (wrote a.t.now.sizes a.t.now.owners a.t.now.numbers a.store.now a.payload.now a.last (length a.out.now) c.reach_of-reached.result c.is_gapped-gapped.result (Ok c.in_ok-answer.answer) c.requires.1 c.requires.2 c.reach_of-reached.ensures.0 c.is_gapped-gapped.ensures c.in_ok-answer.ensures) in
    (c.requires.0, c.requires.1, c.requires.2, c.reach_of-reached.ensures.1, joins.0)

pub returns-in-Joined : goal.returns-in-Joined
returns-in-Joined c =
    let a = c.args in
    let joins = puts_joined _ _ _ _ c.in-Joined.field-0 c.in-Joined.is (wrote a.t.now.sizes a.t.now.owners a.t.now.numbers a.store.now a.payload.now a.last (length a.out.now) c.reach_of-reached.result c.is_gapped-gapped.result (Ok c.in_ok-answer.answer) c.requires.1 c.requires.2 c.reach_of-reached.ensures.0 c.is_gapped-gapped.ensures c.in_ok-answer.ensures) in
    record { answers = answered a.t.now.sizes a.t.now.owners a.t.now.numbers a.store.now a.payload.now a.last (length a.out.now) c.reach_of-reached.result c.is_gapped-gapped.result (Ok c.in_ok-answer.answer) c.requires.1 c.requires.2 c.reach_of-reached.ensures.0 c.is_gapped-gapped.ensures c.in_ok-answer.ensures; puts = c.join_into.ensures ∙ joins.1 a.out.now }

pub returns-in_default : goal.returns-in_default
returns-in_default c =
    let a = c.args in
    record { answers = answered a.t.now.sizes a.t.now.owners a.t.now.numbers a.store.now a.payload.now a.last (length a.out.now) c.reach_of-reached.result c.is_gapped-gapped.result (Ok c.in_ok-answer.answer) c.requires.1 c.requires.2 c.reach_of-reached.ensures.0 c.is_gapped-gapped.ensures c.in_ok-answer.ensures; puts = puts_none _ _ _ c.in_ok-answer.answer c.in_default.not-Joined (wrote a.t.now.sizes a.t.now.owners a.t.now.numbers a.store.now a.payload.now a.last (length a.out.now) c.reach_of-reached.result c.is_gapped-gapped.result (Ok c.in_ok-answer.answer) c.requires.1 c.requires.2 c.reach_of-reached.ensures.0 c.is_gapped-gapped.ensures c.in_ok-answer.ensures) a.out.now }
