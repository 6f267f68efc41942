-- No such entry, what reading never gives, or an entry with a text or without.
use Rattle.std.proofs.Common.{sym, ap, ◌∙◌}
use mathlib.Core.List.{◌++◌, append-nil}
use lib.ListN.{take, drop}
use Rattle.numbers.specs.Numbers.{gives}
use Rattle.fields.specs.Writing.{only_zeros_lem, text_bytes}
use Rattle.fields.specs.PrivateSteps.{made_with}
use Rattle.fields.proofs.Lent.{puts_as, puts_none, made_never, made, short_text}
use Rattle.fields.proofs.putting.put_entry.Goals as goal

pub returns-in_default : goal.returns-in_default
unfolding made_with
returns-in_default c =
    let a = c.args in
    let whole = puts_none 16 _ a.out.now (ap (λ n. made_with a.shape.has_text n a.own.now a.text.now) (sym c.in_default.is)) in
    record { answer = whole.0; bytes = whole.1 }

pub returns-then-not-can_be_read : goal.returns-then-not-can_be_read
returns-then-not-can_be_read c =
    let a = c.args in
    let never = made_never a.shape.has_text c.in-Some.size a.own.now a.text.now (sym c.can_be_read.ensures ∙ c.if-not-can_be_read.true) in
    let whole = puts_none 9 _ a.out.now (never ∙ ap (λ n. made_with a.shape.has_text n a.own.now a.text.now) (sym c.in-Some.is)) in
    record { answer = whole.0; bytes = whole.1 }

pub put_both-requires : goal.put_both-requires
put_both-requires c =
    let a = c.args in
    short_text (only_zeros_lem (drop c.in-Some.size a.own.now)) a.shape.has_text a.text.now (sym c.can_be_read.ensures ∙ c.if-not-can_be_read.false) c.if-shape.true

pub returns-then-shape : goal.returns-then-shape
returns-then-shape c =
    let a = c.args in
    let e = made a.shape.has_text c.in-Some.size a.own.now a.text.now (sym c.can_be_read.ensures ∙ c.if-not-can_be_read.false) in
    let same = (λ i. gives (c.first-part.ensures i ++ text_bytes (sym c.if-shape.true i) a.text.now)) ∙ e ∙ ap (λ n. made_with a.shape.has_text n a.own.now a.text.now) (sym c.in-Some.is) in
    let whole = puts_as _ _ a.out.now _ _ same (c.put_both.ensures.answer, c.put_both.ensures.bytes) in record { answer = whole.0; bytes = whole.1 }

pub returns-else-shape : goal.returns-else-shape
returns-else-shape c =
    let a = c.args in
    let e = made a.shape.has_text c.in-Some.size a.own.now a.text.now (sym c.can_be_read.ensures ∙ c.if-not-can_be_read.false) in
    let own = take c.in-Some.size a.own.now in
    let same = ap gives (c.first-part.ensures ∙ sym (append-nil own)) ∙ ap (λ t. gives (own ++ text_bytes t a.text.now)) (sym c.if-shape.false) ∙ e ∙
    ap (λ n. made_with a.shape.has_text n a.own.now a.text.now) (sym c.in-Some.is) in
    let whole = puts_as _ _ a.out.now _ _ same (c.put_bytes.ensures.answer, c.put_bytes.ensures.bytes) in record { answer = whole.0; bytes = whole.1 }
