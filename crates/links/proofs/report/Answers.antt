-- `links::report` meets its contract: by whether the value reads, and by how many pairs it has.
use Rattle.std.proofs.Common.{sym, ap, ◌∙◌, arith, rules}
use lib.ListN.{length}
use Rattle.numbers.specs.Numbers.{gives, number, values}
use Rattle.numbers.proofs.Answers.{mapped_given}
use Rattle.layouts.specs.Reading.{read_value_lem}
use Rattle.links.specs.Pairs.{pairs_in}
use Rattle.links.specs.Reports.{report_over}
use Rattle.links.proofs.Reading.{got, pairs_refused, few_reported, too_many, not_reported}
use Rattle.links.proofs.report.Goals as goal

pub returns-then-entries-gt1024 : goal.returns-then-entries-gt1024
returns-then-entries-gt1024 c =
    let g = got c.args.kind c.args.value.now c.in_ok-entries.field-0 (sym (c.in_ok-entries.ensures ∙ ap (λ code. read_value_lem code c.args.value.now) c.from.ensures)) in
    sym (too_many c.args.kind c.args.value.now g.lie.pairs g.are (omega (arith, g.lie.many, c.if-entries-gt1024.true)))

pub over_pairs-requires : goal.over_pairs-requires
over_pairs-requires c =
    let g = got c.args.kind c.args.value.now c.in_ok-entries.field-0 (sym (c.in_ok-entries.ensures ∙ ap (λ code. read_value_lem code c.args.value.now) c.from.ensures)) in
    (c.if-entries-gt1024.false, mapped_given length (pairs_in c.args.kind c.args.value.now) g.lie.pairs g.are ∙ ap gives g.lie.many)

pub returns : goal.returns
returns c =
    let g = got c.args.kind c.args.value.now c.in_ok-entries.field-0 (sym (c.in_ok-entries.ensures ∙ ap (λ code. read_value_lem code c.args.value.now) c.from.ensures)) in
    c.over_pairs.ensures ∙ mapped_given (report_over c.args.kind) (pairs_in c.args.kind c.args.value.now) g.lie.pairs g.are ∙
    sym (few_reported c.args.kind c.args.value.now g.lie.pairs g.are (omega (arith, g.lie.many, c.if-entries-gt1024.false)))

pub returns-in_err-entries : goal.returns-in_err-entries
returns-in_err-entries c =
    let r = c.in_err-entries.field-0.0 in
    let e = sym (not_reported c.args.kind c.args.value.now (number r) (values r) (pairs_refused c.args.kind c.args.value.now (number r) (values r)
    (sym (c.in_err-entries.ensures ∙ ap (λ code. read_value_lem code c.args.value.now) c.from.ensures)))) in
    rw (sym e) (search rules)
