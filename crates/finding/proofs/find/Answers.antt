-- `find` meets its contract: what was found stands one place before the number that `find_place` said.
use Rattle.std.proofs.Common.{sym, ◌∙◌, arith, rules}
use Rattle.numbers.specs.Numbers.{number, values}
use Rattle.finding.proofs.There.{inside, there, not_there}
use Rattle.finding.proofs.find.Goals as goal

pub overflow_sub-looked : goal.overflow_sub-looked
overflow_sub-looked c = let h = (inside c.args.code c.args.payload.now c.args.list.now c.args.from _ c.in_ok-looked.ensures).0 in omega arith

pub bounds-list-looked : goal.bounds-list-looked
bounds-list-looked c = (inside c.args.code c.args.payload.now c.args.list.now c.args.from _ c.in_ok-looked.ensures).1

pub offset_bounds-list-looked : goal.offset_bounds-list-looked
offset_bounds-list-looked c = record { fits = omega (arith, bounds-list-looked c) }

pub returns : goal.returns
returns c = c.look.ensures ∙ there c.args.code c.args.payload.now c.args.list.now c.args.from _ c.in_ok-looked.ensures

pub returns-in_err-looked : goal.returns-in_err-looked
returns-in_err-looked c =
    let r = c.in_err-looked.field-0.0 in
    rw (sym (not_there _ (number r) (values r) c.in_err-looked.ensures)) (search rules)
