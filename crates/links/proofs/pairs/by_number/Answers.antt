-- Where the entry lies, there lies the pair.
use Rattle.std.proofs.Common.{◌≡◌, sym, ap, ◌∙◌, [], ◌∷◌, rules, arith}
use Rattle.numbers.specs.Numbers.{gives, number, values, mapped, told}
use Rattle.numbers.proofs.Answers.{mapped_given, mapped_refused}
use Rattle.layouts.specs.Access.{part_of, locate_entry}
use Rattle.links.specs.Pairs.{link_code, pair_at}
use Rattle.links.proofs.Reading.{Whole, whole, pair_given, pair_refused, long_part}
use Rattle.links.proofs.pairs.by_number.Goals as goal

pub slice_bounds-read-count : goal.slice_bounds-read-count
slice_bounds-read-count g c =
    let has = sym (c.in_ok-span.ensures ∙ (λ i. locate_entry ((c.from.ensures ∙ ap link_code c.kind.ensures) i) (c.args.number ∷ []) c.args.value.now)) in
    let lies : Whole g.P.LinkPair.kind c.args.value.now c.in_ok-span.span = whole _ _ c.args.number c.in_ok-span.span has in
    omega (arith, lies.long)

pub slice_bounds-read-start : goal.slice_bounds-read-start
slice_bounds-read-start g c = let h = slice_bounds-read-count g c in search rules

pub slice_bounds-read-end : goal.slice_bounds-read-end
slice_bounds-read-end g c =
    let has = sym (c.in_ok-span.ensures ∙ (λ i. locate_entry ((c.from.ensures ∙ ap link_code c.kind.ensures) i) (c.args.number ∷ []) c.args.value.now)) in
    let lies : Whole g.P.LinkPair.kind c.args.value.now c.in_ok-span.span = whole _ _ c.args.number c.in_ok-span.span has in
    let h = lies.inside in search rules

pub read-requires : goal.read-requires
read-requires g c =
    let has = sym (c.in_ok-span.ensures ∙ (λ i. locate_entry ((c.from.ensures ∙ ap link_code c.kind.ensures) i) (c.args.number ∷ []) c.args.value.now)) in
    long_part g.P.LinkPair.kind c.args.value.now c.in_ok-span.span (whole _ _ c.args.number c.in_ok-span.span has)

pub returns : goal.returns
returns g c =
    let has = sym (c.in_ok-span.ensures ∙ (λ i. locate_entry ((c.from.ensures ∙ ap link_code c.kind.ensures) i) (c.args.number ∷ []) c.args.value.now)) in
    ap gives c.read.ensures ∙
    sym (mapped_given g.P.LinkPair.fields (pair_at g.P.LinkPair.kind c.args.value.now c.args.number) (part_of (gives c.in_ok-span.span) c.args.value.now) (pair_given _ _ _ c.in_ok-span.span has))

pub returns-in_err-span : goal.returns-in_err-span
returns-in_err-span g c =
    let has = sym (c.in_err-span.ensures ∙ (λ i. locate_entry ((c.from.ensures ∙ ap link_code c.kind.ensures) i) (c.args.number ∷ []) c.args.value.now)) in
    let r = c.in_err-span.field-0.0 in
    let same : mapped g.P.LinkPair.fields (pair_at g.P.LinkPair.kind c.args.value.now c.args.number) ≡ told r =
    mapped_refused g.P.LinkPair.fields (pair_at g.P.LinkPair.kind c.args.value.now c.args.number) (number r) (values r) (pair_refused _ _ _ (number r) (values r) has) in
    rw same (search rules)
