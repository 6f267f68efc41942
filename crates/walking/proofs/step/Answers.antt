-- `step` meets its contract: the end, or what reads in the part from `at` on, the marker or another.
use mathlib.Core.Path.{sym, ◌∙◌, ap}
use mathlib.Core.Bool.{false}
use native.Mathlib.Omega.{arith}
use borrow.Author.Rules.{rules}
use Rattle.framing.specs.Tlv.{read_tlv_lem}
use Rattle.walking.proofs.Stepping.{whole_rest, at_end_lem, by_reading, by_mark, by_marker, fits, narrow}
use Rattle.walking.proofs.step.Goals as goal

pub returns-then-payload-at : goal.returns-then-payload-at
returns-then-payload-at c = at_end_lem _ _ (search rules)

pub returns-in-Err : goal.returns-in-Err
returns-in-Err c =
    let a = c.args in
    by_reading a.payload.now a.at (search rules) _ (c.in-Err.ensures ∙ ap read_tlv_lem (whole_rest a.payload.now a.at))

pub overflow_cast-tlv : goal.overflow_cast-tlv
overflow_cast-tlv c =
    let a = c.args in
    let e = c.in-Ok.ensures ∙ ap read_tlv_lem (whole_rest a.payload.now a.at) in
    record { fits = narrow a.payload.now a.at _ e (search rules) (search rules) }

pub returns-then-is_marker : goal.returns-then-is_marker
returns-then-is_marker c =
    let a = c.args in
    let e = c.in-Ok.ensures ∙ ap read_tlv_lem (whole_rest a.payload.now a.at) in
    by_marker a.payload.now a.at (search rules) _ e (sym c.if-is_marker.true ∙ c.is_marker.ensures)

pub overflow_add-result-2 : goal.overflow_add-result-2
overflow_add-result-2 c =
    let a = c.args in
    omega (arith, fits a.payload.now a.at _ (c.in-Ok.ensures ∙ ap read_tlv_lem (whole_rest a.payload.now a.at)) (search rules))

pub returns : goal.returns
returns c =
    let a = c.args in
    let e = c.in-Ok.ensures ∙ ap read_tlv_lem (whole_rest a.payload.now a.at) in
    by_mark a.payload.now a.at (search rules) _ e false (sym c.if-is_marker.false ∙ c.is_marker.ensures)
