-- The length stands for a place that is not found.
use Rattle.std.proofs.Common.{◌≡◌, ℕ, ◌≤◌, Bool, true, false, cond, length, eqb, ltb, ltb-false, arith, refl, ap, ◌∙◌, Option, Some, None}
use Rattle.std.specs.Option.{unwrap_or}
use Rattle.std.specs.List.{position_or_len}
use Rattle.std.proofs.lemmas.List.Sums.{prefix_len-le-length}
use Rattle.command_lines.proofs.place_of.Goals as goal

place_or : (b : Bool) (i n : ℕ) → i ≤ n → ltb i n ≡ b → unwrap_or (cond b (Some i) None) n ≡ i
place_or true i n h e = refl
place_or false i n h e = omega (arith, ltb-false i n e)

pub returns : goal.returns
returns c =
    let s = c.args.s.now in
    let n = length s in
    let i = position_or_len (λ b. eqb b c.args.separator) s in
    let within : i ≤ n = prefix_len-le-length _ s in
    let first : c.unwrap_or.result ≡ i = c.unwrap_or.ensures ∙ ap (λ (o : Option ℕ). unwrap_or o n) c.found.ensures ∙ place_or (ltb i n) i n within refl in
    record { first = first; within = omega (arith, first, within) }
