-- The entries of a value that holds text are its radios: each step goes over one, and one number asks for it.
use mathlib.Core.Path.{◌≡◌, refl, sym, ap, ◌∙◌, subst}
use mathlib.Core.Bool.{Bool, true, false, cond}
use mathlib.Core.List.{List, [], ◌∷◌}
use Prim.Native.Nat.{ℕ, zero, suc, ◌<◌}
use native.Mathlib.Omega.{arith}
use lib.Dec.{eqb}
use Rattle.numbers.specs.Numbers.{gives, refuses, mapped}
use Rattle.numbers.proofs.Firm.{never}
use Rattle.numbers.proofs.Answers.{given, follows, mapped_given}
use Rattle.layouts.specs.Layouts.{is_list_lem}
use Rattle.layouts.specs.Reading.{entries_end, end_of}
use Rattle.layouts.specs.Access.{start_in}
use Rattle.layouts.proofs.Within.{end_within}
use Rattle.layouts.proofs.Spans.{spans_end, nth}
use Rattle.texts.specs.Texts.{TextKind, inventory_code, text_kind, is_text_lem, radio}
use Rattle.texts.specs.Reading.{radio_list_lem, Laid, whole_of}
use Rattle.texts.specs.Access.{radio_in_lem, radio_count, locate_radio, count_radios, radios_of}
use Rattle.texts.proofs.Whole.{Parts, parts, radios_there, valid}
use Rattle.texts.proofs.Asked.{answers}
use Rattle.kinds.specs.Kinds.{locate_kind, count_kind}
use Rattle.kinds.proofs.Laws.{as_text}
use Rattle.entries.specs.Entries.{first_cursor_lem, pass_radio_lem, pass_in_lem}
use Rattle.entries.specs.Claims.{GoesOver, finished, or_none, asked_for, by_numbers}
use Rattle.entries.proofs.Laws.{cursor, no_more, step_1}
use Rattle.entries.proofs.Going.{leaf, item, no_depth, none_below, list_over}
use Rattle.entries.proofs.Lists.{leaf_steps}

-- only DeviceInventory has radios
without : (code : ℕ) (k : TextKind) → eqb code inventory_code ≡ false → text_kind code ≡ gives k → k.radios ≡ false
unfolding text_kind
without code k other x = go (eqb code 21) (eqb code 22) (eqb code inventory_code) _ _ _ other refl refl x where
  go : (a b c : Bool) (u v w : TextKind) → c ≡ false → u.radios ≡ false → v.radios ≡ false → cond a (gives u) (cond b (gives v) (cond c (gives w) (refuses 16 []))) ≡ gives k → k.radios ≡ false
  go true b c u v w e f g x = rw (← (given u k x)) f
  go false true c u v w e f g x = rw (← (given v k x)) g
  go false false true u v w e f g x = let z : ◌≡◌ {A = ℕ} 0 1 = cc in absurd (omega arith)
  go false false false u v w e f g x = never k 16 [] (sym x)

-- a value that holds text and reads
module _ (code : ℕ) (s : List ℕ) (k : TextKind) (v : Laid) (no_list : is_list_lem code ≡ false) (text : is_text_lem code ≡ true) (is : text_kind code ≡ gives k) (reads : whole_of k s ≡ gives v) where
  from : Parts k s v
  from = parts k s v (valid k s v reads).laid

  pub radios_are : radios_of code s ≡ gives v.list
  unfolding radios_of
  radios_are = follows (text_kind code) k _ is ∙ radios_there k s v (valid k s v reads).laid

  counts : (ns : List ℕ) → count_kind code ns s ≡ radio_count ns v
  unfolding count_radios
  counts ns = (as_text code s no_list text).2 ns ∙ answers code (λ k v. radio_count ns v) s k v is reads

  locates : (ns : List ℕ) → locate_kind code ns s ≡ radio_in_lem ns v
  unfolding locate_radio
  locates ns = (as_text code s no_list text).1 ns ∙ answers code (λ k v. radio_in_lem ns v) s k v is reads

  pub own_many : count_kind code [] s ≡ gives v.list.many
  own_many = counts []

  -- without radios there is nothing to go over
  none_over : (depth : ℕ) → v.list.many ≡ 0 → GoesOver s (first_cursor_lem code depth v.list) (by_numbers depth code s [])
  none_over depth none =
      subst (GoesOver s (first_cursor_lem code depth v.list)) (sym (none_below depth code s [] (ap or_none own_many ∙ none))) (stop depth) where
        stop : (depth : ℕ) → GoesOver s (first_cursor_lem code depth v.list) []
        stop zero = finished (no_more code 0 s v.list.first)
        stop (suc d) = subst (λ n. GoesOver s (cursor code (suc d) s v.list.first n 0 0) []) (sym none) (finished (no_more code (suc d) s v.list.first))

  no_radios : eqb code inventory_code ≡ false → v.list.many ≡ 0
  unfolding radio_list_lem
  no_radios other = sym (ap (λ m. m.many) (given _ v.list (rw (without code k other is) at from.counts)))

  -- each radio is the one that its number asks for
  asked : (i r : ℕ) → i < v.list.many → entries_end (end_of radio s) i v.list.first ≡ gives r → asked_for code s (i ∷ []) ≡ item r 0 1
  asked i r h y =
      let n = nth (end_of radio s) s (end_within radio s) v.list.many v.list.first v.radios i h from.each in
      let same : n.start ≡ r = given n.start r (sym n.starts ∙ y) in
      let start : start_in (locate_kind code (i ∷ []) s) ≡ r = ap start_in (locates (i ∷ []) ∙ n.is) ∙ same in
      rw (start, counts (i ∷ []))

  passes : eqb code inventory_code ≡ true → (enter : Bool) (p : ℕ) → pass_in_lem code 1 enter s p ≡ mapped (λ q. record { many = 0; first = q }) (end_of radio s p)
  unfolding pass_in_lem pass_radio_lem
  passes e enter p = rw e

  some_over : eqb code inventory_code ≡ true → (depth : ℕ) → GoesOver s (first_cursor_lem code depth v.list) (by_numbers depth code s [])
  some_over e zero = subst (GoesOver s (first_cursor_lem code 0 v.list)) (sym (no_depth code s [])) (finished (no_more code 0 s v.list.first))
  some_over e (suc d) =
      list_over s code (leaf (end_of radio s)) d (λ p n. cursor code (suc d) s p n 0 0)
      (leaf_steps code (suc d) s 1 (λ p n. cursor code (suc d) s p n 0 0) (λ n p m. cursor code (suc d) s p n m 0) (λ n q. refl) (λ p n. step_1 code (suc d) s p n) (end_of radio s) (passes e) d)
      v.list v.radios.end (sym (spans_end (end_of radio s) v.list.many v.list.first) ∙ mapped_given (λ r. r.end) _ v.radios from.each)
      (ap or_none own_many) asked (no_more code (suc d) s v.radios.end)

  pub goes_over : (depth : ℕ) → GoesOver s (first_cursor_lem code depth v.list) (by_numbers depth code s [])
  goes_over depth = go (eqb code inventory_code) refl where
    go : (b : Bool) → eqb code inventory_code ≡ b → GoesOver s (first_cursor_lem code depth v.list) (by_numbers depth code s [])
    go true e = some_over e depth
    go false e = none_over depth (no_radios e)
