-- Reports are added up in any order.
use mathlib.Core.Path.{◌≡◌, refl, sym, ap, ◌∙◌}
use mathlib.Core.Bool.{Bool, cond, ◌&&◌, and_comm}
use mathlib.Core.List.{List, [], ◌∷◌, ◌++◌, Permᴰ}
use Prim.Native.Nat.{ℕ, ◌+◌}
use native.Mathlib.Omega.{arith}
use native.Mathlib.Nat.{add_assoc, add_comm, zero-add, add-zero, min_comm, max_comm}
use lib.Dec.{leb}
use lib.IntN.{ℤ, pos, negsuc, +ℤ_assoc, +ℤ_comm, +ℤ_idl, +ℤ_idr}
use Rattle.numbers.specs.Numbers.{Answer, gives, refuses}
use Rattle.links.specs.declared.LinkKind.{LinkKind}
use Rattle.links.specs.declared.LinkKind.TheVariants.{Tx, Rx}
use Rattle.std.specs.Prelude.{Option, None, Some}
use Rattle.links.specs.declared.LinkReport.{LinkReport}
use Rattle.links.specs.Pairs.{errors_of, packets_of}
use Rattle.links.specs.Reports.{lower, lower_of_lem, no_pairs_lem, lowest_in_lem, sum_in, one_pair_lem, added, report_over, merged, same_kind_lem, some_value_gives_lem, most_pairs}

lower_comm : (x y : ℤ) → lower x y ≡ lower y x
lower_comm (pos a) (pos b) = ap pos (min_comm a b)
lower_comm (pos a) (negsuc b) = refl
lower_comm (negsuc a) (pos b) = refl
lower_comm (negsuc a) (negsuc b) = ap negsuc (max_comm a b)

lower_assoc : (x y z : ℤ) → lower (lower x y) z ≡ lower x (lower y z)
lower_assoc (pos a) (pos b) (pos c) = ap pos (omega arith)
lower_assoc (pos a) (pos b) (negsuc c) = refl
lower_assoc (pos a) (negsuc b) (pos c) = refl
lower_assoc (pos a) (negsuc b) (negsuc c) = refl
lower_assoc (negsuc a) (pos b) (pos c) = refl
lower_assoc (negsuc a) (pos b) (negsuc c) = refl
lower_assoc (negsuc a) (negsuc b) (pos c) = refl
lower_assoc (negsuc a) (negsuc b) (negsuc c) = ap negsuc (omega arith)

lower_of_comm : (x y : Option ℤ) → lower_of_lem x y ≡ lower_of_lem y x
lower_of_comm None None = refl
lower_of_comm None (Some b) = refl
lower_of_comm (Some a) None = refl
lower_of_comm (Some a) (Some b) = ap Some (lower_comm a b)

lower_of_assoc : (x y z : Option ℤ) → lower_of_lem (lower_of_lem x y) z ≡ lower_of_lem x (lower_of_lem y z)
lower_of_assoc None y z = refl
lower_of_assoc (Some a) None z = refl
lower_of_assoc (Some a) (Some b) None = refl
lower_of_assoc (Some a) (Some b) (Some c) = ap Some (lower_assoc a b c)

added_comm : (a b : LinkReport) → a.kind ≡ b.kind → added a b ≡ added b a
added_comm a b same = λ i. record {
  kind = same i;
  pairs = add_comm a.pairs b.pairs i;
  errors = add_comm a.errors b.errors i;
  packets = add_comm a.packets b.packets i;
  low = lower_of_comm a.low b.low i;
  sum = +ℤ_comm a.sum b.sum i;
}

added_assoc : (a b c : LinkReport) → added (added a b) c ≡ added a (added b c)
added_assoc a b c = λ i. record {
  kind = a.kind;
  pairs = add_assoc a.pairs b.pairs c.pairs i;
  errors = add_assoc a.errors b.errors c.errors i;
  packets = add_assoc a.packets b.packets c.packets i;
  low = lower_of_assoc a.low b.low c.low i;
  sum = +ℤ_assoc a.sum b.sum c.sum i;
}

added_none : (k : LinkKind) (a : LinkReport) → k ≡ a.kind → added (no_pairs_lem k) a ≡ a
added_none k a same = λ i. record {
  kind = same i;
  pairs = zero-add a.pairs i;
  errors = zero-add a.errors i;
  packets = zero-add a.packets i;
  low = a.low;
  sum = +ℤ_idl a.sum i;
}

pub own_kind : (k : LinkKind) (ps : List (List ℕ)) → (report_over k ps).kind ≡ k
unfolding report_over
own_kind k [] = refl
own_kind k (p ∷ ps) = refl

pub over_append : (k : LinkKind) (ps qs : List (List ℕ)) → report_over k (ps ++ qs) ≡ added (report_over k ps) (report_over k qs)
unfolding report_over
over_append k [] qs = sym (added_none k (report_over k qs) (sym (own_kind k qs)))
over_append k (p ∷ ps) qs = ap (added (one_pair_lem k p)) (over_append k ps qs) ∙ sym (added_assoc (one_pair_lem k p) (report_over k ps) (report_over k qs))

-- one pair more at the end
pub over_next : (k : LinkKind) (ps : List (List ℕ)) (p : List ℕ) → report_over k (ps ++ (p ∷ [])) ≡ added (report_over k ps) (one_pair_lem k p)
unfolding report_over
over_next k ps p = over_append k ps (p ∷ []) ∙ ap (added (report_over k ps)) alone
  where
    low_alone : (k : LinkKind) → lower_of_lem (lowest_in_lem k p) None ≡ lowest_in_lem k p
    low_alone Tx = refl
    low_alone Rx = refl

    alone : added (one_pair_lem k p) (no_pairs_lem k) ≡ one_pair_lem k p
    alone = λ i. record {
      kind = k;
      pairs = 1;
      errors = add-zero (errors_of k p) i;
      packets = add-zero (packets_of k p) i;
      low = low_alone k i;
      sum = +ℤ_idr (sum_in k p) i;
    }

-- the first two of three change places
swapped : (k : LinkKind) (p q : List ℕ) (a : LinkReport) → added (one_pair_lem k p) (added (one_pair_lem k q) a) ≡ added (one_pair_lem k q) (added (one_pair_lem k p) a)
swapped k p q a =
    sym (added_assoc (one_pair_lem k p) (one_pair_lem k q) a) ∙ ap (λ x. added x a) (added_comm (one_pair_lem k p) (one_pair_lem k q) refl) ∙
    added_assoc (one_pair_lem k q) (one_pair_lem k p) a

pub any_order : (k : LinkKind) {ps qs : List (List ℕ)} → Permᴰ ps qs → report_over k ps ≡ report_over k qs
unfolding report_over
any_order k Permᴰ.nil = refl
any_order k (Permᴰ.cons {a = a} {b = b} {l₁ = l₁} e d) =
    ap (λ x. added (one_pair_lem k x) (report_over k l₁)) e ∙ ap (added (one_pair_lem k b)) (any_order k d)
any_order k (Permᴰ.swap {a = a} {b = b} {a' = c} {b' = d} {l = l} e g) =
    swapped k a b (report_over k l) ∙ ap (λ x. added (one_pair_lem k x) (added (one_pair_lem k a) (report_over k l))) g ∙
    ap (λ x. added (one_pair_lem k c) (added (one_pair_lem k x) (report_over k l))) e
any_order k (Permᴰ.trans d g) = any_order k d ∙ any_order k g

-- what is made of two, by the test
abbrev answer : Bool → LinkReport → Answer LinkReport
answer c a = cond {A = Answer LinkReport} c (gives a) (refuses 19 [])

pub either_order : (a b : LinkReport) → merged a b ≡ merged b a
unfolding merged
either_order a b = by_kinds a.kind b.kind refl refl
  where
    rest : LinkReport → LinkReport → Bool
    rest a b = leb (a.pairs + b.pairs) most_pairs && (some_value_gives_lem a && some_value_gives_lem b)

    rest_same : rest a b ≡ rest b a
    rest_same = λ i. leb (add_comm a.pairs b.pairs i) most_pairs && and_comm (some_value_gives_lem a) (some_value_gives_lem b) i

    by_kinds : (j k : LinkKind) → a.kind ≡ j → b.kind ≡ k → answer (same_kind_lem j k && rest a b) (added a b) ≡ answer (same_kind_lem k j && rest b a) (added b a)
    by_kinds Tx Tx e d = λ i. answer (rest_same i) (added_comm a b (e ∙ sym d) i)
    by_kinds Tx Rx e d = refl
    by_kinds Rx Tx e d = refl
    by_kinds Rx Rx e d = λ i. answer (rest_same i) (added_comm a b (e ∙ sym d) i)
