-- The claims of specs/Claims.antt, proved.
use mathlib.Core.Path.{◌≡◌, refl}
use Rattle.numbers.specs.Numbers.{gives}
use Rattle.numbers.proofs.Firm.{by_equation}
use Rattle.links.specs.declared.LinkKind.{LinkKind}
use Rattle.links.specs.declared.LinkKind.TheVariants.{Tx, Rx}
use Rattle.std.specs.Prelude.{ℤ, Option, None, Some}
use Rattle.links.specs.declared.LinkReport.{LinkReport}
use Rattle.c_links.specs.Numbers.{report_numbers_lem, report_from_lem}
use Rattle.c_links.specs.Claims.{Firmness, ComesBack, RefusedNeverDoes, MergesAsTheLayer, Claims}

firmness : Firmness
firmness = record {
  report_numbers = λ reported. by_equation _;
  merge_numbers = λ one other. by_equation _;
}

-- r with this kind and this lowest, in each of the four cases
abbrev with_those : LinkReport → LinkKind → Option ℤ → LinkReport
with_those r k l =
    record { kind = k; pairs = r.pairs; errors = r.errors; packets = r.packets; low = l; sum = r.sum }

in_each_case : (r : LinkReport) (k : LinkKind) (l : Option ℤ)
    → report_from_lem (report_numbers_lem (gives (with_those r k l))) ≡ gives (with_those r k l)
unfolding report_from_lem
in_each_case r Tx None = refl
in_each_case r Tx (Some l) = refl
in_each_case r Rx None = refl
in_each_case r Rx (Some l) = refl

comes_back : ComesBack
comes_back r = in_each_case r r.kind r.low

refused_never_does : RefusedNeverDoes
unfolding report_from_lem
refused_never_does n vs = refl

merges_as_the_layer : MergesAsTheLayer
merges_as_the_layer a b = rw (comes_back a, comes_back b)

pub claims : Claims
claims = record {
  firmness = firmness;
  comes_back = comes_back;
  refused_never_does = refused_never_does;
  merges_as_the_layer = merges_as_the_layer;
}
