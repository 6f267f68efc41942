-- A fragment's number is one byte.
use mathlib.Core.List.{List}
use Prim.Native.Nat.{◌<◌}
use mir.Val.{Val}
use denote.Laws.{Is}
use denote.Struct.Laws as LL
use Rattle.pushing.specs.declared.Arrival.{Arrival}
use Rattle.pushing.specs.contracts.Arrival as A
use Rattle.pushing.proofs.Arrival.TheLaws as A'
use Rattle.pushing.specs.contracts.Fragment as F
use Rattle.pushing.proofs.Fragment.TheLaws as F'

module _ (a : Arrival) (vs : List Val) (is : Is A.the_row a vs) where
  pub number_byte : a.fragment.number < 256
  number_byte = (LL.owed F.the_type F'.the_laws a.fragment _ (LL.owed A.the_type A'.the_laws a vs is).1.1.0).1.1.0.1
