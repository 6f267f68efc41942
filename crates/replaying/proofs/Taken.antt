-- What the writer takes is refused neither by 12 nor by 23.
use mathlib.Core.Path.{◌≡◌, refl, sym}
use mathlib.Core.Bool.{Bool, true, false, cond}
use mathlib.Core.List.{List, []}
use Prim.Native.Nat.{ℕ, ◌+◌, ◌≤◌, ◌<◌}
use lib.Dec.{leb, ltb}
use lib.ListN.{length}
use borrow.Author.Tests.{ltb-false, leb-false}
use Rattle.numbers.specs.Numbers.{Answer, gives, refuses}
use Rattle.numbers.proofs.Firm.{never}
use Rattle.table.specs.Rows.{place_size}
use Rattle.captures.specs.Form.{seconds_in}
use Rattle.captures.specs.Writing.{frame_size}
use Rattle.replaying.specs.Claims.{TakenIsWritable}

module _ (time n room size : ℕ) where
  -- by the test of the payload's length and that of the seconds, what is left of `frame_size`
  abbrev by_seconds : Bool → Answer ℕ
  by_seconds late = cond late (refuses 23 []) (cond (ltb room (38 + n)) (refuses 7 []) (gives (38 + n)))

  short : (long : Bool) → ltb place_size n ≡ long → cond long (refuses 12 []) (by_seconds (leb 4294967296 (seconds_in time))) ≡ gives size → n ≤ place_size
  short true e h = never size 12 [] (sym h)
  short false e h = ltb-false _ _ e

  soon : (long late : Bool) → leb 4294967296 (seconds_in time) ≡ late → cond long (refuses 12 []) (by_seconds late) ≡ gives size → seconds_in time < 4294967296
  soon true late e h = never size 12 [] (sym h)
  soon false true e h = never size 23 [] (sym h)
  soon false false e h = leb-false _ _ e

pub taken_is_writable : TakenIsWritable
unfolding frame_size
taken_is_writable p key kind room size h =
    let time = p.arrival.time in
    let n = length p.payload in
    record {
      is_short = short time n room size (ltb place_size n) refl h;
      in_time = soon time n room size (ltb place_size n) (leb 4294967296 (seconds_in time)) refl h;
      key_fits = key;
      type_fits = kind;
    }
