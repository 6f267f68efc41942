-- Laws of `file_header_size` and `frame_size`, a law for each case, and of what is written piece by piece.
use mathlib.Core.Path.{◌≡◌, sym, ap, ◌∙◌}
use mathlib.Core.List.{List, [], ◌++◌, append_assoc}
use Prim.Native.Nat.{ℕ, ◌+◌, ◌-◌, ◌<◌, ◌≤◌}
use native.Mathlib.Omega.{arith}
use lib.ListN.{length, take, drop, length-append, length-take, length-drop}
use lib.Seq.{take_at, drop_at, drop-drop}
use borrow.Author.Tests.{lt-ltb, le-ltb, le-leb, lt-leb}
use borrow.Rule.Slice.PartMut.{mid_of, put_mid}
use Rattle.numbers.specs.Numbers.{gives, refuses}
use Rattle.framing.specs.declared.CmduFields.{CmduFields}
use Rattle.framing.specs.Tlv.{leaves}
use Rattle.framing.specs.Cmdu.{header_bytes_lem, header_size}
use Rattle.framing.proofs.Writing.{tail_put, put}
use Rattle.framing.proofs.Heading as cmdu
use Rattle.table.specs.Rows.{place_size}
use Rattle.captures.specs.Form.{seconds_in}
use Rattle.captures.specs.Writing.{file_header_size, frame_size}

pub no_header_room : (room : ℕ) → room < 24 → refuses 7 [] ≡ file_header_size room
unfolding file_header_size
no_header_room room h = simp (lt-ltb room 24 h)

pub header_fits : (room : ℕ) → 24 ≤ room → gives 24 ≡ file_header_size room
unfolding file_header_size
header_fits room h = simp (le-ltb room 24 h)

module _ (time n room : ℕ) where
  pub too_long : place_size < n → refuses 12 [] ≡ frame_size time n room
  unfolding frame_size
  too_long h = simp (lt-ltb place_size n h)

  module _ (h : n ≤ place_size) where
    pub too_late : 4294967296 ≤ seconds_in time → refuses 23 [] ≡ frame_size time n room
    unfolding frame_size
    too_late k = simp (le-ltb place_size n h, le-leb 4294967296 (seconds_in time) k)

    module _ (k : seconds_in time < 4294967296) where
      pub no_room : room < 38 + n → refuses 7 [] ≡ frame_size time n room
      unfolding frame_size
      no_room l = simp (le-ltb place_size n h, lt-leb 4294967296 (seconds_in time) k, lt-ltb room (38 + n) l)

      pub fits : 38 + n ≤ room → gives (38 + n) ≡ frame_size time n room
      unfolding frame_size
      fits l = simp (le-ltb place_size n h, lt-leb 4294967296 (seconds_in time) k, le-ltb room (38 + n) l)

-- A piece v in the part that was lent, after the a bytes that stand at the start already.
module _ (begun out₀ out ys : List ℕ) (a : ℕ) (l : length begun ≡ a) (e : out ≡ begun ++ drop a out₀) where
  abbrev part : List ℕ
  part = mid_of a (length out - a) out

  abbrev Holds : List ℕ → Type 0
  Holds v = put_mid a (length out - a) out ys ≡ (begun ++ v) ++ drop (a + length v) out₀

  pub added : (v : List ℕ) → ys ≡ v ++ drop (length v) part → Holds v
  added v f =
      let rest : drop (a + length v) (begun ++ drop a out₀) ≡ drop (a + length v) out₀ =
      sym (drop-drop (length v) a (begun ++ drop a out₀)) ∙ ap (drop (length v)) (drop_at begun (drop a out₀) a l) ∙ drop-drop (length v) a out₀ in
      tail_put a out v ys f
      ∙ ap (λ (b : List ℕ). take a b ++ (v ++ drop (a + length v) b)) e
      ∙ rw (take_at begun (drop a out₀) a l, rest) (sym (append_assoc begun v (drop (a + length v) out₀)))

  -- by a copy, into as many elements as the piece has
  pub copied : (v : List ℕ) (k : ℕ) → k ≡ length v → ys ≡ v → put_mid a k out ys ≡ (begun ++ v) ++ drop (a + length v) out₀
  copied v k n f =
      let rest = drop-drop (length v) a out₀ in
      rw (f, n, e, take_at begun (drop a out₀) a l, drop_at begun (drop a out₀) a l, rest)
      (sym (append_assoc begun v (drop (a + length v) out₀)))

  -- by writing a CMDU header
  pub headed : (f g : CmduFields) → f ≡ g → a + 8 ≤ length out₀ → ys ≡ leaves (header_size (length part)) (header_bytes_lem f) part → Holds (header_bytes_lem g)
  headed f g i h k =
      let same : length out ≡ length begun + (length out₀ - a) = ap length e ∙ rw (length-append, length-drop) in
      let room : 8 ≤ length part = simp (length-take, length-drop) (omega arith) in
      added (header_bytes_lem g) (k ∙ sym (put (header_size (length part)) 8 (header_bytes_lem f) part (cmdu.fits (length part) room)) ∙ ap (λ (h : CmduFields). header_bytes_lem h ++ drop 8 part) i)
