-- Laws of `read_header` and of `header_size`: two cases each. What is written reads as it was given.
use mathlib.Core.Path.{◌≡◌, refl, sym, ap, ◌∙◌}
use mathlib.Core.Bool.{Bool, true, false}
use mathlib.Core.List.{List, [], ◌∷◌, ◌++◌}
use Prim.Native.Nat.{ℕ, ◌-◌, ◌/◌, ◌%◌, ◌<◌, ◌≤◌}
use native.Mathlib.Omega.{arith}
use lib.Dec.{eqb}
use lib.ListN.{length, get_or}
use borrow.Author.Tests.{lt-ltb, le-ltb}
use Rattle.numbers.specs.Numbers.{gives, refuses}
use Rattle.numbers.specs.Bytes.{number_at}
use Rattle.numbers.proofs.Bytes.{said_back}
use Rattle.framing.specs.declared.CmduFields.{CmduFields}
use Rattle.framing.specs.Cmdu.{read_header, flags_for_lem, header_bytes_lem, header_size}
use Rattle.framing.specs.Claims.{NumbersFit, as_written_lem}

pub short : (s : List ℕ) → length s < 8 → refuses 1 ((8 - length s) ∷ []) ≡ read_header s
unfolding read_header
short s h = simp (lt-ltb (length s) 8 h)

-- `t` and `i` are how the code came by the two numbers of two bytes
pub whole : (s : List ℕ) (t i : ℕ) → 8 ≤ length s → t ≡ number_at 2 2 s → i ≡ number_at 2 4 s
    → gives (record {
      message_version = get_or s 0 0;
      reserved = get_or s 1 0;
      message_type = t;
      message_id = i;
      fragment = get_or s 6 0;
      flags = get_or s 7 0;
      last_fragment = eqb (get_or s 7 0 / 128 % 2) 1;
    })
    ≡ read_header s
unfolding read_header
whole s t i h e e' = rw (e, e') (simp (le-ltb (length s) 8 h))

pub no_room : (room : ℕ) → room < 8 → refuses 7 [] ≡ header_size room
unfolding header_size
no_room room h = simp (lt-ltb room 8 h)

pub fits : (room : ℕ) → 8 ≤ room → gives 8 ≡ header_size room
unfolding header_size
fits room h = simp (le-ltb room 8 h)

-- the bytes as the code puts them together
pub header_made : (f : CmduFields) (flags : ℕ) → f.message_type < 65536 → f.message_id < 65536 → flags ≡ flags_for_lem f.last_fragment
    → f.message_version ∷ 0 ∷ (f.message_type / 256) ∷ (f.message_type % 256) ∷ (f.message_id / 256) ∷ (f.message_id % 256) ∷ f.fragment ∷ flags ∷ [] ≡ header_bytes_lem f
header_made f flags h k e =
    let t : f.message_type / 256 % 256 ≡ f.message_type / 256 = omega arith in
    let i : f.message_id / 256 % 256 ≡ f.message_id / 256 = omega arith in
    rw (t, i, e)

marked : (last : Bool) → last ≡ eqb (flags_for_lem last / 128 % 2) 1
marked true = refl
marked false = refl

pub header_back : (f : CmduFields) (rest : List ℕ) → NumbersFit f → gives (as_written_lem f) ≡ read_header (header_bytes_lem f ++ rest)
header_back f rest b =
    ap (λ (l : Bool). gives (record { message_version = f.message_version; reserved = 0; message_type = f.message_type; message_id = f.message_id; fragment = f.fragment; flags = flags_for_lem f.last_fragment; last_fragment = l })) (marked f.last_fragment)
    ∙ whole (header_bytes_lem f ++ rest) _ _ (omega arith) (sym (said_back 2 f.message_type (omega (arith, b.two_of_type)))) (sym (said_back 2 f.message_id (omega (arith, b.two_of_id))))
