-- The claims of specs/Claims.antt, proved.
use mathlib.Core.Path.{◌≡◌, sym, ap, ◌∙◌}
use mathlib.Core.List.{[], ◌∷◌}
use Prim.Native.Nat.{ℕ, ◌+◌, ◌*◌}
use native.Mathlib.Omega.{arith}
use Rattle.numbers.specs.Bytes.{big_endian, in_bytes}
use Rattle.numbers.proofs.Bytes.{bytes_back, said_back}
use Rattle.numbers.proofs.Firm.{by_equation}
use Rattle.keys.specs.Keys.{key_of, key_for, sender_of_lem, id_of, sender_bytes}
use Rattle.keys.specs.Claims.{Claims, Firmness, KeyIsOne's, OriginRead, KeyRemade}

firmness : Firmness
firmness = record { key_of = λ s0 s1 s2 s3 s4 s5 id. by_equation (key_of (s0 ∷ s1 ∷ s2 ∷ s3 ∷ s4 ∷ s5 ∷ []) id); sender_of = λ key. by_equation (sender_of_lem key) }

origin_read : OriginRead
origin_read o =
    let high : sender_of_lem (key_for o) ≡ big_endian o.sender = omega (arith, o.two) in
    (ap sender_bytes high ∙ ap (λ (w : ℕ). in_bytes w (big_endian o.sender)) (sym o.six) ∙ bytes_back o.sender o.bytes, omega (arith, o.two))

key_remade : KeyRemade
key_remade key h =
    let sender : big_endian (sender_bytes (sender_of_lem key)) ≡ sender_of_lem key = said_back 6 (sender_of_lem key) (omega arith) in
    ap (λ (n : ℕ). n * 65536 + id_of key) sender ∙ omega arith

key_is_one's : KeyIsOne's
key_is_one's a b e =
    let of-a = origin_read a in
    let of-b = origin_read b in
    (sym of-a.0 ∙ ap (λ (key : ℕ). sender_bytes (sender_of_lem key)) e ∙ of-b.0, sym of-a.1 ∙ ap id_of e ∙ of-b.1)

pub claims : Claims
claims = record { firmness = firmness; key_is_one's = key_is_one's; origin_read = origin_read; key_remade = key_remade }
