-- What is claimed of keys; proofs/Claims.antt proves it.
use Rattle.std.specs.Prelude.{◌≡◌, [], ◌∷◌, ℕ, ◌*◌, ◌<◌}
use Rattle.numbers.specs.Firmness.{Firm}
use Rattle.keys.specs.Keys.{key_of, Origin, key_for, sender_of_lem, id_of, sender_bytes}

-- Rule A4, for each public call by its name: any two numbers that its contract allows are equal.
pub record Firmness : Type 0 where
  pub key_of : (s0 s1 s2 s3 s4 s5 id : ℕ) → Firm (λ key. key ≡ key_of (s0 ∷ s1 ∷ s2 ∷ s3 ∷ s4 ∷ s5 ∷ []) id)
  pub sender_of : (key : ℕ) → Firm (λ sender. sender ≡ sender_of_lem key)

-- Rule T2: no two senders and ids share a key.
abbrev pub KeyIsOne's : Type 0
KeyIsOne's = (a b : Origin) → key_for a ≡ key_for b → (a.sender ≡ b.sender) × (a.message_id ≡ b.message_id)

-- both can be read back from the key,
abbrev pub OriginRead : Type 0
OriginRead = (o : Origin) → (sender_bytes (sender_of_lem (key_for o)) ≡ o.sender) × (id_of (key_for o) ≡ o.message_id)

-- and every number of 64 bits is the key of what is read back
abbrev pub KeyRemade : Type 0
KeyRemade = (key : ℕ) → key < 65536 * 65536 * 65536 * 65536 → key_of (sender_bytes (sender_of_lem key)) (id_of key) ≡ key

-- everything that is claimed of this crate
pub record Claims : Type 0 where
  pub firmness : Firmness
  pub key_is_one's : KeyIsOne's
  pub origin_read : OriginRead
  pub key_remade : KeyRemade
