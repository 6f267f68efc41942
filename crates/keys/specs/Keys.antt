-- Keys (rule T2), and how the sender and the message id are read back from one.
use Rattle.std.specs.Prelude.{◌≡◌, List, ℕ, ◌+◌, ◌*◌, ◌/◌, ◌%◌, ◌<◌, length}
use Rattle.numbers.specs.Bytes.{big_endian, in_bytes, AllBytes}

-- Rule T2: a key is one number, the sender's six bytes in their order and then the two bytes of the id.
abbrev pub key_of : List ℕ → ℕ → ℕ
key_of sender message_id = big_endian sender * 65536 + message_id

-- Rule T2: whose message it is, by a sender of six bytes and a message id of two.
pub record Origin : Type 0 where
  pub sender : List ℕ
  pub message_id : ℕ
  pub six : length sender ≡ 6
  pub bytes : AllBytes sender
  pub two : message_id < 65536

abbrev pub key_for : Origin → ℕ
key_for o = key_of o.sender o.message_id

-- the way back: the sender is the key's upper 48 bits, as one number or as six bytes; the id is its lower 16 bits
abbrev pub sender_of_lem : ℕ → ℕ
sender_of_lem key = key / 65536

abbrev pub sender_bytes : ℕ → List ℕ
sender_bytes sender = in_bytes 6 sender

abbrev pub id_of : ℕ → ℕ
id_of key = key % 65536
