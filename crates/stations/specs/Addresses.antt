-- An address (rule P1) as a number, and back: its six octets in their order, the first one highest.
use Rattle.std.specs.Prelude.{ℕ, ◌+◌, ◌*◌, ◌/◌, ◌%◌}
use Rattle.records.specs.declared.MacAddr.{MacAddr}

abbrev pub address_number : MacAddr → ℕ
address_number m = ((((m.b0 * 256 + m.b1) * 256 + m.b2) * 256 + m.b3) * 256 + m.b4) * 256 + m.b5

-- for a number of 48 bits; for a greater one, its lower 48
unfoldable pub address_of : ℕ → MacAddr
address_of n = record {
  b0 = n / 1099511627776 % 256;
  b1 = n / 4294967296 % 256;
  b2 = n / 16777216 % 256;
  b3 = n / 65536 % 256;
  b4 = n / 256 % 256;
  b5 = n % 256;
}
