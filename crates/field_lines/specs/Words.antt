-- How times, addresses and counts stand in a line of a story (rules H7 to H11).
use Rattle.std.specs.Prelude.{ℕ, ◌/◌, ◌%◌, ◌^◌, ◌-◌, List, [], ◌++◌, eqb, if◌then◌else◌, codes, decimal, false}
use Rattle.std.specs.Fmt.{digits, padded_integral, format_spec}
use Rattle.records.specs.declared.MacAddr.{MacAddr}

-- a number in decimal digits, so many at least, with zeros in front
abbrev pub digits_padded : ℕ → ℕ → List ℕ
digits_padded width n = padded_integral (format_spec 32 0 4 width (2 ^ 64 - 1)) false [] (decimal n)

-- a byte as two hexadecimal digits
abbrev pub hex_pair : ℕ → List ℕ
hex_pair b = padded_integral (format_spec 32 0 4 2 (2 ^ 64 - 1)) false [] (digits 16 false b)

-- one of what is counted, or so many
abbrev pub counted_text : ℕ → List ℕ → List ℕ
counted_text n what = decimal n ++ (codes " " ++ (if eqb n 1 then what else (what ++ codes "s")))

-- how many bytes are missing
abbrev pub missing_text : ℕ → List ℕ
missing_text n = counted_text n (codes "byte") ++ (if eqb n 1 then codes " is missing" else codes " are missing")

-- the time of day of a time in milliseconds, HH:MM:SS.mmm
abbrev pub time_of_day : ℕ → List ℕ
time_of_day t =
    digits_padded 2 (t / 1000 % 86400 / 3600)
    ++ (codes ":" ++ (digits_padded 2 (t / 1000 % 86400 / 60 % 60) ++ (codes ":" ++ (digits_padded 2 (t / 1000 % 86400 % 60) ++ (codes "." ++ digits_padded 3 (t % 1000))))))

-- six pairs joined by colons
abbrev pub address_text : MacAddr → List ℕ
address_text m = hex_pair m.b0 ++ (codes ":" ++ (hex_pair m.b1 ++ (codes ":" ++ (hex_pair m.b2 ++ (codes ":" ++ (hex_pair m.b3 ++ (codes ":" ++ (hex_pair m.b4 ++ (codes ":" ++ hex_pair m.b5)))))))))
