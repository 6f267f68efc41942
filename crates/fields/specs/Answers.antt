-- What each call answers (rules E11 and C1): the fields by their names and 0, or the number of the refusal, and every
-- field 0. So is a field that the kind's entries lack.
use Rattle.std.specs.Prelude.{true, List, [], ◌∷◌, ℕ, zero, suc, eqb, drop, get_or}
use Rattle.numbers.specs.Numbers.{Answer, gives, refuses}
use Rattle.records.specs.Values.{address_at_lem}
use Rattle.layouts.specs.Layouts.{place, service_fields, neighbour_fields, link_fields, ipv4_fields, ipv6_interface_fields, ipv6_fields, radio_fields, reported_bss_fields}
use Rattle.texts.specs.Texts.{inventory_code}
use Rattle.fields.specs.declared.AshlarFront.{AshlarFront}
use Rattle.fields.specs.declared.AshlarNeighbour.{AshlarNeighbour}
use Rattle.fields.specs.declared.AshlarInterface.{AshlarInterface}
use Rattle.fields.specs.declared.AshlarIpv4.{AshlarIpv4}
use Rattle.fields.specs.declared.AshlarIpv6.{AshlarIpv6}
use Rattle.fields.specs.declared.AshlarByte.{AshlarByte}
use Rattle.fields.specs.declared.AshlarRadio.{AshlarRadio}
use Rattle.fields.specs.declared.AshlarBss.{AshlarBss}
use Rattle.fields.specs.Fields.{WithText, nothing_there, front_rows, neighbour_rows, interface_rows, ipv4_rows, ipv6_rows, byte_rows, radio_rows, bss_rows, fields_for, entry_for}

-- an answer in numbers, by its refusal, which is 0 if there is none, and by what is given
abbrev pub crossing : {A B : Type 0} → (ℕ → A → B) → A → Answer A → B
crossing f none (gives a) = f 0 a
crossing f none (refuses n vs) = f n none

-- the first w of these bytes, and zeros where there are too few
abbrev pub zero_filled : ℕ → List ℕ → List ℕ
zero_filled zero p = []
zero_filled (suc w) [] = 0 ∷ zero_filled w []
zero_filled (suc w) (b ∷ p) = b ∷ zero_filled w p

-- Rule K8: what stands before the list of kinds 6, 7, 9 and 10.
abbrev pub front_with : ℕ → List ℕ → AshlarFront
front_with n p = record { local = address_at_lem p (place link_fields 0); neighbour = address_at_lem p (place link_fields 1); refusal = n }

unfoldable pub front_of_lem : ℕ → List ℕ → AshlarFront
front_of_lem code s = crossing front_with [] (fields_for front_rows code s 0)

-- Rule K8: a neighbour, of kind 6 or 7.
abbrev pub neighbour_with : ℕ → List ℕ → AshlarNeighbour
neighbour_with n p = record { address = address_at_lem p (place neighbour_fields 0); flags = get_or p (place neighbour_fields 1) 0; refusal = n }

unfoldable pub neighbour_at : ℕ → List ℕ → ℕ → AshlarNeighbour
neighbour_at code s p = crossing neighbour_with [] (fields_for neighbour_rows code s p)

-- Rule K8: an interface, of kind 4, 23 or 24.
abbrev pub interface_with : ℕ → List ℕ → AshlarInterface
interface_with n p = record { address = address_at_lem p (place ipv6_interface_fields 0); link_local = zero_filled 16 (drop (place ipv6_interface_fields 1) p); refusal = n }

unfoldable pub interface_at : ℕ → List ℕ → ℕ → AshlarInterface
interface_at code s p = crossing interface_with [] (fields_for interface_rows code s p)

-- Rule K8: an IPv4 address of an interface, and an IPv6 address.
abbrev pub ipv4_with : ℕ → List ℕ → AshlarIpv4
ipv4_with n p = record {
  address = zero_filled 4 (drop (place ipv4_fields 1) p);
  dhcp_server = zero_filled 4 (drop (place ipv4_fields 2) p);
  type_ = get_or p (place ipv4_fields 0) 0;
  refusal = n;
}

unfoldable pub ipv4_at : List ℕ → ℕ → AshlarIpv4
ipv4_at s p = crossing ipv4_with [] (fields_for ipv4_rows 23 s p)

abbrev pub ipv6_with : ℕ → List ℕ → AshlarIpv6
ipv6_with n p = record {
  address = zero_filled 16 (drop (place ipv6_fields 1) p);
  origin = zero_filled 16 (drop (place ipv6_fields 2) p);
  type_ = get_or p (place ipv6_fields 0) 0;
  refusal = n;
}

unfoldable pub ipv6_at : List ℕ → ℕ → AshlarIpv6
ipv6_at s p = crossing ipv6_with [] (fields_for ipv6_rows 24 s p)

-- Rule K8: an entry of one byte: a service, or a byte of a name.
abbrev pub byte_with : ℕ → List ℕ → AshlarByte
byte_with n p = record { byte = get_or p (place service_fields 0) 0; refusal = n }

unfoldable pub byte_at : ℕ → List ℕ → ℕ → AshlarByte
byte_at code s p = crossing byte_with [] (fields_for byte_rows code s p)

-- Rule K8: a radio. Only that of DeviceInventory has a text.
abbrev pub radio_with : ℕ → WithText → AshlarRadio
radio_with n e = record {
  text_start = e.text.start;
  text_length = e.text.length;
  id = address_at_lem e.own (place radio_fields 0);
  refusal = n;
}

unfoldable pub radio_at : ℕ → List ℕ → ℕ → AshlarRadio
radio_at code s p = crossing radio_with nothing_there (entry_for (eqb code inventory_code) radio_rows code s p)

-- Rule K8: a BSS, of kind 0x83 or 0xB7, and its name.
abbrev pub bss_with : ℕ → WithText → AshlarBss
bss_with n e = record {
  name_start = e.text.start;
  name_length = e.text.length;
  bssid = address_at_lem e.own (place reported_bss_fields 0);
  flags = get_or e.own (place reported_bss_fields 1) 0;
  reserved = get_or e.own (place reported_bss_fields 2) 0;
  refusal = n;
}

unfoldable pub bss_at : ℕ → List ℕ → ℕ → AshlarBss
bss_at code s p = crossing bss_with nothing_there (entry_for true bss_rows code s p)
