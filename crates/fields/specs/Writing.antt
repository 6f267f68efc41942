-- The own fields of an entry, written (rule O5): what stands in the room afterwards, or why nothing is written.
use Rattle.std.specs.Prelude.{Bool, true, false, cond, ◌&&◌, List, [], ◌∷◌, ◌++◌, ℕ, eqb, leb, ltb, length, take, drop}
use Rattle.std.specs.List.{list_all}
use Rattle.numbers.specs.Numbers.{Answer, gives, refuses, and_then}
use Rattle.records.specs.declared.MacAddr.{MacAddr}
use Rattle.records.specs.Values.{octets}
use Rattle.layouts.specs.Layouts.{size_of}
use Rattle.texts.specs.Texts.{inventory_code}
use Rattle.fields.specs.declared.AshlarFront.{AshlarFront}
use Rattle.fields.specs.declared.AshlarNeighbour.{AshlarNeighbour}
use Rattle.fields.specs.declared.AshlarInterface.{AshlarInterface}
use Rattle.fields.specs.declared.AshlarIpv4.{AshlarIpv4}
use Rattle.fields.specs.declared.AshlarIpv6.{AshlarIpv6}
use Rattle.fields.specs.declared.AshlarByte.{AshlarByte}
use Rattle.fields.specs.declared.AshlarRadio.{AshlarRadio}
use Rattle.fields.specs.declared.AshlarBss.{AshlarBss}
use Rattle.fields.specs.Fields.{Fielded, front_rows, neighbour_rows, interface_rows, ipv4_rows, ipv6_rows, byte_rows, radio_rows, bss_rows, row_for}

-- the bytes that the fields of each struct say, in their order
abbrev pub front_bytes : AshlarFront → List ℕ
front_bytes r = octets r.local ++ octets r.neighbour

abbrev pub neighbour_bytes : AshlarNeighbour → List ℕ
neighbour_bytes r = octets r.address ++ r.flags ∷ []

abbrev pub interface_bytes : AshlarInterface → List ℕ
interface_bytes r = octets r.address ++ r.link_local

abbrev pub ipv4_bytes : AshlarIpv4 → List ℕ
ipv4_bytes r = r.type_ ∷ (r.address ++ r.dhcp_server)

abbrev pub ipv6_bytes : AshlarIpv6 → List ℕ
ipv6_bytes r = r.type_ ∷ (r.address ++ r.origin)

abbrev pub byte_bytes : AshlarByte → List ℕ
byte_bytes r = r.byte ∷ []

abbrev pub radio_bytes : AshlarRadio → List ℕ
radio_bytes r = octets r.id

abbrev pub bss_bytes : AshlarBss → List ℕ
bss_bytes r = octets r.bssid ++ r.flags ∷ r.reserved ∷ []

abbrev pub only_zeros_lem : List ℕ → Bool
only_zeros_lem p = list_all (λ b. eqb b 0) p

-- Rule K8: what follows the fields: a text after its length, or nothing.
abbrev pub text_bytes : Bool → List ℕ → List ℕ
text_bytes false t = []
text_bytes true t = length t ∷ t

-- the longest text that can follow: its length just fits into a byte
abbrev pub longest_text_lem : Bool → ℕ
longest_text_lem text = cond text 255 0

-- Rule O5: the bytes of an entry whose own fields have n bytes, with a text or without. What reading never gives is
-- refused by 9: a field past these n bytes that isn't 0, or a text that is too long.
unfoldable pub entry_of : Bool → ℕ → List ℕ → List ℕ → Answer (List ℕ)
entry_of text n bytes t =
    cond (only_zeros_lem (drop n bytes) && leb (length t) (longest_text_lem text)) (gives (take n bytes ++ text_bytes text t)) (refuses 9 [])

-- Rule O5: the same by the code of the kind. A kind without such entries: 16.
unfoldable pub entry_in : Bool → List Fielded → ℕ → List ℕ → List ℕ → Answer (List ℕ)
entry_in text fs code bytes t = and_then (row_for fs code) (λ f. entry_of text (size_of f.sizes) bytes t)

-- Rule O5: the entry for each call.
abbrev pub front_made : ℕ → MacAddr → MacAddr → Answer (List ℕ)
front_made code local neighbour = entry_in false front_rows code (octets local ++ octets neighbour) []

abbrev pub neighbour_made : ℕ → AshlarNeighbour → Answer (List ℕ)
neighbour_made code r = entry_in false neighbour_rows code (neighbour_bytes r) []

abbrev pub interface_made : ℕ → AshlarInterface → Answer (List ℕ)
interface_made code r = entry_in false interface_rows code (interface_bytes r) []

abbrev pub ipv4_made : AshlarIpv4 → Answer (List ℕ)
ipv4_made r = entry_in false ipv4_rows 23 (ipv4_bytes r) []

abbrev pub ipv6_made : AshlarIpv6 → Answer (List ℕ)
ipv6_made r = entry_in false ipv6_rows 24 (ipv6_bytes r) []

abbrev pub byte_made : ℕ → ℕ → Answer (List ℕ)
byte_made code b = entry_in false byte_rows code (b ∷ []) []

-- Only the radio of DeviceInventory has a text.
abbrev pub radio_made : ℕ → MacAddr → List ℕ → Answer (List ℕ)
radio_made code id t = entry_in (eqb code inventory_code) radio_rows code (octets id) t

abbrev pub bss_made : ℕ → AshlarBss → List ℕ → Answer (List ℕ)
bss_made code r t = entry_in true bss_rows code (bss_bytes r) t

-- Rule O5: the count of a list, in one byte. A count above 255: 9.
unfoldable pub count_made : ℕ → Answer (List ℕ)
count_made n = cond (leb n 255) (gives (n ∷ [])) (refuses 9 [])

-- Rule O5: how many bytes are written into room of `room` bytes: those that were made. Too little room: 7.
unfoldable pub put_size : Answer (List ℕ) → ℕ → Answer ℕ
put_size made room = and_then made (λ bytes. cond (ltb room (length bytes)) (refuses 7 []) (gives (length bytes)))

-- the bytes that were made
abbrev pub made_bytes : Answer (List ℕ) → List ℕ
made_bytes (gives bytes) = bytes
made_bytes (refuses n vs) = []
