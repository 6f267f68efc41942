-- What is claimed of this crate's calls and definitions; proofs/Claims.antt proves it.
use Rattle.std.specs.Prelude.{◌≡◌, ℕ, ◌+◌, ◌<◌, leb, length, take, drop, get_or, Result}
use mathlib.Core.List.{List, [], ◌∷◌, ◌++◌, flatten}
use Rattle.numbers.specs.Numbers.{Answer, gives, answered}
use Rattle.numbers.specs.Firmness.{Firm}
use Rattle.numbers.specs.declared.Refusal.{Refusal}
use Rattle.framing.specs.Tlv.{leaves}
use Rattle.records.specs.declared.MacAddr.{MacAddr}
use Rattle.records.specs.Values.{octets, address_at_lem}
use Rattle.layouts.specs.Layouts.{size_of, place}
use Rattle.layouts.specs.declared.Consumed.{Consumed}
use Rattle.layouts.specs.Reading.{read_value_lem}
use Rattle.layouts.specs.declared.Span.{Span}
use Rattle.layouts.specs.Access.{locate_entry}
use Rattle.texts.specs.Texts.{inventory_code}
use Rattle.texts.specs.Access.{locate_radio}
use Rattle.fields.specs.declared.AshlarNeighbour.{AshlarNeighbour}
use Rattle.fields.specs.declared.AshlarInterface.{AshlarInterface}
use Rattle.fields.specs.declared.AshlarIpv4.{AshlarIpv4}
use Rattle.fields.specs.declared.AshlarIpv6.{AshlarIpv6}
use Rattle.fields.specs.declared.AshlarBss.{AshlarBss}
use Rattle.fields.specs.Fields.{Fielded, front_rows, neighbour_rows, interface_rows, ipv4_rows, ipv6_rows, byte_rows, radio_rows, bss_rows, row_for}
use Rattle.fields.specs.Writing.{front_bytes, neighbour_bytes, interface_bytes, ipv4_bytes, ipv6_bytes, byte_bytes, radio_bytes, bss_bytes, front_made, neighbour_made, interface_made, ipv4_made, ipv6_made, byte_made, radio_made, bss_made, count_made, put_size, made_bytes}
use Rattle.fields.specs.Answers.{front_of_lem, neighbour_at, interface_at, ipv4_at, ipv6_at, byte_at, radio_at, bss_at}

-- Rule A4, for each public call by its name: any two answers that its contract allows are one,
-- together with what the room holds afterwards.
pub record Firmness : Type 0 where
  pub there : (size : ℕ) (s : List ℕ) (at : ℕ) → Firm (λ r. r ≡ leb (at + size) (length s))
  pub address_at : (s : List ℕ) (at : ℕ) → Firm (λ r. r ≡ address_at_lem s at)
  pub front : (code : ℕ) (s : List ℕ) → Firm (λ r. r ≡ front_of_lem code s)
  pub neighbour : (code : ℕ) (s : List ℕ) (at : ℕ) → Firm (λ r. r ≡ neighbour_at code s at)
  pub interface : (code : ℕ) (s : List ℕ) (at : ℕ) → Firm (λ r. r ≡ interface_at code s at)
  pub ipv4 : (s : List ℕ) (at : ℕ) → Firm (λ r. r ≡ ipv4_at s at)
  pub ipv6 : (s : List ℕ) (at : ℕ) → Firm (λ r. r ≡ ipv6_at s at)
  pub byte : (code : ℕ) (s : List ℕ) (at : ℕ) → Firm (λ r. r ≡ byte_at code s at)
  pub radio : (code : ℕ) (s : List ℕ) (at : ℕ) → Firm (λ r. r ≡ radio_at code s at)
  pub bss : (code : ℕ) (s : List ℕ) (at : ℕ) → Firm (λ r. r ≡ bss_at code s at)
  pub put_bytes : (own out : List ℕ)
      → Firm {A = Result ℕ Refusal × List ℕ} (λ o.
      (answered o.0 ≡ put_size (gives own) (length out))
      × (o.1 ≡ leaves (put_size (gives own) (length out)) own out))
  pub put_count : (n : ℕ) (out : List ℕ)
      → Firm {A = Result ℕ Refusal × List ℕ} (λ o.
      (answered o.0 ≡ put_size (count_made n) (length out))
      × (o.1 ≡ leaves (put_size (count_made n) (length out)) (made_bytes (count_made n)) out))
  pub put_front : (code : ℕ) (local neighbour : MacAddr) (out : List ℕ)
      → Firm {A = Result ℕ Refusal × List ℕ} (λ o.
      (answered o.0 ≡ put_size (front_made code local neighbour) (length out))
      × (o.1 ≡ leaves (put_size (front_made code local neighbour) (length out)) (made_bytes (front_made code local neighbour)) out))
  pub put_neighbour : (code : ℕ) (neighbour : AshlarNeighbour) (out : List ℕ)
      → Firm {A = Result ℕ Refusal × List ℕ} (λ o.
      (answered o.0 ≡ put_size (neighbour_made code neighbour) (length out))
      × (o.1 ≡ leaves (put_size (neighbour_made code neighbour) (length out)) (made_bytes (neighbour_made code neighbour)) out))
  pub put_interface : (code : ℕ) (interface : AshlarInterface) (out : List ℕ)
      → Firm {A = Result ℕ Refusal × List ℕ} (λ o.
      (answered o.0 ≡ put_size (interface_made code interface) (length out))
      × (o.1 ≡ leaves (put_size (interface_made code interface) (length out)) (made_bytes (interface_made code interface)) out))
  pub put_ipv4 : (ipv4 : AshlarIpv4) (out : List ℕ)
      → Firm {A = Result ℕ Refusal × List ℕ} (λ o.
      (answered o.0 ≡ put_size (ipv4_made ipv4) (length out))
      × (o.1 ≡ leaves (put_size (ipv4_made ipv4) (length out)) (made_bytes (ipv4_made ipv4)) out))
  pub put_ipv6 : (ipv6 : AshlarIpv6) (out : List ℕ)
      → Firm {A = Result ℕ Refusal × List ℕ} (λ o.
      (answered o.0 ≡ put_size (ipv6_made ipv6) (length out))
      × (o.1 ≡ leaves (put_size (ipv6_made ipv6) (length out)) (made_bytes (ipv6_made ipv6)) out))
  pub put_byte : (code byte : ℕ) (out : List ℕ)
      → Firm {A = Result ℕ Refusal × List ℕ} (λ o.
      (answered o.0 ≡ put_size (byte_made code byte) (length out))
      × (o.1 ≡ leaves (put_size (byte_made code byte) (length out)) (made_bytes (byte_made code byte)) out))
  pub put_radio : (code : ℕ) (id : MacAddr) (text out : List ℕ)
      → Firm {A = Result ℕ Refusal × List ℕ} (λ o.
      (answered o.0 ≡ put_size (radio_made code id text) (length out))
      × (o.1 ≡ leaves (put_size (radio_made code id text) (length out)) (made_bytes (radio_made code id text)) out))
  pub put_bss : (code : ℕ) (bss : AshlarBss) (name out : List ℕ)
      → Firm {A = Result ℕ Refusal × List ℕ} (λ o.
      (answered o.0 ≡ put_size (bss_made code bss name) (length out))
      × (o.1 ≡ leaves (put_size (bss_made code bss name) (length out)) (made_bytes (bss_made code bss name)) out))

-- Rules E1 and E11: an entry that numbers lead to, as many as its row says, has what P says of where it lies.
abbrev pub WhereFound : List Fielded → (ℕ → List ℕ → Span → Type 0) → Type 0
WhereFound fs P = (code : ℕ) (is s : List ℕ) (f : Fielded) (e : Span) → row_for fs code ≡ gives f → length is ≡ f.level →
    locate_entry code is s ≡ gives e → P code s e

-- Rule E11: every entry has its fields. At its start no call refuses. Its name or text ends where the entry does.
pub record EveryEntry : Type 0 where
  pub front : (code : ℕ) (s : List ℕ) (f : Fielded) (r : Consumed) → row_for front_rows code ≡ gives f →
      read_value_lem code s ≡ gives r → (front_of_lem code s).refusal ≡ 0
  pub neighbour : WhereFound neighbour_rows (λ code s e. (neighbour_at code s e.start).refusal ≡ 0)
  pub interface : WhereFound interface_rows (λ code s e. (interface_at code s e.start).refusal ≡ 0)
  pub ipv4 : WhereFound ipv4_rows (λ code s e. (ipv4_at s e.start).refusal ≡ 0)
  pub ipv6 : WhereFound ipv6_rows (λ code s e. (ipv6_at s e.start).refusal ≡ 0)
  pub byte : WhereFound byte_rows (λ code s e. (byte_at code s e.start).refusal ≡ 0)
  pub radio : WhereFound radio_rows (λ code s e. (radio_at code s e.start).refusal ≡ 0)
  pub inventory_radio : (is s : List ℕ) (e : Span) → locate_radio inventory_code is s ≡ gives e →
      let r = radio_at inventory_code s e.start in (r.refusal ≡ 0) × (r.text_start + r.text_length ≡ e.end)
  pub bss : WhereFound bss_rows (λ code s e.
      let r = bss_at code s e.start in (r.refusal ≡ 0) × (r.name_start + r.name_length ≡ e.end))

-- the bytes of each field
abbrev pub split : List ℕ → List ℕ → List (List ℕ)
split [] p = []
split (w ∷ ws) p = take w p ∷ split ws (drop w p)

-- Rule K8: fields of any sizes are the bytes of their entry, in their order, none left out: joined again they are these
-- bytes. Each stands at its place.
pub record InOrder : Type 0 where
  pub joined : (ws p : List ℕ) → flatten (split ws p) ≡ take (size_of ws) p
  pub placed : (ws p : List ℕ) (k : ℕ) → k < length ws → get_or (split ws p) k [] ≡ take (get_or ws k 0) (drop (place ws k) p)

-- What is not refused at p says the own bytes of the entry there, up to the fields that its kind lacks.
abbrev pub SaysItsBytes : {R : Type 0} → List Fielded → (ℕ → List ℕ → ℕ → R) → (R → ℕ) → (R → List ℕ) → Type 0
SaysItsBytes fs call refusal bytes = (code : ℕ) (s : List ℕ) (p : ℕ) (f : Fielded) → row_for fs code ≡ gives f →
    refusal (call code s p) ≡ 0 → take (size_of f.sizes) (bytes (call code s p)) ≡ take (size_of f.sizes) (drop p s)

-- Rules E11 and A6: so no own byte of an entry is lost.
pub record OwnBytesSaid : Type 0 where
  pub front : (code : ℕ) (s : List ℕ) (f : Fielded) → row_for front_rows code ≡ gives f →
      (front_of_lem code s).refusal ≡ 0 → take (size_of f.sizes) (front_bytes (front_of_lem code s)) ≡ take (size_of f.sizes) s
  pub neighbour : SaysItsBytes neighbour_rows neighbour_at (λ r. r.refusal) neighbour_bytes
  pub interface : SaysItsBytes interface_rows interface_at (λ r. r.refusal) interface_bytes
  pub ipv4 : SaysItsBytes ipv4_rows (λ code. ipv4_at) (λ r. r.refusal) ipv4_bytes
  pub ipv6 : SaysItsBytes ipv6_rows (λ code. ipv6_at) (λ r. r.refusal) ipv6_bytes
  pub byte : SaysItsBytes byte_rows byte_at (λ r. r.refusal) byte_bytes
  pub radio : SaysItsBytes radio_rows radio_at (λ r. r.refusal) radio_bytes
  pub bss : SaysItsBytes bss_rows bss_at (λ r. r.refusal) bss_bytes

-- An entry that was made, between any other bytes, reads at its start without refusal, and its fields say these bytes.
abbrev pub ReadsSame : {R : Type 0} → (List ℕ → ℕ → R) → (R → ℕ) → (R → List ℕ) → Answer (List ℕ) → List ℕ → Type 0
ReadsSame call refusal said made own = (bytes before rest : List ℕ) → made ≡ gives bytes →
    let r = call (before ++ (bytes ++ rest)) (length before) in (refusal r ≡ 0) × (said r ≡ own)

-- So does one that may have a text, and the text stands where the answer says.
abbrev pub ReadsWithText : {R : Type 0} → (List ℕ → ℕ → R) → (R → ℕ) → (R → List ℕ) → (R → ℕ × ℕ) → Answer (List ℕ) → List ℕ → List ℕ → Type 0
ReadsWithText call refusal said place made own t = (bytes before rest : List ℕ) → made ≡ gives bytes →
    let s = before ++ (bytes ++ rest) in
    let r = call s (length before) in
    (refusal r ≡ 0) × ((said r ≡ own) × (take (place r).1 (drop (place r).0 s) ≡ t))

-- Rules O5 and A6: reading what was written gives the same fields, and the same name or text. An array has its length.
pub record ReadBack : Type 0 where
  pub front : (code : ℕ) (local neighbour : MacAddr) (bytes rest : List ℕ) → front_made code local neighbour ≡ gives bytes →
      let r = front_of_lem code (bytes ++ rest) in (r.refusal ≡ 0) × (front_bytes r ≡ octets local ++ octets neighbour)
  pub neighbour : (code : ℕ) (x : AshlarNeighbour) →
      ReadsSame (neighbour_at code) (λ r. r.refusal) neighbour_bytes (neighbour_made code x) (neighbour_bytes x)
  pub interface : (code : ℕ) (x : AshlarInterface) → length x.link_local ≡ 16 →
      ReadsSame (interface_at code) (λ r. r.refusal) interface_bytes (interface_made code x) (interface_bytes x)
  pub ipv4 : (x : AshlarIpv4) → length x.address ≡ 4 → length x.dhcp_server ≡ 4 →
      ReadsSame ipv4_at (λ r. r.refusal) ipv4_bytes (ipv4_made x) (ipv4_bytes x)
  pub ipv6 : (x : AshlarIpv6) → length x.address ≡ 16 → length x.origin ≡ 16 →
      ReadsSame ipv6_at (λ r. r.refusal) ipv6_bytes (ipv6_made x) (ipv6_bytes x)
  pub byte : (code b : ℕ) → ReadsSame (byte_at code) (λ r. r.refusal) byte_bytes (byte_made code b) (b ∷ [])
  pub radio : (code : ℕ) (id : MacAddr) (text : List ℕ) →
      ReadsWithText (radio_at code) (λ r. r.refusal) radio_bytes (λ r. (r.text_start, r.text_length)) (radio_made code id text) (octets id) text
  pub bss : (code : ℕ) (x : AshlarBss) (name : List ℕ) →
      ReadsWithText (bss_at code) (λ r. r.refusal) bss_bytes (λ r. (r.name_start, r.name_length)) (bss_made code x name) (bss_bytes x) name

-- everything that is claimed of this crate
pub record Claims : Type 0 where
  pub firmness : Firmness
  pub every_entry : EveryEntry
  pub in_order : InOrder
  pub said_back : OwnBytesSaid
  pub read_back : ReadBack
