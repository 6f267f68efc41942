-- The claims of specs/Claims.antt, proved.
use mathlib.Core.Path.{◌≡◌, refl, sym, ap, ◌∙◌}
use mathlib.Core.Bool.{Bool, true, false}
use mathlib.Core.List.{List, [], ◌∷◌, ◌++◌}
use Prim.Native.Nat.{ℕ, suc, ◌+◌}
use borrow.Author.Tests.{eqb-true}
use lib.Dec.{eqb, T}
use lib.ListN.{length, length-append}
use Rattle.numbers.specs.Numbers.{gives}
use Rattle.numbers.proofs.Firm.{by_equation, by_answer, both, never}
use Rattle.records.specs.Values.{octets}
use Rattle.layouts.specs.Layouts.{Layout, radio_fields, layout_of}
use Rattle.texts.specs.Texts.{inventory_code}
use Rattle.fields.specs.Fields.{nothing_there, Fielded, front_rows, neighbour_rows, interface_rows, ipv4_rows, ipv6_rows, byte_rows, radio_rows, bss_rows, row_for, fields_for}
use Rattle.fields.specs.Answers.{crossing, front_with, front_of_lem, neighbour_with, neighbour_at, interface_with, interface_at, ipv4_with, ipv4_at, ipv6_with, ipv6_at, byte_with, byte_at, radio_with, radio_at, bss_with, bss_at}
use Rattle.fields.specs.Writing.{front_bytes, neighbour_bytes, interface_bytes, ipv4_bytes, ipv6_bytes, byte_bytes, radio_bytes, bss_bytes}
use Rattle.fields.specs.Claims.{Firmness, WhereFound, EveryEntry, InOrder, OwnBytesSaid, ReadBack, Claims}
use Rattle.fields.proofs.Laws.{by_bytes, tested, every, each}
use Rattle.fields.proofs.Found.{reads, heads, fields_there, entry_there, text_follows, found_inside, found_texted, front_inside, radio_texted}
use Rattle.fields.proofs.Order.{joined, placed}
use Rattle.fields.proofs.Back.{back, texts_back}
use Rattle.fields.proofs.Said.{said, entry_said, after_six, byte_and_two}

firmness : Firmness
firmness = record {
  there = λ size s at. by_equation _;
  address_at = λ s at. by_equation _;
  front = λ code s. by_equation _;
  neighbour = λ code s at. by_equation _;
  interface = λ code s at. by_equation _;
  ipv4 = λ s at. by_equation _;
  ipv6 = λ s at. by_equation _;
  byte = λ code s at. by_equation _;
  radio = λ code s at. by_equation _;
  bss = λ code s at. by_equation _;
  put_bytes = λ own out. both _ _ (by_answer _) (by_equation _);
  put_count = λ n out. both _ _ (by_answer _) (by_equation _);
  put_front = λ code local neighbour out. both _ _ (by_answer _) (by_equation _);
  put_neighbour = λ code neighbour out. both _ _ (by_answer _) (by_equation _);
  put_interface = λ code interface out. both _ _ (by_answer _) (by_equation _);
  put_ipv4 = λ ipv4 out. both _ _ (by_answer _) (by_equation _);
  put_ipv6 = λ ipv6 out. both _ _ (by_answer _) (by_equation _);
  put_byte = λ code byte out. both _ _ (by_answer _) (by_equation _);
  put_radio = λ code id text out. both _ _ (by_answer _) (by_equation _);
  put_bss = λ code bss name out. both _ _ (by_answer _) (by_equation _);
}

-- at an entry that is found, no fields of its row are refused
there : {R : Type 0} (refusal : R → ℕ) (f : ℕ → List ℕ → R) → ((own : List ℕ) → refusal (f 0 own) ≡ 0) → (fs : List Fielded) → T (every heads fs) →
    WhereFound fs (λ code s e. refusal (crossing f [] (fields_for fs code s e.start)) ≡ 0)
there refusal f none fs fit code is s g e row level x =
    ap (λ y. refusal (crossing f [] y)) (fields_there fs code g s e.start row (found_inside fs code is s g e row level x fit)) ∙ none _

-- where one code has a row, it is that code
only : (n : ℕ) (fs : List Fielded) → T (every (λ f. eqb f.code n) fs) → (code : ℕ) (f : Fielded) → row_for fs code ≡ gives f → code ≡ n
only n fs h code f row =
    let o = each (λ f. eqb f.code n) fs h code f row in
    o.0 ∙ eqb-true f.code n (tested (eqb f.code n) o.1)

-- a list kind is not DeviceInventory
no_text : (code : ℕ) (l : Layout) → layout_of code ≡ gives l → eqb code inventory_code ≡ false
unfolding layout_of
no_text code l x = go (eqb code inventory_code) refl where
  go : (t : Bool) → eqb code inventory_code ≡ t → t ≡ false
  go true e = never l 16 [] (sym x ∙ ap layout_of (eqb-true code inventory_code e))
  go false e = refl

abbrev inventory : Fielded
inventory = record { code = inventory_code; level = 1; sizes = radio_fields }

abbrev text_end : {R : Type 0} → (R → ℕ) → (R → ℕ) → R → ℕ
text_end start length r = start r + length r

every_entry : EveryEntry
unfolding layout_of front_of_lem neighbour_at interface_at ipv4_at ipv6_at byte_at radio_at bss_at
every_entry = record {
  front = λ code s f r row x.
      ap (λ y. (crossing front_with [] y).refusal) (fields_there front_rows code f s 0 row (front_inside front_rows code s f r row (before code f row) x tt));
  neighbour = there (λ r. r.refusal) neighbour_with (λ own. refl) neighbour_rows tt;
  interface = there (λ r. r.refusal) interface_with (λ own. refl) interface_rows tt;
  ipv4 = λ code is s f e row level x. rw (only 23 ipv4_rows tt code f row) at (there (λ r. r.refusal) ipv4_with (λ own. refl) ipv4_rows tt code is s f e row level x);
  ipv6 = λ code is s f e row level x. rw (only 24 ipv6_rows tt code f row) at (there (λ r. r.refusal) ipv6_with (λ own. refl) ipv6_rows tt code is s f e row level x);
  byte = there (λ r. r.refusal) byte_with (λ own. refl) byte_rows tt;
  radio = λ code is s f e row level x.
      let r = reads code is s e x in
      rw (no_text code r.layout r.is_layout, entry_there radio_rows code f s e.start row (found_inside radio_rows code is s f e row level x tt));
  inventory_radio = λ is s e x.
      let t = radio_texted is s e x in
      let y = text_follows radio_rows inventory_code inventory s e.start refl t.inside _ t.text in
      (ap (λ y. (crossing radio_with nothing_there y).refusal) y, ap (λ y. text_end (λ r. r.text_start) (λ r. r.text_length) (crossing radio_with nothing_there y)) y ∙ t.ends);
  bss = λ code is s f e row level x.
      let t = found_texted bss_rows code is s f e row level x tt in
      let y = text_follows bss_rows code f s e.start row t.inside _ t.text in
      (ap (λ y. (crossing bss_with nothing_there y).refusal) y, ap (λ y. text_end (λ r. r.name_start) (λ r. r.name_length) (crossing bss_with nothing_there y)) y ∙ t.ends);
}
  where
    before : (code : ℕ) (f : Fielded) → row_for front_rows code ≡ gives f → f.level ≡ 0
    before code f row = eqb-true f.level 0 (tested (eqb f.level 0) (each (λ f. eqb f.level 0) front_rows tt code f row).1)

in_order : InOrder
in_order = record { joined = joined; placed = placed }

said_back : OwnBytesSaid
unfolding front_of_lem neighbour_at interface_at ipv4_at ipv6_at byte_at radio_at bss_at
said_back = record {
  front = λ code s f row x.
      said (λ r. r.refusal) front_bytes 12 front_rows tt front_with (λ n own. refl) (λ own. by_bytes 12 0 own (front_bytes (front_with 0 own)) refl) code s 0 f row x;
  neighbour = said (λ r. r.refusal) neighbour_bytes 7 neighbour_rows tt neighbour_with (λ n own. refl) (λ own. by_bytes 7 0 own (neighbour_bytes (neighbour_with 0 own)) refl);
  interface = said (λ r. r.refusal) interface_bytes 22 interface_rows tt interface_with (λ n own. refl) after_six;
  ipv4 = λ code s p f row x. said (λ r. r.refusal) ipv4_bytes 9 ipv4_rows tt ipv4_with (λ n own. refl) (byte_and_two 4) 23 s p f (rw (only 23 ipv4_rows tt code f row) at row) x;
  ipv6 = λ code s p f row x. said (λ r. r.refusal) ipv6_bytes 33 ipv6_rows tt ipv6_with (λ n own. refl) (byte_and_two 16) 24 s p f (rw (only 24 ipv6_rows tt code f row) at row) x;
  byte = said (λ r. r.refusal) byte_bytes 1 byte_rows tt byte_with (λ n own. refl) (λ own. by_bytes 1 0 own (byte_bytes (byte_with 0 own)) refl);
  radio = λ code. entry_said (λ r. r.refusal) radio_bytes 6 radio_rows tt radio_with (λ n e. refl) (λ e. by_bytes 6 0 e.own (radio_bytes (radio_with 0 e)) refl) (eqb code inventory_code) code;
  bss = entry_said (λ r. r.refusal) bss_bytes 8 bss_rows tt bss_with (λ n e. refl) (λ e. by_bytes 8 0 e.own (bss_bytes (bss_with 0 e)) refl) true;
}

read_back : ReadBack
unfolding front_of_lem neighbour_at interface_at ipv4_at ipv6_at byte_at radio_at bss_at
read_back = record {
  front = λ code local neighbour bytes rest.
      back (λ r. r.refusal) front_bytes 12 front_rows tt (octets local ++ octets neighbour) refl front_with (λ own. refl) (λ own. by_bytes 12 0 own (front_bytes (front_with 0 own)) refl) code bytes [] rest;
  neighbour = λ code x.
      back (λ r. r.refusal) neighbour_bytes 7 neighbour_rows tt (neighbour_bytes x) refl neighbour_with (λ own. refl) (λ own. by_bytes 7 0 own (neighbour_bytes (neighbour_with 0 own)) refl) code;
  interface = λ code x long.
      back (λ r. r.refusal) interface_bytes 22 interface_rows tt (interface_bytes x) (length-append (octets x.address) x.link_local ∙ ap (λ n. 6 + n) long) interface_with (λ own. refl) after_six code;
  ipv4 = λ x long long'.
      back (λ r. r.refusal) ipv4_bytes 9 ipv4_rows tt (ipv4_bytes x) (ap (λ n. suc n) (length-append x.address x.dhcp_server ∙ (λ i. long i + long' i))) ipv4_with (λ own. refl) (byte_and_two 4) 23;
  ipv6 = λ x long long'.
      back (λ r. r.refusal) ipv6_bytes 33 ipv6_rows tt (ipv6_bytes x) (ap (λ n. suc n) (length-append x.address x.origin ∙ (λ i. long i + long' i))) ipv6_with (λ own. refl) (byte_and_two 16) 24;
  byte = λ code b. back (λ r. r.refusal) byte_bytes 1 byte_rows tt (b ∷ []) refl byte_with (λ own. refl) (λ own. by_bytes 1 0 own (byte_bytes (byte_with 0 own)) refl) code;
  radio = λ code id text.
      texts_back (λ r. r.refusal) radio_bytes 6 radio_rows tt (octets id) refl radio_with (λ r. r.text_start) (λ r. r.text_length) (λ e. refl)
      (λ e. by_bytes 6 0 e.own (radio_bytes (radio_with 0 e)) refl) (λ e. refl) (λ e. refl) (eqb code inventory_code) code text;
  bss = λ code x name.
      texts_back (λ r. r.refusal) bss_bytes 8 bss_rows tt (bss_bytes x) refl bss_with (λ r. r.name_start) (λ r. r.name_length) (λ e. refl)
      (λ e. by_bytes 8 0 e.own (bss_bytes (bss_with 0 e)) refl) (λ e. refl) (λ e. refl) true code name;
}

pub claims : Claims
claims = record {
  firmness = firmness;
  every_entry = every_entry;
  in_order = in_order;
  said_back = said_back;
  read_back = read_back;
}
