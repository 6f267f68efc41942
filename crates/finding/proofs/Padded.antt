-- What follows the marker is not searched: records that lie inside the message read the same, whatever follows it.
use mathlib.Core.Path.{◌≡◌, refl, sym, ap, ◌∙◌, subst}
use mathlib.Core.Bool.{Bool, true, false, cond}
use mathlib.Core.List.{List, [], ◌∷◌, ◌++◌}
use mathlib.Core.Option.{Option}
use Prim.Native.Nat.{ℕ, suc, ◌+◌, ◌<◌, ◌≤◌}
use native.Mathlib.Omega.{arith}
use lib.ListN.{length, take, drop, get_or, length-append, length-drop, take-append-drop}
use lib.Seq.{take-append-le, drop-append-le, get_or-drop}
use borrow.Author.Tests.{le-leb}
use Rattle.numbers.specs.Numbers.{Answer, gives, refuses, mapped}
use Rattle.records.specs.declared.Record.{Record}
use Rattle.kinds.specs.declared.Typed.{Typed}
use Rattle.kinds.specs.Kinds.{is_kind_lem}
use Rattle.walking.specs.declared.Tlv.{Tlv}
use Rattle.walking.specs.Steps.{Walk}
use Rattle.walking.specs.Walk.{is_marker_lem, walk_of, no_tlv, offset_at}
use Rattle.walking.specs.Claims.{Ends}
use Rattle.walking.proofs.Chained.{of_walk, stands}
use Rattle.walking.proofs.Marked.{marker_ends}
use Rattle.finding.specs.declared.Hit.{Hit}
use Rattle.finding.specs.declared.Sought.{Sought}
use Rattle.finding.specs.Finding.{reads_as_lem, value_of, there_or, first_of, found_or, with_next, find_from, find_in_payload_lem}
use Rattle.finding.proofs.Passing.{first_nil, first_cons}

-- every one of these records lies inside so many bytes
abbrev Inside : ℕ → List Tlv → Type 0
Inside size ts = (i : ℕ) → i < length ts → (get_or ts i no_tlv).offset + 3 + (get_or ts i no_tlv).length ≤ size

inside_drop : (size from : ℕ) (ts : List Tlv) → Inside size ts → Inside size (drop from ts)
inside_drop size from ts h i l =
    subst (λ (t : Tlv). t.offset + 3 + t.length ≤ size) (sym (get_or-drop from ts i no_tlv)) (h (from + i) (omega (arith, length-drop from ts)))

module _ (code : ℕ) (message other : List ℕ) where
  reads_same : (t : Tlv) → t.offset + 3 + t.length ≤ length message → reads_as_lem code (message ++ other) t ≡ reads_as_lem code message t
  unfolding reads_as_lem
  reads_same t h =
      let v : value_of (message ++ other) t ≡ value_of message t
      = ap (take t.length) (drop-append-le (t.offset + 3) message other (omega arith)) ∙ take-append-le t.length (drop (t.offset + 3) message) other (omega (arith, length-drop (t.offset + 3) message)) in
      let l = le-leb (t.offset + 3 + t.length) (length (message ++ other)) (omega (arith, length-append message other)) in
      let l' = le-leb (t.offset + 3 + t.length) (length message) h in
      rw (v, l, l')

  first_same : (before : ℕ) (ts : List Tlv) → Inside (length message) ts → first_of code (message ++ other) before ts ≡ first_of code message before ts
  first_same before [] h = first_nil code (message ++ other) before ∙ sym (first_nil code message before)
  first_same before (t ∷ ts) h =
      first_cons code (message ++ other) before t ts
      ∙ ap (λ (x : Option (Typed Record)). there_or x (before + 1) t (first_of code (message ++ other) (before + 1) ts)) (reads_same t (h 0 (omega arith)))
      ∙ ap (there_or (reads_as_lem code message t) (before + 1) t) (first_same (before + 1) ts (λ i l. h (suc i) (omega arith)))
      ∙ sym (first_cons code message before t ts)

  -- what is found in a message whose walk has these TLVs
  abbrev found : ℕ → List Tlv → Answer Hit
  found from ts = cond (is_kind_lem code) (found_or (first_of code message from (drop from ts)) (refuses 15 (length ts ∷ []))) (refuses 16 [])

  searched : (from : ℕ) (w : Walk Tlv) → walk_of (message ++ other) ≡ w → (padding : ℕ) → w.end ≡ gives padding → Inside (length message) w.items
      → mapped (λ (s : Sought). s.hit) (find_in_payload_lem code (message ++ other) from) ≡ found from w.items
  unfolding find_in_payload_lem find_from
  searched from w e padding g h = rw (e, g, first_same from (drop from w.items) (inside_drop (length message) from w.items h)) (by_kind (is_kind_lem code) (found_or (first_of code message from (drop from w.items)) (refuses 15 (length w.items ∷ []))))
    where
      hits : (x : Answer Hit) → mapped (λ (s : Sought). s.hit) (mapped (with_next (message ++ other)) x) ≡ x
      hits (gives h) = refl
      hits (refuses n vs) = refl

      by_kind : (b : Bool) (x : Answer Hit) → mapped (λ (s : Sought). s.hit) (cond b (mapped (with_next (message ++ other)) (cond b x (refuses 16 []))) (refuses 16 [])) ≡ cond b x (refuses 16 [])
      by_kind true x = hits x
      by_kind false x = refl

module _ (p : List ℕ) (k : ℕ) (l : k < length (walk_of p).items) (m : is_marker_lem (get_or (walk_of p).items k no_tlv) ≡ true) where
  abbrev ts : List Tlv
  ts = (walk_of p).items

  abbrev message : List ℕ
  message = take (offset_at ts k + 3) p

  ends : Ends p ts k
  ends = marker_ends p k l m

  inside : Inside (length message) ts
  inside i h =
      let w = ends.not_looked_at [] in
      let same : (walk_of (message ++ [])).items ≡ ts = ap (λ (v : Walk Tlv). v.items) w in
      let h' : i < length (walk_of (message ++ [])).items = subst (λ (us : List Tlv). i < length us) (sym same) h in
      let far = (stands (message ++ []) (of_walk (message ++ [])) i h').inside in
      let size : length (message ++ []) ≡ length message = omega (arith, length-append message []) in
      subst (λ (us : List Tlv). (get_or us i no_tlv).offset + 3 + (get_or us i no_tlv).length ≤ length message) same (omega arith)

  alone : (other : List ℕ) (code from : ℕ) → mapped (λ (s : Sought). s.hit) (find_in_payload_lem code (message ++ other) from) ≡ found code message other from ts
  alone other code from = searched code message other from _ (ends.not_looked_at other) (length other) refl inside

  pub not_in_padding : (other : List ℕ) (code from : ℕ) → mapped (λ (s : Sought). s.hit) (find_in_payload_lem code (message ++ other) from) ≡ mapped (λ (s : Sought). s.hit) (find_in_payload_lem code p from)
  not_in_padding other code from =
      alone other code from ∙ sym (alone (drop (offset_at ts k + 3) p) code from)
      ∙ ap (λ (q : List ℕ). mapped (λ (s : Sought). s.hit) (find_in_payload_lem code q from)) (take-append-drop (offset_at ts k + 3) p)
