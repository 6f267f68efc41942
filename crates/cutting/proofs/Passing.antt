-- The cutter always passes (rule M6): what it puts into a fragment is a run of whole TLVs, and all of them are the
-- message.
use mathlib.Core.Path.{◌≡◌, refl, sym, ap, ◌∙◌, subst}
use mathlib.Core.Bool.{Bool, true, false, cond, beq}
use mathlib.Core.List.{List, [], ◌∷◌, ◌++◌, append_assoc, append-nil, map, flatten}
use Prim.Native.Nat.{ℕ, suc, ◌+◌, ◌-◌, ◌≤◌, ◌<◌}
use native.Mathlib.Omega.{arith}
use lib.Dec.{eqb, leb}
use lib.ListN.{length, take, drop, length-append, length-drop}
use lib.Seq.{take-append_seam, drop-append_seam, drop-drop}
use borrow.Author.Tests.{eq-eqb, ne_eqb, le-leb, lt-ltb, leb-true}
use Rattle.walking.specs.Claims.{IsTlv}
use Rattle.cutting.specs.Cuts.{longest_payload, payload_in, is_tlvs_lem, is_fragment, each_from}
use Rattle.cutting.specs.Greedy.{ends_from, all_fit}
use Rattle.cutting.specs.Claims.{fragments_from}
use Rattle.cutting.specs.declared.Proposed.{Proposed}
use Rattle.cutting.proofs.Runs.{flat_snoc, Chain, whole, at_least_3}
use Rattle.numbers.proofs.Bytes.{both_true}
use Rattle.cutting.proofs.Whole as tlvs

-- a chain of TLVs is whole TLVs
pub runs : (ts : List (List ℕ)) → Chain ts → 0 < length (flatten ts) → is_tlvs_lem (flatten ts) ≡ true
unfolding is_tlvs_lem
runs ts c h = rw (tlvs.whole (flatten ts) (whole ts c), lt-ltb 0 (length (flatten ts)) h)

-- the first of a chain, and those after them
front : (ts us : List (List ℕ)) → Chain (ts ++ us) → Chain ts
front [] us c = tt
front (t ∷ []) [] c = c
front (t ∷ []) (u ∷ us) c = c.0
front (t ∷ s ∷ ts) us c = (c.0, c.1, front (s ∷ ts) us c.2)

back : (ts us : List (List ℕ)) → Chain (ts ++ us) → Chain us
back [] us c = c
back (t ∷ []) [] c = tt
back (t ∷ []) (u ∷ us) c = c.2
back (t ∷ s ∷ ts) us c = back (s ∷ ts) us c.2

pub first_of : (t : List ℕ) (ts : List (List ℕ)) → Chain (t ∷ ts) → IsTlv t
first_of t [] c = c
first_of t (u ∷ ts) c = c.0

-- the fragments from the open one on, which holds these TLVs
pub record Passes (m : List ℕ) (v t d n : ℕ) (first : Proposed) (number start : ℕ) (ends : List ℕ) : Type 0 where
  pub each : each_from (is_fragment m m n first) number (fragments_from v t d number start ends) ≡ true
  pub joined : flatten (map (payload_in m) (fragments_from v t d number start ends)) ≡ drop start m

pub record Opened (m : List ℕ) (n number start at : ℕ) (held rest : List (List ℕ)) : Type 0 where
  pub chain : Chain (held ++ rest)
  pub some : 0 < length (flatten held)
  pub short : length (flatten held) ≤ longest_payload
  pub here : at ≡ start + length (flatten held)
  pub are : drop start m ≡ flatten held ++ flatten rest
  pub fit : all_fit (map length rest) ≡ true
  pub count : n ≡ number + length (ends_from (length (flatten held)) at (map length rest))

module _ (m : List ℕ) (v t d n : ℕ) (first : Proposed) (like-version : v ≡ first.version) (like-type : t ≡ first.message_type) (like-id : d ≡ first.id) where
  abbrev fragment : (number start size : ℕ) (last : Bool) → Proposed
  fragment number start size last = record { version = v; message_type = t; id = d; number = number; last = last; start = start; length = size }

  good : (number start size : ℕ) (last : Bool) (p : List ℕ) → last ≡ eqb (number + 1) n → start + size ≤ length m → size ≤ longest_payload → take size (drop start m) ≡ p → is_tlvs_lem p ≡ true
      → is_fragment m m n first number (fragment number start size last) ≡ true
  unfolding is_fragment
  good number start size last p e inside short is run =
      rw (eq-eqb number number refl, e, same (eqb (number + 1) n), eq-eqb v first.version like-version, eq-eqb t first.message_type like-type, eq-eqb d first.id like-id, le-leb (start + size) (length m) inside, le-leb size longest_payload short, is, run)
    where
      same : (b : Bool) → beq b b ≡ true
      same true = refl
      same false = refl

  -- a fragment is closed at `at`, and these ends come after it
  module _ (number start at : ℕ) (held rest : List (List ℕ)) (ends : List ℕ) (chain : Chain held) (some : 0 < length (flatten held)) (short : length (flatten held) ≤ longest_payload) (here : at ≡ start + length (flatten held))
      (are : drop start m ≡ flatten held ++ flatten rest) (count : n ≡ number + suc (length ends)) where
    size : at - start ≡ length (flatten held)
    size = omega arith

    payload : take (at - start) (drop start m) ≡ flatten held
    payload = rw (size, are) (take-append_seam (flatten held) (flatten rest))

    mark : eqb (length ends) 0 ≡ eqb (number + 1) n
    mark = by_ends ends count
      where
        by_ends : (es : List ℕ) → n ≡ number + suc (length es) → eqb (length es) 0 ≡ eqb (number + 1) n
        by_ends [] e = sym (eq-eqb (number + 1) n (omega (arith, e)))
        by_ends (x ∷ es) e = ne_eqb (suc (length es)) 0 (λ z. omega (arith, z)) ∙ sym (ne_eqb (number + 1) n (λ z. omega (arith, z, e)))

    closed : is_fragment m m n first number (fragment number start (at - start) (eqb (length ends) 0)) ≡ true
    closed =
        let l : length (drop start m) ≡ length (flatten held) + length (flatten rest) = ap length are ∙ length-append (flatten held) (flatten rest) in
        good number start (at - start) (eqb (length ends) 0) (flatten held) mark (omega (arith, l, length-drop start m, size)) (omega (arith, size)) payload (runs held chain some)

    rest_is : drop at m ≡ flatten rest
    rest_is = rw here (sym (drop-drop (length (flatten held)) start m) ∙ rw are (drop-append_seam (flatten held) (flatten rest)))

    then : Passes m v t d n first (number + 1) at ends → Passes m v t d n first number start (at ∷ ends)
    unfolding flatten
    then p = record {
      each = rw (closed, p.each);
      joined = rw (payload, p.joined, rest_is) (sym are);
    }

  pub passes : (rest : List (List ℕ)) (number start at : ℕ) (held : List (List ℕ)) → Opened m n number start at held rest → Passes m v t d n first number start (ends_from (length (flatten held)) at (map length rest))
  unfolding ends_from flatten
  passes [] number start at held o =
      let e : drop at m ≡ [] = rest_is number start at held [] [] (front held [] o.chain) o.some o.short o.here o.are o.count in
      then number start at held [] [] (front held [] o.chain) o.some o.short o.here o.are o.count (record { each = refl; joined = sym e })
  passes (x ∷ rest) number start at held o = by_test (leb (length (flatten held) + length x) longest_payload) refl o.count
      (passes rest number start (at + length x) (held ++ (x ∷ []))) (passes rest (number + 1) at (at + length x) (x ∷ []))
    where
      longer : length (flatten (held ++ (x ∷ []))) ≡ length (flatten held) + length x
      longer = ap length (flat_snoc held x) ∙ length-append (flatten held) x

      only : length (flatten (x ∷ [])) ≡ length x
      only = ap length (append-nil x)

      fits : (length x ≤ longest_payload) × (all_fit (map length rest) ≡ true)
      fits = let f = both_true (leb (length x) longest_payload) (all_fit (map length rest)) o.fit in (leb-true (length x) longest_payload f.0, f.1)

      with_it : length (flatten held) + length x ≤ longest_payload → n ≡ number + length (ends_from (length (flatten held) + length x) (at + length x) (map length rest)) → Opened m n number start (at + length x) (held ++ (x ∷ [])) rest
      with_it l c = record {
        chain = rw append_assoc o.chain;
        some = omega (arith, longer, o.some);
        short = omega (arith, longer);
        here = omega (arith, longer, o.here);
        are = o.are ∙ rw (flat_snoc held x, append_assoc);
        fit = fits.1;
        count = rw longer c;
      }

      next : 0 < length x → n ≡ number + suc (length (ends_from (length x) (at + length x) (map length rest))) → Opened m n (number + 1) at (at + length x) (x ∷ []) rest
      next h c = record {
        chain = back held (x ∷ rest) o.chain;
        some = omega (arith, only);
        short = omega (arith, only, fits.0);
        here = omega (arith, only);
        are = rest_is number start at held (x ∷ rest) (ends_from (length x) (at + length x) (map length rest)) (front held (x ∷ rest) o.chain) o.some o.short o.here o.are c ∙ rw append-nil;
        fit = fits.1;
        count = rw only (omega (arith, c));
      }

      by_test : (b : Bool) → leb (length (flatten held) + length x) longest_payload ≡ b
          → n ≡ number + length (cond b (ends_from (length (flatten held) + length x) (at + length x) (map length rest)) (at ∷ ends_from (length x) (at + length x) (map length rest)))
          → (Opened m n number start (at + length x) (held ++ (x ∷ [])) rest → Passes m v t d n first number start (ends_from (length (flatten (held ++ (x ∷ [])))) (at + length x) (map length rest)))
          → (Opened m n (number + 1) at (at + length x) (x ∷ []) rest → Passes m v t d n first (number + 1) at (ends_from (length (flatten (x ∷ []))) (at + length x) (map length rest)))
          → Passes m v t d n first number start (cond b (ends_from (length (flatten held) + length x) (at + length x) (map length rest)) (at ∷ ends_from (length x) (at + length x) (map length rest)))
      by_test true e c on after = subst (λ (k : ℕ). Passes m v t d n first number start (ends_from k (at + length x) (map length rest))) longer (on (with_it (leb-true (length (flatten held) + length x) longest_payload e) c))
      by_test false e c on after =
          then number start at held (x ∷ rest) _ (front held (x ∷ rest) o.chain) o.some o.short o.here o.are c
          (subst (λ (k : ℕ). Passes m v t d n first (number + 1) at (ends_from k (at + length x) (map length rest))) only (after (next (omega (arith, at_least_3 x (first_of x rest (back held (x ∷ rest) o.chain)))) c)))
