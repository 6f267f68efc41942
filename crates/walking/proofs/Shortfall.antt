-- The shortfall of a walk is exact: with more after the payload the walk comes to the same TLV, and what it then finds
-- there framing says.
use mathlib.Core.Path.{◌≡◌, refl, sym, ap, ◌∙◌, subst}
use mathlib.Core.Bool.{Bool, true, false, cond}
use mathlib.Core.List.{List, [], ◌∷◌, ◌++◌}
use Prim.Native.Nat.{ℕ, ◌+◌, ◌<◌}
use native.Mathlib.Omega.{arith}
use lib.Dec.{ltb}
use lib.ListN.{length, drop, length-append, length-drop}
use lib.Seq.{drop-append-le}
use borrow.Author.Tests.{ltb-true}
use Rattle.numbers.specs.Numbers.{Answer, gives, refuses}
use Rattle.numbers.proofs.Firm.{never}
use Rattle.framing.specs.declared.TlvRead.{TlvRead}
use Rattle.framing.specs.Tlv.{read_tlv_lem}
use Rattle.framing.specs.Claims.{number_in}
use Rattle.framing.proofs.Shortfall.{numbered, of_tlv, fills_up}
use Rattle.walking.specs.declared.Tlv.{Tlv}
use Rattle.walking.specs.Steps.{ended, passed, last, Walk}
use Rattle.walking.specs.Walk.{is_marker_lem, step_by_lem, step_at, walk_of, counted}
use Rattle.walking.specs.Claims.{refused_at_lem, MissingAt}
use Rattle.walking.proofs.Carried.{carried, refused_unmarked}
use Rattle.walking.proofs.Chained.{Has, of_walk, the_walk}
use Rattle.walking.proofs.Going.{at_end_lem, onward, final, stopped}
use Rattle.walking.proofs.Listed.{ended_by}
use Rattle.walking.proofs.Stepping.{by_reading}
use Rattle.walking.proofs.Stepping as step

-- what a step that is refused says: a TLV was to be read there, and was refused
record Fails (p : List ℕ) (at n : ℕ) (vs : List ℕ) : Type 0 where
  pub inside : at < length p
  pub after : List ℕ
  pub is : vs ≡ at ∷ after
  pub reads : read_tlv_lem (drop at p) ≡ refuses n after

fails : (p : List ℕ) (at n : ℕ) (vs : List ℕ) → refuses n vs ≡ step_at p at → Fails p at n vs
unfolding step_at
fails p at n vs = by_test (ltb at (length p)) (read_tlv_lem (drop at p)) refl refl
  where
    by_test : (b : Bool) (a : Answer TlvRead) → ltb at (length p) ≡ b → a ≡ read_tlv_lem (drop at p) → refuses n vs ≡ cond b (step_by_lem at a) (gives ended) → Fails p at n vs
    by_test false a l e is = never _ _ _ (sym is)
    by_test true (gives r) l e is = never _ _ _ (sym is)
    by_test true (refuses m ws) l e is =
        let i : n ≡ m = cc in
        let j : vs ≡ at ∷ ws = cc in
        record { inside = ltb-true at (length p) l; after = ws; is = j; reads = sym e ∙ rw (← i) }

heads : (a b : ℕ) (vs ws : List ℕ) → a ∷ vs ≡ b ∷ ws → (a ≡ b) × (vs ≡ ws)
heads a b vs ws e = (cc, cc)

-- where a walk is refused at once, its step is
refused_there : (p : List ℕ) {at : ℕ} {end : Answer ℕ} → Has p at [] end → (n : ℕ) (vs : List ℕ) → end ≡ refuses n vs → refuses n vs ≡ step_at p at
refused_there p (at_end_lem f) n vs is = never _ _ _ is
refused_there p (stopped {n = m} {vs = us} f) n vs is = let i : n ≡ m = cc in let j : vs ≡ us = cc in rw (i, j) f

module _ (p : List ℕ) (n at missing : ℕ) (e : counted (walk_of p) ≡ refuses n (at ∷ missing ∷ [])) (more : List ℕ) where
  abbrev q : List ℕ
  q = p ++ more

  abbrev ts : List Tlv
  ts = (walk_of p).items

  -- there the walk was refused
  record There : Type 0 where
    inside : at < length p
    short : read_tlv_lem (drop at p) ≡ refuses n (missing ∷ [])
    on : (us : List Tlv) (fin : Answer ℕ) → Has q at us fin → Has q 0 (ts ++ us) fin

  there : There
  there =
      let end = ended_by (walk_of p) _ _ (sym e) in
      let c = carried p more (of_walk p) (omega arith) (refused_unmarked p (of_walk p) n _ end) in
      let x = fails p c.to n _ (refused_there p c.stops n _ end) in
      let h = heads _ _ _ _ x.is in
      record {
        inside = omega (arith, h.0, x.inside);
        short = ap (λ (k : ℕ). read_tlv_lem (drop k p)) h.0 ∙ x.reads ∙ ap (refuses n) (sym h.1);
        on = λ us fin g. c.on us fin (subst (λ (k : ℕ). Has q k us fin) h.0 g);
      }

  -- what a step finds there with more after it
  by_more : (a : Answer TlvRead) → a ≡ read_tlv_lem (drop at p ++ more) → step_by_lem at a ≡ step_at q at
  by_more a f = by_reading q at (omega (arith, there.inside, length-append p more)) a (f ∙ ap read_tlv_lem (sym (drop-append-le at p more (omega (arith, there.inside)))))

  -- the walk with more after it, refused there
  refused_again : (m : ℕ) (vs : List ℕ) → refuses m vs ≡ read_tlv_lem (drop at p ++ more) → counted (walk_of q) ≡ refuses m (at ∷ vs)
  refused_again m vs f = ap counted (the_walk q _ _ (there.on [] _ (stopped (by_more (refuses m vs) f))))

  again : length more < missing → refused_at_lem (counted (walk_of q)) ≡ (n, at)
  again l = go (read_tlv_lem (drop at p ++ more)) refl
    where
      go : (a : Answer TlvRead) → a ≡ read_tlv_lem (drop at p ++ more) → refused_at_lem (counted (walk_of q)) ≡ (n, at)
      go (gives r) f = let z : 0 ≡ n = ap number_in f ∙ (of_tlv (drop at p) n missing there.short).again more l in absurd (omega (arith, numbered (drop at p) n _ there.short))
      go (refuses m vs) f = let z : m ≡ n = ap number_in f ∙ (of_tlv (drop at p) n missing there.short).again more l in rw (refused_again m vs f, z)

  -- a TLV that takes all that is there ends the walk
  goes_through : (b : Bool) (t : Tlv) → gives (cond b (last t (length q)) (passed t (length q))) ≡ step_at q at → number_in (counted (walk_of q)) ≡ 0
  goes_through true t f = ap (λ (w : Walk Tlv). number_in (counted w)) (the_walk q _ _ (there.on (t ∷ []) _ (final f)))
  goes_through false t f = ap (λ (w : Walk Tlv). number_in (counted w)) (the_walk q _ _ (there.on (t ∷ []) _ (onward f (at_end_lem (step.at_end_lem q (length q) (omega arith))))))

  no_longer : length more ≡ missing → number_in (counted (walk_of q)) ≡ n → ⊥
  no_longer l h = go (read_tlv_lem (drop at p ++ more)) refl
    where
      go : (a : Answer TlvRead) → a ≡ read_tlv_lem (drop at p ++ more) → ⊥
      go (gives r) f =
          let t : Tlv = record { tlv_type = r.tlv_type; length = r.value_length; offset = at } in
          let to : at + r.consumed ≡ length q = omega (arith, fills_up (drop at p) n missing there.short more l r f, length-append (drop at p) more, length-drop at p, length-append p more, there.inside) in
          let z = goes_through (is_marker_lem t) t (subst (λ (k : ℕ). gives (cond (is_marker_lem t) (last t k) (passed t k)) ≡ step_at q at) to (by_more (gives r) f)) in
          omega (arith, z, h, numbered (drop at p) n _ there.short)
      go (refuses m vs) f = (of_tlv (drop at p) n missing there.short).no_longer more (omega arith) (ap number_in (sym f) ∙ ap number_in (sym (refused_again m vs f)) ∙ h)

pub exact : (p : List ℕ) (n at missing : ℕ) → counted (walk_of p) ≡ refuses n (at ∷ missing ∷ []) → MissingAt p n at missing
exact p n at missing e = record { again = again p n at missing e; no_longer = no_longer p n at missing e }
