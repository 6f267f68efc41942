-- Laws of a step: where it finds the end, what it passes, and that a walk goes on by it.
use mathlib.Core.Path.{◌≡◌, refl, sym, ap, ◌∙◌}
use mathlib.Core.Bool.{Bool, true, false, cond}
use mathlib.Core.List.{List}
use Prim.Native.Nat.{ℕ, ◌+◌, ◌-◌, ◌≤◌, ◌<◌}
use native.Mathlib.Omega.{arith}
use lib.Dec.{eqb, ltb}
use lib.ListN.{length, take, drop, get_or, length-drop}
use lib.Seq.{take-length, get_or-drop}
use borrow.Author.Tests.{eqb-true, lt-ltb, le-ltb, ltb-true, ltb-false}
use Rattle.numbers.specs.Numbers.{Answer, gives, refuses}
use Rattle.numbers.proofs.Firm.{never}
use Rattle.numbers.proofs.Bytes.{number_at_lem}
use Rattle.framing.specs.declared.TlvRead.{TlvRead}
use Rattle.framing.specs.Tlv.{read_tlv_lem}
use Rattle.framing.proofs.Reading.{reads}
use Rattle.walking.specs.declared.Tlv.{Tlv}
use Rattle.walking.specs.Steps.{Ahead, ended, passed, last}
use Rattle.walking.specs.declared.Stepped.{Stepped}
use Rattle.walking.specs.Walk.{is_marker_lem, ahead_of, step_by_lem, step_at}

-- the marker has no value
pub empty : (t : Tlv) → is_marker_lem t ≡ true → t.length ≡ 0
empty t e = by_type (eqb t.tlv_type 0) (eqb t.length 0) refl e
  where
    by_type : (x y : Bool) → eqb t.length 0 ≡ y → cond x y false ≡ true → t.length ≡ 0
    by_type true y f e = eqb-true t.length 0 (f ∙ e)
    by_type false y f e = let z : ◌≡◌ {A = ℕ} 0 1 = cc in absurd (omega arith)

module _ (p : List ℕ) (at : ℕ) where
  -- the part from `at` on is all that lies there
  pub whole_rest : take (length p - at) (drop at p) ≡ drop at p
  whole_rest = rw (← length-drop) (take-length (drop at p))

  pub at_end_lem : length p ≤ at → gives ended ≡ step_at p at
  unfolding step_at
  at_end_lem h = rw (le-ltb at (length p) h)

  pub by_reading : at < length p → (a : Answer TlvRead) → a ≡ read_tlv_lem (drop at p) → step_by_lem at a ≡ step_at p at
  unfolding step_at
  by_reading h a e = rw (lt-ltb at (length p) h) (ap (step_by_lem at) e)

  -- what a step finds that goes over a TLV, the marker or another
  abbrev over : Bool → Tlv → ℕ → Ahead Tlv
  over b t next = cond b (last t next) (passed t next)

  abbrev record_of : TlvRead → Tlv
  record_of r = record { tlv_type = r.tlv_type; length = r.value_length; offset = at }

  pub by_mark : at < length p → (r : TlvRead) → gives r ≡ read_tlv_lem (drop at p) → (b : Bool) → b ≡ is_marker_lem (record_of r) → gives (over b (record_of r) (at + r.consumed)) ≡ step_at p at
  by_mark h r e b m = ap (λ (x : Bool). gives (over x (record_of r) (at + r.consumed))) m ∙ by_reading h (gives r) e

  -- the marker ends after its header's three bytes
  pub by_marker : at < length p → (r : TlvRead) → gives r ≡ read_tlv_lem (drop at p) → true ≡ is_marker_lem (record_of r) → gives (last (record_of r) (at + 3)) ≡ step_at p at
  by_marker h r e m =
      let n : at + 3 ≡ at + r.consumed = omega (arith, (reads (drop at p) r e).all, empty (record_of r) (sym m)) in
      ap (λ (k : ℕ). gives (last (record_of r) k)) n ∙ by_mark h r e true m

  not_ended : {B : Type 0} (b : Bool) (t : Tlv) (next : ℕ) → ◌≡◌ {A = Answer (Ahead Tlv)} (gives (over b t next)) (gives ended) → B
  not_ended true t next e = let z : ◌≡◌ {A = ℕ} 0 1 = cc in absurd (omega arith)
  not_ended false t next e = let z : ◌≡◌ {A = ℕ} 0 1 = cc in absurd (omega arith)

  over_one : (b m : Bool) (t u : Tlv) (n k : ℕ) → ◌≡◌ {A = Answer (Ahead Tlv)} (gives (over b t n)) (gives (over m u k)) → (b ≡ m) × (t ≡ u) × (n ≡ k)
  over_one true true t u n k e = (refl, cc, cc)
  over_one false false t u n k e = (refl, cc, cc)
  over_one true false t u n k e = let z : ◌≡◌ {A = ℕ} 0 1 = cc in absurd (omega arith)
  over_one false true t u n k e = let z : ◌≡◌ {A = ℕ} 0 1 = cc in absurd (omega arith)

  -- what reads at `at` lies inside the payload, and its length is one of two bytes
  pub fits : (t : TlvRead) → gives t ≡ read_tlv_lem (drop at p) → at ≤ length p → at + t.consumed ≤ length p
  fits t e h = omega (arith, (reads (drop at p) t e).inside, length-drop at p)

  pub narrow : (t : TlvRead) → gives t ≡ read_tlv_lem (drop at p) → get_or p (at + 1) 0 < 256 → get_or p (at + 2) 0 < 256 → t.value_length < 65536
  narrow t e h l =
      let r = reads (drop at p) t e in
      omega (arith, r.long, number_at_lem 2 1 (drop at p) (omega (arith, r.all, r.inside)), get_or-drop at p 1 0, get_or-drop at p 2 0)

  -- what a step over a TLV says of the payload
  pub record Passes (t : Tlv) (next : ℕ) : Type 0 where
    pub starts : t.offset ≡ at
    pub behind : next ≡ at + 3 + t.length
    pub inside : next ≤ length p
    pub reads_as : gives (record { tlv_type = t.tlv_type; value_length = t.length; consumed = 3 + t.length }) ≡ read_tlv_lem (drop at p)

  -- and of the TLV: whether it is the marker
  pub record Steps (b : Bool) (t : Tlv) (next : ℕ) : Type 0 where
    pub passing : Passes t next
    pub marks : is_marker_lem t ≡ b

  pub steps : (b : Bool) (t : Tlv) (next : ℕ) → gives (over b t next) ≡ step_at p at → Steps b t next
  unfolding step_at
  steps b t next = by_test (ltb at (length p)) (read_tlv_lem (drop at p)) refl refl
    where
      by_test : (x : Bool) (a : Answer TlvRead) → ltb at (length p) ≡ x → a ≡ read_tlv_lem (drop at p) → gives (over b t next) ≡ cond x (step_by_lem at a) (gives ended) → Steps b t next
      by_test false a l e is = not_ended b t next is
      by_test true (refuses n vs) l e is = never _ _ _ is
      by_test true (gives r) l e is =
          let h = ltb-true at (length p) l in
          let o = over_one b (is_marker_lem (record_of r)) t (record_of r) next (at + r.consumed) is in
          let i = o.1 in
          let all = (reads (drop at p) r e).all in
          record {
            passing = record {
              starts = ap (λ (u : Tlv). u.offset) i;
              behind = omega (arith, ap (λ (u : Tlv). u.length) i, o.2);
              inside = omega (arith, fits r e (omega arith), o.2);
              reads_as = rw i (rw (← all) e);
            };
            marks = ap is_marker_lem i ∙ sym o.0;
          }

  pub passes : (t : Tlv) (next : ℕ) → gives (passed t next) ≡ step_at p at → Passes t next
  passes t next e = (steps false t next e).passing

  pub lasts : (t : Tlv) (end : ℕ) → gives (last t end) ≡ step_at p at → Passes t end
  lasts t end e = (steps true t end e).passing

  pub ends : gives ended ≡ step_at p at → length p ≤ at
  unfolding step_at
  ends = by_test (ltb at (length p)) (read_tlv_lem (drop at p)) refl
    where
      by_test : (b : Bool) (a : Answer TlvRead) → ltb at (length p) ≡ b → gives ended ≡ cond b (step_by_lem at a) (gives ended) → length p ≤ at
      by_test false a l is = ltb-false at (length p) l
      by_test true (refuses n vs) l is = never _ _ _ is
      by_test true (gives r) l is = not_ended (is_marker_lem (record_of r)) _ _ (sym is)

-- where the same TLV reads in another payload, a step finds the same there
pub steps_same : (p : List ℕ) (at : ℕ) (b : Bool) (t : Tlv) (next : ℕ) → Steps p at b t next → (q : List ℕ) → at < length q
    → gives (record { tlv_type = t.tlv_type; value_length = t.length; consumed = 3 + t.length }) ≡ read_tlv_lem (drop at q) → gives (over q at b t next) ≡ step_at q at
steps_same p at b t next o q h e =
    let n : next ≡ at + (3 + t.length) = omega (arith, o.passing.behind) in
    let i : t ≡ record { tlv_type = t.tlv_type; length = t.length; offset = at } = ap (λ (k : ℕ). record { tlv_type = t.tlv_type; length = t.length; offset = k }) o.passing.starts in
    ap (λ (k : ℕ). gives (over q at b t k)) n ∙ ap (λ (u : Tlv). gives (over q at b u (at + (3 + t.length)))) i ∙ by_mark q at h _ e b (sym o.marks ∙ ap is_marker_lem i)

-- what a step answered, once it is known what it found
pub is_found : {found s : Stepped} {a : Answer (Ahead Tlv)} → found ≡ s → gives (ahead_of found) ≡ a → gives (ahead_of s) ≡ a
is_found is e = ap (λ (s : Stepped). gives (ahead_of s)) (sym is) ∙ e
