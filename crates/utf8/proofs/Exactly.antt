-- The test for UTF-8 accepts exactly the octets of the grammar, and a text may be cut between two characters.
use mathlib.Core.Path.{◌≡◌, refl, sym, ap, ◌∙◌}
use mathlib.Core.Bool.{Bool, true, false, cond}
use mathlib.Core.List.{List, [], ◌∷◌, ◌++◌, flatten, append_assoc}
use mathlib.Core.Logic.{inl, inr}
use Rattle.std.specs.Prelude.{Option, None, Some}
use Prim.Native.Nat.{ℕ, zero, suc, ◌≤◌}
use native.Mathlib.Omega.{arith}
use lib.ListN.{take, drop}
use lib.Seq.{take-append_seam, drop-append_seam}
use lib.Dec.{leb}
use borrow.Author.Tests.{leb-true}
use Rattle.utf8.specs.Utf8.{Range, Form, forms, Fits, OneOf, Characters, Octets, in_range, begun, goes_on_lem, accepts, is_utf8_lem}
use Rattle.utf8.specs.Claims.{Exactly, begin_of, Cut}
use Rattle.utf8.proofs.Grammar.{in_range_lem, Begins, begun_is}

never_true : {A : Type 0} → false ≡ true → A
never_true e = let z : ◌≡◌ {A = ℕ} 0 1 = cc in absurd (omega arith)

-- a byte that is in a range
is_in_lem : (r : Range) (b : ℕ) → in_range r b ≡ true → (r.low ≤ b) × (b ≤ r.high)
is_in_lem r b e = go (leb r.low b) refl e where
  go : (t : Bool) → leb r.low b ≡ t → cond t (leb b r.high) false ≡ true → (r.low ≤ b) × (b ≤ r.high)
  go true t e = (leb-true r.low b t, leb-true b r.high e)
  go false t e = never_true e

-- a first byte and bytes that fit what it awaits are a character
is_character : (fs : List Form) (b : ℕ) (rs : List Range) (c : List ℕ) → begun fs b ≡ Some rs → Fits rs c → OneOf fs (b ∷ c)
is_character [] b rs c e f = let z : ◌≡◌ {A = ℕ} 0 1 = cc in absurd (omega arith)
is_character (g ∷ fs) b rs c e f = go (in_range g.first b) refl e (is_character fs b rs c) where
  go : (t : Bool) → in_range g.first b ≡ t → cond t (Some g.behind) (begun fs b) ≡ Some rs → (begun fs b ≡ Some rs → Fits rs c → OneOf fs (b ∷ c)) → OneOf (g ∷ fs) (b ∷ c)
  go true t e on = let i = is_in_lem g.first b t in let same : g.behind ≡ rs = cc in inl (i.0, i.1, rw same f)
  go false t e on = inr (on e f)

-- bytes that pass are those that are awaited, and then characters
record Split (rs : List Range) (s : List ℕ) : Type 0 where
  part : List ℕ
  fits : Fits rs part
  behind : List ℕ
  octets : Octets behind
  all : part ++ behind ≡ s

split : (s : List ℕ) (rs : List Range) → accepts rs s ≡ true → Split rs s
unfolding accepts flatten
split [] [] e = record { part = []; fits = tt; behind = []; octets = record { list = []; each = tt; all = refl }; all = refl }
split [] (r ∷ rs) e = never_true e
split (b ∷ s) [] e = go (begun forms b) refl e (split s)
  where
    go : (o : Option (List Range)) → begun forms b ≡ o → goes_on_lem o (λ t. accepts t s) ≡ true → ((rs : List Range) → accepts rs s ≡ true → Split rs s) → Split [] (b ∷ s)
    go None o e on = never_true e
    go (Some ts) o e on =
        let x = on ts e in
        let y = x.octets in
        let one : OneOf forms (b ∷ x.part) = is_character forms b ts x.part o x.fits in
        let all : b ∷ x.part ++ flatten y.list ≡ b ∷ s = ap (λ t. b ∷ x.part ++ t) y.all ∙ ap (λ t. b ∷ t) x.all in
        record { part = []; fits = tt; behind = b ∷ s; octets = record { list = (b ∷ x.part) ∷ y.list; each = (one, y.each); all = all }; all = refl }
split (b ∷ s) (r ∷ rs) e = go (in_range r b) refl e (split s rs)
  where
    go : (t : Bool) → in_range r b ≡ t → goes_on_lem (cond t (Some rs) None) (λ t. accepts t s) ≡ true → (accepts rs s ≡ true → Split rs s) → Split (r ∷ rs) (b ∷ s)
    go true t e on =
        let x = on e in
        let i = is_in_lem r b t in
        record { part = b ∷ x.part; fits = (i.0, i.1, x.fits); behind = x.behind; octets = x.octets; all = ap (λ t. b ∷ t) x.all }
    go false t e on = never_true e

sound : (s : List ℕ) → is_utf8_lem s ≡ true → Octets s
sound s e = let x = split s [] e in go x.part x.fits x.behind x.octets x.all
  where
    go : (part : List ℕ) → Fits [] part → (behind : List ℕ) → Octets behind → part ++ behind ≡ s → Octets s
    go [] f behind o a = record { list = o.list; each = o.each; all = o.all ∙ a }
    go (b ∷ bs) f behind o a = absurd f

-- what is awaited passes, and so does a character
fits_pass : (rs : List Range) (c s : List ℕ) → Fits rs c → accepts rs (c ++ s) ≡ accepts [] s
unfolding accepts
fits_pass [] [] s f = refl
fits_pass [] (b ∷ c) s f = absurd f
fits_pass (r ∷ rs) [] s f = absurd f
fits_pass (r ∷ rs) (b ∷ c) s f = rw (in_range_lem r b f.0 f.1) (fits_pass rs c s f.2)

-- what the first byte of a character of these forms awaits
record Begun (fs : List Form) (b : ℕ) (c : List ℕ) : Type 0 where
  awaited : List Range
  begins : Begins fs b awaited
  fits : Fits awaited c

begun_by : (fs : List Form) (b : ℕ) (c : List ℕ) → OneOf fs (b ∷ c) → Begun fs b c
begun_by [] b c x = absurd x
begun_by (f ∷ fs) b c x = go x (begun_by fs b c) where
  go : OneOf (f ∷ fs) (b ∷ c) → (OneOf fs (b ∷ c) → Begun fs b c) → Begun (f ∷ fs) b c
  go (inl y) on = record { awaited = f.behind; begins = inl (y.0, y.1, refl); fits = y.2 }
  go (inr y) on = let z = on y in record { awaited = z.awaited; begins = inr z.begins; fits = z.fits }

no_bytes : {A : Type 0} (fs : List Form) → OneOf fs [] → A
no_bytes [] x = absurd x
no_bytes (f ∷ fs) x = go x (no_bytes fs) where
  go : {A : Type 0} → OneOf (f ∷ fs) [] → (OneOf fs [] → A) → A
  go (inl y) on = absurd y
  go (inr y) on = on y

character_passes : (c s : List ℕ) → OneOf forms c → accepts [] (c ++ s) ≡ accepts [] s
unfolding accepts
character_passes [] s x = no_bytes forms x
character_passes (b ∷ c) s x =
    let z = begun_by forms b c x in
    rw (begun_is forms b z.awaited tt z.begins) (fits_pass z.awaited c s z.fits)

characters_pass : (cs : List (List ℕ)) → Characters cs → is_utf8_lem (flatten cs) ≡ true
unfolding accepts flatten
characters_pass [] x = refl
characters_pass (c ∷ cs) x = character_passes c (flatten cs) x.0 ∙ characters_pass cs x.1

pub exactly : Exactly
exactly s = (sound s, λ o. ap is_utf8_lem (sym o.all) ∙ characters_pass o.list o.each)

-- the first n characters and the others
first_ones : (n : ℕ) (cs : List (List ℕ)) → Characters cs → Characters (take n cs)
first_ones zero cs x = tt
first_ones (suc n) [] x = tt
first_ones (suc n) (c ∷ cs) x = (x.0, first_ones n cs x.1)

others : (n : ℕ) (cs : List (List ℕ)) → Characters cs → Characters (drop n cs)
others zero cs x = x
others (suc n) [] x = tt
others (suc n) (c ∷ cs) x = others n cs x.1

rejoined : (n : ℕ) (cs : List (List ℕ)) → flatten (take n cs) ++ flatten (drop n cs) ≡ flatten cs
unfolding flatten
rejoined zero cs = refl
rejoined (suc n) [] = refl
rejoined (suc n) (c ∷ cs) = append_assoc c (flatten (take n cs)) (flatten (drop n cs)) ∙ ap (λ t. c ++ t) (rejoined n cs)

pub cut : Cut
cut s o n =
    let a = flatten (take n o.list) in
    let b = flatten (drop n o.list) in
    let all : s ≡ a ++ b = sym (rejoined n o.list ∙ o.all) in
    let front : take (begin_of o n) s ≡ a = ap (take (begin_of o n)) all ∙ take-append_seam a b in
    let back : drop (begin_of o n) s ≡ b = ap (drop (begin_of o n)) all ∙ drop-append_seam a b in
    (ap is_utf8_lem front ∙ characters_pass (take n o.list) (first_ones n o.list o.each), ap is_utf8_lem back ∙ characters_pass (drop n o.list) (others n o.list o.each))
