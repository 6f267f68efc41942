-- Following the fragments one by one says what the definition says of all of them (rule M3).
use Rattle.std.specs.Prelude.{Option, Some, None, option_and_then}
use Rattle.std.specs.Option.{MatchOption}
use mathlib.Core.Path.{◌≡◌, refl, sym, ap, ◌∙◌}
use mathlib.Core.Bool.{Bool, true, false, cond, ◌&&◌, ◌||◌, beq}
use mathlib.Core.List.{List, [], ◌∷◌, map, flatten}
use Prim.Native.Nat.{ℕ, ◌+◌, ◌≤◌}
use native.Mathlib.Omega.{arith}
use lib.Dec.{eqb, leb}
use lib.ListN.{length, take, drop, length-drop, length-take}
use lib.Seq.{drop-drop, length-take-le}
use Rattle.numbers.specs.Bytes.{is_same_lem}
use Rattle.numbers.proofs.Bytes.{are_same}
use Rattle.cutting.specs.Cuts.{longest_payload, most_fragments, payload_in, is_tlvs_lem, is_empty_one, is_alike_lem, is_fragment, each_from, is_cutting_lem}
use Rattle.cutting.specs.PrivateFollowing.{goes_on_lem, first_by_lem, is_headed_lem, is_carried_lem, past_fragment, taken_by, followed_from, all_followed, is_whole}
use Rattle.cutting.specs.declared.Proposed.{Proposed}
use Rattle.cutting.specs.declared.following.Reached.{Reached}
use Rattle.cutting.proofs.Asked.{as_asked}
use Rattle.cutting.proofs.Same.{part_by_part, at_end_lem, there}

and_false : (b : Bool) → (b && false) ≡ false
and_false true = refl
and_false false = refl

regrouped : (h d e r g : Bool) → (h && (d && e && r && g)) ≡ (h && d && e && r && g)
regrouped true d e r g = refl
regrouped false d e r g = refl

-- what is asked of the next one and its bytes, and of those after it
one_and_rest : (asked goes others bytes follow all : Bool) → all ≡ (goes && bytes) → (asked ≡ true → goes ≡ true → follow ≡ (others && bytes)) → (asked && goes && follow) ≡ (asked && others && all)
one_and_rest true true others bytes follow all w on = on refl refl ∙ rw w
one_and_rest true false others bytes follow all w on = sym (rw w (and_false others))
one_and_rest false goes others bytes follow all w on = refl

module _ (m ps : List ℕ) where
  -- from here on they follow, to the message's end
  abbrev Ends : Reached → List Proposed → Bool
  Ends s fs = is_whole (length m) (followed_from m ps s fs)

  -- what is asked of the fragment that comes next, and that the message goes on with its payload
  module _ (s : Reached) (f : Proposed) (g : Proposed) (first : first_by_lem s f ≡ g) (h : s.at ≤ length m) where
    abbrev p : List ℕ
    p = payload_in ps f

    abbrev Asked : Bool
    Asked = is_fragment m ps s.count g s.number f

    abbrev Goes : Bool
    Goes = is_same_lem p (take (length p) (drop s.at m))

    tests : (is_headed_lem s g f && is_carried_lem m ps s f) ≡ (Asked && Goes)
    unfolding is_headed_lem is_carried_lem goes_on_lem is_fragment
    tests =
        rw (there s.at m p h)
        (regrouped (eqb f.number s.number && beq f.last (eqb (s.number + 1) s.count) && is_alike_lem f g) (leb (f.start + f.length) (length ps)) (leb f.length longest_payload) (is_tlvs_lem p || is_empty_one m s.count) Goes)

    taken : taken_by m ps s f ≡ cond (Asked && Goes) (Some (past_fragment s f)) None
    unfolding taken_by
    taken = ap (λ (q : Proposed). cond (is_headed_lem s q f && is_carried_lem m ps s f) (Some (past_fragment s f)) None) first
        ∙ ap (λ (b : Bool). cond b (Some (past_fragment s f)) None) tests

    step : (fs : List Proposed) → Ends s (f ∷ fs) ≡ (Asked && Goes && Ends (past_fragment s f) fs)
    unfolding followed_from
    step fs = ap (λ (t : Option Reached). is_whole (length m) (option_and_then (λ r. followed_from m ps r fs) t)) taken ∙ by_test Asked Goes
      where
        by_test : (a b : Bool) → is_whole (length m) (option_and_then (λ r. followed_from m ps r fs) (cond (a && b) (Some (past_fragment s f)) None)) ≡ (a && b && Ends (past_fragment s f) fs)
        by_test true true = refl
        by_test true false = refl
        by_test false b = refl

    -- what the next state keeps, where all that is asked holds
    pub record Kept : Type 0 where
      pub number_is : f.number ≡ s.number
      pub size_is : length p ≡ f.length
      pub at_most : s.at + f.length ≤ length m

    keeps : Asked ≡ true → Goes ≡ true → Kept
    keeps a e =
        let w = as_asked m ps s.count g s.number f a in
        let l : length p ≡ f.length = length-take-le f.length (drop f.start ps) (omega (arith, w.inside, length-drop f.start ps)) in
        record {
          number_is = w.number_is;
          size_is = l;
          at_most = omega (arith, h, l, ap length (are_same p (take (length p) (drop s.at m)) e), length-take (length p) (drop s.at m), length-drop s.at m);
        }

    -- the rest follows as the definition says, so all from here on does
    abbrev Says : (number at : ℕ) → List Proposed → Bool
    Says number at fs = each_from (is_fragment m ps s.count g) number fs && is_same_lem (flatten (map (payload_in ps) fs)) (drop at m)

    goes_on : (fs : List Proposed) → (Kept → Ends (past_fragment s f) fs ≡ Says (f.number + 1) (s.at + f.length) fs) → Ends s (f ∷ fs) ≡ Says s.number s.at (f ∷ fs)
    unfolding flatten
    goes_on fs on = step fs ∙ one_and_rest Asked Goes others (is_same_lem rest (drop (length p) (drop s.at m))) _ _ (part_by_part p rest (drop s.at m)) (λ a e. then (keeps a e))
      where
        rest : List ℕ
        rest = flatten (map (payload_in ps) fs)

        others : Bool
        others = each_from (is_fragment m ps s.count g) (s.number + 1) fs

        then : Kept → Ends (past_fragment s f) fs ≡ (others && is_same_lem rest (drop (length p) (drop s.at m)))
        then k =
            on k ∙ ap (λ (i : ℕ). each_from (is_fragment m ps s.count g) (i + 1) fs && is_same_lem rest (drop (s.at + f.length) m)) k.number_is
            ∙ ap (λ (t : List ℕ). others && is_same_lem rest t) (ap (λ (n : ℕ). drop (s.at + n) m) (sym k.size_is) ∙ sym (drop-drop (length p) s.at m))

  -- after the first one, g
  follows : (fs : List Proposed) (s : Reached) (g : Proposed) → s.first ≡ Some g → s.at ≤ length m
      → Ends s fs ≡ (each_from (is_fragment m ps s.count g) s.number fs && is_same_lem (flatten (map (payload_in ps) fs)) (drop s.at m))
  unfolding followed_from flatten
  follows [] s g n h = at_end_lem s.at m h
  follows (f ∷ fs) s g n h =
      let i : first_by_lem s f ≡ g = rw n in
      goes_on s f g i h fs (λ k. follows fs (past_fragment s f) g (ap Some i) k.at_most)

  -- all of them
  module _ (f : Proposed) (fs : List Proposed) where
    abbrev start : Reached
    start = record { count = length (f ∷ fs); number = 0; at = 0; first = None }

    from_first : Ends start (f ∷ fs) ≡ (each_from (is_fragment m ps (length (f ∷ fs)) f) 0 (f ∷ fs) && is_same_lem (flatten (map (payload_in ps) (f ∷ fs))) m)
    from_first = goes_on start f f refl (omega arith) fs (λ k. follows fs (past_fragment start f) f refl k.at_most)

    cut_so : (b : Bool) → (leb 1 (length (f ∷ fs)) && leb (length (f ∷ fs)) most_fragments) ≡ b → is_whole (length m) (all_followed m ps (f ∷ fs)) ≡ is_cutting_lem m ps (f ∷ fs)
    unfolding is_cutting_lem
    cut_so true e = rw e from_first
    cut_so false e = rw e

  pub all_follow : (fs : List Proposed) → is_whole (length m) (all_followed m ps fs) ≡ is_cutting_lem m ps fs
  unfolding is_cutting_lem
  all_follow [] = refl
  all_follow (f ∷ fs) = cut_so f fs _ refl

  -- the same, by a test P of where they end
  pub by_end : (fs : List Proposed) (o : Option Reached) → o ≡ all_followed m ps fs → (b : Bool) (P : Reached → Type 0) → ((s : Reached) → P s → b ≡ eqb s.at (length m)) → MatchOption o (b ≡ false) P → b ≡ is_cutting_lem m ps fs
  by_end fs None e b P ends w = w ∙ ap (is_whole (length m)) e ∙ all_follow fs
  by_end fs (Some s) e b P ends w = ends s w ∙ ap (is_whole (length m)) e ∙ all_follow fs
