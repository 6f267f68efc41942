-- Filtered is true (rule H6): frames that are passed over make no difference, and one key's frames are answered as they are
-- alone.
use mathlib.Core.Path.{◌≡◌, refl, sym, ap, ◌∙◌}
use mathlib.Core.Bool.{Bool, true, cond, not, ◌&&◌}
use mathlib.Core.List.{List, [], ◌∷◌, ◌++◌, append-nil, map}
use Prim.Native.Nat.{ℕ}
use lib.Dec.{eqb}
use lib.ListN.{length, take, drop}
use lib.Seq.{take-length, drop-length}
use Rattle.machines.specs.Machine.{run, gathered}
use Rattle.machines.specs.Happened.{Asks, asks_for}
use Rattle.pushing.specs.Push.{way, store_by, table_by, answer_by}
use Rattle.pushing.specs.Made.{Made, by_fresh, by_push, by_sweep}
use Rattle.pushing.proofs.Sound.{sound}
use Rattle.pushing.proofs.Ways.{went}
use Rattle.orders.specs.Runs.{State, Push, push, sweep, Reply, pushed, finished_by, part, way_of, after, reply_to, refused_by, holding, ends, replies_to_left}
use Rattle.orders.specs.Claims.{CoversRoom}
use Rattle.orders.proofs.Claims.{claims}
use Rattle.orders.proofs.Effects.{stored_long}
use Rattle.captures.specs.Claims.{Each}
use Rattle.captures.specs.Reading.{Captured, ours, other, frames_in}
use Rattle.captures.specs.HandedBack.{Arrived, arrived_in}
use Rattle.house.specs.House.{House, fresh_house, swept_for, way_in, after_arrival, brought_of}
use Rattle.house.specs.Story.{after_all, after_one, after_records, is_heard, calls_for, arrived_as, reply_in, is_own_left, replies_left}
use Rattle.house.specs.Claims.{Filtered, LendsAll, OwnFrames}

module _ (room : ℕ) (s : List ℕ) where
  same_house : (z : House) (cs : List Captured) → after_records room s z cs ≡ after_all room z (map (arrived_in s) (frames_in cs))
  unfolding run
  same_house z [] = refl
  same_house z (ours f ∷ cs) = same_house (after_arrival room z (arrived_in s f)) cs
  same_house z (other ∷ cs) = same_house z cs

  same_said : {A : Type 0} (says : House → Asks Arrived → A) (z : House) (cs : List Captured)
      → gathered (after_one room s) (λ w c. is_heard c) (λ w c. says w (brought_of s c)) z cs ≡ gathered (after_arrival room) (λ w x. true) (λ w x. says w (asks_for x)) z (map (arrived_in s) (frames_in cs))
  unfolding gathered
  same_said says z [] = refl
  same_said {A} says z (ours f ∷ cs) = ap (λ (ys : List A). says z (asks_for (arrived_in s f)) ∷ ys) (same_said says (after_arrival room z (arrived_in s f)) cs)
  same_said says z (other ∷ cs) = same_said says z cs

pub filtered : (room : ℕ) (s : List ℕ) (z : House) (cs : List Captured) → Filtered room s z cs
filtered room s z cs = record { same_house = same_house room s z cs; same_said = λ says. same_said room s says z cs }

-- the fragment table and its store alone, as orders has them
abbrev fragments_of_lem : House → State
fragments_of_lem z = record { table = z.table; store = z.store }

-- once the table is swept for a push
abbrev once_swept : House → Push → State
once_swept z p = after (fragments_of_lem z) (sweep p.arrival.time)

module _ (room : ℕ) (z : House) (p : Push) (lent : p.lent ≡ length z.store) (lends : p.room ≡ room) where
  part_is : part (once_swept z p) p ≡ z.store
  part_is = ap (λ (n : ℕ). take n z.store) lent ∙ take-length z.store

  way_is : way_of (once_swept z p) p ≡ way_in room z (arrived_as p)
  way_is = λ i. way (swept_for z (arrived_as p)) (part_is i) p.arrival p.payload (lends i)

  store_is : store_by (way_of (once_swept z p) p) (part (once_swept z p) p) p.payload ++ drop p.lent z.store ≡ store_by (way_in room z (arrived_as p)) z.store p.payload
  store_is =
      let rest : drop p.lent z.store ≡ [] = ap (λ (n : ℕ). drop n z.store) lent ∙ drop-length z.store in
      (λ i. store_by (way_is i) (part_is i) p.payload ++ rest i) ∙ append-nil (store_by (way_in room z (arrived_as p)) z.store p.payload)

  after_is : after (once_swept z p) (push p) ≡ fragments_of_lem (after_arrival room z (arrived_as p))
  after_is = λ i. record { table = table_by (way_is i) (swept_for z (arrived_as p)) p.arrival (length p.payload); store = store_is i }

  reply_is : reply_to (once_swept z p) (push p) ≡ reply_in room z (arrived_as p)
  reply_is = λ i. pushed (answer_by (way_is i)) (finished_by (way_is i) p.payload)

  made_after : Made z.table → Made (after_arrival room z (arrived_as p)).table
  made_after made = by_push (by_sweep made p.arrival.time) z.store p.arrival p.payload room p.byte

  long_after : Made z.table → length (after_arrival room z (arrived_as p)).store ≡ length z.store
  long_after made =
      let s = once_swept z p in
      ap (λ (x : State). length x.store) (sym after_is)
      ∙ stored_long s p (sound (by_sweep made p.arrival.time)) (went s.table (part s p) p.arrival p.payload p.room)

module _ (out : ℕ → Bool) (room key : ℕ) (store : List ℕ) where
  -- the house's calls are a run of the fragment table
  record AsRun (z : House) (ps : List Push) : Type 0 where
    ends_so : ends (fragments_of_lem z) (calls_for ps) ≡ fragments_of_lem (after_all room z (map arrived_as ps))
    replies_so : replies_to_left out key (fragments_of_lem z) (calls_for ps) ≡ replies_left out room key z (map arrived_as ps)

  as_run : (z : House) → Made z.table → length z.store ≡ length store → (ps : List Push) → Each (LendsAll store room) ps → AsRun z ps
  unfolding run gathered
  as_run z made long [] each = record { ends_so = refl; replies_so = refl }
  as_run z made long (p ∷ ps) each =
      let lent : p.lent ≡ length z.store = each.0.whole_store ∙ sym long in
      let lends = each.0.whole_output in
      let x = arrived_as p in
      let rest = as_run (after_arrival room z x) (made_after room z p lent lends made) (long_after room z p lent lends made ∙ long) ps each.1 in
      let step = after_is room z p lent lends in
      let reply = reply_is room z p lent lends in
      record {
        ends_so = ap (λ (s : State). ends s (calls_for ps)) step ∙ rest.ends_so;
        replies_so =
            (λ i. cond (eqb p.arrival.key key && not (refused_by out (reply i))) (reply i ∷ replies_to_left out key (step i) (calls_for ps)) (replies_to_left out key (step i) (calls_for ps)))
            ∙ ap (λ (rs : List Reply). cond (is_own_left out room key z x) (reply_in room z x ∷ rs) rs) rest.replies_so;
      }

pub own_frames : (out : ℕ → Bool) → CoversRoom out → (room key : ℕ) (store store' : List ℕ) → length store' ≡ length store → (ps : List Push) → Each (LendsAll store room) ps → OwnFrames out room key store store' ps
own_frames out covers room key store store' long ps each =
    let alone = claims.told_alone out covers store store' long key (calls_for ps) in
    let ran = as_run out room key store (fresh_house store) by_fresh refl ps each in
    record {
      replies = sym ran.replies_so ∙ alone.answers;
      holds = ap (holding key) (sym ran.ends_so) ∙ alone.holds;
    }
