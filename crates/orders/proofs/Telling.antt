-- What one call makes of one key's holding, and what it tells: functions of the holding and the call alone, but for
-- refusals for table room.
use mathlib.Core.Path.{◌≡◌, refl}
use mathlib.Core.List.{List, []}
use mathlib.Core.Bool.{Bool, true, false, cond, not}
use Prim.Native.Nat.{ℕ, min, ◌≤◌, ◌<◌}
use lib.Dec.{ltb}
use lib.ListN.{length}
use borrow.Author.Tests.{lt-ltb, le-ltb}
use Rattle.numbers.specs.declared.Refusal.{Refusal}
use Rattle.numbers.specs.declared.Refusal.TheVariants.{StoreTooSmall, PayloadTooLong, OutputTooSmall}
use Rattle.numbers.specs.Numbers.{Answer, gives, refuses, number, values}
use Rattle.pushing.specs.Joining.{Since, never, since, is_kept_lem, held_of, and_new, due}
use Rattle.pushing.specs.Push.{PushAnswer, waiting, duplicated, inconsistent, missing, missing_last, single, joined, Way, refuse, duplicate, keep_at, open_at, end, join_way, answer_by}
use Rattle.pushing.proofs.Ways.{by_ends}
use Rattle.machines.specs.Story.{Machine}
use Rattle.orders.specs.Runs.{State, Push, Call, push, sweep, Reply, pushed, dropped, finished_by, refused_by, Holding, holds_nothing, after, reply_to, for_room, is_own, is_sweep, holding}

-- a way, but for the places and rows that it names
abbrev pub shape : Way → Way
shape (refuse n values) = refuse n values
shape duplicate = duplicate
shape (keep_at i) = keep_at 0
shape (open_at i row) = keep_at 0
shape (end h message) = end h message

-- whether a way is no refusal by some number: the finished bytes have no part in it
abbrev pub passes_by : (ℕ → Bool) → Way → Bool
passes_by test w = not (refused_by test (pushed (answer_by w) []))

pub passes_is : (test : ℕ → Bool) (bytes : List ℕ) (w : Way) → not (refused_by test (pushed (answer_by w) bytes)) ≡ passes_by test w
passes_is test bytes w = by_answer (answer_by w)
  where
    by_answer : (a : Answer PushAnswer) → not (refused_by test (pushed a bytes)) ≡ not (refused_by test (pushed a []))
    by_answer (gives h) = refl
    by_answer (refuses n values) = refl

abbrev pub is_waiting : PushAnswer → Bool
is_waiting waiting = true
is_waiting duplicated = false
is_waiting inconsistent = false
is_waiting missing = false
is_waiting missing_last = false
is_waiting (single n) = false
is_waiting (joined n) = false

-- a push's fragment joined with those that its key holds
abbrev pub own_joining : Holding → Push → Way
own_joining v p = join_way (held_of p.arrival.fragment p.payload) (and_new v.fragments p.arrival.fragment.number (held_of p.arrival.fragment p.payload)) p.room

-- the way of a push, from what its key holds; long is the store's length
unfoldable pub own_way : ℕ → Holding → Push → Way
own_way long v p =
    cond (ltb (min p.lent long) 47744) (refuse 11 [])
    (cond (ltb 1492 (length p.payload)) (refuse 12 [])
    (cond (is_kept_lem (v.fragments p.arrival.fragment.number)) duplicate
    (cond p.arrival.fragment.last
    (own_joining v p)
    (keep_at 0))))

module _ (long : ℕ) (v : Holding) (p : Push) where
  pub own_11 : min p.lent long < 47744 → own_way long v p ≡ refuse 11 []
  unfolding own_way
  own_11 h = rw (lt-ltb _ _ h)

  module _ (h₁ : 47744 ≤ min p.lent long) where
    pub own_12 : 1492 < length p.payload → own_way long v p ≡ refuse 12 []
    unfolding own_way
    own_12 h = rw (le-ltb _ _ h₁, lt-ltb _ _ h)

    module _ (h₂ : length p.payload ≤ 1492) where
      pub own_duplicate : is_kept_lem (v.fragments p.arrival.fragment.number) ≡ true → own_way long v p ≡ duplicate
      unfolding own_way
      own_duplicate h = rw (le-ltb _ _ h₁, le-ltb _ _ h₂, h)

      module _ (h₃ : is_kept_lem (v.fragments p.arrival.fragment.number) ≡ false) where
        pub own_last : p.arrival.fragment.last ≡ true → own_way long v p ≡ own_joining v p
        unfolding own_way
        own_last h = rw (le-ltb _ _ h₁, le-ltb _ _ h₂, h₃, h)

        pub own_keep : p.arrival.fragment.last ≡ false → own_way long v p ≡ keep_at 0
        unfolding own_way
        own_keep h = rw (le-ltb _ _ h₁, le-ltb _ _ h₂, h₃, h)

  -- the ways that it can go: no refusal is for room, and no end waits
  pub by_own_way : (P : Way → Type 0) → ((x : Refusal) → for_room (number x) ≡ false → P (refuse (number x) (values x))) → P duplicate → ((h : PushAnswer) (bytes : List ℕ) → is_waiting h ≡ false → P (end h bytes))
      → (p.arrival.fragment.last ≡ false → P (keep_at 0)) → P (own_way long v p)
  unfolding own_way
  by_own_way P r d e k = by_tests (ltb (min p.lent long) 47744) (ltb 1492 (length p.payload)) (is_kept_lem (v.fragments p.arrival.fragment.number)) p.arrival.fragment.last refl
    where
      by_tests : (w x y l : Bool) → p.arrival.fragment.last ≡ l → P (cond w (refuse 11 []) (cond x (refuse 12 []) (cond y duplicate (cond l (own_joining v p) (keep_at 0)))))
      by_tests true x y l q = r StoreTooSmall refl
      by_tests false true y l q = r PayloadTooLong refl
      by_tests false false true l q = d
      by_tests false false false true q =
          by_ends P (e inconsistent [] refl) (e missing [] refl) (e missing_last [] refl) (λ n. e (single n) [] refl) (λ n. r (OutputTooSmall n) refl) (λ bytes. e (joined (length bytes)) bytes refl)
          (held_of p.arrival.fragment p.payload) (and_new v.fragments p.arrival.fragment.number (held_of p.arrival.fragment p.payload)) p.room
      by_tests false false false false q = k q

abbrev pub since_or : Since → ℕ → Since
since_or never time = since time
since_or (since first) time = since first

abbrev pub with_new : Holding → Push → Holding
with_new v p = record { first = since_or v.first p.arrival.time; fragments = and_new v.fragments p.arrival.fragment.number (held_of p.arrival.fragment p.payload) }

abbrev pub by_own_lem : Way → Holding → Push → Holding
by_own_lem (refuse n values) v p = v
by_own_lem duplicate v p = v
by_own_lem (keep_at i) v p = with_new v p
by_own_lem (open_at i row) v p = with_new v p
by_own_lem (end h message) v p = holds_nothing

-- a sweep drops a holding whose time has come
abbrev pub tell : ℕ → Holding → Call → Holding
tell long v (push p) = by_own_lem (own_way long v p) v p
tell long v (sweep time) = cond (due time v.first) holds_nothing v

-- the number of a sweep is not one key's to tell
abbrev pub answer : ℕ → Holding → Call → Reply
answer long v (push p) = pushed (answer_by (own_way long v p)) (finished_by (own_way long v p) p.payload)
answer long v (sweep time) = dropped 0

-- the table as a machine that acts key by key
abbrev pub acts : ℕ → Machine State Call Reply Holding
acts long = record { step = after; says = reply_to; view = holding; own = is_own; common = is_sweep; tell = tell long; answer = answer long }
