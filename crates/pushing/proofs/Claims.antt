-- The claims of specs/Claims.antt, proved.
use mathlib.Core.Path.{◌≡◌, sym, ap, ◌∙◌}
use mathlib.Core.List.{List, []}
use Prim.Native.Nat.{ℕ}
use lib.ListN.{length}
use Rattle.std.specs.Prelude.{Result}
use Rattle.numbers.specs.Numbers.{refuses, number, values}
use Rattle.numbers.specs.declared.Refusal.{Refusal}
use Rattle.numbers.proofs.Firm.{never}
use Rattle.table.specs.declared.Table.{Table}
use Rattle.pushing.specs.declared.Arrival.{Arrival}
use Rattle.pushing.specs.declared.Pushed.{Pushed}
use Rattle.pushing.specs.Push.{waiting, duplicated, Way, refuse, duplicate, keep_at, open_at, end, way, table_by, store_by, output_by, answer_by, Goes}
use Rattle.pushing.specs.Claims.{Claims, Firmness, RoomForFew, DuplicateUntouched, RefusalUntouched}
use Rattle.pushing.proofs.Firm.{one_answer}
use Rattle.pushing.proofs.Sound.{sound}
use Rattle.pushing.proofs.InStep.{good, not_full}
use Rattle.pushing.proofs.Calls.{fresh_made, push_made, sweep_made}
use Rattle.pushing.proofs.Ways.{is_duplicated, is_duplicate, shown_same}
use Rattle.pushing.proofs.Apart.{push_untouched}

firmness : Firmness
firmness = record {
  push_in_place = λ t store out a payload r q x y. λ i. (
    one_answer r.0 q.0 (x.answers ∙ sym y.answers) i,
    (x.keeps ∙ sym y.keeps) i,
    (x.stores ∙ sym y.stores) i,
    (x.puts ∙ sym y.puts) i,
  );
  push_step = λ t store out a payload r q x y. λ i. (
    record { table = (x.keeps ∙ sym y.keeps) i; answer = one_answer r.0.answer q.0.answer (x.answers ∙ sym y.answers) i },
    (x.stores ∙ sym y.stores) i,
    (x.puts ∙ sym y.puts) i,
  );
}

-- what a call leaves, by a way that is known
module _ {w : Way} {t : Table} {store out : List ℕ} {a : Arrival} {payload : List ℕ} {answer' : Result Pushed Refusal} {t' : Table} {store' out' : List ℕ} where
  left_by : (v : Way) → w ≡ v → Goes w t store out a payload answer' t' store' out' → (t' ≡ table_by v t a (length payload)) × (store' ≡ store_by v store payload) × (out' ≡ output_by v out)
  left_by v is goes = (goes.keeps ∙ ap (λ (u : Way). table_by u t a (length payload)) is, goes.stores ∙ ap (λ (u : Way). store_by u store payload) is, goes.puts ∙ ap (λ (u : Way). output_by u out) is)

duplicate_untouched : DuplicateUntouched
duplicate_untouched t store out a payload t' store' out' goes = left_by duplicate (is_duplicate t store a payload (length out) (ap is_duplicated (sym goes.answers))) goes

-- no other way is answered as a refusal is
refused_by_lem : (w : Way) (n : ℕ) (vs : List ℕ) → refuses n vs ≡ answer_by w → w ≡ refuse n vs
refused_by_lem (refuse m us) n vs e = cc
refused_by_lem duplicate n vs e = never duplicated n vs (sym e)
refused_by_lem (keep_at i) n vs e = never waiting n vs (sym e)
refused_by_lem (open_at i row) n vs e = never waiting n vs (sym e)
refused_by_lem (end h bytes) n vs e = never h n vs (sym e)

refusal_untouched : RefusalUntouched
refusal_untouched t store out a payload refusal t' store' out' goes = left_by (refuse (number refusal) (values refusal)) (refused_by_lem (way t store a payload (length out)) (number refusal) (values refusal) goes.answers) goes

room_for_few : RoomForFew
room_for_few t store out a payload t' store' out' made others few only goes =
    not_full t made store a payload (length out) others few only (refused_by_lem (way t store a payload (length out)) 10 [] goes.answers)

pub claims : Claims
claims = record {
  firmness = firmness;
  fresh_made = fresh_made;
  push_made = push_made;
  sweep_made = sweep_made;
  made_sound = λ t made. sound made;
  made_in_step = λ t made. (good made).0;
  made_within_shares = λ t made. (good made).1;
  room_for_few = room_for_few;
  push_untouched = push_untouched;
  duplicate_untouched = duplicate_untouched;
  refusal_untouched = refusal_untouched;
  shown_same = shown_same;
}
