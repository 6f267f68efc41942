-- The claims of specs/Claims.antt, proved.
use Rattle.orders.specs.Claims.{Claims}
use Rattle.orders.proofs.Alone.{fresh_holds}
use Rattle.orders.proofs.Unfinished.{kept_as_pushed, dropped_unfinished, held_from}
use Rattle.orders.proofs.Orders.{local, sweep_drops, alike, shares_add_up, run_made, told_alone, sweeps_add_up, order_across_keys, swapped}
use Rattle.orders.proofs.Answering.{own_run}
use Rattle.orders.proofs.Happened.{finished_shown, is_run, order_across_senders, sender_alone, numbers_add_up, order_together, duplicate_untouched, totals_in_step, room_for_others}
use Rattle.orders.proofs.Completes.{completes, fresh_completes, completes_among}

pub claims : Claims
claims = record {
  local = local;
  alike = alike;
  shares_add_up = shares_add_up;
  finished_shown = finished_shown;
  run_made = run_made;
  told_alone = told_alone;
  sweeps_add_up = sweeps_add_up;
  order_across_keys = order_across_keys;
  swapped = swapped;
  order_together = order_together;
  is_run = is_run;
  order_across_senders = order_across_senders;
  own_run = own_run;
  sender_alone = sender_alone;
  numbers_add_up = numbers_add_up;
  totals_in_step = totals_in_step;
  room_for_others = room_for_others;
  duplicate_untouched = duplicate_untouched;
  kept_as_pushed = kept_as_pushed;
  sweep_drops = sweep_drops;
  dropped_unfinished = dropped_unfinished;
  held_from = held_from;
  completes = completes;
  fresh_completes = fresh_completes;
  completes_among = completes_among;
  fresh_holds = fresh_holds;
}
