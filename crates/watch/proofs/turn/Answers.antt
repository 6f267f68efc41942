-- The window is heard, and the next one made.
use Rattle.std.proofs.Common.{◌≡◌, length, ◌∙◌, rules}
use Rattle.watch.proofs.Turning.{went_on, overran}
use Rattle.watch.proofs.turn.Goals as goal

pub returns-then-refill-gt0 : goal.returns-then-refill-gt0
returns-then-refill-gt0 g c =
    let told = c.told_window-stopped.ensures in
    let went = went_on _ _ _ _ _ _ _ _ c.requires.1 c.seen.ensures told.house told.stopped.0 c.refill.ensures in
    record { turned = went.0; made = (told.made, went.1); long = told.long }

pub returns-then-is_full : goal.returns-then-is_full
returns-then-is_full g c =
    let told = c.told_window-stopped.ensures in
    let long = c.turn_long.ensures in
    let full : length c.refill.new.self ≡ 131072 = search rules in
    let went = overran _ _ _ _ _ _ _ _ c.requires.1 c.seen.ensures told.house told.stopped.0 c.refill.ensures _ _ _ c.if-refill-gt0.false full told.long long.house long.window in
    record { turned = went.0; made = (long.made, went.1); long = long.long ∙ told.long }

pub returns : goal.returns
returns g c =
    let told = c.told_window-stopped.ensures in
    let went = went_on _ _ _ _ _ _ _ _ c.requires.1 c.seen.ensures told.house told.stopped.0 c.refill.ensures in
    record { turned = went.0; made = (told.made, went.1); long = told.long }
