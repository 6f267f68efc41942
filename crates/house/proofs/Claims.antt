-- The claims of specs/Claims.antt, proved.
use Rattle.house.specs.Claims.{Claims}
use Rattle.house.proofs.Firm.{firmness}
use Rattle.house.proofs.Story.{the_story}
use Rattle.house.proofs.Filtered.{filtered, own_frames}
use Rattle.house.proofs.Windows.{in_window}
use Rattle.house.proofs.TooLong.{only_swept, by_12}
use Rattle.house.proofs.Telling.{windows}

pub claims : Claims
claims = record {
  firmness = firmness;
  the_story = the_story;
  filtered = filtered;
  own_frames = own_frames;
  in_window = in_window;
  too_long = λ room z x long. record { swept_house = only_swept room z x long; refused = by_12 room z x long };
  windows = λ room z header long all. windows room header long all z;
}
