-- For private functions alone; no contract of a public call cites this file. What the step of finding answers.
use Rattle.layouts.specs.declared.access.Found.{Found}
use Rattle.layouts.specs.Rows.{row_layout}
use Rattle.layouts.specs.Access.{Spot}

abbrev pub spot_of : Found → Spot
spot_of f = record { layout = row_layout f.row; start = f.at }
