-- The claims of specs/Claims.antt, proved.
use Rattle.machines.specs.Claims.{Claims}
use Rattle.machines.proofs.Lists.{those_append, those_both, every_remains, every_gathered}
use Rattle.machines.proofs.Story.{good_run, alone, gathered_alone}
use Rattle.machines.proofs.TwoRuns.{alike_view, alike_gathered, all_pass, projected_view, projected_gathered}
use Rattle.machines.proofs.Happened as H
use Rattle.machines.proofs.Both.{of_left, of_right}

pub claims : Claims
claims = record {
  lists = record {
    those_append = those_append;
    those_both = those_both;
    every_remains = every_remains;
    every_gathered = λ step test own says es s h. every_gathered step test own says es s h;
  };
  story_alone = λ m passes Good L c es s g. record { good = good_run m passes Good L es s g; seen = alone m passes Good L c es s g; answered = gathered_alone m passes Good L c es s g };
  stories_alike = λ m passes Good L c es fs s s' g g' v h. record { seen = alike_view m passes Good L c es fs s s' g g' v h; answered = alike_gathered m passes Good L c es fs s s' g g' v h };
  given_alone = λ m passes Good L c Lone K es s s' g g' l v. record {
    all_pass = all_pass m passes Good L c Lone K es s s' g g' l v;
    seen = projected_view m passes Good L c Lone K es s s' g g' l v;
    answered = projected_gathered m passes Good L c Lone K es s s' g g' l v;
  };
  happened_run = λ contract step says asks reply tied s s' os h test passes agree. record {
    ends_at = H.ends_at contract step says asks reply tied h;
    remains = H.remains contract step says asks reply tied test passes agree h;
    gathers = H.gathers contract step says asks reply tied test passes agree h;
    all_pass = H.all_pass contract step says asks reply tied test passes agree h;
  };
  each_alone = λ contract contract' z z' os h. (of_left contract contract' h, of_right contract contract' h);
}
