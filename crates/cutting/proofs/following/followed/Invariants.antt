-- From each fragment on they go as far as all of them do.
use Rattle.cutting.proofs.Checking.{Checking}
use Rattle.cutting.proofs.following.followed.Given as goal

abbrev pub invariant-loop-fragment : goal.invariant-loop-fragment
invariant-loop-fragment l = Checking l.lent.message.now l.fragments l.lent.payloads.now l.fragment-index l.reached
