use Rattle.cap_objects.proofs.SharingLemmas.{meets-shares}
use Rattle.cap_objects.proofs.laws.meeting_is_sharing.Goals as goal

pub returns : goal.returns
returns c = record { law = meets-shares }
