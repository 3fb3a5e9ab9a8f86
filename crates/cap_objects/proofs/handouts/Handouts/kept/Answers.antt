use Rattle.cap_objects.specs.IndexIn.{at}
use Rattle.cap_objects.proofs.SharingLemmas.{present-known}
use Rattle.cap_objects.proofs.handouts.Handouts.kept.Goals as goal

pub returns : goal.returns
returns c =
    let s = c.args.self.now in
    record { kept = present-known s.keeps s.count s.slots.objects.items (at s.numbers) (at s.bases) s.kept }
