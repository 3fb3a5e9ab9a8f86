use Rattle.cap_objects.proofs.recounting.recount.Goals as goal

pub count_up_for-requires-clause-to : goal.count_up_for-requires-clause-to
count_up_for-requires-clause-to c = c.requires.to
