use Rattle.cap_objects.specs.HandoutsIn.{objects_of}
use Rattle.cap_objects.proofs.RecountLemmas.{recounted-twice}
use Rattle.cap_objects.proofs.recounting.recount_both.Goals as goal

pub returns-clause-rest : goal.returns-clause-rest
returns-clause-rest c =
    let one = objects_of c.count_up_for.new.objects in
    let two = objects_of c.count_up_for-2.new.objects in
    let three = objects_of c.count_down_for.new.objects in
    let old = objects_of c.args.objects.now in
    let new = objects_of c.count_down_for-2.new.objects in
    recounted-twice old three new
    (recounted-twice old two three (recounted-twice old one two c.count_up_for.ensures.rest c.count_up_for-2.ensures.rest) c.count_down_for.ensures.rest)
    c.count_down_for-2.ensures.rest
