use Rattle.std.proofs.Common.{◌<◌, All, arith}
use Rattle.std.proofs.lemmas.List.Elements.{All-from_get_or}
use Rattle.tagmem.specs.{Granules.{IsStored, blank}, Listed.entry_of}
use Rattle.tagmem.proofs.ListLaws.{len-contents_of}
use Rattle.tagmem.proofs.{Granules.{IsStored-overwritten, IsStored-blank}, Indexes.{read_at, get_in_gap, OnErr-from}}
use Rattle.tagmem.proofs.list_store.ListStore.put.Goals as goal

-- the entry that is read is a granule's, and stays one
pub replace-requires-clause-stored : goal.replace-requires-clause-stored
replace-requires-clause-stored c =
    let s = c.args.self.now in
    let listed = c.index.result.now in
    let fits : All (λ byte. byte < 256) c.args.bytes.now = All-from_get_or (λ byte. byte < 256) c.args.bytes.now 0
    (λ i lt. (c.type_inv.bytes i).fits) in
    let read = read_at s.entries.items s.rising c.args.granule c.in-Ok.index c.in-Ok.ensures.found listed c.index.ensures in
    let stored : IsStored listed.granule (entry_of listed) = rw read.granule_is (s.stored c.args.granule (entry_of listed) read.entry_is) in
    rw c.overwrite.ensures.written (IsStored-overwritten listed.granule (entry_of listed)
    c.args.tag c.args.byte_index c.args.bytes.now c.args.code stored c.requires.inside fits (omega arith) c.requires.coded)

pub insert-requires-clause-stored : goal.insert-requires-clause-stored
insert-requires-clause-stored c =
    let fits : All (λ byte. byte < 256) c.args.bytes.now = All-from_get_or (λ byte. byte < 256) c.args.bytes.now 0
    (λ i lt. (c.type_inv.bytes i).fits) in
    rw c.overwrite-in-Err.ensures.written (IsStored-overwritten c.args.granule blank c.args.tag c.args.byte_index c.args.bytes.now c.args.code
    (IsStored-blank c.args.granule c.requires.in_memory) c.requires.inside fits (omega arith) c.requires.coded)

-- a granule that is not there finds room
pub insert-requires-clause-room : goal.insert-requires-clause-room
insert-requires-clause-room c =
    let s = c.args.self.now in
    let room = c.requires.room (get_in_gap s.entries.items c.args.granule c.in-Err.index c.in-Err.ensures.absent) in
    omega (arith, len-contents_of s.entries.items s.rising, s.entries.ok.0)

-- what stood in the granule is what was read
pub returns-in-Ok-clause-ok : goal.returns-in-Ok-clause-ok
returns-in-Ok-clause-ok c =
    let s = c.args.self.now in
    let read = read_at s.entries.items s.rising c.args.granule c.in-Ok.index c.in-Ok.ensures.found c.index.result.now c.index.ensures in
    grind (arith, read.entry_is, read.granule_is, c.replace.ensures, c.overwrite.ensures.written)

-- nothing stood in it, so the new bytes are over zeros
pub returns-in-Err-clause-ok : goal.returns-in-Err-clause-ok
returns-in-Err-clause-ok c =
    let new = get_in_gap c.args.self.now.entries.items c.args.granule c.in-Err.index c.in-Err.ensures.absent in
    grind (arith, new, c.insert.ensures.ok, c.overwrite-in-Err.ensures.written)

pub returns-in-Err-clause-only_new : goal.returns-in-Err-clause-only_new
returns-in-Err-clause-only_new c =
    OnErr-from _ _ (get_in_gap c.args.self.now.entries.items c.args.granule c.in-Err.index c.in-Err.ensures.absent)

pub returns-in-Ok-clause-err : goal.returns-in-Ok-clause-err
returns-in-Ok-clause-err c = tt

pub returns-in-Ok-clause-only_new : goal.returns-in-Ok-clause-only_new
returns-in-Ok-clause-only_new c = tt
