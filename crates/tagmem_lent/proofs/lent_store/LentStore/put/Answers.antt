use Rattle.std.proofs.{Common.{◌≡◌, ◌<◌, All, OnOk, refl, sym, subst, ◌∙◌, arith}, lemmas.List.Elements.All-from_get_or}
use Rattle.std.proofs.lemmas.Option.{none-some}
use Rattle.tagmem.{specs.{Granules.Granules, Listed.contents_of}, proofs.ListLaws.{AreStored-contents_of, len-apart}}
use Rattle.tagmem.proofs.Indexes.{OnErr-from}
use Rattle.tagmem_lent.specs.LentStores.{in_use}
use Rattle.tagmem_lent.proofs.Lent.{IsStored-written, get_slot, get_unused, insert-written, length-entries_of, no_slot}
use Rattle.tagmem_lent.proofs.Lent.{over_blank, over_slot}
use Rattle.tagmem_lent.proofs.lent_store.LentStore.put.Goals as goal

pub replace-requires-clause-stored : goal.replace-requires-clause-stored
replace-requires-clause-stored c =
    let s = c.args.self.now in
    let fits : All (λ byte. byte < 256) c.args.bytes.now = All-from_get_or (λ byte. byte < 256) c.args.bytes.now 0
    (λ i lt. (c.type_inv.bytes i).fits) in
    IsStored-written (contents_of (in_use s)) c.args.granule c.args.tag c.args.byte_index c.args.bytes.now c.args.code c.requires.coded
    c.overwrite.new.granule
    (c.overwrite.ensures.written ∙ over_slot s.used s.slots.now s.fits s.runs.apart c.args.granule c.in-Some.index _ c.in-Some.ensures.found c.args.byte_index c.args.bytes.now)
    (AreStored-contents_of (in_use s) s.runs.stored) c.requires.in_memory c.requires.inside fits (omega arith)

pub replace-requires-clause-found : goal.replace-requires-clause-found
replace-requires-clause-found c = c.in-Some.ensures.found

pub add-requires-clause-stored : goal.add-requires-clause-stored
add-requires-clause-stored c =
    let s = c.args.self.now in
    let fits : All (λ byte. byte < 256) c.args.bytes.now = All-from_get_or (λ byte. byte < 256) c.args.bytes.now 0
    (λ i lt. (c.type_inv.bytes i).fits) in
    IsStored-written (contents_of (in_use s)) c.args.granule c.args.tag c.args.byte_index c.args.bytes.now c.args.code c.requires.coded
    c.overwrite-in-None.new.granule
    (c.overwrite-in-None.ensures.written ∙ over_blank (in_use s) c.args.granule (c.in-None.ensures.absent refl) c.args.byte_index c.args.bytes.now)
    (AreStored-contents_of (in_use s) s.runs.stored) c.requires.in_memory c.requires.inside fits (omega arith)

-- a granule that is not there finds room to be counted
pub add-requires-clause-room : goal.add-requires-clause-room
add-requires-clause-room c =
    let s = c.args.self.now in
    let room = c.requires.room (get_unused (in_use s) c.args.granule (c.in-None.ensures.absent refl)) in
    omega (arith, room, len-apart (in_use s) s.runs.apart, length-entries_of s.used s.slots.now s.fits)

pub returns-in-Some-clause-ok : goal.returns-in-Some-clause-ok
returns-in-Some-clause-ok c =
    let s = c.args.self.now in
    c.replace.ensures.contents ∙ insert-written (contents_of (in_use s)) c.args.granule c.args.tag c.args.byte_index c.args.bytes.now c.args.code
    c.requires.coded c.overwrite.new.granule
    (c.overwrite.ensures.written ∙ over_slot s.used s.slots.now s.fits s.runs.apart c.args.granule c.in-Some.index _ c.in-Some.ensures.found c.args.byte_index c.args.bytes.now)

pub returns-in-None-clause-ok : goal.returns-in-None-clause-ok
returns-in-None-clause-ok c =
    let s = c.args.self.now in
    let is = insert-written (contents_of (in_use s)) c.args.granule c.args.tag c.args.byte_index c.args.bytes.now c.args.code
    c.requires.coded c.overwrite-in-None.new.granule
    (c.overwrite-in-None.ensures.written ∙ over_blank (in_use s) c.args.granule (c.in-None.ensures.absent refl) c.args.byte_index c.args.bytes.now) in
    subst (λ (m : Granules). OnOk c.add.result (contents_of (in_use c.add.new.self) ≡ m)) is c.add.ensures.ok

pub returns-in-None-clause-only_new : goal.returns-in-None-clause-only_new
returns-in-None-clause-only_new c = OnErr-from _ _ (get_unused (in_use c.args.self.now) c.args.granule (c.in-None.ensures.absent refl))

-- a granule that is there is not refused
pub returns-in-Some-clause-full : goal.returns-in-Some-clause-full
returns-in-Some-clause-full c =
    let s = c.args.self.now in
    let there = get_slot s.used s.slots.now s.fits s.runs.apart c.args.granule c.in-Some.index no_slot c.in-Some.ensures.found in
    (λ no. cc, λ is. absurd (none-some _ (sym is.0 ∙ there)))

-- each slot in use is of a granule of its own
pub returns-in-None-clause-full : goal.returns-in-None-clause-full
returns-in-None-clause-full c =
    let s = c.args.self.now in
    let many = len-apart (in_use s) s.runs.apart in (
      λ err. (get_unused (in_use s) c.args.granule (c.in-None.ensures.absent refl), many ∙ c.add.ensures.full.0 err),
      λ is. c.add.ensures.full.1 (sym many ∙ is.1),
    )
