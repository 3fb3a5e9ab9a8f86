use Rattle.std.proofs.Common.{◌≡◌, ◌≤◌, ◌∙◌, OnOk, refl, subst, sym, vec_capacity}
use Rattle.tagmem.specs.declared.page_store.PageStore.{PageStore}
use Rattle.tagmem.proofs.page_store.PageStore.make_room.Goals.{After-reserve-else-is_ok-2, Then-is_ok-2, then-many-capacity}
use Rattle.tagmem.proofs.page_store.PageStore.make_room.Goals.{else-many-capacity, then-is_ok, else-is_ok}
use Rattle.tagmem.proofs.page_store.PageStore.make_room.Goals as goal

pub returns-else-is_ok-2-clause-room : goal.returns-else-is_ok-2-clause-room
returns-else-is_ok-2-clause-room c =
    let last = c.reserve-else-is_ok-2 in
    subst (λ many. OnOk last.result (many ≤ vec_capacity last.new.self.blocks)) c.in-Some.ensures last.ensures.room

pub returns-then-there-clause-only_new : goal.returns-then-there-clause-only_new
returns-then-there-clause-only_new c = tt

-- the blocks, the directory and the count stay
abbrev Same : PageStore → PageStore → Type 0
Same old new = (new.blocks.items ≡ old.blocks.items) × (new.directory ≡ old.directory) × (new.count ≡ old.count)

later : (old mid new : PageStore) → Same old mid → Same mid new → Same old new
later old mid new first second = (second.0 ∙ first.0, second.1 ∙ first.1, second.2 ∙ first.2)

kept : (c : Then-is_ok-2) → Same c.args.self.now c.if-is_ok.self
kept c =
    let old = c.args.self.now in
    let mid = c.if-many-capacity.self in
    let first : Same old mid = elim c.if-many-capacity.branch [
      | then-many-capacity w ↦ subst (Same old) (sym w.self-is) (refl, refl, refl)
      | else-many-capacity w ↦ let r = w.reserve.ensures in subst (Same old) (sym w.self-is) (r.blocks, r.directory, r.count)
    ] in
    elim c.if-is_ok.branch [
      | then-is_ok w ↦ subst (Same old) (sym w.self-is) first
      | else-is_ok w ↦
          let r = w.reserve-else-is_ok.ensures in
          later old mid c.if-is_ok.self first (subst (Same mid) (sym w.self-is) (r.blocks, r.directory, r.count))
    ]

pub returns-then-is_ok-2-clause-blocks : goal.returns-then-is_ok-2-clause-blocks
returns-then-is_ok-2-clause-blocks c = (kept c).0

pub returns-then-is_ok-2-clause-directory : goal.returns-then-is_ok-2-clause-directory
returns-then-is_ok-2-clause-directory c = (kept c).1

pub returns-then-is_ok-2-clause-count : goal.returns-then-is_ok-2-clause-count
returns-then-is_ok-2-clause-count c = (kept c).2

kept_before : (c : After-reserve-else-is_ok-2) → Same c.args.self.now c.if-is_ok.self
kept_before c =
    let old = c.args.self.now in
    let mid = c.if-many-capacity.self in
    let first : Same old mid = elim c.if-many-capacity.branch [
      | then-many-capacity w ↦ subst (Same old) (sym w.self-is) (refl, refl, refl)
      | else-many-capacity w ↦ let r = w.reserve.ensures in subst (Same old) (sym w.self-is) (r.blocks, r.directory, r.count)
    ] in
    elim c.if-is_ok.branch [
      | then-is_ok w ↦ subst (Same old) (sym w.self-is) first
      | else-is_ok w ↦
          let r = w.reserve-else-is_ok.ensures in
          later old mid c.if-is_ok.self first (subst (Same mid) (sym w.self-is) (r.blocks, r.directory, r.count))
    ]

pub returns-else-is_ok-2-clause-blocks : goal.returns-else-is_ok-2-clause-blocks
returns-else-is_ok-2-clause-blocks c = c.reserve-else-is_ok-2.ensures.blocks ∙ (kept_before c).0

pub returns-else-is_ok-2-clause-directory : goal.returns-else-is_ok-2-clause-directory
returns-else-is_ok-2-clause-directory c = c.reserve-else-is_ok-2.ensures.directory ∙ (kept_before c).1

pub returns-else-is_ok-2-clause-count : goal.returns-else-is_ok-2-clause-count
returns-else-is_ok-2-clause-count c = c.reserve-else-is_ok-2.ensures.count ∙ (kept_before c).2
