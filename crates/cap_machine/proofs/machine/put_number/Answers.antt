use Rattle.std.proofs.{Common.{◌≤◌, ℕ, inl, inr, ap, ◌∙◌, arith, List}, lemmas.Result.on_ok_weaker}
use Rattle.cap_log.specs.Lines.{IsDataSize}
use Rattle.tagmem.specs.Granules.{with_bytes}
use Rattle.cap_machine.proofs.GranuleLemmas.{low_taken}
use Rattle.cap_machine.proofs.machine.put_number.Goals as goal

few : (size : ℕ) → IsDataSize size → size ≤ 8
few size (inl e) = omega arith
few size (inr (inl e)) = omega arith
few size (inr (inr (inl e))) = omega arith
few size (inr (inr (inr e))) = omega arith

pub returns-clause-ok : goal.returns-clause-ok
returns-clause-ok g c =
    let memory = g.M.TaggedStore.contents c.args.memory.now in
    on_ok_weaker c.put_bytes.result
    (λ put. put ∙ ap (λ (bytes : List ℕ). with_bytes memory c.args.granule c.args.byte_index bytes)
    (rw (c.bytes-size.ensures.bytes, c.size.ensures.size, c.to_le_bytes-bytes.ensures, c.value.ensures.value)
    (low_taken c.args.datum.size c.args.datum.value (few c.args.datum.size c.size.ensures.range.0))))
    c.put_bytes.ensures.ok
