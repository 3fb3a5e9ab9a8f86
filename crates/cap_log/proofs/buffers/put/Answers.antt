use Rattle.std.proofs.Common.{◌≡◌, ℕ, List, ◌++◌, length, take, refl, ap, ◌∙◌, arith}
use Rattle.std.proofs.lemmas.Slice.{take-put_mid, drop-put_mid}
use Rattle.cap_log.proofs.buffers.put.Goals as goal

pub returns : goal.returns
returns c =
    let old = c.args.buffer.now in
    let part = c.copy_from_slice.new.self in
    let is = c.copy_from_slice.ensures.after in
    let long : length part ≡ length c.args.text.now = ap length is in
    record {
      written = record {
        ends = refl;
        written =
            take-put_mid c.args.at _ old part _ (omega (arith, long)) (omega arith)
            ∙ ap (λ (bs : List ℕ). take c.args.at old ++ bs) is;
        rest = λ k above. drop-put_mid c.args.at _ old part k (omega arith) (omega arith) (omega (arith, long));
      };
    }
