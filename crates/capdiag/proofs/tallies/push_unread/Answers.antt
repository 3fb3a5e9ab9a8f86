use Rattle.std.proofs.Common.{◌≡◌, ◌∙◌, ◌++◌, [], List, ℕ, ap, append_assoc, codes, decimal, nat_lt, sym, true, arith}
use Rattle.std.proofs.lemmas.Bool.{cond-true, Decides.nat_tests}
use Rattle.capdiag.specs.Tallies.{unread_text}
use Rattle.capdiag.proofs.tallies.push_unread.Goals as goal

pub returns-in_ok-extend_from_slice-2 : goal.returns-in_ok-extend_from_slice-2
returns-in_ok-extend_from_slice-2 c =
    let count = c.args.count in
    let before = c.args.text.now.items in
    let some : nat_lt 0 count ≡ true = grind (arith, nat_tests) in
    let text : unread_text count ≡ codes "; " ++ decimal count ++ codes " not opened" = cond-true (nat_lt 0 count) _ [] some in
    record {
      ok = c.in_ok-extend_from_slice-2.ensures.items
          ∙ ap (λ (t : List ℕ). t ++ codes " not opened") (c.in_ok-push_number.ensures.ok
          ∙ ap (λ (t : List ℕ). t ++ decimal count) c.in_ok-extend_from_slice.ensures.items)
          ∙ append_assoc (before ++ codes "; ") (decimal count) (codes " not opened")
          ∙ append_assoc before (codes "; ") (decimal count ++ codes " not opened")
          ∙ ap (λ (t : List ℕ). before ++ t) (sym text);
    }
