use Rattle.std.proofs.Common.{◌≡◌, ◌≢◌, ◌<◌, ◌≤◌, ◌-◌, ◌++◌, ◌∷◌, [], List, length, take, drop, get_or, sym, ap, subst, ◌∙◌, rules, arith}
use Rattle.std.proofs.lemmas.List.{get_or_default}
use Rattle.cap_objects.specs.declared.entries.Entry.{Entry}
use Rattle.cap_objects.specs.Blocks.{Each, Puts}
use Rattle.cap_objects.proofs.CountLemmas.{blank, drop-none, drop-past, puts-here, puts-there}
use Rattle.cap_objects.proofs.entries.put.Goals.{else-count-gt0-via-then-count-gt0+else-index-key, else-count-gt0-via-else-count-gt0}
use Rattle.cap_objects.proofs.entries.put.Goals as goal

pub returns-then-index-key-clause-ok : goal.returns-then-index-key-clause-ok
returns-then-index-key-clause-ok c =
    let n = c.count_to-count in
    let x = c.index.result.now in
    puts-here c.args.entries.now.items c.requires (n.result - 1) x (omega (arith, n.ensures.within, c.if-count-gt0.true)) c.args.key
    (sym (ap (λ (e : Entry). e.key) c.index.ensures) ∙ omega (arith, c.if-index-key.true))
    (record { key = c.args.key; slot = c.args.slot }) (omega arith)

pub returns-in-Ok-clause-ok : goal.returns-in-Ok-clause-ok
returns-in-Ok-clause-ok c =
    let n = c.count_to-count in
    let xs = c.args.entries.now.items in
    let value = c.deref.ensures.value in
    let within : n.result ≤ length xs = subst (λ (l : List Entry). n.result ≤ length l) value n.ensures.within in
    let low = subst (λ (l : List Entry). Each (λ e. e.key ≤ c.args.key) (take n.result l)) value n.ensures.low in
    let high = subst (λ (l : List Entry). Each (λ e. c.args.key < e.key) (drop n.result l)) value n.ensures.high in
    let other : 0 < n.result → (get_or xs (n.result - 1) blank).key ≢ c.args.key =
    λ some same. elim c.else-count-gt0.branch [
      | else-count-gt0-via-then-count-gt0+else-index-key w ↦
          let here = get_or_default xs (n.result - 1) blank w.index.result.now (omega (arith, within, some)) in
          w.if-index-key.false (ap (λ (e : Entry). e.key) (w.index.ensures ∙ sym here) ∙ same)
      | else-count-gt0-via-else-count-gt0 w ↦ omega (arith, w.if-count-gt0.false, some)
    ] in
    let e : Entry = record { key = c.args.key; slot = c.args.slot } in
    let length_is = c.args.entries.now.ok.0 in
    let whole : length xs ≤ n.result = omega (arith, c.if-count-len.true, c.len.ensures, length_is) in
    let items : c.push.new.self.items ≡ xs ++ (e ∷ []) = c.push.ensures.items ∙ search rules in
    let parts : take n.result xs ++ (e ∷ drop n.result xs) ≡ xs ++ (e ∷ []) =
    ap (λ (l : List Entry). l ++ (e ∷ drop n.result xs)) (drop-none xs n.result whole) ∙ ap (λ (l : List Entry). xs ++ (e ∷ l)) (drop-past xs n.result whole) in
    subst (Puts xs c.args.key c.args.slot) (parts ∙ sym items)
    (puts-there xs c.requires n.result c.args.key blank within low high other e (omega arith))

pub returns-in-Ok-insert-clause-ok : goal.returns-in-Ok-insert-clause-ok
returns-in-Ok-insert-clause-ok c =
    let n = c.count_to-count in
    let xs = c.args.entries.now.items in
    let value = c.deref.ensures.value in
    let within : n.result ≤ length xs = subst (λ (l : List Entry). n.result ≤ length l) value n.ensures.within in
    let low = subst (λ (l : List Entry). Each (λ e. e.key ≤ c.args.key) (take n.result l)) value n.ensures.low in
    let high = subst (λ (l : List Entry). Each (λ e. c.args.key < e.key) (drop n.result l)) value n.ensures.high in
    let other : 0 < n.result → (get_or xs (n.result - 1) blank).key ≢ c.args.key =
    λ some same. elim c.else-count-gt0.branch [
      | else-count-gt0-via-then-count-gt0+else-index-key w ↦
          let here = get_or_default xs (n.result - 1) blank w.index.result.now (omega (arith, within, some)) in
          w.if-index-key.false (ap (λ (e : Entry). e.key) (w.index.ensures ∙ sym here) ∙ same)
      | else-count-gt0-via-else-count-gt0 w ↦ omega (arith, w.if-count-gt0.false, some)
    ] in
    let e : Entry = record { key = c.args.key; slot = c.args.slot } in
    let items : c.insert.new.self.items ≡ take n.result xs ++ (e ∷ drop n.result xs) = c.insert.ensures.items ∙ search rules in
    subst (Puts xs c.args.key c.args.slot) (sym items)
    (puts-there xs c.requires n.result c.args.key blank within low high other e (omega arith))
