use Rattle.std.proofs.Common.{◌≡◌, ℕ, zero, suc, ◌+◌, ◌≤◌, List, [], ◌∷◌, ◌++◌, get_or, length, replicate, take, refl, ap, ◌∙◌, arith}
use Rattle.std.proofs.Common.{Bool, Vec, Global, get_or-set_other}
use Rattle.std.specs.Bool.{if◌then◌else◌}
use Rattle.std.proofs.lemmas.List.{take_all}
use Rattle.tagmem.proofs.Blocks.{get_or-same}
use Rattle.tagmem.proofs.directory.set_root.Goals.{then-len-slot, else-len-slot}
use Rattle.tagmem.proofs.directory.set_root.Goals as goal

-- zeros after a list are what stands beyond its end
padded : (xs : List ℕ) (more i : ℕ) → get_or (xs ++ replicate more 0) i 0 ≡ get_or xs i 0
padded [] more i = get_or-same 0 more i
padded (x ∷ xs) more zero = refl
padded (x ∷ xs) more (suc i) = padded xs more i

-- so a table that is filled up has what it had
filled : (ok : Bool) (xs : List ℕ) (n more i : ℕ) → length xs ≤ n
    → get_or (if ok then take n xs ++ replicate more 0 else xs) i 0 ≡ get_or xs i 0
filled ok xs n more i le = grind (arith, take_all n xs, padded xs more i)

pub returns-clause-others : goal.returns-clause-others
returns-clause-others c = λ other differs.
    get_or-set_other c.if-len-slot.roots.items c.args.slot other c.args.link 0 differs
    ∙ elim c.if-len-slot.branch [
      | then-len-slot w ↦ ap (λ (v : Vec ℕ Global). get_or v.items other 0) w.roots-is
          ∙ ap (λ items. get_or items other 0) w.resize-made.ensures.items
          ∙ filled _ c.args.roots.now.items (c.args.slot + 1) _ other (omega (arith, c.requires.slot, w.if-len-slot.true, c.len.ensures, c.args.roots.now.ok.0))
      | else-len-slot w ↦ ap (λ (v : Vec ℕ Global). get_or v.items other 0) w.roots-is
    ]
