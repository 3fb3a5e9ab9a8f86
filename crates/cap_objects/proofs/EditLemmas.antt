-- Blocks of which one is changed, split or joined to the next one.
use Rattle.std.proofs.Common.{◌≡◌, ◌<◌, ◌≤◌, ◌+◌, ◌==◌, ◌∷◌, ◌++◌, [], ℕ, zero, suc, Some, None, List, Option, inl, inr}
use Rattle.std.proofs.Common.{if◌then◌else◌, length, take, drop, get_or, set, refl, sym, ap, subst, ◌∙◌, arith}
use Rattle.std.proofs.lemmas.{Bool.{cond-false, cond-true, Decides.eqb_tells}, List.{take-append-drop, set_split}}
use Rattle.cap_objects.specs.declared.entries.{Block.Block, Entry.Entry}
use Rattle.cap_objects.specs.Blocks.{AreBlocks, AreFrom, AreSorted, AreUnder, Each, Precedes, Puts, Takes, find, find_in, or_second}
use Rattle.cap_objects.proofs.EntryLemmas.{around, each-join, each-left, each-map, each-right, find-append, sorted-join, sorted-left, sorted-right}
use Rattle.cap_objects.proofs.{BlockLemmas.{blocks-split, blocks-swapped, each-both, find_in-append, found-alike, higher-found, lower-found, none-found, block-sorted, block-from}}
use Rattle.cap_objects.proofs.CountLemmas.{drop-one, from-key, take-one, under-key}

-- a block that precedes others, if its keys do
precedes-alike : (a b : Block) (after : List Block) → b.first ≡ a.first → ((c : Block) → AreUnder c.first a.entries.items → AreUnder c.first b.entries.items)
    → Each (Precedes a) after → Each (Precedes b) after
precedes-alike a b after first under all =
    each-map (Precedes a) (Precedes b) after (λ c p. (let l = p.0 in omega (arith, l, first), under c p.1)) all

module _ (bs : List Block) (known : AreBlocks bs) (m : ℕ) (d : Block) (low : m < length bs) where
  split_at : bs ≡ take m bs ++ (get_or bs m d ∷ drop (suc m) bs)
  split_at = around bs m d low

  known_at : AreBlocks (take m bs ++ ((get_or bs m d ∷ []) ++ drop (suc m) bs))
  known_at = subst AreBlocks split_at known

  after_it : Each (Precedes (get_or bs m d)) (drop (suc m) bs)
  after_it = (blocks-split (take m bs) (get_or bs m d ∷ drop (suc m) bs) known_at).1.2

  -- another block there
  module _ (b : Block) (first : b.first ≡ (get_or bs m d).first) where
    swapped : AreSorted b.entries.items → AreFrom b.first b.entries.items → Each (Precedes b) (drop (suc m) bs) → AreBlocks (set bs m b)
    swapped sorted from after = subst AreBlocks (sym (set_split bs m b low))
        (blocks-swapped (take m bs) (get_or bs m d ∷ []) (drop (suc m) bs) known_at (b ∷ []) (sorted, from, tt, tt)
        (λ c p. ((let l = p.0.0 in omega (arith, l, first), subst (λ (n : ℕ). AreUnder n c.entries.items) (sym first) p.0.1), tt))
        (after, tt))

    -- what is found of other keys
    alike : (k : ℕ) → find k b.entries.items ≡ find k (get_or bs m d).entries.items → find_in k (set bs m b) ≡ find_in k bs
    alike k same =
        ap (find_in k) (set_split bs m b low)
        ∙ found-alike (take m bs) (get_or bs m d ∷ []) (drop (suc m) bs) known_at (b ∷ []) k (ap (λ (o : Option ℕ). or_second o None) same)
        ∙ ap (find_in k) (sym split_at)

    -- what is found of keys from its first one on
    here-found : (k : ℕ) → (get_or bs m d).first ≤ k
        → find_in k (set bs m b) ≡ or_second (find k b.entries.items) (find_in k (drop (suc m) bs))
    here-found k from =
        ap (find_in k) (set_split bs m b low) ∙ find_in-append k (take m bs) (b ∷ drop (suc m) bs)
        ∙ ap (λ (o : Option ℕ). or_second o (or_second (find k b.entries.items) (find_in k (drop (suc m) bs))))
        (none-found (find_in k (take m bs)) (λ s is. let l = lower-found bs known m d low k s is in omega (arith, l, from)))

    -- with the same entries
    pub same-blocks : b.entries.items ≡ (get_or bs m d).entries.items → AreBlocks (set bs m b)
    same-blocks items = swapped (subst AreSorted (sym items) (block-sorted bs known m d low))
        (subst (λ (n : ℕ). AreFrom n b.entries.items) (sym first)
        (subst (AreFrom (get_or bs m d).first) (sym items) (block-from bs known m d low)))
        (precedes-alike (get_or bs m d) b (drop (suc m) bs) first (λ c. subst (AreUnder c.first) (sym items)) after_it)

    pub same-found : b.entries.items ≡ (get_or bs m d).entries.items → (k : ℕ) → find_in k (set bs m b) ≡ find_in k bs
    same-found items k = alike k (ap (find k) items)

    -- with a key more, or without one
    module _ (key : ℕ) (begins : (get_or bs m d).first ≤ key) (ends : Each (λ c. key < c.first) (drop (suc m) bs)) where
      pub put-blocks : (slot : ℕ) → Puts (get_or bs m d).entries.items key slot b.entries.items → AreBlocks (set bs m b)
      put-blocks slot puts = swapped puts.sorted
          (puts.from b.first (omega (arith, begins, first)) (subst (λ (n : ℕ). AreFrom n (get_or bs m d).entries.items) (sym first) (block-from bs known m d low)))
          (each-map (λ c. Precedes (get_or bs m d) c × (key < c.first)) (Precedes b) (drop (suc m) bs)
          (λ c p. (let l = p.0.0 in omega (arith, l, first), puts.under c.first p.1 p.0.1))
          (each-both (Precedes (get_or bs m d)) (λ c. key < c.first) (drop (suc m) bs) after_it ends))

      pub put-found : (slot : ℕ) → Puts (get_or bs m d).entries.items key slot b.entries.items → (k : ℕ)
          → find_in k (set bs m b) ≡ (if k == key then Some slot else find_in k bs)
      put-found slot puts k = elim (eqb_tells k key) [
        | inl same ↦
            here-found k (omega (arith, begins, same.1))
            ∙ ap (λ (o : Option ℕ). or_second o (find_in k (drop (suc m) bs)))
            (puts.found k ∙ cond-true (k == key) (Some slot) (find k (get_or bs m d).entries.items) same.0)
            ∙ sym (cond-true (k == key) (Some slot) (find_in k bs) same.0)
        | inr unlike ↦
            alike k (puts.found k ∙ cond-false (k == key) (Some slot) (find k (get_or bs m d).entries.items) unlike.0)
            ∙ sym (cond-false (k == key) (Some slot) (find_in k bs) unlike.0)
      ]

      pub take-blocks : Takes (get_or bs m d).entries.items key b.entries.items → AreBlocks (set bs m b)
      take-blocks takes = swapped takes.sorted
          (takes.from b.first (subst (λ (n : ℕ). AreFrom n (get_or bs m d).entries.items) (sym first) (block-from bs known m d low)))
          (precedes-alike (get_or bs m d) b (drop (suc m) bs) first (λ c. takes.under c.first) after_it)

      pub take-found : Takes (get_or bs m d).entries.items key b.entries.items → (k : ℕ)
          → find_in k (set bs m b) ≡ (if k == key then None else find_in k bs)
      take-found takes k = elim (eqb_tells k key) [
        | inl same ↦
            here-found k (omega (arith, begins, same.1))
            ∙ ap (λ (o : Option ℕ). or_second o (find_in k (drop (suc m) bs)))
            (takes.found k ∙ cond-true (k == key) None (find k (get_or bs m d).entries.items) same.0)
            ∙ none-found (find_in k (drop (suc m) bs)) (λ s is. let l = higher-found bs known m d low key k s ends is in omega (arith, l, same.1))
            ∙ sym (cond-true (k == key) None (find_in k bs) same.0)
        | inr unlike ↦
            alike k (takes.found k ∙ cond-false (k == key) None (find k (get_or bs m d).entries.items) unlike.0)
            ∙ sym (cond-false (k == key) None (find_in k bs) unlike.0)
      ]

  -- two blocks in place of it
  module _ (lower upper : Block) (n : ℕ) (e : Entry) (within : n < length (get_or bs m d).entries.items) (first : lower.first ≡ (get_or bs m d).first)
      (begins : upper.first ≡ (get_or (get_or bs m d).entries.items n e).key) (items : lower.entries.items ≡ take n (get_or bs m d).entries.items)
      (items2 : upper.entries.items ≡ drop n (get_or bs m d).entries.items) where
    whole : take n (get_or bs m d).entries.items ++ drop n (get_or bs m d).entries.items ≡ (get_or bs m d).entries.items
    whole = take-append-drop n (get_or bs m d).entries.items

    sorted_whole : AreSorted (take n (get_or bs m d).entries.items ++ drop n (get_or bs m d).entries.items)
    sorted_whole = subst AreSorted (sym whole) (block-sorted bs known m d low)

    -- a fact of each of its entries
    each_first : (P : Entry → Type 0) → Each P (get_or bs m d).entries.items → Each P lower.entries.items
    each_first P all = subst (Each P) (sym items)
        (each-left P (take n (get_or bs m d).entries.items) (drop n (get_or bs m d).entries.items) (subst (Each P) (sym whole) all))

    each_second : (P : Entry → Type 0) → Each P (get_or bs m d).entries.items → Each P upper.entries.items
    each_second P all = subst (Each P) (sym items2)
        (each-right P (take n (get_or bs m d).entries.items) (drop n (get_or bs m d).entries.items) (subst (Each P) (sym whole) all))

    one_there : (P : Entry → Type 0) → Each P (get_or bs m d).entries.items → P (get_or (get_or bs m d).entries.items n e)
    one_there P all = (subst (Each P) (drop-one (get_or bs m d).entries.items n e within)
        (each-right P (take n (get_or bs m d).entries.items) (drop n (get_or bs m d).entries.items) (subst (Each P) (sym whole) all))).0

    later : lower.first ≤ upper.first
    later = let l = one_there (λ x. (get_or bs m d).first ≤ x.key) (block-from bs known m d low) in omega (arith, l, first, begins)

    first_under : AreUnder upper.first lower.entries.items
    first_under = subst (λ (j : ℕ). AreUnder j lower.entries.items) (sym begins) (subst (AreUnder (get_or (get_or bs m d).entries.items n e).key) (sym items)
        (under-key (get_or bs m d).entries.items (block-sorted bs known m d low) n e within))

    second_from : AreFrom upper.first upper.entries.items
    second_from = subst (λ (j : ℕ). AreFrom j upper.entries.items) (sym begins) (subst (AreFrom (get_or (get_or bs m d).entries.items n e).key) (sym items2)
        (from-key (get_or bs m d).entries.items (block-sorted bs known m d low) n e within))

    pub split-blocks : AreBlocks (take m bs ++ (lower ∷ upper ∷ drop (suc m) bs))
    split-blocks = blocks-swapped (take m bs) (get_or bs m d ∷ []) (drop (suc m) bs) known_at (lower ∷ upper ∷ [])
        ((
          subst AreSorted (sym items) (sorted-left (take n (get_or bs m d).entries.items) (drop n (get_or bs m d).entries.items) sorted_whole),
          subst (λ (j : ℕ). AreFrom j lower.entries.items) (sym first) (each_first (λ x. (get_or bs m d).first ≤ x.key) (block-from bs known m d low)),
          ((later, first_under), tt),
          (
            subst AreSorted (sym items2) (sorted-right (take n (get_or bs m d).entries.items) (drop n (get_or bs m d).entries.items) sorted_whole),
            second_from,
            tt,
            tt,
          ),
        ))
        (λ c p. (
          (let l = p.0.0 in omega (arith, l, first), subst (λ (j : ℕ). AreUnder j c.entries.items) (sym first) p.0.1),
          (
            (
              let l = p.0.0 in omega (arith, l, first, later),
              each-map (λ x. x.key < (get_or bs m d).first) (λ x. x.key < upper.first) c.entries.items (λ x l. omega (arith, l, first, later)) p.0.1,
            ),
            tt,
          ),
        )) (
          each-map (Precedes (get_or bs m d)) (Precedes lower) (drop (suc m) bs)
              (λ c p. (let l = p.0 in omega (arith, l, first), each_first (λ x. x.key < c.first) p.1)) after_it,
          (
            each-map (Precedes (get_or bs m d)) (Precedes upper) (drop (suc m) bs)
                (λ c p. (let l = one_there (λ x. x.key < c.first) p.1 in omega (arith, l, begins), each_second (λ x. x.key < c.first) p.1)) after_it,
            tt,
          ),
        )

    pub split-found : (k : ℕ) → find_in k (take m bs ++ (lower ∷ upper ∷ drop (suc m) bs)) ≡ find_in k bs
    split-found k =
        let assoc : (a b : Option ℕ) → or_second a (or_second b None) ≡ or_second (or_second a b) None = λ a b. elim a as (λ a. or_second a (or_second b None) ≡ or_second (or_second a b) None) [
          | None ↦ refl
          | Some s ↦ refl
        ] in
        found-alike (take m bs) (get_or bs m d ∷ []) (drop (suc m) bs) known_at (lower ∷ upper ∷ []) k
        (assoc (find k lower.entries.items) (find k upper.entries.items)
        ∙ ap (λ (o : Option ℕ). or_second o None)
        (ap (λ (l : List Entry). or_second (find k l) (find k upper.entries.items)) items
        ∙ ap (λ (l : List Entry). or_second (find k (take n (get_or bs m d).entries.items)) (find k l)) items2
        ∙ sym (find-append k (take n (get_or bs m d).entries.items) (drop n (get_or bs m d).entries.items)) ∙ ap (find k) whole))
        ∙ ap (find_in k) (sym split_at)

    -- where the two begin
    pub split-begins : (key : ℕ) → Each (λ b. b.first ≤ key) (take (m + 1) bs) → Each (λ b. key < b.first) (take m bs ++ (lower ∷ upper ∷ drop (suc m) bs)) → ⊥
    split-begins key under over =
        let suc_is : m + 1 ≡ suc m = omega arith in
        let l = (each-right (λ b. b.first ≤ key) (take m bs) (get_or bs m d ∷ [])
        (subst (Each (λ b. b.first ≤ key)) (ap (λ (j : ℕ). take j bs) suc_is ∙ take-one bs m d low) under)).0 in
        let h = (each-right (λ b. key < b.first) (take m bs) (lower ∷ upper ∷ drop (suc m) bs) over).0 in
        omega (arith, l, h, first)

  -- it and the next one in one
  module _ (more : suc m < length bs) (f : Block) (both : Block) (first : both.first ≡ (get_or bs m d).first)
      (items : both.entries.items ≡ (get_or bs m d).entries.items ++ (get_or bs (suc m) f).entries.items) where
    split_two : bs ≡ take m bs ++ (get_or bs m d ∷ get_or bs (suc m) f ∷ drop (suc (suc m)) bs)
    split_two = split_at ∙ ap (λ (l : List Block). take m bs ++ (get_or bs m d ∷ l)) (drop-one bs (suc m) f more)

    known_two : AreBlocks (take m bs ++ ((get_or bs m d ∷ get_or bs (suc m) f ∷ []) ++ drop (suc (suc m)) bs))
    known_two = subst AreBlocks split_two known

    rest : AreBlocks (get_or bs m d ∷ get_or bs (suc m) f ∷ drop (suc (suc m)) bs)
    rest = (blocks-split (take m bs) (get_or bs m d ∷ get_or bs (suc m) f ∷ drop (suc (suc m)) bs) known_two).1

    pub join-blocks : AreBlocks (take m bs ++ (both ∷ drop (suc (suc m)) bs))
    join-blocks =
        let xs = (get_or bs m d).entries.items in
        let ys = (get_or bs (suc m) f).entries.items in
        let order = rest.2.0.0 in
        blocks-swapped (take m bs) (get_or bs m d ∷ get_or bs (suc m) f ∷ []) (drop (suc (suc m)) bs) known_two (both ∷ [])
        ((
          subst AreSorted (sym items) (sorted-join xs ys (get_or bs (suc m) f).first rest.0 rest.3.0 rest.2.0.1 rest.3.1),
          subst (λ (j : ℕ). AreFrom j both.entries.items) (sym first) (subst (AreFrom (get_or bs m d).first) (sym items)
              (each-join (λ x. (get_or bs m d).first ≤ x.key) xs ys rest.1
              (each-map (λ x. (get_or bs (suc m) f).first ≤ x.key) (λ x. (get_or bs m d).first ≤ x.key) ys (λ x l. omega (arith, l, order)) rest.3.1))),
          tt,
          tt,
        ))
        (λ c p. ((let l = p.0.0 in omega (arith, l, first), subst (λ (j : ℕ). AreUnder j c.entries.items) (sym first) p.0.1), tt)) (
          each-map (λ c. Precedes (get_or bs m d) c × Precedes (get_or bs (suc m) f) c) (Precedes both) (drop (suc (suc m)) bs)
              (λ c p. (
                let l = p.0.0 in omega (arith, l, first),
                subst (AreUnder c.first) (sym items) (each-join (λ x. x.key < c.first) xs ys p.0.1 p.1.1),
              ))
              (each-both (Precedes (get_or bs m d)) (Precedes (get_or bs (suc m) f)) (drop (suc (suc m)) bs) rest.2.1 rest.3.2),
          tt,
        )

    pub join-found : (k : ℕ) → find_in k (take m bs ++ (both ∷ drop (suc (suc m)) bs)) ≡ find_in k bs
    join-found k =
        let xs = (get_or bs m d).entries.items in
        let ys = (get_or bs (suc m) f).entries.items in
        let assoc : (a b : Option ℕ) → or_second (or_second a b) None ≡ or_second a (or_second b None) = λ a b. elim a as (λ a. or_second (or_second a b) None ≡ or_second a (or_second b None)) [
          | None ↦ refl
          | Some s ↦ refl
        ] in
        found-alike (take m bs) (get_or bs m d ∷ get_or bs (suc m) f ∷ []) (drop (suc (suc m)) bs) known_two (both ∷ []) k
        (ap (λ (o : Option ℕ). or_second o None) (ap (find k) items ∙ find-append k xs ys) ∙ assoc (find k xs) (find k ys))
        ∙ ap (find_in k) (sym split_two)

-- lists in which one is set where another was inserted, or of which the next one is removed
pub split-list : {A : Type 0} (xs : List A) (m : ℕ) (lower upper : A) → m < length xs
    → set (take (suc m) xs ++ (upper ∷ drop (suc m) xs)) m lower ≡ take m xs ++ (lower ∷ upper ∷ drop (suc m) xs)
split-list [] m lower upper low = absurd (omega (arith, low))
split-list (x ∷ xs) zero lower upper low = refl
split-list (x ∷ xs) (suc m) lower upper low = ap (λ l. x ∷ l) (split-list xs m lower upper (omega (arith, low)))

pub join-list : {A : Type 0} (xs : List A) (m : ℕ) (both : A) → suc m < length xs
    → take (suc m) (set xs m both) ++ drop (suc (suc m)) (set xs m both) ≡ take m xs ++ (both ∷ drop (suc (suc m)) xs)
join-list [] m both low = absurd (omega (arith, low))
join-list (x ∷ []) zero both low = absurd (omega (arith, low))
join-list (x ∷ y ∷ xs) zero both low = refl
join-list (x ∷ xs) (suc m) both low = ap (λ l. x ∷ l) (join-list xs m both (omega (arith, low)))
