-- Blocks in the order of their keys.
use Rattle.std.proofs.Common.{◌≡◌, ◌<◌, ◌≤◌, ◌+◌, ◌-◌, ◌∷◌, ◌++◌, [], ℕ, suc, Some, None, List, Option, inl, inr}
use Rattle.std.proofs.Common.{length, take, drop, get_or, refl, sym, ap, subst, ◌∙◌, arith}
use Rattle.std.proofs.lemmas.{Bool.{Decides.eqb_tells}, List.{take-append-drop}, Option.{none-some}}
use Rattle.cap_objects.specs.declared.entries.{Block.Block}
use Rattle.cap_objects.specs.Blocks.{AreBlocks, AreFrom, AreSorted, AreUnder, Each, Precedes, find, find_in, or_second}
use Rattle.cap_objects.specs.Indexes.{IsFirstFrom, IsLastAtOrBelow}
use Rattle.cap_objects.proofs.{EntryLemmas.{around, each-join, each-left, each-map, each-right, find-each}, CountLemmas.{drop-none, drop-one, take-one}}

-- a block alone
abbrev pub IsBlock : Block → Type 0
IsBlock b = AreSorted b.entries.items × AreFrom b.first b.entries.items

pub each-swap : {A B : Type 0} (R : A → B → Type 0) (xs : List A) (ys : List B) → Each (λ x. Each (λ y. R x y) ys) xs → Each (λ y. Each (λ x. R x y) xs) ys
each-swap R xs [] all = tt
each-swap R xs (y ∷ ys) all = (
  each-map (λ x. R x y × Each (λ z. R x z) ys) (λ x. R x y) xs (λ x p. p.0) all,
  each-swap R xs ys (each-map (λ x. R x y × Each (λ z. R x z) ys) (λ x. Each (λ z. R x z) ys) xs (λ x p. p.1) all),
)

pub blocks-join : (xs ys : List Block) → AreBlocks xs → AreBlocks ys → Each (λ x. Each (Precedes x) ys) xs → AreBlocks (xs ++ ys)
blocks-join [] ys bx by cross = by
blocks-join (x ∷ xs) ys bx by cross =
    (bx.0, bx.1, each-join (Precedes x) xs ys bx.2 cross.0, blocks-join xs ys bx.3 by cross.1)

pub blocks-split : (xs ys : List Block) → AreBlocks (xs ++ ys) → AreBlocks xs × AreBlocks ys × Each (λ x. Each (Precedes x) ys) xs
blocks-split [] ys b = (tt, b, tt)
blocks-split (x ∷ xs) ys b =
    let rest = blocks-split xs ys b.3 in
    ((b.0, b.1, each-left (Precedes x) xs ys b.2, rest.0), rest.1, (each-right (Precedes x) xs ys b.2, rest.2))

pub find_in-append : (k : ℕ) (xs ys : List Block) → find_in k (xs ++ ys) ≡ or_second (find_in k xs) (find_in k ys)
find_in-append k [] ys = refl
find_in-append k (x ∷ xs) ys =
    let assoc : (a b c : Option ℕ) → or_second a (or_second b c) ≡ or_second (or_second a b) c = λ a b c. elim a as (λ a. or_second a (or_second b c) ≡ or_second (or_second a b) c) [
      | None ↦ refl
      | Some s ↦ refl
    ] in
    ap (or_second (find k x.entries.items)) (find_in-append k xs ys) ∙ assoc (find k x.entries.items) (find_in k xs) (find_in k ys)

-- some blocks in place of others
module _ (before middle after : List Block) (known : AreBlocks (before ++ (middle ++ after))) where
  three : AreBlocks before × AreBlocks middle × AreBlocks after × Each (λ c. Each (Precedes c) middle) before
      × Each (λ c. Each (Precedes c) after) before × Each (λ m. Each (Precedes m) after) middle
  three =
      let one = blocks-split before (middle ++ after) known in
      let two = blocks-split middle after one.1 in (
        one.0,
        two.0,
        two.1,
        each-map (λ c. Each (Precedes c) (middle ++ after)) (λ c. Each (Precedes c) middle) before (λ c p. each-left (Precedes c) middle after p) one.2,
        each-map (λ c. Each (Precedes c) (middle ++ after)) (λ c. Each (Precedes c) after) before (λ c p. each-right (Precedes c) middle after p) one.2,
        two.2,
      )

  pub blocks-swapped : (other : List Block) → AreBlocks other → ((c : Block) → Each (Precedes c) middle → Each (Precedes c) other)
      → Each (λ m. Each (Precedes m) after) other → AreBlocks (before ++ (other ++ after))
  blocks-swapped other bo lower higher =
      let t = three in
      blocks-join before (other ++ after) t.0 (blocks-join other after bo t.2 higher)
      (each-map (λ c. Each (Precedes c) (middle ++ after)) (λ c. Each (Precedes c) (other ++ after)) before
      (λ c p. each-join (Precedes c) other after (lower c (each-left (Precedes c) middle after p)) (each-right (Precedes c) middle after p))
      (blocks-split before (middle ++ after) known).2)

  -- the same slots are found
  pub found-alike : (other : List Block) (k : ℕ) → find_in k other ≡ find_in k middle → find_in k (before ++ (other ++ after)) ≡ find_in k (before ++ (middle ++ after))
  found-alike other k same =
      find_in-append k before (other ++ after)
      ∙ ap (or_second (find_in k before)) (find_in-append k other after ∙ ap (λ (o : Option ℕ). or_second o (find_in k after)) same ∙ sym (find_in-append k middle after))
      ∙ sym (find_in-append k before (middle ++ after))

-- what is found where keys have bounds
pub found-each : (P : Block → Type 0) (Q : ℕ → Type 0) → ((b : Block) (k s : ℕ) → P b → find k b.entries.items ≡ Some s → Q k)
    → (k : ℕ) (bs : List Block) (s : ℕ) → Each P bs → find_in k bs ≡ Some s → Q k
found-each P Q told k [] s all is = absurd (none-some s is)
found-each P Q told k (b ∷ bs) s all is =
    let cases : (o : Option ℕ) → find k b.entries.items ≡ o → Q k = λ o. elim o as (λ o. find k b.entries.items ≡ o → Q k) [
      | None ↦ λ none. found-each P Q told k bs s all.1 (sym (ap (λ (x : Option ℕ). or_second x (find_in k bs)) none) ∙ is)
      | Some t ↦ λ here. told b k t all.0 here
    ] in
    cases (find k b.entries.items) refl

-- not found, if it can't be
pub none-found : (o : Option ℕ) → ((s : ℕ) → o ≡ Some s → ⊥) → o ≡ None
none-found None never = refl
none-found (Some s) never = absurd (never s refl)

under-found : (n : ℕ) (b : Block) (k s : ℕ) → AreUnder n b.entries.items → find k b.entries.items ≡ Some s → k < n
under-found n b k s under is =
    let e = find-each (λ e. e.key < n) k b.entries.items s under is in
    omega (arith, e.1, e.2)

pub from-found : (n : ℕ) (b : Block) (k s : ℕ) → AreFrom n b.entries.items → find k b.entries.items ≡ Some s → n ≤ k
from-found n b k s from is =
    let e = find-each (λ e. n ≤ e.key) k b.entries.items s from is in
    omega (arith, e.1, e.2)

-- each block is one alone
pub each-block : (bs : List Block) → AreBlocks bs → Each IsBlock bs
each-block [] known = tt
each-block (b ∷ bs) known = ((known.0, known.1), each-block bs known.3)

pub each-both : {A : Type 0} (P Q : A → Type 0) (xs : List A) → Each P xs → Each Q xs → Each (λ x. P x × Q x) xs
each-both P Q [] p q = tt
each-both P Q (x ∷ xs) p q = ((p.0, q.0), each-both P Q xs p.1 q.1)

-- around the block at a place
module _ (bs : List Block) (known : AreBlocks bs) (m : ℕ) (d : Block) (low : m < length bs) where
  split : bs ≡ take m bs ++ get_or bs m d ∷ drop (suc m) bs
  split = around bs m d low

  sides : AreBlocks (take m bs) × AreBlocks (get_or bs m d ∷ drop (suc m) bs) × Each (λ x. Each (Precedes x) (get_or bs m d ∷ drop (suc m) bs)) (take m bs)
  sides = blocks-split (take m bs) (get_or bs m d ∷ drop (suc m) bs) (subst AreBlocks split known)

  pub block-sorted : AreSorted (get_or bs m d).entries.items
  block-sorted = sides.1.0

  pub block-from : AreFrom (get_or bs m d).first (get_or bs m d).entries.items
  block-from = sides.1.1

  lower : Each (λ x. Precedes x (get_or bs m d)) (take m bs)
  lower = each-map (λ x. Each (Precedes x) (get_or bs m d ∷ drop (suc m) bs)) (λ x. Precedes x (get_or bs m d)) (take m bs) (λ x p. p.0) sides.2

  higher : Each (Precedes (get_or bs m d)) (drop (suc m) bs)
  higher = sides.1.2

  -- what is found in lower blocks and in higher ones
  pub lower-found : (k s : ℕ) → find_in k (take m bs) ≡ Some s → k < (get_or bs m d).first
  lower-found k s is = found-each (λ x. Precedes x (get_or bs m d)) (λ n. n < (get_or bs m d).first)
      (λ b n t p at. under-found (get_or bs m d).first b n t p.1 at) k (take m bs) s lower is

  pub higher-found : (n k s : ℕ) → Each (λ c. n < c.first) (drop (suc m) bs) → find_in k (drop (suc m) bs) ≡ Some s → n < k
  higher-found n k s above is = found-each (λ c. IsBlock c × (n < c.first)) (λ j. n < j)
      (λ b j t p at. let f = from-found b.first b j t p.0.1 at in omega (arith, f, p.1)) k (drop (suc m) bs) s
      (each-both IsBlock (λ c. n < c.first) (drop (suc m) bs) (each-block (drop (suc m) bs) sides.1.3) above) is

  -- where a key is found
  pub found-around : (k : ℕ) → find_in k bs ≡ or_second (find_in k (take m bs)) (or_second (find k (get_or bs m d).entries.items) (find_in k (drop (suc m) bs)))
  found-around k = ap (find_in k) split ∙ find_in-append k (take m bs) (get_or bs m d ∷ drop (suc m) bs)

  pub found-here : (k : ℕ) → (get_or bs m d).first ≤ k → find_in k bs ≡ or_second (find k (get_or bs m d).entries.items) (find_in k (drop (suc m) bs))
  found-here k from =
      found-around k
      ∙ ap (λ (o : Option ℕ). or_second o (or_second (find k (get_or bs m d).entries.items) (find_in k (drop (suc m) bs))))
      (none-found (find_in k (take m bs)) (λ s is. let l = lower-found k s is in omega (arith, l, from)))

  -- firsts in order
  pub low-firsts : (key : ℕ) → (get_or bs m d).first ≤ key → Each (λ b. b.first ≤ key) (take (m + 1) bs)
  low-firsts key is =
      let suc_is : suc m ≡ m + 1 = omega arith in
      subst (λ (n : ℕ). Each (λ b. b.first ≤ key) (take n bs)) suc_is
      (subst (Each (λ b. b.first ≤ key)) (sym (take-one bs m d low))
      (each-join (λ b. b.first ≤ key) (take m bs) (get_or bs m d ∷ [])
      (each-map (λ x. Precedes x (get_or bs m d)) (λ b. b.first ≤ key) (take m bs) (λ b p. let l = p.0 in omega (arith, l, is)) lower) (is, tt)))

  pub high-firsts : (key : ℕ) → key < (get_or bs m d).first → Each (λ b. key < b.first) (drop m bs)
  high-firsts key is = subst (Each (λ b. key < b.first)) (sym (drop-one bs m d low))
      (is, each-map (Precedes (get_or bs m d)) (λ b. key < b.first) (drop (suc m) bs) (λ b p. let l = p.0 in omega (arith, l, is)) higher)

  -- the last entry at or below a number is in this block
  pub last-in : (key k s : ℕ) → IsLastAtOrBelow (λ j. find j (get_or bs m d).entries.items) key (Some (k, s))
      → ((j t : ℕ) → j ≤ key → find_in j (drop (suc m) bs) ≡ Some t → ⊥) → IsLastAtOrBelow (λ j. find_in j bs) key (Some (k, s))
  last-in key k s last none =
      let from = from-found (get_or bs m d).first (get_or bs m d) k s block-from last.1 in (
        last.0,
        found-here k from ∙ ap (λ (o : Option ℕ). or_second o (find_in k (drop (suc m) bs))) last.1,
        λ j value below there.
            let is = sym (found-around j) ∙ there in
            let second : (o : Option ℕ) → find j (get_or bs m d).entries.items ≡ o → find_in j (take m bs) ≡ None → j ≤ k = λ o. elim o as (λ o. find j (get_or bs m d).entries.items ≡ o → find_in j (take m bs) ≡ None → j ≤ k) [
              | None ↦ λ not_here not_low. absurd (none j value below
                  (sym (ap (λ (o : Option ℕ). or_second o (or_second (find j (get_or bs m d).entries.items) (find_in j (drop (suc m) bs)))) not_low
                  ∙ ap (λ (o : Option ℕ). or_second o (find_in j (drop (suc m) bs))) not_here) ∙ is))
              | Some t ↦ λ at not_low. last.2 j t below at
            ] in
            let first : (o : Option ℕ) → find_in j (take m bs) ≡ o → j ≤ k = λ o. elim o as (λ o. find_in j (take m bs) ≡ o → j ≤ k) [
              | None ↦ λ not_low. second (find j (get_or bs m d).entries.items) refl not_low
              | Some t ↦ λ at. let l = lower-found j t at in omega (arith, l, from)
            ] in
            first (find_in j (take m bs)) refl,
      )

  pub none-in : (key : ℕ) → IsLastAtOrBelow (λ j. find j (get_or bs m d).entries.items) key None
      → ((j t : ℕ) → j ≤ key → find_in j (drop (suc m) bs) ≡ Some t → ⊥) → (j t : ℕ) → j ≤ key → find_in j (drop m bs) ≡ Some t → ⊥
  none-in key last none j t below is =
      none j t below (sym (ap (find_in j) (drop-one bs m d low)
      ∙ ap (λ (o : Option ℕ). or_second o (find_in j (drop (suc m) bs))) (last j below)) ∙ is)

  -- the first entry from a number on is in this block
  pub first-in : (key k s : ℕ) → IsFirstFrom (λ j. find j (get_or bs m d).entries.items) key (Some (k, s))
      → ((j t : ℕ) → key ≤ j → find_in j (take m bs) ≡ Some t → ⊥) → IsFirstFrom (λ j. find_in j bs) key (Some (k, s))
  first-in key k s first none =
      let e = λ (c : Block). Precedes (get_or bs m d) c in
      let above : Each (λ c. k < c.first) (drop (suc m) bs) = each-map e (λ c. k < c.first) (drop (suc m) bs)
      (λ c p. under-found c.first (get_or bs m d) k s p.1 first.1) higher in (
        first.0,
        found-around k
            ∙ ap (λ (o : Option ℕ). or_second o (or_second (find k (get_or bs m d).entries.items) (find_in k (drop (suc m) bs))))
            (none-found (find_in k (take m bs)) (λ t is. none k t first.0 is))
            ∙ ap (λ (o : Option ℕ). or_second o (find_in k (drop (suc m) bs))) first.1,
        λ j value from there.
            let is = sym (found-around j) ∙ there in
            let not_low = none-found (find_in j (take m bs)) (λ t at. none j t from at) in
            let second : (o : Option ℕ) → find j (get_or bs m d).entries.items ≡ o → k ≤ j = λ o. elim o as (λ o. find j (get_or bs m d).entries.items ≡ o → k ≤ j) [
              | None ↦ λ not_here.
                  let l = higher-found k j value above
                  (sym (ap (λ (o : Option ℕ). or_second o (or_second (find j (get_or bs m d).entries.items) (find_in j (drop (suc m) bs)))) not_low
                  ∙ ap (λ (o : Option ℕ). or_second o (find_in j (drop (suc m) bs))) not_here) ∙ is) in
                  omega (arith, l)
              | Some t ↦ λ at. first.2 j t from at
            ] in
            second (find j (get_or bs m d).entries.items) refl,
      )

  pub none-to : (key : ℕ) → IsFirstFrom (λ j. find j (get_or bs m d).entries.items) key None
      → ((j t : ℕ) → key ≤ j → find_in j (take m bs) ≡ Some t → ⊥) → (j t : ℕ) → key ≤ j → find_in j (take (m + 1) bs) ≡ Some t → ⊥
  none-to key first none j t from is =
      let suc_is : m + 1 ≡ suc m = omega arith in
      let whole = sym (ap (λ (n : ℕ). find_in j (take n bs)) suc_is ∙ ap (find_in j) (take-one bs m d low) ∙ find_in-append j (take m bs) (get_or bs m d ∷ [])) ∙ is in
      let not_low = none-found (find_in j (take m bs)) (λ s at. none j s from at) in
      let not_here = none-found (find j (get_or bs m d).entries.items) (λ s at. first j s from at) in
      none-some t (sym (ap (λ (o : Option ℕ). or_second o (or_second (find j (get_or bs m d).entries.items) None)) not_low
      ∙ ap (λ (o : Option ℕ). or_second o None) not_here) ∙ whole)

-- where blocks begin
module _ (bs : List Block) (known : AreBlocks bs) (n key : ℕ) where
  pub none-over : Each (λ b. key < b.first) (drop n bs) → (j t : ℕ) → j ≤ key → find_in j (drop n bs) ≡ Some t → ⊥
  none-over high j t below is =
      let later = (blocks-split (take n bs) (drop n bs) (subst AreBlocks (sym (take-append-drop n bs)) known)).1 in
      let l = found-each (λ c. IsBlock c × (key < c.first)) (λ i. key < i)
      (λ b i s p at. let f = from-found b.first b i s p.0.1 at in omega (arith, f, p.1)) j (drop n bs) t
      (each-both IsBlock (λ c. key < c.first) (drop n bs) (each-block (drop n bs) later) high) is in
      omega (arith, l, below)

  -- the last of the first ones begins at or below the number
  pub last-first : (d : Block) → 0 < n → n ≤ length bs → Each (λ b. b.first ≤ key) (take n bs) → (get_or bs (n - 1) d).first ≤ key
  last-first d some within low =
      let one : n ≡ suc (n - 1) = omega (arith, some) in
      let all = subst (Each (λ b. b.first ≤ key)) (ap (λ (m : ℕ). take m bs) one ∙ take-one bs (n - 1) d (omega (arith, some, within))) low in
      (each-right (λ b. b.first ≤ key) (take (n - 1) bs) (get_or bs (n - 1) d ∷ []) all).0

  pub none-at-first : (d : Block) → n ≤ length bs → Each (λ b. b.first ≤ key) (take n bs) → (j t : ℕ) → key ≤ j → find_in j (take (n - 1) bs) ≡ Some t → ⊥
  none-at-first d within low j t from is = elim (eqb_tells n 0) [
    | inl none ↦
        let zero_is : n - 1 ≡ 0 = omega (arith, none.1) in
        none-some t (ap (λ (m : ℕ). find_in j (take m bs)) (sym zero_is) ∙ is)
    | inr more ↦
        let some : 0 < n = omega (arith, more.1) in
        let l = lower-found bs known (n - 1) d (omega (arith, some, within)) j t is in
        let f = last-first d some within low in
        omega (arith, l, f, from)
  ]

pub none-before : (bs : List Block) → AreBlocks bs → (n key : ℕ) → n ≤ length bs → Each (λ b. b.first ≤ key) (take n bs) → (j t : ℕ) → key ≤ j
    → find_in j (take (n - 1) bs) ≡ Some t → ⊥
none-before [] known n key within low j t from is =
    none-some t (sym (ap (find_in j) (drop-none [] (n - 1) (omega arith))) ∙ is)
none-before (b ∷ bs) known n key within low j t from is = none-at-first (b ∷ bs) known n key b within low j t from is
