-- The lines of origins, place after place.
use Rattle.std.specs.FinMap.{get}
use Rattle.std.proofs.Common.{◌≡◌, ℕ, zero, suc, ◌+◌, ◌-◌, ◌≤◌, ◌<◌, List, [], ◌∷◌, ◌++◌, take, Option, Some, None}
use Rattle.std.proofs.Common.{refl, sym, ap, subst, ◌∙◌, append-nil, append_assoc, arith, nat_lt, slice_index_or}
use Rattle.std.proofs.{Common.{unwrap_or, Result, Ok, Err, OnOk, OnErr, le-ltb}, lemmas.Bool.cond-false}
use Rattle.std.proofs.lemmas.Grind.{flat_map-append}
use Rattle.cap_log.specs.{declared.lines.Place.{Place, TheVariants.{Register, Granule}}, Lines.IsPlace}
use Rattle.cap_streams.specs.declared.sinks.PushFault.{PushFault}
use Rattle.tagmem.specs.Granules.{Entry, NonePut, IsNextPut, blank, code_at}
use Rattle.cap_machine.specs.{Helds.{Held, account_of}, Places.place_at, States.key_of}
use Rattle.cap_judge.specs.{VerdictLines.origin_line, OriginLists.{place_of, listed, origins_from, lines_from}}
use Rattle.cap_judge.specs.{OriginLists.held_lines, Origins.{Origin, origin_lines}}

-- the lines of two lists
lines_append : (a b : List Origin) → origin_lines (a ++ b) ≡ origin_lines a ++ origin_lines b
lines_append a b = flat_map-append (λ (o : Origin). origin_line o.place o.root) a b

pub place_of-key_of : (place : Place) → IsPlace place → place_of (key_of place) ≡ place
place_of-key_of (Register n) is = search (is, arith)
place_of-key_of (Granule g) is = search (arith)

pub origins_from-zero : (origins : ℕ → Option Place) (key : ℕ) → origins_from origins key 0 ≡ []
unfolding origins_from
origins_from-zero origins key = refl

pub origins_from-suc : (origins : ℕ → Option Place) (key count : ℕ)
    → origins_from origins key (suc count) ≡ listed (place_of key) (origins key) ++ origins_from origins (key + 1) count
unfolding origins_from
origins_from-suc origins key count = refl

-- one place's line
pub one_line : (origins : ℕ → Option Place) (place : Place) → IsPlace place
    → lines_from origins (key_of place) 1 ≡ origin_lines (listed place (origins (key_of place)))
one_line origins place is =
    ap origin_lines (origins_from-suc origins (key_of place) 0 ∙ ap (λ (l : List Origin). listed (place_of (key_of place))
    (origins (key_of place)) ++ l) (origins_from-zero origins (key_of place + 1))
    ∙ append-nil _ ∙ ap (λ (p : Place). listed p (origins (key_of place))) (place_of-key_of place is))

-- so many places, and so many more
origins_split : (origins : ℕ → Option Place) (key a b : ℕ)
    → origins_from origins key (a + b) ≡ origins_from origins key a ++ origins_from origins (key + a) b
origins_split origins key zero b =
    let none : 0 + b ≡ b = omega arith in
    let here : key ≡ key + 0 = omega arith in
    ap (origins_from origins key) none ∙ ap (λ (k : ℕ). origins_from origins k b) here
    ∙ sym (ap (λ (l : List Origin). l ++ origins_from origins (key + 0) b) (origins_from-zero origins key))
origins_split origins key (suc a) b =
    let sum : suc a + b ≡ suc (a + b) = omega arith in
    let behind : (key + 1) + a ≡ key + suc a = omega arith in
    let first = listed (place_of key) (origins key) in
    ap (origins_from origins key) sum ∙ origins_from-suc origins key (a + b)
    ∙ ap (λ (l : List Origin). first ++ l) (origins_split origins (key + 1) a b)
    ∙ sym (append_assoc first (origins_from origins (key + 1) a) (origins_from origins ((key + 1) + a) b))
    ∙ ap (λ (l : List Origin). l ++ origins_from origins ((key + 1) + a) b) (sym (origins_from-suc origins key a))
    ∙ ap (λ (k : ℕ). origins_from origins key (suc a) ++ origins_from origins k b) behind

pub lines_split : (origins : ℕ → Option Place) (key a b : ℕ)
    → lines_from origins key (a + b) ≡ lines_from origins key a ++ lines_from origins (key + a) b
lines_split origins key a b =
    ap origin_lines (origins_split origins key a b) ∙ lines_append (origins_from origins key a) (origins_from origins (key + a) b)

-- places without an origin have no lines
origins_none : (origins : ℕ → Option Place) (key count : ℕ) → ((k : ℕ) → key ≤ k → k < key + count → origins k ≡ None)
    → origins_from origins key count ≡ []
origins_none origins key zero none = origins_from-zero origins key
origins_none origins key (suc count) none =
    origins_from-suc origins key count
    ∙ ap (λ (o : Option Place). listed (place_of key) o ++ origins_from origins (key + 1) count) (none key (omega arith) (omega arith))
    ∙ origins_none origins (key + 1) count (λ k from until. none k (omega arith) (omega arith))

lines_skip : (origins : ℕ → Option Place) (key a b : ℕ) → a ≤ b → ((k : ℕ) → key + a ≤ k → k < key + b → origins k ≡ None)
    → lines_from origins key a ≡ lines_from origins key b
lines_skip origins key a b least none =
    let sum : b ≡ a + (b - a) = omega arith in
    sym
    (ap (lines_from origins key) sum ∙ lines_split origins key a (b - a)
    ∙ ap (λ (l : List Origin). lines_from origins key a ++ origin_lines l)
    (origins_none origins (key + a) (b - a) (λ k from until. none k from (omega arith)))
    ∙ append-nil (lines_from origins key a))

-- a granule that was not put has no origin
pub unput : (held : Held) (granule : ℕ) → get held.memory granule ≡ None → (account_of held).origin (granule + 32) ≡ None
unput held granule none =
    let back : granule + 32 - 32 ≡ granule = omega arith in
    ap place_at
    (cond-false (nat_lt (granule + 32) 32) (slice_index_or held.codes (granule + 32) 0) (code_at held.memory (granule + 32 - 32))
    (le-ltb (granule + 32) 32 (omega arith))
    ∙ ap (code_at held.memory) back ∙ ap (λ (o : Option Entry). let entry = unwrap_or o blank in entry.2) none)

-- so it has no lines
pub skip_granules : (held : Held) (a b : ℕ) → a ≤ b → NonePut held.memory a b → held_lines held 32 a ≡ held_lines held 32 b
skip_granules held a b least none =
    lines_skip (account_of held).origin 32 a b least (λ k from until.
    let same : (k - 32) + 32 ≡ k = omega arith in
    ap (account_of held).origin (sym same) ∙ unput held (k - 32) (none (k - 32) (omega arith) (omega arith)))

pub skip_rest : (held : Held) (a b : ℕ) → a ≤ b → IsNextPut held.memory a None → held_lines held 32 a ≡ held_lines held 32 b
skip_rest held a b least none = skip_granules held a b least (λ k from until. none k from)

-- a beginning of a text is one of a longer text
taken : (n : ℕ) (ys zs : List ℕ) → (m : ℕ) × (take m (ys ++ zs) ≡ take n ys)
taken zero ys zs = (0, refl)
taken (suc n) [] zs = (0, refl)
taken (suc n) (y ∷ ys) zs = let rest = taken n ys zs in (suc rest.0, ap (λ (l : List ℕ). y ∷ l) rest.1)

-- the same behind what was pushed before it
pub began : (n : ℕ) (xs ys zs : List ℕ) → (m : ℕ) × (take m (xs ++ (ys ++ zs)) ≡ xs ++ take n ys)
began n [] ys zs = taken n ys zs
began n (x ∷ xs) ys zs = let rest = began n xs ys zs in (suc rest.0, ap (λ (l : List ℕ). x ∷ l) rest.1)

-- one line more
pub one_more : (origins : ℕ → Option Place) (key done key_behind next : ℕ) → key_behind ≡ key + done → next ≡ done + 1
    → lines_from origins key done ++ lines_from origins key_behind 1 ≡ lines_from origins key next
one_more origins key done key_behind next here more =
    ap (λ (k : ℕ). lines_from origins key done ++ lines_from origins k 1) here
    ∙ sym (ap (lines_from origins key) more ∙ lines_split origins key done 1)

-- the same where it is the last
pub behind : (n : ℕ) (xs ys : List ℕ) → (m : ℕ) × (take m (xs ++ ys) ≡ xs ++ take n ys)
behind n [] ys = (n, refl)
behind n (x ∷ xs) ys = let rest = behind n xs ys in (suc rest.0, ap (λ (l : List ℕ). x ∷ l) rest.1)

-- a beginning of one line behind those before it
pub stopped : (origins : ℕ → Option Place) (key done key_behind count n : ℕ) → key_behind ≡ key + done → done < count
    → (m : ℕ) × (lines_from origins key done ++ take n (lines_from origins key_behind 1) ≡ take m (lines_from origins key count))
stopped origins key done key_behind count n here less =
    let rest = count - done - 1 in
    let sum : count ≡ done + (1 + rest) = omega arith in
    let m = began n (lines_from origins key done) (lines_from origins (key + done) 1) (lines_from origins ((key + done) + 1) rest) in (
      m.0,
      ap (λ (k : ℕ). lines_from origins key done ++ take n (lines_from origins k 1)) here
          ∙ sym
          (ap (take m.0)
          (ap (lines_from origins key) sum ∙ lines_split origins key done (1 + rest)
          ∙ ap (λ (l : List ℕ). lines_from origins key done ++ l) (lines_split origins (key + done) 1 rest))
          ∙ m.1),
    )

-- the line of a place that has an origin, and of one that has none
pub line_of : (origins : ℕ → Option Place) (place root : Place) (text : List ℕ) → IsPlace place → origins (key_of place) ≡ Some root
    → text ≡ origin_line place root
    → text ≡ lines_from origins (key_of place) 1
line_of origins place root text is some spelled =
    spelled ∙ sym (one_line origins place is ∙ ap (λ (o : Option Place). origin_lines (listed place o)) some
    ∙ append-nil (origin_line place root))

pub no_line : (origins : ℕ → Option Place) (place : Place) → IsPlace place → origins (key_of place) ≡ None
    → [] ≡ lines_from origins (key_of place) 1
no_line origins place is none = sym (one_line origins place is ∙ ap (λ (o : Option Place). origin_lines (listed place o)) none)

-- no lines yet
pub no_lines : (origins : ℕ → Option Place) (key : ℕ) → [] ≡ lines_from origins key 0
no_lines origins key = sym (ap origin_lines (origins_from-zero origins key))

-- two texts, one behind the other
module _ {K : Type 0} (took : K → K → List ℕ → Type 0) (a b c : K) (joined : (x y z : K) (xs ys : List ℕ) → took x y xs
    → took y z ys → took x z (xs ++ ys))
    (xs ys text : List ℕ) (is : xs ++ ys ≡ text) where
  pub both_ok : (result : Result (Unit {0}) PushFault) → took a b xs → OnOk result (took b c ys) → OnOk result (took a c text)
  both_ok (Ok done) before now = subst (took a c) is (joined a b c xs ys before now)
  both_ok (Err fault) before now = tt

  pub both_err : (result : Result (Unit {0}) PushFault) → took a b xs → OnErr result ((n : ℕ) × took b c (take n ys))
      → OnErr result ((n : ℕ) × took a c (take n text))
  both_err (Ok done) before now = tt
  both_err (Err fault) before now =
      let m = behind now.0 xs ys in
      (m.0, subst (took a c) (sym m.1 ∙ ap (take m.0) is) (joined a b c xs (take now.0 ys) before now.1))

-- a beginning of the first text
pub first_err : (took : List ℕ → Type 0) (xs ys text : List ℕ) → xs ++ ys ≡ text → (n : ℕ) × took (take n xs) → (n : ℕ) × took (take n text)
first_err took xs ys text is part = let m = taken part.0 xs ys in (m.0, subst took (sym m.1 ∙ ap (take m.0) is) part.1)
