-- What a run of a program wrote and told, from what was done for its order.
use Rattle.std.specs.Io.KnownBytes.{Keeps, Appends, Consumes}
use Rattle.std.proofs.Common.{◌≡◌, ◌≢◌, ◌≤◌, ◌↔◌, ℕ, List, [], take, Option, None, Some, Result, Ok, Err, IfErr, IfOk}
use Rattle.std.proofs.Common.{inl, inr, refl, sym, subst, ◌∙◌, append-nil, arith}
use Rattle.cap_program.specs.declared.faults.Fault.{Fault}
use Rattle.cap_program.specs.declared.faults.Fault.TheVariants.{BadWords, BadWord, BadRequest, Read, Write, NoMemory}
use Rattle.cap_program.specs.{Doings.IsDone, Faults.{exit_status, status_of}, Runs.{TellsFault, Ran}}

-- nothing was gained
kept : (a b : Option (List ℕ)) → Appends a b [] → Keeps a b
kept None b h = tt
kept (Some xs) None h = absurd h
kept (Some xs) (Some ys) h = h ∙ append-nil xs

high : (fault : Fault) → 2 ≤ status_of fault
high BadWords = omega arith
high BadWord = omega arith
high BadRequest = omega arith
high Read = omega arith
high Write = omega arith
high NoMemory = omega arith

-- what was done for an order whose input gave these bytes
module _ (shows : List ℕ → ℕ → Type 0) (fails : List ℕ → Fault → Type 0) (prints : List ℕ → ℕ → Type 0) (faulty : Type 0)
    (input rest : Option (List ℕ)) (given : List ℕ) (before after : Option (List ℕ)) (gives : Consumes input rest given)
    (known : (text : List ℕ) (status : ℕ) → shows text status → prints text status)
    (few : (text : List ℕ) (status : ℕ) → shows text status → status ≤ 1)
    (unfaulty : (text : List ℕ) (status : ℕ) → shows text status → faulty → ⊥)
    (asked : (fault : Fault) → fails given fault → (status_of fault ≡ 2) ↔ faulty) where
  failed : (fault : Fault) → fails given fault → Appends before after []
      → TellsFault prints fails input fault → Ran prints (TellsFault prints fails input) faulty before after (Err fault) (status_of fault)
  failed fault fail nothing belongs = record {
    range = at_most fault;
    low = tt;
    printed = λ low. absurd (let at = high fault in omega arith);
    asked = asked fault fail;
    kept = λ two. kept before after nothing;
    stopped = λ three. ([], inl refl, nothing);
    failed = (belongs, refl, λ other. kept before after nothing);
  }
    where
      at_most : (f : Fault) → status_of f ≤ 3
      at_most BadWords = omega arith
      at_most BadWord = omega arith
      at_most BadRequest = omega arith
      at_most Read = omega arith
      at_most Write = omega arith
      at_most NoMemory = omega arith

  pub ran_by : (done : Result ℕ Fault) → IsDone shows (fails given) (Appends before after) done
      → Ran prints (TellsFault prints fails input) faulty before after done (exit_status done)
  ran_by (Ok status) d =
      let low = few d.0 status d.1 in record {
        range = omega arith;
        low = low;
        printed = λ is. (d.0, known d.0 status d.1, d.2);
        asked = (λ two. absurd (omega arith), λ wrong. absurd (unfaulty d.0 status d.1 wrong));
        kept = λ two. absurd (omega arith);
        stopped = λ three. absurd (omega arith);
        failed = tt;
      }
  ran_by (Err Write) d = record {
    range = omega arith;
    low = tt;
    printed = λ low. absurd (omega arith);
    asked = (λ two. absurd (omega arith), λ wrong. absurd (unfaulty d.0 d.1 d.2 wrong));
    kept = λ two. absurd (omega arith);
    stopped = λ three. (take d.3 d.0, inr (d.0, d.1, known d.0 d.1 d.2, d.3, refl), d.4);
    failed = ((d.0, d.1, known d.0 d.1 d.2), refl, λ other. absurd (other refl));
  }
  ran_by (Err fault) d = failed fault d.0 d.1 (given, rest, gives, d.0)

-- the same where the status is told apart
pub ran_at : (prints : List ℕ → ℕ → Type 0) (belongs : Fault → Type 0) (faulty : Type 0) (before after : Option (List ℕ))
    (done : Result ℕ Fault) (status : ℕ) → Ran prints belongs faulty before after done (exit_status done) → status ≡ exit_status done
    → Ran prints belongs faulty before after done status
ran_at prints belongs faulty before after done status ran is =
    subst (λ (n : ℕ). Ran prints belongs faulty before after done n) (sym is) ran

-- what goes to the writer of faults
module _ (prints : List ℕ → ℕ → Type 0) (belongs : Fault → Type 0) (faulty : Type 0) (before after : Option (List ℕ)) (status : ℕ) where
  pub ran_silent : (done : Result ℕ Fault) (a b : Option (List ℕ)) → Ran prints belongs faulty before after done status
      → IfOk done (λ shown. Appends a b []) → status ≤ 1 → Keeps a b
  ran_silent (Ok shown) a b ran nothing low = kept a b nothing
  ran_silent (Err fault) a b ran nothing low = absurd (let is = ran.failed.1 in let at = high fault in omega arith)

  pub ran_told : (done : Result ℕ Fault) (line : Fault → List ℕ) (gained : List ℕ → Type 0)
      → Ran prints belongs faulty before after done status
      → IfErr done (λ fault. (n : ℕ) × gained (take n (line fault))) → 2 ≤ status
      → (fault : Fault) × belongs fault × (status_of fault ≡ status) × (n : ℕ) × gained (take n (line fault))
      × (fault ≢ Write → Keeps before after)
  ran_told (Ok shown) line gained ran told two = absurd (let low = ran.low in omega arith)
  ran_told (Err fault) line gained ran told two = (fault, ran.failed.0, ran.failed.1, told.0, told.1, ran.failed.2)

  -- an input that is missing is a read fault
  pub ran_missing : (done : Result ℕ Fault) → Ran prints belongs faulty before after done status → done ≡ Err Read
      → (status ≡ 3) × Keeps before after
  ran_missing done ran is =
      let read = subst (λ (d : Result ℕ Fault). IfErr d (λ fault. belongs fault × (status_of fault ≡ status)
      × (fault ≢ Write → Keeps before after))) is ran.failed in
      (sym read.1, read.2 (λ write. cc))
