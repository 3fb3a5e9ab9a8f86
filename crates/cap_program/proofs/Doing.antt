-- Laws of what was done for an order.
use Rattle.std.specs.Io.KnownBytes.{Consumes}
use Rattle.std.proofs.Common.{Bool, true, ◌≡◌, ◌≢◌, ℕ, List, [], ◌++◌, take, length, Option, Some, None, Result, Ok}
use Rattle.std.proofs.{Common.{Err, inl, inr, refl, sym, subst, ◌∙◌, append-nil}, Math.Seq.take-length}
use Rattle.std.proofs.lemmas.Option.{none-some}
use Rattle.cap_streams.specs.Streams.{next_count}
use Rattle.cap_program.specs.declared.faults.Fault.{Fault}
use Rattle.cap_program.specs.declared.faults.Fault.TheVariants.{Read, Write}
use Rattle.cap_program.specs.{Commands.Meaning, Doings.{IsFollowed, gave_by, ended_by, known_bytes, IsDone, IsCounted}}
use Rattle.cap_program.specs.Doings.{IsInputCounted, IsHandedOn, IsPushed}

-- what a source over known bytes gave is the next of them, and where it has ended all of them
pub given_of : {S : Type 0} (left : S → Option (List ℕ)) (ended : S → Bool)
    (all_given : (s : S) → ended s ≡ true → (xs : List ℕ) → left s ≡ Some xs → xs ≡ []) (before after : Option S) (given : List ℕ)
    → gave_by (λ a b xs. Consumes (left a) (left b) xs) before after given
    → (rest : Option (List ℕ)) × Consumes (known_bytes left before) rest given
    × (ended_by ended after ≡ true → (xs : List ℕ) → rest ≡ Some xs → xs ≡ [])
given_of left ended all_given (Some a) (Some b) given gave = (left b, gave, all_given b)
given_of left ended all_given (Some a) None given gave = absurd gave
given_of left ended all_given None after given gave = (None, tt, λ is xs known. cc)

-- what was taken of the texts of an order may be told in other words
pub done_map : (shows : List ℕ → ℕ → Type 0) (fails : Fault → Type 0) (took told : List ℕ → Type 0) (done : Result ℕ Fault)
    → ((xs : List ℕ) → took xs → told xs) → IsDone shows fails took done → IsDone shows fails told done
done_map shows fails took told (Ok status) f d = (d.0, d.1, f d.0 d.2)
done_map shows fails took told (Err Write) f d = (d.0, d.1, d.2, d.3, f (take d.3 d.0) d.4)
done_map shows fails took told (Err fault) f d = (d.0, f [] d.1)

-- what was taken stays taken where nothing follows
pub then_nothing : {K : Type 0} (took : K → K → List ℕ → Type 0)
    (joined : (a b c : K) (xs ys : List ℕ) → took a b xs → took b c ys → took a c (xs ++ ys)) (a b c : K) → took b c [] → (xs : List ℕ)
    → took a b xs → took a c xs
then_nothing took joined a b c nothing xs some = subst (took a c) (append-nil xs) (joined a b c xs [] some nothing)

-- no bytes were given where no input was asked
pub gave_nothing : {S : Type 0} (gave : S → S → List ℕ → Type 0) → ((s : S) → gave s s []) → (input : Option S) → gave_by gave input input []
gave_nothing gave nothing None = refl
gave_nothing gave nothing (Some s) = nothing s

-- a text that was pushed, whole or not
pub begun : {F : Type 0} (took : F → F → List ℕ → Type 0) (faults : F → ℕ) (before after : F) (text : List ℕ)
    → IsPushed took faults before after text → (n : ℕ) × took before after (take n text)
begun took faults before after text (inl all) = (length text, subst (took before after) (sym (take-length text)) all.1)
begun took faults before after text (inr some) = some.1

-- a text that was taken whole was taken to its end
all_taken : (shows : List ℕ → ℕ → Type 0) (fails : Fault → Type 0) (took : List ℕ → Type 0) (status : ℕ)
    → IsDone shows fails took (Ok status) → IsDone shows fails took (Err Write)
all_taken shows fails took status d = (d.0, status, d.1, length d.0, subst took (sym (take-length d.0)) d.2)

-- what was done stays done where the output hands it on, and where it fails then a beginning was taken
pub done_handed_on : (shows : List ℕ → ℕ → Type 0) (fails : Fault → Type 0) (took : List ℕ → Type 0) (before after : ℕ)
    (done result : Result ℕ Fault) → IsDone shows fails took done → IsHandedOn done before after result → IsDone shows fails took result
done_handed_on shows fails took before after (Ok status) result d (inl same) = subst (IsDone shows fails took) (sym same.0) d
done_handed_on shows fails took before after (Ok status) result d (inr failed) =
    subst (IsDone shows fails took) (sym failed.0) (all_taken shows fails took status d)
done_handed_on shows fails took before after (Err fault) result d same = subst (IsDone shows fails took) (sym same.0) d

-- the output counts as it did
pub written_handed_on : (first before after : ℕ) (done result : Result ℕ Fault) → IsCounted Write done first before
    → IsHandedOn done before after result → IsCounted Write result first after
written_handed_on first before after (Ok status) result c (inl same) = record {
  counted = λ is. absurd (let e : Ok status ≡ Err Write = sym same.0 ∙ is in cc);
  uncounted = λ other. same.1 ∙ c.uncounted (λ e. cc);
}
written_handed_on first before after (Ok status) result c (inr failed) = record {
  counted = λ is. let e = c.uncounted (λ e. cc) in let n = failed.1 in subst (λ (k : ℕ). after ≡ next_count k) e n;
  uncounted = λ other. absurd (other failed.0);
}
written_handed_on first before after (Err fault) result c same = record {
  counted = λ is. same.1 ∙ c.counted (sym same.0 ∙ is);
  uncounted = λ other. same.1 ∙ c.uncounted (λ is. other (same.0 ∙ is));
}

-- a fault of the input is none that comes while a text is handed on
pub read_handed_on : (before after : ℕ) (done result : Result ℕ Fault) → IsHandedOn done before after result → done ≡ Err Read
    → result ≡ Err Read
read_handed_on before after (Ok status) result h is = absurd (cc)
read_handed_on before after (Err fault) result h is = h.0 ∙ is

-- a fault of the output is none of the input
wrong : (r : Result ℕ Fault) → r ≡ Err Write → r ≡ Err Read → ⊥
wrong r is also = cc

read_before : (before after : ℕ) (done result : Result ℕ Fault) → IsHandedOn done before after result → result ≡ Err Read
    → done ≡ Err Read
read_before before after (Ok status) result (inl same) is = absurd (let e : Ok status ≡ Err Read = sym same.0 ∙ is in cc)
read_before before after (Ok status) result (inr failed) is =
    absurd (wrong result failed.0 is)
read_before before after (Err fault) result same is = sym same.0 ∙ is

-- and the input counts as it did
pub input_handed_on : {S : Type 0} (faults : S → ℕ) (input after_input : Option S) (before after : ℕ) (done result : Result ℕ Fault)
    → IsInputCounted faults done input after_input → IsHandedOn done before after result → IsInputCounted faults result input after_input
input_handed_on faults None after_input before after done result c h = tt
input_handed_on faults (Some s) None before after done result c h = absurd c
input_handed_on faults (Some s) (Some t) before after done result c h = record {
  counted = λ is. c.counted (read_before before after done result h is);
  uncounted = λ other. c.uncounted (λ is. other (read_handed_on before after done result h is));
}

-- an order over an input and an output
module _ {C S K : Type 0} (m : Meaning C) (order : Option C) (gave : S → S → List ℕ → Type 0) (ended : S → Bool) (pulls : S → ℕ)
    (took : K → K → List ℕ → Type 0) (pushes : K → ℕ) (input : Option S) (out : K) where
  untouched : (answer : Result ℕ Fault) → answer ≢ Err Read → (i : Option S) → IsInputCounted pulls answer i i
  untouched answer unread None = tt
  untouched answer unread (Some s) = record { counted = λ is. absurd (unread is); uncounted = λ other. refl }

  -- one that reads no input is followed where its text is shown
  pub followed_unread : (out_after : K) (answer : Result ℕ Fault) → ((s : S) → gave s s []) → (m.reads_input order → ⊥) → answer ≢ Err Read
      → IsDone (m.shows order [] (ended_by ended input)) (m.fails order []) (took out out_after) answer
      → IsCounted Write answer (pushes out) (pushes out_after)
      → IsFollowed m order gave ended pulls took pushes input input out out_after answer
  followed_unread out_after answer nothing unread other done written = record {
    done = ([], gave_nothing gave nothing input, done);
    read = untouched answer other input;
    missing = λ reads none. absurd (unread reads);
    written = written;
  }

-- one whose input is missing
pub followed_missing : {C S K : Type 0} (m : Meaning C) (order : Option C) (gave : S → S → List ℕ → Type 0) (ended : S → Bool) (pulls : S → ℕ)
    (took : K → K → List ℕ → Type 0) (pushes : K → ℕ) (input : Option S) (out : K) → input ≡ None → took out out [] → m.fails order [] Read
    → IsFollowed m order gave ended pulls took pushes input input out out (Err Read)
followed_missing m order gave ended pulls took pushes None out is nothing fails = record {
  done = ([], refl, (fails, nothing));
  read = tt;
  missing = λ reads none. refl;
  written = record { counted = λ is. absurd (cc); uncounted = λ other. refl };
}
followed_missing m order gave ended pulls took pushes (Some s) out is nothing fails = absurd (none-some s (sym is))
