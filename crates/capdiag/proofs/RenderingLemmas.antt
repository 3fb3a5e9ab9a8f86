-- Laws of what is shown of a report.
use Rattle.std.proofs.Common.{◌≡◌, ◌≤◌, ◌↔◌, inl, inr, ℕ, Bool, true, false, not, ◌||◌, is_some, List, Option, Some, None, IfOk, IfErr, OnOk, Result, Ok, Err}
use Rattle.std.proofs.Common.{[], ◌∷◌, ◌++◌, ◌+◌, ◌<◌, length, take, get_or, append_assoc, ◌∙◌, refl, sym, ap, subst}
use Rattle.std.proofs.lemmas.{Grind.flat_map-append, List.take_more}
use Rattle.cap_streams.specs.declared.judging.judge_faults.JudgeFault.{JudgeFault}
use Rattle.cap_json.specs.declared.rows.LogKind.{LogKind}
use Rattle.cap_program.specs.declared.faults.Fault.{Fault, TheVariants.{BadWords, BadWord, BadRequest, Read, Write, NoMemory}}
use Rattle.cap_program.specs.{Doings.{IsCounted, IsDone}, Faults.status_of, Judging.StopsJudging}
use Rattle.cap_program.proofs.Judgements.{stopped_unfaulty}
use Rattle.capdiag.specs.declared.forms.{Form.Form, Look.{Look, TheVariants.{Plain, Colored, Json}}}
use Rattle.capdiag.specs.{Forms.{is_json, is_plain}, Renderings.{IsPut, Lacks, Renders, in_context, looking, name_byte, name_text, rendered, with_name}}

-- the bytes of a name are shown one by one
pub name_more : (is_raw : Bool) (bytes start items new : List ℕ) (i : ℕ) → i < length bytes → items ≡ start ++ name_text is_raw (take i bytes)
    → new ≡ items ++ name_text is_raw (get_or bytes i 0 ∷ []) → new ≡ start ++ name_text is_raw (take (i + 1) bytes)
name_more is_raw bytes start items new i within so_far more =
    let byte = get_or bytes i 0 in
    let text : name_text is_raw (take i bytes) ++ name_text is_raw (byte ∷ []) ≡ name_text is_raw (take (i + 1) bytes) =
    sym (ap (name_text is_raw) (take_more bytes i 0 within) ∙ flat_map-append (name_byte is_raw) (take i bytes) (byte ∷ [])) in
    more ∙ ap (λ (t : List ℕ). t ++ name_text is_raw (byte ∷ [])) so_far
    ∙ append_assoc start (name_text is_raw (take i bytes)) (name_text is_raw (byte ∷ []))
    ∙ ap (λ (t : List ℕ). start ++ t) text

-- a text that only shows something was pushed, or a beginning where the output failed
pub text_shown : (fails : Fault → Type 0) (text : List ℕ) (took : List ℕ → Type 0) (result : Result ℕ Fault) → IfOk result (λ status. status ≡ 0)
    → OnOk result (took text) → IfErr result (λ fault. (fault ≡ Write) × (n : ℕ) × took (take n text))
    → IsDone (λ shown status. (shown ≡ text) × (status ≡ 0)) fails took result
text_shown fails text took (Ok status) ok pushed err = (text, (refl, ok), pushed)
text_shown fails text took (Err fault) ok pushed err =
    subst (λ (f : Fault). IsDone (λ shown status. (shown ≡ text) × (status ≡ 0)) fails took (Err f)) (sym err.0)
    (text, 0, (refl, refl), err.1, err.2)

-- what was done for an order whose report was kept: what is shown of it was pushed
module _ (form : Form) (name : Option (List ℕ)) (kind : LogKind) (bytes : List ℕ) (shows : Bool → List ℕ → ℕ → Type 0) (stops : Fault → Type 0) (ended : Bool)
    (report : List ℕ) (kept : List ℕ → Type 0) (is_kept : (text : List ℕ) → kept text → report ≡ text) (took : List ℕ → Type 0) where
  -- it is what is shown of the report
  text_is : (text : List ℕ) → kept text → rendered form name kind bytes report ≡ rendered form name kind bytes text
  text_is text k = ap (rendered form name kind bytes) (is_kept text k)

  -- what was done then
  abbrev AnswerIs : Result ℕ Fault → Type 0
  AnswerIs answer = IsDone (Renders form name kind bytes (shows ended)) (Lacks true shows stops) took answer

  pub kept_done : (done answer : Result ℕ Fault) → IsDone (shows ended) stops kept done
      → IsPut (rendered form name kind bytes report) took done answer → IsDone (Renders form name kind bytes (shows ended)) (Lacks true shows stops) took answer
  kept_done (Ok status) (Ok other) d o =
      (rendered form name kind bytes report, (d.0, subst (λ (s : ℕ). shows ended d.0 s) (sym o.0) d.1, text_is d.0 d.2), o.1)
  kept_done (Ok status) (Err Write) d o = (rendered form name kind bytes report, status, (d.0, d.1, text_is d.0 d.2), o.0, o.1)
  kept_done (Ok status) (Err NoMemory) d o = (inr (ended, d.0, status, d.1), o)
  kept_done (Ok status) (Err BadWords) d o = absurd o
  kept_done (Ok status) (Err BadWord) d o = absurd o
  kept_done (Ok status) (Err BadRequest) d o = absurd o
  kept_done (Ok status) (Err Read) d o = absurd o
  kept_done (Err Write) answer d o = subst AnswerIs (sym o.0) (inr (ended, d.0, d.1, d.2), o.1)
  kept_done (Err NoMemory) answer d o = subst AnswerIs (sym o.0) (inl d.0, o.1)
  kept_done (Err BadWords) answer d o = subst AnswerIs (sym o.0) (d.0, o.1)
  kept_done (Err BadWord) answer d o = subst AnswerIs (sym o.0) (d.0, o.1)
  kept_done (Err BadRequest) answer d o = subst AnswerIs (sym o.0) (d.0, o.1)
  kept_done (Err Read) answer d o = subst AnswerIs (sym o.0) (d.0, o.1)

-- a report that isn't kept is shown as it is
module _ (kind : LogKind) (bytes : List ℕ) (shows : Bool → List ℕ → ℕ → Type 0) (stops : Fault → Type 0) (ended : Bool)
    (took : List ℕ → Type 0) where
  plain_forms : (answer : Result ℕ Fault) → IsDone (shows ended) stops took answer
      → IsDone (λ text status. (report : List ℕ) × shows ended report status × (text ≡ report)) stops took answer
  plain_forms (Ok status) d = (d.0, (d.0, d.1, refl), d.2)
  plain_forms (Err Write) d = (d.0, d.1, (d.0, d.2, refl), d.3, d.4)
  plain_forms (Err NoMemory) d = d
  plain_forms (Err BadWords) d = d
  plain_forms (Err BadWord) d = d
  plain_forms (Err BadRequest) d = d
  plain_forms (Err Read) d = d

  -- what is shown by its parts
  abbrev Shown : Look → Option ℕ → Option (List ℕ) → List ℕ → ℕ → Type 0
  Shown look context name text status =
      (report : List ℕ) × shows ended report status × (text ≡ looking look kind (with_name (is_json look) name (in_context context bytes report)))

  pub plain_done : (look : Look) (context : Option ℕ) (name : Option (List ℕ)) (answer : Result ℕ Fault)
      → (not (is_plain look) || (is_some context || is_some name)) ≡ false → IsDone (shows ended) stops took answer
      → IsDone (Shown look context name) (Lacks (not (is_plain look) || (is_some context || is_some name)) shows stops) took answer
  plain_done Colored context name answer plain d = absurd (cc)
  plain_done Json context name answer plain d = absurd (cc)
  plain_done Plain (Some count) name answer plain d = absurd (cc)
  plain_done Plain None (Some name) answer plain d = absurd (cc)
  plain_done Plain None None answer plain d = plain_forms answer d

-- a fault of the input is one of what was done for the order
pub kept_read : (text : List ℕ) (took : List ℕ → Type 0) (before after : ℕ) (done answer : Result ℕ Fault)
    → IsPut text took done answer → IsCounted Read done before after → IsCounted Read answer before after
kept_read text took before after (Ok status) (Ok other) o c =
    record { counted = λ is. absurd (cc); uncounted = λ other. c.uncounted (λ is. cc) }
kept_read text took before after (Ok status) (Err Write) o c =
    record { counted = λ is. absurd (cc); uncounted = λ other. c.uncounted (λ is. cc) }
kept_read text took before after (Ok status) (Err NoMemory) o c =
    record { counted = λ is. absurd (cc); uncounted = λ other. c.uncounted (λ is. cc) }
kept_read text took before after (Ok status) (Err BadWords) o c = absurd o
kept_read text took before after (Ok status) (Err BadWord) o c = absurd o
kept_read text took before after (Ok status) (Err BadRequest) o c = absurd o
kept_read text took before after (Ok status) (Err Read) o c = absurd o
kept_read text took before after (Err Write) answer o c =
    subst (λ (a : Result ℕ Fault). IsCounted Read a before after) (sym o.0)
    (record { counted = λ is. absurd (cc); uncounted = λ other. c.uncounted (λ is. cc) })
kept_read text took before after (Err NoMemory) answer o c =
    subst (λ (a : Result ℕ Fault). IsCounted Read a before after) (sym o.0) c
kept_read text took before after (Err BadWords) answer o c =
    subst (λ (a : Result ℕ Fault). IsCounted Read a before after) (sym o.0) c
kept_read text took before after (Err BadWord) answer o c =
    subst (λ (a : Result ℕ Fault). IsCounted Read a before after) (sym o.0) c
kept_read text took before after (Err BadRequest) answer o c =
    subst (λ (a : Result ℕ Fault). IsCounted Read a before after) (sym o.0) c
kept_read text took before after (Err Read) answer o c =
    subst (λ (a : Result ℕ Fault). IsCounted Read a before after) (sym o.0) c

-- the status of what is shown is that of the report
pub renders_few : (form : Form) (name : Option (List ℕ)) (kind : LogKind) (bytes : List ℕ) (shows : List ℕ → ℕ → Type 0) (text : List ℕ) (status : ℕ)
    → ((report : List ℕ) → shows report status → status ≤ 1) → Renders form name kind bytes shows text status → status ≤ 1
renders_few form name kind bytes shows text status few renders = few renders.0 renders.1

-- an order that judges is not at fault where there is no text
pub lacking_unfaulty : {V : Type 0} (kept : Bool) (shows : Bool → List ℕ → ℕ → Type 0) (answers : Result V JudgeFault → Type 0) (fault : Fault)
    → Lacks kept shows (StopsJudging answers) fault → (status_of fault ≡ 2) ↔ ⊥
lacking_unfaulty false shows answers fault lacks = stopped_unfaulty answers fault lacks
lacking_unfaulty true shows answers NoMemory lacks = (λ two. absurd (cc), λ faulty. absurd faulty)
lacking_unfaulty true shows answers BadWords lacks = stopped_unfaulty answers BadWords lacks
lacking_unfaulty true shows answers BadWord lacks = stopped_unfaulty answers BadWord lacks
lacking_unfaulty true shows answers BadRequest lacks = stopped_unfaulty answers BadRequest lacks
lacking_unfaulty true shows answers Read lacks = stopped_unfaulty answers Read lacks
lacking_unfaulty true shows answers Write lacks = stopped_unfaulty answers Write lacks

-- there is no text where the input fails
pub lacks_read : {V : Type 0} (kept : Bool) (shows : Bool → List ℕ → ℕ → Type 0) (answers : Result V JudgeFault → Type 0)
    → answers (Err JudgeFault.Pull) → Lacks kept shows (StopsJudging answers) Read
lacks_read false shows answers stops = stops
lacks_read true shows answers stops = stops
