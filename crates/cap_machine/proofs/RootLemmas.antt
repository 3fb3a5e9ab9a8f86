-- A machine after a root was put.
use Rattle.std.proofs.Common.{◌≡◌, ℕ, ◌+◌, ◌^◌, ◌<◌, true, length, refl, ap, None}
use Rattle.cap_word.specs.{declared.word.Word.Word, Memory.memory_of}
use Rattle.cap_word.proofs.Bytes.{stored_word-memory_of}
use Rattle.cap_ops.specs.Checks.{first_of}
use Rattle.cap_log.specs.{declared.lines.Place.{Place, TheVariants.{Register, Granule}}, Lines.IsPlace}
use Rattle.cap_machine.specs.{Accounts.{Account, root_checks}, Changes.placed}
use Rattle.cap_machine.specs.{Helds.{Held, TakesRoot, code_in, account_of}, States.{granule_key, put, tagged}}
use Rattle.cap_machine.proofs.CodeLemmas.{account-granule, account-register, origins_by, place_at-key}

pub took : (old : Held) (place : Place) (word : Word) → length old.registers ≡ 32 → length old.codes ≡ 32 → IsPlace place → word.0 < 2 ^ 128
    → first_of (root_checks (account_of old) place word) ≡ None
    → TakesRoot old place word (let after = placed old place word in record after { roots = after.roots + 1 })
took old (Register n) word sized coded_so range fits free = record {
  checks = free;
  account = ap (λ (a : Account). record a { roots = a.roots + 1 }) (account-register old n (tagged word) n _ sized coded_so range.1
      (ap (put (origins_by (code_in old)) n) (place_at-key (Register n) range)));
  same_room = refl;
}
took old (Granule g) word sized coded_so range fits free = record {
  checks = free;
  account = ap (λ (a : Account). record a { roots = a.roots + 1 }) (account-granule old g (true, memory_of word.0, granule_key g) _ _
      (ap (λ (n : ℕ). tagged (record { 0 = n })) (stored_word-memory_of word.0 fits))
      (ap (put (origins_by (code_in old)) (granule_key g)) (place_at-key (Granule g) range)));
  same_room = refl;
}
