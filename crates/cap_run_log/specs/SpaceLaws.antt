-- Laws of spellings: the parts of lines have no space.
use Rattle.std.proofs.Common.{ℕ, ◌*◌, ◌≢◌, Bool, true, false, codes, decimal, arith, refl}
use Rattle.std.proofs.lemmas.List.Elements.{All-append, All-cons}
use Rattle.cap_word.specs.Digits.{hex_digits}
use Rattle.cap_log.specs.{Lines.{IsRegister, tag_spelling}, Parts.HasNoSpace}
use Rattle.cap_log.specs.SpacelessLaws.{Lacks-by_test, decimal-spaceless, number-spaceless, register-spaceless}
use Rattle.cap_log.specs.SpacelessLaws.{register-within}
use Rattle.cap_run_log.specs.declared.lines.{RunPlace.RunPlace, RunRegister.RunRegister}
use Rattle.cap_run_log.specs.RunLines.{IsRunPlace, IsRunRegister, granule_spelling, run_place_spelling, run_register_spelling}
use Rattle.cap_run_log.specs.{RunLines.special_spelling, declared.heads.RunHead.RunHead, RunHeads.run_head_spelling}

pub special-spaceless : (n : ℕ) → IsRegister n → HasNoSpace (special_spelling n)
special-spaceless n small =
    All-append (λ b. b ≢ 32) (codes "scr") (decimal n) (Lacks-by_test 32 (codes "scr") refl) (decimal-spaceless n (omega arith))

pub register_at-spaceless : (least : ℕ) (register : RunRegister) → IsRunRegister least register → HasNoSpace (run_register_spelling register)
register_at-spaceless least (RunRegister.General n) fits = register-spaceless n (register-within least n fits).1
register_at-spaceless least (RunRegister.Special n) fits = special-spaceless n fits

pub granule-spaceless : (n : ℕ) → HasNoSpace (granule_spelling n)
granule-spaceless n = All-cons (λ b. b ≢ 32) 64 (hex_digits 16 (16 * n)) (omega arith) (number-spaceless (16 * n))

pub place-spaceless : (place : RunPlace) → IsRunPlace place → HasNoSpace (run_place_spelling place)
place-spaceless (RunPlace.General n) fits = register-spaceless n fits.1
place-spaceless (RunPlace.Special n) fits = special-spaceless n fits
place-spaceless (RunPlace.Granule n) fits = granule-spaceless n

pub equals-spaceless : HasNoSpace (codes "=")
equals-spaceless = Lacks-by_test 32 (codes "=") refl

pub tag-spaceless : (tag : Bool) → HasNoSpace (tag_spelling tag)
tag-spaceless true = Lacks-by_test 32 (codes "1") refl
tag-spaceless false = Lacks-by_test 32 (codes "0") refl

pub run_head-spaceless : (h : RunHead) → HasNoSpace (run_head_spelling h)
run_head-spaceless RunHead.Version = Lacks-by_test 32 (run_head_spelling RunHead.Version) refl
run_head-spaceless h = Lacks-by_test 32 (run_head_spelling h) refl
