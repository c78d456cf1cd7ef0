-- What reading a whole file answers.
use Rattle.std.proofs.Common.{◌≡◌, ℕ, List, Result, Ok, Err, sym, ap, subst, ◌∙◌}
use Rattle.std.specs.Prelude.{IfOk}
use Rattle.pt_code.specs.declared.Code.{Code}
use Rattle.pt_code.specs.declared.parts.Bad.{Bad}
use Rattle.pt_code.specs.declared.refusing.CodeErr.{CodeErr}
use Rattle.pt_code.specs.File.{file, HasFile}
use Rattle.pt_code.specs.Reading.{code_of}
use Rattle.pt_code.specs.Refusals.{told, answer, Answers}
use Rattle.pt_code.proofs.Codecs.{AreBytes, ok_is}
use Rattle.pt_code.proofs.BlockLaws.{code_is, code_again}

abbrev given : Code → Result Code CodeErr
given c = Ok c

told_ok : (bytes : List ℕ) (read : Result Code Bad) (c : Code) → given c ≡ told bytes read → read ≡ Ok c
told_ok bytes (Ok d) c e = λ k. Ok (sym (given_is c d e) k)
  where
    given_is : (c d : Code) → given c ≡ given d → c ≡ d
    given_is c d e = cc
told_ok bytes (Err b) c e = absurd cc

pub found_in : (bytes : List ℕ) (result : Result Code CodeErr) → AreBytes bytes → Answers result (answer bytes) → IfOk result (λ c. (bytes ≡ file c) × HasFile c)
unfolding answer
found_in bytes (Ok c) fits e = code_is bytes c fits (told_ok bytes (code_of bytes) c e)
found_in bytes (Err b) fits e = tt

pub only_in : (bytes : List ℕ) (result : Result Code CodeErr) → Answers result (answer bytes) → (c : Code) → HasFile c → bytes ≡ file c → Answers result (Ok c)
unfolding answer
only_in bytes result e c has is = subst (Answers result) (ap answer is ∙ ap (told (file c)) (code_again c has)) e

pub one_file : (c d : Code) → HasFile c → HasFile d → file c ≡ file d → c ≡ d
one_file c d has_c has_d same = ok_is c d (sym (code_again c has_c) ∙ ap code_of same ∙ code_again d has_d)
