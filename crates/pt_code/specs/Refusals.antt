-- What reading answers: the code of the file, or the first place at which the format fails.
use Rattle.std.specs.Prelude.{◌≡◌, ◌-◌, ℕ, List, length, Result, Ok, Err}
use Rattle.pt_code.specs.declared.Code.{Code}
use Rattle.pt_code.specs.declared.parts.Bad.{Bad}
use Rattle.pt_code.specs.declared.parts.Bad.TheVariants as bad
use Rattle.pt_code.specs.declared.refusing.CodeErr.{CodeErr}
use Rattle.pt_code.specs.declared.refusing.CodeErr.TheVariants as err
use Rattle.pt_code.specs.Reading.{code_of}

-- places count from the front of the bytes
abbrev pub refusal : List ℕ → Bad → CodeErr
refusal bytes bad.Short = err.Truncated (length bytes)
refusal bytes (bad.Field left) = err.Field (length bytes - left)
refusal bytes bad.Magic = err.Magic
refusal bytes (bad.Version got) = err.Version got
refusal bytes (bad.Trailing left) = err.Trailing (length bytes - left)
refusal bytes bad.Memory = err.Memory

abbrev pub told : List ℕ → Result Code Bad → Result Code CodeErr
told bytes (Ok c) = Ok c
told bytes (Err e) = Err (refusal bytes e)

unfoldable pub answer : List ℕ → Result Code CodeErr
answer bytes = told bytes (code_of bytes)

-- it is the answer, unless memory ran out
abbrev pub Answers : Result Code CodeErr → Result Code CodeErr → Type 0
Answers (Err err.Memory) answer = Unit {0}
Answers result answer = result ≡ answer
