-- A line as it is written.
use Rattle.std.proofs.Common.{◌≡◌, ℕ, cond, List, length, sym, ap, codes, eq-eqb}
use Rattle.std.proofs.lemmas.Str.{utf8_valid_len-IsUtf8}
use Rattle.std.specs.Str.{IsUtf8}
use Rattle.std.specs.Str.Lossy.{utf8_valid_len}
use Rattle.pt_pdb.specs.CommandLines.{shown_line}

-- UTF-8 is written as it is
pub valid : (line : List ℕ) → IsUtf8 line → line ≡ shown_line line
valid line u = sym (ap (λ b. cond b line (codes "?")) (eq-eqb (utf8_valid_len line) (length line) (utf8_valid_len-IsUtf8 line u)))
