-- Walking along the texts of a shelf.
use Rattle.std.proofs.Common.{◌≡◌, ◌<◌, ℕ, ◌+◌, List, true, false, length, get_or, drop, add-one, cond, refl, ◌∙◌}
use Rattle.std.proofs.Math.Seq.{drop-cons}
use Rattle.std.specs.Str.{bytes_eq}
use Rattle.pt_base.specs.Told.{told_in}
use Rattle.pt_base.specs.Told.Told.{Holds}

module _ (files : List (List ℕ × List ℕ)) (i : ℕ) (name : List ℕ) (file : List ℕ × List ℕ) (within : i < length files) (is : file ≡ get_or files i file) where
  front : told_in (drop i files) name ≡ cond (bytes_eq file.0 name) (Holds file.1) (told_in (drop (i + 1) files) name)
  front = rw (add-one, drop-cons files i file, ← is) refl

  pub found : bytes_eq file.0 name ≡ true → told_in (drop i files) name ≡ Holds file.1
  found same = front ∙ rw same refl

  pub passed : bytes_eq file.0 name ≡ false → told_in (drop i files) name ≡ told_in (drop (i + 1) files) name
  passed other = front ∙ rw other refl
