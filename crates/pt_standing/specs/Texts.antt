-- Numbers of texts, and marks on them.
use Rattle.std.specs.Prelude.{◌≡◌, ◌⊎◌, ℕ, ◌+◌, ◌<◌, List, [], length, nat_eq, slice_index_or, slice_set, Some, None, if◌then◌else◌}
use Rattle.std.specs.Str.{bytes_eq}
use Rattle.std.specs.BTreeMap.{BTreeMap, get_by_text}
use Rattle.std.specs.declared.string.String.{String}
use Rattle.std.specs.declared.alloc.Global.{Global}
use Rattle.pt_tree.specs.Syntax.{Name}
use Rattle.sem_fits.specs.fits.Standing.{is_among}

-- the text with a number
abbrev pub text_at : List Name → ℕ → Name
text_at texts t = slice_index_or texts t []

abbrev pub id_at : List ℕ → ℕ → ℕ
id_at ids t = slice_index_or ids t 0

-- texts have one number where they are the same
pub record AreIds (texts : List Name) (ids : List ℕ) : Type 0 where
  pub long : length ids ≡ length texts
  pub low : (t : ℕ) → t < length texts → id_at ids t < length texts
  pub same : (s t : ℕ) → s < length texts → t < length texts
      → nat_eq (id_at ids s) (id_at ids t) ≡ bytes_eq (text_at texts s) (text_at texts t)

-- texts are known by the numbers that they got, each below a count and that of an equal text
pub record Knows (texts : List Name) (count : ℕ) (known : BTreeMap (String Global) ℕ) (ids : List ℕ) : Type 0 where
  pub long : length ids ≡ count
  pub found : (t : ℕ) → t < count → get_by_text known (text_at texts t) ≡ Some (id_at ids t)
  pub sound : (x : Name) (n : ℕ) → get_by_text known x ≡ Some n → (n < count) × (text_at texts n ≡ x)

-- a text has its number, which others keep
pub record IdGiven (old new : BTreeMap (String Global) ℕ) (text : Name) (number id : ℕ) : Type 0 where
  pub here : get_by_text new text ≡ Some id
  pub old_or_new : get_by_text old text ≡ Some id ⊎ (get_by_text old text ≡ None × (id ≡ number))
  pub others : (x : Name) → get_by_text new x ≡ (if bytes_eq text x then Some id else get_by_text old x)

-- the mark on a text, which the texts that are the same have too
abbrev pub mark_on : (ids marks : List ℕ) → (t : ℕ) → ℕ
mark_on ids marks t = slice_index_or marks (id_at ids t) 0

-- each text has a place for its mark, and all marks are below a number
pub record AreFresh (texts : List Name) (ids marks : List ℕ) (below : ℕ) : Type 0 where
  pub ids_are : AreIds texts ids
  pub long : length marks ≡ length texts
  pub low : (k : ℕ) → slice_index_or marks k 0 < below

-- the texts that are among these names have a mark, and no others
pub record HasMarks (texts : List Name) (ids marks : List ℕ) (by : ℕ) (names : List Name) : Type 0 where
  pub ids_are : AreIds texts ids
  pub long : length marks ≡ length texts
  pub each : (t : ℕ) → t < length texts → nat_eq (mark_on ids marks t) by ≡ is_among names (text_at texts t)

-- the names have marks, and all marks are below the next number
pub record Marked (texts : List Name) (ids marks : List ℕ) (by : ℕ) (names : List Name) : Type 0 where
  pub has : HasMarks texts ids marks by names
  pub fresh : AreFresh texts ids marks (by + 1)

-- the number of a text, below a count
pub record IsIdIn (ids : List ℕ) (count t id : ℕ) : Type 0 where
  pub within : t < length ids
  pub is : id ≡ id_at ids t
  pub low : id < count

pub record MarkIs (ids marks : List ℕ) (t mark : ℕ) : Type 0 where
  pub within : t < length ids
  pub is : mark ≡ mark_on ids marks t

-- one text gets a mark
pub record MarksOne (ids old new : List ℕ) (t by : ℕ) : Type 0 where
  pub within : t < length ids
  pub low : id_at ids t < length old
  pub is : new ≡ slice_set old (id_at ids t) by
