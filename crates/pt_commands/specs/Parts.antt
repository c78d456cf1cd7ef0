-- How a line of a command is cut: into words between blanks, and at a comma.
use Rattle.std.specs.Prelude.{ℕ, suc, Bool, not, ◌==◌, List, [], ◌∷◌, if◌then◌else◌}
use Rattle.pt_literals.specs.Source.{is_blank}
use Rattle.pt_strs.specs.Strip.{front, without_end, without_front}
use Rattle.pt_commands.specs.declared.parts.Part.{Part}
use Rattle.pt_commands.specs.declared.parts.Part.TheVariants.{Blanks, Word, Item}

abbrev pub is_in : Part → ℕ → Bool
is_in Blanks c = is_blank c
is_in Word c = not (is_blank c)
is_in Item c = not (c == 44)

-- how long the part at the front of a text is
abbrev pub part_len : (ℕ → Bool) → List ℕ → ℕ
part_len p [] = 0
part_len p (c ∷ cs) = if p c then suc (part_len p cs) else 0

-- without the blanks before and behind it
abbrev pub trimmed : List ℕ → List ℕ
trimmed text = without_end is_blank (without_front is_blank text)

-- the first word of a text that doesn't begin with a blank, and what stands behind it
abbrev pub first_word : List ℕ → List ℕ
first_word text = front (is_in Word) text

abbrev pub behind_word : List ℕ → List ℕ
behind_word text = without_front is_blank (without_front (is_in Word) text)

-- what stands before the first comma, and from it on
abbrev pub item : List ℕ → List ℕ
item text = without_end is_blank (front (is_in Item) text)

abbrev pub from_comma : List ℕ → List ℕ
from_comma text = without_front (is_in Item) text
