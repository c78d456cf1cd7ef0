-- How a name of a class body is read (Language Reference 6.2.1, "Private name mangling").
use Rattle.std.specs.Prelude.{ℕ, Bool, true, false, not, ◌&&◌, ◌==◌, [], ◌∷◌, ◌++◌, length, drop, ◌-◌, if◌then◌else◌}
use Rattle.pt_tree.specs.Syntax.{Name}

-- the byte of `_`
abbrev pub underscore : ℕ
underscore = 95

abbrev pub begins_with_two : Name → Bool
begins_with_two (a ∷ b ∷ x) = (a == underscore) && (b == underscore)
begins_with_two x = false

abbrev pub ends_with_two : Name → Bool
ends_with_two x = begins_with_two (drop (length x - 2) x)

abbrev pub is_private : Name → Bool
is_private x = begins_with_two x && not (ends_with_two x)

-- without the underscores at its front
abbrev pub stripped : Name → Name
stripped [] = []
stripped (a ∷ x) = if a == underscore then stripped x else a ∷ x

abbrev pub is_empty : Name → Bool
is_empty [] = true
is_empty (a ∷ x) = false

-- as a name is read in the body of a class; outside of classes the class's name is empty
abbrev pub mangled : (class : Name) → Name → Name
mangled c x = if is_private x && not (is_empty (stripped c)) then underscore ∷ (stripped c ++ x) else x
