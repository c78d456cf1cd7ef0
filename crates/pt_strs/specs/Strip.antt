-- Characters taken off the ends of a text (Library Reference, `str.strip`).
use Rattle.std.specs.Prelude.{ℕ, Bool, ◌==◌, List, [], ◌∷◌, Option, None, Some, reverse, if◌then◌else◌}
use Rattle.std.specs.List.{list_any}
use Rattle.pt_strs.specs.Blank.{is_blank}

-- the characters at the front that pass
abbrev pub front : (ℕ → Bool) → List ℕ → List ℕ
front p [] = []
front p (c ∷ cs) = if p c then c ∷ front p cs else []

-- what is left behind the characters at the front that pass
abbrev pub without_front : (ℕ → Bool) → List ℕ → List ℕ
without_front p [] = []
without_front p (c ∷ cs) = if p c then without_front p cs else c ∷ cs

-- the same at the end
abbrev pub without_end : (ℕ → Bool) → List ℕ → List ℕ
without_end p cs = reverse (without_front p (reverse cs))

-- the characters that are taken off: blanks, or those of a text
abbrev pub goes : Option (List ℕ) → ℕ → Bool
goes None c = is_blank c
goes (Some set) c = list_any (λ d. d == c) set

abbrev pub stripped : (set : Option (List ℕ)) (left right : Bool) → List ℕ → List ℕ
stripped set left right cs =
    let rest = if left then without_front (goes set) cs else cs in
    if right then without_end (goes set) rest else rest
