-- Tables in which each item is kept once, in the order in which it was first wanted.
use Rattle.std.specs.Prelude.{Vec, ◌≡◌, ℕ, suc, List, [], ◌∷◌, ◌++◌, Bool, true, false, nat_eq, Option, Some, None, option_map, if◌then◌else◌}
use Rattle.std.specs.Ordering.{nat_cmp, int_cmp, int_eq}
use Rattle.std.specs.Cmp.Lexicographic.{slice_cmp}
use Rattle.std.specs.BTreeMap.{BTreeMap, get, get_by}
use Rattle.pt_instr.specs.declared.TextNo.{TextNo}
use Rattle.pt_code.specs.declared.Const.{Const}
use Rattle.pt_code.specs.declared.Const.TheVariants as const
use Rattle.pt_assembler.specs.declared.constants.Numbers.{Numbers}

-- the number of the first item that is the one which is wanted, or how many there are
abbrev pub number_in : {A : Type 0} → (is_wanted : A → Bool) → List A → ℕ
number_in is [] = 0
number_in is (x ∷ xs) = if is x then 0 else suc (number_in is xs)

-- the same where it is there
abbrev pub found_in : {A : Type 0} → (is_wanted : A → Bool) → List A → Option ℕ
found_in is [] = None
found_in is (x ∷ xs) = if is x then Some 0 else option_map suc (found_in is xs)

-- with the item that is wanted at the end, where it isn't there
abbrev pub kept : {A : Type 0} → (is_wanted : A → Bool) → A → List A → List A
kept is a [] = a ∷ []
kept is a (x ∷ xs) = if is x then x ∷ xs else x ∷ kept is a xs

abbrev pub is_text : TextNo → TextNo → Bool
is_text s t = nat_eq s.0 t.0

abbrev pub is_const : Const → Const → Bool
is_const const.None const.None = true
is_const const.False const.False = true
is_const const.True const.True = true
is_const (const.Int m) (const.Int n) = int_eq m n
is_const (const.Text s) (const.Text t) = is_text s t
is_const const.Ellipsis const.Ellipsis = true
is_const j k = false

-- the first list with more behind it
abbrev pub Begins : {A : Type 0} → (first whole : List A) → Type 0
Begins {A} xs ys = (more : List A) × (ys ≡ xs ++ more)

-- what a sorted tree has at a list
abbrev pub by_items : {X Z : Type 0} → BTreeMap (Vec ℕ Z) X → List ℕ → Option X
by_items m x = get_by (λ k. slice_cmp nat_cmp x k.items) m

-- what the numbers of constants have at one, and with one more
abbrev pub known_in : Numbers → Const → Option ℕ
known_in t const.None = t.none
known_in t const.False = t.no
known_in t const.True = t.yes
known_in t const.Ellipsis = t.ellipsis
known_in t (const.Int n) = get int_cmp t.integers n
known_in t (const.Text x) = get nat_cmp t.texts x.0

abbrev pub knows_more : Const → (number : ℕ) → (Const → Option ℕ) → Const → Option ℕ
knows_more c n f k = if is_const c k then Some n else f k
