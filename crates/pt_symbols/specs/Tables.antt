-- What the tables of a script's names have.
use Rattle.std.specs.Prelude.{ℕ, ◌&&◌, ◌==◌, List, [], ◌∷◌, ◌++◌, slice_get, Option, Some, None, if◌then◌else◌}
use Rattle.std.specs.BTreeMap.{BTreeMap, get}
use Rattle.std.specs.Ordering.{nat_cmp}
use Rattle.pt_scopes.specs.declared.region.Mention.{Mention}
use Rattle.pt_scopes.specs.declared.region.Region.{Region}
use Rattle.pt_tree.specs.Syntax.{Name}
use Rattle.pt_symbols.specs.declared.frees.FreeNames.{FreeNames}
use Rattle.pt_symbols.specs.declared.mentions.MentionTable.{MentionTable}
use Rattle.pt_symbols.specs.declared.nexts.NextTable.{NextTable}

-- a row that isn't there is empty
abbrev pub row_of : {X : Type 0} → Option (List X) → List X
row_of None = []
row_of (Some xs) = xs

abbrev pub names_in : FreeNames → (region : ℕ) → List Name
names_in f r = row_of (slice_get f.rows.items r)

abbrev pub mentions_in : MentionTable → (region : ℕ) → List ℕ
mentions_in t r = row_of (slice_get t.rows.items r)

abbrev pub mention_if : Option Mention → List Mention
mention_if None = []
mention_if (Some m) = m ∷ []

-- the mentions at places of a list
abbrev pub mentions_at : List Mention → (places : List ℕ) → List Mention
mentions_at ms [] = []
mentions_at ms (i ∷ is) = mention_if (slice_get ms i) ++ mentions_at ms is

abbrev pub found : Option (BTreeMap ℕ ℕ) → (next : ℕ) → Option ℕ
found None n = None
found (Some m) n = get nat_cmp m n

abbrev pub next_in : NextTable → (block next : ℕ) → Option ℕ
next_in t h n = found (slice_get t.rows.items h) n

-- with the first Next of a region before those behind it
abbrev pub next_too : Option Region → (next : Option ℕ) → (region : ℕ) → (block number : ℕ) → (behind : Option ℕ) → Option ℕ
next_too None m k h n o = o
next_too (Some here) None k h n o = o
next_too (Some here) (Some m) k h n o = if (here.home == h) && (m == n) then Some k else o
