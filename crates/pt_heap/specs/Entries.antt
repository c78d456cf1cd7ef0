-- A dictionary as the list of its entries (Library Reference, "Mapping Types": insertion order, and a key that is there keeps
-- its place).
use Rattle.std.specs.Prelude.{◌≡◌, ℕ, length, List, [], ◌∷◌, Option, None, Some, map, if◌then◌else◌}
use Rattle.std.specs.List.{IsDistinct}
use Rattle.std.specs.Str.{bytes_eq}
use Rattle.pt_heap.specs.declared.value.Value.{Value}
use Rattle.pt_heap.specs.Limits.{entry_limit}

-- a key, the value that it was first written as, and the value behind it
pub record Entry : Type 0 where
  pub key : List ℕ
  pub first : Value
  pub value : Value

abbrev pub entry : List ℕ → (first value : Value) → Entry
entry k first v = record { key = k; first = first; value = v }

-- the value behind a key
abbrev pub found : List ℕ → List Entry → Option Value
found k [] = None
found k (e ∷ es) = if bytes_eq k e.key then Some e.value else found k es

-- a key that is there keeps its place and its first form and takes the value; a new one goes last
abbrev pub put : List ℕ → Value → Value → List Entry → List Entry
put k first v [] = record { key = k; first = first; value = v } ∷ []
put k first v (e ∷ es) = if bytes_eq k e.key then record { key = e.key; first = e.first; value = v } ∷ es else e ∷ put k first v es

-- the entries but that of a key
abbrev pub without : List ℕ → List Entry → List Entry
without k [] = []
without k (e ∷ es) = if bytes_eq k e.key then es else e ∷ without k es

-- a new key, for which there is no room
abbrev pub HasNoRoomFor : List Entry → List ℕ → Type 0
HasNoRoomFor es k = (found k es ≡ None) × (length es ≡ entry_limit)

-- no two entries have the same key
abbrev pub HaveDistinctKeys : List Entry → Type 0
HaveDistinctKeys es = IsDistinct bytes_eq (map (λ e. e.key) es)
