-- Names and cells that are read, bound and unbound keep a store sound.
use Rattle.std.proofs.Common.{◌≡◌, ◌<◌, ◌≤◌, ℕ, zero, suc, Bool, true, false, cond, List, [], ◌∷◌, ◌++◌, length, map, set, Option, None, Some, slice_get, if◌then◌else◌, refl, arith, ◌+◌}
use Rattle.std.specs.Prelude.{position, codes, option_map}
use Rattle.std.specs.Map.{lookup}
use Rattle.std.specs.Option.{option_flatten, option_or}
use Rattle.std.specs.Str.{bytes_eq}
use Rattle.std.proofs.lemmas.List.{length-map}
use Rattle.std.proofs.lemmas.List.Quantifiers.{position-Some}
use Rattle.indexmap.specs.IndexMap.{insert_entry}
use Rattle.pt_tables.specs.Names.{builtin_names, unbuilt_names}
use Rattle.pt_tree.specs.Syntax.{Name}
use Rattle.sem_control.specs.control.Turn as T
use Rattle.sem_control.specs.control.Turn.{Scope, Variable}
use Rattle.pt_heap.specs.declared.value.Value.{Value}
use Rattle.pt_heap.specs.declared.value.Value.TheVariants as value
use Rattle.pt_heap.specs.declared.object.Object.{Object}
use Rattle.pt_heap.specs.Sound.{IsClassAt, IsWithin}
use Rattle.pt_builtin_objects.specs.Start.{start_rows, start_objects}
use Rattle.pt_names.specs.Names.{Named, name_value}
use Rattle.pt_bind.specs.NameSets.{is_among}
use Rattle.pt_helper_objects.specs.Objects.{hidden_place, helper_rows}
use Rattle.pt_base.specs.declared.what.What.TheVariants.{Special}
use Rattle.sem_run.specs.run.Host.{Here, answer, leave}
use Rattle.pt_host.specs.World.{Stores}
use Rattle.pt_host.specs.Texts.{unbound_text, unbound_class}
use Rattle.pt_host.specs.Builtins.{Builtin, is, unavailable, no_builtin, at_place, start_object, written_names, written_function, builtin, hidden_builtin, meaning}
use Rattle.pt_host.specs.Variables.{cell_number, free_number, number_in, is_no_method, cell_value, variable_value, global_value, readable_value, raise_unbound, by_builtin, unless_bound, load_by, load, with_cell, put, store, delete_by, delete, make_anew, number_value, cell_of}
use Rattle.pt_host.specs.Sound.{IsWithinIf, CellsWithin, NamesWithin, IsSoundFrom, KeepsSound}
use Rattle.pt_host.proofs.Within.{Anything, raise-text-sound}

-- what is held in lists
pub named-within : (h : List Object) (x : Name) (es : Named) → NamesWithin h es → IsWithinIf h (name_value x es)
named-within h x [] w = tt
named-within h x (e ∷ es) w = by (named-within h x es w.1) (bytes_eq x e.0)
  where
    by : IsWithinIf h (name_value x es) → (b : Bool) → IsWithinIf h (option_flatten (cond b (Some e.1) (lookup (bytes_eq x) es)))
    by rest true = w.0
    by rest false = rest

pub put-within : (h : List Object) (x : Name) (v : Option Value) (es : Named) → NamesWithin h es → IsWithinIf h v → NamesWithin h (insert_entry bytes_eq es x v)
put-within h x v [] w u = (u, tt)
put-within h x v (e ∷ es) w u = by (put-within h x v es w.1 u) (bytes_eq x e.0)
  where
    by : NamesWithin h (insert_entry bytes_eq es x v) → (b : Bool) → NamesWithin h (if b then (e.0, v) ∷ es else e ∷ insert_entry bytes_eq es x v)
    by rest true = (u, w.1)
    by rest false = (w.0, rest)

pub cell-within : (h : List Object) (n : ℕ) (os : List (Option Value)) → CellsWithin h os → IsWithinIf h (option_flatten (slice_get os n))
cell-within h n [] w = tt
cell-within h zero (o ∷ os) w = w.0
cell-within h (suc n) (o ∷ os) w = cell-within h n os w.1

set-within : (h : List Object) (n : ℕ) (v : Option Value) (os : List (Option Value)) → CellsWithin h os → IsWithinIf h v → CellsWithin h (set os n v)
set-within h n v [] w u = tt
set-within h zero v (o ∷ os) w u = (u, w.1)
set-within h (suc n) v (o ∷ os) w u = (w.0, set-within h n v os w.1 u)

pub cells-both : (h : List Object) (os ps : List (Option Value)) → CellsWithin h os → CellsWithin h ps → CellsWithin h (os ++ ps)
cells-both h [] ps w u = u
cells-both h (o ∷ os) ps w u = (w.0, cells-both h os ps w.1 u)

or-within : (h : List Object) (o p : Option Value) → IsWithinIf h o → IsWithinIf h p → IsWithinIf h (option_or o p)
or-within h None p w u = u
or-within h (Some v) p w u = w

-- builtins are objects that a run begins with
abbrev first_count : ℕ
first_count = length start_rows + length helper_rows

abbrev BuiltinBelow : Builtin → Type 0
BuiltinBelow (is (value.Obj id)) = id.0 < first_count
BuiltinBelow b = Unit {0}

place-below : (x : Name) → BuiltinBelow (start_object x)
place-below x = by (position (bytes_eq x) (map (λ r. r.0) start_rows)) refl
  where
    by : (o : Option ℕ) → position (bytes_eq x) (map (λ r. r.0) start_rows) ≡ o → BuiltinBelow (at_place o)
    by None e = tt
    by (Some i) e =
        let p : i < length (map (λ r. r.0) start_rows) = (position-Some (bytes_eq x) (map (λ r. r.0) start_rows) i [] e).0 in
        omega (arith, p, length-map start_rows (λ r. r.0))

hidden-below : (x : Name) → BuiltinBelow (at_place (hidden_place x))
hidden-below x = by (position (bytes_eq x) (map (λ r. r.0) helper_rows)) refl
  where
    by : (o : Option ℕ) → position (bytes_eq x) (map (λ r. r.0) helper_rows) ≡ o → BuiltinBelow (at_place (option_map (λ p. length start_rows + p) o))
    by None e = tt
    by (Some i) e =
        let p : i < length (map (λ r. r.0) helper_rows) = (position-Some (bytes_eq x) (map (λ r. r.0) helper_rows) i [] e).0 in
        omega (arith, p, length-map helper_rows (λ r. r.0))

builtin-below : (x : Name) → BuiltinBelow (builtin x)
builtin-below x =
    by (is_among builtin_names x) (bytes_eq x (codes "NotImplemented")) (bytes_eq x (codes "Ellipsis")) (is_among unbuilt_names x) (is_among written_names x)
    (bytes_eq x (codes "__name__"))
  where
    listed : (c d e : Bool) → BuiltinBelow (if c then is value.Ellipsis else if d then unavailable else if e then written_function x else start_object x)
    listed true d e = tt
    listed false true e = tt
    listed false false true = hidden-below (x ++ codes "_of")
    listed false false false = place-below x

    by : (a b c d e f : Bool)
        → BuiltinBelow
        (if a then (if b then is value.NotImplemented else if c then is value.Ellipsis else if d then unavailable else if e then written_function x else start_object x)
        else if f then start_object (codes "__main__") else no_builtin)
    by true true c d e f = tt
    by true false c d e f = listed c d e
    by false b c d e true = place-below (codes "__main__")
    by false b c d e false = tt

meaning-below : (hidden : Bool) (x : Name) → BuiltinBelow (meaning hidden x)
meaning-below false x = builtin-below x
meaning-below true x = by (hidden_place x) (hidden-below x)
  where
    by : (o : Option ℕ) → BuiltinBelow (at_place o) → BuiltinBelow (hidden_builtin o x)
    by None w = builtin-below x
    by (Some p) w = w

builtin-within : (h : List Object) (v : Value) → first_count ≤ length h → BuiltinBelow (is v) → IsWithin h v
builtin-within h value.None l b = tt
builtin-within h (value.Bool x) l b = tt
builtin-within h (value.Int z) l b = tt
builtin-within h value.Ellipsis l b = tt
builtin-within h value.NotImplemented l b = tt
builtin-within h (value.Obj id) l b = omega (arith, l, b)

class-there : (s : Scope) → IsClassAt start_objects (unbound_class s).0
class-there T.local = (_, refl)
class-there T.cell = (_, refl)
class-there T.free = (_, refl)
class-there T.global = (_, refl)
class-there T.of_class = (_, refl)

module _ (n : ℕ) (st : Stores) (s : IsSoundFrom n st) where
  abbrev heap : List Object
  heap = st.world.heap

  pub cell-there : (o : Option ℕ) → IsWithinIf heap (cell_value o st.world)
  cell-there None = tt
  cell-there (Some k) = cell-within heap k st.world.cells s.cells

  bound-within : (c : Scope) (x : Name) → IsWithinIf heap (variable_value c x st)
  bound-within T.local x = named-within heap x st.names.values s.names
  bound-within T.cell x = cell-there (cell_number x st.names)
  bound-within T.free x = cell-there (free_number x st.names)
  bound-within T.global x = named-within heap x st.world.globals s.globals
  bound-within T.of_class x = named-within heap x st.names.values s.names

  global-within : (hidden : Bool) (x : Name) → IsWithinIf heap (global_value hidden x st)
  global-within true x = tt
  global-within false x = bound-within T.global x

  readable-within : (hidden : Bool) (c : Scope) (x : Name) → IsWithinIf heap (readable_value hidden c x st)
  readable-within hidden T.local x = bound-within T.local x
  readable-within hidden T.cell x = bound-within T.cell x
  readable-within hidden T.free x = bound-within T.free x
  readable-within hidden T.global x = global-within hidden x
  readable-within hidden T.of_class x =
      or-within heap (variable_value T.of_class x st) (global_value hidden x st) (bound-within T.of_class x) (global-within hidden x)

  pub cell-put : (o : Option ℕ) (v : Option Value) → IsWithinIf heap v → IsSoundFrom n (with_cell o v st)
  cell-put None v w = s
  cell-put (Some k) v w = record { objects = s.objects; heap = s.heap; globals = s.globals; cells = set-within heap k v st.world.cells s.cells w; names = s.names }

  put-sound : (c : Scope) (x : Name) (v : Option Value) → IsWithinIf heap v → IsSoundFrom n (put c x v st)
  put-sound T.local x v w = record { objects = s.objects; heap = s.heap; globals = s.globals; cells = s.cells; names = put-within heap x v st.names.values s.names w }
  put-sound T.cell x v w = cell-put (cell_number x st.names) v w
  put-sound T.free x v w = cell-put (free_number x st.names) v w
  put-sound T.global x v w = record { objects = s.objects; heap = s.heap; globals = put-within heap x v st.world.globals s.globals w; cells = s.cells; names = s.names }
  put-sound T.of_class x v w = record { objects = s.objects; heap = s.heap; globals = s.globals; cells = s.cells; names = put-within heap x v st.names.values s.names w }

  pub store-sound : (x : Variable) (v : Value) → IsWithin heap v → KeepsSound Anything n (store x v st)
  store-sound x v w = by (is_no_method x.scope x.name)
    where
      by : (b : Bool) → KeepsSound {A = Unit {0}} Anything n (if b then leave Special else answer tt (put x.scope x.name (Some v) st))
      by true = tt
      by false = (put-sound x.scope x.name (Some v) w, tt)

  anew-sound : (c : Scope) (x : Name) → IsSoundFrom n (make_anew c x st)
  anew-sound T.cell x = record { objects = s.objects; heap = s.heap; globals = s.globals; cells = cells-both heap st.world.cells (None ∷ []) s.cells (tt, tt); names = s.names }
  anew-sound T.local x = put-sound T.local x None tt
  anew-sound T.free x = put-sound T.free x None tt
  anew-sound T.global x = put-sound T.global x None tt
  anew-sound T.of_class x = put-sound T.of_class x None tt

  pub fresh-sound : (x : Variable) → IsSoundFrom n (make_anew x.scope x.name st)
  fresh-sound x = anew-sound x.scope x.name

  number-within : (o : Option ℕ) → IsWithin heap (number_value o)
  number-within None = tt
  number-within (Some k) = tt

  pub cell-of-sound : (x : Variable) → KeepsSound IsWithin n (cell_of x st)
  cell-of-sound x = (s, number-within (number_in x.scope x.name st.names))

  module _ (r : Here Value) (active : IsWithinIf heap r.active) where
    unbound-sound : {A : Type 0} (P : List Object → A → Type 0) (c : Scope) (x : Name) → KeepsSound P n (raise_unbound c x r st)
    unbound-sound P c x = raise-text-sound P n st (unbound_class c) (unbound_text c x) r s (class-there c) active

    delete-by-sound : (o : Option Value) (c : Scope) (x : Name) → KeepsSound Anything n (delete_by o c x r st)
    delete-by-sound (Some v) c x = (put-sound c x None tt, tt)
    delete-by-sound None c x = unbound-sound Anything c x

    pub delete-sound : (x : Variable) → KeepsSound Anything n (delete x r st)
    delete-sound x = delete-by-sound (variable_value x.scope x.name st) x.scope x.name

    module _ (enough : first_count ≤ length heap) where
      builtin-sound : (b : Builtin) (c : Scope) (x : Name) → BuiltinBelow b → KeepsSound IsWithin n (by_builtin b c x r st)
      builtin-sound (is v) c x l = (s, builtin-within heap v enough l)
      builtin-sound unavailable c x l = tt
      builtin-sound no_builtin c x l = unbound-sound IsWithin c x

      unless-sound : (c : Scope) (x : Name) → KeepsSound IsWithin n (unless_bound c x r st)
      unless-sound T.global x = builtin-sound (meaning r.block.hidden x) T.global x (meaning-below r.block.hidden x)
      unless-sound T.of_class x = builtin-sound (meaning r.block.hidden x) T.of_class x (meaning-below r.block.hidden x)
      unless-sound T.local x = unbound-sound IsWithin T.local x
      unless-sound T.cell x = unbound-sound IsWithin T.cell x
      unless-sound T.free x = unbound-sound IsWithin T.free x

      load-by-sound : (o : Option Value) (c : Scope) (x : Name) → IsWithinIf heap o → KeepsSound IsWithin n (load_by o c x r st)
      load-by-sound (Some v) c x w = (s, w)
      load-by-sound None c x w = unless-sound c x

      pub load-sound : (x : Variable) → KeepsSound IsWithin n (load x r st)
      load-sound x = load-by-sound (readable_value r.block.hidden x.scope x.name st) x.scope x.name (readable-within r.block.hidden x.scope x.name)
