-- What `*NAME` and `**NAME` are given in a call (Language Reference 8.7): a new tuple of the arguments without names that are left, and
-- a new dictionary of the named ones, whose keys are new texts.
use Rattle.std.specs.Prelude.{Bool, List, [], ◌∷◌, ◌++◌, length, nat_eq, Option, Some, None, Result, Ok, Err, if◌then◌else◌}
use Rattle.pt_base.specs.declared.what.What.{What}
use Rattle.pt_base.specs.declared.what.What.TheVariants.{Length}
use Rattle.pt_heap.specs.Entries.{Entry, put}
use Rattle.pt_heap.specs.Limits.{entry_limit}
use Rattle.pt_heap.specs.declared.value.Value.{Value}
use Rattle.pt_heap.specs.declared.view.Binding.{Binding}
use Rattle.pt_heap.specs.declared.object.Object.{Object}
use Rattle.pt_heap.specs.declared.object.Object.TheVariants as object
use Rattle.pt_dicts.specs.Keys.{name_codes}
use Rattle.pt_bind.specs.declared.arguments.Params.{Params}
use Rattle.pt_bind.specs.declared.arguments.Locals.{Locals}
use Rattle.sem_run.specs.run.Host.{Made, made, beyond}
use Rattle.pt_host.specs.World.{Allotted, allot}

abbrev pub Values : Type 0
Values = Made (List (Option Value)) (List Object)

abbrev pub Entries : Type 0
Entries = Made (List Entry) (List Object)

-- what came of something that was changed, with the heap, or why nothing did
abbrev pub unless : {A : Type 0} → (refused : Option What) → A → List Object → Made A (List Object)
unless None a h = made a h
unless (Some what) a h = beyond what

abbrev pub given : {A : Type 0} → Result A What → List Object → Made A (List Object)
given (Ok a) h = made a h
given (Err what) h = beyond what

-- an object's value behind others
abbrev pub behind : List (Option Value) → Allotted → Values
behind vs (made v h) = made (vs ++ Some v ∷ []) h
behind vs (beyond what) = beyond what

abbrev pub entered : Binding → List Entry → Allotted → Entries
entered b es (made v h) =
    if nat_eq (length es) entry_limit then beyond Length
    else made (put (name_codes b.name) v b.value es) h
entered b es (beyond what) = beyond what

-- the entries of named arguments, behind others
abbrev pub entries_from : Entries → List Binding → Entries
entries_from (made es h) (b ∷ bs) = entries_from (entered b es (allot (object.Str b.name) h)) bs
entries_from a bs = a

abbrev pub dict_behind : List (Option Value) → Entries → Values
dict_behind vs (made es h) = behind vs (allot (object.Dict es) h)
dict_behind vs (beyond what) = beyond what

abbrev pub with_star : (is_there : Bool) → (star : List Value) → List (Option Value) → List Object →
    Values
with_star b star vs h = if b then behind vs (allot (object.Tuple star) h) else made vs h

abbrev pub with_stars : (is_there : Bool) → (stars : List Binding) → Values → Values
with_stars b stars (made vs h) =
    if b then dict_behind vs (entries_from (made [] h) stars) else made vs h
with_stars b stars (beyond what) = beyond what

-- the values of all parameters: those that one argument fills, `*NAME`, `**NAME`
abbrev pub values_given : Params → Locals → List Object → Values
values_given params ls h =
    with_stars params.stars ls.stars (with_star params.star ls.star ls.values h)
