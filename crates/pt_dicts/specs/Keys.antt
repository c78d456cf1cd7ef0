-- Which key a value is, and which values are none (Language Reference 3.3.1, `object.__hash__`; Library Reference, `hash`).
use Rattle.std.specs.Prelude.{◌≡◌, ℕ, zero, suc, ℤ, pos, List, [], ◌∷◌, ◌++◌, Option, None, Some, Result, Ok, Err, Bool, true, false, codes, slice_get}
use Rattle.pt_base.specs.declared.numbers.ObjId.{ObjId}
use Rattle.pt_heap.specs.declared.value.Value.{Value}
use Rattle.pt_heap.specs.declared.value.Value.TheVariants as value
use Rattle.pt_heap.specs.declared.object.Object.{Object}
use Rattle.pt_heap.specs.declared.object.Object.TheVariants as object
use Rattle.pt_builtin_objects.specs.declared.TheConstants.{LIST_CLASS, SET_CLASS, DICT_CLASS}
use Rattle.pt_dicts.specs.declared.key.KeyErr.{KeyErr}
use Rattle.pt_dicts.specs.declared.key.KeyErr.TheVariants.{Unhashable, UserHash, Deep, Memory}
use Rattle.pt_dicts.specs.Chain.{class_value}
use Rattle.pt_dicts.specs.Codes.{KeyValue, KeyValues, none, ellipsis, not_implemented, number, text, tuple, object, no_keys, more_keys, codes_of, list_codes}

-- the key of a name
abbrev pub name_codes : List ℕ → List ℕ
name_codes name = codes_of (text name)

-- a class with `__hash__` is asked, and one with `__eq__` alone has no keys
abbrev pub hashed : (class : ObjId) (place : ℕ) → (hash eq : Option Value) → Result KeyValue KeyErr
hashed class p (Some f) eq = Err (UserHash class)
hashed class p None (Some f) = Err (Unhashable class)
hashed class p None None = Ok (object p)

abbrev pub instance_key : List Object → (class place : ObjId) → Result KeyValue KeyErr
instance_key h class id = hashed class id.0 (class_value h (name_codes (codes "__hash__")) class) (class_value h (name_codes (codes "__eq__")) class)

abbrev pub object_key : (List Value → Result KeyValue KeyErr) → List Object → ObjId → Option Object → Result KeyValue KeyErr
object_key items h id (Some (object.Str t)) = Ok (text t)
object_key items h id (Some (object.Tuple vs)) = items vs
object_key items h id (Some (object.List vs)) = Err (Unhashable LIST_CLASS)
object_key items h id (Some (object.Set d)) = Err (Unhashable SET_CLASS)
object_key items h id (Some (object.Dict d)) = Err (Unhashable DICT_CLASS)
object_key items h id (Some (object.Instance x)) = instance_key h x.class id
object_key items h id (Some (object.Error x)) = instance_key h x.class id
object_key items h id _ = Ok (object id.0)

-- a truth value is the number that it stands for
abbrev pub truth : Bool → ℤ
truth true = pos 1
truth false = pos 0

-- the key of a value, where that of a tuple is known
abbrev pub key_by : (List Value → Result KeyValue KeyErr) → List Object → Value → Result KeyValue KeyErr
key_by items h value.None = Ok none
key_by items h (value.Bool b) = Ok (number (truth b))
key_by items h (value.Int z) = Ok (number z)
key_by items h value.Ellipsis = Ok ellipsis
key_by items h value.NotImplemented = Ok not_implemented
key_by items h (value.Obj id) = object_key items h id (slice_get h id.0)

-- the refusal of the first that is refused
abbrev pub both : Result KeyValue KeyErr → Result KeyValues KeyErr → Result KeyValues KeyErr
both (Ok key) (Ok keys) = Ok (more_keys key keys)
both (Ok key) (Err e) = Err e
both (Err e) keys = Err e

abbrev pub keys_by : (Value → Result KeyValue KeyErr) → List Value → Result KeyValues KeyErr
keys_by key [] = Ok no_keys
keys_by key (v ∷ vs) = both (key v) (keys_by key vs)

abbrev pub as_tuple : Result KeyValues KeyErr → Result KeyValue KeyErr
as_tuple (Ok keys) = Ok (tuple keys)
as_tuple (Err e) = Err e

-- the key of a tuple, in which so many stand inside one another at most, it among them
unfoldable pub tuple_key : List Object → (depth : ℕ) → List Value → Result KeyValue KeyErr
tuple_key h zero vs = Err Deep
tuple_key h (suc depth) vs = as_tuple (keys_by (key_by (tuple_key h depth) h) vs)

abbrev pub key_value : List Object → (depth : ℕ) → Value → Result KeyValue KeyErr
key_value h depth v = key_by (tuple_key h depth) h v

-- the key of what stands at a place, where so many tuples may stand inside one another
abbrev pub key_at : List Object → (depth : ℕ) → ObjId → Result KeyValue KeyErr
key_at h depth id = object_key (tuple_key h depth) h id (slice_get h id.0)

-- how many tuples may stand inside one another in a key
abbrev pub depth_limit : ℕ
depth_limit = 1000

-- the numbers of a key
abbrev pub coded : Result KeyValue KeyErr → Result (List ℕ) KeyErr
coded (Ok key) = Ok (codes_of key)
coded (Err e) = Err e

abbrev pub coded_list : Result KeyValues KeyErr → Result (List ℕ) KeyErr
coded_list (Ok keys) = Ok (list_codes keys)
coded_list (Err e) = Err e

-- what is answered is this, unless memory ran out
abbrev pub Answers : Result (List ℕ) KeyErr → Result (List ℕ) KeyErr → Type 0
Answers (Ok key) wanted = wanted ≡ Ok key
Answers (Err Memory) wanted = Unit {0}
Answers (Err (Unhashable class)) wanted = wanted ≡ Err (Unhashable class)
Answers (Err (UserHash class)) wanted = wanted ≡ Err (UserHash class)
Answers (Err Deep) wanted = wanted ≡ Err Deep

-- the numbers of a key were put behind others, or it is refused
abbrev pub Writes : (old new : List ℕ) → Result (Unit {0}) KeyErr → Result (List ℕ) KeyErr → Type 0
Writes old new (Ok u) (Ok key) = new ≡ old ++ key
Writes old new (Ok u) (Err e) = ⊥
Writes old new (Err Memory) wanted = Unit {0}
Writes old new (Err (Unhashable class)) wanted = wanted ≡ Err (Unhashable class)
Writes old new (Err (UserHash class)) wanted = wanted ≡ Err (UserHash class)
Writes old new (Err Deep) wanted = wanted ≡ Err Deep
