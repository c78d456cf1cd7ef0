-- What exceptions say of names and calls; of unbound names in CPython's words.
use Rattle.std.specs.Prelude.{ℕ, ◌==◌, List, [], ◌∷◌, ◌++◌, codes, if◌then◌else◌}
use Rattle.pt_base.specs.declared.numbers.ObjId.{ObjId}
use Rattle.pt_tree.specs.Syntax.{Name}
use Rattle.sem_control.specs.control.Turn as T
use Rattle.sem_control.specs.control.Turn.{Scope}
use Rattle.pt_bind.specs.declared.arguments.BindErr.{BindErr}
use Rattle.pt_bind.specs.declared.arguments.BindErr.TheVariants as refusal
use Rattle.pt_host.specs.declared.places.TheConstants.{NAME_ERROR, UNBOUND_LOCAL_ERROR}

-- a name that is unbound (Language Reference 4.2.2): of the function itself, of one around, or of
-- the module
abbrev pub local_text : Name → List ℕ
local_text x =
    codes "cannot access local variable '" ++ x
    ++ codes "' where it is not associated with a value"

abbrev pub free_text : Name → List ℕ
free_text x =
    codes "cannot access free variable '" ++ x
    ++ codes "' where it is not associated with a value in enclosing scope"

abbrev pub name_text : Name → List ℕ
name_text x = codes "name '" ++ x ++ codes "' is not defined"

-- a name of a comprehension begins with dots, which aren't told
abbrev pub without_dots : Name → List ℕ
without_dots [] = []
without_dots (c ∷ cs) = if c == 46 then without_dots cs else c ∷ cs

abbrev pub unbound_text : Scope → Name → List ℕ
unbound_text T.local x = local_text (without_dots x)
unbound_text T.cell x = local_text (without_dots x)
unbound_text T.free x = free_text (without_dots x)
unbound_text T.global x = name_text (without_dots x)
unbound_text T.of_class x = name_text (without_dots x)

abbrev pub unbound_class : Scope → ObjId
unbound_class T.local = UNBOUND_LOCAL_ERROR
unbound_class T.cell = UNBOUND_LOCAL_ERROR
unbound_class _ = NAME_ERROR

-- arguments that don't fit the parameters of a function; no text stands for want of memory
abbrev pub binding_text : (function : Name) → BindErr → List ℕ
binding_text f (refusal.Missing x) = f ++ codes "() misses argument '" ++ x ++ codes "'"
binding_text f (refusal.TooMany n) = f ++ codes "() got too many arguments"
binding_text f (refusal.Unexpected x) =
    f ++ codes "() got an unexpected argument '" ++ x ++ codes "'"
binding_text f (refusal.Double x) = f ++ codes "() got argument '" ++ x ++ codes "' twice"
binding_text f refusal.Memory = []

-- an attribute that a value of a class doesn't have (6.3.1)
abbrev pub missing_text : (class : List ℕ) → Name → List ℕ
missing_text c x = codes "'" ++ c ++ codes "' object has no attribute '" ++ x ++ codes "'"

-- what is no function (6.3.4), by its class
abbrev pub not_callable_text : (class : List ℕ) → List ℕ
not_callable_text c = codes "'" ++ c ++ codes "' object is not callable"

-- a module that there isn't, and a name that a module doesn't have (7.11)
abbrev pub no_module_text : Name → List ℕ
no_module_text x = codes "No module named '" ++ x ++ codes "'"

abbrev pub no_name_text : Name → List ℕ
no_name_text x = codes "cannot import name '" ++ x ++ codes "'"
