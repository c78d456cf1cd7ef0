-- What an expression gives in a frame where nothing is called: operands from left to right, and then its own operation (Language
-- Reference 6). Objects that it makes stand behind those that are there.
use Rattle.std.specs.Prelude.{Bool, true, false, List, [], ◌∷◌, ◌++◌, Option, Some, None, Err, codes, if◌then◌else◌}
use Rattle.std.specs.Str.{bytes_eq}
use Rattle.pt_base.specs.declared.what.What.TheVariants.{Feature}
use Rattle.pt_tree.specs.declared.expression.Constant.{Constant}
use Rattle.pt_tree.specs.declared.expression.Constant.TheVariants as constant
use Rattle.pt_tree.specs.declared.expression.Conversion.{Conversion}
use Rattle.pt_tree.specs.Syntax as S
use Rattle.pt_tree.specs.Syntax.{Name, Exp, Exps, Opt, Pieces, Entries, Links}
use Rattle.pt_heap.specs.declared.value.Value.{Value}
use Rattle.pt_heap.specs.declared.value.Value.TheVariants as value
use Rattle.pt_heap.specs.declared.object.Object.{Object}
use Rattle.pt_heap.specs.declared.object.Object.TheVariants as object
use Rattle.pt_heap.specs.declared.view.Binding.{Binding}
use Rattle.pt_content.specs.pt_attrs.Look.{object_of}
use Rattle.pt_content.specs.declared.op.Op.{Op}
use Rattle.pt_content.specs.declared.op.Op.TheVariants as op
use Rattle.pt_content.specs.declared.answer.PrimAns.{PrimAns}
use Rattle.pt_content.specs.declared.answer.PrimAns.TheVariants as prim
use Rattle.pt_content.specs.Classes.{class_name}
use Rattle.pt_prims.specs.Operations.{prim_answer, prim_heap}
use Rattle.pt_prims.specs.pt_methods.declared.attribute.Attribute.{Attribute}
use Rattle.pt_prims.specs.pt_methods.declared.attribute.Attribute.TheVariants.{Method, Held, Bound, NameOf, Arguments, Missing, Unbuilt}
use Rattle.pt_prims.specs.pt_methods.Attributes.{attribute_of, receiver_of}
use Rattle.pt_builtins.specs.pt_host.declared.places.TheConstants.{ATTRIBUTE_ERROR, NAME_ERROR}
use Rattle.pt_builtins.specs.pt_host.World.{Allotted, allot}
use Rattle.pt_builtins.specs.pt_host.Attributes.{arguments_in, bound_object, method_object}
use Rattle.pt_builtins.specs.pt_host.Builtins.{Builtin, is, unavailable, no_builtin}
use Rattle.pt_builtins.specs.pt_host.Texts.{missing_text, name_text}
use Rattle.sem_run.specs.run.Host.{made, beyond}
use Rattle.pt_eval.specs.declared.no_value.NoValue.TheVariants.{Outside, Refused}
use Rattle.pt_eval.specs.Steps.{Came, gives, and_then}
use Rattle.pt_eval.specs.NoValues.{raised, raised_with}
use Rattle.pt_eval.specs.Names.{meaning}
use Rattle.pt_eval.specs.Purity.{is_pure}

-- a new object, if there is room for it
abbrev pub allotted : Allotted → Came Value
allotted (made v h) = gives v h
allotted (beyond what) = Err (Outside what)

unfoldable pub new_object : Object → List Object → Came Value
new_object o h = allotted (allot o h)

abbrev pub constant_of : Constant → List Object → Came Value
constant_of constant.None h = gives value.None h
constant_of (constant.Bool b) h = gives (value.Bool b) h
constant_of constant.Ellipsis h = gives value.Ellipsis h
constant_of (constant.Int z) h = gives (value.Int z) h
constant_of (constant.Str t) h = new_object (object.Str t) h

abbrev pub by_meaning : Name → Builtin → List Object → Came Value
by_meaning x (is v) h = gives v h
by_meaning x unavailable h = Err (Outside Feature)
by_meaning x no_builtin h = Err (raised h NAME_ERROR (name_text x))

unfoldable pub named : (locals globals : List Binding) → Name → List Object → Came Value
named locals globals x h = by_meaning x (meaning locals globals x) h

-- an operation on values; where a method of a script would be asked it is refused
abbrev pub of_prim : PrimAns → List Object → Came Value
of_prim (prim.Value v) h = gives v h
of_prim (prim.Raise class argument) h = Err (raised_with h class argument)
of_prim (prim.Help helper vs inverted) h = Err Refused
of_prim (prim.Outside what) h = Err (Outside what)
of_prim a h = Err (Outside Feature)

unfoldable pub asked : Op → List Value → List Object → Came Value
asked o vs h = of_prim (prim_answer o vs h) (prim_heap o vs h)

abbrev pub truth_in : Value → List Object → Came Bool
truth_in (value.Bool b) h = gives b h
truth_in v h = Err (Outside Feature)

unfoldable pub truth_of : Value → List Object → Came Bool
truth_of v h = and_then (asked op.Truth (v ∷ []) h) truth_in

-- what only a running script is asked for: attributes of frames and of code, and the code of a function
abbrev pub is_of_run : Name → Option Object → Bool
is_of_run x (Some (object.Frame f)) = true
is_of_run x (Some (object.CodeRef b g)) = true
is_of_run x (Some (object.Function f)) = bytes_eq x (codes "__code__")
is_of_run x o = false

-- the name of a class; that of a function isn't known here
abbrev pub name_object : Option Object → Option Object
name_object (Some (object.Class c)) = Some (object.Str c.name)
name_object o = None

abbrev pub new_if : Option Object → List Object → Came Value
new_if (Some o) h = new_object o h
new_if None h = Err (Outside Feature)

abbrev pub by_attribute : Name → Value → Attribute → List Object → Came Value
by_attribute x v (Method m) h = new_object (method_object m v) h
by_attribute x v (Held w) h = gives w h
by_attribute x v (Bound f) h = new_object (bound_object f (receiver_of h v)) h
by_attribute x v NameOf h = new_if (name_object (object_of h v)) h
by_attribute x v Arguments h = new_object (object.Tuple (arguments_in (object_of h v))) h
by_attribute x v Missing h = Err (raised h ATTRIBUTE_ERROR (missing_text (class_name h v) x))
by_attribute x v Unbuilt h = Err (Outside Feature)

unfoldable pub attribute : Name → Value → List Object → Came Value
attribute x v h = if is_of_run x (object_of h v) then Err Refused else by_attribute x v (attribute_of h v x) h

-- a spec of several parts is one text, and one without parts is None
abbrev pub spec_of : List Value → List Object → Came Value
spec_of [] h = gives value.None h
spec_of (t ∷ []) h = gives t h
spec_of ts h = asked op.Join ts h

-- an operation on operands that are evaluated one behind the other
abbrev pub of_one : Op → Came Value → Came Value
of_one o c = and_then c (λ v. asked o (v ∷ []))

abbrev pub of_two : Op → Came Value → (next : List Object → Came Value) → Came Value
of_two o c next = and_then c (λ v g. and_then (next g) (λ w. asked o (v ∷ w ∷ [])))

abbrev pub of_three : Op → Came Value → (next last : List Object → Came Value) → Came Value
of_three o c next last =
    and_then c (λ v g. and_then (next g) (λ w k. and_then (last k) (λ x. asked o (v ∷ w ∷ x ∷ []))))

abbrev pub of_several : Op → Came (List Value) → Came Value
of_several o c = and_then c (asked o)

-- the text of a replacement field, of its value and the texts of its spec
abbrev pub formatted : Option Conversion → Came Value → (parts : List Object → Came (List Value)) → Came Value
formatted c value parts =
    and_then value (λ v g. and_then (parts g) (λ ss k. and_then (spec_of ss k) (λ s. asked (op.Format c) (v ∷ s ∷ []))))

-- by the truth of a value, one of two ways
abbrev pub chosen : Came Value → (if_true if_false : List Object → Came Value) → Came Value
chosen c if_true if_false = and_then c (λ v g. and_then (truth_of v g) (λ is k. if is then if_true k else if_false k))

module _ (locals globals : List Binding) where
  abbrev mutual
    pub value_of : Exp → List Object → Came Value
    value_of (S.constant l k) h = constant_of k h
    value_of (S.name l x) h = named locals globals x h
    value_of (S.joined l ps) h = of_several op.Join (texts_of ps [] h)
    value_of (S.tuple l es) h = of_several op.Tuple (values_of es [] h)
    value_of (S.list l es) h = of_several op.List (values_of es [] h)
    value_of (S.set l es) h = of_several op.Set (values_of es [] h)
    value_of (S.dict l es) h = of_several op.Dict (entries_of es [] h)
    value_of (S.attribute l a x) h = and_then (value_of a h) (attribute x)
    value_of (S.item l a i) h = of_two op.Item (value_of a h) (λ g. value_of i g)
    value_of (S.slice l a b c) h = of_three op.Slice (value_if a h) (λ g. value_if b g) (λ g. value_if c g)
    value_of (S.unary l o a) h = of_one (op.Unary o) (value_of a h)
    value_of (S.not_of l a) h = of_one op.Not (value_of a h)
    value_of (S.binary l o a b) h = of_two (op.Binary o) (value_of a h) (λ g. value_of b g)
    value_of (S.compare l a o b r) h =
        and_then (value_of a h) (λ v g. and_then (value_of b g) (λ w k.
        and_then (asked (op.Compare o) (v ∷ w ∷ []) k) (λ t. linked r w t)))
    value_of (S.and l a es) h = and_then (value_of a h) (λ v. anded es v)
    value_of (S.or l a es) h = and_then (value_of a h) (λ v. ored es v)
    value_of (S.conditional l c a b) h = chosen (value_of c h) (λ g. value_of a g) (λ g. value_of b g)
    value_of e h = Err Refused

    -- behind the values before
    pub values_of : Exps → (before : List Value) → List Object → Came (List Value)
    values_of S.no_exps vs h = gives vs h
    values_of (S.more_exps e es) vs h = and_then (value_of e h) (λ v. values_of es (vs ++ v ∷ []))

    pub value_if : Opt → List Object → Came Value
    value_if S.absent h = gives value.None h
    value_if (S.given e) h = value_of e h

    -- keys and values in turn
    pub entries_of : Entries → (before : List Value) → List Object → Came (List Value)
    entries_of S.no_entries vs h = gives vs h
    entries_of (S.entry k v r) vs h =
        and_then (value_of k h) (λ w g. and_then (value_of v g) (λ x. entries_of r (vs ++ w ∷ x ∷ [])))

    -- the texts of the parts of an f-string, or of a spec (2.4.3)
    pub texts_of : Pieces → (before : List Value) → List Object → Came (List Value)
    texts_of S.no_pieces ts h = gives ts h
    texts_of (S.literal l t r) ts h = and_then (new_object (object.Str t) h) (λ v. texts_of r (ts ++ v ∷ []))
    texts_of (S.field l e c ps r) ts h = and_then (formatted c (value_of e h) (λ g. texts_of ps [] g)) (λ t. texts_of r (ts ++ t ∷ []))

    -- the comparisons behind the first, as long as each is true (6.10); a value is compared with the one before it
    pub linked : Links → (left result : Value) → List Object → Came Value
    linked S.no_links v t h = gives t h
    linked (S.link o b r) v t h =
        and_then (truth_of t h) (λ is g. if is then and_then (value_of b g) (λ w k.
        and_then (asked (op.Compare o) (v ∷ w ∷ []) k) (λ u. linked r w u)) else gives t g)

    -- the first that isn't true, or the last (6.11)
    pub anded : Exps → Value → List Object → Came Value
    anded S.no_exps v h = gives v h
    anded (S.more_exps e es) v h =
        and_then (truth_of v h) (λ is g. if is then and_then (value_of e g) (λ w. anded es w) else gives v g)

    -- the first that is true, or the last
    pub ored : Exps → Value → List Object → Came Value
    ored S.no_exps v h = gives v h
    ored (S.more_exps e es) v h =
        and_then (truth_of v h) (λ is g. if is then gives v g else and_then (value_of e g) (λ w. ored es w))

  -- of the first part of an f-string
  abbrev pub text_of : Pieces → List Object → Came Value
  text_of S.no_pieces h = gives value.None h
  text_of (S.literal l t r) h = new_object (object.Str t) h
  text_of (S.field l e c ps r) h = formatted c (value_of e h) (λ g. texts_of ps [] g)

  -- an expression in which other code would run is refused, wherever that stands
  abbrev pub evaluated : Exp → List Object → Came Value
  evaluated e h = if is_pure e then value_of e h else Err Refused
