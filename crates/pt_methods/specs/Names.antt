-- Which methods builtin values have (Library Reference, "Built-in Types"), and the numbers by which objects stand for them.
use Rattle.std.specs.Prelude.{ℕ, ◌-◌, List, [], ◌∷◌, map, Option, Some, None, slice_get, nat_lt, if◌then◌else◌}
use Rattle.std.specs.Str.{bytes_eq}
use Rattle.pt_heap.specs.declared.object.Object.{Object}
use Rattle.pt_heap.specs.declared.object.Object.TheVariants as object
use Rattle.pt_content.specs.declared.method_name.MethodName.{MethodName}
use Rattle.pt_content.specs.declared.method_name.MethodName.TheVariants as method
use Rattle.pt_methods.specs.declared.names.TheConstants.{DICT_METHODS, FIRST_METHOD, LIST_METHODS, METHODS, SET_METHODS, STR_METHODS, TUPLE_METHODS}

-- the method of a name in a list of methods
abbrev pub among : (name : List ℕ) → List (List ℕ × MethodName) → Option MethodName
among name [] = None
among name ((n, m) ∷ rows) = if bytes_eq n name then Some m else among name rows

unfoldable pub of_texts : (name : List ℕ) → Option MethodName
of_texts name = among name (map (λ r. (r.0.now, r.1)) STR_METHODS)

unfoldable pub of_lists : (name : List ℕ) → Option MethodName
of_lists name = among name (map (λ r. (r.0.now, r.1)) LIST_METHODS)

unfoldable pub of_tuples : (name : List ℕ) → Option MethodName
of_tuples name = among name (map (λ r. (r.0.now, r.1)) TUPLE_METHODS)

unfoldable pub of_dictionaries : (name : List ℕ) → Option MethodName
of_dictionaries name = among name (map (λ r. (r.0.now, r.1)) DICT_METHODS)

unfoldable pub of_sets : (name : List ℕ) → Option MethodName
of_sets name = among name (map (λ r. (r.0.now, r.1)) SET_METHODS)

abbrev pub listed : (name : List ℕ) → Option Object → Option MethodName
listed name (Some (object.Str t)) = of_texts name
listed name (Some (object.List vs)) = of_lists name
listed name (Some (object.Tuple vs)) = of_tuples name
listed name (Some (object.Dict es)) = of_dictionaries name
listed name (Some (object.Set es)) = of_sets name
listed name o = None

-- numbers of methods stand behind those of functions
abbrev pub of_method_number : ℕ → Option MethodName
of_method_number n = if nat_lt n FIRST_METHOD then None else slice_get METHODS (n - FIRST_METHOD)

abbrev pub method_number : MethodName → ℕ
method_number method.Join = 28
method_number method.Split = 29
method_number method.Strip = 30
method_number method.Lstrip = 31
method_number method.Rstrip = 32
method_number method.Replace = 33
method_number method.Find = 34
method_number method.Startswith = 35
method_number method.Endswith = 36
method_number method.Count = 37
method_number method.Append = 38
method_number method.Extend = 39
method_number method.Insert = 40
method_number method.Pop = 41
method_number method.Remove = 42
method_number method.Index = 43
method_number method.Reverse = 44
method_number method.Sort = 45
method_number method.Clear = 46
method_number method.Copy = 47
method_number method.Get = 48
method_number method.Keys = 49
method_number method.Values = 50
method_number method.Items = 51
method_number method.Setdefault = 52
method_number method.Update = 53
method_number method.Add = 54
method_number method.Discard = 55
