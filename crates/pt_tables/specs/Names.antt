-- The lists of names that the tables have, each in its order.
use Rattle.std.specs.Prelude.{ℕ, List, [], ◌∷◌, ◌++◌, codes}

-- the keywords (Language Reference 2.3.1)
abbrev pub keyword_names : List (List ℕ)
keyword_names =
    codes "False" ∷ codes "None" ∷ codes "True" ∷ codes "and" ∷ codes "as" ∷ codes "assert" ∷ codes "async" ∷
    codes "await" ∷ codes "break" ∷ codes "class" ∷ codes "continue" ∷ codes "def" ∷ codes "del" ∷
    codes "elif" ∷ codes "else" ∷ codes "except" ∷ codes "finally" ∷ codes "for" ∷ codes "from" ∷
    codes "global" ∷ codes "if" ∷ codes "import" ∷ codes "in" ∷ codes "is" ∷ codes "lambda" ∷
    codes "nonlocal" ∷ codes "not" ∷ codes "or" ∷ codes "pass" ∷ codes "raise" ∷ codes "return" ∷ codes "try" ∷
    codes "while" ∷ codes "with" ∷ codes "yield" ∷ []

-- functions, types and constants (Library Reference, "Built-in Functions", "Built-in Constants")
abbrev pub primitive_names : List (List ℕ)
primitive_names =
    codes "print" ∷ codes "len" ∷ codes "range" ∷ codes "str" ∷ codes "int" ∷ codes "bool" ∷ codes "repr" ∷
    codes "type" ∷ codes "isinstance" ∷ codes "issubclass" ∷ codes "iter" ∷ codes "next" ∷ codes "abs" ∷
    codes "divmod" ∷ codes "ord" ∷ codes "chr" ∷ codes "hasattr" ∷ codes "getattr" ∷ codes "setattr" ∷
    codes "callable" ∷ codes "super" ∷ codes "object" ∷ codes "NotImplemented" ∷ codes "Ellipsis" ∷ []

-- the builtins that are written in Python
abbrev pub prelude_names : List (List ℕ)
prelude_names =
    codes "list" ∷ codes "tuple" ∷ codes "set" ∷ codes "dict" ∷ codes "sum" ∷ codes "min" ∷ codes "max" ∷
    codes "any" ∷ codes "all" ∷ codes "sorted" ∷ codes "map" ∷ codes "filter" ∷ codes "zip" ∷
    codes "enumerate" ∷ codes "reversed" ∷ []

-- builtins of the Library Reference that a run does not have
abbrev pub unbuilt_names : List (List ℕ)
unbuilt_names =
    codes "open" ∷ codes "input" ∷ codes "eval" ∷ codes "exec" ∷ codes "id" ∷ codes "hash" ∷ codes "dir" ∷
    codes "vars" ∷ codes "globals" ∷ codes "locals" ∷ codes "compile" ∷ codes "bytes" ∷ codes "bytearray" ∷
    codes "complex" ∷ codes "float" ∷ codes "frozenset" ∷ codes "memoryview" ∷ codes "slice" ∷
    codes "property" ∷ codes "staticmethod" ∷ codes "classmethod" ∷ codes "round" ∷ codes "pow" ∷
    codes "format" ∷ codes "bin" ∷ codes "hex" ∷ codes "oct" ∷ codes "ascii" ∷ codes "help" ∷ codes "delattr" ∷ []

-- exceptions (Library Reference, "Exception hierarchy")
abbrev pub exception_names : List (List ℕ)
exception_names =
    codes "BaseException" ∷ codes "SystemExit" ∷ codes "GeneratorExit" ∷ codes "Exception" ∷
    codes "ArithmeticError" ∷ codes "ZeroDivisionError" ∷ codes "AssertionError" ∷ codes "AttributeError" ∷
    codes "ImportError" ∷ codes "ModuleNotFoundError" ∷ codes "LookupError" ∷ codes "IndexError" ∷
    codes "KeyError" ∷ codes "NameError" ∷ codes "UnboundLocalError" ∷ codes "RuntimeError" ∷
    codes "NotImplementedError" ∷ codes "RecursionError" ∷ codes "StopIteration" ∷ codes "TypeError" ∷
    codes "ValueError" ∷ []

abbrev pub builtin_names : List (List ℕ)
builtin_names = primitive_names ++ prelude_names ++ unbuilt_names ++ exception_names

-- of texts (Library Reference, "String Methods")
abbrev pub text_methods : List (List ℕ)
text_methods =
    codes "join" ∷ codes "split" ∷ codes "strip" ∷ codes "lstrip" ∷ codes "rstrip" ∷ codes "replace" ∷
    codes "find" ∷ codes "startswith" ∷ codes "endswith" ∷ codes "count" ∷ []

-- of lists, and of tuples too ("Mutable Sequence Types")
abbrev pub list_methods : List (List ℕ)
list_methods =
    codes "append" ∷ codes "extend" ∷ codes "insert" ∷ codes "pop" ∷ codes "remove" ∷ codes "index" ∷
    codes "reverse" ∷ codes "sort" ∷ codes "clear" ∷ codes "copy" ∷ []

-- of dictionaries ("Mapping Types")
abbrev pub dictionary_methods : List (List ℕ)
dictionary_methods =
    codes "get" ∷ codes "keys" ∷ codes "values" ∷ codes "items" ∷ codes "setdefault" ∷ codes "update" ∷ []

-- of sets ("Set Types")
abbrev pub set_methods : List (List ℕ)
set_methods =
    codes "add" ∷ codes "discard" ∷ []

-- of generators (Language Reference 6.2.9.1)
abbrev pub generator_methods : List (List ℕ)
generator_methods =
    codes "send" ∷ codes "throw" ∷ codes "close" ∷ codes "__next__" ∷ codes "__iter__" ∷ []

-- of texts, that a run does not have
abbrev pub unbuilt_text_methods : List (List ℕ)
unbuilt_text_methods =
    codes "capitalize" ∷ codes "casefold" ∷ codes "center" ∷ codes "encode" ∷ codes "expandtabs" ∷
    codes "format" ∷ codes "format_map" ∷ codes "isalnum" ∷ codes "isalpha" ∷ codes "isascii" ∷
    codes "isdecimal" ∷ codes "isdigit" ∷ codes "isidentifier" ∷ codes "islower" ∷ codes "isnumeric" ∷
    codes "isprintable" ∷ codes "isspace" ∷ codes "istitle" ∷ codes "isupper" ∷ codes "ljust" ∷ codes "lower" ∷
    codes "maketrans" ∷ codes "partition" ∷ codes "removeprefix" ∷ codes "removesuffix" ∷ codes "rfind" ∷
    codes "rindex" ∷ codes "rjust" ∷ codes "rpartition" ∷ codes "rsplit" ∷ codes "splitlines" ∷
    codes "swapcase" ∷ codes "title" ∷ codes "translate" ∷ codes "upper" ∷ codes "zfill" ∷ []

-- of dictionaries, that a run does not have
abbrev pub unbuilt_dictionary_methods : List (List ℕ)
unbuilt_dictionary_methods =
    codes "fromkeys" ∷ codes "popitem" ∷ []

-- of sets, that a run does not have
abbrev pub unbuilt_set_methods : List (List ℕ)
unbuilt_set_methods =
    codes "difference" ∷ codes "difference_update" ∷ codes "intersection" ∷ codes "intersection_update" ∷
    codes "isdisjoint" ∷ codes "issubset" ∷ codes "issuperset" ∷ codes "symmetric_difference" ∷
    codes "symmetric_difference_update" ∷ codes "union" ∷ []

abbrev pub method_names : List (List ℕ)
method_names = text_methods ++ list_methods ++ dictionary_methods ++ set_methods ++ generator_methods ++ unbuilt_text_methods ++ unbuilt_dictionary_methods ++ unbuilt_set_methods

-- basic customization, containers, calls, context managers and unary operators (Language Reference 3.3)
abbrev pub customization_names : List (List ℕ)
customization_names =
    codes "__init__" ∷ codes "__repr__" ∷ codes "__str__" ∷ codes "__eq__" ∷ codes "__ne__" ∷ codes "__lt__" ∷
    codes "__le__" ∷ codes "__gt__" ∷ codes "__ge__" ∷ codes "__bool__" ∷ codes "__len__" ∷
    codes "__contains__" ∷ codes "__iter__" ∷ codes "__next__" ∷ codes "__getitem__" ∷ codes "__setitem__" ∷
    codes "__delitem__" ∷ codes "__call__" ∷ codes "__enter__" ∷ codes "__exit__" ∷ codes "__neg__" ∷
    codes "__pos__" ∷ codes "__invert__" ∷ []

-- binary operators (Language Reference 3.3.8)
abbrev pub operator_names : List (List ℕ)
operator_names =
    codes "__add__" ∷ codes "__sub__" ∷ codes "__mul__" ∷ codes "__floordiv__" ∷ codes "__mod__" ∷
    codes "__pow__" ∷ codes "__and__" ∷ codes "__or__" ∷ codes "__xor__" ∷ codes "__lshift__" ∷
    codes "__rshift__" ∷ []

-- the same with the operands swapped
abbrev pub swapped_operator_names : List (List ℕ)
swapped_operator_names =
    codes "__radd__" ∷ codes "__rsub__" ∷ codes "__rmul__" ∷ codes "__rfloordiv__" ∷ codes "__rmod__" ∷
    codes "__rpow__" ∷ codes "__rand__" ∷ codes "__ror__" ∷ codes "__rxor__" ∷ codes "__rlshift__" ∷
    codes "__rrshift__" ∷ []

-- hash of a key (Language Reference 3.3.1)
abbrev pub hash_names : List (List ℕ)
hash_names =
    codes "__hash__" ∷ []

abbrev pub special_names : List (List ℕ)
special_names = customization_names ++ operator_names ++ swapped_operator_names ++ hash_names

-- monitoring events (Library Reference, "sys.monitoring", "Events"), in the order of their bits here
abbrev pub event_names : List (List ℕ)
event_names =
    codes "PY_START" ∷ codes "PY_RESUME" ∷ codes "PY_RETURN" ∷ codes "PY_YIELD" ∷ codes "PY_THROW" ∷
    codes "PY_UNWIND" ∷ codes "CALL" ∷ codes "C_RETURN" ∷ codes "C_RAISE" ∷ codes "LINE" ∷ codes "JUMP" ∷
    codes "BRANCH" ∷ codes "RAISE" ∷ codes "RERAISE" ∷ codes "EXCEPTION_HANDLED" ∷ codes "STOP_ITERATION" ∷ []

-- debugger commands with their short names (Library Reference, "pdb", "Debugger Commands")
abbrev pub command_names : List (List ℕ)
command_names =
    codes "break" ∷ codes "tbreak" ∷ codes "b" ∷ codes "clear" ∷ codes "cl" ∷ codes "condition" ∷
    codes "ignore" ∷ codes "enable" ∷ codes "disable" ∷ codes "step" ∷ codes "next" ∷ codes "until" ∷
    codes "return" ∷ codes "continue" ∷ codes "s" ∷ codes "n" ∷ codes "unt" ∷ codes "r" ∷ codes "c" ∷
    codes "cont" ∷ codes "jump" ∷ codes "j" ∷ codes "up" ∷ codes "down" ∷ codes "u" ∷ codes "d" ∷
    codes "where" ∷ codes "w" ∷ codes "bt" ∷ codes "args" ∷ codes "a" ∷ codes "p" ∷ codes "quit" ∷ codes "q" ∷ []
