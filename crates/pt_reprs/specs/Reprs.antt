-- What `repr` gives of a value: its pieces, from left to right (Library Reference, "Built-in Functions", `repr`; "Built-in Types").
use Rattle.std.specs.Prelude.{ℕ, zero, suc, ◌+◌, ◌/◌, ◌%◌, ℤ, pos, Bool, true, false, not, ◌&&◌, ◌||◌, ◌⊎◌, List, [], ◌∷◌, ◌++◌, Option, Some, Result, Ok, Err, codes, flat_map, length, nat_eq, nat_lt, nat_le, slice_get, if◌then◌else◌}
use Rattle.std.specs.Char.{encode_utf8}
use Rattle.std.proofs.Common.{inl, inr}
use Rattle.std.specs.Str.{chars}
use Rattle.std.specs.Fmt.{signed_decimal}
use Rattle.pt_base.specs.declared.numbers.ObjId.{ObjId}
use Rattle.pt_heap.specs.declared.value.Value.{Value}
use Rattle.pt_heap.specs.declared.value.Value.TheVariants as value
use Rattle.pt_heap.specs.declared.object.Object.{Object}
use Rattle.pt_heap.specs.declared.object.Object.TheVariants as object
use Rattle.pt_heap.specs.declared.object.Part.{Part}
use Rattle.pt_heap.specs.declared.object.Part.TheVariants.{Keys, Values, Items}
use Rattle.pt_heap.specs.declared.object.Range.{Range}
use Rattle.pt_heap.specs.Entries.{Entry}
use Rattle.pt_content.specs.Classes.{name_at, object_class}
use Rattle.pt_content.specs.TypeErrors.{sentence}
use Rattle.pt_reprs.specs.declared.writer.WriteErr.{WriteErr}
use Rattle.pt_reprs.specs.declared.writer.WriteErr.TheVariants.{Deep, Feature}
use Rattle.pt_reprs.specs.declared.repr.EntryForm.{EntryForm}
use Rattle.pt_reprs.specs.declared.repr.EntryForm.TheVariants.{Colon, Pair}
use Rattle.pt_reprs.specs.Pieces.{Piece}
use Rattle.pt_reprs.specs.Shown.{shown, viewed}

-- a text in quotes: apostrophes, or quotation marks where it has an apostrophe and none of these
abbrev pub has_char : (c : ℕ) → List ℕ → Bool
has_char c [] = false
has_char c (x ∷ xs) = nat_eq c x || has_char c xs

abbrev pub quote_of : List ℕ → ℕ
quote_of cs = if has_char 39 cs && not (has_char 34 cs) then 34 else 39

abbrev pub hex_digit : ℕ → ℕ
hex_digit n = if nat_lt n 10 then 48 + n else 87 + n

-- control characters, the blanks of Latin-1 without a sign, and the soft hyphen have no sign
abbrev pub is_plain : ℕ → Bool
is_plain c = nat_le 32 c && (nat_lt c 127 || (nat_lt 160 c && not (nat_eq c 173)))

-- a backslash before a character
abbrev pub behind_backslash : (c : ℕ) → List ℕ
behind_backslash c = 92 ∷ encode_utf8 c

abbrev pub hex_escape : (c : ℕ) → List ℕ
hex_escape c = behind_backslash 120 ++ (encode_utf8 (hex_digit (c / 16)) ++ encode_utf8 (hex_digit (c % 16)))

abbrev pub escaped : (quote c : ℕ) → List ℕ
escaped quote c =
    if nat_eq c 92 || nat_eq c quote then behind_backslash c
    else (if nat_eq c 10 then behind_backslash 110
    else (if nat_eq c 13 then behind_backslash 114
    else (if nat_eq c 9 then behind_backslash 116
    else (if is_plain c then encode_utf8 c else hex_escape c))))

abbrev pub quoted : List ℕ → List ℕ
quoted t = encode_utf8 (quote_of (chars t)) ++ (flat_map (escaped (quote_of (chars t))) (chars t) ++ encode_utf8 (quote_of (chars t)))

abbrev pub truth_text : Bool → List ℕ
truth_text true = codes "True"
truth_text false = codes "False"

-- a step of 1 isn't written
abbrev pub range_end : ℤ → List ℕ
range_end (pos (suc zero)) = codes ")"
range_end s = sentence (codes ", " ∷ signed_decimal s ∷ codes ")" ∷ [])

abbrev pub range_text : Range → List ℕ
range_text r = sentence (codes "range(" ∷ signed_decimal r.start ∷ codes ", " ∷ signed_decimal r.stop ∷ range_end r.step ∷ [])

-- a class by its name, and what has no text of its own by its class
abbrev pub plain_text : List Object → Option Object → List ℕ
plain_text h (Some (object.Class c)) = sentence (codes "<class '" ∷ c.name ∷ codes "'>" ∷ [])
plain_text h (Some (object.Range r)) = range_text r
plain_text h o = sentence (codes "<" ∷ object_class h o ∷ codes " object>" ∷ [])

abbrev pub around : (before : List ℕ) → List Piece → (behind : List ℕ) → List Piece
around before ps behind = Ok before ∷ (ps ++ Ok behind ∷ [])

-- each behind a comma
abbrev pub behind_commas : {A : Type 0} → (A → List Piece) → List A → List Piece
behind_commas repr [] = []
behind_commas repr (v ∷ vs) = Ok (codes ", ") ∷ (repr v ++ behind_commas repr vs)

abbrev pub between_commas : {A : Type 0} → (A → List Piece) → List A → List Piece
between_commas repr [] = []
between_commas repr (v ∷ vs) = repr v ++ behind_commas repr vs

-- a key and a value
abbrev pub both_pieces : (Value → List Piece) → (between : List ℕ) → (first value : Value) → List Piece
both_pieces repr between v w = repr v ++ (Ok between ∷ repr w)

-- as in a dictionary, or as the tuple that a view shows
abbrev pub formed_pieces : EntryForm → (Value → List Piece) → (first value : Value) → List Piece
formed_pieces Colon repr v w = both_pieces repr (codes ": ") v w
formed_pieces Pair repr v w = around (codes "(") (both_pieces repr (codes ", ") v w) (codes ")")

abbrev pub entry_pieces : EntryForm → (Value → List Piece) → Entry → List Piece
entry_pieces form repr e = formed_pieces form repr e.first e.value

-- a tuple of one item ends in a comma
abbrev pub tuple_end : List Value → List ℕ
tuple_end (v ∷ []) = codes ",)"
tuple_end vs = codes ")"

abbrev pub is_open : (place : ℕ) → (path : List ℕ) → Bool
is_open p [] = false
is_open p (q ∷ path) = nat_eq p q || is_open p path

-- a container that stands inside itself is written as dots
abbrev pub unless_open : (place : ℕ) → (path : List ℕ) → (dots : List ℕ) → List Piece → List Piece
unless_open p path dots ps = if is_open p path then Ok dots ∷ [] else ps

-- an exception by its class and its arguments, one alone without a comma (Library Reference, "Built-in Exceptions")
abbrev pub error_start : List Object → (class : ObjId) → List ℕ
error_start h class = sentence (name_at h class ∷ codes "(" ∷ [])

-- an empty set is written as what makes one, since `{}` is a dictionary
abbrev pub set_pieces : List Entry → List Piece → List Piece
set_pieces es ps = if nat_eq (length es) 0 then Ok (codes "set()") ∷ [] else ps

-- what stands between the brackets of a container: items, or entries of one form
abbrev pub Inside : Type 0
Inside = List Value ⊎ (EntryForm × List Entry)

-- a view by its class and a list of what it shows (Library Reference, "Dictionary view objects")
abbrev pub view_start : Part → List ℕ
view_start Keys = codes "dict_keys(["
view_start Values = codes "dict_values(["
view_start Items = codes "dict_items(["

abbrev pub view_inside : Part → List Entry → Inside
view_inside Keys es = inl (shown Keys es)
view_inside Values es = inl (shown Values es)
view_inside Items es = inr (Pair, es)

-- what stands at a place; of slices there is no text yet
abbrev pub object_pieces : ((path : List ℕ) → Inside → List Piece) → List Object → (path : List ℕ) → (place : ℕ) → Option Object → List Piece
object_pieces items h path p (Some (object.Str t)) = Ok (quoted t) ∷ []
object_pieces items h path p (Some (object.List vs)) = unless_open p path (codes "[...]") (around (codes "[") (items (path ++ p ∷ []) (inl vs)) (codes "]"))
object_pieces items h path p (Some (object.Tuple vs)) = unless_open p path (codes "(...)") (around (codes "(") (items (path ++ p ∷ []) (inl vs)) (tuple_end vs))
object_pieces items h path p (Some (object.Dict es)) = unless_open p path (codes "{...}") (around (codes "{") (items (path ++ p ∷ []) (inr (Colon, es))) (codes "}"))
object_pieces items h path p (Some (object.Set es)) = set_pieces es (around (codes "{") (items (path ++ p ∷ []) (inl (shown Keys es))) (codes "}"))
object_pieces items h path p (Some (object.View v)) = unless_open p path (codes "...") (around (view_start v.part) (items (path ++ p ∷ []) (view_inside v.part (viewed h v))) (codes "])"))
object_pieces items h path p (Some (object.Slice s)) = Err Feature ∷ []
object_pieces items h path p (Some (object.Error x)) = unless_open p path (codes "...") (around (error_start h x.class) (items (path ++ p ∷ []) (inl x.args)) (codes ")"))
object_pieces items h path p o = Ok (plain_text h o) ∷ []

abbrev pub value_pieces : ((path : List ℕ) → Inside → List Piece) → List Object → (path : List ℕ) → Value → List Piece
value_pieces items h path value.None = Ok (codes "None") ∷ []
value_pieces items h path (value.Bool b) = Ok (truth_text b) ∷ []
value_pieces items h path (value.Int z) = Ok (signed_decimal z) ∷ []
value_pieces items h path value.Ellipsis = Ok (codes "Ellipsis") ∷ []
value_pieces items h path value.NotImplemented = Ok (codes "NotImplemented") ∷ []
value_pieces items h path (value.Obj id) = object_pieces items h path id.0 (slice_get h id.0)

-- the inside of a container, in which so many may stand inside one another, it among them
unfoldable pub item_pieces : List Object → (depth : ℕ) → (path : List ℕ) → Inside → List Piece
item_pieces h zero path inside = Err Deep ∷ []
item_pieces h (suc depth) path (inl vs) = between_commas (value_pieces (item_pieces h depth) h path) vs
item_pieces h (suc depth) path (inr (form, es)) = between_commas (entry_pieces form (value_pieces (item_pieces h depth) h path)) es

-- how many containers may stand inside one another
abbrev pub depth_limit : ℕ
depth_limit = 1000

-- a tuple of values, which is no object
abbrev pub tuple_pieces : List Object → List Value → List Piece
tuple_pieces h vs = around (codes "(") (item_pieces h depth_limit [] (inl vs)) (tuple_end vs)

abbrev pub repr_pieces : List Object → Value → List Piece
repr_pieces h v = value_pieces (item_pieces h depth_limit) h [] v
