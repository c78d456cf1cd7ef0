-- The texts of containers, views and exceptions whose parts are written by methods of a script (Library Reference, "Built-in Functions", `repr`).
use Rattle.std.specs.Prelude.{ℕ, List, [], ◌∷◌, ◌++◌, Option, Some, None, Ok, Err, codes}
use Rattle.pt_base.specs.declared.what.What.TheVariants as what
use Rattle.pt_heap.specs.declared.value.Value.{Value}
use Rattle.pt_heap.specs.declared.object.Object.{Object}
use Rattle.pt_heap.specs.declared.object.Object.TheVariants as object
use Rattle.pt_heap.specs.declared.object.Part.{Part}
use Rattle.pt_heap.specs.declared.object.Part.TheVariants.{Items}
use Rattle.pt_content.specs.pt_attrs.Look.{object_of}
use Rattle.pt_content.specs.declared.content.Content.{Content}
use Rattle.pt_content.specs.declared.content.Content.TheVariants as content
use Rattle.pt_content.specs.Operands.{text_of}
use Rattle.pt_reprs.specs.declared.writer.WriteErr.TheVariants.{Feature}
use Rattle.pt_reprs.specs.Pieces.{Piece}
use Rattle.pt_reprs.specs.Reprs.{around, error_start, tuple_end, view_start}
use Rattle.pt_reprs.specs.Texts.{text_content}

-- what stands for a container inside itself
abbrev pub dots_of : Option Object → List ℕ
dots_of (Some (object.List vs)) = codes "[...]"
dots_of (Some (object.Tuple vs)) = codes "(...)"
dots_of (Some (object.Dict es)) = codes "{...}"
dots_of (Some (object.Set es)) = codes "{...}"
dots_of o = codes "..."

abbrev pub text_pieces : Option (List ℕ) → List Piece
text_pieces (Some t) = Ok t ∷ []
text_pieces None = Err Feature ∷ []

-- texts, each behind one of two others in turn
abbrev pub in_turn : List Object → (before next : List ℕ) → List Value → List Piece
in_turn h before next [] = []
in_turn h before next (v ∷ vs) = Ok before ∷ (text_pieces (text_of h v) ++ in_turn h next before vs)

abbrev pub with_between : List Object → (before next : List ℕ) → List Value → List Piece
with_between h before next [] = []
with_between h before next (v ∷ vs) = text_pieces (text_of h v) ++ in_turn h before next vs

abbrev pub items_around : List Object → (start : List ℕ) → List Value → (end : List ℕ) → List Piece
items_around h start ts end = around start (with_between h (codes ", ") (codes ", ") ts) end

-- keys and values in turn, as in a dictionary or as tuples
abbrev pub pairs_shown : List Object → List Value → List Piece
pairs_shown h [] = around (codes "dict_items([") [] (codes "])")
pairs_shown h ts = around (codes "dict_items([(") (with_between h (codes ", ") (codes "), (") ts) (codes ")])")

abbrev pub view_shown : List Object → Part → List Value → List Piece
view_shown h Items ts = pairs_shown h ts
view_shown h p ts = items_around h (view_start p) ts (codes "])")

-- the text of a container from those of its parts
abbrev pub wrapped : List Object → Option Object → (texts : List Value) → List Piece
wrapped h (Some (object.List vs)) ts = items_around h (codes "[") ts (codes "]")
wrapped h (Some (object.Tuple vs)) ts = items_around h (codes "(") ts (tuple_end ts)
wrapped h (Some (object.Dict es)) ts = around (codes "{") (with_between h (codes ": ") (codes ", ") ts) (codes "}")
wrapped h (Some (object.Set es)) ts = items_around h (codes "{") ts (codes "}")
wrapped h (Some (object.View v)) ts = view_shown h v.part ts
wrapped h (Some (object.Error x)) ts = items_around h (error_start h x.class) ts (codes ")")
wrapped h o ts = []

abbrev pub wrap_by : List Object → Option Object → (texts : Option Object) → Content
wrap_by h o (Some (object.List ts)) = text_content (wrapped h o ts)
wrap_by h o p = content.Outside what.Feature

abbrev pub wrap : List Value → List Object → Content
wrap (a ∷ texts ∷ []) h = wrap_by h (object_of h a) (object_of h texts)
wrap vs h = content.Outside what.Feature
