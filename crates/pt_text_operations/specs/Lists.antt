-- A new list of new texts (Library Reference, `str.split`).
use Rattle.std.specs.Prelude.{ℕ, ◌+◌, List, [], ◌∷◌, ◌++◌, Result, Ok, Err, length, map, encode_utf8_all, nat_lt, if◌then◌else◌}
use Rattle.pt_base.specs.declared.what.What.TheVariants.{Heap, Length}
use Rattle.pt_heap.specs.Limits.{entry_limit, object_limit}
use Rattle.pt_heap.specs.declared.value.Value.TheVariants.{Obj}
use Rattle.pt_heap.specs.declared.object.Object.{Object}
use Rattle.pt_strs.specs.declared.error.StrErr.{StrErr}
use Rattle.pt_content.specs.declared.answer.PrimAns.TheVariants as answer
use Rattle.pt_content.specs.declared.content.Content.{Content}
use Rattle.pt_content.specs.declared.content.Content.TheVariants as content
use Rattle.pt_content.specs.declared.content.NewObject.{NewObject}
use Rattle.pt_content.specs.declared.content.NewObject.TheVariants as new
use Rattle.pt_content.specs.Changes.{added, places_from}
use Rattle.pt_text_operations.specs.Answers.{refused}

-- texts of these characters
abbrev pub new_texts : List (List ℕ) → List NewObject
new_texts css = map (λ cs. new.Text (encode_utf8_all cs)) css

-- so many texts are put behind the objects that a heap has, and behind them the list of them
abbrev pub with_list : (first count : ℕ) → List NewObject → Content
with_list p n os = content.Changed (added (os ++ new.List (places_from p n) ∷ [])) (answer.Value (Obj (record { 0 = p + n })))

abbrev pub listed : List Object → List (List ℕ) → Content
listed h css =
    if nat_lt entry_limit (length css) then content.Outside Length
    else (if nat_lt (length h + length css) object_limit then with_list (length h) (length css) (new_texts css) else content.Outside Heap)

abbrev pub listed_if : List Object → Result (List (List ℕ)) StrErr → Content
listed_if h (Ok css) = listed h css
listed_if h (Err e) = refused e
