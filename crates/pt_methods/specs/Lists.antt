-- What calls of methods of lists and tuples give (Library Reference, "Common Sequence Operations", "Mutable Sequence Types").
use Rattle.std.specs.Prelude.{false, List, [], ◌∷◌}
use Rattle.pt_base.specs.declared.what.What.TheVariants.{Feature}
use Rattle.pt_heap.specs.declared.value.Value.{Value}
use Rattle.pt_heap.specs.declared.object.Object.{Object}
use Rattle.pt_content.specs.declared.answer.Helper.TheVariants.{SortOf}
use Rattle.pt_content.specs.declared.content.Content.{Content}
use Rattle.pt_content.specs.declared.content.Content.TheVariants as content
use Rattle.pt_content.specs.declared.method_name.MethodName.{MethodName}
use Rattle.pt_content.specs.declared.method_name.MethodName.TheVariants as method
use Rattle.pt_list_changes.specs.Changes.{append_content, clear_content, copy_content, extend_content, insert_content, pop_content, pop_last_content, reverse_content}
use Rattle.pt_methods.specs.Searches.{count_content, index_content, remove_content}

-- by the number of arguments; of other numbers there is none
abbrev pub list_method_of_none : MethodName → (list : Value) → List Value → Content
list_method_of_none method.Pop l vs = pop_last_content l vs
list_method_of_none method.Reverse l vs = reverse_content l vs
list_method_of_none method.Clear l vs = clear_content l
list_method_of_none method.Copy l vs = copy_content vs
list_method_of_none m l vs = content.Outside Feature

abbrev pub list_method_of_one : MethodName → List Object → (list : Value) → List Value → (argument : Value) → Content
list_method_of_one method.Append h l vs x = append_content l vs x
list_method_of_one method.Extend h l vs x = extend_content h l vs x
list_method_of_one method.Pop h l vs i = pop_content h l vs i
list_method_of_one method.Remove h l vs x = remove_content h l vs x
list_method_of_one method.Index h l vs x = index_content h l vs x
list_method_of_one method.Count h l vs x = count_content h l vs x
list_method_of_one m h l vs x = content.Outside Feature

-- the operands of `sort` are the values of `key` and `reverse`, None where they aren't given
abbrev pub list_method_of_two : MethodName → List Object → (list : Value) → List Value → (first second : Value) → Content
list_method_of_two method.Insert h l vs i x = insert_content h l vs i x
list_method_of_two method.Sort h l vs key reversed = content.Help SortOf false
list_method_of_two m h l vs x y = content.Outside Feature

abbrev pub list_method : MethodName → List Object → (list : Value) → List Value → (arguments : List Value) → Content
list_method m h l vs [] = list_method_of_none m l vs
list_method m h l vs (x ∷ []) = list_method_of_one m h l vs x
list_method m h l vs (x ∷ y ∷ []) = list_method_of_two m h l vs x y
list_method m h l vs given = content.Outside Feature

abbrev pub tuple_method : MethodName → List Object → (tuple : Value) → List Value → (arguments : List Value) → Content
tuple_method method.Index h v vs (x ∷ []) = index_content h v vs x
tuple_method method.Count h v vs (x ∷ []) = count_content h v vs x
tuple_method m h v vs given = content.Outside Feature
