-- New texts of a list.
use Rattle.std.proofs.Common.{◌≡◌, ◌∙◌, ℕ, List, [], ◌∷◌, ◌++◌, map, reverse, sym, ap, append_assoc, encode_utf8_all}
use Rattle.std.specs.Str.{chars}
use Rattle.std.proofs.lemmas.List.{reverse-append}
use Rattle.pt_content.specs.declared.content.NewObject.{NewObject}
use Rattle.pt_content.specs.declared.content.NewObject.TheVariants as new
use Rattle.pt_text_operations.specs.Lists.{new_texts}

reverse-last : (xs : List (List ℕ)) (x : List ℕ) → reverse (xs ++ x ∷ []) ≡ x ∷ reverse xs
reverse-last xs x = reverse-append xs (x ∷ [])

-- the last of the texts that are left is a new object behind the others
pub one-text : (os : List NewObject) (left xs : List (List ℕ)) (t : List ℕ) (new-os : List NewObject) → left ≡ xs ++ t ∷ [] → encode_utf8_all (chars t) ≡ t → new-os ≡ os ++ new.Text t ∷ [] → new-os ++ new_texts (map chars (reverse xs)) ≡ os ++ new_texts (map chars (reverse left))
one-text os left xs t new-os e spelled is =
    let rest = new_texts (map chars (reverse xs)) in
    ap (λ l. l ++ rest) is ∙ append_assoc os (new.Text t ∷ []) rest ∙ ap (λ u. os ++ (new.Text u ∷ rest)) (sym spelled) ∙ ap (λ l. os ++ new_texts (map chars l)) (sym (ap reverse e ∙ reverse-last xs t))
