-- What is told of a chain turned round.
use Rattle.std.proofs.Common.{◌≡◌, ◌∙◌, List, [], ◌∷◌, ◌++◌, map, reverse, refl, sym, ap}
use Rattle.std.proofs.lemmas.List.{map-append, reverse-append}

pub map_reverse : {A B : Type 0} (f : A → B) (xs : List A) → map f (reverse xs) ≡ reverse (map f xs)
map_reverse f [] = refl
map_reverse f (x ∷ xs) =
    ap (map f) (reverse-append (x ∷ []) xs) ∙ map-append f (reverse xs) (x ∷ [])
    ∙ ap (λ l. l ++ f x ∷ []) (map_reverse f xs) ∙ sym (reverse-append (f x ∷ []) (map f xs))

-- of what is lent and turned round
pub turned : {A B C : Type 0} (f : B → C) (view : A → B) (links around lent lent_again : List A) (chained : List B) → lent ≡ links → around ≡ reverse lent
    → lent_again ≡ around → map view links ≡ chained → map f (map view lent_again) ≡ map f (reverse chained)
turned f view links around lent lent_again chained a b c d =
    ap (λ l. map f (map view l)) (c ∙ b ∙ ap reverse a) ∙ ap (map f) (map_reverse view links ∙ ap reverse d)
