-- Names without the underscores at their front.
use Rattle.std.proofs.Common.{◌≡◌, ℕ, ◌+◌, ◌<◌, List, ◌∷◌, length, drop, get_or, sym, ◌∙◌}
use Rattle.std.proofs.lemmas.List.{at_drop_more}
use Rattle.pt_scopes.specs.Names.{stripped}

stripped-underscore : (a : ℕ) (x : List ℕ) → a ≡ 95 → stripped (a ∷ x) ≡ stripped x
stripped-underscore a x is = rw is

pub stripped-further : (x : List ℕ) (i : ℕ) → i < length x → get_or x i 0 ≡ 95 → stripped (drop (i + 1) x) ≡ stripped (drop i x)
stripped-further x i within is = sym (at_drop_more stripped x i 0 within ∙ stripped-underscore (get_or x i 0) (drop (i + 1) x) is)
