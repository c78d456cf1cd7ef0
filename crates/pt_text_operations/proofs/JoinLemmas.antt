-- Texts that values are, one after the other.
use Rattle.std.proofs.Common.{◌≡◌, ◌∙◌, ◌+◌, ◌<◌, ℕ, List, [], ◌∷◌, ◌++◌, Option, Some, None, length, drop, get_or, refl, sym, ap, append_assoc}
use Rattle.std.proofs.lemmas.List.{at_drop_more, append-nil}
use Rattle.pt_heap.specs.declared.value.Value.{Value}
use Rattle.pt_heap.specs.declared.value.Value.TheVariants as value
use Rattle.pt_heap.specs.declared.object.Object.{Object}
use Rattle.pt_content.specs.Operands.{text_of}
use Rattle.pt_text_operations.specs.Answers.{texts_of, with_text}

-- texts behind others, if they are there
abbrev pub behind : List (List ℕ) → Option (List (List ℕ)) → Option (List (List ℕ))
behind ts (Some us) = Some (ts ++ us)
behind ts None = None

pub behind-none : (o : Option (List (List ℕ))) → o ≡ behind [] o
behind-none (Some us) = refl
behind-none None = refl

one-more : (ts : List (List ℕ)) (t : List ℕ) (o : Option (List (List ℕ))) → behind ts (with_text (Some t) o) ≡ behind (ts ++ t ∷ []) o
one-more ts t (Some us) = ap Some (sym (append_assoc ts (t ∷ []) us))
one-more ts t None = refl

lacks-one : (ts : List (List ℕ)) (o : Option (List (List ℕ))) → behind ts (with_text None o) ≡ None
lacks-one ts (Some us) = refl
lacks-one ts None = refl

pub all-taken : (ts : List (List ℕ)) → behind ts (Some []) ≡ Some ts
all-taken ts = ap Some (append-nil ts)

module _ (h : List Object) (vs : List Value) (i : ℕ) (ts : List (List ℕ)) (l : i < length vs) (inv : texts_of h vs ≡ behind ts (texts_of h (drop i vs))) where
  next : texts_of h vs ≡ behind ts (with_text (text_of h (get_or vs i value.None)) (texts_of h (drop (i + 1) vs)))
  next = inv ∙ ap (behind ts) (at_drop_more (texts_of h) vs i value.None l)

  -- one text more
  pub taken : (t : List ℕ) (new : List (List ℕ)) → text_of h (get_or vs i value.None) ≡ Some t → new ≡ ts ++ t ∷ [] → texts_of h vs ≡ behind new (texts_of h (drop (i + 1) vs))
  taken t new is e =
      let rest = texts_of h (drop (i + 1) vs) in
      next ∙ ap (λ o. behind ts (with_text o rest)) is ∙ one-more ts t rest ∙ ap (λ us. behind us rest) (sym e)

  -- a value that is no text
  pub missing : text_of h (get_or vs i value.None) ≡ None → texts_of h vs ≡ None
  missing is =
      let rest = texts_of h (drop (i + 1) vs) in
      next ∙ ap (λ o. behind ts (with_text o rest)) is ∙ lacks-one ts rest
