-- What has been met behind each part of a script.
use Rattle.std.proofs.Common.{◌≡◌, ℕ, ◌+◌, List, [], ◌∷◌, ◌++◌, length, refl, ap, sym, ◌∙◌, append_assoc, length-append}
use Rattle.std.proofs.lemmas.List.{append-nil}
use Rattle.pt_scopes.specs.Behind.{behind}
use Rattle.pt_scopes.specs.declared.region.Context.{Context}
use Rattle.pt_scopes.specs.declared.region.Kind.{Kind}
use Rattle.pt_scopes.specs.declared.region.Kind.TheVariants.{Class, Comprehension, Function}
use Rattle.pt_scopes.specs.declared.region.Role.{Role}
use Rattle.pt_scopes.specs.Mentions.{places_clauses, places_conditions, places_exp}
use Rattle.pt_scopes.specs.Places.{Part, Places, ◌⨾◌, block, class_context, comprehension, comprehension_context, function_context, generator_context, in_class, in_comprehension, in_function, in_generator, joined, mention, nothing, only_module}
use Rattle.pt_tree.specs.Fold.{conditions_of}
use Rattle.pt_tree.specs.Syntax.{Clauses, Exp, Name}

pub behind-nothing : (s : Places) → behind s nothing ≡ s
unfolding behind nothing
behind-nothing s = λ i. record { regions = append-nil s.regions i; blocks = append-nil s.blocks i; mentions = append-nil s.mentions i }

joined-assoc : (p q r : Places) → joined (joined p q) r ≡ joined p (joined q r)
joined-assoc p q r = λ i. record { regions = append_assoc p.regions q.regions r.regions i; blocks = append_assoc p.blocks q.blocks r.blocks i; mentions = append_assoc p.mentions q.mentions r.mentions i }

pub behind-both : (s : Places) (f g : Part) → behind s (f ⨾ g) ≡ behind (behind s f) g
unfolding behind ◌⨾◌
behind-both s f g =
    let p = f (length s.regions) in
    sym (ap (λ (n : ℕ). joined (joined s p) (g n)) (length-append s.regions p.regions) ∙ joined-assoc s p (g (length s.regions + length p.regions)))

pub behind-function : (s : Places) (a : Context) (inside : Context → Part) → behind s (in_function a inside) ≡ behind (behind s (block Function a)) (inside (function_context (length s.regions)))
unfolding in_function behind
behind-function s a inside = behind-both s (block Function a) (inside (function_context (length s.regions)))

pub behind-generator : (s : Places) (a : Context) (inside : Context → Part) → behind s (in_generator a inside) ≡ behind (behind s (block Function a)) (inside (generator_context (length s.regions)))
unfolding in_generator behind
behind-generator s a inside = behind-both s (block Function a) (inside (generator_context (length s.regions)))

pub behind-class : (s : Places) (a : Context) (inside : Context → Part) → behind s (in_class a inside) ≡ behind (behind s (block Class a)) (inside (class_context (length s.regions)))
unfolding in_class behind
behind-class s a inside = behind-both s (block Class a) (inside (class_context (length s.regions)))

pub behind-comprehension : (s : Places) (a : Context) (inside : Context → Part) → behind s (in_comprehension a inside) ≡ behind (behind s (comprehension a)) (inside (comprehension_context a (length s.regions)))
unfolding in_comprehension behind
behind-comprehension s a inside = behind-both s (comprehension a) (inside (comprehension_context a (length s.regions)))

pub behind-conditions : (a : Context) (c : Name) (es : List Exp) (cs : Clauses) (s : Places) → behind s (places_clauses a c (conditions_of es cs)) ≡ behind (behind s (places_conditions a c es)) (places_clauses a c cs)
behind-conditions a c [] cs s = ap (λ (t : Places). behind t (places_clauses a c cs)) (sym (behind-nothing s))
behind-conditions a c (e ∷ es) cs s =
    behind-both s (places_exp a c e) (places_clauses a c (conditions_of es cs))
    ∙ behind-conditions a c es cs (behind s (places_exp a c e))
    ∙ ap (λ (t : Places). behind t (places_clauses a c cs)) (sym (behind-both s (places_exp a c e) (places_conditions a c es)))

pub behind-module : (f : Part) → behind only_module f ≡ joined only_module (f 1)
unfolding behind
behind-module f = refl

pub behind-mention : (s : Places) (r : Role) (a : Context) (x : Name) (l : ℕ) → behind s (mention r a x l) ≡ record { regions = s.regions; blocks = s.blocks; mentions = s.mentions ++ record { role = r; region = a.region; name = x; line = record { 0 = l } } ∷ [] }
unfolding behind mention
behind-mention s r a x l = λ i. record { regions = append-nil s.regions i; blocks = append-nil s.blocks i; mentions = s.mentions ++ record { role = r; region = a.region; name = x; line = record { 0 = l } } ∷ [] }

pub behind-block : (s : Places) (k : Kind) (a : Context) → behind s (block k a) ≡ record { regions = s.regions ++ record { kind = k; around = a.region; home = length s.regions } ∷ []; blocks = s.blocks ++ length s.regions ∷ []; mentions = s.mentions }
unfolding behind block
behind-block s k a = λ i. record { regions = s.regions ++ record { kind = k; around = a.region; home = length s.regions } ∷ []; blocks = s.blocks ++ length s.regions ∷ []; mentions = append-nil s.mentions i }

pub behind-region : (s : Places) (a : Context) → behind s (comprehension a) ≡ record { regions = s.regions ++ record { kind = Comprehension; around = a.region; home = a.home } ∷ []; blocks = s.blocks; mentions = s.mentions }
unfolding behind comprehension
behind-region s a = λ i. record { regions = s.regions ++ record { kind = Comprehension; around = a.region; home = a.home } ∷ []; blocks = append-nil s.blocks i; mentions = append-nil s.mentions i }

pub ruleset steps = (behind-mention, behind-block, behind-region)

pub ruleset parts = (behind-nothing, behind-both, behind-function, behind-generator, behind-class, behind-comprehension, behind-conditions, behind-module)
