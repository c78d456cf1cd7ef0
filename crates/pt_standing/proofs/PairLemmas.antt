-- What is told of pairs of a block and a list, and of lists.
use Rattle.std.proofs.Common.{◌≡◌, ◌⊎◌, inl, inr, ℕ, ◌+◌, ◌<◌, ◌≤◌, Bool, true, false, ◌&&◌, List, [], ◌∷◌, ◌++◌, length, map, take, replicate, Some, None, refl, sym, ap, ◌∙◌, subst, arith, length-append}
use Rattle.std.specs.Prelude.{slice_get, slice_index_or, unwrap_or}
use Rattle.std.specs.BTreeMap.{Updates}
use Rattle.std.specs.Ordering.{is_eq, nat_cmp}
use Rattle.std.specs.declared.cmp.Ordering.{Ordering}
use Rattle.std.specs.declared.cmp.Ordering.TheVariants.{Less, Equal, Greater}
use Rattle.std.proofs.lemmas.Bool.{cases_eq, cases_lt, false_from_ne_true, false≢true}
use Rattle.std.proofs.lemmas.List.{get_or_append_left, get_or-replicate, get_or_past, length-replicate}
use Rattle.std.proofs.lemmas.Map.Lookups.{CmpEqualImpliesEq, exact_pairs, exact_unsigned}
use Rattle.std.proofs.lemmas.Option.{get_or_from_slice_get, same_Some, unwrap_or-slice_get}
use Rattle.std.proofs.Math.Seq.{get_or-append_seam}
use Rattle.pt_instr.specs.declared.TextNo.{TextNo}
use Rattle.pt_code.specs.declared.CodeBlock.{CodeBlock}
use Rattle.pt_code.specs.declared.Code.{Code}
use Rattle.pt_tree.specs.Syntax.{Name}
use Rattle.pt_sizes.proofs.Tables.{below_or}
use Rattle.sem_fits.specs.fits.Block.{links_of, parameters_of}
use Rattle.sem_fits.specs.fits.Standing.{are_distinct}
use Rattle.pt_standing.specs.declared.defaults.Defaults.{Defaults}
use Rattle.pt_standing.specs.Names.{AreDistinctLists, TellsDefaults, TellsMore, names_parameters, pair_cmp, told_of}
use Rattle.pt_standing.specs.Texts.{AreFresh, AreIds, text_at}

exact_key : CmpEqualImpliesEq pair_cmp
exact_key = exact_pairs nat_cmp nat_cmp exact_unsigned exact_unsigned

is_equal : (o : Ordering) → is_eq o ≡ true → o ≡ Equal
is_equal Less e = absurd (false≢true e)
is_equal Equal e = refl
is_equal Greater e = absurd (false≢true e)

apart : (b l c m : ℕ) → (c ≡ b → m ≡ l → ⊥) → is_eq (pair_cmp (b, l) (c, m)) ≡ false
apart b l c m ne = false_from_ne_true (is_eq (pair_cmp (b, l) (c, m)))
    (λ e. let same = exact_key (b, l) (c, m) (is_equal (pair_cmp (b, l) (c, m)) e) in ne (sym (ap (λ k. k.0) same)) (sym (ap (λ k. k.1) same)))

pub tells_more : (old new : Defaults) (b l : ℕ) (t : Bool) → Updates pair_cmp old.told new.told (b, l) (Some t) → TellsMore old new b l t
tells_more old new b l t u = record { here = u.1; others = λ c m ne. u.2 (c, m) (apart b l c m ne) }

pub told_more : (c : Code) (old new : Defaults) (b l : ℕ) (t : Bool) → TellsDefaults c old → TellsMore old new b l t → t ≡ names_parameters c b l → TellsDefaults c new
told_more c old new b l t d m e = record { each = λ a k u g. by a k u g (cases_eq a b) (cases_eq k l) }
  where
    other : (a k : ℕ) (u : Bool) → told_of new a k ≡ Some u → (a ≡ b → k ≡ l → ⊥) → u ≡ names_parameters c a k
    other a k u g ne = d.each a k u (sym (m.others a k ne) ∙ g)

    by : (a k : ℕ) (u : Bool) → told_of new a k ≡ Some u → (a ≡ b) ⊎ (a ≡ b → ⊥) → (k ≡ l) ⊎ (k ≡ l → ⊥) → u ≡ names_parameters c a k
    by a k u g (inl e1) (inl e2) =
        same_Some u t (sym g ∙ (ap (λ i. told_of new i k) e1 ∙ (ap (λ j. told_of new b j) e2 ∙ m.here)))
        ∙ (e ∙ (ap (λ i. names_parameters c i l) (sym e1) ∙ ap (λ j. names_parameters c a j) (sym e2)))
    by a k u g (inr ne) y = other a k u g (λ s w. ne s)
    by a k u g (inl e1) (inr ne) = other a k u g (λ s w. ne w)

-- nothing is told at first
pub none_told : (c : Code) (d : Defaults) → ((b l : ℕ) → told_of d b l ≡ None) → TellsDefaults c d
none_told c d none = record { each = λ b l t e. let x : None ≡ Some t = sym (none b l) ∙ e in absurd cc }

pub unlisted : {X : Type 0} (xs : List X) (n : ℕ) (d : X) → slice_get xs n ≡ None → slice_index_or xs n d ≡ d
unlisted xs n d e = sym (unwrap_or-slice_get xs n d) ∙ ap (λ o. unwrap_or o d) e

-- the names of the parameters of a block
pub parameters_are : (c : Code) (n : ℕ) (b : CodeBlock) (ps : List TextNo) → slice_get c.blocks n ≡ Some b
    → ps ≡ take (b.parameters + b.keyword_only) b.locals → map (λ t. text_at c.texts t.0) ps ≡ (links_of c).parameters n
parameters_are c n b ps e p = ap (map (λ (t : TextNo). text_at c.texts t.0)) p ∙ sym (ap (parameters_of c.texts) e)

-- what is told of one more list
pub distinct_more : (texts : List Name) (lists : List (List ℕ)) (told more : List Bool) (t : Bool) → AreDistinctLists texts lists told
    → t ≡ are_distinct (map (text_at texts) (slice_index_or lists (length told) [])) → more ≡ told ++ t ∷ [] → AreDistinctLists texts lists more
distinct_more texts lists told more t d e s = subst (AreDistinctLists texts lists) (sym s) (record {
  each = λ l lt. by l (below_or l (length told) (let h = length-append told (t ∷ []) in omega (arith, h, lt)));
})
  where
    by : (l : ℕ) → (l < length told) ⊎ (l ≡ length told) → slice_index_or (told ++ t ∷ []) l false ≡ are_distinct (map (text_at texts) (slice_index_or lists l []))
    by l (inr same) = ap (λ k. slice_index_or (told ++ t ∷ []) k false) same ∙ (get_or-append_seam told t [] false ∙ (e
        ∙ ap (λ k. are_distinct (map (text_at texts) (slice_index_or lists k []))) (sym same)))
    by l (inl low) = get_or_append_left told (t ∷ []) false l low ∙ d.each l low

pub none_distinct : (texts : List Name) (lists : List (List ℕ)) (told : List Bool) → told ≡ [] → AreDistinctLists texts lists told
none_distinct texts lists told e = subst (AreDistinctLists texts lists) (sym e) (record { each = λ l lt. absurd (omega (arith, lt)) })

-- no text has a mark at first
pub fresh_first : (texts : List Name) (ids marks : List ℕ) → AreIds texts ids → marks ≡ replicate (length ids) 0 → AreFresh texts ids marks 1
fresh_first texts ids marks i e = record { ids_are = i; long = ap length e ∙ (length-replicate {A = ℕ} (length ids) 0 ∙ i.long); low = λ k. low k (cases_lt k (length ids)) }
  where
    low : (k : ℕ) → (k < length ids) ⊎ (length ids ≤ k) → slice_index_or marks k 0 < 1
    low k (inl lt) = let h = ap (λ xs. slice_index_or xs k 0) e ∙ get_or-replicate (length ids) k 0 0 lt in omega (arith, h)
    low k (inr le) = let h = ap (λ xs. slice_index_or xs k 0) e ∙ get_or_past (replicate (length ids) 0) k 0 (let l = length-replicate {A = ℕ} (length ids) 0 in omega (arith, l, le)) in omega (arith, h)

pub of_distinct : (c : Code) (names : List Name) (list : ℕ) (texts : List ℕ) (told : List Bool) (t : Bool) (marked : Bool) → AreDistinctLists c.texts c.lists told
    → slice_get c.lists list ≡ Some texts → slice_get told list ≡ Some t → list < length told
    → (t && marked) ≡ (are_distinct (map (text_at c.texts) texts) && marked)
of_distinct c names list texts told t marked d e f lt = ap (λ b. b && marked) (sym (get_or_from_slice_get told list t false f) ∙ (d.each list lt
    ∙ ap (λ xs. are_distinct (map (text_at c.texts) xs)) (get_or_from_slice_get c.lists list texts [] e)))
