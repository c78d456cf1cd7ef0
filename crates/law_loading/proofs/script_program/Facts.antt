-- What the code of a block tells is what the script says of it.
use Rattle.std.proofs.Common.{if◌then◌else◌, ◌≡◌, ℕ, zero, suc, Bool, true, false, List, [], ◌∷◌, ◌++◌, length, map, take, drop, Option, Some, None, refl, sym, ap, ◌∙◌, subst, arith, bytes_eq}
use Rattle.std.specs.Prelude.{◌||◌, slice_get, is_some}
use Rattle.std.specs.Option.{unwrap_or}
use Rattle.std.specs.List.{AllByRecursion, IsDistinct, list_any}
use Rattle.std.proofs.lemmas.Slice.Eq.{bytes_eq-Decides}
use Rattle.std.proofs.lemmas.List.{map-append}
use Rattle.pt_tree.specs.declared.expression.NamedParameter.{NamedParameter}
use Rattle.pt_tree.specs.Syntax as S
use Rattle.pt_tree.specs.Syntax.{Name, Params, Stms}
use Rattle.pt_tree.specs.Blocks as B
use Rattle.pt_tree.specs.Blocks.{Block, Code as BlockCode, blocks_script, yields}
use Rattle.pt_scopes.specs.Mentions.{places_script}
use Rattle.pt_scopes.specs.Names.{mangled}
use Rattle.pt_scopes.specs.Places.{module_context}
use Rattle.pt_scopes.specs.Refusals.{fault_of}
use Rattle.pt_scopes.specs.Scope.{facts}
use Rattle.pt_bind.specs.declared.arguments.Params as arguments
use Rattle.pt_instr.specs.declared.TextNo.{TextNo}
use Rattle.pt_code.specs.declared.BlockKind.TheVariants as kind
use Rattle.sem_control.specs.control.Turn.{Around}
use Rattle.sem_names.specs.Around.{Names, around_of, names_at, names_of}
use Rattle.sem_names.specs.BlockNames.{with_name, distinct_behind, formal_names, named, param_names, local_names, names_in, is_local, variables_of}
use Rattle.sem_names.specs.Script.{naming_script, spelled_in, shape_in, class_name_of}
use Rattle.sem_code.specs.slots.BlockObject.{text_in}
use Rattle.pt_assembler.specs.Tables.{Begins}
use Rattle.pt_assembler.specs.Layout.{number_of_text, with_text, layout}
use Rattle.pt_assembler.proofs.TableLemmas.{item_kept, begins_then, bytes_same}
use Rattle.pt_assembler.proofs.Growth.{Tabled, tabled_then, grows}
use Rattle.law_typed_pieces.specs.law_operands.law_files.sem_compile.stm_pieces.StmPiece.{code_piece}
use Rattle.law_typed_pieces.specs.law_operands.law_files.sem_compile.compile.ScriptCode.{Tables, kind_of, rest_of, plain_count, keyword_only_count, with_names, empty_block, BlockLayout, layout_of, code_block, code_of}
use Rattle.law_typed_pieces.specs.law_operands.law_files.sem_compile.compile.Laws.{IsLayoutIn}
use Rattle.law_typed_pieces.proofs.law_operands.law_files.sem_compile.compile.Blocks.{names_tabled, blocks_are_laid_out}
use Rattle.law_typed_pieces.proofs.law_operands.law_files.code_files.Each.{weaken, both, each_at}
use Rattle.law_typed_pieces.proofs.law_operands.law_files.code_files.Sound.{Differs, Apart, all_sound}
use Rattle.law_typed_pieces.proofs.law_operands.law_files.code_files.Parameters.{OnceIn, each_stms}
use Rattle.law_typed_pieces.proofs.law_operands.law_files.code_files.Regions.{as_many_regions}
use Rattle.pt_code_loader.specs.pt_code_tables.pt_machine_state.pt_code_facts.Facts.{facts_of, facts_view, named_texts, is_generator}
use Rattle.law_loading.specs.script_program.ScriptProgram.{makes_generator, params_of, facts_with}
use Rattle.law_loading.specs.script_program.Laws.{HasItsNames, CodeTellsOfBlocks, LocalsAreDifferent}

-- the name of a block is the text of its number

named_by : (t : Tables) (a : Around (Unit {0})) (ns : Names) (k : Block) (texts : List Name) → Begins (layout_of t a ns k).written.texts texts
    → text_in texts (number_of_text k.name (empty_block t k.code)).0 ≡ k.name
unfolding with_text
named_by t a ns k texts b =
    let v = empty_block t k.code in
    let u = with_text k.name v in
    let c = with_names ns u in
    let w = layout (code_piece a k.code) [] c in
    let grown : Tabled u w = tabled_then u c w (names_tabled ns u) (grows (code_piece a k.code) [] c).tables in
    item_kept (bytes_eq k.name) k.name v.texts texts [] (bytes_same k.name) (begins_then u.texts w.texts texts grown.0 b)

-- parameters stand first among the local names

append_assoc : {A : Type 0} (xs ys zs : List A) → (xs ++ ys) ++ zs ≡ xs ++ (ys ++ zs)
append_assoc [] ys zs = refl
append_assoc (x ∷ xs) ys zs = ap (λ l. x ∷ l) (append_assoc xs ys zs)

append_none : {A : Type 0} (xs : List A) → xs ++ [] ≡ xs
append_none [] = refl
append_none (x ∷ xs) = ap (λ l. x ∷ l) (append_none xs)

behind_begins : (ys xs : List Name) → (more : List Name) × (distinct_behind ys xs ≡ ys ++ more)
behind_begins ys [] = ([], sym (append_none ys))
behind_begins ys (x ∷ xs) = by (list_any (λ y. bytes_eq y x) ys) (λ zs. behind_begins zs xs)
  where
    by : (b : Bool) → ((zs : List Name) → (more : List Name) × (distinct_behind zs xs ≡ zs ++ more))
        → (more : List Name) × (distinct_behind (if b then ys else ys ++ x ∷ []) xs ≡ ys ++ more)
    by true f = f ys
    by false f = let (more, e) = f (ys ++ x ∷ []) in (x ∷ more, e ∙ append_assoc ys (x ∷ []) more)

any_not : (x : Name) (ys : List Name) → AllByRecursion (λ y. y ≡ x → ⊥) ys → list_any (λ y. bytes_eq y x) ys ≡ false
any_not x [] h = refl
any_not x (y ∷ ys) h = by (bytes_eq y x) refl (any_not x ys h.1)
  where
    by : (b : Bool) → bytes_eq y x ≡ b → list_any (λ y. bytes_eq y x) ys ≡ false → (b || list_any (λ y. bytes_eq y x) ys) ≡ false
    by true e rest = absurd (h.0 ((bytes_eq-Decides y x).0 e))
    by false e rest = rest

apart_begin : (ys ps os : List Name) → Apart ps → AllByRecursion (λ y. Differs y ps) ys
    → (more : List Name) × (distinct_behind ys (ps ++ os) ≡ ys ++ (ps ++ more))
apart_begin ys [] os h d = behind_begins ys os
apart_begin ys (p ∷ ps) os h d =
    let new : with_name ys p ≡ ys ++ p ∷ [] =
    ap (λ (b : Bool). if b then ys else ys ++ p ∷ []) (any_not p ys (weaken (λ y. Differs y (p ∷ ps)) (λ y. y ≡ p → ⊥) (λ y e. e.0) ys d)) in
    let (more, e) = apart_begin (ys ++ p ∷ []) ps os h.1
    (both (λ y. Differs y ps) ys (p ∷ []) (weaken (λ y. Differs y (p ∷ ps)) (λ y. Differs y ps) (λ y e. e.1) ys d) (h.0, tt)) in
    (more, ap (λ l. distinct_behind l (ps ++ os)) new ∙ (e ∙ append_assoc ys (p ∷ []) (ps ++ more)))

mapped_at : {A B : Type 0} (f : A → B) (xs : List A) (i : ℕ) (x : A) → slice_get xs i ≡ Some x → slice_get (map f xs) i ≡ Some (f x)
mapped_at f [] i x at = absurd (let none : None ≡ Some x = at in cc)
mapped_at f (y ∷ ys) zero x at = let same : y ≡ x = (let there : Some y ≡ Some x = at in cc) in ap (λ z. Some (f z)) same
mapped_at f (y ∷ ys) (suc i) x at = mapped_at f ys i x at

there : {A B : Type 0} (xs : List A) (ys : List B) (i : ℕ) (x : A) → length ys ≡ length xs → slice_get xs i ≡ Some x → (y : B) × (slice_get ys i ≡ Some y)
there [] ys i x e at = absurd (let none : None ≡ Some x = at in cc)
there (x ∷ xs) [] i z e at = absurd (omega (arith, e))
there (x ∷ xs) (y ∷ ys) zero z e at = (y, refl)
there (x ∷ xs) (y ∷ ys) (suc i) z e at = there xs ys i z (omega (arith, e)) at

params_first : (ss : Stms) → fault_of (places_script ss) ≡ None → (n : ℕ) (k : Block) → slice_get (blocks_script ss) n ≡ Some k
    → (more : List Name) × ((names_of ss n).locals ≡ map (spelled_in (naming_script ss) n) (param_names k.params) ++ more)
params_first ss none n k at =
    let g = naming_script ss in
    let p = places_script ss in
    let h = there (blocks_script ss) g.places.blocks n k (as_many_regions ss) at in
    let all : AllByRecursion (OnceIn []) (blocks_script ss) =
    (tt, each_stms module_context [] ss (1, all_sound p.regions (facts p.mentions) [] p.mentions none)) in
    let once : Apart (map (mangled (unwrap_or k.class [])) (param_names k.params)) = each_at (OnceIn []) (blocks_script ss) n k at all in
    let class : class_name_of (slice_get g.blocks n) ≡ unwrap_or k.class [] = ap class_name_of (mapped_at (shape_in []) (blocks_script ss) n k at) in
    let spelled : Apart (map (spelled_in g n) (param_names k.params)) = subst (λ c. Apart (map (mangled c) (param_names k.params))) (sym class) once in
    let is : (names_of ss n).locals ≡ local_names g k.params n h.0 =
    ap (λ (o : Option Block). (names_at g n o (slice_get g.places.blocks n)).locals) at ∙ ap (λ (o : Option ℕ). (names_at g n (Some k) o).locals) h.1 in
    let (more, e) = apart_begin [] (map (spelled_in g n) (param_names k.params)) (names_in is_local (variables_of g.places n h.0)) spelled tt in
    (more, is ∙ e)

take_map : {A B : Type 0} (f : A → B) (n : ℕ) (xs : List A) → map f (take n xs) ≡ take n (map f xs)
take_map f zero [] = refl
take_map f zero (x ∷ xs) = refl
take_map f (suc n) [] = refl
take_map f (suc n) (x ∷ xs) = ap (λ l. f x ∷ l) (take_map f n xs)

drop_map : {A B : Type 0} (f : A → B) (n : ℕ) (xs : List A) → map f (drop n xs) ≡ drop n (map f xs)
drop_map f zero [] = refl
drop_map f zero (x ∷ xs) = refl
drop_map f (suc n) [] = refl
drop_map f (suc n) (x ∷ xs) = drop_map f n xs

take_front : {A B : Type 0} (f : A → B) (xs : List A) (ys : List B) → take (length xs) (map f xs ++ ys) ≡ map f xs
take_front f [] [] = refl
take_front f [] (y ∷ ys) = refl
take_front f (x ∷ xs) ys = ap (λ l. f x ∷ l) (take_front f xs ys)

drop_front : {A B : Type 0} (f : A → B) (xs : List A) (ys : List B) → drop (length xs) (map f xs ++ ys) ≡ ys
drop_front f [] [] = refl
drop_front f [] (y ∷ ys) = refl
drop_front f (x ∷ xs) ys = drop_front f xs ys

-- the parameters of a code, by its local names
module _ (f : Name → Name) (texts : List Name) (locals : List TextNo) (ps : S.Formals) (s : Option NamedParameter) (ks : S.Formals) (d : Option NamedParameter)
    (more : List Name) (is : named_texts texts locals ≡ map f (param_names (S.parameters ps s ks d)) ++ more) where
  abbrev plain : List Name
  plain = formal_names ps

  abbrev only : List Name
  only = formal_names ks

  abbrev rest : List Name
  rest = map f (named s ++ named d) ++ more

  parts : map f (param_names (S.parameters ps s ks d)) ++ more ≡ map f plain ++ (map f only ++ rest)
  parts =
      let last = named s ++ named d in
      let grouped : param_names (S.parameters ps s ks d) ≡ plain ++ (only ++ last) =
      append_assoc (plain ++ only) (named s) (named d) ∙ append_assoc plain only last in
      ap (λ l. map f l ++ more) grouped
      ∙ (ap (λ l. l ++ more) (map-append f plain (only ++ last) ∙ ap (λ l. map f plain ++ l) (map-append f only last))
      ∙ (append_assoc (map f plain) (map f only ++ map f last) more ∙ ap (λ l. map f plain ++ l) (append_assoc (map f only) (map f last) more)))

  plain_is : named_texts texts (take (length plain) locals) ≡ map f plain
  plain_is = take_map (λ (x : TextNo). text_in texts x.0) (length plain) locals ∙ (ap (take (length plain)) (is ∙ parts) ∙ take_front f plain (map f only ++ rest))

  only_is : named_texts texts (take (length only) (drop (length plain) locals)) ≡ map f only
  only_is =
      take_map (λ (x : TextNo). text_in texts x.0) (length only) (drop (length plain) locals)
      ∙ (ap (take (length only)) (drop_map (λ (x : TextNo). text_in texts x.0) (length plain) locals ∙ (ap (drop (length plain)) (is ∙ parts) ∙ drop_front f plain (map f only ++ rest)))
      ∙ take_front f only rest)

-- whether a call makes a generator
generates : (c : BlockCode) → is_generator (kind_of c) ≡ makes_generator c
generates (B.of_module ss) = refl
generates (B.of_function ss) = by (yields (B.of_function ss))
  where
    by : (b : Bool) → is_generator (if b then kind.Generator else kind.Function) ≡ b
    by true = refl
    by false = refl
generates (B.of_class ss) = refl
generates (B.of_lambda l e) = by (yields (B.of_lambda l e))
  where
    by : (b : Bool) → is_generator (if b then kind.Generator else kind.Function) ≡ b
    by true = refl
    by false = refl
generates (B.of_generator l e k t cs) = refl

abbrev CodeParams : (texts : List Name) → List TextNo → Params → arguments.Params
CodeParams texts locals ps = record {
  plain = named_texts texts (take (plain_count ps) locals);
  only = named_texts texts (take (keyword_only_count ps) (drop (plain_count ps) locals));
  star = (rest_of ps).positional;
  stars = (rest_of ps).named;
  defaults = [];
}

same_params : (f : Name → Name) (texts : List Name) (locals : List TextNo) (ps : Params) (more : List Name) → named_texts texts locals ≡ map f (param_names ps) ++ more
    → CodeParams texts locals ps ≡ params_of f ps
same_params f texts locals (S.parameters ps s ks d) more is = λ i. record {
  plain = plain_is f texts locals ps s ks d more is i;
  only = only_is f texts locals ps s ks d more is i;
  star = is_some s;
  stars = is_some d;
  defaults = [];
}

-- a block with the layout of its piece over some tables
module _ (ss : Stms) (n : ℕ) (k : Block) (t : Tables) (a : Around (Unit {0})) (no_fault : fault_of (places_script ss) ≡ None)
    (is_block : slice_get (blocks_script ss) n ≡ Some k) where
  abbrev layout_at : BlockLayout
  layout_at = layout_of t a (names_of ss n) k

  abbrev texts : List Name
  texts = (code_of ss).texts

  abbrev f : Name → Name
  f = spelled_in (naming_script ss) n

  of_layout : Begins layout_at.written.texts texts → HasItsNames ss n (code_block layout_at)
      → facts_view (facts_of texts (code_block layout_at)) ≡ facts_with f (names_of ss n) k
  of_layout b h =
      let first = params_first ss no_fault n k is_block in
      let ps = same_params f texts layout_at.written.locals k.params first.0 (h.locals ∙ first.1) in
      let name = named_by t a (names_of ss n) k texts b in
      let yields_so = generates k.code in
      λ i. record {
        name = name i;
        first_line = k.first_line;
        params = ps i;
        locals = h.locals i;
        cells = h.cells i;
        frees = h.frees i;
        yields = yields_so i;
      }

same_some : {A : Type 0} (a b : A) → Some a ≡ Some b → a ≡ b
same_some a b e = ap (λ o. elim o [ None ↦ a | Some x ↦ x ]) e

pub code_tells : CodeTellsOfBlocks
code_tells ss n k b no_fault h is_block is_layout =
    let l : IsLayoutIn ss n b = blocks_are_laid_out ss n b is_layout in
    let same : l.block ≡ k = same_some l.block k (sym l.is_block ∙ is_block) in
    let is : b ≡ layout_of l.tables (around_of tt ss n) (names_of ss n) k = l.is ∙ ap (layout_of l.tables (around_of tt ss n) (names_of ss n)) same in
    subst (λ (c : BlockLayout). Begins c.written.texts (code_of ss).texts → HasItsNames ss n (code_block c)
    → facts_view (facts_of (code_of ss).texts (code_block c)) ≡ facts_with (spelled_in (naming_script ss) n) (names_of ss n) k) (sym is)
    (of_layout ss n k l.tables (around_of tt ss n) no_fault is_block) l.whole.texts h

-- no local name stands twice

ends_different : (ys : List Name) (x : Name) → IsDistinct bytes_eq ys → list_any (λ y. bytes_eq y x) ys ≡ false → IsDistinct bytes_eq (ys ++ x ∷ [])
unfolding IsDistinct
ends_different [] x h e = (tt, tt)
ends_different (y ∷ ys) x h e = by (bytes_eq y x) refl e (ends_different ys x h.1)
  where
    by : (b : Bool) → bytes_eq y x ≡ b → (b || list_any (λ y. bytes_eq y x) ys) ≡ false
        → (list_any (λ y. bytes_eq y x) ys ≡ false → IsDistinct bytes_eq (ys ++ x ∷ [])) → IsDistinct bytes_eq (y ∷ (ys ++ x ∷ []))
    by true s e rest = absurd (let no : true ≡ false = e in cc)
    by false s e rest = (both (λ z. bytes_eq y z ≡ false) ys (x ∷ []) h.0 (s, tt), rest e)

different_behind : (ys xs : List Name) → IsDistinct bytes_eq ys → IsDistinct bytes_eq (distinct_behind ys xs)
unfolding IsDistinct
different_behind ys [] h = h
different_behind ys (x ∷ xs) h = different_behind (with_name ys x) xs (by (list_any (λ y. bytes_eq y x) ys) refl)
  where
    by : (b : Bool) → list_any (λ y. bytes_eq y x) ys ≡ b → IsDistinct bytes_eq (if b then ys else ys ++ x ∷ [])
    by true e = h
    by false e = ends_different ys x h e

by_region : (ss : Stms) (n : ℕ) (k : Option Block) (r : Option ℕ) → IsDistinct bytes_eq (names_at (naming_script ss) n k r).locals
unfolding IsDistinct
by_region ss n (Some k) (Some h) =
    let g = naming_script ss in different_behind [] (map (spelled_in g n) (param_names k.params) ++ names_in is_local (variables_of g.places n h)) tt
by_region ss n None r = tt
by_region ss n (Some k) None = tt

pub locals_are_different : LocalsAreDifferent
locals_are_different ss n = by_region ss n (slice_get (blocks_script ss) n) (slice_get (places_script ss).blocks n)
