-- The instructions of a script's code may stand in their blocks.
use Rattle.std.proofs.Common.{◌≡◌, ℕ, zero, suc, ◌+◌, if◌then◌else◌, Bool, true, false, List, [], ◌∷◌, ◌++◌, map, length, Option, Some, None, refl, sym, ap, ◌∙◌, subst, arith, length-append, append-nil, get_or, bytes_eq, ◌<◌}
use Rattle.std.specs.Prelude.{◌||◌, option_map, slice_get, take}
use Rattle.std.specs.Option.{unwrap_or}
use Rattle.std.specs.List.{AllByRecursion, list_any}
use Rattle.std.proofs.lemmas.List.{length-map, map-append}
use Rattle.std.proofs.lemmas.Slice.Eq.{bytes_eq-Decides}
use Rattle.pt_tree.specs.declared.act.ActRow.{ActRow}
use Rattle.pt_tree.specs.Syntax as S
use Rattle.pt_tree.specs.Syntax.{Name, Params, Stms}
use Rattle.pt_tree.specs.Acts.{acts_stms}
use Rattle.pt_tree.specs.Blocks as B
use Rattle.pt_tree.specs.Blocks.{Block, blocks_script, blocks_stms}
use Rattle.sem_control.specs.numbering.Numbered.{IsNumbered, counted_from, numbers_stms}
use Rattle.pt_scopes.specs.BlockKinds.{code_kind}
use Rattle.pt_scopes.specs.declared.region.Kind.TheVariants.{Class}
use Rattle.pt_scopes.specs.declared.region.Kind.TheVariants as region
use Rattle.pt_scopes.specs.Mentions.{places_script, places_stms}
use Rattle.pt_scopes.specs.Names.{mangled}
use Rattle.pt_scopes.specs.Places.{module_context}
use Rattle.pt_scopes.specs.Refusals.{fault_of}
use Rattle.pt_scopes.specs.Scope.{facts}
use Rattle.pt_instr.specs.declared.TextNo.{TextNo}
use Rattle.sem_control.specs.control.Turn.{Around}
use Rattle.sem_names.specs.Around.{Names, around_of, names_at, names_of}
use Rattle.sem_names.specs.BlockNames.{distinct_behind, formal_names, is_local, local_names, named, names_in, param_names, variables_of, with_name}
use Rattle.sem_names.specs.Laws.{IsClassBody, kind_at, kind_of as region_kind}
use Rattle.sem_names.specs.Script.{class_name_of, naming_script, shape_in, spelled_in}
use Rattle.sem_names.proofs.ClassLemmas.{names_of_class}
use Rattle.pt_assembler.specs.Tables.{Begins}
use Rattle.pt_assembler.specs.PieceAt.{start_of}
use Rattle.pt_code.specs.declared.CodeBlock.{CodeBlock}
use Rattle.sem_code.specs.slots.BlockObject.{text_in}
use Rattle.pt_assembler.specs.Laws.{IsBlockOf}
use Rattle.pt_assembler.specs.Layout.{Written, label_at, with_cell, with_free, with_local, with_text}
use Rattle.pt_assembler.proofs.Growth.{Tabled, grows, tabled_same, tabled_then}
use Rattle.pt_assembler.proofs.TableLemmas.{begins_more, begins_same, begins_then}
use Rattle.sem_fits.specs.fits.Block.{Links, links_of, parameters_of}
use Rattle.sem_fits.specs.fits.Standing.{has_names}
use Rattle.law_operands.specs.law_files.sem_compile.stm_pieces.StmPiece.{code_piece}
use Rattle.law_operands.specs.law_files.sem_compile.stm_pieces.Laws.{slots_of}
use Rattle.law_operands.specs.law_files.sem_compile.stm_pieces.Needed.{free}
use Rattle.law_operands.specs.law_files.sem_compile.compile.ScriptCode.{BlockLayout, Tables, begun_block, code_block, code_of, empty_block, keyword_only_count, kind_of, layout_of, plain_count, script_layouts, with_all}
use Rattle.law_operands.specs.law_files.sem_compile.compile.Laws.{IsLayoutIn}
use Rattle.law_operands.proofs.law_files.sem_compile.compile.Blocks.{all_tabled, as_many_blocks, blocks_are_laid_out}
use Rattle.law_pieces.proofs.script_code.Begun.{IsBegun, block_begun}
use Rattle.law_typed_pieces.proofs.standing_pieces.Placed.{Placed, all_placed}
use Rattle.law_operands.proofs.law_files.code_files.Each.{both, each_at, weaken}
use Rattle.law_operands.proofs.law_files.code_files.Sound.{Apart, Differs, all_sound}
use Rattle.law_operands.proofs.law_files.code_files.Parameters.{OnceIn, each_stms}
use Rattle.law_operands.proofs.free_names.Distinct.{apart_behind}
use Rattle.law_operands.proofs.free_names.Kept.{the_locals}
use Rattle.law_operands.proofs.free_names.Listing.{listed, lists_cell, lists_free, lists_local, texts_of}
use Rattle.law_operands.proofs.piece_names.Script.{HasRegion, has_region, mapped_at}
use Rattle.law_typed_pieces.specs.standing_pieces.Pieces.{StandsPiece}
use Rattle.law_typed_pieces.specs.standing_pieces.Laws.{InstructionsMayStand, StandsLaid}
use Rattle.law_typed_pieces.proofs.standing_pieces.Walked.{AllMade, Good, IsMade, Runs, formals_of, may_none}
use Rattle.law_typed_pieces.proofs.standing_pieces.Expressions.{TellsYields}
use Rattle.law_typed_pieces.proofs.standing_pieces.Statements.{stms}
use Rattle.law_typed_pieces.proofs.standing_pieces.Laid.{laid}

abbrev around_in : Stms → (block : ℕ) → Around (Unit {0})
around_in ss n = around_of tt ss n

-- the class around a block, which is empty outside of classes
abbrev class_of : Block → Name
class_of k = unwrap_or k.class []

-- parameters of a block stand first among its local names

append_assoc : {A : Type 0} (xs ys zs : List A) → (xs ++ ys) ++ zs ≡ xs ++ (ys ++ zs)
append_assoc [] ys zs = refl
append_assoc (x ∷ xs) ys zs = ap (λ l. x ∷ l) (append_assoc xs ys zs)

behind_begins : (ys xs : List Name) → Begins ys (distinct_behind ys xs)
behind_begins ys [] = begins_same ys
behind_begins ys (x ∷ xs) = begins_then ys (with_name ys x) (distinct_behind (with_name ys x) xs) (by (list_any
    (λ y. bytes_eq y x) ys)) (behind_begins (with_name ys x) xs)
  where
    by : (b : Bool) → Begins ys (if b then ys else ys ++ x ∷ [])
    by true = begins_same ys
    by false = begins_more ys (x ∷ [])

any_not : (x : Name) (ys : List Name) → AllByRecursion (λ y. y ≡ x → ⊥) ys → list_any (λ y. bytes_eq y x) ys ≡ false
any_not x [] h = refl
any_not x (y ∷ ys) h = by (bytes_eq y x) refl (any_not x ys h.1)
  where
    by : (b : Bool) → bytes_eq y x ≡ b → list_any (λ y. bytes_eq y x) ys ≡ false → (b || list_any (λ y. bytes_eq y x) ys) ≡ false
    by true e rest = absurd (h.0 ((bytes_eq-Decides y x).0 e))
    by false e rest = rest

apart_begins : (ys ps os : List Name) → Apart ps → AllByRecursion (λ y. Differs y ps) ys → Begins (ys ++ ps) (distinct_behind ys (ps ++ os))
apart_begins ys [] os h d = subst (λ l. Begins l (distinct_behind ys os)) (sym (append-nil ys)) (behind_begins ys os)
apart_begins ys (q ∷ ps) os h d =
    let new : with_name ys q ≡ ys ++ q ∷ [] =
    ap (λ (b : Bool). if b then ys else ys ++ q ∷ []) (any_not q ys (weaken (λ y. Differs y (q ∷ ps)) (λ y. y ≡ q → ⊥) (λ y e. e.0) ys d)) in
    let rest = apart_begins (ys ++ q ∷ []) ps os h.1
    (both (λ y. Differs y ps) ys (q ∷ []) (weaken (λ y. Differs y (q ∷ ps)) (λ y. Differs y ps) (λ y e. e.1) ys d) (h.0, tt)) in
    subst (λ l. Begins l (distinct_behind ys (q ∷ (ps ++ os)))) (append_assoc ys (q ∷ []) ps)
    (subst (λ l. Begins ((ys ++ q ∷ []) ++ ps) (distinct_behind l (ps ++ os))) (sym new) rest)

take_begins : {A : Type 0} (xs ys : List A) → Begins xs ys → take (length xs) ys ≡ xs
take_begins xs ys b = ap (take (length xs)) b.1 ∙ front xs b.0
  where
    front : {A : Type 0} (xs ys : List A) → take (length xs) (xs ++ ys) ≡ xs
    front [] [] = refl
    front [] (y ∷ ys) = refl
    front (x ∷ xs) ys = ap (λ l. x ∷ l) (front xs ys)

take_map : {A B : Type 0} (f : A → B) (n : ℕ) (xs : List A) → map f (take n xs) ≡ take n (map f xs)
take_map f zero [] = refl
take_map f zero (x ∷ xs) = refl
take_map f (suc n) [] = refl
take_map f (suc n) (x ∷ xs) = ap (λ l. f x ∷ l) (take_map f n xs)

module _ (ss : Stms) (no_fault : fault_of (places_script ss) ≡ None) (n : ℕ) (k : Block) (is_block : slice_get (blocks_script ss) n ≡ Some k) where
  abbrev f : Name → Name
  f = spelled_in (naming_script ss) n

  apart : Apart (map (mangled (class_of k)) (param_names k.params))
  apart =
      let g = places_script ss in
      let all : AllByRecursion (OnceIn []) (blocks_script ss) =
      (tt, each_stms module_context [] ss (1, all_sound g.regions (facts g.mentions) [] g.mentions no_fault)) in
      each_at (OnceIn []) (blocks_script ss) n k is_block all

  class_is : class_name_of (slice_get (naming_script ss).blocks n) ≡ class_of k
  class_is = ap class_name_of (mapped_at (shape_in []) (blocks_script ss) n k is_block)

  spelled_is : (x : Name) → f x ≡ mangled (class_of k) x
  spelled_is x = ap (λ c. mangled c x) class_is

  all_spelled : (xs : List Name) → map f xs ≡ map (mangled (class_of k)) xs
  all_spelled [] = refl
  all_spelled (x ∷ xs) = ap (λ y. y ∷ map f xs) (spelled_is x) ∙ ap (λ ys. mangled (class_of k) x ∷ ys) (all_spelled xs)

  locals_are : (h : HasRegion ss n k) → (names_of ss n).locals ≡ local_names (naming_script ss) k.params n h.region
  locals_are h =
      ap (λ (o : Option Block). (names_at (naming_script ss) n o (slice_get (places_script ss).blocks n)).locals) is_block
      ∙ ap (λ (o : Option ℕ). (names_at (naming_script ss) n (Some k) o).locals) h.is_region

  -- the plain and keyword-only ones are the first
  first_names : Begins (map (mangled (class_of k)) (formals_of k.params)) (names_of ss n).locals
  first_names =
      let h = has_region ss n k is_block in
      let g = naming_script ss in
      let ys = map f (param_names k.params) in
      let others = names_in is_local (variables_of g.places n h.region) in
      let all : Begins ys (distinct_behind [] (ys ++ others)) = apart_begins [] ys others (subst Apart (sym (all_spelled (param_names k.params))) apart) tt in
      begins_then (map (mangled (class_of k)) (formals_of k.params)) ys (names_of ss n).locals
      (subst (λ l. Begins l ys) (all_spelled (formals_of k.params)) (formals_first k.params)) (subst (Begins ys) (sym (locals_are h)) all)
    where
      formals_first : (ps : Params) → Begins (map f (formals_of ps)) (map f (param_names ps))
      formals_first (S.parameters ps s ks d) =
          let first = formal_names ps ++ formal_names ks in
          begins_then (map f first) (map f (first ++ named s)) (map f (first ++ named s ++ named d))
          (map f (named s), map-append f first (named s)) (map f (named d), map-append f (first ++ named s) (named d))

  formals_count : (ps : Params) → length (formals_of ps) ≡ plain_count ps + keyword_only_count ps
  formals_count (S.parameters ps s ks d) = length-append (formal_names ps) (formal_names ks)

  -- of a layout over some tables
  module _ (t : Tables) (texts : List Name) (grown : Begins (layout_of t (around_in ss n) (names_of ss n) k).written.texts texts) where
    abbrev ns : Names
    ns = names_of ss n

    abbrev begins : Written
    begins = with_text k.name (empty_block t k.code)

    abbrev b : Written
    b = with_all with_local ns.locals begins

    abbrev c : Written
    c = with_all with_cell ns.cells b

    abbrev d : Written
    d = with_all with_free ns.frees c

    abbrev w : Written
    w = (layout_of t (around_in ss n) ns k).written

    none_yet : begins.locals ≡ []
    unfolding with_text
    none_yet = refl

    b_w : Tabled b w
    b_w =
        tabled_then b c w (all_tabled with_cell lists_cell.tabled ns.cells b)
        (tabled_then c d w (all_tabled with_free lists_free.tabled ns.frees c) (grows (code_piece (around_in ss n) k.code) [] d).tables)

    different : Apart ns.locals
    different =
        let h = has_region ss n k is_block in
        subst Apart (sym (locals_are h)) (apart_behind [] (map f (param_names k.params) ++ names_in is_local (variables_of
        (naming_script ss).places n h.region)) tt)

    locals_begin : Begins ns.locals (texts_of texts w.locals)
    locals_begin =
        let from_b : Begins b.texts texts = begins_then b.texts w.texts texts b_w.0 grown in
        let own : texts_of texts b.locals ≡ ns.locals =
        listed the_locals with_local lists_local ns.locals begins texts different
        (subst (AllByRecursion (λ (s : TextNo). (s.0 < length begins.texts) × Differs (get_or begins.texts s.0 []) ns.locals)) (sym none_yet) tt) from_b
        ∙ ap (λ xs. texts_of texts xs ++ ns.locals) none_yet in
        let more = b_w.1.1.1.0 in (
          texts_of texts more.0,
          ap (texts_of texts) more.1 ∙ (map-append (λ (x : TextNo). text_in texts x.0) b.locals more.0 ∙ ap (λ xs. xs ++ texts_of texts more.0) own),
        )

    pub parameters_are : map (λ (x : TextNo). text_in texts x.0) (take (plain_count k.params + keyword_only_count k.params) w.locals)
        ≡ map (mangled (class_of k)) (formals_of k.params)
    parameters_are =
        let ys = map (mangled (class_of k)) (formals_of k.params) in
        let count : plain_count k.params + keyword_only_count k.params ≡ length ys = sym (length-map (formals_of k.params) (mangled
        (class_of k)) ∙ formals_count k.params) in
        take_map (λ (x : TextNo). text_in texts x.0) (plain_count k.params + keyword_only_count k.params) w.locals
        ∙ (ap (λ m. take m (texts_of texts w.locals)) count ∙ take_begins ys (texts_of texts w.locals) (begins_then ys ns.locals
        (texts_of texts w.locals) first_names locals_begin))

-- the layout of a block
there : {A C : Type 0} (xs : List A) (ys : List C) (i : ℕ) (x : A) → length ys ≡ length xs → slice_get xs i ≡ Some x → (y : C) × (slice_get ys i ≡ Some y)
there [] ys i x e at = absurd (let no : None ≡ Some x = at in cc)
there (x ∷ xs) [] i z e at = absurd (omega (arith, e))
there (x ∷ xs) (y ∷ ys) zero z e at = (y, refl)
there (x ∷ xs) (y ∷ ys) (suc i) z e at = there xs ys i z (omega (arith, e)) at

same_some : {A : Type 0} (a b : A) → Some a ≡ Some b → a ≡ b
same_some a b e = ap (λ o. elim o [ None ↦ a | Some x ↦ x ]) e

-- each block is made with its kind and parameters
made : (ss : Stms) → fault_of (places_script ss) ≡ None → (p : ActRow → Bool) → (n : ℕ) (k : Block) → slice_get (blocks_script ss) n ≡ Some k
    → IsMade (links_of (code_of ss)) p [] n k
made ss no_fault p n k is_block =
    let code = code_of ss in
    let count : length (script_layouts ss) ≡ length (blocks_script ss) = sym (length-map (script_layouts ss) code_block) ∙ as_many_blocks ss in
    let at = there (blocks_script ss) (script_layouts ss) n k count is_block in
    let l : IsLayoutIn ss n at.0 = blocks_are_laid_out ss n at.0 at.1 in
    let same : l.block ≡ k = same_some l.block k (sym l.is_block ∙ is_block) in
    let is : at.0 ≡ layout_of l.tables (around_in ss n) (names_of ss n) k = l.is ∙ ap (layout_of l.tables (around_in ss n) (names_of ss n)) same in
    let here : slice_get code.blocks n ≡ Some (code_block (layout_of l.tables (around_in ss n) (names_of ss n) k)) =
    mapped_at code_block (script_layouts ss) n at.0 at.1 ∙ ap (λ b. Some (code_block b)) is in
    let grown : Begins (layout_of l.tables (around_in ss n) (names_of ss n) k).written.texts code.texts =
    subst (λ (b : BlockLayout). Begins b.written.texts code.texts) is (l.whole).texts in
    record {
      kind = ap (option_map (λ (b : CodeBlock). b.kind)) here;
      parameters = ap (parameters_of code.texts) here ∙ parameters_are ss no_fault n k is_block l.tables code.texts grown;
      apart = apart ss no_fault n k is_block;
    }

module _ (ss : Stms) (no_fault : fault_of (places_script ss) ≡ None) (numbered : IsNumbered ss) where
  abbrev links : Links
  links = links_of (code_of ss)

  module _ (p : ActRow → Bool) (rows : TellsYields links p) where
    counted : (m : ℕ) (ks : List Block) → ((i : ℕ) (k : Block) → slice_get ks i ≡ Some k → IsMade links p [] (m + i) k)
        → AllMade links p [] (counted_from m ks) ks
    counted m [] h = tt
    counted m (k ∷ ks) h = (
      subst (λ j. IsMade links p [] j k) (let plain : m + 0 ≡ m = omega arith in plain) (h 0 k refl),
      counted (suc m) ks (λ i j at. subst (λ z. IsMade links p [] z j) (let plain : m + suc i ≡ suc m + i = omega arith in plain) (h (suc i) j at)),
    )

    all_made : AllMade links p [] (numbers_stms ss) (blocks_stms ss)
    all_made = subst (λ ns. AllMade links p [] ns (blocks_stms ss)) (sym numbered) (counted 1 (blocks_stms ss) (λ i k at. subst
        (λ m. IsMade links p [] m k) (let plain : suc i ≡ 1 + i = omega arith in plain) (made ss no_fault p (suc i) k at)))

    all_good : AllByRecursion (Good links p []) (blocks_script ss)
    all_good =
        let g = places_script ss in
        let placed : Placed (places_stms module_context [] ss) = (1, all_placed g.regions (facts g.mentions) [] g.mentions no_fault) in
        let walk = stms links p rows ss module_context [] in (
          λ b same. ((walk.own all_made placed) b (may_none links p module_context b refl (acts_stms ss)) 0 free, (tt, refl)),
          walk.inner all_made placed,
        )

    -- a block with its names
    runs : (n : ℕ) (k : Block) → slice_get (blocks_script ss) n ≡ Some k → Runs links p (class_of k)
    runs n k is_block = record {
      around = around_in ss n;
      kind = kind_of k.code;
      spelled = spelled_is ss no_fault n k is_block;
      classes = λ within x of_class. class_names k.code (in_class n k is_block (names_of_class {V = Unit {0}} tt (naming_script ss) n within x of_class).1);
    }
      where
        class_names : (c : B.Code) → code_kind c ≡ Class → has_names (kind_of c) ≡ true
        class_names (B.of_module ts) e = refl
        class_names (B.of_function ts) e = absurd (let no : region.Function ≡ Class = e in cc)
        class_names (B.of_class ts) e = refl
        class_names (B.of_lambda l x) e = absurd (let no : region.Function ≡ Class = e in cc)
        class_names (B.of_generator l x j t cs) e = absurd (let no : region.Function ≡ Class = e in cc)

        in_class : (n : ℕ) (k : Block) → slice_get (blocks_script ss) n ≡ Some k → IsClassBody (places_script ss) n → code_kind k.code ≡ Class
        in_class n k at e =
            let h = has_region ss n k at in
            sym h.same_kind ∙ same_some (h.here).kind Class
            (ap region_kind (sym h.is_here) ∙ (ap (kind_at (places_script ss).regions) (sym h.is_region) ∙ e))

    block_stands : (n : ℕ) (k : Block) → slice_get (blocks_script ss) n ≡ Some k → StandsPiece (kind_of k.code) links (code_piece (around_in ss n) k.code)
    unfolding runs
    block_stands n k is_block = (each_at (Good links p []) (blocks_script ss) n k is_block all_good) (runs n k is_block) refl

    of_layout : (n : ℕ) (k : Block) (t : Tables) → slice_get (blocks_script ss) n ≡ Some k
        → (let b = layout_of t (around_in ss n) (names_of ss n) k in IsBlockOf b.written (code_of ss) (code_block b)
        → AllByRecursion (StandsLaid b.heading.kind links b.written) b.written.instrs)
    of_layout n k t is_block whole =
        let b = layout_of t (around_in ss n) (names_of ss n) k in
        let q = code_piece (around_in ss n) k.code in
        let v = begun_block t (names_of ss n) k in
        let h : IsBegun (slots_of k.code) v = block_begun t (names_of ss n) k in
        let labels : v.labels ≡ start_of ∷ [] = ap (λ (z : Written). z.labels) h.is in
        let zero_is : label_at b.written (record { 0 = 0 }) ≡ start_of =
        (grows q [] v).labels (record { 0 = 0 }) (subst (λ ls. 0 < length ls) (sym labels) (omega arith)) ∙ ap (λ ls. get_or ls 0 start_of) labels in
        laid (kind_of k.code) b.written (code_of ss) (code_block b) whole zero_is q [] v (block_stands n k is_block) (tabled_same b.written)
        (subst (AllByRecursion (StandsLaid (kind_of k.code) links b.written)) (sym (ap (λ (z : Written). z.instrs) h.is)) tt)

    pub may_stand_there : (n : ℕ) (b : BlockLayout) → slice_get (script_layouts ss) n ≡ Some b
        → AllByRecursion (StandsLaid b.heading.kind links b.written) b.written.instrs
    may_stand_there n b at =
        let l : IsLayoutIn ss n b = blocks_are_laid_out ss n b at in
        subst (λ (c : BlockLayout). IsBlockOf c.written (code_of ss) (code_block c)
        → AllByRecursion (StandsLaid c.heading.kind links c.written) c.written.instrs) (sym l.is)
        (of_layout n l.block l.tables l.is_block) l.whole

pub instructions_may_stand : InstructionsMayStand
instructions_may_stand ss no_fault numbered n b at =
    may_stand_there ss no_fault numbered _ (record { gives = λ l. refl; hands = λ l. refl; again = λ r e. e; told = λ c. refl }) n b at
