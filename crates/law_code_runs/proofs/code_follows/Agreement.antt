-- What a code object of a script's code knows of names is what control knows of them.
use Rattle.std.proofs.Common.{◌≡◌, ℕ, zero, suc, ◌+◌, Bool, true, false, List, [], ◌∷◌, map, length, Option, Some, None, refl, sym, ap, ◌∙◌, length-append}
use Rattle.std.specs.Prelude.{slice_get}
use Rattle.pt_tree.specs.Syntax.{Stms}
use Rattle.pt_tree.specs.Blocks as B
use Rattle.pt_tree.specs.Blocks.{Block, Code as BlockCode, blocks_script}
use Rattle.pt_scopes.specs.BlockKinds.{code_kind}
use Rattle.pt_scopes.specs.declared.region.Kind.{Kind}
use Rattle.pt_scopes.specs.declared.region.Kind.TheVariants.{Class}
use Rattle.pt_scopes.specs.declared.region.Region.{Region}
use Rattle.pt_scopes.specs.Mentions.{places_script}
use Rattle.pt_scopes.specs.Places.{Places}
use Rattle.sem_control.specs.control.Turn as T
use Rattle.sem_code.specs.comp_expr.Places.{count}
use Rattle.sem_names.specs.Around.{around_of, captured_in, names_at, names_of}
use Rattle.sem_names.specs.BlockNames.{captured_at, class_if, class_taken, free_names, has_class, read_free, taken_along}
use Rattle.sem_names.specs.Laws.{kind_at, kind_of as kind_of_region}
use Rattle.sem_names.specs.Naming.{seen}
use Rattle.sem_names.specs.Script.{functions_of, naming_script}
use Rattle.sem_names.proofs.ClassLemmas.{names_of_class}
use Rattle.sem_code.specs.slots.BlockObject.{free_in, pool_of, scope_of}
use Rattle.sem_code.specs.slots.CodeObject.{CodeObject}
use Rattle.sem_compile.specs.emitter.Laws.{Agrees}
use Rattle.sem_compile.specs.compile.ScriptCode.{BlockLayout, Tables, code_block, code_of, kind_of, layout_of, layouts, no_tables, script_layouts, tables_of}
use Rattle.sem_compile.proofs.compile.Blocks.{blocks_are_laid_out}
use Rattle.law_operands.proofs.piece_names.Script.{has_no_region, has_region}
use Rattle.law_code_runs.specs.code_follows.Laws.{FreeNamesHaveCells, HasItsFreeNames}

-- names of a class are in the body of a class alone

class_scope : (c : BlockCode) → code_kind c ≡ Class → scope_of (kind_of c) ≡ T.of_class
class_scope (B.of_module ss) is = absurd (cc)
class_scope (B.of_function ss) is = absurd (cc)
class_scope (B.of_class ss) is = refl
class_scope (B.of_lambda l e) is = absurd (cc)
class_scope (B.of_generator l e k t cs) is = absurd (cc)

same_some : {A : Type 0} (a b : A) → Some a ≡ Some b → a ≡ b
same_some a b is = ap (λ o. elim o [ None ↦ a | Some x ↦ x ]) is

same_block : (j k : Block) (o : Option Block) → o ≡ Some j → o ≡ Some k → j ≡ k
same_block j k o is as_well = same_some j k (sym is ∙ as_well)

class_kind : (ss : Stms) (n : ℕ) (block : Block) → slice_get (blocks_script ss) n ≡ Some block
    → kind_at (places_script ss).regions (slice_get (places_script ss).blocks n) ≡ Some Class → code_kind block.code ≡ Class
class_kind ss n block at is =
    let h = has_region ss n block at in
    let here : kind_at (places_script ss).regions (slice_get (places_script ss).blocks n) ≡ Some h.here.kind =
    ap (λ o. kind_at (places_script ss).regions o) h.is_region ∙ ap (λ o. kind_of_region o) h.is_here in
    sym h.same_kind ∙ same_some h.here.kind Class (sym here ∙ is)

-- as many cells are taken along as there are free names

length_map : {A C : Type 0} (f : A → C) (xs : List A) → length (map f xs) ≡ length xs
length_map f [] = refl
length_map f (x ∷ xs) = ap suc (length_map f xs)

length_class : (b : Bool) (k : Kind) → length (class_taken b k) ≡ length (class_if b)
length_class true k = refl
length_class false k = refl

taken_count : (g : Places) (fs : List ℕ) (r : ℕ) (here : Region) → slice_get g.regions r ≡ Some here
    → length (captured_at g fs (Some r)) ≡ length (free_names g fs r)
taken_count g fs r here at =
    let b = has_class g.regions fs r in
    let xs = map (seen g here.around) (read_free g r) in
    ap (λ o. length (taken_along g fs r o)) at
    ∙ length-append xs (class_taken b here.kind)
    ∙ ap (λ n. n + length (class_taken b here.kind)) (length_map (seen g here.around) (read_free g r))
    ∙ ap (λ n. length (read_free g r) + n) (length_class b here.kind)
    ∙ sym (length-append (read_free g r) (class_if b))

count_length : {A : Type 0} (xs : List A) → length xs ≡ count xs
count_length [] = refl
count_length (x ∷ xs) = ap suc (count_length xs)

mapped_some : {A C : Type 0} (f : A → C) (xs : List A) (i : ℕ) (x : A) → slice_get xs i ≡ Some x → slice_get (map f xs) i ≡ Some (f x)
mapped_some f [] i x at = absurd (let no : None ≡ Some x = at in cc)
mapped_some f (y ∷ ys) zero x at = ap (λ z. Some (f z)) (same_some y x at)
mapped_some f (y ∷ ys) (suc i) x at = mapped_some f ys i x at

mapped_none : {A C : Type 0} (f : A → C) (xs : List A) (i : ℕ) → slice_get xs i ≡ None → slice_get (map f xs) i ≡ None
mapped_none f [] i at = refl
mapped_none f (y ∷ ys) zero at = absurd (let there : Some y ≡ None = at in cc)
mapped_none f (y ∷ ys) (suc i) at = mapped_none f ys i at

no_block : (ss : Stms) (n : ℕ) (ks : List Block) (t : Tables) (m : ℕ) → slice_get (layouts ss n ks t) m ≡ None → slice_get ks m ≡ None
no_block ss n [] t m at = refl
no_block ss n (k ∷ ks) t zero at = absurd (let there : Some (layout_of t (around_of tt ss n) (names_of ss n) k) ≡ None = at in cc)
no_block ss n (k ∷ ks) t (suc m) at = no_block ss (n + 1) ks (tables_of (layout_of t (around_of tt ss n) (names_of ss n) k).written) m at

module _ (ss : Stms) (keeps : HasItsFreeNames ss) where
  of_layout : (m : ℕ) (l : BlockLayout) → slice_get (script_layouts ss) m ≡ Some l
      → free_in (slice_get (code_of ss).blocks m) ≡ count (captured_in (naming_script ss) m)
  of_layout m l at =
      let g = naming_script ss in
      let fs = functions_of g in
      let laid = blocks_are_laid_out ss m l at in
      let h = has_region ss m laid.block laid.is_block in
      let free : length l.written.free ≡ length (free_names g.places fs h.region) =
      keeps m l at ∙ ap (λ o. length (names_at g m o (slice_get g.places.blocks m)).frees) laid.is_block
      ∙ ap (λ o. length (names_at g m (Some laid.block) o).frees) h.is_region in
      ap (λ o. free_in o) (mapped_some code_block (script_layouts ss) m l at)
      ∙ free
      ∙ sym (taken_count g.places fs h.region h.here h.is_here)
      ∙ ap (λ o. length (captured_at g.places fs o)) (sym h.is_region)
      ∙ count_length (captured_in g m)

  of_nothing : (m : ℕ) → slice_get (script_layouts ss) m ≡ None → free_in (slice_get (code_of ss).blocks m) ≡ count (captured_in (naming_script ss) m)
  of_nothing m at =
      let g = naming_script ss in
      ap (λ o. free_in o) (mapped_none code_block (script_layouts ss) m at)
      ∙ ap (λ o. count (captured_at g.places (functions_of g) o)) (sym (has_no_region ss m (no_block ss 0 (blocks_script ss) no_tables m at)))

  captures : (m : ℕ) → free_in (slice_get (code_of ss).blocks m) ≡ count (captured_in (naming_script ss) m)
  captures m = by (slice_get (script_layouts ss) m) refl
    where
      by : (o : Option BlockLayout) → slice_get (script_layouts ss) m ≡ o → free_in (slice_get (code_of ss).blocks m) ≡ count (captured_in (naming_script ss) m)
      by (Some l) at = of_layout m l at
      by None at = of_nothing m at

  pub agrees : {V : Type 0} (null : V) (n : ℕ) (block : Block) (layout : BlockLayout) (object : CodeObject V) → slice_get (blocks_script ss) n ≡ Some block
      → slice_get (script_layouts ss) n ≡ Some layout → object.null ≡ null → object.pool ≡ pool_of (code_of ss) (code_block layout)
      → Agrees (around_of null ss n) object
  agrees null n block layout object is_block is_layout same pool =
      let laid = blocks_are_laid_out ss n layout is_layout in
      let own = same_block laid.block block _ laid.is_block is_block in
      record {
        null = same;
        captures = λ m. ap (λ p. p.captures m) pool ∙ captures m;
        of_class = λ within x is.
            let body = (names_of_class null (naming_script ss) n within x is).1 in
            ap (λ p. p.name_scope) pool ∙ ap (λ l. scope_of l.heading.kind) laid.is ∙ ap (λ (k : Block). scope_of (kind_of k.code)) own
            ∙ class_scope block.code (class_kind ss n block is_block body);
      }

pub free_names_have_cells : FreeNamesHaveCells
free_names_have_cells ss n m keeps = captures ss keeps m ∙ sym (count_length (captured_in (naming_script ss) m))
