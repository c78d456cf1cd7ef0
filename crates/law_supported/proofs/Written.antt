-- Code of a block has the names that its operands name, and those are the ones with which it begins.
use Rattle.std.proofs.Common.{if◌then◌else◌, ◌≡◌, ℕ, zero, suc, ◌<◌, Bool, true, false, cond, List, [], ◌∷◌, ◌++◌, length, get_or, map, filter, Option, Some, None, refl, sym, ap, ◌∙◌, subst, append-nil, bytes_eq}
use Rattle.std.specs.Prelude.{◌==◌, slice_get}
use Rattle.std.specs.List.{AllByRecursion}
use Rattle.std.proofs.lemmas.Slice.Eq.{bytes_eq-Decides}
use Rattle.pt_tree.specs.Syntax.{Name, Stms}
use Rattle.pt_tree.specs.Blocks.{Block, blocks_script}
use Rattle.pt_scopes.specs.declared.region.Mention.{Mention}
use Rattle.pt_scopes.specs.Mentions.{places_script}
use Rattle.pt_scopes.specs.Places.{Places}
use Rattle.pt_scopes.specs.Scope.{facts, home_of, owner_from}
use Rattle.pt_instr.specs.declared.TextNo.{TextNo}
use Rattle.sem_control.specs.control.Turn as T
use Rattle.sem_control.specs.control.Turn.{Around, Scope, Variable}
use Rattle.sem_names.specs.Around.{Names, around_of, names_at, names_of}
use Rattle.sem_names.specs.BlockNames.{class_if, class_name, distinct, has_class, is_cell, is_local, makes_class, named_at, names_in, param_names, read_free, variables_of}
use Rattle.sem_names.specs.Naming.{dot, dotted, is_free_at, of_owner, own, owned, seen, variable}
use Rattle.sem_names.specs.Regions.{depth_of}
use Rattle.sem_names.specs.Script.{Naming, functions_of, naming_script, spelled_in}
use Rattle.pt_assembler.specs.Tables.{Begins}
use Rattle.pt_assembler.specs.Layout.{Written, keep_cell, keep_free, keep_local, layout, with_cell, with_free, with_local, with_text}
use Rattle.pt_assembler.proofs.TableLemmas.{begins_then}
use Rattle.pt_assembler.proofs.Growth.{Tabled, grows, tabled_same, tabled_then}
use Rattle.law_operands.specs.law_files.sem_compile.stm_pieces.StmPiece.{code_piece}
use Rattle.law_operands.specs.law_files.sem_compile.compile.ScriptCode.{BlockLayout, Tables, code_of, empty_block, layout_of, with_all}
use Rattle.law_operands.specs.law_files.sem_compile.compile.Laws.{IsLayoutIn}
use Rattle.law_operands.proofs.law_files.sem_compile.compile.Blocks.{all_tabled, blocks_are_laid_out}
use Rattle.law_operands.proofs.law_files.code_files.Sound.{Apart, Differs}
use Rattle.law_operands.proofs.law_files.code_files.Each.{both, mapped, weaken}
use Rattle.pt_supported.specs.Built.{Built, class_word}
use Rattle.law_operands.specs.free_names.FreeNames.{Among, ClassNameIsUnused, NamedOperands}
use Rattle.law_operands.proofs.free_names.Begun.{each_among, operands_also}
use Rattle.law_operands.proofs.free_names.Distinct.{apart_behind, each_distinct, each_mention, frees_apart}
use Rattle.law_operands.proofs.free_names.Kept.{Choice, Holds, cell_there, chosen, free_there, holds_on, layout_kept, local_there, the_cells, the_frees, the_locals}
use Rattle.law_operands.proofs.free_names.Listing.{Lists, all_held, listed, lists_cell, lists_free, lists_local, texts_of}
use Rattle.law_operands.proofs.free_pieces.Script.{block_named}
use Rattle.law_supported.specs.Laws.{BuiltBlocksHaveTheirNames}
use Rattle.law_supported.proofs.Plain.{none_is_the_keyword}
use Rattle.law_supported.proofs.Listed.{Listed, knows_names, together}

-- what is in the lists of a block's names
abbrev InNames : Names → Scope → Name → Type 0
InNames ns T.local x = Among ns.locals x
InNames ns T.cell x = Among ns.cells x
InNames ns T.free x = Among ns.frees x
InNames ns s x = Unit {0}

-- what the writer has in its lists
abbrev Held : Written → Scope → Name → Type 0
Held w T.local x = Holds the_locals w x
Held w T.cell x = Holds the_cells w x
Held w T.free x = Holds the_frees w x
Held w s x = Unit {0}

-- a name that comes into one list leaves the others

local_apart : (x : Name) (w : Written) → ((with_local x w).cells ≡ w.cells) × ((with_local x w).free ≡ w.free)
unfolding with_text keep_local
local_apart x w = (refl, refl)

cell_apart : (x : Name) (w : Written) → ((with_cell x w).locals ≡ w.locals) × ((with_cell x w).free ≡ w.free)
unfolding with_text keep_cell
cell_apart x w = (refl, refl)

free_apart : (x : Name) (w : Written) → ((with_free x w).locals ≡ w.locals) × ((with_free x w).cells ≡ w.cells)
unfolding with_text keep_free
free_apart x w = (refl, refl)

all_apart : (c : Choice) (f : Name → Written → Written) → ((x : Name) (w : Written) → chosen c (f x w) ≡ chosen c w) → (xs : List Name) (w : Written)
    → chosen c (with_all f xs w) ≡ chosen c w
all_apart c f g [] w = refl
all_apart c f g (x ∷ xs) w = all_apart c f g xs (f x w) ∙ g x w

one_list : (c : Choice) (f : Name → Written → Written) (l : Lists c f) (zs : List Name) (u : Written) (ts : List Name) → chosen c u ≡ [] → Apart zs
    → Begins (with_all f zs u).texts ts → texts_of ts (chosen c (with_all f zs u)) ≡ zs
one_list c f l zs u ts none apart b =
    listed c f l zs u ts apart
    (subst (AllByRecursion (λ (s : TextNo). (s.0 < length u.texts) × Differs (get_or u.texts s.0 []) zs)) (sym none) tt) b
    ∙ ap (λ xs. texts_of ts xs ++ zs) none

nothing_begun : (t : Tables) (k : Block) → let v = with_text k.name (empty_block t k.code) in (v.locals ≡ []) × (v.cells ≡ []) × (v.free ≡ [])
unfolding with_text
nothing_begun t k = (refl, refl, refl)

pub record AllApart (ns : Names) : Type 0 where
  pub locals : Apart ns.locals
  pub cells : Apart ns.cells
  pub frees : Apart ns.frees

record Has (ns : Names) (ts : List Name) (w : Written) : Type 0 where
  locals : texts_of ts w.locals ≡ ns.locals
  cells : texts_of ts w.cells ≡ ns.cells
  frees : texts_of ts w.free ≡ ns.frees

laid : (t : Tables) (a : Around (Unit {0})) (ns : Names) (k : Block) (ts : List Name) → AllApart ns → NamedOperands (InNames ns) (code_piece a k.code)
    → Begins (layout_of t a ns k).written.texts ts → Has ns ts (layout_of t a ns k).written
laid t a ns k ts apart operands grown =
    let v = with_text k.name (empty_block t k.code) in
    let b = with_all with_local ns.locals v in
    let c = with_all with_cell ns.cells b in
    let d = with_all with_free ns.frees c in
    let p = code_piece a k.code in
    let w = layout p [] d in
    let none = nothing_begun t k in
    let of_b : Tabled b c = all_tabled with_cell lists_cell.tabled ns.cells b in
    let of_c : Tabled c d = all_tabled with_free lists_free.tabled ns.frees c in
    let of_d : Tabled d w = (grows p [] d).tables in
    let from_d : Begins d.texts ts = begins_then d.texts w.texts ts of_d.0 grown in
    let from_c : Begins c.texts ts = begins_then c.texts d.texts ts of_c.0 from_d in
    let from_b : Begins b.texts ts = begins_then b.texts c.texts ts of_b.0 from_c in
    let b_d : Tabled b d = tabled_then b c d of_b of_c in
    let held : NamedOperands (Held d) p =
    operands_also (InNames ns) (Held d) (by d
    (all_later the_locals b d ns.locals b_d b_d.1.1.1.0 (all_held the_locals with_local lists_local ns.locals v))
    (all_later the_cells c d ns.cells of_c of_c.1.1.1.1.0 (all_held the_cells with_cell lists_cell ns.cells b))
    (all_held the_frees with_free lists_free ns.frees c)) p operands in
    record {
      locals =
          ap (texts_of ts) (layout_kept the_locals d (Held d) (λ x u g h. local_there x u (holds_on the_locals d u x g g.1.1.1.0 h))
          (λ x u g h. (cell_apart x u).0) (λ x u g h. (free_apart x u).0) p [] d (tabled_same d) held
          ∙ all_apart the_locals with_free (λ x u. (free_apart x u).0) ns.frees c
          ∙ all_apart the_locals with_cell (λ x u. (cell_apart x u).0) ns.cells b)
          ∙ one_list the_locals with_local lists_local ns.locals v ts none.0 apart.locals from_b;
      cells =
          ap (texts_of ts) (layout_kept the_cells d (Held d) (λ x u g h. (local_apart x u).0)
          (λ x u g h. cell_there x u (holds_on the_cells d u x g g.1.1.1.1.0 h)) (λ x u g h. (free_apart x u).1) p [] d (tabled_same d) held
          ∙ all_apart the_cells with_free (λ x u. (free_apart x u).1) ns.frees c)
          ∙ one_list the_cells with_cell lists_cell ns.cells b ts (all_apart the_cells with_local (λ x u. (local_apart x u).0) ns.locals v ∙ none.1)
          apart.cells from_c;
      frees =
          ap (texts_of ts) (layout_kept the_frees d (Held d) (λ x u g h. (local_apart x u).1) (λ x u g h. (cell_apart x u).1)
          (λ x u g h. free_there x u (holds_on the_frees d u x g g.1.1.1.1.1.0 h)) p [] d (tabled_same d) held)
          ∙ one_list the_frees with_free lists_free ns.frees c ts
          (all_apart the_frees with_cell (λ x u. (cell_apart x u).1) ns.cells b ∙ all_apart the_frees with_local (λ x u. (local_apart x u).1) ns.locals v ∙ none.2)
          apart.frees from_d;
    }
  where
    all_later : (c : Choice) (v w : Written) (xs : List Name) → Tabled v w → Begins (chosen c v) (chosen c w) → AllByRecursion (Holds c v) xs
        → AllByRecursion (Holds c w) xs
    all_later c v w [] g b h = tt
    all_later c v w (x ∷ xs) g b h = (holds_on c v w x g b h.0, all_later c v w xs g b h.1)

    by : (d : Written) → AllByRecursion (Holds the_locals d) ns.locals → AllByRecursion (Holds the_cells d) ns.cells → AllByRecursion (Holds the_frees d) ns.frees
        → (s : Scope) (x : Name) → InNames ns s x → Held d s x
    by d l c f T.local x h = each_among (Holds the_locals d) ns.locals x l h
    by d l c f T.cell x h = each_among (Holds the_cells d) ns.cells x c h
    by d l c f T.free x h = each_among (Holds the_frees d) ns.frees x f h
    by d l c f T.global x h = tt
    by d l c f T.of_class x h = tt

each_name : (Q : Name → Type 0) (p : Scope → Bool) (vs : List Variable) → AllByRecursion (λ (v : Variable). Q v.name) vs → AllByRecursion Q (names_in p vs)
each_name Q p [] h = tt
each_name Q p (v ∷ vs) h = by (p v.scope) (each_name Q p vs h.1)
  where
    by : (b : Bool) → AllByRecursion Q (names_in p vs) → AllByRecursion Q (if b then v.name ∷ names_in p vs else names_in p vs)
    by true rest = (h.0, rest)
    by false rest = rest

all_filtered : {A : Type 0} (R : A → Type 0) (f : A → Bool) (xs : List A) → AllByRecursion R xs → AllByRecursion R (filter f xs)
all_filtered R f [] h = tt
all_filtered {A} R f (x ∷ xs) h = by (f x) (all_filtered R f xs h.1)
  where
    by : (b : Bool) → AllByRecursion R (filter f xs) → AllByRecursion R (cond b (x ∷ filter f xs) (filter f xs))
    by true rest = (h.0, rest)
    by false rest = rest

apart_end : (xs : List Name) (x : Name) → Apart xs → AllByRecursion (λ y. y ≡ x → ⊥) xs → Apart (xs ++ x ∷ [])
apart_end [] x h d = (tt, tt)
apart_end (y ∷ ys) x h d = (both (λ z. y ≡ z → ⊥) ys (x ∷ []) h.0 (d.0, tt), apart_end ys x h.1 d.1)

other_name : (x : Name) → bytes_eq x class_name ≡ false → x ≡ class_name → ⊥
other_name x e s = let same : false ≡ true = sym e ∙ (bytes_eq-Decides x class_name).1 s in absurd cc

-- what holds of each name that is mentioned, and then of it with dots before it, holds of each name of a block
module _ (ss : Stms) (R Q : Name → Type 0) (with_dots : (d : ℕ) (x : Name) → R x → Q (dotted d x))
    (mentioned : AllByRecursion (λ (m : Mention). R m.name) (places_script ss).mentions) where
  abbrev places : Places
  places = places_script ss

  of_owner_named : (h : ℕ) (x : Name) (o : Option ℕ) → R x → Q (of_owner places h x o).name
  of_owner_named h x None i = with_dots 0 x i
  of_owner_named h x (Some q) i = by (home_of places.regions q == h)
    where
      by : (b : Bool) → Q (if b then owned places q x else variable T.free x).name
      by true = with_dots (depth_of places.regions q) x i
      by false = with_dots 0 x i

  named_so : (n h : ℕ) (m : Mention) → R m.name → Q (named_at places n h m).name
  named_so n h m i = by (m.region == h)
    where
      by : (b : Bool) → Q (if b then own places n m.name else seen places m.region m.name).name
      by true = with_dots 0 m.name i
      by false = of_owner_named (home_of places.regions m.region) m.name (owner_from places.regions (facts places.mentions m.name) m.region) i

  pub each_cell : (n h : ℕ) → AllByRecursion Q (distinct (names_in is_cell (variables_of places n h)))
  each_cell n h =
      let f : Mention → Bool = λ m. home_of places.regions m.region == h in
      each_distinct Q [] (names_in is_cell (variables_of places n h)) tt
      (each_name Q is_cell (variables_of places n h)
      (mapped (λ (v : Variable). Q v.name) (named_at places n h) (filter f places.mentions)
      (all_filtered (λ m. Q (named_at places n h m).name) f places.mentions
      (weaken (λ (m : Mention). R m.name) (λ m. Q (named_at places n h m).name) (named_so n h) places.mentions mentioned))))

  named_at_region : (n : ℕ) (k : Option Block) (r : Option ℕ) → Q class_name
      → AllByRecursion Q (names_at (naming_script ss) n k r).cells × AllByRecursion Q (names_at (naming_script ss) n k r).frees
  named_at_region n (Some k) (Some h) of_class =
      let fs = functions_of (naming_script ss) in (
        both Q (distinct (names_in is_cell (variables_of places n h))) (class_if (makes_class places fs h)) (each_cell n h) (class_named (makes_class places fs h)),
        both Q (read_free places h) (class_if (has_class places.regions fs h)) (each_free h) (class_named (has_class places.regions fs h)),
      )
    where
      class_named : (b : Bool) → AllByRecursion Q (class_if b)
      class_named true = (of_class, tt)
      class_named false = tt

      each_free : (h : ℕ) → AllByRecursion Q (read_free places h)
      each_free h =
          each_distinct Q [] (map (λ (m : Mention). m.name) (filter (is_free_at places h) places.mentions)) tt
          (each_mention Q (is_free_at places h) places.mentions
          (weaken (λ (m : Mention). R m.name) (λ (m : Mention). is_free_at places h m ≡ true → Q m.name) (λ m i free. with_dots 0 m.name i) places.mentions mentioned))
  named_at_region n None r of_class = (tt, tt)
  named_at_region n (Some k) None of_class = (tt, tt)

  -- of each of its names in cells, and of each free one, if of that of a class
  pub all_named : (n : ℕ) → Q class_name → AllByRecursion Q (names_of ss n).cells × AllByRecursion Q (names_of ss n).frees
  all_named n of_class = named_at_region n (slice_get (blocks_script ss) n) (slice_get (naming_script ss).places.blocks n) of_class

-- a name that is neither that of a class nor the keyword isn't that of a class with dots before it either
abbrev IsNoClass : Name → Type 0
IsNoClass x = (bytes_eq x class_name ≡ false) × (bytes_eq x class_word ≡ false)

no_class : (d : ℕ) (x : Name) → IsNoClass x → dotted d x ≡ class_name → ⊥
no_class zero x h s = other_name x h.0 s
no_class (suc zero) x h s = other_name (dot ∷ x) h.1 s
no_class (suc (suc d)) x h s = other_name (dot ∷ (dot ∷ dotted d x)) refl s

module _ (ss : Stms) (unused : ClassNameIsUnused ss) (built : Built ss) where
  abbrev g : Naming
  g = naming_script ss

  abbrev p : Places
  p = g.places

  pub cells_other : (n h : ℕ) → AllByRecursion (λ x. x ≡ class_name → ⊥) (distinct (names_in is_cell (variables_of p n h)))
  cells_other n h =
      each_cell ss IsNoClass (λ x. x ≡ class_name → ⊥) no_class
      (together (λ (m : Mention). bytes_eq m.name class_name ≡ false) (λ (m : Mention). bytes_eq m.name class_word ≡ false) p.mentions unused
      (none_is_the_keyword ss built)) n h

  cells_apart : (b : Bool) (xs : List Name) → Apart xs → AllByRecursion (λ x. x ≡ class_name → ⊥) xs → Apart (xs ++ class_if b)
  cells_apart true xs h d = apart_end xs class_name h d
  cells_apart false xs h d = subst Apart (sym (append-nil xs)) h

  -- each list has no name twice
  names_apart : (n : ℕ) (k : Block) (h : ℕ) → Apart (names_at g n (Some k) (Some h)).frees → AllApart (names_at g n (Some k) (Some h))
  names_apart n k h frees = record {
    locals = apart_behind [] (map (spelled_in g n) (param_names k.params) ++ names_in is_local (variables_of p n h)) tt;
    cells = cells_apart (makes_class p (functions_of g) h) (distinct (names_in is_cell (variables_of p n h)))
        (apart_behind [] (names_in is_cell (variables_of p n h)) tt) (cells_other n h);
    frees = frees;
  }

  in_names : (n : ℕ) (k : Block) (h : ℕ) → slice_get p.blocks n ≡ Some h → (s : Scope) (x : Name) → Listed g h s x → InNames (names_at g n (Some k) (Some h)) s x
  in_names n k h at T.local x f = f n k.params at
  in_names n k h at T.cell x f = f n at
  in_names n k h at T.free x f = f
  in_names n k h at T.global x f = tt
  in_names n k h at T.of_class x f = tt

  apart_by : (n : ℕ) (k : Option Block) (r : Option ℕ) → Apart (names_at g n k r).frees → AllApart (names_at g n k r)
  apart_by n (Some k) (Some h) frees = names_apart n k h frees
  apart_by n None r frees = record { locals = tt; cells = tt; frees = tt }
  apart_by n (Some k) None frees = record { locals = tt; cells = tt; frees = tt }

  pub lists_apart : (n : ℕ) → AllApart (names_of ss n)
  lists_apart n = apart_by n (slice_get (blocks_script ss) n) (slice_get p.blocks n) (frees_apart ss n unused)

pub blocks_have_names : BuiltBlocksHaveTheirNames
blocks_have_names ss none numbered unused built n b at =
    let g = naming_script ss in
    let l : IsLayoutIn ss n b = blocks_are_laid_out ss n b at in
    let k = l.block in
    let h = block_named ss (Listed g) (knows_names ss built none numbered) n k l.is_block in
    let ns = names_at g n (Some k) (Some h.0) in
    let same : names_of ss n ≡ ns = ap (λ o. names_at g n o (slice_get g.places.blocks n)) l.is_block ∙ ap (λ o. names_at g n (Some k) o) h.1 in
    let a = around_of {V = Unit {0}} tt ss n in
    let operands = operands_also (Listed g h.0) (InNames ns) (in_names ss unused built n k h.0 h.1) (code_piece a k.code) h.2 in
    let apart = subst AllApart same (lists_apart ss unused built n) in
    let laid_out : b ≡ layout_of l.tables a ns k = l.is ∙ ap (λ ns. layout_of l.tables a ns k) same in
    let has : Has ns (code_of ss).texts b.written =
    subst (λ (c : BlockLayout). Has ns (code_of ss).texts c.written) (sym laid_out)
    (laid l.tables a ns k (code_of ss).texts apart operands (subst (λ (c : BlockLayout). Begins c.written.texts (code_of ss).texts) laid_out l.whole.texts)) in
    record {
      locals = has.locals ∙ ap (λ (ns : Names). ns.locals) (sym same);
      cells = has.cells ∙ ap (λ (ns : Names). ns.cells) (sym same);
      frees = has.frees ∙ ap (λ (ns : Names). ns.frees) (sym same);
    }
