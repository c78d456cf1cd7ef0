-- What the tables of a loaded code have for each number, whatever the code was made of. The module stands for a number that it doesn't have.
use Rattle.std.proofs.Common.{◌≡◌, ◌+◌, ℕ, Bool, true, false, if◌then◌else◌, nat_eq, List, [], ◌∷◌, length, map, filter, Option, Some, None, refl, sym, ap, ◌∙◌, subst}
use Rattle.std.specs.Prelude.{slice_get, slice_index_or}
use Rattle.std.proofs.lemmas.List.{length-map}
use Rattle.pt_ranges.specs.Rows.{covers}
use Rattle.pt_instr.specs.declared.Instr.{Instr}
use Rattle.pt_instr.specs.Encoding.{encoding}
use Rattle.pt_heap.specs.declared.value.Value.{Value}
use Rattle.pt_heap.specs.declared.value.Value.TheVariants as value
use Rattle.sem_control.specs.control.Turn as T
use Rattle.pt_code.specs.declared.Const.TheVariants as const
use Rattle.pt_code.specs.declared.BlockKind.{BlockKind}
use Rattle.pt_code.specs.declared.BlockKind.TheVariants as kind
use Rattle.pt_code.specs.declared.CodeBlock.{CodeBlock}
use Rattle.pt_code.specs.declared.Code.{Code}
use Rattle.pt_code.specs.View.{Ins, IsView, ins_at, laid_from}
use Rattle.sem_code.specs.slots.CodeObject.{Pool, Extras, CodeObject}
use Rattle.sem_code.specs.slots.BlockObject.{IsBlockObject, constant_of, pool_of, scope_of}
use Rattle.pt_places.specs.PlaceTable.{HasPlaces}
use Rattle.sem_fits.specs.fits.Block.{block_of}
use Rattle.sem_run.specs.run.Machine.{BlockId}
use Rattle.sem_code_machine.specs.code_machine.CodeBlocks.{CodeBlocks}
use Rattle.law_compile.specs.script_depths.Laws.{HasItsSizes}
use Rattle.pt_builtins.specs.pt_host.World.{CodeFacts, Program}
use Rattle.pt_builtins.specs.pt_host.Answers.{constant_value}
use Rattle.pt_builtins.specs.pt_host.Builtins.{meaning}
use Rattle.pt_code_loader.specs.pt_code_tables.pt_machine_state.pt_code_facts.sem_rows.heap_rows.Leads.{HasHeapTruths, HasHeapExtras, known_truth}
use Rattle.pt_code_loader.specs.pt_code_tables.pt_machine_state.pt_code_facts.sem_rows.variables.Numbers.{KnowsNames}
use Rattle.pt_builtins.specs.declared.BuiltinLookup.TheVariants as lookup
use Rattle.pt_builtins.specs.Lookups.{builtin_view}
use Rattle.pt_code_loader.specs.pt_code_tables.pt_machine_state.pt_code_facts.declared.facts.BlockFacts.{BlockFacts}
use Rattle.pt_tree.specs.Syntax.{Name}
use Rattle.pt_code_loader.specs.pt_code_tables.pt_machine_state.pt_code_facts.Facts.{facts_in, facts_of, facts_view}
use Rattle.pt_code_loader.proofs.pt_code_tables.pt_machine_state.pt_code_facts.NameLemmas.{facts_know_names}
use Rattle.pt_code_loader.specs.pt_code_tables.pt_machine_state.declared.blocks.BlockCode.{BlockCode}
use Rattle.pt_code_loader.specs.pt_code_tables.pt_machine_state.Blocks.{block_in, depth_of}
use Rattle.pt_code_loader.specs.pt_code_tables.Tables.{AreTablesOf, HasDifferentNames, IsPoolIn, builtin_in, is_class_in, pool_in, scope_by}
use Rattle.pt_code_loader.specs.pt_code_tables.Tables as tables
use Rattle.pt_code_loader.specs.pt_code_tables.declared.tables.PoolTables.{PoolTables}
use Rattle.pt_code_loader.specs.declared.loading.Loaded.{Loaded}
use Rattle.pt_code_loader.specs.Loaded.{IsLoaded, IsLoadedProgram, IsLoadedSide, Side, side_of, is_class, iterates, listed_texts}
use Rattle.law_loading.proofs.loaded_scripts.Lists.{same_some, index_map, index_is, index_none, mapped_at, captured, loaded_at, loaded_length}

-- the rows of an instruction are those that cover its place

laid_rows : (b : CodeBlock) (at : ℕ) (is : List Instr) (pc : ℕ) (i : Ins) → laid_from b at is pc ≡ Some i
    → i.rows ≡ filter (λ row. covers row (record { 0 = pc })) b.handlers
laid_rows b at [] pc i e = absurd (let no : None ≡ Some i = e in cc)
laid_rows b at (j ∷ js) pc i e = by (nat_eq at pc) e (laid_rows b (at + length (encoding j)) js pc i)
  where
    by : (t : Bool) → (if t then Some (ins_at b pc j) else laid_from b (at + length (encoding j)) js pc) ≡ Some i
        → (laid_from b (at + length (encoding j)) js pc ≡ Some i → i.rows ≡ filter (λ row. covers row (record { 0 = pc })) b.handlers)
        → i.rows ≡ filter (λ row. covers row (record { 0 = pc })) b.handlers
    by true e f = ap (λ x. x.rows) (sym (same_some (ins_at b pc j) i e))
    by false e f = f e

rows_cover : (b : CodeBlock) (view : ℕ → Option Ins) → IsView b view → (pc : ℕ) (i : Ins) → view pc ≡ Some i
    → i.rows ≡ filter (λ row. covers row (record { 0 = pc })) b.handlers
rows_cover b view seen pc i e = laid_rows b 0 seen.instrs pc i (sym (ap (λ v. v pc) seen.view_is) ∙ e)

kind_scope : (k : BlockKind) → scope_of k ≡ scope_by (is_class k)
kind_scope kind.Module = refl
kind_scope kind.Function = refl
kind_scope kind.Generator = refl
kind_scope kind.Class = refl
kind_scope kind.GeneratorExpression = refl

-- operations that no tree asks for leave the profile
abbrev heap_extras : Extras
heap_extras = record { tuple_join = T.generator 0; dict_merge = T.generator 0; super = T.generator 0 }

-- an object over the values of the heap
abbrev pub object_with : Pool → (view : ℕ → Option Ins) → (depth_at : ℕ → ℕ) → CodeObject Value
object_with pool view depth_at = record {
  at = view;
  depth_at = depth_at;
  pool = pool;
  extras = heap_extras;
  null = value.None;
  truth = value.Bool;
  is_truth = known_truth;
}

pub heap_truths : (pool : Pool) (view : ℕ → Option Ins) (depth_at : ℕ → ℕ) → HasHeapTruths (object_with pool view depth_at)
heap_truths pool view depth_at = record { null = refl; truth = λ t. refl; is_truth = λ v. refl }

pub no_extras : (pool : Pool) (view : ℕ → Option Ins) (depth_at : ℕ → ℕ) → HasHeapExtras (object_with pool view depth_at)
no_extras pool view depth_at = record { tuple_join = λ p vs h st. refl; dict_merge = λ p vs h st. refl; super = λ p vs h st. refl }

-- what tables are asked of one block, by its object and what is known of it
pub record Fields (p : Program) (pool : PoolTables) (x : CodeObject Value) (known : BlockCode) (told : BlockFacts) (facts : CodeFacts) (iterated in_class : Bool)
    : Type 0 where
  pub name : known.name ≡ facts.name
  pub first_line : known.first_line.0 ≡ facts.first_line
  pub places : HasPlaces x.at known.places
  pub rows : (pc : ℕ) (i : Ins) → x.at pc ≡ Some i → i.rows ≡ filter (λ row. covers row (record { 0 = pc })) known.handlers
  pub depths : (pc : ℕ) → x.depth_at pc ≡ depth_of known pc
  pub truths : HasHeapTruths x
  pub iterates : iterated ≡ known.iterates
  pub told_is : facts ≡ facts_view told
  pub in_pool : IsPoolIn p pool x.pool
  pub names : KnowsNames x facts
  pub extras : HasHeapExtras x
  pub scopes : x.pool.name_scope ≡ scope_by in_class

-- what tables have for the number of a block, of hidden ones or of a script's

abbrev pub known : Side → ℕ → BlockCode
known s n = block_in s.blocks n

abbrev pub told : Side → ℕ → BlockFacts
told s n = facts_in s.facts n

abbrev pub FieldsAt : Program → Side → (n : ℕ) → CodeObject Value → CodeFacts → (iterated : Bool) → Type 0
FieldsAt p s n x facts iterated = Fields p s.pool x (known s n) (told s n) facts iterated (is_class_in s.pool n)

module _ (c : Code) (hidden : Bool) (ts : List Name) (s : Side) (loaded : IsLoadedSide c hidden ts s) where
  -- of a block that is there
  module _ (n : ℕ) (b : CodeBlock) (is : slice_get c.blocks n ≡ Some b) where
    is_loaded : IsLoaded c b (known s n)
    is_loaded = loaded_at c c.blocks (s.blocks.of_module ∷ s.blocks.others) n b s.blocks.of_module loaded.blocks is

    told_there : told s n ≡ facts_of c.texts b
    told_there =
        ap (λ fs. slice_index_or fs n s.facts.of_module) loaded.facts
        ∙ index_is (map (facts_of c.texts) c.blocks) n s.facts.of_module (facts_of c.texts b) (mapped_at (facts_of c.texts) c.blocks n b is)

    pub class_there : is_class_in s.pool n ≡ is_class b.kind
    class_there =
        ap (λ cs. slice_index_or cs n false) loaded.classes
        ∙ index_is (map (λ (a : CodeBlock). is_class a.kind) c.blocks) n false (is_class b.kind)
        (mapped_at (λ (a : CodeBlock). is_class a.kind) c.blocks n b is)

    -- with the object that shows a view of it
    module _ (view : ℕ → Option Ins) (seen : IsView b view) where
      abbrev own : CodeObject Value
      own = object_with (pool_of c b) view (depth_of (known s n))

      pub is_its_object : HasItsSizes (block_of c b view) own → IsBlockObject c b own
      is_its_object sizes = record { view = seen; pool = refl; depths = λ pc m t. is_loaded.depths view seen sizes.agree pc m (sizes.sized pc m t) }

      module _ (p : Program) (same_texts : p.texts ≡ ts) where
        named : IsPoolIn p s.pool own.pool
        named = record {
          constants = λ j.
              sym (index_map (λ k. constant_value p (constant_of c.texts k)) c.constants j const.None)
              ∙ ap (λ vs. slice_index_or vs j value.None) (sym (loaded.constants p same_texts));
          texts = λ t. ap (λ xs. slice_index_or xs t []) (sym loaded.texts);
          lists = λ j. sym (index_map (listed_texts c.texts) c.lists j []) ∙ ap (λ ls. slice_index_or ls j []) (sym loaded.lists);
          captures = λ j. captured c.blocks j ∙ ap (λ ns. slice_index_or ns j 0) (sym loaded.captures);
        }

        pub block_fields : FieldsAt p s n own (facts_view (facts_of c.texts b)) (iterates b.kind)
        block_fields = record {
          name = is_loaded.name;
          first_line = ap (λ x. x.0) is_loaded.first_line;
          places = is_loaded.places view seen;
          rows = λ pc i e. rows_cover b view seen pc i e ∙ ap (filter (λ row. covers row (record { 0 = pc }))) (sym is_loaded.handlers);
          depths = λ pc. refl;
          truths = heap_truths own.pool view own.depth_at;
          iterates = sym is_loaded.iterates;
          told_is = ap facts_view (sym told_there);
          in_pool = named;
          names = facts_know_names c b own refl;
          extras = no_extras own.pool view own.depth_at;
          scopes = kind_scope b.kind ∙ ap scope_by (sym class_there);
        }

  -- past the end stands the module
  module _ (n : ℕ) (none : slice_get c.blocks n ≡ None) where
    known_none : known s n ≡ known s 0
    known_none =
        index_none (s.blocks.of_module ∷ s.blocks.others) c.blocks n s.blocks.of_module
        (loaded_length c c.blocks (s.blocks.of_module ∷ s.blocks.others) loaded.blocks) none

    told_none : told s n ≡ told s 0
    told_none =
        index_none (s.facts.of_module ∷ s.facts.others) c.blocks n s.facts.of_module
        (ap length loaded.facts ∙ length-map c.blocks (facts_of c.texts)) none

    class_none : is_class_in s.pool n ≡ false
    class_none =
        index_none s.pool.classes c.blocks n false (ap length loaded.classes ∙ length-map c.blocks (λ (a : CodeBlock). is_class a.kind)) none

    pub past_end : (p : Program) (x : CodeObject Value) (facts : CodeFacts) (iterated : Bool) → is_class_in s.pool 0 ≡ false
        → FieldsAt p s 0 x facts iterated → FieldsAt p s n x facts iterated
    past_end p x facts iterated no_class f =
        subst (λ z. Fields p s.pool x z (told s n) facts iterated (is_class_in s.pool n)) (sym known_none)
        (subst (λ z. Fields p s.pool x (known s 0) z facts iterated (is_class_in s.pool n)) (sym told_none)
        (subst (λ z. Fields p s.pool x (known s 0) (told s 0) facts iterated z) (no_class ∙ sym class_none) f))

  no_name : (h : Bool) → builtin_view lookup.Unbound ≡ meaning h []
  no_name true = refl
  no_name false = refl

  pub means : (t : ℕ) → builtin_view (builtin_in s.pool t) ≡ meaning hidden (tables.text_in s.pool t)
  means t =
      sym (index_map builtin_view s.pool.builtins t lookup.Unbound)
      ∙ (ap (λ bs. slice_index_or bs t (builtin_view lookup.Unbound)) loaded.builtins
      ∙ (ap (λ d. slice_index_or (map (meaning hidden) c.texts) t d) (no_name hidden)
      ∙ (index_map (meaning hidden) c.texts t [] ∙ ap (λ xs. meaning hidden (slice_index_or xs t [])) (sym loaded.texts))))

-- of both
module _ (prelude c : Code) (l : Loaded) (loaded : IsLoadedProgram prelude c l) where
  mean : (hidden : Bool) (t : ℕ) → builtin_view (builtin_in (pool_in l.tables hidden) t) ≡ meaning hidden (tables.text_in (pool_in l.tables hidden) t)
  mean true t = means prelude true l.texts (side_of l true) loaded.of_prelude t
  mean false t = means c false l.texts (side_of l false) loaded.of_code t

  pub are_tables_of : (p : Program) (code : CodeBlocks Value)
      → ((b : BlockId) → FieldsAt p (side_of l b.hidden) b.number (code.object b) (p.facts b) (code.iterates b))
      → ((b : BlockId) → HasDifferentNames (p.facts b)) → AreTablesOf p code l.tables
  are_tables_of p code of_block different = record {
    blocks = λ b. let f = of_block b in record {
      name = f.name;
      first_line = f.first_line;
      places = f.places;
      rows = f.rows;
      depths = f.depths;
      truths = f.truths;
      iterates = f.iterates;
    };
    facts = λ b. let f = of_block b in f.told_is;
    pools = λ b. let f = of_block b in f.in_pool;
    names = λ b. let f = of_block b in f.names;
    are_different = different;
    extras = λ b. let f = of_block b in f.extras;
    scopes = λ b. let f = of_block b in f.scopes;
    builtins = mean;
  }
