-- The kinds of blocks: the module stands first and alone, and only functions and generators have parameters.
use Rattle.std.proofs.Common.{if◌then◌else◌, ◌≡◌, ℕ, ◌+◌, Bool, true, false, List, [], ◌∷◌, map, None, refl}
use Rattle.std.specs.List.{AllByRecursion}
use Rattle.pt_tree.specs.Syntax.{Name, Exp, Params, Stms}
use Rattle.pt_tree.specs.Blocks as B
use Rattle.pt_tree.specs.Blocks.{Block, blocks_stms, yields}
use Rattle.pt_code.specs.declared.BlockKind.TheVariants as kind
use Rattle.pt_code.specs.File.{stands_first, may_count, flags}
use Rattle.sem_names.specs.Around.{around_of, names_of}
use Rattle.sem_compile.specs.compile.ScriptCode.{Tables, tables_of, kind_of, rest_of, plain_count, keyword_only_count, layout_of, layouts, code_block}
use Rattle.law_files.specs.code_files.Laws.{HasKind, ModuleStandsFirst}
use Rattle.sem_control.specs.numbering.Numbered.{numbers_exp, numbers_stms}
use Rattle.law_files.proofs.code_files.Each.{everywhere}
use Rattle.law_files.proofs.code_files.Walk.{each_stms}

-- what the heading of a block of the tree says of it
abbrev Headed : (first : Bool) → Block → Type 0
Headed first k = (stands_first first (kind_of k.code) ≡ true)
    × ((may_count (kind_of k.code) (plain_count k.params) ≡ true)
    × ((may_count (kind_of k.code) (flags (rest_of k.params)) ≡ true) × (may_count (kind_of k.code) (keyword_only_count k.params) ≡ true)))

abbrev Inner : Block → Type 0
Inner k = Headed false k

of_function : (x : Name) (l : ℕ) (ps : Params) (body : Stms) → AllByRecursion (λ n. Unit {0}) (numbers_stms body)
    → Inner (record { name = x; first_line = l; class = None; params = ps; code = B.of_function body })
of_function x l ps body h = by (yields (B.of_function body))
  where
    by : (b : Bool) → (stands_first false (if b then kind.Generator else kind.Function) ≡ true)
        × ((may_count (if b then kind.Generator else kind.Function) (plain_count ps) ≡ true)
        × ((may_count (if b then kind.Generator else kind.Function) (flags (rest_of ps)) ≡ true)
        × (may_count (if b then kind.Generator else kind.Function) (keyword_only_count ps) ≡ true)))
    by true = (refl, (refl, (refl, refl)))
    by false = (refl, (refl, (refl, refl)))

of_lambda : (x : Name) (l : ℕ) (ps : Params) (e : Exp) → AllByRecursion (λ n. Unit {0}) (numbers_exp e)
    → Inner (record { name = x; first_line = l; class = None; params = ps; code = B.of_lambda l e })
of_lambda x l ps e h = by (yields (B.of_lambda l e))
  where
    by : (b : Bool) → (stands_first false (if b then kind.Generator else kind.Function) ≡ true)
        × ((may_count (if b then kind.Generator else kind.Function) (plain_count ps) ≡ true)
        × ((may_count (if b then kind.Generator else kind.Function) (flags (rest_of ps)) ≡ true)
        × (may_count (if b then kind.Generator else kind.Function) (keyword_only_count ps) ≡ true)))
    by true = (refl, (refl, (refl, refl)))
    by false = (refl, (refl, (refl, refl)))

inner : (ss : Stms) → AllByRecursion Inner (blocks_stms ss)
inner ss =
    each_stms (λ n. Unit {0}) Inner of_function (λ x l body h. (refl, (refl, (refl, refl)))) of_lambda
    (λ x l e k t cs h i j. (refl, (refl, (refl, refl)))) (λ x k h. h) ss (everywhere (numbers_stms ss))

laid : (ss : Stms) (n : ℕ) (ks : List Block) (t : Tables) → AllByRecursion Inner ks → AllByRecursion (HasKind false) (map code_block (layouts ss n ks t))
laid ss n [] t h = tt
laid ss n (k ∷ ks) t h = (h.0, laid ss (n + 1) ks (tables_of (layout_of t (around_of tt ss n) (names_of ss n) k).written) h.1)

pub module_stands_first : ModuleStandsFirst
module_stands_first ss =
    ((refl, (refl, (refl, refl))), laid ss 1 (blocks_stms ss) _ (inner ss))
