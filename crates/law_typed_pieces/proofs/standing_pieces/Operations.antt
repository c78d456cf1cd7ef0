-- Which operations of pieces may stand in a block.
use Rattle.std.proofs.Common.{◌≡◌, ℕ, suc, ◌≤◌, Bool, true, false, if◌then◌else◌, List, [], ◌∷◌, ◌++◌, map, length, Option, Some, None, refl, sym, ap, ◌∙◌, subst, arith, bytes_eq, eq-eqb}
use Rattle.std.specs.Prelude.{not, ◌&&◌, ◌||◌, nat_eq, nat_le, option_map}
use Rattle.std.specs.Option.{unwrap_or}
use Rattle.std.specs.List.{list_all, list_any}
use Rattle.std.proofs.lemmas.Bool.{false≢true, le-leb}
use Rattle.std.proofs.lemmas.List.{length-map, map-append}
use Rattle.std.proofs.lemmas.Slice.Eq.{bytes_eq-Decides}
use Rattle.pt_tree.specs.declared.act.ActRow.{ActRow}
use Rattle.pt_tree.specs.declared.expression.NamedParameter.{NamedParameter}
use Rattle.pt_tree.specs.Syntax as S
use Rattle.pt_tree.specs.Syntax.{Name, Exp, Formals, Stms}
use Rattle.pt_tree.specs.Blocks as B
use Rattle.pt_tree.specs.Blocks.{Block, yields}
use Rattle.pt_scopes.specs.Names.{mangled}
use Rattle.pt_code.specs.declared.BlockKind.{BlockKind}
use Rattle.pt_code.specs.declared.BlockKind.TheVariants as block
use Rattle.pt_instr.specs.declared.Instr.TheVariants as instr
use Rattle.sem_control.specs.control.Turn as T
use Rattle.sem_control.specs.control.Turn.{Operation, Role, Scope, Variable}
use Rattle.sem_control.specs.control.Expressions.{defaulted}
use Rattle.sem_names.specs.BlockNames.{formal_names, named, param_names}
use Rattle.pt_assembler.specs.Piece as P
use Rattle.law_operands.specs.law_files.sem_compile.emitter.Ops.{are_plain, call, call_by, cell_in, last_names, load_in, names_alone, renew_in, store_in, text_of}
use Rattle.law_operands.specs.law_files.sem_compile.emitter.ExpPiece.{unpack_op}
use Rattle.law_operands.specs.law_files.sem_compile.stm_pieces.StmPiece.{delete_in}
use Rattle.sem_fits.specs.fits.Block.{Links}
use Rattle.sem_fits.specs.fits.Standing.{are_distinct, has_names, is_among, is_class, is_function, is_generator_expression, may_yield, names_defaults}
use Rattle.law_operands.specs.law_files.sem_compile.compile.ScriptCode.{kind_of}
use Rattle.law_operands.proofs.law_files.code_files.Sound.{Apart, Differs}
use Rattle.law_typed_pieces.specs.standing_pieces.Pieces.{StandsOp}
use Rattle.law_typed_pieces.proofs.standing_pieces.Walked.{IsMade, formals_of}

both_true : (a b : Bool) → a ≡ true → b ≡ true → (a && b) ≡ true
both_true a b e f = ap (λ x. x && b) e ∙ f

and_true : (a : Bool) → a ≡ true → (a && true) ≡ true
and_true a e = both_true a true e refl

module _ (k : BlockKind) (links : Links) where
  -- names

  pub loads : (s : Scope) (x : Name) → (s ≡ T.of_class → has_names k ≡ true) → StandsOp k links (load_in s x)
  loads T.local x h = λ i. refl
  loads T.cell x h = λ i. refl
  loads T.free x h = tt
  loads T.global x h = λ t. refl
  loads T.of_class x h = λ t. and_true (has_names k) (h refl)

  pub stores : (s : Scope) (x : Name) → (s ≡ T.of_class → has_names k ≡ true) → StandsOp k links (store_in s x)
  stores T.local x h = λ i. refl
  stores T.cell x h = λ i. refl
  stores T.free x h = tt
  stores T.global x h = λ t. refl
  stores T.of_class x h = λ t. and_true (has_names k) (h refl)

  pub deletes : (s : Scope) (x : Name) → (s ≡ T.of_class → has_names k ≡ true) → StandsOp k links (delete_in s x)
  deletes T.local x h = λ i. refl
  deletes T.cell x h = λ i. refl
  deletes T.free x h = tt
  deletes T.global x h = λ t. refl
  deletes T.of_class x h = λ t. and_true (has_names k) (h refl)

  pub renews : (s : Scope) (x : Name) → StandsOp k links (renew_in s x)
  renews T.local x = λ i. refl
  renews T.cell x = λ i. refl
  renews T.free x = tt
  renews T.global x = tt
  renews T.of_class x = tt

  pub pushes : (s : Scope) (x : Name) → StandsOp k links (cell_in s x)
  pushes T.local x = tt
  pushes T.cell x = λ i. refl
  pushes T.free x = tt
  pushes T.global x = tt
  pushes T.of_class x = tt

  pub unpacks : (n : ℕ) (o : Option ℕ) → StandsOp k links (unpack_op n o)
  unpacks n None = refl
  unpacks n (Some j) = refl

  pub yielding : may_yield k ≡ true → StandsOp k links (P.plain instr.Yield)
  yielding h = and_true (may_yield k) h

  pub delegating : may_yield k ≡ true → StandsOp k links (P.plain instr.Delegate)
  delegating h = and_true (may_yield k) h

  -- calls: no more names than arguments

  calls_some : (n : ℕ) (rs : List Role) (xs : List Name) → length xs ≤ n → StandsOp k links (call_by n rs (Some xs))
  calls_some n rs [] h = refl
  calls_some n rs (x ∷ xs) h = λ l e.
      and_true (nat_le (length (links.texts l.0)) n)
      (subst (λ (ys : List Name). nat_le (length ys) n ≡ true) (sym e) (le-leb (length (x ∷ xs)) n h))

  calls_spread : (rs : List Role) → StandsOp k links (call_by (length rs) rs None)
  calls_spread rs = by (are_plain rs)
    where
      by : (b : Bool) → StandsOp k links (if b then P.with_list (instr.CallSpread (length rs)) (map text_of rs) else P.never)
      by true = λ l e.
          and_true (nat_eq (length (links.texts l.0)) (length rs))
          (subst (λ (ys : List Name). nat_eq (length ys) (length rs) ≡ true) (sym e) (eq-eqb (length (map text_of rs)) (length rs) (length-map rs text_of)))
      by false = tt

  -- the names of the last arguments
  abbrev Few : (n : ℕ) → Option (List Name) → Type 0
  Few n None = Unit {0}
  Few n (Some xs) = length xs ≤ n

  few_more : (n : ℕ) (x : Name) (o : Option (List Name)) → Few n o → Few (suc n) (option_map (λ xs. x ∷ xs) o)
  few_more n x None h = tt
  few_more n x (Some xs) h = omega (arith, h)

  few_less : (n : ℕ) (o : Option (List Name)) → Few n o → Few (suc n) o
  few_less n None h = tt
  few_less n (Some xs) h = omega (arith, h)

  few_alone : (rs : List Role) → Few (length rs) (names_alone rs)
  few_alone [] = omega arith
  few_alone (T.named x ∷ rs) = few_more (length rs) x (names_alone rs) (few_alone rs)
  few_alone (T.positional ∷ rs) = tt
  few_alone (T.spread ∷ rs) = tt
  few_alone (T.spread_named ∷ rs) = tt

  few_last : (rs : List Role) → Few (length rs) (last_names rs)
  few_last [] = omega arith
  few_last (T.positional ∷ rs) = few_less (length rs) (last_names rs) (few_last rs)
  few_last (T.named x ∷ rs) = few_alone (T.named x ∷ rs)
  few_last (T.spread ∷ rs) = tt
  few_last (T.spread_named ∷ rs) = tt

  pub calls : (rs : List Role) → StandsOp k links (call rs)
  calls rs = by (last_names rs) (few_last rs)
    where
      by : (o : Option (List Name)) → Few (length rs) o → StandsOp k links (call_by (length rs) rs o)
      by None h = calls_spread rs
      by (Some xs) h = calls_some (length rs) rs xs h

-- names that stand in a longer list, in their order

data Within : List Name → List Name → Type 0 where
  none : Within [] []
  skips : {xs ys : List Name} (y : Name) → Within xs ys → Within xs (y ∷ ys)
  keeps : {xs ys : List Name} (y : Name) → Within xs ys → Within (y ∷ xs) (y ∷ ys)

all_skipped : (ys : List Name) → Within [] ys
all_skipped [] = none
all_skipped (y ∷ ys) = skips y (all_skipped ys)

with_more : {xs ys : List Name} (zs : List Name) → Within xs ys → Within xs (ys ++ zs)
with_more zs none = all_skipped zs
with_more zs (skips y w) = skips y (with_more zs w)
with_more zs (keeps y w) = keeps y (with_more zs w)

both_within : {xs ys us vs : List Name} → Within xs ys → Within us vs → Within (xs ++ us) (ys ++ vs)
both_within none v = v
both_within (skips y w) v = skips y (both_within w v)
both_within (keeps y w) v = keeps y (both_within w v)

defaulted_within : (f : Name → Name) (ps : Formals) → Within (map f (defaulted ps)) (map f (formal_names ps))
defaulted_within f S.no_formals = none
defaulted_within f (S.formal l x a S.absent r) = skips (f x) (defaulted_within f r)
defaulted_within f (S.formal l x a (S.given d) r) = keeps (f x) (defaulted_within f r)

not_equal : (x y : Name) → (x ≡ y → ⊥) → bytes_eq x y ≡ false
not_equal x y h = by (bytes_eq x y) refl
  where
    by : (b : Bool) → bytes_eq x y ≡ b → b ≡ false
    by true e = absurd (h ((bytes_eq-Decides x y).0 e))
    by false e = refl

not_among : {xs ys : List Name} (x : Name) → Within xs ys → Differs x ys → is_among xs x ≡ false
not_among x none d = refl
not_among x (skips y w) d = not_among x w d.1
not_among {xs = z ∷ zs} x (keeps y w) d = ap (λ b. b || list_any (bytes_eq x) zs) (not_equal x z d.0) ∙ not_among x w d.1

within_distinct : {xs ys : List Name} → Within xs ys → Apart ys → are_distinct xs ≡ true
within_distinct none h = refl
within_distinct (skips y w) h = within_distinct w h.1
within_distinct {xs = z ∷ zs} (keeps y w) h = both_true (not (is_among zs z)) (are_distinct zs) (ap not (not_among z w h.0)) (within_distinct w h.1)

or_so : (b : Bool) → (b || true) ≡ true
or_so true = refl
or_so false = refl

among_more : (y : Name) (ys xs : List Name) → list_all (is_among ys) xs ≡ true → list_all (is_among (y ∷ ys)) xs ≡ true
among_more y ys [] h = refl
among_more y ys (x ∷ xs) h = by (is_among ys x) refl h (among_more y ys xs)
  where
    by : (b : Bool) → is_among ys x ≡ b → (b && list_all (is_among ys) xs) ≡ true
        → (list_all (is_among ys) xs ≡ true → list_all (is_among (y ∷ ys)) xs ≡ true) → (is_among (y ∷ ys) x && list_all (is_among (y ∷ ys)) xs) ≡ true
    by true e g rest =
        both_true (is_among (y ∷ ys) x) (list_all (is_among (y ∷ ys)) xs) (ap (λ b. bytes_eq x y || b) e ∙ or_so (bytes_eq x y)) (rest g)
    by false e g rest = absurd (false≢true g)

within_among : {xs ys : List Name} → Within xs ys → list_all (is_among ys) xs ≡ true
within_among none = refl
within_among {xs = xs} (skips {ys = ys} y w) = among_more y ys xs (within_among w)
within_among {xs = z ∷ zs} (keeps {ys = ys} y w) =
    both_true (is_among (z ∷ ys) z) (list_all (is_among (z ∷ ys)) zs) (ap (λ b. b || list_any (bytes_eq z) ys) ((bytes_eq-Decides z z).1 refl))
    (among_more z ys zs (within_among w))

-- defaults are those of parameters, no two of one
defaults_named : (f : Name → Name) (ps ks : Formals) (s d : Option NamedParameter) → Apart (map f (param_names (S.parameters ps s ks d)))
    → names_defaults (map f (formal_names ps ++ formal_names ks)) (length (defaulted ps ++ defaulted ks)) (map f (defaulted ps ++ defaulted ks)) ≡ true
defaults_named f ps ks s d h =
    let xs = map f (defaulted ps ++ defaulted ks) in
    let ys = map f (formal_names ps ++ formal_names ks) in
    let within : Within xs ys = subst (λ z. Within z ys) (sym (map-append f (defaulted ps) (defaulted ks)))
    (subst (λ z. Within (map f (defaulted ps) ++ map f (defaulted ks)) z) (sym (map-append f (formal_names ps) (formal_names ks)))
    (both_within (defaulted_within f ps) (defaulted_within f ks))) in
    let last = formal_names ps ++ formal_names ks ++ named s in
    let whole : Within xs (map f (param_names (S.parameters ps s ks d))) =
    subst (Within xs) (sym (map-append f last (named d))) (with_more (map f (named d))
    (subst (Within xs) (sym (map-append f (formal_names ps ++ formal_names ks) (named s))) (with_more (map f (named s)) within))) in
    both_true (nat_eq (length xs) (length (defaulted ps ++ defaulted ks))) (are_distinct xs && list_all (is_among ys) xs)
    (eq-eqb (length xs) (length (defaulted ps ++ defaulted ks)) (length-map (defaulted ps ++ defaulted ks) f))
    (both_true (are_distinct xs) (list_all (is_among ys) xs) (within_distinct whole h) (within_among within))

-- the block of a function is one, also where it makes generators

pub function_is : (ss : Stms) → is_function (Some (kind_of (B.of_function ss))) ≡ true
function_is ss = by (yields (B.of_function ss))
  where
    by : (b : Bool) → is_function (Some (if b then block.Generator else block.Function)) ≡ true
    by true = refl
    by false = refl

pub lambda_is : (l : ℕ) (e : Exp) → is_function (Some (kind_of (B.of_lambda l e))) ≡ true
lambda_is l e = by (yields (B.of_lambda l e))
  where
    by : (b : Bool) → is_function (Some (if b then block.Generator else block.Function)) ≡ true
    by true = refl
    by false = refl

module _ (links : Links) (p : ActRow → Bool) (c : Name) (kind : BlockKind) (number : ℕ) where
  -- a function is made with as many defaults as its parameters have
  pub makes_function : (k : Block) (ps ks : Formals) (s d : Option NamedParameter) → k.params ≡ S.parameters ps s ks d → k.class ≡ None
      → is_function (Some (kind_of k.code)) ≡ true → IsMade links p c number k → (count : ℕ) → count ≡ length (defaulted ps ++ defaulted ks)
      → StandsOp kind links (P.with_list (instr.MakeFunction (record { 0 = number }) count) (map (mangled c) (defaulted ps ++ defaulted ks)))
  makes_function k ps ks s d params outside is made count same l e =
      let f = mangled c in
      let xs = map f (defaulted ps ++ defaulted ks) in
      let ys = map f (formal_names ps ++ formal_names ks) in
      let class = λ (o : Option Name). mangled (unwrap_or o c) in
      let parameters : links.parameters number ≡ ys = made.parameters
      ∙ (ap (λ o. map (class o) (formals_of k.params)) outside ∙ ap (λ z. map f (formals_of z)) params) in
      let apart : Apart (map f (param_names (S.parameters ps s ks d))) =
      subst (λ z. Apart (map f (param_names z))) params (subst (λ o. Apart (map (class o) (param_names k.params))) outside made.apart) in
      let defaults : names_defaults (links.parameters number) count (links.texts l.0) ≡ true =
      ap (λ z. names_defaults z count (links.texts l.0)) parameters ∙ (ap (λ z. names_defaults ys count z) e
      ∙ (ap (λ z. names_defaults ys z xs) same ∙ defaults_named f ps ks s d apart)) in
      and_true (is_function (links.kind number) && names_defaults (links.parameters number) count (links.texts l.0))
      (both_true (is_function (links.kind number)) (names_defaults (links.parameters number) count (links.texts l.0)) (ap is_function made.kind ∙ is) defaults)

  pub makes_class : (k : Block) → kind_of k.code ≡ block.Class → IsMade links p c number k
      → StandsOp kind links (P.plain (instr.MakeClass (record { 0 = number })))
  makes_class k is made = and_true (is_class (links.kind number)) (ap is_class made.kind ∙ ap (λ z. is_class (Some z)) is)

  pub makes_generator : (k : Block) → kind_of k.code ≡ block.GeneratorExpression → IsMade links p c number k
      → StandsOp kind links (P.plain (instr.MakeGenerator (record { 0 = number })))
  makes_generator k is made = and_true (is_generator_expression (links.kind number)) (ap is_generator_expression made.kind ∙ ap
      (λ z. is_generator_expression (Some z)) is)
