-- What the instructions of expressions take and give.
use Rattle.std.proofs.Common.{◌≡◌, ℕ, ◌+◌, ◌-◌, ◌<◌, zero, suc, Bool, true, false, if◌then◌else◌, List, [], ◌∷◌, ◌++◌, map, length, reverse, replicate, Option, Some, None, option_map, refl, ap, ◌∙◌, subst, arith, append_assoc}
use Rattle.std.proofs.lemmas.List.{replicate-append-replicate}
use Rattle.std.proofs.lemmas.Bool.{false≢true}
use Rattle.pt_tree.specs.Syntax as S
use Rattle.pt_tree.specs.Syntax.{Name, Tgts}
use Rattle.pt_instr.specs.declared.Instr.TheVariants as instr
use Rattle.pt_instr.specs.declared.kinds.Kind.{Kind}
use Rattle.pt_instr.specs.declared.kinds.Kind.TheVariants as kind
use Rattle.pt_instr.specs.Effects.{effect_of}
use Rattle.sem_control.specs.control.Turn as T
use Rattle.sem_control.specs.control.Turn.{Scope, Role}
use Rattle.sem_control.specs.control.Statements as statements
use Rattle.sem_control.specs.control.Statements.{star_of}
use Rattle.pt_assembler.specs.Piece as P
use Rattle.pt_assembler.specs.Piece.{Op}
use Rattle.sem_fits.specs.fits.Block.{Links, effect}
use Rattle.sem_fits.proofs.fits.KindLemmas.{reverse_replicate}
use Rattle.law_operands.specs.law_files.sem_compile.emitter.Ops.{load_in, store_in, renew_in, cell_in, text_of, last_names, are_plain, call_by, call}
use Rattle.law_operands.specs.law_files.sem_compile.emitter.ExpPiece.{unpack_op}
use Rattle.law_operands.specs.law_files.sem_compile.stm_pieces.StmPiece.{delete_in}
use Rattle.law_operands.specs.law_files.sem_compile.stm_pieces.Names.{IsOwn, IsCell}
use Rattle.law_pieces.specs.piece_kinds.Walk.{Loop, Known, StackMap, kinds_of, some, made, instr_of, to_none}
use Rattle.law_pieces.specs.piece_kinds.Typed.{Over, IsUniform, AllHoldIn}
use Rattle.law_pieces.proofs.piece_kinds.ListLemmas.{kind as kind_of, kinds_append}
use Rattle.law_typed_pieces.proofs.typed_pieces.Combine.{Does, value, plain_effect, gives_plain, gives_one, takes_none, takes_one}

abbrev pub cell : Known
cell = some kind.Cell

abbrev pub many : ℕ → StackMap → StackMap
many n F = replicate n value ++ F

kind_many : (n : ℕ) (k : Kind) → map kind_of (replicate n (some k)) ≡ replicate n k
kind_many zero k = refl
kind_many (suc n) k = ap (λ ks. k ∷ ks) (kind_many n k)

pub kinds_many : (n : ℕ) (k : Kind) → kinds_of (replicate n (some k)) ≡ replicate n k
kinds_many n k = ap reverse (kind_many n k) ∙ reverse_replicate n k

values_hold : (x : Option Loop) (n : ℕ) → AllHoldIn x (replicate n value)
values_hold x zero = tt
values_hold x (suc n) = (tt, values_hold x n)

cells_hold : (x : Option Loop) (n : ℕ) (ks : StackMap) → AllHoldIn x ks → AllHoldIn x (replicate n cell ++ ks)
cells_hold x zero ks h = h
cells_hold x (suc n) ks h = (tt, cells_hold x n ks h)

-- one more of the same, above or below
pub one_below : {A : Type 0} (n : ℕ) (a : A) (F : List A) → replicate n a ++ a ∷ F ≡ a ∷ (replicate n a ++ F)
one_below zero a F = refl
one_below (suc n) a F = ap (λ zs. a ∷ zs) (one_below n a F)

made_values : (n to : ℕ) (x : Option Loop) → map (made to x) (replicate n kind.Value) ≡ replicate n value
made_values zero to x = refl
made_values (suc n) to x = ap (λ zs. value ∷ zs) (made_values n to x)

pub values_made : (n to : ℕ) (x : Option Loop) → reverse (map (made to x) (replicate n kind.Value)) ≡ replicate n value
values_made n to x = ap reverse (made_values n to x) ∙ reverse_replicate n value

abbrev pub IsLess : Option ℕ → ℕ → Type 0
IsLess None n = Unit {0}
IsLess (Some k) n = k < n

less_more : (o : Option ℕ) (n : ℕ) → IsLess o n → IsLess (option_map suc o) (suc n)
less_more None n h = tt
less_more (Some k) n h = omega (arith, h)

pub star_less : (ts : Tgts) → IsLess (star_of ts) (statements.count ts)
star_less S.no_targets = tt
star_less (S.more_targets (S.starred l t) ts) = omega arith
star_less (S.more_targets (S.single p) ts) = less_more (star_of ts) (statements.count ts) (star_less ts)
star_less (S.more_targets (S.several l f us) ts) = less_more (star_of ts) (statements.count ts) (star_less ts)

module _ {links : Links} {x : Option Loop} {Ls : List (Option StackMap)} {base : StackMap} {to : ℕ} where
  -- names

  pub loads : (s : Scope) (y : Name) (F : StackMap) → Over base F → Does links (load_in s y) x Ls base to F (Some (value ∷ F)) to_none
  unfolding effect_of
  loads T.local y F o = gives_one refl (λ i. refl) F o
  loads T.cell y F o = gives_one refl (λ i. refl) F o
  loads T.free y F o = gives_one refl tt F o
  loads T.global y F o = gives_one refl (λ i. refl) F o
  loads T.of_class y F o = gives_one refl (λ i. refl) F o

  pub stores : (s : Scope) (y : Name) (F : StackMap) → Over base F → Does links (store_in s y) x Ls base to (value ∷ F) (Some F) to_none
  unfolding effect_of
  stores T.local y F o = takes_one refl (λ i. refl) F o
  stores T.cell y F o = takes_one refl (λ i. refl) F o
  stores T.free y F o = takes_one refl tt F o
  stores T.global y F o = takes_one refl (λ i. refl) F o
  stores T.of_class y F o = takes_one refl (λ i. refl) F o

  pub deletes : (s : Scope) (y : Name) (F : StackMap) → Over base F → Does links (delete_in s y) x Ls base to F (Some F) to_none
  unfolding effect_of
  deletes T.local y F o = takes_none refl (λ i. refl) F o
  deletes T.cell y F o = takes_none refl (λ i. refl) F o
  deletes T.free y F o = takes_none refl tt F o
  deletes T.global y F o = takes_none refl (λ i. refl) F o
  deletes T.of_class y F o = takes_none refl (λ i. refl) F o

  pub renews : (s : Scope) (y : Name) → IsOwn s → (F : StackMap) → Over base F → Does links (renew_in s y) x Ls base to F (Some F) to_none
  unfolding effect_of
  renews T.local y h F o = takes_none refl (λ i. refl) F o
  renews T.cell y h F o = takes_none refl (λ i. refl) F o
  renews T.free y h F o = absurd h
  renews T.global y h F o = absurd h
  renews T.of_class y h F o = absurd h

  pub pushes : (s : Scope) (y : Name) → IsCell s → (F : StackMap) → Over base F → Does links (cell_in s y) x Ls base to F (Some (cell ∷ F)) to_none
  unfolding effect_of
  pushes T.cell y h F o = gives_plain [] (kind.Cell ∷ []) false refl (λ i. refl) [] (cell ∷ []) refl tt refl F o
  pushes T.free y h F o = gives_plain [] (kind.Cell ∷ []) false refl tt [] (cell ∷ []) refl tt refl F o
  pushes T.local y h F o = absurd h
  pushes T.global y h F o = absurd h
  pushes T.of_class y h F o = absurd h

  -- so many values are taken, and one is given
  pub one_of_many : {op : Op} (n : ℕ) → effect links (instr_of op) ≡ plain_effect (replicate n kind.Value) (kind.Value ∷ []) false → IsUniform links op → (F : StackMap) → Over base F
      → Does links op x Ls base to (many n F) (Some (value ∷ F)) to_none
  one_of_many n E u F o = gives_plain (replicate n kind.Value) (kind.Value ∷ []) false E u (replicate n value) (value ∷ []) (kinds_many n kind.Value) (values_hold x n) refl F o

  pub makes_tuple : (n : ℕ) (F : StackMap) → Over base F → Does links (P.plain (instr.Tuple n)) x Ls base to (many n F) (Some (value ∷ F)) to_none
  unfolding effect_of
  makes_tuple n F o = one_of_many n refl tt F o

  pub makes_list : (n : ℕ) (F : StackMap) → Over base F → Does links (P.plain (instr.List n)) x Ls base to (many n F) (Some (value ∷ F)) to_none
  unfolding effect_of
  makes_list n F o = one_of_many n refl tt F o

  pub makes_set : (n : ℕ) (F : StackMap) → Over base F → Does links (P.plain (instr.Set n)) x Ls base to (many n F) (Some (value ∷ F)) to_none
  unfolding effect_of
  makes_set n F o = one_of_many n refl tt F o

  pub joins_texts : (n : ℕ) (F : StackMap) → Over base F → Does links (P.plain (instr.Join n)) x Ls base to (many n F) (Some (value ∷ F)) to_none
  unfolding effect_of
  joins_texts n F o = one_of_many n refl tt F o

  -- of so many entries each has a key
  pub makes_dict : (n : ℕ) (F : StackMap) → Over base F → Does links (P.plain (instr.Dict n)) x Ls base to (many (n + n) F) (Some (value ∷ F)) to_none
  unfolding effect_of
  makes_dict n F o = one_of_many (n + n) (ap (λ ks. plain_effect ks (kind.Value ∷ []) false) (replicate-append-replicate n n kind.Value)) tt F o

  call_row : (n : ℕ) (rs : List Role) (names : Option (List Name)) → are_plain rs ≡ true → (F : StackMap) → Over base F
      → Does links (call_by n rs names) x Ls base to (many (suc n) F) (Some (value ∷ F)) to_none
  unfolding effect_of
  call_row n rs (Some []) e F o = one_of_many (suc n) refl tt F o
  call_row n rs (Some (y ∷ ys)) e F o = one_of_many (suc n) refl (λ l. refl) F o
  call_row n rs None e F o = by (are_plain rs) e
    where
      by : (t : Bool) → t ≡ true → Does links (if t then P.with_list (instr.CallSpread n) (map text_of rs) else P.never) x Ls base to (many (suc n) F) (Some (value ∷ F)) to_none
      by true e = one_of_many (suc n) refl (λ l. refl) F o
      by false e = absurd (false≢true e)

  pub calls : (rs : List Role) → are_plain rs ≡ true → (F : StackMap) → Over base F → Does links (call rs) x Ls base to (many (suc (length rs)) F) (Some (value ∷ F)) to_none
  calls rs e F o = call_row (length rs) rs (last_names rs) e F o

  -- a function, a class, a generator: above k values, a value and an iterator lie the cells of their block
  pub makes_function : (b n : ℕ) (ys : List Name) (cells : ℕ) → links.captures b ≡ cells → (F : StackMap) → Over base F
      → Does links (P.with_list (instr.MakeFunction (record { 0 = b }) n) ys) x Ls base to (replicate cells cell ++ many n F) (Some (value ∷ F)) to_none
  unfolding effect_of
  makes_function b n ys cells e F o =
      subst (λ z. Does links (P.with_list (instr.MakeFunction (record { 0 = b }) n) ys) x Ls base to z (Some (value ∷ F)) to_none) (append_assoc (replicate cells cell) (replicate n value) F)
      (gives_plain (replicate n kind.Value ++ replicate cells kind.Cell) (kind.Value ∷ []) false
      (ap (λ f. plain_effect (replicate n kind.Value ++ replicate f kind.Cell) (kind.Value ∷ []) false) e) (λ l. refl) (replicate cells cell ++ replicate n value) (value ∷ [])
      (kinds_append (replicate cells cell) (replicate n value) ∙ (ap (λ ks. ks ++ kinds_of (replicate cells cell)) (kinds_many n kind.Value)
      ∙ ap (λ ks. replicate n kind.Value ++ ks) (kinds_many cells kind.Cell)))
      (cells_hold x cells (replicate n value) (values_hold x n)) refl F o)

  pub makes_class : (b cells : ℕ) → links.captures b ≡ cells → (F : StackMap) → Over base F
      → Does links (P.plain (instr.MakeClass (record { 0 = b }))) x Ls base to (replicate cells cell ++ value ∷ F) (Some (value ∷ F)) to_none
  unfolding effect_of
  makes_class b cells e F o =
      subst (λ z. Does links (P.plain (instr.MakeClass (record { 0 = b }))) x Ls base to z (Some (value ∷ F)) to_none) (append_assoc (replicate cells cell) (value ∷ []) F)
      (gives_plain (kind.Value ∷ replicate cells kind.Cell) (kind.Value ∷ []) false (ap (λ f. plain_effect (kind.Value ∷ replicate f kind.Cell) (kind.Value ∷ []) false) e) tt
      (replicate cells cell ++ value ∷ []) (value ∷ [])
      (kinds_append (replicate cells cell) (value ∷ []) ∙ ap (λ ks. kind.Value ∷ ks) (kinds_many cells kind.Cell)) (cells_hold x cells (value ∷ []) (tt, tt)) refl F o)

  pub makes_generator : (b cells : ℕ) → links.captures b ≡ cells → (i : Option ℕ) (F : StackMap) → Over base F
      → Does links (P.plain (instr.MakeGenerator (record { 0 = b }))) x Ls base to (replicate cells cell ++ record { kind = kind.Iter; origin = i; loop = None } ∷ F)
      (Some (value ∷ F)) to_none
  unfolding effect_of
  makes_generator b cells e i F o =
      let it : Known = record { kind = kind.Iter; origin = i; loop = None } in
      subst (λ z. Does links (P.plain (instr.MakeGenerator (record { 0 = b }))) x Ls base to z (Some (value ∷ F)) to_none) (append_assoc (replicate cells cell) (it ∷ []) F)
      (gives_plain (kind.Iter ∷ replicate cells kind.Cell) (kind.Value ∷ []) false (ap (λ f. plain_effect (kind.Iter ∷ replicate f kind.Cell) (kind.Value ∷ []) false) e) tt
      (replicate cells cell ++ it ∷ []) (value ∷ [])
      (kinds_append (replicate cells cell) (it ∷ []) ∙ ap (λ ks. kind.Iter ∷ ks) (kinds_many cells kind.Cell)) (cells_hold x cells (it ∷ []) (tt, tt)) refl F o)

  -- an unpacking gives a value for each target, of which one may have a star
  pub unpacks : (n : ℕ) (star : Option ℕ) → IsLess star n → (F : StackMap) → Over base F → Does links (unpack_op n star) x Ls base to (value ∷ F) (Some (many n F)) to_none
  unfolding effect_of
  unpacks n None h F o =
      gives_plain (kind.Value ∷ []) (replicate n kind.Value) false refl tt (value ∷ []) (replicate n value) refl (tt, tt) (values_made n to x) F o
  unpacks n (Some k) h F o =
      gives_plain (kind.Value ∷ []) (replicate n kind.Value) false (ap (λ ks. plain_effect (kind.Value ∷ []) ks false) counted) tt (value ∷ []) (replicate n value) refl (tt, tt)
      (values_made n to x) F o
    where
      counted : replicate (n - suc k) kind.Value ++ (kind.Value ∷ replicate k kind.Value) ≡ replicate n kind.Value
      counted = replicate-append-replicate (n - suc k) (suc k) kind.Value ∙ ap (λ m. replicate m kind.Value) (omega (arith, h))
