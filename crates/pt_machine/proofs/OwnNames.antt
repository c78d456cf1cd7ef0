-- The names of an activation, by what is known of them: local ones have their places, and those of a class stand behind them.
use Rattle.std.proofs.Common.{inl, inr, ◌≡◌, ◌∙◌, ℕ, ◌≤◌, Bool, true, false, cond, List, [], ◌∷◌, ◌++◌, length, drop, filter, Option, refl, sym, ap, subst, append-nil, append_assoc, arith}
use Rattle.std.specs.Prelude.{not, ◌||◌}
use Rattle.std.specs.List.{AllByRecursion, list_any}
use Rattle.std.specs.Map.{keys_of}
use Rattle.std.specs.Str.{bytes_eq}
use Rattle.std.proofs.lemmas.List.Elements.{filter-append}
use Rattle.std.proofs.lemmas.Slice.Eq.{bytes_eq-Decides}
use Rattle.pt_tree.specs.Syntax.{Name}
use Rattle.pt_heap.specs.declared.value.Value.{Value}
use Rattle.pt_names.specs.Names.{Named}
use Rattle.law_frames.specs.RunNames.{HasItsNames}
use Rattle.pt_code_tables.specs.pt_builtins.pt_host.World.{CodeFacts, Program}
use Rattle.pt_code_tables.specs.pt_builtins.pt_host.Classes.{own_names}
use Rattle.pt_code_tables.specs.pt_machine_state.pt_code_facts.sem_rows.heap_rows.Views.{names_view, paired}
use Rattle.pt_code_tables.specs.pt_machine_state.declared.machine.Machine.{Machine}
use Rattle.pt_code_tables.specs.pt_machine_state.Views.{ArePlaced, HasOwnNames, block_of}
use Rattle.sem_code_machine.specs.code_machine.CodeBlocks.{CodeBlocks}
use Rattle.pt_machine.specs.Strides.{MachineHasNames}

abbrev is_among : List Name → Name → Bool
is_among xs x = list_any (bytes_eq x) xs

-- names that are all there have places
pub places-of : {A : Type 0} (xs zs : List Name) (vs : List A) → keys_of (paired xs vs) ≡ xs ++ zs → length xs ≤ length vs
places-of [] zs vs e = omega arith
places-of (x ∷ xs) zs [] e = absurd (cc)
places-of (x ∷ xs) zs (v ∷ vs) e =
    let same : keys_of (paired xs vs) ≡ xs ++ zs = ap (drop 1) e in
    let rest : length xs ≤ length vs = places-of xs zs vs same in omega (arith, rest)

-- those behind them
behind : (xs zs : List Name) (vs : List (Option Value)) (own : Named) → length xs ≤ length vs → keys_of (paired xs vs ++ own) ≡ xs ++ zs → keys_of own ≡ zs
behind [] zs vs own h e = e
behind (x ∷ xs) zs [] own h e = absurd (omega (arith, h))
behind (x ∷ xs) zs (v ∷ vs) own h e = behind xs zs vs own (omega (arith, h)) (ap (drop 1) e)

-- a name is among those that it stands among
among : (x : Name) (ys zs : List Name) → is_among (ys ++ x ∷ zs) x ≡ true
among x [] zs = ap (λ b. b || is_among zs x) ((bytes_eq-Decides x x).1 refl)
among x (y ∷ ys) zs = by (bytes_eq x y) (among x ys zs)
  where
    by : (b : Bool) → is_among (ys ++ x ∷ zs) x ≡ true → (b || is_among (ys ++ x ∷ zs) x) ≡ true
    by true e = refl
    by false e = e

none_own : (ys xs : List Name) (vs : List (Option Value)) → filter (λ n. not (is_among (ys ++ xs) n.0)) (paired xs vs) ≡ []
none_own ys [] vs = refl
none_own ys (x ∷ xs) [] = refl
none_own ys (x ∷ xs) (v ∷ vs) =
    ap (λ b. cond (not b) ((x, v) ∷ filter (λ n. not (is_among (ys ++ x ∷ xs) n.0)) (paired xs vs)) (filter (λ n. not (is_among (ys ++ x ∷ xs) n.0)) (paired xs vs)))
    (among x ys xs)
    ∙ (ap (λ l. filter (λ n. not (is_among l n.0)) (paired xs vs)) (sym (append_assoc ys (x ∷ []) xs)) ∙ none_own (ys ++ x ∷ []) xs vs)

all_own : (ys : List Name) (own : Named) → AllByRecursion (λ x. is_among ys x ≡ false) (keys_of own) → filter (λ n. not (is_among ys n.0)) own ≡ own
all_own ys [] apart = refl
all_own ys (n ∷ own) apart =
    ap (λ b. cond (not b) (n ∷ filter (λ m. not (is_among ys m.0)) own) (filter (λ m. not (is_among ys m.0)) own)) apart.0
    ∙ ap (λ l. n ∷ l) (all_own ys own apart.1)

module _ (program : Program) (code : CodeBlocks Value) (m : Machine) (names : MachineHasNames program code m) where
  abbrev facts : CodeFacts
  facts = program.facts (block_of m.here)

  placed-by : ArePlaced facts m.here.names m.here.locals → length facts.locals ≤ length m.here.locals
  placed-by (inl none) =
      places-of facts.locals names.here.of_class m.here.locals
      (ap (λ es. keys_of es) (sym (append-nil (paired facts.locals m.here.locals)))
      ∙ (ap (λ es. keys_of (paired facts.locals m.here.locals ++ es)) (sym none) ∙ names.here.values))
  placed-by (inr h) = h

  pub locals-placed : length facts.locals ≤ length m.here.locals
  locals-placed = placed-by names.placed

  pub cells-placed : length (facts.cells ++ facts.frees) ≤ length m.here.cells
  cells-placed = places-of (facts.cells ++ facts.frees) [] m.here.cells (names.here.cells ∙ sym (append-nil (facts.cells ++ facts.frees)))

  pub has-own-names : HasOwnNames program m.here
  has-own-names =
      let keys : keys_of m.here.names ≡ names.here.of_class = behind facts.locals names.here.of_class m.here.locals m.here.names locals-placed names.here.values in
      filter-append (λ n. not (is_among facts.locals n.0)) (paired facts.locals m.here.locals) m.here.names
      ∙ (ap (λ l. l ++ filter (λ n. not (is_among facts.locals n.0)) m.here.names) (none_own [] facts.locals m.here.locals)
      ∙ all_own facts.locals m.here.names (subst (λ zs. AllByRecursion (λ x. is_among facts.locals x ≡ false) zs) (sym keys) names.here.apart))
