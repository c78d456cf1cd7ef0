-- What the code of a block looks up and takes along, by where it stands in the block.
use Rattle.std.proofs.Common.{◌≡◌, ℕ, Bool, true, false, List, [], ◌∷◌, Some, refl, sym, ap, ◌∙◌, subst, eqb-true, bytes_eq}
use Rattle.std.specs.Prelude.{◌==◌, ◌||◌, slice_get}
use Rattle.std.specs.List.{AllByRecursion, list_any}
use Rattle.std.proofs.lemmas.Bool.{and_parts}
use Rattle.std.proofs.lemmas.Slice.Eq.{bytes_eq-Decides}
use Rattle.pt_scopes.specs.declared.region.Context.{Context}
use Rattle.pt_scopes.specs.declared.region.Kind.{Kind}
use Rattle.pt_scopes.specs.declared.region.Kind.TheVariants.{Comprehension}
use Rattle.pt_scopes.specs.declared.region.Mention.{Mention}
use Rattle.pt_scopes.specs.declared.region.Region.{Region}
use Rattle.pt_scopes.specs.Names.{mangled}
use Rattle.pt_scopes.specs.Scope.{home_at, home_of, is_of}
use Rattle.pt_tree.specs.Syntax.{Name}
use Rattle.pt_tree.specs.Blocks.{Code}
use Rattle.sem_control.specs.control.Turn.{Around, Scope, Variable}
use Rattle.sem_names.specs.Around.{around_by, captured_in}
use Rattle.sem_names.specs.Naming.{variable_in}
use Rattle.sem_names.specs.Script.{Naming, spelled_in}
use Rattle.law_files.specs.sem_compile.emitter.Ops.{load, store}
use Rattle.law_files.specs.sem_compile.stm_pieces.StmPiece.{code_piece}
use Rattle.law_operands.specs.free_names.FreeNames.{NamedOperand, NamedOperands, StandsIn}
use Rattle.law_operands.proofs.piece_names.Standing.{IsAt, IsComprehension, Mentioned, Starts}
use Rattle.law_operands.proofs.free_pieces.Operands.{AllTaken, SlotIs, load_named, store_named}

-- the names of a block, by its number; no value is asked
abbrev pub around_in : Naming → (block : ℕ) → Around (Unit {0})
around_in g b = around_by {V = Unit {0}} tt g b

-- what is so of the names in slots of the block with a region
abbrev pub Slots : Type 1
Slots = (region : ℕ) → Scope → Name → Type 0

-- operands of a block's code name such names alone
abbrev pub Slots_named : Naming → Slots → (block region : ℕ) → Code → Type 0
Slots_named g At b h k = NamedOperands (At h) (code_piece (around_in g b) k)

-- so is what is looked up where a name is mentioned
abbrev pub LooksUp : Naming → Slots → (block region : ℕ) → (within : List ℕ) → Mention → Type 0
LooksUp g At b h within m =
    StandsIn g h within m.region → SlotIs (At h) (variable_in g b within m.name).scope (variable_in g b within m.name).name

-- what is known of all blocks: what they look up, what their blocks take along, and that each is numbered by its place
pub record KnowsNames (g : Naming) (numbers : List ℕ) (At : Slots) : Type 0 where
  pub looked_up : (b h : ℕ) (within : List ℕ) → slice_get g.places.blocks b ≡ Some h → AllByRecursion (LooksUp g At b h within) g.places.mentions
  pub taken_along : (h n k : ℕ) (block : Region) → slice_get g.places.blocks n ≡ Some k → slice_get g.places.regions k ≡ Some block
      → home_of g.places.regions block.around ≡ h → AllTaken (At h) (captured_in g n)
  pub number_is : (place n : ℕ) → slice_get numbers place ≡ Some n → n ≡ place

-- code of a block stands in a region, within comprehensions of the block
pub record InBlock (g : Naming) (b r h : ℕ) (c : Name) (w : List ℕ) : Type 0 where
  pub at : IsAt g b h c
  pub stands : StandsIn g h w r
  pub home : home_of g.places.regions r ≡ h

-- an item of a list for which something holds
pub record One {A : Type 0} (P : A → Type 0) (is : A → Bool) : Type 0 where
  pub item : A
  pub holds : is item ≡ true
  pub has : P item

pub one_of : {A : Type 0} (P : A → Type 0) (is : A → Bool) (xs : List A) → AllByRecursion P xs → list_any is xs ≡ true → One P is
one_of P is [] h e = absurd (let no : false ≡ true = e in cc)
one_of P is (x ∷ xs) h e = by (is x) refl e (one_of P is xs h.1)
  where
    by : (b : Bool) → is x ≡ b → (b || list_any is xs) ≡ true → (list_any is xs ≡ true → One P is) → One P is
    by true same e rest = record { item = x; holds = same; has = h.0 }
    by false same e rest = rest e

module _ (g : Naming) (numbers : List ℕ) (At : Slots) (all : KnowsNames g numbers At) where
  abbrev pub IsKnown : (b h : ℕ) (w : List ℕ) (x : Name) → Type 0
  IsKnown b h w x = SlotIs (At h) ((around_in g b).variable w x).scope ((around_in g b).variable w x).name

  pub looked : (b r h : ℕ) (c : Name) (w : List ℕ) (x : Name) → InBlock g b r h c w → Mentioned g r (mangled c x) → IsKnown b h w x
  looked b r h c w x i there =
      let y = mangled c x in
      let m = one_of (LooksUp g At b h w) (is_of r y) g.places.mentions (all.looked_up b h w i.at.region) there in
      let is = and_parts (m.item.region == r) (bytes_eq m.item.name y) m.holds in
      let same : variable_in g b w m.item.name ≡ variable_in g b w (spelled_in g b x) =
      ap (λ z. variable_in g b w z) ((bytes_eq-Decides m.item.name y).0 is.1 ∙ sym (i.at.spelled x)) in
      let v = variable_in g b w m.item.name in
      subst (λ (v : Variable). SlotIs (At h) v.scope v.name) same
      (m.has (subst (λ q. StandsIn g h w q) (sym (eqb-true m.item.region r is.0)) i.stands))

  pub loads : (b h : ℕ) (w : List ℕ) (x : Name) → IsKnown b h w x → NamedOperand (At h) (load ((around_in g b).variable w x))
  loads b h w x f = let v = (around_in g b).variable w x in load_named (At h) v.scope v.name f

  pub stores : (b h : ℕ) (w : List ℕ) (x : Name) → IsKnown b h w x → NamedOperand (At h) (store ((around_in g b).variable w x))
  stores b h w x f = let v = (around_in g b).variable w x in store_named (At h) v.scope v.name f

  pub takes : (kd : Kind) (a : Context) (number B b : ℕ) (c : Name) (w : List ℕ) → Starts g numbers kd a number B → InBlock g b a.region a.home c w
      → AllTaken (At a.home) (captured_in g number)
  takes kd a number B b c w s i =
      let at : slice_get g.places.blocks number ≡ Some B =
      subst (λ j. slice_get g.places.blocks j ≡ Some B) (sym (all.number_is s.place number s.is_number)) s.is_block in
      all.taken_along a.home number B (record { kind = kd; around = a.region; home = B }) at s.region i.home

  -- a block begins in its own region
  pub begins : (kd : Kind) (a : Context) (number B b : ℕ) (c : Name) → Starts g numbers kd a number B → IsAt g b B c → InBlock g b B B c []
  begins kd a number B b c s at = record { at = at; stands = refl; home = ap (home_at B) s.region }

  pub goes_within : (a : Context) (n B b : ℕ) (c : Name) (w : List ℕ) → IsComprehension g a c (Some n) [] B → InBlock g b a.region a.home c w
      → InBlock g b B a.home c (n ∷ w)
  goes_within a n B b c w k i = record {
    at = i.at;
    stands = (record { kind = Comprehension; around = a.region; home = a.home }, k.region, refl, refl, k.next);
    home = ap (home_at B) k.region;
  }
