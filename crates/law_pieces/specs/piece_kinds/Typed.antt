-- Which pieces are typed: at each place that some way comes to, an instruction finds what it takes above the slots that handler rows leave; all
-- that comes to a label has one stack map; and what is behind a part fits what stands there (as the stack maps of a verifier of bytecode).
use Rattle.std.specs.Prelude.{◌≡◌, ℕ, zero, suc, ◌+◌, List, [], ◌∷◌, ◌++◌, length, slice_get, true, Option, Some, None}
use Rattle.pt_instr.specs.declared.TextNo.{TextNo}
use Rattle.pt_instr.specs.declared.ListNo.{ListNo}
use Rattle.pt_instr.specs.declared.SlotNo.{SlotNo}
use Rattle.pt_instr.specs.declared.effects.Effect.{Effect}
use Rattle.pt_instr.specs.declared.kinds.Kind.{Kind}
use Rattle.pt_instr.specs.declared.kinds.Kind.TheVariants as kind
use Rattle.pt_assembler.specs.Piece.{Op, with_local, with_cell, with_text, with_list, to, Piece, empty, act, move, seq, block, headed, closed, looped, leave, ensured, caught, deeper, started, numbered, pick}
use Rattle.sem_fits.specs.fits.Block.{Links, effect}
use Rattle.law_pieces.specs.piece_kinds.Walk.{Loop, Known, StackMap, kinds_of, instr_of, aside_op, deepened, Setting, with_label, with_none, with_loop, end_of, behind}

-- the lowest of these slots are those
abbrev pub Over : (base ks : StackMap) → Type 0
Over base ks = (above : StackMap) × (ks ≡ above ++ base)

-- what goes on, if some way does, are these alone
abbrev pub EndsAt : (base : StackMap) → Option StackMap → Type 0
EndsAt base None = Unit {0}
EndsAt base (Some ks) = ks ≡ base

-- what is taken has the kinds that an instruction takes; of two that are swapped the lower one may be an iterator
pub data Takes (e : Effect) (taken : StackMap) : Type 0 where
  plainly : kinds_of taken ≡ e.takes → Takes e taken
  turned : e.swaps ≡ true → length e.takes ≡ 2 → kinds_of taken ≡ kind.Iter ∷ kind.Value ∷ [] → Takes e taken

-- a value lies so deep, from 1
abbrev pub HasValue : Option ℕ → StackMap → Type 0
HasValue None ks = Unit {0}
HasValue (Some zero) ks = ⊥
HasValue (Some (suc n)) ks = (k : Known) × (slice_get ks n ≡ Some k) × (k.kind ≡ kind.Value)

-- what an instruction takes and gives is the same, whatever number it names
abbrev pub IsUniform : Links → Op → Type 0
IsUniform links (with_local f x) = (i : SlotNo) → effect links (f i) ≡ effect links (f (record { 0 = 0 }))
IsUniform links (with_cell f x) = (i : SlotNo) → effect links (f i) ≡ effect links (f (record { 0 = 0 }))
IsUniform links (with_text f x) = (t : TextNo) → effect links (f t) ≡ effect links (f (record { 0 = 0 }))
IsUniform links (with_list f xs) = (l : ListNo) → effect links (f l) ≡ effect links (f (record { 0 = 0 }))
IsUniform links op = Unit {0}

-- what goes to a label has the stack map there
abbrev pub Lands : Op → List (Option StackMap) → Option StackMap → Type 0
Lands op Ls None = Unit {0}
Lands (to j l) Ls (Some ks) = pick None Ls l ≡ Some ks
Lands op Ls (Some ks) = ⊥

-- a completion that is taken is held by a part in this loop
abbrev pub HoldsIn : Option Loop → Kind → Known → Type 0
HoldsIn x kind.Pending k = k.loop ≡ x
HoldsIn x l k = Unit {0}

abbrev pub AllHoldIn : Option Loop → StackMap → Type 0
AllHoldIn x [] = Unit {0}
AllHoldIn x (k ∷ ks) = HoldsIn x k.kind k × AllHoldIn x ks

pub record Fires (links : Links) (op : Op) (x : Option Loop) (Ls : List (Option StackMap)) (base ks : StackMap) : Type 0 where
  pub taken : StackMap
  pub rest : StackMap
  pub is : ks ≡ taken ++ rest
  pub over : Over base rest
  pub takes : Takes (effect links (instr_of op)) taken
  pub above : HasValue (let e = effect links (instr_of op) in e.above) rest
  pub uniform : IsUniform links op
  pub lands : Lands op Ls (aside_op links op (Some ks))
  pub holds : AllHoldIn x taken

module _ (links : Links) (next : ℕ → ℕ) where
  -- the stack maps of the labels stand beside their places
  abbrev pub Typed : Piece → Setting → List (Option StackMap) → (base : StackMap) → (from : ℕ) → Option StackMap → Type 0
  Typed q c Ls base p None = Unit {0}
  Typed empty c Ls base p (Some ks) = Unit {0}
  Typed (act op n l g) c Ls base p (Some ks) = Fires links op c.loop Ls base ks
  Typed (move op) c Ls base p (Some ks) = Fires links op c.loop Ls base ks
  Typed (seq a b) c Ls base p (Some ks) =
      Typed a c Ls base p (Some ks) × Typed b c Ls base (end_of next a p) (behind links next a c base p (Some ks))
  Typed (block q) c Ls base p (Some ks) =
      Typed q (with_label (end_of next q p) c) (behind links next (block q) c base p (Some ks) ∷ Ls) base p (Some ks)
  Typed (headed q) c Ls base p (Some ks) = Typed q (with_label p c) (Some ks ∷ Ls) base p (Some ks)
  Typed (closed q) c Ls base p (Some ks) = Typed q (with_none c) [] base p (Some ks)
  Typed (looped b q) c Ls base p (Some ks) = Typed q (with_loop b (end_of next q p) (length base) c) [] base p (Some ks)
  Typed (leave e n l) c Ls base p (Some ks) = Over base ks
  Typed (ensured q) c Ls base p (Some ks) =
      Over base ks × Typed q (with_none c) [] base p (Some ks) × EndsAt base (behind links next q (with_none c) base p (Some ks))
  Typed (caught q r) c Ls base p (Some ks) =
      Over base ks × Typed q (with_none c) [] base p (Some ks)
      × Typed r c Ls base (end_of next q p) (behind links next q (with_none c) base p (Some ks))
      × (behind links next r c base (end_of next q p) (behind links next q (with_none c) base p (Some ks)) ≡ None)
  Typed (deeper k q) c Ls base p (Some ks) =
      Over base (deepened k base (Some ks)) × Over (deepened k base (Some ks)) ks × (length (deepened k base (Some ks)) ≡ length base + k)
      × Typed q c Ls (deepened k base (Some ks)) p (Some ks)
  Typed (started l q) c Ls base p (Some ks) = Typed q c Ls base p (Some ks)
  Typed (numbered n q) c Ls base p (Some ks) = Typed q c Ls base p (Some ks)
