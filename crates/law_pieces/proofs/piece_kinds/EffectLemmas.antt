-- What the rows of instructions have in common.
use Rattle.std.proofs.Common.{◌≡◌, ◌⊎◌, inl, inr, ℕ, ◌≤◌, min, true, false, [], ◌∷◌, length, take, Option, Some, None, refl, subst, arith}
use Rattle.std.proofs.lemmas.Bool.{false≢true}
use Rattle.pt_instr.specs.declared.Instr.{Instr}
use Rattle.pt_instr.specs.declared.Instr.TheVariants as instr
use Rattle.pt_instr.specs.declared.effects.Effect.{Effect}
use Rattle.pt_instr.specs.declared.kinds.Kind.TheVariants.{Value}
use Rattle.pt_instr.specs.Effects.{Kinds, effect_of}

-- what an instruction keeps of what it takes has the same kinds, and is taken
abbrev pub KeepsOf : Effect → Kinds → Type 0
KeepsOf e g = (take (min e.keeps (length g)) e.takes ≡ take (min e.keeps (length g)) g) × (min e.keeps (length g) ≤ length e.takes)

abbrev pub Keeps : Effect → Option Kinds → Type 0
Keeps e None = Unit {0}
Keeps e (Some g) = KeepsOf e g

pub keeps_no_slot : (e : Effect) (g : Kinds) → e.keeps ≡ 0 → KeepsOf e g
keeps_no_slot e g k =
    let h : 0 ≡ min e.keeps (length g) = omega (arith, k) in
    (subst (λ n. take n e.takes ≡ take n g) h refl, omega (arith, h))

keeps_none : (e : Effect) (o : Option Kinds) → e.keeps ≡ 0 → Keeps e o
keeps_none e None k = tt
keeps_none e (Some g) k = keeps_no_slot e g k

pub keeps_behind : (j : Instr) (f : ℕ) → let e = effect_of j f in Keeps e e.gives
unfolding effect_of
keeps_behind instr.Copy f = (refl, omega arith)
keeps_behind instr.Copy2 f = (refl, omega arith)
keeps_behind (instr.Next t) f = (refl, omega arith)
keeps_behind (instr.JumpIfKeep t) f = (refl, omega arith)
keeps_behind (instr.JumpUnlessKeep t) f = (refl, omega arith)
keeps_behind instr.Match f = (refl, omega arith)
keeps_behind (instr.ImportName t) f = (refl, omega arith)
keeps_behind j f = let e = effect_of j f in keeps_none e e.gives refl

pub keeps_aside : (j : Instr) (f : ℕ) → let e = effect_of j f in Keeps e e.aside
unfolding effect_of
keeps_aside instr.Copy f = tt
keeps_aside instr.Copy2 f = tt
keeps_aside (instr.Next t) f = (refl, omega arith)
keeps_aside (instr.JumpIfKeep t) f = (refl, omega arith)
keeps_aside (instr.JumpUnlessKeep t) f = (refl, omega arith)
keeps_aside instr.Match f = tt
keeps_aside (instr.ImportName t) f = tt
keeps_aside j f = let e = effect_of j f in keeps_none e e.aside refl

pub swap_keeps : (j : Instr) (f : ℕ) → let e = effect_of j f in e.swaps ≡ true → e.keeps ≡ 0
unfolding effect_of
swap_keeps instr.Swap f s = refl
swap_keeps j f s = absurd (false≢true s)

-- a target gets a value at most
abbrev AtMostOne : Option Kinds → Type 0
AtMostOne o = (o ≡ None) ⊎ (o ≡ Some []) ⊎ (o ≡ Some (Value ∷ []))

pub aside_kinds : (j : Instr) (f : ℕ) → let e = effect_of j f in AtMostOne e.aside
unfolding effect_of
aside_kinds (instr.Next t) f = inr (inl refl)
aside_kinds (instr.Jump t) f = inr (inl refl)
aside_kinds (instr.JumpIf t) f = inr (inl refl)
aside_kinds (instr.JumpUnless t) f = inr (inl refl)
aside_kinds (instr.JumpIfKeep t) f = inr (inr refl)
aside_kinds (instr.JumpUnlessKeep t) f = inr (inr refl)
aside_kinds j f = inl refl

-- a swap has nothing at a target, and again
pub swap_aside : (j : Instr) (f : ℕ) → let e = effect_of j f in e.swaps ≡ true → e.aside ≡ None
unfolding effect_of
swap_aside instr.Swap f s = refl
swap_aside j f s = absurd (false≢true s)
