-- The tables of a block tell what jumps ask of its slots.
use Rattle.std.proofs.Common.{◌≡◌, ◌⊎◌, inl, inr, ℕ, ◌<◌, Bool, true, false, nat_eq, List, length, Option, Some, None, refl, sym, ◌∙◌, subst, arith}
use Rattle.std.specs.Prelude.{MatchBool, slice_get}
use Rattle.std.proofs.lemmas.Bool.{cases_order}
use Rattle.std.proofs.lemmas.Bool.Decides.{eqb_tells}
use Rattle.std.proofs.lemmas.Option.{same_Some}
use Rattle.sem_fits.specs.fits.Block.{Block, block_of}
use Rattle.sem_fits.specs.fits.Leaves.{Common}
use Rattle.pt_joins.specs.declared.joins.Node.{Node}
use Rattle.pt_joins.specs.Joins.{Joined, Root}
use Rattle.pt_joins.proofs.Joining.{decides}
use Rattle.pt_jump.specs.Slots.{TellsSlots}
use Rattle.pt_common_slots.specs.Common.{TellsCommon}
use Rattle.pt_place_slots.specs.declared.tables.BlockSlots.{BlockSlots}
use Rattle.pt_place_slots.specs.Tables.{IsSound, TellsSlotsOf, told_of}
use Rattle.pt_place_slots.specs.Laws.{AnswerJumps}
use Rattle.pt_code_slots.specs.declared.blocks.CodeSlots.{CodeSlots}
use Rattle.pt_code_slots.specs.Blocks.{AreSound}
use Rattle.law_code_jumps.specs.jump_answers.Known.{SlotsKnown, KnowsSlots}
use Rattle.law_verified_code.specs.Laws.{TablesTellSlots, TablesTellCode}

module _ (s : BlockSlots) (sound : IsSound s) where
  abbrev nodes : List Node
  nodes = s.joins.nodes.items

  -- the root of a place on the level of a slot; none where the place isn't counted
  data Rooted (slot q : ℕ) : Type 0 where
    rooted : (r : ℕ) → Root nodes slot q r → Rooted slot q
    outside : (q < length nodes → ⊥) → Rooted slot q

  root : (slot q : ℕ) → Rooted slot q
  root slot q = by_order (cases_order q (length nodes))
    where
      by_order : (q ≡ length nodes) ⊎ ((q < length nodes) ⊎ (length nodes < q)) → Rooted slot q
      by_order (inl e) = outside (λ l. let no : ⊥ = omega (arith, e, l) in no)
      by_order (inr (inl l)) = let h = sound.joins.rooted slot q l in rooted h.root h.is
      by_order (inr (inr l)) = outside (λ m. let no : ⊥ = omega (arith, l, m) in no)

  abbrev same_root : (slot q r : ℕ) → Rooted slot q → Rooted slot r → Bool
  same_root slot q r (rooted i is) (rooted j at) = nat_eq i j
  same_root slot q r (rooted i is) (outside out) = nat_eq q r
  same_root slot q r (outside out) y = nat_eq q r

  abbrev known : SlotsKnown
  known = record {
    told = told_of s;
    is_shared = λ slot q r. same_root slot q r (root slot q) (root slot r);
  }

  module _ (b : Block) (tells : TellsSlotsOf b s) where
    abbrev common : TellsCommon b b.size nodes
    common = tells.common

    abbrev Pairs : (slot q r : ℕ) → Type 0
    Pairs slot q r = Joined common.joins slot q r

    by_roots : (slot q r i j : ℕ) → Root nodes slot q i → Root nodes slot r j
        → MatchBool (nat_eq i j) (Pairs slot q r) (Pairs slot q r → ⊥)
    by_roots slot q r i j is at =
        let both = common.tells.exact slot q r i j is at in
        elim (eqb_tells i j) [
          | inl (t, e) ↦ subst (λ x. MatchBool x (Pairs slot q r) (Pairs slot q r → ⊥)) (sym t)
              (both.0 e)
          | inr (t, ne) ↦ subst (λ x. MatchBool x (Pairs slot q r) (Pairs slot q r → ⊥)) (sym t)
              (λ h. ne (both.1 h))
        ]

    by_numbers : (slot q r : ℕ) → (q < length nodes → r < length nodes → ⊥)
        → MatchBool (nat_eq q r) (Pairs slot q r) (Pairs slot q r → ⊥)
    by_numbers slot q r out =
        decides common.joins common.count slot q r common.tells.within
        (subst (λ n. q < n → r < n → ⊥) common.tells.long out)

    joined : (slot q r : ℕ) (x : Rooted slot q) (y : Rooted slot r)
        → MatchBool (same_root slot q r x y) (Pairs slot q r) (Pairs slot q r → ⊥)
    joined slot q r (rooted i is) (rooted j at) = by_roots slot q r i j is at
    joined slot q r (rooted i is) (outside out) = by_numbers slot q r (λ l m. out m)
    joined slot q r (outside out) y = by_numbers slot q r (λ l m. out l)

    in_common : (slot q r : ℕ) (t : Bool) → MatchBool t (Pairs slot q r) (Pairs slot q r → ⊥)
        → MatchBool t (Common b b.size slot q r) (Common b b.size slot q r → ⊥)
    in_common slot q r true h = (common.common.exact slot q r).0 h
    in_common slot q r false none = λ c. none ((common.common.exact slot q r).1 c)

    knows : TellsSlots b (told_of s) → KnowsSlots b known
    knows told = record {
      told = told;
      shared = λ slot q r.
          in_common slot q r (same_root slot q r (root slot q) (root slot r))
          (joined slot q r (root slot q) (root slot r));
    }

pub tables_tell_slots : ((b : Block) (s : BlockSlots) → AnswerJumps b s)
    → (b : Block) (s : BlockSlots) → TablesTellSlots b s
tables_tell_slots answers b s sound tells =
    (known s sound, knows s sound b tells (answers b s sound tells))

-- of a block that a code doesn't have nothing is known
abbrev nothing_known : SlotsKnown
nothing_known = record {
  told = record { count = λ pc. None; held = λ pc. 0 };
  is_shared = λ slot q r. false;
}

module _ (slots : CodeSlots) (sound : AreSound slots) where
  abbrev known_by : (n : ℕ) (o : Option BlockSlots) → slice_get slots.blocks.items n ≡ o → SlotsKnown
  known_by n None e = nothing_known
  known_by n (Some s) e = known s (sound n s e)

  knows_by : (answers : (b : Block) (s : BlockSlots) → AnswerJumps b s) (b : Block) (n : ℕ)
      (s : BlockSlots) → slice_get slots.blocks.items n ≡ Some s → TellsSlotsOf b s
      → (o : Option BlockSlots) (e : slice_get slots.blocks.items n ≡ o)
      → KnowsSlots b (known_by n o e)
  knows_by answers b n s is tells None e = absurd (let no : None ≡ Some s = sym e ∙ is in cc)
  knows_by answers b n s is tells (Some t) e =
      let same : s ≡ t = same_Some s t (sym is ∙ e) in
      let here : TellsSlotsOf b t = subst (TellsSlotsOf b) same tells in
      knows t (sound n t e) b here (answers b t (sound n t e) here)

pub tables_tell_code : ((b : Block) (s : BlockSlots) → AnswerJumps b s) → TablesTellCode
tables_tell_code answers c slots sound tells = (
  (λ n. known_by slots sound n (slice_get slots.blocks.items n) refl),
  record {
    each = λ n b is view seen.
        let t = tells n b is view seen in
        knows_by slots sound answers (block_of c b view) n t.tables t.is t.tells
        (slice_get slots.blocks.items n) refl;
  },
)
