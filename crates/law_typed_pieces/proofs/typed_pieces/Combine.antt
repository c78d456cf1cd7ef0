-- How the walk over pieces is put together from that over their parts.
use Rattle.std.proofs.Common.{◌≡◌, ℕ, ◌+◌, suc, min, Bool, true, false, List, [], ◌∷◌, ◌++◌, map, length, reverse, take, Option, Some, None, refl, sym, ap, ◌∙◌, subst, arith}
use Rattle.pt_instr.specs.declared.effects.Effect.{Effect}
use Rattle.pt_instr.specs.declared.kinds.Kind.TheVariants as kind
use Rattle.pt_instr.specs.Effects.{Kinds, giving}
use Rattle.pt_assembler.specs.declared.operation.Exit.{Exit}
use Rattle.pt_assembler.specs.Piece as P
use Rattle.pt_assembler.specs.Piece.{Op, Piece}
use Rattle.sem_fits.specs.fits.Block.{Links, effect}
use Rattle.sem_code.specs.slots.Slots.{or_else}
use Rattle.law_pieces.specs.piece_kinds.Walk.{Loop, Known, StackMap, kinds_of, some, made, instr_of, given, given_at, onward, behind_op, aside_op, to_none, to_one, deepened, Setting, with_label, with_none, end_of, flow, behind}
use Rattle.law_pieces.specs.piece_kinds.Typed.{Over, EndsAt, plainly, HasValue, IsUniform, Lands, AllHoldIn, Fires, Typed}
use Rattle.law_pieces.proofs.piece_kinds.ListLemmas.{length_kinds, over_itself, over_more, lowest_over, lowest_all}
use Rattle.law_pieces.proofs.piece_kinds.StepLemmas.{rest_is}
use Rattle.law_pieces.proofs.piece_kinds.PieceLaw.{one_none, nothing}

-- these slots, or nothing
abbrev pub goes_if : Bool → StackMap → Option StackMap
goes_if true ks = Some ks
goes_if false ks = None

-- the walk over a piece from these slots: it is typed, this is behind it, and that comes to each label
pub record Goes (links : Links) (next : ℕ → ℕ) (q : Piece) (c : Setting) (Ls : List (Option StackMap)) (base : StackMap) (from : ℕ) (ks : StackMap)
    (t : Option StackMap) (τ : ℕ → Option StackMap) : Type 0 where
  pub typed : Typed links next q c Ls base from (Some ks)
  pub behind : behind links next q c base from (Some ks) ≡ t
  pub sent : (k : ℕ) → (let f = flow links next q c base from (Some ks) in f.sent k) ≡ τ k

-- an instruction
pub record Does (links : Links) (op : Op) (x : Option Loop) (Ls : List (Option StackMap)) (base : StackMap) (to : ℕ) (ks : StackMap) (t : Option StackMap)
    (τ : ℕ → Option StackMap) : Type 0 where
  pub fires : Fires links op x Ls base ks
  pub behind : behind_op links op to x (Some ks) ≡ t
  pub sent : (k : ℕ) → to_one op (aside_op links op (Some ks)) k ≡ τ k

pub act_of : {links : Links} {next : ℕ → ℕ} {op : Op} {n l : ℕ} {g : Bool} {c : Setting} {Ls : List (Option StackMap)} {base : StackMap} {from : ℕ} {ks : StackMap}
    {t : Option StackMap} {τ : ℕ → Option StackMap} → Does links op c.loop Ls base (next from) ks t τ → Goes links next (P.act op n l g) c Ls base from ks t τ
act_of d = record { typed = d.fires; behind = d.behind; sent = d.sent }

pub move_of : {links : Links} {next : ℕ → ℕ} {op : Op} {c : Setting} {Ls : List (Option StackMap)} {base : StackMap} {from : ℕ} {ks : StackMap}
    {t : Option StackMap} {τ : ℕ → Option StackMap} → Does links op c.loop Ls base (next from) ks t τ → Goes links next (P.move op) c Ls base from ks t τ
move_of d = record { typed = d.fires; behind = d.behind; sent = d.sent }

pub nothing_there : {links : Links} {next : ℕ → ℕ} {c : Setting} {Ls : List (Option StackMap)} {base : StackMap} {from : ℕ} {ks : StackMap}
    → Goes links next P.empty c Ls base from ks (Some ks) to_none
nothing_there = record { typed = tt; behind = refl; sent = λ k. refl }

pub quiet : {links : Links} {next : ℕ → ℕ} {q : Piece} {c : Setting} {Ls : List (Option StackMap)} {base : StackMap} {from : ℕ} {ks : StackMap}
    {t : Option StackMap} {τ : ℕ → Option StackMap} → Goes links next q c Ls base from ks t τ → ((k : ℕ) → τ k ≡ None) → Goes links next q c Ls base from ks t to_none
quiet f h = record { typed = f.typed; behind = f.behind; sent = λ k. f.sent k ∙ h k }

pub retold : {links : Links} {next : ℕ → ℕ} {q : Piece} {c : Setting} {Ls : List (Option StackMap)} {base : StackMap} {from : ℕ} {ks : StackMap}
    {t : Option StackMap} {τ : ℕ → Option StackMap} (σ : ℕ → Option StackMap) → Goes links next q c Ls base from ks t τ → ((k : ℕ) → τ k ≡ σ k)
    → Goes links next q c Ls base from ks t σ
retold σ f h = record { typed = f.typed; behind = f.behind; sent = λ k. f.sent k ∙ h k }

pub both : {links : Links} {next : ℕ → ℕ} {a b : Piece} {c : Setting} {Ls : List (Option StackMap)} {base : StackMap} {from : ℕ} {ks ms : StackMap}
    {t : Option StackMap} {τ σ : ℕ → Option StackMap} → Goes links next a c Ls base from ks (Some ms) τ → Goes links next b c Ls base (end_of next a from) ms t σ
    → Goes links next (P.seq a b) c Ls base from ks t (λ k. or_else (τ k) (σ k))
both {links} {next} {a} {b} {c} {Ls} {base} {from} {ks} {ms} {t} {τ} {σ} f g = record {
  typed = (f.typed, subst (λ s. Typed links next b c Ls base (end_of next a from) s) (sym f.behind) g.typed);
  behind = ap (λ s. behind links next b c base (end_of next a from) s) f.behind ∙ g.behind;
  sent = λ k. ap (λ o. or_else o (let h = flow links next b c base (end_of next a from) (behind links next a c base from (Some ks)) in h.sent k)) (f.sent k)
      ∙ ap (λ o. or_else (τ k) o) (ap (λ s. let h = flow links next b c base (end_of next a from) s in h.sent k) f.behind ∙ g.sent k);
}

-- where neither goes to a label
pub next_to : {links : Links} {next : ℕ → ℕ} {a b : Piece} {c : Setting} {Ls : List (Option StackMap)} {base : StackMap} {from : ℕ} {ks ms : StackMap}
    {t : Option StackMap} → Goes links next a c Ls base from ks (Some ms) to_none → Goes links next b c Ls base (end_of next a from) ms t to_none
    → Goes links next (P.seq a b) c Ls base from ks t to_none
next_to f g = quiet (both f g) (λ k. refl)

-- nothing goes on to the second
pub stops : {links : Links} {next : ℕ → ℕ} {a b : Piece} {c : Setting} {Ls : List (Option StackMap)} {base : StackMap} {from : ℕ} {ks : StackMap}
    {τ : ℕ → Option StackMap} → Goes links next a c Ls base from ks None τ → Goes links next (P.seq a b) c Ls base from ks None (λ k. or_else (τ k) None)
stops {links} {next} {a} {b} {c} {Ls} {base} {from} {ks} {τ} f =
    let n = nothing links next b c base (end_of next a from) in record {
      typed = (f.typed, subst (λ s. Typed links next b c Ls base (end_of next a from) s) (sym f.behind) tt);
      behind = ap (λ s. behind links next b c base (end_of next a from) s) f.behind ∙ n.behind;
      sent = λ k. ap (λ o. or_else o (let h = flow links next b c base (end_of next a from) (behind links next a c base from (Some ks)) in h.sent k)) (f.sent k)
          ∙ ap (λ o. or_else (τ k) o) (ap (λ s. let h = flow links next b c base (end_of next a from) s in h.sent k) f.behind ∙ n.sent k);
    }

pub in_closed : {links : Links} {next : ℕ → ℕ} {q : Piece} {c : Setting} {Ls : List (Option StackMap)} {base : StackMap} {from : ℕ} {ks : StackMap}
    {t : Option StackMap} {τ : ℕ → Option StackMap} → Goes links next q (with_none c) [] base from ks t τ → Goes links next (P.closed q) c Ls base from ks t to_none
in_closed f = record { typed = f.typed; behind = f.behind; sent = λ k. refl }

pub in_block : {links : Links} {next : ℕ → ℕ} {q : Piece} {c : Setting} {Ls : List (Option StackMap)} {base : StackMap} {from : ℕ} {ks : StackMap}
    {t r : Option StackMap} {τ : ℕ → Option StackMap} → Goes links next q (with_label (end_of next q from) c) (r ∷ Ls) base from ks t τ → or_else t (τ 0) ≡ r
    → Goes links next (P.block q) c Ls base from ks r (λ k. τ (suc k))
in_block {links} {next} {q} {c} {Ls} {base} {from} {ks} {t} {r} {τ} f e =
    let is : behind links next (P.block q) c base from (Some ks) ≡ r =
    ap (λ o. or_else o (let h = flow links next q (with_label (end_of next q from) c) base from (Some ks) in h.sent 0)) f.behind ∙ (ap (or_else t) (f.sent 0) ∙ e) in record {
      typed = subst (λ o. Typed links next q (with_label (end_of next q from) c) (o ∷ Ls) base from (Some ks)) (sym is) f.typed;
      behind = is;
      sent = λ k. f.sent (suc k);
    }

pub in_head : {links : Links} {next : ℕ → ℕ} {q : Piece} {c : Setting} {Ls : List (Option StackMap)} {base : StackMap} {from : ℕ} {ks : StackMap}
    {t : Option StackMap} {τ : ℕ → Option StackMap} → Goes links next q (with_label from c) (Some ks ∷ Ls) base from ks t τ
    → Goes links next (P.headed q) c Ls base from ks t (λ k. τ (suc k))
in_head f = record { typed = f.typed; behind = f.behind; sent = λ k. f.sent (suc k) }

pub at_start : {links : Links} {next : ℕ → ℕ} {l : ℕ} {q : Piece} {c : Setting} {Ls : List (Option StackMap)} {base : StackMap} {from : ℕ} {ks : StackMap}
    {t : Option StackMap} {τ : ℕ → Option StackMap} → Goes links next q c Ls base from ks t τ → Goes links next (P.started l q) c Ls base from ks t τ
at_start f = record { typed = f.typed; behind = f.behind; sent = f.sent }

pub in_count : {links : Links} {next : ℕ → ℕ} {n : ℕ} {q : Piece} {c : Setting} {Ls : List (Option StackMap)} {base : StackMap} {from : ℕ} {ks : StackMap}
    {t : Option StackMap} {τ : ℕ → Option StackMap} → Goes links next q c Ls base from ks t τ → Goes links next (P.numbered n q) c Ls base from ks t τ
in_count f = record { typed = f.typed; behind = f.behind; sent = f.sent }

pub deepened_is : (more : StackMap) (k : Known) (base : StackMap) → deepened 1 base (Some (more ++ k ∷ base)) ≡ k ∷ base
deepened_is more k base = lowest_over (length base + 1) more (k ∷ base) (omega arith) ∙ lowest_all (length base + 1) (k ∷ base) (omega arith)

-- one more slot lies below; others may lie above it
pub deeper_by_one : {links : Links} {next : ℕ → ℕ} {q : Piece} {c : Setting} {Ls : List (Option StackMap)} {base : StackMap} {from : ℕ} {t : Option StackMap}
    {τ : ℕ → Option StackMap} (more : StackMap) (k : Known) → Goes links next q c Ls (k ∷ base) from (more ++ k ∷ base) t τ
    → Goes links next (P.deeper 1 q) c Ls base from (more ++ k ∷ base) t τ
deeper_by_one {links} {next} {q} {c} {Ls} {base} {from} {t} {τ} more k f =
    let is : deepened 1 base (Some (more ++ k ∷ base)) ≡ k ∷ base = deepened_is more k base in record {
      typed = (
        subst (Over base) (sym is) (over_more k (over_itself base)),
        subst (λ z. Over z (more ++ k ∷ base)) (sym is) (more, refl),
        ap length is ∙ one_more,
        subst (λ z. Typed links next q c Ls z from (Some (more ++ k ∷ base))) (sym is) f.typed,
      );
      behind = ap (λ z. behind links next q c z from (Some (more ++ k ∷ base))) is ∙ f.behind;
      sent = λ j. ap (λ z. let h = flow links next q c z from (Some (more ++ k ∷ base)) in h.sent j) is ∙ f.sent j;
    }
  where
    one_more : suc (length base) ≡ length base + 1
    one_more = omega arith

-- under an always row: what goes on from the piece are the slots of the base alone
pub in_row : {links : Links} {next : ℕ → ℕ} {q : Piece} {c : Setting} {Ls : List (Option StackMap)} {base : StackMap} {from : ℕ} {ks : StackMap}
    {t : Option StackMap} {τ : ℕ → Option StackMap} → Over base ks → Goes links next q (with_none c) [] base from ks t τ → EndsAt base t
    → Goes links next (P.ensured q) c Ls base from ks (Some (made (next (end_of next q from)) c.loop kind.Pending ∷ base)) to_none
in_row {base = base} o f e = record {
  typed = (o, f.typed, subst (EndsAt base) (sym f.behind) e);
  behind = refl;
  sent = λ k. refl;
}

-- an exit of a loop
pub leaves_by : {links : Links} {next : ℕ → ℕ} {e : Exit} {n l : ℕ} {c : Setting} {Ls : List (Option StackMap)} {base : StackMap} {from : ℕ} {ks : StackMap}
    → Over base ks → Goes links next (P.leave e n l) c Ls base from ks None to_none
leaves_by o = record { typed = o; behind = refl; sent = λ k. refl }

-- Instructions.

abbrev pub value : Known
value = some kind.Value

-- it takes these and gives those, and nothing else
abbrev pub plain_effect : Kinds → Kinds → (again : Bool) → Effect
plain_effect A B r = record (giving A B) { again = r }

pub gives_plain : {links : Links} {op : Op} {x : Option Loop} {Ls : List (Option StackMap)} {base : StackMap} {to : ℕ} (A B : Kinds) (r : Bool)
    → effect links (instr_of op) ≡ plain_effect A B r → IsUniform links op → (ts gs : StackMap) → kinds_of ts ≡ A → AllHoldIn x ts → reverse (map (made to x) B) ≡ gs
    → (F : StackMap) → Over base F → Does links op x Ls base to (ts ++ F) (Some (gs ++ F)) to_none
gives_plain {links} {op} {x} {Ls} {base} {to} A B r E u ts gs K h G F o = record {
  fires = record {
    taken = ts;
    rest = F;
    is = refl;
    over = o;
    takes = plainly (K ∙ sym (ap (λ (e : Effect). e.takes) E));
    above = subst (λ (e : Effect). HasValue e.above F) (sym E) tt;
    uniform = u;
    lands = subst (Lands op Ls) (sym no_aside) tt;
    holds = h;
  };
  behind = ap (λ (e : Effect). onward e to x (ts ++ F) e.gives) E ∙ computed;
  sent = λ k. ap (λ z. to_one op z k) no_aside ∙ one_none op k;
}
  where
    no_aside : aside_op links op (Some (ts ++ F)) ≡ None
    no_aside = ap (λ (e : Effect). given_at e 0 None (ts ++ F) e.aside) E

    count : length A ≡ length ts
    count = ap length (sym K) ∙ length_kinds ts

    none_kept : min 0 (length B) ≡ 0
    none_kept = omega arith

    computed : onward (plain_effect A B r) to x (ts ++ F) (Some B) ≡ Some (gs ++ F)
    computed = ap (λ zs. Some (given 0 to x (take (length A) (ts ++ F)) B ++ zs)) (rest_is (plain_effect A B r) ts F count)
        ∙ (ap (λ m. Some (reverse (take m (reverse (take (length A) (ts ++ F))) ++ map (made to x) B) ++ F)) none_kept ∙ ap (λ zs. Some (zs ++ F)) G)

module _ {links : Links} {op : Op} {x : Option Loop} {Ls : List (Option StackMap)} {base : StackMap} {to : ℕ} where
  pub gives_one : effect links (instr_of op) ≡ plain_effect [] (kind.Value ∷ []) false → IsUniform links op → (F : StackMap) → Over base F
      → Does links op x Ls base to F (Some (value ∷ F)) to_none
  gives_one E u F o = gives_plain [] (kind.Value ∷ []) false E u [] (value ∷ []) refl tt refl F o

  pub takes_none : effect links (instr_of op) ≡ plain_effect [] [] false → IsUniform links op → (F : StackMap) → Over base F
      → Does links op x Ls base to F (Some F) to_none
  takes_none E u F o = gives_plain [] [] false E u [] [] refl tt refl F o

  pub takes_one : effect links (instr_of op) ≡ plain_effect (kind.Value ∷ []) [] false → IsUniform links op → (F : StackMap) → Over base F
      → Does links op x Ls base to (value ∷ F) (Some F) to_none
  takes_one E u F o = gives_plain (kind.Value ∷ []) [] false E u (value ∷ []) [] refl (tt, tt) refl F o

  pub takes_two : effect links (instr_of op) ≡ plain_effect (kind.Value ∷ kind.Value ∷ []) [] false → IsUniform links op → (F : StackMap) → Over base F
      → Does links op x Ls base to (value ∷ value ∷ F) (Some F) to_none
  takes_two E u F o = gives_plain (kind.Value ∷ kind.Value ∷ []) [] false E u (value ∷ value ∷ []) [] refl (tt, (tt, tt)) refl F o

  pub takes_three : effect links (instr_of op) ≡ plain_effect (kind.Value ∷ kind.Value ∷ kind.Value ∷ []) [] false → IsUniform links op → (F : StackMap) → Over base F
      → Does links op x Ls base to (value ∷ value ∷ value ∷ F) (Some F) to_none
  takes_three E u F o = gives_plain (kind.Value ∷ kind.Value ∷ kind.Value ∷ []) [] false E u (value ∷ value ∷ value ∷ []) [] refl (tt, (tt, (tt, tt))) refl F o

  pub one_of_one : effect links (instr_of op) ≡ plain_effect (kind.Value ∷ []) (kind.Value ∷ []) false → IsUniform links op → (F : StackMap) → Over base F
      → Does links op x Ls base to (value ∷ F) (Some (value ∷ F)) to_none
  one_of_one E u F o = gives_plain (kind.Value ∷ []) (kind.Value ∷ []) false E u (value ∷ []) (value ∷ []) refl (tt, tt) refl F o

  pub one_of_two : effect links (instr_of op) ≡ plain_effect (kind.Value ∷ kind.Value ∷ []) (kind.Value ∷ []) false → IsUniform links op → (F : StackMap) → Over base F
      → Does links op x Ls base to (value ∷ value ∷ F) (Some (value ∷ F)) to_none
  one_of_two E u F o = gives_plain (kind.Value ∷ kind.Value ∷ []) (kind.Value ∷ []) false E u (value ∷ value ∷ []) (value ∷ []) refl (tt, (tt, tt)) refl F o

  pub one_of_three : effect links (instr_of op) ≡ plain_effect (kind.Value ∷ kind.Value ∷ kind.Value ∷ []) (kind.Value ∷ []) false → IsUniform links op → (F : StackMap)
      → Over base F → Does links op x Ls base to (value ∷ value ∷ value ∷ F) (Some (value ∷ F)) to_none
  one_of_three E u F o = gives_plain (kind.Value ∷ kind.Value ∷ kind.Value ∷ []) (kind.Value ∷ []) false E u (value ∷ value ∷ value ∷ []) (value ∷ []) refl (tt, (tt, (tt, tt))) refl F o
