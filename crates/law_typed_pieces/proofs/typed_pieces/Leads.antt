-- Exits of loops lead to slots that lie below their loops: what is put together of pieces in which they do.
use Rattle.std.proofs.Common.{◌≡◌, ◌⊎◌, ⊎_elim, ℕ, ◌+◌, Bool, true, false, List, [], ◌∷◌, ◌++◌, length, Option, Some, None, sym, ap, ◌∙◌, subst, arith}
use Rattle.std.proofs.lemmas.Bool.{cases_lt}
use Rattle.pt_code.specs.declared.Start.{Start}
use Rattle.sem_code.specs.slots.CodeObject.{CodeObject}
use Rattle.pt_assembler.specs.declared.operation.Exit.{Exit}
use Rattle.pt_assembler.specs.declared.operation.Exit.TheVariants.{Break, Continue}
use Rattle.pt_assembler.specs.declared.operation.Target.{Target}
use Rattle.pt_assembler.specs.Piece as P
use Rattle.pt_assembler.specs.Piece.{Piece, pick}
use Rattle.pt_assembler.specs.PieceAt.{target, start_of, Context, in_loop, under, over, row_of}
use Rattle.sem_fits.specs.fits.Block.{Block}
use Rattle.law_pieces.specs.piece_kinds.Walk.{Loop, Known, StackMap, is_empty, Setting, with_label, with_none, with_loop, end_of, behind}
use Rattle.law_pieces.specs.piece_kinds.Typed.{Over, EndsAt}
use Rattle.law_pieces.specs.piece_kinds.Table.{next_of, Rises, Table}
use Rattle.law_pieces.specs.piece_kinds.Exits.{LeadsBelow, ExitsAre}
use Rattle.law_pieces.proofs.piece_kinds.ListLemmas.{over_itself, over_more, over_length}
use Rattle.law_pieces.proofs.piece_kinds.PieceLaw.{not_both, is_some_of, nothing_at, ends, ordered, has_place, Laid, first, second, in_block, in_head, in_closed, in_a_loop, deep, at_start, in_count, normal_there, under_row, behind_row, under_except, begins}
use Rattle.law_typed_pieces.proofs.typed_pieces.Combine.{goes_if, deepened_is}
use Rattle.law_typed_pieces.proofs.typed_pieces.Plain.{IsPlain, plain_exits}

-- what lies at the end of a piece, if anything does
abbrev pub EndsIn : Table → (to : ℕ) → Option StackMap → Type 0
EndsIn at to None = Unit {0}
EndsIn at to (Some ks) = (ls : StackMap) → at to ≡ Some ls → ls ≡ ks

-- where the exits of a loop lead
abbrev pub Below : Table → Option Loop → (base : StackMap) → Type 0
Below at x base = (e : Exit) → LeadsBelow at x base e

pub below_more : (at : Table) (x : Option Loop) (base : StackMap) (k : Known) → Below at x base → Below at x (k ∷ base)
below_more at x base k f e ls h = let u = f e ls h in (over_more k u.0, u.1)

-- how the end of the first of two parts is known: it isn't asked for, the second has a place, or both end alike
pub data Middle (d : Piece) (ks : StackMap) (end : Option StackMap) : Option StackMap → Type 0 where
  any : Middle d ks end None
  inside : is_empty d ≡ false → Middle d ks end (Some ks)
  alike : end ≡ Some ks → Middle d ks end (Some ks)

module _ {V : Type 0} (code : CodeObject V) (starts : List Start) (b : Block) (same : (pc : ℕ) → code.at pc ≡ b.at pc) (rises : Rises b) (at : Table) where
  abbrev laid : (p : Piece) (L : List Target) (x : Context) (c : Setting) (Ls : List (Option StackMap)) (base : StackMap) (from to : ℕ) (s : Option StackMap) → Type 0
  laid p L x c Ls base from to s = Laid code starts b same rises at p L x c Ls base from to s

  abbrev exits : (p : Piece) (c : Setting) (base : StackMap) (from : ℕ) (s : Option StackMap) → Type 0
  exits p c base from s = ExitsAre b.links (next_of b) (LeadsBelow at) p c base from s

  -- from these slots, where this is at the end
  pub record Leads (q : Piece) (c : Setting) (base : StackMap) (from : ℕ) (ks : StackMap) (end : Option StackMap) : Type 0 where
    pub exits : (L : List Target) (x : Context) (Ls : List (Option StackMap)) (to : ℕ) → laid q L x c Ls base from to (Some ks) → EndsIn at to end → Below at c.loop base
        → exits q c base from (Some ks)

  pub plainly : {q : Piece} {c : Setting} {base : StackMap} {from : ℕ} {ks : StackMap} {end : Option StackMap} → IsPlain q → Leads q c base from ks end
  plainly {q} {c} {base} {from} {ks} h = record { exits = λ L x Ls to l t k. plain_exits b.links (next_of b) (LeadsBelow at) q c base from (Some ks) h }

  later : (a d : Piece) (L : List Target) (x : Context) (c : Setting) (Ls : List (Option StackMap)) (base : StackMap) (from to : ℕ) (ks : StackMap)
      (l : laid (P.seq a d) L x c Ls base from to (Some ks)) (s : Option StackMap) → behind b.links (next_of b) a c base from (Some ks) ≡ s
      → laid d L x c Ls base (end_of (next_of b) a from) to s
  later a d L x c Ls base from to ks l s e =
      subst (λ m. laid d L x c Ls base m to s) (sym (ends code starts b same rises a L x from (l.stands).0 (l.stands).1))
      (subst (λ z. laid d L x c Ls base (l.stands).0 to z) e (second code starts b same rises at L x c Ls base from to ks a d l))

  pub after : {a d : Piece} {c : Setting} {base : StackMap} {from : ℕ} {ks : StackMap} {end : Option StackMap} (ms : StackMap) → IsPlain a
      → behind b.links (next_of b) a c base from (Some ks) ≡ Some ms → Leads d c base (end_of (next_of b) a from) ms end → Leads (P.seq a d) c base from ks end
  after {a} {d} {c} {base} {from} {ks} {end} ms h e u = record {
    exits = λ L x Ls to l t k. (
      plain_exits b.links (next_of b) (LeadsBelow at) a c base from (Some ks) h,
      subst (λ s. exits d c base (end_of (next_of b) a from) s) (sym e) (u.exits L x Ls to (later a d L x c Ls base from to ks l (Some ms) e) t k),
    );
  }

  -- the place behind a part, where another begins
  middle_ends : (d : Piece) (L : List Target) (x : Context) (c : Setting) (Ls : List (Option StackMap)) (base : StackMap) (mid to : ℕ) (t : Bool) (ms : StackMap)
      → laid d L x c Ls base mid to (goes_if t ms) → (end m : Option StackMap) → Middle d ms end m → EndsIn at to end → EndsIn at mid m
  middle_ends d L x c Ls base mid to t ms l end None w f = tt
  middle_ends d L x c Ls base mid to true ms l end (Some ks) (inside h) f = λ ls g. is_some_of (sym g ∙ begins code starts b same rises at d L x c Ls base mid to ms l)
  middle_ends d L x c Ls base mid to true ms l end (Some ks) (alike h) f = λ ls g. is_some_of (sym g ∙ begins code starts b same rises at d L x c Ls base mid to ms l)
  middle_ends d L x c Ls base mid to false ms l end (Some ks) (inside h) f =
      λ ls g. not_both (sym g ∙ (l.agrees mid (omega arith) (has_place code starts b same rises d L x mid to l.stands h) ∙ nothing_at b.links (next_of b) d c base mid mid))
  middle_ends d L x c Ls base mid to false ms l end (Some ks) (alike h) f =
      λ ls g. ⊎_elim (λ u. not_both (sym g ∙ (l.agrees mid (omega arith) u ∙ nothing_at b.links (next_of b) d c base mid mid)))
      (λ u. subst (EndsIn at to) h f ls (subst (λ m. at m ≡ Some ls) (let o = ordered code starts b same rises d L x mid to l.stands in let e : mid ≡ to = omega (arith, o, u) in e) g))
      (cases_lt mid to)

  pub beside : {a d : Piece} {c : Setting} {base : StackMap} {from : ℕ} {ks : StackMap} {end m : Option StackMap} (t : Bool) (ms : StackMap)
      → behind b.links (next_of b) a c base from (Some ks) ≡ goes_if t ms → Middle d ms end m → Leads a c base from ks m → Leads d c base (end_of (next_of b) a from) ms end
      → Leads (P.seq a d) c base from ks end
  beside {a} {d} {c} {base} {from} {ks} {end} {m} t ms e w u v = record {
    exits = λ L x Ls to l f k. (
      u.exits L x Ls (end_of (next_of b) a from) (front L x Ls to l)
          (middle_ends d L x c Ls base (end_of (next_of b) a from) to t ms (later a d L x c Ls base from to ks l (goes_if t ms) e) end m w f) k,
      subst (λ s. exits d c base (end_of (next_of b) a from) s) (sym e) (by t L x Ls to (later a d L x c Ls base from to ks l (goes_if t ms) e) f k),
    );
  }
    where
      front : (L : List Target) (x : Context) (Ls : List (Option StackMap)) (to : ℕ) → laid (P.seq a d) L x c Ls base from to (Some ks)
          → laid a L x c Ls base from (end_of (next_of b) a from) (Some ks)
      front L x Ls to l = subst (λ m. laid a L x c Ls base from m (Some ks)) (sym (ends code starts b same rises a L x from (l.stands).0 (l.stands).1))
          (first code starts b same rises at L x c Ls base from to ks a d l
          (λ ls g. begins code starts b same rises at d L x c Ls base (l.stands).0 to ls
          (subst (λ z. laid d L x c Ls base (l.stands).0 to z) g (second code starts b same rises at L x c Ls base from to ks a d l))))

      by : (t : Bool) (L : List Target) (x : Context) (Ls : List (Option StackMap)) (to : ℕ) → laid d L x c Ls base (end_of (next_of b) a from) to (goes_if t ms) → EndsIn at to end
          → Below at c.loop base → exits d c base (end_of (next_of b) a from) (goes_if t ms)
      by true L x Ls to l f k = v.exits L x Ls to l f k
      by false L x Ls to l f k = tt

  pub closed : {q : Piece} {c : Setting} {base : StackMap} {from : ℕ} {ks : StackMap} {end : Option StackMap} → Leads q (with_none c) base from ks end
      → Leads (P.closed q) c base from ks end
  closed {q} {c} {base} {from} {ks} u = record { exits = λ L x Ls to l t k. u.exits [] x [] to (in_closed code starts b same rises at L x c Ls base from to ks q l) t k }

  pub blocked : {q : Piece} {c : Setting} {base : StackMap} {from : ℕ} {ks : StackMap} {end : Option StackMap} → Leads q (with_label (end_of (next_of b) q from) c) base from ks end
      → Leads (P.block q) c base from ks end
  blocked {q} {c} {base} {from} {ks} u = record {
    exits = λ L x Ls to l t k. u.exits (target to x.depth ∷ L) x (behind b.links (next_of b) (P.block q) c base from (Some ks) ∷ Ls) to
        (in_block code starts b same rises at L x c Ls base from to ks q l) t k;
  }

  pub headed : {q : Piece} {c : Setting} {base : StackMap} {from : ℕ} {ks : StackMap} {end : Option StackMap} → Leads q (with_label from c) base from ks end
      → Leads (P.headed q) c base from ks end
  headed {q} {c} {base} {from} {ks} u = record {
    exits = λ L x Ls to l t k. u.exits (target from x.depth ∷ L) x (Some ks ∷ Ls) to (in_head code starts b same rises at L x c Ls base from to ks q l) t k;
  }

  pub counted : {n : ℕ} {q : Piece} {c : Setting} {base : StackMap} {from : ℕ} {ks : StackMap} {end : Option StackMap} → Leads q c base from ks end
      → Leads (P.numbered n q) c base from ks end
  counted {n} {q} {c} {base} {from} {ks} u = record { exits = λ L x Ls to l t k. u.exits L x Ls to (in_count code starts b same rises at L x c Ls base from to ks n q l) t k }

  pub started : {n : ℕ} {q : Piece} {c : Setting} {base : StackMap} {from : ℕ} {ks : StackMap} {end : Option StackMap} → Leads q c base from ks end
      → Leads (P.started n q) c base from ks end
  started {n} {q} {c} {base} {from} {ks} u = record { exits = λ L x Ls to l t k. u.exits L x Ls to (at_start code starts b same rises at L x c Ls base from to ks n q l) t k }

  pub deeper : {q : Piece} {c : Setting} {base : StackMap} {from : ℕ} {end : Option StackMap} (more : StackMap) (k : Known) → Leads q c (k ∷ base) from (more ++ k ∷ base) end
      → Leads (P.deeper 1 q) c base from (more ++ k ∷ base) end
  deeper {q} {c} {base} {from} {end} more k u = record {
    exits = λ L x Ls to l t f. subst (λ z. exits q c z from (Some (more ++ k ∷ base))) (sym (deepened_is more k base))
        (u.exits L (over 1 x) Ls to (subst (λ z. laid q L (over 1 x) c Ls z from to (Some (more ++ k ∷ base))) (deepened_is more k base)
        (deep code starts b same rises at L x c Ls base from to (more ++ k ∷ base) 1 q l)) t (below_more at c.loop base k f));
  }

  pub looped : {q : Piece} {c : Setting} {base : StackMap} {from : ℕ} {ks : StackMap} (k : ℕ) (ms : StackMap) → Over ms base → EndsIn at (pick 0 c.labels k) (Some ms)
      → Leads q (with_loop k (end_of (next_of b) q from) (length base) c) base from ks (Some base) → Leads (P.looped k q) c base from ks (Some base)
  looped {q} {c} {base} {from} {ks} k ms o f u = record {
    exits = λ L x Ls to l t g. u.exits [] (in_loop (pick start_of L k) to x) [] to (in_a_loop code starts b same rises at L x c Ls base from to ks k q l) t
        (leads to (ends code starts b same rises q [] (in_loop (pick start_of L k) to x) from to (l.stands).2) t);
  }
    where
      leads : (to : ℕ) → end_of (next_of b) q from ≡ to → EndsIn at to (Some base)
          → Below at (Some (record { break_to = pick 0 c.labels k; continue_to = end_of (next_of b) q from; depth = length base })) base
      leads to e t Break ls h =
          let i : ls ≡ ms = f ls h in
          (subst (λ z. Over z base) (sym i) o, (let n = over_length o in let j : length ls ≡ length ms = ap length i in omega (arith, n, j)))
      leads to e t Continue ls h =
          let i : ls ≡ base = t ls (subst (λ m. at m ≡ Some ls) e h) in
          (subst (λ z. Over z base) (sym i) (over_itself base), (let j : length ls ≡ length base = ap length i in omega (arith, j)))

  pub ensured : {q : Piece} {c : Setting} {base : StackMap} {from : ℕ} {ks : StackMap} {end : Option StackMap} → Leads q (with_none c) base from ks (Some base)
      → Leads (P.ensured q) c base from ks end
  ensured {q} {c} {base} {from} {ks} u = record {
    exits = λ L x Ls to l t k. u.exits [] (under (row_of from to to x.depth true) x) [] ((l.stands).1).0 (under_row code starts b same rises at L x c Ls base from to ks q l)
        (λ ls h. subst (EndsAt base) (sym (normal_there code starts b same rises at L x c Ls base from to ks q l) ∙ h) (l.typed).2) k;
  }

  pub caught : {q r : Piece} {c : Setting} {base : StackMap} {from : ℕ} {ks : StackMap} (t : Bool) → behind b.links (next_of b) q (with_none c) base from (Some ks) ≡ goes_if t base
      → is_empty r ≡ false → Leads q (with_none c) base from ks (Some base) → Leads r c base (end_of (next_of b) q from) base None → Leads (P.caught q r) c base from ks None
  caught {q} {r} {c} {base} {from} {ks} t e h u v = record {
    exits = λ L x Ls to l f k. (
      u.exits [] (under (row_of from (l.stands).0 to x.depth false) x) [] (l.stands).0
          (under_except code starts b same rises at L x c Ls base from to ks q r l (λ ls g. begins code starts b same rises at r L x c Ls base (l.stands).0 to ls
          (subst (λ s. laid r L x c Ls base (l.stands).0 to s) g (behind_row code starts b same rises at L x c Ls base from to ks q r l))))
          (middle_ends r L x c Ls base (l.stands).0 to t base (subst (λ s. laid r L x c Ls base (l.stands).0 to s) e (behind_row code starts b same rises at L x c Ls base from to ks q r l))
          None (Some base) (inside h) tt) k,
      subst (λ s. exits r c base (end_of (next_of b) q from) s) (sym e) (by t L x Ls to
          (subst (λ m. laid r L x c Ls base m to (goes_if t base)) (sym (ends code starts b same rises q [] (under (row_of from (l.stands).0 to x.depth false) x) from (l.stands).0 (l.stands).1))
          (subst (λ s. laid r L x c Ls base (l.stands).0 to s) e (behind_row code starts b same rises at L x c Ls base from to ks q r l))) k),
    );
  }
    where
      by : (t : Bool) (L : List Target) (x : Context) (Ls : List (Option StackMap)) (to : ℕ) → laid r L x c Ls base (end_of (next_of b) q from) to (goes_if t base)
          → Below at c.loop base → exits r c base (end_of (next_of b) q from) (goes_if t base)
      by true L x Ls to l k = v.exits L x Ls to l tt k
      by false L x Ls to l k = tt
