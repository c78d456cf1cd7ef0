-- Chains of `and` and of `or`.
use Rattle.std.proofs.Common.{◌≡◌, ◌≢◌, ℕ, ◌+◌, ◌-◌, ◌≤◌, ◌<◌, max, Bool, true, List, [], ◌∷◌, ◌++◌, Option, Some, refl, sym, ◌∙◌, ap, subst, arith}
use Rattle.pt_wide.specs.Syntax as S
use Rattle.pt_wide.specs.Syntax.{Exp, Exps}
use Rattle.pt_wide.specs.Fold.{all_of}
use Rattle.pt_wide.specs.Measure.{depth_exp, width_exp, depth_all, width_all}
use Rattle.pt_readers.specs.Reading.{next_of, Found, Refused}
use Rattle.pt_readers.proofs.Readers.{Binds, Shifts, left}
use Rattle.pt_readers.proofs.Loops.{Repeats, Out, at_end, at_step, Right, loop_shifts, loop_binds, loop_found, loop_over}
use Rattle.pt_grammar.specs.declared.sign.Sign.TheVariants.{Word as word}
use Rattle.pt_grammar.specs.declared.sign.Word.TheVariants.{And, Or}
use Rattle.pt_grammar.specs.Lexemes.{Lexeme, sign, sign_at}
use Rattle.pt_grammar.specs.Grammar.{Disjunction, disjunction, Disjoined, disjoined_end, disjoined_more, Conjunction, conjunction, Conjoined, conjoined_end, conjoined_more, Negation}
use Rattle.pt_grammar.specs.Nodes.{line_of, joined, conjoined, disjoined}
use Rattle.pt_grammar.specs.Parts.{Fits, Stops, Apart, ends_in_text, ends_all, a_negation, a_conjunction, a_disjunction}
use Rattle.pt_grammar.proofs.Depths.{depth_snoc}
use Rattle.pt_grammar.proofs.Ranks.{apart_of, IsSign, is_sign, not_signed, no_rank, only_and, only_or}
use Rattle.pt_grammar.proofs.Begins.{some_name, some_exp, name_negation, name_conjunction}

pub width_snoc : (es : List Exp) (e : Exp) → width_all (all_of (es ++ (e ∷ []))) ≡ max (width_all (all_of es)) (width_exp e)
width_snoc [] e = omega arith
width_snoc (d ∷ es) e = omega (arith, width_snoc es e)

ends_snoc : (before : Bool) (es : List Exp) (e : Exp) → ends_all before (all_of (es ++ (e ∷ []))) ≡ ends_in_text e
ends_snoc before [] e = refl
ends_snoc before (d ∷ es) e = ends_snoc (ends_in_text d) es e

-- a node whose parts stand beside one another
module _ (node : ℕ → Exp → Exps → Exp) (depth : (l : ℕ) (a : Exp) (es : Exps) → depth_exp (node l a es) ≡ 1 + max (depth_exp a) (depth_all es))
    (width : (l : ℕ) (a : Exp) (es : Exps) → width_exp (node l a es) ≡ max (width_exp a) (width_all es))
    (ends : (l : ℕ) (a : Exp) (es : Exps) → ends_in_text (node l a es) ≡ ends_all (ends_in_text a) es) where
  pub joined_ends : (a : Exp) (es : List Exp) (e : Exp) → ends_in_text (joined node a (es ++ (e ∷ []))) ≡ ends_in_text e
  joined_ends a [] e = ends (line_of a) a (all_of (e ∷ []))
  joined_ends a (b ∷ es) e = ends (line_of a) a (all_of ((b ∷ es) ++ (e ∷ []))) ∙ ends_snoc (ends_in_text b) es e

  pub joined_grows : (d : ℕ) (a : Exp) (es : List Exp) (e : Exp) → depth_exp a < d → Fits d (joined node a es) → Fits (d - 1) e → Fits d (joined node a (es ++ (e ∷ [])))
  joined_grows d a [] e h f g = (omega (arith, g.0, depth (line_of a) a (all_of (e ∷ []))), omega (arith, f.1, g.1, width (line_of a) a (all_of (e ∷ []))))
  joined_grows d a (b ∷ es) e h f g = (
    omega (arith, f.0, g.0, depth (line_of a) a (all_of ((b ∷ es) ++ (e ∷ []))), depth (line_of a) a (all_of (b ∷ es)), depth_snoc es e),
    omega (arith, f.1, g.1, width (line_of a) a (all_of ((b ∷ es) ++ (e ∷ []))), width (line_of a) a (all_of (b ∷ es)), width_snoc es e),
  )

  pub joined_shrinks : (d : ℕ) (a : Exp) (es : List Exp) (e : Exp) → Fits d (joined node a (es ++ (e ∷ []))) → Fits d (joined node a es)
  joined_shrinks d a [] e f = (omega (arith, f.0, depth (line_of a) a (all_of (e ∷ []))), omega (arith, f.1, width (line_of a) a (all_of (e ∷ []))))
  joined_shrinks d a (b ∷ es) e f = (
    omega (arith, f.0, depth (line_of a) a (all_of ((b ∷ es) ++ (e ∷ []))), depth (line_of a) a (all_of (b ∷ es)), depth_snoc es e),
    omega (arith, f.1, width (line_of a) a (all_of ((b ∷ es) ++ (e ∷ []))), width (line_of a) a (all_of (b ∷ es)), width_snoc es e),
  )

  pub joined_part : (d : ℕ) (a : Exp) (es : List Exp) (e : Exp) → Fits d (joined node a (es ++ (e ∷ []))) → Fits (d - 1) e
  joined_part d a [] e f = (omega (arith, f.0, depth (line_of a) a (all_of (e ∷ []))), omega (arith, f.1, width (line_of a) a (all_of (e ∷ []))))
  joined_part d a (b ∷ es) e f = (
    omega (arith, f.0, depth (line_of a) a (all_of ((b ∷ es) ++ (e ∷ []))), depth_snoc es e),
    omega (arith, f.1, width (line_of a) a (all_of ((b ∷ es) ++ (e ∷ []))), width_snoc es e),
  )

  pub joined_deep : (d : ℕ) (a : Exp) (es : List Exp) (e : Exp) → d ≤ depth_exp a → Fits d (joined node a (es ++ (e ∷ []))) → ⊥
  joined_deep d a [] e h f = omega (arith, f.0, depth (line_of a) a (all_of (e ∷ [])))
  joined_deep d a (b ∷ es) e h f = omega (arith, f.0, depth (line_of a) a (all_of ((b ∷ es) ++ (e ∷ []))))

abbrev pub one_more : List Exp → Lexeme → Exp → List Exp
one_more es t e = es ++ (e ∷ [])

-- `and`
module _ (d : ℕ) (a : Exp) where
  conjunction_shrinks : (es : List Exp) {x : Exp} {ts rest : List Lexeme} → Conjoined a es ts x rest → Fits d x → Fits d (conjoined a es)
  conjunction_shrinks es conjoined_end f = f
  conjunction_shrinks es (conjoined_more {b = b} q k) f = joined_shrinks S.and (λ l b es. refl) (λ l b es. refl) (λ l b es. refl) d a es b (conjunction_shrinks (es ++ (b ∷ [])) k f)

  pub conjunctions : Repeats (a_conjunction d) (Conjoined a) (IsSign (word And)) (λ t. a_negation (d - 1)) one_more (conjoined a)
  conjunctions = record {
    done = λ s ts. conjoined_end;
    step = λ s t ts mid rest b x j q k. step j q k;
    out = λ s ts x rest k. out k;
    ends = λ x t s j. ends x j s;
    stays = λ s t b o g. (omega (arith, g.0), subst (λ v. Apart v o) (joined_ends S.and (λ l b es. refl) (λ l b es. refl) (λ l b es. refl) a s b) g.1);
    goes = λ t b u j. goes b j;
    shrinks = λ s ts x rest k f. conjunction_shrinks s k f;
    part = λ s t b f. joined_part S.and (λ l b es. refl) (λ l b es. refl) (λ l b es. refl) d a s b f;
    far = λ t j. (some_name ∷ [], some_exp, λ z. name_negation);
  }
    where
      step : {s : List Exp} {b x : Exp} {t : Lexeme} {ts mid rest : List Lexeme} → IsSign (word And) t → Negation ts b mid → Conjoined a (s ++ (b ∷ [])) mid x rest → Conjoined a s (t ∷ ts) x rest
      step is_sign q k = conjoined_more q k

      out : {s : List Exp} {x : Exp} {ts rest : List Lexeme} → Conjoined a s ts x rest → Out (a_conjunction d) (Conjoined a) (IsSign (word And)) (λ t. a_negation (d - 1)) one_more (conjoined a) s ts x rest
      out conjoined_end = at_end
      out (conjoined_more q k) = at_step is_sign q k

      ends : (x : Exp) {t : Lexeme} → IsSign (word And) t → Stops 9 x (Some t) → ⊥
      ends x is_sign s = omega (arith, s.0)

      goes : (b : Exp) {u : Lexeme} → IsSign (word And) u → Stops 8 b (Some u)
      goes b (is_sign {l = l}) = (omega arith, apart_of (ends_in_text b) l (word And) (omega arith))

  pub conjunctions_shift : (es : List Exp) (l : ℕ) → Shifts (sign l (word And)) (left (a_conjunction d) (Right (a_conjunction d) (Conjoined a) (IsSign (word And)) (λ t. a_negation (d - 1)) one_more (conjoined a) es (sign l (word And)))) (left (a_conjunction d) (Conjoined a es))
  conjunctions_shift es l = loop_shifts (a_conjunction d) (Conjoined a) (IsSign (word And)) (λ t. a_negation (d - 1)) one_more (conjoined a) conjunctions es (sign l (word And)) is_sign

  pub conjunctions_bind : (es : List Exp) (l : ℕ) → depth_exp a < d → Fits d (conjoined a es)
      → Binds (a_negation (d - 1)) (λ e. Conjoined a (es ++ (e ∷ []))) (left (a_conjunction d) (Right (a_conjunction d) (Conjoined a) (IsSign (word And)) (λ t. a_negation (d - 1)) one_more (conjoined a) es (sign l (word And))))
  conjunctions_bind es l h f = loop_binds (a_conjunction d) (Conjoined a) (IsSign (word And)) (λ t. a_negation (d - 1)) one_more (conjoined a) conjunctions es (sign l (word And)) (λ e g. joined_grows S.and (λ l b es. refl) (λ l b es. refl) (λ l b es. refl) d a es e h f g)

  pub conjunctions_found : (es : List Exp) (ts : List Lexeme) → sign_at (next_of ts) ≢ Some (word And) → Stops 8 (conjoined a es) (next_of ts) → Fits d (conjoined a es)
      → Found (left (a_conjunction d) (Conjoined a es)) ts (conjoined a es) ts
  conjunctions_found es ts n s f = loop_found (a_conjunction d) (Conjoined a) (IsSign (word And)) (λ t. a_negation (d - 1)) one_more (conjoined a) conjunctions es ts (λ t e j. not_signed (next_of ts) n t e j)
      (no_rank 9 (omega arith) (next_of ts) (omega (arith, s.0)) (λ t e k. n (e ∙ ap (λ u. Some u) (only_and t k))), s.1) f

  pub conjunctions_over : (es : List Exp) (ts : List Lexeme) (l : ℕ) → next_of ts ≡ Some (sign l (word And)) → Fits d (conjoined a es) → d ≤ depth_exp a → Refused (left (a_conjunction d) (Conjoined a es)) true ts ts
  conjunctions_over es ts l e f g = loop_over (a_conjunction d) (Conjoined a) (IsSign (word And)) (λ t. a_negation (d - 1)) one_more (conjoined a) conjunctions es (sign l (word And)) ts e is_sign f (λ b k. joined_deep S.and (λ l b es. refl) (λ l b es. refl) (λ l b es. refl) d a es b g k)

pub conjunctions_stop : (a : Exp) (es : List Exp) (e : Exp) (o : Option Lexeme) → Stops 8 e o → Stops 8 (conjoined a (es ++ (e ∷ []))) o
conjunctions_stop a es e o s = (s.0, subst (λ v. Apart v o) (sym (joined_ends S.and (λ l b es. refl) (λ l b es. refl) (λ l b es. refl) a es e)) s.1)

pub conjunction_binds : (d : ℕ) → Binds (a_negation d) (λ a. Conjoined a []) (a_conjunction d)
conjunction_binds d = record {
  intro = λ ts y mid x rest q k. conjunction q k;
  inv = λ ts x rest k s. out k s;
  down = λ y mid x rest k f. conjunction_shrinks d y [] k f;
  finish = λ y f. ([], y, f, λ z. conjoined_end);
  extend = λ y. ([], y, λ z. conjoined_end);
}
  where
    first_stops : {a x : Exp} {ts rest : List Lexeme} → Conjoined a [] ts x rest → Stops 9 x (next_of rest) → Stops 8 a (next_of ts)
    first_stops conjoined_end s = (omega (arith, s.0), s.1)
    first_stops {a} (conjoined_more {l = l} q k) s = (omega arith, apart_of (ends_in_text a) l (word And) (omega arith))

    out : {ts rest : List Lexeme} {x : Exp} → Conjunction ts x rest → Stops 9 x (next_of rest) → (y : Exp) × (mid : List Lexeme) × Negation ts y mid × Stops 8 y (next_of mid) × Conjoined y [] mid x rest
    out (conjunction q k) s = (_, _, q, first_stops k s, k)

-- `or`
module _ (d : ℕ) (a : Exp) where
  disjunction_shrinks : (es : List Exp) {x : Exp} {ts rest : List Lexeme} → Disjoined a es ts x rest → Fits d x → Fits d (disjoined a es)
  disjunction_shrinks es disjoined_end f = f
  disjunction_shrinks es (disjoined_more {b = b} q k) f = joined_shrinks S.or (λ l b es. refl) (λ l b es. refl) (λ l b es. refl) d a es b (disjunction_shrinks (es ++ (b ∷ [])) k f)

  pub disjunctions : Repeats (a_disjunction d) (Disjoined a) (IsSign (word Or)) (λ t. a_conjunction (d - 1)) one_more (disjoined a)
  disjunctions = record {
    done = λ s ts. disjoined_end;
    step = λ s t ts mid rest b x j q k. step j q k;
    out = λ s ts x rest k. out k;
    ends = λ x t s j. ends x j s;
    stays = λ s t b o g. (omega (arith, g.0), subst (λ v. Apart v o) (joined_ends S.or (λ l b es. refl) (λ l b es. refl) (λ l b es. refl) a s b) g.1);
    goes = λ t b u j. goes b j;
    shrinks = λ s ts x rest k f. disjunction_shrinks s k f;
    part = λ s t b f. joined_part S.or (λ l b es. refl) (λ l b es. refl) (λ l b es. refl) d a s b f;
    far = λ t j. (some_name ∷ [], some_exp, λ z. name_conjunction);
  }
    where
      step : {s : List Exp} {b x : Exp} {t : Lexeme} {ts mid rest : List Lexeme} → IsSign (word Or) t → Conjunction ts b mid → Disjoined a (s ++ (b ∷ [])) mid x rest → Disjoined a s (t ∷ ts) x rest
      step is_sign q k = disjoined_more q k

      out : {s : List Exp} {x : Exp} {ts rest : List Lexeme} → Disjoined a s ts x rest → Out (a_disjunction d) (Disjoined a) (IsSign (word Or)) (λ t. a_conjunction (d - 1)) one_more (disjoined a) s ts x rest
      out disjoined_end = at_end
      out (disjoined_more q k) = at_step is_sign q k

      ends : (x : Exp) {t : Lexeme} → IsSign (word Or) t → Stops 10 x (Some t) → ⊥
      ends x is_sign s = omega (arith, s.0)

      goes : (b : Exp) {u : Lexeme} → IsSign (word Or) u → Stops 9 b (Some u)
      goes b (is_sign {l = l}) = (omega arith, apart_of (ends_in_text b) l (word Or) (omega arith))

  pub disjunctions_shift : (es : List Exp) (l : ℕ) → Shifts (sign l (word Or)) (left (a_disjunction d) (Right (a_disjunction d) (Disjoined a) (IsSign (word Or)) (λ t. a_conjunction (d - 1)) one_more (disjoined a) es (sign l (word Or)))) (left (a_disjunction d) (Disjoined a es))
  disjunctions_shift es l = loop_shifts (a_disjunction d) (Disjoined a) (IsSign (word Or)) (λ t. a_conjunction (d - 1)) one_more (disjoined a) disjunctions es (sign l (word Or)) is_sign

  pub disjunctions_bind : (es : List Exp) (l : ℕ) → depth_exp a < d → Fits d (disjoined a es)
      → Binds (a_conjunction (d - 1)) (λ e. Disjoined a (es ++ (e ∷ []))) (left (a_disjunction d) (Right (a_disjunction d) (Disjoined a) (IsSign (word Or)) (λ t. a_conjunction (d - 1)) one_more (disjoined a) es (sign l (word Or))))
  disjunctions_bind es l h f = loop_binds (a_disjunction d) (Disjoined a) (IsSign (word Or)) (λ t. a_conjunction (d - 1)) one_more (disjoined a) disjunctions es (sign l (word Or)) (λ e g. joined_grows S.or (λ l b es. refl) (λ l b es. refl) (λ l b es. refl) d a es e h f g)

  pub disjunctions_found : (es : List Exp) (ts : List Lexeme) → sign_at (next_of ts) ≢ Some (word Or) → Stops 9 (disjoined a es) (next_of ts) → Fits d (disjoined a es)
      → Found (left (a_disjunction d) (Disjoined a es)) ts (disjoined a es) ts
  disjunctions_found es ts n s f = loop_found (a_disjunction d) (Disjoined a) (IsSign (word Or)) (λ t. a_conjunction (d - 1)) one_more (disjoined a) disjunctions es ts (λ t e j. not_signed (next_of ts) n t e j)
      (no_rank 10 (omega arith) (next_of ts) (omega (arith, s.0)) (λ t e k. n (e ∙ ap (λ u. Some u) (only_or t k))), s.1) f

  pub disjunctions_over : (es : List Exp) (ts : List Lexeme) (l : ℕ) → next_of ts ≡ Some (sign l (word Or)) → Fits d (disjoined a es) → d ≤ depth_exp a → Refused (left (a_disjunction d) (Disjoined a es)) true ts ts
  disjunctions_over es ts l e f g = loop_over (a_disjunction d) (Disjoined a) (IsSign (word Or)) (λ t. a_conjunction (d - 1)) one_more (disjoined a) disjunctions es (sign l (word Or)) ts e is_sign f (λ b k. joined_deep S.or (λ l b es. refl) (λ l b es. refl) (λ l b es. refl) d a es b g k)

pub disjunctions_stop : (a : Exp) (es : List Exp) (e : Exp) (o : Option Lexeme) → Stops 9 e o → Stops 9 (disjoined a (es ++ (e ∷ []))) o
disjunctions_stop a es e o s = (s.0, subst (λ v. Apart v o) (sym (joined_ends S.or (λ l b es. refl) (λ l b es. refl) (λ l b es. refl) a es e)) s.1)

pub disjunction_binds : (d : ℕ) → Binds (a_conjunction d) (λ a. Disjoined a []) (a_disjunction d)
disjunction_binds d = record {
  intro = λ ts y mid x rest q k. disjunction q k;
  inv = λ ts x rest k s. out k s;
  down = λ y mid x rest k f. disjunction_shrinks d y [] k f;
  finish = λ y f. ([], y, f, λ z. disjoined_end);
  extend = λ y. ([], y, λ z. disjoined_end);
}
  where
    first_stops : {a x : Exp} {ts rest : List Lexeme} → Disjoined a [] ts x rest → Stops 10 x (next_of rest) → Stops 9 a (next_of ts)
    first_stops disjoined_end s = (omega (arith, s.0), s.1)
    first_stops {a} (disjoined_more {l = l} q k) s = (omega arith, apart_of (ends_in_text a) l (word Or) (omega arith))

    out : {ts rest : List Lexeme} {x : Exp} → Disjunction ts x rest → Stops 10 x (next_of rest) → (y : Exp) × (mid : List Lexeme) × Conjunction ts y mid × Stops 9 y (next_of mid) × Disjoined y [] mid x rest
    out (disjunction q k) s = (_, _, q, first_stops k s, k)
