-- Clauses of comprehensions.
use Rattle.std.proofs.Common.{◌≡◌, ◌≢◌, ℕ, ◌<◌, max, Bool, true, false, List, [], ◌∷◌, ◌++◌, Option, Some, refl, sym, ◌∙◌, arith}
use Rattle.pt_wide.specs.Syntax.{Exp}
use Rattle.pt_wide.specs.Measure.{width_clauses}
use Rattle.pt_readers.specs.Reading.{next_of, Part, Found, Refused}
use Rattle.pt_readers.proofs.Readers.{Binds, Shifts, Just, left}
use Rattle.pt_readers.proofs.Pieces.{Through, through, Made, made, made_binds}
use Rattle.pt_readers.proofs.Loops.{Repeats, Out, at_end, at_step, Right, loop_shifts, loop_binds, loop_found, loop_bad}
use Rattle.pt_grammar.specs.declared.part.Part.TheVariants.{Target}
use Rattle.pt_grammar.specs.declared.sign.Sign.TheVariants.{Mark as mark, Word as word}
use Rattle.pt_grammar.specs.declared.sign.Mark.TheVariants.{Close, CloseBracket, CloseBrace}
use Rattle.pt_grammar.specs.declared.sign.Word.TheVariants.{In, If, For}
use Rattle.pt_grammar.specs.Lexemes.{Lexeme, sign, sign_at, line_of_lexeme}
use Rattle.pt_grammar.specs.Signs.{ends_items, ends_clause, ends_clauses}
use Rattle.pt_grammar.specs.Grammar.{Bare, alone, operand, Clause, clause, Conditions, no_condition, a_condition, Clauses, no_clause, more_clauses, Disjunction}
use Rattle.pt_grammar.specs.Nodes.{OneClause, a_clause_of, clauses_of}
use Rattle.pt_grammar.specs.Parts.{Fits, Stops, Apart, ends_in_text, a_bare, a_disjunction, FitsConditions, some_conditions, FitsClauses, a_clause, some_clauses}
use Rattle.pt_grammar.proofs.Depths.{depth_snoc}
use Rattle.pt_grammar.proofs.Displays.{depth_clauses_snoc}
use Rattle.pt_grammar.proofs.Ranks.{IsSign, is_sign, not_signed, apart_of}
use Rattle.pt_grammar.proofs.Atoms.{apart_mark}
use Rattle.pt_grammar.proofs.Chains.{width_snoc}
use Rattle.pt_grammar.proofs.Begins.{some_name, some_exp, name_binary, name_disjunction}

-- What may stand behind a clause goes on with nothing in it.
pub apart_word_for : (b : Bool) (l : ℕ) → Apart b (Some (sign l (word For)))
apart_word_for true l = tt
apart_word_for false l = tt

pub clause_stops : (next : Option Lexeme) → ends_clause next ≡ true → (e : Exp) → Stops 10 e next
clause_stops (Some (sign l (mark Close))) h e = (omega arith, apart_mark (ends_in_text e) l Close)
clause_stops (Some (sign l (mark CloseBracket))) h e = (omega arith, apart_mark (ends_in_text e) l CloseBracket)
clause_stops (Some (sign l (mark CloseBrace))) h e = (omega arith, apart_mark (ends_in_text e) l CloseBrace)
clause_stops (Some (sign l (word For))) h e = (omega arith, apart_word_for (ends_in_text e) l)
clause_stops _ h e = cc

pub clauses_stop : (next : Option Lexeme) → ends_clauses next ≡ true → ends_clause next ≡ true
clauses_stop (Some (sign l (mark Close))) h = refl
clauses_stop (Some (sign l (mark CloseBracket))) h = refl
clauses_stop (Some (sign l (mark CloseBrace))) h = refl
clauses_stop _ h = cc

-- conditions
abbrev pub condition_more : List Exp → Lexeme → Exp → List Exp
condition_more es t e = es ++ (e ∷ [])

abbrev pub those : List Exp → List Exp
those es = es

pub conditions_grow : (d : ℕ) (es : List Exp) (e : Exp) → FitsConditions d es → Fits d e → FitsConditions d (es ++ (e ∷ []))
conditions_grow d es e f g = (omega (arith, f.0, g.0, depth_snoc es e), omega (arith, f.1, g.1, width_snoc es e))

conditions_shrink : (d : ℕ) (es : List Exp) (e : Exp) → FitsConditions d (es ++ (e ∷ [])) → FitsConditions d es
conditions_shrink d es e f = (omega (arith, f.0, depth_snoc es e), omega (arith, f.1, width_snoc es e))

conditions_part : (d : ℕ) (es : List Exp) (e : Exp) → FitsConditions d (es ++ (e ∷ [])) → Fits d e
conditions_part d es e f = (omega (arith, f.0, depth_snoc es e), omega (arith, f.1, width_snoc es e))

module _ (d : ℕ) where
  conditions_within : (es : List Exp) {all : List Exp} {ts rest : List Lexeme} → Conditions es ts all rest → FitsConditions d all → FitsConditions d es
  conditions_within es no_condition f = f
  conditions_within es (a_condition {e = e} q k) f = conditions_shrink d es e (conditions_within (es ++ (e ∷ [])) k f)

  pub conditions : Repeats (some_conditions d) Conditions (IsSign (word If)) (λ t. a_disjunction d) condition_more those
  conditions = record {
    done = λ s ts. no_condition;
    step = λ s t ts mid rest b x j q k. step j q k;
    out = λ s ts x rest k. out k;
    ends = λ x t n j. ends n j;
    stays = λ s t b o n. clause_stops o n b;
    goes = λ t b u j. goes b j;
    shrinks = λ s ts x rest k f. conditions_within s k f;
    part = λ s t b f. conditions_part d s b f;
    far = λ t j. (some_name ∷ [], some_exp, λ z. name_disjunction);
  }
    where
      step : {s : List Exp} {b : Exp} {x : List Exp} {t : Lexeme} {ts mid rest : List Lexeme} → IsSign (word If) t → Disjunction ts b mid → Conditions (s ++ (b ∷ [])) mid x rest → Conditions s (t ∷ ts) x rest
      step is_sign q k = a_condition q k

      out : {s x : List Exp} {ts rest : List Lexeme} → Conditions s ts x rest → Out (some_conditions d) Conditions (IsSign (word If)) (λ t. a_disjunction d) condition_more those s ts x rest
      out no_condition = at_end
      out (a_condition q k) = at_step is_sign q k

      ends : {t : Lexeme} → ends_clause (Some t) ≡ true → IsSign (word If) t → ⊥
      ends n is_sign = cc

      goes : (b : Exp) {u : Lexeme} → IsSign (word If) u → Stops 10 b (Some u)
      goes b (is_sign {l = l}) = (omega arith, apart_of (ends_in_text b) l (word If) (omega arith))

  pub conditions_shift : (es : List Exp) (l : ℕ) → Shifts (sign l (word If)) (left (some_conditions d) (Right (some_conditions d) Conditions (IsSign (word If)) (λ t. a_disjunction d) condition_more those es (sign l (word If)))) (left (some_conditions d) (Conditions es))
  conditions_shift es l = loop_shifts (some_conditions d) Conditions (IsSign (word If)) (λ t. a_disjunction d) condition_more those conditions es (sign l (word If)) is_sign

  pub conditions_bind : (es : List Exp) (l : ℕ) → FitsConditions d es
      → Binds (a_disjunction d) (λ e. Conditions (es ++ (e ∷ []))) (left (some_conditions d) (Right (some_conditions d) Conditions (IsSign (word If)) (λ t. a_disjunction d) condition_more those es (sign l (word If))))
  conditions_bind es l f = loop_binds (some_conditions d) Conditions (IsSign (word If)) (λ t. a_disjunction d) condition_more those conditions es (sign l (word If)) (λ e g. conditions_grow d es e f g)

  pub conditions_found : (es : List Exp) (ts : List Lexeme) → sign_at (next_of ts) ≢ Some (word If) → ends_clause (next_of ts) ≡ true → FitsConditions d es → Found (left (some_conditions d) (Conditions es)) ts es ts
  conditions_found es ts n s f = loop_found (some_conditions d) Conditions (IsSign (word If)) (λ t. a_disjunction d) condition_more those conditions es ts (not_signed (next_of ts) n) s f

  pub conditions_bad : (es : List Exp) (ts : List Lexeme) → sign_at (next_of ts) ≢ Some (word If) → ends_clause (next_of ts) ≡ false → FitsConditions d es → Refused (left (some_conditions d) (Conditions es)) false ts ts
  conditions_bad es ts n s f = loop_bad (some_conditions d) Conditions (IsSign (word If)) (λ t. a_disjunction d) condition_more those conditions es ts (not_signed (next_of ts) n) (λ m. let h = sym m ∙ s in cc) (λ m. cc) f

-- a clause: its target, "in" and what it goes over, and conditions
pub data Iterating (l : ℕ) (t : Exp) : List Lexeme → OneClause → List Lexeme → Type 0 where
  iterating : {ts mid rest : List Lexeme} {i : Exp} {cs : List Exp} → Disjunction ts i mid → Conditions [] mid cs rest → Iterating l t ts (a_clause_of l t i cs) rest

pub clause_fits : (d l : ℕ) (t i : Exp) (cs : List Exp) → Fits d t → Fits d i → FitsConditions d cs → FitsClauses d (a_clause_of l t i cs ∷ [])
clause_fits d l t i cs f g h = (omega (arith, f.0, g.0, h.0), omega (arith, f.1, g.1, h.1))

module _ (d l : ℕ) where
  pub target_binds : 0 < d → Binds (a_bare Target d) (λ t. Through (IsSign (word In)) (Iterating l t)) (a_clause l d)
  target_binds h = record {
    intro = λ ts y mid x rest q k. into q k;
    inv = λ ts x rest k n. out k;
    down = λ y mid x rest k f. part k f;
    finish = λ y f. (sign 0 (word In) ∷ (some_name ∷ []), a_clause_of l y some_exp [], clause_fits d l y some_exp [] f (omega arith, omega arith) (omega arith, omega arith), λ z. through is_sign (iterating name_disjunction no_condition));
    extend = λ y. (sign 0 (word In) ∷ (some_name ∷ []), a_clause_of l y some_exp [], λ z. through is_sign (iterating name_disjunction no_condition));
  }
    where
      into : {ts mid rest : List Lexeme} {y : Exp} {x : OneClause} → Bare Target ts y mid → Through (IsSign (word In)) (Iterating l y) mid x rest → Clause l ts x rest
      into q (through is_sign (iterating k c)) = clause q k c

      out : {ts rest : List Lexeme} {x : OneClause} → Clause l ts x rest
          → (y : Exp) × (mid : List Lexeme) × Bare Target ts y mid × (ends_items Target (next_of mid) ≡ true) × Through (IsSign (word In)) (Iterating l y) mid x rest
      out (clause q k c) = (_, _, q, refl, through is_sign (iterating k c))

      part : {mid rest : List Lexeme} {y : Exp} {x : OneClause} → Through (IsSign (word In)) (Iterating l y) mid x rest → FitsClauses d (x ∷ []) → Fits d y
      part (through is_sign (iterating k c)) f = (omega (arith, f.0), omega (arith, f.1))

  pub iterable_binds : (t : Exp) → Fits d t → Binds (a_disjunction d) (λ i. Made (some_conditions d) (a_clause_of l t i)) (left (a_clause l d) (Iterating l t))
  iterable_binds t g = record {
    intro = λ ts y mid x rest q k. into q k;
    inv = λ ts x rest k n. out k n;
    down = λ y mid x rest k f. part k f;
    finish = λ y f. ([], a_clause_of l t y [], clause_fits d l t y [] g f (omega arith, omega arith), λ z. made no_condition);
    extend = λ y. ([], a_clause_of l t y [], λ z. made no_condition);
  }
    where
      into : {ts mid rest : List Lexeme} {y : Exp} {x : OneClause} → Disjunction ts y mid → Made (some_conditions d) (a_clause_of l t y) mid x rest → Iterating l t ts x rest
      into q (made k) = iterating q k

      behind_iterable : {es all : List Exp} {mid rest : List Lexeme} (y : Exp) → Conditions es mid all rest → ends_clause (next_of rest) ≡ true → Stops 10 y (next_of mid)
      behind_iterable {rest = rest} y no_condition n = clause_stops (next_of rest) n y
      behind_iterable y (a_condition {l = m} q k) n = (omega arith, apart_of (ends_in_text y) m (word If) (omega arith))

      out : {ts rest : List Lexeme} {x : OneClause} → Iterating l t ts x rest → ends_clause (next_of rest) ≡ true
          → (y : Exp) × (mid : List Lexeme) × Disjunction ts y mid × Stops 10 y (next_of mid) × Made (some_conditions d) (a_clause_of l t y) mid x rest
      out (iterating {i = i} q k) n = (_, _, q, behind_iterable i k n, made k)

      part : {mid rest : List Lexeme} {y : Exp} {x : OneClause} → Made (some_conditions d) (a_clause_of l t y) mid x rest → FitsClauses d (x ∷ []) → Fits d y
      part (made k) f = (omega (arith, f.0), omega (arith, f.1))

  pub conditions_made : (t i : Exp) → Fits d t → Fits d i → Binds (some_conditions d) (λ cs. Just (a_clause_of l t i cs)) (left (a_clause l d) (Made (some_conditions d) (a_clause_of l t i)))
  conditions_made t i f g = made_binds (a_clause l d) (some_conditions d) (a_clause_of l t i) (λ b o s. s) (λ b h. (omega (arith, h.0), omega (arith, h.1))) (λ b h. clause_fits d l t i b f g h)

-- clauses
abbrev pub clause_more : List OneClause → Lexeme → OneClause → List OneClause
clause_more cs t c = cs ++ (c ∷ [])

abbrev pub these : List OneClause → List OneClause
these cs = cs

abbrev pub clause_at : ℕ → Lexeme → Part Lexeme OneClause
clause_at d t = a_clause (line_of_lexeme t) d

width_clauses_snoc : (cs : List OneClause) (c : OneClause) → width_clauses (clauses_of (cs ++ (c ∷ []))) ≡ max (width_clauses (clauses_of cs)) (width_clauses (clauses_of (c ∷ [])))
width_clauses_snoc [] c = omega arith
width_clauses_snoc (d ∷ cs) c = omega (arith, width_clauses_snoc cs c)

pub clauses_grow : (d : ℕ) (cs : List OneClause) (c : OneClause) → FitsClauses d cs → FitsClauses d (c ∷ []) → FitsClauses d (cs ++ (c ∷ []))
clauses_grow d cs c f g = (omega (arith, f.0, g.0, depth_clauses_snoc cs c), omega (arith, f.1, g.1, width_clauses_snoc cs c))

clauses_shrink : (d : ℕ) (cs : List OneClause) (c : OneClause) → FitsClauses d (cs ++ (c ∷ [])) → FitsClauses d cs
clauses_shrink d cs c f = (omega (arith, f.0, depth_clauses_snoc cs c), omega (arith, f.1, width_clauses_snoc cs c))

clauses_part : (d : ℕ) (cs : List OneClause) (c : OneClause) → FitsClauses d (cs ++ (c ∷ [])) → FitsClauses d (c ∷ [])
clauses_part d cs c f = (omega (arith, f.0, depth_clauses_snoc cs c), omega (arith, f.1, width_clauses_snoc cs c))

-- the shortest clause
pub name_clause : (l : ℕ) {z : List Lexeme} → Clause l (some_name ∷ (sign 0 (word In) ∷ (some_name ∷ z))) (a_clause_of l some_exp some_exp []) z
name_clause l = clause (alone (operand (name_binary 6))) name_disjunction no_condition

module _ (d : ℕ) where
  clauses_within : (cs : List OneClause) {all : List OneClause} {ts rest : List Lexeme} → Clauses cs ts all rest → FitsClauses d all → FitsClauses d cs
  clauses_within cs no_clause f = f
  clauses_within cs (more_clauses {c = c} q k) f = clauses_shrink d cs c (clauses_within (cs ++ (c ∷ [])) k f)

  pub all_clauses : Repeats (some_clauses d) Clauses (IsSign (word For)) (clause_at d) clause_more these
  all_clauses = record {
    done = λ s ts. no_clause;
    step = λ s t ts mid rest b x j q k. step j q k;
    out = λ s ts x rest k. out k;
    ends = λ x t n j. ends n j;
    stays = λ s t b o n. clauses_stop o n;
    goes = λ t b u j. goes j;
    shrinks = λ s ts x rest k f. clauses_within s k f;
    part = λ s t b f. clauses_part d s b f;
    far = λ t j. (some_name ∷ (sign 0 (word In) ∷ (some_name ∷ [])), a_clause_of (line_of_lexeme t) some_exp some_exp [], λ z. name_clause (line_of_lexeme t));
  }
    where
      step : {s : List OneClause} {b : OneClause} {x : List OneClause} {t : Lexeme} {ts mid rest : List Lexeme} → IsSign (word For) t → Clause (line_of_lexeme t) ts b mid → Clauses (s ++ (b ∷ [])) mid x rest → Clauses s (t ∷ ts) x rest
      step is_sign q k = more_clauses q k

      out : {s x : List OneClause} {ts rest : List Lexeme} → Clauses s ts x rest → Out (some_clauses d) Clauses (IsSign (word For)) (clause_at d) clause_more these s ts x rest
      out no_clause = at_end
      out (more_clauses q k) = at_step is_sign q k

      ends : {t : Lexeme} → ends_clauses (Some t) ≡ true → IsSign (word For) t → ⊥
      ends n is_sign = cc

      goes : {u : Lexeme} → IsSign (word For) u → ends_clause (Some u) ≡ true
      goes is_sign = refl

  pub clauses_shift : (cs : List OneClause) (l : ℕ) → Shifts (sign l (word For)) (left (some_clauses d) (Right (some_clauses d) Clauses (IsSign (word For)) (clause_at d) clause_more these cs (sign l (word For)))) (left (some_clauses d) (Clauses cs))
  clauses_shift cs l = loop_shifts (some_clauses d) Clauses (IsSign (word For)) (clause_at d) clause_more these all_clauses cs (sign l (word For)) is_sign

  pub clauses_bind : (cs : List OneClause) (l : ℕ) → FitsClauses d cs
      → Binds (a_clause l d) (λ c. Clauses (cs ++ (c ∷ []))) (left (some_clauses d) (Right (some_clauses d) Clauses (IsSign (word For)) (clause_at d) clause_more these cs (sign l (word For))))
  clauses_bind cs l f = loop_binds (some_clauses d) Clauses (IsSign (word For)) (clause_at d) clause_more these all_clauses cs (sign l (word For)) (λ c g. clauses_grow d cs c f g)

  pub clauses_found : (cs : List OneClause) (ts : List Lexeme) → sign_at (next_of ts) ≢ Some (word For) → ends_clauses (next_of ts) ≡ true → FitsClauses d cs → Found (left (some_clauses d) (Clauses cs)) ts cs ts
  clauses_found cs ts n s f = loop_found (some_clauses d) Clauses (IsSign (word For)) (clause_at d) clause_more these all_clauses cs ts (not_signed (next_of ts) n) s f

  pub clauses_bad : (cs : List OneClause) (ts : List Lexeme) → sign_at (next_of ts) ≢ Some (word For) → ends_clauses (next_of ts) ≡ false → FitsClauses d cs → Refused (left (some_clauses d) (Clauses cs)) false ts ts
  clauses_bad cs ts n s f = loop_bad (some_clauses d) Clauses (IsSign (word For)) (clause_at d) clause_more these all_clauses cs ts (not_signed (next_of ts) n) (λ m. let h = sym m ∙ s in cc) (λ m. cc) f
