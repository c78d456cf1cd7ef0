-- How what is left of a compound statement goes on.
use Rattle.std.proofs.Common.{◌≡◌, ◌≢◌, ℕ, List, [], ◌∷◌, ◌++◌, Option, Some, None, Bool, true, false, ◌⊎◌, inl, inr, refl, sym, ◌∙◌, ap, subst, arith}
use Rattle.pt_wide.specs.Syntax as S
use Rattle.pt_wide.specs.Syntax.{Exp, Stm, Stms, Branches}
use Rattle.pt_wide.specs.StatementFold.{stms_from}
use Rattle.pt_readers.specs.Reading.{next_of, behind, Part, Alike, Found, Refused, Carries, Within}
use Rattle.pt_readers.proofs.Readers.{Binds, Shifts, Narrows, left, narrow_carries, then_on}
use Rattle.pt_grammar.specs.declared.sign.Sign.{Sign}
use Rattle.pt_grammar.specs.declared.sign.Sign.TheVariants.{Mark as mark, Word as word, Keyword as keyword}
use Rattle.pt_grammar.specs.declared.sign.Mark.TheVariants.{Colon}
use Rattle.pt_grammar.specs.declared.sign.Word.TheVariants.{Else, If, For, In}
use Rattle.pt_grammar.specs.declared.sign.Keyword.TheVariants.{Class, Def, Elif, Try, While, With}
use Rattle.pt_grammar.specs.Lexemes.{Lexeme, sign, sign_at}
use Rattle.pt_parser.specs.Forms.{Reads, Is, is, Then, The, the, a_sign}
use Rattle.pt_parser.specs.Simple.{an_expression, expressions, places}
use Rattle.pt_parser.specs.Grammar.{OneBranch, branches_of, Block, Afterwards, nothing_after, block_after, Otherwise, Suite, Chosen, chosen, Alternative, elif, otherwise, Compound, if_so, while_so, for_each, Repetition, Iteration}
use Rattle.pt_parser.specs.Headings.{at_sign}
use Rattle.pt_parser.specs.Limits.{FitsExp, FitsStm, FitsStms, FitsBranches}
use Rattle.pt_parser.specs.Parts.{IsClause, Clear, BeginsCompound, Each, FitsBlock, FitsBranch, a_compound, an_otherwise, a_suite}
use Rattle.pt_parser.specs.Views.{branch_parts}
use Rattle.pt_parser.proofs.Tokens.{not_sign}
use Rattle.pt_parser.proofs.Chains.{Ready, ready_is, ready_then, Follows, chain, within_all, within_one, within_two, within_three}
use Rattle.pt_grammar.specs.declared.part.Part.TheVariants.{Whole}
use Rattle.pt_grammar.specs.Signs.{ends_items}
use Rattle.pt_parser.proofs.Follow.{Follow, follow_at, items_at, expr_follow, expressions_ready}
use Rattle.pt_parser.proofs.UpTo.{each_before, each_behind, each_snoc}
use Rattle.pt_parser.proofs.BlockLemmas.{suite_ready, suite_next, otherwise_ready}

suite_follow : {ss : List Stm} {ts rest : List Lexeme} → Suite ts ss rest → Follow (next_of ts)
suite_follow q = follow_at _ (suite_next q) tt

suite_items : {ss : List Stm} {ts rest : List Lexeme} → Suite ts ss rest → ends_items Whole (next_of ts) ≡ true
suite_items q = items_at Whole _ (suite_next q) refl

-- behind "while"
abbrev pub WhileBody : ℕ → Exp → Reads Stm
WhileBody l c = Then Suite (λ body. Then Otherwise (λ els. Is (S.while l c (stms_from body) (stms_from els))))

abbrev pub WhileElse : ℕ → Exp → List Stm → Reads Stm
WhileElse l c body = Then Otherwise (λ els. Is (S.while l c (stms_from body) (stms_from els)))

pub while_shifts : (l : ℕ) → Shifts (sign l (keyword While)) (left a_compound (Repetition l)) a_compound
while_shifts l = record { intro = λ ts s rest k. into k; inv = λ ts s rest k n. (out k, n); stop = λ s o n. n; up = λ s f. f; down = λ s f. f }
  where
    into : {ts rest : List Lexeme} {s : Stm} → Repetition l ts s rest → Compound (sign l (keyword While) ∷ ts) s rest
    into {ts = ts} (c, m1, q, (body, m2, (k, m3, the e, b), (els, m4, o, is))) = while_so (subst (λ t. an_expression.reads ts c (sign k t ∷ m3)) e q) b o

    out : {ts rest : List Lexeme} {s : Stm} → Compound (sign l (keyword While) ∷ ts) s rest → Repetition l ts s rest
    out (while_so q b o) = (_, _, q, (_, _, (_, _, the refl, b), (_, _, o, is)))

while_last : (over : Bool) (l : ℕ) (c : Exp) (body : List Stm) → Within FitsExp over c → Within FitsBlock over body → Ready FitsStm over (WhileElse l c body)
while_last over l c body f g = ready_then FitsStm over an_otherwise (λ els. Is (S.while l c (stms_from body) (stms_from els))) (otherwise_ready over)
    (λ els h. ready_is FitsStm over _ (within_three FitsExp FitsBlock FitsBlock FitsStm over c body els (S.while l c (stms_from body) (stms_from els)) (λ f g h. (f, g, h)) f g h))

pub while_test : (l : ℕ) → Binds an_expression (WhileBody l) (left a_compound (Repetition l))
while_test l = chain a_compound an_expression (WhileBody l) record {
  apart = λ c mid s rest k n. expr_follow c _ (suite_follow k.2);
  down = λ c mid s rest k f. down k f;
  ready = λ over c f. ready_then FitsStm over a_suite (WhileElse l c) (suite_ready over) (λ body g. while_last over l c body f g);
}
  where
    down : {c : Exp} {mid rest : List Lexeme} {s : Stm} → WhileBody l c mid s rest → FitsStm s → FitsExp c
    down (body, m2, b, (els, m4, o, is)) f = f.0

pub while_body : (l : ℕ) (c : Exp) → FitsExp c → Binds a_suite (WhileElse l c) (left a_compound (WhileBody l c))
while_body l c f = chain a_compound a_suite (WhileElse l c) record {
  apart = λ body mid s rest k n. tt;
  down = λ body mid s rest k g. down body k g;
  ready = λ over body g. while_last over l c body (within_all FitsExp over c f) g;
}
  where
    down : (body : List Stm) {mid rest : List Lexeme} {s : Stm} → WhileElse l c body mid s rest → FitsStm s → FitsBlock body
    down body (els, m4, o, is) g = g.1

pub while_else : (l : ℕ) (c : Exp) (body : List Stm) → FitsExp c → FitsBlock body → Binds an_otherwise (λ els. Is (S.while l c (stms_from body) (stms_from els))) (left a_compound (WhileElse l c body))
while_else l c body f g = chain a_compound an_otherwise (λ els. Is (S.while l c (stms_from body) (stms_from els))) record {
  apart = λ els mid s rest k n. apart els k n;
  down = λ els mid s rest k h. down els k h;
  ready = λ over els h. ready_is FitsStm over _ (within_one FitsBlock FitsStm over els (S.while l c (stms_from body) (stms_from els)) (λ h. (f, g, h)) h);
}
  where
    apart : (els : List Stm) {mid rest : List Lexeme} {s : Stm} → Is (S.while l c (stms_from body) (stms_from els)) mid s rest → Clear (next_of rest) → Clear (next_of mid)
    apart els is n = n

    down : (els : List Stm) {mid rest : List Lexeme} {s : Stm} → Is (S.while l c (stms_from body) (stms_from els)) mid s rest → FitsStm s → FitsBlock els
    down els is h = h.2

-- behind "for"
abbrev pub ForElse : ℕ → Exp → Exp → List Stm → Reads Stm
ForElse l t e body = Then Otherwise (λ els. Is (S.for l t e (stms_from body) (stms_from els)))

abbrev pub ForBody : ℕ → Exp → Exp → Reads Stm
ForBody l t e = Then Suite (ForElse l t e)

abbrev pub ForOver : ℕ → Exp → Reads Stm
ForOver l t = Then expressions.reads (ForBody l t)

abbrev pub ForIn : ℕ → Exp → Reads Stm
ForIn l t = Then (The (word In)) (λ k. ForOver l t)

pub for_shifts : (l : ℕ) → Shifts (sign l (word For)) (left a_compound (Iteration l)) a_compound
for_shifts l = record { intro = λ ts s rest k. into k; inv = λ ts s rest k n. (out k, n); stop = λ s o n. n; up = λ s f. f; down = λ s f. f }
  where
    into : {ts rest : List Lexeme} {s : Stm} → Iteration l ts s rest → Compound (sign l (word For) ∷ ts) s rest
    into {ts = ts} (t, m1, q, (j, us, the d, (e, m5, p, (body, m2, (k, m3, the h, b), (els, m4, o, is))))) =
        for_each (subst (λ u. places.reads ts t (sign j u ∷ us)) d q) (subst (λ u. expressions.reads us e (sign k u ∷ m3)) h p) b o

    out : {ts rest : List Lexeme} {s : Stm} → Compound (sign l (word For) ∷ ts) s rest → Iteration l ts s rest
    out (for_each q p b o) = (_, _, q, (_, _, the refl, (_, _, p, (_, _, (_, _, the refl, b), (_, _, o, is)))))

within_four : {A B D E C : Type 0} (F : A → Type 0) (H : B → Type 0) (J : D → Type 0) (M : E → Type 0) (G : C → Type 0) (over : Bool) (x : A) (y : B) (w : D) (v : E) (z : C)
    → (F x → H y → J w → M v → G z) → Within F over x → Within H over y → Within J over w → Within M over v → Within G over z
within_four F H J M G true x y w v z k f h j m = k f h j m
within_four F H J M G false x y w v z k f h j m = tt

for_last : (over : Bool) (l : ℕ) (t e : Exp) (body : List Stm) → Within FitsExp over t → Within FitsExp over e → Within FitsBlock over body → Ready FitsStm over (ForElse l t e body)
for_last over l t e body f g h = ready_then FitsStm over an_otherwise (λ els. Is (S.for l t e (stms_from body) (stms_from els))) (otherwise_ready over)
    (λ els i. ready_is FitsStm over _ (within_four FitsExp FitsExp FitsBlock FitsBlock FitsStm over t e body els (S.for l t e (stms_from body) (stms_from els)) (λ f g h i. (f, g, h, i)) f g h i))

for_rest : (over : Bool) (l : ℕ) (t : Exp) → Within FitsExp over t → Ready FitsStm over (ForOver l t)
for_rest over l t f = ready_then FitsStm over expressions (ForBody l t) (expressions_ready over)
    (λ e g. ready_then FitsStm over a_suite (ForElse l t e) (suite_ready over) (λ body h. for_last over l t e body f g h))

pub for_target : (l : ℕ) → Binds places (ForIn l) (left a_compound (Iteration l))
for_target l = chain a_compound places (ForIn l) record {
  apart = λ t mid s rest k n. apart t k.2;
  down = λ t mid s rest k f. down k f;
  ready = λ over t f. ready_then FitsStm over (a_sign (word In)) (λ k. ForOver l t)
      record { word = sign 0 (word In) ∷ []; done = 0; fits = within_all (a_sign (word In)).fits over 0 tt; reads = λ z. the refl } (λ k g. for_rest over l t f);
}
  where
    apart : (t : Exp) {k : ℕ} {mid rest : List Lexeme} → The (word In) mid k rest → places.stops t (next_of mid)
    apart t (the {l = k} e) = subst (λ u. places.stops t (Some (sign k u))) (sym e) refl

    down : {t : Exp} {mid rest : List Lexeme} {s : Stm} → ForIn l t mid s rest → FitsStm s → FitsExp t
    down (j, us, d, (e, m5, p, (body, m2, b, (els, m4, o, is)))) f = f.0

pub for_in : (l : ℕ) (t : Exp) → FitsExp t → Binds (a_sign (word In)) (λ k. ForOver l t) (left a_compound (ForIn l t))
for_in l t f = chain a_compound (a_sign (word In)) (λ k. ForOver l t) record {
  apart = λ k mid s rest q n. tt;
  down = λ k mid s rest q g. tt;
  ready = λ over k g. for_rest over l t (within_all FitsExp over t f);
}

pub for_over : (l : ℕ) (t : Exp) → FitsExp t → Binds expressions (ForBody l t) (left a_compound (ForOver l t))
for_over l t f = chain a_compound expressions (ForBody l t) record {
  apart = λ e mid s rest k n. suite_items k.2;
  down = λ e mid s rest k g. down k g;
  ready = λ over e g. ready_then FitsStm over a_suite (ForElse l t e) (suite_ready over) (λ body h. for_last over l t e body (within_all FitsExp over t f) g h);
}
  where
    down : {e : Exp} {mid rest : List Lexeme} {s : Stm} → ForBody l t e mid s rest → FitsStm s → FitsExp e
    down (body, m2, b, (els, m4, o, is)) g = g.1

pub for_body : (l : ℕ) (t e : Exp) → FitsExp t → FitsExp e → Binds a_suite (ForElse l t e) (left a_compound (ForBody l t e))
for_body l t e f g = chain a_compound a_suite (ForElse l t e) record {
  apart = λ body mid s rest k n. tt;
  down = λ body mid s rest k h. down body k h;
  ready = λ over body h. for_last over l t e body (within_all FitsExp over t f) (within_all FitsExp over e g) h;
}
  where
    down : (body : List Stm) {mid rest : List Lexeme} {s : Stm} → ForElse l t e body mid s rest → FitsStm s → FitsBlock body
    down body (els, m4, o, is) h = h.2

pub for_else : (l : ℕ) (t e : Exp) (body : List Stm) → FitsExp t → FitsExp e → FitsBlock body
    → Binds an_otherwise (λ els. Is (S.for l t e (stms_from body) (stms_from els))) (left a_compound (ForElse l t e body))
for_else l t e body f g h = chain a_compound an_otherwise (λ els. Is (S.for l t e (stms_from body) (stms_from els))) record {
  apart = λ els mid s rest k n. apart els k n;
  down = λ els mid s rest k i. down els k i;
  ready = λ over els i. ready_is FitsStm over _ (within_one FitsBlock FitsStm over els (S.for l t e (stms_from body) (stms_from els)) (λ i. (f, g, h, i)) i);
}
  where
    apart : (els : List Stm) {mid rest : List Lexeme} {s : Stm} → Is (S.for l t e (stms_from body) (stms_from els)) mid s rest → Clear (next_of rest) → Clear (next_of mid)
    apart els is n = n

    down : (els : List Stm) {mid rest : List Lexeme} {s : Stm} → Is (S.for l t e (stms_from body) (stms_from els)) mid s rest → FitsStm s → FitsBlock els
    down els is i = i.3

-- behind "if" and "elif"
pub each_branches : (bs : List OneBranch) → FitsBranches (branches_of bs) → Each FitsBranch bs
each_branches [] f = tt
each_branches (b ∷ bs) f = ((f.0, f.1), each_branches bs f.2)

pub branches_fit : (bs : List OneBranch) → Each FitsBranch bs → FitsBranches (branches_of bs)
branches_fit [] f = tt
branches_fit (b ∷ bs) f = (f.0.0, f.0.1, branches_fit bs f.1)

mutual
  chosen_keeps : {l m : ℕ} (bs : List OneBranch) {ts rest : List Lexeme} {s : Stm} → Chosen l m bs ts s rest → FitsStm s → Each FitsBranch bs
  chosen_keeps {m = m} bs (chosen {c = c} {body = body} q b a) f = each_before FitsBranch bs (branch_parts m c body ∷ []) (alternative_keeps (bs ++ (branch_parts m c body ∷ [])) a f)

  alternative_keeps : {l : ℕ} (bs : List OneBranch) {ts rest : List Lexeme} {s : Stm} → Alternative l bs ts s rest → FitsStm s → Each FitsBranch bs
  alternative_keeps bs (elif q) f = chosen_keeps bs q f
  alternative_keeps bs (otherwise o) f = each_branches bs f.0

abbrev pub Body : ℕ → ℕ → List OneBranch → Exp → Reads Stm
Body l m bs c = Then Suite (λ body. Alternative l (bs ++ (branch_parts m c body ∷ [])))

pub chosen_opens : (l m : ℕ) (bs : List OneBranch) (ts : List Lexeme) → Narrows ts (left a_compound (Then an_expression.reads (Body l m bs))) (left a_compound (Chosen l m bs))
chosen_opens l m bs ts = record { into = λ more s rest k. into k; out = λ more s rest a k n. (out k, n); stop = λ s o n. n; up = λ s f. f; down = λ s f. f }
  where
    into : {more rest : List Lexeme} {s : Stm} → Then an_expression.reads (Body l m bs) more s rest → Chosen l m bs more s rest
    into {more = more} (c, m1, q, (body, m2, (k, m3, the e, b), a)) = chosen (subst (λ t. an_expression.reads more c (sign k t ∷ m3)) e q) b a

    out : {more rest : List Lexeme} {s : Stm} → Chosen l m bs more s rest → Then an_expression.reads (Body l m bs) more s rest
    out (chosen q b a) = (_, _, q, (_, _, (_, _, the refl, b), a))

within_branches : (over : Bool) (l m : ℕ) (bs : List OneBranch) (c : Exp) (body : List Stm) → Each FitsBranch bs → Within FitsExp over c → Within FitsBlock over body
    → Within FitsStm over (S.choice l (branches_of (bs ++ (branch_parts m c body ∷ []))) S.none)
within_branches over l m bs c body f g h = within_two FitsExp FitsBlock FitsStm over c body (S.choice l (branches_of (bs ++ (branch_parts m c body ∷ []))) S.none)
    (λ g h. (branches_fit (bs ++ (branch_parts m c body ∷ [])) (each_snoc FitsBranch bs (branch_parts m c body) f (g, h)), tt)) g h

alternative_ready : (over : Bool) (l m : ℕ) (bs : List OneBranch) (c : Exp) (body : List Stm) → Each FitsBranch bs → Within FitsExp over c → Within FitsBlock over body
    → Ready FitsStm over (Alternative l (bs ++ (branch_parts m c body ∷ [])))
alternative_ready over l m bs c body f g h = record {
  word = [];
  done = S.choice l (branches_of (bs ++ (branch_parts m c body ∷ []))) S.none;
  fits = within_branches over l m bs c body f g h;
  reads = λ z. otherwise nothing_after;
}

pub choice_test : (l m : ℕ) (bs : List OneBranch) → Each FitsBranch bs → Binds an_expression (Body l m bs) (left a_compound (Then an_expression.reads (Body l m bs)))
choice_test l m bs f = chain a_compound an_expression (Body l m bs) record {
  apart = λ c mid s rest k n. expr_follow c _ (suite_follow k.2);
  down = λ c mid s rest k g. (each_behind FitsBranch bs (branch_parts m c k.0 ∷ []) (alternative_keeps (bs ++ (branch_parts m c k.0 ∷ [])) k.3 g)).0.0;
  ready = λ over c g. ready_then FitsStm over a_suite (λ body. Alternative l (bs ++ (branch_parts m c body ∷ []))) (suite_ready over) (λ body h. alternative_ready over l m bs c body f g h);
}

pub choice_body : (l m : ℕ) (bs : List OneBranch) (c : Exp) → Each FitsBranch bs → FitsExp c → Binds a_suite (λ body. Alternative l (bs ++ (branch_parts m c body ∷ []))) (left a_compound (Body l m bs c))
choice_body l m bs c f g = chain a_compound a_suite (λ body. Alternative l (bs ++ (branch_parts m c body ∷ []))) record {
  apart = λ body mid s rest k n. tt;
  down = λ body mid s rest k h. (each_behind FitsBranch bs (branch_parts m c body ∷ []) (alternative_keeps (bs ++ (branch_parts m c body ∷ [])) k h)).0.1;
  ready = λ over body h. alternative_ready over l m bs c body f (within_all FitsExp over c g) h;
}

pub elif_shifts : (l m : ℕ) (bs : List OneBranch) → Shifts (sign m (keyword Elif)) (left a_compound (Chosen l m bs)) (left a_compound (Alternative l bs))
elif_shifts l m bs = record { intro = λ ts s rest k. elif k; inv = λ ts s rest k n. (out k n, n); stop = λ s o n. n; up = λ s f. f; down = λ s f. f }
  where
    other : keyword Elif ≡ word Else → ⊥
    other e = cc

    no_other : {ts rest : List Lexeme} {els : List Stm} → Otherwise (sign m (keyword Elif) ∷ ts) els rest → Clear (next_of rest) → ⊥
    no_other nothing_after n = n (inr (inl refl))
    no_other (block_after e b) n = other e

    out : {ts rest : List Lexeme} {s : Stm} → Alternative l bs (sign m (keyword Elif) ∷ ts) s rest → Clear (next_of rest) → Chosen l m bs ts s rest
    out (elif k) n = k
    out (otherwise o) n = absurd (no_other o n)

abbrev pub Last : ℕ → List OneBranch → Reads Stm
Last l bs = Then Otherwise (λ els. Is (S.choice l (branches_of bs) (stms_from els)))

pub last_narrow : (l : ℕ) (bs : List OneBranch) (ts : List Lexeme) → sign_at (next_of ts) ≢ Some (keyword Elif) → Narrows ts (left a_compound (Last l bs)) (left a_compound (Alternative l bs))
last_narrow l bs ts n = record { into = λ more s rest k. into k; out = λ more s rest a k m. (out (not_sign ts a n) k, m); stop = λ s o m. m; up = λ s f. f; down = λ s f. f }
  where
    into : {more rest : List Lexeme} {s : Stm} → Last l bs more s rest → Alternative l bs more s rest
    into (els, mid, o, is) = otherwise o

    out : {more rest : List Lexeme} {s : Stm} → sign_at (next_of more) ≢ Some (keyword Elif) → Alternative l bs more s rest → Last l bs more s rest
    out m (elif k) = absurd (m refl)
    out m (otherwise o) = (_, _, o, is)

pub last_binds : (l : ℕ) (bs : List OneBranch) → Each FitsBranch bs → Binds an_otherwise (λ els. Is (S.choice l (branches_of bs) (stms_from els))) (left a_compound (Last l bs))
last_binds l bs f = chain a_compound an_otherwise (λ els. Is (S.choice l (branches_of bs) (stms_from els))) record {
  apart = λ els mid s rest k n. apart els k n;
  down = λ els mid s rest k h. down els k h;
  ready = λ over els h. ready_is FitsStm over _ (within_one FitsBlock FitsStm over els (S.choice l (branches_of bs) (stms_from els)) (λ h. (branches_fit bs f, h)) h);
}
  where
    apart : (els : List Stm) {mid rest : List Lexeme} {s : Stm} → Is (S.choice l (branches_of bs) (stms_from els)) mid s rest → Clear (next_of rest) → Clear (next_of mid)
    apart els is n = n

    down : (els : List Stm) {mid rest : List Lexeme} {s : Stm} → Is (S.choice l (branches_of bs) (stms_from els)) mid s rest → FitsStm s → FitsBlock els
    down els is h = h.1

pub if_shifts : (l : ℕ) → Shifts (sign l (word If)) (left a_compound (Chosen l l [])) a_compound
if_shifts l = record { intro = λ ts s rest k. if_so k; inv = λ ts s rest k n. (out k, n); stop = λ s o n. n; up = λ s f. f; down = λ s f. f }
  where
    out : {ts rest : List Lexeme} {s : Stm} → Compound (sign l (word If) ∷ ts) s rest → Chosen l l [] ts s rest
    out (if_so k) = k

-- none of the keywords is next
pub is_at : (o : Option Lexeme) → BeginsCompound o → sign_at o ≢ Some (word If) → sign_at o ≢ Some (keyword While) → sign_at o ≢ Some (word For) → sign_at o ≢ Some (keyword Try)
    → sign_at o ≢ Some (keyword Def) → sign_at o ≢ Some (keyword Class) → sign_at o ≢ Some (keyword With) → sign_at o ≡ Some at_sign
is_at o (inl h) a b c d e f g = absurd (a h)
is_at o (inr (inl h)) a b c d e f g = absurd (b h)
is_at o (inr (inr (inl h))) a b c d e f g = absurd (c h)
is_at o (inr (inr (inr (inl h)))) a b c d e f g = absurd (d h)
is_at o (inr (inr (inr (inr (inl h))))) a b c d e f g = absurd (e h)
is_at o (inr (inr (inr (inr (inr (inl h)))))) a b c d e f g = absurd (f h)
is_at o (inr (inr (inr (inr (inr (inr (inl h))))))) a b c d e f g = h
is_at o (inr (inr (inr (inr (inr (inr (inr h))))))) a b c d e f g = absurd (g h)

-- where no "elif" was taken
pub last_carries : {P : Part Lexeme Stm} {ts mid rest : List Lexeme} (l : ℕ) (bs : List OneBranch) → Carries P ts (left a_compound (Alternative l bs)) mid
    → (sign_at (next_of mid) ≢ Some (keyword Elif)) × (rest ≡ mid) → Carries P ts (left a_compound (Last l bs)) rest
last_carries {P} {ts} {mid} l bs c n = subst (λ u. Carries P ts (left a_compound (Last l bs)) u) (sym n.1) (then_on c (narrow_carries (last_narrow l bs mid n.0)))
