-- How what is left behind a value goes on.
use Rattle.std.proofs.Common.{◌≡◌, ◌≢◌, ℕ, List, [], ◌∷◌, ◌++◌, Option, Some, None, Bool, true, false, ◌⊎◌, inl, inr, refl, sym, ◌∙◌, ap, subst}
use Rattle.pt_base.specs.declared.operators.BinOp.{BinOp}
use Rattle.pt_wide.specs.Syntax as S
use Rattle.pt_wide.specs.Syntax.{Exp, Exps, Opt, Stm}
use Rattle.pt_wide.specs.Fold.{all_of}
use Rattle.pt_readers.specs.Reading.{next_of, behind, Part, Alike, Found, Refused, Carries, Within}
use Rattle.pt_readers.proofs.Readers.{Binds, Shifts, Narrows, left, bad_refused}
use Rattle.pt_grammar.specs.declared.sign.Sign.{Sign}
use Rattle.pt_grammar.specs.declared.sign.Sign.TheVariants.{Augmented, Mark as mark, Layout as layout}
use Rattle.pt_grammar.specs.declared.sign.Layout.TheVariants.{Newline}
use Rattle.pt_grammar.specs.declared.sign.Mark.TheVariants.{Colon, Assign, Semicolon}
use Rattle.pt_grammar.specs.Nodes.{line_of}
use Rattle.pt_grammar.specs.Lexemes.{Lexeme, sign, sign_at}
use Rattle.pt_parser.specs.Forms.{Reads, Is, is, Then, Optional, an_optional}
use Rattle.pt_parser.specs.Simple.{an_expression, a_place, values, places, Assigned, last_value, one_target, Annotation, AssignmentOrExpression, annotated, augmented, assigned, only_value}
use Rattle.pt_parser.specs.Limits.{FitsExp, FitsOpt, FitsExps, FitsStm}
use Rattle.pt_parser.specs.Parts.{IsEnd, Each, operator_in, a_simple}
use Rattle.pt_parser.specs.Targets.{is_place, is_target}
use Rattle.pt_parser.specs.Left.{After, at_end, at_assign, Augmentation}
use Rattle.pt_parser.proofs.Tokens.{not_sign}
use Rattle.pt_parser.proofs.Chains.{Ready, ready_is, ready_then, within_one, within_two, Follows, chain}
use Rattle.pt_grammar.specs.declared.part.Part.TheVariants.{Whole}
use Rattle.pt_parser.proofs.Follow.{expr_follow, expr_ready, optional_ready, optional_follow, place_value, value_place, place_is, target_value, value_target, target_is}
use Rattle.pt_parser.proofs.Ends.{end_follow, end_items, end_not, no_end}
use Rattle.pt_parser.proofs.UpTo.{each_snoc, each_before, each_behind}

-- what is left behind the first value
pub data Continued : Exp → List Lexeme → Stm → List Lexeme → Type 0 where
  as_value : {v : Exp} {s : Stm} {ts rest : List Lexeme} → After (line_of v) [] v ts s rest → Continued v ts s rest
  as_annotated : {m : ℕ} {v : Exp} {s : Stm} {ts rest : List Lexeme} → is_place v ≡ true → Annotation v ts s rest → Continued v (sign m (mark Colon) ∷ ts) s rest
  as_augmented : {m : ℕ} {o : BinOp} {v : Exp} {s : Stm} {ts rest : List Lexeme} → is_place v ≡ true → Augmentation v o ts s rest → Continued v (sign m (Augmented o) ∷ ts) s rest

pub fits_all : (xs : List Exp) → Each FitsExp xs → FitsExps (all_of xs)
fits_all [] f = tt
fits_all (x ∷ xs) f = (f.0, fits_all xs f.1)

fits_each : (xs : List Exp) → FitsExps (all_of xs) → Each FitsExp xs
fits_each [] f = tt
fits_each (x ∷ xs) f = (f.0, fits_each xs f.1)

-- the limits of what was read before are those of the statement
assigned_keeps : {l : ℕ} (xs : List Exp) {ts rest : List Lexeme} {s : Stm} → Assigned l xs ts s rest → FitsStm s → Each FitsExp xs
assigned_keeps xs (last_value q) f = fits_each xs f.0
assigned_keeps xs (one_target {t = t} q a) f = each_before FitsExp xs (t ∷ []) (assigned_keeps (xs ++ (t ∷ [])) a f)

after_keeps : {l : ℕ} (xs : List Exp) (v : Exp) {ts rest : List Lexeme} {s : Stm} → After l xs v ts s rest → FitsStm s → FitsExp v
after_keeps xs v at_end f = f.1
after_keeps xs v (at_assign h a) f = (each_behind FitsExp xs (v ∷ []) (assigned_keeps (xs ++ (v ∷ [])) a f)).0

after_stops : {l : ℕ} {xs : List Exp} (v : Exp) {ts rest : List Lexeme} {s : Stm} → After l xs v ts s rest → IsEnd (next_of rest) → values.stops v (next_of ts)
after_stops v at_end n = end_items Whole _ n
after_stops v (at_assign h a) n = refl

within_after : (over : Bool) (l : ℕ) (xs : List Exp) (v : Exp) → Each FitsExp xs → Within FitsExp over v → Within FitsStm over (S.assign l (all_of xs) v)
within_after over l xs v f g = within_one FitsExp FitsStm over v (S.assign l (all_of xs) v) (λ g. (fits_all xs f, g)) g

pub assigned_binds : (l : ℕ) (xs : List Exp) → Each FitsExp xs → Binds values (After l xs) (left a_simple (Assigned l xs))
assigned_binds l xs f = record {
  intro = λ ts v mid s rest q k. into q k;
  inv = λ ts s rest k n. out k n;
  down = λ v mid s rest k g. after_keeps xs v k g;
  finish = λ v g. ([], S.assign l (all_of xs) v, (fits_all xs f, g), λ z. at_end);
  extend = λ v. ([], S.assign l (all_of xs) v, λ z. at_end);
}
  where
    into : {ts mid rest : List Lexeme} {v : Exp} {s : Stm} → values.reads ts v mid → After l xs v mid s rest → Assigned l xs ts s rest
    into q at_end = last_value q
    into q (at_assign h a) = one_target (value_target q h) a

    out : {ts rest : List Lexeme} {s : Stm} → Assigned l xs ts s rest → IsEnd (next_of rest)
        → (v : Exp) × (mid : List Lexeme) × values.reads ts v mid × values.stops v (next_of mid) × After l xs v mid s rest
    out {rest = rest} (last_value {v = v} q) n = (v, rest, q, end_items Whole (next_of rest) n, at_end)
    out (one_target {m = m} {t = t} q a) n = (t, _, target_value q, refl, at_assign (target_is q) a)

-- an `=` behind a target
pub assign_shifts : (l m : ℕ) (xs : List Exp) (v : Exp) → is_target v ≡ true → Shifts (sign m (mark Assign)) (left a_simple (Assigned l (xs ++ (v ∷ [])))) (left a_simple (After l xs v))
assign_shifts l m xs v h = record { intro = λ ts s rest a. at_assign h a; inv = λ ts s rest k n. (out k n, n); stop = λ s o n. n; up = λ s f. f; down = λ s f. f }
  where
    out : {ts rest : List Lexeme} {s : Stm} → After l xs v (sign m (mark Assign) ∷ ts) s rest → IsEnd (next_of rest) → Assigned l (xs ++ (v ∷ [])) ts s rest
    out at_end n = absurd (end_not {s = mark Assign} (Some (sign m (mark Assign))) n (λ k. cc) (λ k. cc) refl)
    out (at_assign g a) n = a

-- an `=` behind no target
pub assign_bad : (l : ℕ) (xs : List Exp) (v : Exp) (ts : List Lexeme) → sign_at (next_of ts) ≡ Some (mark Assign) → is_target v ≡ false → Each FitsExp xs → FitsExp v
    → Refused (left a_simple (After l xs v)) false ts ts
assign_bad l xs v ts h n f g = bad_refused (left a_simple (After l xs v)) ts (λ more a s rest k e. out a k e) [] (S.assign l (all_of xs) v) (fits_all xs f, g) (λ z. at_end)
  where
    clash : is_target v ≡ true → ⊥
    clash k = cc

    out : {more rest : List Lexeme} {s : Stm} → Alike more ts → After l xs v more s rest → IsEnd (next_of rest) → ⊥
    out (inl a) at_end e = end_not _ e (λ k. cc) (λ k. cc) (ap sign_at a ∙ h)
    out (inr a) at_end e = no_end (subst (λ u. IsEnd (next_of u)) a e)
    out a (at_assign k b) e = clash k

-- no `=` is next
pub assign_ends : (l : ℕ) (xs : List Exp) (v : Exp) (ts : List Lexeme) → sign_at (next_of ts) ≢ Some (mark Assign)
    → Narrows ts (left a_simple (Is (S.assign l (all_of xs) v))) (left a_simple (After l xs v))
assign_ends l xs v ts n = record { into = λ more s rest k. into k; out = λ more s rest a k e. (out (not_sign ts a n) k, e); stop = λ s o e. e; up = λ s f. f; down = λ s f. f }
  where
    into : {more rest : List Lexeme} {s : Stm} → Is (S.assign l (all_of xs) v) more s rest → After l xs v more s rest
    into is = at_end

    out : {more rest : List Lexeme} {s : Stm} → sign_at (next_of more) ≢ Some (mark Assign) → After l xs v more s rest → Is (S.assign l (all_of xs) v) more s rest
    out m at_end = is
    out m (at_assign h a) = absurd (m refl)

-- the first value
pub stated_binds : Binds values Continued (left a_simple AssignmentOrExpression)
stated_binds = record {
  intro = λ ts v mid s rest q k. into q k;
  inv = λ ts s rest k n. out k n;
  down = λ v mid s rest k g. down k g;
  finish = λ v g. ([], S.assign (line_of v) S.no_exps v, (tt, g), λ z. as_value at_end);
  extend = λ v. ([], S.assign (line_of v) S.no_exps v, λ z. as_value at_end);
}
  where
    into_after : {ts mid rest : List Lexeme} {v : Exp} {s : Stm} → values.reads ts v mid → After (line_of v) [] v mid s rest → AssignmentOrExpression ts s rest
    into_after q at_end = only_value q
    into_after q (at_assign h a) = assigned (value_target q h) a

    into : {ts mid rest : List Lexeme} {v : Exp} {s : Stm} → values.reads ts v mid → Continued v mid s rest → AssignmentOrExpression ts s rest
    into q (as_value k) = into_after q k
    into q (as_annotated h k) = annotated (value_place q h) k
    into q (as_augmented h (w, mid, p, is)) = augmented (value_place q h) p

    out : {ts rest : List Lexeme} {s : Stm} → AssignmentOrExpression ts s rest → IsEnd (next_of rest)
        → (v : Exp) × (mid : List Lexeme) × values.reads ts v mid × values.stops v (next_of mid) × Continued v mid s rest
    out (annotated {m = m} {t = t} q k) n = (t, _, place_value q, refl, as_annotated (place_is q) k)
    out {rest = rest} (augmented {m = m} {t = t} {v = v} {o = o} q p) n = (t, _, place_value q, refl, as_augmented (place_is q) (v, rest, p, is))
    out (assigned {m = m} {t = t} q a) n = (t, _, target_value q, refl, as_value (at_assign (target_is q) a))
    out {rest = rest} (only_value {v = v} q) n = (v, rest, q, end_items Whole (next_of rest) n, as_value at_end)

    down : {v : Exp} {mid rest : List Lexeme} {s : Stm} → Continued v mid s rest → FitsStm s → FitsExp v
    down {v} (as_value k) f = after_keeps [] v k f
    down (as_annotated h (a, mid, p, (o, mid2, r, is))) f = f.0
    down (as_augmented h (w, mid, p, is)) f = f.0

-- behind a target and `:`
pub annotation_shifts : (m : ℕ) (v : Exp) → is_place v ≡ true → Shifts (sign m (mark Colon)) (left a_simple (Annotation v)) (left a_simple (Continued v))
annotation_shifts m v h = record { intro = λ ts s rest k. as_annotated h k; inv = λ ts s rest k n. (out k n, n); stop = λ s o n. n; up = λ s f. f; down = λ s f. f }
  where
    no_after : {ts rest : List Lexeme} {s : Stm} → After (line_of v) [] v (sign m (mark Colon) ∷ ts) s rest → IsEnd (next_of rest) → ⊥
    no_after at_end n = end_not {s = mark Colon} (Some (sign m (mark Colon))) n (λ k. cc) (λ k. cc) refl

    out : {ts rest : List Lexeme} {s : Stm} → Continued v (sign m (mark Colon) ∷ ts) s rest → IsEnd (next_of rest) → Annotation v ts s rest
    out (as_value k) n = absurd (no_after k n)
    out (as_annotated g k) n = k

pub augmentation_shifts : (m : ℕ) (v : Exp) (o : BinOp) → is_place v ≡ true → Shifts (sign m (Augmented o)) (left a_simple (Augmentation v o)) (left a_simple (Continued v))
augmentation_shifts m v o h = record { intro = λ ts s rest k. as_augmented h k; inv = λ ts s rest k n. (out k n, n); stop = λ s o n. n; up = λ s f. f; down = λ s f. f }
  where
    no_after : {ts rest : List Lexeme} {s : Stm} → After (line_of v) [] v (sign m (Augmented o) ∷ ts) s rest → IsEnd (next_of rest) → ⊥
    no_after at_end n = end_not {s = Augmented o} (Some (sign m (Augmented o))) n (λ k. cc) (λ k. cc) refl

    out : {ts rest : List Lexeme} {s : Stm} → Continued v (sign m (Augmented o) ∷ ts) s rest → IsEnd (next_of rest) → Augmentation v o ts s rest
    out (as_value k) n = absurd (no_after k n)
    out (as_augmented g k) n = k

some_same : {s t : Sign} → Some s ≡ Some t → s ≡ t
some_same h = cc

colon_not : mark Colon ≢ mark Semicolon
colon_not h = cc

colon_no_line : mark Colon ≢ layout Newline
colon_no_line h = cc

colon_no_assign : mark Colon ≢ mark Assign
colon_no_assign h = cc

operator_not : (o : BinOp) → Augmented o ≢ mark Semicolon
operator_not o h = cc

operator_no_line : (o : BinOp) → Augmented o ≢ layout Newline
operator_no_line o h = cc

operator_no_assign : (o : BinOp) → Augmented o ≢ mark Assign
operator_no_assign o h = cc

-- one of these signs behind what is no place
pub continued_bad : (s : Sign) (v : Exp) (ts : List Lexeme) → sign_at (next_of ts) ≡ Some s → ((s ≡ mark Colon) ⊎ ((o : BinOp) × (s ≡ Augmented o))) → is_place v ≡ false → FitsExp v
    → Refused (left a_simple (Continued v)) false ts ts
continued_bad s v ts h c n g = bad_refused (left a_simple (Continued v)) ts (λ more a x rest k e. out (alike_sign a) k e) [] (S.assign (line_of v) S.no_exps v) (tt, g) (λ z. as_value at_end)
  where
    clash : is_place v ≡ true → ⊥
    clash k = cc

    alike_sign : {more : List Lexeme} → Alike more ts → (sign_at (next_of more) ≡ Some s) ⊎ (more ≡ [])
    alike_sign (inl a) = inl (ap sign_at a ∙ h)
    alike_sign (inr a) = inr a

    no_end_sign : (o : Option Lexeme) → sign_at o ≡ Some s → IsEnd o → ⊥
    no_end_sign o k e = by c
      where
        by : (s ≡ mark Colon) ⊎ ((o : BinOp) × (s ≡ Augmented o)) → ⊥
        by (inl i) = end_not o e (λ j. colon_not (sym i ∙ j)) (λ j. colon_no_line (sym i ∙ j)) k
        by (inr i) = end_not o e (λ j. operator_not i.0 (sym i.1 ∙ j)) (λ j. operator_no_line i.0 (sym i.1 ∙ j)) k

    no_assign : s ≡ mark Assign → ⊥
    no_assign j = by c
      where
        by : (s ≡ mark Colon) ⊎ ((o : BinOp) × (s ≡ Augmented o)) → ⊥
        by (inl i) = colon_no_assign (sym i ∙ j)
        by (inr i) = operator_no_assign i.0 (sym i.1 ∙ j)

    out_after : {more rest : List Lexeme} {x : Stm} → (sign_at (next_of more) ≡ Some s) ⊎ (more ≡ []) → After (line_of v) [] v more x rest → IsEnd (next_of rest) → ⊥
    out_after (inl a) at_end e = no_end_sign _ a e
    out_after (inr a) at_end e = no_end (subst (λ u. IsEnd (next_of u)) a e)
    out_after (inl a) (at_assign k b) e = no_assign (sym (some_same a))
    out_after (inr a) (at_assign k b) e = cc

    out : {more rest : List Lexeme} {x : Stm} → (sign_at (next_of more) ≡ Some s) ⊎ (more ≡ []) → Continued v more x rest → IsEnd (next_of rest) → ⊥
    out a (as_value k) e = out_after a k e
    out a (as_annotated k b) e = clash k
    out a (as_augmented k b) e = clash k

-- neither is next
pub value_narrows : (v : Exp) (ts : List Lexeme) → sign_at (next_of ts) ≢ Some (mark Colon) → operator_in (sign_at (next_of ts)) ≡ None
    → Narrows ts (left a_simple (After (line_of v) [] v)) (left a_simple (Continued v))
value_narrows v ts n m = record { into = λ more s rest k. as_value k; out = λ more s rest a k e. (out a k, e); stop = λ s o e. e; up = λ s f. f; down = λ s f. f }
  where
    no_operator : {o : BinOp} → Some o ≡ operator_in (sign_at (next_of ts)) → ⊥
    no_operator h = cc

    out : {more rest : List Lexeme} {s : Stm} → Alike more ts → Continued v more s rest → After (line_of v) [] v more s rest
    out a (as_value k) = k
    out (inl a) (as_annotated h k) = absurd (n (sym (ap sign_at a)))
    out (inl a) (as_augmented h k) = absurd (no_operator (ap (λ o. operator_in (sign_at o)) a))
    out (inr a) (as_annotated h k) = cc
    out (inr a) (as_augmented h k) = cc

-- behind ":" and an annotation
abbrev pub AnnotationValue : Exp → Exp → Reads Stm
AnnotationValue t a = Then (Optional (mark Assign) values.reads) (λ v. Is (S.annotated (line_of t) t a v))

values_end : (o : Opt) (next : Option Lexeme) → IsEnd next → (an_optional (mark Assign) values).stops o next
values_end S.absent next e = end_not next e (λ k. cc) (λ k. cc)
values_end (S.given v) next e = end_items Whole next e

pub annotation_binds : (t : Exp) → FitsExp t → Binds an_expression (AnnotationValue t) (left a_simple (Annotation t))
annotation_binds t ft = chain a_simple an_expression (AnnotationValue t) record {
  apart = λ a mid s rest k n. optional_follow k.2 (an_expression.stops a) (apart a k.3 n) (λ m. expr_follow a _ tt);
  down = λ a mid s rest k f. down k f;
  ready = λ over a f. ready_then FitsStm over (an_optional (mark Assign) values) (λ v. Is (S.annotated (line_of t) t a v)) (optional_ready (mark Assign) values over)
      (λ v g. ready_is FitsStm over _ (within_two FitsExp FitsOpt FitsStm over a v (S.annotated (line_of t) t a v) (λ f g. (ft, f, g)) f g));
}
  where
    apart : (a : Exp) {v : Opt} {mid rest : List Lexeme} {s : Stm} → Is (S.annotated (line_of t) t a v) mid s rest → IsEnd (next_of rest) → an_expression.stops a (next_of mid)
    apart a is n = expr_follow a _ (end_follow _ n)

    down : {a : Exp} {mid rest : List Lexeme} {s : Stm} → AnnotationValue t a mid s rest → FitsStm s → FitsExp a
    down (v, mid, o, is) f = f.1

pub annotation_value : (t a : Exp) → FitsExp t → FitsExp a → Binds (an_optional (mark Assign) values) (λ v. Is (S.annotated (line_of t) t a v)) (left a_simple (AnnotationValue t a))
annotation_value t a ft fa = chain a_simple (an_optional (mark Assign) values) (λ v. Is (S.annotated (line_of t) t a v)) record {
  apart = λ v mid s rest i n. apart v i n;
  down = λ v mid s rest i f. down i f;
  ready = λ over v g. ready_is FitsStm over _ (within_one FitsOpt FitsStm over v (S.annotated (line_of t) t a v) (λ g. (ft, fa, g)) g);
}
  where
    apart : (v : Opt) {mid rest : List Lexeme} {s : Stm} → Is (S.annotated (line_of t) t a v) mid s rest → IsEnd (next_of rest) → (an_optional (mark Assign) values).stops v (next_of mid)
    apart v is n = values_end v _ n

    down : {v : Opt} {mid rest : List Lexeme} {s : Stm} → Is (S.annotated (line_of t) t a v) mid s rest → FitsStm s → FitsOpt v
    down is f = f.2

pub augmentation_binds : (t : Exp) (o : BinOp) → FitsExp t → Binds values (λ v. Is (S.augmented (line_of t) t o v)) (left a_simple (Augmentation t o))
augmentation_binds t o ft = chain a_simple values (λ v. Is (S.augmented (line_of t) t o v)) record {
  apart = λ v mid s rest i n. apart v i n;
  down = λ v mid s rest i f. down i f;
  ready = λ over v g. ready_is FitsStm over _ (within_one FitsExp FitsStm over v (S.augmented (line_of t) t o v) (λ g. (ft, g)) g);
}
  where
    apart : (v : Exp) {mid rest : List Lexeme} {s : Stm} → Is (S.augmented (line_of t) t o v) mid s rest → IsEnd (next_of rest) → values.stops v (next_of mid)
    apart v is n = end_items Whole _ n

    down : {v : Exp} {mid rest : List Lexeme} {s : Stm} → Is (S.augmented (line_of t) t o v) mid s rest → FitsStm s → FitsExp v
    down is f = f.1

pub operator_sign : {o : BinOp} (s : Option Sign) → operator_in s ≡ Some o → s ≡ Some (Augmented o)
operator_sign {o} (Some (Augmented p)) h = let e : p ≡ o = cc in ap (λ u. Some (Augmented u)) e
operator_sign _ h = cc
