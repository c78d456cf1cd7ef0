-- How what is left of the headings of functions and handlers goes on.
use Rattle.std.proofs.Common.{◌≡◌, ◌≢◌, ℕ, List, [], ◌∷◌, ◌++◌, Option, Some, None, Bool, true, false, inl, inr, refl, sym, ◌∙◌, ap, subst, arith}
use Rattle.pt_tree.specs.Syntax.{Name}
use Rattle.pt_wide.specs.Syntax as S
use Rattle.pt_wide.specs.Syntax.{Exp, Opt, Args}
use Rattle.pt_readers.specs.Reading.{next_of, behind, Part, Alike, Found, Refused, Carries, Within}
use Rattle.pt_readers.proofs.Readers.{Binds, Shifts, Narrows, left, nothing_found, narrow_carries, then_on}
use Rattle.pt_grammar.specs.declared.sign.Sign.{Sign}
use Rattle.pt_grammar.specs.declared.sign.Sign.TheVariants.{Operator, Mark as mark, Word as word, Keyword as keyword, Layout as layout}
use Rattle.pt_grammar.specs.declared.sign.Word.TheVariants.{Not, Lambda}
use Rattle.pt_grammar.specs.declared.sign.Mark.TheVariants.{Open, Close, Colon, Arrow}
use Rattle.pt_grammar.specs.declared.sign.Keyword.TheVariants.{As}
use Rattle.pt_grammar.specs.declared.sign.Layout.TheVariants.{Newline}
use Rattle.pt_grammar.specs.Lexemes.{Lexeme, name, sign, sign_at}
use Rattle.pt_grammar.specs.Grammar.{no_parameter, no_arguments}
use Rattle.pt_grammar.specs.Signs.{unary_at}
use Rattle.pt_grammar.proofs.Begins.{BeginsAtom, BeginsExpr, expr_begins as starts}
use Rattle.pt_grammar.specs.Nodes.{Gathered, no_parameters, params_of}
use Rattle.pt_parser.specs.Forms.{Reads, Is, is, Then, The, the, Identifier, identifier, Optional, left_out, a_sign, an_identifier, an_optional}
use Rattle.pt_parser.specs.Simple.{an_expression, Renamed, not_renamed, renamed}
use Rattle.pt_parser.specs.Headings.{parameter_list, argument_list, at_sign, star_sign, OneDecorator, a_decorator, Decorated, decorated, MoreDecorators, no_more_decorators, more_decorators, OneSignature, signature_of, Signature, OneCatch, catch_of, Star, no_star, a_star, Caught, any_class, some_class, Catch}
use Rattle.pt_parser.specs.Limits.{FitsExp, FitsOpt, FitsParams, FitsArgs}
use Rattle.pt_parser.specs.Parts.{Each, FitsDecorator, some_decorators, a_signature, a_renamed, a_catch, a_sign_next}
use Rattle.pt_parser.proofs.Tokens.{sign_next, not_sign}
use Rattle.pt_parser.proofs.Chains.{Ready, ready_is, ready_then, within_all, within_one, within_two, Follows, chain, is_found, identifier_ready}
use Rattle.pt_parser.proofs.Follow.{Begins, begins_not, Follow, follow_at, expr_begins, expr_follow, expr_ready, optional_ready, optional_follow}
use Rattle.pt_parser.proofs.Ends.{nothing, before}
use Rattle.pt_parser.proofs.UpTo.{each_before, each_behind, each_snoc}

pub the_next : {s : Sign} {l : ℕ} {ts rest : List Lexeme} → The s ts l rest → sign_at (next_of ts) ≡ Some s
the_next (the e) = ap (λ u. Some u) e

pub sign_ready : (s : Sign) (over : Bool) → Ready (a_sign s).fits over (a_sign s).reads
sign_ready s over = record { word = sign 0 s ∷ []; done = 0; fits = within_all (a_sign s).fits over 0 tt; reads = λ z. the refl }

-- "@" expr NEWLINE
abbrev pub DecoratorEnd : ℕ → List OneDecorator → Exp → Reads (List OneDecorator)
DecoratorEnd l ds e = Then (The (layout Newline)) (λ k. MoreDecorators (ds ++ (a_decorator l e ∷ [])))

abbrev pub DecoratorValue : ℕ → List OneDecorator → Reads (List OneDecorator)
DecoratorValue l ds = Then an_expression.reads (DecoratorEnd l ds)

mutual
  pub decorated_keeps : {l : ℕ} (ds : List OneDecorator) {all : List OneDecorator} {ts rest : List Lexeme} → Decorated l ds ts all rest → Each FitsDecorator all → Each FitsDecorator ds
  decorated_keeps ds (decorated {l = l} {e = e} q m) f = each_before FitsDecorator ds (a_decorator l e ∷ []) (more_keeps (ds ++ (a_decorator l e ∷ [])) m f)

  more_keeps : (ds : List OneDecorator) {all : List OneDecorator} {ts rest : List Lexeme} → MoreDecorators ds ts all rest → Each FitsDecorator all → Each FitsDecorator ds
  more_keeps ds no_more_decorators f = f
  more_keeps ds (more_decorators d) f = decorated_keeps ds d f

module _ (o : ℕ) where
  pub decorator_opens : (l : ℕ) (ds : List OneDecorator) (ts : List Lexeme) → Narrows ts (left (some_decorators o) (DecoratorValue l ds)) (left (some_decorators o) (Decorated l ds))
  decorator_opens l ds ts = record { into = λ more all rest k. into k; out = λ more all rest a k n. (out k, n); stop = λ all o n. n; up = λ all f. f; down = λ all f. f }
    where
      into : {more rest : List Lexeme} {all : List OneDecorator} → DecoratorValue l ds more all rest → Decorated l ds more all rest
      into {more = more} (e, m1, q, (k, m2, the h, d)) = decorated (subst (λ t. an_expression.reads more e (sign k t ∷ m2)) h q) d

      out : {more rest : List Lexeme} {all : List OneDecorator} → Decorated l ds more all rest → DecoratorValue l ds more all rest
      out (decorated q d) = (_, _, q, (_, _, the refl, d))

  fits_more : (over : Bool) (l : ℕ) (ds : List OneDecorator) (e : Exp) → Each FitsDecorator ds → Within FitsExp over e → Within (Each FitsDecorator) over (ds ++ (a_decorator l e ∷ []))
  fits_more over l ds e f g = within_one FitsExp (Each FitsDecorator) over e (ds ++ (a_decorator l e ∷ [])) (λ g. each_snoc FitsDecorator ds (a_decorator l e) f g) g

  more_ready : (over : Bool) (l : ℕ) (ds : List OneDecorator) (e : Exp) → Each FitsDecorator ds → Within FitsExp over e → Ready (Each FitsDecorator) over (MoreDecorators (ds ++ (a_decorator l e ∷ [])))
  more_ready over l ds e f g = record { word = []; done = ds ++ (a_decorator l e ∷ []); fits = fits_more over l ds e f g; reads = λ z. no_more_decorators }

  pub decorator_value : (l : ℕ) (ds : List OneDecorator) → Each FitsDecorator ds → Binds an_expression (DecoratorEnd l ds) (left (some_decorators o) (DecoratorValue l ds))
  decorator_value l ds f = chain (some_decorators o) an_expression (DecoratorEnd l ds) record {
    apart = λ e mid all rest k n. expr_follow e _ (follow_at _ (the_next k.2) tt);
    down = λ e mid all rest k g. (each_behind FitsDecorator ds (a_decorator l e ∷ []) (more_keeps (ds ++ (a_decorator l e ∷ [])) k.3 g)).0;
    ready = λ over e g. ready_then (Each FitsDecorator) over (a_sign (layout Newline)) (λ k. MoreDecorators (ds ++ (a_decorator l e ∷ []))) (sign_ready (layout Newline) over)
        (λ k h. more_ready over l ds e f g);
  }

  pub decorator_end : (l : ℕ) (ds : List OneDecorator) (e : Exp) → Each FitsDecorator ds → FitsExp e
      → Binds (a_sign (layout Newline)) (λ k. MoreDecorators (ds ++ (a_decorator l e ∷ []))) (left (some_decorators o) (DecoratorEnd l ds e))
  decorator_end l ds e f g = chain (some_decorators o) (a_sign (layout Newline)) (λ k. MoreDecorators (ds ++ (a_decorator l e ∷ []))) record {
    apart = λ k mid all rest m n. tt;
    down = λ k mid all rest m h. tt;
    ready = λ over k h. more_ready over l ds e f (within_all FitsExp over e g);
  }

  pub decorator_shifts : (m : ℕ) (ds : List OneDecorator) → Shifts (sign m at_sign) (left (some_decorators o) (Decorated m ds)) (left (some_decorators o) (MoreDecorators ds))
  decorator_shifts m ds = record { intro = λ ts all rest k. more_decorators k; inv = λ ts all rest k n. (out k n, n); stop = λ all o n. n; up = λ all f. f; down = λ all f. f }
    where
      out : {ts rest : List Lexeme} {all : List OneDecorator} → MoreDecorators ds (sign m at_sign ∷ ts) all rest → sign_at (next_of rest) ≢ Some at_sign → Decorated m ds ts all rest
      out no_more_decorators n = absurd (n refl)
      out (more_decorators d) n = d

  pub decorators_end : (ds : List OneDecorator) (ts : List Lexeme) → sign_at (next_of ts) ≢ Some at_sign → Each FitsDecorator ds
      → Found (left (some_decorators o) (MoreDecorators ds)) ts ds ts
  decorators_end ds ts n f = nothing_found (left (some_decorators o) (MoreDecorators ds)) ts ds (λ more. no_more_decorators) n f (λ more a all rest k m. out (not_sign ts a n) k)
    where
      out : {more rest : List Lexeme} {all : List OneDecorator} → sign_at (next_of more) ≢ Some at_sign → MoreDecorators ds more all rest → (all ≡ ds) × (rest ≡ more)
      out m no_more_decorators = (refl, refl)
      out m (more_decorators d) = absurd (m refl)

-- NAME "(" [ params ] ")" [ "->" expr ]
abbrev pub Result : Name → Gathered → Reads OneSignature
Result x g = Then (Optional (mark Arrow) an_expression.reads) (λ r. Is (signature_of x g r))

abbrev pub Closed : Name → Gathered → Reads OneSignature
Closed x g = Then (The (mark Close)) (λ m. Result x g)

abbrev pub Listing : Name → Reads OneSignature
Listing x = Then parameter_list.reads (Closed x)

abbrev pub Opened : Name → Reads OneSignature
Opened x = Then (The (mark Open)) (λ k. Listing x)

fits_none : FitsParams (params_of no_parameters)
fits_none = (omega arith, omega arith)

pub parameters_ready : (over : Bool) → Ready parameter_list.fits over parameter_list.reads
parameters_ready over = record { word = []; done = no_parameters; fits = within_all parameter_list.fits over no_parameters fits_none; reads = λ z. no_parameter }

result_ready : (over : Bool) (x : Name) (g : Gathered) → Within parameter_list.fits over g → Ready a_signature.fits over (Result x g)
result_ready over x g f = ready_then a_signature.fits over (an_optional (mark Arrow) an_expression) (λ r. Is (signature_of x g r)) (optional_ready (mark Arrow) an_expression over)
    (λ r h. ready_is a_signature.fits over (signature_of x g r) (within_two parameter_list.fits FitsOpt a_signature.fits over g r (signature_of x g r) (λ f h. (f, h)) f h))

closed_ready : (over : Bool) (x : Name) (g : Gathered) → Within parameter_list.fits over g → Ready a_signature.fits over (Closed x g)
closed_ready over x g f = ready_then a_signature.fits over (a_sign (mark Close)) (λ m. Result x g) (sign_ready (mark Close) over) (λ m h. result_ready over x g f)

listing_ready : (over : Bool) (x : Name) → Ready a_signature.fits over (Listing x)
listing_ready over x = ready_then a_signature.fits over parameter_list (Closed x) (parameters_ready over) (λ g f. closed_ready over x g f)

opened_ready : (over : Bool) (x : Name) → Ready a_signature.fits over (Opened x)
opened_ready over x = ready_then a_signature.fits over (a_sign (mark Open)) (λ k. Listing x) (sign_ready (mark Open) over) (λ k h. listing_ready over x)

pub signature_name : Binds an_identifier Opened a_signature
signature_name = chain a_signature an_identifier Opened record { apart = λ x mid h rest k n. tt; down = λ x mid h rest k f. tt; ready = λ over x f. opened_ready over x }

pub signature_open : (x : Name) → Binds (a_sign (mark Open)) (λ k. Listing x) (left a_signature (Opened x))
signature_open x = chain a_signature (a_sign (mark Open)) (λ k. Listing x) record { apart = λ k mid h rest q n. tt; down = λ k mid h rest q f. tt; ready = λ over k f. listing_ready over x }

closes_at : {m : ℕ} {ts rest : List Lexeme} (g : Gathered) → The (mark Close) ts m rest → parameter_list.stops g (next_of ts)
closes_at g (the {l = l} e) = subst (λ u. parameter_list.stops g (Some (sign l u))) (sym e) refl

pub signature_parameters : (x : Name) → Binds parameter_list (Closed x) (left a_signature (Listing x))
signature_parameters x = chain a_signature parameter_list (Closed x) record {
  apart = λ g mid h rest k n. closes_at g k.2;
  down = λ g mid h rest k f. down k f;
  ready = λ over g f. closed_ready over x g f;
}
  where
    down : {g : Gathered} {h : OneSignature} {mid rest : List Lexeme} → Closed x g mid h rest → a_signature.fits h → parameter_list.fits g
    down (m, mid, c, (r, end, o, is)) f = f.0

pub signature_close : (x : Name) (g : Gathered) → parameter_list.fits g → Binds (a_sign (mark Close)) (λ m. Result x g) (left a_signature (Closed x g))
signature_close x g f = chain a_signature (a_sign (mark Close)) (λ m. Result x g) record {
  apart = λ m mid h rest k n. tt;
  down = λ m mid h rest k e. tt;
  ready = λ over m e. result_ready over x g (within_all parameter_list.fits over g f);
}

pub signature_result : (x : Name) (g : Gathered) → parameter_list.fits g → Binds (an_optional (mark Arrow) an_expression) (λ r. Is (signature_of x g r)) (left a_signature (Result x g))
signature_result x g f = chain a_signature (an_optional (mark Arrow) an_expression) (λ r. Is (signature_of x g r)) record {
  apart = λ r mid h rest i n. apart r i n;
  down = λ r mid h rest i e. down i e;
  ready = λ over r e. ready_is a_signature.fits over (signature_of x g r) (within_one FitsOpt a_signature.fits over r (signature_of x g r) (λ e. (f, e)) e);
}
  where
    apart : (r : Opt) {h : OneSignature} {mid rest : List Lexeme} → Is (signature_of x g r) mid h rest → a_signature.stops h (next_of rest) → (an_optional (mark Arrow) an_expression).stops r (next_of mid)
    apart r is n = n

    down : {r : Opt} {h : OneSignature} {mid rest : List Lexeme} → Is (signature_of x g r) mid h rest → a_signature.fits h → FitsOpt r
    down is e = e.1

-- [ "as" NAME ]
abbrev pub NewName : Reads (Option Name)
NewName = Then Identifier (λ x. Is (Some x))

pub not_as : (ts : List Lexeme) → sign_at (next_of ts) ≢ Some (keyword As) → Found a_renamed ts None ts
not_as ts n = nothing_found a_renamed ts None (λ more. not_renamed) (λ h. n) tt (λ more a x rest k m. out (not_sign ts a n) k)
  where
    out : {more rest : List Lexeme} {x : Option Name} → sign_at (next_of more) ≢ Some (keyword As) → Renamed more x rest → (x ≡ None) × (rest ≡ more)
    out m not_renamed = (refl, refl)
    out m (renamed i) = absurd (m refl)

pub as_shifts : (l : ℕ) → Shifts (sign l (keyword As)) (left a_renamed NewName) a_renamed
as_shifts l = record { intro = λ ts x rest k. into k; inv = λ ts x rest k n. (out k n, n); stop = λ x o n. n; up = λ x f. f; down = λ x f. f }
  where
    into : {ts rest : List Lexeme} {x : Option Name} → NewName ts x rest → Renamed (sign l (keyword As) ∷ ts) x rest
    into (y, mid, i, is) = renamed i

    out : {ts rest : List Lexeme} {x : Option Name} → Renamed (sign l (keyword As) ∷ ts) x rest → a_renamed.stops x (next_of rest) → NewName ts x rest
    out not_renamed n = absurd (n refl refl)
    out (renamed i) n = (_, _, i, is)

pub new_name : Binds an_identifier (λ x. Is (Some x)) (left a_renamed NewName)
new_name = chain a_renamed an_identifier (λ x. Is (Some x)) record {
  apart = λ x mid y rest k n. tt;
  down = λ x mid y rest k f. tt;
  ready = λ over x f. ready_is a_renamed.fits over (Some x) (within_all a_renamed.fits over (Some x) tt);
}

pub renamed_ready : (over : Bool) → Ready a_renamed.fits over a_renamed.reads
renamed_ready over = record { word = []; done = None; fits = within_all a_renamed.fits over None tt; reads = λ z. not_renamed }

-- what a handler catches
abbrev pub CatchName : Bool → Exp → Reads OneCatch
CatchName b e = Then Renamed (λ x. Is (catch_of b (S.given e) x))

abbrev pub CatchClass : Bool → Reads OneCatch
CatchClass b = Then an_expression.reads (CatchName b)

-- a colon is next
pub catches_all : (b : Bool) (ts : List Lexeme) → sign_at (next_of ts) ≡ Some (mark Colon) → Found (left a_catch (Caught b)) ts (catch_of b S.absent None) ts
catches_all b ts h = nothing_found (left a_catch (Caught b)) ts (catch_of b S.absent None) (λ more. any_class) h tt (λ more a c rest k m. out (looks a) k)
  where
    looks : {more : List Lexeme} → Alike more ts → (Begins (next_of more) → ⊥)
    looks (inl e) g = begins_not {s = mark Colon} _ (ap sign_at e ∙ h) g
    looks (inr e) g = subst (λ u. Begins (next_of u)) e g

    out : {more rest : List Lexeme} {c : OneCatch} → (Begins (next_of more) → ⊥) → Caught b more c rest → (c ≡ catch_of b S.absent None) × (rest ≡ more)
    out m any_class = (refl, refl)
    out m (some_class k) = absurd (m (expr_begins k.2))

pub class_narrows : (b : Bool) (ts : List Lexeme) → sign_at (next_of ts) ≢ Some (mark Colon) → Narrows ts (left a_catch (CatchClass b)) (left a_catch (Caught b))
class_narrows b ts n = record { into = λ more c rest k. some_class k; out = λ more c rest a k m. (out (not_sign ts a n) k m, m); stop = λ c o m. m; up = λ c f. f; down = λ c f. f }
  where
    out : {more rest : List Lexeme} {c : OneCatch} → sign_at (next_of more) ≢ Some (mark Colon) → Caught b more c rest → a_catch.stops c (next_of rest) → CatchClass b more c rest
    out m any_class s = absurd (m s)
    out m (some_class k) s = k

renamed_follow : {ts rest : List Lexeme} {x : Option Name} → Renamed ts x rest → Follow (next_of rest) → Follow (next_of ts)
renamed_follow not_renamed f = f
renamed_follow (renamed i) f = tt

pub class_binds : (b : Bool) → Binds an_expression (CatchName b) (left a_catch (CatchClass b))
class_binds b = chain a_catch an_expression (CatchName b) record {
  apart = λ e mid c rest k n. expr_follow e _ (renamed_follow k.2 (apart k.3 n));
  down = λ e mid c rest k f. down k f;
  ready = λ over e f. ready_then a_catch.fits over a_renamed (λ x. Is (catch_of b (S.given e) x)) (renamed_ready over)
      (λ x g. ready_is a_catch.fits over (catch_of b (S.given e) x) (within_one FitsExp a_catch.fits over e (catch_of b (S.given e) x) (λ f. f) f));
}
  where
    apart : {e : Exp} {x : Option Name} {c : OneCatch} {mid rest : List Lexeme} → Is (catch_of b (S.given e) x) mid c rest → sign_at (next_of rest) ≡ Some (mark Colon) → Follow (next_of mid)
    apart is n = follow_at _ n tt

    down : {e : Exp} {c : OneCatch} {mid rest : List Lexeme} → CatchName b e mid c rest → a_catch.fits c → FitsExp e
    down (x, mid, r, is) f = f

pub name_binds : (b : Bool) (e : Exp) → FitsExp e → Binds a_renamed (λ x. Is (catch_of b (S.given e) x)) (left a_catch (CatchName b e))
name_binds b e f = chain a_catch a_renamed (λ x. Is (catch_of b (S.given e) x)) record {
  apart = λ x mid c rest k n. apart k n;
  down = λ x mid c rest k g. tt;
  ready = λ over x g. ready_is a_catch.fits over (catch_of b (S.given e) x) (within_all a_catch.fits over (catch_of b (S.given e) x) f);
}
  where
    other : mark Colon ≢ keyword As
    other h = cc

    apart : {x : Option Name} {c : OneCatch} {mid rest : List Lexeme} → Is (catch_of b (S.given e) x) mid c rest → sign_at (next_of rest) ≡ Some (mark Colon) → a_renamed.stops x (next_of mid)
    apart is n h k = other cc

-- [ "*" ]
no_star_begins : (o : Option Lexeme) (l : ℕ) → o ≡ Some (sign l star_sign) → BeginsExpr o → ⊥
no_star_begins o l e (inl (inl (inl b))) = subst BeginsAtom e b
no_star_begins o l e (inl (inl (inr n))) = n (ap unary_at e)
no_star_begins o l e (inl (inr (m, h))) = let k : Some (sign l star_sign) ≡ Some (sign m (word Not)) = sym e ∙ h in cc
no_star_begins o l e (inr (m, h)) = let k : Some (sign l star_sign) ≡ Some (sign m (word Lambda)) = sym e ∙ h in cc

pub star_shifts : (l : ℕ) → Shifts (sign l star_sign) (left a_catch (Caught true)) a_catch
star_shifts l = record { intro = λ ts c rest k. (true, ts, a_star, k); inv = λ ts c rest k n. (out k n, n); stop = λ c o n. n; up = λ c f. f; down = λ c f. f }
  where
    clash : {A : Type 0} → Some star_sign ≡ Some (mark Colon) → A
    clash h = cc

    out : {ts rest : List Lexeme} {c : OneCatch} → Catch (sign l star_sign ∷ ts) c rest → a_catch.stops c (next_of rest) → Caught true ts c rest
    out (false, mid, no_star, any_class) n = clash n
    out (false, mid, no_star, some_class k) n = absurd (no_star_begins _ l refl (starts k.2))
    out (true, mid, a_star, k) n = k

pub no_star_narrows : (ts : List Lexeme) → sign_at (next_of ts) ≢ Some star_sign → Narrows ts (left a_catch (Caught false)) a_catch
no_star_narrows ts n = record { into = λ more c rest k. (false, more, no_star, k); out = λ more c rest a k m. (out (not_sign ts a n) k, m); stop = λ c o m. m; up = λ c f. f; down = λ c f. f }
  where
    out : {more rest : List Lexeme} {c : OneCatch} → sign_at (next_of more) ≢ Some star_sign → Catch more c rest → Caught false more c rest
    out m (false, mid, no_star, k) = k
    out m (true, mid, a_star, k) = absurd (m refl)

pub catch_ready : (over : Bool) → Ready a_catch.fits over a_catch.reads
catch_ready over = record { word = []; done = catch_of false S.absent None; fits = within_all a_catch.fits over (catch_of false S.absent None) tt; reads = λ z. (false, z, no_star, any_class) }

pub some_not_none : (x : Name) (o : Option Lexeme) → a_renamed.stops (Some x) o
some_not_none x o h = cc
