-- A statement of a kind is what the function of its kind makes of it.
use Rattle.std.proofs.Common.{◌≡◌, ◌∙◌, ap, sym, ℕ, Bool, List}
use Rattle.pt_wide.specs.Syntax as W
use Rattle.pt_refine_expr.specs.StatementNarrow.{narrow_stm}
use Rattle.pt_refine.specs.StatementsNarrowed.{narrow_assignment, narrow_classed, narrow_defined, narrow_guarded, narrow_iterated, narrow_repeated, narrow_tried}

pub while-own : (before : ℕ) (s : W.Stm) {l : ℕ} {c : W.Exp} {body els : W.Stms} → s ≡ W.while l c body els → narrow_stm before s ≡ narrow_repeated before s
while-own n s is = ap (narrow_stm n) is ∙ sym (ap (narrow_repeated n) is)

pub for-own : (before : ℕ) (s : W.Stm) {l : ℕ} {t a : W.Exp} {body els : W.Stms} → s ≡ W.for l t a body els → narrow_stm before s ≡ narrow_iterated before s
for-own n s is = ap (narrow_stm n) is ∙ sym (ap (narrow_iterated n) is)

pub try-own : (before : ℕ) (s : W.Stm) {l : ℕ} {body : W.Stms} {hs : W.Handlers} {els fin : W.Stms} → s ≡ W.try l body hs els fin → narrow_stm before s ≡ narrow_tried before s
try-own n s is = ap (narrow_stm n) is ∙ sym (ap (narrow_tried n) is)

pub with-own : (before : ℕ) (s : W.Stm) {l : ℕ} {items : W.Items} {body : W.Stms} → s ≡ W.with l items body → narrow_stm before s ≡ narrow_guarded before s
with-own n s is = ap (narrow_stm n) is ∙ sym (ap (narrow_guarded n) is)

pub def-own : (before : ℕ) (s : W.Stm) {l : ℕ} {ds : W.Decorators} {dl : ℕ} {x : List ℕ} {ps : W.Params} {r : W.Opt} {body : W.Stms} → s ≡ W.def l ds dl x ps r body → narrow_stm before s ≡ narrow_defined before s
def-own n s is = ap (narrow_stm n) is ∙ sym (ap (narrow_defined n) is)

pub class-own : (before : ℕ) (s : W.Stm) {l : ℕ} {ds : W.Decorators} {cl : ℕ} {x : List ℕ} {args : W.Args} {comma : Bool} {body : W.Stms} → s ≡ W.class l ds cl x args comma body → narrow_stm before s ≡ narrow_classed before s
class-own n s is = ap (narrow_stm n) is ∙ sym (ap (narrow_classed n) is)

pub assign-own : (before : ℕ) (s : W.Stm) {l : ℕ} {ts : W.Exps} {e : W.Exp} → s ≡ W.assign l ts e → narrow_stm before s ≡ narrow_assignment before s
assign-own n s is = ap (narrow_stm n) is ∙ sym (ap (narrow_assignment n) is)
