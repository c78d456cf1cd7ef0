-- Some way comes to each place of a piece that has slots.
use Rattle.std.proofs.Common.{◌≡◌, ◌⊎◌, inl, inr, ⊎_elim, ℕ, ◌+◌, ◌-◌, ◌≤◌, ◌<◌, zero, suc, Bool, true, false, cond, if◌then◌else◌, nat_eq, List, [], ◌∷◌, ◌++◌, map, filter, length, slice_get, Contains, Option, Some, None, refl, sym, ap, ◌∙◌, subst, arith, eqb-true, length-append}
use Rattle.std.proofs.lemmas.Bool.{true≢false, cases_lt, le-leb}
use Rattle.std.proofs.lemmas.List.Elements.{Contains-append_left, Contains-append_right}
use Rattle.pt_instr.specs.declared.Instr.{Instr}
use Rattle.pt_instr.specs.declared.effects.Effect.{Effect}
use Rattle.pt_instr.specs.declared.kinds.Kind.TheVariants as kinds
use Rattle.pt_instr.specs.Effects.{Kinds, effect_of}
use Rattle.pt_ranges.specs.declared.lines.ActMark.{ActMark}
use Rattle.pt_ranges.specs.declared.handlers.Handler.{Handler}
use Rattle.pt_code.specs.declared.Start.{Start}
use Rattle.pt_code.specs.View.{Ins}
use Rattle.sem_code.specs.slots.CodeObject.{CodeObject}
use Rattle.sem_code.specs.slots.Stretches.{Stands, ins}
use Rattle.sem_code.specs.slots.Slots.{or_else}
use Rattle.pt_assembler.specs.declared.operation.Exit.{Exit}
use Rattle.pt_assembler.specs.declared.operation.Jump.{Jump}
use Rattle.pt_assembler.specs.declared.operation.Jump.TheVariants.{AtEnd, Always, IfTrue, IfFalse, IfTrueKeep, IfFalseKeep, Leave}
use Rattle.pt_assembler.specs.declared.operation.Target.{Target}
use Rattle.pt_assembler.specs.Piece as P
use Rattle.pt_assembler.specs.Piece.{Op, Piece, pick}
use Rattle.pt_assembler.specs.PieceAt.{instr_to, target, start_of, Is, Context, in_loop, under, over, row_of}
use Rattle.sem_fits.specs.fits.Block.{Links, Block, effect}
use Rattle.sem_fits.specs.fits.Steps.{Step, steps, steps_of, by_instruction, by_handlers, onward as onward_steps, aside as aside_steps, again, gives, given_behind, spared, reads, has_enough, is_within, landing, target_of}
use Rattle.sem_fits.specs.fits.Places as places
use Rattle.sem_fits.specs.fits.Places.{Gets}
use Rattle.law_pieces.specs.piece_kinds.Walk.{Loop, StackMap, kinds_of, given_at, onward, aside_op, instr_of, to_one, held, is_empty, deepened, Setting, with_label, with_none, with_loop, end_of, flow, behind}
use Rattle.law_pieces.specs.piece_kinds.Typed.{HasValue, IsUniform}
use Rattle.law_pieces.specs.piece_kinds.Table.{next_of, Rises, Table, AgreesWith}
use Rattle.law_pieces.specs.piece_kinds.Exits.{ExitsAre}
use Rattle.law_pieces.proofs.piece_kinds.ListLemmas.{length_kinds, over_length}
use Rattle.law_pieces.proofs.piece_kinds.StepLemmas.{counted}
use Rattle.law_pieces.proofs.piece_kinds.PieceLaw.{same_effect, not_both, empty_is, has_place, is_some_of, nothing, nothing_at, stands_at, rises_to, ends, ordered, Laid, first, second, in_block, in_head, in_closed, in_a_loop, deep, at_start, in_count, normal_less, normal_alone, under_row, behind_row, under_except, leave_stands, begins}
use Rattle.law_pieces.proofs.piece_kinds.Finds.{Finds, Fit, at_only, fit_label, fit_none, fit_loop, fit_always, fit_except, fit_deeper, normal_there_found, found, finds}

get_less : {A : Type 0} (xs : List A) (n : ℕ) (x : A) → slice_get xs n ≡ Some x → n < length xs
get_less [] n x e = not_both (sym e)
get_less (y ∷ xs) zero x e = omega arith
get_less (y ∷ xs) (suc n) x e = let h = get_less xs n x e in omega (arith, h)

reads_less : (o : Option ℕ) (rs : StackMap) → HasValue o rs → reads o ≤ length rs
reads_less None rs h = omega arith
reads_less (Some zero) rs h = absurd h
reads_less (Some (suc n)) rs (k, e, v) = let h = get_less rs n k e in omega (arith, h)

onward_gives : (e : Effect) (p : ℕ) (x : Option Loop) (ks ls : StackMap) (o : Option Kinds) → onward e p x ks o ≡ Some ls → (g : Kinds) × (o ≡ Some g)
onward_gives e p x ks ls None h = not_both (sym h)
onward_gives e p x ks ls (Some g) h = (g, refl)

aside_gives : (e : Effect) (p : ℕ) (x : Option Loop) (ks ls : StackMap) (o : Option Kinds) → given_at e p x ks o ≡ Some ls → (g : Kinds) × (o ≡ Some g)
aside_gives e p x ks ls None h = not_both (sym h)
aside_gives e p x ks ls (Some g) h = (g, refl)

-- an instruction that goes aside has a target
has_target : (links : Links) (j : Jump) (p : ℕ) (g : Kinds) → (let e = effect links (instr_to j 0) in e.aside) ≡ Some g → target_of (instr_to j p) ≡ Some p
unfolding effect_of
has_target links AtEnd p g h = refl
has_target links Always p g h = refl
has_target links IfTrue p g h = refl
has_target links IfFalse p g h = refl
has_target links IfTrueKeep p g h = refl
has_target links IfFalseKeep p g h = refl
has_target links Leave p g h = not_both (sym h)

-- it is sent to the label to which the jump goes
record Sent (op : Op) (o : Option StackMap) (k : ℕ) (ls : StackMap) : Type 0 where
  jump : Jump
  is : op ≡ P.to jump k
  there : o ≡ Some ls

sent_by : (op : Op) (o : Option StackMap) (k : ℕ) (ls : StackMap) → to_one op o k ≡ Some ls → Sent op o k ls
sent_by (P.to j l) o k ls h = by (nat_eq l k) refl
  where
    by : (t : Bool) → nat_eq l k ≡ t → Sent (P.to j l) o k ls
    by true e = record { jump = j; is = ap (P.to j) (eqb-true l k e); there = sym (ap (λ t. if t then o else None) e) ∙ h }
    by false e = not_both (sym h ∙ ap (λ t. if t then o else None) e)
sent_by (P.plain i) o k ls h = not_both (sym h)
sent_by P.never o k ls h = not_both (sym h)
sent_by (P.const c) o k ls h = not_both (sym h)
sent_by (P.with_local g x) o k ls h = not_both (sym h)
sent_by (P.with_cell g x) o k ls h = not_both (sym h)
sent_by (P.with_free w x) o k ls h = not_both (sym h)
sent_by (P.with_text g x) o k ls h = not_both (sym h)
sent_by (P.with_list g xs) o k ls h = not_both (sym h)

or_cases : (o p : Option StackMap) (ls : StackMap) → or_else o p ≡ Some ls → (o ≡ Some ls) ⊎ (p ≡ Some ls)
or_cases None p ls h = inr h
or_cases (Some ks) p ls h = inl h

handled : (ks : Kinds) (e : Effect) (rows : List Handler) (row : Handler) → Contains rows row → is_within e ks row ≡ true → Contains (by_handlers e ks rows) (landing ks row)
handled ks e [] row (n, l, g) w = absurd (let f : ⊥ = omega (arith, l) in f)
handled ks e (r ∷ rows) row (zero, l, g) w =
    subst (λ t. Contains (map (landing ks) (cond t (r ∷ filter (is_within e ks) rows) (filter (is_within e ks) rows))) (landing ks row)) (sym (ap (is_within e ks) g ∙ w))
    (zero, omega arith, ap (landing ks) g)
handled ks e (r ∷ rows) row (suc n, l, g) w = by (handled ks e rows row (n, omega (arith, l), g) w) (is_within e ks r)
  where
    by : Contains (by_handlers e ks rows) (landing ks row) → (t : Bool)
        → Contains (map (landing ks) (cond t (r ∷ filter (is_within e ks) rows) (filter (is_within e ks) rows))) (landing ks row)
    by later true = (suc later.0, (let h = later.1 in omega (arith, h)), later.2)
    by later false = later

-- a step leads there
abbrev pub StepsTo : Block → (q : ℕ) → (ks : StackMap) → (to : ℕ) → Type 0
StepsTo b q ks r = (s : Step) × Contains (steps b q (kinds_of ks)) s × (s.to ≡ r)

module _ (b : Block) (at : Table) (W : Option Loop → StackMap → Exit → Type 0) (outer : List Handler) (floor : StackMap) (q : ℕ) (ks : StackMap)
    (u : Finds b at W outer floor q ks) where
  abbrev f : Effect
  f = effect b.links (u.here).instr

  pub counts : length (kinds_of ks) ≡ length f.takes + length u.rest
  counts = length_kinds ks ∙ (ap length u.is ∙ (let a = length-append u.taken u.rest in let c = counted u.takes in omega (arith, a, c)))

  pub enough : has_enough f (kinds_of ks) ≡ true
  enough = le-leb (length f.takes + reads f.above) (length (kinds_of ks)) (let c = counts in let r = reads_less f.above u.rest u.value in omega (arith, c, r))

  own : (s : Step) → Contains (onward_steps f (kinds_of ks) (u.here).next f.gives ++ (aside_steps f (kinds_of ks) (target_of (u.here).instr) f.aside ++ again f (kinds_of ks) q)) s
      → Contains (steps b q (kinds_of ks)) s
  own s c = subst (λ o. Contains (steps_of b.links q (kinds_of ks) o) s) (sym u.stands)
      (Contains-append_left (by_instruction f (kinds_of ks) q u.here) (by_handlers f (kinds_of ks) (u.here).rows) s
      (subst (λ t. Contains (if t then (onward_steps f (kinds_of ks) (u.here).next f.gives ++ (aside_steps f (kinds_of ks) (target_of (u.here).instr) f.aside
      ++ again f (kinds_of ks) q)) else []) s) (sym enough) c))

  pub onward_to : (g : Kinds) → f.gives ≡ Some g → StepsTo b q ks (u.here).next
  onward_to g h = (
    gives f (kinds_of ks) (u.here).next (given_behind f (kinds_of ks) g),
    own (gives f (kinds_of ks) (u.here).next (given_behind f (kinds_of ks) g))
        (Contains-append_left (onward_steps f (kinds_of ks) (u.here).next f.gives) (aside_steps f (kinds_of ks) (target_of (u.here).instr) f.aside ++ again f (kinds_of ks) q)
        (gives f (kinds_of ks) (u.here).next (given_behind f (kinds_of ks) g))
        (subst (λ o. Contains (onward_steps f (kinds_of ks) (u.here).next o) (gives f (kinds_of ks) (u.here).next (given_behind f (kinds_of ks) g))) (sym h) (zero, omega arith, refl))),
    refl,
  )

  pub aside_to : (t : ℕ) (g : Kinds) → target_of (u.here).instr ≡ Some t → f.aside ≡ Some g → StepsTo b q ks t
  aside_to t g e h = (
    gives f (kinds_of ks) t g,
    own (gives f (kinds_of ks) t g)
        (Contains-append_right (onward_steps f (kinds_of ks) (u.here).next f.gives) (aside_steps f (kinds_of ks) (target_of (u.here).instr) f.aside ++ again f (kinds_of ks) q) (gives f (kinds_of ks) t g)
        (Contains-append_left (aside_steps f (kinds_of ks) (target_of (u.here).instr) f.aside) (again f (kinds_of ks) q) (gives f (kinds_of ks) t g)
        (subst (λ o. Contains (aside_steps f (kinds_of ks) o f.aside) (gives f (kinds_of ks) t g)) (sym e)
        (subst (λ o. Contains (aside_steps f (kinds_of ks) (Some t) o) (gives f (kinds_of ks) t g)) (sym h) (zero, omega arith, refl))))),
    refl,
  )

  pub row_to : (row : Handler) → Contains (u.here).rows row → row.depth ≤ length u.rest → StepsTo b q ks row.target.0
  row_to row c d = (
    landing (kinds_of ks) row,
    subst (λ o. Contains (steps_of b.links q (kinds_of ks) o) (landing (kinds_of ks) row)) (sym u.stands)
        (Contains-append_right (by_instruction f (kinds_of ks) q u.here) (by_handlers f (kinds_of ks) (u.here).rows) (landing (kinds_of ks) row)
        (handled (kinds_of ks) f (u.here).rows row c (le-leb row.depth (spared f (kinds_of ks)) (let n = counts in omega (arith, n, d))))),
    refl,
  )

module _ {V : Type 0} (code : CodeObject V) (starts : List Start) (b : Block) (same : (pc : ℕ) → code.at pc ≡ b.at pc) (rises : Rises b) (at : Table)
    (W : Option Loop → StackMap → Exit → Type 0) (agrees : AgreesWith b at) where
  -- where an instruction stands there, it gets the slots of the table
  abbrev pub Comes : ℕ → Type 0
  Comes r = (j : Ins) → b.at r ≡ Some j → (ls : StackMap) → at r ≡ Some ls → Gets b b.size r (kinds_of ls)

  comes : (q : ℕ) (ks : StackMap) (r : ℕ) → q ≤ b.size → at q ≡ Some ks → Gets b b.size q (kinds_of ks) → StepsTo b q ks r → Comes r
  comes q ks r low h g (s, c, e) j stands ls there =
      let f = agrees q ks h s c in
      let k : kinds_of ls ≡ s.kinds = ap kinds_of (is_some_of (sym there ∙ (ap at (sym e) ∙ f.there))) ∙ f.kinds in
      subst (λ z. Gets b b.size r z) (sym k) (subst (λ z. Gets b b.size z s.kinds) e (places.onward g low c j (ap b.at e ∙ stands)))

  pub record Reaches (p : Piece) (L : List Target) (c : Setting) (base : StackMap) (from to : ℕ) (s : Option StackMap) : Type 0 where
    pub inside : (q : ℕ) → from ≤ q → q < to → (ls : StackMap) → at q ≡ Some ls → Gets b b.size q (kinds_of ls)
    pub behind : (ls : StackMap) → behind b.links (next_of b) p c base from s ≡ Some ls → Comes to
    pub sent : (k : ℕ) (ls : StackMap) → (let f = flow b.links (next_of b) p c base from s in f.sent k) ≡ Some ls → Comes (pick start_of L k).pc.0

  abbrev laid : (p : Piece) (L : List Target) (x : Context) (c : Setting) (Ls : List (Option StackMap)) (base : StackMap) (from to : ℕ) (s : Option StackMap) → Type 0
  laid p L x c Ls base from to s = Laid code starts b same rises at p L x c Ls base from to s

  abbrev exits_are : (p : Piece) (c : Setting) (base : StackMap) (from : ℕ) (s : Option StackMap) → Type 0
  exits_are p c base from s = ExitsAre b.links (next_of b) W p c base from s

  abbrev fits : (L : List Target) (x : Context) (c : Setting) (base : StackMap) → Type 0
  fits L x c base = Fit code starts b same rises at W L x c base

  from_none : (p : Piece) (L : List Target) (x : Context) (c : Setting) (Ls : List (Option StackMap)) (base : StackMap) (from to : ℕ)
      → laid p L x c Ls base from to None → Reaches p L c base from to None
  from_none p L x c Ls base from to l = record {
    inside = λ q y z ls h. not_both (sym h ∙ (l.agrees q y z ∙ nothing_at b.links (next_of b) p c base from q));
    behind = λ ls h. not_both (sym h ∙ (nothing b.links (next_of b) p c base from).behind);
    sent = λ k ls h. not_both (sym h ∙ (nothing b.links (next_of b) p c base from).sent k);
  }

  -- an instruction, with a mark or without
  by_op : (op : Op) (L : List Target) (x : Context) (c : Setting) (Ls : List (Option StackMap)) (base : StackMap) (from to : ℕ) (m : Option ActMark) (j : Instr) (zs : StackMap)
      → Is code.pool L op j → Stands code x.rows j m from to → Finds b at W x.rows base from zs → to ≤ b.size → IsUniform b.links op → at from ≡ Some zs → Comes from
      → ((q : ℕ) → from ≤ q → q < to → at q ≡ (if nat_eq q from then Some zs else None)) → Reaches (P.move op) L c base from to (Some zs)
  by_op op L x c Ls base from to m j zs i h u top uniform itself came only = record { inside = inside; behind = behind_it; sent = sent_off }
    where
      stands : b.at from ≡ Some (ins j m to x.rows)
      stands = stands_at code starts b same rises x.rows j m from to h

      is_here : u.here ≡ ins j m to x.rows
      is_here = is_some_of (sym u.stands ∙ stands)

      low : from ≤ b.size
      low = let r = rises_to code starts b same rises x.rows j m from to h in omega (arith, r, top)

      got : Gets b b.size from (kinds_of zs)
      got = came (ins j m to x.rows) stands zs itself

      row : effect b.links (u.here).instr ≡ effect b.links (instr_of op)
      row = ap (λ i. effect b.links i.instr) is_here ∙ same_effect b.links code.pool L op j i uniform

      inside : (q : ℕ) → from ≤ q → q < to → (ls : StackMap) → at q ≡ Some ls → Gets b b.size q (kinds_of ls)
      inside q y z ls h =
          let g = at_only code starts b same rises at W q from (Some zs) ls (only q y z) h in
          subst (λ r. Gets b b.size r (kinds_of ls)) (sym g.0) (subst (λ ks. Gets b b.size from (kinds_of ks)) (is_some_of g.1) got)

      behind_it : (ls : StackMap) → behind b.links (next_of b) (P.move op) c base from (Some zs) ≡ Some ls → Comes to
      behind_it ls h =
          let g = onward_gives (effect b.links (instr_of op)) (next_of b from) c.loop zs ls (let e = effect b.links (instr_of op) in e.gives) h in
          subst Comes (ap (λ i. i.next) is_here)
          (comes from zs (u.here).next low itself got (onward_to b at W x.rows base from zs u g.0 (ap (λ e. e.gives) row ∙ g.1)))

      sent_off : (k : ℕ) (ls : StackMap) → to_one op (aside_op b.links op (Some zs)) k ≡ Some ls → Comes (pick start_of L k).pc.0
      sent_off k ls h =
          let s = sent_by op (aside_op b.links op (Some zs)) k ls h in
          let g = aside_gives (effect b.links (instr_of op)) 0 None zs ls (let e = effect b.links (instr_of op) in e.aside) s.there in
          let jumps : j ≡ instr_to s.jump (pick start_of L k).pc.0 = subst (λ o. Is code.pool L o j) s.is i in
          let aside_is : (let e = effect b.links (instr_to s.jump 0) in e.aside) ≡ Some g.0 = subst (λ o. (let e = effect b.links (instr_of o) in e.aside) ≡ Some g.0) s.is g.1 in
          comes from zs (pick start_of L k).pc.0 low itself got (aside_to b at W x.rows base from zs u (pick start_of L k).pc.0 g.0
          (ap (λ i. target_of i.instr) is_here ∙ (ap target_of jumps ∙ has_target b.links s.jump (pick start_of L k).pc.0 g.0 aside_is)) (ap (λ e. e.aside) row ∙ g.1))

  -- the target of a row over a place that is reached
  lands : (row : Handler) (outer : List Handler) (floor : StackMap) (q : ℕ) (ks : StackMap) → Finds b at W (row ∷ outer) floor q ks → q ≤ b.size → at q ≡ Some ks → Comes q
      → row.depth ≤ length floor → Comes row.target.0
  lands row outer floor q ks u low h came d =
      comes q ks row.target.0 low h (came u.here u.stands ks h) (row_to b at W (row ∷ outer) floor q ks u row (u.covered row (zero, omega arith, refl))
      (let o = over_length u.over in let a = over_length u.above in omega (arith, o, a, d)))

  -- the end of what an always row covers, and where its target is reached from
  from_ensured : (q : Piece) (L : List Target) (x : Context) (c : Setting) (Ls : List (Option StackMap)) (base : StackMap) (from to : ℕ) (zs : StackMap)
      (l : laid (P.ensured q) L x c Ls base from to (Some zs)) → exits_are q (with_none c) base from (Some zs) → fits L x c base → to ≤ b.size → Comes from
      → Reaches q [] (with_none c) base from ((l.stands).1).0 (Some zs) → Reaches (P.ensured q) L c base from to (Some zs)
  from_ensured q L x c Ls base from to zs l n v top came r = record { inside = inside; behind = λ ls h. target; sent = λ k ls h. not_both (sym h) }
    where
      end : ℕ
      end = ((l.stands).1).0

      row : Handler
      row = row_of from to to x.depth true

      less : end < to
      less = normal_less code starts b same rises at L x c Ls base from to zs q l

      rising : from ≤ end
      rising = ordered code starts b same rises q [] (under row x) from end ((l.stands).1).1

      itself : at from ≡ Some zs
      itself = begins code starts b same rises at (P.ensured q) L x c Ls base from to zs l

      first_found : Finds b at W (row ∷ x.rows) base from zs
      first_found = ⊎_elim (λ u. finds code starts b same rises at W q [] (under row x) (with_none c) [] base from end (Some zs)
          (under_row code starts b same rises at L x c Ls base from to zs q l) n (fit_always code starts b same rises at W L x c Ls base from to zs q l v) from (omega arith) u zs itself)
          (λ u. normal_there_found code starts b same rises at W L x c Ls base from to zs q l v from u (let h = less in omega (arith, rising, h)) zs itself) (cases_lt from end)

      target : Comes to
      target = lands row x.rows base from zs first_found (let h = less in let g = rising in omega (arith, h, g, top)) itself came (let d = v.depth in omega (arith, d))

      -- the normal completion
      last : (p : ℕ) → end ≤ p → p < to → (ls : StackMap) → at p ≡ Some ls → Gets b b.size p (kinds_of ls)
      last p y z ls h =
          let i = at_only code starts b same rises at W p end (behind b.links (next_of b) q (with_none c) base from (Some zs)) ls
          (normal_alone code starts b same rises at L x c Ls base from to zs q l p y z) h in
          subst (λ m. Gets b b.size m (kinds_of ls)) (sym i.0)
          (r.behind ls i.1 _ (stands_at code starts b same rises (row ∷ x.rows) _ None end to ((l.stands).1).2) ls (ap at (sym i.0) ∙ h))

      inside : (p : ℕ) → from ≤ p → p < to → (ls : StackMap) → at p ≡ Some ls → Gets b b.size p (kinds_of ls)
      inside p y z ls h = ⊎_elim (λ u. r.inside p y u ls h) (λ u. last p u z ls h) (cases_lt p end)

  from_caught : (q r : Piece) (L : List Target) (x : Context) (c : Setting) (Ls : List (Option StackMap)) (base : StackMap) (from to : ℕ) (zs : StackMap)
      (l : laid (P.caught q r) L x c Ls base from to (Some zs)) → exits_are q (with_none c) base from (Some zs) → fits L x c base → to ≤ b.size → Comes from
      → (is_empty q ≡ false → Reaches q [] (with_none c) base from (l.stands).0 (Some zs))
      → (((ls : StackMap) → behind b.links (next_of b) q (with_none c) base from (Some zs) ≡ Some ls → Comes (l.stands).0)
      → Reaches r L c base (l.stands).0 to (behind b.links (next_of b) q (with_none c) base from (Some zs)))
      → Reaches (P.caught q r) L c base from to (Some zs)
  from_caught q r L x c Ls base from to zs l n v top came f g = by (is_empty q) refl
    where
      mid : ℕ
      mid = (l.stands).0

      row : Handler
      row = row_of from mid to x.depth false

      s : Option StackMap
      s = behind b.links (next_of b) q (with_none c) base from (Some zs)

      end : end_of (next_of b) q from ≡ mid
      end = ends code starts b same rises q [] (under row x) from mid (l.stands).1

      itself : at from ≡ Some zs
      itself = begins code starts b same rises at (P.caught q r) L x c Ls base from to zs l

      beyond : mid ≤ to
      beyond = ordered code starts b same rises r L x mid to (l.stands).2

      sent : Reaches r L c base mid to s → (k : ℕ) (ls : StackMap) → (let h = flow b.links (next_of b) (P.caught q r) c base from (Some zs) in h.sent k) ≡ Some ls
          → Comes (pick start_of L k).pc.0
      sent w k ls h = w.sent k ls (ap (λ m. let h = flow b.links (next_of b) r c base m s in h.sent k) (sym end) ∙ h)

      held_is : (t : Bool) → is_empty q ≡ t → (ls : StackMap) → behind b.links (next_of b) (P.caught q r) c base from (Some zs) ≡ Some ls → t ≡ false
      held_is true e ls h = not_both (sym h ∙ ap (λ t. if t then None else held kinds.Exc (end_of (next_of b) r (end_of (next_of b) q from)) c.loop base (Some zs)) e)
      held_is false e ls h = refl

      by : (t : Bool) → is_empty q ≡ t → Reaches (P.caught q r) L c base from to (Some zs)
      by true e =
          let here : from ≡ mid = empty_is code starts b same rises q [] (under row x) from mid (l.stands).1 e in
          let w = g (λ ls h. subst Comes here came) in record {
            inside = λ p y z ls h. w.inside p (subst (λ m. m ≤ p) here y) z ls h;
            behind = λ ls h. absurd (true≢false (held_is true e ls h));
            sent = sent w;
          }
      by false e =
          let u = f e in
          let w = g u.behind in
          let some : from < mid = has_place code starts b same rises q [] (under row x) from mid (l.stands).1 e in
          let first_found : Finds b at W (row ∷ x.rows) base from zs = finds code starts b same rises at W q [] (under row x) (with_none c) [] base from mid (Some zs)
          (under_except code starts b same rises at L x c Ls base from to zs q r l
          (λ ls h. begins code starts b same rises at r L x c Ls base mid to ls (subst (λ s. laid r L x c Ls base mid to s) h (behind_row code starts b same rises at L x c Ls base from to zs q r l)))) n
          (fit_except code starts b same rises at W L x c Ls base from to zs q r l e v) from (omega arith) some zs itself in record {
            inside = λ p y z ls h. ⊎_elim (λ i. u.inside p y i ls h) (λ i. w.inside p i z ls h) (cases_lt p mid);
            behind = λ ls h. lands row x.rows base from zs first_found (let b = beyond in omega (arith, some, b, top)) itself came (let d = v.depth in omega (arith, d));
            sent = sent w;
          }

  -- some way comes to each place that has slots, if one comes to the first
  pub reaches : (p : Piece) (L : List Target) (x : Context) (c : Setting) (Ls : List (Option StackMap)) (base : StackMap) (from to : ℕ) (s : Option StackMap)
      → laid p L x c Ls base from to s → exits_are p c base from s → fits L x c base → to ≤ b.size → ((ks : StackMap) → s ≡ Some ks → Comes from)
      → Reaches p L c base from to s
  reaches p L x c Ls base from to None l n v top came = from_none p L x c Ls base from to l
  reaches P.empty L x c Ls base from to (Some zs) l n v top came = record {
    inside = λ q y z ls h. absurd (let g : from ≡ to = l.stands in let e : ⊥ = omega (arith, g, y, z) in e);
    behind = λ ls h. subst Comes l.stands (came zs refl);
    sent = λ k ls h. not_both (sym h);
  }
  reaches (P.act op m k g) L x c Ls base from to (Some zs) l n v top came =
      let i = l.stands in
      let u = by_op op L x c Ls base from to _ i.0 zs i.1 i.2 (found code starts b same rises at W op L x c Ls base from to _ i.0 zs i.1 i.2 l.typed n v l.after) top (l.typed).uniform
      (begins code starts b same rises at (P.act op m k g) L x c Ls base from to zs l) (came zs refl) l.agrees in
      record { inside = u.inside; behind = u.behind; sent = u.sent }
  reaches (P.move op) L x c Ls base from to (Some zs) l n v top came =
      let i = l.stands in
      by_op op L x c Ls base from to _ i.0 zs i.1 i.2 (found code starts b same rises at W op L x c Ls base from to _ i.0 zs i.1 i.2 l.typed n v l.after) top (l.typed).uniform
      (begins code starts b same rises at (P.move op) L x c Ls base from to zs l) (came zs refl) l.agrees
  reaches (P.seq a d) L x c Ls base from to (Some zs) l n v top came =
      let mid : ℕ = (l.stands).0 in
      let s : Option StackMap = behind b.links (next_of b) a c base from (Some zs) in
      let end : end_of (next_of b) a from ≡ mid = ends code starts b same rises a L x from mid (l.stands).1 in
      let later : laid d L x c Ls base mid to s = second code starts b same rises at L x c Ls base from to zs a d l in
      let u = reaches a L x c Ls base from mid (Some zs) (first code starts b same rises at L x c Ls base from to zs a d l
      (λ ls e. begins code starts b same rises at d L x c Ls base mid to ls (subst (λ s. laid d L x c Ls base mid to s) e later))) n.0 v
      (let r = ordered code starts b same rises d L x mid to (l.stands).2 in omega (arith, r, top)) came in
      let w = reaches d L x c Ls base mid to s later (subst (λ m. exits_are d c base m s) end n.1) v top u.behind in record {
        inside = λ q y z ls h. ⊎_elim (λ i. u.inside q y i ls h) (λ i. w.inside q i z ls h) (cases_lt q mid);
        behind = λ ls h. w.behind ls (ap (λ m. behind b.links (next_of b) d c base m s) (sym end) ∙ h);
        sent = λ k ls h. ⊎_elim (λ e. u.sent k ls e)
            (λ e. w.sent k ls (ap (λ m. let f = flow b.links (next_of b) d c base m s in f.sent k) (sym end) ∙ e))
            (or_cases (let f = flow b.links (next_of b) a c base from (Some zs) in f.sent k) (let f = flow b.links (next_of b) d c base (end_of (next_of b) a from) s in f.sent k) ls h);
      }
  reaches (P.block q) L x c Ls base from to (Some zs) l n v top came =
      let u = reaches q (target to x.depth ∷ L) x (with_label (end_of (next_of b) q from) c) (behind b.links (next_of b) (P.block q) c base from (Some zs) ∷ Ls) base from to (Some zs)
      (in_block code starts b same rises at L x c Ls base from to zs q l) n
      (fit_label code starts b same rises at W L x c base (target to x.depth) (end_of (next_of b) q from) (ends code starts b same rises q (target to x.depth ∷ L) x from to l.stands) v) top came in
      record {
        inside = u.inside;
        behind = λ ls h. ⊎_elim (λ e. u.behind ls e) (λ e. u.sent 0 ls e)
            (or_cases (behind b.links (next_of b) q (with_label (end_of (next_of b) q from) c) base from (Some zs))
            (let f = flow b.links (next_of b) q (with_label (end_of (next_of b) q from) c) base from (Some zs) in f.sent 0) ls h);
        sent = λ k ls h. u.sent (suc k) ls h;
      }
  reaches (P.headed q) L x c Ls base from to (Some zs) l n v top came =
      let u = reaches q (target from x.depth ∷ L) x (with_label from c) (Some zs ∷ Ls) base from to (Some zs) (in_head code starts b same rises at L x c Ls base from to zs q l) n
      (fit_label code starts b same rises at W L x c base (target from x.depth) from refl v) top came in
      record { inside = u.inside; behind = u.behind; sent = λ k ls h. u.sent (suc k) ls h }
  reaches (P.closed q) L x c Ls base from to (Some zs) l n v top came =
      let u = reaches q [] x (with_none c) [] base from to (Some zs) (in_closed code starts b same rises at L x c Ls base from to zs q l) n
      (fit_none code starts b same rises at W L x c base v) top came in
      record { inside = u.inside; behind = u.behind; sent = λ k ls h. not_both (sym h) }
  reaches (P.looped k q) L x c Ls base from to (Some zs) l n v top came =
      let u = reaches q [] (in_loop (pick start_of L k) to x) (with_loop k (end_of (next_of b) q from) (length base) c) [] base from to (Some zs)
      (in_a_loop code starts b same rises at L x c Ls base from to zs k q l) n (fit_loop code starts b same rises at W L x c base k q from to l.stands v) top came in
      record { inside = u.inside; behind = u.behind; sent = λ k ls h. not_both (sym h) }
  reaches (P.leave e m k) L x c Ls base from to (Some zs) l n v top came =
      let (t, s) = leave_stands code starts b same rises x.around e m k x.rows from to l.stands in
      record {
        inside = λ q y z ls h. let i = at_only code starts b same rises at W q from (Some zs) ls (l.agrees q y z) h in
            subst (λ r. Gets b b.size r (kinds_of ls)) (sym i.0)
            (came zs refl _ (stands_at code starts b same rises x.rows _ _ from to s) ls (ap at (sym i.0) ∙ h));
        behind = λ ls h. not_both (sym h);
        sent = λ k ls h. not_both (sym h);
      }
  reaches (P.ensured q) L x c Ls base from to (Some zs) l n v top came =
      from_ensured q L x c Ls base from to zs l n v top (came zs refl)
      (reaches q [] (under (row_of from to to x.depth true) x) (with_none c) [] base from ((l.stands).1).0 (Some zs) (under_row code starts b same rises at L x c Ls base from to zs q l) n
      (fit_always code starts b same rises at W L x c Ls base from to zs q l v)
      (let h = normal_less code starts b same rises at L x c Ls base from to zs q l in omega (arith, h, top)) came)
  reaches (P.caught q r) L x c Ls base from to (Some zs) l n v top came =
      let mid : ℕ = (l.stands).0 in
      let s : Option StackMap = behind b.links (next_of b) q (with_none c) base from (Some zs) in
      let later : laid r L x c Ls base mid to s = behind_row code starts b same rises at L x c Ls base from to zs q r l in
      from_caught q r L x c Ls base from to zs l n.0 v top (came zs refl)
      (λ e. reaches q [] (under (row_of from mid to x.depth false) x) (with_none c) [] base from mid (Some zs)
      (under_except code starts b same rises at L x c Ls base from to zs q r l
      (λ ls h. begins code starts b same rises at r L x c Ls base mid to ls (subst (λ s. laid r L x c Ls base mid to s) h later))) n.0
      (fit_except code starts b same rises at W L x c Ls base from to zs q r l e v)
      (let h = ordered code starts b same rises r L x mid to (l.stands).2 in omega (arith, h, top)) came)
      (λ f. reaches r L x c Ls base mid to s later
      (subst (λ m. exits_are r c base m s) (ends code starts b same rises q [] (under (row_of from mid to x.depth false) x) from mid (l.stands).1) n.1) v top f)
  reaches (P.deeper k q) L x c Ls base from to (Some zs) l n v top came =
      let u = reaches q L (over k x) c Ls (deepened k base (Some zs)) from to (Some zs) (deep code starts b same rises at L x c Ls base from to zs k q l) n
      (fit_deeper code starts b same rises at W L x c base k (deepened k base (Some zs)) (l.typed).0 (l.typed).2 v) top came in
      record { inside = u.inside; behind = u.behind; sent = u.sent }
  reaches (P.started k q) L x c Ls base from to (Some zs) l n v top came =
      let u = reaches q L x c Ls base from to (Some zs) (at_start code starts b same rises at L x c Ls base from to zs k q l) n v top came in
      record { inside = u.inside; behind = u.behind; sent = u.sent }
  reaches (P.numbered k q) L x c Ls base from to (Some zs) l n v top came =
      let u = reaches q L x c Ls base from to (Some zs) (in_count code starts b same rises at L x c Ls base from to zs k q l) n v top came in
      record { inside = u.inside; behind = u.behind; sent = u.sent }
