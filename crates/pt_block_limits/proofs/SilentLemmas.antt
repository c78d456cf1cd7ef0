-- Walks on which no act begins are ways of steps between places that have sizes.
use Rattle.std.proofs.Common.{◌≡◌, ℕ, ◌+◌, ◌<◌, Bool, true, false, List, [], ◌∷◌, length, filter, Option, Some, None, refl, sym, ap, ◌∙◌, subst, arith, inl, inr}
use Rattle.std.specs.Prelude.{cond, Contains, is_some, nat_eq, slice_index_or}
use Rattle.std.proofs.lemmas.List.Elements.{Contains-append_left, Contains-append_right, Contains-append_cases}
use Rattle.std.proofs.lemmas.Option.{same_Some}
use Rattle.pt_instr.specs.declared.Instr.{Instr}
use Rattle.pt_instr.specs.Encoding.{encoding}
use Rattle.pt_instr.specs.Effects.{Kinds}
use Rattle.pt_ranges.specs.declared.handlers.Handler.{Handler}
use Rattle.pt_ranges.specs.declared.lines.ActMark.{ActMark}
use Rattle.pt_ranges.specs.Rows.{covers}
use Rattle.pt_code.specs.declared.CodeBlock.{CodeBlock}
use Rattle.pt_code.specs.declared.Code.{Code}
use Rattle.pt_code.specs.View.{Ins, ins_at, laid_from, IsView}
use Rattle.pt_places.specs.declared.places.Place as P
use Rattle.pt_places.specs.PlaceTable.{place_at, HasPlaces}
use Rattle.pt_sizes.specs.Flow.{entry}
use Rattle.pt_sizes.proofs.Tables.{entry_in}
use Rattle.sem_fits.specs.fits.Block.{Block, effect, block_of}
use Rattle.sem_fits.specs.fits.Steps.{Step, step, steps, steps_of, by_instruction, by_handlers, has_enough, is_within, landing}
use Rattle.sem_fits.specs.fits.Places as L
use Rattle.sem_fits.specs.fits.Places.{Gets, Reached}
use Rattle.sem_fits.specs.fits.Leaves as D
use Rattle.sem_fits.specs.fits.Leaves.{Departs, Goes, Holds}
use Rattle.sem_fits.specs.fits.Fits as F
use Rattle.sem_fits.specs.fits.Fits.{IsLeast, Silent, SilentLoop, Unmarked}
use Rattle.sem_fits.specs.fits.Laws.{IsLaid}
use Rattle.sem_fits.proofs.fits.ViewLaid.{view_is_laid}
use Rattle.pt_verify_depths.specs.Sizes as S
use Rattle.pt_verify_depths.specs.Sizes.{is_enough, leaves_enough, Sized}
use Rattle.pt_verify_depths.specs.PlaceTable as T
use Rattle.pt_verify_depths.specs.PlaceTable.{AreSizes}
use Rattle.pt_verify_depths.proofs.SizeLemmas.{kinds_have_sizes, sizes_have_kinds}
use Rattle.pt_cycles.specs.declared.cycles.Cycles.{Cycles}
use Rattle.pt_cycles.specs.declared.cycles.Cycles.TheVariants as cycles
use Rattle.pt_step_graph.specs.declared.exits.Exits.{Exits}
use Rattle.pt_step_graph.specs.Steps as G
use Rattle.pt_step_graph.specs.Steps.{own, Ways, Leads, own_step, held_step, lands, StepTo, Way, TellsSteps}
use Rattle.pt_block_limits.specs.Exits.{exits_of, exits_at, HasExits}
use Rattle.pt_block_limits.specs.Limits.{HasHeld, TellsLoops}
use Rattle.pt_block_limits.proofs.Steps.{from_steps, to_steps, in_aside, leave_jumps, kept, keeps, mapped, maps}

some_none : {X : Type 0} (x : X) → None ≡ Some x → ⊥
some_none x e = cc

module _ (b : Block) (laid : IsLaid b) (rows : (pc : ℕ) (i : Ins) → b.at pc ≡ Some i → i.rows ≡ filter (λ row. covers row (record { 0 = pc })) b.handlers)
    (table : List (Option ℕ)) (are : AreSizes b table) (bundles : List (List ℕ)) (held : List (Option ℕ)) (has : HasHeld b bundles held)
    (w : Ways) (long : length w.exits ≡ length table) (each : (pc : ℕ) → entry w.exits pc ≡ exits_at (place_at (b.at pc)) (entry table pc) (entry held pc))
    (same_rows : w.rows ≡ b.handlers) (same_bundles : w.bundles ≡ bundles) where
  sized : (q : ℕ) (ks : Kinds) → Gets b b.size q ks → entry table q ≡ Some (length ks)
  sized q ks got = are.whole b.size q (length ks) (kinds_have_sizes b b.size q ks got)

  inside : (q : ℕ) (ks : Kinds) → Gets b b.size q ks → q < length w.exits
  inside q ks got = let h = entry_in table q (length ks) (sized q ks got) in omega (arith, h, long)

  exits_here : (q : ℕ) (i : Ins) (ks : Kinds) → b.at q ≡ Some i → i.mark ≡ None → Gets b b.size q ks
      → entry w.exits q ≡ Some (exits_of i.instr i.next (entry held q))
  exits_here q i ks at_q silent got = each q ∙ (ap (λ o. exits_at (place_at o) (entry table q) (entry held q)) at_q
      ∙ (ap (λ o. exits_at (place_at (Some i)) o (entry held q)) (sized q ks got)
      ∙ ap (λ m. cond (is_some m) None (Some (exits_of i.instr i.next (entry held q)))) silent))

  -- a step on which no act begins is a step to a place
  by_row : (q r k : ℕ) (i j : Ins) (ks ls : Kinds) → i.mark ≡ None → Reached b b.size q i ks → Contains (steps b q ks) (step r ls k) → b.at r ≡ Some j
      → StepTo w q r
  by_row q r k i j ks ls silent reached c at_r = record {
    exits = exits_of i.instr i.next (entry held q);
    is = exits_here q i ks reached.stands silent reached.gets;
    inside = inside r ls (L.onward reached.gets reached.low c j at_r);
    leads = elim (Contains-append_cases (by_instruction (effect b.links i.instr) ks q i) (by_handlers (effect b.links i.instr) ks i.rows) (step r ls k)
        (subst (λ o. Contains (steps_of b.links q ks o) (step r ls k)) reached.stands c)) [
          | inl a ↦ own_step (from_steps b.links i ks q (entry held q) (step r ls k) a)
          | inr a ↦ (let (row, (d, same)) = mapped (landing ks) (filter (is_within (effect b.links i.instr) ks) i.rows) (step r ls k) a in
              let x = kept (is_within (effect b.links i.instr) ks) i.rows row d in
              let y = kept (λ h. covers h (record { 0 = q })) b.handlers row (subst (λ hs. Contains hs row) (rows q i reached.stands) x.0) in
              subst (λ z. Leads w q (exits_of i.instr i.next (entry held q)) z) (ap (λ s. s.to) same)
              (lands (subst (λ hs. Contains hs row) (sym same_rows) y.0) y.1))
        ];
  }

  same_ins : (q : ℕ) (i j : Ins) → b.at q ≡ Some i → b.at q ≡ Some j → i ≡ j
  same_ins q i j e f = same_Some _ _ (sym e ∙ f)

  by_leave : (q t : ℕ) (i : Ins) (hs : List Handler) (ks ls : Kinds) → b.at q ≡ Some i → i.mark ≡ None → Departs b b.size t q hs ks → Gets b b.size t ls
      → StepTo w q t
  by_leave q t i hs ks ls at_q silent (D.leaves {i = j} reached is) got =
      let same : i ≡ j = same_ins q i j at_q reached.stands in record {
        exits = exits_of i.instr i.next (entry held q);
        is = exits_here q i ks at_q silent reached.gets;
        inside = inside t ls got;
        leads = own_step (in_aside b.links i ks q (entry held q) t (leave_jumps i.instr t (ap (λ x. x.instr) same ∙ is)));
      }
  by_leave q t i hs ks ls at_q silent (D.let_go {ks = kk} reached ends holds) got =
      let d = has.whole q t (record { ins = _; kinds = kk; reached = reached; ends = ends; holds = holds }) in record {
        exits = exits_of i.instr i.next (entry held q);
        is = exits_here q i kk at_q silent reached.gets;
        inside = inside t ls got;
        leads = held_step d.is (subst (λ bs. Contains (slice_index_or bs d.bundle []) t) (sym same_bundles) d.among);
      }

  silent_step : (q r k : ℕ) → Unmarked b q → Goes b b.size q r k → StepTo w q r
  silent_step q r k u (D.by_row {i = i} {j = j} {ks = ks} {ls = ls} reached c at_r) =
      let same : u.ins ≡ i = same_ins q u.ins i u.stands reached.stands in
      by_row q r k i j ks ls (subst (λ x. x.mark ≡ None) same u.silent) reached c at_r
  silent_step q r k u (D.by_leave {rows = hs} {ks = ks} {ls = ls} departs got) = by_leave q r u.ins hs ks ls u.stands u.silent departs got

  pub way_of : (q r : ℕ) → Silent b q r → Way w q r
  way_of q r (F.once {k = k} u s) = G.once (silent_step q r k u s)
  way_of q r (F.more {r = p} {k = k} v u s) = G.more (way_of q p v) (silent_step p r k u s)

  -- and a step to a place that has a size is one
  pub record IsSized (r : ℕ) : Type 0 where
    pub size : ℕ
    pub is : entry table r ≡ Some size

  gets_at : (r : ℕ) → IsSized r → (ls : Kinds) × Gets b b.size r ls
  gets_at r s = let k = sizes_have_kinds b b.size r s.size (are.sound r s.size s.is) in (k.kinds, k.gets)

  ins_of : (r : ℕ) (ls : Kinds) → Gets b b.size r ls → (j : Ins) × (b.at r ≡ Some j)
  ins_of r ls (L.start j e) = (j, e)
  ins_of r ls (L.onward g low c j e) = (j, e)

  pub record Began (q : ℕ) (e : Exits) : Type 0 where
    pub ins : Ins
    pub kinds : Kinds
    pub reached : Reached b b.size q ins kinds
    pub silent : ins.mark ≡ None
    pub exits_are : e ≡ exits_of ins.instr ins.next (entry held q)

  began_at : (q : ℕ) (e : Exits) → (o : Option Ins) → b.at q ≡ o → (s : Option ℕ) → entry table q ≡ s → exits_at (place_at o) s (entry held q) ≡ Some e
      → Began q e
  began_at q e None at_q s is f = absurd (some_none e f)
  began_at q e (Some i) at_q None is f = absurd (some_none e f)
  began_at q e (Some i) at_q (Some n) is f = by_mark i.mark refl f
    where
      by_mark : (m : Option ActMark) → i.mark ≡ m → cond (is_some m) None (Some (exits_of i.instr i.next (entry held q))) ≡ Some e → Began q e
      by_mark (Some a) h g = absurd (some_none e g)
      by_mark None h g = let (ks, got) = gets_at q (record { size = n; is = is }) in record {
        ins = i;
        kinds = ks;
        reached = record { gets = got; low = laid q i at_q; stands = at_q };
        silent = h;
        exits_are = sym (same_Some _ _ g);
      }

  began : (q : ℕ) (e : Exits) → entry w.exits q ≡ Some e → Began q e
  began q e is = began_at q e (b.at q) refl (entry table q) refl (sym (each q) ∙ is)

  enough : (q : ℕ) (i : Ins) (ks : Kinds) → Reached b b.size q i ks → has_enough (effect b.links i.instr) ks ≡ true
  enough q i ks reached = by_test (is_enough (effect b.links i.instr) (length ks)) refl
    where
      by_test : (t : Bool) → is_enough (effect b.links i.instr) (length ks) ≡ t → t ≡ true
      by_test true e = refl
      by_test false e = absurd (are.agree b.size (T.few (S.lacks (kinds_have_sizes b b.size q ks reached.gets) reached.low reached.stands e)))

  shallow : (q : ℕ) (i : Ins) (ks : Kinds) → Reached b b.size q i ks → (row : Handler) → Contains i.rows row → is_within (effect b.links i.instr) ks row ≡ true
  shallow q i ks reached row among = by_test (leaves_enough (effect b.links i.instr) (length ks) row) refl
    where
      by_test : (t : Bool) → leaves_enough (effect b.links i.instr) (length ks) row ≡ t → t ≡ true
      by_test true e = refl
      by_test false e = absurd (are.agree b.size (T.deep row (S.deep (kinds_have_sizes b b.size q ks reached.gets) reached.low reached.stands among e)))

  pub record SilentStep (q r : ℕ) : Type 0 where
    pub unmarked : Unmarked b q
    pub kept : ℕ
    pub goes : Goes b b.size q r kept

  goes_by : (q : ℕ) (i : Ins) (ks : Kinds) → Reached b b.size q i ks → i.mark ≡ None → (s : Step) → Contains (steps b q ks) s → (j : Ins) → b.at s.to ≡ Some j
      → SilentStep q s.to
  goes_by q i ks reached silent s c j at_r = record {
    unmarked = record { ins = i; stands = reached.stands; silent = silent };
    kept = s.kept;
    goes = D.by_row reached c at_r;
  }

  step_to : (q r : ℕ) (e : Exits) → Began q e → IsSized r → Leads w q e r → SilentStep q r
  step_to q r e g s l = by_leads (gets_at r s) (subst (λ x. Leads w q x r) g.exits_are l)
    where
      i : Ins
      i = g.ins

      by_leads : (ls : Kinds) × Gets b b.size r ls → Leads w q (exits_of g.ins.instr g.ins.next (entry held q)) r → SilentStep q r
      by_leads (ls, got) (own_step c) = let (j, at_r) = ins_of r ls got in
          elim (to_steps b.links g.ins g.kinds q (entry held q) (enough q g.ins g.kinds g.reached) r c) [
            | inl (x, (d, same)) ↦ subst (λ z. SilentStep q z) same (goes_by q g.ins g.kinds g.reached g.silent x
                (subst (λ o. Contains (steps_of b.links q g.kinds o) x) (sym g.reached.stands)
                (Contains-append_left (by_instruction (effect b.links g.ins.instr) g.kinds q g.ins)
                (by_handlers (effect b.links g.ins.instr) g.kinds g.ins.rows) x d))
                j (subst (λ z. b.at z ≡ Some j) (sym same) at_r))
            | inr is ↦ record {
              unmarked = record { ins = g.ins; stands = g.reached.stands; silent = g.silent };
              kept = _;
              goes = D.by_leave (D.leaves g.reached is) got;
            }
          ]
      by_leads (ls, got) (held_step {c} h d) =
          let x = has.sound q r (record { bundle = c; is = h; among = subst (λ bs. Contains (slice_index_or bs c []) r) same_bundles d }) in record {
            unmarked = record { ins = g.ins; stands = g.reached.stands; silent = g.silent };
            kept = _;
            goes = D.by_leave (D.let_go x.reached x.ends x.holds) got;
          }
      by_leads (ls, got) (lands {row} c u) = let (j, at_r) = ins_of row.target.0 ls got in
          let among : Contains g.ins.rows row = subst (λ hs. Contains hs row) (sym (rows q g.ins g.reached.stands))
          (keeps (λ h. covers h (record { 0 = q })) b.handlers row (subst (λ hs. Contains hs row) same_rows c) u) in
          goes_by q g.ins g.kinds g.reached g.silent (landing g.kinds row)
          (subst (λ o. Contains (steps_of b.links q g.kinds o) (landing g.kinds row)) (sym g.reached.stands)
          (Contains-append_right (by_instruction (effect b.links g.ins.instr) g.kinds q g.ins)
          (by_handlers (effect b.links g.ins.instr) g.kinds g.ins.rows) (landing g.kinds row)
          (maps (landing g.kinds) (filter (is_within (effect b.links g.ins.instr) g.kinds) g.ins.rows) row
          (keeps (is_within (effect b.links g.ins.instr) g.kinds) g.ins.rows row among (shallow q g.ins g.kinds g.reached row among)))))
          j at_r

  source_sized : (q r : ℕ) → StepTo w q r → IsSized q
  source_sized q r s = let g = began q s.exits s.is in record { size = length g.kinds; is = sized q g.kinds g.reached.gets }

  first_sized : (q r : ℕ) → Way w q r → IsSized q
  first_sized q r (G.once s) = source_sized q r s
  first_sized q r (G.more {r = p} v s) = first_sized q p v

  pub silent_of : (q r : ℕ) → Way w q r → IsSized r → Silent b q r
  silent_of q r (G.once s) z = let x = step_to q r s.exits (began q s.exits s.is) z s.leads in F.once x.unmarked x.goes
  silent_of q r (G.more {r = p} v s) z = let x = step_to p r s.exits (began p s.exits s.is) z s.leads in
      F.more (silent_of q p v (source_sized p r s)) x.unmarked x.goes

  pub tells_loops : (told : Cycles) → TellsSteps w told → TellsLoops b told
  tells_loops (cycles.Ranks t) h = λ q r v. h q r (way_of q r v)
  tells_loops (cycles.Least pc) h = record {
    holds = silent_of pc pc h.round (first_sized pc pc h.round);
    least = λ q lt v. h.least q lt (way_of q q v);
  }

-- the rows of an instruction as it is seen are those that cover it
pub rows_laid : (c : CodeBlock) (at : ℕ) (is : List Instr) (pc : ℕ) (i : Ins) → laid_from c at is pc ≡ Some i
    → i.rows ≡ filter (λ row. covers row (record { 0 = pc })) c.handlers
rows_laid c at [] pc i e = absurd (some_none i e)
rows_laid c at (j ∷ js) pc i e = by_place (λ f. rows_laid c (at + length (encoding j)) js pc i f) (nat_eq at pc) e
  where
    by_place : (laid_from c (at + length (encoding j)) js pc ≡ Some i → i.rows ≡ filter (λ row. covers row (record { 0 = pc })) c.handlers)
        → (t : Bool) → cond t (Some (ins_at c pc j)) (laid_from c (at + length (encoding j)) js pc) ≡ Some i
        → i.rows ≡ filter (λ row. covers row (record { 0 = pc })) c.handlers
    by_place ih true f = sym (ap (λ x. x.rows) (same_Some _ _ f))
    by_place ih false f = ih f

pub tells_block : (code : Code) (c : CodeBlock) (view : ℕ → Option Ins) → IsView c view → (places : List (Option P.Place)) → HasPlaces view places
    → (table : List (Option ℕ)) → AreSizes (block_of code c view) table → (bundles : List (List ℕ)) (held : List (Option ℕ))
    → HasHeld (block_of code c view) bundles held
    → (exits : List (Option Exits)) → HasExits places table held exits → (hs : List Handler) → hs ≡ c.handlers
    → (told : Cycles) → TellsSteps (record { exits = exits; bundles = bundles; rows = hs }) told → TellsLoops (block_of code c view) told
tells_block code c view v places shown table are bundles held has exits made hs same told t =
    tells_loops (block_of code c view) (view_is_laid code c view v)
    (λ pc i e. rows_laid c 0 v.instrs pc i (sym (ap (λ f. f pc) v.view_is) ∙ e))
    table are bundles held has (record { exits = exits; bundles = bundles; rows = hs }) made.long
    (λ pc. made.each pc ∙ ap (λ o. exits_at o (entry table pc) (entry held pc)) (shown pc)) same refl told t
