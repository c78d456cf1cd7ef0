-- What each call comes to at each of its exits.
use Rattle.std.proofs.Common.{◌≡◌, ℕ, ℤ, pos, negsuc, ◌<◌, ◌≤◌, ◌^◌, List, [], ◌∷◌, length, zero, suc, Bool, true, false, cond, not, ◌&&◌, Option, None, Some, is_some, refl, sym, ap, ◌∙◌, subst, arith, inl, inr, true≢false, unsigned_abs, Result, Ok, Err, IsErrAnd}
use Rattle.std.proofs.lemmas.Bool.{cases_lt, ltb-true, lt-ltb, le-ltb, cond-true, cond-false, and_left, and_right, and_from}
use Rattle.std.specs.Int.{FitsUnsignedBits}
use Rattle.sem_run.specs.run.Machine.{BlockId}
use Rattle.pt_heap.specs.declared.value.Value.{Value}
use Rattle.sem_run.specs.run.Rows.{row_at, put_at}
use Rattle.sem_run.specs.run.Tools.{unused, or_unused, callback, has_event, is_off, wants, Tool, Tools, ToolCall, ToolAnswer, Location, is_local, ToolResult, tool_at, with_tool, is_id, unsigned, are_listed, are_local, only_bit, bits, tool_call, use_tool, set_events, set_local_events, register_for, use_id, give_set, give_local_set, register, done, wrong, in_use, not_in_use, bad_set}
use Rattle.pt_monitor.specs.declared.error.ToolErr.{ToolErr}
use Rattle.pt_monitor.specs.declared.error.ToolErr.TheVariants.{Memory}
use Rattle.pt_monitor.specs.Alike.{AreAlike, ToolsAlike}
use Rattle.pt_monitor.specs.Answers.{tool_place, reply, UnlessMemory, Disables}
use Rattle.pt_monitor.specs.Events.{listed}
use Rattle.pt_monitor.proofs.Bits.{some_same, some_none, listed_is, none_listed}
use Rattle.pt_monitor.proofs.Calls.{at_place}
use Rattle.pt_monitor.proofs.ToolRows.{tools_alike}

pub place_within : (id : ℤ) (n : ℕ) → FitsUnsignedBits 64 id → n ≡ unsigned_abs id → n < 6 → Some n ≡ tool_place id
place_within (pos m) n f e l = sym (cond-true (is_id m) (Some m) None (lt-ltb m 6 (omega arith)) ∙ ap (λ (k : ℕ). Some k) (sym e))
place_within (negsuc m) n f e l = absurd f

pub place_beyond : (id : ℤ) (n : ℕ) → FitsUnsignedBits 64 id → n ≡ unsigned_abs id → 6 ≤ n → None ≡ tool_place id
place_beyond (pos m) n f e l = sym (cond-false (is_id m) (Some m) None (le-ltb m 6 (omega arith)))
place_beyond (negsuc m) n f e l = absurd f

pub place_far : (id : ℤ) → (FitsUnsignedBits 64 id → ⊥) → None ≡ tool_place id
place_far (pos m) h = sym (cond-false (is_id m) (Some m) None (le-ltb m 6 (elim (cases_lt m (2 ^ 64)) [ inl l ↦ absurd (h l) | inr g ↦ omega arith ])))
place_far (negsuc m) h = refl

pub place_below : (id : ℤ) (n : ℕ) → Some n ≡ tool_place id → n < 6
place_below (pos m) n e = by (is_id m) refl e
  where
    by : (t : Bool) → is_id m ≡ t → Some n ≡ cond t (Some m) None → n < 6
    by true h e = omega (arith, ltb-true m 6 h, some_same n m e)
    by false h e = absurd (some_none n e)
place_below (negsuc m) n e = absurd (some_none n e)

module _ {V : Type 0} (id : ℤ) (n : ℕ) (place : Some n ≡ tool_place id) (ts : Tools V) where
  pub used : (x : List ℕ) → is_some (tool_at n ts).name ≡ false → tool_call (use_id id x) ts ≡ (done, with_tool n (record (tool_at n ts) { name = Some x }) ts)
  used x free = at_place id n (sym place) ts (λ m. use_tool m x ts (tool_at m ts).name) ∙ by (tool_at n ts).name free
    where
      by : (o : Option (List ℕ)) → is_some o ≡ false → use_tool n x ts o ≡ (done, with_tool n (record (tool_at n ts) { name = Some x }) ts)
      by None h = refl
      by (Some y) h = absurd (true≢false h)

  pub taken : (x : List ℕ) → is_some (tool_at n ts).name ≡ true → tool_call (use_id id x) ts ≡ (wrong in_use, ts)
  taken x held = at_place id n (sym place) ts (λ m. use_tool m x ts (tool_at m ts).name) ∙ by (tool_at n ts).name held
    where
      by : (o : Option (List ℕ)) → is_some o ≡ true → use_tool n x ts o ≡ (wrong in_use, ts)
      by None h = absurd (true≢false (sym h))
      by (Some y) h = refl

  module _ (z : ℤ) where
    given_at : tool_call (give_set id z) ts ≡ set_events n (unsigned z) ts (tool_at n ts).name
    given_at = at_place id n (sym place) ts (λ m. set_events m (unsigned z) ts (tool_at m ts).name)

    pub set_unused : is_some (tool_at n ts).name ≡ false → tool_call (give_set id z) ts ≡ (wrong not_in_use, ts)
    set_unused free = given_at ∙ by (tool_at n ts).name free
      where
        by : (o : Option (List ℕ)) → is_some o ≡ false → set_events n (unsigned z) ts o ≡ (wrong not_in_use, ts)
        by None h = refl
        by (Some y) h = absurd (true≢false h)

    abbrev with_set : ℕ → ToolResult V
    with_set s = (done, with_tool n (record (tool_at n ts) { set = s }) ts)

    in_use_at : is_some (tool_at n ts).name ≡ true → tool_call (give_set id z) ts
        ≡ cond (are_listed (unsigned z)) (with_set (unsigned z)) (wrong bad_set, ts)
    in_use_at held = given_at ∙ by (tool_at n ts).name held
      where
        by : (o : Option (List ℕ)) → is_some o ≡ true → set_events n (unsigned z) ts o
            ≡ cond (are_listed (unsigned z)) (with_set (unsigned z)) (wrong bad_set, ts)
        by None h = absurd (true≢false (sym h))
        by (Some y) h = refl

    pub set_bad : is_some (tool_at n ts).name ≡ true → None ≡ listed z → tool_call (give_set id z) ts ≡ (wrong bad_set, ts)
    set_bad held bad = in_use_at held ∙ ap (λ t. cond t (with_set (unsigned z)) (wrong bad_set, ts)) (none_listed z bad)

    pub set_given : is_some (tool_at n ts).name ≡ true → (s : ℕ) → Some s ≡ listed z
        → tool_call (give_set id z) ts ≡ (done, with_tool n (record (tool_at n ts) { set = s }) ts)
    set_given held s is = in_use_at held ∙ ap (λ t. cond t (with_set (unsigned z)) (wrong bad_set, ts)) (listed_is z s is).1
        ∙ ap with_set (sym (listed_is z s is).0)

    module _ (b : BlockId) where
      local_at : tool_call (give_local_set id b z) ts ≡ set_local_events n b (unsigned z) ts (tool_at n ts).name
      local_at = at_place id n (sym place) ts (λ m. set_local_events m b (unsigned z) ts (tool_at m ts).name)

      pub local_unused : is_some (tool_at n ts).name ≡ false → tool_call (give_local_set id b z) ts ≡ (wrong not_in_use, ts)
      local_unused free = local_at ∙ by (tool_at n ts).name free
        where
          by : (o : Option (List ℕ)) → is_some o ≡ false → set_local_events n b (unsigned z) ts o ≡ (wrong not_in_use, ts)
          by None h = refl
          by (Some y) h = absurd (true≢false h)

      abbrev with_local : ℕ → ToolResult V
      with_local s = (done, with_tool n (record (tool_at n ts) { local = record { block = b; set = s } ∷ (tool_at n ts).local }) ts)

      local_in_use : is_some (tool_at n ts).name ≡ true → tool_call (give_local_set id b z) ts
          ≡ cond (are_listed (unsigned z) && are_local (unsigned z)) (with_local (unsigned z)) (wrong bad_set, ts)
      local_in_use held = local_at ∙ by (tool_at n ts).name held
        where
          by : (o : Option (List ℕ)) → is_some o ≡ true → set_local_events n b (unsigned z) ts o
              ≡ cond (are_listed (unsigned z) && are_local (unsigned z)) (with_local (unsigned z)) (wrong bad_set, ts)
          by None h = absurd (true≢false (sym h))
          by (Some y) h = refl

      pub local_unlisted : is_some (tool_at n ts).name ≡ true → None ≡ listed z → tool_call (give_local_set id b z) ts ≡ (wrong bad_set, ts)
      local_unlisted held bad = local_in_use held
          ∙ ap (λ t. cond t (with_local (unsigned z)) (wrong bad_set, ts)) (and_left (are_listed (unsigned z)) (are_local (unsigned z)) (none_listed z bad))

      pub local_bad : is_some (tool_at n ts).name ≡ true → (s : ℕ) → Some s ≡ listed z → are_local s ≡ false
          → tool_call (give_local_set id b z) ts ≡ (wrong bad_set, ts)
      local_bad held s is bad = local_in_use held
          ∙ ap (λ t. cond t (with_local (unsigned z)) (wrong bad_set, ts))
          (and_right (are_listed (unsigned z)) (are_local (unsigned z)) (ap are_local (sym (listed_is z s is).0) ∙ bad))

      pub local_given : is_some (tool_at n ts).name ≡ true → (s : ℕ) → Some s ≡ listed z → are_local s ≡ true
          → tool_call (give_local_set id b z) ts ≡ (done, with_tool n (record (tool_at n ts) { local = record { block = b; set = s } ∷ (tool_at n ts).local }) ts)
      local_given held s is good = local_in_use held
          ∙ ap (λ t. cond t (with_local (unsigned z)) (wrong bad_set, ts))
          (and_from (are_listed (unsigned z)) (are_local (unsigned z)) (listed_is z s is).1 (ap are_local (sym (listed_is z s is).0) ∙ good))
          ∙ ap with_local (sym (listed_is z s is).0)

    pub registered : (f : Option V) (o : Option ℕ) → o ≡ only_bit (unsigned z) bits → tool_call (register id z f) ts ≡ register_for n o f ts
    registered f o is = at_place id n (sym place) ts (λ m. register_for m (only_bit (unsigned z) bits) f ts) ∙ ap (λ k. register_for n k f ts) (sym is)

-- at the exits of the code
pub answered : {A : Type 0} (told : ToolAnswer Value → A) (c : ToolCall Value) (ts : Tools Value) (r : ToolResult Value) → tool_call c ts ≡ r
    → reply told r.0 ≡ reply told (tool_call c ts).0
answered told c ts r h = sym (ap (λ (s : ToolResult Value). reply told s.0) h)

pub leaves : (c : ToolCall Value) (ts : Tools Value) (r : ToolResult Value) (new : Tools Value) → tool_call c ts ≡ r → ToolsAlike new r.1
    → ToolsAlike new (tool_call c ts).1
leaves c ts r new h same = subst (λ (s : ToolResult Value). ToolsAlike new s.1) (sym h) same

pub put_alike : (n : ℕ) (t : Tool Value) (ts : Tools Value) (rows : List (Tool Value)) → rows ≡ put_at n t ts.tools
    → ToolsAlike (record { tools = rows; off = ts.off }) (with_tool n t ts)
put_alike n t ts rows e = subst (λ (rs : List (Tool Value)). ToolsAlike (record { tools = rs; off = ts.off }) (with_tool n t ts)) (sym e) (tools_alike (with_tool n t ts))

pub rows_alike : (n : ℕ) (t : Tool Value) (ts : Tools Value) (rows : List (Tool Value)) → AreAlike rows (put_at n t ts.tools)
    → ToolsAlike (record { tools = rows; off = ts.off }) (with_tool n t ts)
rows_alike n t ts rows h = record { tools = h; off = λ l. refl }

pub unless_memory : (A : Type 0) (r : Result A ToolErr) (P : Type 0) → IsErrAnd r (λ e. e ≡ Memory) → UnlessMemory r P
unless_memory A (Ok x) P h = absurd h
unless_memory A (Err e) P h = subst (λ (d : ToolErr). UnlessMemory {A = A} (Err d) P) (sym h) tt

pub disables_none : (l : Location) (old new : Tools Value) (r : Result (Unit {0}) ToolErr) → IsErrAnd r (λ e. e ≡ Memory) → is_local l.bit ≡ true → new ≡ old
    → Disables l old new r
disables_none l old new (Ok x) h local same = absurd h
disables_none l old new (Err e) h local same = subst (λ (d : ToolErr). Disables l old new (Err d)) (sym h) (local, same)

-- which callback is due
row_past : (xs : List (Tool Value)) (n : ℕ) → length xs ≤ n → or_unused (row_at n xs) ≡ unused
row_past [] n h = refl
row_past (x ∷ xs) zero h = absurd (omega arith)
row_past (x ∷ xs) (suc n) h = row_past xs n (omega arith)

never : (t : Bool) (o : Option Value) → cond t o o ≡ o
never true o = refl
never false o = refl

pub none_beyond : (ts : Tools Value) (l : Location) → length ts.tools ≤ l.tool → None ≡ wants ts l
none_beyond ts l h =
    sym (ap (λ (t : Tool Value). cond (has_event t l && not (is_off l ts.off)) (callback t.callbacks l.bit) None) (row_past ts.tools l.tool h)
    ∙ never (has_event {V = Value} unused l && not (is_off l ts.off)) None)

pub none_without : (ts : Tools Value) (l : Location) (r : Bool) → r ≡ has_event (tool_at l.tool ts) l → r ≡ false → None ≡ wants ts l
none_without ts l r e h = sym (ap (λ x. cond (x && not (is_off l ts.off)) (callback (tool_at l.tool ts).callbacks l.bit) None) (sym e ∙ h))

pub none_off : (ts : Tools Value) (l : Location) (r : Bool) → r ≡ is_off l ts.off → r ≡ true → None ≡ wants ts l
none_off ts l r e h =
    sym (ap (λ x. cond (has_event (tool_at l.tool ts) l && not x) (callback (tool_at l.tool ts).callbacks l.bit) None) (sym e ∙ h)
    ∙ ap (λ x. cond x (callback (tool_at l.tool ts).callbacks l.bit) None) (and_right (has_event (tool_at l.tool ts) l) false refl))

pub due_there : (ts : Tools Value) (l : Location) (r o : Bool) → r ≡ has_event (tool_at l.tool ts) l → r ≡ true → o ≡ is_off l ts.off → o ≡ false
    → callback (tool_at l.tool ts).callbacks l.bit ≡ wants ts l
due_there ts l r o e h f k =
    sym (ap (λ x. cond (x && not (is_off l ts.off)) (callback (tool_at l.tool ts).callbacks l.bit) None) (sym e ∙ h)
    ∙ ap (λ x. cond (not x) (callback (tool_at l.tool ts).callbacks l.bit) None) (sym f ∙ k))
