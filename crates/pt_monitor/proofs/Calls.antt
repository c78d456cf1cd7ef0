-- What calls for tools come to, and that tools that are alike answer alike.
use Rattle.std.proofs.Common.{◌≡◌, ℕ, zero, suc, ◌==◌, ℤ, pos, negsuc, List, [], ◌∷◌, Bool, true, false, cond, not, ◌&&◌, ◌||◌, Option, None, Some, is_some, refl, sym, ap, ◌∙◌, subst, true≢false}
use Rattle.std.proofs.lemmas.Bool.{eq-eqb, or_parts, and_from, and_right}
use Rattle.std.specs.List.{list_any}
use Rattle.sem_run.specs.run.Machine.{BlockId, same_block}
use Rattle.sem_run.specs.run.Rows.{row_at}
use Rattle.sem_run.specs.run.Tools.{Tool, Tools, ToolCall, ToolResult, Location, LocalSet, unused, or_unused, tool_at, with_tool, local_set, callback, with_callback, gives, is_off, same_location, has_event, wants, without, tool_call, for_tool, is_id, use_id, free_id, name_of, set_of, local_set_of, give_set, give_local_set, register, restart, use_tool, set_events, set_local_events, register_for, are_listed, are_local, unsigned, only_bit, bits, done, a_name, a_set, a_callback, wrong, bad_id, bad_set}
use Rattle.pt_monitor.specs.Alike.{IsAlike, ToolsAlike}
use Rattle.pt_monitor.specs.Answers.{tool_place}
use Rattle.pt_monitor.specs.Kept.{can_be_due}
use Rattle.pt_monitor.specs.Laws.{AnswerAlike, SwitchesOff, IsToldByMask}
use Rattle.pt_monitor.proofs.ToolRows.{alike_with}
use Rattle.pt_monitor.proofs.Keeping.{callback-with, callback-without}

abbrev new_set : BlockId → ℕ → LocalSet
new_set k s = record { block = k; set = s }

-- DISABLE at a place
is_same : (n : ℕ) → (n == n) ≡ true
is_same n = eq-eqb n n refl

one_way : (h : Bool) → cond h h (not h) ≡ true
one_way true = refl
one_way false = refl

here_off : (l : Location) → same_location l l ≡ true
here_off l =
    and_from ((l.tool == l.tool && l.bit == l.bit) && same_block l.block l.block) (l.act == l.act)
    (and_from (l.tool == l.tool && l.bit == l.bit) (same_block l.block l.block) (and_from (l.tool == l.tool) (l.bit == l.bit) (is_same l.tool) (is_same l.bit))
    (and_from (cond l.block.hidden l.block.hidden (not l.block.hidden)) (l.block.number == l.block.number) (one_way l.block.hidden) (is_same l.block.number)))
    (is_same l.act)

module _ {V : Type 0} where
  -- an id of a tool, and one of none
  pub at_place : (id : ℤ) (n : ℕ) → tool_place id ≡ Some n → (ts : Tools V) (f : ℕ → ToolResult V) → for_tool id ts f ≡ f n
  at_place (pos m) n e ts f = by (is_id m) e
    where
      by : (t : Bool) → cond t (Some m) None ≡ Some n → cond t (f m) (wrong bad_id, ts) ≡ f n
      by true e = cc
      by false e = cc
  at_place (negsuc m) n e ts f = clash e
    where
      clash : None ≡ Some n → (wrong bad_id, ts) ≡ f n
      clash e = cc

  pub no_place : (id : ℤ) → tool_place id ≡ None → (ts : Tools V) (f : ℕ → ToolResult V) → for_tool id ts f ≡ (wrong bad_id, ts)
  no_place (pos m) e ts f = by (is_id m) e
    where
      by : (t : Bool) → cond t (Some m) None ≡ None → cond t (f m) (wrong bad_id, ts) ≡ (wrong bad_id, ts)
      by true e = cc
      by false e = refl
  no_place (negsuc m) e ts f = refl

  -- what two calls answer is one, and they leave tools alike
  record SameResult (r s : ToolResult V) : Type 0 where
    answer : r.0 ≡ s.0
    tools : ToolsAlike r.1 s.1

  for_alike : (a b : Tools V) → ToolsAlike a b → (id : ℤ) (f g : ℕ → ToolResult V) → ((n : ℕ) → SameResult (f n) (g n))
      → SameResult (for_tool id a f) (for_tool id b g)
  for_alike a b h (pos n) f g same = by (is_id n)
    where
      by : (t : Bool) → SameResult (cond t (f n) (wrong bad_id, a)) (cond t (g n) (wrong bad_id, b))
      by true = same n
      by false = record { answer = refl; tools = h }
  for_alike a b h (negsuc n) f g same = record { answer = refl; tools = h }

  module _ (a b : Tools V) (h : ToolsAlike a b) (n : ℕ) where
    abbrev t : Tool V
    t = tool_at n a

    abbrev u : Tool V
    u = tool_at n b

    like : IsAlike t u
    like = h.tools.tools n

    renamed : (x : Option (List ℕ)) → ToolsAlike (with_tool n (record t { name = x }) a) (with_tool n (record u { name = x }) b)
    renamed x = alike_with n _ _ a b h (record { name = refl; set = like.set; local = like.local; callbacks = like.callbacks })

    use_alike : (x : List ℕ) → SameResult (use_tool n x a t.name) (use_tool n x b u.name)
    use_alike x = subst (λ o. SameResult (use_tool n x a t.name) (use_tool n x b o)) like.name (by t.name)
      where
        by : (o : Option (List ℕ)) → SameResult (use_tool n x a o) (use_tool n x b o)
        by None = record { answer = refl; tools = renamed (Some x) }
        by (Some y) = record { answer = refl; tools = h }

    set_alike : (s : ℕ) → SameResult (set_events n s a t.name) (set_events n s b u.name)
    set_alike s = subst (λ o. SameResult (set_events n s a t.name) (set_events n s b o)) like.name (by t.name)
      where
        given : (c : Bool) → SameResult (cond c (done, with_tool n (record t { set = s }) a) (wrong bad_set, a)) (cond c (done, with_tool n (record u { set = s }) b) (wrong bad_set, b))
        given true = record {
          answer = refl;
          tools = alike_with n _ _ a b h (record { name = like.name; set = refl; local = like.local; callbacks = like.callbacks });
        }
        given false = record { answer = refl; tools = h }

        by : (o : Option (List ℕ)) → SameResult (set_events n s a o) (set_events n s b o)
        by None = record { answer = refl; tools = h }
        by (Some y) = given (are_listed s)

    local_alike : (k : BlockId) (s : ℕ) → SameResult (set_local_events n k s a t.name) (set_local_events n k s b u.name)
    local_alike k s = subst (λ o. SameResult (set_local_events n k s a t.name) (set_local_events n k s b o)) like.name (by t.name)
      where
        given : (c : Bool) → SameResult (cond c (done, with_tool n (record t { local = new_set k s ∷ t.local }) a) (wrong bad_set, a)) (cond c (done, with_tool n (record u { local = new_set k s ∷ u.local }) b) (wrong bad_set, b))
        given true = record {
          answer = refl;
          tools = alike_with n _ _ a b h (record {
            name = like.name;
            set = like.set;
            local = λ k2. ap (cond (same_block k k2) s) (like.local k2);
            callbacks = like.callbacks;
          });
        }
        given false = record { answer = refl; tools = h }

        by : (o : Option (List ℕ)) → SameResult (set_local_events n k s a o) (set_local_events n k s b o)
        by None = record { answer = refl; tools = h }
        by (Some y) = given (are_listed s && are_local s)

    called : (k : ℕ) (f : Option V) (m : ℕ) → callback (with_callback k f t.callbacks) m ≡ callback (with_callback k f u.callbacks) m
    called k (Some f) m = callback-with k m f t.callbacks ∙ ap (cond (k == m) (Some f)) (like.callbacks m) ∙ sym (callback-with k m f u.callbacks)
    called k None m = callback-without k m t.callbacks ∙ ap (cond (k == m) None) (like.callbacks m) ∙ sym (callback-without k m u.callbacks)

    register_alike : (k : Option ℕ) (f : Option V) → SameResult (register_for n k f a) (register_for n k f b)
    register_alike None f = record { answer = refl; tools = h }
    register_alike (Some k) f = record {
      answer = ap a_callback (like.callbacks k);
      tools = alike_with n _ _ a b h (record { name = like.name; set = like.set; local = like.local; callbacks = called k f });
    }

    name_alike : SameResult (a_name t.name, a) (a_name u.name, b)
    name_alike = record { answer = ap a_name like.name; tools = h }

    set_told_alike : SameResult (a_set t.set, a) (a_set u.set, b)
    set_told_alike = record { answer = ap a_set like.set; tools = h }

    local_told_alike : (k : BlockId) → SameResult (a_set (local_set t.local k), a) (a_set (local_set u.local k), b)
    local_told_alike k = record { answer = ap a_set (like.local k); tools = h }

    free_alike : SameResult (done, with_tool n (record t { name = None }) a) (done, with_tool n (record u { name = None }) b)
    free_alike = record { answer = refl; tools = renamed None }

  module _ (a b : Tools V) (h : ToolsAlike a b) where
    calls_alike : (c : ToolCall V) → SameResult (tool_call c a) (tool_call c b)
    calls_alike (use_id id x) = for_alike a b h id _ _ (λ n. use_alike a b h n x)
    calls_alike (free_id id) = for_alike a b h id _ _ (λ n. free_alike a b h n)
    calls_alike (name_of id) = for_alike a b h id _ _ (λ n. name_alike a b h n)
    calls_alike (set_of id) = for_alike a b h id _ _ (λ n. set_told_alike a b h n)
    calls_alike (local_set_of id k) = for_alike a b h id _ _ (λ n. local_told_alike a b h n k)
    calls_alike (give_set id s) = for_alike a b h id _ _ (λ n. set_alike a b h n (unsigned s))
    calls_alike (give_local_set id k s) = for_alike a b h id _ _ (λ n. local_alike a b h n k (unsigned s))
    calls_alike (register id s f) = for_alike a b h id _ _ (λ n. register_alike a b h n (only_bit (unsigned s) bits) f)
    calls_alike restart = record { answer = refl; tools = record { tools = h.tools; off = λ l. refl } }

    due_alike : (l : Location) → wants a l ≡ wants b l
    due_alike l =
        ap (λ o. cond (o && not (is_off l a.off)) (callback (tool_at l.tool a).callbacks l.bit) None) events
        ∙ ap (λ o. cond (has_event (tool_at l.tool b) l && not o) (callback (tool_at l.tool a).callbacks l.bit) None) (h.off l)
        ∙ ap (λ o. cond (has_event (tool_at l.tool b) l && not (is_off l b.off)) o None) ((h.tools.tools l.tool).callbacks l.bit)
      where
        events : has_event (tool_at l.tool a) l ≡ has_event (tool_at l.tool b) l
        events = ap (λ s. gives s l.bit || gives (local_set (tool_at l.tool a).local l.block) l.bit) (h.tools.tools l.tool).set
            ∙ ap (λ s. gives (tool_at l.tool b).set l.bit || gives s l.bit) ((h.tools.tools l.tool).local l.block)

    removed_alike : (l : Location) → ToolsAlike (without l a) (without l b)
    removed_alike l = alike_with l.tool _ _ a b h (record {
      name = (h.tools.tools l.tool).name;
      set = (h.tools.tools l.tool).set;
      local = (h.tools.tools l.tool).local;
      callbacks = called a b h l.tool l.bit None;
    })

    pub answer_alike : AnswerAlike a b
    answer_alike = record {
      answers = λ c. (calls_alike c).answer;
      calls = λ c. (calls_alike c).tools;
      due = due_alike;
      switched_off = λ l. record { tools = h.tools; off = λ m. ap (λ o. same_location m l || o) (h.off m) };
      removed = removed_alike;
    }

  pub switches_off : (l : Location) (ts : Tools V) → SwitchesOff l ts
  switches_off l ts = record {
    here = ap (λ o. cond (has_event (tool_at l.tool ts) l && not (o || is_off l ts.off)) (callback (tool_at l.tool ts).callbacks l.bit) None) (here_off l)
        ∙ never (has_event (tool_at l.tool ts) l) (callback (tool_at l.tool ts).callbacks l.bit);
    elsewhere = λ m apart. ap (λ o. cond (has_event (tool_at m.tool ts) m && not (o || is_off m ts.off)) (callback (tool_at m.tool ts).callbacks m.bit) None) apart;
  }
    where
      never : (t : Bool) (o : Option V) → cond (t && false) o None ≡ None
      never true o = refl
      never false o = refl

  -- who has no event that can be due has no callback that is
  lacks : (e off : Bool) (f : Option V) → (e && is_some f) ≡ false → cond (e && not off) f None ≡ None
  lacks true true f h = refl
  lacks true false None h = refl
  lacks true false (Some f) h = absurd (true≢false h)
  lacks false off f h = refl

  none_among : (p : Tool V → Bool) (n : ℕ) (ts : List (Tool V)) → p unused ≡ false → list_any p ts ≡ false → p (or_unused (row_at n ts)) ≡ false
  none_among p n [] u h = u
  none_among p zero (t ∷ ts) u h = (or_parts (p t) (list_any p ts) h).0
  none_among p (suc n) (t ∷ ts) u h = none_among p n ts u (or_parts (p t) (list_any p ts) h).1

  pub told_by_mask : (l : Location) (ts : Tools V) → IsToldByMask ts l
  told_by_mask l ts h = lacks (has_event (tool_at l.tool ts) l) (is_off l ts.off) (callback (tool_at l.tool ts).callbacks l.bit)
      (none_among (can_be_due l.block l.bit) l.tool ts.tools unused_lacks h)
    where
      unused_lacks : can_be_due l.block l.bit (unused {V = V}) ≡ false
      unused_lacks = and_right (gives 0 l.bit || gives 0 l.bit) false refl
