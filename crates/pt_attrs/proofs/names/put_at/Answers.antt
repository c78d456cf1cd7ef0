use Rattle.std.proofs.Common.{◌∙◌, OnOk, OnErr, Result, Ok, Err, Some, set, sym, ap}
use Rattle.std.proofs.lemmas.List.{set-set}
use Rattle.pt_attrs.proofs.StoreLemmas.{stored-is, set-back}
use Rattle.pt_heap.specs.declared.value.Value.TheVariants as value
use Rattle.pt_attrs.proofs.SoundLemmas.{put-sound}
use Rattle.pt_attrs.proofs.names.put_at.Goals as goal

on-ok : {A E P Q : Type 0} (r : Result A E) → (P → Q) → OnOk r P → OnOk r Q
on-ok (Ok x) f p = f p
on-ok (Err e) f p = tt

on-err : {A E P Q : Type 0} (r : Result A E) → (P → Q) → OnErr r P → OnErr r Q
on-err (Ok x) f p = tt
on-err (Err e) f p = f p

pub returns-clause-ok : goal.returns-clause-ok
returns-clause-ok c =
    let h = c.args.heap.now in
    let i = c.args.id.0 in
    let o = c.set-object.result in
    let twice = c.set.ensures.new ∙ ap (λ l. set l i c.put_in-result.new.object) c.set-object.ensures.new ∙ set-set h i _ c.put_in-result.new.object in
    on-ok c.put_in-result.result (λ e. stored-is h c.args.id o c.set-object.ensures.old c.requires c.args.key c.args.value ∙ ap Some (ap (set h i) (sym e)) ∙ ap Some (sym twice)) c.put_in-result.ensures.ok

pub returns-clause-err : goal.returns-clause-err
returns-clause-err c =
    let h = c.args.heap.now in
    let i = c.args.id.0 in
    let o = c.set-object.result in
    let twice = c.set.ensures.new ∙ ap (λ l. set l i c.put_in-result.new.object) c.set-object.ensures.new ∙ set-set h i _ c.put_in-result.new.object in
    on-err c.put_in-result.result (λ e. twice ∙ ap (set h i) e ∙ set-back h i o c.set-object.ensures.old) c.put_in-result.ensures.err

pub returns-clause-sound : goal.returns-clause-sound
returns-clause-sound c = put-sound c.args.heap.now (value.Obj c.args.id) c.args.key c.args.value c.set.new.self c.put_in-result.result (returns-clause-ok c) (returns-clause-err c)
