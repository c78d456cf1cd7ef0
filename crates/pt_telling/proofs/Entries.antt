-- One after the other has its turn, and an entry of a traceback is put where its exception stands.
use Rattle.std.proofs.Common.{◌≡◌, ◌∙◌, ◌≤◌, ◌<◌, ℕ, ◌+◌, List, [], ◌∷◌, ◌++◌, drop, get_or, length, slice_get, Some, refl, sym, ap}
use Rattle.std.specs.Prelude.{slice_set}
use Rattle.std.proofs.lemmas.List.{at_drop_more, at_drop_all}
use Rattle.pt_base.specs.declared.numbers.ObjId.{ObjId}
use Rattle.pt_heap.specs.declared.object.Object.{Object}
use Rattle.pt_heap.specs.declared.object.Object.TheVariants as object
use Rattle.pt_heap.specs.declared.object.Error.{Error}
use Rattle.pt_heap.specs.declared.object.TraceEntry.{TraceEntry}
use Rattle.sem_run.specs.run.Host.{Entry}
use Rattle.pt_happenings.specs.declared.happening.Happening.{Happening}
use Rattle.pt_tracing.specs.pt_machine_state.declared.blocks.BlockCode.{BlockCode}
use Rattle.pt_tracing.specs.pt_machine_state.declared.writes.Writes.{Writes}
use Rattle.pt_tracing.specs.pt_machine_state.Writing.{Adds}
use Rattle.pt_tracing.proofs.pt_transfers.pt_machine_state.WriteLemmas.{adds_none}
use Rattle.pt_tracing.specs.pt_run_state.declared.machine.Machine.{Machine}
use Rattle.pt_tracing.specs.pt_purposes.sem_rows.pt_host.Errors.{trace_entry, with_entry}
use Rattle.pt_tracing.proofs.pt_transfers.EntryLemmas as put
use Rattle.pt_telling.specs.Telling.{entered_by, entered_by_all}

module _ (block : BlockCode) (hs : List Happening) (i : ℕ) (m end : Machine) where
  pub told_next : (h : Happening) (m1 : Machine) → i < length hs → h ≡ get_or hs i h
      → m1 ≡ entered_by block h m → entered_by_all block (drop i hs) m ≡ end
      → entered_by_all block (drop (i + 1) hs) m1 ≡ end
  told_next h m1 within is done rest =
      ap (λ n. entered_by_all block (drop (i + 1) hs) n) done
      ∙ ap (λ g. entered_by_all block (drop (i + 1) hs) (entered_by block g m)) is
      ∙ sym (at_drop_more (λ ks. entered_by_all block ks m) hs i h within) ∙ rest

  pub told_all : length hs ≤ i → entered_by_all block (drop i hs) m ≡ end → m ≡ end
  told_all past rest = sym (at_drop_all (λ ks. entered_by_all block ks m) hs i past) ∙ rest

-- nothing is put behind what is to be written
pub adds_nothing : (w : Writes) → Adds w w []
adds_nothing w = adds_none w

module _ (h : List Object) (id : ObjId) (meanwhile : Object) (e : Entry) where
  pub entry_put : (x : Error) (trace : List TraceEntry) → slice_get h id.0 ≡ Some (object.Error x)
      → trace ≡ x.trace ++ trace_entry e ∷ []
      → slice_set (slice_set h id.0 meanwhile) id.0 (object.Error (record x { trace = trace }))
      ≡ with_entry e id (slice_get h id.0) h
  entry_put x trace is longer = put.entry_put h id meanwhile e x trace is longer

  pub other_put_back : (o : Object) → slice_get h id.0 ≡ Some o
      → ((x : Error) → o ≡ object.Error x → ⊥)
      → slice_set (slice_set h id.0 meanwhile) id.0 o ≡ with_entry e id (slice_get h id.0) h
  other_put_back o is other = put.other_put_back h id meanwhile e o is other

pub nothing_there : (h : List Object) (id : ObjId) (e : Entry) → length h ≤ id.0
    → h ≡ with_entry e id (slice_get h id.0) h
nothing_there h id e past = put.nothing_there h id e past
