-- Whole programs.
use Rattle.std.proofs.Common.{◌≡◌, ◌∙◌, Bool, List, [], map, Result, Ok, Err, IfOk, sym, ap}
use Rattle.ec_base.specs.declared.stop.OutOfMemory.{OutOfMemory}
use Rattle.ec_code.specs.Views.{program_view}
use Rattle.ec_ctypes.specs.declared.tree.unit.Top.{Top}
use Rattle.ec_ctypes.specs.declared.tree.unit.Unit.{Unit as Source}
use Rattle.ec_ctypes.specs.views.Embedded.{emb_view}
use Rattle.ec_ctypes.specs.views.Units.{top_view, unit_view}
use Rattle.ec_resolve_forms.specs.declared.resolver.Resolver.{Resolver}
use Rattle.ec_resolve_forms.specs.Seen.{from, IsReached}
use Rattle.ec_resolving_defs.specs.Programs.{no_storage, program_by, resolved_by, tops_rule, walked}
use Rattle.ec_resolving_defs.specs.Storage as of
use Rattle.ec_scopes.specs.Seen.{world_of}
use Rattle.ec_scopes.specs.Starts.{fresh}
use Rattle.ec_resolve_values.specs.storage.Stored.{call_view, storage_of}
use Rattle.ec_resolve_values.specs.declared.storage.resolved.Resolved.{Resolved}
use Rattle.ec_typing_defs.specs.Programs.{defined_in, start}
use Rattle.ec_typing_defs.specs.Tables.{Named}
use Rattle.ec_typing_defs.specs.Worlds.{World}
use Rattle.ec_resolve.specs.Clean.{FindsNothing, called_form, resolved_form, walked_form}

-- the world before a program
pub begins_world : (written : Bool) (u : Source) (tops : List Top) (w : World) (names : Named (Unit {0})) → w ≡ fresh written names → names ≡ defined_in (map top_view tops) [] → tops ≡ u.tops → w ≡ start written (unit_view u)
begins_world written u tops w names e n t = e ∙ (λ i. fresh written (n i)) ∙ (λ i. fresh written (defined_in (map top_view (t i)) []))

-- what the walk over a program leaves
left_behind : (written : Bool) (u : Source) (old new : Resolver) (tops : List Top) → tops ≡ u.tops → u.embs ≡ []
    → storage_of old.storage ≡ no_storage (unit_view u) → world_of old.checker ≡ start written (unit_view u)
    → IsReached (from (tops_rule [] (map top_view tops)) old) new tt → storage_of new.storage ≡ (walked written (unit_view u)).storage
left_behind written u old new tops t e s w q =
    q.storage_is ∙ (λ i. (tops_rule (map emb_view (sym e i)) (map top_view (t i)) (s i) (w i)).storage)

-- a program by its walk
pub walked_by : (r : Result Resolved OutOfMemory) (written : Bool) (u : Source) (old new : Resolver) (tops : List Top) → tops ≡ u.tops → u.embs ≡ []
    → storage_of old.storage ≡ no_storage (unit_view u) → world_of old.checker ≡ start written (unit_view u)
    → IsReached (from (tops_rule [] (map top_view tops)) old) new tt
    → IfOk r (λ it. program_view it.program ≡ program_by (storage_of new.storage)) → IfOk r (λ it. program_view it.program ≡ walked_form written (unit_view u))
unfolding walked_form
walked_by (Err x) written u old new tops t e s w q h = h
walked_by (Ok it) written u old new tops t e s w q h = h ∙ ap program_by (left_behind written u old new tops t e s w q)

-- its calls by it
pub called_by : (r : Result Resolved OutOfMemory) (written : Bool) (u : Source) (old new : Resolver) (tops : List Top) → tops ≡ u.tops → u.embs ≡ []
    → storage_of old.storage ≡ no_storage (unit_view u) → world_of old.checker ≡ start written (unit_view u)
    → IsReached (from (tops_rule [] (map top_view tops)) old) new tt
    → IfOk r (λ it. map call_view it.calls ≡ (storage_of new.storage).calls) → IfOk r (λ it. map call_view it.calls ≡ called_form written (unit_view u))
unfolding called_form
called_by (Err x) written u old new tops t e s w q h = h
called_by (Ok it) written u old new tops t e s w q h = h ∙ ap calls_in (left_behind written u old new tops t e s w q)
  where
    calls_in : of.Storage → List of.LibraryCall
    calls_in storage = storage.calls

-- a program in which nothing is found
pub resolved : (r : Result Resolved OutOfMemory) (written : Bool) (u : Source) → FindsNothing written (unit_view u)
    → IfOk r (λ it. program_view it.program ≡ walked_form written (unit_view u)) → IfOk r (λ it. program_view it.program ≡ resolved_form written (unit_view u))
unfolding FindsNothing walked_form resolved_form
resolved (Err x) written u v h = h
resolved (Ok it) written u v h = h ∙ sym (ap (λ vs. resolved_by vs (program_by (walked written (unit_view u)).storage)) v)
