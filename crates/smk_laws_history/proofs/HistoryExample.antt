-- A history, computed: a folder with one file; a run of the protocol that copies it, cut off and whole; and the copy is taken away.
use Rattle.std.proofs.Common.{◌≡◌, Bool, true, false, List, [], ◌∷◌, ◌++◌, cond, refl, sym, ap, ◌∙◌, Some, None, Ok, bytes_eq, true≢false}
use Rattle.std.specs.Prelude.{codes}
use Rattle.std.specs.List.Sorted.{IsStrictlySortedBy}
use Rattle.smk_base.specs.Path.{own_folder, is_at_or_under}
use Rattle.smk_base.specs.Place.{record_place, mark_place}
use Rattle.smk_base.proofs.Places.{same_place}
use Rattle.smk_world.specs.declared.event.Node.{Node}
use Rattle.smk_world.specs.declared.event.Node.TheVariants.{Regular}
use Rattle.smk_world.specs.declared.event.Call.{Call}
use Rattle.smk_world.specs.declared.event.Call.TheVariants.{Created, MadeParents, Settled, Started, Waited, Written, Removed}
use Rattle.smk_world.specs.declared.event.Event.{Event}
use Rattle.smk_world.specs.Folders.{IsLeft}
use Rattle.smk_world.specs.World.{World, Nodes, node_in, world_of, run}
use Rattle.smk_world.specs.Trees.{Path}
use Rattle.smk_world.proofs.Names.{formed_image}
use Rattle.smk_store.specs.Images.{seen}
use Rattle.smk_store.specs.Trust.{Versions}
use Rattle.smk_store.specs.Soundness.{SoundWorld}
use Rattle.smk_store.specs.Safety.{with_sources}
use Rattle.smk_laws_protocol.specs.Midway.{IsTop}
use Rattle.smk_laws_protocol.proofs.OneJob.{outside, recipe, entry_tree, follows, runs}
use Rattle.smk_laws_history.specs.Histories.{IsNew, IsCall, SumsDifferIn, removed, no_versions, History, Begin, Go, Call as WholeCall, Crash, Remove}
use Rattle.smk_laws_history.proofs.HistoryLaw.{every_world_sound}
use Rattle.smk_laws_history.proofs.HistoryListedRuns.{run_is_call}
use Rattle.smk_laws_history.proofs.HistoryNew.{no_core}

none_some : {A : Type 0} (x : A) → None ≡ Some x → ⊥
none_some x h = cc

abbrev source : Nodes
source = (codes "in.txt", Regular (codes "hello\n") 1000 false) ∷ []

abbrev entry : World
entry = world_of source

entry_new : IsNew entry
unfolding IsStrictlySortedBy
entry_new =
    record {
      formed = formed_image source (tt, tt);
      tree = entry_tree;
      none_own = λ q own. nothing q own (bytes_eq q (codes "in.txt")) refl;
      no_child = refl;
      all_firm = λ q. (node_in source q, refl);
    }
  where
    nothing : (q : Path) → is_at_or_under q own_folder ≡ true → (b : Bool) → bytes_eq q (codes "in.txt") ≡ b → cond b (Some (Regular (codes "hello\n") 1000 false)) None ≡ None
    nothing q own true e = absurd (true≢false (sym own ∙ ap (λ z. is_at_or_under z own_folder) (same_place q (codes "in.txt") e)))
    nothing q own false e = refl

-- no serial is named
none_named : IsTop outside entry 0
none_named p r n clear i = absurd (none_some r (sym (no_core outside entry entry_new entry.names p) ∙ clear.0))

abbrev quiet : Call → Event
quiet c = record { call = c; left = [] }

abbrev leaving : Call → Path → Node → Event
leaving c p n = record { call = c; left = record { place = p; node = n } ∷ [] }

-- the run up to the end of the command
abbrev until_ended : List Event
until_ended =
    quiet (Settled [] (Ok tt))
    ∷ quiet (MadeParents (mark_place (codes "out.txt")) (Ok tt))
    ∷ leaving (Created (mark_place (codes "out.txt")) (Ok true)) (mark_place (codes "out.txt")) (Regular [] 1001 false)
    ∷ quiet (Settled (mark_place (codes "out.txt") ∷ []) (Ok tt))
    ∷ quiet (Started recipe [] (codes "cp in.txt out.txt") (Ok 7))
    ∷ leaving (Waited (Ok (record { number = 7; status = 0 }))) (codes "out.txt") (Regular (codes "hello\n") 1002 false)
    ∷ []

-- and from there to its close
abbrev to_the_close : List Event
to_the_close =
    quiet (Settled (codes "out.txt" ∷ []) (Ok tt))
    ∷ quiet (MadeParents (record_place (codes "out.txt")) (Ok tt))
    ∷ leaving (Written (record_place (codes "out.txt")) (codes "r") (Ok tt)) (record_place (codes "out.txt")) (Regular (codes "r") 1003 false)
    ∷ quiet (Settled (record_place (codes "out.txt") ∷ []) (Ok tt))
    ∷ quiet (Removed (mark_place (codes "out.txt")) (Ok tt))
    ∷ quiet (Settled (mark_place (codes "out.txt") ∷ []) (Ok tt))
    ∷ []

abbrev log : List Event
log = until_ended ++ to_the_close

copying : IsCall outside entry log [] true
copying = run_is_call outside entry 0 log _ none_named follows runs

abbrev first : Versions
first = with_sources no_versions (seen outside.read entry)

abbrev copied : World
copied = run entry log

-- the folder, the whole run, and the removal
pub copy_taken_away : History outside (removed copied (codes "out.txt")) (with_sources (with_sources first (seen outside.read copied)) (seen outside.read (removed copied (codes "out.txt"))))
copy_taken_away = Go copied _ _ (Go entry copied first (Begin entry entry_new) (WholeCall log [] copying refl)) (Remove (codes "out.txt") refl)

-- the machine stops while the output isn't firm yet: whatever is left goes on
pub cut_off : (nodes : Nodes) → IsLeft (run entry until_ended) nodes → History outside (world_of nodes) (with_sources first (seen outside.read (world_of nodes)))
cut_off nodes left = Go entry (world_of nodes) first (Begin entry entry_new) (Crash log until_ended to_the_close [] true nodes copying refl left)

-- so the folder is sound in the end, when no two different contents of its sources have the same SHA-256
pub taken_away_sound :
    SumsDifferIn outside _ _ copy_taken_away →
    SoundWorld outside (removed copied (codes "out.txt")) (with_sources (with_sources first (seen outside.read copied)) (seen outside.read (removed copied (codes "out.txt"))))
taken_away_sound = every_world_sound outside _ _ copy_taken_away
