-- A copied file is forgotten, along the protocol; so it admits whole calls that forget.
use Rattle.std.proofs.Common.{◌≡◌, ◌⊎◌, Bool, true, false, List, [], ◌∷◌, refl, sym, ap, subst, inl, inr, ◌∙◌, Option, Some, None, take}
use Rattle.std.specs.Prelude.{codes, bytes_eq, ◌&&◌, ◌||◌, IsSome, if◌then◌else◌, Ok}
use Rattle.std.specs.Option.{option_map}
use Rattle.smk_base.specs.Path.{is_under, is_at_or_under, own_folder}
use Rattle.smk_base.specs.Place.{mark_place, note_place, record_place, records_folder}
use Rattle.smk_world.specs.declared.event.Call.TheVariants.{Removed, Settled}
use Rattle.smk_world.specs.declared.event.Event.{Event}
use Rattle.smk_world.specs.declared.event.Node.{Node}
use Rattle.smk_world.specs.declared.event.Node.TheVariants.{Regular, Directory}
use Rattle.smk_world.specs.declared.event.NodeState.{NodeState}
use Rattle.smk_world.specs.declared.event.NodeState.TheVariants.{Owned}
use Rattle.smk_world.specs.World.{World, Nodes, node_in, world_of, run, reading, firmly, going, settled, is_within, is_above, reads_folder}
use Rattle.smk_world.specs.Calls.{Happens}
use Rattle.smk_world.specs.Folders.{CanHold, IsTree}
use Rattle.smk_world.specs.Runs.{Follows}
use Rattle.smk_world.specs.Trees.{Path, IsIn, is_path_text}
use Rattle.smk_world.proofs.Folders.{happens, no_node}
use Rattle.smk_record.specs.declared.record.Stamp.{Stamp}
use Rattle.smk_record.specs.declared.record.Record.{Record}
use Rattle.smk_record.specs.Records.{core, stamped, is_valid}
use Rattle.smk_store.specs.declared.store.Kept.TheVariants.{Absent, Unreadable, Held}
use Rattle.smk_store.specs.Images.{core_at, kept_by, readable}
use Rattle.smk_store.specs.Safety.{KeepsSound}
use Rattle.smk_laws_protocol.specs.Protocol.{IsAbsent, now}
use Rattle.smk_laws_protocol.specs.Forgetting.{Resting, Unrecording, Unmarking, IsUnseen, ForgetsAll, Done, Next, Hold, Unrecord, Unrecorded, Unmark, Unmarked}
use Rattle.smk_laws_protocol.proofs.Above.{held_by}
use Rattle.smk_laws_protocol.proofs.Basics.{by_test, clash, none_some, some_same}
use Rattle.smk_laws_protocol.proofs.ForgettingHolds.{forgetting_keeps_sound, settling_is_enough}
use Rattle.smk_laws_protocol.proofs.OneJob.{from, to, outside, call, stamp, copy_record, going_none, removed_absent}
use Rattle.smk_laws_protocol.proofs.Settling.{either, firm_reads}
use Rattle.smk_base.proofs.Places.{same_place}
use Rattle.smk_base.proofs.Under.{no_slash_under}

abbrev nodes : Nodes
nodes =
    (record_place to, Regular (codes "r") 1003 false)
    ∷ (from, Regular (codes "hello\n") 1000 false)
    ∷ (to, Regular (codes "hello\n") 1002 false)
    ∷ (own_folder, Directory)
    ∷ (codes ".snakemake/smk", Directory)
    ∷ (records_folder, Directory)
    ∷ []

abbrev entry : World
entry = world_of nodes

abbrev log : List Event
log =
    call (Settled (to ∷ own_folder ∷ []) (Ok tt))
    ∷ call (Removed (record_place to) (Ok tt))
    ∷ call (Settled (record_place to ∷ note_place to ∷ []) (Ok tt))
    ∷ call (Removed (mark_place to) (Ok tt))
    ∷ call (Settled (mark_place to ∷ []) (Ok tt))
    ∷ []

-- the one record that reads
only_record : (q : Path) (r : Record) → core_at (now outside entry) q ≡ Some r → core copy_record ≡ r
only_record q r h = go (is_path_text q) (bytes_eq (record_place q) (record_place to)) h
  where
    held : (b : Bool) → option_map core (readable (if b then Held copy_record else Unreadable)) ≡ Some r → core copy_record ≡ r
    held true k = some_same k
    held false k = none_some None refl k

    go : (a b : Bool) → option_map core (readable (if a then kept_by outside.read q (if b then Some (Regular (codes "r") 1003 false) else None) else Absent)) ≡ Some r → core copy_record ≡ r
    go true true k = held (bytes_eq to q && is_valid copy_record) k
    go true false k = none_some None refl k
    go false b k = none_some None refl k

-- it names another file
unseen : IsUnseen (now outside entry) to
unseen q x r f at under file s named time = go (subst (λ y. IsIn (stamped y) (x, s)) (sym (only_record q r at)) named)
  where
    go : (◌≡◌ {A = Path × Stamp} (x, s) (from, stamp)) ⊎ ⊥ → ⊥
    go (inl e) = clash (is_at_or_under from to) (subst (λ y. is_at_or_under y to ≡ true) (ap (λ (p : Path × Stamp). p.0) e) under) refl
    go (inr k) = k

no_owner : (q : Path) → entry.nodes q ≡ Owned → ⊥
no_owner q h = cc

-- elsewhere nothing stands
nothing_at : (q : Path) → bytes_eq q (record_place to) ≡ false → bytes_eq q from ≡ false → bytes_eq q to ≡ false → bytes_eq q own_folder ≡ false → bytes_eq q (codes ".snakemake/smk") ≡ false → bytes_eq q records_folder ≡ false → node_in nodes q ≡ None
nothing_at q a b c d e f = λ k.
    if a k then Some (Regular (codes "r") 1003 false) else (if b k then Some (Regular (codes "hello\n") 1000 false) else (if c k then Some (Regular (codes "hello\n") 1002 false) else (if d k then Some Directory else (if e k then Some Directory else (if f k then Some Directory else None)))))

-- there is no note
note_absent : IsAbsent (run entry (take 2 log)) (note_place to)
note_absent q under = removed (is_at_or_under q (record_place to))
  where
    other : {A : Type 0} (p : Path) → is_at_or_under p (note_place to) ≡ false → bytes_eq q p ≡ true → A
    other p far e = clash (is_at_or_under p (note_place to)) (subst (λ y. is_at_or_under y (note_place to) ≡ true) (same_place q p e) under) far

    none : node_in nodes q ≡ None
    none =
        by_test (bytes_eq q (record_place to)) (other (record_place to) refl)
        (λ a. by_test (bytes_eq q from) (other from refl)
        (λ b. by_test (bytes_eq q to) (other to refl)
        (λ c. by_test (bytes_eq q own_folder) (other own_folder refl)
        (λ d. by_test (bytes_eq q (codes ".snakemake/smk")) (other (codes ".snakemake/smk") refl)
        (λ e. by_test (bytes_eq q records_folder) (other records_folder refl)
        (λ f. nothing_at q a b c d e f))))))

    s : NodeState
    s = firmly (node_in nodes q)

    ps : List Path
    ps = to ∷ own_folder ∷ []

    removed : (b : Bool) → reading (if b then going None (settled ps q s) else settled ps q s) ≡ None
    removed true = going_none (settled ps q s)
    removed false = either (λ t. reading t ≡ reading s) (is_within q ps || is_above q ps && reads_folder s) s (firm_reads s) refl ∙ none

forgets : ForgetsAll outside (to ∷ []) Resting entry log Resting
forgets =
    Next _ (Unrecording to) _ _ _ _ (Hold _ to (to ∷ own_folder ∷ []) (inl refl) refl unseen refl (settling_is_enough entry to (to ∷ own_folder ∷ []) [] no_owner refl refl))
    (Next _ (Unrecording to) _ _ _ _ (Unrecord _ to refl)
    (Next _ (Unmarking to) _ _ _ _ (Unrecorded _ to (record_place to ∷ note_place to ∷ []) refl (removed_absent (run entry (take 1 log)) (record_place to)) note_absent (refl, (refl, tt)))
    (Next _ (Unmarking to) _ _ _ _ (Unmark _ to refl)
    (Next _ Resting _ _ _ _ (Unmarked _ to (mark_place to ∷ []) refl (removed_absent (run entry (take 3 log)) (mark_place to)) (refl, tt))
    (Done _ _)))))

abbrev reads_now : Path → Option Node
reads_now x = reading (entry.nodes x)

put : (q p : Path) → bytes_eq q p ≡ true → CanHold reads_now p → CanHold reads_now q
put q p e h = subst (CanHold reads_now) (sym (same_place q p e)) h

-- what stands there stands in folders
entry_tree : IsTree entry
entry_tree q some =
    by_test (bytes_eq q (record_place to)) (λ a. put q (record_place to) a (held_by reads_now (record_place to) (refl, (refl, (refl, tt))) refl))
    (λ a. by_test (bytes_eq q from) (λ b. put q from b (record { folders = λ f u. clash (is_under from f) u (no_slash_under from f refl); named = refl }))
    (λ b. by_test (bytes_eq q to) (λ c. put q to c (record { folders = λ f u. clash (is_under to f) u (no_slash_under to f refl); named = refl }))
    (λ c. by_test (bytes_eq q own_folder) (λ d. put q own_folder d (held_by reads_now own_folder tt refl))
    (λ d. by_test (bytes_eq q (codes ".snakemake/smk")) (λ e. put q (codes ".snakemake/smk") e (held_by reads_now (codes ".snakemake/smk") (refl, tt) refl))
    (λ e. by_test (bytes_eq q records_folder) (λ f. put q records_folder f (held_by reads_now records_folder (refl, (refl, tt)) refl))
    (λ f. no_node (subst (λ n. IsSome (reading (firmly n))) (nothing_at q a b c d e f) some)))))))

h0 : Happens outside.act entry (call (Settled (to ∷ own_folder ∷ []) (Ok tt)))
h0 = happens outside.act entry (Settled (to ∷ own_folder ∷ []) (Ok tt)) [] entry_tree refl tt

h1 : Happens outside.act (run entry (take 1 log)) (call (Removed (record_place to) (Ok tt)))
h1 = happens outside.act (run entry (take 1 log)) (Removed (record_place to) (Ok tt)) [] h0.tree refl tt

h2 : Happens outside.act (run entry (take 2 log)) (call (Settled (record_place to ∷ note_place to ∷ []) (Ok tt)))
h2 = happens outside.act (run entry (take 2 log)) (Settled (record_place to ∷ note_place to ∷ []) (Ok tt)) [] h1.tree refl tt

h3 : Happens outside.act (run entry (take 3 log)) (call (Removed (mark_place to) (Ok tt)))
h3 = happens outside.act (run entry (take 3 log)) (Removed (mark_place to) (Ok tt)) [] h2.tree refl tt

h4 : Happens outside.act (run entry (take 4 log)) (call (Settled (mark_place to ∷ []) (Ok tt)))
h4 = happens outside.act (run entry (take 4 log)) (Settled (mark_place to ∷ []) (Ok tt)) [] h3.tree refl tt

follows : Follows outside.act entry log
follows = (h0, (h1, (h2, (h3, (h4, tt)))))

-- So its log keeps soundness.
pub keeps : KeepsSound outside entry log (to ∷ []) true
keeps = forgetting_keeps_sound outside entry (to ∷ []) log Resting follows forgets
