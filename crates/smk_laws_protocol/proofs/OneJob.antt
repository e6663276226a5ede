-- A job that copies a file goes along the protocol, from its first mark to its close; so the protocol admits whole runs.
use Rattle.std.proofs.Common.{◌≡◌, Bool, true, false, List, [], ◌∷◌, map, refl, sym, ap, subst, inl, inr, ◌∙◌, Option, Some, None, take}
use Rattle.std.specs.Prelude.{codes, bytes_eq, ◌&&◌, ◌||◌, not, is_some, IsSome, if◌then◌else◌, Ok}
use Rattle.std.specs.List.{list_any}
use Rattle.std.specs.Option.{option_map}
use Rattle.smk_base.specs.Path.{overlaps, is_under}
use Rattle.smk_base.specs.Place.{mark_place, record_place}
use Rattle.smk_base.specs.declared.tree.Tree.{Tree}
use Rattle.smk_base.specs.declared.tree.Tree.TheVariants.{File, Folder}
use Rattle.smk_base.proofs.Places.{same_place}
use Rattle.smk_base.proofs.Under.{no_slash_under}
use Rattle.smk_world.specs.declared.recipe.Recipe.{Recipe}
use Rattle.smk_world.specs.declared.recipe.Kind.TheVariants.{Plain}
use Rattle.smk_world.specs.declared.event.Call.{Call}
use Rattle.smk_world.specs.declared.event.Call.TheVariants.{Written, Created, Removed, MadeParents, Settled, Started, Waited}
use Rattle.smk_world.specs.declared.event.Change.{Change}
use Rattle.smk_world.specs.declared.event.Event.{Event}
use Rattle.smk_world.specs.declared.event.Node.{Node}
use Rattle.smk_world.specs.declared.event.Node.TheVariants.{Regular, Directory}
use Rattle.smk_world.specs.declared.event.NodeState.{NodeState}
use Rattle.smk_world.specs.declared.event.NodeState.TheVariants.{Owned, Known}
use Rattle.smk_world.specs.World.{World, world_of, run, after, reading, going, firmly, owned_by}
use Rattle.smk_world.specs.Calls.{ContentsAre, OutputsAre, Happens}
use Rattle.smk_world.specs.Folders.{CanHold, IsTree}
use Rattle.smk_world.specs.Runs.{Follows}
use Rattle.smk_world.specs.Trees.{Path, is_path_text}
use Rattle.smk_world.proofs.Folders.{happens, no_node, no_folder}
use Rattle.smk_world.proofs.Stays.{left_at}
use Rattle.smk_record.specs.declared.record.Stamp.{Stamp}
use Rattle.smk_record.specs.declared.record.Stamp.TheVariants.{Sum}
use Rattle.smk_record.specs.declared.record.Record.{Record}
use Rattle.smk_record.specs.Records.{core}
use Rattle.smk_store.specs.declared.store.Kept.TheVariants.{Absent}
use Rattle.smk_store.specs.Images.{content_of, is_covered, is_outside, is_source, readable, stands}
use Rattle.smk_store.specs.Soundness.{Outside}
use Rattle.smk_store.specs.Safety.{KeepsSound}
use Rattle.smk_store.specs.Trust.{sum_of}
use Rattle.smk_laws_protocol.specs.Protocol.{Phase, Marking, Marked, Running, Ended, Firm, Recorded, OpenJob, RunState, IsAbsent, now, MayBegin, HasAllMarks, MakeFolders, Mark, AllMarked, Start, Wait, AllMade, Write, AllWritten, Unmark, AllUnmarked, Steady, Begin, Go, Close, Runs, Done, Next}
use Rattle.smk_laws_protocol.specs.Midway.{at_entry, IsTop}
use Rattle.smk_laws_protocol.proofs.Above.{held_by, made_by}
use Rattle.smk_laws_protocol.proofs.Basics.{by_test, clash, none_some}
use Rattle.smk_laws_protocol.proofs.ProtocolHolds.{keeps_sound}
use Rattle.smk_laws_protocol.proofs.Reading.{in_of}

abbrev pub from : Path
from = codes "in.txt"

abbrev pub to : Path
to = codes "out.txt"

abbrev pub recipe : Recipe
recipe =
    record {
      template = codes "cp {input} {output}";
      wildcards = [];
      params = [];
      inputs = record { name = []; paths = from ∷ [] } ∷ [];
      outputs = record { name = []; outs = record { path = to; kind = Plain } ∷ [] } ∷ [];
    }

-- that of the file to copy
abbrev pub stamp : Stamp
stamp = Sum 1000 (sum_of (codes "hello\n"))

abbrev job : Phase → OpenJob
job phase = record { recipe = recipe; logs = []; stamps = stamp ∷ []; serial = 1; kept = []; phase = phase }

abbrev pub copy_record : Record
copy_record = record { format = 2; path = to; made = 1; recipe = recipe; stamps = stamp ∷ []; members = [] }

-- one text is the record, and a command copies its inputs
abbrev pub outside : Outside
outside =
    record {
      read = λ bytes. if bytes_eq bytes (codes "r") then Some copy_record else None;
      act = λ r inputs. record { status = 0; outputs = map (λ t. Some t) inputs };
    }

abbrev entry : World
entry = world_of ((from, Regular (codes "hello\n") 1000 false) ∷ [])

abbrev pub call : Call → Event
call c = record { call = c; left = [] }

abbrev leaving : Call → Path → Node → Event
leaving c p n = record { call = c; left = record { place = p; node = n } ∷ [] }

abbrev log : List Event
log =
    call (Settled [] (Ok tt))
    ∷ call (MadeParents (mark_place to) (Ok tt))
    ∷ leaving (Created (mark_place to) (Ok true)) (mark_place to) (Regular [] 1001 false)
    ∷ call (Settled (mark_place to ∷ []) (Ok tt))
    ∷ call (Started recipe [] (codes "cp in.txt out.txt") (Ok 7))
    ∷ leaving (Waited (Ok (record { number = 7; status = 0 }))) to (Regular (codes "hello\n") 1002 false)
    ∷ call (Settled (to ∷ []) (Ok tt))
    ∷ call (MadeParents (record_place to) (Ok tt))
    ∷ leaving (Written (record_place to) (codes "r") (Ok tt)) (record_place to) (Regular (codes "r") 1003 false)
    ∷ call (Settled (record_place to ∷ []) (Ok tt))
    ∷ call (Removed (mark_place to) (Ok tt))
    ∷ call (Settled (mark_place to ∷ []) (Ok tt))
    ∷ []

-- the state while the job is open
abbrev with_job : Phase → RunState
with_job phase = record { jobs = job phase ∷ []; top = 1; steady = true; faulted = false }

abbrev at_end : RunState
at_end = record { jobs = []; top = 1; steady = true; faulted = false }

never : {A : Type 0} (b : Bool) → (b && false) ≡ true → A
never b h = clash (b && false) h (no b)
  where
    no : (b : Bool) → (b && false) ≡ false
    no true = refl
    no false = refl

no_marks : HasAllMarks outside (now outside entry) []
no_marks = record { marks = λ p h. never _ h; notes = λ p h. never _ h }

-- ---- when it begins

abbrev steadied : World
steadied = after entry (call (Settled [] (Ok tt)))

no_file : {A : Type 0} (a : Bool) (n : Option Node) (c : Bool) → n ≡ None → (a && (is_some (content_of n) && c)) ≡ true → A
no_file a None c e h = never a h
no_file a (Some n) c e h = none_some (Some n) e refl

-- no other file is a source
one_source : (q : Path) → is_source (now outside steadied) q ≡ true → list_any (overlaps q) (to ∷ []) ≡ false
one_source q h =
    by_test (bytes_eq q from) (λ e. subst (λ x. list_any (overlaps x) (to ∷ []) ≡ false) (sym (same_place q from e)) refl)
    (λ e. no_file (is_path_text q) ((now outside steadied).node q) (not (is_covered (now outside steadied) q)) (nothing e (is_outside q)) h)
  where
    nothing : bytes_eq q from ≡ false → (b : Bool) → (if b then (if bytes_eq q from then Some (Regular (codes "hello\n") 1000 false) else None) else None) ≡ None
    nothing e true = ap (λ (c : Bool). if c then Some (Regular (codes "hello\n") 1000 false) else None) e
    nothing e false = refl

nothing_known : {A : Type 0} (b : Bool) → (stands (if b then Absent else Absent) || (b && false)) ≡ true → A
nothing_known true h = never true h
nothing_known false h = never false h

no_record : {A : Type 0} (b : Bool) (r : Record) → option_map core (readable (if b then Absent else Absent)) ≡ Some r → A
no_record true r h = none_some None refl h
no_record false r h = none_some None refl h

may_begin : MayBegin outside (record (at_entry outside 0) { steady = true }) steadied (job Marking)
may_begin =
    record {
      paths = (refl, tt);
      apart = refl;
      from_open = tt;
      from_inputs = refl;
      no_source = one_source;
      no_clash = λ q h over. nothing_known (is_path_text q) h;
      at_hand = (inl (record { source = record { bytes = codes "hello\n"; time = 1000; read_only = false }; stands = refl; same = refl }), tt);
      each_stamped = refl;
      kept_own = λ p r h. none_some None refl h;
    }

-- ---- the run

pub going_none : (s : NodeState) → reading (going None s) ≡ None
going_none Owned = refl
going_none (Known n b) = refl

pub removed_absent : (w : World) (m : Path) → IsAbsent (after w (call (Removed m (Ok tt)))) m
removed_absent w m q h = ap (λ (b : Bool). reading (if b then going None (w.nodes q) else w.nodes q)) h ∙ going_none (w.nodes q)

pub runs : Runs outside (at_entry outside 0) entry log at_end
runs =
    Next _ (record (at_entry outside 0) { steady = true }) _ _ _ _ (Steady _ [] refl refl refl no_marks)
    (Next _ (with_job Marking) _ _ _ _ (Begin _ (job Marking) 1 refl refl may_begin (inl (refl, refl, refl)) refl (inl refl))
    (Next _ (with_job Marking) _ _ _ _ (Go _ [] [] (job Marking) Marking refl (inl refl) (Mark (mark_place to) true refl (inl refl)))
    (Next _ (with_job Marked) _ _ _ _ (Go _ [] [] (job Marking) Marked refl (inl refl) (AllMarked (mark_place to ∷ []) refl (refl, tt) (refl, tt)))
    (Next _ (with_job (Running 7)) _ _ _ _ (Go _ [] [] (job Marked) (Running 7) refl (inl refl) (Start (codes "cp in.txt out.txt") 7 refl))
    (Next _ (with_job (Ended 0)) _ _ _ _ (Go _ [] [] (job (Running 7)) (Ended 0) refl (inl refl) (Wait 7 0 refl))
    (Next _ (with_job Firm) _ _ _ _ (Go _ [] [] (job (Ended 0)) Firm refl (inl refl) (AllMade (to ∷ []) refl (refl, tt) (refl, tt)))
    (Next _ (with_job Firm) _ _ _ _ (Go _ [] [] (job Firm) Firm refl (inl refl) (MakeFolders (record_place to) (inr (inr (refl, inl refl)))))
    (Next _ (with_job Firm) _ _ _ _ (Go _ [] [] (job Firm) Firm refl (inl refl) (Write to (codes "r") refl (inl refl) (λ time read_only. refl)))
    (Next _ (with_job Recorded) _ _ _ _ (Go _ [] [] (job Firm) Recorded refl (inl refl) (AllWritten (record_place to ∷ []) refl ((refl, refl), tt) (refl, tt)))
    (Next _ (with_job Recorded) _ _ _ _ (Go _ [] [] (job Recorded) Recorded refl (inl refl) (Unmark to (inl refl) (inl refl)))
    (Next _ at_end _ _ _ _ (Close _ [] [] (job Recorded) refl refl (AllUnmarked (mark_place to ∷ []) (inl refl) (removed_absent (run entry (take 10 log)) (mark_place to), tt) (refl, tt)))
    (Done _ _))))))))))))

-- ---- what the world lets happen

-- the child leaves the copy
copies : (trees : List Tree) → ContentsAre (run entry (take 5 log)) recipe trees → OutputsAre (run entry (take 6 log)) recipe (map (λ t. Some t) trees)
copies [] h = absurd h
copies (File bytes ∷ []) h = (h.0, tt)
copies (Folder es ∷ []) h = absurd (no h.0.folder)
  where
    no : Some (Regular (codes "hello\n") 1000 false) ≡ Some Directory → ⊥
    no h = cc
copies (t ∷ u ∷ trees) h = absurd h.1

-- the file that is there stands in no folder
pub entry_tree : IsTree entry
entry_tree q some =
    by_test (bytes_eq q from) (λ e. subst (CanHold (λ x. reading (entry.nodes x))) (sym (same_place q from e)) (record { folders = λ f u. clash (is_under from f) u (no_slash_under from f refl); named = refl }))
    (λ e. no_node (subst (λ (b : Bool). IsSome (reading (firmly (if b then Some (Regular (codes "hello\n") 1000 false) else None)))) e some))

-- nor does the copy
copy_held : (at : Path → Option Node) → CanHold at to
copy_held at = record { folders = λ f u. clash (is_under to f) u (no_slash_under to f refl); named = refl }

h0 : Happens outside.act entry (call (Settled [] (Ok tt)))
h0 = happens outside.act entry (Settled [] (Ok tt)) [] entry_tree refl tt

h1 : Happens outside.act (run entry (take 1 log)) (call (MadeParents (mark_place to) (Ok tt)))
h1 =
    happens outside.act (run entry (take 1 log)) (MadeParents (mark_place to) (Ok tt)) [] h0.tree refl
    (made_by (run entry (take 1 log)) (mark_place to) (inr (refl, refl), (inr (refl, refl), (inr (refl, refl), tt))) refl)

h2 : Happens outside.act (run entry (take 2 log)) (leaving (Created (mark_place to) (Ok true)) (mark_place to) (Regular [] 1001 false))
h2 =
    happens outside.act (run entry (take 2 log)) (Created (mark_place to) (Ok true)) (record { place = mark_place to; node = Regular [] 1001 false } ∷ []) h1.tree (refl, (1001, refl))
    (λ made. (λ some. held_by (λ x. reading ((run entry (take 2 log)).nodes x)) (mark_place to) (refl, (refl, (refl, tt))) refl, λ folder. no_folder folder))

h3 : Happens outside.act (run entry (take 3 log)) (call (Settled (mark_place to ∷ []) (Ok tt)))
h3 = happens outside.act (run entry (take 3 log)) (Settled (mark_place to ∷ []) (Ok tt)) [] h2.tree refl tt

h4 : Happens outside.act (run entry (take 4 log)) (call (Started recipe [] (codes "cp in.txt out.txt") (Ok 7)))
h4 = happens outside.act (run entry (take 4 log)) (Started recipe [] (codes "cp in.txt out.txt") (Ok 7)) [] h3.tree (refl, λ h. in_of [] 7 h) tt

abbrev the_copy : List Change
the_copy = record { place = to; node = Regular (codes "hello\n") 1002 false } ∷ []

abbrev reads_then : Path → Option Node
reads_then = left_at (run entry (take 5 log)) (owned_by 7 (run entry (take 5 log)).children) the_copy

h5 : Happens outside.act (run entry (take 5 log)) (leaving (Waited (Ok (record { number = 7; status = 0 }))) to (Regular (codes "hello\n") 1002 false))
h5 =
    happens outside.act (run entry (take 5 log)) (Waited (Ok (record { number = 7; status = 0 }))) the_copy h4.tree
    (record { number = 7; recipe = recipe; logs = [] }, refl, λ zero trees contents. (refl, copies trees contents))
    (λ q owned some.
    by_test (bytes_eq to q) (λ e. subst (CanHold reads_then) (same_place to q e) (copy_held reads_then))
    (λ e. no_node (subst (λ (b : Bool). IsSome (if b then Some (Regular (codes "hello\n") 1002 false) else None)) e some)))

h6 : Happens outside.act (run entry (take 6 log)) (call (Settled (to ∷ []) (Ok tt)))
h6 = happens outside.act (run entry (take 6 log)) (Settled (to ∷ []) (Ok tt)) [] h5.tree refl tt

h7 : Happens outside.act (run entry (take 7 log)) (call (MadeParents (record_place to) (Ok tt)))
h7 =
    happens outside.act (run entry (take 7 log)) (MadeParents (record_place to) (Ok tt)) [] h6.tree refl
    (made_by (run entry (take 7 log)) (record_place to) (inl refl, (inl refl, (inr (refl, refl), tt))) refl)

h8 : Happens outside.act (run entry (take 8 log)) (leaving (Written (record_place to) (codes "r") (Ok tt)) (record_place to) (Regular (codes "r") 1003 false))
h8 =
    happens outside.act (run entry (take 8 log)) (Written (record_place to) (codes "r") (Ok tt)) (record { place = record_place to; node = Regular (codes "r") 1003 false } ∷ []) h7.tree (1003, false, refl)
    (λ some. held_by (λ x. reading ((run entry (take 8 log)).nodes x)) (record_place to) (refl, (refl, (refl, tt))) refl, λ folder. no_folder folder)

h9 : Happens outside.act (run entry (take 9 log)) (call (Settled (record_place to ∷ []) (Ok tt)))
h9 = happens outside.act (run entry (take 9 log)) (Settled (record_place to ∷ []) (Ok tt)) [] h8.tree refl tt

h10 : Happens outside.act (run entry (take 10 log)) (call (Removed (mark_place to) (Ok tt)))
h10 = happens outside.act (run entry (take 10 log)) (Removed (mark_place to) (Ok tt)) [] h9.tree refl tt

h11 : Happens outside.act (run entry (take 11 log)) (call (Settled (mark_place to ∷ []) (Ok tt)))
h11 = happens outside.act (run entry (take 11 log)) (Settled (mark_place to ∷ []) (Ok tt)) [] h10.tree refl tt

pub follows : Follows outside.act entry log
follows = (h0, (h1, (h2, (h3, (h4, (h5, (h6, (h7, (h8, (h9, (h10, (h11, tt))))))))))))

no_serial : IsTop outside entry 0
no_serial p r n clear i = no_record (is_path_text p) r clear.0

-- So its log keeps soundness.
pub keeps : KeepsSound outside entry log [] true
keeps = keeps_sound outside entry 0 log at_end no_serial follows runs
