-- What `finish` does is a run of the protocol: one that closes the job, or one that ends where a call failed.
use Rattle.std.proofs.Common.{◌≡◌, inl, inr, ℕ, Bool, true, false, not, List, [], ◌∷◌, ◌++◌, map, filter, refl, sym, ap, subst, ◌∙◌, append_assoc, append-nil, Some, None, true≢false}
use Rattle.std.specs.Prelude.{IsTrue, if◌then◌else◌, option_map}
use Rattle.std.specs.List.{list_all}
use Rattle.std.proofs.lemmas.Bool.{not_from_false, cases_Bool}
use Rattle.smk_base.specs.Path.{is_path, is_at_or_under, own_folder}
use Rattle.smk_base.specs.Place.{mark_place, record_place}
use Rattle.smk_base.specs.declared.tree.Tree.{Tree}
use Rattle.smk_base.specs.declared.tree.Tree.TheVariants.{File, Folder}
use Rattle.smk_base.specs.declared.tree.TreeEntry.{TreeEntry}
use Rattle.smk_base.proofs.Places.{and_first, and_second}
use Rattle.smk_base.proofs.Apart.{path_outside}
use Rattle.smk_world.specs.declared.event.Node.TheVariants.{Regular, Directory}
use Rattle.smk_world.specs.declared.event.NodeState.{NodeState}
use Rattle.smk_world.specs.declared.event.NodeState.TheVariants.{Owned, Known}
use Rattle.smk_world.specs.declared.event.Call.{Call}
use Rattle.smk_world.specs.declared.event.Call.TheVariants.{Looked, ReadFile, ReadFolder, Written, Created, Removed, MadeParents, Settled, Protected, Started, Waited}
use Rattle.smk_world.specs.declared.event.Change.{Change}
use Rattle.smk_world.specs.declared.event.Child.{Child}
use Rattle.smk_world.specs.declared.event.Event.{Event}
use Rattle.smk_world.specs.declared.recipe.Kind.TheVariants.{Plain, Folder as FolderKind}
use Rattle.smk_world.specs.declared.recipe.Kind.{Kind}
use Rattle.smk_world.specs.declared.recipe.Out.{Out}
use Rattle.smk_world.specs.declared.recipe.Recipe.{Recipe}
use Rattle.smk_world.specs.World.{World, IsFormed, after, run, reading, reads_folder, node_after}
use Rattle.smk_world.specs.Calls.{Acted}
use Rattle.smk_world.specs.Runs.{Follows}
use Rattle.smk_world.specs.Requests.{Request, request, HasDone, Carries}
use Rattle.smk_world.specs.Requests.Request.{Look, Settle}
use Rattle.smk_world.specs.Trees.{Path, Act, Each, IsIn, among, is_good, is_path_text, is_text, are_members, below, outs_of, folders_of, is_folder_kind}
use Rattle.smk_world.proofs.Names.{formed_run}
use Rattle.smk_world.proofs.Runs.{run_append}
use Rattle.smk_record.specs.declared.record.Member.{Member}
use Rattle.smk_record.specs.Records.{are_valid_members, are_none}
use Rattle.smk_store.specs.Images.{Image, is_directory, is_folder, bytes_of, members_under, entry_under, names_under, tree_now}
use Rattle.smk_store.specs.Soundness.{Outside}
use Rattle.smk_store.specs.Steps.{write_each, remove_each, places_of, unmark_requests}
use Rattle.smk_laws_protocol.specs.Protocol.{OpenJob, RunState, Phase, Ended, Recorded, Runs, Done, Next, Aside, Fail, Look as LookMove, outputs, record_places, listed_of, record_of, as_ok, now, runs, is_running, IsLook, IsGood}
use Rattle.smk_laws_protocol.proofs.Basics.{each_of, each_in, filter_in, in_filter, in_among}
use Rattle.smk_laws_protocol.proofs.Calls.{in_map}
use Rattle.smk_store_members.specs.Members.{AreMembers, AllIsFound}
use Rattle.smk_job.specs.Jobs.{bytes_with, finish_requests, abandon_requests}
use Rattle.smk_job.specs.declared.fault.CloseFault.{CloseFault}
use Rattle.smk_job.specs.Sights.{IsSeenWrong, Nodes, reads_file, IsOfKind, IsListing, AreLooks, AreSeen, IsBlind, AreLookedAt, EndsFailed, HasSeen, IsDone}
use Rattle.smk_laws_job.specs.Laws.{MayFinish, IsRecordable, as_underway, stopped, FinishingRuns, FinishingPartsRun, LookingRuns, LosingRuns, AbandoningRuns}
use Rattle.smk_job.proofs.Single.{IsKnown, done_reaches}
use Rattle.smk_laws_job.proofs.Owned.{known_own}
use Rattle.smk_job.proofs.Outs.{paths_same}
use Rattle.smk_job.proofs.Lists.{among_by}
use Rattle.smk_laws_job.proofs.Abandoning as abandoning
use Rattle.smk_laws_job.proofs.Readable.{AreFor, read_back, outputs_paths}
use Rattle.smk_laws_job.proofs.Still.{IsStill, still_itself, still_members, still_reaches, stays_puts}
use Rattle.smk_laws_job.proofs.Onward.{AreListed, full_of, halted, without, keeps_all, keeps_records, loses_all}

-- ## Looks

look_call : (o : Outside) (call : Call) (p : Path) → request call ≡ Look p → IsLook o call
look_call o (Looked x r) p is = tt
look_call o (ReadFile x limit r) p is = tt
look_call o (ReadFolder x r) p is = tt
look_call o (Written x bytes r) p is = cc
look_call o (Created x r) p is = cc
look_call o (MadeParents x r) p is = cc
look_call o (Removed x r) p is = cc
look_call o (Settled xs r) p is = cc
look_call o (Protected x r) p is = cc
look_call o (Started recipe logs command r) p is = cc
look_call o (Waited r) p is = cc

list_call : (o : Outside) (call : Call) (out : Out) → IsListing out (request call) → IsLook o call
list_call o (Looked x r) out h = tt
list_call o (ReadFile x limit r) out h = tt
list_call o (ReadFolder x r) out h = tt
list_call o (Written x bytes r) out h = absurd h
list_call o (Created x r) out h = absurd h
list_call o (MadeParents x r) out h = absurd h
list_call o (Removed x r) out h = absurd h
list_call o (Settled xs r) out h = absurd h
list_call o (Protected x r) out h = absurd h
list_call o (Started recipe logs command r) out h = absurd h
list_call o (Waited r) out h = absurd h

look_nodes : (o : Outside) (call : Call) (left : List Change) (cs : List Child) (nodes : Nodes) → IsLook o call → (λ (q : Path). node_after call left cs q (nodes q)) ≡ nodes
look_nodes o (Looked x r) left cs nodes h = refl
look_nodes o (ReadFile x limit r) left cs nodes h = refl
look_nodes o (ReadFolder x r) left cs nodes h = refl
look_nodes o (Written x bytes r) left cs nodes h = absurd h
look_nodes o (Created x r) left cs nodes h = absurd h
look_nodes o (MadeParents x r) left cs nodes h = absurd h
look_nodes o (Removed x r) left cs nodes h = absurd h
look_nodes o (Settled xs r) left cs nodes h = absurd h
look_nodes o (Protected x r) left cs nodes h = absurd h
look_nodes o (Started recipe logs command r) left cs nodes h = absurd h
look_nodes o (Waited r) left cs nodes h = absurd h

abbrev Looks : Outside → List Event → Type 0
Looks o es = Each (λ (e : Event). IsLook o e.call) es

looks_append : (o : Outside) (es fs : List Event) → Looks o es → Looks o fs → Looks o (es ++ fs)
looks_append o [] fs h k = k
looks_append o (e ∷ es) fs h k = (h.0, looks_append o es fs h.1 k)

listings : (o : Outside) (out : Out) (es : List Event) → Each (λ (d : Event). IsListing out (request d.call)) es → Looks o es
listings o out [] h = tt
listings o out (e ∷ es) h = (list_call o e.call out h.0, listings o out es h.1)

looks_at : (o : Outside) (out : Out) (es : List Event) → AreLooks out es → Looks o es
looks_at o out [] h = absurd h
looks_at o out (e ∷ es) h = (look_call o e.call out.path h.0, listings o out es h.1)

looks_of : (o : Outside) (nodes : Nodes) (outs : List Out) (ms : List (List Member)) (es : List Event) → AreSeen nodes outs ms es → Looks o es
looks_of o nodes [] [] es h = subst (Looks o) (sym h) tt
looks_of o nodes [] (m ∷ ms) es h = absurd h
looks_of o nodes (out ∷ outs) [] es h = absurd h
looks_of o nodes (out ∷ outs) (m ∷ ms) es (first, more, e, l, q, k, rest) =
    subst (Looks o) (sym e) (looks_append o first more (looks_at o out first l) (looks_of o nodes outs ms more rest))

nodes_same : (o : Outside) (es : List Event) (w : World) → Looks o es → (run w es).nodes ≡ w.nodes
nodes_same o [] w h = refl
nodes_same o (e ∷ es) w h = nodes_same o es (after w e) h.1 ∙ look_nodes o e.call e.left w.children w.nodes h.0

look_all : (o : Outside) (s : RunState) → s.faulted ≡ false → (es : List Event) (w : World) (rest : List Event) (end : RunState) → Looks o es → Runs o s (run w es) rest end → Runs o s w (es ++ rest) end
look_all o s calm [] w rest end h later = later
look_all o s calm (e ∷ es) w rest end h later = Next s s end w e (es ++ rest) (Aside e calm (LookMove e.call h.0)) (look_all o s calm es (after w e) rest end h.1 later)

follows_rest : (act : Recipe → List Tree → Acted) (es fs : List Event) (w : World) → Follows act w (es ++ fs) → Follows act (run w es) fs
follows_rest act [] fs w h = h
follows_rest act (e ∷ es) fs w h = follows_rest act es fs (after w e) h.1

looks_wrong : (o : Outside) (nodes : Nodes) (outs : List Out) (fault : CloseFault) (es : List Event) → IsSeenWrong nodes outs fault es → Looks o es
looks_wrong o nodes [] fault es h = absurd h
looks_wrong o nodes (out ∷ outs) fault es (first, more, e, l, q, inl (none, wrong)) =
    subst (Looks o) (sym e) (looks_append o first more (looks_at o out first l) (subst (Looks o) (sym none) tt))
looks_wrong o nodes (out ∷ outs) fault es (first, more, e, l, q, inr (m, k, rest)) =
    subst (Looks o) (sym e) (looks_append o first more (looks_at o out first l) (looks_wrong o nodes outs fault more rest))

looks_some : (o : Outside) (outs : List Out) (es : List Event) → AreLookedAt outs es → Looks o es
looks_some o [] es h = subst (Looks o) (sym h) tt
looks_some o (out ∷ outs) es (inl none) = subst (Looks o) (sym none) tt
looks_some o (out ∷ outs) es (inr (first, more, e, l, q, rest)) = subst (Looks o) (sym e) (looks_append o first more (looks_at o out first l) (looks_some o outs more rest))

pub looking_runs : LookingRuns
looking_runs o s outs w es calm looked =
    subst (λ fs. Runs o s w fs s) (append-nil es) (look_all o s calm es w [] s (looks_some o outs es looked) (Done s (run w es)))

-- ## A look that fails

looks_split : (o : Outside) (es fs : List Event) → Looks o (es ++ fs) → Looks o es × Looks o fs
looks_split o [] fs h = (tt, h)
looks_split o (e ∷ es) fs h = let more = looks_split o es fs h.1 in ((h.0, more.0), more.1)

pub look_ok : (o : Outside) (call : Call) → IsLook o call → IsLook o (as_ok call)
look_ok o (Looked x r) h = tt
look_ok o (ReadFile x limit r) h = tt
look_ok o (ReadFolder x r) h = tt
look_ok o (Written x bytes r) h = absurd h
look_ok o (Created x r) h = absurd h
look_ok o (Removed x r) h = absurd h
look_ok o (MadeParents x r) h = absurd h
look_ok o (Settled xs r) h = absurd h
look_ok o (Protected x r) h = absurd h
look_ok o (Started recipe logs command r) h = absurd h
look_ok o (Waited r) h = absurd h

-- the last of these looks fails
fails_last : (o : Outside) (s : RunState) → s.faulted ≡ false → (w : World) (es : List Event) → Looks o es → EndsFailed es → Runs o s w es (stopped o s)
fails_last o s calm w es looks (before, last, e, quiet, bad) =
    let both = looks_split o before (last ∷ []) (subst (Looks o) e looks) in
    subst (λ fs. Runs o s w fs (stopped o s)) (sym e)
    (look_all o s calm before w (last ∷ []) (stopped o s) both.0
    (Next s (stopped o s) (stopped o s) (run w before) last [] (Fail last s bad (Aside (record last { call = as_ok last.call }) calm (LookMove (as_ok last.call) (look_ok o last.call both.1.0))))
    (Done (stopped o s) (after (run w before) last))))

blind_runs : (o : Outside) (s : RunState) → s.faulted ≡ false → (outs : List Out) (w : World) (es : List Event) → IsBlind outs es → Runs o s w es (stopped o s)
blind_runs o s calm [] w es h = absurd h
blind_runs o s calm (out ∷ outs) w es (first, more, e, l, inl (none, bad)) =
    subst (λ fs. Runs o s w fs (stopped o s)) (sym (e ∙ ap (λ t. first ++ t) none ∙ append-nil first)) (fails_last o s calm w first (looks_at o out first l) bad)
blind_runs o s calm (out ∷ outs) w es (first, more, e, l, inr (quiet, rest)) =
    subst (λ fs. Runs o s w fs (stopped o s)) (sym e)
    (look_all o s calm first w more (stopped o s) (looks_at o out first l) (blind_runs o s calm outs (run w first) more rest))

-- ## What was seen at the outputs

-- each output is of its kind, with these members
abbrev AreOfKind : Nodes → List Out → List (List Member) → Type 0
AreOfKind nodes [] [] = Unit {0}
AreOfKind nodes [] (m ∷ ms) = ⊥
AreOfKind nodes (out ∷ outs) [] = ⊥
AreOfKind nodes (out ∷ outs) (m ∷ ms) = IsOfKind nodes out.path out.kind m × AreOfKind nodes outs ms

kinds_of : (nodes : Nodes) (outs : List Out) (ms : List (List Member)) (es : List Event) → AreSeen nodes outs ms es → AreOfKind nodes outs ms
kinds_of nodes [] [] es h = tt
kinds_of nodes [] (m ∷ ms) es h = absurd h
kinds_of nodes (out ∷ outs) [] es h = absurd h
kinds_of nodes (out ∷ outs) (m ∷ ms) es (first, more, e, l, q, k, rest) = (k, kinds_of nodes outs ms more rest)

abbrev pub HasKind : Nodes → Out → Type 0
HasKind nodes out = (m : List Member) × IsOfKind nodes out.path out.kind m

each_kind : (nodes : Nodes) (outs : List Out) (ms : List (List Member)) → AreOfKind nodes outs ms → Each (HasKind nodes) outs
each_kind nodes [] ms h = tt
each_kind nodes (out ∷ outs) [] h = absurd h
each_kind nodes (out ∷ outs) (m ∷ ms) h = ((m, h.0), each_kind nodes outs ms h.1)

-- ## Good outputs

good_by : (p : Path) (entries : List TreeEntry) (b : Bool) (st : NodeState) → b ≡ true → reads_file st ≡ true
    → is_good p Plain (if is_directory (if b then reading st else None) then Some (Folder entries) else option_map File (bytes_of (if b then reading st else None))) ≡ true
good_by p entries false st e h = absurd (true≢false (sym e))
good_by p entries true Owned e h = absurd (true≢false (sym h))
good_by p entries true (Known None besides) e h = absurd (true≢false (sym h))
good_by p entries true (Known (Some Directory) besides) e h = absurd (true≢false (sym h))
good_by p entries true (Known (Some (Regular bytes time read_only)) besides) e h = refl

good_file : (o : Outside) (w : World) (out : Out) → out.kind ≡ Plain → IsTrue (is_path_text out.path) → reads_file (w.nodes out.path) ≡ true → IsGood o w out
good_file o w out kind path file =
    subst (λ k. IsTrue (is_good out.path k (tree_now (now o w) out.path))) (sym kind)
    (good_by out.path (map (entry_under (now o w) out.path) (names_under (now o w) out.path)) (not (is_at_or_under out.path own_folder)) (w.nodes out.path)
    (not_from_false (is_at_or_under out.path own_folder) (path_outside out.path (and_first (is_path out.path) (is_text out.path) path))) file)

good_folder_by : (p : Path) (entries : List TreeEntry) (b : Bool) (st : NodeState) → b ≡ true → reads_folder st ≡ true → are_members p (map (λ (e : TreeEntry). e.name) entries) ≡ true
    → is_good p FolderKind (if is_directory (if b then reading st else None) then Some (Folder entries) else option_map File (bytes_of (if b then reading st else None))) ≡ true
good_folder_by p entries false st e h k = absurd (true≢false (sym e))
good_folder_by p entries true Owned e h k = absurd (true≢false (sym h))
good_folder_by p entries true (Known None besides) e h k = absurd (true≢false (sym h))
good_folder_by p entries true (Known (Some Directory) besides) e h k = k
good_folder_by p entries true (Known (Some (Regular bytes time read_only)) besides) e h k = absurd (true≢false (sym h))

entry_names : (image : Image) (p : Path) (qs : List Path)
    → map (λ (e : TreeEntry). e.name) (map (entry_under image p) qs) ≡ map (λ (m : Member). m.name) (map (λ q. record { folder = is_folder image q; name = below p q }) qs)
entry_names image p [] = refl
entry_names image p (q ∷ qs) = ap (λ t. below p q ∷ t) (entry_names image p qs)

good_folder : (o : Outside) (w : World) (out : Out) (members : List Member) → out.kind ≡ FolderKind → IsTrue (is_path_text out.path) → reads_folder (w.nodes out.path) ≡ true
    → are_valid_members out.path members ≡ true → members ≡ members_under (now o w) out.path → IsGood o w out
good_folder o w out members kind path folder valid same =
    let names : are_members out.path (map (λ (m : Member). m.name) members) ≡ true = and_first (are_members out.path (map (λ (m : Member). m.name) members)) _ valid in
    subst (λ k. IsTrue (is_good out.path k (tree_now (now o w) out.path))) (sym kind)
    (good_folder_by out.path (map (entry_under (now o w) out.path) (names_under (now o w) out.path)) (not (is_at_or_under out.path own_folder)) (w.nodes out.path)
    (not_from_false (is_at_or_under out.path own_folder) (path_outside out.path (and_first (is_path out.path) (is_text out.path) path))) folder
    (ap (are_members out.path) (entry_names (now o w) out.path (names_under (now o w) out.path) ∙ ap (map (λ (m : Member). m.name)) (sym same)) ∙ names))

-- ## Which outputs are directories

pub folder_among : (outs : List Out) (out : Out) → IsIn outs out → is_folder_kind out.kind ≡ true
    → IsIn (map (λ (x : Out). x.path) (filter (λ (x : Out). is_folder_kind x.kind) outs)) out.path
folder_among outs out i kind = mapped (filter (λ (x : Out). is_folder_kind x.kind) outs) (filter_in (λ (x : Out). is_folder_kind x.kind) outs out i kind)
  where
    mapped : (xs : List Out) → IsIn xs out → IsIn (map (λ (x : Out). x.path) xs) out.path
    mapped [] k = absurd k
    mapped (x ∷ xs) (inl e) = inl (ap (λ (y : Out). y.path) e)
    mapped (x ∷ xs) (inr k) = inr (mapped xs k)

among_folder : (outs : List Out) (p : Path) → among (map (λ (x : Out). x.path) (filter (λ (x : Out). is_folder_kind x.kind) outs)) p ≡ true
    → (out : Out) × IsIn outs out × (is_folder_kind out.kind ≡ true) × (p ≡ out.path)
among_folder outs p h =
    let a = in_map (λ (x : Out). x.path) (filter (λ (x : Out). is_folder_kind x.kind) outs) p (in_among (map (λ (x : Out). x.path) (filter (λ (x : Out). is_folder_kind x.kind) outs)) p h) in
    let b = in_filter (λ (x : Out). is_folder_kind x.kind) outs a.0 a.1 in
    (a.0, b.0, b.1, a.2)

file_or_folder : (st : NodeState) → reads_file st ≡ true → reads_folder st ≡ true → ⊥
file_or_folder Owned h k = true≢false (sym h)
file_or_folder (Known None besides) h k = true≢false (sym h)
file_or_folder (Known (Some Directory) besides) h k = true≢false (sym h)
file_or_folder (Known (Some (Regular bytes time read_only)) besides) h k = true≢false (sym k)

pub out_path : (outs : List Out) (p : Path) → IsIn (map (λ (x : Out). x.path) outs) p → (out : Out) × IsIn outs out × (p ≡ out.path)
out_path outs p i = in_map (λ (x : Out). x.path) outs p i

path_in : (outs : List Out) (out : Out) → IsIn outs out → IsIn (map (λ (x : Out). x.path) outs) out.path
path_in [] out i = absurd i
path_in (x ∷ outs) out (inl e) = inl (ap (λ (y : Out). y.path) e)
path_in (x ∷ outs) out (inr i) = inr (path_in outs out i)

text_in : (ps : List Path) (p : Path) → list_all is_path_text ps ≡ true → IsIn ps p → is_path_text p ≡ true
text_in [] p h i = absurd i
text_in (q ∷ ps) p h (inl e) = subst (λ x. is_path_text x ≡ true) (sym e) (and_first (is_path_text q) (list_all is_path_text ps) h)
text_in (q ∷ ps) p h (inr i) = text_in ps p (and_second (is_path_text q) (list_all is_path_text ps) h) i

-- ## An open job whose outputs were seen

module _ (o : Outside) (j : OpenJob) (number : ℕ) (w : World) (may : MayFinish o w j) (ms : List (List Member)) (looks : List Event) (seen : AreSeen w.nodes (outs_of j.recipe) ms looks) where
  abbrev u : World
  u = run w looks

  abbrev outs : List Out
  outs = outs_of j.recipe

  -- the members that an output's record is to have
  abbrev members_at : Path → List Member
  members_at p = listed_of j p (members_under (now o u) p)

  same : u.nodes ≡ w.nodes
  same = nodes_same o looks w (looks_of o w.nodes outs ms looks seen)

  kinds : AreOfKind u.nodes outs ms
  kinds = subst (λ ns. AreOfKind ns outs ms) (sym same) (kinds_of w.nodes outs ms looks seen)

  formed : IsFormed u
  formed = formed_run w looks may.formed

  found : Each (AllIsFound u.nodes) (folders_of j.recipe)
  found = subst (λ ns. Each (AllIsFound ns) (folders_of j.recipe)) (sym same) may.found

  recordable : (p : Path) → IsIn (outputs j) p → IsRecordable j p
  recordable p i = each_in (IsRecordable j) (outputs j) p may.records i

  path_text : (p : Path) → IsIn (outputs j) p → is_path_text p ≡ true
  path_text p i = text_in (outputs j) p (outputs_paths (record_of j p) (recordable p i).valid) i

  out_output : (out : Out) → IsIn outs out → IsIn (outputs j) out.path
  out_output out i = subst (λ ps. IsIn ps out.path) (paths_same j.recipe.outputs) (path_in outs out i)

  output_out : (p : Path) → IsIn (outputs j) p → (out : Out) × IsIn outs out × (p ≡ out.path)
  output_out p i = out_path outs p (subst (λ ps. IsIn ps p) (sym (paths_same j.recipe.outputs)) i)

  -- of a directory: what was found in it, at any world in which this still stands
  folder_members : (v : World) → IsStill u v → (out : Out) (m : List Member) → IsIn outs out → is_folder_kind out.kind ≡ true → AreMembers u.nodes out.path m → m ≡ members_under (now o v) out.path
  folder_members v still out m i kind are =
      still_members o.read u v out.path m still (and_first (is_path out.path) (is_text out.path) (path_text out.path (out_output out i)))
      (each_in (AllIsFound u.nodes) (folders_of j.recipe) out.path found (folder_among outs out i kind)) are

  -- a plain output is no directory too
  plain_apart : (out : Out) (m : List Member) → out.kind ≡ Plain → IsOfKind u.nodes out.path out.kind m → among (folders_of j.recipe) out.path ≡ false
  plain_apart out m kind is = elim (cases_Bool (among (folders_of j.recipe) out.path)) [
    | inr no_folder ↦ no_folder
    | inl folder ↦
        let other = among_folder outs out.path folder in
        let k = each_in (HasKind u.nodes) outs other.0 (each_kind u.nodes outs ms kinds) other.1 in
        absurd (file_or_folder (u.nodes out.path) (file_kind out.kind kind is) (subst (λ q. reads_folder (u.nodes q) ≡ true) (sym other.3) (folder_kind other.0.path k.0 other.0.kind other.2 k.1)))
  ]
    where
      file_kind : (kind : Kind) → kind ≡ Plain → IsOfKind u.nodes out.path kind m → reads_file (u.nodes out.path) ≡ true
      file_kind Plain e k = k.0
      file_kind FolderKind e k = cc

      folder_kind : (q : Path) (n : List Member) (kind : Kind) → is_folder_kind kind ≡ true → IsOfKind u.nodes q kind n → reads_folder (u.nodes q) ≡ true
      folder_kind q n Plain e k = absurd (true≢false (sym e))
      folder_kind q n FolderKind e k = k.0

  -- what was seen of an output is what is to be recorded, as long as it stands
  listed_still : (v : World) → IsStill u v → (out : Out) (m : List Member) → IsIn outs out → IsOfKind u.nodes out.path out.kind m → m ≡ listed_of j out.path (members_under (now o v) out.path)
  listed_still v still out m i is = by out.kind refl
    where
      of_kind : (kind : Kind) → out.kind ≡ kind → IsOfKind u.nodes out.path kind m
      of_kind kind e = subst (λ k. IsOfKind u.nodes out.path k m) e is

      by : (kind : Kind) → out.kind ≡ kind → m ≡ listed_of j out.path (members_under (now o v) out.path)
      by Plain e =
          (of_kind Plain e).1
          ∙ ap (λ (b : Bool). if b then members_under (now o v) out.path else []) (sym (plain_apart out m e is))
      by FolderKind e =
          folder_members v still out m i (ap is_folder_kind e) (of_kind FolderKind e).1
          ∙ ap (λ (b : Bool). if b then members_under (now o v) out.path else []) (sym (among_by (folders_of j.recipe) out.path (folder_among outs out i (ap is_folder_kind e))))

  -- these members may be in a record
  are_for : (out : Out) (m : List Member) → IsIn outs out → IsOfKind u.nodes out.path out.kind m → AreFor j.recipe out.path m
  are_for out m i is = by out.kind refl
    where
      of_kind : (kind : Kind) → out.kind ≡ kind → IsOfKind u.nodes out.path kind m
      of_kind kind e = subst (λ k. IsOfKind u.nodes out.path k m) e is

      by : (kind : Kind) → out.kind ≡ kind → AreFor j.recipe out.path m
      by Plain e =
          ap (λ (b : Bool). if b then are_valid_members out.path m else are_none m) (plain_apart out m e is) ∙ ap are_none (of_kind Plain e).1
      by FolderKind e =
          ap (λ (b : Bool). if b then are_valid_members out.path m else are_none m) (among_by (folders_of j.recipe) out.path (folder_among outs out i (ap is_folder_kind e)))
          ∙ (of_kind FolderKind e).1.valid

  -- the same of an output by its path
  seen_at : (p : Path) → IsIn (outputs j) p → (out : Out) × IsIn outs out × (p ≡ out.path) × HasKind u.nodes out
  seen_at p i =
      let a = output_out p i in
      (a.0, a.1, a.2, each_in (HasKind u.nodes) outs a.0 (each_kind u.nodes outs ms kinds) a.1)

  listed : AreListed o j u members_at
  listed =
      record {
        paths = path_text;
        reads = λ p i time read_only.
            let a = seen_at p i in
            let r = recordable p i in
            read_back o.read p j.serial j.recipe j.stamps (members_at p) time read_only may.reads r.valid r.writable r.short
            (subst (λ q. AreFor j.recipe q (members_at q)) (sym a.2)
            (subst (AreFor j.recipe a.0.path) (listed_still u (still_itself u formed) a.0 a.3.0 a.1 a.3.1) (are_for a.0 a.3.0 a.1 a.3.1)));
        lists = λ v still p i.
            let a = seen_at p i in
            subst (λ q. listed_of j q (members_under (now o v) q) ≡ members_at q) (sym a.2)
            (sym (listed_still v still a.0 a.3.0 a.1 a.3.1) ∙ listed_still u (still_itself u formed) a.0 a.3.0 a.1 a.3.1);
      }

  good : Each (IsGood o u) outs
  good = each_of (IsGood o u) outs (λ out i. by out i (each_in (HasKind u.nodes) outs out (each_kind u.nodes outs ms kinds) i).0 (each_in (HasKind u.nodes) outs out (each_kind u.nodes outs ms kinds) i).1 out.kind refl)
    where
      by : (out : Out) → IsIn outs out → (m : List Member) → IsOfKind u.nodes out.path out.kind m → (kind : Kind) → out.kind ≡ kind → IsGood o u out
      by out i m is Plain e = good_file o u out e (path_text out.path (out_output out i)) (subst (λ k. IsOfKind u.nodes out.path k m) e is).0
      by out i m is FolderKind e =
          let k = subst (λ k. IsOfKind u.nodes out.path k m) e is in
          good_folder o u out m e (path_text out.path (out_output out i)) k.0 k.1.valid (folder_members u (still_itself u formed) out m i (ap is_folder_kind e) k.1)

  -- the bytes that are written are those of the members that are to be recorded
  bytes_same : bytes_with (as_underway j number) (outputs j) ms ≡ map (full_of j members_at) (outputs j)
  bytes_same =
      ap (λ ps. bytes_with (as_underway j number) ps ms) (sym (paths_same j.recipe.outputs))
      ∙ each_same outs ms (λ out i. i) kinds
      ∙ ap (map (full_of j members_at)) (paths_same j.recipe.outputs)
    where
      each_same : (os : List Out) (xs : List (List Member)) → ((out : Out) → IsIn os out → IsIn outs out) → AreOfKind u.nodes os xs
          → bytes_with (as_underway j number) (map (λ (x : Out). x.path) os) xs ≡ map (full_of j members_at) (map (λ (x : Out). x.path) os)
      each_same [] [] own h = refl
      each_same [] (x ∷ xs) own h = absurd h
      each_same (out ∷ os) [] own h = absurd h
      each_same (out ∷ os) (x ∷ xs) own h =
          let here = listed_still u (still_itself u formed) out x (own out (inl refl)) h.0 in
          λ i. full_of j (λ q. here i) out.path ∷ each_same os xs (λ y k. own y (inr k)) h.1 i

  known : (p : Path) → IsIn (outputs j) p → IsKnown (u.nodes (record_place p))
  known p i = subst (λ ns. IsKnown (ns (record_place p))) (sym same) (known_own w (record_place p) may.own_folder refl)

-- ## All that `finish` does

-- calls one list after the other, and what was done of each
done_parts : (rs qs : List Request) (es : List Event) → HasDone (rs ++ qs) es → (first : List Event) × (last : List Event) × (es ≡ first ++ last) × HasDone rs first × HasDone qs last
done_parts [] qs es h = ([], es, refl, tt, h)
done_parts (r ∷ rs) qs [] h = absurd h
done_parts (r ∷ rs) qs (e ∷ es) h = let p = done_parts rs qs es h.2 in (e ∷ p.0, p.1, ap (λ l. e ∷ l) p.2, (h.0, h.1, p.3), p.4)

follows_front : (act : Act) (es fs : List Event) (w : World) → Follows act w (es ++ fs) → Follows act w es
follows_front act [] fs w h = tt
follows_front act (e ∷ es) fs w h = (h.0, follows_front act es fs (after w e) h.1)

-- The events up to where the records of the job are firm, which are a run of the protocol; and those that remove its marks.
pub record IsRecording (o : Outside) (s : RunState) (js ks : List OpenJob) (j : OpenJob) (w : World) (es : List Event) : Type 0 where
  pub first : List Event
  pub last : List Event
  pub events : es ≡ first ++ last
  pub runs : Runs o s w first (record s { jobs = js ++ (record j { phase = Recorded }) ∷ ks })
  pub unmarked : HasDone (unmark_requests (places_of (outputs j) j.logs)) last
  -- the world as the outputs were looked at, of which all that is outside of the engine's folder stays; with what was found
  pub seen : World
  pub still : IsStill seen (run w first)
  pub members : Path → List Member
  pub listed : AreListed o j seen members
  pub kinds : Each (HasKind seen.nodes) (outs_of j.recipe)

-- the state, in terms of the job
in_phase : (s : RunState) (js ks : List OpenJob) (j : OpenJob) (phase : Phase) → s.jobs ≡ js ++ j ∷ ks → j.phase ≡ phase → s ≡ record s { jobs = js ++ (record j { phase = phase }) ∷ ks }
in_phase s js ks j phase at is = λ i. record s { jobs = (at ∙ ap (λ p. js ++ (record j { phase = p }) ∷ ks) is) i }

regrouped : (a : Request) (b : List Request) (c : Request) (d : List Request) → (a ∷ (b ++ c ∷ [])) ++ d ≡ a ∷ (b ++ c ∷ d)
regrouped a b c d = ap (λ t. a ∷ t) (append_assoc b (c ∷ []) d)

module _ (o : Outside) (s : RunState) (js ks : List OpenJob) (j : OpenJob) (number : ℕ) (w : World) (es : List Event)
    (at : s.jobs ≡ js ++ j ∷ ks) (calm : s.faulted ≡ false) (ended : j.phase ≡ Ended 0) where
  begun : s ≡ record s { jobs = js ++ (record j { phase = Ended 0 }) ∷ ks }
  begun = in_phase s js ks j (Ended 0) at ended

  stops : halted o s js ks ≡ stopped o s
  stops = λ i. record s { jobs = (sym (without (runs o) js ks j (ap is_running ended)) ∙ ap (filter (runs o)) (sym at)) i; faulted = true }

  keeping : (ok : Bool) (goal : RunState) → (ok ≡ false → halted o s js ks ≡ goal) → (ok ≡ true → record s { jobs = js ++ ks } ≡ goal)
      → MayFinish o w j → Follows o.act w es → (ms : List (List Member)) → HasSeen (AreSeen w.nodes (outs_of j.recipe) ms) (Carries (finish_requests (as_underway j number) ms) ok) es
      → Runs o s w es goal
  keeping ok goal halts done may follows ms seen =
      let ps = outputs j in
      let L = members_at o j number w may ms seen.looks seen.seen in
      let closes_with : List Request = remove_each (map mark_place ps) ++ Settle (map mark_place ps) ∷ [] in
      let v = run w seen.looks in
      let still = still_itself v (formed o j number w may ms seen.looks seen.seen) in
      let carries = subst (λ rs. Carries rs ok seen.rest) (regrouped (Settle ps) (write_each (map record_place ps) (map (full_of j L) ps)) (Settle (record_places j)) closes_with)
      (subst (λ bs. Carries ((Settle ps ∷ (write_each (map record_place ps) bs ++ Settle (record_places j) ∷ [])) ++ closes_with) ok seen.rest) (bytes_same o j number w may ms seen.looks seen.seen) seen.done) in
      subst (λ fs. Runs o s w fs goal) (sym seen.events)
      (look_all o s calm seen.looks w seen.rest goal (looks_of o w.nodes (outs_of j.recipe) ms seen.looks seen.seen)
      (subst (λ x. Runs o x v seen.rest goal) (sym begun)
      (keeps_all o ok goal s js ks j calm halts v L (listed o j number w may ms seen.looks seen.seen) seen.rest still (good o j number w may ms seen.looks seen.seen)
      (known o j number w may ms seen.looks seen.seen) done (follows_rest o.act seen.looks seen.rest w (subst (Follows o.act w) seen.events follows)) carries)))

  -- the same up to where the records are firm; what is left are the calls that remove the marks
  pub recording : MayFinish o w j → Follows o.act w es → IsDone (as_underway j number) w es → IsRecording o s js ks j w es
  recording may follows (ms, seen) =
      let ps = outputs j in
      let L = members_at o j number w may ms seen.looks seen.seen in
      let v = run w seen.looks in
      let still = still_itself v (formed o j number w may ms seen.looks seen.seen) in
      let parts = done_parts (Settle ps ∷ (write_each (map record_place ps) (map (full_of j L) ps) ++ Settle (record_places j) ∷ [])) (unmark_requests (places_of ps j.logs)) seen.rest
      (subst (λ bs. HasDone ((Settle ps ∷ (write_each (map record_place ps) bs ++ Settle (record_places j) ∷ [])) ++ unmark_requests (places_of ps j.logs)) seen.rest)
      (bytes_same o j number w may ms seen.looks seen.seen) seen.done) in
      let goal : RunState = record s { jobs = js ++ (record j { phase = Recorded }) ∷ ks } in
      record {
        first = seen.looks ++ parts.0;
        last = parts.1;
        events = seen.events ∙ ap (λ l. seen.looks ++ l) parts.2 ∙ sym (append_assoc seen.looks parts.0 parts.1);
        runs = look_all o s calm seen.looks w parts.0 goal (looks_of o w.nodes (outs_of j.recipe) ms seen.looks seen.seen)
            (subst (λ x. Runs o x v parts.0 goal) (sym begun)
            (keeps_records o true goal s js ks j calm (λ e. absurd (true≢false e)) v L (listed o j number w may ms seen.looks seen.seen) parts.0 still (good o j number w may ms seen.looks seen.seen)
            (known o j number w may ms seen.looks seen.seen) (λ e. refl)
            (follows_front o.act parts.0 parts.1 v (subst (Follows o.act v) parts.2 (follows_rest o.act seen.looks seen.rest w (subst (Follows o.act w) seen.events follows)))) parts.3));
        unmarked = parts.4;
        seen = v;
        still = subst (IsStill v) (sym (run_append w seen.looks parts.0))
            (still_reaches o.act (Settle ps ∷ (write_each (map record_place ps) (map (full_of j L) ps) ++ Settle (record_places j) ∷ [])) v v (run v parts.0) (stays_puts ps (full_of j L))
            (done_reaches o.act (Settle ps ∷ (write_each (map record_place ps) (map (full_of j L) ps) ++ Settle (record_places j) ∷ [])) v parts.0
            (follows_front o.act parts.0 parts.1 v (subst (Follows o.act v) parts.2 (follows_rest o.act seen.looks seen.rest w (subst (Follows o.act w) seen.events follows)))) parts.3) still);
        members = L;
        listed = listed o j number w may ms seen.looks seen.seen;
        kinds = each_kind v.nodes (outs_of j.recipe) ms (kinds o j number w may ms seen.looks seen.seen);
      }

  losing : (ok : Bool) (goal : RunState) → (ok ≡ false → halted o s js ks ≡ goal) → (ok ≡ true → record s { jobs = js ++ ks } ≡ goal)
      → Follows o.act w es → (fault : CloseFault) → HasSeen (IsSeenWrong w.nodes (outs_of j.recipe) fault) (Carries (abandon_requests (as_underway j number)) ok) es → Runs o s w es goal
  losing ok goal halts done follows fault seen =
      let ps = outputs j in
      let marks = map mark_place ps in
      let v = run w seen.looks in
      let carries = subst (λ rs. Carries rs ok seen.rest) (abandoning.regrouped (remove_each ps) (remove_each (record_places j)) (Settle (ps ++ record_places j)) (remove_each marks ++ Settle marks ∷ [])) seen.done in
      subst (λ fs. Runs o s w fs goal) (sym seen.events)
      (look_all o s calm seen.looks w seen.rest goal (looks_wrong o w.nodes (outs_of j.recipe) fault seen.looks seen.seen)
      (subst (λ x. Runs o x v seen.rest goal) (sym begun)
      (loses_all o ok goal s js ks j calm halts 0 v seen.rest (some_outputs w.nodes (outs_of j.recipe) fault seen.looks seen.seen (paths_same j.recipe.outputs)) done
      (follows_rest o.act seen.looks seen.rest w (subst (Follows o.act w) seen.events follows)) carries)))
    where
      some_outputs : (nodes : Nodes) (os : List Out) (x : CloseFault) (fs : List Event) → IsSeenWrong nodes os x fs → map (λ (y : Out). y.path) os ≡ outputs j → outputs j ≡ [] → ⊥
      some_outputs nodes [] x fs h is none = absurd h
      some_outputs nodes (y ∷ os) x fs h is none = no_nil (is ∙ none)
        where
          no_nil : {a : Path} {rest : List Path} → a ∷ rest ≡ [] → ⊥
          no_nil e = cc

pub finishing_runs : FinishingRuns
finishing_runs o s js ks j number w es at calm ended may follows (members, seen) =
    keeping o s js ks j number w es at calm ended true (record s { jobs = js ++ ks }) (λ e. absurd (true≢false e)) (λ e. refl) may follows members seen

pub losing_runs : LosingRuns
losing_runs o s js ks j number fault w es at calm ended some follows seen =
    losing o s js ks j number w es at calm ended true (record s { jobs = js ++ ks }) (λ e. absurd (true≢false e)) (λ e. refl) follows fault seen

pub finishing_parts : FinishingPartsRun
finishing_parts o s js ks j number w es at calm ended may follows (inl blind) = blind_runs o s calm (outs_of j.recipe) w es blind
finishing_parts o s js ks j number w es at calm ended may follows (inr (inl (members, seen))) =
    keeping o s js ks j number w es at calm ended false (stopped o s) (λ e. stops o s js ks j number w es at calm ended) (λ e. absurd (true≢false (sym e))) may follows members seen
finishing_parts o s js ks j number w es at calm ended may follows (inr (inr (fault, seen))) =
    losing o s js ks j number w es at calm ended false (stopped o s) (λ e. stops o s js ks j number w es at calm ended) (λ e. absurd (true≢false (sym e))) follows fault seen

-- ## All that `abandon` does

pub abandoning_runs : AbandoningRuns
abandoning_runs o s js ks j number status w es at calm ended some follows done =
    let ps = outputs j in
    let marks = map mark_place ps in
    let end : RunState = record s { jobs = js ++ ks } in
    subst (λ x. Runs o x w es end) (sym (in_phase s js ks j (Ended status) at ended))
    (loses_all o true end s js ks j calm (λ e. absurd (true≢false e)) status w es some (λ e. refl) follows
    (subst (λ rs. Carries rs true es) (abandoning.regrouped (remove_each ps) (remove_each (record_places j)) (Settle (ps ++ record_places j)) (remove_each marks ++ Settle marks ∷ [])) done))
