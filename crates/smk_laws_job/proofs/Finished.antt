-- What a job that was finished leaves of its outputs: their records stand, with all that is under them, and no marks.
use Rattle.std.proofs.Common.{◌≡◌, ◌⊎◌, inl, inr, Bool, true, false, ◌&&◌, ◌||◌, List, [], ◌∷◌, map, refl, sym, ap, subst, ◌∙◌, Option, Some, None, true≢false}
use Rattle.std.specs.Prelude.{is_some, if◌then◌else◌, option_map}
use Rattle.std.proofs.lemmas.Bool.{cases_Bool}
use Rattle.smk_base.specs.Path.{is_path, is_under}
use Rattle.smk_base.specs.Place.{mark_place, record_place}
use Rattle.smk_base.proofs.Places.{and_first, place_itself}
use Rattle.smk_base.proofs.Apart.{path_outside, record-mark}
use Rattle.smk_world.specs.declared.event.Event.{Event}
use Rattle.smk_world.specs.declared.event.Node.{Node}
use Rattle.smk_world.specs.declared.event.Node.TheVariants.{Regular, Directory}
use Rattle.smk_world.specs.declared.event.NodeState.{NodeState}
use Rattle.smk_world.specs.declared.event.NodeState.TheVariants.{Owned, Known}
use Rattle.smk_world.specs.declared.recipe.Kind.{Kind}
use Rattle.smk_world.specs.declared.recipe.Kind.TheVariants.{Plain, Folder as FolderKind}
use Rattle.smk_world.specs.declared.recipe.Out.{Out}
use Rattle.smk_world.specs.Folders.{IsTree}
use Rattle.smk_world.specs.World.{World, IsFormed, run, reading, reads, reads_folder, node_after, is_within, is_above}
use Rattle.smk_world.specs.Runs.{Follows}
use Rattle.smk_world.specs.Requests.Request.{Settle}
use Rattle.smk_world.specs.Trees.{Path, Act, IsIn, Each, among, outs_of, folders_of, is_folder_kind, is_path_text, is_text, below}
use Rattle.smk_world.proofs.Names.{reads_there, reads_may_stay}
use Rattle.smk_world.proofs.Runs.{run_append}
use Rattle.smk_record.specs.declared.record.Member.{Member}
use Rattle.smk_record.specs.Records.{core, members_of}
use Rattle.smk_store.specs.declared.store.Kept.TheVariants.{Absent}
use Rattle.smk_store.specs.Images.{core_at, is_folder, is_outside, kept_by, members_under, names_under, image_of, readable, seen}
use Rattle.smk_store.specs.Soundness.{Outside}
use Rattle.smk_store.specs.Steps.{remove_each, places_of, unmark_requests}
use Rattle.smk_laws_protocol.specs.Protocol.{OpenJob, RunState, Recorded, IsAbsent, outputs, record_of, listed_of, listed_now, now}
use Rattle.smk_laws_protocol.specs.Midway.{InPhase, IsKnown}
use Rattle.smk_laws_protocol.proofs.Basics.{each_in, each_of, in_filter}
use Rattle.smk_job.specs.Sights.{IsOfKind, reads_file}
use Rattle.smk_job.proofs.Firmly.{reaches_keeps, reaches_split}
use Rattle.smk_job.proofs.Lists.{among_by}
use Rattle.smk_job.proofs.Outs.{paths_same}
use Rattle.smk_job.proofs.Single.{KeepsOff, Reaches, Stepped, done_reaches, step_keeps}
use Rattle.smk_laws_job.proofs.Abandoning.{absent_now, absent_still, in_map, removed_call, settled_call}
use Rattle.smk_laws_job.proofs.FinishRuns.{HasKind, IsRecording, folder_among, out_path}
use Rattle.smk_laws_job.proofs.Still.{IsStill, firm_reads, still_reaches, stays_unmarked}

-- ## Removing marks

marks_off : (p : Path) (ps : List Path) → KeepsOff (remove_each (map mark_place ps)) (record_place p)
marks_off p [] = tt
marks_off p (m ∷ ps) = ((record-mark p m).at_or_under, marks_off p ps)

within_marks : (p : Path) (ps : List Path) → is_within (record_place p) (map mark_place ps) ≡ false
within_marks p [] = refl
within_marks p (m ∷ ps) = ap (λ b. b || is_within (record_place p) (map mark_place ps)) (record-mark p m).at_or_under ∙ within_marks p ps

above_marks : (p : Path) (ps : List Path) → is_above (record_place p) (map mark_place ps) ≡ false
above_marks p [] = refl
above_marks p (m ∷ ps) = ap (λ b. b || is_above (record_place p) (map mark_place ps)) (record-mark p m).over ∙ above_marks p ps

absent_after : (act : Act) (ms : List Path) (w v : World) (x : Path) → Reaches act (remove_each ms) w v → IsIn ms x ⊎ IsAbsent w x → IsAbsent v x
absent_after act [] w v x same (inl i) = absurd i
absent_after act [] w v x same (inr h) = subst (λ y. IsAbsent y x) (sym same) h
absent_after act (m ∷ ms) w v x (u, st, more) c =
    let call = removed_call st.event.call m st.is st.quiet in
    absent_after act ms u v x more (elim c [
      | inl i ↦ elim i [
        | inl e ↦ inr (subst (λ y. IsAbsent u y) (sym e) (subst (λ y. IsAbsent y m) (sym st.now) (absent_now act w st.event m call st.lets)))
        | inr r ↦ inl r
      ]
      | inr h ↦ inr (subst (λ y. IsAbsent y x) (sym st.now) (absent_still act w st.event m call st.lets x h))
    ])

-- a settling leaves what reads
settled_reading : (act : Act) (ps : List Path) (w v : World) (q : Path) → Stepped act (Settle ps) w v → reading (v.nodes q) ≡ reading (w.nodes q)
settled_reading act ps w v q st =
    ap (λ (x : World). reading (x.nodes q)) st.now
    ∙ ap (λ c. reading (node_after c st.event.left w.children q (w.nodes q))) (settled_call st.event.call ps st.is st.quiet)
    ∙ firm_reads (is_within q ps || (is_above q ps && reads_folder (w.nodes q))) (w.nodes q)

never : (b : Bool) → (b && false) ≡ false
never true = refl
never false = refl

-- the marks are gone, and records are as before
record IsUnmarkedFrom (o : Outside) (outs : List Path) (w v : World) : Type 0 where
  gone : (p : Path) → IsIn outs p → (seen o.read v).marked p ≡ false
  records : (p : Path) → (seen o.read v).kept p ≡ (seen o.read w).kept p

unmarked_from : (o : Outside) (outs logs : List Path) (w v : World) → Reaches o.act (unmark_requests (places_of outs logs)) w v → IsUnmarkedFrom o outs w v
unmarked_from o outs logs w v h =
    let marks = map mark_place outs in
    let parts = reaches_split o.act (remove_each marks) (Settle marks ∷ []) w v h in
    let u = parts.0 in
    let x = parts.2.0 in
    let st : Stepped o.act (Settle marks) u x = parts.2.1 in
    let end : v ≡ x = parts.2.2 in
    record {
      gone = λ p i.
          let none : reading (v.nodes (mark_place p)) ≡ None =
          ap (λ (y : World). reading (y.nodes (mark_place p))) end ∙ settled_reading o.act marks u x (mark_place p) st
          ∙ absent_after o.act marks w u (mark_place p) parts.1 (inl (in_map mark_place outs p i)) (mark_place p)
          (ap (λ b. b || is_under (mark_place p) (mark_place p)) (place_itself (mark_place p))) in
          ap (λ n. is_path_text p && is_some n) none ∙ never (is_path_text p);
      records = λ p.
          let settled : x.nodes (record_place p) ≡ u.nodes (record_place p) =
          step_keeps o.act (Settle marks) u x (record_place p) st (ap (λ b. b || is_above (record_place p) marks) (within_marks p outs) ∙ above_marks p outs) in
          let same : v.nodes (record_place p) ≡ w.nodes (record_place p) =
          ap (λ (y : World). y.nodes (record_place p)) end ∙ settled ∙ reaches_keeps o.act (remove_each marks) w u (record_place p) parts.1 (marks_off p outs)
          in
          ap (λ (s : NodeState). if is_path_text p then kept_by o.read p (reading s) else Absent) same;
    }

-- ## What is under a file

some_there : (b : Bool) (n : Option Node) → (b && is_some n) ≡ true → is_some n ≡ true
some_there true n h = h
some_there false n h = absurd (true≢false (sym h))

file_or_folder : (s : NodeState) → reads_file s ≡ true → reading s ≡ Some Directory → ⊥
file_or_folder Owned h k = true≢false (sym h)
file_or_folder (Known None besides) h k = true≢false (sym h)
file_or_folder (Known (Some Directory) besides) h k = true≢false (sym h)
file_or_folder (Known (Some (Regular bytes time read_only)) besides) h k = cc

-- nothing is, in a tree
none_under_file : (o : Outside) (w v : World) (p : Path) (m : Member) → IsTree v → reads_file (w.nodes p) ≡ true → reading (v.nodes p) ≡ reading (w.nodes p) →
    IsIn (members_under (seen o.read v) p) m → ⊥
none_under_file o w v p m tree file same i =
    let image = seen o.read v in
    let a = map_member (λ (q : Path). record { folder = is_folder image q; name = below p q }) (names_under image p) m i in
    let b = in_filter (λ q. is_under q p) image.names a.0 a.1 in
    let c = in_filter (λ q. is_outside q && is_some (reading (v.nodes q))) v.names a.0 b.0 in
    file_or_folder (w.nodes p) file (sym same ∙ (tree a.0 (some_there (is_outside a.0) (reading (v.nodes a.0)) c.1)).folders p b.1)
  where
    map_member : (f : Path → Member) (xs : List Path) (m : Member) → IsIn (map f xs) m → (q : Path) × IsIn xs q × (m ≡ f q)
    map_member f [] m i = absurd i
    map_member f (x ∷ xs) m (inl e) = (x, inl refl, e)
    map_member f (x ∷ xs) m (inr i) = let r = map_member f xs m i in (r.0, inr r.1, r.2)

-- ## All of it

-- The record of an output stands, unmarked, and lists all that is under it.
pub record IsLeftWell (o : Outside) (v : World) (j : OpenJob) (p : Path) : Type 0 where
  pub path : is_path_text p ≡ true
  pub recorded : core_at (now o v) p ≡ Some (record_of j p)
  pub unmarked : (now o v).marked p ≡ false
  pub no_more : (m : Member) → IsIn (members_under (now o v) p) m → IsIn (listed_now o v p) m

module _ (o : Outside) (s : RunState) (js ks : List OpenJob) (j : OpenJob) (w : World) (es : List Event) (h : IsRecording o s js ks j w es)
    (formed : IsFormed (run w h.first)) (at : InPhase o (run w h.first) (record j { phase = Recorded })) (follows : Follows o.act (run w h.first) h.last)
    (tree : IsTree (run w es)) where
  abbrev u : World
  u = run w h.first

  abbrev v : World
  v = run w es

  world_is : v ≡ run u h.last
  world_is = ap (run w) h.events ∙ run_append w h.first h.last

  reached : Reaches o.act (unmark_requests (places_of (outputs j) j.logs)) u v
  reached = subst (Reaches o.act (unmark_requests (places_of (outputs j) j.logs)) u) (sym world_is)
      (done_reaches o.act (unmark_requests (places_of (outputs j) j.logs)) u h.last follows h.unmarked)

  after_marks : IsUnmarkedFrom o (outputs j) u v
  after_marks = unmarked_from o (outputs j) j.logs u v reached

  still_now : IsStill h.seen v
  still_now = still_reaches o.act (unmark_requests (places_of (outputs j) j.logs)) h.seen u v (stays_unmarked (outputs j) j.logs) reached h.still

  -- the record as the world reads
  image_kept : (p : Path) → (image_of o.read (reads u)).kept p ≡ (now o u).kept p
  image_kept p = ap (λ n. if is_path_text p then kept_by o.read p n else Absent) (reads_there u (record_place p) formed)

  known : (p : Path) → IsIn (outputs j) p → IsKnown (now o u) (record j { phase = Recorded }) (image_of o.read (reads u)) p
  known p i = each_in (IsKnown (now o u) (record j { phase = Recorded }) (image_of o.read (reads u))) (outputs j) p
      (at.known refl (reads u) (reads_may_stay u formed)) i

  core_there : (p : Path) → IsIn (outputs j) p → core_at (now o v) p ≡ Some (record_of j p)
  core_there p i = ap (λ k. option_map core (readable k)) (after_marks.records p ∙ sym (image_kept p)) ∙ (known p i).reads

  listed_there : (p : Path) → IsIn (outputs j) p → listed_now o v p ≡ listed_of j p (members_under (now o v) p)
  listed_there p i =
      ap (λ k. members_of (readable k)) (after_marks.records p ∙ sym (image_kept p)) ∙ (known p i).lists
      ∙ h.listed.lists u h.still p i ∙ sym (h.listed.lists v still_now p i)

  file_there : (p : Path) → IsIn (outputs j) p → among (folders_of j.recipe) p ≡ false → reads_file (h.seen.nodes p) ≡ true
  file_there p i plain =
      let out = out_path (outs_of j.recipe) p (subst (λ ps. IsIn ps p) (sym (paths_same j.recipe.outputs)) i) in
      let k = each_in (HasKind h.seen.nodes) (outs_of j.recipe) out.0 h.kinds out.1 in
      subst (λ q. reads_file (h.seen.nodes q) ≡ true) (sym out.2) (by out.0 out.1 out.2 out.0.kind refl k.0 k.1)
    where
      by : (out : Out) → IsIn (outs_of j.recipe) out → p ≡ out.path → (kind : Kind) → out.kind ≡ kind → (m : List Member) → IsOfKind h.seen.nodes out.path
          out.kind m → reads_file (h.seen.nodes out.path) ≡ true
      by out io e Plain is m k = (subst (λ x. IsOfKind h.seen.nodes out.path x m) is k).0
      by out io e FolderKind is m k =
          absurd (true≢false (sym (among_by (folders_of j.recipe) out.path (folder_among (outs_of j.recipe) out io (ap is_folder_kind is))) ∙ ap
          (among (folders_of j.recipe)) (sym e) ∙ plain))

  no_more_there : (p : Path) → IsIn (outputs j) p → (m : Member) → IsIn (members_under (now o v) p) m → IsIn (listed_now o v p) m
  no_more_there p i m is = elim (cases_Bool (among (folders_of j.recipe) p)) [
    | inl folder ↦
        subst (λ ms. IsIn ms m) (sym (listed_there p i ∙ ap (λ (b : Bool). if b then members_under (now o v) p else []) folder)) is
    | inr plain ↦
        absurd (none_under_file o h.seen v p m tree (file_there p i plain)
        (still_now.reads p (path_outside p (and_first (is_path p) (is_text p) (h.listed.paths p i)))) is)
  ]

  pub left_well : Each (IsLeftWell o v j) (outputs j)
  left_well =
      each_of (IsLeftWell o v j) (outputs j)
      (λ p i. record { path = h.listed.paths p i; recorded = core_there p i; unmarked = after_marks.gone p i; no_more = no_more_there p i })
