-- What turns leave that are all done: records of their jobs, with the stamps that their inputs have at the exit.
use Rattle.std.proofs.Common.{◌≡◌, ◌⊎◌, inl, inr, ℕ, suc, Bool, true, false, ◌&&◌, not, List, [], ◌∷◌, zip, refl, ap, sym, subst, ◌∙◌, Some, None, IsTrue}
use Rattle.std.specs.Prelude.{option_map, if◌then◌else◌}
use Rattle.std.specs.List.{list_any}
use Rattle.std.specs.Option.{option_and_then}
use Rattle.std.proofs.lemmas.List.{append-nil}
use Rattle.smk_base.specs.Place.{mark_place, record_place}
use Rattle.smk_base.specs.Path.{is_path, overlaps}
use Rattle.smk_base.proofs.Apart.{path_outside}
use Rattle.smk_base.proofs.Places.{and_first}
use Rattle.smk_base.proofs.Under.{at_itself, overlaps_at}
use Rattle.smk_world.specs.declared.event.Event.{Event}
use Rattle.smk_world.specs.declared.event.Node.TheVariants.{Regular}
use Rattle.smk_world.specs.declared.recipe.Kind.{Kind}
use Rattle.smk_world.specs.declared.recipe.Kind.TheVariants.{Plain, Folder}
use Rattle.smk_world.specs.declared.recipe.Out.{Out}
use Rattle.smk_world.specs.World.{World, reading, run, firmly, in_paths, out_paths}
use Rattle.smk_world.specs.Calls.{HasOwners}
use Rattle.smk_world.specs.Runs.{Follows}
use Rattle.smk_world.proofs.Runs.{run_append}
use Rattle.smk_world.specs.Trees.{Path, Act, Each, IsIn, among, folders_of, is_folder_kind, is_path_text, is_text, outs_of}
use Rattle.smk_record.specs.declared.record.Record.{Record}
use Rattle.smk_record.specs.declared.record.Stamp.{Stamp}
use Rattle.smk_record.specs.declared.record.Stamp.TheVariants.{Made}
use Rattle.smk_record.specs.Records.{core, record_of}
use Rattle.smk_record.specs.Spelling.{spelling}
use Rattle.smk_flow.specs.Flows.{Flow}
use Rattle.smk_store.specs.declared.store.Kept.{Kept}
use Rattle.smk_store.specs.declared.store.Kept.TheVariants.{Absent, Unreadable, Held}
use Rattle.smk_store.specs.Images.{Image, content_of, core_at, is_source, is_whole, readable, source_at}
use Rattle.smk_store.specs.Soundness.{Outside}
use Rattle.smk_store.specs.Trust.{Versions, holder, made_stamp, source_stamp, stamp_now_but, unmarked_stamp_but}
use Rattle.smk_laws_protocol.specs.Protocol.{now}
use Rattle.smk_laws_protocol.proofs.Basics.{each_in, each_on}
use Rattle.smk_pick.specs.declared.settings.Settings.{Settings}
use Rattle.smk_plan.specs.States.{Plan}
use Rattle.smk_laws_job.specs.Laws.{IsRecordable}
use Rattle.smk_job.specs.Sights.{IsOfKind, reads_file}
use Rattle.smk_job.proofs.Outs.{paths_same}
use Rattle.smk_laws_plan.proofs.CurrentLists.{in_left, map_in}
use Rattle.smk_laws_plan.proofs.CurrentMeaning.{source_file, source_stamp_but}
use Rattle.smk_laws_history.proofs.HistoryImages.{held_no_source}
use Rattle.smk_run.specs.Duties.{due}
use Rattle.smk_run.specs.Stamps.{Serials}
use Rattle.smk_run.specs.Turns.{Turn, AreTurns, found, is_closed, is_done}
use Rattle.smk_safe.specs.Leaving.{owned, IsRecorded}
use Rattle.smk_safe.specs.Running.{AreArranged, HasMade, IsMade, LeavesAlone}
use Rattle.smk_safe.proofs.Done.{follows_split}
use Rattle.smk_safe.proofs.Running.{done_turns_leave, orderly_each}
use Rattle.smk_safe.proofs.Sparing.{IsOffTurn, turn_kept, turns_kept}
use Rattle.smk_safe.specs.Planned.{IsPlain, IsFit}
use Rattle.smk_safe.specs.Turning.{opened}
use Rattle.smk_safe.specs.Ready.{AreDoneButLast}
use Rattle.smk_safe.proofs.Coming.{content_there}
use Rattle.smk_safe.proofs.Going.{done_begun, out_first}
use Rattle.smk_safe.proofs.Images.{holder_own, source_of_both}
use Rattle.smk_safe.proofs.Off.{AreClearOf, clear_none, marks_off, records_off, users_off}
use Rattle.smk_safe.proofs.Product.{kept_there, whole_there, unmarked_there}
use Rattle.smk_safe.proofs.Stamped.{IsTold, AreTold, turn_told}
use Rattle.smk_safe.proofs.Dues.{done_but_last}
use Rattle.smk_safe.specs.Exit.{IsDueRun}
use Rattle.smk_safe.proofs.Left as at_exit

-- ## Stamps of products

-- where a record is held that isn't marked, the path has its serial as its stamp
pub stamp_held : (image : Image) (left_out : Path → Bool) (p : Path) (r : Record) → image.kept p ≡ Held r → image.marked p ≡ false → stamp_now_but image left_out p ≡ Some (Made r.made)
stamp_held image left_out p r kept unmarked =
    let core_is : core_at image p ≡ Some (core r) = ap (λ (k : Kept). option_map core (readable k)) kept in
    let speaks = holder_own image p (core r) core_is in
    ap (λ b. if b then source_stamp (source_at image p) else option_and_then (unmarked_stamp_but image left_out) (holder image p)) (held_no_source image p p speaks)
    ∙ ap (option_and_then (unmarked_stamp_but image left_out)) speaks
    ∙ ap (λ b. if b && not (left_out p) then None else made_stamp (core_at image p)) unmarked
    ∙ ap made_stamp core_is

pub held_read : (k : Kept) (r : Record) → readable k ≡ Some r → k ≡ Held r
held_read Absent r h = cc
held_read Unreadable r h = cc
held_read (Held x) r h = ap Held (same h)
  where
    same : Some x ≡ Some r → x ≡ r
    same e = cc

-- ## What the looks told

-- what the looks of a turn told, in the world in which it came, where nothing of these turns had changed
record WasTold (made : Serials) (ts : List Turn) (w : World) (t : Turn) : Type 0 where
  pub then_world : World
  pub told : AreTold then_world made (in_paths t.job.recipe) (found t.looked)
  pub same : (q : Path) → Each (IsOffTurn true q) ts → then_world.nodes q ≡ w.nodes q

-- only the last turn may be of a job that isn't done
done_before : (u : Turn) (ts : List Turn) (t : Turn) → (ts ≡ []) ⊎ (is_done u.course ≡ true) → IsIn ts t → is_done u.course ≡ true
done_before u ts t (inl none) i = absurd (subst (λ us. IsIn us t) none i)
done_before u ts t (inr done) i = done

was_told : (o : Outside) (made : Serials) (ts : List Turn) (w : World) (es : List Event) (t : Turn) → w.children ≡ [] → HasOwners w → AreArranged ts → Follows o.act w es → AreTurns made ts w es
    → AreDoneButLast ts → IsIn ts t → is_done t.course ≡ true → WasTold made ts w t
was_told o made [] w es t none owners arranged follows are last i done = absurd i
was_told o made (u ∷ ts) w es t none owners arranged follows (first, more, e, is, next) last (inl d) done =
    let split = follows_split o.act w first more (subst (Follows o.act w) e follows) in
    record {
      then_world = w;
      told = subst (λ (x : Turn). AreTold w made (in_paths x.job.recipe) (found x.looked)) (sym d)
          (turn_told o made u u.course w first (done_begun u.course (subst (λ (x : Turn). is_done x.course ≡ true) d done)) is split.0);
      same = λ q off. refl;
    }
was_told o made (u ∷ ts) w es t none owners arranged follows (first, more, e, is, next) last (inr k) done =
    let split = follows_split o.act w first more (subst (Follows o.act w) e follows) in
    let left : HasMade o.act (u ∷ []) (run w first) =
    done_turns_leave o.act made (u ∷ []) w first none owners (arranged.0, arranged.1, tt, tt) split.0 (first, [], sym (append-nil first), is, refl) (done_before u ts t last.0 k, tt) in
    let rest = was_told o made ts (run w first) more t left.none_runs left.owners arranged.3 split.1 next last.1 k done in
    record {
      then_world = rest.then_world;
      told = rest.told;
      same = λ q off. rest.same q off.1 ∙ turn_kept true made u w first q none is off.0;
    }

-- a plain output as a turn that is done leaves it
record IsPlainLeft (t : Turn) (v : World) (out : Out) : Type 0 where
  pub file : reads_file (v.nodes out.path) ≡ true
  pub time : ℕ
  pub read_only : Bool
  pub stands : v.nodes (record_place out.path) ≡ firmly (Some (Regular (spelling (record_of out.path t.made t.job.recipe (found t.looked) [])) time read_only))
  pub unmarked : v.nodes (mark_place out.path) ≡ firmly None

plain_left : (act : Act) (t : Turn) (v : World) (out : Out) → IsMade act v t → IsIn (outs_of t.job.recipe) out → IsIn (out_paths t.job.recipe) out.path → out.kind ≡ Plain → IsPlainLeft t v out
plain_left act t v out is i k kind =
    let r = each_in (IsRecorded t v) (outs_of t.job.recipe) out is.recorded i in
    let as_plain : (reads_file (v.nodes out.path) ≡ true) × (r.members ≡ []) = subst (λ (x : Kind). IsOfKind v.nodes out.path x r.members) kind r.kind in
    record {
      file = as_plain.0;
      time = r.time;
      read_only = r.read_only;
      stands = r.stands ∙ ap (λ ms. firmly (Some (Regular (spelling (record_of out.path t.made t.job.recipe (found t.looked) ms)) r.time r.read_only))) as_plain.1;
      unmarked = each_in (λ q. v.nodes (mark_place q) ≡ firmly None) (out_paths t.job.recipe) out.path is.unmarked k;
    }

-- later turns leave it so
left_on : (made : Serials) (t : Turn) (ts : List Turn) (w : World) (es : List Event) (out : Out) → w.children ≡ [] → AreArranged ts → Each (LeavesAlone t) ts → AreTurns made ts w es
    → IsTrue (is_path out.path) → IsIn (owned t) out.path → IsPlainLeft t w out → IsPlainLeft t (run w es) out
left_on made t ts w es out none arranged alone are path i h =
    let p = out.path in
    let clear : AreClearOf p ts = each_on (LeavesAlone t) (λ (u : Turn). list_any (overlaps p) (owned u) ≡ false) (λ u l. each_in (λ x. list_any (overlaps x) (owned u) ≡ false) (owned t) p l.own i) ts alone in
    let makes_none = clear_none p p ts (overlaps_at p p (at_itself p)) clear in
    let orderly = orderly_each ts arranged in
    record {
      file = ap reads_file (turns_kept true made ts w es p none are (users_off p p ts (path_outside p path) (at_itself p) clear)) ∙ h.file;
      time = h.time;
      read_only = h.read_only;
      stands = turns_kept true made ts w es (record_place p) none are (records_off p ts orderly makes_none) ∙ h.stands;
      unmarked = turns_kept true made ts w es (mark_place p) none are (marks_off p ts orderly makes_none) ∙ h.unmarked;
    }

left_at_end : (o : Outside) (made : Serials) (ts : List Turn) (w : World) (es : List Event) (t : Turn) (out : Out) → w.children ≡ [] → HasOwners w → AreArranged ts → Follows o.act w es
    → AreTurns made ts w es → AreDoneButLast ts → IsIn ts t → is_done t.course ≡ true → IsIn (outs_of t.job.recipe) out → IsIn (out_paths t.job.recipe) out.path → IsIn (owned t) out.path → IsTrue (is_path out.path) → out.kind ≡ Plain
    → IsPlainLeft t (run w es) out
left_at_end o made [] w es t out none owners arranged follows are last i done io k own path kind = absurd i
left_at_end o made (u ∷ ts) w es t out none owners arranged follows (first, more, e, is, next) last (inl d) done io k own path kind =
    let split = follows_split o.act w first more (subst (Follows o.act w) e follows) in
    let done_u : is_done u.course ≡ true = subst (λ (x : Turn). is_done x.course ≡ true) d done in
    let left : HasMade o.act (u ∷ []) (run w first) = done_turns_leave o.act made (u ∷ []) w first none owners (arranged.0, arranged.1, tt, tt) split.0 (first, [], sym (append-nil first), is, refl) (done_u, tt) in
    let here : IsPlainLeft t (run w first) out = plain_left o.act t (run w first) out (subst (IsMade o.act (run w first)) (sym d) left.made.0) io k kind in
    subst (λ v. IsPlainLeft t v out) (sym (ap (run w) e ∙ run_append w first more))
    (left_on made t ts (run w first) more out left.none_runs arranged.3 (subst (λ (x : Turn). Each (LeavesAlone x) ts) (sym d) arranged.2) next path own here)
left_at_end o made (u ∷ ts) w es t out none owners arranged follows (first, more, e, is, next) last (inr l) done io k own path kind =
    let split = follows_split o.act w first more (subst (Follows o.act w) e follows) in
    let left : HasMade o.act (u ∷ []) (run w first) =
    done_turns_leave o.act made (u ∷ []) w first none owners (arranged.0, arranged.1, tt, tt) split.0 (first, [], sym (append-nil first), is, refl) (done_before u ts t last.0 l, tt) in
    subst (λ v. IsPlainLeft t v out) (sym (ap (run w) e ∙ run_append w first more))
    (left_at_end o made ts (run w first) more t out left.none_runs left.owners arranged.3 split.1 next last.1 l done io k own path kind)

-- one of the stamps
told_at : (w : World) (made : Serials) (ps : List Path) (ss : List Stamp) (q : Path) (s : Stamp) → AreTold w made ps ss → IsIn (zip ps ss) (q, s) → IsTold w (made q) q s
told_at w made [] ss q s told i = absurd i
told_at w made (p ∷ ps) [] q s told i = absurd i
told_at w made (p ∷ ps) (x ∷ ss) q s told (inl e) = subst (λ (y : Path × Stamp). IsTold w (made y.0) y.0 y.1) (sym e) told.0
told_at w made (p ∷ ps) (x ∷ ss) q s told (inr i) = told_at w made ps ss q s told.1 i

-- ## The run

module _ (o : Outside) (entry : World) (H : Versions) (flow : Flow) (settings : Settings) (plan : Plan) (ts : List Turn) (es : List Event) (ran : IsDueRun o entry H flow settings plan ts es)
    (closed : Each (λ (t : Turn). is_closed t.course ≡ true) ts) where
  abbrev pub before : Image
  before = now o entry

  abbrev pub after_run : Image
  after_run = now o (run entry es)

  abbrev pub made : Serials
  made = at_exit.made o entry H flow settings plan ts es ran

  abbrev started : at_exit.Started o entry H flow settings plan ts es ran
  started = at_exit.started o entry H flow settings plan ts es ran

  arranged : AreArranged ts
  arranged = (at_exit.ready o entry H flow settings plan ts es ran).arranged

  last : AreDoneButLast ts
  last = done_but_last ran.cores (due (Some (suc ran.top)) ran.duties plan.jobs) ts ran.in_order

  -- what a turn leaves at an output of its job
  pub record IsLeft (t : Turn) (p : Path) : Type 0 where
    pub kept : after_run.kept p ≡ Held (record_of p t.made t.job.recipe (found t.looked) [])
    pub unmarked : after_run.marked p ≡ false
    pub whole : is_whole after_run p Plain ≡ true

  pub left_by : (t : Turn) (p : Path) → IsIn ts t → is_done t.course ≡ true → IsIn (out_paths t.job.recipe) p → IsLeft t p
  left_by t p i done k =
      let formed = (at_exit.sound_exit o entry H flow settings plan ts es ran closed).formed in
      let fit = each_in IsFit ts t ran.fit i in
      let plain = each_in IsPlain plan.jobs t.job ran.plain (at_exit.job_in o entry H flow settings plan ts es ran t i) in
      let at = map_in (λ (out : Out). out.path) (outs_of t.job.recipe) p (subst (λ ps. IsIn ps p) (sym (paths_same t.job.recipe.outputs)) k) in
      let out = at.0 in
      let here : IsIn (out_paths t.job.recipe) out.path = subst (IsIn (out_paths t.job.recipe)) at.2 k in
      let kind : out.kind ≡ Plain = each_in (λ (x : Out). x.kind ≡ Plain) (outs_of t.job.recipe) out plain.plain at.1 in
      let no_folder : among (folders_of t.job.recipe) out.path ≡ is_folder_kind out.kind =
      ap (λ fs. among fs out.path) (at_exit.plain_turn o entry H flow settings plan ts es ran t i) ∙ sym (ap is_folder_kind kind) in
      let path = each_in (λ q. IsTrue (is_path_text q)) (out_paths t.job.recipe) out.path (out_first t fit.paths) here in
      let recordable = each_in (IsRecordable (opened t [])) (out_paths t.job.recipe) out.path (fit.records (done_begun t.course done)) here in
      let l =
      subst (λ v. IsPlainLeft t v out) (sym started.at_end)
      (left_at_end o made ts started.start ran.is_run.turns t out started.alone started.sound_then.owners arranged started.follows_on started.turns_on last i done at.1 here
      (in_left out.path (out_paths t.job.recipe) t.job.logs here) (and_first (is_path out.path) (is_text out.path) path) kind) in
      let r : IsRecorded t (run entry es) out = record {
        members = [];
        kind = subst (λ (x : Kind). IsOfKind (run entry es).nodes out.path x []) (sym kind) (l.file, refl);
        time = l.time;
        read_only = l.read_only;
        stands = l.stands;
      } in
      let kept = kept_there o t (run entry es) formed ran.reads out r path recordable no_folder in
      subst (IsLeft t) (sym at.2) (record {
        kept = kept;
        unmarked = unmarked_there o t (run entry es) formed ran.reads out.path l.unmarked;
        whole = whole_there o t (run entry es) formed ran.reads out Plain [] path (λ e. absurd (plain_folder e)) kept (l.file, refl);
      })
    where
      plain_folder : Plain ≡ Folder → ⊥
      plain_folder e = cc

  -- ## Stamps

  was : (t : Turn) → IsIn ts t → is_done t.course ≡ true → WasTold made ts started.start t
  was t i done = was_told o made ts started.start ran.is_run.turns t started.alone started.sound_then.owners arranged started.follows_on started.turns_on last i done

  -- a product has the serial as its stamp
  pub told_product : (t : Turn) (q : Path) (s : Stamp) (m : ℕ) → IsIn ts t → is_done t.course ≡ true → IsIn (zip (in_paths t.job.recipe) (found t.looked)) (q, s) → made q ≡ Some m → s ≡ Made m
  told_product t q s m i done k is =
      let w = was t i done in
      subst (λ x. IsTold w.then_world x q s) is (told_at w.then_world made (in_paths t.job.recipe) (found t.looked) q s w.told k)

  -- a source the stamp that it has at the exit
  pub told_source : (left_out : Path → Bool) (t : Turn) (q : Path) (s : Stamp) → IsIn ts t → is_done t.course ≡ true → IsIn (zip (in_paths t.job.recipe) (found t.looked)) (q, s) → made q ≡ None → is_source before q ≡ true → AreClearOf q ts
      → stamp_now_but after_run left_out q ≡ Some s
  told_source left_out t q s i done k none source clear =
      let w = was t i done in
      let told : IsTold w.then_world None q s = subst (λ x. IsTold w.then_world x q s) none (told_at w.then_world made (in_paths t.job.recipe) (found t.looked) q s w.told k) in
      let path = and_first (is_path q) (is_text q) (and_first (is_path_text q) _ source) in
      let off = users_off q q ts (path_outside q path) (at_itself q) clear in
      let both = source_of_both before after_run q (at_exit.sources_stay o entry H flow settings plan ts es ran closed) source in
      let f = source_file after_run q both.is_second in
      let there : content_of (reading ((run entry es).nodes q)) ≡ Some f.0 = content_there _ (reading ((run entry es).nodes q)) f.0 f.1 in
      let stands = subst (λ n. content_of (reading n) ≡ Some f.0) (sym (w.same q off ∙ sym (at_exit.stays o entry H flow settings plan ts es ran q off))) there in
      source_stamp_but after_run left_out q f.0 both.is_second f.1 ∙ sym (ap Some (told f.0 stands))
