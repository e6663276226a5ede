-- A job is done whose command makes all its outputs, if it is closed.
use Rattle.std.proofs.Common.{◌≡◌, inl, inr, ℕ, Bool, true, false, List, [], ◌∷◌, ◌++◌, refl, ap, sym, subst, ◌∙◌, Option, Some, None, Ok, true≢false}
use Rattle.std.specs.Prelude.{◌≢◌, ◌==◌, map, if◌then◌else◌, nat_eq}
use Rattle.std.proofs.lemmas.Bool.{eq-eqb, eqb-true, and_parts}
use Rattle.std.specs.List.{AllZip}
use Rattle.smk_base.specs.declared.tree.Tree.{Tree}
use Rattle.smk_base.specs.declared.tree.Tree.TheVariants.{File, Folder}
use Rattle.smk_world.specs.declared.event.Call.TheVariants.{Waited}
use Rattle.smk_world.specs.declared.event.Change.{Change}
use Rattle.smk_world.specs.declared.event.Child.{Child}
use Rattle.smk_world.specs.declared.event.Ended.{Ended}
use Rattle.smk_world.specs.declared.event.Event.{Event}
use Rattle.smk_world.specs.declared.event.Node.TheVariants.{Regular, Directory}
use Rattle.smk_world.specs.declared.event.NodeState.{NodeState}
use Rattle.smk_world.specs.declared.event.NodeState.TheVariants.{Owned, Known}
use Rattle.smk_world.specs.declared.recipe.Kind.{Kind}
use Rattle.smk_world.specs.declared.recipe.Kind.TheVariants.{Plain, Folder as FolderKind}
use Rattle.smk_world.specs.declared.recipe.Out.{Out}
use Rattle.smk_world.specs.World.{World, after, run, in_paths, child_numbered, reads_folder, reads_nothing}
use Rattle.smk_world.specs.Calls.{Lets, ContentsAre, HoldsBytes, MaybeTreeAt, started_numbers}
use Rattle.smk_world.specs.Runs.{Follows}
use Rattle.smk_world.specs.Requests.{Request, HasDone}
use Rattle.smk_world.specs.Trees.{Path, Act, Each, are_good, is_good, outs_of}
use Rattle.smk_flow.specs.declared.job.Job.{Job}
use Rattle.smk_job.specs.Jobs.{begin_requests}
use Rattle.smk_job.specs.Sights.{IsSeenWrong, IsWrong, Nodes, reads_file}
use Rattle.smk_job.specs.declared.fault.CloseFault.{CloseFault}
use Rattle.smk_job.specs.declared.fault.CloseFault.TheVariants as fault
use Rattle.smk_job.proofs.Children.{is_crew}
use Rattle.smk_job.proofs.Launching.{before_start, before_files}
use Rattle.smk_job.proofs.Outs.{paths_same}
use Rattle.smk_run.specs.declared.ending.Ending.{Ending}
use Rattle.smk_run.specs.declared.ending.Ending.TheVariants.{Good, Status, NoOutput, WrongKind, BadMember}
use Rattle.smk_run.specs.Closings.{IsClosedBy, wait_event}
use Rattle.smk_run.specs.Digesting.{HasDigested}
use Rattle.smk_run.specs.Stamps.{Serials}
use Rattle.smk_run.specs.Statuses.{AreGiven, IsGiven}
use Rattle.smk_run.specs.Turns.{Course, Unbegun, Unstarted, Unclosed, Closed, Turn, as_underway, found, HasGone, HasStampedAnd, IsTurnBy, is_closed, is_done, is_good as ended_well}
use Rattle.smk_safe.specs.Leaving.{AreInputsApart, MayCome}
use Rattle.smk_run.proofs.Calls.{OfLooks, digested_each}
use Rattle.smk_safe.proofs.TreeMoves.{contents_moved}
use Rattle.smk_run.proofs.Telling.{files_children, started_after}
use Rattle.smk_safe.proofs.Starting.{HasEnded, has_ended}
use Rattle.smk_safe.proofs.Done.{follows_split, begun_kept, inputs_stay}
use Rattle.smk_laws_driven.specs.TurnsSucceeding.{CanSucceed, GoodJobsCanSucceed, TurnsSucceed}

-- ## What a good output is seen as

pub holds_file : (s : NodeState) (held : List ℕ) → HoldsBytes held s → reads_file s ≡ true
holds_file Owned held h = absurd h
holds_file (Known None besides) held h = absurd h
holds_file (Known (Some (Regular there time read_only)) besides) held h = refl
holds_file (Known (Some Directory) besides) held h = absurd h

-- a good plain output that stands is a file
good_file : (v : World) (p : Path) (kind : Kind) (tree : Option Tree) → kind ≡ Plain → is_good p kind tree ≡ true → MaybeTreeAt v p tree → reads_file (v.nodes p) ≡ true
good_file v p FolderKind tree e h k = cc
good_file v p Plain None e h k = absurd (true≢false (sym h))
good_file v p Plain (Some (File held)) e h k = holds_file (v.nodes p) held k
good_file v p Plain (Some (Folder entries)) e h k = absurd (true≢false (sym h))

abbrev IsPlainFile : Nodes → Out → Type 0
IsPlainFile nodes out = (out.kind ≡ Plain) × (reads_file (nodes out.path) ≡ true)

good_files :
    (v : World) (outs : List Out) (trees : List (Option Tree)) → Each (λ (out : Out). out.kind ≡ Plain) outs → are_good outs trees ≡ true →
    AllZip (λ p tree. MaybeTreeAt v p tree) (map (λ (out : Out). out.path) outs) trees → Each (IsPlainFile v.nodes) outs
good_files v [] trees plain good h = tt
good_files v (out ∷ outs) [] plain good h = absurd h
good_files v (out ∷ outs) (tree ∷ trees) plain good h =
    let both = and_parts (is_good out.path out.kind tree) (are_good outs trees) good in
    ((plain.0, good_file v out.path out.kind tree plain.0 both.0 h.0), good_files v outs trees plain.1 both.1 h.1)

file_here : (s : NodeState) → reads_file s ≡ true → (reads_nothing s ≡ false) × (reads_folder s ≡ false)
file_here Owned h = absurd (true≢false (sym h))
file_here (Known None besides) h = absurd (true≢false (sym h))
file_here (Known (Some Directory) besides) h = absurd (true≢false (sym h))
file_here (Known (Some (Regular there time read_only)) besides) h = (refl, refl)

-- nothing is wrong with it
not_wrong : (nodes : Nodes) (p : Path) (kind : Kind) (f : CloseFault) → kind ≡ Plain → reads_file (nodes p) ≡ true → IsWrong nodes p kind f → ⊥
not_wrong nodes p FolderKind f e file h = cc
not_wrong nodes p Plain (fault.NoOutput q) e file h = true≢false (sym h.1 ∙ (file_here (nodes p) file).0)
not_wrong nodes p Plain (fault.WrongKind q) e file h = true≢false (sym h.1 ∙ (file_here (nodes p) file).1)
not_wrong nodes p Plain (fault.BadMember q) e file h = h
not_wrong nodes p Plain fault.Device e file h = h
not_wrong nodes p Plain fault.OutOfMemory e file h = h

never_wrong : (nodes : Nodes) (outs : List Out) (f : CloseFault) (es : List Event) → Each (IsPlainFile nodes) outs → IsSeenWrong nodes outs f es → ⊥
never_wrong nodes [] f es files h = h
never_wrong nodes (out ∷ outs) f es files (first, more, e, looks, quiet, inl here) = not_wrong nodes out.path out.kind f files.0.0 files.0.1 here.1
never_wrong nodes (out ∷ outs) f es files (first, more, e, looks, quiet, inr later) = never_wrong nodes outs f more files.1 later.2

-- ## The wait

pub told_split : (act : Act) (w : World) (es fs : List Event) → AreGiven act ⊥ w (es ++ fs) → AreGiven act ⊥ w es × AreGiven act ⊥ (run w es) fs
told_split act w [] fs h = (tt, h)
told_split act w (e ∷ es) fs h = let more = told_split act (after w e) es fs h.1 in ((h.0, more.0), more.1)

equal_unless : (a b : ℕ) → ((a ≢ b) → ⊥) → a ≡ b
equal_unless a b h = go (a == b) refl
  where
    go : (c : Bool) → (a == b) ≡ c → a ≡ b
    go true e = eqb-true a b e
    go false e = absurd (h (λ same. true≢false (sym (eq-eqb a b same) ∙ e)))

one_numbered : (child other : Child) (n : ℕ) → child_numbered n (child ∷ []) ≡ Some other → child ≡ other
one_numbered child other n h = go (nat_eq child.number n) h
  where
    go : (b : Bool) → (if b then Some child else None) ≡ Some other → child ≡ other
    go true k = cc
    go false k = cc

crewless : OfLooks (λ (r : Request). is_crew r ≡ false)
crewless = record { look = λ p. refl; read = λ p limit. refl; listed = λ p. refl }

-- How the command ended: with status 0, and its outputs are files.
record EndedWell (t : Turn) (status : ℕ) (v : World) : Type 0 where
  zero_status : status ≡ 0
  files : Each (IsPlainFile v.nodes) (outs_of t.job.recipe)

ended_so :
    (act : Act) (made : Serials) (t : Turn) (trees : List Tree) (w : World) (seen first : List Event) (number : ℕ) (ended : Ended) (left : List Change) →
    CanSucceed act t trees → MayCome t w → AreInputsApart t → ContentsAre w t.job.recipe trees →
    Lets act (run (run w seen) first) (Waited (Ok ended)) left → IsGiven act ⊥ (run (run w seen) first) (Waited (Ok ended)) →
    HasDigested made (in_paths t.job.recipe) (found t.looked) w seen → HasDone (begin_requests t.job.recipe t.job.logs t.command) first →
    started_numbers first ≡ number ∷ [] → EndedWell t ended.status (after (run (run w seen) first) (wait_event ended left))
ended_so act made t trees w seen first number ended left can may apart contents lets told stamped begun started =
    let recipe = t.job.recipe in
    let w1 = run w seen in
    let u = run w1 first in
    let child : Child = record { number = number; recipe = recipe; logs = t.job.logs } in
    let none1 : w1.children ≡ [] = files_children w seen (digested_each (λ (r : Request). is_crew r ≡ false) crewless made (in_paths recipe) (found t.looked) w seen stamped) ∙ may.none_runs in
    let runs : u.children ≡ child ∷ [] =
    started_after (before_start recipe t.job.logs) recipe t.job.logs t.command number w1 first (before_files recipe t.job.logs) begun started ∙ ap (λ cs. cs ++ child ∷ []) none1 in
    let there =
    contents_moved w u (in_paths recipe) trees (inputs_stay t w u (λ q h. begun_kept made t w seen first q may.none_runs stamped begun none1 h) (in_paths recipe) apart) contents in
    let one = one_numbered child lets.0 ended.number (subst (λ cs. child_numbered ended.number cs ≡ Some lets.0) runs lets.1) in
    let same : recipe ≡ (lets.0).recipe = ap (λ (c : Child). c.recipe) one in
    let status : ended.status ≡ 0 =
    equal_unless ended.status (act lets.0.recipe trees).status (told lets.0 lets.1 trees (subst (λ r. ContentsAre u r trees) same there))
    ∙ (ap (λ r. (act r trees).status) (sym same) ∙ can.status) in
    let end : HasEnded act recipe ended u (after u (wait_event ended left)) = has_ended act recipe t.job.logs number u ended left runs lets in
    let outputs = (end.success status trees there).1 in
    record {
      zero_status = status;
      files =
          good_files (after u (wait_event ended left)) (outs_of recipe) (act recipe trees).outputs can.plain can.good
          (subst (λ ps. AllZip (λ p tree. MaybeTreeAt (after u (wait_event ended left)) p tree) ps (act recipe trees).outputs) (sym (paths_same recipe.outputs)) outputs);
    }

-- ## The ending

good_ending :
    (t : Turn) (number : ℕ) (ending : Ending) (status : ℕ) (v : World) (es : List Event) → EndedWell t status v → IsClosedBy (as_underway t number) ending status v es →
    ended_well ending ≡ true
good_ending t number Good status v es well h = refl
good_ending t number (Status n) status v es well h = absurd (h.1 well.zero_status)
good_ending t number (NoOutput p) status v es well h = absurd (never_wrong v.nodes (outs_of t.job.recipe) (fault.NoOutput p) h.1.looks well.files h.1.seen)
good_ending t number (WrongKind p) status v es well h = absurd (never_wrong v.nodes (outs_of t.job.recipe) (fault.WrongKind p) h.1.looks well.files h.1.seen)
good_ending t number (BadMember p) status v es well h = absurd (never_wrong v.nodes (outs_of t.job.recipe) (fault.BadMember p) h.1.looks well.files h.1.seen)

closed_well :
    (act : Act) (made : Serials) (t : Turn) (trees : List Tree) (w : World) (es : List Event) (ending : Ending) →
    CanSucceed act t trees → MayCome t w → AreInputsApart t → ContentsAre w t.job.recipe trees → Follows act w es → AreGiven act ⊥ w es →
    HasStampedAnd made t (HasGone t (Closed ending)) w es → ended_well ending ≡ true
closed_well act made t trees w es ending can may apart contents follows told h =
    let b = h.then_did in
    let c = b.then_did in
    let wait = wait_event c.ended c.left in
    let u = run (run w h.seen) b.first in
    let events : es ≡ h.seen ++ (b.first ++ (wait ∷ c.rest)) =
    h.events ∙ ap (λ (l : List Event). h.seen ++ l) (b.events ∙ ap (λ (l : List Event). b.first ++ l) c.events) in
    let f1 = follows_split act w h.seen (b.first ++ (wait ∷ c.rest)) (subst (Follows act w) events follows) in
    let f2 = follows_split act (run w h.seen) b.first (wait ∷ c.rest) f1.1 in
    let t1 = told_split act w h.seen (b.first ++ (wait ∷ c.rest)) (subst (AreGiven act ⊥ w) events told) in
    let t2 = told_split act (run w h.seen) b.first (wait ∷ c.rest) t1.1 in
    let well = ended_so act made t trees w h.seen b.first b.number c.ended c.left can may apart contents f2.1.0.lets t2.1.0 h.stamped b.begun b.started in
    good_ending t b.number ending c.ended.status (after u wait) c.rest well c.then_did

by_course :
    (act : Act) (made : Serials) (t : Turn) (trees : List Tree) (w : World) (es : List Event) (course : Course) →
    CanSucceed act t trees → MayCome t w → AreInputsApart t → ContentsAre w t.job.recipe trees → Follows act w es → AreGiven act ⊥ w es →
    IsTurnBy made t course w es → is_closed course ≡ true → is_done course ≡ true
by_course act made t trees w es Unbegun can may apart contents follows told h closed = absurd (true≢false (sym closed))
by_course act made t trees w es Unstarted can may apart contents follows told h closed = absurd (true≢false (sym closed))
by_course act made t trees w es Unclosed can may apart contents follows told h closed = absurd (true≢false (sym closed))
by_course act made t trees w es (Closed ending) can may apart contents follows told h closed =
    closed_well act made t trees w es ending can may apart contents follows told h

pub turns_succeed : TurnsSucceed
turns_succeed act made t trees w es can may apart contents follows told is closed =
    by_course act made t trees w es t.course can may apart contents follows told is closed

pub good_jobs_can_succeed : GoodJobsCanSucceed
good_jobs_can_succeed S L c t good same plain =
    record {
      plain = plain;
      status = subst (λ (j : Job). (S.act j.recipe good.inputs).status ≡ 0) (sym same) good.status;
      good = subst (λ (j : Job). are_good (outs_of j.recipe) (S.act j.recipe good.inputs).outputs ≡ true) (sym same) good.good;
    }
