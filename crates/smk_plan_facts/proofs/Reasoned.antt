-- Facts give the reasons of the table of states, where nothing runs.
use Rattle.std.proofs.Common.{◌≡◌, inl, inr, Bool, true, false, cond, ◌&&◌, ◌||◌, ◌==◌, not, List, [], ◌∷◌, ◌++◌, map, Option, Some, None, refl, sym, ap, ap₂, true≢false, ◌∙◌, bytes_eq}
use Rattle.std.specs.Prelude.{if◌then◌else◌}
use Rattle.std.specs.List.{filter, flat_map, list_any, zip, AllZip}
use Rattle.std.specs.Option.{option_and_then}
use Rattle.std.proofs.lemmas.Bool.{or_parts}
use Rattle.smk_choose.proofs.Listed.{map_same}
use Rattle.smk_world.specs.declared.recipe.Recipe.{Recipe}
use Rattle.smk_world.specs.World.{in_paths, out_paths}
use Rattle.smk_world.specs.Trees.{Path}
use Rattle.smk_record.specs.declared.record.Record.{Record}
use Rattle.smk_record.specs.declared.record.Stamp.{Stamp}
use Rattle.smk_record.specs.declared.record.Stamp.TheVariants.{Time, Sum, Made}
use Rattle.smk_record.specs.Records.{agree, stamped}
use Rattle.smk_flow.specs.declared.job.Job.{Job}
use Rattle.smk_store.specs.declared.store.Kept.{Kept}
use Rattle.smk_store.specs.Images.{Image, Content, core_at, file_at, is_source, source_at}
use Rattle.smk_store.specs.Trust.{holder, is_marked_but, is_summed, sum_of, content_stamp, made_stamp, source_stamp, stamp_now, stamp_now_but, unmarked_stamp, unmarked_stamp_but}
use Rattle.smk_chain.specs.Derive.{distinct}
use Rattle.smk_trigger.specs.declared.facts.JobFacts.{JobFacts}
use Rattle.smk_trigger.specs.declared.reason.Reason.{Reason}
use Rattle.smk_trigger.specs.declared.reason.Reason.TheVariants.{New, Marked, BadRecord, Code, Params, Inputs, Updated, Upstream, Forced}
use Rattle.smk_trigger.specs.Reasons.{changes_from, has_bad_record, held, is_updated, lacks_record, once, own_reasons, reasons_of, same_code, same_inputs, same_params, when}
use Rattle.smk_trigger.specs.JobStates.{is_dirty}
use Rattle.smk_pick.specs.declared.settings.Settings.{Settings}
use Rattle.smk_plan.specs.States.{Plan, is_forced, is_restored, made_by, reasons}
use Rattle.smk_plan.specs.Summed.{has_other_time, needs_sum}
use Rattle.smk_plan_facts.specs.Facts.{facts_of, having_run, own_of, AreFactsOf, IsToldAs}
use Rattle.smk_plan_facts.specs.Laws.{FactsGiveReasons}
use Rattle.smk_plan_facts.proofs.Tests.{none_passes, none_some, zip_map}

module _ (image : Image) (left_out : Path → Bool) (none : (p : Path) → left_out p ≡ false) where
  marked_all : (p : Path) → is_marked_but image left_out p ≡ image.marked p
  marked_all p = ap (λ b. image.marked p && not b) (none p) ∙ and_true (image.marked p)
    where
      and_true : (b : Bool) → (b && true) ≡ b
      and_true true = refl
      and_true false = refl

  unmarked_all : (o : Option Path) → option_and_then (unmarked_stamp_but image left_out) o ≡ option_and_then (unmarked_stamp image) o
  unmarked_all None = refl
  unmarked_all (Some h) = ap (λ b. if b then None else made_stamp (core_at image h)) (marked_all h)

  stamp_all : (p : Path) → stamp_now_but image left_out p ≡ stamp_now image p
  stamp_all p = ap (λ s. if is_source image p then source_stamp (source_at image p) else s) (unmarked_all (holder image p))

none_restored : (image : Image) (settings : Settings) (ran : List Path) (plan : Plan) (p : Path) → is_restored image settings (having_run ran) plan p ≡ false
none_restored image settings ran plan p = none_passes _ (λ (j : Job). refl) plan.jobs

-- with the stamps of now
pub exact_reason : (image : Image) (settings : Settings) (ran : List Path) (plan : Plan) (j : Job) →
    reasons image settings (having_run ran) plan j
    ≡ own_of (facts_of image settings ran plan j)
    ++ (map Upstream (filter (made_by plan is_dirty) (distinct bytes_eq (in_paths j.recipe))) ++ when (facts_of image settings ran plan j).forced Forced)
exact_reason image settings ran plan j =
    let out = is_restored image settings (having_run ran) plan in
    let none = none_restored image settings ran plan in
    ap (λ rs. rs ++ (map Upstream (filter (made_by plan is_dirty) (distinct bytes_eq (in_paths j.recipe))) ++ when (facts_of image settings ran plan j).forced Forced))
    (ap₂ (λ (marks : List Bool) (now : List (Path × Option Stamp)). own_reasons j.recipe (map image.kept (out_paths j.recipe)) marks now)
    (map_same (is_marked_but image out) image.marked (marked_all image out none) (out_paths j.recipe))
    (map_same (λ q. (q, stamp_now_but image out q)) (λ q. (q, stamp_now image q)) (λ q. ap (λ (s : Option Stamp). pair q s) (stamp_all image out none q)) (in_paths j.recipe) ∙ zip_map (stamp_now image) (in_paths j.recipe)))
  where
    pair : Path → Option Stamp → Path × Option Stamp
    pair q s = (q, s)

-- ## Stamps that are as good

-- where a recorded stamp has no SHA-256 with another time, the time alone tells whether it agrees
time_tells : (s : Stamp) (f : Content) → has_other_time s f.time ≡ false → agree s (Time f.time) ≡ agree s (content_stamp f)
time_tells s f same = go s (is_summed f.bytes) same
  where
    or_sum : (time sums : Bool) → not time ≡ false → time ≡ (time || sums)
    or_sum true sums h = refl
    or_sum false sums h = absurd (true≢false h)

    go : (s : Stamp) (b : Bool) → has_other_time s f.time ≡ false → agree s (Time f.time) ≡ agree s (if b then Sum f.time (sum_of f.bytes) else Time f.time)
    go s false h = refl
    go (Time u) true h = refl
    go (Sum u d) true h = or_sum (u == f.time) (bytes_eq d.0 (sum_of f.bytes).0) h
    go (Made m) true h = refl

same_update : (q : Path) (f : Content) (es : List (Path × Stamp)) → list_any (λ (x : Path × Stamp). bytes_eq x.0 q && has_other_time x.1 f.time) es ≡ false →
    is_updated es (q, Some (Time f.time)) ≡ is_updated es (q, Some (content_stamp f))
same_update q f [] none = refl
same_update q f (e ∷ es) none =
    let parts = or_parts (bytes_eq e.0 q && has_other_time e.1 f.time) (list_any (λ (x : Path × Stamp). bytes_eq x.0 q && has_other_time x.1 f.time) es) none in
    ap₂ ◌||◌ (here (bytes_eq e.0 q) parts.0) (same_update q f es parts.1)
  where
    here : (b : Bool) → (b && has_other_time e.1 f.time) ≡ false → (b && not (agree e.1 (Time f.time))) ≡ (b && not (agree e.1 (content_stamp f)))
    here true h = ap not (time_tells e.1 f h)
    here false h = refl

-- the stamp now of a source
source_now : (b : Bool) (file : Option Content) (product : Option Stamp) (f : Content) → (if b then file else None) ≡ Some f →
    (if b then source_stamp (if b then file else None) else product) ≡ Some (content_stamp f)
source_now true file product f is = ap source_stamp is
source_now false file product f is = absurd (none_some f is)

-- what is as good as the stamp now tells the same of the first record
told_same : (image : Image) (r : Record) (rest : List Record) (q : Path) (told : Option Stamp) → IsToldAs image (r ∷ rest) q told →
    is_updated (stamped r) (q, told) ≡ is_updated (stamped r) (q, stamp_now image q)
told_same image r rest q told (inl same) = ap (λ (s : Option Stamp). is_updated (stamped r) (q, s)) same
told_same image r rest q told (inr (f, at, time, none)) =
    ap (λ (s : Option Stamp). is_updated (stamped r) (q, s)) time
    ∙ same_update q f (stamped r)
    (or_parts (list_any (λ (x : Path × Stamp). bytes_eq x.0 q && has_other_time x.1 f.time) (stamped r)) (needs_sum rest q f.time) none).0
    ∙ ap (λ (s : Option Stamp). is_updated (stamped r) (q, s))
    (sym (source_now (is_source image q) (file_at image q) (option_and_then (unmarked_stamp image) (holder image q)) f at))

-- ## Tests of stamps

-- the path, with whether it passes with its stamp
abbrev flag : (Path × Option Stamp → Bool) → Path × Option Stamp → Path × Bool
flag test e = (e.0, test e)

-- each path once, where it comes first, with its flag
once_flagged : List (Path × Bool) → List (Path × Bool)
once_flagged [] = []
once_flagged (e ∷ es) = e ∷ filter (λ (d : Path × Bool). not (bytes_eq e.0 d.0)) (once_flagged es)

module _ (test : Path × Option Stamp → Bool) where
  others_flagged : (p : Path) (es : List (Path × Option Stamp)) →
      map (flag test) (filter (λ (d : Path × Option Stamp). not (bytes_eq p d.0)) es) ≡ filter (λ (d : Path × Bool). not (bytes_eq p d.0)) (map (flag test) es)
  others_flagged p [] = refl
  others_flagged p (e ∷ es) = go (not (bytes_eq p e.0)) (others_flagged p es)
    where
      go : (b : Bool) → map (flag test) (filter (λ (d : Path × Option Stamp). not (bytes_eq p d.0)) es) ≡ filter (λ (d : Path × Bool). not (bytes_eq p d.0)) (map (flag test) es) →
          map (flag test) (cond b (e ∷ filter (λ (d : Path × Option Stamp). not (bytes_eq p d.0)) es) (filter (λ (d : Path × Option Stamp). not (bytes_eq p d.0)) es))
          ≡ cond b (flag test e ∷ filter (λ (d : Path × Bool). not (bytes_eq p d.0)) (map (flag test) es)) (filter (λ (d : Path × Bool). not (bytes_eq p d.0)) (map (flag test) es))
      go true more = ap (λ xs. flag test e ∷ xs) more
      go false more = more

  once_same : (es : List (Path × Option Stamp)) → map (flag test) (once es) ≡ once_flagged (map (flag test) es)
  unfolding once_flagged
  once_same [] = refl
  once_same (e ∷ es) =
      ap (λ xs. flag test e ∷ xs) (others_flagged e.0 (once es) ∙ ap (filter (λ (d : Path × Bool). not (bytes_eq e.0 d.0))) (once_same es))

  flags_pass : (es : List (Path × Option Stamp)) →
      map (λ (e : Path × Option Stamp). Updated e.0) (filter test es) ≡ map (λ (x : Path × Bool). Updated x.0) (filter (λ (x : Path × Bool). x.1) (map (flag test) es))
  flags_pass [] = refl
  flags_pass (e ∷ es) = go (test e) (flags_pass es)
    where
      go : (b : Bool) →
          map (λ (x : Path × Option Stamp). Updated x.0) (filter test es) ≡ map (λ (x : Path × Bool). Updated x.0) (filter (λ (x : Path × Bool). x.1) (map (flag test) es)) →
          map (λ (x : Path × Option Stamp). Updated x.0) (cond b (e ∷ filter test es) (filter test es))
          ≡ map (λ (x : Path × Bool). Updated x.0) (cond b (flag test e ∷ filter (λ (x : Path × Bool). x.1) (map (flag test) es)) (filter (λ (x : Path × Bool). x.1) (map (flag test) es)))
      go true more = ap (λ xs. Updated e.0 ∷ xs) more
      go false more = more

  -- what passes, each path once, goes by the flags alone
  pub by_flags : (es ds : List (Path × Option Stamp)) → map (flag test) es ≡ map (flag test) ds →
      map (λ (e : Path × Option Stamp). Updated e.0) (filter test (once es)) ≡ map (λ (e : Path × Option Stamp). Updated e.0) (filter test (once ds))
  by_flags es ds same =
      flags_pass (once es)
      ∙ ap (λ xs. map (λ (x : Path × Bool). Updated x.0) (filter (λ (x : Path × Bool). x.1) xs)) (once_same es ∙ ap once_flagged same ∙ sym (once_same ds))
      ∙ sym (flags_pass (once ds))

flags_same : (image : Image) (r : Record) (rest : List Record) (ps : List Path) (ss : List (Option Stamp)) → AllZip (IsToldAs image (r ∷ rest)) ps ss →
    map (flag (is_updated (stamped r))) (zip ps ss) ≡ map (flag (is_updated (stamped r))) (zip ps (map (stamp_now image) ps))
flags_same image r rest [] [] all = refl
flags_same image r rest [] (s ∷ ss) all = absurd all
flags_same image r rest (p ∷ ps) [] all = absurd all
flags_same image r rest (p ∷ ps) (s ∷ ss) all = λ i. (p, told_same image r rest p s all.0 i) ∷ flags_same image r rest ps ss all.1 i

changes_same : (image : Image) (recipe : Recipe) (records : List Record) (ps : List Path) (ss : List (Option Stamp)) → AllZip (IsToldAs image records) ps ss →
    changes_from recipe (zip ps ss) records ≡ changes_from recipe (zip ps (map (stamp_now image) ps)) records
changes_same image recipe [] ps ss all = refl
changes_same image recipe (r ∷ rest) ps ss all =
    ap
    (λ (updates : List Reason).
    when (not (same_code recipe r.recipe)) Code ++ (when (not (same_params recipe r.recipe)) Params ++ (when (not (same_inputs recipe r.recipe)) Inputs ++ updates)))
    (by_flags (is_updated (stamped r)) (zip ps ss) (zip ps (map (stamp_now image) ps)) (flags_same image r rest ps ss all))

-- ## Facts

module _ (image : Image) (settings : Settings) (ran : List Path) (plan : Plan) where
  own_as : (j : Job) (f : JobFacts) → AreFactsOf image settings ran plan j f → own_of f ≡ own_of (facts_of image settings ran plan j)
  own_as j f are =
      (λ i. own_reasons (are.recipe i) (are.kept i) (are.marked i) (zip (in_paths (are.recipe i)) f.stamps))
      ∙ ap (λ (changed : List Reason).
      when (lacks_record kept) New
      ++ (when (list_any (λ b. b) (map image.marked (out_paths j.recipe))) Marked ++ (when (has_bad_record kept) BadRecord ++ (if lacks_record kept || has_bad_record kept then [] else changed))))
      (changes_same image j.recipe (flat_map held kept) (in_paths j.recipe) f.stamps are.stamps)
    where
      kept : List Kept
      kept = map image.kept (out_paths j.recipe)

  -- the reasons by facts of the job
  pub reasons_as : (j : Job) (f : JobFacts) → AreFactsOf image settings ran plan j f → reasons_of f ≡ reasons_of (facts_of image settings ran plan j)
  reasons_as j f are = ap₂ (λ (own : List Reason) (b : Bool). own ++ when b Forced) (own_as j f are) are.forced

  -- the same of many jobs
  pub all_reasons_as : (js : List Job) (fs : List JobFacts) → AllZip (AreFactsOf image settings ran plan) js fs →
      map reasons_of fs ≡ map (λ j. reasons_of (facts_of image settings ran plan j)) js
  all_reasons_as [] [] all = refl
  all_reasons_as [] (f ∷ fs) all = absurd all
  all_reasons_as (j ∷ js) [] all = absurd all
  all_reasons_as (j ∷ js) (f ∷ fs) all = λ i. reasons_as j f all.0 i ∷ all_reasons_as js fs all.1 i

  pub all_forced_as : (js : List Job) (fs : List JobFacts) → AllZip (AreFactsOf image settings ran plan) js fs →
      map (λ (f : JobFacts). f.forced) fs ≡ map (is_forced image settings (having_run ran) plan) js
  all_forced_as [] [] all = refl
  all_forced_as [] (f ∷ fs) all = absurd all
  all_forced_as (j ∷ js) [] all = absurd all
  all_forced_as (j ∷ js) (f ∷ fs) all = λ i. all.0.forced i ∷ all_forced_as js fs all.1 i

pub facts_reason : FactsGiveReasons
facts_reason image settings ran plan j f are =
    exact_reason image settings ran plan j
    ∙ ap₂
    (λ (own : List Reason) (b : Bool). own ++ (map Upstream (filter (made_by plan is_dirty) (distinct bytes_eq (in_paths j.recipe))) ++ when b Forced))
    (sym (own_as image settings ran plan j f are)) (sym are.forced)
