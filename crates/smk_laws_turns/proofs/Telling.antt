-- The report of what a run has done is that of its log, or a front of it.
use Rattle.std.proofs.Common.{◌≡◌, ◌⊎◌, suc, Bool, false, List, [], ◌∷◌, ◌++◌, map, filter, length, codes, refl, sym, ap, subst, ◌∙◌, inl, inr, Option, Some}
use Rattle.std.proofs.Common.{None, Ok, Err, append_assoc, append-nil, true≢false}
use Rattle.std.specs.List.{flat_map, list_any}
use Rattle.smk_world.specs.declared.event.Event.{Event}
use Rattle.smk_world.specs.World.{World}
use Rattle.smk_world.specs.Trees.{Each, IsIn, Path}
use Rattle.smk_pattern.specs.Shapes.{Text}
use Rattle.smk_flow.specs.declared.job.Job.{Job}
use Rattle.smk_flow.specs.Flows.{Flow}
use Rattle.smk_plan.specs.States.{Plan, is_current, test_some}
use Rattle.smk_report.specs.Lines.{Good, Status, NoOutput, WrongKind, BadMember, cause_text, job_text, start_line, summary_line, target_line}
use Rattle.smk_report.specs.declared.fault.Fault.{Fault}
use Rattle.smk_drive.specs.Moments.{Begun, Moment, Rules, progress_of, seen}
use Rattle.smk_drive.specs.Reports.{HasLines, is_current_by, named_job}
use Rattle.smk_drive.specs.Reports as moments
use Rattle.smk_drive_course.specs.Moments.{started}
use Rattle.smk_drive_course.specs.RunReports.{HasLine, summary}
use Rattle.smk_drive_course.specs.declared.ending.End.{End}
use Rattle.smk_drive_course.specs.Stands.{Stand, first_stand}
use Rattle.smk_drive_course.specs.Steps.{Closed, Deed, Started}
use Rattle.smk_drive_course.specs.Reports.{IsFrontFor, closing_lines, deed_line, is_started, lines_of, target_lines}
use Rattle.smk_laws_moments.specs.Courses.{begun_jobs, started_job, started_jobs}
use Rattle.smk_laws_moments.proofs.Fates.{answer_kept, starts_are_told}
use Rattle.smk_laws_turns.specs.Reporting.{DoneIsRunText, EachBegunIsStarted, FaultHasLines, FrontHasStarts, RefusalHasStarts, ReportIsFront, TellsEnd}
use Rattle.smk_laws_turns.specs.Reporting.{ToldOfMoment}
use Rattle.smk_laws_turns.proofs.Lines.{lines_go_on, one_text}

-- ## Counts

length_map : {A : Type 0} {B : Type 0} (f : A → B) (xs : List A) → length (map f xs) ≡ length xs
length_map f [] = refl
length_map f (x ∷ xs) = ap (λ n. suc n) (length_map f xs)

count_starts : (deeds : List Deed) → length (filter is_started deeds) ≡ length (started_jobs deeds)
count_starts [] = refl
count_starts (Started j ∷ deeds) = ap (λ n. suc n) (count_starts deeds)
count_starts (Closed j e ∷ deeds) = count_starts deeds

pub each_begun_is_started : EachBegunIsStarted
each_begun_is_started rules told result deeds entry log ran =
    let none = (answer_kept rules entry ran.opened (first_stand ran.plan) ran.start entry [] ran.goes_by).begun in
    let told_starts = starts_are_told rules entry ran.start ran.last _ ran.opening ran.rest deeds ran.steps in
    let jobs : begun_jobs ran.last ≡ started_jobs deeds =
    told_starts ∙ ap (λ (bs : List Begun). map (λ (b : Begun). b.job) bs ++ started_jobs deeds) none in
    count_starts deeds ∙ (ap length (sym jobs) ∙ length_map (λ (b : Begun). b.job) ran.last.begun)

-- ## The end

module _ (rules : Rules) where
  abbrev current_of : World → List Begun → Option Plan → Path → Bool
  current_of w begun plan p = test_some (λ (x : Plan). is_current (seen rules w) rules.settings (progress_of w begun) x p) plan

  same_current : (s : Stand) (m : Moment) (w : World) (ps : List Path) → m.world ≡ w → m.begun ≡ s.begun → m.plan ≡ s.plan →
      map (current_of w s.begun s.plan) ps ≡ map (current_of m.world m.begun m.plan) ps
  same_current s m w ps world begun plan = λ i. map (current_of (sym world i) (sym begun i) (sym plan i)) ps

  -- targets' lines, by flags and by a moment
  same_targets : (m : Moment) (ps : List Path) → target_lines ps (map (is_current_by rules m) ps) ≡ flat_map (λ p. target_line (is_current_by rules m p) p) ps
  same_targets m [] = refl
  same_targets m (p ∷ ps) = ap (λ t. target_line (is_current_by rules m p) p ++ t) (same_targets m ps)

  closing_same :
      (entry : World) (log : List Event) (deeds : List Deed) (end : End) → (h : TellsEnd rules entry log deeds end) →
      closing_lines rules (Some end) ≡ moments.target_lines rules h.moment ++ summary rules h.moment
  closing_same entry log deeds end h =
      let targets = ap (target_lines rules.settings.targets) h.told.current ∙ same_targets h.moment rules.settings.targets in
      let starts = h.told.started ∙ h.counts.started_are in
      let dones = h.told.done ∙ h.counts.done_are in
      let fails = h.told.failed ∙ h.counts.failed_are in
      λ i. targets i ++ summary_line (starts i) (dones i) (fails i)

pub told_of_moment : ToldOfMoment
told_of_moment rules s w events deeds end m of world told =
    record {
      started = told.started;
      done = told.done;
      failed = told.failed;
      first_one = told.first_one;
      current = told.current ∙ same_current rules s m w rules.settings.targets world of.begun of.plan;
    }

pub done_is_run_text : DoneIsRunText
done_is_run_text rules entry log deeds end text lines ends is =
    record {
      lines = lines_of rules.flow deeds;
      last = ends.moment;
      has_lines = lines;
      is_last = ends.is_last;
      text_is = is ∙ ap (λ t. lines_of rules.flow deeds ++ t) (closing_same rules entry log deeds end ends);
    }

-- ## Fronts

lines_more : (flow : Flow) (deeds more : List Deed) → lines_of flow (deeds ++ more) ≡ lines_of flow deeds ++ lines_of flow more
lines_more flow [] more = refl
lines_more flow (d ∷ deeds) more =
    ap (λ t. deed_line flow d ++ t) (lines_more flow deeds more) ∙ sym (append_assoc (deed_line flow d) (lines_of flow deeds) (lines_of flow more))

-- what is a front of all lines and the closing ones
whole_of :
    (flow : Flow) (deeds : List Deed) (f : Fault) (closing text : Text) → (h : IsFrontFor flow deeds f closing text) →
    lines_of flow deeds ++ closing ≡ text ++ h.rest
whole_of flow deeds f closing text h =
    ap (λ ds. lines_of flow ds ++ closing) h.split
    ∙ (ap (λ t. t ++ closing) (lines_more flow h.before h.later)
    ∙ (append_assoc (lines_of flow h.before) (lines_of flow h.later) closing
    ∙ (ap (λ t. lines_of flow h.before ++ t) h.is_front
    ∙ (sym (append_assoc (lines_of flow h.before) h.more h.rest) ∙ ap (λ t. t ++ h.rest) (sym h.text_is)))))

pub report_is_front : ReportIsFront
report_is_front rules entry log deeds None (Ok end) text lines ends is =
    inl (
      lines_of rules.flow deeds,
      lines,
      (
        [],
        sym (ap (λ t. t ++ []) is ∙ (append-nil (lines_of rules.flow deeds ++ [])
            ∙ append-nil (lines_of rules.flow deeds))),
      ),
    )
report_is_front rules entry log deeds (Some told) (Ok end) text lines ends is =
    inr (text, done_is_run_text rules entry log deeds told text lines (ends told refl) is, ([], sym (append-nil text)))
report_is_front rules entry log deeds None (Err f) text lines ends is =
    inl (lines_of rules.flow deeds, lines, (is.rest, sym (append-nil (lines_of rules.flow deeds)) ∙ whole_of rules.flow deeds f [] text is))
report_is_front rules entry log deeds (Some told) (Err f) text lines ends is =
    let closing = closing_lines rules (Some told) in
    inr (
      lines_of rules.flow deeds ++ closing,
      done_is_run_text rules entry log deeds told (lines_of rules.flow deeds ++ closing) lines (ends told refl) refl,
      (is.rest, whole_of rules.flow deeds f closing text is),
    )

-- ## Lines of starts

-- it is nothing, or ends with a line end
abbrev Ends : Text → Type 0
Ends text = (text ≡ []) ⊎ ((front : Text) × (text ≡ front ++ 10 ∷ []))

behind : (a b : Text) → (front : Text) × (b ≡ front ++ 10 ∷ []) → (front : Text) × (a ++ b ≡ front ++ 10 ∷ [])
behind a b (front, h) = (a ++ front, ap (λ t. a ++ t) h ∙ sym (append_assoc a front (10 ∷ [])))

job_ends : (word rule path rest : Text) → (front : Text) × (job_text word rule path rest ≡ front ++ 10 ∷ [])
job_ends word rule path rest =
    behind word (codes " " ++ (rule ++ (codes " " ++ (path ++ (rest ++ 10 ∷ [])))))
    (behind (codes " ") (rule ++ (codes " " ++ (path ++ (rest ++ 10 ∷ []))))
    (behind rule (codes " " ++ (path ++ (rest ++ 10 ∷ [])))
    (behind (codes " ") (path ++ (rest ++ 10 ∷ [])) (behind path (rest ++ 10 ∷ []) (rest, refl)))))

module _ (flow : Flow) where
  word_ends : (word : Text) (j : Job) (rest : Text) → (front : Text) × (job_text word (named_job flow j).rule (named_job flow j).path rest ≡ front ++ 10 ∷ [])
  word_ends word j rest = job_ends word (named_job flow j).rule (named_job flow j).path rest

  deed_ends : (d : Deed) → (front : Text) × (deed_line flow d ≡ front ++ 10 ∷ [])
  deed_ends (Started j) = word_ends (codes "start") j []
  deed_ends (Closed j Good) = word_ends (codes "done") j []
  deed_ends (Closed j (Status n)) = word_ends (codes "failed") j (codes ": " ++ cause_text (Status n))
  deed_ends (Closed j (NoOutput p)) = word_ends (codes "failed") j (codes ": " ++ cause_text (NoOutput p))
  deed_ends (Closed j (WrongKind p)) = word_ends (codes "failed") j (codes ": " ++ cause_text (WrongKind p))
  deed_ends (Closed j (BadMember p)) = word_ends (codes "failed") j (codes ": " ++ cause_text (BadMember p))

  -- a line of a text is one of that text behind a line
  line_behind : (d : Deed) (text l : Text) → HasLine text l → HasLine (deed_line flow d ++ text) l
  line_behind d text l (before, after, is, ends) =
      (deed_line flow d ++ before, after, ap (λ t. deed_line flow d ++ t) is ∙ sym (append_assoc (deed_line flow d) before (l ++ after)), inr (go ends))
    where
      go : Ends before → (front : Text) × (deed_line flow d ++ before ≡ front ++ 10 ∷ [])
      go (inl none) = let e = deed_ends d in (e.0, ap (λ t. deed_line flow d ++ t) none ∙ (append-nil (deed_line flow d) ∙ e.1))
      go (inr more) = behind (deed_line flow d) before more

  start_in : (deeds : List Deed) (more : Text) (j : Job) → IsIn (started_jobs deeds) j → HasLine (lines_of flow deeds ++ more) (start_line (named_job flow j))
  start_in [] more j i = absurd i
  start_in (Started k ∷ deeds) more j (inl same) = (
    [],
    lines_of flow deeds ++ more,
    append_assoc (start_line (named_job flow k)) (lines_of flow deeds) more
        ∙ ap (λ x. start_line (named_job flow x) ++ (lines_of flow deeds ++ more)) (sym same),
    inl refl,
  )
  start_in (Started k ∷ deeds) more j (inr later) =
      subst (λ t. HasLine t (start_line (named_job flow j))) (sym (append_assoc (deed_line flow (Started k)) (lines_of flow deeds) more))
      (line_behind (Started k) (lines_of flow deeds ++ more) (start_line (named_job flow j)) (start_in deeds more j later))
  start_in (Closed k e ∷ deeds) more j i =
      subst (λ t. HasLine t (start_line (named_job flow j))) (sym (append_assoc (deed_line flow (Closed k e)) (lines_of flow deeds) more))
      (line_behind (Closed k e) (lines_of flow deeds ++ more) (start_line (named_job flow j)) (start_in deeds more j i))

none_started : (deeds : List Deed) → list_any is_started deeds ≡ false → started_jobs deeds ≡ []
none_started [] h = refl
none_started (Started j ∷ deeds) h = absurd (true≢false h)
none_started (Closed j e ∷ deeds) h = none_started deeds h

starts_more : (deeds more : List Deed) → started_jobs (deeds ++ more) ≡ started_jobs deeds ++ started_jobs more
starts_more [] more = refl
starts_more (d ∷ deeds) more =
    ap (λ js. started_job d ++ js) (starts_more deeds more) ∙ sym (append_assoc (started_job d) (started_jobs deeds) (started_jobs more))

pub front_has_starts : FrontHasStarts
front_has_starts flow deeds f closing text j keeps h i =
    let jobs : started_jobs deeds ≡ started_jobs h.before =
    ap started_jobs h.split ∙ (starts_more h.before h.later ∙ (ap (λ js. started_jobs h.before ++ js) (none_started h.later (h.has_starts keeps))
    ∙ append-nil (started_jobs h.before))) in
    subst (λ t. HasLine t (start_line (named_job flow j))) (sym h.text_is) (start_in flow h.before h.more j (subst (λ js. IsIn js j) jobs i))

each_so : {A : Type 0} (P Q : A → Type 0) → ((x : A) → P x → Q x) → (xs : List A) → Each P xs → Each Q xs
each_so P Q so [] h = tt
each_so P Q so (x ∷ xs) h = (so x h.0, each_so P Q so xs h.1)

pub refusal_has_starts : RefusalHasStarts
refusal_has_starts rules entry log deeds f closing text all keeps h =
    λ m is. each_so (λ (b : Begun). IsIn (started_jobs deeds) b.job) (λ (b : Begun). HasLine text (start_line (named_job rules.flow b.job)))
    (λ b i. front_has_starts rules.flow deeds f closing text b.job keeps h i) (started m) (all m is)

-- ## All lines

pub fault_has_lines : FaultHasLines
fault_has_lines rules entry log deeds f closing text formed lines device h =
    λ events e rest part split calm fails has.
    let none = h.has_all device in
    let all : lines_of rules.flow deeds ≡ lines_of rules.flow h.before =
    ap (lines_of rules.flow) h.split ∙ ap (λ ds. lines_of rules.flow (h.before ++ ds)) none ∙ ap (lines_of rules.flow) (append-nil h.before) in
    let more = lines_go_on rules entry events (e ∷ rest) part formed has in
    let whole = subst (λ xs. HasLines rules entry xs (part ++ more.0)) (sym split) more.1 in
    let same = one_text rules entry log (lines_of rules.flow deeds) (part ++ more.0) formed lines whole in
    (more.0 ++ h.more, h.text_is ∙ (ap (λ t. t ++ h.more) (sym all ∙ same) ∙ append_assoc part more.0 h.more))
