-- A job that is next may begin in the protocol.
use Rattle.std.proofs.Common.{◌≡◌, ◌≢◌, inl, inr, ℕ, suc, ◌+◌, Bool, true, false, ◌||◌, not, cond, List, [], ◌∷◌, ◌++◌, map, zip, filter, flat_map, length, refl, ap, sym, subst, ◌∙◌, arith, Option, Some, None, IsTrue, true≢false}
use Rattle.std.specs.Prelude.{is_some, nat_le, ◌==◌}
use Rattle.std.specs.List.{list_all}
use Rattle.std.proofs.lemmas.List.{append-nil, length-append}
use Rattle.std.proofs.lemmas.List.Elements.{filter-append}
use Rattle.smk_base.specs.declared.tree.Pair.{Pair}
use Rattle.smk_base.proofs.Under.{false_unless}
use Rattle.smk_world.specs.declared.event.Event.{Event}
use Rattle.smk_world.specs.World.{World, reading, in_paths, out_paths, owned_paths}
use Rattle.smk_world.specs.Calls.{any_overlap}
use Rattle.smk_world.specs.Trees.{Path, Act, Each, IsIn, among, is_path_text}
use Rattle.smk_record.specs.declared.record.Record.{Record}
use Rattle.smk_record.specs.declared.record.Stamp.{Stamp}
use Rattle.smk_record.specs.Records.{is_earlier, is_valid, are_rising, record_of}
use Rattle.smk_flow.specs.declared.job.Job.{Job}
use Rattle.smk_store.specs.Images.{Image, core_at, image_by, is_source, record_at, stands}
use Rattle.smk_store.specs.Soundness.{Outside}
use Rattle.smk_store.specs.Trust.{Versions, made_at, stamp_now}
use Rattle.smk_trigger.specs.declared.reason.State.{State}
use Rattle.smk_trigger.specs.declared.reason.State.TheVariants.{Open, Dirty, Restore, Clean}
use Rattle.smk_trigger.specs.JobStates.{is_clean, is_restore, is_to_run}
use Rattle.smk_plan.specs.States.{Plan, Progress, awaits, by_table, is_at_hand, is_restored, job_path, kept_state, makes, state_of}
use Rattle.smk_job.specs.Jobs.{Underway}
use Rattle.smk_laws_protocol.specs.Protocol.{OpenJob, RunState, Running, MayBegin, HasSerial, IsApart, IsAtHand, IsKept, kept_at, now}
use Rattle.smk_laws_protocol.specs.Midway.{Midway}
use Rattle.smk_laws_protocol.proofs.Basics.{each_in, each_of, each_on}
use Rattle.smk_laws_plan.proofs.CurrentLists.{all_in, and_left, and_right, in_either, in_left, zip_first}
use Rattle.smk_laws_plan.proofs.CurrentProducts.{Planned}
use Rattle.smk_laws_history.proofs.CurrentComplete.{seen_is_complete}
use Rattle.smk_laws_history.proofs.Valid.{records_valid}
use Rattle.smk_drive.specs.Moments.{Rules, Begun, begun_of, draws, greatest, progress_of, runs, seen}
use Rattle.smk_drive_course.specs.Stands.{Stand, moment_of}
use Rattle.smk_drive_course.specs.Steps.{IsToBegin}
use Rattle.smk_laws_moments.specs.Opened.{AreStillPlanned, IsLeft, IsOf, IsPlannedStill, IsStateOf, Runs, beginning, found_at, found_by, opened}
use Rattle.smk_laws_moments.specs.Starting.{MayOpen, OpeningStays, StartableMayBegin, top_with}
use Rattle.smk_laws_moments.proofs.Inputs.{clear_of_inputs, input_hand, inputs_clear, unclean_makes_none}
use Rattle.smk_laws_moments.proofs.Keeping.{as_many, finds_record, finds_some, kept_among, zip_now}
use Rattle.smk_laws_moments.proofs.Next.{IsStarting, starting}
use Rattle.smk_laws_moments.proofs.Others.{child_runs, has_begun, is_kept, kept_unclean, named_apart, read_by_none}
use Rattle.smk_laws_moments.proofs.Restoring.{left_none, own_of, restored_calm, unkept}
use Rattle.smk_laws_moments.proofs.Spots.{has_output, no_clash, no_source, own_apart, owned, owned_between}

-- ## Small facts

-- what is to run isn't Clean
run_unclean : (x : State) → is_to_run x ≡ true → is_clean x ≡ false
run_unclean Open h = refl
run_unclean (Dirty rs) h = refl
run_unclean Restore h = refl
run_unclean Clean h = absurd (true≢false (sym h))

none_some : {A : Type 0} (o : Option A) (x : A) → o ≡ None → o ≡ Some x → ⊥
none_some o x h k = cc

-- the paths of a valid record's outputs are texts
valid_paths : (r : Record) → is_valid r ≡ true → list_all is_path_text (out_paths r.recipe) ≡ true
valid_paths r h =
    let one = and_right (length r.stamps == length (in_paths r.recipe)) _ h in
    let two = and_right (among (out_paths r.recipe) r.path) _ one in
    let three = and_right (nat_le 1 r.made) _ two in
    let four = and_right (list_all (is_earlier r.made) r.stamps) _ three in
    let five = and_right (are_rising (map (λ (w : Pair). w.name) r.recipe.wildcards)) _ four in
    let six = and_right (list_all is_path_text (in_paths r.recipe)) _ five in
    and_left (list_all is_path_text (out_paths r.recipe)) _ six

-- one more that passes, or none
counted : {A : Type 0} (f : A → Bool) (xs : List A) (x : A) → length (filter f (xs ++ x ∷ [])) ≡ length (filter f xs) + length (filter f (x ∷ []))
counted f xs x = ap length (filter-append f xs (x ∷ [])) ∙ length-append (filter f xs) (filter f (x ∷ []))

stays_top : (g c n t : ℕ) → n ≡ c + 0 → t ≡ g + c → g + n ≡ t
stays_top g c n t h k = omega (arith, h, k)

next_top : (g c n t : ℕ) → n ≡ c + 1 → t ≡ g + c → g + n ≡ suc t
next_top g c n t h k = omega (arith, h, k)

next_serial : (m g c t : ℕ) → m ≡ g + (1 + c) → t ≡ g + c → m ≡ suc t
next_serial m g c t h k = omega (arith, h, k)

abbrev outside : Rules → Act → Outside
outside rules act = record { read = rules.read; act = act }

module _
    (act : Act) (rules : Rules) (entry w : World) (H : Versions) (before : List Event) (s : Stand) (state : RunState) (e : Job × State)
    (made : ℕ) (stamps : List Stamp)
    (midway : Midway (outside rules act) entry H state w) (is : IsStateOf rules entry s state) (still : AreStillPlanned s)
    (to_begin : IsToBegin rules entry s w before e made stamps) (at : IsStarting rules s w e) where
  abbrev o : Outside
  o = outside rules act

  abbrev image : Image
  image = seen rules w

  abbrev progress : Progress
  progress = progress_of w s.begun

  abbrev plan : Plan
  plan = at.plan

  abbrev st : Job → State
  st j = state_of image rules.settings progress plan j

  abbrev kept_of : Job → Option State
  kept_of j = kept_state image rules.settings progress plan j

  abbrev hand : Path → Bool
  hand q = is_at_hand image rules.settings progress plan q

  -- the outputs of the job, and its inputs
  abbrev outs : List Path
  outs = out_paths e.0.recipe

  abbrev ins : List Path
  ins = in_paths e.0.recipe

  -- the job as it begins
  abbrev opening : OpenJob
  opening = beginning e.0 made stamps (found_by image e)

  planned : Planned rules.flow image rules.settings progress plan
  planned = record {
    complete = seen_is_complete rules.read w midway.images.formed;
    valid = records_valid rules.read w.names (λ q. reading (w.nodes q));
    derived = at.is_plan;
  }

  unclean : is_clean (st e.0) ≡ false
  unclean = ap is_clean (sym at.state) ∙ run_unclean e.1 at.to_run

  input_at_hand : (q : Path) → IsIn ins q → hand q ≡ true
  input_at_hand q iq = all_in hand (ins ++ awaits plan e.0) q at.at_hand (in_left q ins (awaits plan e.0) iq)

  -- what isn't Clean makes none of its inputs
  unclean_apart : (k : Job) → IsIn plan.jobs k → is_clean (st k) ≡ false → (q : Path) → IsIn ins q → makes k q ≡ false
  unclean_apart k ik never q iq = unclean_makes_none rules.flow act image rules.settings progress plan planned k q ik never (input_at_hand q iq)

  -- ## The job itself

  valid_at : (p : Path) → IsIn outs p → is_valid (record_of p made e.0.recipe stamps []) ≡ true
  valid_at p i = each_in (λ x. is_valid (record_of x made e.0.recipe stamps []) ≡ true) outs p to_begin.writable.valid i

  path_texts : Each (λ p. IsTrue (is_path_text p)) (owned e.0)
  path_texts = each_of (λ p. IsTrue (is_path_text p)) (owned e.0) (λ p i. elim (in_either p outs e.0.logs i) [
    | inl k ↦ all_in is_path_text outs p (valid_paths (record_of p made e.0.recipe stamps []) (valid_at p k)) k
    | inr k ↦ each_in (λ x. IsTrue (is_path_text x)) e.0.logs p to_begin.logged k
  ])

  from_own_inputs : any_overlap (owned e.0) ins ≡ false
  from_own_inputs =
      inputs_clear rules.flow act image rules.settings progress plan planned e.0 e.0 at.planned at.planned (unclean_apart e.0 at.planned unclean)

  hand_at : (q : Path) (x : Stamp) → IsIn (zip ins stamps) (q, x) → IsAtHand o image (q, x)
  hand_at q x i =
      let iq = zip_first ins stamps q x i in
      input_hand rules.flow act image rules.settings progress plan planned o e.0 q x at.planned iq (input_at_hand q iq)
      (zip_now (stamp_now image) ins stamps q x to_begin.stamped i)

  -- ## Other jobs

  -- a job of the plan whose child runs
  record IsRunning (k : Job) : Type 0 where
    pub of_plan : IsIn plan.jobs k
    pub kept : is_some (kept_of k) ≡ true
    pub begun : among progress.begun (job_path k) ≡ true

  running_job :
      (going : Underway) (kept : List (Path × Record)) (p : IsPlannedStill s plan going) →
      IsIn state.jobs (opened going kept (Running going.number)) → IsRunning p.job
  running_job going kept p i =
      let j = opened going kept (Running going.number) in
      let child = child_runs o w state.jobs j p.job going.number midway.phases midway.apart midway.children i refl p.recipe in
      record {
        of_plan = p.planned;
        kept = subst (λ k. is_some (kept_of k) ≡ true) p.is_job
            (is_kept image rules.settings plan w s.begun p.begun p.has_begun (subst (λ k. runs w k ≡ true) (sym p.is_job) child));
        begun = subst (λ k. among progress.begun (job_path k) ≡ true) p.is_job
            (has_begun image rules.settings plan w s.begun p.begun p.has_begun);
      }

  -- nothing of the job that is next overlaps what that one owns or reads
  record IsPlannedApart (k : Job) : Type 0 where
    pub owns : any_overlap (owned e.0) (owned k) ≡ false
    pub not_read : any_overlap (owned e.0) (in_paths k.recipe) ≡ false
    pub reads_not : any_overlap ins (owned k) ≡ false

  apart_from : (k : Job) → IsRunning k → IsPlannedApart k
  apart_from k r = record {
    owns = owned_between rules.flow image plan.lists rules.settings.targets plan.jobs planned.complete at.is_plan.derived
        (λ j. not (among progress.begun (job_path j))) e.0 k at.planned r.of_plan (ap not at.unbegun) (ap not r.begun);
    not_read = inputs_clear rules.flow act image rules.settings progress plan planned k e.0 r.of_plan at.planned (λ q iq.
        read_by_none image rules.settings progress plan e.0 k q at.unread r.of_plan r.kept
        (named_apart progress.begun (job_path e.0) (job_path k) at.unbegun r.begun) iq);
    reads_not = clear_of_inputs rules.flow act image rules.settings progress plan planned e.0 k at.planned r.of_plan
        (unclean_apart k r.of_plan (kept_unclean (kept_of k) (by_table image rules.settings progress plan k) r.kept));
  }

  from_other : (k : OpenJob) → IsIn state.jobs k → IsOf s k → IsApart opening k
  from_other _ i (Runs going kept running) =
      let p = each_in (IsPlannedStill s plan) s.runs going (still plan at.in_force) running in
      let apart = apart_from p.job (running_job going kept p i) in
      let owns : owned p.job ≡ owned_paths going.recipe going.logs = λ i. owned_paths (p.recipe i) (p.logs i) in
      record {
        own_apart = subst (λ ps. any_overlap (owned e.0) ps ≡ false) owns apart.owns;
        not_read = subst (λ r. any_overlap (owned e.0) (in_paths r) ≡ false) p.recipe apart.not_read;
        reads_not = subst (λ ps. any_overlap ins ps ≡ false) owns apart.reads_not;
      }
  from_other _ i (IsLeft going kept status halted) = absurd (halted to_begin.next.clear.unhalted)

  -- ## The records that it finds

  -- the records that stand at its outputs
  abbrev standing : List (Path × Record)
  standing = flat_map (found_at image) outs

  found_if : (b : Bool) → is_restore e.1 ≡ b → found_by image e ≡ cond b standing []
  found_if b h = ap (λ c. flat_map (λ (x : State). standing) (cond c (e.1 ∷ []) [])) h ∙ rest b
    where
      rest : (b : Bool) → flat_map (λ (x : State). standing) (cond b (e.1 ∷ []) []) ≡ cond b standing []
      rest true = append-nil standing
      rest false = refl

  found_among : (b : Bool) → is_restore e.1 ≡ b → (p : Path) (r : Record) → kept_at (found_by image e) p ≡ Some r → IsIn outs p
  found_among true h p r k = kept_among image outs p r (subst (λ ks. kept_at ks p ≡ Some r) (found_if true h) k)
  found_among false h p r k = absurd (none_some None r refl (subst (λ ks. kept_at ks p ≡ Some r) (found_if false h) k))

  may_begin : MayBegin o state w opening
  may_begin = record {
    paths = path_texts;
    apart = own_apart rules.flow image plan.lists rules.settings.targets plan.jobs planned.complete at.is_plan.derived e.0 at.planned;
    from_open = each_of (IsApart opening) state.jobs (λ k i. from_other k i (each_in (IsOf s) state.jobs k is.jobs i));
    from_inputs = from_own_inputs;
    no_source = λ q source.
        no_source rules.flow image plan.lists rules.settings.targets plan.jobs planned.complete at.is_plan.derived e.0 q at.planned source;
    no_clash = λ q known over.
        no_clash rules.flow image plan.lists rules.settings.targets plan.jobs planned.complete at.is_plan.derived e.0 q at.planned known over;
    at_hand = each_of (IsAtHand o image) (zip ins stamps) (λ x i. hand_at x.0 x.1 i);
    each_stamped = as_many (stamp_now image) ins stamps to_begin.stamped;
    kept_own = found_among (is_restore e.1) refl;
  }

  -- ## A job that is restored

  makes_some : outs ≢ []
  makes_some = has_output rules.flow image plan.lists rules.settings.targets plan.jobs planned.complete at.is_plan.derived e.0 at.planned

  unkept_here : kept_of e.0 ≡ None
  unkept_here = unkept image rules.settings plan w s.begun e.0 at.unbegun

  calm_if : is_restore e.1 ≡ true → own_of rules.flow act image rules.settings progress plan planned e.0 ≡ []
  calm_if h = restored_calm rules.flow act image rules.settings progress plan planned e.0 unkept_here (ap is_restore (sym at.state) ∙ h)

  abbrev left : Path → Bool
  left p = is_restored image rules.settings progress plan p

  left_out : (p : Path) → IsIn outs p → left p ≡ false
  left_out p ip = left_none rules.flow act image rules.settings progress plan planned e.0 p at.planned unkept_here ip

  restored_finds : is_restore e.1 ≡ true → found_by image e ≢ []
  restored_finds h = λ none. finds_some image planned.valid left e.0 (calm_if h) left_out makes_some (sym (found_if true h) ∙ none)

  -- ## Its serial

  -- the greatest serial of the entry, and how many were drawn before it
  abbrev first_top : ℕ
  first_top = greatest rules (seen rules entry)

  abbrev count : ℕ
  count = length (filter (draws rules) s.begun)

  abbrev begun : Begun
  begun = begun_of rules entry (moment_of s w before) e

  abbrev count_with : ℕ
  count_with = length (filter (draws rules) (s.begun ++ begun ∷ []))

  serial_if : (b : Bool) → is_restore e.1 ≡ b → made ≡ cond b (made_at (record_at image (job_path e.0))) (first_top + (1 + count))
  serial_if b h = to_begin.serial ∙ ap (λ c. cond c (made_at (record_at image (job_path e.0))) (first_top + (1 + count))) h

  count_if : (b : Bool) → is_restore e.1 ≡ b → count_with ≡ count + length (cond (not b) (begun ∷ []) [])
  count_if b h = counted (draws rules) s.begun begun ∙ ap (λ c. count + length (cond (not c) (begun ∷ []) [])) h

  restored_keeps : is_restore e.1 ≡ true → (p : Path) → IsIn outs p → IsKept o w opening p
  restored_keeps h p ip =
      let f = finds_record image planned.valid left e.0 (calm_if h) left_out made stamps p (serial_if true h) to_begin.stamped ip in
      record {
        found = f.found;
        stands = f.stands;
        unmarked = f.unmarked;
        kept = subst (λ ks. kept_at ks p ≡ Some f.found) (sym (found_if true h)) f.kept;
        again = f.again;
      }

  serial_has : state.top ≡ first_top + count → (b : Bool) → is_restore e.1 ≡ b → HasSerial o state w opening (top_with rules entry s begun)
  serial_has top true h =
      inr (restored_finds h, each_of (IsKept o w opening) outs (restored_keeps h), stays_top first_top count count_with state.top (count_if true h) top)
  serial_has top false h =
      inl (
        found_if false h,
        next_serial made first_top count state.top (serial_if false h) top,
        next_top first_top count count_with state.top (count_if false h) top,
      )

  pub may_open : MayOpen o state w e (found_by image e) made stamps (top_with rules entry s begun)
  may_open = record {
    begins = may_begin;
    has_serial = serial_has (is.top to_begin.next.clear.unhalted) (is_restore e.1) refl;
    makes = makes_some;
    restored = restored_finds;
    drawn = λ never. found_if false (false_unless (is_restore e.1) never);
  }

pub startable_may_begin : StartableMayBegin
startable_may_begin o rules entry w H before s state e made stamps same midway is still to_begin =
    let to : outside rules o.act ≡ o = λ i. record { read = same i; act = o.act } in
    let top = top_with rules entry s (begun_of rules entry (moment_of s w before) e) in
    subst (λ x. MayOpen x state w e (found_by (seen rules w) e) made stamps top) to
    (may_open o.act rules entry w H before s state e made stamps (subst (λ x. Midway x entry H state w) (sym to) midway) is still to_begin
    (starting rules s w before e to_begin.next))

-- Looks leave what may begin.
pub opening_stays : OpeningStays
opening_stays o state w v e kept made stamps top names nodes h =
    let at : now o w ≡ now o v = λ i. image_by o.read (names i) (λ q. reading (nodes i q)) in
    let j = beginning e.0 made stamps kept in
    record {
      begins = record {
        paths = h.begins.paths;
        apart = h.begins.apart;
        from_open = h.begins.from_open;
        from_inputs = h.begins.from_inputs;
        no_source = λ q is. h.begins.no_source q (ap (λ x. is_source x q) at ∙ is);
        no_clash = λ q known over. h.begins.no_clash q (ap (λ (x : Image). stands (x.kept q) || x.marked q) at ∙ known) over;
        at_hand = subst (λ x. Each (IsAtHand o x) (zip (in_paths e.0.recipe) stamps)) at h.begins.at_hand;
        each_stamped = h.begins.each_stamped;
        kept_own = h.begins.kept_own;
      };
      has_serial = elim h.has_serial [
        | inl new ↦ inl new
        | inr again ↦ inr (again.0, each_on (IsKept o w j) (IsKept o v j) (kept_on at) (out_paths e.0.recipe) again.1, again.2)
      ];
      makes = h.makes;
      restored = h.restored;
      drawn = h.drawn;
    }
  where
    kept_on : now o w ≡ now o v → (p : Path) → IsKept o w (beginning e.0 made stamps kept) p → IsKept o v (beginning e.0 made stamps kept) p
    kept_on at p k = record {
      found = k.found;
      stands = ap (λ x. core_at x p) (sym at) ∙ k.stands;
      unmarked = ap (λ (x : Image). x.marked p) (sym at) ∙ k.unmarked;
      kept = k.kept;
      again = k.again;
    }
