-- The inputs of jobs of a plan: what another job makes or logs overlaps none of them, and those that are at hand in the plan are so in the protocol.
use Rattle.std.proofs.Common.{◌≡◌, ◌⊎◌, inl, inr, ℕ, Bool, true, false, ◌&&◌, ◌||◌, zip, find, refl, ap, sym, subst, ◌∙◌, Option, Some, None, IsTrue, true≢false}
use Rattle.std.specs.Prelude.{if◌then◌else◌, is_none, not}
use Rattle.std.specs.Option.{option_and_then}
use Rattle.std.proofs.lemmas.Option.{same_Some}
use Rattle.smk_base.specs.Path.{is_under, overlaps}
use Rattle.smk_base.proofs.Under.{false_unless, never_both}
use Rattle.smk_world.specs.declared.recipe.Kind.TheVariants.{Folder as FolderKind}
use Rattle.smk_world.specs.World.{in_paths}
use Rattle.smk_world.specs.Calls.{any_overlap}
use Rattle.smk_world.specs.Trees.{Path, Act, IsIn, folders_of, kind_in}
use Rattle.smk_record.specs.declared.record.Record.{Record}
use Rattle.smk_record.specs.declared.record.Stamp.{Stamp}
use Rattle.smk_record.specs.declared.record.Stamp.TheVariants.{Made}
use Rattle.smk_record.specs.Records.{agrees, core}
use Rattle.smk_flow.specs.declared.job.Job.{Job}
use Rattle.smk_flow.specs.Flows.{Flow, Candidate}
use Rattle.smk_store.specs.Images.{Image, core_at, is_file, is_source, is_whole, source_at}
use Rattle.smk_store.specs.Soundness.{Outside}
use Rattle.smk_store.specs.Trust.{Versions, content_stamp, holder, made_stamp, source_stamp, stamp_now, stamp_now_but, unmarked_stamp, unmarked_stamp_but}
use Rattle.smk_choose.specs.Choose.{choose, Make}
use Rattle.smk_pattern.specs.Bound.{BoundFills}
use Rattle.smk_pattern.proofs.Names.{numbered_all}
use Rattle.smk_chain.specs.Derive.{job, recipe, sources_of}
use Rattle.smk_trigger.specs.declared.reason.State.{State}
use Rattle.smk_trigger.specs.JobStates.{is_clean}
use Rattle.smk_pick.specs.declared.settings.Settings.{Settings}
use Rattle.smk_plan.specs.States.{Plan, Progress, gathers_from, is_at_hand, is_ready, is_restored, is_whole_by, maker_of, makes, stands_whole, state_of, test_some}
use Rattle.smk_laws_protocol.specs.Protocol.{IsAtHand, IsProductAt, IsSourceAt}
use Rattle.smk_laws_protocol.proofs.Basics.{none_of}
use Rattle.smk_laws_protocol.proofs.SoundViews.{itself}
use Rattle.smk_laws_plan.proofs.CurrentApart.{maker_found}
use Rattle.smk_laws_plan.proofs.CurrentChosen.{chosen_viable}
use Rattle.smk_laws_plan.proofs.CurrentFills.{bound_fills_from}
use Rattle.smk_laws_plan.proofs.CurrentLists.{and_left, and_right, in_left}
use Rattle.smk_laws_plan.proofs.CurrentMeaning.{source_chosen, source_file, source_reads, source_stamp as stamp_of_source}
use Rattle.smk_laws_plan.proofs.CurrentProducts as products
use Rattle.smk_laws_plan.proofs.CurrentProducts.{Planned, Product, ReachedHere, core_reads}
use Rattle.smk_laws_plan.proofs.CurrentReach.{choice_known}
use Rattle.smk_laws_plan.proofs.PlanOne.{derived_apart, job_makes}
use Rattle.smk_laws_history.proofs.CurrentReads.{wanted_comes}
use Rattle.smk_laws_moments.proofs.Spots.{owned, flipped, each_apart, made_clear, no_source}

-- where a stamp is told now, the same is told whatever marks are left out
pub stamp_whatever : (image : Image) (left : Path → Bool) (q : Path) (s : Stamp) → stamp_now image q ≡ Some s → stamp_now_but image left q ≡ Some s
stamp_whatever image left q s h = by_source (is_source image q) h
  where
    not_none : None ≡ Some s → ⊥
    not_none e = cc

    unmarked : (b l : Bool) (o : Option Stamp) → (if b then None else o) ≡ Some s → (if b && not l then None else o) ≡ Some s
    unmarked true l o e = absurd (not_none e)
    unmarked false l o e = e

    held : (o : Option Path) → option_and_then (unmarked_stamp image) o ≡ Some s → option_and_then (unmarked_stamp_but image left) o ≡ Some s
    held None e = e
    held (Some p) e = unmarked (image.marked p) (left p) (made_stamp (core_at image p)) e

    by_source : (b : Bool) → (if b then source_stamp (source_at image q) else option_and_then (unmarked_stamp image) (holder image q)) ≡ Some s
        → (if b then source_stamp (source_at image q) else option_and_then (unmarked_stamp_but image left) (holder image q)) ≡ Some s
    by_source true e = e
    by_source false e = held (holder image q) e

-- two options of which the first is there
has_maker : (o : Option (Job × State)) (m : Job × State) (ready : Bool) → o ≡ Some m → (is_none o || ready) ≡ true → ready ≡ true
has_maker None m ready e h = absurd (not_none e)
  where
    not_none : None ≡ Some m → ⊥
    not_none x = cc
has_maker (Some n) m ready e h = h

module _
    (flow : Flow) (act : Act) (image : Image) (settings : Settings) (progress : Progress) (plan : Plan)
    (rest : Planned flow image settings progress plan) where
  abbrev pub state_in : Job → State
  state_in j = state_of image settings progress plan j

  abbrev fields : Job → Bool
  fields j = true

  abbrev versions : Versions
  versions p t = None

  abbrev fills : BoundFills
  fills = bound_fills_from numbered_all

  abbrev Comes : Path → Type 0
  Comes q = (n : ℕ) × ReachedHere flow act fields image versions settings progress plan n q

  -- the job of the plan that makes a path
  pub maker_is : (k : Job) (q : Path) → IsIn plan.jobs k → makes k q ≡ true → maker_of plan q ≡ Some (k, state_in k)
  maker_is k q i m =
      ap (λ ss. find (λ (e : Job × State). makes e.0 q) (zip plan.jobs ss)) rest.derived.states
      ∙ maker_found state_in plan.jobs k q (derived_apart flow image plan.lists settings.targets plan.jobs rest.complete rest.derived.derived) i m

  -- the job that makes what is at hand is Clean
  pub maker_clean : (k : Job) (q : Path) → IsIn plan.jobs k → makes k q ≡ true → is_at_hand image settings progress plan q ≡ true → is_clean (state_in k) ≡ true
  maker_clean k q i m hand =
      let is = maker_is k q i m in
      let ready = has_maker (maker_of plan q) (k, state_in k) (is_ready image settings progress plan q) is hand in
      and_left (is_clean (state_in k)) (stands_whole image q k)
      (sym (ap (test_some (λ (e : Job × State). is_clean e.1 && stands_whole image q e.0)) is) ∙ ready)

  -- so what isn't Clean makes nothing that is at hand
  pub unclean_makes_none :
      (k : Job) (q : Path) → IsIn plan.jobs k → is_clean (state_in k) ≡ false → is_at_hand image settings progress plan q ≡ true → makes k q ≡ false
  unclean_makes_none k q i unclean hand = false_unless (makes k q) (λ m. never_both (is_clean (state_in k)) (maker_clean k q i m hand) unclean)

  -- ## What is read

  -- an input is a source, or a job that is chosen for it makes it
  input_comes : (j : Job) (q : Path) → IsIn plan.jobs j → IsIn (in_paths j.recipe) q → Comes q
  input_comes j q ij iq =
      let reached = wanted_comes flow act fields image versions settings progress plan rest j q ij (in_left q (in_paths j.recipe) (gathers_from j) iq) in
      (reached.0, reached.2)

  in_plan : (q : Path) (c : Candidate) → Comes q → choose flow (sources_of image) q ≡ Make c → IsIn plan.jobs (job flow plan.lists c)
  in_plan q c reached e = products.in_plan_here flow act fields image versions settings progress plan fills rest reached.0 q c reached.1 e

  -- what a job makes or logs overlaps no input of a job that it doesn't make
  pub input_clear :
      (j k : Job) (q x : Path) → IsIn plan.jobs j → IsIn plan.jobs k → IsIn (in_paths j.recipe) q → makes k q ≡ false → IsIn (owned k) x →
      overlaps x q ≡ false
  input_clear j k q x ij ik iq never ix =
      let reached = input_comes j q ij iq in
      elim (choice_known flow (sources_of image) plan.lists reached.0 q reached.1.calm) [
        | inl e ↦ flipped q x (none_of (overlaps q) (owned k) x
            (no_source flow image plan.lists settings.targets plan.jobs rest.complete rest.derived.derived k q ik
            (source_chosen flow (sources_of image) q e)) ix)
        | inr c ↦ made_clear flow image plan.lists settings.targets plan.jobs rest.complete rest.derived.derived (job flow plan.lists c.0) k q x
            (in_plan q c.0 reached c.1) ik (job_makes flow (sources_of image) plan.lists q c.0 c.1) never ix
      ]

  -- none of its inputs is made by that one
  abbrev MakesNoInput : Job → Job → Type 0
  MakesNoInput k j = (q : Path) → IsIn (in_paths j.recipe) q → makes k q ≡ false

  pub inputs_clear : (j k : Job) → IsIn plan.jobs j → IsIn plan.jobs k → MakesNoInput k j → any_overlap (owned k) (in_paths j.recipe) ≡ false
  inputs_clear j k ij ik never = each_apart (owned k) (in_paths j.recipe) (λ x q ix iq. input_clear j k q x ij ik iq (never q iq) ix)

  pub clear_of_inputs : (j k : Job) → IsIn plan.jobs j → IsIn plan.jobs k → MakesNoInput k j → any_overlap (in_paths j.recipe) (owned k) ≡ false
  clear_of_inputs j k ij ik never = each_apart (in_paths j.recipe) (owned k) (λ q x iq ix. flipped x q (input_clear j k q x ij ik iq (never q iq) ix))

  -- ## What is at hand

  source_hand : (o : Outside) (q : Path) (s : Stamp) → is_source image q ≡ true → stamp_now image q ≡ Some s → IsSourceAt o image q s
  source_hand o q s is now =
      let f = source_file image q is in
      record { source = f.0; stands = source_reads image q f.0 is f.1; same = same_Some s (content_stamp f.0) (sym now ∙ stamp_of_source image q f.0 is f.1) }

  -- the file that a member of a directory is, or the output itself
  part_there :
      (q h : Path) (c : Candidate) (r : Record) (reached : Comes q) → Product flow act fields image versions settings progress plan c q h r →
      stands_whole image q (job flow plan.lists c) ≡ true → (q ≡ h) ⊎ IsTrue (is_file image q)
  part_there q h c r reached made whole = go made.place
    where
      go : (q ≡ h) ⊎ (is_under q h ≡ true) × IsIn (folders_of (recipe flow plan.lists c)) h → (q ≡ h) ⊎ IsTrue (is_file image q)
      go (inl e) = inl e
      go (inr u) =
          let apart = products.own_outputs flow act fields image versions settings progress plan fills rest reached.0 q c reached.1 made.chosen in
          let over = products.member_over flow act fields image versions settings progress plan fills rest c h q apart u.0 u.1 in
          inr (and_right (is_whole image h FolderKind) (is_file image q)
          (sym (ap (is_whole_by image q (kind_in (job flow plan.lists c).recipe q)) over) ∙ whole))

  product_hand :
      (o : Outside) (q : Path) (s : Stamp) (c : Candidate) → Comes q → choose flow (sources_of image) q ≡ Make c →
      is_ready image settings progress plan q ≡ true → stamp_now image q ≡ Some s → IsProductAt o image q s
  product_hand o q s c reached e ready now =
      let parts = products.ready_parts flow act fields image versions settings progress plan fills rest reached.0 q c reached.1 e ready in
      let found = products.quiet_product flow act fields image versions settings progress plan fills rest reached.0 q c reached.1 e parts.0 in
      let h = found.0 in
      let r = found.1 in
      let product = found.2 in
      let left = products.not_restored flow act fields image versions settings progress plan fills rest reached.0 q c h reached.1 e ready product.is_output in
      let stamp = same_Some s (Made r.made) (sym (stamp_whatever image (is_restored image settings progress plan) q s now) ∙ product.stamp) in
      record {
        speaker = h;
        by = core r;
        speaks = record {
          no_source = (chosen_viable flow (sources_of image) q c e).1;
          holder = product.holds;
          clear = (core_reads image h r product.reads, inl (unmarked (image.marked h) (is_restored image settings progress plan h) left product.unmarked));
        };
        same = subst (λ x. IsTrue (agrees x (made_stamp (Some (core r))))) (sym stamp) (itself r.made r.made refl);
        whole = (products.ready_whole flow act fields image versions settings progress plan fills rest reached.0 q c h r reached.1 product ready).0;
        part = part_there q h c r reached product parts.1;
      }
    where
      unmarked : (a b : Bool) → b ≡ false → (a && not b) ≡ false → a ≡ false
      unmarked true b x y = absurd (true≢false (sym (ap not x) ∙ y))
      unmarked false b x y = refl

  -- an input of a job of the plan that is at hand, with the stamp that it has now
  pub input_hand :
      (o : Outside) (j : Job) (q : Path) (s : Stamp) → IsIn plan.jobs j → IsIn (in_paths j.recipe) q →
      is_at_hand image settings progress plan q ≡ true → stamp_now image q ≡ Some s → IsAtHand o image (q, s)
  input_hand o j q s ij iq hand now =
      let reached = input_comes j q ij iq in
      elim (choice_known flow (sources_of image) plan.lists reached.0 q reached.1.calm) [
        | inl e ↦ inl (source_hand o q s (source_chosen flow (sources_of image) q e) now)
        | inr c ↦
            let k = job flow plan.lists c.0 in
            let is = maker_is k q (in_plan q c.0 reached c.1) (job_makes flow (sources_of image) plan.lists q c.0 c.1) in
            inr (product_hand o q s c.0 reached c.1 (has_maker (maker_of plan q) (k, state_in k) (is_ready image settings progress plan q) is hand) now)
      ]
