-- What a plan says of its jobs where none has begun: who makes a path, what a Clean job has not, and what becomes known.
use Rattle.std.specs.Prelude.{is_none, if◌then◌else◌}
use Rattle.std.proofs.Common.{◌≡◌, ◌⊎◌, Bool, true, false, ◌&&◌, not, List, [], ◌∷◌, ◌++◌, filter, find, flat_map, zip, refl, sym, ap, subst, ◌∙◌, inl, inr, bytes_eq, Option, Some, None, true≢false}
use Rattle.smk_base.proofs.Places.{same_place}
use Rattle.smk_world.specs.Trees.{Path, IsIn, folder_over}
use Rattle.smk_flow.specs.Flows.{Flow}
use Rattle.smk_flow.specs.declared.job.Job.{Job}
use Rattle.smk_store.specs.Images.{Image}
use Rattle.smk_chain.specs.Derive.{Listings, listing}
use Rattle.smk_chain.specs.declared.jobs.Known.{Known}
use Rattle.smk_pick.specs.declared.settings.Settings.{Settings}
use Rattle.smk_trigger.specs.JobStates.{is_clean}
use Rattle.smk_trigger.specs.declared.reason.Reason.{Reason}
use Rattle.smk_trigger.specs.declared.reason.State.TheVariants.{Open}
use Rattle.smk_trigger.specs.declared.reason.State.{State}
use Rattle.smk_plan.specs.States.{AreListed, IsPlan, Last, LastPlan, Plan, Then, awaited, by_reasons, directory_over, files_listed, is_open_now, is_read_now, is_ready, is_to_restore, maker_of, makes, new_listings, none_or_one, nothing_done, reasons, staged, state_of}
use Rattle.smk_laws_plan.specs.Current.{IsComplete}
use Rattle.smk_laws_plan.proofs.CurrentApart.{maker_found}
use Rattle.smk_laws_plan.proofs.CurrentChosen.{mapped}
use Rattle.smk_laws_plan.proofs.CurrentLists.{In, and_left, filter_in, find_in, flat_in, in_left, in_zip, map_in, zip_in}
use Rattle.smk_laws_plan.proofs.PlanOne.{derived_apart, pair_first}
use Rattle.smk_laws_history.proofs.CurrentLaw.{listing_either}
use Rattle.smk_cli_target.proofs.NextRun.{never_any}

table_clean : (o : Bool) (rs : List Reason) (b : Bool) → is_clean (if o then Open else by_reasons rs b) ≡ true → (o ≡ false) × (rs ≡ []) × (b ≡ false)
table_clean true rs b h = absurd (true≢false (sym h))
table_clean false (r ∷ rs) b h = absurd (true≢false (sym h))
table_clean false [] true h = absurd (true≢false (sym h))
table_clean false [] false h = (refl, refl, refl)

and_not : (a b : Bool) → (a && not b) ≡ false → b ≡ false → a ≡ false
and_not true b h e = absurd (true≢false (sym (ap not e) ∙ h))
and_not false b h e = refl

-- ## Any plan

module _ (flow : Flow) (image : Image) (settings : Settings) (plan : Plan) (complete : IsComplete image) (is : IsPlan flow image settings nothing_done plan) where
  abbrev pub state : Job → State
  state j = state_of image settings nothing_done plan j

  abbrev pub open_now : Job → Bool
  open_now j = is_open_now image settings nothing_done plan j

  abbrev pub why : Job → List Reason
  why j = reasons image settings nothing_done plan j

  abbrev pub lost : Job → Bool
  lost j = is_to_restore image settings nothing_done plan j

  abbrev pub read_now : Job → Bool
  read_now j = is_read_now image settings nothing_done plan j

  unread : (j : Job) → read_now j ≡ false
  unread j = never_any plan.jobs

  -- a job of the plan with its state
  pub of_state : (e : Job × State) → IsIn (staged plan) e → In e.0 plan.jobs × (e.1 ≡ state e.0)
  of_state e i = zip_in state plan.jobs e (subst (λ ss. IsIn (zip plan.jobs ss) e) is.states i)

  pub to_staged : (j : Job) → In j plan.jobs → IsIn (staged plan) (j, state j)
  to_staged j i = subst (λ ss. IsIn (zip plan.jobs ss) (j, state j)) (sym is.states) (in_zip state plan.jobs j i)

  pub maker_is : (j : Job) (q : Path) → In j plan.jobs → makes j q ≡ true → maker_of plan q ≡ Some (j, state j)
  maker_is j q i m =
      ap (λ ss. find (λ (e : Job × State). makes e.0 q) (zip plan.jobs ss)) is.states
      ∙ maker_found state plan.jobs j q (derived_apart flow image plan.lists settings.targets plan.jobs complete is.derived) i m

  pub one_maker : (j k : Job) (q : Path) → In j plan.jobs → In k plan.jobs → makes j q ≡ true → makes k q ≡ true → j ≡ k
  one_maker j k q i l m n = pair_first (j, state j) (k, state k) (sym (maker_is j q i m) ∙ maker_is k q l n)

  pub found_maker : (q : Path) (e : Job × State) → maker_of plan q ≡ Some e → In e.0 plan.jobs × (e.1 ≡ state e.0) × (makes e.0 q ≡ true)
  found_maker q e h =
      let f = find_in (λ (x : Job × State). makes x.0 q) (staged plan) e h in
      let s = of_state e f.0 in
      (s.0, s.1, f.1)

  pub clean_parts : (j : Job) → is_clean (state j) ≡ true → (open_now j ≡ false) × (why j ≡ []) × (lost j ≡ false)
  clean_parts j h =
      let t = table_clean (open_now j) (why j) (lost j && not (read_now j)) h in
      (t.0, t.1, and_not (lost j) (read_now j) t.2 (unread j))

  -- a directory that is over the path, by the plan
  pub over_parts : (q d : Path) → In d (directory_over plan q) → (k : Job) × In k plan.jobs × (makes k q ≡ true) × (folder_over k.recipe q ≡ Some d)
  over_parts q d h = go (maker_of plan q) refl h
    where
      one : (o : Option Path) → In d (none_or_one o) → o ≡ Some d
      one None i = absurd i
      one (Some f) (inl e) = ap Some (sym e)
      one (Some f) (inr i) = absurd i

      go : (m : Option (Job × State)) → maker_of plan q ≡ m → In d (flat_map (λ (e : Job × State). none_or_one (folder_over e.0.recipe q)) (none_or_one m)) → (k : Job) × In k plan.jobs × (makes k q ≡ true) × (folder_over k.recipe q ≡ Some d)
      go None e i = absurd i
      go (Some x) e i =
          let f = found_maker q x e in
          let r = flat_in (λ (e : Job × State). none_or_one (folder_over e.0.recipe q)) (x ∷ []) d i in
          (x.0, f.0, f.2, one (folder_over x.0.recipe q) (here r.0 r.1 r.2))
        where
          here : (y : Job × State) → In y (x ∷ []) → In d (none_or_one (folder_over y.0.recipe q)) → In d (none_or_one (folder_over x.0.recipe q))
          here y (inl s) k = subst (λ (z : Job × State). In d (none_or_one (folder_over z.0.recipe q))) s k
          here y (inr s) k = absurd s

  pub over_from : (q d : Path) (k : Job) → In k plan.jobs → makes k q ≡ true → folder_over k.recipe q ≡ Some d → In d (directory_over plan q)
  over_from q d k i m o =
      subst (λ x. In d (flat_map (λ (e : Job × State). none_or_one (folder_over e.0.recipe q)) (none_or_one x))) (sym (maker_is k q i m))
      (in_left d (none_or_one (folder_over k.recipe q)) [] (subst (λ x. In d (none_or_one x)) (sym o) (inl refl)))

  -- what becomes known is awaited and ready, and as its record lists it
  pub new_is :
      (f : Path) (files : List Path) → listing (new_listings image settings nothing_done plan) f ≡ Some files →
      In f (awaited image settings nothing_done plan) × (is_ready image settings nothing_done plan f ≡ true) × (files ≡ files_listed image f)
  new_is f files h =
      let test : Path → Bool = λ d. is_ready image settings nothing_done plan d && is_none (listing plan.lists d) in
      let all = awaited image settings nothing_done plan in
      let r = mapped (λ (k : Known). k.files) (find (λ (k : Known). bytes_eq k.folder f) (new_listings image settings nothing_done plan)) files h in
      let k = find_in (λ (k : Known). bytes_eq k.folder f) (new_listings image settings nothing_done plan) r.0 r.1 in
      let d = map_in _ (filter test all) r.0 k.0 in
      let i = filter_in test all d.0 d.1 in
      let same : d.0 ≡ f = sym (ap (λ (x : Known). x.folder) d.2) ∙ same_place r.0.folder f k.1 in (
        subst (λ x. In x all) same i.0,
        subst (λ x. is_ready image settings nothing_done plan x ≡ true) same (and_left (is_ready image settings nothing_done plan d.0) (is_none (listing plan.lists d.0)) i.1),
        sym r.2 ∙ (ap (λ (x : Known). x.files) d.2 ∙ ap (files_listed image) same),
      )

-- the listings of a chain that began from none are those of records
pub chain_listed : (flow : Flow) (image : Image) (settings : Settings) (L : Listings) (plan : Plan) → IsComplete image → AreListed image L → LastPlan flow image settings nothing_done L plan → AreListed image plan.lists
chain_listed flow image settings _ _ complete listed (Last p is done) = listed
chain_listed flow image settings _ _ complete listed (Then p last is more rest) =
    chain_listed flow image settings (p.lists ++ new_listings image settings nothing_done p) last complete
    (λ f files h. by f files (listing_either p.lists (new_listings image settings nothing_done p) f files h)) rest
  where
    by : (f : Path) (files : List Path) → (listing p.lists f ≡ Some files) ⊎ (listing (new_listings image settings nothing_done p) f ≡ Some files) → files ≡ files_listed image f
    by f files (inl h) = listed f files h
    by f files (inr h) = (new_is flow image settings p complete is f files h).2
