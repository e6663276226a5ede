-- The plans of a chain, kept.
use Rattle.std.proofs.Common.{◌≡◌, ◌≢◌, ◌⊎◌, ℕ, true, false, List, [], ◌∷◌, ◌++◌, map, refl, sym, ap, subst, ◌∙◌, arith, Option, Some, None, Result, Ok, Err, true≢false}
use Rattle.std.specs.Prelude.{IfOk, IfErr, IsErrAnd}
use Rattle.std.specs.List.{zip}
use Rattle.smk_flow.specs.Flows.{Flow}
use Rattle.smk_flow.specs.declared.job.Job.{Job}
use Rattle.smk_record.specs.declared.record.Record.{Record}
use Rattle.smk_store.specs.Images.{Image}
use Rattle.smk_store.specs.Stores.{Known}
use Rattle.smk_chain.specs.declared.jobs.Jobs.{Jobs}
use Rattle.smk_chain.specs.Derive.{Listings, Derived, Refused, Refusal, derivation}
use Rattle.smk_pick.specs.declared.settings.Settings.{Settings}
use Rattle.smk_plan.specs.declared.seen.Sight.{Sight}
use Rattle.smk_plan.specs.States.{Plan, IsPlan, nothing_done, new_listings}
use Rattle.smk_format.specs.Refused.{command_fault}
use Rattle.smk_report.specs.declared.fault.Fault.{Fault}
use Rattle.smk_report.specs.declared.fault.Fault.TheVariants as fault
use Rattle.smk_drive.specs.Moments.{Rules}
use Rattle.smk_drive.specs.Refusals.{refused_of, ChainRefuses}
use Rattle.smk_drive.specs.Refusals.ChainRefuses.{DerivationRefuses, PlanRefuses, NextRefuses}
use Rattle.smk_laws_plan.specs.Current.{IsComplete}
use Rattle.smk_laws_plan.proofs.CurrentLists.{cons_nil}
use Rattle.smk_laws_plan.proofs.PlanOne.{one_plan}
use Rattle.smk_plan_table.specs.Plans.{HasMade, HasMadeAt}
use Rattle.smk_plan_preview.specs.Faults.{device_failed, is_sink, is_told}
use Rattle.smk_plan_preview.specs.Previewing.{rules_for}
use Rattle.smk_plan_preview.specs.Rounds.{AreReady, IsRound, Leads}
use Rattle.smk_plan_preview.proofs.Rounded.{check_quiet, checked_told, planned_told}
use Rattle.smk_plan_preview.proofs.Chains.{last_round, leads_next, round_refused}
use Rattle.smk_plan_preview.proofs.LookedAt.{err_is}
use Rattle.smk_plan_live.specs.declared.base.Base.{Base}
use Rattle.smk_plan_live.specs.Live.{LivePlan}
use Rattle.smk_plan_live.specs.declared.phase.Phase.TheVariants.{Waiting}
use Rattle.smk_plan_live.specs.Changes.{IsFirst}
use Rattle.smk_plan_live.specs.Lives.{IsLive, IsAgreed, progress_of}
use Rattle.smk_plan_live.specs.Phases.{begun_in, children_in, named}
use Rattle.smk_drive_first.specs.Keeping.{plan_in, IsFresh, HasBegun, HasKept, HasKeptLast, NoneRefused}

-- ## A plan begins

none_begun : (js : List Job) → begun_in js (map (λ (j : Job). Waiting) js) ≡ []
none_begun [] = refl
none_begun (j ∷ js) = none_begun js

none_run : (js : List Job) → children_in js (map (λ (j : Job). None) js) ≡ []
none_run [] = refl
none_run (j ∷ js) = none_run js

-- where no job has begun, none has, and none runs
first_idle : (jobs : Jobs) (store : List Known) (seen : List Sight) (b : Base) → IsFirst jobs store seen b → progress_of b ≡ nothing_done
first_idle jobs store seen b f =
    (λ i. record { begun = begun_in (f.now i).jobs (f.phases i); running = map named (children_in (f.now i).jobs (f.began i)) })
    ∙ (λ i. record { begun = none_begun jobs.jobs i; running = map named (none_run jobs.jobs i) })

pub fresh_of :
    (settings : Settings) (jobs : Jobs) (store : List Known) (seen : List Sight) (p : LivePlan) →
    IsLive p → IsFirst jobs store seen p.base → p.settings ≡ settings → IsFresh settings p
fresh_of settings jobs store seen p live first same = record { live = live; settings_are = same; progress = first_idle jobs store seen p.base first }

-- what a plan tells by which none of its jobs has begun
pub fresh_made :
    (settings : Settings) (p : LivePlan) (image : Image) → IsFresh settings p → IsAgreed image settings p.base → HasMade image settings [] p.base.jobs p.plan
fresh_made settings p image fresh agrees =
    coe 0 1 (i. HasMadeAt (record { image = image; settings = fresh.settings_are i; progress = fresh.progress i }) p.base.jobs p.plan)
    (fresh.live.now image (subst (λ (s : Settings). IsAgreed image s p.base) (sym fresh.settings_are) agrees)).made

pub begun_ok :
    (flow : Flow) (settings : Settings) (image : Image) (jobs : Jobs) (p : LivePlan) →
    IsFresh settings p → p.base.jobs ≡ jobs → IsAgreed image settings p.base → HasBegun flow image settings jobs (Ok p)
begun_ok flow settings image jobs p fresh same agrees =
    record { agrees = agrees; plans = subst (λ (js : Jobs). HasMade image settings [] js p.plan) same (fresh_made settings p image fresh agrees) }

-- ## A round

module _ (read : List ℕ → Option Record) (flow : Flow) (settings : Settings) (image : Image) where
  -- the commands of the jobs of a plan are looked at
  commands_told :
      (p : LivePlan) (r : Result LivePlan Fault) →
      IsAgreed image settings p.base → HasMade image settings [] p.base.jobs p.plan → AreReady flow settings.targets p.base.jobs.lists image p.base.jobs → IfOk r (λ q. q ≡ p) →
      IfOk r (λ q. command_fault flow settings.cores (zip p.base.jobs.jobs p.plan.states) ≡ None) →
      IfErr r (λ f. (f ≡ fault.OutOfMemory) ⊎ (command_fault flow settings.cores (zip p.base.jobs.jobs p.plan.states) ≡ Some f)) →
      HasKept read flow settings image p.base.jobs.lists r
  commands_told p (Ok q) agrees made ready same good bad =
      record {
        agrees = subst (λ (x : LivePlan). IsAgreed image settings x.base) (sym same) agrees;
        round =
            checked_told read flow settings image p.base.jobs p.plan (Ok p.plan) (Ok (record { jobs = q.base.jobs; plan = q.plan })) refl made ready
            (ap (λ (x : LivePlan). x.base.jobs) same, ap (λ (x : LivePlan). x.plan) same) good tt;
      }
  commands_told p (Err f) agrees made ready same good bad =
      record { agrees = tt; round = checked_told read flow settings image p.base.jobs p.plan (Ok p.plan) (Err f) refl made ready tt tt bad }

  pub checked_kept :
      (jobs : Jobs) (p : LivePlan) (q r : Result LivePlan Fault) → q ≡ Ok p → IsFresh settings p → p.base.jobs ≡ jobs → HasBegun flow image settings jobs q →
      AreReady flow settings.targets jobs.lists image jobs → IfOk r (λ x. x ≡ p) →
      IfOk r (λ x. command_fault flow settings.cores (zip p.base.jobs.jobs p.plan.states) ≡ None) →
      IfErr r (λ f. (f ≡ fault.OutOfMemory) ⊎ (command_fault flow settings.cores (zip p.base.jobs.jobs p.plan.states) ≡ Some f)) →
      HasKept read flow settings image jobs.lists r
  checked_kept jobs p q r is fresh same told ready one good bad =
      let begun = subst (HasBegun flow image settings jobs) is told in
      subst (λ (js : Jobs). HasKept read flow settings image js.lists r) same
      (commands_told p r begun.agrees (fresh_made settings p image fresh begun.agrees) (subst (λ (js : Jobs). AreReady flow settings.targets js.lists image js) (sym same) ready) one good bad)

  -- what isn't told at all
  pub kept_not : (L : Listings) (f : Fault) → (is_told f ≡ true → ChainRefuses (rules_for read flow settings) image nothing_done L f) → HasKept read flow settings image L (Err f)
  kept_not L f h = record { agrees = tt; round = h }

  pub unplanned :
      (jobs : Jobs) (q : Result LivePlan Fault) (f : Fault) → q ≡ Err f → HasBegun flow image settings jobs q →
      AreReady flow settings.targets jobs.lists image jobs → HasKept read flow settings image jobs.lists (Err f)
  unplanned jobs q f is told ready =
      kept_not jobs.lists f (planned_told read flow settings image jobs (Err f) f refl (subst (HasBegun flow image settings jobs) is told).plans ready)

  -- ## The chain

  derived_refused : (js : List Job) (r : Refusal) → Derived js ≡ Refused r → ⊥
  derived_refused js r h = grind arith

  abbrev rules : Rules
  rules = rules_for read flow settings

  -- what is refused of the chain from the listings of a plan of which nothing is refused is so of the next plans
  later_refused :
      (p : Plan) → IsComplete image → IsPlan flow image settings nothing_done p → refused_of rules image nothing_done p ≡ [] →
      ((f : Fault) → new_listings image settings nothing_done p ≢ [] → ¬ ChainRefuses rules image nothing_done (p.lists ++ new_listings image settings nothing_done p) f) →
      (K : Listings) (f : Fault) → ChainRefuses rules image nothing_done K f → p.lists ≡ K → ⊥
  later_refused p complete is calm none K f (DerivationRefuses L r g e fault_is) same =
      derived_refused p.jobs r (sym is.derived ∙ (ap (λ (M : Listings). derivation flow image M settings.targets) same ∙ e))
  later_refused p complete is calm none K f (PlanRefuses q g rest is2 e) same =
      cons_nil f rest (sym e ∙ (ap (refused_of rules image nothing_done) (sym (one_plan flow image settings nothing_done p q complete is is2 same)) ∙ calm))
  later_refused p complete is calm none K f (NextRefuses q g is2 calm2 more later) same =
      let back : q ≡ p = sym (one_plan flow image settings nothing_done p q complete is is2 same) in
      none f (subst (λ (x : Plan). new_listings image settings nothing_done x ≢ []) back more)
      (subst (λ (x : Plan). ChainRefuses rules image nothing_done (x.lists ++ new_listings image settings nothing_done x) f) back later)

  -- where the chain from these listings isn't refused, that from none isn't
  pub record Reaches (L : Listings) : Type 0 where
    pub leads : Leads read flow settings image L
    pub calm : NoneRefused read flow settings image L → NoneRefused read flow settings image []

  pub reaches_begun : (L : Listings) → L ≡ [] → Reaches L
  reaches_begun L none = subst Reaches (sym none) (record { leads = record { last = λ p h. h; refused = λ f h. h }; calm = λ h. h })

  round_in : (L : Listings) (r : Result LivePlan Fault) (p : LivePlan) → r ≡ Ok p → HasKept read flow settings image L r → IsRound read flow settings image (record { jobs = p.base.jobs; plan = p.plan })
  round_in L r p is h = (subst (HasKept read flow settings image L) is h).round

  agrees_in : (L : Listings) (r : Result LivePlan Fault) (p : LivePlan) → r ≡ Ok p → HasKept read flow settings image L r → IsAgreed image settings p.base
  agrees_in L r p is h = (subst (HasKept read flow settings image L) is h).agrees

  pub reaches_next :
      (L new : Listings) (r : Result LivePlan Fault) (p : LivePlan) → IsComplete image → r ≡ Ok p → p.base.jobs.lists ≡ L → new ≡ L ++ p.plan.known → (p.plan.known ≡ [] → ⊥) →
      HasKept read flow settings image L r → Reaches L → Reaches new
  reaches_next L new r p complete is lists e some kept reaches =
      let round = round_in L r p is kept in
      let longer : new ≡ p.base.jobs.lists ++ new_listings image settings nothing_done (plan_in p) =
      e ∙ (ap (λ (M : Listings). M ++ p.plan.known) (sym lists) ∙ ap (λ (M : Listings). p.base.jobs.lists ++ M) round.known) in
      record {
        leads = leads_next read flow settings image L new (record { jobs = p.base.jobs; plan = p.plan }) lists e some round reaches.leads;
        calm = λ none. reaches.calm (λ f refused.
            later_refused (plan_in p) complete round.plan round.unrefused
            (λ g more later. none g (subst (λ (M : Listings). ChainRefuses rules image nothing_done M g) (sym longer) later)) L f refused lists);
      }

  pub kept_last :
      (L : Listings) (r : Result LivePlan Fault) (p : LivePlan) → IsComplete image → r ≡ Ok p → p.base.jobs.lists ≡ L → p.plan.known ≡ [] →
      HasKept read flow settings image L r → Reaches L → HasKeptLast read flow settings image (Ok p)
  kept_last L r p complete is lists none kept reaches =
      let round = round_in L r p is kept in
      record {
        agrees = agrees_in L r p is kept;
        chain = last_round read flow settings image L (record { jobs = p.base.jobs; plan = p.plan }) lists none round reaches.leads;
        unrefused = reaches.calm (λ f refused.
            later_refused (plan_in p) complete round.plan round.unrefused (λ g more later. more (sym round.known ∙ none)) L f refused lists);
      }

  pub last_not : (f : Fault) → (is_told f ≡ true → ChainRefuses rules image nothing_done [] f) → HasKeptLast read flow settings image (Err f)
  last_not f h = record { agrees = tt; chain = h; unrefused = tt }

  pub kept_refused :
      (L : Listings) (r : Result LivePlan Fault) (f : Fault) → r ≡ Err f → HasKept read flow settings image L r → Reaches L → HasKeptLast read flow settings image (Err f)
  kept_refused L r f is kept reaches =
      last_not f (round_refused read flow settings image L (Err f) f refl (subst (HasKept read flow settings image L) is kept).round reaches.leads)

-- ## A check of the commands

module _ (flow : Flow) (settings : Settings) (p : LivePlan) where
  abbrev IsBad : Fault → Type 0
  IsBad f = (f ≡ fault.OutOfMemory) ⊎ (command_fault flow settings.cores (zip p.base.jobs.jobs p.plan.states) ≡ Some f)

  pub checked_quiet : (r : Result LivePlan Fault) → IfErr r IsBad → device_failed r ≡ false
  checked_quiet (Ok q) bad = refl
  checked_quiet (Err f) bad = (check_quiet flow settings.cores (zip p.base.jobs.jobs p.plan.states) f bad).0

  pub checked_no_sink : (r : Result LivePlan Fault) → IfErr r IsBad → IfErr r (λ f. is_sink f ≡ false)
  checked_no_sink (Ok q) bad = tt
  checked_no_sink (Err f) bad = (check_quiet flow settings.cores (zip p.base.jobs.jobs p.plan.states) f bad).1

pub checked_fresh : (settings : Settings) (p : LivePlan) (r : Result LivePlan Fault) → IsFresh settings p → IfOk r (λ q. q ≡ p) → IfOk r (IsFresh settings)
checked_fresh settings p (Ok q) fresh same = subst (IsFresh settings) (sym same) fresh
checked_fresh settings p (Err f) fresh same = tt

pub checked_jobs : (jobs : Jobs) (p : LivePlan) (r : Result LivePlan Fault) → p.base.jobs ≡ jobs → IfOk r (λ q. q ≡ p) → IfOk r (λ q. q.base.jobs ≡ jobs)
checked_jobs jobs p (Ok q) is same = ap (λ (x : LivePlan). x.base.jobs) same ∙ is
checked_jobs jobs p (Err f) is same = tt

-- ## With the listings that were asked for

pub lists_of : (r : Result LivePlan Fault) (jobs : Jobs) (L : Listings) → jobs.lists ≡ L → IfOk r (λ p. p.base.jobs ≡ jobs) → IfOk r (λ p. p.base.jobs.lists ≡ L)
lists_of (Ok p) jobs L lists same = ap (λ (js : Jobs). js.lists) same ∙ lists
lists_of (Err f) jobs L lists same = tt

-- the refusal of a round is handed on
pub handed_on :
    (read : List ℕ → Option Record) (flow : Flow) (settings : Settings) (image : Image) (L : Listings) (r s : Result LivePlan Fault) (x : Fault) →
    r ≡ Err x → IsErrAnd s (λ y. y ≡ x) → HasKept read flow settings image L r → Reaches read flow settings image L → HasKeptLast read flow settings image s
handed_on read flow settings image L r s x is h kept reaches =
    subst (HasKeptLast read flow settings image) (sym (err_is s x h)) (kept_refused read flow settings image L r x is kept reaches)

-- want of memory for the listings is handed on
memory_is : {A : Type 0} (r : Result A Fault) (x : Fault) → r ≡ Err x → IfErr r (λ f. f ≡ fault.OutOfMemory) → x ≡ fault.OutOfMemory
memory_is r x is memory = subst (λ v. IfErr v (λ f. f ≡ fault.OutOfMemory)) is memory

pub memory_last :
    {A : Type 0} (read : List ℕ → Option Record) (flow : Flow) (settings : Settings) (image : Image) (r : Result A Fault) (s : Result LivePlan Fault) (x : Fault) →
    r ≡ Err x → IsErrAnd s (λ y. y ≡ x) → IfErr r (λ f. f ≡ fault.OutOfMemory) → HasKeptLast read flow settings image s
memory_last read flow settings image r s x is h memory =
    subst (HasKeptLast read flow settings image) (sym (err_is s x h))
    (last_not read flow settings image x (λ told. absurd (true≢false (sym told ∙ ap is_told (memory_is r x is memory)))))

pub memory_no_sink :
    {A : Type 0} (r : Result A Fault) (s : Result LivePlan Fault) (x : Fault) →
    r ≡ Err x → IsErrAnd s (λ y. y ≡ x) → IfErr r (λ f. f ≡ fault.OutOfMemory) → IfErr s (λ f. is_sink f ≡ false)
memory_no_sink r s x is h memory = subst (λ v. IfErr v (λ f. is_sink f ≡ false)) (sym (err_is s x h)) (ap is_sink (memory_is r x is memory))
