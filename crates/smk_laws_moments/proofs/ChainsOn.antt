-- A chain of plans goes on from the listings of its last plan; looks leave a stand clear; and the job that is to begin isn't refused.
use Rattle.std.proofs.Common.{◌≡◌, ◌≢◌, ◌⊎◌, ◌<◌, ◌^◌, ℕ, arith, Bool, true, false, List, [], ◌∷◌, ◌++◌, map, flat_map, find, length, refl, sym, ap, subst, ◌∙◌, inl, inr, nat_lt, Option, Some, None}
use Rattle.std.specs.Prelude.{if◌then◌else◌}
use Rattle.smk_world.specs.declared.event.Event.{Event}
use Rattle.smk_world.specs.declared.recipe.Out.{Out}
use Rattle.smk_world.specs.declared.recipe.OutItem.{OutItem}
use Rattle.smk_world.specs.World.{World, out_paths, run}
use Rattle.smk_world.specs.Trees.{IsIn, outs_of}
use Rattle.smk_flow.specs.declared.job.Job.{Job}
use Rattle.smk_record.specs.declared.record.Stamp.{Stamp}
use Rattle.smk_record.specs.Records.{record_of}
use Rattle.smk_record.specs.Spelling.{spelling}
use Rattle.smk_store.specs.Images.{Image}
use Rattle.smk_chain.specs.Derive.{Listings}
use Rattle.smk_trigger.specs.declared.reason.State.{State}
use Rattle.smk_plan.specs.States.{IsPlan, Last, LastPlan, Plan, Progress, Then, new_listings, none_or_one}
use Rattle.smk_report.specs.declared.fault.Fault.{Fault}
use Rattle.smk_job.specs.Jobs.{bare_bytes, is_long}
use Rattle.smk_drive.specs.Moments.{Begun, IsInForce, Rules, begun_of, lists_of, progress_of, seen, serial_of}
use Rattle.smk_drive.specs.Refusals.{ChainRefuses, NextRefuses, PlanRefuses, record_length, refused_of}
use Rattle.smk_drive_course.specs.Refusals.{LongRecord, MomentRefuses, NoSerial, PlansAreRefused}
use Rattle.smk_drive_course.specs.Stands.{IsClear, Stand, moment_of}
use Rattle.smk_drive_course.specs.Steps.{IsToBegin}
use Rattle.smk_laws_moments.specs.Chains.{ChainGoesOn, ClearGoesOn, ClearStays, NextIsUnrefused}
use Rattle.smk_laws_moments.proofs.LooksLike.{IsLike, like_looks}

-- ## Chains

module _ (rules : Rules) (image : Image) (progress : Progress) where
  -- the chain from these listings refuses something
  abbrev RefusesOne : Listings → Type 0
  RefusesOne L = (g : Fault) × ChainRefuses rules image progress L g

  -- where something is refused later on, the plan is refused or that is
  earlier_or_later :
      (p : Plan) → IsPlan rules.flow image rules.settings progress p → new_listings image rules.settings progress p ≢ [] →
      RefusesOne (p.lists ++ new_listings image rules.settings progress p) → RefusesOne p.lists
  earlier_or_later p is more (g, later) = go (refused_of rules image progress p) refl
    where
      go : (fs : List Fault) → refused_of rules image progress p ≡ fs → RefusesOne p.lists
      go [] none = (g, NextRefuses p g is none more later)
      go (f ∷ rest) some = (f, PlanRefuses p f rest is some)

  goes_on : (from : Listings) (plan : Plan) (f : Fault) → LastPlan rules.flow image rules.settings progress from plan → ChainRefuses rules image progress plan.lists f → RefusesOne from
  goes_on from plan f (Last p is done) refused = (f, refused)
  goes_on from plan f (Then p last is more rest) refused = earlier_or_later p is more (goes_on (p.lists ++ new_listings image rules.settings progress p) plan f rest refused)

  -- a last plan is one from its own listings
  last_again : (from : Listings) (plan : Plan) → LastPlan rules.flow image rules.settings progress from plan → LastPlan rules.flow image rules.settings progress plan.lists plan
  last_again from plan (Last p is done) = Last p is done
  last_again from plan (Then p last is more rest) = last_again (p.lists ++ new_listings image rules.settings progress p) plan rest

pub chain_goes_on : ChainGoesOn
chain_goes_on rules image progress from plan f last refused = goes_on rules image progress from plan f last refused

-- ## Clear stands

module _ (rules : Rules) (w : World) (begun : List Begun) (from : Listings) where
  abbrev Unrefused : Listings → Type 0
  Unrefused L = (f : Fault) → ¬ ChainRefuses rules (seen rules w) (progress_of w begun) L f

  pub planned_again : (plan : Option Plan) → IsInForce rules w begun from plan → IsInForce rules w begun (lists_of plan from) plan
  planned_again None force = force
  planned_again (Some plan) force = last_again rules (seen rules w) (progress_of w begun) from plan force

  unrefused_again : (plan : Option Plan) → IsInForce rules w begun from plan → Unrefused from → Unrefused (lists_of plan from)
  unrefused_again None force none = none
  unrefused_again (Some plan) force none = λ f refused. let x = goes_on rules (seen rules w) (progress_of w begun) from plan f force refused in none x.0 x.1

pub clear_goes_on : ClearGoesOn
clear_goes_on rules s w events c =
    record {
      unhalted = c.unhalted;
      at_rest = c.at_rest;
      planned = planned_again rules w s.begun s.from s.plan c.planned;
      unrefused = unrefused_again rules w s.begun s.from s.plan c.planned c.unrefused;
    }

-- it goes by what stands where, and by which children run
like_clear : (rules : Rules) (s : Stand) (w v : World) (before after : List Event) → IsLike w v → IsClear rules s w before → IsClear rules s v after
like_clear rules s w v before after (names, nodes, children) c =
    let first : IsClear rules s (record v { names = w.names; nodes = w.nodes; children = w.children }) after =
    record { unhalted = c.unhalted; at_rest = c.at_rest; planned = c.planned; unrefused = c.unrefused } in
    let second = subst (λ ns. IsClear rules s (record v { names = ns; nodes = w.nodes; children = w.children }) after) names first in
    let third = subst (λ ns. IsClear rules s (record v { nodes = ns; children = w.children }) after) nodes second in
    subst (λ cs. IsClear rules s (record v { children = cs }) after) children third

pub clear_stays : ClearStays
clear_stays act rules s w events looks failure are follows c = like_clear rules s w (run w looks) events (events ++ looks) (like_looks act failure w looks are follows) c

-- ## The job that is next

not_full : (n top : ℕ) → n ≡ top → n < top → ⊥
not_full n top e low = omega arith

not_long : (n top : ℕ) → nat_lt top n ≡ false → top < n → ⊥
not_long n top h low = grind arith

some_same : {A : Type 0} (x y : A) → Some x ≡ Some y → x ≡ y
some_same x y h = cc

in_first : {A : Type 0} (x : A) (xs ys : List A) → IsIn xs x → IsIn (xs ++ ys) x
in_first x [] ys h = absurd h
in_first x (z ∷ xs) ys (inl e) = inl e
in_first x (z ∷ xs) ys (inr h) = inr (in_first x xs ys h)

in_second : {A : Type 0} (x : A) (xs ys : List A) → IsIn ys x → IsIn (xs ++ ys) x
in_second x [] ys h = h
in_second x (z ∷ xs) ys h = inr (in_second x xs ys h)

in_either : {A : Type 0} (x : A) (xs ys : List A) → IsIn (xs ++ ys) x → IsIn xs x ⊎ IsIn ys x
in_either x [] ys h = inr h
in_either x (z ∷ xs) ys (inl e) = inl (inl e)
in_either x (z ∷ xs) ys (inr h) = elim (in_either x xs ys h) [ inl a ↦ inl (inr a) | inr b ↦ inr b ]

in_midst : {A : Type 0} (x : A) (before after : List A) → IsIn (before ++ x ∷ after) x
in_midst x before after = in_second x before (x ∷ after) (inl refl)

path_in : (o : Out) (outs : List Out) → IsIn outs o → IsIn (map (λ (out : Out). out.path) outs) o.path
path_in o [] h = absurd h
path_in o (x ∷ outs) (inl e) = inl (ap (λ (out : Out). out.path) e)
path_in o (x ∷ outs) (inr h) = inr (path_in o outs h)

-- the path of an output is one of the paths
out_in : (o : Out) (items : List OutItem) → IsIn (flat_map (λ (item : OutItem). item.outs) items) o → IsIn (flat_map (λ (item : OutItem). map (λ (out : Out). out.path) item.outs) items) o.path
out_in o [] h = absurd h
out_in o (item ∷ items) h = go (out_in o items) (in_either o item.outs (flat_map (λ (x : OutItem). x.outs) items) h)
  where
    go :
        (IsIn (flat_map (λ (x : OutItem). x.outs) items) o → IsIn (flat_map (λ (x : OutItem). map (λ (out : Out). out.path) x.outs) items) o.path) →
        IsIn item.outs o ⊎ IsIn (flat_map (λ (x : OutItem). x.outs) items) o →
        IsIn (map (λ (out : Out). out.path) item.outs ++ flat_map (λ (x : OutItem). map (λ (out : Out). out.path) x.outs) items) o.path
    go again (inl here) = in_first o.path (map (λ (out : Out). out.path) item.outs) (flat_map (λ (x : OutItem). map (λ (out : Out). out.path) x.outs) items) (path_in o item.outs here)
    go again (inr later) = in_second o.path (map (λ (out : Out). out.path) item.outs) (flat_map (λ (x : OutItem). map (λ (out : Out). out.path) x.outs) items) (again later)

-- none is found: no element passes
none_passes : {A : Type 0} (f : A → ℕ) (p : ℕ → Bool) (xs : List A) (x : A) → find p (map f xs) ≡ None → IsIn xs x → p (f x) ≡ false
none_passes f p [] x none is = absurd is
none_passes f p (y ∷ ys) x none is = go (p (f y)) refl none is (none_passes f p ys x)
  where
    some_none : (n : ℕ) → Some n ≡ None → ⊥
    some_none n h = cc

    go :
        (b : Bool) → p (f y) ≡ b → (if b then Some (f y) else find p (map f ys)) ≡ None → (x ≡ y) ⊎ IsIn ys x → (find p (map f ys) ≡ None → IsIn ys x → p (f x) ≡ false) →
        p (f x) ≡ false
    go true e found here again = absurd (some_none (f y) found)
    go false e later (inl same) again = ap (λ z. p (f z)) same ∙ e
    go false e later (inr there) again = again later there

kept : (stamps : List Stamp) → flat_map none_or_one (map Some stamps) ≡ stamps
kept [] = refl
kept (s ∷ stamps) = ap (λ xs. s ∷ xs) (kept stamps)

module _ (rules : Rules) (entry : World) (s : Stand) (w : World) (events : List Event) (e : Job × State) (made : ℕ) (stamps : List Stamp) (x : IsToBegin rules entry s w events e made stamps) where
  abbrev b : Begun
  b = begun_of rules entry (moment_of s w events) e

  -- its record without members is as long
  same_length : (o : Out) → record_length rules (moment_of s w events) b o ≡ length (bare_bytes made e.0.recipe stamps o.path)
  same_length o =
      let serials = sym x.serial in
      let stamped : flat_map none_or_one b.stamps ≡ stamps = ap (λ ss. flat_map none_or_one ss) (sym x.stamped) ∙ kept stamps in
      λ i. length (spelling (record_of o.path (serials i) e.0.recipe (stamped i) []))

  too_long_none : (o : Out) → IsIn (outs_of e.0.recipe) o → 1048576 < record_length rules (moment_of s w events) b o → ⊥
  too_long_none o is long =
      not_long (length (bare_bytes made e.0.recipe stamps o.path)) 1048576
      (none_passes (λ p. length (bare_bytes made e.0.recipe stamps p)) is_long (out_paths e.0.recipe) o.path x.short (out_in o e.0.recipe.outputs is))
      (subst (λ n. 1048576 < n) (same_length o) long)

  unrefused : (f : Fault) → MomentRefuses rules entry (moment_of s w events) f → ⊥
  unrefused f (PlansAreRefused g rest refused) = x.next.clear.unrefused g refused
  unrefused f (NoSerial k rest next full) =
      let same = some_same k e (sym next.first ∙ x.next.first) in
      not_full made (2 ^ 64) (x.serial ∙ subst (λ (z : Job × State). serial_of rules entry (moment_of s w events) z.0 z.1 ≡ 2 ^ 64) same full) x.fits
  unrefused f (LongRecord k o before after rest next low split none long) =
      let same = some_same k e (sym next.first ∙ x.next.first) in
      too_long_none o (subst (λ os. IsIn os o) (sym (subst (λ (z : Job × State). outs_of z.0.recipe ≡ before ++ o ∷ after) same split)) (in_midst o before after))
      (subst (λ (z : Job × State). 1048576 < record_length rules (moment_of s w events) (begun_of rules entry (moment_of s w events) z) o) same long)

pub next_is_unrefused : NextIsUnrefused
next_is_unrefused rules entry s w events e made stamps f x refused = unrefused rules entry s w events e made stamps x f refused
