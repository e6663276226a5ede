-- With the calls of one job no other job of its plan begins.
use Rattle.std.proofs.Common.{◌≡◌, ◌⊎◌, Bool, true, false, ◌&&◌, ◌||◌, not, List, [], ◌∷◌, ◌++◌, map, filter, refl, sym, ap, ◌∙◌, inl, inr, Option, Ok, Err, append-nil, true≢false}
use Rattle.std.proofs.lemmas.Slice.Eq.{bytes_eq-Decides}
use Rattle.std.specs.Prelude.{bytes_eq}
use Rattle.std.specs.List.{list_any}
use Rattle.smk_base.specs.Path.{is_at_or_under}
use Rattle.smk_base.proofs.Apart.{IsApart}
use Rattle.smk_world.specs.declared.event.Call.{Call}
use Rattle.smk_world.specs.declared.event.Call.TheVariants.{Looked, ReadFile, ReadFolder, Written, Created, Removed, MadeParents, Settled, Protected, Started, Waited}
use Rattle.smk_world.specs.declared.event.Change.{Change}
use Rattle.smk_world.specs.World.{World, after, is_within, out_paths, owned_paths}
use Rattle.smk_world.specs.Trees.{IsIn, Path}
use Rattle.smk_flow.specs.declared.job.Job.{Job}
use Rattle.smk_trigger.specs.declared.reason.State.{State}
use Rattle.smk_plan.specs.States.{Plan, job_path, staged}
use Rattle.smk_drive.specs.Moments.{Begun, begins, begun_of, changes_at, has_begun, is_spent_removal, places, staged_now, with_end}
use Rattle.smk_laws_plan.proofs.CurrentLists.{in_either, in_left, in_right, zip_first}
use Rattle.smk_laws_moments.specs.Owning.{IsOwnCall, OwnCallsBeginNone, OwnCallsKeepBegun, sites}
use Rattle.smk_laws_moments.proofs.OwnSites.{site_of, sites_are_apart}

-- ## Truth and lists

second_false : (a b : Bool) → b ≡ false → (a && b) ≡ false
second_false true b h = h
second_false false b h = refl

first_false : (a b : Bool) → a ≡ false → (a && b) ≡ false
first_false a b h = ap (λ x. x && b) h

any_none : {A : Type 0} (f : A → Bool) (xs : List A) → ((x : A) → IsIn xs x → f x ≡ false) → list_any f xs ≡ false
any_none f [] h = refl
any_none f (x ∷ xs) h = ap (λ b. b || list_any f xs) (h x (inl refl)) ∙ any_none f xs (λ y i. h y (inr i))

filter_none : {A : Type 0} (f : A → Bool) (xs : List A) → ((x : A) → IsIn xs x → f x ≡ false) → filter f xs ≡ []
filter_none f [] h = refl
filter_none f (x ∷ xs) h = rw (h x (inl refl)) (filter_none f xs (λ y i. h y (inr i)))

-- ## Changes

module _ (j : Job) (q : Path) (apart : (p : Path) → IsIn (sites j) p → IsApart q p) where
  none_within : (ps : List Path) → ((p : Path) → IsIn ps p → IsIn (sites j) p) → is_within q ps ≡ false
  none_within [] own = refl
  none_within (p ∷ ps) own = ap (λ b. b || is_within q ps) (apart p (own p (inl refl))).at_or_under ∙ none_within ps (λ r i. own r (inr i))

  owned_sites : (p : Path) → IsIn (owned_paths j.recipe j.logs) p → IsIn (sites j) p
  owned_sites p i = go (in_either p (out_paths j.recipe) j.logs i)
    where
      go : IsIn (out_paths j.recipe) p ⊎ IsIn j.logs p → IsIn (sites j) p
      go (inl o) = in_left p (places j) j.logs (in_left p (out_paths j.recipe) _ o)
      go (inr l) = in_right p (places j) j.logs l

  owned_none : is_within q (owned_paths j.recipe j.logs) ≡ false
  owned_none = none_within (owned_paths j.recipe j.logs) owned_sites

  -- a call of the job changes nothing there
  unchanged : (call : Call) (w : World) (left : List Change) → IsOwnCall j w call → changes_at call w left q ≡ false
  unchanged (Looked p r) w left own = refl
  unchanged (ReadFile p limit r) w left own = refl
  unchanged (ReadFolder p r) w left own = refl
  unchanged (Written p bytes r) w left own = (apart p own).differs
  unchanged (Created p (Ok made)) w left own = second_false made (bytes_eq q p) (apart p own).differs
  unchanged (Created p (Err e)) w left own = second_false _ _ (first_false (bytes_eq q p) _ (apart p own).differs)
  unchanged (Removed p r) w left own = first_false (is_at_or_under q p) _ (apart p own).at_or_under
  unchanged (MadeParents p (Ok u)) w left own = first_false _ _ (apart p own).over
  unchanged (MadeParents p (Err e)) w left own = first_false _ _ (apart p own).over
  unchanged (Settled ps r) w left own = refl
  unchanged (Protected p r) w left own = (apart p own).differs
  unchanged (Started recipe logs command (Ok number)) w left own = (λ i. is_within q (owned_paths (own.0 i) (own.1 i))) ∙ owned_none
  unchanged (Started recipe logs command (Err e)) w left own = refl
  unchanged (Waited (Ok ended)) w left own = ap (is_within q) own ∙ owned_none
  unchanged (Waited (Err e)) w left own = refl

-- ## Beginnings

-- a job begins only where one of its places changes
no_change : (begun spent : Bool) (changed : Bool) → changed ≡ false → (not begun && (not spent && changed)) ≡ false
no_change begun spent changed h = second_false (not begun) (not spent && changed) (second_false (not spent) changed h)

pub own_calls_begin_none : OwnCallsBeginNone
own_calls_begin_none rules image progress plan m e j k complete is ij own staged_k other =
    no_change (has_begun rules m k.0) (is_spent_removal rules m e.call) _
    (any_none (λ q. changes_at e.call m.world e.left q) (places k.0)
    (λ q iq. unchanged j q
    (λ p ip. sites_are_apart rules.flow image plan.lists rules.settings.targets plan.jobs complete is.derived k.0 j (zip_first plan.jobs plan.states k.0 k.1 staged_k) ij (λ same. other (sym same)) q p
    (site_of k.0 q (in_left q (places k.0) k.0.logs iq)) (site_of j p ip)) e.call m.world e.left own))

begun_no_more : (begun rest : Bool) → begun ≡ true → (not begun && rest) ≡ false
begun_no_more begun rest h = ap (λ b. not b && rest) h

pub own_calls_keep_begun : OwnCallsKeepBegun
own_calls_keep_begun rules image progress plan entry m e j complete is in_force ij begun own =
    ap (λ ks. map ended m.begun ++ map (begun_of rules entry m) ks)
    (ap (λ (p : Option Plan). filter (λ (k : Job × State). begins rules m e k.0) (staged_now p)) in_force
    ∙ filter_none (λ (k : Job × State). begins rules m e k.0) (staged plan) (λ k ik. one k ik (bytes_eq (job_path j) (job_path k.0)) refl))
    ∙ append-nil (map ended m.begun)
  where
    ended : Begun → Begun
    ended b = with_end rules m.world (after m.world e) e.call b

    one : (k : Job × State) → IsIn (staged plan) k → (b : Bool) → bytes_eq (job_path j) (job_path k.0) ≡ b → begins rules m e k.0 ≡ false
    one k ik true same =
        begun_no_more (has_begun rules m k.0) _ (ap (λ (p : Path). list_any (λ (b : Begun). bytes_eq (job_path b.job) p) m.begun) (sym ((bytes_eq-Decides (job_path j) (job_path k.0)).0 same)) ∙ begun)
    one k ik false differs =
        own_calls_begin_none rules image progress plan m e j k complete is ij own ik
        (λ same. true≢false (sym ((bytes_eq-Decides (job_path j) (job_path k.0)).1 same) ∙ differs))
