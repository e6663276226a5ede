-- The law over a whole chain of plans: what the last plan calls current is clean.
use Rattle.std.proofs.Common.{◌≡◌, ◌⊎◌, Bool, true, false, cond, List, [], ◌∷◌, ◌++◌, find, sym, ap, inl, inr, ◌∙◌, Some, option_map}
use Rattle.std.specs.Prelude.{bytes_eq}
use Rattle.smk_base.proofs.Places.{same_place}
use Rattle.smk_world.specs.World.{reading}
use Rattle.smk_world.specs.Trees.{Path, Act}
use Rattle.smk_flow.specs.declared.job.Job.{Job}
use Rattle.smk_store.specs.Trust.{Versions}
use Rattle.smk_chain.specs.Mean.{setting_of}
use Rattle.smk_flow.specs.Flows.{Flow}
use Rattle.smk_store.specs.Images.{Image, seen}
use Rattle.smk_chain.specs.declared.jobs.Known.{Known}
use Rattle.smk_chain.specs.Derive.{Listings, listing}
use Rattle.smk_pick.specs.declared.settings.Settings.{Settings}
use Rattle.smk_plan.specs.States.{Plan, Progress, IsPlan, LastPlan, Last, Then, AreListed, files_listed, gathers_from, is_open_now, is_restored, new_listings}
use Rattle.smk_laws_plan.specs.Current.{SoundPlan, IsRight, CurrentMeansClean, CurrentMeansCleanInWorlds}
use Rattle.smk_laws_history.proofs.CurrentComplete.{seen_is_complete}
use Rattle.smk_laws_history.proofs.CurrentEased.{none_restored, sound_none}
use Rattle.smk_laws_history.proofs.Valid.{records_valid}
use Rattle.smk_laws_plan.proofs.CurrentLists.{In, map_in, find_in}
use Rattle.smk_laws_plan.proofs.CurrentChosen.{mapped}
use Rattle.smk_laws_plan.proofs.CurrentFills.{bound_fills_from}
use Rattle.smk_pattern.proofs.Names.{numbered_all}
use Rattle.smk_laws_plan.proofs.CurrentMeaning.{contains_from, current_clean}
use Rattle.smk_laws_plan.proofs.CurrentProducts.{Rested}

find_either : {A : Type 0} (test : A → Bool) (xs ys : List A) (z : A) → find test (xs ++ ys) ≡ Some z → (find test xs ≡ Some z) ⊎ (find test ys ≡ Some z)
find_either test [] ys z h = inr h
find_either test (x ∷ xs) ys z h = go (test x) h (find_either test xs ys z)
  where
    go : (b : Bool) → cond b (Some x) (find test (xs ++ ys)) ≡ Some z → (find test (xs ++ ys) ≡ Some z → (find test xs ≡ Some z) ⊎ (find test ys ≡ Some z)) → (cond b (Some x) (find test xs) ≡ Some z) ⊎ (find test ys ≡ Some z)
    go true k ih = inl k
    go false k ih = ih k

pub listing_either : (L M : Listings) (f : Path) (files : List Path) → listing (L ++ M) f ≡ Some files → (listing L f ≡ Some files) ⊎ (listing M f ≡ Some files)
listing_either L M f files e =
    let r = mapped (λ (k : Known). k.files) (find (λ (k : Known). bytes_eq k.folder f) (L ++ M)) files e in
    go r.0 r.2 (find_either (λ (k : Known). bytes_eq k.folder f) L M r.0 r.1)
  where
    go : (k : Known) → k.files ≡ files → (find (λ (k : Known). bytes_eq k.folder f) L ≡ Some k) ⊎ (find (λ (k : Known). bytes_eq k.folder f) M ≡ Some k) → (listing L f ≡ Some files) ⊎ (listing M f ≡ Some files)
    go k s (inl a) = inl (ap (option_map (λ (k : Known). k.files)) a ∙ ap Some s)
    go k s (inr b) = inr (ap (option_map (λ (k : Known). k.files)) b ∙ ap Some s)

module _ (flow : Flow) (image : Image) (settings : Settings) (progress : Progress) where
  new_listed : (plan : Plan) → AreListed image (new_listings image settings progress plan)
  new_listed plan f files e =
      let r = mapped (λ (k : Known). k.files) (find (λ (k : Known). bytes_eq k.folder f) (new_listings image settings progress plan)) files e in
      let k = find_in (λ (k : Known). bytes_eq k.folder f) (new_listings image settings progress plan) r.0 r.1 in
      let d = map_in _ _ r.0 k.0 in
      sym r.2 ∙ ap (λ (k : Known). k.files) d.2 ∙ ap (files_listed image) (sym (ap (λ (k : Known). k.folder) d.2) ∙ same_place r.0.folder f k.1)

  pub last_is : (L : Listings) (last : Plan) → LastPlan flow image settings progress L last → IsPlan flow image settings progress last
  last_is L last (Last p is done) = is
  last_is L last (Then p q is more rest) = last_is (p.lists ++ new_listings image settings progress p) last rest

  -- a listing of the last plan is one with which the chain began, or that of the directory's record
  pub last_listed :
      (L : Listings) (last : Plan) → LastPlan flow image settings progress L last → (f : Path) (files : List Path) → listing last.lists f ≡ Some files →
      (listing L f ≡ Some files) ⊎ (files ≡ files_listed image f)
  last_listed L last (Last p is done) f files e = inl e
  last_listed L last (Then p q is more rest) f files e =
      go (last_listed (p.lists ++ new_listings image settings progress p) last rest f files e)
    where
      either : (listing p.lists f ≡ Some files) ⊎ (listing (new_listings image settings progress p) f ≡ Some files) → (listing p.lists f ≡ Some files) ⊎ (files ≡ files_listed image f)
      either (inl a) = inl a
      either (inr b) = inr (new_listed p f files b)

      go : (listing (p.lists ++ new_listings image settings progress p) f ≡ Some files) ⊎ (files ≡ files_listed image f) → (listing p.lists f ≡ Some files) ⊎ (files ≡ files_listed image f)
      go (inl a) = either (listing_either p.lists (new_listings image settings progress p) f files a)
      go (inr b) = inr b

-- what the law asks, of the last plan alone
pub rested :
    (flow : Flow) (act : Act) (has_fields : Job → Bool) (image : Image) (H : Versions) (settings : Settings) (progress : Progress)
    (L : Listings) (plan : Plan) → SoundPlan flow act has_fields image H settings progress L plan → Rested flow act has_fields image H settings progress plan
rested flow act has_fields image H settings progress L plan rest =
    record {
      sound = rest.sound;
      differ = rest.differ;
      planned = record {
        complete = rest.complete;
        valid = rest.valid;
        derived = last_is flow image settings progress L plan rest.last;
      };
      lists = λ j f files i shut g e. go j f files i shut g (last_listed flow image settings progress L plan rest.last f files e);
      fields = rest.fields;
    }
  where
    go :
        (j : Job) (f : Path) (files : List Path) → In j plan.jobs → is_open_now image settings progress plan j ≡ false → In f (gathers_from j) →
        (listing L f ≡ Some files) ⊎ (files ≡ files_listed image f) → IsRight (setting_of flow act has_fields image) image f files
    go j f files i shut g (inl e) = rest.listed j f files (contains_from plan.jobs j i) shut (contains_from (gathers_from j) f g) e
    go j f files i shut g (inr e) = inl e

pub current_means_clean : CurrentMeansClean
current_means_clean flow act has_fields image H settings progress L plan rest p inn current =
    current_clean flow act has_fields image H settings progress plan (bound_fills_from numbered_all)
    (rested flow act has_fields image H settings progress L plan rest) p inn current

pub current_means_clean_in_worlds : CurrentMeansCleanInWorlds
current_means_clean_in_worlds flow o has_fields w H settings progress L plan sound differ listed last rest fields p inn current =
    current_means_clean flow o.act has_fields (seen o.read w) H settings progress L plan (record {
      sound =
          sound_none (seen o.read w) (is_restored (seen o.read w) settings progress plan) (none_restored (seen o.read w) settings progress plan rest)
          o.act H sound.now;
      differ = differ;
      complete = seen_is_complete o.read w sound.formed;
      valid = records_valid o.read w.names (λ q. reading (w.nodes q));
      listed = listed;
      last = last;
      fields = fields;
    }) p inn current
