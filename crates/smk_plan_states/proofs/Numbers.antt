-- What is told of paths by their links is what is told by the paths.
use Rattle.std.proofs.Common.{◌≡◌, ◌∙◌, ◌<◌, ℕ, zero, suc, length, Bool, true, false, cond, ◌&&◌, List, [], ◌∷◌, map, filter, find, refl, sym, ap, subst, Option, Some, None, option_map, get_or, eqb-true}
use Rattle.std.specs.Prelude.{bytes_eq}
use Rattle.std.specs.Cmp.{both_ways}
use Rattle.std.specs.List.{slice_get}
use Rattle.std.specs.Option.{option_and_then}
use Rattle.std.proofs.lemmas.Bool.{eq-eqb}
use Rattle.std.proofs.lemmas.Option.{slice_get-map, slice_get_within, get_or_from_slice_get}
use Rattle.smk_base.specs.Path.{is_under}
use Rattle.smk_base.proofs.Places.{same_place, place_itself}
use Rattle.smk_world.specs.declared.recipe.Kind.{Kind}
use Rattle.smk_world.specs.declared.recipe.Kind.TheVariants.{Plain, Folder}
use Rattle.smk_world.specs.declared.recipe.Out.{Out}
use Rattle.smk_world.specs.Trees.{Path, outs_of, is_folder_kind, folder_over}
use Rattle.smk_flow.specs.declared.job.Job.{Job}
use Rattle.smk_store.specs.Images.{Image, is_whole}
use Rattle.smk_chain.specs.declared.jobs.Jobs.{Jobs}
use Rattle.smk_chain.specs.declared.jobs.Maker.{Maker}
use Rattle.smk_plan.specs.Sights.{job_at, whole_outputs, is_whole_made}
use Rattle.smk_plan_states.specs.declared.lines.Origin.{Origin}
use Rattle.smk_plan_states.specs.declared.spots.Spot.{Spot}
use Rattle.smk_plan_states.specs.Shapes.{Directory, Site}
use Rattle.smk_plan_states.specs.Parts.{directory_at}
use Rattle.smk_plan_states.specs.Sites.{over_of, site_of}
use Rattle.smk_plan_states.specs.Paths.{site_at}
use Rattle.smk_plan_states.specs.Lines.{first_place, tells_of, link_to, is_over, place_over, origin_of}
use Rattle.smk_plan_states.specs.Spots.{maker_at, over_flag, spot_of, spot_at}
use Rattle.smk_plan_states.specs.Ranking.{is_link}
use Rattle.smk_laws_plan.proofs.CurrentLists.{none_some, some_inj, clash_of}

-- ## Places

-- the first element that passes stands in the first place that does
pub found_at : {A : Type 0} (test : A → Bool) (xs : List A) → find test xs ≡ option_and_then (slice_get xs) (first_place test xs)
found_at test [] = refl
found_at test (x ∷ xs) = go (test x) (found_at test xs)
  where
    step : (o : Option ℕ) → option_and_then (slice_get xs) o ≡ option_and_then (slice_get (x ∷ xs)) (option_map suc o)
    step None = refl
    step (Some n) = refl

    go :
        (b : Bool) → find test xs ≡ option_and_then (slice_get xs) (first_place test xs) →
        cond b (Some x) (find test xs) ≡ option_and_then (slice_get (x ∷ xs)) (cond b (Some 0) (option_map suc (first_place test xs)))
    go true ih = refl
    go false ih = ih ∙ step (first_place test xs)

-- the maker of the link, by any function
pub at_link :
    {B : Type 0} (f : Maker → B) (makers : List Maker) (q : Path) →
    option_and_then (slice_get (map f makers)) (link_to makers q) ≡ option_map f (find (tells_of q) makers)
at_link {B} f makers q = go (link_to makers q) ∙ ap (option_map f) (sym (found_at (tells_of q) makers))
  where
    go : (o : Option ℕ) → option_and_then (slice_get (map f makers)) o ≡ option_map f (option_and_then (slice_get makers) o)
    go None = refl
    go (Some n) = slice_get-map f makers n

pub maker_is : (jobs : List Job) (makers : List Maker) (q : Path) → maker_at (map (origin_of jobs) makers) (link_to makers q) ≡ option_and_then (λ (m : Maker). m.job) (find (tells_of q) makers)
maker_is jobs makers q = ap (option_and_then (λ (o : Origin). o.job)) (at_link (origin_of jobs) makers q) ∙ go (find (tells_of q) makers)
  where
    go : (o : Option Maker) → option_and_then (λ (o : Origin). o.job) (option_map (origin_of jobs) o) ≡ option_and_then (λ (m : Maker). m.job) o
    go None = refl
    go (Some m) = refl

-- ## Links

-- the maker of the link tells of the path
pub linked : (makers : List Maker) (q : Path) (n : ℕ) → link_to makers q ≡ Some n → (m : Maker) × (slice_get makers n ≡ Some m) × (m.path ≡ q)
linked [] q n e = absurd (none_some None n refl e)
linked (m ∷ makers) q n e = go (bytes_eq m.path q) refl e (linked makers q)
  where
    later :
        (o : Option ℕ) → link_to makers q ≡ o → option_map suc o ≡ Some n →
        ((k : ℕ) → link_to makers q ≡ Some k → (x : Maker) × (slice_get makers k ≡ Some x) × (x.path ≡ q)) → (x : Maker) × (slice_get (m ∷ makers) n ≡ Some x) × (x.path ≡ q)
    later None f e again = absurd (none_some None n refl e)
    later (Some k) f e again = let r = again k f in (r.0, ap (slice_get (m ∷ makers)) (sym (some_inj (suc k) n e)) ∙ r.1, r.2)

    go :
        (b : Bool) → bytes_eq m.path q ≡ b → cond b (Some 0) (option_map suc (link_to makers q)) ≡ Some n →
        ((k : ℕ) → link_to makers q ≡ Some k → (x : Maker) × (slice_get makers k ≡ Some x) × (x.path ≡ q)) → (x : Maker) × (slice_get (m ∷ makers) n ≡ Some x) × (x.path ≡ q)
    go true t e again = (m, ap (slice_get (m ∷ makers)) (sym (some_inj 0 n e)), same_place m.path q t)
    go false t e again = later (link_to makers q) refl e again

pub link_below : (makers : List Maker) (q : Path) (n : ℕ) → link_to makers q ≡ Some n → n < length makers
link_below makers q n e = let r = linked makers q n e in slice_get_within makers n r.0 r.1

-- a path that is told of has a link
pub has_a_link : (makers : List Maker) (q : Path) (m : Maker) → find (tells_of q) makers ≡ Some m → link_to makers q ≡ None → ⊥
has_a_link makers q m f e = none_some (find (tells_of q) makers) m (found_at (tells_of q) makers ∙ ap (option_and_then (slice_get makers)) e) f

-- paths with one link are equal
pub link_same : (makers : List Maker) (p q : Path) (n : ℕ) → link_to makers p ≡ Some n → is_link n (link_to makers q) ≡ bytes_eq p q
link_same makers p q n e = both_ways (is_link n (link_to makers q)) (bytes_eq p q) (forth (link_to makers q) refl) back
  where
    forth : (o : Option ℕ) → link_to makers q ≡ o → is_link n o ≡ true → bytes_eq p q ≡ true
    forth None f t = absurd (clash_of false t refl)
    forth (Some k) f t =
        let a = linked makers p n e in
        let b = linked makers q k f in
        let number : k ≡ n = eqb-true k n t in
        let same : a.0 ≡ b.0 = some_inj a.0 b.0 (sym a.1 ∙ ap (slice_get makers) (sym number) ∙ b.1) in
        let path : p ≡ q = sym a.2 ∙ ap (λ (m : Maker). m.path) same ∙ b.2 in
        subst (λ x. bytes_eq p x ≡ true) path (place_itself p)

    back : bytes_eq p q ≡ true → is_link n (link_to makers q) ≡ true
    back t = ap (is_link n) (ap (link_to makers) (sym (same_place p q t)) ∙ e) ∙ eq-eqb n n refl

-- ## Directories over paths

module _ (image : Image) where
  abbrev whole_of : Out → Bool
  whole_of o = is_whole image o.path o.kind

  over_place :
      (q : Path) (os : List Out) →
      option_and_then (slice_get (map whole_of os)) (first_place (is_over q) os)
      ≡ option_map (λ d. is_whole image d Folder) (find (is_under q) (map (λ (o : Out). o.path) (filter (λ (o : Out). is_folder_kind o.kind) os)))
  over_place q [] = refl
  over_place q (o ∷ os) = go o.path o.kind (over_place q os)
    where
      step : (x : Bool) (o : Option ℕ) → option_and_then (slice_get (x ∷ map whole_of os)) (option_map suc o) ≡ option_and_then (slice_get (map whole_of os)) o
      step x None = refl
      step x (Some n) = refl

      under :
          (p : Path) (b : Bool) →
          option_and_then (slice_get (map whole_of os)) (first_place (is_over q) os) ≡ option_map (λ d. is_whole image d Folder) (find (is_under q) (map (λ (o : Out). o.path) (filter (λ (o : Out). is_folder_kind o.kind) os))) →
          option_and_then (slice_get (is_whole image p Folder ∷ map whole_of os)) (cond b (Some 0) (option_map suc (first_place (is_over q) os)))
          ≡ option_map (λ d. is_whole image d Folder) (cond b (Some p) (find (is_under q) (map (λ (o : Out). o.path) (filter (λ (o : Out). is_folder_kind o.kind) os))))
      under p true ih = refl
      under p false ih = step (is_whole image p Folder) (first_place (is_over q) os) ∙ ih

      go :
          (p : Path) (k : Kind) →
          option_and_then (slice_get (map whole_of os)) (first_place (is_over q) os) ≡ option_map (λ d. is_whole image d Folder) (find (is_under q) (map (λ (o : Out). o.path) (filter (λ (o : Out). is_folder_kind o.kind) os))) →
          option_and_then (slice_get (is_whole image p k ∷ map whole_of os)) (cond (is_folder_kind k && is_under q p) (Some 0) (option_map suc (first_place (is_over q) os)))
          ≡ option_map (λ d. is_whole image d Folder) (find (is_under q) (map (λ (o : Out). o.path) (cond (is_folder_kind k) (record { path = p; kind = k } ∷ filter (λ (o : Out). is_folder_kind o.kind) os) (filter (λ (o : Out). is_folder_kind o.kind) os))))
      go p Plain ih = step (is_whole image p Plain) (first_place (is_over q) os) ∙ ih
      go p Folder ih = under p (is_under q p) ih

  pub outputs_at : (js : List Job) (n : ℕ) → slice_get (map (whole_outputs image) js) n ≡ option_map (whole_outputs image) (job_at js n)
  outputs_at [] n = refl
  outputs_at (j ∷ js) zero = refl
  outputs_at (j ∷ js) (suc n) = outputs_at js n

  -- the flag in the place of the directory over the path is whether that is whole
  pub over_flag_is : (jobs : List Job) (m : Maker) → over_flag (map (whole_outputs image) jobs) (origin_of jobs m) ≡ option_map (λ (d : Directory). d.whole) (over_of image m.path (option_and_then (job_at jobs) m.job))
  over_flag_is jobs m = go m.job
    where
      last : (o : Option Path) → option_map (λ d. is_whole image d Folder) o ≡ option_map (λ (d : Directory). d.whole) (option_map (directory_at image) o)
      last None = refl
      last (Some d) = refl

      job :
          (o : Option Job) →
          option_and_then (λ place. option_and_then (λ (flags : List Bool). slice_get flags place) (option_map (whole_outputs image) o)) (option_and_then (place_over m.path) o)
          ≡ option_map (λ (d : Directory). d.whole) (over_of image m.path o)
      job None = refl
      job (Some j) = over_place m.path (outs_of j.recipe) ∙ last (folder_over j.recipe m.path)

      go :
          (number : Option ℕ) →
          option_and_then (λ place. option_and_then (λ (flags : List Bool). slice_get flags place) (option_and_then (slice_get (map (whole_outputs image) jobs)) number)) (option_and_then (place_over m.path) (option_and_then (job_at jobs) number))
          ≡ option_map (λ (d : Directory). d.whole) (over_of image m.path (option_and_then (job_at jobs) number))
      go None = refl
      go (Some n) =
          ap (λ o. option_and_then (λ place. option_and_then (λ (flags : List Bool). slice_get flags place) o) (option_and_then (place_over m.path) (job_at jobs n))) (outputs_at jobs n)
          ∙ job (job_at jobs n)

-- ## Spots

-- what is known of a path but for its directory
abbrev pub plain : Site → Spot
plain s = record { job = s.job; whole = s.whole; over = option_map (λ (d : Directory). d.whole) s.over }

-- what is known of the path, as it is told of links
abbrev pub AreSpots : Image → Jobs → (Option ℕ → Option Spot) → Type 0
AreSpots image J spots = (q : Path) → spots (link_to J.makers q) ≡ option_map plain (site_at image J q)

pub spots_are : (image : Image) (J : Jobs) → AreSpots image J (spot_at (map (origin_of J.jobs) J.makers) (map (whole_outputs image) J.jobs) (map (is_whole_made image J.jobs) J.makers))
spots_are image J q = go (link_to J.makers q) ∙ ap (λ o. option_map plain (option_map (site_of image J.jobs) o)) (sym (found_at (tells_of q) J.makers))
  where
    one :
        (n : ℕ) (o : Option Maker) → slice_get J.makers n ≡ o →
        option_map (spot_of (map (whole_outputs image) J.jobs) (get_or (map (is_whole_made image J.jobs) J.makers) n false)) (option_map (origin_of J.jobs) o)
        ≡ option_map plain (option_map (site_of image J.jobs) o)
    one n None e = refl
    one n (Some m) e =
        let flag : get_or (map (is_whole_made image J.jobs) J.makers) n false ≡ is_whole_made image J.jobs m =
        get_or_from_slice_get (map (is_whole_made image J.jobs) J.makers) n (is_whole_made image J.jobs m) false
        (slice_get-map (is_whole_made image J.jobs) J.makers n ∙ ap (option_map (is_whole_made image J.jobs)) e) in
        let over = over_flag_is image J.jobs m in
        λ i. Some (record { job = m.job; whole = flag i; over = over i })

    go :
        (o : Option ℕ) →
        option_and_then
        (λ n. option_map (spot_of (map (whole_outputs image) J.jobs) (get_or (map (is_whole_made image J.jobs) J.makers) n false)) (slice_get (map (origin_of J.jobs) J.makers) n))
        o
        ≡ option_map plain (option_map (site_of image J.jobs) (option_and_then (slice_get J.makers) o))
    go None = refl
    go (Some n) =
        ap (option_map (spot_of (map (whole_outputs image) J.jobs) (get_or (map (is_whole_made image J.jobs) J.makers) n false))) (slice_get-map (origin_of J.jobs) J.makers n)
        ∙ one n (slice_get J.makers n) refl
