-- What means something: a source, or what the chosen job makes of inputs that mean something one job less deep.
use Rattle.std.proofs.Common.{◌≡◌, ◌⊎◌, ℕ, zero, suc, Bool, true, false, cond, List, [], ◌∷◌, map, find, refl, sym, ap, subst, inl, inr, ◌∙◌, Option, Some, None, option_map}
use Rattle.std.specs.Prelude.{bytes_eq}
use Rattle.smk_base.proofs.Places.{same_place, place_itself}
use Rattle.smk_base.specs.declared.tree.Tree.{Tree}
use Rattle.smk_base.specs.declared.tree.Tree.TheVariants.{File}
use Rattle.smk_world.specs.World.{in_paths}
use Rattle.smk_world.specs.Trees.{Path, all_of, files_of, value_at}
use Rattle.smk_flow.specs.Flows.{Flow, Candidate, gathered_folders}
use Rattle.smk_choose.specs.Choose.{Sources, Choice, Source, Make, Nothing, Ambiguous, choose}
use Rattle.smk_chain.specs.declared.jobs.Known.{Known}
use Rattle.smk_chain.specs.Derive.{listing, recipe}
use Rattle.smk_chain.specs.Mean.{Setting, is_runnable, listings_of, mean, source_tree}
use Rattle.smk_laws_plan.proofs.CurrentLists.{In, none_some, clash_of}
use Rattle.smk_laws_plan.proofs.CurrentValues.{all_parts, all_make, value_given, gathers_by, mean_by, runs}

-- ## Lists of values

pub all_each : (F : Path → Option Tree) (ps : List Path) (ts : List Tree) (p : Path) → all_of (map F ps) ≡ Some ts → In p ps → (t : Tree) × (F p ≡ Some t)
all_each F [] ts p h i = absurd i
all_each F (q ∷ ps) ts p h (inl e) = let r = all_parts (F q) (map F ps) ts h in (r.0, ap F e ∙ r.2)
all_each F (q ∷ ps) ts p h (inr i) = let r = all_parts (F q) (map F ps) ts h in all_each F ps r.1 p r.3 i

-- what F gives for all of them, G gives, if it gives what F does
pub all_more :
    (F G : Path → Option Tree) (ps : List Path) (ts : List Tree) → ((p : Path) (t : Tree) → F p ≡ Some t → G p ≡ Some t) →
    all_of (map F ps) ≡ Some ts → all_of (map G ps) ≡ Some ts
all_more F G [] ts up h = h
all_more F G (p ∷ ps) ts up h =
    let r = all_parts (F p) (map F ps) ts h in all_make (G p) (map G ps) r.0 r.1 (up p r.0 r.2) (all_more F G ps r.1 up r.3) ∙ ap Some (sym r.4)

-- the listing that the folder's tree gives
pub listed_each :
    (F : Path → Option Tree) (fs : List Path) (ts : List Tree) (f : Path) → all_of (map F fs) ≡ Some ts → In f fs →
    (t : Tree) × (F f ≡ Some t) × (listing (listings_of fs ts) f ≡ Some (files_of t))
listed_each F [] ts f h i = absurd i
listed_each F (g ∷ fs) ts f h i =
    let r = all_parts (F g) (map F fs) ts h in
    subst (λ us. (t : Tree) × (F f ≡ Some t) × (listing (listings_of (g ∷ fs) us) f ≡ Some (files_of t))) (sym r.4)
    (go r.0 r.1 r.2 (bytes_eq g f) refl i (λ k. listed_each F fs r.1 f r.3 k))
  where
    front : Tree → List Tree → Bool → Option (List Path)
    front t us b =
        option_map (λ (k : Known). k.files) (cond b (Some (record { folder = g; files = files_of t })) (find (λ (k : Known). bytes_eq k.folder f) (listings_of fs us)))

    go :
        (t : Tree) (us : List Tree) → F g ≡ Some t → (b : Bool) → bytes_eq g f ≡ b → In f (g ∷ fs) →
        (In f fs → (s : Tree) × (F f ≡ Some s) × (listing (listings_of fs us) f ≡ Some (files_of s))) →
        (s : Tree) × (F f ≡ Some s) × (listing (listings_of (g ∷ fs) (t ∷ us)) f ≡ Some (files_of s))
    go t us v true same k ih = (t, ap F (sym (same_place g f same)) ∙ v, ap (front t us) same)
    go t us v false same (inl e) ih = absurd (clash_of (bytes_eq g f) (subst (λ p. bytes_eq g p ≡ true) (sym e) (place_itself g)) same)
    go t us v false same (inr k) ih = let s = ih k in (s.0, s.1, ap (front t us) same ∙ s.2)

-- ## Sources

pub source_choice : (flow : Flow) (sources : Sources) (p : Path) → sources.is p ≡ true → choose flow sources p ≡ Source
source_choice flow sources p h = rw (h, choose) refl

module _ (S : Setting) where
  -- a source is a file, and has no files
  pub source_files : (p : Path) (t : Tree) → source_tree S p ≡ Some t → files_of t ≡ []
  source_files p t h = go (S.bytes p) h
    where
      go : (o : Option (List ℕ)) → option_map File o ≡ Some t → files_of t ≡ []
      go None e = absurd (none_some None t refl e)
      go (Some bytes) e = sym (ap (λ o. files_in o) e)
        where
          files_in : Option Tree → List Path
          files_in None = []
          files_in (Some s) = files_of s

  pub ground_source : (p : Path) (t : Tree) → mean S zero p ≡ Some t → S.sources.is p ≡ true
  ground_source p t h = go (S.sources.is p) refl h
    where
      go : (b : Bool) → S.sources.is p ≡ b → cond b (source_tree S p) None ≡ Some t → S.sources.is p ≡ true
      go true e k = e
      go false e k = absurd (none_some None t refl k)

  -- ## Products

  -- how a job makes the tree of a path of what it wants, which means something one job less deep
  pub record MadeBy (n : ℕ) (p : Path) (t : Tree) (c : Candidate) : Type 0 where
    pub chosen : choose S.flow S.sources p ≡ Make c
    pub trees : List Tree
    pub folders : all_of (map (mean S n) (gathered_folders S.flow c)) ≡ Some trees
    pub runnable : is_runnable S c (listings_of (gathered_folders S.flow c) trees) ≡ true
    pub contents : List Tree
    pub inputs : all_of (map (mean S n) (in_paths (recipe S.flow (listings_of (gathered_folders S.flow c) trees) c))) ≡ Some contents
    pub value : value_at S.act (recipe S.flow (listings_of (gathered_folders S.flow c) trees) c) p (Some contents) ≡ Some t

  pub made_by : (n : ℕ) (p : Path) (t : Tree) (c : Candidate) → choose S.flow S.sources p ≡ Make c → mean S (suc n) p ≡ Some t → MadeBy n p t c
  made_by n p t c e h = gather (all_of (map (mean S n) folders)) refl (sym (ap (mean_by S n p) e) ∙ h)
    where
      folders : List Path
      folders = gathered_folders S.flow c

      values : List Tree → Option (List Tree)
      values trees = all_of (map (mean S n) (in_paths (recipe S.flow (listings_of folders trees) c)))

      made :
          (trees : List Tree) → all_of (map (mean S n) folders) ≡ Some trees → is_runnable S c (listings_of folders trees) ≡ true →
          value_at S.act (recipe S.flow (listings_of folders trees) c) p (values trees) ≡ Some t → MadeBy n p t c
      made trees g r v =
          let given = value_given S.act (recipe S.flow (listings_of folders trees) c) p (values trees) t v in
          record {
            chosen = e;
            trees = trees;
            folders = g;
            runnable = r;
            contents = given.0;
            inputs = given.1;
            value = sym (ap (value_at S.act (recipe S.flow (listings_of folders trees) c) p) given.1) ∙ v;
          }

      run :
          (trees : List Tree) → all_of (map (mean S n) folders) ≡ Some trees → (b : Bool) → is_runnable S c (listings_of folders trees) ≡ b →
          runs S n p c (listings_of folders trees) b ≡ Some t → MadeBy n p t c
      run trees g true r v = made trees g r v
      run trees g false r v = absurd (none_some None t refl v)

      gather : (o : Option (List Tree)) → all_of (map (mean S n) folders) ≡ o → gathers_by S n p c o ≡ Some t → MadeBy n p t c
      gather None g v = absurd (none_some None t refl v)
      gather (Some trees) g v = run trees g (is_runnable S c (listings_of folders trees)) refl v

  -- what means something is a source, or a job is chosen for it
  pub choice_of : (n : ℕ) (p : Path) (t : Tree) → mean S (suc n) p ≡ Some t → (choose S.flow S.sources p ≡ Source) ⊎ ((c : Candidate) × (choose S.flow S.sources p ≡ Make c))
  choice_of n p t h = go (choose S.flow S.sources p) refl
    where
      go : (ch : Choice) → choose S.flow S.sources p ≡ ch → (ch ≡ Source) ⊎ ((c : Candidate) × (ch ≡ Make c))
      go Source e = inl refl
      go (Make c) e = inr (c, refl)
      go (Nothing lack) e = absurd (none_some None t refl (sym (ap (mean_by S n p) e) ∙ h))
      go (Ambiguous a b) e = absurd (none_some None t refl (sym (ap (mean_by S n p) e) ∙ h))
