-- What a chosen job is: a candidate of its path, which makes it, and of which no output or log holds a source.
use Rattle.std.proofs.Common.{◌≡◌, ◌∙◌, ◌⊎◌, ℕ, ◌+◌, Bool, true, false, List, [], ◌∷◌, map, filter, filter_map, flat_map, ◌++◌, cond, refl, sym, ap, subst, inl, inr, arith, Option, Some, None, option_map}
use Rattle.std.specs.List.{enumerate_from}
use Rattle.std.proofs.lemmas.List.{map-append}
use Rattle.smk_laws_plan.proofs.CurrentLists.{In, filter_in, flat_in, chosen_in, find_in, map_in, in_map, in_flat, in_filter, some_inj, none_some}
use Rattle.smk_laws_plan.proofs.CurrentPaths.{folders_under}
use Rattle.smk_world.specs.declared.recipe.Kind.TheVariants.{Plain, Folder}
use Rattle.smk_base.specs.Path.{is_under}
use Rattle.smk_base.specs.declared.tree.Pair.{Pair}
use Rattle.smk_chain.specs.Derive.{Listings, recipe}
use Rattle.smk_flow.specs.Jobs.{kind_of}
use Rattle.smk_choose.specs.Choose.{Ambiguous, Choice, Lack, Make, Nothing, Source, Sources, as_member, as_output, candidate, candidates, choice, choose, fit, is_apart, is_viable, lack_of_first, leader, or_else, viable}
use Rattle.smk_flow.specs.Flows.{Candidate, Flow, makes_folder, numbered, outs}
use Rattle.smk_flow.specs.declared.rule.FlaggedText.{FlaggedText}
use Rattle.smk_flow.specs.declared.rule.OutPart.{OutPart}
use Rattle.smk_flow.specs.declared.rule.RulePart.{RulePart}
use Rattle.smk_pattern.specs.Bound.{BoundFills, binding_of}
use Rattle.smk_pattern.specs.Reading.{fill}
use Rattle.smk_world.specs.Trees.{Path, first, folders_of, is_folder_kind, outs_of}
use Rattle.smk_world.specs.World.{folders_above, out_paths}
use Rattle.smk_world.specs.declared.recipe.Out.{Out}
use Rattle.smk_world.specs.declared.recipe.OutItem.{OutItem}
use Rattle.smk_world.specs.declared.recipe.Recipe.{Recipe}

pub make_inj : (a b : Candidate) → Make a ≡ Make b → a ≡ b
make_inj a b h = cc

numbered_in : {A : Type 0} (xs : List A) (k : ℕ) (e : ℕ × A) → In e (enumerate_from k xs) → In e.1 xs
numbered_in [] k e h = absurd h
numbered_in (x ∷ xs) k e (inl p) = inl (ap (λ w. w.1) p)
numbered_in (x ∷ xs) k e (inr h) = inr (numbered_in xs (k + 1) e h)

choice_in : (flow : Flow) (all : List (ℕ × Candidate)) (vs : List Candidate) (lack : Option Lack) (c : Candidate) → ((e : ℕ × Candidate) → In e all → In e.1 vs) → choice (leader flow all) vs lack ≡ Make c → In c vs
choice_in flow all vs lack c within h = go (leader flow all) refl vs within h
  where
    go : (o : Option (ℕ × Candidate)) → leader flow all ≡ o → (vs : List Candidate) → ((e : ℕ × Candidate) → In e all → In e.1 vs) → choice o vs lack ≡ Make c → In c vs
    go (Some d) e vs within h = subst (λ x. In x vs) (make_inj d.1 c h) (within d (find_in _ all d e).0)
    go None e (a ∷ b ∷ rest) within h = absurd (differ a b c h)
      where
        differ : (a b c : Candidate) → Ambiguous a.rule b.rule ≡ Make c → ⊥
        differ a b c h = grind arith
    go None e (a ∷ []) within h = inl (sym (make_inj a c h))
    go None e [] within h = absurd (nothing lack c h)
      where
        nothing : (lack : Option Lack) (c : Candidate) → Nothing lack ≡ Make c → ⊥
        nothing lack c h = grind arith

source_make : (c : Candidate) → Source ≡ Make c → ⊥
source_make c h = grind arith

module _ (flow : Flow) (sources : Sources) where
  pub chosen_viable : (p : Path) (c : Candidate) → choose flow sources p ≡ Make c → In c (viable flow sources p) × (sources.is p ≡ false)
  chosen_viable p c h = go (sources.is p) refl h
    where
      go :
          (b : Bool) → sources.is p ≡ b →
          elim b as (λ _. Choice) [
            | true ↦ Source
            | false ↦
                let vs = viable flow sources p in
                choice (leader flow (enumerate_from 0 vs)) vs (lack_of_first flow sources (candidates flow sources p))
          ] ≡ Make c → In c (viable flow sources p) × (sources.is p ≡ false)
      go true is h = absurd (source_make c h)
      go false is h = (choice_in flow (enumerate_from 0 (viable flow sources p)) (viable flow sources p) _ c (λ e k. numbered_in (viable flow sources p) 0 e k) h, is)

  pub chosen_candidate : (p : Path) (c : Candidate) → choose flow sources p ≡ Make c → In c (or_else (as_member flow p) (as_output flow p)) × (is_apart flow sources c ≡ true)
  chosen_candidate p c h =
      filter_in (is_apart flow sources) (or_else (as_member flow p) (as_output flow p)) c
      (filter_in (is_viable flow sources) (candidates flow sources p) c ((chosen_viable p c h).0)).0

or_else_in : (a b : List Candidate) (c : Candidate) → In c (or_else a b) → In c a ⊎ In c b
or_else_in [] b c h = inr h
or_else_in (x ∷ a) b c h = inl h

pub first_in : {A : Type 0} (xs : List A) (x : A) → first xs ≡ Some x → In x xs
first_in [] x h = absurd (none_some None x refl h)
first_in (y ∷ xs) x h = inl (sym (some_inj y x h))

fit_in :
    (part : RulePart) (texts : List FlaggedText) (p : Path) (b : List Pair) → fit part texts p ≡ Some b →
    (o : FlaggedText) × In o texts × (binding_of part.limits o.text p ≡ Some b)
fit_in part texts p b h =
    chosen_in (λ (o : FlaggedText). binding_of part.limits o.text p) texts b
    (first_in (filter_map (λ (o : FlaggedText). binding_of part.limits o.text p) texts) b h)

pub mapped : {A B : Type 0} (f : A → B) (o : Option A) (y : B) → option_map f o ≡ Some y → (x : A) × (o ≡ Some x) × (f x ≡ y)
mapped f None y h = absurd (none_some None y refl h)
mapped f (Some x) y h = (x, refl, some_inj (f x) y h)

-- how a candidate comes to be: its rule stands in the workflow, and one of its outputs is the path, or a directory above it
pub record Origin (flow : Flow) (p : Path) (c : Candidate) : Type 0 where
  pub listed : In (c.rule, c.part) (numbered flow)
  pub out : FlaggedText
  pub place : Path
  pub is_out : In out (outs c.part)
  pub binds : binding_of c.part.limits out.text place ≡ Some c.binding
  pub at_or_above : (p ≡ place) ⊎ (is_under p place ≡ true) × In place (folders_above p) × (makes_folder out ≡ true)

module _ (flow : Flow) (p : Path) (c : Candidate) where
  from_output : In c (as_output flow p) → Origin flow p c
  from_output h =
      let r = chosen_in (λ (r : ℕ × RulePart). option_map (candidate r) (fit r.1 (outs r.1) p)) (numbered flow) c h in
      let b = mapped (candidate r.0) (fit r.0.1 (outs r.0.1) p) c r.2 in
      let o = fit_in r.0.1 (outs r.0.1) p b.0 b.1 in
      subst (Origin flow p) b.2 (record { listed = r.1; out = o.0; place = p; is_out = o.1; binds = o.2; at_or_above = inl refl })

  from_member : In c (as_member flow p) → Origin flow p c
  from_member h =
      let r = flat_in (λ (r : ℕ × RulePart). filter_map (λ (f : Path). option_map (candidate r) (fit r.1 (filter makes_folder (outs r.1)) f)) (folders_above p)) (filter (λ (r : ℕ × RulePart). r.1.checkpoint) (numbered flow)) c h in
      let f = chosen_in (λ (f : Path). option_map (candidate r.0) (fit r.0.1 (filter makes_folder (outs r.0.1)) f)) (folders_above p) c r.2 in
      let b = mapped (candidate r.0) (fit r.0.1 (filter makes_folder (outs r.0.1)) f.0) c f.2 in
      let o = fit_in r.0.1 (filter makes_folder (outs r.0.1)) f.0 b.0 b.1 in
      let k = filter_in makes_folder (outs r.0.1) o.0 o.1 in
      subst (Origin flow p) b.2 (record {
        listed = (filter_in (λ (r : ℕ × RulePart). r.1.checkpoint) (numbered flow) r.0 r.1).0;
        out = o.0;
        place = f.0;
        is_out = k.0;
        binds = o.2;
        at_or_above = inr (folders_under p f.0 f.1, f.1, k.1);
      })

  pub origin : (sources : Sources) → choose flow sources p ≡ Make c → Origin flow p c
  origin sources h = go (or_else_in (as_member flow p) (as_output flow p) c ((chosen_candidate flow sources p c h).0))
    where
      go : In c (as_member flow p) ⊎ In c (as_output flow p) → Origin flow p c
      go (inl k) = from_member k
      go (inr k) = from_output k

-- ## the outputs of a job

paths_of_items : (items : List OutItem) → flat_map (λ (i : OutItem). map (λ (o : Out). o.path) i.outs) items ≡ map (λ (o : Out). o.path) (flat_map (λ (i : OutItem). i.outs) items)
paths_of_items [] = refl
paths_of_items (i ∷ items) =
    ap (λ ps. map (λ (o : Out). o.path) i.outs ++ ps) (paths_of_items items)
    ∙ sym (map-append (λ (o : Out). o.path) i.outs (flat_map (λ (i : OutItem). i.outs) items))

-- the output paths of a recipe are those of its outputs
pub paths_are : (r : Recipe) → out_paths r ≡ map (λ (o : Out). o.path) (outs_of r)
paths_are r = paths_of_items r.outputs

pub path_in : (r : Recipe) (o : Out) → In o (outs_of r) → In o.path (out_paths r)
path_in r o h = subst (In o.path) (sym (paths_are r)) (in_map (λ (o : Out). o.path) (outs_of r) o h)

module _ (flow : Flow) (L : Listings) (c : Candidate) where
  abbrev out_of : FlaggedText → Out
  out_of f = record { path = fill c.binding f.text; kind = kind_of f }

  abbrev item_of : OutPart → OutItem
  item_of o = record { name = o.name; outs = map out_of o.outs }

  pub out_in : (o : FlaggedText) → In o (outs c.part) → In (out_of o) (outs_of (recipe flow L c))
  out_in o h =
      let r = flat_in (λ (o : OutPart). o.outs) c.part.outputs o h in
      in_flat (λ (o : OutItem). o.outs) (map item_of c.part.outputs) (item_of r.0) (out_of o) (in_map item_of c.part.outputs r.0 r.1) (in_map out_of r.0.outs o r.2)

  pub output_in :
      (fills : BoundFills) (p : Path) (o : FlaggedText) → In o (outs c.part) → binding_of c.part.limits o.text p ≡ Some c.binding → In p (out_paths (recipe flow L c))
  output_in fills p o h e =
      subst (λ q. In q (out_paths (recipe flow L c))) (fills c.part.limits o.text p c.binding e)
      (path_in (recipe flow L c) (out_of o) (out_in o h))

  pub folder_made :
      (fills : BoundFills) (p : Path) (o : FlaggedText) → In o (outs c.part) → binding_of c.part.limits o.text p ≡ Some c.binding → makes_folder o ≡ true →
      In p (folders_of (recipe flow L c))
  folder_made fills p o h e m =
      subst (λ q. In q (folders_of (recipe flow L c))) (fills c.part.limits o.text p c.binding e)
      (in_map (λ (o : Out). o.path) (filter (λ (o : Out). is_folder_kind o.kind) (outs_of (recipe flow L c))) (out_of o)
      (in_filter (λ (o : Out). is_folder_kind o.kind) (outs_of (recipe flow L c)) (out_of o) (out_in o h) (ap (λ b. is_folder_kind (cond b Folder Plain)) m)))

pub folders_paths : (r : Recipe) (p : Path) → In p (folders_of r) → In p (out_paths r)
folders_paths r p h =
    let o = map_in (λ (o : Out). o.path) (filter (λ (o : Out). is_folder_kind o.kind) (outs_of r)) p h in
    subst (λ q. In q (out_paths r)) (sym o.2) (path_in r o.0 (filter_in (λ (o : Out). is_folder_kind o.kind) (outs_of r) o.0 o.1).0)
