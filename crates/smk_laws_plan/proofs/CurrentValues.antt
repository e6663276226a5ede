-- How the values of inputs make the value of an output, in Mean and in Vir.
use Rattle.std.proofs.Common.{◌≡◌, ℕ, zero, suc, Bool, true, false, List, [], ◌∷◌, map, length, refl, sym, ap, subst, inl, inr, ◌∙◌, arith, Option, Some, None, option_map, zip}
use Rattle.smk_laws_plan.proofs.CurrentLists.{In, none_some, some_inj}
use Rattle.std.specs.Prelude.{bytes_eq}
use Rattle.smk_base.proofs.Places.{place_itself, same_place}
use Rattle.smk_base.specs.declared.tree.Tree.{Tree}
use Rattle.smk_chain.specs.Derive.{Listings, listing, or_none, recipe}
use Rattle.smk_chain.specs.Mean.{Setting, is_runnable, listings_of, mean, source_tree}
use Rattle.smk_choose.specs.Choose.{Ambiguous, Choice, Make, Nothing, Source, choose}
use Rattle.smk_flow.specs.Flows.{Candidate, gathered_folders}
use Rattle.smk_record.specs.Records.{stamped}
use Rattle.smk_record.specs.declared.record.Record.{Record}
use Rattle.smk_record.specs.declared.record.Stamp.{Stamp}
use Rattle.smk_store.specs.Images.{Image, core_at}
use Rattle.smk_store.specs.Trust.{vouched, Versions, input_value, vir}
use Rattle.smk_world.specs.Trees.{Act, Path, all_of, files_of, value_at}
use Rattle.smk_world.specs.World.{in_paths}
use Rattle.smk_world.specs.declared.recipe.Recipe.{Recipe}

pub all_parts :
    {A : Type 0} (o : Option A) (rest : List (Option A)) (vs : List A) →
    all_of (o ∷ rest) ≡ Some vs → (x : A) × (ys : List A) × (o ≡ Some x) × (all_of rest ≡ Some ys) × (vs ≡ x ∷ ys)
all_parts None rest vs h = absurd (none_some None vs refl h)
all_parts {A} (Some x) rest vs h = go (all_of rest) refl h
  where
    go : (o : Option (List A)) → all_of rest ≡ o → option_map (λ xs. x ∷ xs) o ≡ Some vs → (y : A) × (ys : List A) × (Some x ≡ Some y) × (all_of rest ≡ Some ys) × (vs ≡ y ∷ ys)
    go None e k = absurd (none_some None vs refl k)
    go (Some ys) e k = (x, ys, refl, e, sym (some_inj (x ∷ ys) vs k))

pub all_make :
    {A : Type 0} (o : Option A) (rest : List (Option A)) (x : A) (ys : List A) → o ≡ Some x → all_of rest ≡ Some ys → all_of (o ∷ rest) ≡ Some (x ∷ ys)
all_make o rest x ys h k = rw (h, k) refl

suc_inj : (a b : ℕ) → suc a ≡ suc b → a ≡ b
suc_inj a b h = omega arith

-- what each input has by its stamp, it has by M
pub inputs_same :
    (F : Path × Stamp → Option Tree) (M : Path → Option Tree) (ins : List Path) (stamps : List Stamp) → length stamps ≡ length ins →
    ((q : Path) (s : Stamp) (x : Tree) → In (q, s) (zip ins stamps) → F (q, s) ≡ Some x → M q ≡ Some x) →
    (vs : List Tree) → all_of (map F (zip ins stamps)) ≡ Some vs → all_of (map M ins) ≡ Some vs
inputs_same F M [] stamps l h vs e = e
inputs_same F M (q ∷ ins) [] l h vs e = absurd (omega arith)
inputs_same F M (q ∷ ins) (s ∷ stamps) l h vs e =
    let r = all_parts (F (q, s)) (map F (zip ins stamps)) vs e in
    all_make (M q) (map M ins) r.0 r.1 (h q s r.0 (inl refl) r.2)
    (inputs_same F M ins stamps (suc_inj (length stamps) (length ins) l) (λ p t x k. h p t x (inr k)) r.1 r.3)
    ∙ ap Some (sym r.4)

pub value_given :
    (act : Act) (r : Recipe) (p : Path) (o : Option (List Tree)) (t : Tree) → value_at act r p o ≡ Some t → (vs : List Tree) × (o ≡ Some vs)
value_given act r p None t h = absurd (none_some None t refl h)
value_given act r p (Some vs) t h = (vs, refl)

-- ## listings

pub listings_agree :
    (M : Path → Option Tree) (L : Listings) (fs : List Path) →
    ((f : Path) → In f fs → (t : Tree) × (M f ≡ Some t) × (files_of t ≡ or_none (listing L f))) →
    (trees : List Tree) × (all_of (map M fs) ≡ Some trees) × ((f : Path) → In f fs → or_none (listing L f) ≡ or_none (listing (listings_of fs trees) f))
listings_agree M L [] h = ([], refl, λ f k. absurd k)
listings_agree M L (g ∷ fs) h =
    let first = h g (inl refl) in
    let rest = listings_agree M L fs (λ f k. h f (inr k)) in
    (first.0 ∷ rest.0, all_make (M g) (map M fs) first.0 rest.0 first.1 rest.1, λ f k. pick first.0 first.2 rest.0 rest.2 f k (bytes_eq g f) refl)
  where
    pick :
        (t : Tree) → files_of t ≡ or_none (listing L g) → (trees : List Tree) →
        ((f : Path) → In f fs → or_none (listing L f) ≡ or_none (listing (listings_of fs trees) f)) →
        (f : Path) → In f (g ∷ fs) → (b : Bool) → bytes_eq g f ≡ b →
        or_none (listing L f) ≡ or_none (listing (listings_of (g ∷ fs) (t ∷ trees)) f)
    pick t e trees ih f k true is = rw is (ap (λ p. or_none (listing L p)) (sym (same_place g f is)) ∙ sym e)
    pick t e trees ih f (inl same) false is = absurd (Rattle.smk_laws_plan.proofs.CurrentLists.clash_of (bytes_eq g f) (subst (λ p. bytes_eq g p ≡ true) (sym same) (place_itself g)) is)
    pick t e trees ih f (inr k) false is = rw is (ih f k)

-- ## Mean

module _ (S : Setting) where
  abbrev pub runs : ℕ → Path → Candidate → Listings → Bool → Option Tree
  runs n p c L b =
      elim b as (λ _. Option Tree) [
        | true ↦ let r = recipe S.flow L c in value_at S.act r p (all_of (map (mean S n) (in_paths r)))
        | false ↦ None
      ]

  abbrev pub gathers_by : ℕ → Path → Candidate → Option (List Tree) → Option Tree
  gathers_by n p c o =
      elim o as (λ _. Option Tree) [
        | None ↦ None
        | Some trees ↦
            let L = listings_of (gathered_folders S.flow c) trees in
            elim (is_runnable S c L) as (λ _. Option Tree) [
              | true ↦ let r = recipe S.flow L c in value_at S.act r p (all_of (map (mean S n) (in_paths r)))
              | false ↦ None
            ]
      ]

  abbrev pub mean_by : ℕ → Path → Choice → Option Tree
  mean_by n p ch =
      elim ch as (λ _. Option Tree) [
        | Source ↦ source_tree S p
        | Nothing lack ↦ None
        | Ambiguous a b ↦ None
        | Make c ↦ gathers_by n p c (all_of (map (mean S n) (gathered_folders S.flow c)))
      ]

  pub mean_source : (n : ℕ) (p : Path) → S.sources.is p ≡ true → mean S n p ≡ source_tree S p
  mean_source zero p h = rw h refl
  mean_source (suc n) p h = ap (mean_by n p) (source_chosen p h)
    where
      source_chosen : (p : Path) → S.sources.is p ≡ true → choose S.flow S.sources p ≡ Source
      source_chosen p h = rw (h, choose) refl

  pub mean_make :
      (n : ℕ) (p : Path) (c : Candidate) (trees : List Tree) →
      choose S.flow S.sources p ≡ Make c →
      all_of (map (mean S n) (gathered_folders S.flow c)) ≡ Some trees →
      is_runnable S c (listings_of (gathered_folders S.flow c) trees) ≡ true →
      mean S (suc n) p
      ≡ value_at S.act (recipe S.flow (listings_of (gathered_folders S.flow c) trees) c) p
      (all_of (map (mean S n) (in_paths (recipe S.flow (listings_of (gathered_folders S.flow c) trees) c))))
  mean_make n p c trees e g r =
      ap (mean_by n p) e ∙ ap (gathers_by n p c) g ∙ ap (runs n p c (listings_of (gathered_folders S.flow c) trees)) r

-- ## Vir

module _ (image : Image) (act : Act) (H : Versions) where
  pub vir_make :
      (n : ℕ) (p : Path) (r : Record) → core_at image p ≡ Some r →
      vir image act H (suc n) p ≡ value_at act r.recipe p (all_of (map (input_value image H (vir image act H n)) (stamped r)))
  vir_make n p r e = ap (vouched act p (input_value image H (vir image act H n))) e
