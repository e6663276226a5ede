-- Directory outputs of a recipe, folders above paths, and sets that are filled by them.
use Rattle.std.proofs.Common.{◌≡◌, ℕ, ◌≤◌, Bool, true, false, cond, ◌&&◌, ◌||◌, ◌==◌, List, [], ◌∷◌, map, length, drop, refl, sym, ap, ◌∙◌, bytes_eq, arith}
use Rattle.std.specs.Prelude.{if◌then◌else◌}
use Rattle.std.specs.List.{list_any, filter, flat_map}
use Rattle.std.proofs.lemmas.List.{drop_all}
use Rattle.std.proofs.lemmas.List.Folds.{list_any-append}
use Rattle.smk_base.specs.Path.{is_under}
use Rattle.smk_world.specs.declared.recipe.Out.{Out}
use Rattle.smk_world.specs.declared.recipe.OutItem.{OutItem}
use Rattle.smk_world.specs.declared.recipe.Recipe.{Recipe}
use Rattle.smk_world.specs.World.{folders_above}
use Rattle.smk_world.specs.Trees.{Path, among, is_folder_kind, folders_of, outs_of}
use Rattle.smk_plan_facts.specs.Telling.{is_directory_at, makes_directory_at}

-- ## Directories

folder_among : (p : Path) (outs : List Out) → list_any (is_directory_at p) outs ≡ among (map (λ (o : Out). o.path) (filter (λ (o : Out). is_folder_kind o.kind) outs)) p
folder_among p [] = refl
folder_among p (o ∷ outs) = go (is_folder_kind o.kind) (folder_among p outs)
  where
    go : (b : Bool) → list_any (is_directory_at p) outs ≡ among (map (λ (x : Out). x.path) (filter (λ (x : Out). is_folder_kind x.kind) outs)) p →
        ((b && bytes_eq p o.path) || list_any (is_directory_at p) outs)
        ≡ among (map (λ (x : Out). x.path) (cond b (o ∷ filter (λ (x : Out). is_folder_kind x.kind) outs) (filter (λ (x : Out). is_folder_kind x.kind) outs))) p
    go true more = ap (λ b. bytes_eq p o.path || b) more
    go false more = more

pub any_items : (test : Out → Bool) (items : List OutItem) → list_any (λ (item : OutItem). list_any test item.outs) items ≡ list_any test (flat_map (λ (item : OutItem). item.outs) items)
any_items test [] = refl
any_items test (item ∷ items) = ap (λ b. list_any test item.outs || b) (any_items test items) ∙ sym (list_any-append test item.outs (flat_map (λ (i : OutItem). i.outs) items))

-- the recipe has a directory output at the path
pub makes_folder : (p : Path) (r : Recipe) → list_any (makes_directory_at p) r.outputs ≡ among (folders_of r) p
makes_folder p r = any_items (is_directory_at p) r.outputs ∙ folder_among p (outs_of r)

-- ## Folders above

among_none : (b : ℕ) (xs : List Path) → among (map (λ f. b ∷ f) xs) [] ≡ false
among_none b [] = refl
among_none b (x ∷ xs) = among_none b xs

among_cons : (b c : ℕ) (xs : List Path) (f : Path) → among (map (λ f. b ∷ f) xs) (c ∷ f) ≡ (c == b && among xs f)
among_cons b c [] f = and_false (c == b)
  where
    and_false : (v : Bool) → false ≡ (v && false)
    and_false true = refl
    and_false false = refl
among_cons b c (x ∷ xs) f = ap (λ y. (c == b && bytes_eq f x) || y) (among_cons b c xs f) ∙ share (c == b) (bytes_eq f x) (among xs f)
  where
    share : (a b c : Bool) → ((a && b) || (a && c)) ≡ (a && (b || c))
    share true b c = refl
    share false b c = refl

eq_flip : (a b : ℕ) → (a == b) ≡ (b == a)
eq_flip a b = grind arith

abbrev above_by : ℕ → List Path → Bool → List Path
above_by b folders slash = if slash then [] ∷ map (λ q. b ∷ q) folders else map (λ q. b ∷ q) folders

none_by : (b : ℕ) (folders : List Path) (slash : Bool) → among (above_by b folders slash) [] ≡ slash
none_by b folders true = refl
none_by b folders false = among_none b folders

cons_by : (b c : ℕ) (folders : List Path) (f : Path) (slash : Bool) → among (above_by b folders slash) (c ∷ f) ≡ among (map (λ q. b ∷ q) folders) (c ∷ f)
cons_by b c folders f true = refl
cons_by b c folders f false = refl

-- the folders above a path are those that it lies under
pub folders_are : (q f : Path) → among (folders_above q) f ≡ is_under q f
folders_are [] f = refl
folders_are (b ∷ text) [] = none_by b (folders_above text) (b == 47)
folders_are (b ∷ text) (c ∷ f) =
    cons_by b c (folders_above text) f (b == 47) ∙ among_cons b c (folders_above text) f
    ∙ ap (λ y. c == b && y) (folders_are text f) ∙ ap (λ v. v && is_under text f) (eq_flip c b)

-- ## Sets

-- all of these were added
pub all_added : (paths : List Path) (i : ℕ) (q : Path) (now whole : Bool) → length paths ≤ i → (among (drop i paths) q || now) ≡ whole → now ≡ whole
all_added paths i q now whole le h = sym (ap (λ ps. among ps q || now) (drop_all i paths le)) ∙ h
