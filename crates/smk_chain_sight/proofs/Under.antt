-- What is under a folder, name by name.
use Rattle.std.proofs.Common.{◌≡◌, ℕ, ◌<◌, ◌≤◌, Bool, true, false, List, ◌∷◌, length, take, get_or, refl, sym, ap, subst, ◌∙◌, Some, None, arith, length-append}
use Rattle.std.specs.Prelude.{All, if◌then◌else◌}
use Rattle.std.proofs.lemmas.List.{take_all}
use Rattle.std.proofs.lemmas.List.Elements.{All-get_or}
use Rattle.std.proofs.lemmas.Bool.{leb-true}
use Rattle.smk_base.specs.Path.{is_under}
use Rattle.smk_base.proofs.Under.{under_folder, under_further}
use Rattle.smk_world.specs.declared.event.Listing.{Listing}
use Rattle.smk_world.specs.declared.event.Name.{Name}
use Rattle.smk_world.specs.declared.event.NodeState.{NodeState}
use Rattle.smk_world.specs.World.{World}
use Rattle.smk_world.specs.Calls.{in_folder, ListingIs}
use Rattle.smk_world.specs.Trees.{Path, is_path_text}
use Rattle.smk_store.specs.Images.{Image}
use Rattle.smk_store.specs.Stores.{Known, is_covered_in}
use Rattle.smk_store.specs.Walking.{path_in}
use Rattle.smk_store.proofs.Walks.{path_short}
use Rattle.smk_chain_sight.specs.Viewing.{Viewed, NoneUnder, SomeUnder, TellsUnder}
use Rattle.smk_chain_sight.proofs.Stand.{NoneAt, NameTells, ListedIn, listed_in, at_no_path, at_covered, at_folder, none_in, file_source}

-- what is known of each of these names
pub folder_listed : (w : World) (store : List Known) (image : Image) (folder place : Path) (listing : Listing) (names : List Name) → Viewed w.nodes store image → is_path_text folder ≡ true
    → place ≡ folder → names ≡ listing.names → ListingIs w place listing (w.nodes place) → ListedIn w.nodes store folder names
folder_listed w store image folder place listing names v path same are h =
    subst (ListedIn w.nodes store folder) (sym are) (listed_in w store image folder listing v path (subst (λ p. ListingIs w p listing (w.nodes p)) same h))

none_by : (text : Path) (b : Bool) → is_path_text text ≡ b → None ≡ (if b then Some text else None) → is_path_text text ≡ false
none_by text true e h = absurd cc
none_by text false e h = e

is_by : (text path : Path) (b : Bool) → is_path_text text ≡ b → Some path ≡ (if b then Some text else None) → (is_path_text text ≡ true) × (path ≡ text)
is_by text path true e h = (e, same path text h)
  where
    same : (x y : Path) → Some x ≡ Some y → x ≡ y
    same x y q = cc
is_by text path false e h = absurd cc

pub no_path : (text : Path) → None ≡ path_in text → is_path_text text ≡ false
no_path text h = none_by text (is_path_text text) refl h

pub path_at : (text path : Path) → Some path ≡ path_in text → (is_path_text text ≡ true) × (path ≡ text)
path_at text path h = is_by text path (is_path_text text) refl h

-- the path of a name is longer
pub grows_at : (folder name path : Path) → Some path ≡ path_in (in_folder folder name) → (length folder < length path) × (length path ≤ 1000)
grows_at folder name path h =
    let p = path_at (in_folder folder name) path h in
    let len = ap length p.1 ∙ length-append folder (47 ∷ name) in (
      omega (arith, len),
      omega (arith, leb-true (length (in_folder folder name)) 1000 (path_short (in_folder folder name) p.0), ap length p.1),
    )

pub no_names : (image : Image) (folder : Path) (names : List Name) → All (NoneAt image folder) (take 0 names)
no_names image folder names = λ k d lt. absurd (omega (arith, lt))

module _ (nodes : Path → NodeState) (store : List Known) (image : Image) (v : Viewed nodes store image) (folder : Path) (names : List Name) (l : ListedIn nodes store folder names) (i : ℕ) (n : Name) (lt : i < length names) (at : n ≡ get_or names i n) where
  stood : NameTells nodes store folder n
  stood = subst (NameTells nodes store folder) (sym at) (All-get_or (NameTells nodes store folder) names i n lt l.each)

  pub no_path_at : None ≡ path_in (in_folder folder n.name) → NoneAt image folder n
  no_path_at h = at_no_path nodes store image v folder names l n (no_path (in_folder folder n.name) h)

  pub covered_at : (path : Path) → Some path ≡ path_in (in_folder folder n.name) → is_covered_in store path ≡ true → NoneAt image folder n
  covered_at path h covered = at_covered nodes store image v folder names l n (subst (λ p. is_covered_in store p ≡ true) (path_at (in_folder folder n.name) path h).1 covered)

  -- a folder that isn't covered, in which no source is
  pub folder_at : (path : Path) → Some path ≡ path_in (in_folder folder n.name) → n.folder ≡ true → is_covered_in store path ≡ false → NoneUnder image path → NoneAt image folder n
  folder_at path h is uncovered none =
      let p = path_at (in_folder folder n.name) path h in
      let stands = stood p.0 (subst (λ q. is_covered_in store q ≡ false) p.1 uncovered) in
      at_folder nodes store image v folder names l n (sym stands.1 ∙ is) (subst (NoneUnder image) p.1 none)

  -- a file that isn't covered
  pub some_at : (path : Path) → Some path ≡ path_in (in_folder folder n.name) → n.folder ≡ false → is_covered_in store path ≡ false → SomeUnder image folder
  some_at path h is uncovered =
      let p = path_at (in_folder folder n.name) path h in
      let free = subst (λ q. is_covered_in store q ≡ false) p.1 uncovered in
      let stands = stood p.0 free in
      (in_folder folder n.name, under_folder folder n.name, file_source nodes store image v (in_folder folder n.name) p.0 stands.0 (sym stands.1 ∙ is) free)

  -- a source in a folder in it
  pub deeper_at : (path : Path) → Some path ≡ path_in (in_folder folder n.name) → SomeUnder image path → SomeUnder image folder
  deeper_at path h some =
      let p = path_at (in_folder folder n.name) path h in
      (some.0, under_further some.0 path folder some.1 (subst (λ q. is_under q folder ≡ true) (sym p.1) (under_folder folder n.name)), some.2)

pub found_there : (image : Image) (folder : Path) → SomeUnder image folder → TellsUnder image folder true
found_there image folder some = record { some = λ e. some; none = λ e. absurd (wrong e) }
  where
    wrong : true ≡ false → ⊥
    wrong h = cc

pub none_there : (nodes : Path → NodeState) (store : List Known) (image : Image) → Viewed nodes store image → (folder : Path) (names : List Name) → ListedIn nodes store folder names → (i : ℕ) → length names ≤ i → All (NoneAt image folder) (take i names)
    → TellsUnder image folder false
none_there nodes store image v folder names l i le all =
    record {
      some = λ e. absurd (wrong e);
      none = λ e. none_in nodes store image v folder names l (subst (All (NoneAt image folder)) (take_all i names le) all);
    }
  where
    wrong : false ≡ true → ⊥
    wrong h = cc
