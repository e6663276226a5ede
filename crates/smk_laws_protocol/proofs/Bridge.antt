-- The view of an image that comes from nodes.
use Rattle.std.proofs.Common.{◌≡◌, ℕ, Bool, true, false, List, [], ◌∷◌, map, filter, length, drop, ◌+◌, cond, refl, ap, ◌∙◌, Option, Some, None}
use Rattle.std.specs.Prelude.{if◌then◌else◌, ◌&&◌, is_some, option_map}
use Rattle.smk_base.specs.Path.{is_under}
use Rattle.smk_base.specs.Place.{record_place, mark_place, note_place}
use Rattle.smk_base.specs.declared.tree.Tree.TheVariants.{File, Folder}
use Rattle.smk_world.specs.declared.event.Node.{Node}
use Rattle.smk_world.specs.declared.event.Node.TheVariants.{Regular, Directory}
use Rattle.smk_world.specs.Trees.{Path, is_path_text}
use Rattle.smk_record.specs.declared.record.Record.{Record}
use Rattle.smk_record.specs.Records.{members_of, core}
use Rattle.smk_store.specs.declared.store.Kept.TheVariants.{Absent, Unreadable, Held}
use Rattle.smk_store.specs.Images.{Content, image_by, is_outside, kept_by, for_path, readable, stands, is_directory, bytes_of}
use Rattle.smk_laws_protocol.proofs.View.{view, file_of}
use Rattle.smk_laws_protocol.proofs.Views.{Nodes, view_of, path_node, place_node, names_in}

filter_twice : (t u : Path → Bool) (xs : List Path) → filter u (filter t xs) ≡ filter (λ q. u q && t q) xs
filter_twice t u [] = refl
filter_twice t u (x ∷ xs) = go (t x) (u x) refl (filter_twice t u xs)
  where
    go :
        (a b : Bool) → u x ≡ b → filter u (filter t xs) ≡ filter (λ q. u q && t q) xs →
        filter u (cond a (x ∷ filter t xs) (filter t xs)) ≡ cond (b && a) (x ∷ filter (λ q. u q && t q) xs) (filter (λ q. u q && t q) xs)
    go true true f ih = ap (λ v. cond v (x ∷ filter u (filter t xs)) (filter u (filter t xs))) f ∙ ap (λ l. x ∷ l) ih
    go true false f ih = ap (λ v. cond v (x ∷ filter u (filter t xs)) (filter u (filter t xs))) f ∙ ih
    go false true f ih = ih
    go false false f ih = ih

some_if : (b : Bool) (n : Option Node) → (b && is_some n) ≡ is_some (if b then n else None)
some_if true n = refl
some_if false n = refl

file_is : (n : Option Node) → option_map File (bytes_of n) ≡ option_map (λ (x : Content). File x.bytes) (file_of n)
file_is None = refl
file_is (Some Directory) = refl
file_is (Some (Regular bytes time read_only)) = refl

module _ (read : List ℕ → Option Record) (names : List Path) (f : Nodes) where
  under : (p : Path) → filter (λ q. is_under q p) (filter (λ q. is_outside q && is_some (f q)) names) ≡ names_in names (path_node f) p
  under p =
      filter_twice (λ q. is_outside q && is_some (f q)) (λ q. is_under q p) names
      ∙ (λ i. filter (λ q. is_under q p && some_if (is_outside q) (f q) i) names)

  kept_is : (p : Path) (b : Bool) (n : Option Node) → (if b then kept_by read p n else Absent) ≡ kept_by read p (if b then n else None)
  kept_is p true n = refl
  kept_is p false n = refl

  for_stands : (p : Path) (r : Option Record) → stands (for_path p r) ≡ true
  for_stands p None = refl
  for_stands p (Some r) = go _
    where
      go : (b : Bool) → stands (if b then Held r else Unreadable) ≡ true
      go true = refl
      go false = refl

  stands_by : (p : Path) (n : Option Node) → stands (kept_by read p n) ≡ is_some n
  stands_by p None = refl
  stands_by p (Some Directory) = refl
  stands_by p (Some (Regular bytes time read_only)) = go _
    where
      go : (b : Bool) → stands (if b then for_path p (read bytes) else Unreadable) ≡ true
      go true = for_stands p (read bytes)
      go false = refl

  stands_is : (p : Path) → stands (if is_path_text p then kept_by read p (f (record_place p)) else Absent) ≡ is_some (place_node f record_place p)
  stands_is p = ap stands (kept_is p (is_path_text p) (f (record_place p))) ∙ stands_by p (place_node f record_place p)

  -- the view of the image is the view that the proofs speak of
  pub view_is : view (image_by read names f) ≡ view_of read names f
  view_is i =
      record (view_of read names f) {
        members = λ p. map (λ q. record { folder = is_directory (path_node f q); name = drop (length p + 1) q }) (under p i);
        tree = λ p.
            if is_directory (path_node f p)
            then Some (Folder (map (λ q. record { name = drop (length p + 1) q; bytes = bytes_of (path_node f q) }) (under p i)))
            else file_is (path_node f p) i;
        has_record = λ p. stands_is p i;
        record_at = λ p. option_map core (readable (kept_is p (is_path_text p) (f (record_place p)) i));
        listed = λ p. members_of (readable (kept_is p (is_path_text p) (f (record_place p)) i));
        marked = λ p. some_if (is_path_text p) (f (mark_place p)) i;
        noted = λ p. some_if (is_path_text p) (f (note_place p)) i;
      }
