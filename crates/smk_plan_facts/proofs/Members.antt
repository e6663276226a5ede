-- Names under a folder, and files among them.
use Rattle.std.proofs.Common.{◌≡◌, suc, ◌+◌, ◌≤◌, Bool, true, false, cond, ◌||◌, ◌==◌, not, List, [], ◌∷◌, ◌++◌, length, drop, Option, Some, None, refl, sym, ap, ◌∙◌, bytes_eq, arith}
use Rattle.std.specs.Prelude.{if◌then◌else◌, option_map, is_some}
use Rattle.std.specs.List.{find, filter}
use Rattle.smk_base.specs.Path.{is_under}
use Rattle.smk_base.proofs.Places.{and_second, same_place, place_itself}
use Rattle.smk_base.proofs.Under.{rest_under, false_unless, never_both}
use Rattle.smk_world.specs.declared.event.Node.{Node}
use Rattle.smk_world.specs.declared.event.Node.TheVariants.{Regular, Directory}
use Rattle.smk_world.specs.Trees.{Path, among, below}
use Rattle.smk_record.specs.declared.record.Member.{Member}
use Rattle.smk_store.specs.Images.{Image, content_of, is_directory, is_folder, is_file, members_under}
use Rattle.smk_plan.specs.States.{test_some}
use Rattle.smk_plan_facts.specs.Facts.{NamesAll}
use Rattle.smk_plan_facts.specs.Telling.{is_file_member}
use Rattle.smk_plan_facts.proofs.Tests.{find_map}

-- what lies under a folder is longer by a byte at least
pub under_length : (q f : Path) → is_under q f ≡ true → length f + 1 ≤ length q
under_length [] f h = absurd (never_both false h refl)
under_length (b ∷ q) [] h = omega arith
under_length (b ∷ q) (c ∷ f) h = let more = under_length q f (and_second (b == c) (is_under q f) h) in omega arith

dropped : (f rest : Path) → drop (length f + 1) (f ++ 47 ∷ rest) ≡ rest
dropped [] rest = refl
dropped (b ∷ f) rest =
    let more : length (b ∷ f) + 1 ≡ suc (length f + 1) = omega arith in
    ap (λ n. drop n (b ∷ (f ++ 47 ∷ rest))) more ∙ dropped f rest

-- a path under a folder by its place in it
placed : (f q : Path) → is_under q f ≡ true → q ≡ f ++ 47 ∷ below f q
placed f q h =
    let r = rest_under q f h in
    r.1 ∙ ap (λ (x : Path). f ++ 47 ∷ x) (sym (dropped f r.0) ∙ ap (below f) (sym r.1))

-- two paths under a folder are equal where their places in it are
same_below : (f x q : Path) → is_under x f ≡ true → is_under q f ≡ true → bytes_eq (below f x) (below f q) ≡ bytes_eq q x
same_below f x q hx hq = go (bytes_eq (below f x) (below f q)) refl
  where
    equal : bytes_eq (below f x) (below f q) ≡ true → x ≡ q
    equal e = placed f x hx ∙ ap (λ (r : Path). f ++ 47 ∷ r) (same_place (below f x) (below f q) e) ∙ sym (placed f q hq)

    go : (b : Bool) → bytes_eq (below f x) (below f q) ≡ b → b ≡ bytes_eq q x
    go true e = sym (ap (bytes_eq q) (equal e) ∙ place_itself q)
    go false e = sym (false_unless (bytes_eq q x) (λ k. never_both (bytes_eq (below f q) (below f q)) (place_itself (below f q)) (ap (λ (y : Path). bytes_eq (below f y) (below f q)) (same_place q x k) ∙ e)))

abbrev found_under : Path → Path → List Path → Option Path
found_under f q names = find (λ x. bytes_eq (below f x) (below f q)) (filter (λ x. is_under x f) names)

-- by its place in the folder the path is found among the names
under_found : (f q : Path) (names : List Path) → is_under q f ≡ true → found_under f q names ≡ (if among names q then Some q else None)
under_found f q [] h = refl
under_found f q (x ∷ names) h = go (is_under x f) refl (under_found f q names h)
  where
    rest : Option Path
    rest = found_under f q names

    other : is_under x f ≡ false → bytes_eq q x ≡ false
    other u = false_unless (bytes_eq q x) (λ k. never_both (is_under q f) h (ap (λ (y : Path). is_under y f) (same_place q x k) ∙ u))

    here : (b : Bool) → bytes_eq q x ≡ b → found_under f q names ≡ (if among names q then Some q else None) → cond b (Some x) (found_under f q names) ≡ (if (b || among names q) then Some q else None)
    here true e more = ap Some (sym (same_place q x e))
    here false e more = more

    go : (u : Bool) → is_under x f ≡ u → found_under f q names ≡ (if among names q then Some q else None) →
        find (λ y. bytes_eq (below f y) (below f q)) (cond u (x ∷ filter (λ y. is_under y f) names) (filter (λ y. is_under y f) names)) ≡ (if (bytes_eq q x || among names q) then Some q else None)
    go true e more =
        ap (λ b. cond b (Some x) (found_under f q names)) (same_below f x q e h)
        ∙ here (bytes_eq q x) refl more
    go false e more = more ∙ ap (λ b. if (b || among names q) then Some q else None) (sym (other e))

module _ (image : Image) where
  abbrev member_of : Path → Path → Member
  member_of f x = record { folder = is_folder image x; name = below f x }

  file_named : (q : Path) (n : Option Node) → image.node q ≡ n → test_some (λ (m : Member). not m.folder) (option_map (member_of q) (if is_some n then Some q else None)) ≡ is_some (content_of n)
  file_named q None e = refl
  file_named q (Some Directory) e = ap (λ (n : Option Node). not (is_directory n)) e
  file_named q (Some (Regular bytes time read_only)) e = ap (λ (n : Option Node). not (is_directory n)) e

  folders_same : (f : Path) (o : Option Path) → test_some (λ (m : Member). not m.folder) (option_map (member_of f) o) ≡ test_some (λ (q : Path). not (is_folder image q)) o
  folders_same f None = refl
  folders_same f (Some q) = refl

  -- a path under a folder is a file where a file of its place in the folder is a member
  pub file_among : NamesAll image → (f q : Path) → is_under q f ≡ true → is_file_member (members_under image f) (below f q) ≡ is_file image q
  file_among all f q h =
      ap (test_some (λ (m : Member). not m.folder)) (find_map (λ (m : Member). bytes_eq m.name (below f q)) (member_of f) (filter (λ x. is_under x f) image.names))
      ∙ ap (λ (o : Option Path). test_some (λ (m : Member). not m.folder) (option_map (member_of f) o)) (under_found f q image.names h ∙ ap (λ b. if b then Some q else None) (all q))
      ∙ folders_same f (if is_some (image.node q) then Some q else None)
      ∙ sym (folders_same q (if is_some (image.node q) then Some q else None))
      ∙ file_named q (image.node q) refl
