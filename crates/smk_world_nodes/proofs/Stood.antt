-- Names and folders, one byte and one entry after another.
use Rattle.std.proofs.Common.{◌≡◌, inl, inr, ℕ, suc, ◌+◌, ◌<◌, Bool, true, false, not, ◌||◌, ◌&&◌, ◌==◌, List, [], ◌∷◌, length, take, get_or, cond, refl, sym, ap, subst, ◌∙◌, Option, Some, None, bytes_eq, string_bytes, String, add-one, arith}
use Rattle.std.specs.Prelude.{IsSome, if◌then◌else◌, nat_le}
use Rattle.std.specs.List.{list_all}
use Rattle.std.specs.Map.{lookup}
use Rattle.std.specs.Ordering.{is_eq, nat_cmp}
use Rattle.std.specs.Cmp.Lexicographic.{slice_cmp}
use Rattle.std.specs.declared.alloc.Global.{Global}
use Rattle.std.proofs.lemmas.Bool.{eqb-true, eq-eqb}
use Rattle.std.proofs.lemmas.Map.Text.{is_eq-slice_cmp}
use Rattle.smk_base.specs.Path.{parts, to_first}
use Rattle.smk_base.proofs.Places.{same_place, and_first, and_second}
use Rattle.smk_base.proofs.Under.{never_both, false_unless, or_cases}
use Rattle.smk_world.specs.declared.event.Node.{Node}
use Rattle.smk_world.specs.declared.event.Node.TheVariants.{Regular, Directory}
use Rattle.smk_world.specs.Folders.{has_names, CanHold, AreInFolders}
use Rattle.smk_world_nodes.specs.Nodes.{node_at, is_folder_there}
use Rattle.smk_world_nodes.specs.declared.nodes.Nodes.{Nodes}
use Rattle.smk_world_nodes.proofs.Above.{is_short_above, short_more}

-- ## Names

-- the rest of a text has no empty part; begins: a part begins here
abbrev pub names_from : Bool → List ℕ → Bool
names_from begins [] = not begins
names_from begins (b ∷ text) = if b == 47 then not begins && names_from true text else names_from false text

-- what follows the first part
abbrev rest_of : List (List ℕ) → List (List ℕ)
rest_of [] = []
rest_of (p ∷ ps) = ps

abbrev all_named : List (List ℕ) → Bool
all_named ps = list_all (λ part. nat_le 1 (length part)) ps

one_named : (n : ℕ) → nat_le 1 (suc n) ≡ true
one_named n = grind arith

first_named : (b : ℕ) (ps : List (List ℕ)) → all_named (to_first b ps) ≡ all_named (rest_of ps)
first_named b [] = refl
first_named b (p ∷ ps) = ap (λ v. v && all_named ps) (one_named (length p))

rest_same : (b : ℕ) (ps : List (List ℕ)) → rest_of (to_first b ps) ≡ rest_of ps
rest_same b [] = refl
rest_same b (p ∷ ps) = refl

names_both : (text : List ℕ) → (all_named (parts text) ≡ names_from true text) × (all_named (rest_of (parts text)) ≡ names_from false text)
names_both [] = (refl, refl)
names_both (b ∷ text) = go (b == 47) (names_both text)
  where
    go : (v : Bool) → (all_named (parts text) ≡ names_from true text) × (all_named (rest_of (parts text)) ≡ names_from false text)
        → (all_named (if v then [] ∷ parts text else to_first b (parts text)) ≡ (if v then not true && names_from true text else names_from false text))
        × (all_named (rest_of (if v then [] ∷ parts text else to_first b (parts text))) ≡ (if v then not false && names_from true text else names_from false text))
    go true ih = (refl, ih.0)
    go false ih = (first_named b (parts text) ∙ ih.1, ap all_named (rest_same b (parts text)) ∙ ih.1)

pub names_are : (text : List ℕ) → has_names text ≡ names_from true text
names_are text = (names_both text).0

-- at a slash, and elsewhere
pub after_slash : (begins : Bool) (b : ℕ) (text : List ℕ) → b ≡ 47 → names_from begins (b ∷ text) ≡ (not begins && names_from true text)
after_slash begins b text e = ap (λ v. if v then not begins && names_from true text else names_from false text) (eq-eqb b 47 e)

pub after_byte : (begins : Bool) (b : ℕ) (text : List ℕ) → (b ≡ 47 → ⊥) → names_from begins (b ∷ text) ≡ names_from false text
after_byte begins b text other = ap (λ v. if v then not begins && names_from true text else names_from false text) (false_unless (b == 47) (λ e. other (eqb-true b 47 e)))

-- ## Folders

short_cases : (text : List ℕ) (i : ℕ) (f : List ℕ) → i < length text → is_short_above text (i + 1) f ≡ true → (is_short_above text i f || ((get_or text i 0 == 47) && bytes_eq f (take i text))) ≡ true
short_cases text i f lt h = sym (short_more text i f lt) ∙ ap (λ k. is_short_above text k f) (sym (add-one i)) ∙ h

folder_is : (n : Option Node) → is_folder_there n ≡ true → n ≡ Some Directory
folder_is None h = absurd (never_both false h refl)
folder_is (Some (Regular bytes time read_only)) h = absurd (never_both false h refl)
folder_is (Some Directory) h = refl

module _ (nodes : Nodes) (text : List ℕ) (i : ℕ) (lt : i < length text) (so_far : (f : List ℕ) → is_short_above text i f ≡ true → node_at nodes f ≡ Some Directory) (f : List ℕ) (h : is_short_above text (i + 1) f ≡ true) where
  -- at a slash behind a folder
  pub at_slash : (range : List ℕ) → range ≡ take i text → is_folder_there (node_at nodes range) ≡ true → node_at nodes f ≡ Some Directory
  at_slash range is there =
      elim (or_cases (is_short_above text i f) ((get_or text i 0 == 47) && bytes_eq f (take i text)) (short_cases text i f lt h)) [
        | inl short ↦ so_far f short
        | inr here ↦ ap (node_at nodes) (same_place f (take i text) (and_second (get_or text i 0 == 47) (bytes_eq f (take i text)) here) ∙ sym is) ∙ folder_is (node_at nodes range) there
      ]

  -- elsewhere
  pub no_slash : (get_or text i 0 ≡ 47 → ⊥) → node_at nodes f ≡ Some Directory
  no_slash other =
      elim (or_cases (is_short_above text i f) ((get_or text i 0 == 47) && bytes_eq f (take i text)) (short_cases text i f lt h)) [
        | inl short ↦ so_far f short
        | inr here ↦ absurd (other (eqb-true (get_or text i 0) 47 (and_first (get_or text i 0 == 47) (bytes_eq f (take i text)) here)))
      ]

-- ## Entries

-- each of these keys has a name and stands in folders
abbrev pub AllStand : Nodes → List (String Global × Node) → Type 0
AllStand nodes [] = Unit {0}
AllStand nodes (e ∷ es) = CanHold (node_at nodes) (string_bytes e.0) × AllStand nodes es

stands_in : (nodes : Nodes) (q : List ℕ) (es : List (String Global × Node)) → AllStand nodes es → IsSome (lookup (λ k. is_eq (slice_cmp nat_cmp q (string_bytes k))) es) → CanHold (node_at nodes) q
stands_in nodes q [] all some = absurd (never_both false some refl)
stands_in nodes q (e ∷ es) all some = go (is_eq (slice_cmp nat_cmp q (string_bytes e.0))) refl (stands_in nodes q es all.1) some
  where
    go : (b : Bool) → is_eq (slice_cmp nat_cmp q (string_bytes e.0)) ≡ b → (IsSome (lookup (λ k. is_eq (slice_cmp nat_cmp q (string_bytes k))) es) → CanHold (node_at nodes) q)
        → IsSome (cond b (Some e.1) (lookup (λ k. is_eq (slice_cmp nat_cmp q (string_bytes k))) es)) → CanHold (node_at nodes) q
    go true same more h = subst (CanHold (node_at nodes)) (sym (same_place q (string_bytes e.0) (sym (is_eq-slice_cmp q (string_bytes e.0)) ∙ same))) all.0
    go false other more h = more h

pub all_in_folders : (nodes : Nodes) (es : List (String Global × Node)) → es ≡ nodes.nodes.entries → AllStand nodes es → AreInFolders (node_at nodes)
all_in_folders nodes es is all = λ q some. stands_in nodes q nodes.nodes.entries (subst (AllStand nodes) is all) some
