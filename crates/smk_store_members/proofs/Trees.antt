-- The folder is a tree: what stands under a folder is found there.
use Rattle.std.proofs.Common.{◌≡◌, ◌⊎◌, inl, inr, ℕ, zero, suc, ◌+◌, ◌≤◌, ◌==◌, Bool, true, false, ◌||◌, not, [], ◌∷◌, ◌++◌, length, refl, sym, ap, ap₂, subst, ◌∙◌, arith, length-append, Some, None}
use Rattle.std.specs.Prelude.{IsSome, nat_le, if◌then◌else◌}
use Rattle.std.specs.List.{list_all, list_any}
use Rattle.std.proofs.lemmas.Bool.{eqb-true}
use Rattle.std.proofs.lemmas.List.Folds.{list_all-append}
use Rattle.smk_base.specs.Path.{parts, to_first, is_under}
use Rattle.smk_base.proofs.Places.{and_first, and_second}
use Rattle.smk_base.proofs.Under.{never_both, false_of_not, both_true, or_second, under_folder, rest_under}
use Rattle.smk_world.specs.declared.event.Node.TheVariants.{Regular, Directory}
use Rattle.smk_world.specs.declared.event.NodeState.{NodeState}
use Rattle.smk_world.specs.declared.event.NodeState.TheVariants.{Owned, Known}
use Rattle.smk_world.specs.World.{World, reading, reads_folder}
use Rattle.smk_world.specs.Calls.{in_folder, is_name, Stands}
use Rattle.smk_world.specs.Folders.{has_names, IsTree}
use Rattle.smk_world.specs.Trees.{Path}
use Rattle.smk_world.proofs.Folders.{parts_append}
use Rattle.smk_world.proofs.Names.{or_false}
use Rattle.smk_store.proofs.Standing.{tree_folder}
use Rattle.smk_store_members.specs.Members.{Nodes, IsFound, AllIsFound}
use Rattle.smk_store_members.specs.Members.IsFound.{Inside, Deeper}

abbrev slashed : Path → Bool
slashed q = list_any (λ b. b == 47) q

-- ## Names

has_slash : (front rest : Path) → list_any (λ (b : ℕ). b == 47) (front ++ 47 ∷ rest) ≡ true
has_slash [] rest = refl
has_slash (b ∷ front) rest = or_second (b == 47) (list_any (λ (x : ℕ). x == 47) (front ++ 47 ∷ rest)) (has_slash front rest)

pub no_name : (front rest : Path) → is_name (front ++ 47 ∷ rest) ≡ true → ⊥
no_name front rest h =
    never_both (list_any (λ (b : ℕ). b == 47) (front ++ 47 ∷ rest)) (has_slash front rest)
    (false_of_not (list_any (λ (b : ℕ). b == 47) (front ++ 47 ∷ rest)) (and_second (nat_le 1 (length (front ++ 47 ∷ rest))) (not (list_any (λ (b : ℕ). b == 47) (front ++ 47 ∷ rest))) h))

head_of : (b c : ℕ) (xs ys : Path) → b ∷ xs ≡ c ∷ ys → b ≡ c
head_of b c xs ys e = cc

tail_of : (b c : ℕ) (xs ys : Path) → b ∷ xs ≡ c ∷ ys → xs ≡ ys
tail_of b c xs ys e = cc

-- where a text ends with a slash and a name, each slash in it is that one, or stands further in front
pub last_part : (front rest folder name : Path) → is_name name ≡ true → front ++ 47 ∷ rest ≡ folder ++ 47 ∷ name
    → ((front ≡ folder) × (rest ≡ name)) ⊎ ((more : Path) × (folder ≡ front ++ 47 ∷ more) × (rest ≡ more ++ 47 ∷ name))
last_part [] rest [] name is e = inl (refl, tail_of 47 47 rest name e)
last_part [] rest (c ∷ folder) name is e =
    inr (folder, ap (λ (b : ℕ). b ∷ folder) (sym (head_of 47 c rest (folder ++ 47 ∷ name) e)), tail_of 47 c rest (folder ++ 47 ∷ name) e)
last_part (b ∷ front) rest [] name is e = absurd (no_name front rest (subst (λ (t : Path). is_name t ≡ true) (sym (tail_of b 47 (front ++ 47 ∷ rest) name e)) is))
last_part (b ∷ front) rest (c ∷ folder) name is e =
    let head : b ≡ c = head_of b c (front ++ 47 ∷ rest) (folder ++ 47 ∷ name) e in
    elim (last_part front rest folder name is (tail_of b c (front ++ 47 ∷ rest) (folder ++ 47 ∷ name) e)) [
      | inl same ↦ inl (ap₂ (λ (x : ℕ) (xs : Path). x ∷ xs) head same.0, same.1)
      | inr m ↦ inr (m.0, ap₂ (λ (x : ℕ) (xs : Path). x ∷ xs) (sym head) m.1, m.2)
    ]

-- a text ends with a slash and a name, or has none
last_split : (q : Path) → (slashed q ≡ false) ⊎ ((folder : Path) × (name : Path) × (q ≡ in_folder folder name) × (slashed name ≡ false))
last_split [] = inl refl
last_split (b ∷ q) = more (last_split q)
  where
    here : (x : Bool) → (b == 47) ≡ x → slashed q ≡ false → (slashed (b ∷ q) ≡ false) ⊎ ((folder : Path) × (name : Path) × (b ∷ q ≡ in_folder folder name) × (slashed name ≡ false))
    here true e none = inr ([], q, ap (λ x. x ∷ q) (eqb-true b 47 e), none)
    here false e none = inl (ap (λ x. x || slashed q) e ∙ none)

    more : (slashed q ≡ false) ⊎ ((folder : Path) × (name : Path) × (q ≡ in_folder folder name) × (slashed name ≡ false)) → (slashed (b ∷ q) ≡ false) ⊎ ((folder : Path) × (name : Path) × (b ∷ q ≡ in_folder folder name) × (slashed name ≡ false))
    more (inl none) = here (b == 47) refl none
    more (inr h) = inr (b ∷ h.0, h.1, ap (λ t. b ∷ t) h.2, h.3)

parts_one : (q : Path) → slashed q ≡ false → parts q ≡ q ∷ []
parts_one [] h = refl
parts_one (b ∷ q) h =
    let both = or_false (b == 47) (slashed q) h in
    ap (λ x. if x then [] ∷ parts q else to_first b (parts q)) both.0 ∙ ap (to_first b) (parts_one q both.1)

-- a text without slashes that has names is one
one_name : (q : Path) → slashed q ≡ false → has_names q ≡ true → is_name q ≡ true
one_name q none named =
    let f : Path → Bool = λ part. nat_le 1 (length part) in
    both_true (nat_le 1 (length q)) (not (slashed q)) (and_first (nat_le 1 (length q)) true (sym (ap (list_all f) (parts_one q none)) ∙ named)) (ap not none)

last_name : (folder name : Path) → has_names (in_folder folder name) ≡ true → has_names name ≡ true
last_name folder name named =
    let f : Path → Bool = λ part. nat_le 1 (length part) in
    and_second (list_all f (parts folder)) (list_all f (parts name)) (sym (ap (list_all f) (parts_append folder name) ∙ list_all-append f (parts folder) (parts name)) ∙ named)

-- ## What stands

pub folder_some : (s : NodeState) → reads_folder s ≡ true → IsSome (reading s)
folder_some Owned h = absurd (never_both false h refl)
folder_some (Known None besides) h = absurd (never_both false h refl)
folder_some (Known (Some (Regular bytes time read_only)) besides) h = absurd (never_both false h refl)
folder_some (Known (Some Directory) besides) h = refl

pub folder_stands : (s : NodeState) → reads_folder s ≡ true → Stands s
folder_stands Owned h = absurd (never_both false h refl)
folder_stands (Known None besides) h = absurd (never_both false h refl)
folder_stands (Known (Some (Regular bytes time read_only)) besides) h = absurd (never_both false h refl)
folder_stands (Known (Some Directory) besides) h = tt

pub stands_some : (s : NodeState) → Stands s → IsSome (reading s)
stands_some Owned h = absurd h
stands_some (Known None besides) h = absurd h
stands_some (Known (Some node) besides) h = refl

pub some_stands : (s : NodeState) → IsSome (reading s) → Stands s
some_stands Owned h = absurd (never_both false h refl)
some_stands (Known None besides) h = absurd (never_both false h refl)
some_stands (Known (Some node) besides) h = tt

-- the place has a name in a folder
abbrev IsInFolder : Nodes → Path → Type 0
IsInFolder nodes q = (folder : Path) × (name : Path) × (q ≡ in_folder folder name) × (is_name name ≡ true) × (reads_folder (nodes folder) ≡ true)

module _ (w : World) (tree : IsTree w) where
  -- what stands has a name, at the top or in a folder
  placed : (q : Path) → IsSome (reading (w.nodes q)) → (is_name q ≡ true) ⊎ IsInFolder w.nodes q
  placed q some = by (last_split q)
    where
      by : (slashed q ≡ false) ⊎ ((folder : Path) × (name : Path) × (q ≡ in_folder folder name) × (slashed name ≡ false)) → (is_name q ≡ true) ⊎ IsInFolder w.nodes q
      by (inl none) = inl (one_name q none (tree q some).named)
      by (inr h) = inr (
        h.0,
        h.1,
        h.2,
        one_name h.1 h.3 (last_name h.0 h.1 (ap has_names (sym h.2) ∙ (tree q some).named)),
        tree_folder w tree h.0 h.1 (subst (λ x. IsSome (reading (w.nodes x))) h.2 some),
      )

  found_in : (n : ℕ) (p q : Path) → length q ≤ n → is_under q p ≡ true → Stands (w.nodes q) → IsFound w.nodes p q
  found_in zero p q few under st =
      let r = rest_under q p under in
      let len : length q ≡ length p + suc (length r.0) = ap length r.1 ∙ length-append p (47 ∷ r.0) in
      absurd (omega (arith, few, len))
  found_in (suc n) p q few under st =
      let r = rest_under q p under in
      elim (placed q (stands_some (w.nodes q) st)) [
        | inl is ↦ absurd (no_name p r.0 (subst (λ (t : Path). is_name t ≡ true) r.1 is))
        | inr h ↦ elim (last_part p r.0 h.0 h.1 h.3 (sym r.1 ∙ h.2)) [
          | inl same ↦
              let at : q ≡ in_folder p h.1 = h.2 ∙ ap (λ (t : Path). in_folder t h.1) (sym same.0) in
              subst (IsFound w.nodes p) (sym at) (Inside h.1 h.3 (subst (λ (t : Path). Stands (w.nodes t)) at st))
          | inr m ↦
              let len : length q ≡ length h.0 + suc (length h.1) = ap length h.2 ∙ length-append h.0 (47 ∷ h.1) in
              subst (IsFound w.nodes p) (sym h.2)
              (Deeper h.0 h.1
              (found_in n p h.0 (omega (arith, few, len)) (subst (λ (t : Path). is_under t p ≡ true) (sym m.1) (under_folder p m.0)) (folder_stands (w.nodes h.0) h.4))
              h.4 h.3 (subst (λ (t : Path). Stands (w.nodes t)) h.2 st))
        ]
      ]

  -- going from folder to folder finds all
  pub tree_found : (p : Path) → AllIsFound w.nodes p
  tree_found p q under st = found_in (length q) p q (omega arith) under st
