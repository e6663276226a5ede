-- The steps that are made for nodes lead to a world with just these.
use Rattle.std.proofs.Common.{◌≡◌, ◌⊎◌, inl, inr, ℕ, Bool, true, false, ◌||◌, ◌&&◌, List, [], ◌∷◌, ◌++◌, refl, ap, sym, subst, ◌∙◌, Option, Some, None, bytes_eq, codes}
use Rattle.std.specs.Prelude.{if◌then◌else◌, is_some}
use Rattle.std.proofs.lemmas.Bool.{false≢true, or_left, or_right}
use Rattle.smk_base.specs.Path.{is_under}
use Rattle.smk_base.proofs.Places.{same_place}
use Rattle.smk_base.proofs.Under.{or_cases}
use Rattle.smk_world.specs.declared.event.Node.{Node}
use Rattle.smk_world.specs.declared.event.Node.TheVariants.{Regular, Directory}
use Rattle.smk_world.specs.World.{World, firmly, firm, with_folder, is_named}
use Rattle.smk_world.specs.Folders.{AreInFolders}
use Rattle.smk_world_nodes.specs.Nodes.{node_at}
use Rattle.smk_world_nodes.specs.Steps.{step_world, now_there, replay, empty_world}
use Rattle.smk_world_nodes.specs.declared.nodes.Nodes.{Nodes}
use Rattle.smk_world_nodes.specs.declared.step.Step.{Step}
use Rattle.smk_world_nodes.specs.declared.step.Step.TheVariants.{Put}
use Rattle.smk_world_crash.specs.Crash.{own_folders, own_steps, put_there, puts, LeadTo, OnlyAt}
use Rattle.smk_world_crash.proofs.Images.{named_above}

pub replay_both : (w : World) (ss ts : List Step) → replay w (ss ++ ts) ≡ replay (replay w ss) ts
replay_both w [] ts = refl
replay_both w (s ∷ ss) ts = replay_both (step_world w s) ss ts

abbrev own : List ℕ
own = codes ".snakemake"

abbrev engine : List ℕ
engine = codes ".snakemake/smk"

abbrev lock : List ℕ
lock = codes ".snakemake/smk/lock"

named_two : (q a b : List ℕ) → is_named q (a ∷ (b ∷ [])) ≡ true → (q ≡ a) ⊎ (q ≡ b)
named_two q a b h =
    elim (or_cases (bytes_eq q a) (bytes_eq q b || false) h) [
      | inl here ↦ inl (same_place q a here)
      | inr more ↦ elim (or_cases (bytes_eq q b) false more) [ inl here ↦ inr (same_place q b here) | inr none ↦ absurd (false≢true none) ]
    ]

module _ (nodes : Nodes) where
  -- Some of the nodes stand in the world, firmly, and nothing else; those that are done do.
  record IsHalf (done : List ℕ → Bool) (w : World) : Type 0 where
    known : (q : List ℕ) → (w.nodes q ≡ firmly None) ⊎ (w.nodes q ≡ firmly (node_at nodes q))
    there : (q : List ℕ) → done q ≡ true → w.nodes q ≡ firmly (node_at nodes q)
    children : w.children ≡ []
    log : w.log ≡ []

  half_as : (done less : List ℕ → Bool) (w : World) → ((q : List ℕ) → less q ≡ true → done q ≡ true) → IsHalf done w → IsHalf less w
  half_as done less w back h = record { known = h.known; there = λ q d. h.there q (back q d); children = h.children; log = h.log }

  module _ (tree : AreInFolders (node_at nodes)) where
    half_put : (p : List ℕ) (n : Node) (done : List ℕ → Bool) (w : World) → node_at nodes p ≡ Some n → IsHalf done w → IsHalf (λ q. bytes_eq q p || done q) (step_world w (Put p n))
    half_put p n done w at h = record {
      known = λ q. elim (go q (bytes_eq q p) refl (is_under p q) refl) [ inl is ↦ inr is | inr same ↦ elim (h.known q) [ inl none ↦ inl (same.0 ∙ none) | inr is ↦ inr (same.0 ∙ is) ] ];
      there = λ q d.
          elim (go q (bytes_eq q p) refl (is_under p q) refl) [
            | inl is ↦ is
            | inr same ↦ same.0 ∙ h.there q (subst (λ b. (b || done q) ≡ true) same.1 d)
          ];
      children = h.children;
      log = h.log;
    }
      where
        go : (q : List ℕ) (b : Bool) → bytes_eq q p ≡ b → (u : Bool) → is_under p q ≡ u
            → ((if b then now_there (Some n) (w.nodes q) else (if u then firm (with_folder (w.nodes q)) else w.nodes q)) ≡ firmly (node_at nodes q))
            ⊎ (((if b then now_there (Some n) (w.nodes q) else (if u then firm (with_folder (w.nodes q)) else w.nodes q)) ≡ w.nodes q) × (b ≡ false))
        go q true e u f =
            let is : Some n ≡ node_at nodes q = sym at ∙ ap (node_at nodes) (sym (same_place q p e)) in
            inl (elim (h.known q) [ inl none ↦ ap (now_there (Some n)) none ∙ ap firmly is | inr there ↦ ap (now_there (Some n)) there ∙ ap firmly is ])
        go q false e true f =
            let folder : Some Directory ≡ node_at nodes q = sym ((tree p (ap is_some at)).folders q f) in
            inl (elim (h.known q) [
              | inl none ↦ ap (λ s. firm (with_folder s)) none ∙ ap firmly folder
              | inr there ↦ ap (λ s. firm (with_folder s)) (there ∙ ap firmly (sym folder)) ∙ ap firmly folder
            ])
        go q false e false f = inr (refl, refl)

    more : (a b c : Bool) → ((a || b) || c) ≡ true → (b || (a || c)) ≡ true
    more true true c h = refl
    more true false c h = refl
    more false b c h = h

    half_puts : (made : Bool) (qs : List (List ℕ)) (done : List ℕ → Bool) (w : World) → ((q : List ℕ) → (made && is_named q own_folders) ≡ true → done q ≡ true) → IsHalf done w
        → IsHalf (λ q. is_named q qs || done q) (replay w (puts made nodes qs))
    half_puts made [] done w own_done h = h
    half_puts made (p ∷ qs) done w own_done h =
        subst (IsHalf (λ q. (bytes_eq q p || is_named q qs) || done q)) (sym (replay_both w (put_there made p (node_at nodes p)) (puts made nodes qs)))
        (half_as (λ q. is_named q qs || (bytes_eq q p || done q)) (λ q. (bytes_eq q p || is_named q qs) || done q) _ (λ q d. more (bytes_eq q p) (is_named q qs) (done q) d)
        (half_puts made qs (λ q. bytes_eq q p || done q) _ (λ q d. or_right (bytes_eq q p) (done q) (own_done q d)) (one (node_at nodes p) refl)))
      where
        -- nothing is put, since what is to be there is
        kept : ((q : List ℕ) → q ≡ p → w.nodes q ≡ firmly (node_at nodes q)) → IsHalf (λ q. bytes_eq q p || done q) w
        kept at = record {
          known = h.known;
          there = λ q d. elim (or_cases (bytes_eq q p) (done q) d) [ inl here ↦ at q (same_place q p here) | inr there ↦ h.there q there ];
          children = h.children;
          log = h.log;
        }

        nothing : node_at nodes p ≡ None → (q : List ℕ) → q ≡ p → w.nodes q ≡ firmly (node_at nodes q)
        nothing none q e =
            let gone : None ≡ node_at nodes q = sym (ap (node_at nodes) e ∙ none) in
            elim (h.known q) [ inl is ↦ is ∙ ap firmly gone | inr is ↦ is ]

        placed : (n : Node) → node_at nodes p ≡ Some n → (b : Bool) → (made && is_named p own_folders) ≡ b → IsHalf (λ q. bytes_eq q p || done q) (replay w (if b then [] else Put p n ∷ []))
        placed n at true skip = kept (λ q e. h.there q (own_done q (subst (λ t. (made && is_named t own_folders) ≡ true) (sym e) skip)))
        placed n at false skip = half_put p n done w at h

        one : (o : Option Node) → node_at nodes p ≡ o → IsHalf (λ q. bytes_eq q p || done q) (replay w (put_there made p o))
        one None at = kept (nothing at)
        one (Some n) at = placed n at (made && is_named p own_folders) refl

  -- the two folders over the lock
  module _ (dirs : (node_at nodes own ≡ Some Directory) × (node_at nodes engine ≡ Some Directory)) where
    own_there : (q : List ℕ) → is_named q own_folders ≡ true → node_at nodes q ≡ Some Directory
    own_there q h = elim (named_two q own engine h) [ inl e ↦ ap (node_at nodes) e ∙ dirs.0 | inr e ↦ ap (node_at nodes) e ∙ dirs.1 ]

    half_own : IsHalf (λ q. is_named q own_folders) (replay empty_world (own_steps true))
    half_own = record {
      known = λ q. go q (bytes_eq q lock) (is_under q lock) (is_under lock q) refl;
      there = λ q d.
          elim (named_two q own engine d) [
            | inl e ↦ subst (λ t. (replay empty_world (own_steps true)).nodes t ≡ firmly (node_at nodes t)) (sym e) (ap firmly (sym dirs.0))
            | inr e ↦ subst (λ t. (replay empty_world (own_steps true)).nodes t ≡ firmly (node_at nodes t)) (sym e) (ap firmly (sym dirs.1))
          ];
      children = refl;
      log = refl;
    }
      where
        go : (q : List ℕ) (b v u : Bool) → is_under lock q ≡ u
            → ((if b || v then now_there None (if b then firmly (Some (Regular [] 0 false)) else (if u then firmly (Some Directory) else firmly None)) else (if b then firmly (Some (Regular [] 0 false)) else (if u then firmly (Some Directory) else firmly None))) ≡ firmly None)
            ⊎ ((if b || v then now_there None (if b then firmly (Some (Regular [] 0 false)) else (if u then firmly (Some Directory) else firmly None)) else (if b then firmly (Some (Regular [] 0 false)) else (if u then firmly (Some Directory) else firmly None))) ≡ firmly (node_at nodes q))
        go q true v u e = inl refl
        go q false true true e = inl refl
        go q false true false e = inl refl
        go q false false true e = inr (ap firmly (sym (own_there q (named_above lock q ∙ e))))
        go q false false false e = inl refl

half_none : (nodes : Nodes) → IsHalf nodes (λ q. false) empty_world
half_none nodes = record { known = λ q. inl refl; there = λ q d. absurd (false≢true d); children = refl; log = refl }

pub led : (made : Bool) (nodes : Nodes) (names : List (List ℕ)) → AreInFolders (node_at nodes) → (made ≡ true → (node_at nodes own ≡ Some Directory) × (node_at nodes engine ≡ Some Directory))
    → OnlyAt names nodes → LeadTo (own_steps made ++ puts made nodes names) nodes
led made nodes names tree dirs only = record { nodes_are = λ q. at q (is_named q names) refl; tree = tree; children = half.children; log = half.log }
  where
    begun : (b : Bool) → made ≡ b → IsHalf nodes (λ q. b && is_named q own_folders) (replay empty_world (own_steps b))
    begun true e = half_own nodes (dirs e)
    begun false e = half_none nodes

    half : IsHalf nodes (λ q. is_named q names || (made && is_named q own_folders)) (replay empty_world (own_steps made ++ puts made nodes names))
    half =
        subst (IsHalf nodes (λ q. is_named q names || (made && is_named q own_folders))) (sym (replay_both empty_world (own_steps made) (puts made nodes names)))
        (half_puts nodes tree made names (λ q. made && is_named q own_folders) (replay empty_world (own_steps made)) (λ q d. d) (begun made refl))

    at : (q : List ℕ) (b : Bool) → is_named q names ≡ b → (replay empty_world (own_steps made ++ puts made nodes names)).nodes q ≡ firmly (node_at nodes q)
    at q true e = half.there q (or_left (is_named q names) (made && is_named q own_folders) e)
    at q false e = elim (half.known q) [ inl none ↦ none ∙ ap firmly (sym (only q e)) | inr is ↦ is ]
