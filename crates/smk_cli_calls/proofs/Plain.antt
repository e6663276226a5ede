-- Rules by which no plan may grow make plain files and gather nothing.
use Rattle.std.proofs.Common.{◌≡◌, ℕ, ◌+◌, Bool, true, false, List, [], ◌∷◌, ◌++◌, map, inl, inr, refl, ap, subst, ◌∙◌, true≢false, Option, Some, None}
use Rattle.std.specs.Prelude.{if◌then◌else◌, is_some, ◌||◌}
use Rattle.std.specs.List.{enumerate_from, list_any}
use Rattle.smk_world.specs.declared.recipe.Kind.TheVariants.{Plain, Folder as FolderKind}
use Rattle.smk_world.specs.declared.recipe.Out.{Out}
use Rattle.smk_world.specs.declared.recipe.OutItem.{OutItem}
use Rattle.smk_world.specs.Trees.{Each, IsIn, outs_of}
use Rattle.smk_base.specs.declared.tree.Pair.{Pair}
use Rattle.smk_flow.specs.declared.rule.RulePart.{RulePart}
use Rattle.smk_flow.specs.declared.rule.InPart.{InPart}
use Rattle.smk_flow.specs.declared.rule.FlaggedText.{FlaggedText}
use Rattle.smk_flow.specs.declared.rule.GatherPart.{GatherPart}
use Rattle.smk_flow.specs.Flows.{Flow, Candidate, gather_at, gathers_from}
use Rattle.smk_flow.specs.Jobs.{filled_out, filled_outs, kind_of}
use Rattle.smk_chain.specs.Derive.{Listings, recipe}
use Rattle.smk_cli_calls.specs.OneByOne.{grows, is_folder, is_gathering, item_has_folders, may_grow}
use Rattle.smk_laws_plan.proofs.CurrentLists.{flat_in, map_in}

pub each_from : {A : Type 0} (P : A → Type 0) (xs : List A) → ((x : A) → IsIn xs x → P x) → Each P xs
each_from P [] f = tt
each_from P (x ∷ xs) f = (f x (inl refl), each_from P xs (λ y i. f y (inr i)))

-- neither of two
pub neither_is : (a b : Bool) → (a || b) ≡ false → (a ≡ false) × (b ≡ false)
neither_is true b e = absurd (true≢false e)
neither_is false b e = (refl, e)

-- what is so of none of them isn't so of this one
pub none_is : {A : Type 0} (test : A → Bool) (xs : List A) (x : A) → list_any test xs ≡ false → IsIn xs x → test x ≡ false
none_is test [] x h i = absurd i
none_is test (y ∷ xs) x h (inl e) = ap test e ∙ (neither_is (test y) (list_any test xs) h).0
none_is test (y ∷ xs) x h (inr i) = none_is test xs x (neither_is (test y) (list_any test xs) h).1 i

-- ## Rules

pub numbered_in : {A : Type 0} (xs : List A) (n k : ℕ) (x : A) → IsIn (enumerate_from n xs) (k, x) → IsIn xs x
numbered_in [] n k x h = absurd h
numbered_in (y ∷ xs) n k x (inl e) = inl (ap (λ w. w.1) e)
numbered_in (y ∷ xs) n k x (inr h) = inr (numbered_in xs (n + 1) k x h)

-- rules by which no plan may grow make no directory and gather nothing
pub plain_part : (parts : List RulePart) (part : RulePart) → grows parts ≡ false → IsIn parts part →
    (list_any item_has_folders part.outputs ≡ false) × (list_any is_gathering part.inputs ≡ false)
plain_part parts part h i =
    neither_is (list_any item_has_folders part.outputs) (list_any is_gathering part.inputs)
    (neither_is part.checkpoint (list_any item_has_folders part.outputs || list_any is_gathering part.inputs) (none_is may_grow parts part h i)).1

-- ## Outputs

plain_kind : (o : FlaggedText) → is_folder o ≡ false → kind_of o ≡ Plain
plain_kind o h = ap (λ b. if b then FolderKind else Plain) h

pub plain_outs : (flow : Flow) (L : Listings) (c : Candidate) → list_any item_has_folders c.part.outputs ≡ false → Each (λ (out : Out). out.kind ≡ Plain) (outs_of (recipe flow L c))
plain_outs flow L c h = each_from (λ (out : Out). out.kind ≡ Plain) (outs_of (recipe flow L c)) each
  where
    each : (out : Out) → IsIn (outs_of (recipe flow L c)) out → out.kind ≡ Plain
    each out i =
        let item = flat_in (λ (x : OutItem). x.outs) (map (filled_outs c.binding) c.part.outputs) out i in
        let part = map_in (filled_outs c.binding) c.part.outputs item.0 item.1 in
        let text = map_in (filled_out c.binding) part.0.outs out (subst (λ (x : OutItem). IsIn x.outs out) part.2 item.2) in
        ap (λ (x : Out). x.kind) text.2 ∙ plain_kind text.0 (none_is is_folder part.0.outs text.0 (none_is item_has_folders c.part.outputs part.0 h part.1) text.1)

-- ## Inputs

pub no_gathers :
    (flow : Flow) (limits binding : List Pair) (n : ℕ) (inputs : List InPart) →
    list_any is_gathering inputs ≡ false → gathers_from flow limits binding n inputs ≡ []
no_gathers flow limits binding n [] h = refl
no_gathers flow limits binding n (i ∷ inputs) h =
    let both = neither_is (is_gathering i) (list_any is_gathering inputs) h in
    go i.gather both.0 (no_gathers flow limits binding (n + 1) inputs both.1)
  where
    go : (o : Option GatherPart) → is_some o ≡ false → gathers_from flow limits binding (n + 1) inputs ≡ []
        → gather_at flow limits binding n o ++ gathers_from flow limits binding (n + 1) inputs ≡ []
    go None k more = more
    go (Some g) k more = absurd (true≢false k)
