-- The candidates for a path, as they are listed from what is read of the rules.
use Rattle.std.proofs.Common.{◌≡◌, ℕ, zero, suc, ◌+◌, ◌<◌, ◌&&◌, not, Bool, true, false, cond, List, [], ◌∷◌, ◌++◌, map, filter, take, get_or, length, Option, Some, None, option_map, slice_get, refl, sym, ap, ap₂, ◌∙◌, arith}
use Rattle.std.specs.List.{flat_map, filter_map, cons_option, enumerate_from, list_all, AllByRecursion}
use Rattle.std.proofs.lemmas.List.{map-append, take_more, append_assoc, length_push}
use Rattle.std.proofs.lemmas.List.Folds.{list_all-append}
use Rattle.std.proofs.lemmas.List.Elements.{filter-append}
use Rattle.std.proofs.lemmas.Option.{get_or_from_slice_get}
use Rattle.smk_base.specs.declared.tree.Pair.{Pair}
use Rattle.smk_base.specs.Path.{is_path}
use Rattle.smk_world.specs.World.{folders_above}
use Rattle.smk_world.specs.Trees.{Path, first}
use Rattle.smk_pattern.specs.Shapes.{Text, Shape}
use Rattle.smk_pattern.specs.Reading.{fill, shape_of}
use Rattle.smk_pattern.proofs.FillPieces.{fill_is_filled}
use Rattle.smk_flow.specs.declared.rule.RulePart.{RulePart}
use Rattle.smk_flow.specs.declared.rule.OutPart.{OutPart}
use Rattle.smk_flow.specs.declared.rule.FlaggedText.{FlaggedText}
use Rattle.smk_flow.specs.declared.workflow.Rule.{Rule}
use Rattle.smk_flow.specs.Flows.{Flow, Candidate, makes_folder, outs, outputs, logs, numbered}
use Rattle.smk_flow.specs.PatternsOf.{rule_of}
use Rattle.smk_choose.specs.declared.readings.Reading.{Reading}
use Rattle.smk_choose.specs.Choose.{Sources, candidate, fit, as_member, as_output, or_else, is_apart, candidates}
use Rattle.smk_choose.specs.Told.{making}
use Rattle.smk_choose.specs.Readings.{folders_in, reading_of, bound_by, first_bound, filled_by, making_at, listed, by_folder, by_folders, members_from, outputs_from, or_others, is_free, is_apart_in, is_apart_by}
use Rattle.smk_choose.proofs.ByName.{rule_found}

-- ---- lists

pub map_map : {A B C : Type 0} (f : B → C) (g : A → B) (xs : List A) → map f (map g xs) ≡ map (λ x. f (g x)) xs
map_map f g [] = refl
map_map f g (x ∷ xs) = ap (λ ys. f (g x) ∷ ys) (map_map f g xs)

filter_map-map : {A B C : Type 0} (h : B → Option C) (g : A → B) (xs : List A) → filter_map h (map g xs) ≡ filter_map (λ x. h (g x)) xs
filter_map-map h g [] = refl
filter_map-map h g (x ∷ xs) = ap (cons_option (h (g x))) (filter_map-map h g xs)

pub readings_step : (flow : Flow) (rules : List RulePart) (i : ℕ) (rule : Rule) (made new : List Reading) → i < length rules → rule ≡ get_or (map rule_of rules) i rule →
    made ≡ map (reading_of flow) (take i rules) → new ≡ made ++ reading_of flow rule.part ∷ [] → new ≡ map (reading_of flow) (take (i + 1) rules)
readings_step flow rules i rule made new lt at w e =
    e ∙ ap (λ xs. xs ++ reading_of flow rule.part ∷ []) w
    ∙ sym (
    ap (map (reading_of flow)) (take_more rules i rule.part lt)
    ∙ map-append (reading_of flow) (take i rules) (get_or rules i rule.part ∷ [])
    ∙ ap (λ p. map (reading_of flow) (take i rules) ++ reading_of flow p ∷ []) (get_or_from_slice_get rules i rule.part rule.part (rule_found rules i rule lt at)))

-- ---- one rule

abbrev shape_out : List Pair → FlaggedText → Shape
shape_out limits o = shape_of limits o.text

fits_first : (part : RulePart) (texts : List FlaggedText) (p : Path) → fit part texts p ≡ first_bound (map (shape_out part.limits) texts) p
fits_first part texts p = ap first (sym (filter_map-map (bound_by p) (shape_out part.limits) texts))

folders_flat : (limits : List Pair) (items : List OutPart) →
    map (shape_out limits) (filter makes_folder (flat_map (λ (i : OutPart). i.outs) items)) ≡ flat_map (λ (i : OutPart). folders_in limits i.outs) items
folders_flat limits [] = refl
folders_flat limits (i ∷ items) =
    ap (map (shape_out limits)) (filter-append makes_folder i.outs (flat_map (λ (i : OutPart). i.outs) items))
    ∙ map-append (shape_out limits) (filter makes_folder i.outs) (filter makes_folder (flat_map (λ (i : OutPart). i.outs) items))
    ∙ ap (λ xs. folders_in limits i.outs ++ xs) (folders_flat limits items)

by_each : (r : ℕ × RulePart) (g : Path → Option (List Pair)) (fs : List Path) →
    map making (filter_map (λ f. option_map (candidate r) (g f)) fs) ≡ flat_map (λ f. listed (option_map (making_at r.0) (g f))) fs
by_each r g [] = refl
by_each r g (f ∷ fs) = go (g f) ∙ ap (λ xs. listed (option_map (making_at r.0) (g f)) ++ xs) (by_each r g fs)
  where
    go : (o : Option (List Pair)) → map making (cons_option (option_map (candidate r) o) (filter_map (λ f. option_map (candidate r) (g f)) fs))
        ≡ listed (option_map (making_at r.0) o) ++ map making (filter_map (λ f. option_map (candidate r) (g f)) fs)
    go None = refl
    go (Some b) = refl

no_folders : (n : ℕ) (fs : List Path) → by_folders n [] fs ≡ []
no_folders n [] = refl
no_folders n (f ∷ fs) = no_folders n fs

flat_same : {A B : Type 0} (f g : A → List B) → ((x : A) → f x ≡ g x) → (xs : List A) → flat_map f xs ≡ flat_map g xs
flat_same f g same [] = refl
flat_same f g same (x ∷ xs) = ap₂ ◌++◌ (same x) (flat_same f g same xs)

-- ---- all rules

abbrev members_of : List Path → ℕ × RulePart → List Candidate
members_of fs r = filter_map (λ (f : Path). option_map (candidate r) (fit r.1 (filter makes_folder (outs r.1)) f)) fs

abbrev is_checkpoint : ℕ × RulePart → Bool
is_checkpoint r = r.1.checkpoint

one_checkpoint : (n : ℕ) (r : RulePart) (fs : List Path) →
    map making (members_of fs (n, r)) ≡ by_folders n (flat_map (λ (i : OutPart). folders_in r.limits i.outs) r.outputs) fs
one_checkpoint n r fs =
    by_each (n, r) (λ f. fit r (filter makes_folder (outs r)) f) fs
    ∙ flat_same (λ f. listed (option_map (making_at n) (fit r (filter makes_folder (outs r)) f))) (by_folder n (flat_map (λ (i : OutPart). folders_in r.limits i.outs) r.outputs))
    (λ f. ap (λ (o : Option (List Pair)). listed (option_map (making_at n) o)) (fits_first r (filter makes_folder (outs r)) f ∙ ap (λ (ss : List Shape). first_bound ss f) (folders_flat r.limits r.outputs)))
    fs

pub all_members : (flow : Flow) (rules : List RulePart) (n : ℕ) (fs : List Path) →
    map making (flat_map (members_of fs) (filter is_checkpoint (enumerate_from n rules))) ≡ members_from n (map (reading_of flow) rules) fs
all_members flow [] n fs = refl
all_members flow (r ∷ rules) n fs = go r.checkpoint (all_members flow rules (n + 1) fs)
  where
    later : List (ℕ × RulePart)
    later = filter is_checkpoint (enumerate_from (n + 1) rules)

    go : (b : Bool) → map making (flat_map (members_of fs) later) ≡ members_from (n + 1) (map (reading_of flow) rules) fs →
        map making (flat_map (members_of fs) (cond b ((n, r) ∷ later) later))
        ≡ by_folders n (cond b (flat_map (λ (i : OutPart). folders_in r.limits i.outs) r.outputs) []) fs ++ members_from (n + 1) (map (reading_of flow) rules) fs
    go true more =
        map-append making (members_of fs (n, r)) (flat_map (members_of fs) later) ∙ ap₂ ◌++◌ (one_checkpoint n r fs) more
    go false more = more ∙ ap (λ xs. xs ++ members_from (n + 1) (map (reading_of flow) rules) fs) (sym (no_folders n fs))

abbrev output_of : Path → ℕ × RulePart → Option Candidate
output_of p r = option_map (candidate r) (fit r.1 (outs r.1) p)

pub all_outputs : (rules : List RulePart) (n : ℕ) (p : Path) → map making (filter_map (output_of p) (enumerate_from n rules)) ≡ outputs_from n (map rule_of rules) p
all_outputs [] n p = refl
all_outputs (r ∷ rules) n p =
    go (fit r (outs r) p)
    ∙ ap₂ ◌++◌ (ap (λ (o : Option (List Pair)). listed (option_map (making_at n) o)) fitted) (all_outputs rules (n + 1) p)
  where
    fitted : fit r (outs r) p ≡ first_bound (rule_of r).outputs p
    fitted = fits_first r (outs r) p ∙ ap (λ (ss : List Shape). first_bound ss p) (sym (map_map (shape_of r.limits) (λ (o : FlaggedText). o.text) (outs r)))

    go : (o : Option (List Pair)) → map making (cons_option (option_map (candidate (n, r)) o) (filter_map (output_of p) (enumerate_from (n + 1) rules)))
        ≡ listed (option_map (making_at n) o) ++ map making (filter_map (output_of p) (enumerate_from (n + 1) rules))
    go None = refl
    go (Some b) = refl

or_both : (a b : List Candidate) → map making (or_else a b) ≡ or_others (map making a) (map making b)
or_both [] b = refl
or_both (c ∷ a) b = refl

-- ---- each candidate's rule is at its number

abbrev pub Placed : List RulePart → Candidate → Type 0
Placed rules c = slice_get rules c.rule ≡ Some c.part

abbrev pub PlacedRule : List RulePart → ℕ × RulePart → Type 0
PlacedRule rules r = slice_get rules r.0 ≡ Some r.1

at_place : (before : List RulePart) (r : RulePart) (after : List RulePart) → slice_get (before ++ r ∷ after) (length before) ≡ Some r
at_place [] r after = refl
at_place (b ∷ before) r after = at_place before r after

all_placed : (all before rules : List RulePart) (n : ℕ) → all ≡ before ++ rules → n ≡ length before → AllByRecursion (PlacedRule all) (enumerate_from n rules)
all_placed all before [] n e f = tt
all_placed all before (r ∷ rules) n e f =
    (ap₂ slice_get e f ∙ at_place before r rules, all_placed all (before ++ r ∷ []) rules (n + 1) (e ∙ sym (append_assoc before (r ∷ []) rules)) (omega (arith, f, length_push before r)))

pub all_filter : {A : Type 0} (P : A → Type 0) (p : A → Bool) (xs : List A) → AllByRecursion P xs → AllByRecursion P (filter p xs)
all_filter P p [] all = tt
all_filter P p (x ∷ xs) all = go (p x) (all_filter P p xs all.1)
  where
    go : (b : Bool) → AllByRecursion P (filter p xs) → AllByRecursion P (cond b (x ∷ filter p xs) (filter p xs))
    go true rest = (all.0, rest)
    go false rest = rest

pub all_append : {A : Type 0} (P : A → Type 0) (xs ys : List A) → AllByRecursion P xs → AllByRecursion P ys → AllByRecursion P (xs ++ ys)
all_append P [] ys a b = b
all_append P (x ∷ xs) ys a b = (a.0, all_append P xs ys a.1 b)

members_placed : (rules : List RulePart) (fs : List Path) (r : ℕ × RulePart) → PlacedRule rules r → AllByRecursion (Placed rules) (members_of fs r)
members_placed rules [] r at = tt
members_placed rules (f ∷ fs) r at = go (fit r.1 (filter makes_folder (outs r.1)) f) (members_placed rules fs r at)
  where
    go : (o : Option (List Pair)) → AllByRecursion (Placed rules) (members_of fs r) → AllByRecursion (Placed rules) (cons_option (option_map (candidate r) o) (members_of fs r))
    go None rest = rest
    go (Some b) rest = (at, rest)

all_members_placed : (rules : List RulePart) (fs : List Path) (rs : List (ℕ × RulePart)) → AllByRecursion (PlacedRule rules) rs → AllByRecursion (Placed rules) (flat_map (members_of fs) rs)
all_members_placed rules fs [] all = tt
all_members_placed rules fs (r ∷ rs) all = all_append (Placed rules) (members_of fs r) (flat_map (members_of fs) rs) (members_placed rules fs r all.0) (all_members_placed rules fs rs all.1)

outputs_placed : (rules : List RulePart) (p : Path) (rs : List (ℕ × RulePart)) → AllByRecursion (PlacedRule rules) rs → AllByRecursion (Placed rules) (filter_map (output_of p) rs)
outputs_placed rules p [] all = tt
outputs_placed rules p (r ∷ rs) all = go (fit r.1 (outs r.1) p) (outputs_placed rules p rs all.1)
  where
    go : (o : Option (List Pair)) → AllByRecursion (Placed rules) (filter_map (output_of p) rs) → AllByRecursion (Placed rules) (cons_option (option_map (candidate r) o) (filter_map (output_of p) rs))
    go None rest = rest
    go (Some b) rest = (all.0, rest)

or_placed : (rules : List RulePart) (a b : List Candidate) → AllByRecursion (Placed rules) a → AllByRecursion (Placed rules) b → AllByRecursion (Placed rules) (or_else a b)
or_placed rules [] b x y = y
or_placed rules (c ∷ a) b x y = x

pub listed_placed : (flow : Flow) (p : Path) → AllByRecursion (Placed flow.rules) (or_else (as_member flow p) (as_output flow p))
listed_placed flow p =
    let placed = all_placed flow.rules [] flow.rules 0 refl refl in
    or_placed flow.rules (as_member flow p) (as_output flow p)
    (all_members_placed flow.rules (folders_above p) (filter is_checkpoint (numbered flow)) (all_filter (PlacedRule flow.rules) is_checkpoint (numbered flow) placed))
    (outputs_placed flow.rules p (numbered flow) placed)

pub candidates_placed : (flow : Flow) (sources : Sources) (p : Path) → AllByRecursion (Placed flow.rules) (candidates flow sources p)
candidates_placed flow sources p = all_filter (Placed flow.rules) (is_apart flow sources) (or_else (as_member flow p) (as_output flow p)) (listed_placed flow p)

-- ---- apart

all_free : {A : Type 0} (holds : Path → Bool) (binding : List Pair) (t : A → Text) (s : A → Shape) → ((x : A) → filled_by binding (s x) ≡ t x) → (xs : List A) →
    list_all (λ q. is_path q && not (holds q)) (map t xs) ≡ list_all (is_free holds binding) (map s xs)
all_free holds binding t s same [] = refl
all_free holds binding t s same (x ∷ xs) = ap₂ ◌&&◌ (ap (λ q. is_path q && not (holds q)) (sym (same x))) (all_free holds binding t s same xs)

pub at_rule : (rules : List RulePart) (n : ℕ) (part : RulePart) → slice_get rules n ≡ Some part → slice_get (map rule_of rules) n ≡ Some (rule_of part)
at_rule [] n part e = absurd (none part e)
  where
    none : (x : RulePart) → None ≡ Some x → ⊥
    none x e = cc
at_rule (r ∷ rules) zero part e = ap (option_map rule_of) e
at_rule (r ∷ rules) (suc n) part e = at_rule rules n part e

same_apart : (flow : Flow) (sources : Sources) (c : Candidate) → Placed flow.rules c → is_apart flow sources c ≡ is_apart_by sources.holds (map rule_of flow.rules) (making c)
same_apart flow sources c at =
    list_all-append (λ q. is_path q && not (sources.holds q)) (outputs flow c) (logs flow c)
    ∙ ap₂ ◌&&◌
    (all_free sources.holds c.binding (λ (o : FlaggedText). fill c.binding o.text) (shape_out c.part.limits) (λ o. fill_is_filled c.part.limits o.text c.binding) (outs c.part)
    ∙ ap (list_all (is_free sources.holds c.binding)) (sym (map_map (shape_of c.part.limits) (λ (o : FlaggedText). o.text) (outs c.part))))
    (all_free sources.holds c.binding (fill c.binding) (shape_of []) (λ t. fill_is_filled [] t c.binding) c.part.logs)
    ∙ ap (is_apart_in sources.holds c.binding) (sym (at_rule flow.rules c.rule c.part at))

pub filter_making : (flow : Flow) (sources : Sources) (cs : List Candidate) → AllByRecursion (Placed flow.rules) cs →
    map making (filter (is_apart flow sources) cs) ≡ filter (is_apart_by sources.holds (map rule_of flow.rules)) (map making cs)
filter_making flow sources [] all = refl
filter_making flow sources (c ∷ cs) all =
    go (is_apart flow sources c) (filter_making flow sources cs all.1)
    ∙ ap (λ b. cond b (making c ∷ filter (is_apart_by sources.holds (map rule_of flow.rules)) (map making cs)) (filter (is_apart_by sources.holds (map rule_of flow.rules)) (map making cs)))
    (same_apart flow sources c all.0)
  where
    go : (b : Bool) → map making (filter (is_apart flow sources) cs) ≡ filter (is_apart_by sources.holds (map rule_of flow.rules)) (map making cs) →
        map making (cond b (c ∷ filter (is_apart flow sources) cs) (filter (is_apart flow sources) cs))
        ≡ cond b (making c ∷ filter (is_apart_by sources.holds (map rule_of flow.rules)) (map making cs)) (filter (is_apart_by sources.holds (map rule_of flow.rules)) (map making cs))
    go true more = ap (λ xs. making c ∷ xs) more
    go false more = more

pub fitting_listed : (flow : Flow) (p : Path) →
    map making (or_else (as_member flow p) (as_output flow p))
    ≡ or_others (members_from 0 (map (reading_of flow) flow.rules) (folders_above p)) (outputs_from 0 (map rule_of flow.rules) p)
fitting_listed flow p =
    or_both (as_member flow p) (as_output flow p)
    ∙ ap₂ or_others (all_members flow flow.rules 0 (folders_above p)) (all_outputs flow.rules 0 p)

pub map_same : {A B : Type 0} (f g : A → B) → ((x : A) → f x ≡ g x) → (xs : List A) → map f xs ≡ map g xs
map_same f g same [] = refl
map_same f g same (x ∷ xs) = ap₂ ◌∷◌ (same x) (map_same f g same xs)

-- what the patterns of a rule give is where its jobs write
pub outputs_filled : (flow : Flow) (c : Candidate) → map (filled_by c.binding) (rule_of c.part).outputs ≡ outputs flow c
outputs_filled flow c =
    ap (map (filled_by c.binding)) (map_map (shape_of c.part.limits) (λ (o : FlaggedText). o.text) (outs c.part))
    ∙ map_map (filled_by c.binding) (shape_out c.part.limits) (outs c.part)
    ∙ map_same (λ (o : FlaggedText). filled_by c.binding (shape_out c.part.limits o)) (λ (o : FlaggedText). fill c.binding o.text) (λ o. fill_is_filled c.part.limits o.text c.binding) (outs c.part)

pub logs_filled : (flow : Flow) (c : Candidate) → map (filled_by c.binding) (rule_of c.part).logs ≡ logs flow c
logs_filled flow c =
    map_map (filled_by c.binding) (shape_of []) c.part.logs
    ∙ map_same (λ (t : Text). filled_by c.binding (shape_of [] t)) (fill c.binding) (λ t. fill_is_filled [] t c.binding) c.part.logs

pub candidates_listed : (flow : Flow) (sources : Sources) (p : Path) →
    map making (candidates flow sources p)
    ≡ filter (is_apart_by sources.holds (map rule_of flow.rules))
    (or_others (members_from 0 (map (reading_of flow) flow.rules) (folders_above p)) (outputs_from 0 (map rule_of flow.rules) p))
candidates_listed flow sources p =
    filter_making flow sources (or_else (as_member flow p) (as_output flow p)) (listed_placed flow p)
    ∙ ap (filter (is_apart_by sources.holds (map rule_of flow.rules)))
    (or_both (as_member flow p) (as_output flow p)
    ∙ ap₂ or_others (all_members flow flow.rules 0 (folders_above p)) (all_outputs flow.rules 0 p))
