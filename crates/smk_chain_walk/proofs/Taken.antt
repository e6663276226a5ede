-- What is taken of a choice and of its rule.
use Rattle.std.proofs.Common.{◌≡◌, ◌∙◌, ℕ, Bool, true, false, cond, List, [], ◌∷◌, ◌++◌, map, filter, Option, Some, None, Result, Ok, Err, IfErr, refl, sym, ap, subst}
use Rattle.std.specs.Prelude.{slice_get}
use Rattle.std.specs.List.{flat_map, find, filter_map, cons_option}
use Rattle.std.specs.Result.{IsErrAnd}
use Rattle.std.proofs.lemmas.Option.{none-some, same_Some}
use Rattle.smk_base.specs.Path.{is_path, is_under}
use Rattle.smk_world.specs.declared.recipe.Out.{Out}
use Rattle.smk_world.specs.Trees.{Path, is_folder_kind}
use Rattle.smk_pattern.specs.Shapes.{Text}
use Rattle.smk_flow.specs.declared.rule.RulePart.{RulePart}
use Rattle.smk_flow.specs.Flows.{Flow, Candidate}
use Rattle.smk_choose.specs.declared.choice.Chosen.TheVariants as told
use Rattle.smk_choose.specs.declared.choice.Making.{Making}
use Rattle.smk_choose.specs.Choose.{Choice, Source, Make, Nothing, Ambiguous}
use Rattle.smk_choose.specs.Told.{making, told_choice}
use Rattle.smk_choose_wants.specs.declared.wanted.Want.{Want}
use Rattle.smk_choose_wants.specs.declared.wanted.Want.TheVariants as want
use Rattle.smk_choose_wants.specs.Wants.{want_of}
use Rattle.smk_chain_walk.specs.Stepping.{over_in, path_in, text_in}

pub part_taken : (flow : Flow) (m : Making) (c : Candidate) (part : RulePart) → Some part ≡ slice_get flow.rules m.rule → m ≡ making c → slice_get flow.rules c.rule ≡ Some c.part → part ≡ c.part
part_taken flow m c part at is placed = same_Some part c.part (at ∙ ap (λ (x : Making). slice_get flow.rules x.rule) is ∙ placed)

pub none_taken : (flow : Flow) (m : Making) (c : Candidate) → None ≡ slice_get flow.rules m.rule → m ≡ making c → slice_get flow.rules c.rule ≡ Some c.part → ⊥
none_taken flow m c at is placed = none-some c.part (at ∙ ap (λ (x : Making). slice_get flow.rules x.rule) is ∙ placed)

-- ---- choices

making_is : (x y : Making) → told.Make x ≡ told.Make y → x ≡ y
making_is x y e = cc

pub made_taken : (ch : Choice) (m : Making) → Some (told.Make m) ≡ Some (told_choice ch) → (c : Candidate) × (ch ≡ Make c) × (m ≡ making c)
made_taken Source m e = absurd cc
made_taken (Make c) m e = (c, refl, making_is m (making c) (same_Some (told.Make m) (told.Make (making c)) e))
made_taken (Nothing l) m e = absurd cc
made_taken (Ambiguous a b) m e = absurd cc

pub source_taken : (ch : Choice) → Some told.Source ≡ Some (told_choice ch) → ch ≡ Source
source_taken Source e = refl
source_taken (Make c) e = absurd cc
source_taken (Nothing l) e = absurd cc
source_taken (Ambiguous a b) e = absurd cc

-- ---- outputs

pub over_some : (xs ys : List Out) (p f : Path) → over_in xs p ≡ Some f → over_in (xs ++ ys) p ≡ Some f
over_some [] ys p f e = absurd cc
over_some (x ∷ xs) ys p f e = go (is_folder_kind x.kind) (is_under p x.path) (λ h. over_some xs ys p f h) e
  where
    go : (b d : Bool) → (over_in xs p ≡ Some f → over_in (xs ++ ys) p ≡ Some f) →
        find (is_under p) (map (λ (o : Out). o.path) (cond b (x ∷ filter (λ (o : Out). is_folder_kind o.kind) xs) (filter (λ (o : Out). is_folder_kind o.kind) xs))) ≡ Some f →
        find (is_under p) (map (λ (o : Out). o.path) (cond b (x ∷ filter (λ (o : Out). is_folder_kind o.kind) (xs ++ ys)) (filter (λ (o : Out). is_folder_kind o.kind) (xs ++ ys)))) ≡ Some f
    go true d rest h = under (is_under p x.path) rest h
      where
        under : (u : Bool) → (over_in xs p ≡ Some f → over_in (xs ++ ys) p ≡ Some f) → cond u (Some x.path) (over_in xs p) ≡ Some f → cond u (Some x.path) (over_in (xs ++ ys) p) ≡ Some f
        under true rest h = h
        under false rest h = rest h
    go false d rest h = rest h

pub over_none : (xs ys : List Out) (p : Path) → over_in xs p ≡ None → over_in (xs ++ ys) p ≡ over_in ys p
over_none [] ys p e = refl
over_none (x ∷ xs) ys p e = go (is_folder_kind x.kind) (λ h. over_none xs ys p h) e
  where
    go : (b : Bool) → (over_in xs p ≡ None → over_in (xs ++ ys) p ≡ over_in ys p) →
        find (is_under p) (map (λ (o : Out). o.path) (cond b (x ∷ filter (λ (o : Out). is_folder_kind o.kind) xs) (filter (λ (o : Out). is_folder_kind o.kind) xs))) ≡ None →
        find (is_under p) (map (λ (o : Out). o.path) (cond b (x ∷ filter (λ (o : Out). is_folder_kind o.kind) (xs ++ ys)) (filter (λ (o : Out). is_folder_kind o.kind) (xs ++ ys)))) ≡ over_in ys p
    go true rest h = under (is_under p x.path) rest h
      where
        under : (u : Bool) → (over_in xs p ≡ None → over_in (xs ++ ys) p ≡ over_in ys p) → cond u (Some x.path) (over_in xs p) ≡ None → cond u (Some x.path) (over_in (xs ++ ys) p) ≡ over_in ys p
        under true rest h = absurd cc
        under false rest h = rest h
    go false rest h = rest h

-- ---- wants

pub paths_wanted : (ts : List Text) → flat_map path_in (map want_of ts) ≡ filter is_path ts
paths_wanted [] = refl
paths_wanted (t ∷ ts) = go (is_path t) (paths_wanted ts)
  where
    go : (b : Bool) → flat_map path_in (map want_of ts) ≡ filter is_path ts →
        path_in (elim b as (λ _. Want) [ true ↦ want.Path t | false ↦ want.NoPath t ]) ++ flat_map path_in (map want_of ts) ≡ cond b (t ∷ filter is_path ts) (filter is_path ts)
    go true rest = ap (λ ps. t ∷ ps) rest
    go false rest = rest

pub none_wanted : (ts : List Text) → map want_of ts ≡ [] → ts ≡ []
none_wanted [] e = refl
none_wanted (t ∷ ts) e = absurd cc

-- a fault that is handed on
pub if_err : {A E : Type 0} (r : Result A E) (x : E) (P : E → Type 0) → IsErrAnd r (λ y. y ≡ x) → P x → IfErr r P
if_err (Ok a) x P e h = absurd e
if_err (Err y) x P e h = subst P (sym e) h

pub text_back : (t : Text) → text_in (want_of t) ≡ t
text_back t = go (is_path t)
  where
    go : (b : Bool) → text_in (elim b as (λ _. Want) [ true ↦ want.Path t | false ↦ want.NoPath t ]) ≡ t
    go true = refl
    go false = refl

pub filter_wanted : (f : Text → Option ℕ) (ts : List Text) → filter_map (λ w. f (text_in w)) (map want_of ts) ≡ filter_map f ts
filter_wanted f [] = refl
filter_wanted f (t ∷ ts) =
    ap (λ x. cons_option (f x) (filter_map (λ w. f (text_in w)) (map want_of ts))) (text_back t) ∙ ap (λ ns. cons_option (f t) ns) (filter_wanted f ts)
