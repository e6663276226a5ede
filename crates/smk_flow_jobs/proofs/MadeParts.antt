-- Parts that are made one after another, and the fault of their texts.
use Rattle.std.proofs.Common.{◌≡◌, ℕ, ◌+◌, ◌<◌, List, [], ◌∷◌, ◌++◌, map, filter, take, length, get_or, Option, Some, None, Bool, true, false, cond, refl, sym, ap, ◌∙◌, append_assoc}
use Rattle.std.specs.List.{flat_map}
use Rattle.std.proofs.lemmas.List.{map_more}
use Rattle.smk_base.specs.declared.tree.Pair.{Pair}
use Rattle.smk_base.specs.Path.{is_path}
use Rattle.smk_pattern.specs.Shapes.{Text}
use Rattle.smk_pattern.specs.Reading.{fill}
use Rattle.smk_flow.specs.declared.rule.Flag.{Flag}
use Rattle.smk_flow.specs.declared.rule.FlaggedText.{FlaggedText}
use Rattle.smk_flow.specs.declared.rule.OutPart.{OutPart}
use Rattle.smk_flow.specs.declared.fault.JobFault.{JobFault}
use Rattle.smk_flow.specs.Jobs.{path_fault, is_flagged, flagged}
use Rattle.smk_flow_jobs.proofs.FilledTexts.{after_paths, before_others}

pub one_made : {X Y : Type 0} (f : X → Y) (xs : List X) (i : ℕ) (x : X) (made new : List Y) (y : Y) → i < length xs → x ≡ get_or xs i x →
    made ≡ map f (take i xs) → y ≡ f x → new ≡ made ++ y ∷ [] → new ≡ map f (take (i + 1) xs)
one_made f xs i x made new y lt at before is e =
    e ∙ ap (λ m. m ++ y ∷ []) before ∙ ap (λ z. map f (take i xs) ++ z ∷ []) (is ∙ ap f at) ∙ sym (map_more f xs i x lt)

pub goes_on : {X : Type 0} (g : X → List Text) (xs later : List X) (x : X) (whole : List Text) → xs ≡ x ∷ later →
    path_fault whole ≡ path_fault (flat_map g xs) → path_fault (g x) ≡ None → path_fault whole ≡ path_fault (flat_map g later)
goes_on g xs later x whole e h none = h ∙ ap (λ ys. path_fault (flat_map g ys)) e ∙ after_paths (g x) (flat_map g later) none

pub stops : {X : Type 0} (g : X → List Text) (xs later : List X) (x : X) (whole : List Text) (f : JobFault) → xs ≡ x ∷ later →
    path_fault whole ≡ path_fault (flat_map g xs) → path_fault (g x) ≡ Some f → path_fault whole ≡ Some f
stops g xs later x whole f e h some = h ∙ ap (λ ys. path_fault (flat_map g ys)) e ∙ before_others (g x) (flat_map g later) f some

flagged_both : (b : List Pair) (flag : Flag) (xs ys : List FlaggedText) → flagged b flag (xs ++ ys) ≡ flagged b flag xs ++ flagged b flag ys
flagged_both b flag [] ys = refl
flagged_both b flag (x ∷ xs) ys = go (is_flagged flag x) (flagged_both b flag xs ys)
  where
    go : (v : Bool) → flagged b flag (xs ++ ys) ≡ flagged b flag xs ++ flagged b flag ys →
        map (λ (o : FlaggedText). fill b o.text) (cond v (x ∷ filter (is_flagged flag) (xs ++ ys)) (filter (is_flagged flag) (xs ++ ys)))
        ≡ map (λ (o : FlaggedText). fill b o.text) (cond v (x ∷ filter (is_flagged flag) xs) (filter (is_flagged flag) xs)) ++ flagged b flag ys
    go true h = ap (λ ts. fill b x.text ∷ ts) h
    go false h = h

abbrev outs_in : List OutPart → List FlaggedText
outs_in = flat_map (λ (i : OutPart). i.outs)

pub flagged_more : (b : List Pair) (flag : Flag) (xs later : List OutPart) (x : OutPart) (made new whole : List Text) → xs ≡ x ∷ later →
    made ++ flagged b flag (outs_in xs) ≡ whole → new ≡ made ++ flagged b flag x.outs → new ++ flagged b flag (outs_in later) ≡ whole
flagged_more b flag xs later x made new whole e h is =
    ap (λ m. m ++ flagged b flag (outs_in later)) is ∙ append_assoc made (flagged b flag x.outs) (flagged b flag (outs_in later))
    ∙ ap (λ m. made ++ m) (sym (flagged_both b flag x.outs (outs_in later)) ∙ ap (λ ys. flagged b flag (outs_in ys)) (sym e)) ∙ h

pub flagged_goes_on : (b : List Pair) (flag : Flag) (xs later : List OutPart) (x : OutPart) (whole : List Text) → xs ≡ x ∷ later →
    path_fault whole ≡ path_fault (flagged b flag (outs_in xs)) → path_fault (flagged b flag x.outs) ≡ None →
    path_fault whole ≡ path_fault (flagged b flag (outs_in later))
flagged_goes_on b flag xs later x whole e h none =
    h ∙ ap (λ ys. path_fault (flagged b flag (outs_in ys))) e ∙ ap path_fault (flagged_both b flag x.outs (outs_in later))
    ∙ after_paths (flagged b flag x.outs) (flagged b flag (outs_in later)) none

pub flagged_stops : (b : List Pair) (flag : Flag) (xs later : List OutPart) (x : OutPart) (whole : List Text) (f : JobFault) → xs ≡ x ∷ later →
    path_fault whole ≡ path_fault (flagged b flag (outs_in xs)) → path_fault (flagged b flag x.outs) ≡ Some f → path_fault whole ≡ Some f
flagged_stops b flag xs later x whole f e h some =
    h ∙ ap (λ ys. path_fault (flagged b flag (outs_in ys))) e ∙ ap path_fault (flagged_both b flag x.outs (outs_in later))
    ∙ before_others (flagged b flag x.outs) (flagged b flag (outs_in later)) f some

abbrev fault_after : Bool → Text → List Text → Option JobFault
fault_after x t ts = cond x (path_fault ts) (Some (JobFault.NotPath t))

-- the outputs with a flag are paths where all are
pub all_flagged : (b : List Pair) (flag : Flag) (xs : List FlaggedText) → path_fault (map (λ (o : FlaggedText). fill b o.text) xs) ≡ None → path_fault (flagged b flag xs) ≡ None
all_flagged b flag [] h = refl
all_flagged b flag (x ∷ xs) h = go (is_path (fill b x.text)) refl (is_flagged flag x) h (all_flagged b flag xs)
  where
    go : (p : Bool) → is_path (fill b x.text) ≡ p → (v : Bool) → fault_after p (fill b x.text) (map (λ (o : FlaggedText). fill b o.text) xs) ≡ None →
        (path_fault (map (λ (o : FlaggedText). fill b o.text) xs) ≡ None → path_fault (flagged b flag xs) ≡ None) →
        path_fault (map (λ (o : FlaggedText). fill b o.text) (cond v (x ∷ filter (is_flagged flag) xs) (filter (is_flagged flag) xs))) ≡ None
    go true e true h more = ap (λ (p : Bool). fault_after p (fill b x.text) (flagged b flag xs)) e ∙ more h
    go true e false h more = more h
    go false e v h more = absurd (cc)
