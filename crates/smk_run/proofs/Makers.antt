-- What a map of the serials of products has, made from the end of a list of makers.
use Rattle.std.proofs.Common.{◌≡◌, ℕ, Bool, true, false, List, [], ◌∷◌, ◌++◌, refl, ap, sym, ◌∙◌, Option, Some, None, bytes_eq, length}
use Rattle.std.specs.Prelude.{if◌then◌else◌, String}
use Rattle.std.specs.BTreeMap.{BTreeMap}
use Rattle.std.specs.Global.{Global}
use Rattle.std.specs.List.{find}
use Rattle.std.specs.Option.{option_and_then}
use Rattle.smk_world.specs.Trees.{Path}
use Rattle.smk_chain.specs.declared.jobs.Maker.{Maker}
use Rattle.smk_plan.specs.declared.duty.Duty.{Duty}
use Rattle.smk_run.specs.Stamps.{number_at}
use Rattle.smk_plan.specs.Duties.{maker_in}
use Rattle.smk_run.specs.Duties.{serial_of, serials, serials_from, serial_in, due_from, due}
use Rattle.smk_flow.specs.declared.job.Job.{Job}
use Rattle.smk_run.proofs.Serving.{serials_same}

-- the serial that the list has for the path, where that of a job is known, or else this
abbrev pub found_in : (ℕ → Option ℕ) → List Maker → Option (Option ℕ) → Path → Option (Option ℕ)
found_in serial [] d q = d
found_in serial (m ∷ ms) d q = if bytes_eq m.path q then Some (option_and_then serial m.job) else found_in serial ms d q

pub found_last : (serial : ℕ → Option ℕ) (ms : List Maker) (m : Maker) (d : Option (Option ℕ)) (q : Path)
    → found_in serial (ms ++ m ∷ []) d q ≡ found_in serial ms (if bytes_eq m.path q then Some (option_and_then serial m.job) else d) q
found_last serial [] m d q = refl
found_last serial (n ∷ ms) m d q = ap (λ x. if bytes_eq n.path q then Some (option_and_then serial n.job) else x) (found_last serial ms m d q)

pub found_is : (serial : ℕ → Option ℕ) (ms : List Maker) (q : Path) → option_and_then (λ (n : Option ℕ). n) (found_in serial ms None q) ≡ option_and_then serial (maker_in ms q)
found_is serial [] q = refl
found_is serial (m ∷ ms) q = go (bytes_eq m.path q) (found_is serial ms q)
  where
    go : (b : Bool) → option_and_then (λ (n : Option ℕ). n) (found_in serial ms None q) ≡ option_and_then serial (maker_in ms q)
        → option_and_then (λ (n : Option ℕ). n) (if b then Some (option_and_then serial m.job) else found_in serial ms None q)
        ≡ option_and_then serial (option_and_then (λ (x : Maker). x.job) (if b then Some m else find (λ (x : Maker). bytes_eq x.path q) ms))
    go true ih = refl
    go false ih = ih

pub found_step : (serial : ℕ → Option ℕ) (rest before : List Maker) (last : Maker) (value : Option ℕ) (old new : Option (Option ℕ)) (all : Option (Option ℕ)) (q : Path)
    → rest ≡ before ++ last ∷ [] → value ≡ option_and_then serial last.job → new ≡ (if bytes_eq last.path q then Some value else old)
    → found_in serial rest old q ≡ all → found_in serial before new q ≡ all
found_step serial rest before last value old new all q is right put h =
    ap (λ d. found_in serial before d q) (put ∙ ap (λ v. if bytes_eq last.path q then Some v else old) right)
    ∙ sym (found_last serial before last old q) ∙ ap (λ l. found_in serial l old q) (sym is) ∙ h

pub none_left : (ms : List Maker) → length ms ≡ 0 → ms ≡ []
none_left [] h = refl
none_left (m ∷ ms) h = cc

-- the map has the serials of all products
pub made_same : (made : BTreeMap (String Global) (Option ℕ)) (ms makers : List Maker) (ss : List (Option ℕ)) (first : Option ℕ) (ds duties : List Duty)
    → ms ≡ makers → ss ≡ serials_from first 0 ds → ds ≡ duties → ((q : Path) → number_at made q ≡ option_and_then (serial_in ss) (maker_in ms q))
    → number_at made ≡ serials makers first duties
made_same made ms makers ss first ds duties e f g same =
    (λ j. λ q. same q j)
    ∙ ap (λ (l : List Maker). λ (q : Path). option_and_then (serial_in ss) (maker_in l q)) e
    ∙ ap (λ (s : ℕ → Option ℕ). λ (q : Path). option_and_then s (maker_in makers q)) (ap serial_in f ∙ serials_same first ds ∙ ap (serial_of first) g)

-- the jobs that are due
pub dues_same : (ss : List (Option ℕ)) (first : Option ℕ) (ds es duties : List Duty) (js jobs : List Job)
    → ss ≡ serials_from first 0 ds → ds ≡ duties → es ≡ duties → js ≡ jobs → due_from (serial_in ss) 0 es js ≡ due first duties jobs
dues_same ss first ds es duties js jobs e f g h =
    ap (λ (s : ℕ → Option ℕ). due_from s 0 es js) (ap serial_in e ∙ serials_same first ds ∙ ap (serial_of first) f)
    ∙ ap (λ (l : List Duty). due_from (serial_of first duties) 0 l js) g
    ∙ ap (due_from (serial_of first duties) 0 duties) h
