-- What a job guards are its outputs; and a job that is to begin has records that can be written.
use Rattle.std.proofs.Common.{◌≡◌, ℕ, Bool, true, false, not, List, [], ◌∷◌, map, zip}
use Rattle.std.proofs.Common.{Option, Some, None, option_map, is_some, refl, sym, ap, subst, ◌∙◌, eq-eqb, true≢false}
use Rattle.std.specs.Prelude.{if◌then◌else◌}
use Rattle.std.specs.Option.{option_and_then}
use Rattle.std.proofs.lemmas.Option.{same_Some}
use Rattle.smk_world.specs.Trees.{Each, IsIn, Path}
use Rattle.smk_world.specs.World.{in_paths, out_paths}
use Rattle.smk_record.specs.declared.record.Stamp.{Stamp}
use Rattle.smk_record.specs.declared.record.Stamp.TheVariants.{Sum, Time}
use Rattle.smk_store.specs.Images.{Content, Image, file_at, is_source, source_at}
use Rattle.smk_store.specs.Soundness.{SameSources, told}
use Rattle.smk_store.specs.Trust.{content_stamp, holder, is_summed, source_stamp, stamp_now, sum_of, unmarked_stamp}
use Rattle.smk_chain.specs.Derive.{jobs, sources_of}
use Rattle.smk_plan.specs.Summed.{has_other_time}
use Rattle.smk_laws_plan.proofs.PlanOne.{derived}
use Rattle.smk_laws_protocol.proofs.Basics.{each_on}
use Rattle.smk_run.specs.declared.ending.Ending.{Ending as End}
use Rattle.smk_run.specs.declared.ending.Ending.TheVariants.{Good, Status, NoOutput, WrongKind, BadMember}
use Rattle.smk_drive.specs.Moments.{seen}
use Rattle.smk_drive_course.specs.Steps.{guards_of}
use Rattle.smk_laws_turns.proofs.DerivedJobs.{guards_are_outs}
use Rattle.smk_laws_turns.specs.Turning.{OfParts}
use Rattle.smk_laws_turns.proofs.Staff.{complete_entry}
use Rattle.smk_laws_turns.specs.Closed.{GuardsAreOutputs}
use Rattle.smk_laws_turns.specs.Writable.{BegunIsRecordable}

pub guards_are_outputs : OfParts GuardsAreOutputs
guards_are_outputs rules entry h s w before deeds k how p at ik i = go how i
  where
    there : IsIn (jobs rules.flow (sources_of (seen rules entry)) h.live.base.jobs.lists rules.settings.targets) k
    there =
        subst (λ ks. IsIn ks k)
        (sym
        (derived rules.flow (seen rules entry) h.live.base.jobs.lists rules.settings.targets h.live.base.jobs.jobs
        (complete_entry rules entry h s w before deeds at) at.derived).1) ik

    go : (x : End) → IsIn (guards_of k x) p → IsIn (out_paths k.recipe) p
    go Good g = guards_are_outs rules.flow (sources_of (seen rules entry)) h.live.base.jobs.lists rules.settings.targets k there p g
    go (Status n) g = absurd g
    go (NoOutput q) g = absurd g
    go (WrongKind q) g = absurd g
    go (BadMember q) g = absurd g

-- ## Stamps

abbrev head_or : {A : Type 0} → A → List A → A
head_or x [] = x
head_or x (y ∷ ys) = y

abbrev tail_or : {A : Type 0} → List A → List A → List A
tail_or xs [] = xs
tail_or xs (y ∷ ys) = ys

each_stamp :
    (f : Path → Option Stamp) (qs : List Path) (stamps : List Stamp) → map Some stamps ≡ map f qs →
    Each (λ (x : Path × Stamp). f x.0 ≡ Some x.1) (zip qs stamps)
each_stamp f [] stamps e = tt
each_stamp f (q ∷ qs) [] e = tt
each_stamp f (q ∷ qs) (s ∷ stamps) e =
    (sym (ap (head_or (Some s)) e), each_stamp f qs stamps (ap (tail_or (map Some stamps)) e))

same_time : (c : Content) (t : ℕ) → c.time ≡ t → has_other_time (content_stamp c) t ≡ false
same_time c t same = go (is_summed c.bytes)
  where
    go : (b : Bool) → has_other_time (if b then Sum c.time (sum_of c.bytes) else Time c.time) t ≡ false
    go true = ap not (eq-eqb c.time t same)
    go false = refl

module _ (first image : Image) (same : SameSources first image) where
  timed : (x : Path × Stamp) → stamp_now image x.0 ≡ Some x.1 → (f : Content) → source_at first x.0 ≡ Some f → has_other_time x.1 f.time ≡ false
  timed x now f is = go (is_source image x.0) refl
    where
      told_here : option_map told (source_at image x.0) ≡ Some (told f)
      told_here = same x.0 ∙ ap (option_map told) is

      found : (o : Option Content) → source_at image x.0 ≡ o → source_stamp o ≡ Some x.1 → has_other_time x.1 f.time ≡ false
      found None e stamp = absurd (true≢false (sym (ap is_some (sym (ap (option_map told) e) ∙ told_here))))
      found (Some c) e stamp =
          let times : c.time ≡ f.time = ap (λ (t : List ℕ × ℕ). t.1) (same_Some (told c) (told f) (sym (ap (option_map told) e) ∙ told_here)) in
          subst (λ t. has_other_time t f.time ≡ false) (same_Some (content_stamp c) x.1 stamp) (same_time c f.time times)

      go : (b : Bool) → is_source image x.0 ≡ b → has_other_time x.1 f.time ≡ false
      go true e =
          found (source_at image x.0) refl
          (sym (ap (λ b. if b then source_stamp (source_at image x.0) else option_and_then (unmarked_stamp image) (holder image x.0)) e) ∙ now)
      go false e =
          absurd
          (true≢false
          (sym
          (ap is_some (sym (ap (λ (b : Bool). option_map told (if b then file_at image x.0 else None)) e) ∙ told_here))))

pub begun_is_recordable : BegunIsRecordable
begun_is_recordable rules entry jobs s w before e made number stamps is ours =
    record {
      stamped =
          each_on (λ (x : Path × Stamp). stamp_now (seen rules w) x.0 ≡ Some x.1)
          (λ (x : Path × Stamp). (f : Content) → source_at (seen rules entry) x.0 ≡ Some f → has_other_time x.1 f.time ≡ false)
          (timed (seen rules entry) (seen rules w) ours.sources) (zip (in_paths e.0.recipe) stamps)
          (each_stamp (stamp_now (seen rules w)) (in_paths e.0.recipe) stamps is.stamped);
      writable = is.writable;
    }
