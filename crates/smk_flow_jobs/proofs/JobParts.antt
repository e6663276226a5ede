-- The texts of a job that must be paths, one kind after another.
use Rattle.std.proofs.Common.{◌≡◌, ℕ, List, [], ◌∷◌, ◌++◌, map, Some, None, refl, sym, ap, ◌∙◌}
use Rattle.std.specs.List.{flat_map}
use Rattle.std.proofs.lemmas.Option.{none-some}
use Rattle.smk_base.specs.declared.tree.Pair.{Pair}
use Rattle.smk_pattern.specs.Shapes.{Text}
use Rattle.smk_pattern.specs.Reading.{fill}
use Rattle.smk_flow.specs.declared.rule.RulePart.{RulePart}
use Rattle.smk_flow.specs.declared.rule.InPart.{InPart}
use Rattle.smk_flow.specs.declared.rule.OutPart.{OutPart}
use Rattle.smk_flow.specs.declared.rule.Flag.{Flag}
use Rattle.smk_flow.specs.declared.rule.FlaggedText.{FlaggedText}
use Rattle.smk_flow.specs.declared.fault.JobFault.{JobFault}
use Rattle.smk_flow.specs.Flows.{Flow, gathers_from, folders_of, outs}
use Rattle.smk_flow.specs.Jobs.{path_fault, path_texts, flagged}
use Rattle.smk_flow_jobs.proofs.FilledTexts.{after_paths, before_others, front_good}
use Rattle.smk_flow_jobs.proofs.MadeParts.{all_flagged}

abbrev outs_filled : List Pair → OutPart → List Text
outs_filled b i = map (λ (o : FlaggedText). fill b o.text) i.outs

map_both : (b : List Pair) (xs ys : List FlaggedText) → map (λ (o : FlaggedText). fill b o.text) (xs ++ ys) ≡ map (λ (o : FlaggedText). fill b o.text) xs ++ map (λ (o : FlaggedText). fill b o.text) ys
map_both b [] ys = refl
map_both b (x ∷ xs) ys = ap (λ ts. fill b x.text ∷ ts) (map_both b xs ys)

pub outs_same : (b : List Pair) (items : List OutPart) → flat_map (outs_filled b) items ≡ map (λ (o : FlaggedText). fill b o.text) (flat_map (λ (i : OutPart). i.outs) items)
outs_same b [] = refl
outs_same b (i ∷ items) = ap (λ ts. outs_filled b i ++ ts) (outs_same b items) ∙ sym (map_both b i.outs (flat_map (λ (i : OutPart). i.outs) items))

outs_fault : (b : List Pair) (items : List OutPart) → path_fault (flat_map (outs_filled b) items) ≡ path_fault (map (λ (o : FlaggedText). fill b o.text) (flat_map (λ (i : OutPart). i.outs) items))
outs_fault b items = ap path_fault (outs_same b items)

module _ (flow : Flow) (rule : ℕ) (part : RulePart) (b : List Pair) where
  abbrev outputs_of : List Text
  outputs_of = map (λ (o : FlaggedText). fill b o.text) (outs part)

  abbrev logs_of : List Text
  logs_of = map (fill b) part.logs

  abbrev inputs_of : List Text
  inputs_of = flat_map (λ (i : InPart). map (fill b) i.texts) part.inputs

  abbrev folders : List Text
  folders = folders_of (gathers_from flow part.limits b 0 part.inputs)

  abbrev whole : List Text
  whole = path_texts flow (record { rule = rule; part = part; binding = b })

  pub at_outputs : (f : JobFault) → path_fault (flat_map (λ (i : OutPart). map (λ (o : FlaggedText). fill b o.text) i.outs) part.outputs) ≡ Some f → path_fault whole ≡ Some f
  at_outputs f e = before_others outputs_of (logs_of ++ (inputs_of ++ folders)) f (sym (outs_fault b part.outputs) ∙ e)

  pub at_logs : (f : JobFault) → path_fault (flat_map (λ (i : OutPart). map (λ (o : FlaggedText). fill b o.text) i.outs) part.outputs) ≡ None →
      path_fault (map (fill b) part.logs) ≡ Some f → path_fault whole ≡ Some f
  at_logs f no_outputs e =
      after_paths outputs_of (logs_of ++ (inputs_of ++ folders)) (sym (outs_fault b part.outputs) ∙ no_outputs) ∙ before_others logs_of (inputs_of ++ folders) f e

  pub at_inputs : (f : JobFault) → path_fault (flat_map (λ (i : OutPart). map (λ (o : FlaggedText). fill b o.text) i.outs) part.outputs) ≡ None →
      path_fault (map (fill b) part.logs) ≡ None → path_fault (flat_map (λ (i : InPart). map (fill b) i.texts) part.inputs) ≡ Some f → path_fault whole ≡ Some f
  at_inputs f no_outputs no_logs e =
      after_paths outputs_of (logs_of ++ (inputs_of ++ folders)) (sym (outs_fault b part.outputs) ∙ no_outputs) ∙ after_paths logs_of (inputs_of ++ folders) no_logs
      ∙ before_others inputs_of folders f e

  all_but : path_fault (flat_map (λ (i : OutPart). map (λ (o : FlaggedText). fill b o.text) i.outs) part.outputs) ≡ None → path_fault (map (fill b) part.logs) ≡ None →
      path_fault (flat_map (λ (i : InPart). map (fill b) i.texts) part.inputs) ≡ None → path_fault whole ≡ path_fault folders
  all_but no_outputs no_logs no_inputs =
      after_paths outputs_of (logs_of ++ (inputs_of ++ folders)) (sym (outs_fault b part.outputs) ∙ no_outputs) ∙ after_paths logs_of (inputs_of ++ folders) no_logs
      ∙ after_paths inputs_of folders no_inputs

  pub at_gathers : (f : JobFault) → path_fault (flat_map (λ (i : OutPart). map (λ (o : FlaggedText). fill b o.text) i.outs) part.outputs) ≡ None →
      path_fault (map (fill b) part.logs) ≡ None → path_fault (flat_map (λ (i : InPart). map (fill b) i.texts) part.inputs) ≡ None →
      path_fault (folders_of (gathers_from flow part.limits b 0 part.inputs)) ≡ Some f → path_fault whole ≡ Some f
  at_gathers f no_outputs no_logs no_inputs e = all_but no_outputs no_logs no_inputs ∙ e

  pub good : path_fault (flat_map (λ (i : OutPart). map (λ (o : FlaggedText). fill b o.text) i.outs) part.outputs) ≡ None → path_fault (map (fill b) part.logs) ≡ None →
      path_fault (flat_map (λ (i : InPart). map (fill b) i.texts) part.inputs) ≡ None → path_fault (folders_of (gathers_from flow part.limits b 0 part.inputs)) ≡ None →
      path_fault whole ≡ None
  good no_outputs no_logs no_inputs e = all_but no_outputs no_logs no_inputs ∙ e

  pub no_flagged : (flag : Flag) (f : JobFault) → path_fault whole ≡ None → path_fault (flagged b flag (flat_map (λ (i : OutPart). i.outs) part.outputs)) ≡ Some f → ⊥
  no_flagged flag f h e =
      let none : path_fault (flagged b flag (outs part)) ≡ None = all_flagged b flag (outs part) (front_good outputs_of (logs_of ++ (inputs_of ++ folders)) h) in
      none-some f (sym none ∙ e)
