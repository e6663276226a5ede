use Rattle.std.proofs.Common.{◌≡◌, List, ℕ, Ok, Err, ap, sym, subst, ◌∙◌, true}
use Rattle.serde_json.specs.Data.{no_members}
use Rattle.smk_world.proofs.Devices.{looked_as}
use Rattle.smk_config.specs.Settings.{members}
use Rattle.smk_eval_files.specs.Texts.{whole}
use Rattle.smk_eval.specs.Faults.{is_told}
use Rattle.smk_eval.specs.Loading.{configs, config_files, with_sets, said_in}
use Rattle.smk_eval.proofs.Giving.{gives_both, gives_fault}
use Rattle.smk_eval.proofs.loading.said_by.Goals as goal

pub returns-in-Err-configs-clause-told : goal.returns-in-Err-configs-clause-told
returns-in-Err-configs-clause-told g c = λ w here.
    let files = c.args.files.now in
    let sets = c.args.sets.now in
    let f = c.in-Err-configs.fault in
    let texts = c.as_slice-in-Ok.result.now in
    let named : texts ≡ config_files (whole files) = c.as_slice-in-Ok.ensures ∙ c.in-Ok.ensures ∙ ap (λ fs. config_files (whole fs)) c.as_slice.ensures in
    gives_fault (configs w.nodes no_members (config_files (whole files))) (λ m. said_in (with_sets m sets) files) f
    (subst (λ (ts : List (List ℕ)). is_told f ≡ true → configs w.nodes no_members ts ≡ Err f) named (c.in-Err-configs.ensures.told w here))

pub returns-clause-looked : goal.returns-clause-looked
returns-clause-looked g c = looked_as (sym c.evaluated.ensures.no_device) c.in-Ok-configs.ensures.looked

pub returns-clause-told : goal.returns-clause-told
returns-clause-told g c = λ w here.
    let files = c.args.files.now in
    let sets = c.args.sets.now in
    let config = c.in-Ok-configs.config in
    let texts = c.as_slice-in-Ok.result.now in
    let named : texts ≡ config_files (whole files) = c.as_slice-in-Ok.ensures ∙ c.in-Ok.ensures ∙ ap (λ fs. config_files (whole fs)) c.as_slice.ensures in
    gives_both (configs w.nodes no_members (config_files (whole files))) (members config) (λ m. said_in (with_sets m sets) files) c.evaluated.result
    (subst (λ (ts : List (List ℕ)). configs w.nodes no_members ts ≡ Ok (members config)) named (c.in-Ok-configs.ensures.told w here)) c.evaluated.ensures.is
