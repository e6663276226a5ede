use Rattle.std.proofs.Common.{◌≡◌, ◌<◌, ℕ, Bool, ◌&&◌, List, length, set, take, refl, sym, ap, ◌∙◌, length-set, subst}
use Rattle.std.specs.Prelude.{slice_index}
use Rattle.std.specs.List.{list_all}
use Rattle.std.proofs.lemmas.Option.{slice_get_read}
use Rattle.std.proofs.lemmas.List.{get_or_read}
use Rattle.smk_core.specs.Standing.{stands, is_waiting, is_done, befores_of, list_of}
use Rattle.smk_core.proofs.Settling.{passed_set}
use Rattle.smk_core.proofs.jobs.settle.Goals as goal

pub passed_over-upto-requires : goal.passed_over-upto-requires
passed_over-upto-requires c =
    let befores = c.args.befores.now in
    let passed = c.args.passed.now.items in
    let phases = c.args.phases.now in
    let job = c.args.job in
    let list : c.as_slice-list.result.now ≡ befores_of befores job = c.as_slice-list.ensures ∙ sym (ap list_of (slice_get_read befores (length befores) job c.index-befores-job.result refl c.requires.inside c.index-befores-job.is)) in
    let known : c.index.result.now ≡ slice_index passed job =
    get_or_read passed job c.index.result.now (subst (λ (n : ℕ). job < n) (sym c.requires.as_many.passed_many) c.requires.inside) c.index.ensures 0 in
    ap (λ (l : List ℕ). list_all (stands is_done phases) (take c.index.result.now l)) list
    ∙ ap (λ (n : ℕ). list_all (stands is_done phases) (take n (befores_of befores job))) known
    ∙ c.requires.known job

pub returns : goal.returns
returns c =
    let befores = c.args.befores.now in
    let passed = c.args.passed.now.items in
    let phases = c.args.phases.now in
    let present = c.args.ready.now.present in
    let job = c.args.job in
    let upto = c.passed_over-upto.result in
    let list : c.as_slice-list.result.now ≡ befores_of befores job = c.as_slice-list.ensures ∙ sym (ap list_of (slice_get_read befores (length befores) job c.index-befores-job.result refl c.requires.inside c.index-befores-job.is)) in
    record {
      ready = record {
        asks_are = c.set.ensures.asks;
        present_are =
            c.set.ensures.present
            ∙ ap (set present job)
            (c.is_ready.ensures
            ∙ ap (λ (b : Bool). stands is_waiting phases job && b) (sym c.passed_over-upto.ensures.all)
            ∙ ap (λ (l : List ℕ). stands is_waiting phases job && list_all (stands is_done phases) l) list);
      };
      known = passed_set phases befores passed job upto c.requires.known (ap (λ (l : List ℕ). list_all (stands is_done phases) (take upto l)) (sym list) ∙ c.passed_over-upto.ensures.passed);
      as_many = record {
        phases_many = c.requires.as_many.phases_many;
        present_many = ap length c.set.ensures.present ∙ length-set present job c.is_ready.result ∙ c.requires.as_many.present_many;
        asks_many = ap length c.set.ensures.asks ∙ c.requires.as_many.asks_many;
        passed_many = length-set passed job upto ∙ c.requires.as_many.passed_many;
      };
    }
