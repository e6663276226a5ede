use Rattle.std.proofs.Common.{refl, ◌≡◌, ◌<◌, ℕ, List, length, get_or, subst, sym, ◌∙◌, arith}
use Rattle.std.specs.Prelude.{IsCharBoundary}
use Rattle.std.proofs.lemmas.Str.{IsCharBoundary-start, IsCharBoundary-after_ascii}
use Rattle.smk_eval_files.proofs.Words.{slash_step, other_step}
use Rattle.smk_eval_files.proofs.includes.folder_end.Goals.{then-b-eq47, else-b-eq47}
use Rattle.smk_eval_files.proofs.includes.folder_end.Goals as goal

pub loop-place-init : goal.loop-place-init
loop-place-init c = record { value = refl; boundary = IsCharBoundary-start c.args.file.now c.utf8.file }

pub loop-place-preserved : goal.loop-place-preserved
loop-place-preserved c =
    let f = c.args.file.now in
    let p = c.loop-place.place in
    let same = c.as_bytes-b-items.ensures.value in
    let lt : p < length f = subst (λ (z : List ℕ). p < length z) same c.loop-place-test.true in
    elim c.if-b-eq47.branch [
      | then-b-eq47 w ↦
          (let slash : get_or f p 0 ≡ 47 = subst (λ (z : List ℕ). get_or z p 0 ≡ 47) same w.if-b-eq47.true in
          let small : get_or f p 0 < 128 = omega (arith, slash) in
          record {
            value = slash_step f p c.loop-place.end c.if-b-eq47.end lt slash w.end-is ∙ c.loop-place.invariant.value;
            boundary = subst (λ (n : ℕ). IsCharBoundary f n) (sym w.end-is) (IsCharBoundary-after_ascii f p c.utf8.file lt small);
          })
      | else-b-eq47 w ↦ record {
        value = other_step f p c.loop-place.end c.if-b-eq47.end lt (subst (λ (z : List ℕ). get_or z p 0 ≡ 47 → ⊥) same w.if-b-eq47.false) w.end-is ∙ c.loop-place.invariant.value;
        boundary = subst (λ (n : ℕ). IsCharBoundary f n) (sym w.end-is) c.loop-place.invariant.boundary;
      }
    ]
