use Rattle.std.proofs.Common.{◌≡◌, ◌&&◌, ℕ, drop, Some}
use Rattle.std.specs.List.{list_all}
use Rattle.smk_choose.specs.Heights.{is_within, height_at, want_in}
use Rattle.smk_choose.proofs.heights.way_height.Given as goal

abbrev pub invariant-loop-want : goal.invariant-loop-want
invariant-loop-want l =
    (n : ℕ) → list_all (want_in (λ q. is_within n (height_at l.heights q))) l.want-items
    ≡ (is_within n (Some l.most) && list_all (want_in (λ q. is_within n (height_at l.heights q))) (drop l.want-index l.want-items))
