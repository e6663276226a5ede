use Rattle.std.proofs.Common.{◌≡◌, ◌<◌, ◌||◌, ℕ, suc, drop, false}
use Rattle.std.specs.List.{list_any, list_all}
use Rattle.smk_choose.specs.declared.nodes.Way.{Way}
use Rattle.smk_choose.specs.Heights.{is_within, height_at, want_in}
use Rattle.smk_choose.proofs.heights.next_height.Given as goal

abbrev pub invariant-loop-way : goal.invariant-loop-way
invariant-loop-way l = record {
  zero : is_within 0 l.least ≡ false;
  more : (n : ℕ) → n < 200 → list_any (λ (w : Way). list_all (want_in (λ q. is_within n (height_at l.heights q))) w.wants) l.way-items
      ≡ (is_within (suc n) l.least || list_any (λ (w : Way). list_all (want_in (λ q. is_within n (height_at l.heights q))) w.wants) (drop l.way-index l.way-items));
}
