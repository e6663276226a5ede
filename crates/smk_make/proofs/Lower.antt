-- What comes before a job has lower numbers.
use native.Mathlib.Omega.{arith}
use Rattle.std.proofs.Common.{◌<◌, ◌+◌, ℕ, zero, suc, List, [], ◌∷◌, inl, inr, sym, subst}
use Rattle.std.specs.List.{AllByRecursion}
use Rattle.smk_world.specs.Trees.{IsIn}
use Rattle.smk_chain_walk.specs.Links.{AreLower}
use Rattle.smk_plan_duties.specs.Needs.{AreEarlier, before_at}

all_in : (P : ℕ → Type 0) (xs : List ℕ) (x : ℕ) → AllByRecursion P xs → IsIn xs x → P x
all_in P [] x h i = absurd i
all_in P (y ∷ xs) x h (inl e) = subst P (sym e) h.0
all_in P (y ∷ xs) x h (inr i) = all_in P xs x h.1 i

lower_from : (k : ℕ) (befores : List (List ℕ)) → AreLower k befores → (n m : ℕ) → IsIn (before_at befores n) m → m < k + n
lower_from k [] lower zero m i = absurd i
lower_from k [] lower (suc n) m i = absurd i
lower_from k (numbers ∷ befores) lower zero m i = let lt : m < k = all_in (λ j. j < k) numbers m lower.0 i in omega (arith, lt)
lower_from k (numbers ∷ befores) lower (suc n) m i = let lt : m < suc k + n = lower_from (suc k) befores lower.1 n m i in omega (arith, lt)

pub lower_at : (befores : List (List ℕ)) → AreLower 0 befores → AreEarlier befores
lower_at befores lower n m i = let lt : m < 0 + n = lower_from 0 befores lower n m i in omega (arith, lt)
