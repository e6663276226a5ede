-- Numbers that are added one by one, each once.
use Rattle.std.specs.Prelude.{◌≡◌, ℕ, List, [], ◌∷◌, ◌++◌, nat_eq, if◌then◌else◌}
use Rattle.std.specs.BTreeSet.{contains}
use Rattle.std.specs.Ordering.{nat_cmp}
use Rattle.std.specs.List.{list_any}
use Rattle.smk_chain_walk.specs.declared.reached.Once.{Once}

-- the number added at the end, unless it is there
abbrev pub one_added : List ℕ → ℕ → List ℕ
one_added ns k = if list_any (λ d. nat_eq d k) ns then ns else ns ++ k ∷ []

abbrev pub all_once : List ℕ → List ℕ → List ℕ
all_once ns [] = ns
all_once ns (k ∷ ks) = all_once (one_added ns k) ks

-- the numbers that were seen are those that are there
abbrev pub IsSeen : Once → Type 0
IsSeen once = (k : ℕ) → contains nat_cmp once.seen k ≡ list_any (λ d. nat_eq d k) once.numbers
