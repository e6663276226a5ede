-- Which jobs need a job, be it through others.
use Rattle.std.specs.Prelude.{◌≡◌, ◌<◌, ℕ, Bool, true, false, ◌||◌, List, [], length, get_or, nat_eq}
use Rattle.std.specs.List.{list_any}
use Rattle.smk_world.specs.Trees.{IsIn}

-- these numbers come before the job of this one
abbrev pub before_at : List (List ℕ) → ℕ → List ℕ
before_at befores n = get_or befores n []

-- what comes before a job has lower numbers
abbrev pub AreEarlier : List (List ℕ) → Type 0
AreEarlier befores = (n m : ℕ) → IsIn (before_at befores n) m → m < n

-- The job of number n needs that of number k: it is the same; or it comes after one that needs it.
pub data Needs (befores : List (List ℕ)) (k : ℕ) : ℕ → Type 0 where
  Itself : Needs befores k k
  Through : (n m : ℕ) → IsIn (before_at befores n) m → Needs befores k m → Needs befores k n

-- the answer says whether it is so
pub record Says (P : Type 0) (answer : Bool) : Type 0 where
  pub only_so : answer ≡ true → P
  pub if_so : P → answer ≡ true

-- For each job, whether it needs that of number k.
pub record AreNeeding (befores : List (List ℕ)) (k : ℕ) (found : List Bool) : Type 0 where
  pub each : length found ≡ length befores
  pub right : (n : ℕ) → n < length befores → Says (Needs befores k n) (get_or found n false)

-- the job is that of number k, or one of those before it was found to need that
abbrev pub answer_at : List Bool → List ℕ → ℕ → ℕ → Bool
answer_at found before n k = nat_eq n k || list_any (λ m. get_or found m false) before
