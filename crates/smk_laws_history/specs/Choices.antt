-- Laws of choice.
use Rattle.std.specs.Prelude.{◌≡◌, ◌≢◌, ◌↔◌, ℕ, suc, false, IsTrue, Contains}
use Rattle.std.specs.List.{list_any, enumerate_from}
use Rattle.smk_world.specs.Trees.{Path}
use Rattle.smk_pattern.specs.Shapes.{Text}
use Rattle.smk_flow.specs.Flows.{Flow, Candidate}
use Rattle.smk_choose.specs.Choose.{Sources, Make, avail, choose, orders, precedes, viable}
use Rattle.smk_store.specs.Images.{Image, is_source, holds_source}
use Rattle.smk_chain.specs.Derive.{sources_of}

-- What is available at a depth is so one level deeper.
abbrev pub StaysAvailable : Type 0
StaysAvailable = (flow : Flow) (sources : Sources) (n : ℕ) (p : Text) → IsTrue (avail flow sources n p) → IsTrue (avail flow sources (suc n) p)

-- Choice looks at no content: it is the same in two images with the same sources.
abbrev pub SameChoice : Type 0
SameChoice =
    (flow : Flow) (a b : Image) →
    ((p : Path) → is_source a p ≡ is_source b p) →
    ((p : Path) → holds_source a p ≡ holds_source b p) → (p : Path) → choose flow (sources_of a) p ≡ choose flow (sources_of b) p

-- no clauses have two rules in both orders
abbrev pub OrdersOneWay : Flow → Type 0
OrdersOneWay flow = (a b : Text) → IsTrue (list_any (orders a b) flow.orders) → list_any (orders b a) flow.orders ≡ false

-- the candidate at this place among the viable ones precedes each other one
pub record Leads (flow : Flow) (sources : Sources) (p : Path) (n : ℕ) (c : Candidate) : Type 0 where
  pub is_viable : Contains (enumerate_from 0 (viable flow sources p)) (n, c)
  pub is_first :
      (m : ℕ) (d : Candidate) → Contains (enumerate_from 0 (viable flow sources p)) (m, d) → m ≢ n → IsTrue (precedes flow c.part d.part)

-- A path has one choice: of a path that isn't a source a job is chosen just where it leads, whichever is looked at first.
abbrev pub OneChoice : Type 0
OneChoice =
    (flow : Flow) (sources : Sources) (p : Path) (c : Candidate) →
    OrdersOneWay flow → sources.is p ≡ false → (choose flow sources p ≡ Make c) ↔ ((n : ℕ) × Leads flow sources p n c)
