-- What looks tell of the world in which they were made.
use Rattle.std.proofs.Common.{◌≡◌, ◌≢◌, ℕ, refl, sym, subst, Some, Result, Ok, Err}
use Rattle.std.specs.Prelude.{IfOk}
use Rattle.smk_world.specs.declared.event.Call.TheVariants.{Looked, ReadFile}
use Rattle.smk_world.specs.declared.event.Failed.{Failed}
use Rattle.smk_world.specs.declared.event.Found.{Found}
use Rattle.smk_world.specs.declared.event.NodeState.{NodeState}
use Rattle.smk_world.specs.declared.event.NodeState.TheVariants.{Owned, Known}
use Rattle.smk_world.specs.declared.event.Stat.{Stat}
use Rattle.smk_world.specs.declared.event.WorkFault.{WorkFault}
use Rattle.smk_world.specs.World.{World, reading}
use Rattle.smk_world.specs.Calls.{FoundIs, found_of, StatIs, stat_of}
use Rattle.smk_world.specs.Devices.{Device, HasCalled}
use Rattle.smk_world.specs.Trees.{Path, Act}
use Rattle.smk_world.proofs.Devices.{lets_of}
use Rattle.smk_store.specs.Unowned.{IsUnownedUnder}

-- what a file's read says
pub found_told : {act : Act} {a b : Device} {p : Path} {limit : ℕ} {r : Result Found WorkFault} {found : Found} (w : World) → HasCalled act a b (ReadFile p limit r) → r ≡ Ok found → a.world ≡ Some w → w.nodes p ≢ Owned
    → found ≡ found_of limit (reading (w.nodes p))
found_told {act} {a} {b} {p} {limit} {r} {found} w h is at own = by (w.nodes p) own (lets_of w (subst (λ x. HasCalled act a b (ReadFile p limit x)) is h) refl at).1.1
  where
    by : (s : NodeState) → s ≢ Owned → FoundIs limit found s → found ≡ found_of limit (reading s)
    by Owned other k = absurd (other refl)
    by (Known n besides) other k = k

-- what a look at a path says
pub stat_told : {act : Act} {a b : Device} {p : Path} {r : Result Stat Failed} {stat : Stat} (w : World) → HasCalled act a b (Looked p r) → r ≡ Ok stat → a.world ≡ Some w → w.nodes p ≢ Owned
    → stat ≡ stat_of (reading (w.nodes p))
stat_told {act} {a} {b} {p} {r} {stat} w h is at own = by (w.nodes p) own (lets_of w (subst (λ x. HasCalled act a b (Looked p x)) is h) refl at).1.1
  where
    by : (s : NodeState) → s ≢ Owned → StatIs stat s → stat ≡ stat_of (reading s)
    by Owned other k = absurd (other refl)
    by (Known n besides) other k = k

-- what no child owns stays so while the folder does
pub unowned_still : (a b : Path → NodeState) (p : Path) → b ≡ a → IsUnownedUnder a p → IsUnownedUnder b p
unowned_still a b p same free = subst (λ (n : Path → NodeState). IsUnownedUnder n p) (sym same) free

-- a fact on every Ok answer
pub if_ok : {T E : Type 0} (r : Result T E) (P Q : T → Type 0) → ((t : T) → P t → Q t) → IfOk r P → IfOk r Q
if_ok (Ok t) P Q more h = more t h
if_ok (Err e) P Q more h = h
