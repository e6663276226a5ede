-- What is done of paths that are forgotten, each in its turn.
use Rattle.std.specs.Prelude.{◌≡◌, ◌⊎◌, Bool, true, false, not, List, [], ◌∷◌, ◌++◌, map, filter, Result, Ok, Err}
use Rattle.smk_world.specs.declared.event.Event.{Event}
use Rattle.smk_world.specs.World.{World, run}
use Rattle.smk_world.specs.Devices.{AreLooks}
use Rattle.smk_world.specs.Trees.{Path, among}
use Rattle.smk_record.specs.Records.{are_rising}
use Rattle.smk_store.specs.declared.fault.StoreFault.{StoreFault}
use Rattle.smk_store.specs.declared.fault.StoreFault.TheVariants as stop
use Rattle.smk_store.specs.Forgetting.{HasForgotten}
use Rattle.smk_store.specs.Images.{is_known}
use Rattle.smk_store.specs.Loading.{IsStoreOf}
use Rattle.smk_store.specs.Stores.{Known}
use Rattle.smk_keep_forget.specs.declared.fault.ForgetFault.{ForgetFault}
use Rattle.smk_keep_forget.specs.declared.fault.ForgetFault.TheVariants.{Locked, StampSeen, Device, Output, OutOfMemory}
use Rattle.smk_keep_forget.specs.Seen.{seen}

-- ## What a store tells when some of its paths are forgotten

-- all but these paths
abbrev pub without : List Path → List Known → List Known
without gone ks = filter (λ (k : Known). not (among gone k.path)) ks

-- The store has what stands, but that some of these paths may be forgotten by now.
pub record IsStoreBut (done : List Path) (w : World) (store : List Known) : Type 0 where
  pub gone : List Path
  pub forgotten : (p : Path) → among gone p ≡ true → among done p ≡ true
  pub is_store : IsStoreOf (seen w) (without gone store)

-- ## Turns

-- A path's turn: by a store that has just what stands then, this was done of it; the answer tells whether something was known of it, and a
-- refusal comes of paths that rise.
pub record IsTurn (w : World) (p : Path) (answer : Result Bool StoreFault) (es : List Event) : Type 0 where
  pub store : List Known
  pub is_store : IsStoreOf (seen w) store
  pub did : HasForgotten store p answer w es
  pub known : (was_known : Bool) → answer ≡ Ok was_known → was_known ≡ is_known (seen w) p
  pub rising : (q : Path) → answer ≡ Err (stop.StampSeen q) → are_rising (map (λ (k : Known). k.path) store) ≡ true

-- These paths were forgotten, one after another; looks came before.
pub data HaveTurned (w : World) : List Path → List Event → Type 0 where
  Looked : (looks : List Event) → AreLooks false looks → HaveTurned w [] looks
  Turned :
      (done all : List Path) (p : Path) (es fs log : List Event) (was_known : Bool) →
      HaveTurned w done es → IsTurn (run w es) p (Ok was_known) fs → all ≡ done ++ p ∷ [] → log ≡ es ++ fs → HaveTurned w all log

-- What came after the turns: nothing where no path is left, or a line couldn't be put; the turn that was refused, or in which a call
-- failed; or looks, where one failed, or memory was wanting.
abbrev pub EndsSo : List Path → Result (Unit {0}) ForgetFault → World → List Event → Type 0
EndsSo later (Ok u) w es = (later ≡ []) × (es ≡ [])
EndsSo later (Err Locked) w es = ⊥
EndsSo later (Err (StampSeen q)) w es = (p : Path) × (rest : List Path) × (later ≡ p ∷ rest) × IsTurn w p (Err (stop.StampSeen q)) es
EndsSo later (Err Device) w es =
    AreLooks true es ⊎ ((p : Path) × (rest : List Path) × (later ≡ p ∷ rest) × IsTurn w p (Err stop.Device) es)
EndsSo later (Err Output) w es = es ≡ []
EndsSo later (Err OutOfMemory) w es = AreLooks false es

-- The paths were forgotten: all of them, or a front, by the answer.
pub record HasGone (paths : List Path) (answer : Result (Unit {0}) ForgetFault) (w : World) (log : List Event) : Type 0 where
  pub done : List Path
  pub later : List Path
  pub turns : List Event
  pub last : List Event
  pub split : paths ≡ done ++ later
  pub events : log ≡ turns ++ last
  pub turned : HaveTurned w done turns
  pub ends : EndsSo later answer (run w turns) last
