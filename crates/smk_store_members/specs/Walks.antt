-- How what is under a folder is looked for.
use Rattle.std.specs.Prelude.{◌≡◌, Bool, true, false, List, [], ◌∷◌, ◌++◌}
use Rattle.smk_base.specs.Path.{is_at_or_under}
use Rattle.smk_world.specs.declared.event.Event.{Event}
use Rattle.smk_world.specs.Calls.{failed}
use Rattle.smk_world.specs.Devices.{Device, HasActed}
use Rattle.smk_world.specs.Requests.{Request, request, AreQuiet}
use Rattle.smk_world.specs.Requests.Request.{ListFolder}
use Rattle.smk_world.specs.Trees.{Path, Act, Each}

-- a folder at or under p is listed
abbrev pub IsListingIn : Path → Request → Type 0
IsListingIn p (ListFolder q) = is_at_or_under q p ≡ true
IsListingIn p r = ⊥

-- the last call failed, and no other
abbrev pub EndsFailed : List Event → Type 0
EndsFailed es = (before : List Event) × (last : Event) × (es ≡ before ++ last ∷ []) × AreQuiet before × (failed last.call ≡ true)

-- folders at or under p were listed; only the last listing may have failed, and it did where this says so
abbrev pub AreListings : Path → Bool → List Event → Type 0
AreListings p false es = Each (λ (e : Event). IsListingIn p (request e.call)) es × AreQuiet es
AreListings p true es = Each (λ (e : Event). IsListingIn p (request e.call)) es × EndsFailed es

-- Folders at or under p were listed, and nothing else happened.
pub record HasListings (act : Act) (p : Path) (old new : Device) (failure : Bool) : Type 0 where
  pub acted : HasActed act (λ w es. AreListings p failure es) old new failure
