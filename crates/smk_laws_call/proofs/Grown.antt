-- That a plan grows to a clash is so in folders that are the same but for the lock.
use Rattle.std.proofs.Common.{◌≡◌, ◌⊎◌, inl, inr, Bool, List, [], ◌∷◌, ◌++◌, filter, flat_map, length, map, refl, ap, sym, ◌∙◌}
use Rattle.std.specs.Prelude.{nat_lt}
use Rattle.smk_base.specs.Path.{overlaps}
use Rattle.smk_world.specs.Trees.{Act, Path}
use Rattle.smk_flow.specs.Flows.{Flow}
use Rattle.smk_store.specs.Images.{Image}
use Rattle.smk_chain.specs.Derive.{Clash, Deep, Listings, Refusal, Refused, TooManyPaths, clashes, derivation, hinders, is_deep, jobs, outcome, reach, refused, refused_if, sources_of, spots}
use Rattle.smk_report.specs.declared.fault.Fault.{Fault}
use Rattle.smk_report.specs.declared.fault.Fault.TheVariants as fault
use Rattle.smk_drive.specs.Moments.{Rules}
use Rattle.smk_drive.specs.Refusals.{IsFault}
use Rattle.smk_laws_refusing.specs.Heeding.{IsSameButLock, with_lock}
use Rattle.smk_laws_refusing.proofs.Heeding.{on_both}
use Rattle.smk_laws_driven.specs.Grown.{GrowsToClash}

module _ (i : Image) (locked : Bool) where
  clashes_same : (earlier : List Path) (ss : List (Path × Bool)) → clashes (with_lock i locked) earlier ss ≡ clashes i earlier ss
  clashes_same earlier [] = refl
  clashes_same earlier (s ∷ ss) =
      ap (λ (l : List Refusal). map (Clash s.0) (filter (overlaps s.0) earlier ++ filter (hinders i s) i.known) ++ l)
      (clashes_same (earlier ++ s.0 ∷ []) ss)

  derivation_same : (flow : Flow) (L : Listings) (targets : List Path) → derivation flow (with_lock i locked) L targets ≡ derivation flow i L targets
  derivation_same flow L targets =
      ap
      (λ (c : List Refusal). outcome
      (refused_if (nat_lt 100000 (length (reach flow (sources_of i) L 400 targets))) TooManyPaths
      ++ (map Deep (filter (is_deep flow (sources_of i) i L targets) targets) ++ (flat_map (refused flow (sources_of i) L 201) targets ++ c)))
      (jobs flow (sources_of i) L targets))
      (clashes_same [] (flat_map spots (jobs flow (sources_of i) L targets)))

  grown_so : (act : Act) (rules : Rules) (f : Fault) → GrowsToClash act rules i f → GrowsToClash act rules (with_lock i locked) f
  grown_so act rules f k =
      record {
        lists = k.lists;
        meant = k.meant;
        clashing = λ none. k.clashing (sym (clashes_same [] (flat_map spots (jobs rules.flow (sources_of i) k.lists rules.settings.targets))) ∙ none);
        told = go k.told;
      }
    where
      go :
          ((r : Refusal) × (derivation rules.flow i k.lists rules.settings.targets ≡ Refused r) × IsFault rules.flow r f)
          ⊎ ((p : Path) × (q : Path) × (f ≡ fault.Clash p q)) →
          ((r : Refusal) × (derivation rules.flow (with_lock i locked) k.lists rules.settings.targets ≡ Refused r) × IsFault rules.flow r f)
          ⊎ ((p : Path) × (q : Path) × (f ≡ fault.Clash p q))
      go (inl h) = inl (h.0, derivation_same rules.flow k.lists rules.settings.targets ∙ h.1, h.2)
      go (inr h) = inr h

pub grown_heeds_no_lock :
    (act : Act) (rules : Rules) (f : Fault) (a b : Image) → IsSameButLock a b → GrowsToClash act rules a f → GrowsToClash act rules b f
grown_heeds_no_lock act rules f a b same h = on_both (λ (i : Image). GrowsToClash act rules i f) (λ i locked k. grown_so i locked act rules f k) a b same h
