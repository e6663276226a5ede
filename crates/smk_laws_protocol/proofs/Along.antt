-- From one world to the next along the event of an open job: what holds between events holds again, of the jobs that are left.
use Rattle.std.proofs.Common.{◌≡◌, ◌⊎◌, ℕ, Bool, true, false, List, ◌∷◌, ◌++◌, refl, sym, subst, inl, inr}
use Rattle.smk_world.specs.declared.event.Child.{Child}
use Rattle.smk_world.specs.declared.event.NodeState.TheVariants.{Owned}
use Rattle.smk_world.specs.Trees.{Path, IsIn, Each}
use Rattle.smk_store.specs.Trust.{Versions, Eased}
use Rattle.smk_world.specs.World.{World, is_within}
use Rattle.smk_store.specs.Soundness.{Outside}
use Rattle.smk_laws_protocol.specs.Protocol.{Phase, Running, OpenJob, RunState, own, eased_by, is_running}
use Rattle.smk_laws_protocol.proofs.Between.{Fits, InPhase, VouchesLike, Midway, IsOfJob, HasOwners, Pairwise}
use Rattle.smk_laws_protocol.proofs.Basics.{each_in, each_of, in_split, in_rest, in_here, clash}
use Rattle.smk_laws_protocol.proofs.Change.{Change, IsOwner}
use Rattle.smk_laws_protocol.proofs.Numbers.{record_numbers}
use Rattle.smk_laws_protocol.proofs.Naming.{NamesLaws}
use Rattle.smk_laws_protocol.proofs.ImagesOn.{images_change}
use Rattle.smk_laws_protocol.proofs.Jobs.{at_phase, meets_other, meets_self, is_other, pair_apart}
use Rattle.smk_laws_protocol.proofs.Phases.{phase_change}
use Rattle.smk_laws_protocol.proofs.Stays.{fits_change}
use Rattle.smk_laws_protocol.proofs.Texts.{OverlapLaws}

pub fits_phase : (o : Outside) (entry : World) (e : Eased) (top : ℕ) (w : World) (j : OpenJob) (phase : Phase) → Fits o entry e top w j → Fits o entry e top w (at_phase j phase)
fits_phase o entry e top w j phase fits =
    record {
      paths = fits.paths;
      texts = fits.texts;
      apart = fits.apart;
      from_inputs = fits.from_inputs;
      no_source = fits.no_source;
      each_stamped = fits.each_stamped;
      kept_own = fits.kept_own;
      kept_all = fits.kept_all;
      no_record_clash = fits.no_record_clash;
      no_clash = fits.no_clash;
      unnamed = fits.unnamed;
      unused = fits.unused;
      numbered = fits.numbered;
      names_other = fits.names_other;
      at_hand = fits.at_hand;
    }

pub owner_of : (o : Outside) (entry : World) (e : Eased) (top : ℕ) (w : World) (j : OpenJob) → Fits o entry e top w j → IsOwner o top w j
owner_of o entry e top w j fits =
    record { no_record_clash = fits.no_record_clash; apart = fits.apart; numbers_low = λ p n i. record_numbers o top j fits.each_stamped fits.numbered p n i }

-- The jobs that are left: others as they were, and the job itself in this phase; none of the others that runs is lost.
pub record Left (js ks ts : List OpenJob) (j : OpenJob) (phase : Phase) : Type 0 where
  pub each : (k : OpenJob) → IsIn ts k → IsIn (js ++ ks) k ⊎ (k ≡ at_phase j phase)
  pub running : (k : OpenJob) → IsIn (js ++ ks) k → is_running k.phase ≡ true → IsIn ts k

-- no child is started or ends, and nothing is owned anew
pub record IsQuiet (w w' : World) : Type 0 where
  pub children : w'.children ≡ w.children
  pub owned : (q : Path) → w'.nodes q ≡ Owned → w.nodes q ≡ Owned

runs_in : (o : Outside) (js : List OpenJob) (c : Child) (k : IsOfJob o js c) → is_running k.0.phase ≡ true
runs_in o js c k = subst (λ (x : Phase). is_running x ≡ true) (sym k.2) refl

module _
    (o : Outside) (laws : OverlapLaws) (naming : NamesLaws o.read) (entry : World) (H : Versions) (s : RunState) (js ks ts : List OpenJob) (j : OpenJob) (phase : Phase) (w w' : World)
    (m : Midway o entry H (record s { jobs = js ++ j ∷ ks }) w)
    (change : Change o entry H j (eased_by (js ++ j ∷ ks)) (eased_by ts) w w') where
  abbrev e : Eased
  e = eased_by (js ++ j ∷ ks)

  pub fits_here : Fits o entry e s.top w j
  fits_here = each_in (Fits o entry e s.top w) (js ++ j ∷ ks) j m.fits (in_here js ks j)

  owner_here : IsOwner o s.top w j
  owner_here = owner_of o entry e s.top w j fits_here

  fits_there : (k : OpenJob) → IsIn (js ++ ks) k ⊎ (k ≡ at_phase j phase) → Fits o entry (eased_by ts) s.top w' k
  fits_there k (inl i) =
      fits_change o laws naming entry H j e (eased_by ts) s.top w w' m.images.formed m.images.sources owner_here change k
      (meets_other o laws j k (pair_apart o laws js ks j k m.apart i)) (each_in (Fits o entry e s.top w) (js ++ j ∷ ks) k m.fits (in_rest js ks j k i))
  fits_there k (inr is) =
      subst (λ x. Fits o entry (eased_by ts) s.top w' x) (sym is)
      (fits_phase o entry (eased_by ts) s.top w' j phase
      (fits_change o laws naming entry H j e (eased_by ts) s.top w w' m.images.formed m.images.sources owner_here change j
      (meets_self o laws entry e s.top w j fits_here) fits_here))

  pub phase_there :
      ((k : OpenJob) → IsIn (js ++ ks) k → (n : ℕ) → k.phase ≡ Running n → (c : Child) × IsIn w'.children c × (c.number ≡ n)) →
      (k : OpenJob) → IsIn (js ++ ks) k → InPhase o w' k
  phase_there child k i =
      phase_change o laws naming entry H j k e (eased_by ts) w w' m.images.formed change
      (is_other o laws j k (pair_apart o laws js ks j k m.apart i))
      (λ p r at. ((each_in (Fits o entry e s.top w) (js ++ j ∷ ks) k m.fits (in_rest js ks j k i)).kept_own p r at).0) (child k i)
      (each_in (InPhase o w) (js ++ j ∷ ks) k m.phases (in_rest js ks j k i))

  -- the children and what is owned given
  pub moved :
      (faulted : Bool) → Left js ks ts j phase → Pairwise o ts → (IsIn ts (at_phase j phase) → InPhase o w' (at_phase j phase)) →
      ((k : OpenJob) → IsIn (js ++ ks) k → (n : ℕ) → k.phase ≡ Running n → (c : Child) × IsIn w'.children c × (c.number ≡ n)) →
      Each (IsOfJob o ts) w'.children → HasOwners o ts w' → Midway o entry H (record s { jobs = ts; faulted = faulted }) w'
  moved faulted left pairs in_phase child of_jobs owners =
      record {
        images = images_change o laws naming entry H j e (eased_by ts) s.top s.steady w w' m.images.formed owner_here change m.images;
        fits = each_of (Fits o entry (eased_by ts) s.top w') ts (λ k i. fits_there k (left.each k i));
        phases = each_of (InPhase o w') ts (λ k i. phases k i (left.each k i));
        like = each_of (VouchesLike o H) ts (λ k i. like k (left.each k i));
        apart = pairs;
        children = of_jobs;
        owned = owners;
      }
    where
      like : (k : OpenJob) → IsIn (js ++ ks) k ⊎ (k ≡ at_phase j phase) → VouchesLike o H k
      like k (inl h) = each_in (VouchesLike o H) (js ++ j ∷ ks) k m.like (in_rest js ks j k h)
      like k (inr h) = subst (λ x. VouchesLike o H x) (sym h) (each_in (VouchesLike o H) (js ++ j ∷ ks) j m.like (in_here js ks j))

      phases : (k : OpenJob) → IsIn ts k → IsIn (js ++ ks) k ⊎ (k ≡ at_phase j phase) → InPhase o w' k
      phases k i (inl h) = phase_there child k h
      phases k i (inr h) = subst (λ x. InPhase o w' x) (sym h) (in_phase (subst (λ x. IsIn ts x) h i))

  -- the same where no child is started or ends
  pub moved_quietly :
      (faulted : Bool) → is_running j.phase ≡ false → IsQuiet w w' → Left js ks ts j phase → Pairwise o ts →
      (IsIn ts (at_phase j phase) → InPhase o w' (at_phase j phase)) → Midway o entry H (record s { jobs = ts; faulted = faulted }) w'
  moved_quietly faulted still quiet left pairs in_phase =
      moved faulted left pairs in_phase
      (λ k i n is. subst (λ cs. (c : Child) × IsIn cs c × (c.number ≡ n)) (sym quiet.children)
      ((each_in (InPhase o w) (js ++ j ∷ ks) k m.phases (in_rest js ks j k i)).child n is))
      (subst (λ cs. Each (IsOfJob o ts) cs) (sym quiet.children) (each_of (IsOfJob o ts) w.children (λ c i. of_job c (each_in (IsOfJob o (js ++ j ∷ ks)) w.children c m.children i))))
      (λ q h. owner q (m.owned q (quiet.owned q h)))
    where
      kept : (k : OpenJob) → is_running k.phase ≡ true → (k ≡ j) ⊎ IsIn (js ++ ks) k → IsIn ts k
      kept k is (inl e) = clash (is_running j.phase) (subst (λ (x : OpenJob). is_running x.phase ≡ true) e is) still
      kept k is (inr i) = left.running k i is

      of_job : (c : Child) → IsOfJob o (js ++ j ∷ ks) c → IsOfJob o ts c
      of_job c k = (k.0, kept k.0 (runs_in o (js ++ j ∷ ks) c k) (in_split js ks j k.0 k.1), k.2, k.3, k.4)

      owner : (q : Path) → ((k : OpenJob) × IsIn (js ++ j ∷ ks) k × (is_running k.phase ≡ true) × (is_within q (own k) ≡ true)) → (k : OpenJob) × IsIn ts k × (is_running k.phase ≡ true) × (is_within q (own k) ≡ true)
      owner q k = (k.0, kept k.0 k.2 (in_split js ks j k.0 k.1), k.2, k.3)
