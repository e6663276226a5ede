-- The law from the lemma that one event keeps what holds between events.
use Rattle.smk_laws_protocol.proofs.Formed.{all_named}
use Rattle.std.proofs.Common.{◌≡◌, ◌⊎◌, ℕ, true, false, [], ◌∷◌, refl, sym, subst, inl, inr, arith, ◌∙◌}
use Rattle.smk_world.specs.declared.event.NodeState.{NodeState}
use Rattle.smk_world.specs.declared.event.NodeState.TheVariants.{Owned, Known}
use Rattle.smk_record.specs.declared.record.Record.{Record}
use Rattle.smk_world.specs.declared.event.Event.{Event}
use Rattle.smk_world.specs.Trees.{Path, Act, IsIn, Each}
use Rattle.smk_store.specs.Trust.{Versions, Eased, none_eased}
use Rattle.smk_laws_protocol.proofs.View.{View, Sound, source_at}
use Rattle.smk_laws_protocol.proofs.Views.{reads, Leaves, view_of}
use Rattle.smk_world.specs.World.{World, MayLeave, reading, after}
use Rattle.smk_store.specs.Soundness.{Outside}
use Rattle.smk_laws_protocol.specs.Protocol.{RunState, Phase, Marking, Marked, Running, Ended, Firm, Recorded, Dropping, Dropped, is_running, eased}
use Rattle.smk_laws_protocol.proofs.Rows.{now, Step}
use Rattle.smk_laws_protocol.proofs.Between.{HasNoNested, IsOfJob, InPhase, Lets, Midway, SoundWorld, IsTop, at_entry, SafeImages}
use Rattle.smk_laws_protocol.proofs.Moves.{sound_on}
use Rattle.smk_laws_protocol.proofs.Basics.{each_in}

-- fewer marks are left out
pub sound_less :
    (act : Act) (H : Versions) (v : View) (e e' : Eased) → ((p : Path) (r : Record) → e' p r → e p r) → Sound act H v e → Sound act H v e'
sound_less act H v e e' fewer sound =
    sound_on act H v v e e' sound (λ q. refl)
    (λ q h r s. record { no_source = s.no_source; holder = s.holder; clear = (s.clear.0, clear h r s.clear.1) })
    (λ q r x s is clear i. sound.has_recorded q r x s is clear i)
    (λ q r is clear chain whole. (is, sound.holds q r is clear chain whole))
  where
    clear : (h : Path) (r : Record) → (v.marked h ≡ false) ⊎ (e' h r) → (v.marked h ≡ false) ⊎ (e h r)
    clear h r (inl m) = inl m
    clear h r (inr m) = inr (fewer h r m)

none_less : (e : Eased) (p : Path) (r : Record) → none_eased p r → e p r
none_less e p r h = absurd h

-- what reads now may stay
pub reads_leave : (w : World) → Leaves w (reads w)
reads_leave w q = stays (w.nodes q)
  where
    stays : (s : NodeState) → MayLeave s (reading s)
    stays Owned = tt
    stays (Known n besides) = inl refl

no_truth : false ≡ true → ⊥
no_truth h = grind arith

-- one event keeps what holds between events
abbrev pub Keeps : Outside → World → Versions → Type 0
Keeps o entry H =
    (s s' : RunState) (w : World) (e : Event) → Midway o entry H s w → Lets o w e e.call → Step o s w e s' → Midway o entry H s' (after w e)

module _ (o : Outside) (entry : World) (H : Versions) where
  pub entry_midway : (top : ℕ) → IsTop o entry top → SoundWorld o entry H → Midway o entry H (at_entry o top) entry
  entry_midway top is sound =
      record {
        images = record {
          formed = sound.formed;
          sound = λ names f rising complete covered leaves.
              sound_less o.act H (view_of o.read names f) none_eased (eased (at_entry o top)) (λ p r h. absurd h.1) (sound.after_crash names f rising complete covered leaves);
          sources = sound.same_sources;
          no_new = sound.no_new_record;
          no_nested = sound.no_nested;
          known = sound.known;
          bounded = λ h. absurd (no_truth h);
          unsteady = λ h. is;
        };
        fits = tt;
        phases = tt;
        like = tt;
        apart = tt;
        children = subst (λ cs. Each (IsOfJob o []) cs) (sym sound.no_child) tt;
        owned = λ q h. absurd (sound.no_owned q h);
      }

  pub safe_images : (s : RunState) (w : World) → Midway o entry H s w → SafeImages o entry w H
  safe_images s w m names f rising complete covered leaves = (
    sound_less o.act H (view_of o.read names f) (eased s) none_eased (none_less (eased s)) (m.images.sound names f rising complete covered leaves),
    m.images.sources names f rising complete covered leaves,
    m.images.no_nested names f rising complete covered leaves,
  )

  pub at_end : (s : RunState) (w : World) → Midway o entry H s w → w.children ≡ [] → SoundWorld o w H
  at_end s w m alone =
      record {
        formed = m.images.formed;
        now_sound = (here.0);
        after_crash = λ names f rising complete covered leaves. (safe_images s w m names f rising complete covered leaves).0;
        same_sources = λ names f rising complete covered leaves p. m.images.sources names f rising complete covered leaves p ∙ sym (here.1 p);
        no_new_record = m.images.no_new;
        no_nested = m.images.no_nested;
        known = m.images.known;
        no_child = alone;
        no_owned = none;
      }
    where
      here : Sound o.act H (now o w) none_eased × ((p : Path) → source_at (now o w) p ≡ source_at (now o entry) p) × HasNoNested o (now o w)
      here = safe_images s w m w.names (reads w) m.images.formed.rising (all_named _ m.images.formed) (all_named _ m.images.formed) (reads_leave w)

      -- a running job would have a child
      none : (q : Path) → w.nodes q ≡ Owned → ⊥
      none q h = let k = m.owned q h in runs (k.0).phase refl k.2 (each_in (InPhase o w) s.jobs k.0 m.phases k.1)
        where
          runs : (phase : Phase) → (m.owned q h).0.phase ≡ phase → is_running phase ≡ true → InPhase o w (m.owned q h).0 → ⊥
          runs (Running n) e r in_phase = subst (λ cs. IsIn cs (in_phase.child n e).0) alone (in_phase.child n e).1
          runs Marking e r in_phase = no_truth r
          runs Marked e r in_phase = no_truth r
          runs (Ended n) e r in_phase = no_truth r
          runs Firm e r in_phase = no_truth r
          runs Recorded e r in_phase = no_truth r
          runs Dropping e r in_phase = no_truth r
          runs Dropped e r in_phase = no_truth r
