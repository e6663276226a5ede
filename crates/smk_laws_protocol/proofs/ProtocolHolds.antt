-- The law of the protocol, of images: by the law over views.
use Rattle.std.proofs.Common.{◌≡◌, ℕ, Bool, false, List, [], ◌∷◌, ◌++◌, refl, sym, ap, subst, inl, ◌∙◌, Contains, Option, Some, None, eqb-true}
use Rattle.std.specs.Prelude.{nat_eq, ◌==◌, if◌then◌else◌}
use Rattle.std.specs.List.{IsDistinct}
use Rattle.smk_world.specs.declared.event.Event.{Event}
use Rattle.smk_world.specs.World.{World, after, run, numbers}
use Rattle.smk_world.specs.Runs.{Follows as WorldFollows}
use Rattle.smk_world.proofs.Owners.{AreNumbered, numbered_after, numbered_image}
use Rattle.smk_store.specs.Images.{Image, Content, image_of, seen, source_at}
use Rattle.smk_store.specs.Safety.{or_put, with_sources}
use Rattle.smk_store.specs.Trust.{Versions, SumsDiffer, none_eased}
use Rattle.smk_store.specs.Soundness.{Outside, Sound as ImageSound, SoundWorld as ImageSoundWorld}
use Rattle.smk_laws_protocol.specs.Protocol.{RunState, Runs, Done, Next}
use Rattle.smk_laws_protocol.specs.Midway.{ProtocolLaw, ProtocolKeepsSound, IsSafe, HasSafeImages, IsTop as ImageTop, at_entry}
use Rattle.smk_laws_protocol.proofs.View.{View, Sound}
use Rattle.smk_laws_protocol.proofs.Rows.{now}
use Rattle.smk_laws_protocol.proofs.Between.{Midway, HasSources, HasNoNested, IsTop}
use Rattle.smk_laws_protocol.proofs.Answers.{answers}
use Rattle.smk_laws_protocol.proofs.Basics.{by_test}
use Rattle.smk_laws_protocol.proofs.EveryImage.{to_lists}
use Rattle.smk_laws_protocol.proofs.Keeping.{keeps, texts_of}
use Rattle.smk_laws_protocol.proofs.Law.{entry_midway, safe_images, at_end}
use Rattle.smk_laws_protocol.proofs.Reading.{in_of}
use Rattle.smk_laws_protocol.proofs.SoundViews.{sound_from, has_none}
use Rattle.smk_laws_protocol.proofs.SoundWorlds.{world_to, world_from, sources_from, now_is, now_seen}
use Rattle.smk_laws_protocol.proofs.StepViews.{step_to}
use Rattle.smk_laws_protocol.proofs.TextFacts.{text_laws}
use Rattle.smk_laws_protocol.proofs.Unowned.{step_unowned}

-- where no child runs
pub numbered_alone : (w : World) → w.children ≡ [] → AreNumbered w
numbered_alone w none =
    record {
      distinct = subst (λ cs. IsDistinct nat_eq (numbers cs)) (sym none) (numbered_image []).distinct;
      started = λ n h. absurd (in_of (numbers []) n (subst (λ cs. Contains (numbers cs) n) none h));
    }

module _ (o : Outside) (entry : World) (H : Versions) (differ : SumsDiffer H) where
  along :
      (s end : RunState) (w : World) (es : List Event) →
      Midway o entry H s w → AreNumbered w → WorldFollows o.act w es → Runs o s w es end → Midway o entry H end (run w es)
  along s end w [] m numbered follows (Done _ _) = m
  along s end w (e ∷ es) m numbered follows (Next _ mid _ _ _ _ step runs) =
      let by = step_to o w s e mid step in
      let lets = answers o entry H s w m numbered e.call e.left (step_unowned o entry H s w m e mid by) follows.0.lets in
      along mid end (after w e) es (keeps o (texts_of text_laws o.read) entry H differ s mid w e m lets by) (numbered_after o.act w e follows.0.lets numbered) follows.1 runs

  top_to : (w : World) (top : ℕ) → ImageTop o w top → IsTop o w top
  top_to w top is p r n at unmarked i =
      is p r n (subst (λ (v : View). v.record_at p ≡ Some r) (sym (now_is o w H)) at, inl (subst (λ (v : View). v.marked p ≡ false) (sym (now_is o w H)) unmarked)) i

  pub reached : ImageSoundWorld o entry H → (top : ℕ) (es : List Event) (s : RunState) → ImageTop o entry top → WorldFollows o.act entry es → Runs o (at_entry o top) entry es s → Midway o entry H s (run entry es)
  reached sound top es s is follows runs =
      along (at_entry o top) s entry es (entry_midway o entry H top (top_to entry top is) (world_to o entry H sound)) (numbered_alone entry sound.no_child) follows runs

  safe_here : (s : RunState) (w : World) → Midway o entry H s w → HasSafeImages o entry w H
  safe_here s w m nodes leaves =
      let here = to_lists o.read w m.images.formed (λ v. Sound o.act H v none_eased × HasSources o (now o entry) v × HasNoNested o v) (safe_images o entry H s w m) nodes leaves in (
        sound_from (image_of o.read nodes) o.act H none_eased here.0 (has_none H) here.2,
        sources_from o (seen o.read entry) (image_of o.read nodes) (now_seen o entry H (HasSources o) (image_of o.read nodes) here.1),
      )

  is_safe : ImageSoundWorld o entry H → IsSafe o entry H
  is_safe sound =
      record {
        throughout = λ top es s is follows runs. safe_here s (run entry es) (reached sound top es s is follows runs);
        at_exit = λ top es s is follows runs alone. world_from o (run entry es) H (at_end o entry H s (run entry es) (reached sound top es s is follows runs) alone);
      }

-- ---- as a call keeps it

-- a part of a run from its front is a run
front : (o : Outside) (s end : RunState) (w : World) (es rest : List Event) → Runs o s w (es ++ rest) end → (mid : RunState) × Runs o s w es mid
front o s end w [] rest runs = (s, Done s w)
front o s end w (e ∷ es) rest (Next _ mid _ _ _ _ step runs) = let f = front o mid end (after w e) es rest runs in (f.0, Next s mid f.0 w e es step f.1)

front_follows : (o : Outside) (w : World) (es rest : List Event) → WorldFollows o.act w (es ++ rest) → WorldFollows o.act w es
front_follows o w [] rest follows = tt
front_follows o w (e ∷ es) rest follows = (follows.0, front_follows o (after w e) es rest follows.1)

-- a sound image's sources are already versions
same_versions : (o : Outside) (H : Versions) (i : Image) → ImageSound o.act H i none_eased → with_sources H i ≡ H
same_versions o H i sound k p t = put (source_at i p) (sound.has_sources p) k
  where
    put : (x : Option Content) → ((f : Content) → x ≡ Some f → H p f.time ≡ Some f.bytes) → or_put (H p t) t x ≡ H p t
    put None has = refl
    put (Some f) has = by_test (f.time == t)
        (λ e. ap (λ (b : Bool). if b then Some f.bytes else H p t) e ∙ sym (has f refl) ∙ ap (H p) (eqb-true f.time t e))
        (λ e. ap (λ (b : Bool). if b then Some f.bytes else H p t) e)

-- A log that follows the protocol keeps what a call has to keep.
pub keeps_sound : ProtocolKeepsSound
keeps_sound o entry top log s is follows runs =
    record {
      safe = λ H differ sound events rest split nodes leaves.
          let runs' = front o (at_entry o top) s entry events rest (subst (λ es. Runs o (at_entry o top) entry es s) split runs) in
          let safe = (is_safe o entry H differ sound).throughout top events runs'.0 is (front_follows o entry events rest (subst (WorldFollows o.act entry) split follows)) runs'.1 nodes leaves in
          (subst (λ V. ImageSound o.act V (image_of o.read nodes) none_eased) (sym (same_versions o H (image_of o.read nodes) safe.0)) safe.0, λ p. inl (safe.1 p));
      sound_at_exit = λ H differ sound to_the_end alone.
          let end = (is_safe o entry H differ sound).at_exit top log s is follows runs alone in
          subst (ImageSoundWorld o (run entry log)) (sym (same_versions o H (seen o.read (run entry log)) end.now)) end;
    }

-- The protocol keeps every crash image sound.
pub protocol_law : ProtocolLaw
protocol_law o entry H differ sound = is_safe o entry H differ sound
