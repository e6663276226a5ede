-- Runs of the protocol one after another.
use Rattle.std.proofs.Common.{◌≡◌, ◌⊎◌, inl, inr, Bool, true, List, [], ◌∷◌, ◌++◌, refl, sym, ap, subst, ◌∙◌, append_assoc, append-nil, Option, Some, None, eqb-true}
use Rattle.std.specs.Prelude.{◌==◌, if◌then◌else◌}
use Rattle.smk_world.specs.declared.event.Event.{Event}
use Rattle.smk_world.specs.World.{World, after, reads, run}
use Rattle.smk_world.specs.Runs.{Follows}
use Rattle.smk_world.proofs.Names.{reads_may_stay}
use Rattle.smk_world.proofs.Runs.{run_append}
use Rattle.smk_store.specs.Images.{Content, Image, image_of, seen, source_at}
use Rattle.smk_store.specs.Safety.{KeepsSound, or_put, with_sources}
use Rattle.smk_store.specs.Soundness.{Outside, Sound, SoundWorld, EachImage}
use Rattle.smk_store.specs.Trust.{Versions, SumsDiffer, none_eased}
use Rattle.smk_laws_protocol.specs.Protocol.{RunState, Runs, Done, Next}
use Rattle.smk_laws_protocol.specs.Midway.{HasSafeImages, at_entry}
use Rattle.smk_laws_protocol.proofs.Basics.{by_test}
use Rattle.smk_laws_protocol.proofs.ProtocolHolds.{protocol_law}
use Rattle.smk_laws_history.specs.Histories.{IsListed, KeepsListed, ListsAll}
use Rattle.smk_laws_history.proofs.HistoryListedRuns.{run_is_call}
use Rattle.smk_laws_refusing.specs.Parts.{AreRuns, IsRun, KeepSafe, One, PartsAreCall, PartsAreSafe, Then}

-- ## Lists

tails : {A : Type 0} (x y : A) (xs ys : List A) → x ∷ xs ≡ y ∷ ys → (x ≡ y) × (xs ≡ ys)
tails x y xs ys h = (cc, cc)

-- a front of two lists in a row ends in the first one, or in the second
pub split : {A : Type 0} (es fs front rest : List A) → es ++ fs ≡ front ++ rest
    → ((more : List A) × (es ≡ front ++ more)) ⊎ ((more : List A) × (front ≡ es ++ more) × (fs ≡ more ++ rest))
split [] fs front rest h = inr (front, refl, h)
split (e ∷ es) fs [] rest h = inl (e ∷ es, refl)
split (e ∷ es) fs (x ∷ front) rest h =
    let t = tails e x (es ++ fs) (front ++ rest) h in
    elim (split es fs front rest t.1) [
      | inl k ↦ inl (k.0, λ i. t.0 i ∷ k.1 i)
      | inr k ↦ inr (k.0, λ i. sym t.0 i ∷ k.1 i, k.2)
    ]

-- so does one that ends before some element
pub split_before : {A : Type 0} (es fs front rest : List A) (x : A) → es ++ fs ≡ front ++ x ∷ rest
    → ((more : List A) × (es ≡ front ++ x ∷ more)) ⊎ ((more : List A) × (front ≡ es ++ more) × (fs ≡ more ++ x ∷ rest))
split_before [] fs front rest x h = inr (front, refl, h)
split_before (e ∷ es) fs [] rest x h = let t = tails e x (es ++ fs) rest h in inl (es, λ i. t.0 i ∷ es)
split_before (e ∷ es) fs (y ∷ front) rest x h =
    let t = tails e y (es ++ fs) (front ++ x ∷ rest) h in
    elim (split_before es fs front rest x t.1) [
      | inl k ↦ inl (k.0, λ i. t.0 i ∷ k.1 i)
      | inr k ↦ inr (k.0, λ i. sym t.0 i ∷ k.1 i, k.2)
    ]

-- ## Runs

-- one run after others
pub runs_append : (o : Outside) (w : World) (es fs : List Event) → AreRuns o w es → (run w es).children ≡ [] → AreRuns o (run w es) fs → AreRuns o w (es ++ fs)
runs_append o w es fs (One _ _ is) alone more = Then w es fs (es ++ fs) is alone more refl
runs_append o w log fs (Then _ es gs _ is between rest split) alone more =
    let there : run w log ≡ run (run w es) gs = ap (run w) split ∙ run_append w es gs in
    Then w es (gs ++ fs) (log ++ fs) is between
    (runs_append o (run w es) gs fs rest (subst (λ (v : World). v.children ≡ []) there alone) (subst (λ (v : World). AreRuns o v fs) there more))
    (ap (λ l. l ++ fs) split ∙ append_assoc es gs fs)

front : (o : Outside) (s end : RunState) (w : World) (es rest : List Event) → Runs o s w (es ++ rest) end → (mid : RunState) × Runs o s w es mid
front o s end w [] rest runs = (s, Done s w)
front o s end w (e ∷ es) rest (Next _ mid _ _ _ _ step runs) = let f = front o mid end (after w e) es rest runs in (f.0, Next s mid f.0 w e es step f.1)

pub follows_front : (o : Outside) (w : World) (es rest : List Event) → Follows o.act w (es ++ rest) → Follows o.act w es
follows_front o w [] rest follows = tt
follows_front o w (e ∷ es) rest follows = (follows.0, follows_front o (after w e) es rest follows.1)

pub follows_after : (o : Outside) (w : World) (es rest : List Event) → Follows o.act w (es ++ rest) → Follows o.act (run w es) rest
follows_after o w [] rest follows = follows
follows_after o w (e ∷ es) rest follows = follows_after o (after w e) es rest follows.1

-- ## Safe

module _ (o : Outside) (H : Versions) (differ : SumsDiffer H) where
  one_safe : (w : World) (es : List Event) → SoundWorld o w H → Follows o.act w es → IsRun o w es → KeepSafe o w H es
  one_safe w es sound follows (top, is_top, (s, runs)) =
      let law = protocol_law o w H differ sound in
      record {
        throughout = λ events rest split.
            let part = front o (at_entry o top) s w events rest (subst (λ l. Runs o (at_entry o top) w l s) split runs) in
            law.throughout top events part.0 is_top (follows_front o w events rest (subst (Follows o.act w) split follows)) part.1;
        at_end = law.at_exit top es s is_top follows runs;
      }

  -- images with the sources of a folder have those of the one from which it came
  earlier : (w v u : World) → SoundWorld o v H → HasSafeImages o w v H → HasSafeImages o v u H → HasSafeImages o w u H
  earlier w v u sound before later nodes leaves =
      let here = reads v in
      let stay = reads_may_stay v sound.formed in
      let h = later nodes leaves in (h.0, λ p. h.1 p ∙ sym (sound.same_sources here stay p) ∙ (before here stay).1 p)

  then_safe : (w : World) (es fs : List Event) → SoundWorld o (run w es) H → KeepSafe o w H es → KeepSafe o (run w es) H fs → KeepSafe o w H (es ++ fs)
  then_safe w es fs sound a b =
      record {
        throughout = λ events rest h.
            elim (split es fs events rest h) [
              | inl k ↦ a.throughout events k.0 k.1
              | inr k ↦
                  subst (λ (v : World). HasSafeImages o w v H) (sym (ap (run w) k.1 ∙ run_append w es k.0))
                  (earlier w (run w es) (run (run w es) k.0) sound (a.throughout es [] (sym (append-nil es))) (b.throughout k.0 rest k.2))
            ];
        at_end = λ alone.
            subst (λ (v : World). SoundWorld o v H) (sym (run_append w es fs)) (b.at_end (subst (λ (v : World). v.children ≡ []) (run_append w es fs) alone));
      }

  all_safe : (w : World) (log : List Event) → SoundWorld o w H → Follows o.act w log → AreRuns o w log → KeepSafe o w H log
  all_safe w log sound follows (One _ _ is) = one_safe w log sound follows is
  all_safe w log sound follows (Then _ es fs _ is alone rest split) =
      let both : Follows o.act w (es ++ fs) = subst (Follows o.act w) split follows in
      let first = one_safe w es sound (follows_front o w es fs both) is in
      let mid = first.at_end alone in
      subst (KeepSafe o w H) (sym split) (then_safe w es fs mid first (all_safe (run w es) fs mid (follows_after o w es fs both) rest))

pub parts_are_safe : PartsAreSafe
parts_are_safe o entry H log differ sound follows runs = all_safe o H differ entry log sound follows runs

-- ## A call of a history

-- a sound image's sources are already versions
same_versions : (o : Outside) (H : Versions) (i : Image) → Sound o.act H i none_eased → with_sources H i ≡ H
same_versions o H i sound k p t = put (source_at i p) (sound.has_sources p) k
  where
    put : (x : Option Content) → ((f : Content) → x ≡ Some f → H p f.time ≡ Some f.bytes) → or_put (H p t) t x ≡ H p t
    put None has = refl
    put (Some f) has =
        by_test (f.time == t)
        (λ e. ap (λ (b : Bool). if b then Some f.bytes else H p t) e ∙ sym (has f refl) ∙ ap (H p) (eqb-true f.time t e))
        (λ e. ap (λ (b : Bool). if b then Some f.bytes else H p t) e)

all_sound : (o : Outside) (w : World) (log : List Event) → Follows o.act w log → AreRuns o w log → KeepsSound o w log [] true
all_sound o w log follows runs =
    record {
      safe = λ H differ sound events rest split nodes leaves.
          let h = (all_safe o H differ w log sound follows runs).throughout events rest split nodes leaves in
          (subst (λ V. Sound o.act V (image_of o.read nodes) none_eased) (sym (same_versions o H (image_of o.read nodes) h.0)) h.0, λ p. inl (h.1 p));
      sound_at_exit = λ H differ sound to_the_end alone.
          let end = (all_safe o H differ w log sound follows runs).at_end alone in
          subst (SoundWorld o (run w log)) (sym (same_versions o H (seen o.read (run w log)) end.now)) end;
    }

module _ (o : Outside) (H : Versions) (differ : SumsDiffer H) where
  -- what is listed stays listed
  pub record StaysListed (w : World) (log : List Event) : Type 0 where
    pub throughout : (events rest : List Event) → log ≡ events ++ rest → EachImage o.read (run w events) ListsAll
    pub at_end : (run w log).children ≡ [] → ListsAll (seen o.read (run w log))

  listed_by : (w : World) (log : List Event) → SoundWorld o w H → IsListed o w → KeepsListed o w log true → StaysListed w log
  listed_by w log sound listed k = record { throughout = k.throughout H differ sound listed; at_end = λ alone. k.at_exit H differ sound listed refl alone }

  all_listed : (w : World) (log : List Event) → SoundWorld o w H → IsListed o w → Follows o.act w log → AreRuns o w log → StaysListed w log
  all_listed w log sound listed follows (One _ _ (top, is_top, (s, runs))) = listed_by w log sound listed (run_is_call o w top log s is_top follows runs).listed
  all_listed w log sound listed follows (Then _ es fs _ (top, is_top, (s, runs)) alone rest split_is) =
      let both : Follows o.act w (es ++ fs) = subst (Follows o.act w) split_is follows in
      let first_follows = follows_front o w es fs both in
      let mid = (one_safe o H differ w es sound first_follows (top, is_top, (s, runs))).at_end alone in
      let a = listed_by w es sound listed (run_is_call o w top es s is_top first_follows runs).listed in
      let here : IsListed o (run w es) = record { now = a.at_end alone; after_crash = a.throughout es [] (sym (append-nil es)) } in
      let b = all_listed (run w es) fs mid here (follows_after o w es fs both) rest in
      record {
        throughout = λ events rest h.
            elim (split es fs events rest (sym split_is ∙ h)) [
              | inl k ↦ a.throughout events k.0 k.1
              | inr k ↦ subst (λ (v : World). EachImage o.read v ListsAll) (sym (ap (run w) k.1 ∙ run_append w es k.0)) (b.throughout k.0 rest k.2)
            ];
        at_end = λ none.
            let there : run w log ≡ run (run w es) fs = ap (run w) split_is ∙ run_append w es fs in
            subst (λ (v : World). ListsAll (seen o.read v)) (sym there) (b.at_end (subst (λ (v : World). v.children ≡ []) there none));
      }

pub parts_are_call : PartsAreCall
parts_are_call o entry log follows runs =
    record {
      follows = follows;
      sound = all_sound o entry log follows runs;
      listed = record {
        throughout = λ H differ sound listed. (all_listed o H differ entry log sound listed follows runs).throughout;
        at_exit = λ H differ sound listed to_the_end. (all_listed o H differ entry log sound listed follows runs).at_end;
      };
    }
