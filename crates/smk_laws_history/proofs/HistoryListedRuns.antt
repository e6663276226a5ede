-- A run of the protocol keeps directories listed; so it is a call that stands in a history.
use Rattle.std.proofs.Common.{◌≡◌, ℕ, false, List, [], ◌∷◌, ◌++◌, refl, sym, subst, inl, inr, Contains, Some, Ok, Err, IsTrue}
use Rattle.std.specs.Prelude.{nat_eq}
use Rattle.std.specs.List.{IsDistinct}
use Rattle.smk_world.specs.declared.event.Call.{Call}
use Rattle.smk_world.specs.declared.event.Call.TheVariants.{Looked, ReadFile, ReadFolder, Written, Created, Removed, MadeParents, Settled, Protected, Started, Waited}
use Rattle.smk_world.specs.declared.event.Event.{Event}
use Rattle.smk_world.specs.World.{World, after, run, numbers}
use Rattle.smk_world.specs.Calls.{failed}
use Rattle.smk_world.specs.Runs.{Follows}
use Rattle.smk_world.specs.Trees.{IsIn}
use Rattle.smk_world.proofs.Owners.{AreNumbered, numbered_after, numbered_image}
use Rattle.smk_store.specs.Images.{image_of, seen}
use Rattle.smk_store.specs.Trust.{Versions, SumsDiffer}
use Rattle.smk_store.specs.Soundness.{Outside, SoundWorld}
use Rattle.smk_laws_protocol.specs.Protocol.{OpenJob, RunState, Marking, Runs, Done, Next, IsFirst, mark_places, as_ok}
use Rattle.smk_laws_protocol.specs.Midway.{IsTop as ImageTop, at_entry}
use Rattle.smk_laws_protocol.proofs.Answers.{answers}
use Rattle.smk_laws_protocol.proofs.Basics.{in_here}
use Rattle.smk_laws_protocol.proofs.Between.{Midway, IsTop}
use Rattle.smk_laws_protocol.proofs.Calls.{Allows}
use Rattle.smk_laws_protocol.proofs.EveryImage.{to_lists, from_lists}
use Rattle.smk_laws_protocol.proofs.Finish.{allows_of, allows_failed}
use Rattle.smk_laws_protocol.proofs.Keeping.{AsideAllows, aside_allows, keeps, texts_of}
use Rattle.smk_laws_protocol.proofs.Law.{entry_midway}
use Rattle.smk_laws_protocol.proofs.Naming.{each_image, now_image}
use Rattle.smk_laws_protocol.proofs.Opening.{opened}
use Rattle.smk_laws_protocol.proofs.ProtocolHolds.{keeps_sound}
use Rattle.smk_laws_protocol.proofs.Reading.{in_of}
use Rattle.smk_laws_protocol.proofs.Rows.{Closes, AllUnmarked, Step, Aside, Steady, Begin, Go, Close, Fail, FailWait}
use Rattle.smk_laws_protocol.proofs.SoundWorlds.{world_to, now_is}
use Rattle.smk_laws_protocol.proofs.StepViews.{step_to}
use Rattle.smk_laws_protocol.proofs.TextFacts.{text_laws}
use Rattle.smk_laws_protocol.proofs.Texts.{Texts}
use Rattle.smk_laws_protocol.proofs.Unowned.{step_unowned}
use Rattle.smk_laws_protocol.proofs.View.{View}
use Rattle.smk_laws_protocol.proofs.Views.{EachImage, reads}
use Rattle.smk_laws_history.specs.Histories.{IsListed, RunIsCall}
use Rattle.smk_laws_history.proofs.HistoryListed.{HasListed, to_view, from_view}
use Rattle.smk_laws_history.proofs.HistoryListedCalls.{Who, open_of, listed_after}

-- ## Whose call it is

first_allows : (o : Outside) (j : OpenJob) (c : Call) → j.phase ≡ Marking → IsFirst o c (mark_places j) → Allows o j c
first_allows o j (Created p (Ok made)) h i = (h, i)
first_allows o j (MadeParents p (Ok u)) h i = inl (inl i)
first_allows o j (Created p (Err x)) h i = absurd i
first_allows o j (MadeParents p (Err x)) h i = absurd i
first_allows o j (Looked p r) h i = absurd i
first_allows o j (ReadFile p limit r) h i = absurd i
first_allows o j (ReadFolder p r) h i = absurd i
first_allows o j (Removed p r) h i = absurd i
first_allows o j (Settled ps r) h i = absurd i
first_allows o j (Protected p r) h i = absurd i
first_allows o j (Written p bytes r) h i = absurd i
first_allows o j (Started recipe logs command r) h i = absurd i
first_allows o j (Waited r) h i = absurd i

closes_allows : (o : Outside) (w : World) (j : OpenJob) (c : Call) → Closes o w j c → Allows o j c
closes_allows o w j c (AllUnmarked ps h absent all) = tt

aside_failed : (o : Outside) (s : RunState) (w : World) (c : Call) → IsTrue (failed c) → AsideAllows o s w (as_ok c) → AsideAllows o s w c
aside_failed o s w (Looked p r) f a = a
aside_failed o s w (ReadFile p limit r) f a = a
aside_failed o s w (ReadFolder p r) f a = a
aside_failed o s w (Created p r) f a = a
aside_failed o s w (MadeParents p r) f a = a
aside_failed o s w (Removed p r) f a = a
aside_failed o s w (Settled ps r) f a = a
aside_failed o s w (Protected p r) f a = a
aside_failed o s w (Written p bytes r) f a = a
aside_failed o s w (Started recipe logs command r) f a = a
aside_failed o s w (Waited r) f a = a

who_failed : (o : Outside) (s : RunState) (w : World) (c : Call) → IsTrue (failed c) → Who o s w (as_ok c) → Who o s w c
who_failed o s w c f (inl a) = inl (aside_failed o s w c f a)
who_failed o s w c f (inr (k, i, a)) = inr (k, i, allows_failed o k c f a)

module _ (o : Outside) (texts : Texts o.read) (entry : World) (H : Versions) (differ : SumsDiffer H) where
  -- the state in which the call is allowed
  record Allowed (w : World) (c : Call) : Type 0 where
    state : RunState
    midway : Midway o entry H state w
    who : Who o state w c

  allowed : (s : RunState) (w : World) → Midway o entry H s w → (e : Event) (s' : RunState) → Step o s w e s' → Allowed w e.call
  allowed s w m e s' (Aside _ nf b) = record { state = s; midway = m; who = inl (aside_allows o s w e.call b) }
  allowed s w m e s' (Steady _ ps nf none settles all) = record { state = s; midway = m; who = inl (subst (AsideAllows o s w) (sym settles) tt) }
  allowed s w m e s' (Begin _ j top nf steady may serial h first) =
      record {
        state = record s { jobs = j ∷ s.jobs; top = top };
        midway = opened o texts entry H s w j top m steady may serial h differ;
        who = inr (j, inl refl, first_allows o j e.call h first);
      }
  allowed s w m e s' (Go _ js ks j phase jobs may moves) =
      record { state = s; midway = m; who = inr (j, subst (λ l. IsIn l j) (sym jobs) (in_here js ks j), allows_of o w j e.call phase moves) }
  allowed s w m e s' (Close _ js ks j jobs nf h) =
      record { state = s; midway = m; who = inr (j, subst (λ l. IsIn l j) (sym jobs) (in_here js ks j), closes_allows o w j e.call h) }
  allowed s w m e s' (Fail _ s2 f step) =
      let before = allowed s w m (record e { call = as_ok e.call }) s2 step in
      record { state = before.state; midway = before.midway; who = who_failed o before.state w e.call f before.who }
  allowed s w m e s' (FailWait _ x h) = record { state = s; midway = m; who = inl (subst (AsideAllows o s w) (sym h) tt) }

-- ## Along a run

module _ (o : Outside) (entry : World) (H : Versions) (differ : SumsDiffer H) where
  abbrev texts : Texts o.read
  texts = texts_of text_laws o.read

  record Kept (s : RunState) (w : World) : Type 0 where
    midway : Midway o entry H s w
    listed : EachImage o.read w HasListed

  along : (s end : RunState) (w : World) (es : List Event) → Kept s w → AreNumbered w → Follows o.act w es → Runs o s w es end → Kept end (run w es)
  along s end w [] kept numbered follows (Done _ _) = kept
  along s end w (e ∷ es) kept numbered follows (Next _ mid _ _ _ _ step runs) =
      let by = step_to o w s e mid step in
      let lets = answers o entry H s w kept.midway numbered e.call e.left (step_unowned o entry H s w kept.midway e mid by) follows.0.lets in
      let by_whom = allowed o texts entry H differ s w kept.midway e mid by in
      along mid end (after w e) es
      (record {
        midway = keeps o texts entry H differ s mid w e kept.midway lets by;
        listed = listed_after o texts by_whom.state w (open_of o entry H by_whom.state w by_whom.midway) kept.listed e.call e.left lets by_whom.who;
      })
      (numbered_after o.act w e follows.0.lets numbered) follows.1 runs

  -- where no child runs
  numbered_alone : entry.children ≡ [] → AreNumbered entry
  numbered_alone none = record { distinct = subst (λ cs. IsDistinct nat_eq (numbers cs)) (sym none) (numbered_image []).distinct; started = λ n h. absurd (in_of (numbers []) n (subst (λ cs. Contains (numbers cs) n) none h)) }

  top_to : (top : ℕ) → ImageTop o entry top → IsTop o entry top
  top_to top is p r n at unmarked i =
      is p r n (subst (λ (v : View). v.record_at p ≡ Some r) (sym (now_is o entry H)) at, inl (subst (λ (v : View). v.marked p ≡ false) (sym (now_is o entry H)) unmarked)) i

  reached : SoundWorld o entry H → IsListed o entry → (top : ℕ) (es : List Event) (s : RunState) → ImageTop o entry top → Follows o.act entry es → Runs o (at_entry o top) entry es s → Kept s (run entry es)
  reached sound listed top es s is follows runs =
      along (at_entry o top) s entry es
      (record {
        midway = entry_midway o entry H top (top_to top is) (world_to o entry H sound);
        listed = from_lists o.read entry HasListed (λ nodes leaves. to_view (image_of o.read nodes) (listed.after_crash nodes leaves));
      })
      (numbered_alone sound.no_child) follows runs

  pub lists_after : SoundWorld o entry H → IsListed o entry → (top : ℕ) (es : List Event) (s : RunState) → ImageTop o entry top → Follows o.act entry es → Runs o (at_entry o top) entry es s → IsListed o (run entry es)
  lists_after sound listed top es s is follows runs =
      let kept = reached sound listed top es s is follows runs in
      let formed = kept.midway.images.formed in
      record {
        now = from_view (seen o.read (run entry es)) (subst HasListed (sym (now_is o (run entry es) H)) (each_image o.read (run entry es) HasListed kept.listed (run entry es).names (reads (run entry es)) (now_image (run entry es) formed)));
        after_crash = λ nodes leaves. from_view (image_of o.read nodes) (to_lists o.read (run entry es) formed HasListed kept.listed nodes leaves);
      }

-- ## As a call keeps it

-- a part of a run from its front is a run
front : (o : Outside) (s end : RunState) (w : World) (es rest : List Event) → Runs o s w (es ++ rest) end → (mid : RunState) × Runs o s w es mid
front o s end w [] rest runs = (s, Done s w)
front o s end w (e ∷ es) rest (Next _ mid _ _ _ _ step runs) = let f = front o mid end (after w e) es rest runs in (f.0, Next s mid f.0 w e es step f.1)

front_follows : (o : Outside) (w : World) (es rest : List Event) → Follows o.act w (es ++ rest) → Follows o.act w es
front_follows o w [] rest follows = tt
front_follows o w (e ∷ es) rest follows = (follows.0, front_follows o (after w e) es rest follows.1)

pub run_is_call : RunIsCall
run_is_call o entry top log s is follows runs =
    record {
      follows = follows;
      sound = keeps_sound o entry top log s is follows runs;
      listed = record {
        throughout = λ H differ sound listed events rest split.
            let part = front o (at_entry o top) s entry events rest (subst (λ es. Runs o (at_entry o top) entry es s) split runs) in
            (lists_after o entry H differ sound listed top events part.0 is (front_follows o entry events rest (subst (Follows o.act entry) split follows)) part.1).after_crash;
        at_exit = λ H differ sound listed to_the_end alone. (lists_after o entry H differ sound listed top log s is follows runs).now;
      };
    }
