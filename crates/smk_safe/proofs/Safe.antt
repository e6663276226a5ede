-- A run of turns that are ready is safe.
use Rattle.std.proofs.Common.{◌≡◌, ℕ, true, ◌||◌, ◌&&◌, List, [], ◌∷◌, ◌++◌, refl, ap, sym, subst, ◌∙◌, append_assoc, Ok}
use Rattle.smk_laws_job.proofs.Still.{firm_reads}
use Rattle.smk_world.specs.declared.event.Call.{Call}
use Rattle.smk_world.specs.declared.event.Call.TheVariants.{Settled}
use Rattle.smk_world.specs.declared.event.Event.{Event}
use Rattle.smk_world.specs.declared.event.NodeState.{NodeState}
use Rattle.smk_world.specs.World.{World, Throughout, after, run, reading, settled, node_after, names_after, children_after, is_within, is_above, reads_folder}
use Rattle.smk_world.specs.Calls.{Lets}
use Rattle.smk_world.specs.Runs.{Follows}
use Rattle.smk_world.specs.Trees.{Path, Each}
use Rattle.smk_world.proofs.Runs.{run_append}
use Rattle.smk_record.specs.Spelling.{ReadsRecords}
use Rattle.smk_store.specs.Images.{Image, image_by}
use Rattle.smk_store.specs.Soundness.{Outside, SoundWorld}
use Rattle.smk_store.specs.Trust.{Versions, SumsDiffer}
use Rattle.smk_laws_protocol.specs.Protocol.{RunState, Runs, Done, Next, Steady, HasAllMarks, now}
use Rattle.smk_laws_protocol.specs.Midway.{IsTop, at_entry}
use Rattle.smk_run.specs.Stamps.{Serials}
use Rattle.smk_run.specs.Turns.{Turn, AreTurns, is_closed}
use Rattle.smk_safe.proofs.Done.{follows_split}
use Rattle.smk_safe.specs.Turning.{IsAtRest, AllAreFound}
use Rattle.smk_safe.specs.Ready.{AreReady, AreDoneButLast}
use Rattle.smk_safe.specs.Safe.{IsRunOf, IsSafeRun, RunIsSafe}
use Rattle.smk_safe.proofs.Joining.{throughout_later, AreLooks, look_all, looks_same, now_same}
use Rattle.smk_safe.proofs.Going.{sound_at_rest, safe_here, ready_turns_are_run}

-- ## What was found is settled

settled_reads : (ps : List Path) (q : Path) (s : NodeState) → reading (settled ps q s) ≡ reading s
settled_reads ps q s = firm_reads (is_within q ps || (is_above q ps && reads_folder s)) s

-- after a settling all reads as before
settled_now : (o : Outside) (w : World) (e : Event) (ps : List Path) → e.call ≡ Settled ps (Ok tt) → Lets o.act w e.call e.left → now o (after w e) ≡ now o w
settled_now o w e ps is lets =
    let none : e.left ≡ [] = subst (λ (c : Call). Lets o.act w c e.left) is lets in
    let names : (after w e).names ≡ w.names = ap (λ (c : Call). names_after c e.left w.names) is ∙ ap (λ l. names_after (Settled ps (Ok tt)) l w.names) none in
    let reads : (q : Path) → reading ((after w e).nodes q) ≡ reading (w.nodes q) =
    λ q. ap (λ (c : Call). reading (node_after c e.left w.children q (w.nodes q))) is ∙ settled_reads ps q (w.nodes q) in
    λ i. image_by o.read (names i) (λ q. reads q i)

settled_children : (w : World) (e : Event) (ps : List Path) → e.call ≡ Settled ps (Ok tt) → (after w e).children ≡ w.children
settled_children w e ps is = ap (λ (c : Call). children_after c w.children) is

-- ## Up to the first turn

abbrev steady_state : Outside → ℕ → RunState
steady_state o top = record (at_entry o top) { steady = true }

steadied : (o : Outside) (top : ℕ) (entry : World) (looks : List Event) (e : Event) (ps : List Path) → AreLooks o looks → e.call ≡ Settled ps (Ok tt) → HasAllMarks o (now o (run entry looks)) ps
    → Runs o (at_entry o top) entry (looks ++ e ∷ []) (steady_state o top)
steadied o top entry looks e ps only is marks =
    look_all o (at_entry o top) (steady_state o top) (e ∷ []) refl entry looks only
    (Next (at_entry o top) (steady_state o top) (steady_state o top) (run entry looks) e []
    (Steady e ps refl refl is marks)
    (Done (steady_state o top) (after (run entry looks) e)))

at_rest : (o : Outside) (top : ℕ) → IsAtRest (steady_state o top)
at_rest o top = record { none_open = refl; steady = refl; calm = refl }

-- a part of a run from its front is a run
pub front : (o : Outside) (s end : RunState) (w : World) (es rest : List Event) → Runs o s w (es ++ rest) end → (mid : RunState) × Runs o s w es mid
front o s end w [] rest runs = (s, Done s w)
front o s end w (e ∷ es) rest (Next _ mid _ _ _ _ step runs) = let f = front o mid end (after w e) es rest runs in (f.0, Next s mid f.0 w e es step f.1)

-- ## All of it

module _ (o : Outside) (entry : World) (H : Versions) (top : ℕ) (made : Serials) (ts : List Turn) (es : List Event)
    (reads : ReadsRecords o.read) (differ : SumsDiffer H) (sound : SoundWorld o entry H) (is_top : IsTop o entry top) (ready : AreReady o (now o entry) made top ts) (last : AreDoneButLast ts)
    (found : Throughout entry es (AllAreFound ts)) (follows : Follows o.act entry es) (h : IsRunOf o made ts entry es) where
  abbrev before : List Event
  before = h.looks ++ h.settling ∷ []

  events_are : es ≡ before ++ h.turns
  events_are = h.events ∙ sym (append_assoc h.looks (h.settling ∷ []) h.turns)

  whole_run : (end : RunState) × Runs o (at_entry o top) entry es end × (Each (λ (t : Turn). is_closed t.course ≡ true) ts → IsAtRest end)
  whole_run =
      let split = follows_split o.act entry before h.turns (subst (Follows o.act entry) events_are follows) in
      let first = follows_split o.act entry h.looks (h.settling ∷ []) split.0 in
      let v = run entry h.looks in
      let same = looks_same o entry h.looks h.only_look first.0 in
      let looked : now o v ≡ now o entry = now_same o entry v same in
      let end_before : run entry before ≡ after v h.settling = run_append entry h.looks (h.settling ∷ []) in
      let seen : now o (run entry before) ≡ now o entry = ap (now o) end_before ∙ settled_now o v h.settling h.places h.settles first.1.0.lets ∙ looked in
      let alone : (run entry before).children ≡ [] = ap (λ (x : World). x.children) end_before ∙ settled_children v h.settling h.places h.settles ∙ same.children ∙ sound.no_child in
      let runs = steadied o top entry h.looks h.settling h.places h.only_look h.settles (subst (λ (i : Image). HasAllMarks o i h.places) (sym looked) h.all_marks) in
      let r =
      ready_turns_are_run o entry H top before (steady_state o top) made ts h.turns reads differ sound is_top split.0 runs (at_rest o top) refl alone
      (subst (λ (i : Image). AreReady o i made top ts) (sym seen) ready) last
      (throughout_later (AllAreFound ts) entry before h.turns (subst (λ l. Throughout entry l (AllAreFound ts)) events_are found)) split.1 h.have_turns in
      (r.0, subst (λ l. Runs o (at_entry o top) entry l r.0) (sym events_are) r.1, r.2)

  -- From the first turn on: nothing has changed till then as the folder reads.
  pub record HasStarted : Type 0 where
    pub start : World
    pub seen : now o start ≡ now o entry
    pub alone : start.children ≡ []
    pub sound_then : SoundWorld o start H
    pub follows_on : Follows o.act start h.turns
    pub turns_on : AreTurns made ts start h.turns
    pub at_end : run entry es ≡ run start h.turns

  pub has_started : HasStarted
  has_started =
      let split = follows_split o.act entry before h.turns (subst (Follows o.act entry) events_are follows) in
      let first = follows_split o.act entry h.looks (h.settling ∷ []) split.0 in
      let v = run entry h.looks in
      let same = looks_same o entry h.looks h.only_look first.0 in
      let looked : now o v ≡ now o entry = now_same o entry v same in
      let end_before : run entry before ≡ after v h.settling = run_append entry h.looks (h.settling ∷ []) in
      let runs = steadied o top entry h.looks h.settling h.places h.only_look h.settles (subst (λ (i : Image). HasAllMarks o i h.places) (sym looked) h.all_marks) in
      record {
        start = run entry before;
        seen = ap (now o) end_before ∙ settled_now o v h.settling h.places h.settles first.1.0.lets ∙ looked;
        alone = ap (λ (x : World). x.children) end_before ∙ settled_children v h.settling h.places h.settles ∙ same.children ∙ sound.no_child;
        sound_then = sound_at_rest o entry H top differ sound is_top before (steady_state o top) split.0 runs (at_rest o top);
        follows_on = split.1;
        turns_on = h.have_turns;
        at_end = ap (run entry) events_are ∙ run_append entry before h.turns;
      }

  safe_run : IsSafeRun o entry H top ts es
  safe_run =
      let r = whole_run in
      record {
        follows_protocol = (r.0, r.1);
        throughout = λ events rest split.
            let part = front o (at_entry o top) r.0 entry events rest (subst (λ l. Runs o (at_entry o top) entry l r.0) split r.1) in
            safe_here o entry H top differ sound is_top events part.0 (follows_split o.act entry events rest (subst (Follows o.act entry) split follows)).0 part.1;
        at_end = λ closed. sound_at_rest o entry H top differ sound is_top es r.0 follows r.1 (r.2 closed);
      }

pub run_is_safe : RunIsSafe
run_is_safe o entry H top made ts es reads differ sound is_top ready last found follows h = safe_run o entry H top made ts es reads differ sound is_top ready last found follows h
