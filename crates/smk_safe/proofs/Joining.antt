-- Runs of the protocol one after another, and looks as such a run.
use Rattle.std.proofs.Common.{◌≡◌, inl, inr, Bool, true, false, ◌||◌, List, [], ◌∷◌, ◌++◌, refl, ap, sym, subst, ◌∙◌, IsTrue, Ok, Err, true≢false}
use Rattle.std.specs.Prelude.{filter}
use Rattle.smk_laws_job.proofs.FinishRuns.{look_ok}
use Rattle.smk_world.specs.declared.event.Call.{Call}
use Rattle.smk_world.specs.declared.event.Call.TheVariants.{Looked, ReadFile, ReadFolder, Written, Created, Removed, MadeParents, Settled, Protected, Started, Waited}
use Rattle.smk_world.specs.declared.event.Change.{Change}
use Rattle.smk_world.specs.declared.event.Child.{Child}
use Rattle.smk_world.specs.declared.event.Event.{Event}
use Rattle.smk_world.specs.World.{World, Throughout, after, run, reading, node_after, names_after, children_after}
use Rattle.smk_world.specs.Calls.{Lets, failed}
use Rattle.smk_world.specs.Devices.{AreLooks as AreReads, is_look}
use Rattle.smk_world.specs.Runs.{Follows}
use Rattle.smk_world.specs.Requests.{Request, request}
use Rattle.smk_world.specs.Requests.Request.{Look, ReadUpTo, ListFolder}
use Rattle.smk_world.specs.Trees.{Path, Act, Each}
use Rattle.smk_store.specs.Images.{image_by}
use Rattle.smk_store.specs.Soundness.{Outside}
use Rattle.smk_laws_protocol.specs.Protocol.{RunState, Runs, Done, Next, Aside, Look as LookMove, Fail, IsLook, as_ok, now, runs}
use Rattle.smk_job.specs.Jobs.{IsPart}
use Rattle.smk_run.proofs.Calls.{EachCall}
use Rattle.smk_run.proofs.Calls.{OfLooks}
use Rattle.smk_safe.specs.Turning.{has_failure}

-- ## Runs

pub runs_then : (o : Outside) (end : RunState) (fs : List Event) (s mid : RunState) (w : World) (es : List Event)
    → Runs o s w es mid → Runs o mid (run w es) fs end → Runs o s w (es ++ fs) end
runs_then o end fs s mid w [] (Done _ _) more = more
runs_then o end fs s mid w (e ∷ es) (Next _ next _ _ _ _ step rest) more = Next s next end w e (es ++ fs) step (runs_then o end fs next mid (after w e) es rest more)

pub throughout_later : (P : World → Type 0) (w : World) (es fs : List Event) → Throughout w (es ++ fs) P → Throughout (run w es) fs P
throughout_later P w [] fs h = h
throughout_later P w (e ∷ es) fs h = throughout_later P (after w e) es fs h.1

pub throughout_first : (P : World → Type 0) (w : World) (es fs : List Event) → ((v : World) (gs : List Event) → Throughout v gs P → P v) → Throughout w (es ++ fs) P → Throughout w es P
throughout_first P w [] fs start h = start w fs h
throughout_first P w (e ∷ es) fs start h = (h.0, throughout_first P (after w e) es fs start h.1)

pub throughout_on : (P Q : World → Type 0) → ((v : World) → P v → Q v) → (w : World) (es : List Event) → Throughout w es P → Throughout w es Q
throughout_on P Q f w [] h = f w h
throughout_on P Q f w (e ∷ es) h = (f w h.0, throughout_on P Q f (after w e) es h.1)

-- ## Looks

-- a look at a place, a read of a file, or a look in a folder
abbrev pub IsLooking : Request → Type 0
IsLooking (Look p) = Unit {0}
IsLooking (ReadUpTo p limit) = Unit {0}
IsLooking (ListFolder p) = Unit {0}
IsLooking r = ⊥

pub lookings : OfLooks IsLooking
lookings = record { look = λ p. tt; read = λ p limit. tt; listed = λ p. tt }

pub look_by : (o : Outside) (c : Call) → IsLooking (request c) → IsLook o c
look_by o (Looked p r) h = tt
look_by o (ReadFile p limit r) h = tt
look_by o (ReadFolder p r) h = tt
look_by o (Written p bytes r) h = absurd h
look_by o (Created p r) h = absurd h
look_by o (Removed p r) h = absurd h
look_by o (MadeParents p r) h = absurd h
look_by o (Settled ps r) h = absurd h
look_by o (Protected p r) h = absurd h
look_by o (Started recipe logs command r) h = absurd h
look_by o (Waited r) h = absurd h

-- a look, a read or a listing
pub read_look : (o : Outside) (c : Call) → is_look c ≡ true → IsLook o c
read_look o (Looked p r) h = tt
read_look o (ReadFile p limit r) h = tt
read_look o (ReadFolder p r) h = tt
read_look o (Written p bytes r) h = absurd (true≢false (sym h))
read_look o (Created p r) h = absurd (true≢false (sym h))
read_look o (Removed p r) h = absurd (true≢false (sym h))
read_look o (MadeParents p r) h = absurd (true≢false (sym h))
read_look o (Settled ps r) h = absurd (true≢false (sym h))
read_look o (Protected p r) h = absurd (true≢false (sym h))
read_look o (Started recipe logs command r) h = absurd (true≢false (sym h))
read_look o (Waited r) h = absurd (true≢false (sym h))

abbrev pub AreLooks : Outside → List Event → Type 0
AreLooks o es = Each (λ (e : Event). IsLook o e.call) es

pub looks_by : (o : Outside) (es : List Event) → EachCall IsLooking es → AreLooks o es
looks_by o [] h = tt
looks_by o (e ∷ es) h = (look_by o e.call h.0, looks_by o es h.1)

-- looks leave the state as it is
pub look_all : (o : Outside) (s end : RunState) (rest : List Event) → s.faulted ≡ false → (w : World) (es : List Event) → AreLooks o es → Runs o s (run w es) rest end → Runs o s w (es ++ rest) end
look_all o s end rest calm w [] h more = more
look_all o s end rest calm w (e ∷ es) h more = Next s s end w e (es ++ rest) (Aside e calm (LookMove e.call h.0)) (look_all o s end rest calm (after w e) es h.1 more)

-- after a failed look
abbrev blinded : Outside → RunState → RunState
blinded o s = record s { jobs = filter (runs o) s.jobs; faulted = true }

look_fails : (o : Outside) (s : RunState) (w : World) (e : Event) → s.faulted ≡ false → IsLook o e.call → IsTrue (failed e.call) → Runs o s w (e ∷ []) (blinded o s)
look_fails o s w e calm look bad =
    Next s (blinded o s) (blinded o s) w e []
    (Fail e s bad (Aside (record e { call = as_ok e.call }) calm (LookMove (as_ok e.call) (look_ok o e.call look))))
    (Done (blinded o s) (after w e))

-- a part of some looks, of which the last may fail
pub look_part : (o : Outside) (s : RunState) → s.faulted ≡ false → (rs : List Request) (w : World) (es : List Event)
    → Each IsLooking rs → IsPart rs es → (end : RunState) × Runs o s w es end × (has_failure es ≡ true → end.faulted ≡ true)
look_part o s calm rs w [] each h = (s, Done s w, λ f. absurd (true≢false (sym f)))
look_part o s calm [] w (e ∷ es) each h = absurd h
look_part o s calm (r ∷ rs) w (e ∷ es) each (is, inl (bad, none)) =
    let look = look_by o e.call (subst IsLooking (sym is) each.0) in
    (blinded o s, subst (λ l. Runs o s w (e ∷ l) (blinded o s)) (sym none) (look_fails o s w e calm look bad), λ f. refl)
look_part o s calm (r ∷ rs) w (e ∷ es) each (is, inr (quiet, more)) =
    let look = look_by o e.call (subst IsLooking (sym is) each.0) in
    let rest = look_part o s calm rs (after w e) es each.1 more in
    (rest.0, Next s s rest.0 w e es (Aside e calm (LookMove e.call look)) rest.1, λ f. rest.2 (sym (ap (λ b. b || has_failure es) quiet) ∙ f))

-- looks of which the last may have failed
pub read_part : (o : Outside) (s : RunState) → s.faulted ≡ false → (failure : Bool) (w : World) (es : List Event) → AreReads failure es
    → (end : RunState) × Runs o s w es end × (has_failure es ≡ true → end.faulted ≡ true)
read_part o s calm failure w [] h = (s, Done s w, λ f. absurd (true≢false (sym f)))
read_part o s calm true w (e ∷ []) h = (blinded o s, look_fails o s w e calm (read_look o e.call h.0) h.1, λ f. refl)
read_part o s calm false w (e ∷ []) h =
    (s, Next s s s w e [] (Aside e calm (LookMove e.call (read_look o e.call h.0))) (Done s (after w e)), λ f. absurd (true≢false (sym f ∙ ap (λ b. b || false) h.1)))
read_part o s calm failure w (e ∷ (f ∷ es)) h =
    let rest = read_part o s calm failure (after w e) (f ∷ es) h.2 in
    (rest.0, Next s s rest.0 w e (f ∷ es) (Aside e calm (LookMove e.call (read_look o e.call h.0))) rest.1, λ bad. rest.2 (sym (ap (λ b. b || has_failure (f ∷ es)) h.1) ∙ bad))

-- ## Looks change nothing

look_nodes : (o : Outside) (c : Call) (left : List Change) (cs : List Child) (w : World) → IsLook o c → (λ (q : Path). node_after c left cs q (w.nodes q)) ≡ w.nodes
look_nodes o (Looked p r) left cs w h = refl
look_nodes o (ReadFile p limit r) left cs w h = refl
look_nodes o (ReadFolder p r) left cs w h = refl
look_nodes o (Written p bytes r) left cs w h = absurd h
look_nodes o (Created p r) left cs w h = absurd h
look_nodes o (Removed p r) left cs w h = absurd h
look_nodes o (MadeParents p r) left cs w h = absurd h
look_nodes o (Settled ps r) left cs w h = absurd h
look_nodes o (Protected p r) left cs w h = absurd h
look_nodes o (Started recipe logs command r) left cs w h = absurd h
look_nodes o (Waited r) left cs w h = absurd h

look_names : (o : Outside) (act : Act) (w : World) (c : Call) (left : List Change) → IsLook o c → Lets act w c left → names_after c left w.names ≡ w.names
look_names o act w (Looked p (Ok s)) left h lets = ap (λ l. names_after (Looked p (Ok s)) l w.names) lets.0
look_names o act w (Looked p (Err e)) left h lets = ap (λ l. names_after (Looked p (Err e)) l w.names) lets
look_names o act w (ReadFile p limit (Ok s)) left h lets = ap (λ l. names_after (ReadFile p limit (Ok s)) l w.names) lets.0
look_names o act w (ReadFile p limit (Err e)) left h lets = ap (λ l. names_after (ReadFile p limit (Err e)) l w.names) lets
look_names o act w (ReadFolder p (Ok s)) left h lets = ap (λ l. names_after (ReadFolder p (Ok s)) l w.names) lets.0
look_names o act w (ReadFolder p (Err e)) left h lets = ap (λ l. names_after (ReadFolder p (Err e)) l w.names) lets
look_names o act w (Written p bytes r) left h lets = absurd h
look_names o act w (Created p r) left h lets = absurd h
look_names o act w (Removed p r) left h lets = absurd h
look_names o act w (MadeParents p r) left h lets = absurd h
look_names o act w (Settled ps r) left h lets = absurd h
look_names o act w (Protected p r) left h lets = absurd h
look_names o act w (Started recipe logs command r) left h lets = absurd h
look_names o act w (Waited r) left h lets = absurd h

look_children : (o : Outside) (c : Call) (cs : List Child) → IsLook o c → children_after c cs ≡ cs
look_children o (Looked p r) cs h = refl
look_children o (ReadFile p limit r) cs h = refl
look_children o (ReadFolder p r) cs h = refl
look_children o (Written p bytes r) cs h = absurd h
look_children o (Created p r) cs h = absurd h
look_children o (Removed p r) cs h = absurd h
look_children o (MadeParents p r) cs h = absurd h
look_children o (Settled ps r) cs h = absurd h
look_children o (Protected p r) cs h = absurd h
look_children o (Started recipe logs command r) cs h = absurd h
look_children o (Waited r) cs h = absurd h

-- all but the log is the same
pub record IsSameBut (w v : World) : Type 0 where
  pub nodes : v.nodes ≡ w.nodes
  pub names : v.names ≡ w.names
  pub children : v.children ≡ w.children

pub looks_same : (o : Outside) (w : World) (es : List Event) → AreLooks o es → Follows o.act w es → IsSameBut w (run w es)
looks_same o w [] h follows = record { nodes = refl; names = refl; children = refl }
looks_same o w (e ∷ es) h follows =
    let more = looks_same o (after w e) es h.1 follows.1 in
    record {
      nodes = more.nodes ∙ look_nodes o e.call e.left w.children w h.0;
      names = more.names ∙ look_names o o.act w e.call e.left h.0 follows.0.lets;
      children = more.children ∙ look_children o e.call w.children h.0;
    }

pub now_same : (o : Outside) (w v : World) → IsSameBut w v → now o v ≡ now o w
now_same o w v h = λ i. image_by o.read (h.names i) (λ q. reading (h.nodes i q))
