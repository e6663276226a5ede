-- A turn's own child, and the status that is told of it.
use Rattle.std.proofs.Common.{◌≡◌, ◌≢◌, ℕ, true, false, List, [], ◌∷◌, ◌++◌, refl, ap, sym, subst, ◌∙◌, Some, None, Ok, Err, append_assoc, arith, true≢false}
use Rattle.std.specs.Prelude.{if◌then◌else◌, nat_eq}
use Rattle.std.proofs.lemmas.List.{append-nil}
use Rattle.smk_base.specs.declared.tree.Tree.{Tree}
use Rattle.smk_world.specs.declared.event.Call.{Call}
use Rattle.smk_world.specs.declared.event.Call.TheVariants.{Looked, ReadFile, ReadFolder, Written, Created, Removed, MadeParents, Settled, Protected, Started, Waited}
use Rattle.smk_world.specs.declared.event.Child.{Child}
use Rattle.smk_world.specs.declared.event.Ended.{Ended}
use Rattle.smk_world.specs.declared.event.Event.{Event}
use Rattle.smk_world.specs.declared.recipe.Recipe.{Recipe}
use Rattle.smk_world.specs.World.{World, after, run, children_after, child_numbered, in_paths}
use Rattle.smk_world.specs.Calls.{ContentsAre, Rose, started_number, started_numbers, failed}
use Rattle.smk_world.specs.Requests.{Request, request, HasDone}
use Rattle.smk_world.specs.Requests.Request.{Start}
use Rattle.smk_world.specs.Trees.{Path, Act}
use Rattle.smk_world.proofs.Runs.{run_append}
use Rattle.smk_job.specs.Jobs.{Underway}
use Rattle.smk_job.proofs.Children.{AreFiles, is_crew, children_by}
use Rattle.smk_job.proofs.Launching.{before_start, before_files, number_none}
use Rattle.smk_run.specs.declared.ending.Ending.{Ending}
use Rattle.smk_run.specs.declared.ending.Ending.TheVariants.{Good, Status, NoOutput, WrongKind, BadMember}
use Rattle.smk_run.specs.Closings.{wait_event, IsClosedBy}
use Rattle.smk_run.specs.Laws.{status_of, HasStatus}
use Rattle.smk_run.specs.Stamps.{Serials}
use Rattle.smk_run.specs.Statuses.{IsGiven, AreGiven}
use Rattle.smk_run.specs.Turns.{Course, Closed, Turn, found, as_underway, IsTurnBy, IsTurn}
use Rattle.smk_run.proofs.Calls.{EachCall, OfLooks, digested_each}

-- ## Children

-- calls that neither start a child nor wait for one
pub files_children : (w : World) (es : List Event) → EachCall (λ (r : Request). is_crew r ≡ false) es → (run w es).children ≡ w.children
files_children w [] h = refl
files_children w (e ∷ es) h = files_children (after w e) es h.1 ∙ children_by e.call w.children h.0

-- the child that a start made
start_by : (call : Call) (cs : List Child) (recipe : Recipe) (logs : List Path) (command : List ℕ) (number : ℕ)
    → request call ≡ Start recipe logs command → failed call ≡ false → started_number call ≡ number ∷ [] → children_after call cs ≡ cs ++ record { number = number; recipe = recipe; logs = logs } ∷ []
start_by (Started r ls command2 (Ok n)) cs recipe logs command number is quiet e =
    let same : r ≡ recipe = cc in
    let equal : ls ≡ logs = cc in
    let as_told : n ≡ number = cc in
    λ i. cs ++ record { number = as_told i; recipe = same i; logs = equal i } ∷ []
start_by (Started r ls command2 (Err e)) cs recipe logs command number is quiet told = absurd (true≢false quiet)
start_by (Looked x r) cs recipe logs command number is quiet e = cc
start_by (ReadFile x limit r) cs recipe logs command number is quiet e = cc
start_by (ReadFolder x r) cs recipe logs command number is quiet e = cc
start_by (Written x bytes r) cs recipe logs command number is quiet e = cc
start_by (Created x r) cs recipe logs command number is quiet e = cc
start_by (Removed x r) cs recipe logs command number is quiet e = cc
start_by (MadeParents x r) cs recipe logs command number is quiet e = cc
start_by (Settled xs r) cs recipe logs command number is quiet e = cc
start_by (Protected x r) cs recipe logs command number is quiet e = cc
start_by (Waited r) cs recipe logs command number is quiet e = cc

-- files' calls, and then a start: the child with that number runs
pub started_after : (rs : List Request) (recipe : Recipe) (logs : List Path) (command : List ℕ) (number : ℕ) (w : World) (es : List Event)
    → AreFiles rs → HasDone (rs ++ Start recipe logs command ∷ []) es → started_numbers es ≡ number ∷ [] → (run w es).children ≡ w.children ++ record { number = number; recipe = recipe; logs = logs } ∷ []
started_after [] recipe logs command number w [] files h told = absurd h
started_after [] recipe logs command number w (e ∷ []) files h told = start_by e.call w.children recipe logs command number h.0 h.1 (sym (append-nil (started_number e.call)) ∙ told)
started_after [] recipe logs command number w (e ∷ (f ∷ es)) files h told = absurd h.2
started_after (r ∷ rs) recipe logs command number w [] files h told = absurd h
started_after (r ∷ rs) recipe logs command number w (e ∷ es) files h told =
    let quiet : is_crew (request e.call) ≡ false = ap is_crew h.0 ∙ files.0 in
    started_after rs recipe logs command number (after w e) es files.1 h.2 (ap (λ l. l ++ started_numbers es) (sym (number_none e.call quiet)) ∙ told)
    ∙ ap (λ cs. cs ++ record { number = number; recipe = recipe; logs = logs } ∷ []) (children_by e.call w.children quiet)

-- ## The status

-- what is said of the event behind these
given_at : (act : Act) (A : Type 0) (w : World) (front back : List Event) (e : Event) → AreGiven act A w (front ++ e ∷ back) → IsGiven act A (run w front) e.call
given_at act A w [] back e h = h.0
given_at act A w (f ∷ front) back e h = given_at act A (after w f) front back e h.1

closed_status : (j : Underway) (ending : Ending) (status : ℕ) (w : World) (es : List Event) → IsClosedBy j ending status w es → status ≡ status_of ending
closed_status j Good status w es h = h.0
closed_status j (Status n) status w es h = sym h.0
closed_status j (NoOutput p) status w es h = h.0
closed_status j (WrongKind p) status w es h = h.0
closed_status j (BadMember p) status w es h = h.0

same_number : (n : ℕ) → nat_eq n n ≡ true
same_number n = grind arith

crewless : OfLooks (λ (r : Request). is_crew r ≡ false)
crewless = record { look = λ p. refl; read = λ p limit. refl; listed = λ p. refl }

-- what stands at the inputs of the one child that runs gives its status
one_given : (act : Act) (A : Type 0) (u : World) (recipe : Recipe) (logs : List Path) (number status : ℕ) (ended : Ended)
    → u.children ≡ record { number = number; recipe = recipe; logs = logs } ∷ [] → ended.number ≡ number → ended.status ≡ status → IsGiven act A u (Waited (Ok ended))
    → (trees : List Tree) → ContentsAre u recipe trees → status ≢ (act recipe trees).status → A
one_given act A u recipe logs number status ended runs is told given trees contents other =
    let child : Child = record { number = number; recipe = recipe; logs = logs } in
    given child
    (ap (λ cs. child_numbered ended.number cs) runs
    ∙ ap (λ n. child_numbered n (child ∷ [])) is
    ∙ ap (λ b. if b then Some child else None) (same_number number))
    trees contents (λ e. other (sym told ∙ e))

turn_tells : (act : Act) (A : Type 0) (made : Serials) (t : Turn) (ending : Ending) (w : World) (es : List Event)
    → w.children ≡ [] → IsTurnBy made t (Closed ending) w es → AreGiven act A w es → HasStatus act A t (status_of ending) w es
turn_tells act A made t ending w es none h given =
    let seen = h.seen in
    let begun = h.then_did in
    let waited = begun.then_did in
    let front = seen ++ begun.first in
    let e = wait_event waited.ended waited.left in
    let split : es ≡ front ++ e ∷ waited.rest
    = h.events ∙ ap (λ l. seen ++ l) (begun.events ∙ ap (λ l. begun.first ++ l) waited.events) ∙ sym (append_assoc seen begun.first (e ∷ waited.rest)) in
    let status = closed_status (as_underway t begun.number) ending (waited.ended).status (after (run (run w seen) begun.first) e) waited.rest waited.then_did in
    let idle : (run w seen).children ≡ [] = files_children w seen (digested_each (λ (r : Request). is_crew r ≡ false) crewless made (in_paths t.job.recipe) (found t.looked) w seen h.stamped) ∙ none in
    let runs : (run (run w seen) begun.first).children ≡ record { number = begun.number; recipe = t.job.recipe; logs = t.job.logs } ∷ []
    = started_after (before_start t.job.recipe t.job.logs) t.job.recipe t.job.logs t.command begun.number (run w seen) begun.first (before_files t.job.recipe t.job.logs) begun.begun begun.started
    ∙ ap (λ cs. cs ++ record { number = begun.number; recipe = t.job.recipe; logs = t.job.logs } ∷ []) idle in
    let same : run w front ≡ run (run w seen) begun.first = run_append w seen begun.first in
    record {
      front = front;
      ended = waited.ended;
      left = waited.left;
      back = waited.rest;
      events = split;
      told = status;
      given = λ trees contents other.
          one_given act A (run w front) t.job.recipe t.job.logs begun.number (status_of ending) waited.ended (ap (λ (v : World). v.children) same ∙ runs) waited.is_it status
          (given_at act A w front waited.rest e (subst (AreGiven act A w) split given)) trees contents other;
    }

pub closed_turn_tells : (act : Act) (before now : ℕ) (made : Serials) (t : Turn) (ending : Ending) (w : World) (es : List Event)
    → w.children ≡ [] → IsTurn made t w es → t.course ≡ Closed ending → AreGiven act (Rose before now) w es → HasStatus act (Rose before now) t (status_of ending) w es
closed_turn_tells act before now made t ending w es none h is given =
    turn_tells act (Rose before now) made t ending w es none (subst (λ (c : Course). IsTurnBy made t c w es) is h) given
