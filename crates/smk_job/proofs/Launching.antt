-- Marked and with room made, a job's command may be started; and what the start answers.
use Rattle.std.proofs.Common.{◌≡◌, ℕ, true, false, List, [], ◌∷◌, ◌++◌, map, refl, sym, ap, subst, ◌∙◌, All, Result, Ok, Err, true≢false}
use Rattle.std.specs.Prelude.{IfOk, is_err}
use Rattle.std.proofs.lemmas.List.{append-nil}
use Rattle.std.proofs.lemmas.List.Elements.{All-nil, All-cons}
use Rattle.smk_base.specs.Path.{is_path}
use Rattle.smk_base.specs.Place.{mark_place, note_place}
use Rattle.smk_base.specs.declared.tree.Tree.{Tree}
use Rattle.smk_base.proofs.Apart.{path-mark, path-note}
use Rattle.smk_world.specs.declared.event.Call.{Call}
use Rattle.smk_world.specs.declared.event.Call.TheVariants.{Looked, ReadFile, ReadFolder, Written, Created, Removed, MadeParents, Settled, Protected, Started, Waited}
use Rattle.smk_world.specs.declared.event.Event.{Event}
use Rattle.smk_world.specs.declared.event.Failed.{Failed}
use Rattle.smk_world.specs.declared.recipe.Recipe.{Recipe}
use Rattle.smk_world.specs.World.{World, run, in_paths, out_paths, owned_paths, is_within}
use Rattle.smk_world.specs.Calls.{Acted, HasOwners, MayStart, IsFirmlyMarked, owned_now, used_now, any_overlap, started_number, started_numbers}
use Rattle.smk_world.specs.Devices.{Device, WhereTold, HasCalled, HasCarried}
use Rattle.smk_world.specs.Runs.{Follows}
use Rattle.smk_world.specs.Requests.{Request, request, HasDone}
use Rattle.smk_world.specs.Requests.Request.{Start}
use Rattle.smk_world.specs.Trees.{Path, Act, Each}
use Rattle.smk_world.proofs.Devices.{done_append, cut_append, carried_cut}
use Rattle.smk_store.specs.declared.places.JobPlaces.{JobPlaces}
use Rattle.smk_store.specs.Steps.{mark_requests, places_of}
use Rattle.smk_job.specs.Jobs.{LetsBegin, ReadUsers, clear_requests}
use Rattle.smk_job.specs.Reserves.{HasLaunched}
use Rattle.smk_job.specs.Starts.{HasStarted, started_child}
use Rattle.smk_job.proofs.Children.{AreFiles, is_crew, done_children, mark_files, clear_files, files_append}
use Rattle.smk_job.proofs.Single.{IsKnown, Reaches, done_reaches}
use Rattle.smk_job.proofs.Firmly.{reaches_split, reaches_keeps, IsFirmThere, marked_firm, clear_off, AreOff, known_own}
use Rattle.smk_job.proofs.Starts.{started_acted, started_call}

-- all calls before the start
abbrev pub before_start : Recipe → List Path → List Request
before_start recipe logs = mark_requests (places_of (out_paths recipe) logs) ++ clear_requests (out_paths recipe) (owned_paths recipe logs)

pub before_same : (recipe : Recipe) (logs : List Path) (places : JobPlaces) (owned : List Path) → places ≡ places_of (out_paths recipe) logs → owned ≡ owned_paths recipe logs
    → mark_requests places ++ clear_requests places.outputs owned ≡ before_start recipe logs
before_same recipe logs places owned at own =
    ap (λ (x : JobPlaces). mark_requests x ++ clear_requests x.outputs owned) at
    ∙ ap (λ (x : List Path). mark_requests (places_of (out_paths recipe) logs) ++ clear_requests (out_paths recipe) x) own

pub before_files : (recipe : Recipe) (logs : List Path) → AreFiles (before_start recipe logs)
before_files recipe logs =
    files_append (mark_requests (places_of (out_paths recipe) logs)) (clear_requests (out_paths recipe) (owned_paths recipe logs))
    (mark_files (places_of (out_paths recipe) logs)) (clear_files (out_paths recipe) (owned_paths recipe logs))

abbrev ArePaths : List Path → Type 0
ArePaths ps = Each (λ p. is_path p ≡ true) ps

known_marks : (w : World) → HasOwners w → ReadUsers w → (ps : List Path) → Each (λ p. IsKnown (w.nodes p)) (map mark_place ps)
known_marks w owners users [] = tt
known_marks w owners users (p ∷ ps) = (known_own w (mark_place p) owners users (λ x h. path-mark x p h), known_marks w owners users ps)

known_notes : (w : World) → HasOwners w → ReadUsers w → (ps : List Path) → Each (λ p. IsKnown (w.nodes p)) (map note_place ps)
known_notes w owners users [] = tt
known_notes w owners users (p ∷ ps) = (known_own w (note_place p) owners users (λ x h. path-note x p h), known_notes w owners users ps)

pub each_append : (P : Path → Type 0) (ps qs : List Path) → Each P ps → Each P qs → Each P (ps ++ qs)
each_append P [] qs h k = k
each_append P (p ∷ ps) qs h k = (h.0, each_append P ps qs h.1 k)

pub each_first : (P : Path → Type 0) (ps qs : List Path) → Each P (ps ++ qs) → Each P ps
each_first P [] qs h = tt
each_first P (p ∷ ps) qs h = (h.0, each_first P ps qs h.1)

pub known_marking : (w : World) (recipe : Recipe) (logs : List Path) → HasOwners w → ReadUsers w → Each (λ p. IsKnown (w.nodes p)) (places_of (out_paths recipe) logs).marking
known_marking w recipe logs owners users =
    each_append (λ p. IsKnown (w.nodes p)) (map mark_place (out_paths recipe)) (map note_place logs) (known_marks w owners users (out_paths recipe)) (known_notes w owners users logs)

off_mark : (ps : List Path) (p : Path) → ArePaths ps → AreOff ps (mark_place p)
off_mark [] p h = tt
off_mark (x ∷ ps) p h = (path-mark x p h.0, off_mark ps p h.1)

-- the marks of these outputs are firm still
still_firm : (act : Recipe → List Tree → Acted) (outputs owned : List Path) (u v : World) → Reaches act (clear_requests outputs owned) u v → ArePaths outputs → ArePaths owned
    → (ps : List Path) → Each (IsFirmThere u) (map mark_place ps) → All (IsFirmlyMarked v) ps
still_firm act outputs owned u v h paths own [] firm = All-nil (IsFirmlyMarked v)
still_firm act outputs owned u v h paths own (p ∷ ps) firm =
    All-cons (IsFirmlyMarked v) p ps
    (firm.0.0, reaches_keeps act (clear_requests outputs owned) u v (mark_place p) h (clear_off outputs owned (mark_place p) (off_mark outputs p paths) (off_mark owned p own)) ∙ firm.0.1)
    (still_firm act outputs owned u v h paths own ps firm.1)

pub may_start : (act : Recipe → List Tree → Acted) (recipe : Recipe) (logs : List Path) (w : World) (es : List Event)
    → ArePaths (owned_paths recipe logs) → HasOwners w → LetsBegin w recipe logs → Follows act w es → HasDone (before_start recipe logs) es → MayStart (run w es) recipe logs
may_start act recipe logs w es paths owners lets follows done =
    let places = places_of (out_paths recipe) logs in
    let reached = done_reaches act (before_start recipe logs) w es follows done in
    let parts = reaches_split act (mark_requests places) (clear_requests (out_paths recipe) (owned_paths recipe logs)) w (run w es) reached in
    let same : (run w es).children ≡ w.children = done_children (before_start recipe logs) w es (before_files recipe logs) done in
    let firm = marked_firm act places w parts.0 parts.1 (known_marking w recipe logs owners lets.users) in
    record {
      inputs = subst (λ cs. All (λ p. is_within p (owned_now cs) ≡ false) (in_paths recipe)) (sym same) lets.inputs;
      marks = still_firm act (out_paths recipe) (owned_paths recipe logs) parts.0 (run w es) parts.2 (each_first (λ p. is_path p ≡ true) (out_paths recipe) logs paths) paths (out_paths recipe)
          (each_first (IsFirmThere parts.0) (map mark_place (out_paths recipe)) (map note_place logs) firm);
      apart = ap (λ cs. any_overlap (owned_paths recipe logs) (used_now cs)) same ∙ lets.apart;
      own_apart = lets.own_apart;
    }

-- the same of a world that is told
pub may_start_told : (act : Act) (recipe : Recipe) (logs : List Path) (a b : Device) → ArePaths (owned_paths recipe logs) → WhereTold a HasOwners → WhereTold a (λ w. LetsBegin w recipe logs)
    → HasCarried act (before_start recipe logs) a b false → WhereTold b (λ w. MayStart w recipe logs)
may_start_told act recipe logs a b paths owners lets h w told =
    let d = h.acted.did w told in
    subst (λ x. MayStart x recipe logs) (sym d.2.3) (may_start act recipe logs d.0 d.2.0 paths (owners d.0 d.1) (lets d.0 d.1) d.2.1 d.2.2)

-- ## The start

pub number_none : (call : Call) → is_crew (request call) ≡ false → started_number call ≡ []
number_none (Looked p r) h = refl
number_none (ReadFile p limit r) h = refl
number_none (ReadFolder p r) h = refl
number_none (Written p bytes r) h = refl
number_none (Created p r) h = refl
number_none (Removed p r) h = refl
number_none (MadeParents p r) h = refl
number_none (Settled ps r) h = refl
number_none (Protected p r) h = refl
number_none (Started recipe logs command r) h = absurd (true≢false h)
number_none (Waited r) h = refl

-- the number of the last call
last_number : (rs : List Request) (es : List Event) (e : Event) (n : ℕ) → AreFiles rs → HasDone rs es → started_number e.call ≡ n ∷ [] → started_numbers (es ++ e ∷ []) ≡ n ∷ []
last_number [] [] e n k h is = append-nil (started_number e.call) ∙ is
last_number [] (d ∷ es) e n k h is = absurd h
last_number (r ∷ rs) [] e n k h is = absurd h
last_number (r ∷ rs) (d ∷ es) e n k h is =
    ap (λ l. l ++ started_numbers (es ++ e ∷ [])) (number_none d.call (ap is_crew h.0 ∙ k.0)) ∙ last_number rs es e n k.1 h.2 is

pub not_launched : (act : Act) (recipe : Recipe) (logs : List Path) (command : List ℕ) (r : Result ℕ Failed) (a b : Device)
    → is_err r ≡ true → HasCarried act (before_start recipe logs) a b true → HasStarted act (HasLaunched recipe logs command r) (started_child r) a b (is_err r)
not_launched act recipe logs command (Ok n) a b failed h = absurd (true≢false (sym failed))
not_launched act recipe logs command (Err e) a b failed h =
    started_acted act (HasLaunched recipe logs command (Err e)) a b true (carried_cut (Start recipe logs command ∷ []) h).acted

-- where none was started nothing is said of its number
pub not_started : (P : ℕ → Type 0) (r : Result ℕ Failed) → is_err r ≡ true → IfOk r P
not_started P (Ok n) failed = absurd (true≢false (sym failed))
not_started P (Err e) failed = tt

pub then_started : (act : Act) (recipe : Recipe) (logs : List Path) (command : List ℕ) (r : Result ℕ Failed) (a b c : Device)
    → HasCarried act (before_start recipe logs) a b false → HasCalled act b c (Started recipe logs command r) → HasStarted act (HasLaunched recipe logs command r) (started_child r) a c (is_err r)
then_started act recipe logs command (Ok n) a b c before now =
    started_call act (λ w es. HasDone (before_start recipe logs) es) (HasLaunched recipe logs command (Ok n)) a b c recipe logs command (Ok n)
    (λ w es left follows done lets.
    let e : Event = record { call = Started recipe logs command (Ok n); left = left } in (
      done_append (before_start recipe logs) (Start recipe logs command ∷ []) es (e ∷ []) done (refl, refl, tt),
      last_number (before_start recipe logs) es e n (before_files recipe logs) done refl,
    ))
    before.acted now
then_started act recipe logs command (Err f) a b c before now =
    started_call act (λ w es. HasDone (before_start recipe logs) es) (HasLaunched recipe logs command (Err f)) a b c recipe logs command (Err f)
    (λ w es left follows done lets.
    let e : Event = record { call = Started recipe logs command (Err f); left = left } in
    cut_append (before_start recipe logs) (Start recipe logs command ∷ []) es (e ∷ []) done (refl, refl))
    before.acted now
