-- A job that failed leaves nothing of its outputs, their records and marks.
use Rattle.std.proofs.Common.{◌≡◌, inl, inr, ℕ, true, false, List, [], ◌∷◌, ◌++◌, map, refl, ap, sym, subst, ◌∙◌, None, Ok, append_assoc, IsTrue, true≢false}
use Rattle.smk_safe.proofs.Running.{record_marks}
use Rattle.smk_base.specs.Path.{is_path, is_at_or_under}
use Rattle.smk_base.specs.Place.{record_place, mark_place}
use Rattle.smk_base.proofs.Under.{or_cases, or_first, or_second, at_itself}
use Rattle.smk_world.specs.declared.event.Change.{Change}
use Rattle.smk_world.specs.declared.event.Ended.{Ended}
use Rattle.smk_world.specs.declared.event.Event.{Event}
use Rattle.smk_world.specs.World.{World, after, run, is_within, in_paths, out_paths, firmly}
use Rattle.smk_world.specs.Calls.{started_numbers}
use Rattle.smk_world.specs.Runs.{Follows}
use Rattle.smk_world.specs.Requests.{Request, HasDone}
use Rattle.smk_world.specs.Requests.Request.{Settle}
use Rattle.smk_world.specs.Trees.{Path, Act, Each, IsIn, outs_of}
use Rattle.smk_world.proofs.Runs.{run_append}
use Rattle.smk_world.proofs.Owners.{numbered_after, numbered_run, owned_after, owned_run}
use Rattle.smk_store.specs.Steps.{places_of, remove_each, unmark_requests}
use Rattle.smk_laws_protocol.proofs.ProtocolHolds.{numbered_alone}
use Rattle.smk_laws_protocol.proofs.Basics.{each_of}
use Rattle.smk_job.specs.declared.fault.CloseFault.{CloseFault}
use Rattle.smk_job.specs.declared.fault.CloseFault.TheVariants as fault
use Rattle.smk_job.specs.Jobs.{begin_requests, abandon_requests, drop_all_requests, lose_requests}
use Rattle.smk_job.specs.Sights.{IsAbandoned}
use Rattle.smk_job.proofs.Children.{is_crew, remove_files, drop_files}
use Rattle.smk_job.proofs.Launching.{before_start, before_files}
use Rattle.smk_job.proofs.Single.{Reaches, done_reaches, settled_firm, firmly_none}
use Rattle.smk_job.proofs.Firmly.{reaches_split, reaches_keeps}
use Rattle.smk_run.specs.declared.ending.Ending.{Ending}
use Rattle.smk_run.specs.declared.ending.Ending.TheVariants.{Good, Status, NoOutput, WrongKind, BadMember}
use Rattle.smk_run.specs.Digesting.{HasDigested}
use Rattle.smk_run.specs.Stamps.{Serials}
use Rattle.smk_run.specs.Closings.{wait_event, HasWaited, HasSettled}
use Rattle.smk_run.specs.Turns.{Course, Unbegun, Unstarted, Unclosed, Closed, Turn, found, as_underway, HasGone, HasBegunAnd, HasStampedAnd, IsTurnBy, is_closed, is_done}
use Rattle.smk_safe.specs.Leaving.{MayCome}
use Rattle.smk_run.proofs.Calls.{EachCall}
use Rattle.smk_run.proofs.Calls.{each_first, OfLooks, digested_each, wrong_each}
use Rattle.smk_safe.proofs.Done.{follows_split, idle_known}
use Rattle.smk_safe.proofs.Kept.{IsAllKnown, all_known, within_outside, keeps_off, still_none, all_removed, unmark_files}
use Rattle.smk_safe.proofs.Sparing.{else_apart, marks_else, spared_unmark}
use Rattle.smk_run.proofs.Telling.{files_children, started_after}
use Rattle.smk_safe.proofs.Starting.{has_ended}
use Rattle.smk_safe.specs.Lost.{IsLost, FailedTurnLeaves}

-- ## What is removed

within_first : (q : Path) (ps qs : List Path) → is_within q ps ≡ true → is_within q (ps ++ qs) ≡ true
within_first q [] qs h = absurd (true≢false (sym h))
within_first q (p ∷ ps) qs h = elim (or_cases (is_at_or_under q p) (is_within q ps) h) [
  | inl at ↦ or_first (is_at_or_under q p) (is_within q (ps ++ qs)) at
  | inr later ↦ or_second (is_at_or_under q p) (is_within q (ps ++ qs)) (within_first q ps qs later)
]

within_second : (q : Path) (ps qs : List Path) → is_within q qs ≡ true → is_within q (ps ++ qs) ≡ true
within_second q [] qs h = h
within_second q (p ∷ ps) qs h = or_second (is_at_or_under q p) (is_within q (ps ++ qs)) (within_second q ps qs h)

within_at : (p q : Path) (ps : List Path) → IsIn ps p → is_at_or_under q p ≡ true → is_within q ps ≡ true
within_at p q [] i at = absurd i
within_at p q (x ∷ ps) (inl e) at = or_first (is_at_or_under q x) (is_within q ps) (subst (λ y. is_at_or_under q y ≡ true) e at)
within_at p q (x ∷ ps) (inr i) at = or_second (is_at_or_under q x) (is_within q ps) (within_at p q ps i at)

within_map : (f : Path → Path) (p : Path) (ps : List Path) → IsIn ps p → is_within (f p) (map f ps) ≡ true
within_map f p [] i = absurd i
within_map f p (x ∷ ps) (inl e) = or_first (is_at_or_under (f p) (f x)) (is_within (f p) (map f ps)) (subst (λ y. is_at_or_under (f p) (f y) ≡ true) e (at_itself (f p)))
within_map f p (x ∷ ps) (inr i) = or_second (is_at_or_under (f p) (f x)) (is_within (f p) (map f ps)) (within_map f p ps i)

-- places are removed and that is settled
gone : (act : Act) (ps settling : List Path) (w v : World) (q : Path) → Reaches act (remove_each ps ++ Settle settling ∷ []) w v → IsAllKnown w → is_within q ps ≡ true → is_within q settling ≡ true
    → v.nodes q ≡ firmly None
gone act ps settling w v q h known within settled =
    let parts = reaches_split act (remove_each ps) (Settle settling ∷ []) w v h in
    ap (λ (x : World). x.nodes q) parts.2.2 ∙ settled_firm act settling parts.0 parts.2.0 q parts.2.1 settled
    ∙ firmly_none (parts.0.nodes q) (all_removed act ps w parts.0 q parts.1 known within)

lost_one : (act : Act) (outs logs : List Path) (w : World) (es : List Event)
    → Each (λ p. IsTrue (is_path p)) outs → IsAllKnown w → Follows act w es → HasDone (lose_requests (places_of outs logs)) es → (p : Path) → IsIn outs p → IsLost (run w es) p
lost_one act outs logs w es paths known follows done p i =
    let v = run w es in
    let records = map record_place outs in
    let marks = map mark_place outs in
    let dropping = outs ++ records in
    let unmark = unmark_requests (places_of outs logs) in
    let drop_all = drop_all_requests (places_of outs logs) in
    let reached = done_reaches act (lose_requests (places_of outs logs)) w es follows done in
    let parts = reaches_split act drop_all unmark w v reached in
    let b = parts.0 in
    let firsts = reaches_split act (remove_each outs) (remove_each records ++ Settle dropping ∷ []) w b parts.1 in
    let a = firsts.0 in
    let known_a : IsAllKnown a = all_known act (remove_each outs) w a firsts.1 (remove_files outs) known in
    let known_b : IsAllKnown b = all_known act drop_all w b parts.1 (drop_files (places_of outs logs)) known in
    let seconds = reaches_split act (remove_each records) (Settle dropping ∷ []) a b firsts.2 in
    let c = seconds.0 in
    let out_gone : (q : Path) → is_within q outs ≡ true → b.nodes q ≡ firmly None =
    λ q within.
    ap (λ (x : World). x.nodes q) seconds.2.2 ∙ settled_firm act dropping c seconds.2.0 q seconds.2.1 (within_first q outs records within)
    ∙ firmly_none (c.nodes q) (still_none act records a c q seconds.1 (all_removed act outs w a q firsts.1 known within)) in
    record {
      output = λ q at.
          let within = within_at p q outs i at in
          let out = within_outside q outs paths within in
          reaches_keeps act unmark b v q parts.2 (keeps_off unmark q (unmark_files outs logs) (spared_unmark true outs logs q (marks_else true outs q out))) ∙ out_gone q within;
      record_gone =
          reaches_keeps act unmark b v (record_place p) parts.2
          (keeps_off unmark (record_place p) (unmark_files outs logs) (spared_unmark true outs logs (record_place p) (else_apart true marks (record_place p) (record_marks p outs))))
          ∙ gone act records dropping a b (record_place p) firsts.2 known_a (within_map record_place p outs i) (within_second (record_place p) outs records (within_map record_place p outs i));
      mark_gone = gone act marks marks b v (mark_place p) parts.2 known_b (within_map mark_place p outs i) (within_map mark_place p outs i);
    }

-- ## The turn

crewless : OfLooks (λ (r : Request). is_crew r ≡ false)
crewless = record { look = λ p. refl; read = λ p limit. refl; listed = λ p. refl }

-- The events of the turn end with all calls that abandon its job, in a world in which nothing is owned.
record EndsLost (act : Act) (t : Turn) (w : World) (es : List Event) : Type 0 where
  pub number : ℕ
  pub front : List Event
  pub last : List Event
  pub events : es ≡ front ++ last
  pub known : IsAllKnown (run w front)
  pub follows : Follows act (run w front) last
  pub done : HasDone (abandon_requests (as_underway t number)) last

module _ (act : Act) (made : Serials) (t : Turn) (w : World) (may : MayCome t w) where
  -- after the wait for its child
  waited : (es first : List Event) (number : ℕ) (ended : Ended) (left : List Change) (looks last : List Event) (seen : List Event)
      → es ≡ seen ++ (first ++ (wait_event ended left ∷ (looks ++ last))) → Follows act w es
      → EachCall (λ (r : Request). is_crew r ≡ false) seen
      → HasDone (begin_requests t.job.recipe t.job.logs t.command) first → started_numbers first ≡ number ∷ []
      → EachCall (λ (r : Request). is_crew r ≡ false) looks → HasDone (abandon_requests (as_underway t number)) last → EndsLost act t w es
  waited es first number ended left looks last seen events follows quiet_seen begun started quiet_looks done =
      let wait = wait_event ended left in
      let w1 = run w seen in
      let u = run w1 first in
      let v0 = after u wait in
      let v1 = run v0 looks in
      let a = follows_split act w seen (first ++ (wait ∷ (looks ++ last))) (subst (Follows act w) events follows) in
      let b = follows_split act w1 first (wait ∷ (looks ++ last)) a.1 in
      let c = follows_split act v0 looks last b.1.1 in
      let numbered = numbered_alone w may.none_runs in
      let numbered1 = numbered_run act w seen a.0 numbered in
      let owners1 = owned_run act w seen a.0 numbered may.owners in
      let numbered_u = numbered_run act w1 first b.0 numbered1 in
      let owners_u = owned_run act w1 first b.0 numbered1 owners1 in
      let numbered_v0 = numbered_after act u wait b.1.0.lets numbered_u in
      let owners_v0 = owned_after u wait numbered_u owners_u in
      let none1 : w1.children ≡ [] = files_children w seen quiet_seen ∙ may.none_runs in
      let one =
      started_after (before_start t.job.recipe t.job.logs) t.job.recipe t.job.logs t.command number w1 first (before_files t.job.recipe t.job.logs) begun started
      ∙ ap (λ cs. cs ++ record { number = number; recipe = t.job.recipe; logs = t.job.logs } ∷ []) none1 in
      let end = has_ended act t.job.recipe t.job.logs number u ended left one b.1.0.lets in
      let none_v1 : v1.children ≡ [] = files_children v0 looks quiet_looks ∙ end.children in
      let front = seen ++ (first ++ (wait ∷ looks)) in
      let there : run w front ≡ v1 = run_append w seen (first ++ (wait ∷ looks)) ∙ run_append w1 first (wait ∷ looks) in
      record {
        number = number;
        front = front;
        last = last;
        events = events ∙ grouped seen first wait looks last;
        known = subst IsAllKnown (sym there) (idle_known v1 none_v1 (owned_run act v0 looks c.0 numbered_v0 owners_v0));
        follows = subst (λ x. Follows act x last) (sym there) c.1;
        done = done;
      }
    where
      grouped : (a b : List Event) (e : Event) (c d : List Event) → a ++ (b ++ (e ∷ (c ++ d))) ≡ (a ++ (b ++ (e ∷ c))) ++ d
      grouped a b e c d = sym (append_assoc a (b ++ (e ∷ c)) d ∙ ap (λ l. a ++ l) (append_assoc b (e ∷ c) d))

  -- after status 0, where something was wrong with an output
  abbrev BegunAndLost : CloseFault → World → List Event → Type 0
  BegunAndLost f v es = HasBegunAnd t (λ n u fs. HasWaited n (λ status x gs. IsAbandoned (as_underway t n) f x gs) u fs) v es

  abandoned_lost : (f : CloseFault) (es seen rest : List Event) → Follows act w es → es ≡ seen ++ rest → EachCall (λ (r : Request). is_crew r ≡ false) seen → BegunAndLost f (run w seen) rest → EndsLost act t w es
  abandoned_lost f es seen rest follows events quiet b =
      let c = b.then_did in
      let d = c.then_did in
      waited es b.first b.number c.ended c.left d.looks d.rest seen
      (events ∙ ap (λ l. seen ++ l) (b.events ∙ ap (λ l. b.first ++ l) (c.events ∙ ap (λ l. wait_event c.ended c.left ∷ l) d.events))) follows quiet b.begun b.started
      (wrong_each (λ (r : Request). is_crew r ≡ false) crewless _ (outs_of t.job.recipe) f d.looks d.seen) d.done

  as_lost : (f : CloseFault) (P : ℕ → ℕ → World → List Event → Type 0) → ((n status : ℕ) (x : World) (gs : List Event) → P n status x gs → IsAbandoned (as_underway t n) f x gs)
      → (v : World) (es : List Event) → HasBegunAnd t (λ n u fs. HasWaited n (P n) u fs) v es → BegunAndLost f v es
  as_lost f P g v es b =
      let c = b.then_did in
      record {
        number = b.number;
        first = b.first;
        rest = b.rest;
        events = b.events;
        begun = b.begun;
        started = b.started;
        then_did = record { ended = c.ended; left = c.left; rest = c.rest; events = c.events; is_it = c.is_it; then_did = g b.number c.ended.status _ c.rest c.then_did };
      }

  quiet_looks : (es : List Event) → HasDigested made (in_paths t.job.recipe) (found t.looked) w es → EachCall (λ (r : Request). is_crew r ≡ false) es
  quiet_looks es h = digested_each (λ (r : Request). is_crew r ≡ false) crewless made (in_paths t.job.recipe) (found t.looked) w es h

  closed_lost : (c : Ending) (es : List Event) → Follows act w es → is_done (Closed c) ≡ false → HasStampedAnd made t (HasGone t (Closed c)) w es → EndsLost act t w es
  closed_lost Good es follows not_done h = absurd (true≢false not_done)
  closed_lost (Status n) es follows not_done h =
      let b = h.then_did in
      let c = b.then_did in
      waited es b.first b.number c.ended c.left [] c.rest h.seen (h.events ∙ ap (λ l. h.seen ++ l) (b.events ∙ ap (λ l. b.first ++ l) c.events)) follows (quiet_looks h.seen h.stamped) b.begun b.started tt
      c.then_did.2
  closed_lost (NoOutput p) es follows not_done h =
      abandoned_lost (fault.NoOutput p) es h.seen h.rest follows h.events (quiet_looks h.seen h.stamped)
      (as_lost (fault.NoOutput p) (λ n status x gs. HasSettled (as_underway t n) (Ok (NoOutput p)) status x gs) (λ n status x gs k. k.1) (run w h.seen) h.rest h.then_did)
  closed_lost (WrongKind p) es follows not_done h =
      abandoned_lost (fault.WrongKind p) es h.seen h.rest follows h.events (quiet_looks h.seen h.stamped)
      (as_lost (fault.WrongKind p) (λ n status x gs. HasSettled (as_underway t n) (Ok (WrongKind p)) status x gs) (λ n status x gs k. k.1) (run w h.seen) h.rest h.then_did)
  closed_lost (BadMember p) es follows not_done h =
      abandoned_lost (fault.BadMember p) es h.seen h.rest follows h.events (quiet_looks h.seen h.stamped)
      (as_lost (fault.BadMember p) (λ n status x gs. HasSettled (as_underway t n) (Ok (BadMember p)) status x gs) (λ n status x gs k. k.1) (run w h.seen) h.rest h.then_did)

  turn_lost : (c : Course) (es : List Event) → Follows act w es → IsTurnBy made t c w es → is_closed c ≡ true → is_done c ≡ false → EndsLost act t w es
  turn_lost Unbegun es follows h closed not_done = absurd (true≢false (sym closed))
  turn_lost Unstarted es follows h closed not_done = absurd (true≢false (sym closed))
  turn_lost Unclosed es follows h closed not_done = absurd (true≢false (sym closed))
  turn_lost (Closed c) es follows h closed not_done = closed_lost c es follows not_done h

pub failed_turn_leaves : FailedTurnLeaves
failed_turn_leaves act made t w es may follows is closed not_done =
    let end = turn_lost act made t w may t.course es follows is closed not_done in
    let outs = out_paths t.job.recipe in
    subst (λ v. Each (IsLost v) outs) (sym (ap (run w) end.events ∙ run_append w end.front end.last))
    (each_of (IsLost (run (run w end.front) end.last)) outs
    (lost_one act outs t.job.logs (run w end.front) end.last (each_first (λ p. IsTrue (is_path p)) outs t.job.logs may.users) end.known end.follows end.done))
