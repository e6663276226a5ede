-- Turns that are ready are a run of the protocol.
use Rattle.std.proofs.Common.{◌≡◌, inl, inr, ℕ, true, List, [], ◌∷◌, ◌++◌, refl, ap, sym, subst, ◌∙◌, append_assoc, IsTrue}
use Rattle.std.proofs.lemmas.List.{append-nil}
use Rattle.smk_run.proofs.Running.{turns_next, done_closed}
use Rattle.smk_world.specs.declared.event.Event.{Event}
use Rattle.smk_world.specs.declared.event.Child.{Child}
use Rattle.smk_world.specs.World.{World, Throughout, run, out_paths}
use Rattle.smk_world.specs.Runs.{Follows}
use Rattle.smk_world.specs.Trees.{Each, is_path_text, folders_of}
use Rattle.smk_store_members.specs.Members.{AllIsFound}
use Rattle.smk_world.proofs.Runs.{run_append, follows_append, throughout_start}
use Rattle.smk_record.specs.Spelling.{ReadsRecords}
use Rattle.smk_store.specs.Soundness.{Outside, SoundWorld}
use Rattle.smk_store.specs.Images.{core_at}
use Rattle.smk_store.specs.Trust.{Versions, SumsDiffer}
use Rattle.smk_laws_protocol.specs.Protocol.{RunState, Runs, now}
use Rattle.smk_laws_protocol.specs.Midway.{IsTop, at_entry, HasSafeImages, IsOfJob}
use Rattle.smk_laws_protocol.proofs.Basics.{each_in, in_here}
use Rattle.smk_laws_protocol.proofs.MidwayHolds.{holds_midway}
use Rattle.smk_laws_protocol.proofs.ProtocolHolds.{protocol_law}
use Rattle.smk_laws_job.specs.Laws.{IsRecordable}
use Rattle.smk_run.specs.Stamps.{Serials}
use Rattle.smk_run.specs.Turns.{Course, Unbegun, Unstarted, Unclosed, Closed, Turn, AreTurns, is_begun, is_closed, is_done}
use Rattle.smk_safe.specs.Leaving.{owned, AreInputsApart}
use Rattle.smk_safe.specs.Running.{IsOrderly, LeavesAlone, AreArranged}
use Rattle.smk_run.proofs.Calls.{each_append, each_first}
use Rattle.smk_safe.proofs.Done.{follows_split}
use Rattle.smk_safe.specs.Turning.{IsAtRest, opened, AllAreFound}
use Rattle.smk_safe.specs.Ready.{IsReady, draws, greatest_after, AreReadyFrom, AreDoneButLast}
use Rattle.smk_safe.specs.Safe.{ReadyTurnsAreRun}
use Rattle.smk_safe.proofs.Joining.{runs_then, throughout_first, throughout_later, throughout_on}
use Rattle.smk_safe.proofs.Stamped.{turn_told}
use Rattle.smk_safe.proofs.Turning.{turn_is_run}
use Rattle.smk_safe.proofs.Coming.{IsMidRun, kept_by_draw, may_come}

-- ## Lists of turns

arranged_first : (xs ys : List Turn) → AreArranged (xs ++ ys) → AreArranged xs
arranged_first [] ys h = tt
arranged_first (x ∷ xs) ys h = (h.0, h.1, each_first (LeavesAlone x) xs ys h.2, arranged_first xs ys h.3)

alone_before : (xs : List Turn) (t : Turn) (ys : List Turn) → AreArranged (xs ++ t ∷ ys) → Each (λ (u : Turn). LeavesAlone u t) xs
alone_before [] t ys h = tt
alone_before (x ∷ xs) t ys h = (each_in (LeavesAlone x) (xs ++ t ∷ ys) t h.2 (in_here xs ys t), alone_before xs t ys h.3)

arranged_here : (xs : List Turn) (t : Turn) (ys : List Turn) → AreArranged (xs ++ t ∷ ys) → IsOrderly t × AreInputsApart t
arranged_here [] t ys h = (h.0, h.1)
arranged_here (x ∷ xs) t ys h = arranged_here xs t ys h.3

pub done_begun : (c : Course) → is_done c ≡ true → is_begun c ≡ true
done_begun Unbegun h = h
done_begun Unstarted h = refl
done_begun Unclosed h = refl
done_begun (Closed ending) h = refl

no_turns : (made : Serials) (ts : List Turn) (w : World) (es : List Event) → ts ≡ [] → AreTurns made ts w es → es ≡ []
no_turns made [] w es e h = h
no_turns made (t ∷ ts) w es e h = cc

rest_with : (s : RunState) (top : ℕ) → IsAtRest s → IsAtRest (record s { top = top })
rest_with s top h = record { none_open = h.none_open; steady = h.steady; calm = h.calm }

no_children : (cs : List Child) → Each (IsOfJob []) cs → cs ≡ []
no_children [] h = refl
no_children (c ∷ cs) h = absurd (h.0.1)

pub out_first : (t : Turn) → Each (λ p. IsTrue (is_path_text p)) (owned t) → Each (λ p. IsTrue (is_path_text p)) (out_paths t.job.recipe)
out_first t h = each_first (λ p. IsTrue (is_path_text p)) (out_paths t.job.recipe) t.job.logs h

-- ## At rest

module _ (o : Outside) (entry : World) (H : Versions) (top : ℕ) (differ : SumsDiffer H) (sound : SoundWorld o entry H) (is_top : IsTop o entry top) where
  -- where no job is open no child runs
  pub idle_at_rest : (es : List Event) (s : RunState) → Follows o.act entry es → Runs o (at_entry o top) entry es s → IsAtRest s → (run entry es).children ≡ []
  idle_at_rest es s follows runs rest =
      no_children (run entry es).children (subst (λ js. Each (IsOfJob js) (run entry es).children) rest.none_open (holds_midway o entry H top es s differ sound is_top follows runs).children)

  pub sound_at_rest : (es : List Event) (s : RunState) → Follows o.act entry es → Runs o (at_entry o top) entry es s → IsAtRest s → SoundWorld o (run entry es) H
  sound_at_rest es s follows runs rest = (protocol_law o entry H differ sound).at_exit top es s is_top follows runs (idle_at_rest es s follows runs rest)

  pub safe_here : (es : List Event) (s : RunState) → Follows o.act entry es → Runs o (at_entry o top) entry es s → HasSafeImages o entry (run entry es) H
  safe_here es s follows runs = (protocol_law o entry H differ sound).throughout top es s is_top follows runs

  -- ## One turn after another

  module _ (made : Serials) (all : List Turn) (before_all : List Event) (reads : ReadsRecords o.read) (arranged : AreArranged all) (follows_before : Follows o.act entry before_all) (s0 : RunState) (runs_before : Runs o (at_entry o top) entry before_all s0) (rest_before : IsAtRest s0) where
    abbrev start : World
    start = run entry before_all

    -- the turns so far
    record HasCome (before rest : List Turn) (es : List Event) (s : RunState) (greatest : ℕ) : Type 0 where
      pub split : all ≡ before ++ rest
      pub done : Each (λ (t : Turn). is_done t.course ≡ true) before
      pub paths : Each (λ (t : Turn). Each (λ p. IsTrue (is_path_text p)) (out_paths t.job.recipe)) before
      pub records : Each (λ (t : Turn). Each (IsRecordable (opened t [])) (out_paths t.job.recipe)) before
      pub follows : Follows o.act start es
      pub turns : AreTurns made before start es
      pub runs : Runs o (at_entry o top) entry (before_all ++ es) s
      pub at_rest : IsAtRest s
      pub serial : s.top ≡ greatest
      pub all_found : AllAreFound all (run start es)

    mid_run : (before rest : List Turn) (es : List Event) (s : RunState) (greatest : ℕ) → HasCome before rest es s greatest → IsMidRun o made entry start H before es
    mid_run before rest es s greatest h =
        let follows = follows_append o.act entry before_all es follows_before h.follows in
        let here = run_append entry before_all es in
        let start_sound = sound_at_rest before_all s0 follows_before runs_before rest_before in
        record {
          none_runs = idle_at_rest before_all s0 follows_before runs_before rest_before;
          owners = start_sound.owners;
          start_sound = start_sound;
          start_safe = safe_here before_all s0 follows_before runs_before;
          arranged = arranged_first before rest (subst AreArranged h.split arranged);
          done = h.done;
          paths = h.paths;
          records = h.records;
          follows = h.follows;
          turns = h.turns;
          now_sound = subst (λ v. SoundWorld o v H) here (sound_at_rest (before_all ++ es) s follows h.runs h.at_rest);
          now_safe = subst (λ v. HasSafeImages o entry v H) here (safe_here (before_all ++ es) s follows h.runs);
          all_found = each_first (λ (t : Turn). Each (AllIsFound (run start es).nodes) (folders_of t.job.recipe)) before rest (subst (λ ts. AllAreFound ts (run start es)) h.split h.all_found);
        }

    abbrev Comes : List Turn → List Event → List Event → Type 0
    Comes rest es more = (end : RunState) × Runs o (at_entry o top) entry ((before_all ++ es) ++ more) end × (Each (λ (t : Turn). is_closed t.course ≡ true) rest → IsAtRest end)

    one_found : (before rest : List Turn) (t : Turn) (v : World) → all ≡ before ++ t ∷ rest → AllAreFound all v → AllAreFound (t ∷ []) v
    one_found before rest t v e h = (each_in (λ (u : Turn). Each (AllIsFound v.nodes) (folders_of u.job.recipe)) (before ++ t ∷ rest) t (subst (λ ts. AllAreFound ts v) e h) (in_here before rest t), tt)

    go : (rest before : List Turn) (es more : List Event) (s : RunState) (greatest : ℕ) → HasCome before rest es s greatest
        → AreReadyFrom o (now o start) made all top greatest before rest → AreDoneButLast rest
        → Throughout (run start es) more (AllAreFound all) → Follows o.act (run start es) more → AreTurns made rest (run start es) more → Comes rest es more
    go [] before es more s greatest h ready last found follows none =
        (s, subst (λ l. Runs o (at_entry o top) entry ((before_all ++ es) ++ l) s) (sym none) (subst (λ l. Runs o (at_entry o top) entry l s) (sym (append-nil (before_all ++ es))) h.runs), λ closed. h.at_rest)
    go (t ∷ ts) before es more s greatest h ready last found follows (first, later, e, is, next) =
        let w = run start es in
        let m = mid_run before (t ∷ ts) es s greatest h in
        let split = follows_split o.act w first later (subst (Follows o.act w) e follows) in
        let found_all = subst (λ l. Throughout w l (AllAreFound all)) e found in
        let found_one =
        throughout_on (AllAreFound all) (AllAreFound (t ∷ [])) (λ v k. one_found before ts t v h.split k) w first
        (throughout_first (AllAreFound all) w first later (λ v gs k. throughout_start (AllAreFound all) v gs k) found_all) in
        let all_arranged = subst AreArranged h.split arranged in
        let here = arranged_here before t ts all_arranged in
        let ready_here = subst (λ l. IsReady o (now o start) made before l t) h.split ready.0 in
        let top_now = greatest_after top greatest t in
        let kept = kept_by_draw (core_at (now o start)) (draws top t) t in
        let may =
        may_come o made entry start H before es reads m (t ∷ ts) t ready_here here.0 here.1 (alone_before before t ts all_arranged) s top greatest h.at_rest h.serial ready.1
        (λ begun. turn_told o made t t.course w first begun is split.0) in
        let one = turn_is_run o made s t kept top_now w first reads h.at_rest may found_one split.0 is in
        let led = one.1 in
        let world_is = run_append entry before_all es in
        let runs_one : Runs o (at_entry o top) entry ((before_all ++ es) ++ first) one.0 =
        runs_then o one.0 first (at_entry o top) s entry (before_all ++ es) h.runs (subst (λ v. Runs o s v first one.0) (sym world_is) led.runs) in
        elim last.0 [
          | inl no_more ↦
              let nothing = no_turns made ts (run w first) later no_more next in (
                one.0,
                subst (λ l. Runs o (at_entry o top) entry ((before_all ++ es) ++ l) one.0) (sym (e ∙ ap (λ l. first ++ l) nothing ∙ append-nil first)) runs_one,
                λ closed. subst IsAtRest (sym (led.closed closed.0)) (rest_with s top_now h.at_rest),
              )
          | inr done ↦
              let s1 : RunState = record s { top = top_now } in
              let end_is = led.closed (done_closed t.course done) in
              let same_events = append_assoc before_all es first in
              let world_next = run_append start es first in
              let come : HasCome (before ++ t ∷ []) ts (es ++ first) s1 top_now = record {
                split = h.split ∙ sym (append_assoc before (t ∷ []) ts);
                done = each_append (λ (u : Turn). is_done u.course ≡ true) before (t ∷ []) h.done (done, tt);
                paths = each_append (λ (u : Turn). Each (λ p. IsTrue (is_path_text p)) (out_paths u.job.recipe)) before (t ∷ []) h.paths (out_first t ready_here.paths, tt);
                records = each_append (λ (u : Turn). Each (IsRecordable (opened u [])) (out_paths u.job.recipe)) before (t ∷ []) h.records (ready_here.records (done_begun t.course done), tt);
                follows = follows_append o.act start es first h.follows split.0;
                turns = turns_next made before t start es first h.turns is;
                runs = subst (λ l. Runs o (at_entry o top) entry l s1) same_events (subst (λ x. Runs o (at_entry o top) entry ((before_all ++ es) ++ first) x) end_is runs_one);
                at_rest = rest_with s top_now h.at_rest;
                serial = refl;
                all_found = subst (AllAreFound all) (sym world_next) (throughout_start (AllAreFound all) (run w first) later (throughout_later (AllAreFound all) w first later found_all));
              } in
              let r =
              go ts (before ++ t ∷ []) (es ++ first) later s1 top_now come ready.2 last.1
              (subst (λ v. Throughout v later (AllAreFound all)) (sym world_next) (throughout_later (AllAreFound all) w first later found_all))
              (subst (λ v. Follows o.act v later) (sym world_next) split.1)
              (subst (λ v. AreTurns made ts v later) (sym world_next) next) in (
                r.0,
                subst (λ l. Runs o (at_entry o top) entry l r.0)
                    (ap (λ l. l ++ later) (sym same_events) ∙ append_assoc (before_all ++ es) first later ∙ ap (λ l. (before_all ++ es) ++ l) (sym e)) r.1,
                λ closed. r.2 closed.1,
              )
        ]

pub ready_turns_are_run : ReadyTurnsAreRun
ready_turns_are_run o entry H top before s made ts es reads differ sound is_top follows_before runs_before rest serial none ready last found follows turns =
    let r =
    go o entry H top differ sound is_top made ts before reads ready.arranged follows_before s runs_before rest ts [] [] es s top
    (record {
      split = refl;
      done = tt;
      paths = tt;
      records = tt;
      follows = tt;
      turns = refl;
      runs = subst (λ l. Runs o (at_entry o top) entry l s) (sym (append-nil before)) runs_before;
      at_rest = rest;
      serial = serial;
      all_found = throughout_start (AllAreFound ts) (run entry before) es found;
    })
    ready.ready last found follows turns in
    (r.0, subst (λ l. Runs o (at_entry o top) entry l r.0) (ap (λ l. l ++ es) (append-nil before)) r.1, r.2)
