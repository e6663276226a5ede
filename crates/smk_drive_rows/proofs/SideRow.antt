-- Two jobs side by side: the first one fails while the other runs, which is done; the run ends there. Their source is read before each begins, and its
-- SHA-256 stands in their stamps.
use Rattle.std.proofs.Common.{◌≡◌, ℕ, zero, suc, Bool, true, false, ◌&&◌, List, [], ◌∷◌, ◌++◌, codes, bytes_eq, find, map, Option, Some, None, Ok, refl, inl, inr, arith, is_some, sym, ap, ◌∙◌, true≢false}
use Rattle.std.specs.Prelude.{if◌then◌else◌}
use Rattle.std.specs.Fmt.{digits}
use Rattle.hex.specs.Hex.{encode_with}
use Rattle.sha2.specs.Sha256.{compress, digest_bytes, first_words, hash_after, rounds, schedule, sha256}
use Rattle.smk_base.specs.declared.sum.Sum.{Sum as Digest}
use Rattle.smk_world.specs.declared.event.Event.{Event}
use Rattle.smk_world.specs.declared.event.Found.TheVariants.{Held}
use Rattle.smk_world.specs.declared.event.Stat.TheVariants.{File}
use Rattle.smk_world.specs.declared.event.Call.TheVariants.{Looked, ReadFile, Settled}
use Rattle.smk_world.specs.declared.recipe.Recipe.{Recipe}
use Rattle.smk_world.specs.World.{World, IsFormed, after, run}
use Rattle.smk_world.specs.Requests.{AreQuiet}
use Rattle.smk_world.specs.Trees.{is_path_text}
use Rattle.smk_world.proofs.Names.{formed_run}
use Rattle.smk_flow.specs.declared.job.Job.{Job}
use Rattle.smk_record.specs.declared.record.Record.{Record}
use Rattle.smk_record.specs.declared.record.Stamp.{Stamp}
use Rattle.smk_record.specs.declared.record.Stamp.TheVariants.{Sum}
use Rattle.smk_record.specs.Spelling.{spelling}
use Rattle.smk_store.specs.Images.{Image}
use Rattle.smk_store.specs.Trust.{sum_of}
use Rattle.smk_trigger.specs.declared.reason.State.{State}
use Rattle.smk_trigger.specs.declared.reason.State.TheVariants.{Open}
use Rattle.smk_pick.specs.declared.settings.Settings.{Settings}
use Rattle.smk_report.specs.Lines.{Status as StatusEnding, Good as GoodEnding}
use Rattle.smk_report.specs.declared.fault.Fault.TheVariants as fault
use Rattle.smk_job.specs.Jobs.{Underway, bare_bytes, underway}
use Rattle.smk_run.specs.declared.ending.Ending.TheVariants.{Good, Status}
use Rattle.smk_drive.specs.Moments.{Rules, Begun, begun_of, ending, seen}
use Rattle.smk_drive.specs.Lawful.{first_of}
use Rattle.smk_drive_course.specs.Lawful.{may_start}
use Rattle.smk_chain.proofs.Folders.{recorded}
use Rattle.smk_drive.proofs.Turns.{event, put}
use Rattle.smk_drive_rows.proofs.Chains.{chain}
use Rattle.smk_drive_rows.proofs.Events.{rules_by, marking, start, ends, recording, unmarking, losing}
use Rattle.smk_drive_rows.proofs.CopyRow.{entry, formed, in_txt}
use Rattle.smk_drive_rows.proofs.PairRow.{a, b, flow, settings, the_jobs}
use Rattle.smk_drive_course.specs.declared.ending.End.{End}
use Rattle.smk_drive_course.specs.Stands.{Stand, GoesOn, ended_if, first_stand, is_job_of, moment_of, with_job, without_child}
use Rattle.smk_drive_course.specs.Steps.{Closed, Deed, HasBegun, HasClosed, Started, Tended}
use Rattle.smk_drive_course.specs.Breaks.{Begins, Closes, Done, Steps, Then}
use Rattle.smk_drive_course.specs.Driven.{HasSigns, IsRun, Opens}
use Rattle.smk_drive_rows.proofs.Clearing.{anew, is_anew, Computes, is_clear}

-- ## What the run goes by

-- the SHA-256 of the source
abbrev hello : Digest
hello =
    record {
      0 = 0x58 ∷ 0x91 ∷ 0xB5 ∷ 0xB5 ∷ 0x22 ∷ 0xD5 ∷ 0xDF ∷ 0x08 ∷ 0x6D ∷ 0x0F ∷ 0xF0 ∷ 0xB1 ∷ 0x10 ∷ 0xFB ∷ 0xD9 ∷ 0xD2 ∷ 0x1B ∷ 0xB4 ∷ 0xFC ∷ 0x71 ∷ 0x63 ∷ 0xAF ∷ 0x34 ∷ 0xD0 ∷ 0x82 ∷ 0x86 ∷ 0xA2 ∷ 0xE8 ∷ 0x46 ∷ 0xF6 ∷ 0xBE ∷ 0x03 ∷ [];
    }

is_hello : hello ≡ sum_of (codes "hello\n")
unfolding first_words schedule rounds compress hash_after digest_bytes sha256
is_hello = refl

-- the stamps of each job: that of the source
abbrev stamps : List Stamp
stamps = Sum 1000 hello ∷ []

stamps_now : map Some stamps ≡ Some (Sum 1000 (sum_of (codes "hello\n"))) ∷ []
stamps_now = ap (λ d. Some (Sum 1000 d) ∷ []) is_hello

-- the two jobs have two cores, and records are read as they are spelled
abbrev reads : List Record → List ℕ → Option Record
reads table bytes = find (λ (r : Record). bytes_eq (spelling r) bytes) table

abbrev records : List Record
records = recorded the_jobs ((1, stamps, []) ∷ (2, stamps, []) ∷ [])

abbrev both : Settings
both = record (settings false) { cores = 2 }

abbrev pub rules : Rules
rules = rules_by flow both (reads records)

abbrev no_recipe : Recipe
no_recipe = record { template = []; wildcards = []; params = []; inputs = []; outputs = [] }

abbrev no_job : Job × State
no_job = (
  record { rule = 0; recipe = no_recipe; gathers = []; logs = []; threads = 0; amounts = []; words = []; priority = 0; temps = []; guards = [] },
  Open,
)

abbrev or_none : Option (Job × State) → Job × State
or_none None = no_job
or_none (Some e) = e

-- the job that is next at a stand
abbrev next_at : Stand → World → List Event → Job × State
next_at s w events = or_none (first_of (may_start rules (moment_of s w events)))

abbrev begun_at : Stand → World → List Event → Begun
begun_at s w events = begun_of rules entry (moment_of s w events) (next_at s w events)

abbrev going : ℕ → Job → Underway
going number j = underway j.recipe j.logs stamps number number

-- ## Its course

-- nothing is found of earlier runs
abbrev opening : List Event
opening = event (Settled [] (Ok tt)) [] ∷ []

abbrev opened : World
opened = run entry opening

abbrev start_stand : Stand
start_stand = first_stand (chain rules entry [] 3 [])

-- the source is read
abbrev reading : List Event
reading = event (ReadFile in_txt 1048576 (Ok (Held (codes "hello\n")))) [] ∷ []

-- the first job begins
abbrev job_a : Job × State
job_a = next_at start_stand opened opening

abbrev begins_a : List Event
begins_a = reading ++ (marking a ++ start 1 job_a.0 ∷ [])

abbrev pub until_a : List Event
until_a = opening ++ begins_a

abbrev pub world_a : World
world_a = run opened begins_a

abbrev pub stand_a : Stand
stand_a = anew rules world_a (with_job (begun_at start_stand opened opening) (going 1 job_a.0) start_stand)

-- and the second one
abbrev job_b : Job × State
job_b = next_at stand_a world_a until_a

abbrev begins_b : List Event
begins_b = reading ++ (marking b ++ start 2 job_b.0 ∷ [])

abbrev until_b : List Event
until_b = until_a ++ begins_b

abbrev world_b : World
world_b = run world_a begins_b

abbrev stand_b : Stand
stand_b = anew rules world_b (with_job (begun_at stand_a world_a until_a) (going 2 job_b.0) stand_a)

-- the first one fails, and is closed
abbrev wait_a : Event
wait_a = ends 1 1 []

abbrev closes_a : List Event
closes_a = wait_a ∷ losing a

abbrev until_lost : List Event
until_lost = until_b ++ closes_a

abbrev world_lost : World
world_lost = run world_b closes_a

abbrev stand_lost : Stand
stand_lost = anew rules world_lost (without_child (seen rules (after world_b wait_a)) (going 1 job_a.0) 1 stand_b)

-- the second one is done, and is closed
abbrev wait_b : Event
wait_b = ends 2 0 (put b (codes "hello\n") ∷ [])

abbrev looks_b : List Event
looks_b = event (Looked b (Ok (File 9 false))) [] ∷ []

abbrev closes_b : List Event
closes_b = wait_b ∷ (looks_b ++ (recording b (bare_bytes 2 job_b.0.recipe stamps b) ++ unmarking b))

abbrev world_done : World
world_done = run world_lost closes_b

abbrev stand_done : Stand
stand_done = anew rules world_done (without_child (seen rules (after world_lost wait_b)) (going 2 job_b.0) 0 stand_lost)

-- all events of the run
abbrev pub log : List Event
log = opening ++ (begins_a ++ (begins_b ++ (closes_a ++ closes_b)))

abbrev pub deeds : List Deed
deeds = Started job_a.0 ∷ Started job_b.0 ∷ Closed job_a.0 (StatusEnding 1) ∷ Closed job_b.0 GoodEnding ∷ []

-- what it tells at its end
abbrev pub told : End
told =
    record { started = 2; done = 1; failed = 1; first = Some (fault.JobFailed (codes "one") a 1); current = false ∷ true ∷ [] }

-- ## It is one

-- the end of a child leaves each job
job_kept : (image : Image) (going : Underway) (status : ℕ) (b : Begun) → (ended_if image going status b).job ≡ b.job
job_kept image going status b = go (is_job_of going b)
  where
    go : (c : Bool) → (if c then (record b { ended = Some (ending image b.job status) }) else b).job ≡ b.job
    go true = refl
    go false = refl

one_none : ◌≡◌ {A = ℕ} 1 0 → ⊥
one_none h = omega (arith, h)

is_next : (x : Option (Job × State)) → is_some x ≡ true → x ≡ Some (or_none x)
is_next None h = absurd (true≢false (sym h))
is_next (Some e) h = refl

formed_opened : IsFormed opened
formed_opened = formed_run entry opening formed

formed_a : IsFormed world_a
formed_a = formed_run opened begins_a formed_opened

formed_b : IsFormed world_b
formed_b = formed_run world_a begins_b formed_a

formed_lost : IsFormed world_lost
formed_lost = formed_run world_b closes_a formed_b

formed_done : IsFormed world_done
formed_done = formed_run world_lost closes_b formed_lost

at_entry : Computes rules start_stand entry
at_entry = record { unhalted = refl; at_rest = refl; settled = refl; planned = refl; free = refl }

at_opened : Computes rules start_stand opened
at_opened = record { unhalted = refl; at_rest = refl; settled = refl; planned = refl; free = refl }

at_a : Computes rules stand_a world_a
at_a = record { unhalted = refl; at_rest = refl; settled = refl; planned = refl; free = refl }

at_b : Computes rules stand_b world_b
at_b = record { unhalted = refl; at_rest = refl; settled = refl; planned = refl; free = refl }

at_lost : Computes rules stand_lost world_lost
at_lost = record { unhalted = refl; at_rest = refl; settled = refl; planned = refl; free = refl }

at_done : Computes rules stand_done world_done
unfolding digits encode_with
at_done = record { unhalted = refl; at_rest = refl; settled = refl; planned = refl; free = refl }

a_begins : HasBegun rules entry start_stand opened opening begins_a (Started job_a.0 ∷ []) stand_a
unfolding digits encode_with
a_begins =
    record {
      job = job_a;
      going = going 1 job_a.0;
      reads = reading;
      beginning = marking a ++ start 1 job_a.0 ∷ [];
      next = stand_a;
      is = refl;
      to_begin = record {
        next = record {
          clear = is_clear rules start_stand opened opening formed_opened at_opened;
          first = is_next (first_of (may_start rules (moment_of start_stand opened opening))) refl;
          going_on = refl;
        };
        logged = tt;
        serial = refl;
        stamped = stamps_now;
        fits = omega arith;
        writable = record { valid = (refl, tt); writable = (refl, tt) };
        short = refl;
      };
      events = refl;
      only_read = (refl, refl);
      calls = (refl, refl, (refl, refl, (refl, refl, (refl, refl, (refl, refl, (refl, refl, tt))))));
      started = refl;
      deeds_are = refl;
      replanned = is_anew rules world_a (with_job (begun_at start_stand opened opening) (going 1 job_a.0) start_stand) formed_a refl refl;
      goes_by = GoesOn (is_clear rules stand_a world_a until_a formed_a at_a);
    }

b_begins : HasBegun rules entry stand_a world_a until_a begins_b (Started job_b.0 ∷ []) stand_b
unfolding digits encode_with
b_begins =
    record {
      job = job_b;
      going = going 2 job_b.0;
      reads = reading;
      beginning = marking b ++ start 2 job_b.0 ∷ [];
      next = stand_b;
      is = refl;
      to_begin = record {
        next = record {
          clear = is_clear rules stand_a world_a until_a formed_a at_a;
          first = is_next (first_of (may_start rules (moment_of stand_a world_a until_a))) refl;
          going_on = refl;
        };
        logged = tt;
        serial = refl;
        stamped = stamps_now;
        fits = omega arith;
        writable = record { valid = (refl, tt); writable = (refl, tt) };
        short = refl;
      };
      events = refl;
      only_read = (refl, refl);
      calls = (refl, refl, (refl, refl, (refl, refl, (refl, refl, (refl, refl, (refl, refl, tt))))));
      started = refl;
      deeds_are = refl;
      replanned = is_anew rules world_b (with_job (begun_at stand_a world_a until_a) (going 2 job_b.0) stand_a) formed_b refl refl;
      goes_by = GoesOn (is_clear rules stand_b world_b until_b formed_b at_b);
    }

a_fails : HasClosed rules entry stand_b world_b until_b closes_a (Closed job_a.0 (StatusEnding 1) ∷ []) stand_lost
unfolding digits encode_with
a_fails =
    record {
      going = going 1 job_a.0;
      begun = begun_at start_stand opened opening;
      ended = record { number = 1; status = 1 };
      left = [];
      closing = losing a;
      tending = [];
      how = Status 1;
      answer = Ok tt;
      next = stand_lost;
      unbroken = refl;
      waited = record { ran = inl refl; number = refl };
      is_job = (inl refl, refl);
      none_left = λ u. λ g. refl;
      events = refl;
      closed = (refl, one_none, (refl, refl, (refl, refl, (refl, refl, (refl, refl, (refl, refl, tt))))));
      tended = Tended [] [] refl refl;
      deeds_are = refl;
      replanned = is_anew rules world_lost (without_child (seen rules (after world_b wait_a)) (going 1 job_a.0) 1 stand_b) formed_lost refl refl;
      goes_by = GoesOn (is_clear rules stand_lost world_lost until_lost formed_lost at_lost);
    }

-- the second job, once the first one has ended
abbrev then_b : Begun
then_b = ended_if (seen rules (after world_b wait_a)) (going 1 job_a.0) 1 (begun_at stand_a world_a until_a)

abbrev deed_b : Job → List Deed
deed_b j = Closed j (ending (seen rules (after world_lost wait_b)) j 0) ∷ []

ends_well : ending (seen rules (after world_lost wait_b)) job_b.0 0 ≡ GoodEnding
ends_well = refl

quiet_b : AreQuiet looks_b
quiet_b zero d low = refl
quiet_b (suc k) d low = absurd (omega (arith, low))

b_is_done : HasClosed rules entry stand_lost world_lost until_lost closes_b (Closed job_b.0 GoodEnding ∷ []) stand_done
unfolding digits encode_with
b_is_done =
    record {
      going = going 2 job_b.0;
      begun = then_b;
      ended = record { number = 2; status = 0 };
      left = put b (codes "hello\n") ∷ [];
      closing = looks_b ++ (recording b (bare_bytes 2 job_b.0.recipe stamps b) ++ unmarking b);
      tending = [];
      how = Good;
      answer = Ok tt;
      next = stand_done;
      unbroken = refl;
      waited = record { ran = inl refl; number = refl };
      is_job = (
        inr (inl refl),
        ap (λ (j : Job). j.recipe) (job_kept (seen rules (after world_b wait_a)) (going 1 job_a.0) 1 (begun_at stand_a world_a until_a)),
      );
      none_left = λ u. λ g. refl;
      events = refl;
      closed = (
        refl,
        (
          [] ∷ [],
          record {
            looks = looks_b;
            rest = recording b (bare_bytes 2 job_b.0.recipe stamps b) ++ unmarking b;
            events = refl;
            seen = (looks_b, [], refl, (refl, tt), quiet_b, (refl, refl), refl);
            done = (refl, refl, (refl, refl, (refl, refl, (refl, refl, (refl, refl, (refl, refl, tt))))));
          },
        ),
      );
      tended = Tended [] [] refl refl;
      deeds_are =
          ap (λ e. Closed job_b.0 e ∷ []) (sym ends_well)
          ∙ ap deed_b (sym (job_kept (seen rules (after world_b wait_a)) (going 1 job_a.0) 1 (begun_at stand_a world_a until_a)));
      replanned = is_anew rules world_done (without_child (seen rules (after world_lost wait_b)) (going 2 job_b.0) 0 stand_lost) formed_done refl refl;
      goes_by = GoesOn (is_clear rules stand_done world_done log formed_done at_done);
    }

its_steps : Steps rules entry start_stand opened opening (begins_a ++ (begins_b ++ (closes_a ++ closes_b))) deeds stand_done
its_steps =
    Then start_stand stand_a stand_done opened opening begins_a (begins_b ++ (closes_a ++ closes_b)) (Started job_a.0 ∷ [])
    (Started job_b.0 ∷ Closed job_a.0 (StatusEnding 1) ∷ Closed job_b.0 GoodEnding ∷ []) (Begins a_begins)
    (Then stand_a stand_b stand_done world_a until_a begins_b (closes_a ++ closes_b) (Started job_b.0 ∷ [])
    (Closed job_a.0 (StatusEnding 1) ∷ Closed job_b.0 GoodEnding ∷ []) (Begins b_begins)
    (Then stand_b stand_lost stand_done world_b until_b closes_a closes_b (Closed job_a.0 (StatusEnding 1) ∷ []) (Closed job_b.0 GoodEnding ∷ [])
    (Closes a_fails)
    (Then stand_lost stand_done stand_done world_lost until_lost closes_b [] (Closed job_b.0 GoodEnding ∷ []) [] (Closes b_is_done)
    (Done stand_done world_done log))))

never : (b : Bool) → (b && false) ≡ true → ⊥
never true h = true≢false (sym h)
never false h = true≢false (sym h)

-- no mark stands at the entry, and no note
no_signs : HasSigns (seen rules entry) []
no_signs = record { marks = λ p h. absurd (never (is_path_text p) h); notes = λ p h. absurd (never (is_path_text p) h) }

pub is_run : IsRun rules (Some told) (Ok told) deeds entry log
unfolding digits encode_with
is_run =
    record {
      opening = opening;
      rest = begins_a ++ (begins_b ++ (closes_a ++ closes_b));
      opened = Ok tt;
      plan = chain rules entry [] 3 [];
      start = start_stand;
      last = stand_done;
      events = refl;
      opens = Opens [] opening [] [] refl no_signs (refl, refl, tt) refl;
      planned = (is_clear rules start_stand entry [] formed at_entry).planned;
      goes_by = GoesOn (is_clear rules start_stand entry [] formed at_entry);
      steps = its_steps;
      waited = inl refl;
      answer = (
        refl,
        record {
          unhalted = refl;
          idle = refl;
          none_left = λ g. refl;
          told = record { started = refl; done = refl; failed = refl; first_one = refl; current = refl };
          clean = λ none. absurd (one_none none);
        },
      );
    }
