-- A run that begins an unfinished job again leaves its mark where it stands, makes the output anew, and closes the job: it keeps what a call has to keep.
use Rattle.std.proofs.Common.{◌≡◌, ◌<◌, ◌^◌, ℕ, Bool, true, false, ◌&&◌, ◌||◌, List, [], ◌∷◌, codes, length, take, bytes_eq, Option, Some, None, Ok, option_map, refl, sym, ap, subst, ◌∙◌, ◌⊎◌, inl, inr, append-nil, true≢false, arith}
use Rattle.std.specs.Prelude.{if◌then◌else◌, is_some, nat_le, IsSome}
use Rattle.std.specs.Fmt.{digits}
use Rattle.std.specs.List.{list_any}
use Rattle.smk_base.specs.Path.{overlaps}
use Rattle.smk_base.specs.Place.{mark_place, note_place, record_place}
use Rattle.smk_base.specs.declared.tree.Tree.{Tree}
use Rattle.smk_base.specs.declared.tree.Tree.TheVariants.{File, Folder}
use Rattle.smk_base.proofs.Places.{and_second, same_place}
use Rattle.smk_base.proofs.Under.{or_cases}
use Rattle.smk_world.specs.declared.event.Call.{Call}
use Rattle.smk_world.specs.declared.event.Call.TheVariants.{Created, Removed, Settled, Started, Waited, Written}
use Rattle.smk_world.specs.declared.event.Change.{Change}
use Rattle.smk_world.specs.declared.event.Event.{Event}
use Rattle.smk_world.specs.declared.event.Node.{Node}
use Rattle.smk_world.specs.declared.event.Node.TheVariants.{Directory, Regular}
use Rattle.smk_world.specs.World.{World, firm, firmly, is_above, is_within, node_in, owned_by, places_in, reading, reads_folder, run}
use Rattle.smk_world.specs.Calls.{ContentsAre, Happens, OutputsAre}
use Rattle.smk_world.specs.Folders.{CanHold}
use Rattle.smk_world.specs.Runs.{Follows}
use Rattle.smk_world.specs.Trees.{Path, IsIn, is_path_text}
use Rattle.smk_world.specs.Devices.{Device}
use Rattle.smk_world.proofs.Folders.{happens, no_node}
use Rattle.smk_world.proofs.Stays.{left_at}
use Rattle.smk_pattern.specs.Shapes.{Text}
use Rattle.sha2.specs.Sha256.{compress, digest_bytes, first_words, hash_after, rounds, schedule, sha256}
use Rattle.hex.specs.Hex.{encode_with}
use Rattle.smk_base.specs.Digests.{digest}
use Rattle.smk_record.specs.declared.record.Record.{Record}
use Rattle.smk_record.specs.declared.record.Stamp.TheVariants.{Sum}
use Rattle.smk_record.specs.Reading.{record_in}
use Rattle.smk_record.proofs.Exact.{reads_records}
use Rattle.smk_record.specs.Records.{core, members_of}
use Rattle.smk_record.specs.Spelling.{spelling}
use Rattle.smk_store.specs.declared.store.Kept.TheVariants.{Absent, Held, Unreadable}
use Rattle.smk_store.specs.Images.{Image, for_path, image_by, is_source, kept_by, readable, seen, stands}
use Rattle.smk_store.specs.Safety.{KeepsSound}
use Rattle.smk_store.specs.Trust.{content_stamp}
use Rattle.smk_flow.proofs.Examples.{commands}
use Rattle.smk_drive.proofs.Turns.{event}
use Rattle.smk_laws_protocol.specs.Midway.{IsTop, at_entry}
use Rattle.smk_laws_protocol.specs.Protocol.{AllMade, AllMarked, AllUnmarked, AllWritten, Begin, Close, Done, Ended, Firm, Go, HasAllMarks, MakeRoom, Marked, Marking, MayBegin, Next, OpenJob, Phase, Recorded, Running, RunState, Runs, Start, Steady, Unmark, Wait, Write}
use Rattle.smk_laws_protocol.proofs.Above.{held_by}
use Rattle.smk_laws_protocol.proofs.OneJob.{removed_absent}
use Rattle.smk_laws_protocol.proofs.Reading.{in_of}
use Rattle.smk_laws_history.specs.Histories.{IsCall}
use Rattle.smk_laws_history.proofs.HistoryListedRuns.{run_is_call}
use Rattle.smk_words_reading.specs.declared.asked.Asked.TheVariants.{Run}
use Rattle.smk_words_reading.specs.declared.asked.RunWords.{RunWords}
use Rattle.smk_words_reading.specs.Asks.{IsAsked}
use Rattle.smk_drive_rows.proofs.CopyRow.{out}
use Rattle.smk_cli_target.specs.Clauses.{KeepsGood}
use Rattle.smk_cli_target.specs.Files.{outside}
use Rattle.smk_drive_rows.proofs.BytesRow.{copied}
use Rattle.smk_drive_rows.proofs.UnfinishedRow.{all_marked, entry, entry_tree, forgets_none, here, mark_here, nodes, no_note, record_here, source_here}

-- ## The record that is written

abbrev hello_bytes : List ℕ
hello_bytes =
    0x58 ∷ 0x91 ∷ 0xB5 ∷ 0xB5 ∷ 0x22 ∷ 0xD5 ∷ 0xDF ∷ 0x08 ∷ 0x6D ∷ 0x0F ∷ 0xF0 ∷ 0xB1 ∷ 0x10 ∷ 0xFB ∷ 0xD9 ∷ 0xD2 ∷
    0x1B ∷ 0xB4 ∷ 0xFC ∷ 0x71 ∷ 0x63 ∷ 0xAF ∷ 0x34 ∷ 0xD0 ∷ 0x82 ∷ 0x86 ∷ 0xA2 ∷ 0xE8 ∷ 0x46 ∷ 0xF6 ∷ 0xBE ∷ 0x03 ∷ []

-- the SHA-256 of the source
hello_sum : sha256 (codes "hello\n") ≡ hello_bytes
unfolding first_words schedule rounds compress hash_after digest_bytes sha256
hello_sum = refl

hello_stamp : Sum 1000 (digest hello_bytes) ≡ content_stamp (record { bytes = codes "hello\n"; time = 1000; read_only = false })
hello_stamp = ap (λ bytes. Sum 1000 (digest bytes)) (sym hello_sum)

abbrev written : Record
written = record copied { format = 2; stamps = Sum 1000 (digest hello_bytes) ∷ [] }

written_short : length (spelling written) < 2 ^ 64
unfolding digits encode_with
written_short = omega arith

written_small : nat_le (length (spelling written)) 33554432 ≡ true
unfolding digits encode_with
written_small = refl

written_read : record_in (spelling written) ≡ Some written
written_read = (reads_records (spelling written) written written_short).1 (refl, refl)

written_there : (time : ℕ) (read_only : Bool) → kept_by record_in out (Some (Regular (spelling written) time read_only)) ≡ Held written
written_there time read_only = λ n. if written_small n then for_path out (written_read n) else Unreadable

-- ## The log

abbrev leaving : Call → Path → Node → Event
leaving call p n = event call (record { place = p; node = n } ∷ [])

-- the marks that were found are made firm; the job finds its own, makes its output, and writes its record over the one that stood there
abbrev pub log : List Event
log =
    event (Settled (mark_place out ∷ []) (Ok tt)) []
    ∷ event (Created (mark_place out) (Ok false)) []
    ∷ event (Settled (mark_place out ∷ []) (Ok tt)) []
    ∷ event (Removed out (Ok tt)) []
    ∷ event (Started copied.recipe [] (codes "cat in.txt > out.txt") (Ok 7)) []
    ∷ leaving (Waited (Ok (record { number = 7; status = 0 }))) out (Regular (codes "hello\n") 1003 false)
    ∷ event (Settled (out ∷ []) (Ok tt)) []
    ∷ leaving (Written (record_place out) (spelling written) (Ok tt)) (record_place out) (Regular (spelling written) 1004 false)
    ∷ event (Settled (record_place out ∷ []) (Ok tt)) []
    ∷ event (Removed (mark_place out) (Ok tt)) []
    ∷ event (Settled (mark_place out ∷ []) (Ok tt)) []
    ∷ []

-- ## It goes along the protocol

abbrev job : Phase → OpenJob
job phase = record { recipe = copied.recipe; logs = []; stamps = Sum 1000 (digest hello_bytes) ∷ []; serial = 1; kept = []; phase = phase }

abbrev with_job : Phase → RunState
with_job phase = record { jobs = job phase ∷ []; top = 1; steady = true; faulted = false }

abbrev at_end : RunState
at_end = record { jobs = []; top = 1; steady = true; faulted = false }

all_marks : HasAllMarks (outside commands) here (mark_place out ∷ [])
all_marks =
    record {
      marks = λ p h. subst (λ z. (bytes_eq (mark_place z) (mark_place out) || false) ≡ true) (sym (mark_here p (and_second (is_path_text p) (is_some (node_in nodes (mark_place p))) h))) refl;
      notes = λ p h. absurd (no_note p (and_second (is_path_text p) (is_some (node_in nodes (note_place p))) h));
    }

abbrev steadied : World
steadied = run entry (take 1 log)

-- the settling changes nothing that is seen
same_seen : here ≡ seen record_in steadied
same_seen = λ n. image_by record_in (places_in nodes) (λ q. same (node_in nodes q) (is_within q (mark_place out ∷ []) || (is_above q (mark_place out ∷ []) && reads_folder (firmly (node_in nodes q)))) n)
  where
    same : (x : Option Node) (c : Bool) → x ≡ reading (if c then firm (firmly x) else firmly x)
    same x true = refl
    same x false = refl

one_source : (q : Path) → is_source here q ≡ true → list_any (overlaps q) (out ∷ []) ≡ false
one_source q h = subst (λ z. list_any (overlaps z) (out ∷ []) ≡ false) (sym (source_here q h)) refl

one_known : (q : Path) → (stands (here.kept q) || here.marked q) ≡ true → IsIn (out ∷ []) q
one_known q h = by (or_cases (stands (here.kept q)) (here.marked q) h)
  where
    kept : (b : Bool) (n : Option Node) → node_in nodes (record_place q) ≡ n → stands (if b then kept_by record_in q n else Absent) ≡ true → q ≡ out
    kept true None e k = absurd (true≢false (sym k))
    kept true (Some n) e k = record_here q (ap is_some e)
    kept false n e k = absurd (true≢false (sym k))

    by : (stands (here.kept q) ≡ true) ⊎ (here.marked q ≡ true) → IsIn (out ∷ []) q
    by (inl k) = inl (kept (is_path_text q) (node_in nodes (record_place q)) refl k)
    by (inr m) = inl (mark_here q (and_second (is_path_text q) (is_some (node_in nodes (mark_place q))) m))

none_some : {A : Type 0} (x : A) → None ≡ Some x → ⊥
none_some x h = cc

may_begin : MayBegin (outside commands) (record (at_entry (outside commands) 0) { steady = true }) steadied (job Marking)
may_begin =
    record {
      paths = (refl, tt);
      apart = refl;
      from_open = tt;
      from_inputs = refl;
      no_source = subst (λ (i : Image). (q : Path) → is_source i q ≡ true → list_any (overlaps q) (out ∷ []) ≡ false) same_seen one_source;
      no_clash = subst (λ (i : Image). (q : Path) → (stands (i.kept q) || i.marked q) ≡ true → list_any (overlaps q) (out ∷ []) ≡ true → IsIn (out ∷ []) q) same_seen (λ q h over. one_known q h);
      at_hand = (inl (record { source = record { bytes = codes "hello\n"; time = 1000; read_only = false }; stands = refl; same = hello_stamp }), tt);
      each_stamped = refl;
      kept_own = λ p r h. absurd (none_some r h);
    }

runs : Runs (outside commands) (at_entry (outside commands) 0) entry log at_end
runs =
    Next _ (record (at_entry (outside commands) 0) { steady = true }) _ _ _ _ (Steady _ (mark_place out ∷ []) refl refl refl all_marks)
    (Next _ (with_job Marking) _ _ _ _ (Begin _ (job Marking) 1 refl refl may_begin (inl (refl, refl, refl)) refl (inl refl))
    (Next _ (with_job Marked) _ _ _ _ (Go _ [] [] (job Marking) Marked refl (inl refl) (AllMarked (mark_place out ∷ []) refl (refl, tt) (refl, tt)))
    (Next _ (with_job Marked) _ _ _ _ (Go _ [] [] (job Marked) Marked refl (inl refl) (MakeRoom out refl (inl refl)))
    (Next _ (with_job (Running 7)) _ _ _ _ (Go _ [] [] (job Marked) (Running 7) refl (inl refl) (Start (codes "cat in.txt > out.txt") 7 refl))
    (Next _ (with_job (Ended 0)) _ _ _ _ (Go _ [] [] (job (Running 7)) (Ended 0) refl (inl refl) (Wait 7 0 refl))
    (Next _ (with_job Firm) _ _ _ _ (Go _ [] [] (job (Ended 0)) Firm refl (inl refl) (AllMade (out ∷ []) refl (refl, tt) (refl, tt)))
    (Next _ (with_job Firm) _ _ _ _ (Go _ [] [] (job Firm) Firm refl (inl refl) (Write out (spelling written) refl (inl refl) written_there))
    (Next _ (with_job Recorded) _ _ _ _ (Go _ [] [] (job Firm) Recorded refl (inl refl)
    (AllWritten (record_place out ∷ []) refl ((ap (λ k. option_map core (readable k)) (written_there 1004 false), ap (λ k. members_of (readable k)) (written_there 1004 false)), tt) (refl, tt)))
    (Next _ (with_job Recorded) _ _ _ _ (Go _ [] [] (job Recorded) Recorded refl (inl refl) (Unmark out (inl refl) (inl refl)))
    (Next _ at_end _ _ _ _ (Close _ [] [] (job Recorded) refl refl (AllUnmarked (mark_place out ∷ []) (inl refl) (removed_absent (run entry (take 9 log)) (mark_place out), tt) (refl, tt)))
    (Done _ _)))))))))))

-- ## The world lets it happen

-- the child leaves the copy
copies : (trees : List Tree) → ContentsAre (run entry (take 5 log)) copied.recipe trees → OutputsAre (run entry (take 6 log)) copied.recipe (commands copied.recipe trees).outputs
copies [] h = absurd h
copies (File bytes ∷ []) h = (h.0 ∙ sym (append-nil bytes), tt)
copies (Folder es ∷ []) h = absurd (no h.0.folder)
  where
    no : Some (Regular (codes "hello\n") 1000 false) ≡ Some Directory → ⊥
    no h = cc
copies (t ∷ u ∷ trees) h = absurd h.1

h0 : Happens commands entry (event (Settled (mark_place out ∷ []) (Ok tt)) [])
h0 = happens commands entry (Settled (mark_place out ∷ []) (Ok tt)) [] entry_tree refl tt

h1 : Happens commands (run entry (take 1 log)) (event (Created (mark_place out) (Ok false)) [])
h1 = happens commands (run entry (take 1 log)) (Created (mark_place out) (Ok false)) [] h0.tree ((λ h. there h), refl) (λ made. absurd (true≢false (sym made)))
  where
    there : Some (Regular [] 1000 false) ≡ None → ⊥
    there h = cc

h2 : Happens commands (run entry (take 2 log)) (event (Settled (mark_place out ∷ []) (Ok tt)) [])
h2 = happens commands (run entry (take 2 log)) (Settled (mark_place out ∷ []) (Ok tt)) [] h1.tree refl tt

h3 : Happens commands (run entry (take 3 log)) (event (Removed out (Ok tt)) [])
h3 = happens commands (run entry (take 3 log)) (Removed out (Ok tt)) [] h2.tree refl tt

h4 : Happens commands (run entry (take 4 log)) (event (Started copied.recipe [] (codes "cat in.txt > out.txt") (Ok 7)) [])
h4 = happens commands (run entry (take 4 log)) (Started copied.recipe [] (codes "cat in.txt > out.txt") (Ok 7)) [] h3.tree (refl, λ h. in_of [] 7 h) tt

abbrev the_copy : List Change
the_copy = record { place = out; node = Regular (codes "hello\n") 1003 false } ∷ []

abbrev reads_then : Path → Option Node
reads_then = left_at (run entry (take 5 log)) (owned_by 7 (run entry (take 5 log)).children) the_copy

h5 : Happens commands (run entry (take 5 log)) (leaving (Waited (Ok (record { number = 7; status = 0 }))) out (Regular (codes "hello\n") 1003 false))
h5 =
    happens commands (run entry (take 5 log)) (Waited (Ok (record { number = 7; status = 0 }))) the_copy h4.tree
    (record { number = 7; recipe = copied.recipe; logs = [] }, refl, λ zero trees contents. (refl, copies trees contents))
    (λ q owned some. by q (bytes_eq out q) refl some)
  where
    by : (q : Path) (b : Bool) → bytes_eq out q ≡ b → IsSome (if b then Some (Regular (codes "hello\n") 1003 false) else None) → CanHold reads_then q
    by q true e some = subst (CanHold reads_then) (same_place out q e) (held_by reads_then out tt refl)
    by q false e some = no_node some

h6 : Happens commands (run entry (take 6 log)) (event (Settled (out ∷ []) (Ok tt)) [])
h6 = happens commands (run entry (take 6 log)) (Settled (out ∷ []) (Ok tt)) [] h5.tree refl tt

h7 : Happens commands (run entry (take 7 log)) (leaving (Written (record_place out) (spelling written) (Ok tt)) (record_place out) (Regular (spelling written) 1004 false))
h7 =
    happens commands (run entry (take 7 log)) (Written (record_place out) (spelling written) (Ok tt)) (record { place = record_place out; node = Regular (spelling written) 1004 false } ∷ []) h6.tree
    (1004, false, refl) (λ some. held_by (λ x. reading ((run entry (take 7 log)).nodes x)) (record_place out) (refl, (refl, (refl, tt))) refl, λ folder. absurd (no folder))
  where
    no : Some (Regular (spelling copied) 1002 false) ≡ Some Directory → ⊥
    no h = cc

h8 : Happens commands (run entry (take 8 log)) (event (Settled (record_place out ∷ []) (Ok tt)) [])
h8 = happens commands (run entry (take 8 log)) (Settled (record_place out ∷ []) (Ok tt)) [] h7.tree refl tt

h9 : Happens commands (run entry (take 9 log)) (event (Removed (mark_place out) (Ok tt)) [])
h9 = happens commands (run entry (take 9 log)) (Removed (mark_place out) (Ok tt)) [] h8.tree refl tt

h10 : Happens commands (run entry (take 10 log)) (event (Settled (mark_place out ∷ []) (Ok tt)) [])
h10 = happens commands (run entry (take 10 log)) (Settled (mark_place out ∷ []) (Ok tt)) [] h9.tree refl tt

follows : Follows commands entry log
follows = (h0, (h1, (h2, (h3, (h4, (h5, (h6, (h7, (h8, (h9, (h10, tt)))))))))))

-- ## It keeps what a call has to keep

no_serial : IsTop (outside commands) entry 0
no_serial p r n (at, inl unmarked) i = absurd (all_marked p r at unmarked)
no_serial p r n (at, inr eased) i = absurd eased

is_call : IsCall (outside commands) entry log [] true
is_call = run_is_call (outside commands) entry 0 log at_end no_serial follows runs

-- the clause of the contract on crashes
pub leaves_mark : (words : List Text) (w : RunWords) (old new : Device) → IsAsked words (Run w) → KeepsGood commands words old new entry log
leaves_mark words w old new asked good paths to_the_end forgets h = (
  subst (λ ps. KeepsSound (outside commands) entry log ps to_the_end) (sym (forgets_none words w paths asked forgets))
      (record { safe = is_call.sound.safe; sound_at_exit = λ H d s t alone. is_call.sound.sound_at_exit H d s refl alone }),
  record { throughout = is_call.listed.throughout; at_exit = λ H d s l t alone. is_call.listed.at_exit H d s l refl alone },
)
