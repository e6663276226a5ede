-- What `forget` does of a path is a run of the protocol of forgetting.
use Rattle.std.proofs.Common.{◌≡◌, inl, inr, Bool, true, false, ◌&&◌, ◌||◌, List, [], ◌∷◌, ◌++◌, refl, sym, ap, subst, ◌∙◌, append-nil, bytes_eq, Option, Some, None, Result, Ok, Err, true≢false}
use Rattle.std.specs.Prelude.{All, IsTrue, option_map, if◌then◌else◌}
use Rattle.std.proofs.lemmas.List.Elements.{All-nil, All-cons, All-head, All-tail}
use Rattle.std.proofs.lemmas.List.Concat.{flat_map-cons}
use Rattle.smk_base.specs.Path.{is_at_or_under}
use Rattle.smk_base.specs.Place.{record_place, mark_place, note_place, records_folder, marks_folder, notes_folder}
use Rattle.smk_base.proofs.Under.{or_first, or_second}
use Rattle.smk_base.proofs.Places.{place_itself}
use Rattle.smk_world.specs.declared.event.Node.{Node}
use Rattle.smk_world.specs.declared.event.NodeState.{NodeState}
use Rattle.smk_world.specs.declared.event.NodeState.TheVariants.{Owned, Known as Standing}
use Rattle.smk_world.specs.declared.event.Call.{Call}
use Rattle.smk_world.specs.declared.event.Call.TheVariants.{Looked, ReadFile, ReadFolder, Written, Created, Removed, MadeParents, Settled, Protected, Started, Waited}
use Rattle.smk_world.specs.declared.event.Event.{Event}
use Rattle.smk_world.specs.World.{World, after, run, reading, node_after, is_within, is_above, reads_folder, firm, firmly}
use Rattle.smk_world.specs.Calls.{failed}
use Rattle.smk_world.specs.Devices.{is_look, AreLooks}
use Rattle.smk_world.specs.Runs.{Follows}
use Rattle.smk_world.specs.Requests.{Request, request, HasDone, Carries}
use Rattle.smk_world.specs.Requests.Request.{Remove, Settle}
use Rattle.smk_world.specs.Trees.{Path, IsIn, among, is_path_text}
use Rattle.smk_world.proofs.Devices.{looks_nodes}
use Rattle.smk_record.specs.declared.record.Stamp.{Stamp}
use Rattle.smk_record.specs.declared.record.Record.{Record}
use Rattle.smk_record.specs.Records.{core, stamped}
use Rattle.smk_store.specs.declared.fault.StoreFault.{StoreFault}
use Rattle.smk_store.specs.declared.fault.StoreFault.TheVariants.{StampSeen, Device, OutOfMemory}
use Rattle.smk_store.specs.declared.store.Entry.{Entry}
use Rattle.smk_store.specs.declared.store.Kept.{Kept}
use Rattle.smk_store.specs.declared.store.Kept.TheVariants.{Absent, Unreadable, Held}
use Rattle.smk_store.specs.Images.{Content, content_of, seen, image_by, readable, stands, is_known, is_outside}
use Rattle.smk_store.specs.Stores.{Known, entry_of}
use Rattle.smk_store.specs.Loading.{IsStoreOf, entry_at}
use Rattle.smk_store.specs.Unowned.{NoneOwned}
use Rattle.smk_store.specs.Forgetting.{inputs_of, all_inputs, AreUnseen, forget_requests, LooksThen}
use Rattle.smk_store.specs.Safety.{KeepsSound}
use Rattle.smk_store.specs.Soundness.{Outside}
use Rattle.smk_laws_protocol.specs.Protocol.{IsLook, IsAbsent, as_ok, now}
use Rattle.smk_laws_protocol.specs.Forgetting.{Stage, Resting, Unrecording, Unmarking, Stopped, is_resting, IsUnseen, IsFirm, IsFirmAround, Forgets, Look as LookMove, Hold, Unrecord, Unnote, Unrecorded, Unmark, Unmarked, Fail, ForgetsAll, Done, Next}
use Rattle.smk_laws_protocol.proofs.ForgettingHolds.{forgetting_keeps_sound}
use Rattle.smk_laws_job.specs.Laws.{LeavesAt, ForgettingRuns, is_at_rest, ForgettingIsSafe}
use Rattle.smk_laws_job.proofs.Called.{as_removed, as_settled}
use Rattle.smk_job.proofs.Single.{Stepped}
use Rattle.smk_laws_job.proofs.Abandoning.{removed_call, settled_call, absent_now, absent_still}
use Rattle.smk_laws_job.proofs.Beginning.{stepped}

-- ## No record names a file there by its time

-- what is known of a path is in the store
known_in : (ks : List Known) (q : Path) (e : Entry) (x : Path × Stamp) → entry_of ks q ≡ Some e → IsIn (inputs_of (readable e.kept)) x → IsIn (all_inputs ks) x
known_in [] q e x at i = absurd (no_entry at)
  where
    no_entry : None ≡ Some e → ⊥
    no_entry h = cc
known_in (k ∷ ks) q e x at i =
    subst (λ l. IsIn l x) (sym (flat_map-cons (λ (y : Known). inputs_of (readable y.entry.kept)) k ks))
    (by (bytes_eq k.path q) at (λ h. known_in ks q e x h i))
  where
    left : (xs ys : List (Path × Stamp)) → IsIn xs x → IsIn (xs ++ ys) x
    left [] ys h = absurd h
    left (a ∷ xs) ys (inl h) = inl h
    left (a ∷ xs) ys (inr h) = inr (left xs ys h)

    right : (xs ys : List (Path × Stamp)) → IsIn ys x → IsIn (xs ++ ys) x
    right [] ys h = h
    right (a ∷ xs) ys h = inr (right xs ys h)

    same_entry : (f : Entry) → Some f ≡ Some e → f ≡ e
    same_entry f h = cc

    by : (b : Bool) → (if b then Some k.entry else entry_of ks q) ≡ Some e → (entry_of ks q ≡ Some e → IsIn (all_inputs ks) x) → IsIn (inputs_of (readable k.entry.kept) ++ all_inputs ks) x
    by true h more = left (inputs_of (readable k.entry.kept)) (all_inputs ks) (subst (λ (f : Entry). IsIn (inputs_of (readable f.kept)) x) (sym (same_entry k.entry h)) i)
    by false h more = right (inputs_of (readable k.entry.kept)) (all_inputs ks) (more h)

-- a record that reads stands, and names the same inputs
core_reads : (kept : Kept) (r : Record) → option_map core (readable kept) ≡ Some r → (stands kept ≡ true) × (inputs_of (readable kept) ≡ stamped r)
core_reads Absent r h = absurd (none_some h)
  where
    none_some : None ≡ Some r → ⊥
    none_some e = cc
core_reads Unreadable r h = absurd (none_some h)
  where
    none_some : None ≡ Some r → ⊥
    none_some e = cc
core_reads (Held full) r h = (refl, ap stamped (same h))
  where
    same : Some (core full) ≡ Some r → core full ≡ r
    same e = cc

outside_file : (b : Bool) (n : Option Node) (f : Content) → content_of (if b then n else None) ≡ Some f → content_of n ≡ Some f
outside_file true n f h = h
outside_file false n f h = absurd (none_some h)
  where
    none_some : None ≡ Some f → ⊥
    none_some e = cc

unseen_now : (o : Outside) (w : World) (ks : List Known) (p : Path) → IsStoreOf (seen o.read w) ks → AreUnseen ks w p → IsUnseen (now o w) p
unseen_now o w ks p store unseen q x r f at under file s named time =
    let image = seen o.read w in
    let reads = core_reads (image.kept q) r at in
    let known : is_known image q ≡ true = or_first (stands (image.kept q)) (image.marked q || image.noted q) reads.0 in
    let entry : entry_of ks q ≡ Some (entry_at image q) = store.entries q ∙ ap (λ (b : Bool). if b then Some (entry_at image q) else None) known in
    unseen x
    (record {
      under = under;
      file = f;
      stands = outside_file (is_outside x) (reading (w.nodes x)) f file;
      stamp = s;
      held = known_in ks q (entry_at image q) (x, s) entry (subst (λ l. IsIn l (x, s)) (sym reads.1) named);
      same = time;
    })

-- ## All around is firm

firm_known : (s : NodeState) → (s ≡ Owned → ⊥) → (n : Option Node) × (firm s ≡ firmly n)
firm_known Owned free = absurd (free refl)
firm_known (Standing n besides) free = (n, refl)

settled_on : (b : Bool) (s : NodeState) → b ≡ true → (if b then firm s else s) ≡ firm s
settled_on true s h = refl
settled_on false s h = absurd (true≢false (sym h))

firm_within : (w : World) (e : Event) (ps : List Path) (q : Path) → NoneOwned w → e.call ≡ Settled ps (Ok tt) → is_within q ps ≡ true → IsFirm (after w e) q
firm_within w e ps q free is at =
    let firm_there = firm_known (w.nodes q) (free q) in (
      firm_there.0,
      ap (λ c. node_after c e.left w.children q (w.nodes q)) is
          ∙ settled_on (is_within q ps || (is_above q ps && reads_folder (w.nodes q))) (w.nodes q) (or_first (is_within q ps) _ at)
          ∙ firm_there.1,
    )

-- the path, and where all records, marks and notes stand
abbrev around : Path → List Path
around p = p ∷ records_folder ∷ marks_folder ∷ notes_folder ∷ []

firm_around : (w : World) (e : Event) (p : Path) → NoneOwned w → e.call ≡ Settled (around p) (Ok tt) → IsFirmAround (after w e) p
firm_around w e p free is =
    record {
      files = λ q at. firm_within w e (around p) q free is (or_first (is_at_or_under q p) _ at);
      records = λ q other over. firm_within w e (around p) (record_place q) free is (or_second (is_at_or_under (record_place q) p) _ refl);
      marks = λ q other over. firm_within w e (around p) (mark_place q) free is (or_second (is_at_or_under (mark_place q) p) _ refl);
      notes = λ q other over. firm_within w e (around p) (note_place q) free is (or_second (is_at_or_under (note_place q) p) _ refl);
    }

-- ## The calls

-- where the run ends: at rest, or where a call failed
abbrev end_of : Bool → Stage
end_of true = Resting
end_of false = Stopped

module _ (o : Outside) (paths : List Path) (ok : Bool) where
  abbrev Goes : Stage → World → List Event → Type 0
  Goes stage w es = ForgetsAll o paths stage w es (end_of ok)

  -- A call, by its request.
  goes : (from to : Stage) (w : World) (es : List Event) (r : Request) (rs : List Request) (call : Call)
      → ((c : Call) → request c ≡ r → as_ok c ≡ call) → ((c : Call) → request c ≡ r → failed c ≡ false → c ≡ call)
      → ((e : Event) → e.call ≡ call → Forgets o paths w from e to)
      → Follows o.act w es → Carries (r ∷ rs) ok es
      → ((v : World) (fs : List Event) → Stepped o.act r w v → Follows o.act v fs → Carries rs ok fs → Goes to v fs)
      → Goes from w es
  goes from to w es r rs call as_good as_done move follows carries more = by ok es follows carries more
    where
      by : (good : Bool) (es : List Event) → Follows o.act w es → Carries (r ∷ rs) good es
          → ((v : World) (fs : List Event) → Stepped o.act r w v → Follows o.act v fs → Carries rs good fs → ForgetsAll o paths to v fs (end_of good))
          → ForgetsAll o paths from w es (end_of good)
      by true [] follows carries more = absurd carries
      by true (e ∷ es) follows carries more =
          Next from to Resting w e es (move e (as_done e.call carries.0 carries.1)) (more (after w e) es (stepped o.act r w e follows.0.lets carries.0 carries.1) follows.1 carries.2)
      by false [] follows carries more = absurd carries
      by false (e ∷ []) follows carries more =
          Next from Stopped Stopped w e [] (Fail from to e carries.1 (move (record e { call = as_ok e.call }) (as_good e.call carries.0))) (Done Stopped (after w e))
      by false (e ∷ (f ∷ es)) follows carries more =
          Next from to Stopped w e (f ∷ es) (move e (as_done e.call carries.0 carries.1)) (more (after w e) (f ∷ es) (stepped o.act r w e follows.0.lets carries.0 carries.1) follows.1 carries.2)

  over : (w : World) (es : List Event) → Carries [] ok es → Goes Resting w es
  over w es carries = by ok es carries
    where
      by : (good : Bool) (es : List Event) → Carries [] good es → ForgetsAll o paths Resting w es (end_of good)
      by true [] carries = Done Resting w
      by true (e ∷ es) carries = absurd carries
      by false es carries = absurd carries

  removed : (w v : World) (x : Path) → Stepped o.act (Remove x) w v → IsAbsent v x
  removed w v x st = subst (λ y. IsAbsent y x) (sym st.now) (absent_now o.act w st.event x (removed_call st.event.call x st.is st.quiet) st.lets)

  removed_still : (w v : World) (x y : Path) → Stepped o.act (Remove x) w v → IsAbsent w y → IsAbsent v y
  removed_still w v x y st gone = subst (λ z. IsAbsent z y) (sym st.now) (absent_still o.act w st.event x (removed_call st.event.call x st.is st.quiet) st.lets y gone)

  forgets : (p : Path) (w : World) (es : List Event) → IsIn paths p → is_path_text p ≡ true → IsUnseen (now o w) p → NoneOwned w
      → Follows o.act w es → Carries (forget_requests p) ok es → Goes Resting w es
  forgets p w es own text unseen free follows carries =
      let known : List Path = record_place p ∷ note_place p ∷ [] in
      let mark : List Path = mark_place p ∷ [] in
      let after4 : List Request = Settle mark ∷ [] in
      let after3 : List Request = Remove (mark_place p) ∷ after4 in
      let after2 : List Request = Settle known ∷ after3 in
      let after1 : List Request = Remove (note_place p) ∷ after2 in
      goes Resting (Unrecording p) w es (Settle (around p)) (Remove (record_place p) ∷ after1) (Settled (around p) (Ok tt)) (λ c is. as_settled c (around p) is) (λ c is quiet. settled_call c (around p) is quiet)
      (λ e is. Hold e p (around p) own text unseen is (firm_around w e p free is)) follows carries
      (λ w1 fs1 s1 follows1 carries1.
      goes (Unrecording p) (Unrecording p) w1 fs1 (Remove (record_place p)) after1 (Removed (record_place p) (Ok tt)) (λ c is. as_removed c (record_place p) is) (λ c is quiet. removed_call c (record_place p) is quiet)
      (λ e is. Unrecord e p is) follows1 carries1
      (λ w2 fs2 s2 follows2 carries2.
      goes (Unrecording p) (Unrecording p) w2 fs2 (Remove (note_place p)) after2 (Removed (note_place p) (Ok tt)) (λ c is. as_removed c (note_place p) is) (λ c is quiet. removed_call c (note_place p) is quiet)
      (λ e is. Unnote e p is) follows2 carries2
      (λ w3 fs3 s3 follows3 carries3.
      goes (Unrecording p) (Unmarking p) w3 fs3 (Settle known) after3 (Settled known (Ok tt)) (λ c is. as_settled c known is) (λ c is quiet. settled_call c known is quiet)
      (λ e is. Unrecorded e p known is (removed_still w2 w3 (note_place p) (record_place p) s3 (removed w1 w2 (record_place p) s2)) (removed w2 w3 (note_place p) s3) (here (record_place p) (note_place p ∷ []), (there (note_place p) (record_place p) (note_place p ∷ []) (here (note_place p) []), tt))) follows3 carries3
      (λ w4 fs4 s4 follows4 carries4.
      goes (Unmarking p) (Unmarking p) w4 fs4 (Remove (mark_place p)) after4 (Removed (mark_place p) (Ok tt)) (λ c is. as_removed c (mark_place p) is) (λ c is quiet. removed_call c (mark_place p) is quiet)
      (λ e is. Unmark e p is) follows4 carries4
      (λ w5 fs5 s5 follows5 carries5.
      goes (Unmarking p) Resting w5 fs5 (Settle mark) [] (Settled mark (Ok tt)) (λ c is. as_settled c mark is) (λ c is quiet. settled_call c mark is quiet)
      (λ e is. Unmarked e p mark is (removed w4 w5 (mark_place p) s5) (here (mark_place p) [], tt)) follows5 carries5
      (λ w6 fs6 s6 follows6 carries6. over w6 fs6 carries6))))))
    where
      here : (x : Path) (xs : List Path) → IsTrue (among (x ∷ xs) x)
      here x xs = or_first (bytes_eq x x) (among xs x) (place_itself x)

      there : (x y : Path) (xs : List Path) → IsTrue (among xs x) → IsTrue (among (y ∷ xs) x)
      there x y xs h = or_second (bytes_eq x y) (among xs x) h

-- ## Looks

pub look_of : (o : Outside) (call : Call) → is_look call ≡ true → IsLook o call
look_of o (Looked x r) h = tt
look_of o (ReadFile x limit r) h = tt
look_of o (ReadFolder x r) h = tt
look_of o (Written x bytes r) h = absurd (true≢false (sym h))
look_of o (Created x r) h = absurd (true≢false (sym h))
look_of o (Removed x r) h = absurd (true≢false (sym h))
look_of o (MadeParents x r) h = absurd (true≢false (sym h))
look_of o (Settled xs r) h = absurd (true≢false (sym h))
look_of o (Protected x r) h = absurd (true≢false (sym h))
look_of o (Started recipe logs command r) h = absurd (true≢false (sym h))
look_of o (Waited r) h = absurd (true≢false (sym h))

abbrev EachLook : List Event → Type 0
EachLook es = All (λ (x : Event). is_look x.call ≡ true) es

each_look : (f : Bool) (es : List Event) → AreLooks f es → EachLook es
each_look f [] h = All-nil (λ (x : Event). is_look x.call ≡ true)
each_look f (e ∷ []) h = All-cons (λ (x : Event). is_look x.call ≡ true) e [] h.0 (All-nil (λ (x : Event). is_look x.call ≡ true))
each_look f (e ∷ (g ∷ es)) h = All-cons (λ (x : Event). is_look x.call ≡ true) e (g ∷ es) h.0 (each_look f (g ∷ es) h.2)

looks_first : (o : Outside) (paths : List Path) (es fs : List Event) (w : World) (end : Stage) → EachLook es → ForgetsAll o paths Resting (run w es) fs end → ForgetsAll o paths Resting w (es ++ fs) end
looks_first o paths [] fs w end h later = later
looks_first o paths (e ∷ es) fs w end h later =
    Next Resting Resting end w e (es ++ fs) (LookMove Resting e (look_of o e.call (All-head (λ (x : Event). is_look x.call ≡ true) e es h)))
    (looks_first o paths es fs (after w e) end (All-tail (λ (x : Event). is_look x.call ≡ true) e es h) later)

follows_rest : (o : Outside) (es fs : List Event) (w : World) → Follows o.act w (es ++ fs) → Follows o.act (run w es) fs
follows_rest o [] fs w h = h
follows_rest o (e ∷ es) fs w h = follows_rest o es fs (after w e) h.1

-- ## All that `forget` does

module _ (o : Outside) (store : List Known) (paths : List Path) (p : Path) (w : World) (es : List Event)
    (own : IsIn paths p) (text : is_path_text p ≡ true) (stored : IsStoreOf (seen o.read w) store) (free : NoneOwned w) (follows : Follows o.act w es) where
  only_looks : EachLook es → ForgetsAll o paths Resting w es Resting
  only_looks h = subst (λ fs. ForgetsAll o paths Resting w fs Resting) (append-nil es) (looks_first o paths es [] w Resting h (Done Resting (run w es)))

  looks_then : (ok : Bool) → AreUnseen store w p → LooksThen (λ calls. Carries (forget_requests p) ok calls) es → ForgetsAll o paths Resting w es (end_of ok)
  looks_then ok unseen (looks, calls, is, look, carries) =
      let v = run w looks in
      let same : v.nodes ≡ w.nodes = looks_nodes false w looks look in
      subst (λ fs. ForgetsAll o paths Resting w fs (end_of ok)) (sym is)
      (looks_first o paths looks calls w (end_of ok) (each_look false looks look)
      (forgets o paths ok p v calls own text
      (subst (λ ns. IsUnseen (image_by o.read v.names (λ q. reading (ns q))) p) (sym same) (unseen_now o w store p stored unseen))
      (λ q owned. free q (sym (ap (λ ns. ns q) same) ∙ owned))
      (follows_rest o looks calls w (subst (Follows o.act w) is follows)) carries))

pub forgetting_runs : ForgettingRuns
forgetting_runs o store paths p (Ok true) w es own text stored free follows (unseen, later) =
    (Resting, looks_then o store paths p w es own text stored free follows true unseen later, refl)
forgetting_runs o store paths p (Ok false) w es own text stored free follows (unseen, (looks, calls, is, look, none)) =
    (Resting, only_looks o store paths p w es own text stored free follows (subst EachLook (sym (is ∙ ap (λ t. looks ++ t) (no_calls calls none) ∙ append-nil looks)) (each_look false looks look)), refl)
  where
    no_calls : (cs : List Event) → HasDone [] cs → cs ≡ []
    no_calls [] h = refl
    no_calls (c ∷ cs) h = absurd h
forgetting_runs o store paths p (Err (StampSeen q)) w es own text stored free follows (first, look) =
    (Resting, only_looks o store paths p w es own text stored free follows (each_look false es look), refl)
forgetting_runs o store paths p (Err Device) w es own text stored free follows (inl look) =
    (Resting, only_looks o store paths p w es own text stored free follows (each_look true es look), inl refl)
forgetting_runs o store paths p (Err Device) w es own text stored free follows (inr (unseen, later)) =
    (Stopped, looks_then o store paths p w es own text stored free follows false unseen later, inr refl)
forgetting_runs o store paths p (Err OutOfMemory) w es own text stored free follows look =
    (Resting, only_looks o store paths p w es own text stored free follows (each_look false es look), refl)

-- So it keeps soundness.
pub forgetting_safe : ForgettingIsSafe
forgetting_safe o store paths p result w es own text stored free follows did =
    let r = forgetting_runs o store paths p result w es own text stored free follows did in
    by result r.0 r.2 (forgetting_keeps_sound o w paths es r.0 follows r.1)
  where
    by : (answer : Result Bool StoreFault) (stage : Stage) → LeavesAt answer stage → KeepsSound o w es paths (is_resting stage) → KeepsSound o w es paths (is_at_rest answer)
    by (Ok known) stage e k = subst (λ x. KeepsSound o w es paths (is_resting x)) e k
    by (Err (StampSeen q)) stage e k = subst (λ x. KeepsSound o w es paths (is_resting x)) e k
    by (Err Device) stage e k = record { safe = k.safe; sound_at_exit = λ H differ sound end. absurd (true≢false (sym end)) }
    by (Err OutOfMemory) stage e k = subst (λ x. KeepsSound o w es paths (is_resting x)) e k
