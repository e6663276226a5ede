-- The calls with which a job begins and is closed are at its own sites; and but for the last one none of those that close it makes a mark firm.
use Rattle.std.proofs.Common.{◌≡◌, ◌⊎◌, ℕ, Bool, true, false, ◌||◌, List, [], ◌∷◌, ◌++◌, map, refl, sym, ap, subst, ◌∙◌, inl, inr, append_assoc}
use Rattle.smk_base.specs.Path.{is_path}
use Rattle.smk_base.specs.Place.{mark_place, note_place, record_place}
use Rattle.smk_base.proofs.Apart.{IsApart, apart_flipped, path-mark, record-mark}
use Rattle.smk_world.specs.declared.event.Call.{Call}
use Rattle.smk_world.specs.declared.event.Call.TheVariants.{Looked, ReadFile, ReadFolder, Written, Created, Removed, MadeParents, Settled, Protected, Started, Waited}
use Rattle.smk_world.specs.declared.event.Event.{Event}
use Rattle.smk_world.specs.declared.recipe.Recipe.{Recipe}
use Rattle.smk_world.specs.World.{World, is_above, is_within, out_paths, owned_paths}
use Rattle.smk_world.specs.Calls.{failed}
use Rattle.smk_world.specs.Requests.{HasDone, Request, request}
use Rattle.smk_world.specs.Requests.Request.{Look, ReadUpTo, ListFolder, Write, Create, Remove, MakeParents, Settle, Protect, Start, Wait}
use Rattle.smk_world.specs.Trees.{Each, IsIn, Path, outs_of}
use Rattle.smk_flow.specs.declared.job.Job.{Job}
use Rattle.smk_record.specs.declared.record.Member.{Member}
use Rattle.smk_store.specs.Steps.{make_each, mark_requests, places_of, remove_each, write_each}
use Rattle.smk_job.specs.declared.fault.CloseFault.{CloseFault}
use Rattle.smk_job.specs.declared.fault.CloseFault.TheVariants as close
use Rattle.smk_job.specs.Jobs.{Underway, abandon_requests, bytes_with, clear_requests, finish_requests, parents_each}
use Rattle.smk_job.specs.Sights.{AreLookedAt, HasSeen, IsSeenWrong}
use Rattle.smk_keep.specs.Keeping.{protect_each, protect_requests}
use Rattle.smk_run.specs.declared.ending.Ending.{Ending}
use Rattle.smk_run.specs.declared.ending.Ending.TheVariants.{Good, Status, NoOutput, WrongKind, BadMember}
use Rattle.smk_run.specs.Closings.{IsClosedBy}
use Rattle.smk_run.proofs.Calls.{EachCall, OfLooks, done_each, each_append, looked_each, seen_each, wrong_each}
use Rattle.smk_drive.specs.Moments.{places}
use Rattle.smk_drive.specs.Lawful.{is_wait}
use Rattle.smk_laws_plan.proofs.CurrentLists.{in_either, in_left, in_right}
use Rattle.smk_laws_protocol.proofs.Basics.{each_in}
use Rattle.smk_laws_moments.specs.Owning.{IsOwnCall, sites}
use Rattle.smk_laws_moments.proofs.QuietCalls.{IsQuiet}
use Rattle.smk_laws_turns.proofs.Signs.{Spares}

mapped : (f : Path → Path) (ps : List Path) (p : Path) → IsIn ps p → IsIn (map f ps) (f p)
mapped f [] p h = absurd h
mapped f (q ∷ ps) p (inl e) = inl (ap f e)
mapped f (q ∷ ps) p (inr i) = inr (mapped f ps p i)

-- ## A job's own sites

module _ (j : Job) where
  -- a call for this is at one of the job's sites, or changes nothing
  abbrev pub IsOwn : Request → Type 0
  IsOwn (Look p) = Unit {0}
  IsOwn (ReadUpTo p limit) = Unit {0}
  IsOwn (ListFolder p) = Unit {0}
  IsOwn (Write p bytes) = IsIn (sites j) p
  IsOwn (Create p) = IsIn (sites j) p
  IsOwn (Remove p) = IsIn (sites j) p
  IsOwn (MakeParents p) = IsIn (sites j) p
  IsOwn (Settle ps) = Unit {0}
  IsOwn (Protect p) = IsIn (sites j) p
  IsOwn (Start recipe logs command) = ⊥
  IsOwn Wait = ⊥

  -- with such a call the job begins, before its child is started
  abbrev pub IsBeginning : Request → Type 0
  IsBeginning (Look p) = ⊥
  IsBeginning (ReadUpTo p limit) = ⊥
  IsBeginning (ListFolder p) = ⊥
  IsBeginning (Write p bytes) = ⊥
  IsBeginning (Create p) = IsIn (places j) p
  IsBeginning (Remove p) = IsIn (out_paths j.recipe) p
  IsBeginning (MakeParents p) = IsIn (sites j) p
  IsBeginning (Settle ps) = Unit {0}
  IsBeginning (Protect p) = ⊥
  IsBeginning (Start recipe logs command) = ⊥
  IsBeginning Wait = ⊥

  pub out_placed : (p : Path) → IsIn (out_paths j.recipe) p → IsIn (places j) p
  out_placed p i = in_left p (out_paths j.recipe) _ i

  mark_placed : (p : Path) → IsIn (map mark_place (out_paths j.recipe)) p → IsIn (places j) p
  mark_placed p i =
      in_right p (out_paths j.recipe) _ (in_left p (map mark_place (out_paths j.recipe)) (map record_place (out_paths j.recipe) ++ map note_place j.logs) i)

  record_placed : (p : Path) → IsIn (map record_place (out_paths j.recipe)) p → IsIn (places j) p
  record_placed p i =
      in_right p (out_paths j.recipe) _
      (in_right p (map mark_place (out_paths j.recipe)) (map record_place (out_paths j.recipe) ++ map note_place j.logs)
      (in_left p (map record_place (out_paths j.recipe)) (map note_place j.logs) i))

  note_placed : (p : Path) → IsIn (map note_place j.logs) p → IsIn (places j) p
  note_placed p i =
      in_right p (out_paths j.recipe) _
      (in_right p (map mark_place (out_paths j.recipe)) (map record_place (out_paths j.recipe) ++ map note_place j.logs)
      (in_right p (map record_place (out_paths j.recipe)) (map note_place j.logs) i))

  pub placed_site : (p : Path) → IsIn (places j) p → IsIn (sites j) p
  placed_site p i = in_left p (places j) j.logs i

  owned_site : (p : Path) → IsIn (owned_paths j.recipe j.logs) p → IsIn (sites j) p
  owned_site p i = go (in_either p (out_paths j.recipe) j.logs i)
    where
      go : IsIn (out_paths j.recipe) p ⊎ IsIn j.logs p → IsIn (sites j) p
      go (inl o) = placed_site p (out_placed p o)
      go (inr l) = in_right p (places j) j.logs l

  pub own_call : (w : World) (call : Call) → IsOwn (request call) → IsOwnCall j w call
  own_call w (Looked p r) h = tt
  own_call w (ReadFile p limit r) h = tt
  own_call w (ReadFolder p r) h = tt
  own_call w (Written p bytes r) h = h
  own_call w (Created p r) h = h
  own_call w (Removed p r) h = h
  own_call w (MadeParents p r) h = h
  own_call w (Settled ps r) h = tt
  own_call w (Protected p r) h = h
  own_call w (Started recipe logs command r) h = absurd h
  own_call w (Waited r) h = absurd h

  pub no_wait : (call : Call) → IsOwn (request call) → is_wait call ≡ false
  no_wait (Looked p r) h = refl
  no_wait (ReadFile p limit r) h = refl
  no_wait (ReadFolder p r) h = refl
  no_wait (Written p bytes r) h = refl
  no_wait (Created p r) h = refl
  no_wait (Removed p r) h = refl
  no_wait (MadeParents p r) h = refl
  no_wait (Settled ps r) h = refl
  no_wait (Protected p r) h = refl
  no_wait (Started recipe logs command r) h = refl
  no_wait (Waited r) h = absurd h

  pub beginning_own : (r : Request) → IsBeginning r → IsOwn r
  beginning_own (Look p) h = absurd h
  beginning_own (ReadUpTo p limit) h = absurd h
  beginning_own (ListFolder p) h = absurd h
  beginning_own (Write p bytes) h = absurd h
  beginning_own (Create p) h = placed_site p h
  beginning_own (Remove p) h = placed_site p (out_placed p h)
  beginning_own (MakeParents p) h = h
  beginning_own (Settle ps) h = tt
  beginning_own (Protect p) h = absurd h
  beginning_own (Start recipe logs command) h = absurd h
  beginning_own Wait h = absurd h

  pub own_quiet : (r : Request) → IsOwn r → IsQuiet r
  own_quiet (Look p) h = tt
  own_quiet (ReadUpTo p limit) h = tt
  own_quiet (ListFolder p) h = tt
  own_quiet (Write p bytes) h = tt
  own_quiet (Create p) h = tt
  own_quiet (Remove p) h = tt
  own_quiet (MakeParents p) h = tt
  own_quiet (Settle ps) h = tt
  own_quiet (Protect p) h = tt
  own_quiet (Start recipe logs command) h = absurd h
  own_quiet Wait h = absurd h

  -- ## How it begins

  makes_begin : (ps : List Path) → ((p : Path) → IsIn ps p → IsIn (places j) p) → Each IsBeginning (make_each ps)
  makes_begin [] in_places = tt
  makes_begin (p ∷ ps) in_places =
      (placed_site p (in_places p (inl refl)), (in_places p (inl refl), makes_begin ps (λ q i. in_places q (inr i))))

  removes_begin : (ps : List Path) → ((p : Path) → IsIn ps p → IsIn (out_paths j.recipe) p) → Each IsBeginning (remove_each ps)
  removes_begin [] outs = tt
  removes_begin (p ∷ ps) outs = (outs p (inl refl), removes_begin ps (λ q i. outs q (inr i)))

  parents_begin : (ps : List Path) → ((p : Path) → IsIn ps p → IsIn (sites j) p) → Each IsBeginning (parents_each ps)
  parents_begin [] in_sites = tt
  parents_begin (p ∷ ps) in_sites = (in_sites p (inl refl), parents_begin ps (λ q i. in_sites q (inr i)))

  signs_placed : (p : Path) → IsIn (map mark_place (out_paths j.recipe) ++ map note_place j.logs) p → IsIn (places j) p
  signs_placed p i = go (in_either p (map mark_place (out_paths j.recipe)) (map note_place j.logs) i)
    where
      go : IsIn (map mark_place (out_paths j.recipe)) p ⊎ IsIn (map note_place j.logs) p → IsIn (places j) p
      go (inl m) = mark_placed p m
      go (inr n) = note_placed p n

  -- the calls before its child is started
  pub begins_each : Each IsBeginning (mark_requests (places_of (out_paths j.recipe) j.logs) ++ clear_requests (out_paths j.recipe) (owned_paths j.recipe j.logs))
  begins_each =
      let marking = map mark_place (out_paths j.recipe) ++ map note_place j.logs in
      let owned = owned_paths j.recipe j.logs in
      each_append IsBeginning (make_each marking ++ Settle marking ∷ []) (remove_each (out_paths j.recipe) ++ parents_each owned)
      (each_append IsBeginning (make_each marking) (Settle marking ∷ []) (makes_begin marking signs_placed) (tt, tt))
      (each_append IsBeginning (remove_each (out_paths j.recipe)) (parents_each owned) (removes_begin (out_paths j.recipe) (λ p i. i)) (parents_begin owned owned_site))

  -- ## How it is closed

  removes_own : (ps : List Path) → ((p : Path) → IsIn ps p → IsIn (sites j) p) → Each IsOwn (remove_each ps)
  removes_own [] in_sites = tt
  removes_own (p ∷ ps) in_sites = (in_sites p (inl refl), removes_own ps (λ q i. in_sites q (inr i)))

  writes_own : (ps : List Path) (bytes : List (List ℕ)) → ((p : Path) → IsIn ps p → IsIn (sites j) p) → Each IsOwn (write_each ps bytes)
  writes_own [] bytes in_sites = tt
  writes_own (p ∷ ps) [] in_sites = tt
  writes_own (p ∷ ps) (b ∷ bytes) in_sites = (in_sites p (inl refl), (in_sites p (inl refl), writes_own ps bytes (λ q i. in_sites q (inr i))))

  protects_own : (ps : List Path) → ((p : Path) → IsIn ps p → IsIn (sites j) p) → Each IsOwn (protect_each ps)
  protects_own [] in_sites = tt
  protects_own (p ∷ ps) in_sites = (in_sites p (inl refl), protects_own ps (λ q i. in_sites q (inr i)))

-- ## A mark is spared

module _ (o : Path) where
  abbrev pub mark : Path
  mark = mark_place o

  none_of : (a b : Bool) → a ≡ false → b ≡ false → (a || b) ≡ false
  none_of a b h k = ap (λ x. x || b) h ∙ k

  pub settles_apart : (ps : List Path) → ((p : Path) → IsIn ps p → IsApart mark p) → (is_within mark ps ≡ false) × (is_above mark ps ≡ false)
  settles_apart [] apart = (refl, refl)
  settles_apart (p ∷ ps) apart =
      let here = apart p (inl refl) in
      let rest = settles_apart ps (λ q i. apart q (inr i)) in
      (none_of _ _ here.at_or_under rest.0, none_of _ _ here.over rest.1)

  removes_spare : (ps : List Path) → Each (Spares mark) (remove_each ps)
  removes_spare [] = tt
  removes_spare (p ∷ ps) = (tt, removes_spare ps)

  writes_spare : (ps : List Path) (bytes : List (List ℕ)) → Each (Spares mark) (write_each ps bytes)
  writes_spare [] bytes = tt
  writes_spare (p ∷ ps) [] = tt
  writes_spare (p ∷ ps) (b ∷ bytes) = (tt, (tt, writes_spare ps bytes))

  -- outputs and records are apart from it
  pub outs_apart : (ps : List Path) → Each (λ p. is_path p ≡ true) ps → (p : Path) → IsIn ps p → IsApart mark p
  outs_apart ps paths p i = apart_flipped p mark (path-mark p o (each_in (λ q. is_path q ≡ true) ps p paths i))

  records_apart : (ps : List Path) (p : Path) → IsIn (map record_place ps) p → IsApart mark p
  records_apart [] p i = absurd i
  records_apart (q ∷ ps) p (inl e) = subst (IsApart mark) (sym e) (apart_flipped (record_place q) mark (record-mark q o))
  records_apart (q ∷ ps) p (inr i) = records_apart ps p i

-- ## Closing

-- both hold of each
both_each : (P Q : Request → Type 0) (rs : List Request) → Each P rs → Each Q rs → Each (λ r. P r × Q r) rs
both_each P Q [] a b = tt
both_each P Q (r ∷ rs) a b = ((a.0, b.0), both_each P Q rs a.1 b.1)

-- the calls before the last one, and that
pub done_last :
    (rs : List Request) (r : Request) (es : List Event) → HasDone (rs ++ r ∷ []) es →
    (front : List Event) × (last : Event) × (es ≡ front ++ last ∷ []) × HasDone rs front × (request last.call ≡ r) × (failed last.call ≡ false)
done_last [] r [] done = absurd done
done_last [] r (e ∷ []) done = ([], e, refl, tt, done.0, done.1)
done_last [] r (e ∷ (f ∷ es)) done = absurd done.2
done_last (q ∷ rs) r [] done = absurd done
done_last (q ∷ rs) r (e ∷ es) done =
    let rest = done_last rs r es done.2 in (e ∷ rest.0, rest.1, ap (λ xs. e ∷ xs) rest.2, (done.0, done.1, rest.3), rest.4, rest.5)

-- Calls that close a job: the last one makes its marks firm, and the others are at its sites and spare a mark.
pub record IsClosing (j : Job) (o : Path) (es : List Event) : Type 0 where
  pub front : List Event
  pub last : Event
  pub events : es ≡ front ++ last ∷ []
  pub calls : EachCall (λ r. IsOwn j r × Spares (mark_place o) r) front
  pub settles : request last.call ≡ Settle (map mark_place (out_paths j.recipe))

module _ (j : Job) (o : Path) (paths : Each (λ p. is_path p ≡ true) (out_paths j.recipe)) where
  abbrev IsFor : Request → Type 0
  IsFor r = IsOwn j r × Spares (mark_place o) r

  abbrev outs : List Path
  outs = out_paths j.recipe

  abbrev marks : List Path
  marks = map mark_place outs

  abbrev records : List Path
  records = map record_place outs

  looks_for : OfLooks IsFor
  looks_for = record { look = λ p. (tt, tt); read = λ p limit. (tt, tt); listed = λ p. (tt, tt) }

  removes_for : (ps : List Path) → ((p : Path) → IsIn ps p → IsIn (sites j) p) → Each IsFor (remove_each ps)
  removes_for ps in_sites = both_each (IsOwn j) (Spares (mark_place o)) (remove_each ps) (removes_own j ps in_sites) (removes_spare o ps)

  out_site : (p : Path) → IsIn outs p → IsIn (sites j) p
  out_site p i = placed_site j p (out_placed j p i)

  mark_site : (p : Path) → IsIn marks p → IsIn (sites j) p
  mark_site p i = placed_site j p (mark_placed j p i)

  record_site : (p : Path) → IsIn records p → IsIn (sites j) p
  record_site p i = placed_site j p (record_placed j p i)

  unmarks_for : Each IsFor (remove_each marks)
  unmarks_for = removes_for marks mark_site

  dropping_apart : (p : Path) → IsIn (outs ++ records) p → IsApart (mark_place o) p
  dropping_apart p i = go (in_either p outs records i)
    where
      go : IsIn outs p ⊎ IsIn records p → IsApart (mark_place o) p
      go (inl h) = outs_apart o outs paths p h
      go (inr h) = records_apart o outs p h

  -- with the calls of a job that is finished, but the last one
  finish_for : (bytes : List (List ℕ)) → Each IsFor ((Settle outs ∷ (write_each records bytes ++ Settle records ∷ [])) ++ remove_each marks)
  finish_for bytes =
      each_append IsFor (Settle outs ∷ (write_each records bytes ++ Settle records ∷ [])) (remove_each marks) (
        (tt, settles_apart o outs (outs_apart o outs paths)),
        each_append IsFor (write_each records bytes) (Settle records ∷ [])
            (both_each (IsOwn j) (Spares (mark_place o)) (write_each records bytes) (writes_own j records bytes record_site) (writes_spare o records bytes))
            ((tt, settles_apart o records (records_apart o outs)), tt),
      ) unmarks_for

  -- and with those of one that is abandoned
  abandon_for : Each IsFor ((remove_each outs ++ (remove_each records ++ Settle (outs ++ records) ∷ [])) ++ remove_each marks)
  abandon_for =
      each_append IsFor (remove_each outs ++ (remove_each records ++ Settle (outs ++ records) ∷ [])) (remove_each marks)
      (each_append IsFor (remove_each outs) (remove_each records ++ Settle (outs ++ records) ∷ []) (removes_for outs out_site)
      (each_append IsFor (remove_each records) (Settle (outs ++ records) ∷ []) (removes_for records record_site) ((tt, settles_apart o (outs ++ records) dropping_apart), tt)))
      unmarks_for

  closing_by : (rs : List Request) (es : List Event) → Each IsFor rs → HasDone (rs ++ Settle marks ∷ []) es → IsClosing j o es
  closing_by rs es each done =
      let d = done_last rs (Settle marks) es done in
      record { front = d.0; last = d.1; events = d.2; calls = done_each IsFor rs d.0 each d.3; settles = d.4 }

  behind_looks : (es looks rest : List Event) → es ≡ looks ++ rest → EachCall IsFor looks → IsClosing j o rest → IsClosing j o es
  behind_looks es looks rest split looked c =
      record {
        front = looks ++ c.front;
        last = c.last;
        events = split ∙ (ap (λ xs. looks ++ xs) c.events ∙ sym (append_assoc looks c.front (c.last ∷ [])));
        calls = each_append (λ (x : Event). IsFor (request x.call)) looks c.front looked c.calls;
        settles = c.settles;
      }

module _ (j : Job) (o : Path) (paths : Each (λ p. is_path p ≡ true) (out_paths j.recipe)) (going : Underway) (same_recipe : j.recipe ≡ going.recipe) (same_logs : j.logs ≡ going.logs) where
  abbrev For : Request → Type 0
  For r = IsOwn j r × Spares (mark_place o) r

  finished : (members : List (List Member)) (es : List Event) → HasDone (finish_requests going members) es → IsClosing j o es
  finished members es done =
      let bytes = bytes_with going (out_paths going.recipe) members in
      let outs = out_paths j.recipe in
      let rs = Settle outs ∷ (write_each (map record_place outs) bytes ++ Settle (map record_place outs) ∷ []) in
      let here : HasDone (rs ++ (remove_each (map mark_place outs) ++ Settle (map mark_place outs) ∷ [])) es =
      subst (λ (recipe : Recipe).
      HasDone
      ((Settle (out_paths recipe) ∷ (write_each (map record_place (out_paths recipe)) bytes ++ Settle (map record_place (out_paths recipe)) ∷ []))
      ++ (remove_each (map mark_place (out_paths recipe)) ++ Settle (map mark_place (out_paths recipe)) ∷ [])) es) (sym same_recipe) done in
      closing_by j o paths (rs ++ remove_each (map mark_place outs)) es (finish_for j o paths bytes)
      (subst (λ qs. HasDone qs es) (sym (append_assoc rs (remove_each (map mark_place outs)) (Settle (map mark_place outs) ∷ []))) here)

  abandoned : (es : List Event) → HasDone (abandon_requests going) es → IsClosing j o es
  abandoned es done =
      let outs = out_paths j.recipe in
      let rs = remove_each outs ++ (remove_each (map record_place outs) ++ Settle (outs ++ map record_place outs) ∷ []) in
      let here : HasDone (rs ++ (remove_each (map mark_place outs) ++ Settle (map mark_place outs) ∷ [])) es =
      subst (λ (recipe : Recipe).
      HasDone
      ((remove_each (out_paths recipe) ++ (remove_each (map record_place (out_paths recipe)) ++ Settle (out_paths recipe ++ map record_place (out_paths recipe)) ∷ []))
      ++ (remove_each (map mark_place (out_paths recipe)) ++ Settle (map mark_place (out_paths recipe)) ∷ [])) es) (sym same_recipe) done in
      closing_by j o paths (rs ++ remove_each (map mark_place outs)) es (abandon_for j o paths)
      (subst (λ qs. HasDone qs es) (sym (append_assoc rs (remove_each (map mark_place outs)) (Settle (map mark_place outs) ∷ []))) here)

  wrong : (f : CloseFault) (w : World) (es : List Event) → HasSeen (IsSeenWrong w.nodes (outs_of going.recipe) f) (HasDone (abandon_requests going)) es → IsClosing j o es
  wrong f w es h =
      behind_looks j o paths es h.looks h.rest h.events (wrong_each For (looks_for j o paths) w.nodes (outs_of going.recipe) f h.looks h.seen)
      (abandoned h.rest h.done)

  pub closing_of : (how : Ending) (status : ℕ) (w : World) (es : List Event) → IsClosedBy going how status w es → IsClosing j o es
  closing_of Good status w es h =
      let d = h.1 in
      behind_looks j o paths es d.1.looks d.1.rest d.1.events
      (seen_each For (looks_for j o paths) w.nodes (outs_of going.recipe) d.0 d.1.looks d.1.seen) (finished d.0 d.1.rest d.1.done)
  closing_of (Status n) status w es h = abandoned es h.2
  closing_of (NoOutput p) status w es h = wrong (close.NoOutput p) w es h.1
  closing_of (WrongKind p) status w es h = wrong (close.WrongKind p) w es h.1
  closing_of (BadMember p) status w es h = wrong (close.BadMember p) w es h.1

  -- so are the looks at a job that is left for want of memory
  pub looks_of : (es : List Event) → AreLookedAt (outs_of going.recipe) es → EachCall For es
  looks_of es h = looked_each For (looks_for j o paths) (outs_of going.recipe) es h

-- ## Guards

pub protects_each : (j : Job) (guards : List Path) → ((p : Path) → IsIn guards p → IsIn (out_paths j.recipe) p) → Each (IsOwn j) (protect_requests guards)
protects_each j guards outs =
    each_append (IsOwn j) (protect_each guards) (Settle guards ∷ []) (protects_own j guards (λ p i. placed_site j p (out_placed j p (outs p i)))) (tt, tt)
