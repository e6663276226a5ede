-- The next turn may come, after turns that are done.
use Rattle.std.proofs.Common.{◌≡◌, ◌≢◌, inl, inr, ℕ, suc, Bool, true, false, ◌||◌, List, [], ◌∷◌, ◌++◌, map, zip, refl, ap, sym, subst, ◌∙◌, bytes_eq, Option, Some, None, IsTrue, true≢false}
use Rattle.std.specs.Prelude.{is_some, option_map, if◌then◌else◌}
use Rattle.std.specs.List.{list_any}
use Rattle.smk_base.specs.Path.{is_path, own_folder, is_at_or_under, overlaps}
use Rattle.smk_base.specs.Place.{record_place, mark_place}
use Rattle.smk_base.proofs.Places.{and_first, place_itself, same_place}
use Rattle.smk_base.proofs.Under.{at_itself, false_unless, never_both, overlaps_at, overlaps_above_both}
use Rattle.smk_base.proofs.Apart.{path_outside}
use Rattle.smk_world.specs.declared.event.Event.{Event}
use Rattle.smk_world.specs.declared.event.Node.{Node}
use Rattle.smk_world.specs.World.{World, run, reading, in_paths, out_paths}
use Rattle.smk_world.specs.Calls.{HasOwners, any_overlap}
use Rattle.smk_world.specs.Runs.{Follows}
use Rattle.smk_world.specs.Trees.{Path, Each, IsIn, is_path_text, is_text, folders_of, kind_in}
use Rattle.smk_record.specs.declared.record.Record.{Record}
use Rattle.smk_record.specs.declared.record.Stamp.{Stamp}
use Rattle.smk_record.specs.declared.record.Stamp.TheVariants.{Time, Sum, Made as MadeStamp}
use Rattle.smk_record.specs.Records.{core}
use Rattle.smk_record.specs.Spelling.{ReadsRecords}
use Rattle.smk_store.specs.declared.store.Kept.TheVariants.{Absent}
use Rattle.smk_store.specs.Images.{Content, content_of, readable, kept_by, stands, file_at, core_at, is_source, source_at, seen}
use Rattle.smk_store.specs.Soundness.{Outside, SoundWorld, SameSources}
use Rattle.smk_store.specs.Trust.{Versions, content_stamp, holder, is_summed, source_stamp, sum_of}
use Rattle.smk_store_members.specs.Members.{AllIsFound}
use Rattle.smk_laws_protocol.specs.Protocol.{RunState, Marking, MayBegin, HasSerial, IsKept, IsApart, IsSourceAt, IsProductAt, IsAtHand, kept_at, now}
use Rattle.smk_laws_protocol.specs.Midway.{HasSafeImages}
use Rattle.smk_laws_protocol.proofs.Basics.{each_in, each_of, none_of, none_by}
use Rattle.smk_laws_job.specs.Laws.{IsRecordable}
use Rattle.smk_laws_history.proofs.HistoryImages.{held_no_source}
use Rattle.smk_laws_plan.proofs.CurrentPaths.{among_in}
use Rattle.smk_run.specs.Stamps.{Serials}
use Rattle.smk_run.specs.Turns.{Turn, found, AreTurns, is_begun, is_done}
use Rattle.smk_safe.specs.Leaving.{owned, AreInputsApart}
use Rattle.smk_safe.specs.Running.{IsOrderly, LeavesAlone, AreArranged, IsMade, HasMade}
use Rattle.smk_run.proofs.Calls.{each_first}
use Rattle.smk_safe.proofs.Disjoint.{flipped}
use Rattle.smk_safe.proofs.Kept.{apart_differ, differ_first}
use Rattle.smk_safe.proofs.Running.{done_turns_leave, orderly_each}
use Rattle.smk_safe.proofs.Sparing.{IsOffTurn, turns_kept}
use Rattle.smk_safe.specs.Turning.{IsAtRest, opened, MayComeNext, AllAreFound}
use Rattle.smk_safe.specs.Ready.{IsThere, FromSource, FromTurn, FromRest, stamp_of, IsRecordedSo, draws, greatest_after, HasItsSerial, IsReady}
use Rattle.smk_safe.proofs.Images.{kept_at as kept_same, marked_at, node_at, core_same, whole_at, holder_same, holder_over, source_of_both, same_back, same_then, sources_now}
use Rattle.smk_safe.proofs.Off.{makes, NoneMakes, AreClearOf, records_off, marks_off, users_off, clear_none, made_or_none}
use Rattle.smk_safe.proofs.Product.{made_product}
use Rattle.smk_safe.proofs.Stamped.{IsTold, AreTold, told_length}
use Rattle.smk_safe.proofs.Turning.{recordable_as}

-- ## Small facts

pub content_there : (b : Bool) (n : Option Node) (f : Content) → content_of (if b then n else None) ≡ Some f → content_of n ≡ Some f
content_there true n f h = h
content_there false n f h = cc

-- files with the same bytes and times have the same stamp
pub same_stamps : (f g : Content) → f.bytes ≡ g.bytes → f.time ≡ g.time → content_stamp f ≡ content_stamp g
same_stamps f g bytes time = λ i. if is_summed (bytes i) then Sum (time i) (sum_of (bytes i)) else Time (time i)

pub core_path : (read : List ℕ → Option Record) (w : World) (h : Path) (r : Record) → core_at (seen read w) h ≡ Some r → is_path_text h ≡ true
core_path read w h r e = go (is_path_text h) refl e
  where
    go : (b : Bool) → is_path_text h ≡ b → option_map core (readable (if b then kept_by read h (reading (w.nodes (record_place h))) else Absent)) ≡ Some r → b ≡ true
    go true k x = refl
    go false k x = cc

-- ## The records that a Restore finds

abbrev with_found : Path → Option Record → List (Path × Record) → List (Path × Record)
with_found p None kept = kept
with_found p (Some r) kept = (p, r) ∷ kept

-- the records that stand at these paths
abbrev found_at : (Path → Option Record) → List Path → List (Path × Record)
found_at at [] = []
found_at at (p ∷ ps) = with_found p (at p) (found_at at ps)

abbrev pub kept_by_draw : (Path → Option Record) → Bool → Turn → List (Path × Record)
kept_by_draw at true t = []
kept_by_draw at false t = found_at at (out_paths t.job.recipe)

none_is : {r : Record} → None ≡ Some r → ⊥
none_is e = cc

kept_finds : (at : Path → Option Record) (ps : List Path) (p : Path) (r : Record) → IsIn ps p → at p ≡ Some r → kept_at (found_at at ps) p ≡ Some r
kept_finds at [] p r i h = absurd i
kept_finds at (x ∷ ps) p r i h = go (bytes_eq x p) refl (at x) refl i (λ k. kept_finds at ps p r k h)
  where
    further : (b : Bool) → bytes_eq x p ≡ b → b ≡ false → IsIn (x ∷ ps) p → IsIn ps p
    further b e none_here (inl same) = absurd (true≢false (sym (place_itself x) ∙ ap (bytes_eq x) (sym same) ∙ e ∙ none_here))
    further b e none_here (inr k) = k

    go :
        (b : Bool) → bytes_eq x p ≡ b → (o : Option Record) → at x ≡ o → IsIn (x ∷ ps) p →
        (IsIn ps p → kept_at (found_at at ps) p ≡ Some r) → kept_at (with_found x o (found_at at ps)) p ≡ Some r
    go true e None none k again = absurd (none_is (sym none ∙ ap at (same_place x p e) ∙ h))
    go false e None none k again = again (further false e refl k)
    go true e (Some y) there k again = ap (λ b. if b then Some y else kept_at (found_at at ps) p) e ∙ sym there ∙ ap at (same_place x p e) ∙ h
    go false e (Some y) there k again = ap (λ b. if b then Some y else kept_at (found_at at ps) p) e ∙ again (further false e refl k)

kept_among : (at : Path → Option Record) (ps : List Path) (p : Path) (r : Record) → kept_at (found_at at ps) p ≡ Some r → IsIn ps p
kept_among at [] p r h = cc
kept_among at (x ∷ ps) p r h = go (bytes_eq x p) refl (at x) h (kept_among at ps p r)
  where
    go : (b : Bool) → bytes_eq x p ≡ b → (o : Option Record) → kept_at (with_found x o (found_at at ps)) p ≡ Some r → (kept_at (found_at at ps) p ≡ Some r → IsIn ps p) → IsIn (x ∷ ps) p
    go b e None k again = inr (again k)
    go true e (Some y) k again = inl (sym (same_place x p e))
    go false e (Some y) k again = inr (again (sym (ap (λ b. if b then Some y else kept_at (found_at at ps) p) e) ∙ k))

-- ## Turns that don't overlap

in_own : (t : Turn) (p : Path) → IsIn (out_paths t.job.recipe) p → IsIn (owned t) p
in_own t p i = first (out_paths t.job.recipe) i
  where
    first : (ps : List Path) → IsIn ps p → IsIn (ps ++ t.job.logs) p
    first [] k = absurd k
    first (x ∷ ps) (inl e) = inl e
    first (x ∷ ps) (inr k) = inr (first ps k)

-- what a later turn owns none of the earlier ones makes
own_not_made : (t : Turn) (p : Path) (ts : List Turn) → IsIn (owned t) p → Each (λ (u : Turn). LeavesAlone u t) ts → NoneMakes p ts
own_not_made t p [] i h = tt
own_not_made t p (u ∷ ts) i h = (
  false_unless (makes p u) (λ k.
      never_both (overlaps p p) (overlaps_at p p (at_itself p))
      (none_of (overlaps p) (owned t) p (each_in (λ q. list_any (overlaps q) (owned t) ≡ false) (owned u) p (h.0).own (in_own u p (among_in (out_paths u.job.recipe) p k))) i)),
  own_not_made t p ts i h.1,
)

inputs_from : (own ins : List Path) → Each (λ p. (is_at_or_under p own_folder ≡ false) × (list_any (overlaps p) own ≡ false)) ins → any_overlap own ins ≡ false
inputs_from own ins h =
    none_by (λ p. list_any (overlaps p) ins) own
    (λ p i. none_by (overlaps p) ins (λ q k. flipped q p (none_of (overlaps q) own p (each_in (λ x. (is_at_or_under x own_folder ≡ false) × (list_any (overlaps x) own ≡ false)) ins q h k).1 i)))

-- ## In mid-run

-- Turns that are done came one after another, from a world in which no child runs; then and now the folder is sound, with the sources of the entry.
pub record IsMidRun (o : Outside) (made : Serials) (entry start : World) (H : Versions) (before : List Turn) (es : List Event) : Type 0 where
  pub none_runs : start.children ≡ []
  pub owners : HasOwners start
  pub start_sound : SoundWorld o start H
  pub start_safe : HasSafeImages o entry start H
  pub arranged : AreArranged before
  pub done : Each (λ (t : Turn). is_done t.course ≡ true) before
  pub paths : Each (λ (t : Turn). Each (λ p. IsTrue (is_path_text p)) (out_paths t.job.recipe)) before
  pub records : Each (λ (t : Turn). Each (IsRecordable (opened t [])) (out_paths t.job.recipe)) before
  pub follows : Follows o.act start es
  pub turns : AreTurns made before start es
  pub now_sound : SoundWorld o (run start es) H
  pub now_safe : HasSafeImages o entry (run start es) H
  pub all_found : AllAreFound before (run start es)

module _ (o : Outside) (made : Serials) (entry start : World) (H : Versions) (before : List Turn) (es : List Event) (reads : ReadsRecords o.read) (m : IsMidRun o made entry start H before es) where
  abbrev w : World
  w = run start es

  -- the records that stood at the start
  abbrev stood : Path → Option Record
  stood p = core_at (now o start) p

  all_made : HasMade o.act before w
  all_made = done_turns_leave o.act made before start es m.none_runs m.owners m.arranged m.follows m.turns m.done

  stays : (q : Path) → Each (IsOffTurn true q) before → w.nodes q ≡ start.nodes q
  stays q off = turns_kept true made before start es q m.none_runs m.turns off

  record_stays : (q : Path) → NoneMakes q before → w.nodes (record_place q) ≡ start.nodes (record_place q)
  record_stays q none = stays (record_place q) (records_off q before (orderly_each before m.arranged) none)

  mark_stays : (q : Path) → NoneMakes q before → w.nodes (mark_place q) ≡ start.nodes (mark_place q)
  mark_stays q none = stays (mark_place q) (marks_off q before (orderly_each before m.arranged) none)

  sources : SameSources (now o start) (now o w)
  sources =
      same_then (now o start) (now o entry) (now o w) (same_back (now o entry) (now o start) (sources_now o entry start H m.start_sound m.start_safe))
      (sources_now o entry w H m.now_sound m.now_safe)

  -- ## Inputs

  source_hand : (p : Path) (s : Stamp) → is_source (now o start) p ≡ true → IsTold w None p s → IsSourceAt o (now o w) p s
  source_hand p s is told =
      let both = source_of_both (now o start) (now o w) p sources is in
      let file : file_at (now o w) p ≡ Some both.second = sym (ap (λ b. if b then file_at (now o w) p else None) both.is_second) ∙ both.at_second in
      record { source = both.second; stands = both.at_second; same = told both.second (content_there _ (reading (w.nodes p)) both.second file) }

  made_hand : (u : Turn) (p : Path) → IsIn before u → IsIn (out_paths u.job.recipe) p → IsProductAt o (now o w) p (MadeStamp u.made)
  made_hand u p i k =
      made_product o u w m.now_sound.formed reads o.act p (each_in (IsMade o.act w) before u all_made.made i) k
      (differ_first (out_paths u.job.recipe) u.job.logs (apart_differ (owned u) (each_in IsOrderly before u (orderly_each before m.arranged) i).apart))
      (each_in (λ (t : Turn). Each (λ q. IsTrue (is_path_text q)) (out_paths t.job.recipe)) before u m.paths i)
      (each_in (λ (t : Turn). Each (IsRecordable (opened t [])) (out_paths t.job.recipe)) before u m.records i)
      (each_in (λ (t : Turn). Each (AllIsFound w.nodes) (folders_of t.job.recipe)) before u m.all_found i)

  resting_hand : (p : Path) (n : ℕ) (product : IsProductAt o (now o start) p (MadeStamp n)) → AreClearOf product.speaker before → IsProductAt o (now o w) p (MadeStamp n)
  resting_hand p n product clear =
      let h = product.speaker in
      let says = product.speaks in
      let path = core_path o.read start h product.by says.clear.0 in
      let out = path_outside h (and_first (is_path h) (is_text h) path) in
      let none = clear_none h h before (overlaps_at h h (at_itself h)) clear in
      let at = holder_over (now o start) p h says.holder in
      let speaks : holder (now o w) p ≡ Some h =
      holder_same (now o start) (now o w) p (λ f k. core_same o.read start w f (record_stays f (clear_none h f before (overlaps_above_both p h f at k) clear))) ∙ says.holder in
      let node = λ (q : Path) (k : is_at_or_under q h ≡ true). stays q (users_off h q before out k clear) in
      record {
        speaker = h;
        by = product.by;
        speaks = record {
          no_source = held_no_source (now o w) p h speaks;
          holder = speaks;
          clear = (
            core_same o.read start w h (record_stays h none) ∙ says.clear.0,
            elim says.clear.1 [ inl unmarked ↦ inl (marked_at o.read start w h (mark_stays h none) ∙ unmarked) | inr never ↦ inr never ],
          );
        };
        same = product.same;
        whole = whole_at o.read start w h (kind_in product.by.recipe h) m.start_sound.formed m.now_sound.formed (record_stays h none) node ∙ product.whole;
        part = elim product.part [ inl e ↦ inl e | inr f ↦ inr (ap (λ (x : Option Node). is_some (content_of x)) (node_at o.read start w p (node p at)) ∙ f) ];
      }

  module _ (rest : List Turn) where
    abbrev HasInput : Path → Type 0
    HasInput p = IsThere o (now o start) made before (before ++ rest) p

    hand : (p : Path) (s : Stamp) → IsTold w (made p) p s → HasInput p → IsAtHand o (now o w) (p, s)
    hand p s told (FromSource none is) = inl (source_hand p s is (subst (λ x. IsTold w x p s) none told))
    hand p s told (FromTurn u i k e) = inr (subst (IsProductAt o (now o w) p) (sym (subst (λ x. IsTold w x p s) e told)) (made_hand u p i k))
    hand p s told (FromRest n product e clear) =
        inr (subst (IsProductAt o (now o w) p) (sym (subst (λ x. IsTold w x p s) e told))
        (resting_hand p n product (each_first (λ (t : Turn). list_any (overlaps product.speaker) (owned t) ≡ false) before rest clear)))

    hands : (ps : List Path) (ss : List Stamp) → AreTold w made ps ss → Each HasInput ps → Each (IsAtHand o (now o w)) (zip ps ss)
    hands [] [] told there = tt
    hands [] (s ∷ ss) told there = tt
    hands (p ∷ ps) [] told there = tt
    hands (p ∷ ps) (s ∷ ss) told there = (hand p s told.0 there.0, hands ps ss told.1 there.1)

    stamp_there : (p : Path) (s : Stamp) → IsTold w (made p) p s → HasInput p → Some s ≡ stamp_of (made p) (source_at (now o start) p)
    stamp_there p s told (FromSource none is) =
        let both = source_of_both (now o start) (now o w) p sources is in
        let told_none = subst (λ x. IsTold w x p s) none told in
        let file : file_at (now o w) p ≡ Some both.second = sym (ap (λ b. if b then file_at (now o w) p else None) both.is_second) ∙ both.at_second in
        let stamp = told_none both.second (content_there _ (reading (w.nodes p)) both.second file) in
        ap Some (stamp ∙ same_stamps both.second both.first both.bytes both.time) ∙ sym (ap source_stamp both.at_first) ∙ ap (λ x. stamp_of x (source_at (now o start) p)) (sym none)
    stamp_there p s told (FromTurn u i k e) = ap Some (subst (λ x. IsTold w x p s) e told) ∙ ap (λ x. stamp_of x (source_at (now o start) p)) (sym e)
    stamp_there p s told (FromRest n product e clear) = ap Some (subst (λ x. IsTold w x p s) e told) ∙ ap (λ x. stamp_of x (source_at (now o start) p)) (sym e)

    stamps_there : (ps : List Path) (ss : List Stamp) → AreTold w made ps ss → Each HasInput ps → map Some ss ≡ map (λ q. stamp_of (made q) (source_at (now o start) q)) ps
    stamps_there [] [] told there = refl
    stamps_there [] (s ∷ ss) told there = absurd told
    stamps_there (p ∷ ps) [] told there = absurd told
    stamps_there (p ∷ ps) (s ∷ ss) told there = λ i. stamp_there p s told.0 there.0 i ∷ stamps_there ps ss told.1 there.1 i

    -- ## The job

    module _ (t : Turn) (ready : IsReady o (now o start) made before (before ++ rest) t) (orderly : IsOrderly t) (apart : AreInputsApart t) (alone : Each (λ (u : Turn). LeavesAlone u t) before) where
      no_source : (q : Path) → is_source (now o w) q ≡ true → list_any (overlaps q) (owned t) ≡ false
      no_source q is = ready.no_source q (source_of_both (now o w) (now o start) q (same_back (now o start) (now o w) sources) is).is_second

      no_clash : (q : Path) → (stands ((now o w).kept q) || (now o w).marked q) ≡ true → list_any (overlaps q) (owned t) ≡ true → IsIn (out_paths t.job.recipe) q
      no_clash q known over = elim (made_or_none q before) [
        | inl made_it ↦
            let u = made_it.0 in
            absurd (never_both (list_any (overlaps q) (owned t)) over
            (each_in (λ p. list_any (overlaps p) (owned t) ≡ false) (owned u) q (each_in (λ (x : Turn). LeavesAlone x t) before u alone made_it.1).own (in_own u q made_it.2)))
        | inr none ↦ ready.no_clash q
            (sym ((λ i. stands (kept_same o.read start w q (record_stays q none) i) || marked_at o.read start w q (mark_stays q none) i)) ∙ known) over
      ]

      may_begin : (s : RunState) → s.jobs ≡ [] → (drawn : Bool) → AreTold w made (in_paths t.job.recipe) (found t.looked) → MayBegin o s w (opened t (kept_by_draw stood drawn t))
      may_begin s none drawn told = record {
        paths = ready.paths;
        apart = orderly.apart;
        from_open = subst (Each (IsApart (opened t (kept_by_draw stood drawn t)))) (sym none) tt;
        from_inputs = inputs_from (owned t) (in_paths t.job.recipe) apart;
        no_source = no_source;
        no_clash = no_clash;
        at_hand = hands (in_paths t.job.recipe) (found t.looked) told ready.inputs;
        each_stamped = told_length w made (in_paths t.job.recipe) (found t.looked) told;
        kept_own = own drawn;
      }
        where
          own : (b : Bool) (p : Path) (r : Record) → kept_at (kept_by_draw stood b t) p ≡ Some r → IsIn (out_paths t.job.recipe) p
          own true p r h = cc
          own false p r h = kept_among stood (out_paths t.job.recipe) p r h

      kept_record : (p : Path) → AreTold w made (in_paths t.job.recipe) (found t.looked) → IsIn (out_paths t.job.recipe) p → IsRecordedSo (now o start) made t p → IsKept o w (opened t (kept_by_draw stood false t)) p
      kept_record p told i h =
          let none = own_not_made t p before (in_own t p i) alone in
          record {
            found = h.found;
            stands = core_same o.read start w p (record_stays p none) ∙ h.stands;
            unmarked = marked_at o.read start w p (mark_stays p none) ∙ h.unmarked;
            kept = kept_finds stood (out_paths t.job.recipe) p h.found i h.stands;
            again = h.again (found t.looked) (stamps_there (in_paths t.job.recipe) (found t.looked) told ready.inputs);
          }

      some_kept : Each (IsRecordedSo (now o start) made t) (out_paths t.job.recipe) → kept_by_draw stood false t ≡ [] → ⊥
      some_kept each h = go (out_paths t.job.recipe) ready.makes each h
        where
          go : (ps : List Path) → ps ≢ [] → Each (IsRecordedSo (now o start) made t) ps → found_at stood ps ≡ [] → ⊥
          go [] some all k = some refl
          go (p ∷ ps) some all k = not_none (sym (ap (λ r. with_found p r (found_at stood ps)) (all.0).stands) ∙ k)
            where
              not_none : {x : Path × Record} {xs : List (Path × Record)} → x ∷ xs ≡ [] → ⊥
              not_none e = cc

      has_serial : (s : RunState) (top greatest : ℕ) (drawn : Bool) → draws top t ≡ drawn → s.top ≡ greatest → HasItsSerial (now o start) made top greatest t
          → AreTold w made (in_paths t.job.recipe) (found t.looked) → HasSerial o s w (opened t (kept_by_draw stood drawn t)) (greatest_after top greatest t)
      has_serial s top greatest true is at serial told =
          let next : t.made ≡ suc s.top = serial.drawn is ∙ ap suc (sym at) in
          inl (refl, next, ap (λ b. if b then t.made else greatest) is ∙ next)
      has_serial s top greatest false is at serial told =
          inr (
            some_kept (serial.kept is),
            each_of (IsKept o w (opened t (kept_by_draw stood false t))) (out_paths t.job.recipe)
                (λ p i. kept_record p told i (each_in (IsRecordedSo (now o start) made t) (out_paths t.job.recipe) p (serial.kept is) i)),
            ap (λ b. if b then t.made else greatest) is ∙ sym at,
          )

      pub may_come : (s : RunState) (top greatest : ℕ) → IsAtRest s → s.top ≡ greatest → HasItsSerial (now o start) made top greatest t
          → (is_begun t.course ≡ true → AreTold w made (in_paths t.job.recipe) (found t.looked))
          → MayComeNext o s w t (kept_by_draw stood (draws top t) t) (greatest_after top greatest t)
      may_come s top greatest at_rest at serial told = record {
        formed = m.now_sound.formed;
        none_runs = all_made.none_runs;
        owners = all_made.owners;
        makes = ready.makes;
        begins = λ begun. may_begin s at_rest.none_open (draws top t) (told begun);
        serial = λ begun. has_serial s top greatest (draws top t) refl at serial (told begun);
        records = λ begun. recordable_as t [] (kept_by_draw stood (draws top t) t) Marking (out_paths t.job.recipe) (ready.records begun);
      }
