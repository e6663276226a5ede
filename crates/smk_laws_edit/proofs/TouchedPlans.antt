-- The chain of plans of an image in which small sources have other times, beside one by which all jobs were Clean: it is the same one.
use Rattle.std.specs.List.{list_any}
use Rattle.std.specs.Option.{option_and_then}
use Rattle.std.specs.Prelude.{if◌then◌else◌, is_none}
use Rattle.std.proofs.Common.{◌≡◌, ◌⊎◌, ℕ, Bool, true, false, ◌&&◌, ◌||◌, not, List, [], ◌∷◌, ◌++◌, map, filter, flat_map, refl, sym, ap, subst, ◌∙◌, inl, inr, bytes_eq, eqb, eqb-true, Option, Some, None, option_map, is_some, true≢false}
use Rattle.std.proofs.lemmas.Option.{none-some, same_Some}
use lib.Pointwise.{pointwise}
use Rattle.smk_base.specs.Path.{is_under}
use Rattle.smk_base.proofs.Places.{place_itself, same_place}
use Rattle.smk_world.specs.declared.event.Node.{Node}
use Rattle.smk_world.specs.declared.event.Node.TheVariants.{Directory, Regular}
use Rattle.smk_world.specs.declared.recipe.Kind.{Kind}
use Rattle.smk_world.specs.declared.recipe.Kind.TheVariants.{Plain, Folder as FolderKind}
use Rattle.smk_world.specs.declared.recipe.Recipe.{Recipe}
use Rattle.smk_world.specs.Trees.{Path, Act, below, folder_over, is_path_text, kind_in}
use Rattle.smk_world.specs.World.{in_paths, out_paths}
use Rattle.smk_flow.specs.Flows.{Flow}
use Rattle.smk_flow.specs.declared.job.Job.{Job}
use Rattle.smk_record.specs.declared.record.Member.{Member}
use Rattle.smk_record.specs.declared.record.Record.{Record}
use Rattle.smk_record.specs.declared.record.Stamp.{Stamp}
use Rattle.smk_record.specs.declared.record.Stamp.TheVariants.{Made, Sum, Time}
use Rattle.smk_record.specs.Records.{agree, core, members_of, same_member, stamped}
use Rattle.smk_store.specs.declared.store.Kept.{Kept}
use Rattle.smk_store.specs.declared.store.Kept.TheVariants.{Absent, Held, Unreadable}
use Rattle.smk_store.specs.Images.{Content, Image, content_of, core_at, file_at, holds_source, is_covered, is_directory, is_file, is_folder, is_source, is_whole, readable, record_at, source_at}
use Rattle.smk_store.specs.Soundness.{Sound}
use Rattle.smk_store.specs.Trust.{HasVersion, Versions, content_stamp, holder, is_marked_but, is_summed, none_eased, source_stamp, stamp_now_but, sum_of, unmarked_stamp_but}
use Rattle.smk_chain.specs.Derive.{Listings, distinct, listing, sources_of}
use Rattle.smk_pick.specs.declared.settings.Settings.{Settings}
use Rattle.smk_trigger.specs.JobStates.{is_clean, is_dirty, is_open}
use Rattle.smk_trigger.specs.Reasons.{changes_from, has_bad_record, held, is_updated, once, own_reasons, same_code, same_inputs, same_params, when}
use Rattle.smk_trigger.specs.declared.reason.Reason.{Reason}
use Rattle.smk_trigger.specs.declared.reason.Reason.TheVariants.{BadRecord, Code, Forced, Inputs, Marked, New, Params, Updated, Upstream}
use Rattle.smk_trigger.specs.declared.reason.State.{State}
use Rattle.smk_trigger.specs.declared.reason.State.TheVariants.{Open}
use Rattle.smk_plan.specs.States.{IsPlan, Last, LastPlan, Plan, Then, awaited, awaits, by_reasons, files_listed, gathers_from, is_forced, is_open_now, is_read_now, is_ready, is_restored, is_to_restore, is_wanted_back, is_whole_by, made_by, maker_of, new_listings, nothing_done, reasons, stands_whole, state_of, test_some}
use Rattle.smk_laws_plan.specs.Current.{IsComplete}
use Rattle.smk_laws_plan.proofs.CurrentLists.{In, any_none, append_nil_left, append_nil_right, flat_in, map_in, or_cases}
use Rattle.smk_laws_plan.proofs.CurrentRecipes.{map_same}
use Rattle.smk_laws_plan.proofs.CurrentSame.{Agrees, OwnCalm, held_agrees, in_once_of, once_within, own_calm}
use Rattle.smk_cli_target.specs.Thrift.{IsTouchedAt, TellSums}
use Rattle.smk_cli_target.proofs.NextRun.{never_any}
use Rattle.smk_cli_target.proofs.PlanStays.{and_never, both_ways, derived_again, holds_on, none_kept}
use Rattle.smk_laws_edit.proofs.EditedChain.{IsEdited, IsPart, WasDone, calm, part_on, was_there}

none_any : {A : Type 0} (f : A → Bool) (xs : List A) → ((x : A) → In x xs → f x ≡ false) → list_any f xs ≡ false
none_any f [] h = refl
none_any f (x ∷ xs) h = λ n. h x (inl refl) n || none_any f xs (λ y i. h y (inr i)) n

-- ## Stamps

-- a recorded stamp that agreed with a source agrees with the same bytes at another time, where it has the SHA-256 that the versions say
agree_again :
    (H : Versions) (q : Path) (s : Stamp) (f g : Content) → is_summed f.bytes ≡ true → g.bytes ≡ f.bytes → H q f.time ≡ Some f.bytes →
    ((t : ℕ) → s ≡ Time t → ⊥) → HasVersion H q s → agree s (content_stamp f) ≡ true → agree s (content_stamp g) ≡ true
agree_again H q s f g small same stood timed has agreed = go s timed has (subst (λ x. agree s x ≡ true) (stamp_of f small) agreed)
  where
    stamp_of : (c : Content) → is_summed c.bytes ≡ true → content_stamp c ≡ Sum c.time (sum_of c.bytes)
    stamp_of c h = ap (λ b. if b then Sum c.time (sum_of c.bytes) else Time c.time) h

    small_too : is_summed g.bytes ≡ true
    small_too = ap is_summed same ∙ small

    go : (s : Stamp) → ((t : ℕ) → s ≡ Time t → ⊥) → HasVersion H q s → agree s (Sum f.time (sum_of f.bytes)) ≡ true → agree s (content_stamp g) ≡ true
    go (Time t) timed has h = absurd (timed t refl)
    go (Made m) timed has h = absurd (true≢false (sym h))
    go (Sum t d) timed has h = by (or_cases (eqb t f.time) (bytes_eq d.0 (sum_of f.bytes).0) h)
      where
        last : bytes_eq d.0 (sum_of g.bytes).0 ≡ true → agree (Sum t d) (content_stamp g) ≡ true
        last e = ap (agree (Sum t d)) (stamp_of g small_too) ∙ (ap (λ b. eqb t g.time || b) e ∙ or_true (eqb t g.time))
          where
            or_true : (b : Bool) → (b || true) ≡ true
            or_true true = refl
            or_true false = refl

        by : (eqb t f.time ≡ true) ⊎ (bytes_eq d.0 (sum_of f.bytes).0 ≡ true) → agree (Sum t d) (content_stamp g) ≡ true
        by (inl e) =
            let bytes : has.0 ≡ f.bytes = same_Some has.0 f.bytes (sym has.1 ∙ (ap (H q) (eqb-true t f.time e) ∙ stood)) in
            let sum : d ≡ sum_of g.bytes = sym has.2 ∙ ap sum_of (bytes ∙ sym same) in
            last (subst (λ x. bytes_eq d.0 x.0 ≡ true) sum (place_itself d.0))
        by (inr e) = last (subst (λ x. bytes_eq d.0 (sum_of x).0 ≡ true) (sym same) e)

-- what is recorded of a path isn't updated, where each recorded stamp agrees with the one now
not_updated : (recorded : List (Path × Stamp)) (q : Path) (t : Stamp) → ((s : Stamp) → In (q, s) recorded → agree s t ≡ true) → is_updated recorded (q, Some t) ≡ false
not_updated recorded q t all = none_any (λ (e : Path × Stamp). bytes_eq e.0 q && not (agree e.1 t)) recorded (λ e i. go e i (bytes_eq e.0 q) refl)
  where
    go : (e : Path × Stamp) → In e recorded → (b : Bool) → bytes_eq e.0 q ≡ b → (bytes_eq e.0 q && not (agree e.1 t)) ≡ false
    go e i false k = ap (λ b. b && not (agree e.1 t)) k
    go e i true k =
        ap (λ b. bytes_eq e.0 q && not b) (all e.1 (subst (λ (x : Path). In (x, e.1) recorded) (same_place e.0 q k) i)) ∙ and_never (bytes_eq e.0 q)

-- ## Reasons

-- where a job has no reasons of its own, it has none by other stamps that each of its records agrees with
module _ (recipe : Recipe) (ks : List Kept) (marked : List Bool) (before now : List (Path × Option Stamp)) where
  still_unchanged :
      (rs : List Record) → ((r : Record) → In r rs → (e : Path × Option Stamp) → In e now → is_updated (stamped r) e ≡ false) →
      changes_from recipe before rs ≡ [] → changes_from recipe now rs ≡ []
  still_unchanged [] steady h = refl
  still_unchanged (r ∷ rest) steady h =
      let code = append_nil_left (when (not (same_code recipe r.recipe)) Code) _ h in
      let one = append_nil_right (when (not (same_code recipe r.recipe)) Code) _ h in
      let params = append_nil_left (when (not (same_params recipe r.recipe)) Params) _ one in
      let two = append_nil_right (when (not (same_params recipe r.recipe)) Params) _ one in
      let inputs = append_nil_left (when (not (same_inputs recipe r.recipe)) Inputs) _ two in
      let none = none_kept (is_updated (stamped r)) (once now) (λ e i. steady r (inl refl) e (once_within now e i)) in
      λ n. code n ++ (params n ++ (inputs n ++ map (λ (e : Path × Option Stamp). Updated e.0) (none n)))

  still_calm :
      OwnCalm recipe ks marked before → ((r : Record) → In r (flat_map held ks) → (e : Path × Option Stamp) → In e now → is_updated (stamped r) e ≡ false) →
      own_reasons recipe ks marked now ≡ []
  still_calm c steady =
      let bad : has_bad_record ks ≡ false = λ n. c.readable n || not (c.alike n) in
      let same = still_unchanged (flat_map held ks) steady c.unchanged in
      λ n. when (c.present n) New ++ (when (c.unmarked n) Marked ++ (when (bad n) BadRecord ++ (if c.present n || bad n then [] else same n)))

-- ## The image

not_folder : (n : Option Node) (f : Content) → content_of n ≡ Some f → is_directory n ≡ false
not_folder None f h = refl
not_folder (Some Directory) f h = absurd (none-some f h)
not_folder (Some (Regular bytes time read_only)) f h = refl

module _
    (flow : Flow) (settings : Settings) (i : Image) (last : Plan) (p : Path) (done : WasDone flow settings i last p) (act : Act) (H : Versions)
    (sound : Sound act H i none_eased) (tells : TellSums i last) (x : Image) where
  abbrev y : Image
  y = record x { names = i.names; kept = i.kept; marked = i.marked; noted = i.noted }

  module _ (touched : (q : Path) → (x.node q ≡ i.node q) ⊎ IsTouchedAt i x q) (complete : IsComplete y) where
    stood : (q : Path) (f : Content) → source_at i q ≡ Some f → (is_source i q ≡ true) × (file_at i q ≡ Some f)
    stood q f h = go (is_source i q) refl h
      where
        go : (b : Bool) → is_source i q ≡ b → (if b then file_at i q else None) ≡ Some f → (is_source i q ≡ true) × (file_at i q ≡ Some f)
        go true e k = (e, k)
        go false e k = absurd (none-some f k)

    stand : (q : Path) → is_file y q ≡ is_file i q
    stand q = go (touched q)
      where
        go : (x.node q ≡ i.node q) ⊎ IsTouchedAt i x q → is_file y q ≡ is_file i q
        go (inl e) = ap (λ n. is_some (content_of n)) e
        go (inr t) = ap (λ n. is_some (content_of n)) t.stands ∙ sym (ap is_some (stood q t.source t.stood).1)

    folder : (q : Path) → is_folder y q ≡ is_folder i q
    folder q = go (touched q)
      where
        go : (x.node q ≡ i.node q) ⊎ IsTouchedAt i x q → is_folder y q ≡ is_folder i q
        go (inl e) = ap is_directory e
        go (inr t) = ap is_directory t.stands ∙ sym (not_folder (i.node q) t.source (stood q t.source t.stood).1)

    pub known : (q : Path) → is_source y q ≡ is_source i q
    known q = λ n. is_path_text q && (stand q n && not (is_covered i q))

    holds : (q : Path) → holds_source y q ≡ holds_source i q
    holds q =
        both_ways (holds_source y q) (holds_source i q) (holds_on y i done.complete (λ z h. sym (known z) ∙ h) q)
        (holds_on i y complete (λ z h. known z ∙ h) q)

    sources_are : sources_of y ≡ sources_of i
    sources_are = λ n. record { is = λ q. known q n; holds = λ q. holds q n }

    abbrev members_by : (Path → Bool) → Path → List Member
    members_by is_there d = map (λ z. record { folder = is_there z; name = below d z }) (filter (λ z. is_under z d) i.names)

    whole : (q : Path) (kind : Kind) → is_whole y q kind ≡ is_whole i q kind
    whole q Plain = stand q
    whole q FolderKind =
        λ n. folder q n && (is_some (record_at i q) && pointwise same_member (members_by (λ z. folder z n) q) (members_of (record_at i q)))

    whole_by : (q : Path) (kind : Kind) (o : Option Path) → is_whole_by y q kind o ≡ is_whole_by i q kind o
    whole_by q kind None = whole q kind
    whole_by q kind (Some d) = λ n. whole d FolderKind n && stand q n

    pub stands_same : (k : Job) (q : Path) → stands_whole y q k ≡ stands_whole i q k
    stands_same k q = whole_by q (kind_in k.recipe q) (folder_over k.recipe q)

    -- ## Stamps now

    -- a small source with the bytes that it had
    record IsRetimed (left : Path → Bool) (q : Path) : Type 0 where
      was : Content
      is : Content
      source : source_at i q ≡ Some was
      small : is_summed was.bytes ≡ true
      same : is.bytes ≡ was.bytes
      stamp_then : stamp_now_but i left q ≡ Some (content_stamp was)
      stamp : stamp_now_but y left q ≡ Some (content_stamp is)

    stamp_now : (left : Path → Bool) (q : Path) → (stamp_now_but y left q ≡ stamp_now_but i left q) ⊎ IsRetimed left q
    stamp_now left q = go (touched q)
      where
        go : (x.node q ≡ i.node q) ⊎ IsTouchedAt i x q → (stamp_now_but y left q ≡ stamp_now_but i left q) ⊎ IsRetimed left q
        go (inl e) =
            inl (λ n. if known q n then source_stamp (if known q n then content_of (e n) else None) else option_and_then (unmarked_stamp_but i left) (holder i q))
        go (inr t) =
            let s = stood q t.source t.stood in
            let again = known q ∙ s.0 in
            inr (record {
              was = t.source;
              is = record { bytes = t.source.bytes; time = t.time; read_only = t.source.read_only };
              source = t.stood;
              small = t.small;
              same = refl;
              stamp_then = λ n. if s.0 n then source_stamp (t.stood n) else option_and_then (unmarked_stamp_but i left) (holder i q);
              stamp = λ n. if again n then source_stamp (if again n then content_of (t.stands n) else None) else option_and_then (unmarked_stamp_but i left) (holder i q);
            })

    -- ## What concerns a job alone

    abbrev none_left : Path → Bool
    none_left q = false

    abbrev stamped_in : Image → (Path → Bool) → Path → Path × Option Stamp
    stamped_in image left q = (q, stamp_now_but image left q)

    abbrev kept_of : Job → List Kept
    kept_of k = map i.kept (out_paths k.recipe)

    abbrev marked_of : (Path → Bool) → Job → List Bool
    marked_of left k = map (is_marked_but i left) (out_paths k.recipe)

    abbrev own : Image → (Path → Bool) → Job → List Reason
    own image left k = own_reasons k.recipe (kept_of k) (marked_of left k) (map (stamped_in image left) (in_paths k.recipe))

    left_is : (plan : Plan) → is_restored i settings nothing_done plan ≡ none_left
    left_is plan = λ n. λ q. never_any plan.jobs n

    pub self : IsEdited flow settings i last p i
    self =
        record {
          complete = done.complete;
          sources = refl;
          derived = done.is_plan.derived;
          known = λ q. refl;
          stand = λ q. refl;
          others = λ q other. refl;
          whole = λ k o kind ik io. refl;
        }

    own_then : (k : Job) → In k last.jobs → own i none_left k ≡ []
    own_then k ik =
        subst (λ left. own i left k ≡ []) (left_is last)
        (append_nil_left (own i (is_restored i settings nothing_done last) k) _ (calm flow settings i last p done i self k ik).1)

    held_is : (k : Kept) (r : Record) → In r (held k) → k ≡ Held r
    held_is Absent r h = absurd h
    held_is Unreadable r h = absurd h
    held_is (Held z) r (inl e) = ap Held (sym e)
    held_is (Held z) r (inr h) = absurd h

    no_mark : (o : Path) → is_marked_but i none_left o ≡ false → i.marked o ≡ false
    no_mark o h = go (i.marked o) h
      where
        go : (b : Bool) → (b && true) ≡ false → b ≡ false
        go true e = e
        go false e = refl

    module _ (k : Job) (ik : In k last.jobs) where
      calm_then : OwnCalm k.recipe (kept_of k) (marked_of none_left k) (map (stamped_in i none_left) (in_paths k.recipe))
      calm_then = own_calm k.recipe (kept_of k) (marked_of none_left k) (map (stamped_in i none_left) (in_paths k.recipe)) (own_then k ik)

      module _ (r : Record) (ir : In r (flat_map held (kept_of k))) where
        agrees_then : Agrees k.recipe (kept_of k) (marked_of none_left k) (map (stamped_in i none_left) (in_paths k.recipe)) r
        agrees_then = held_agrees k.recipe (kept_of k) (marked_of none_left k) (map (stamped_in i none_left) (in_paths k.recipe)) calm_then r ir

        at_output : (o : Path) × In o (out_paths k.recipe) × (i.kept o ≡ Held r)
        at_output =
            let a = flat_in held (kept_of k) r ir in
            let b = map_in i.kept (out_paths k.recipe) a.0 a.1 in (b.0, b.1, sym b.2 ∙ held_is a.0 r a.2)

        recorded : core_at i at_output.0 ≡ Some (core r)
        recorded = ap (λ z. option_map core (readable z)) at_output.2

        unmarked : i.marked at_output.0 ≡ false
        unmarked =
            no_mark at_output.0
            (any_none (λ b. b) (marked_of none_left k) (is_marked_but i none_left at_output.0) calm_then.unmarked
            (in_mapped (is_marked_but i none_left) (out_paths k.recipe) at_output.0 at_output.1))
          where
            in_mapped : {A B : Type 0} (f : A → B) (xs : List A) (a : A) → In a xs → In (f a) (map f xs)
            in_mapped f [] a h = absurd h
            in_mapped f (z ∷ xs) a (inl e) = inl (ap f e)
            in_mapped f (z ∷ xs) a (inr h) = inr (in_mapped f xs a h)

        steady : (q : Path) (s t : Stamp) → In q (in_paths k.recipe) → stamp_now_but i none_left q ≡ Some t → In (q, s) (stamped r) → agree s t ≡ true
        steady q s t iq is js =
            agrees_then.steady q s t
            (subst (λ z. In (q, z) (once (map (stamped_in i none_left) (in_paths k.recipe)))) is (in_once_of (stamp_now_but i none_left) (in_paths k.recipe) q iq)) js

        same_now : (q : Path) → In q (in_paths k.recipe) → (o : Option Stamp) → stamp_now_but i none_left q ≡ o → is_updated (stamped r) (q, o) ≡ false
        same_now q iq None is = refl
        same_now q iq (Some t) is = not_updated (stamped r) q t (λ s js. steady q s t iq is js)

        -- no input of the record is updated
        still : (q : Path) → In q (in_paths k.recipe) → is_updated (stamped r) (q, stamp_now_but y none_left q) ≡ false
        still q iq = go (stamp_now none_left q)
          where
            go : (stamp_now_but y none_left q ≡ stamp_now_but i none_left q) ⊎ IsRetimed none_left q → is_updated (stamped r) (q, stamp_now_but y none_left q) ≡ false
            go (inl e) = same_now q iq (stamp_now_but y none_left q) (sym e)
            go (inr t) =
                subst (λ z. is_updated (stamped r) (q, z) ≡ false) (sym t.stamp)
                (not_updated (stamped r) q (content_stamp t.is) (λ s js.
                agree_again H q s t.was t.is t.small t.same (sound.has_sources q t.was t.source)
                (λ u e. true≢false (sym t.small ∙ tells k at_output.0 (core r) q u t.was ik at_output.1 recorded (subst (λ z. In (q, z) (stamped r)) e js) t.source))
                (sound.has_recorded at_output.0 (core r) q s (recorded, inl unmarked) js) (steady q s (content_stamp t.was) iq t.stamp_then js)))

      own_now : own y none_left k ≡ []
      own_now =
          still_calm k.recipe (kept_of k) (marked_of none_left k) (map (stamped_in i none_left) (in_paths k.recipe)) (map (stamped_in y none_left) (in_paths k.recipe)) calm_then
          (λ r ir e ie.
          let q = map_in (stamped_in y none_left) (in_paths k.recipe) e ie in subst (λ z. is_updated (stamped r) z ≡ false) (sym q.2) (still r ir q.0 q.1))

    -- ## A plan of the chain

    module _ (plan : Plan) (is : IsPlan flow i settings nothing_done plan) (part : IsPart flow settings i last p done i self plan.lists) where
      ready_same : (q : Path) → is_ready y settings nothing_done plan q ≡ is_ready i settings nothing_done plan q
      ready_same q = λ n. test_some (λ (e : Job × State). is_clean e.1 && stands_same e.0 q n) (maker_of plan q)

      open_same : (k : Job) → is_open_now y settings nothing_done plan k ≡ is_open_now i settings nothing_done plan k
      open_same k =
          λ n.
          list_any (λ d. not (is_none (maker_of plan d) || ready_same d n)) (awaits plan k)
          || (list_any (λ d. ready_same d n && is_none (listing plan.lists d)) (gathers_from k) || list_any (made_by plan is_open) (in_paths k.recipe))

      restore_same : (k : Job) → is_to_restore y settings nothing_done plan k ≡ is_to_restore i settings nothing_done plan k
      restore_same k =
          λ n. list_any (λ o. not (whole o (kind_in k.recipe o) n) && is_wanted_back i settings nothing_done plan k o) (out_paths k.recipe)

      own_same : (k : Job) → In k last.jobs → own y (is_restored i settings nothing_done plan) k ≡ own i (is_restored i settings nothing_done plan) k
      own_same k ik = subst (λ left. own y left k ≡ own i left k) (sym (left_is plan)) (own_now k ik ∙ sym (own_then k ik))

      reasons_same : (k : Job) → In k last.jobs → reasons y settings nothing_done plan k ≡ reasons i settings nothing_done plan k
      reasons_same k ik =
          λ n.
          own_same k ik n
          ++ (map Upstream (filter (made_by plan is_dirty) (distinct bytes_eq (in_paths k.recipe))) ++ when (is_forced i settings nothing_done plan k) Forced)

      state_same : (k : Job) → In k plan.jobs → state_of y settings nothing_done plan k ≡ state_of i settings nothing_done plan k
      state_same k ik = go (is_open_now i settings nothing_done plan k) refl
        where
          go : (b : Bool) → is_open_now i settings nothing_done plan k ≡ b → state_of y settings nothing_done plan k ≡ state_of i settings nothing_done plan k
          go true e =
              ap (λ b. if b then Open else by_reasons (reasons y settings nothing_done plan k) (is_to_restore y settings nothing_done plan k && not (is_read_now y settings nothing_done plan k)))
              (open_same k ∙ e)
              ∙ sym (ap (λ b. if b then Open else by_reasons (reasons i settings nothing_done plan k) (is_to_restore i settings nothing_done plan k && not (is_read_now i settings nothing_done plan k))) e)
          go false e =
              let why = reasons_same k (was_there flow settings i last p done i self plan is part k ik e) in
              λ n. if open_same k n then Open else by_reasons (why n) (restore_same k n && not (is_read_now i settings nothing_done plan k))

      pub plan_again : IsPlan flow y settings nothing_done plan
      plan_again =
          record {
            derived = derived_again flow plan.lists settings.targets plan.jobs i (record x { names = i.names }) done.complete sources_are is.derived;
            states = is.states ∙ map_same (state_of i settings nothing_done plan) (state_of y settings nothing_done plan) plan.jobs (λ k ik. sym (state_same k ik));
          }

      pub new_again : new_listings y settings nothing_done plan ≡ new_listings i settings nothing_done plan
      new_again =
          λ n.
          map (λ d. record { folder = d; files = files_listed i d })
          (filter (λ d. ready_same d n && is_none (listing plan.lists d)) (awaited i settings nothing_done plan))

    -- along the chain
    pub chain_touched :
        (L : Listings) (plan : Plan) → LastPlan flow i settings nothing_done L plan → IsPart flow settings i last p done i self L → LastPlan flow y settings nothing_done L plan
    chain_touched _ _ (Last plan is none) part = Last plan (plan_again plan is part) (new_again plan is part ∙ none)
    chain_touched _ _ (Then plan end is more rest) part =
        Then plan end (plan_again plan is part) (λ none. more (sym (new_again plan is part) ∙ none))
        (subst (λ N. LastPlan flow y settings nothing_done (plan.lists ++ N) end) (sym (new_again plan is part))
        (chain_touched (plan.lists ++ new_listings i settings nothing_done plan) end rest (part_on flow settings i last p done i self plan is part)))
