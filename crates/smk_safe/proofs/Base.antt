-- What the exit shows of a job that rests or is done, where so are those that make what it reads.
use Rattle.std.proofs.Common.{◌≡◌, ◌⊎◌, inl, inr, ℕ, suc, Bool, true, false, ◌&&◌, not, List, [], ◌∷◌, map, filter, zip, refl, ap, sym, subst, ◌∙◌, bytes_eq, Option, Some, arith, true≢false}
use Rattle.std.specs.Prelude.{is_some, if◌then◌else◌}
use Rattle.std.specs.List.{list_any}
use Rattle.std.specs.Option.{option_and_then}
use Rattle.std.proofs.lemmas.Bool.{cases_Bool}
use Rattle.smk_laws_protocol.proofs.Chains.{map_same}
use Rattle.smk_base.specs.Path.{overlaps}
use Rattle.smk_base.proofs.Apart.{path_outside}
use Rattle.smk_base.proofs.Under.{at_itself}
use Rattle.smk_world.specs.declared.event.Event.{Event}
use Rattle.smk_world.specs.declared.recipe.Kind.TheVariants.{Plain}
use Rattle.smk_world.specs.World.{World, run, in_paths, out_paths}
use Rattle.smk_world.specs.Trees.{Path, Each, IsIn, among, folder_over, kind_in}
use Rattle.smk_record.specs.declared.record.Stamp.{Stamp}
use Rattle.smk_record.specs.declared.record.Stamp.TheVariants.{Made}
use Rattle.smk_record.specs.Records.{core, record_of}
use Rattle.smk_flow.specs.declared.job.Job.{Job}
use Rattle.smk_flow.specs.Flows.{Flow}
use Rattle.smk_store.specs.Images.{Content, Image, content_of, is_source, is_whole, source_at}
use Rattle.smk_store.specs.Soundness.{Outside}
use Rattle.smk_store.specs.Trust.{Versions, content_stamp, holder, is_marked_but, source_stamp, stamp_now_but, unmarked_stamp_but}
use Rattle.smk_chain.specs.Derive.{distinct}
use Rattle.smk_laws_protocol.specs.Protocol.{now}
use Rattle.smk_laws_protocol.proofs.Basics.{each_in, each_of, none_of, some_of}
use Rattle.smk_trigger.specs.declared.reason.Reason.{Reason}
use Rattle.smk_trigger.specs.declared.reason.Reason.TheVariants.{Upstream}
use Rattle.smk_trigger.specs.declared.reason.State.{State}
use Rattle.smk_trigger.specs.declared.reason.State.TheVariants.{Open, Dirty, Restore, Clean}
use Rattle.smk_trigger.specs.JobStates.{is_dirty, is_to_run}
use Rattle.smk_trigger.specs.Reasons.{own_reasons}
use Rattle.smk_pick.specs.declared.settings.Settings.{Settings}
use Rattle.smk_plan.specs.States.{Plan, is_open_now, is_read_now, is_restored, is_to_restore, is_wanted_back, made_by, makes, nothing_done, reasons, state_of, test_some}
use Rattle.smk_laws_history.proofs.CurrentEased.{none_restored}
use Rattle.smk_laws_plan.proofs.CurrentLists.{append_nil_left, append_nil_right, filter_nil, in_left, map_nil, or_first, zip_first}
use Rattle.smk_laws_plan.proofs.CurrentPaths.{among_in, in_among}
use Rattle.smk_laws_plan.proofs.PlanOne.{pair_first}
use Rattle.smk_run.specs.Duties.{serials}
use Rattle.smk_run.specs.Stamps.{Serials}
use Rattle.smk_run.specs.Turns.{Turn, found, is_closed, is_done}
use Rattle.smk_safe.specs.Leaving.{owned}
use Rattle.smk_safe.specs.Planned.{AreTurnsOf, IsPlain, KeepsSerial, TellsSerials}
use Rattle.smk_safe.proofs.Coming.{same_stamps}
use Rattle.smk_safe.proofs.Images.{source_of_both}
use Rattle.smk_safe.proofs.Off.{NoneMakes}
use Rattle.smk_safe.proofs.Planned as by_plan
use Rattle.smk_safe.proofs.Dues.{due_tells, turns_of}
use Rattle.smk_safe.specs.Exit.{IsDueRun}
use Rattle.smk_safe.proofs.Calm.{HoldsOne, own_none}
use Rattle.smk_safe.proofs.DoneAtExit as is_done_so
use Rattle.smk_safe.proofs.Left as at_exit

each_mapped : {A B : Type 0} (P : B → Type 0) (f : A → B) (xs : List A) → ((x : A) → IsIn xs x → P (f x)) → Each P (map f xs)
each_mapped P f [] h = tt
each_mapped P f (x ∷ xs) h = (h x (inl refl), each_mapped P f xs (λ y i. h y (inr i)))

-- ## The exit

module _ (o : Outside) (entry : World) (H : Versions) (flow : Flow) (settings : Settings) (plan : Plan) (ts : List Turn) (es : List Event) (ran : IsDueRun o entry H flow settings plan ts es)
    (closed : Each (λ (t : Turn). is_closed t.course ≡ true) ts) (left_now : Path → Bool) (left_none : (p : Path) → left_now p ≡ false) where
  abbrev before : Image
  before = now o entry

  abbrev after_run : Image
  after_run = now o (run entry es)

  abbrev made : Serials
  made = serials ran.makers (Some (suc ran.top)) ran.duties

  abbrev pub st : Job → State
  st j = state_of before settings nothing_done plan j

  abbrev left_then : Path → Bool
  left_then p = is_restored before settings nothing_done plan p

  pub tells : TellsSerials before plan ts made
  tells = due_tells o entry flow settings plan ran.makers ran.duties ran.cores ran.top ts ran.sound.formed ran.planned ran.plain ran.meant ran.told ran.in_order

  turns_then : AreTurnsOf before ran.top (zip plan.jobs plan.states) ts
  turns_then = turns_of before ran.cores ran.top ran.duties plan.jobs plan.states ran.duties [] ran.top ts refl (omega arith) ran.meant ran.in_order

  turns_as : AreTurnsOf before ran.top (zip plan.jobs (map st plan.jobs)) ts
  turns_as = subst (λ ss. AreTurnsOf before ran.top (zip plan.jobs ss) ts) ran.planned.states turns_then

  of_plan : Each (λ (t : Turn). IsIn plan.jobs t.job × (is_to_run (st t.job) ≡ true)) ts
  of_plan = by_plan.all_planned o entry flow settings plan made ran.top ts ran.sound.formed ran.is_top ran.planned ran.plain ran.fit tells plan.jobs ts ran.top (λ j i. i) turns_as

  -- where it is to run, it has its turn, and is done
  abbrev pub HasDone : Job → Type 0
  HasDone k = is_to_run (st k) ≡ true → (t : Turn) × IsIn ts t × (t.job ≡ k) × (is_done t.course ≡ true)

  keeps_from : (js : List Job) (us : List Turn) (greatest : ℕ) → AreTurnsOf before greatest (zip js (map st js)) us → (t : Turn) → IsIn us t → is_dirty (st t.job) ≡ false → KeepsSerial before t
  keeps_from js [] greatest h t i calm = absurd i
  keeps_from [] (u ∷ us) greatest h t i calm = absurd h
  keeps_from (j ∷ js) (u ∷ us) greatest h t i calm = step (st j) refl h (λ k. keeps_from js (u ∷ us) greatest k t i calm) (λ next k l. keeps_from js us next k t l calm)
    where
      step : (s : State) → st j ≡ s → AreTurnsOf before greatest ((j, s) ∷ zip js (map st js)) (u ∷ us) → (AreTurnsOf before greatest (zip js (map st js)) (u ∷ us) → KeepsSerial before t)
          → ((next : ℕ) → AreTurnsOf before next (zip js (map st js)) us → IsIn us t → KeepsSerial before t) → KeepsSerial before t
      step Open e k skip take = skip k
      step Clean e k skip take = skip k
      step (Dirty rs) e (same, next, later) skip take = elim i [
        | inl d ↦ absurd (true≢false (sym (ap is_dirty e) ∙ sym (ap (λ z. is_dirty (st z)) (ap (λ (x : Turn). x.job) d ∙ same)) ∙ calm))
        | inr l ↦ take (suc greatest) later l
      ]
      step Restore e (same, keeps, later) skip take = elim i [
        | inl d ↦ subst (KeepsSerial before) (sym d) keeps
        | inr l ↦ take greatest later l
      ]

  -- ## Makers

  abbrev pub Makes : Path → Job → Type 0
  Makes q k = IsIn plan.jobs k × (makes k q ≡ true)

  pub maker_cases : (q : Path) → ((k : Job) × Makes q k) ⊎ ((k : Job) → IsIn plan.jobs k → makes k q ≡ false)
  maker_cases q = elim (cases_Bool (list_any (λ (k : Job). makes k q) plan.jobs)) [
    | inl e ↦ let x = some_of (λ (k : Job). makes k q) plan.jobs e in inl (x.0, (x.1, x.2))
    | inr e ↦ inr (λ k i. none_of (λ (x : Job). makes x q) plan.jobs k e i)
  ]

  pub own_makes : (k : Job) (q : Path) → IsIn (out_paths k.recipe) q → makes k q ≡ true
  own_makes k q i = or_first (among (out_paths k.recipe) q) (is_some (folder_over k.recipe q)) (in_among (out_paths k.recipe) q i)

  pub out_of : (k : Job) (q : Path) → Makes q k → IsIn (out_paths k.recipe) q
  out_of k q h = by_plan.plain_makes k q (each_in IsPlain plan.jobs k ran.plain h.0) h.1

  one_maker : (k l : Job) (q : Path) → Makes q k → Makes q l → k ≡ l
  one_maker k l q h g =
      pair_first (k, st k) (l, st l) (sym (by_plan.maker_is o entry flow settings plan made ran.top ts ran.sound.formed ran.is_top ran.planned ran.plain ran.fit tells k q h.0 h.1) ∙ by_plan.maker_is o entry flow settings plan made ran.top ts ran.sound.formed ran.is_top ran.planned ran.plain ran.fit tells l q g.0 g.1)

  -- ## What a job that rests keeps

  module _ (j : Job) (p : Path) (ij : IsIn plan.jobs j) (rests : is_to_run (st j) ≡ false) (ip : IsIn (out_paths j.recipe) p) where
    none_makes : NoneMakes p ts
    none_makes =
        each_of (λ (t : Turn). among (out_paths t.job.recipe) p ≡ false) ts (λ t i. elim (cases_Bool (among (out_paths t.job.recipe) p)) [
          | inr e ↦ e
          | inl e ↦
              let here = each_in (λ (u : Turn). IsIn plan.jobs u.job × (is_to_run (st u.job) ≡ true)) ts t of_plan i in
              absurd (true≢false (sym here.1 ∙ ap (λ z. is_to_run (st z)) (one_maker t.job j p (here.0, own_makes t.job p (among_in (out_paths t.job.recipe) p e)) (ij, own_makes j p ip)) ∙ rests))
        ])

    rest_kept : after_run.kept p ≡ before.kept p
    rest_kept = at_exit.kept_stays o entry H flow settings plan ts es ran p none_makes

    rest_marked : after_run.marked p ≡ before.marked p
    rest_marked = at_exit.marked_stays o entry H flow settings plan ts es ran p none_makes

    rest_whole : is_whole after_run p Plain ≡ is_whole before p Plain
    rest_whole =
        let path = by_plan.user_path o entry flow settings plan made ran.top ts ran.sound.formed ran.is_top ran.planned ran.plain ran.fit tells j p ij (in_left p (out_paths j.recipe) j.logs ip) in
        let node = at_exit.node_stays o entry H flow settings plan ts es ran p (path_outside p path) (at_itself p) (by_plan.clear_of o entry flow settings plan made ran.top ts ran.sound.formed ran.is_top ran.planned ran.plain ran.fit tells of_plan j p ij rests ip) in
        λ n. is_some (content_of (node n))

  -- ## Stamps of inputs

  abbrev paired : (Path → Option Stamp) → Path → Path × Option Stamp
  paired f q = (q, f q)

  abbrev own_then : Job → List Reason
  own_then j = own_reasons j.recipe (map before.kept (out_paths j.recipe)) (map (is_marked_but before left_then) (out_paths j.recipe)) (map (paired (λ q. stamp_now_but before left_then q)) (in_paths j.recipe))

  stamp_source : (image : Image) (left_out : Path → Bool) (q : Path) (c : Content) → is_source image q ≡ true → source_at image q ≡ Some c → stamp_now_but image left_out q ≡ Some (content_stamp c)
  stamp_source image left_out q c is at =
      ap (λ b. if b then source_stamp (source_at image q) else option_and_then (unmarked_stamp_but image left_out) (holder image q)) is ∙ ap source_stamp at

  -- a product of a job that isn't Dirty has the serial that it had
  product_now : (k : Job) (q : Path) → IsIn plan.jobs k → is_dirty (st k) ≡ false → IsIn (out_paths k.recipe) q → (h : by_plan.HasRecord o entry flow settings plan made ran.top ts ran.sound.formed ran.is_top ran.planned ran.plain ran.fit tells k q) → HasDone k
      → stamp_now_but after_run left_now q ≡ Some (Made h.r.made)
  product_now k q ik calm iq h has = elim (cases_Bool (is_to_run (st k))) [
    | inl run ↦
        let t = has run in
        let in_t : IsIn (out_paths (t.0).job.recipe) q = subst (λ (z : Job). IsIn (out_paths z.recipe) q) (sym t.2) iq in
        let l = is_done_so.left_by o entry H flow settings plan ts es ran closed t.0 q t.1 t.3 in_t in
        let keeps = keeps_from plan.jobs ts ran.top turns_as t.0 t.1 (ap (λ z. is_dirty (st z)) t.2 ∙ calm) in
        is_done_so.stamp_held after_run left_now q (record_of q (t.0).made (t.0).job.recipe (found (t.0).looked) []) l.kept l.unmarked
        ∙ ap (λ n. Some (Made n)) (keeps q (core h.r) in_t (by_plan.core_is o entry flow settings plan made ran.top ts ran.sound.formed ran.is_top ran.planned ran.plain ran.fit tells k q h))
    | inr rests ↦
        is_done_so.stamp_held after_run left_now q h.r (rest_kept k q ik rests iq ∙ is_done_so.held_read (before.kept q) h.r h.reads) (rest_marked k q ik rests iq ∙ h.unmarked)
  ]

  input_same : (j : Job) (q : Path) → IsIn plan.jobs j → is_dirty (st j) ≡ false → ((k : Job) → Makes q k → HasDone k) → IsIn (in_paths j.recipe) q → stamp_now_but after_run left_now q ≡ stamp_now_but before left_then q
  input_same j q ij calm has iq = elim (maker_cases q) [
    | inr none ↦
        let both = source_of_both before after_run q (at_exit.sources_stay o entry H flow settings plan ts es ran closed) (by_plan.source_read o entry flow settings plan made ran.top ts ran.sound.formed ran.is_top ran.planned ran.plain ran.fit tells j q ij iq none) in
        stamp_source after_run left_now q both.second both.is_second both.at_second ∙ ap Some (same_stamps both.second both.first both.bytes both.time)
        ∙ sym (stamp_source before left_then q both.first (by_plan.source_read o entry flow settings plan made ran.top ts ran.sound.formed ran.is_top ran.planned ran.plain ran.fit tells j q ij iq none) both.at_first)
    | inl h ↦
        let k = h.0 in
        let out = out_of k q h.1 in
        let upstream = append_nil_left (map Upstream (filter (made_by plan is_dirty) (distinct bytes_eq (in_paths j.recipe)))) _ (append_nil_right (own_then j) _ (by_plan.none_reasons o entry flow settings plan made ran.top ts ran.sound.formed ran.is_top ran.planned ran.plain ran.fit tells j ij calm)) in
        let not_dirty : made_by plan is_dirty q ≡ false =
        filter_nil (made_by plan is_dirty) (distinct bytes_eq (in_paths j.recipe)) q (map_nil Upstream (filter (made_by plan is_dirty) (distinct bytes_eq (in_paths j.recipe))) upstream) (by_plan.once_paths (in_paths j.recipe) q iq) in
        let calm_k : is_dirty (st k) ≡ false = sym (ap (test_some (λ (e : Job × State). is_dirty e.1)) (by_plan.maker_is o entry flow settings plan made ran.top ts ran.sound.formed ran.is_top ran.planned ran.plain ran.fit tells k q h.1.0 h.1.1)) ∙ not_dirty in
        let record_then = by_plan.has_record o entry flow settings plan made ran.top ts ran.sound.formed ran.is_top ran.planned ran.plain ran.fit tells k q h.1.0 calm_k out in
        product_now k q h.1.0 calm_k out record_then (has k h.1) ∙ sym (by_plan.stamp_made o entry flow settings plan made ran.top ts ran.sound.formed ran.is_top ran.planned ran.plain ran.fit tells k q record_then)
  ]

  -- ## Reasons of its own

  left_same : (p : Path) → left_now p ≡ left_then p
  left_same p = left_none p ∙ sym (none_restored before settings nothing_done plan refl p)

  abbrev pub own_of : Job → List Reason
  own_of j =
      own_reasons j.recipe (map after_run.kept (out_paths j.recipe)) (map (is_marked_but after_run left_now) (out_paths j.recipe))
      (map (λ q. (q, stamp_now_but after_run left_now q)) (in_paths j.recipe))

  -- so it is with all that make what the job reads
  abbrev pub HaveDone : Job → Type 0
  HaveDone j = (q : Path) → IsIn (in_paths j.recipe) q → (k : Job) → Makes q k → HasDone k

  own_rests : (j : Job) → IsIn plan.jobs j → HaveDone j → is_to_run (st j) ≡ false → own_of j ≡ []
  own_rests j ij have rests =
      let calm = by_plan.run_or_rest (st j) rests in
      let kept = map_same after_run.kept before.kept (out_paths j.recipe) (λ p ip. rest_kept j p ij rests ip) in
      let marked = map_same (is_marked_but after_run left_now) (is_marked_but before left_then) (out_paths j.recipe) (λ p ip. λ n. rest_marked j p ij rests ip n && not (left_same p n)) in
      let stamps = map_same (paired (λ q. stamp_now_but after_run left_now q)) (paired (λ q. stamp_now_but before left_then q)) (in_paths j.recipe) (λ q iq. λ n. paired (λ x. input_same j q ij calm (have q iq) iq n) q) in
      (λ n. own_reasons j.recipe (kept n) (marked n) (stamps n)) ∙ append_nil_left (own_then j) _ (by_plan.none_reasons o entry flow settings plan made ran.top ts ran.sound.formed ran.is_top ran.planned ran.plain ran.fit tells j ij calm)

  stamp_found : (t : Turn) (q : Path) (s : Stamp) → IsIn ts t → is_done t.course ≡ true → HaveDone t.job → IsIn (zip (in_paths t.job.recipe) (found t.looked)) (q, s) → stamp_now_but after_run left_now q ≡ Some s
  stamp_found t q s it done have i =
      let j = t.job in
      let ij = at_exit.job_in o entry H flow settings plan ts es ran t it in
      let iq = zip_first (in_paths j.recipe) (found t.looked) q s i in
      elim (maker_cases q) [
        | inr none ↦
            let is = by_plan.source_read o entry flow settings plan made ran.top ts ran.sound.formed ran.is_top ran.planned ran.plain ran.fit tells j q ij iq none in
            is_done_so.told_source o entry H flow settings plan ts es ran closed left_now t q s it done i (tells.source q (j, ij, iq) (by_plan.no_maker o entry flow settings plan ran.sound.formed ran.planned ran.plain q none)) is
            (each_of (λ (u : Turn). list_any (overlaps q) (owned u) ≡ false) ts (λ u iu. by_plan.no_source o entry flow settings plan made ran.top ts ran.sound.formed ran.is_top ran.planned ran.plain ran.fit tells u.job q (at_exit.job_in o entry H flow settings plan ts es ran u iu) is))
        | inl h ↦
            let k = h.0 in
            let out = out_of k q h.1 in
            elim (cases_Bool (is_to_run (st k))) [
              | inl run ↦
                  let u = have q iq k h.1 run in
                  let in_u : IsIn (out_paths (u.0).job.recipe) q = subst (λ (z : Job). IsIn (out_paths z.recipe) q) (sym u.2) out in
                  let l = is_done_so.left_by o entry H flow settings plan ts es ran closed u.0 q u.1 u.3 in_u in
                  is_done_so.stamp_held after_run left_now q (record_of q (u.0).made (u.0).job.recipe (found (u.0).looked) []) l.kept l.unmarked
                  ∙ sym (ap Some (is_done_so.told_product o entry H flow settings plan ts es ran closed t q s (u.0).made it done i (tells.runs u.0 q (j, ij, iq) u.1 in_u)))
              | inr rests ↦
                  let calm = by_plan.run_or_rest (st k) rests in
                  let record_then = by_plan.has_record o entry flow settings plan made ran.top ts ran.sound.formed ran.is_top ran.planned ran.plain ran.fit tells k q h.1.0 calm out in
                  product_now k q h.1.0 calm out record_then (have q iq k h.1)
                  ∙ sym (ap Some (is_done_so.told_product o entry H flow settings plan ts es ran closed t q s record_then.r.made it done i
                  (tells.rests q (k, st k) (core record_then.r) (j, ij, iq) (by_plan.maker_is o entry flow settings plan made ran.top ts ran.sound.formed ran.is_top ran.planned ran.plain ran.fit tells k q h.1.0 h.1.1) rests (by_plan.core_is o entry flow settings plan made ran.top ts ran.sound.formed ran.is_top ran.planned ran.plain ran.fit tells k q record_then))))
            ]
      ]

  own_runs : (t : Turn) → IsIn ts t → is_done t.course ≡ true → HaveDone t.job → own_of t.job ≡ []
  own_runs t it done have =
      own_none t.made t.job.recipe (found t.looked) (λ q. stamp_now_but after_run left_now q) (λ q s i. stamp_found t q s it done have i)
      (map after_run.kept (out_paths t.job.recipe)) (map (is_marked_but after_run left_now) (out_paths t.job.recipe))
      (each_mapped (HoldsOne t.made t.job.recipe (found t.looked)) after_run.kept (out_paths t.job.recipe) (λ p ip.
      (record_of p t.made t.job.recipe (found t.looked) [], (is_done_so.left_by o entry H flow settings plan ts es ran closed t p it done ip).kept, record { serial = refl; of_recipe = refl; with_stamps = refl; in_format = refl })))
      (each_mapped (λ b. b ≡ false) (is_marked_but after_run left_now) (out_paths t.job.recipe) (λ p ip. ap (λ b. b && not (left_now p)) (is_done_so.left_by o entry H flow settings plan ts es ran closed t p it done ip).unmarked))

  -- where this is so of the job and of those that make what it reads, it has no reasons of its own
  pub own_clean : (j : Job) → IsIn plan.jobs j → HasDone j → HaveDone j → own_of j ≡ []
  own_clean j ij has have = elim (cases_Bool (is_to_run (st j))) [
    | inl run ↦ let t = has run in subst (λ (z : Job). own_of z ≡ []) t.2 (own_runs t.0 t.1 t.3 (subst HaveDone (sym t.2) have))
    | inr rests ↦ own_rests j ij have rests
  ]

  -- ## What is whole

  not_wanted : (w v a b : Bool) → v ≡ w → (b ≡ true → a ≡ true) → (not w && a) ≡ false → (not v && b) ≡ false
  not_wanted true v a b e h k = λ n. not (e n) && b
  not_wanted false v a true e h k = absurd (true≢false (sym (h refl) ∙ k))
  not_wanted false v a false e h k = λ n. not (e n) && false

  pub kind_is : (j : Job) (p : Path) → IsIn plan.jobs j → kind_in j.recipe p ≡ Plain
  kind_is j p ij = by_plan.plain_kind j.recipe p (by_plan.no_folders j (each_in IsPlain plan.jobs j ran.plain ij))

  -- at the entry an output of a job that rests is whole or isn't wanted back
  whole_then : (j : Job) (p : Path) → IsIn plan.jobs j → is_to_run (st j) ≡ false → IsIn (out_paths j.recipe) p
      → (not (is_whole before p (kind_in j.recipe p)) && is_wanted_back before settings nothing_done plan j p) ≡ false
  whole_then j p ij rests ip =
      let quiet =
      by_plan.table_rests (is_open_now before settings nothing_done plan j) (reasons before settings nothing_done plan j) (is_to_restore before settings nothing_done plan j && not (is_read_now before settings nothing_done plan j))
      (by_plan.shut_at o entry flow settings plan made ran.top ts ran.sound.formed ran.is_top ran.planned ran.plain ran.fit tells j ij) rests in
      none_of (λ x. not (is_whole before x (kind_in j.recipe x)) && is_wanted_back before settings nothing_done plan j x) (out_paths j.recipe) p
      (by_plan.and_not (is_to_restore before settings nothing_done plan j) (is_read_now before settings nothing_done plan j) (by_plan.none_now plan.jobs) quiet) ip

  -- an output is whole then, or it isn't wanted back
  pub not_restored : (j : Job) (p : Path) (wanted : Bool) → IsIn plan.jobs j → HasDone j → IsIn (out_paths j.recipe) p → (wanted ≡ true → is_wanted_back before settings nothing_done plan j p ≡ true)
      → (not (is_whole after_run p (kind_in j.recipe p)) && wanted) ≡ false
  not_restored j p wanted ij has ip back = elim (cases_Bool (is_to_run (st j))) [
    | inl run ↦
        let t = has run in
        let whole = (is_done_so.left_by o entry H flow settings plan ts es ran closed t.0 p t.1 t.3 (subst (λ (z : Job). IsIn (out_paths z.recipe) p) (sym t.2) ip)).whole in
        ap (λ b. not b && wanted) (ap (is_whole after_run p) (kind_is j p ij) ∙ whole)
    | inr rests ↦
        not_wanted (is_whole before p (kind_in j.recipe p)) (is_whole after_run p (kind_in j.recipe p)) (is_wanted_back before settings nothing_done plan j p) wanted
        (ap (is_whole after_run p) (kind_is j p ij) ∙ rest_whole j p ij rests ip ∙ sym (ap (is_whole before p) (kind_is j p ij))) back (whole_then j p ij rests ip)
  ]

  -- a target that a job makes is whole
  pub target_whole : (k : Job) (p : Path) → IsIn plan.jobs k → HasDone k → IsIn settings.targets p → IsIn (out_paths k.recipe) p → is_whole after_run p Plain ≡ true
  target_whole k p ik has target ip = elim (cases_Bool (is_to_run (st k))) [
    | inl run ↦
        let t = has run in
        (is_done_so.left_by o entry H flow settings plan ts es ran closed t.0 p t.1 t.3 (subst (λ (z : Job). IsIn (out_paths z.recipe) p) (sym t.2) ip)).whole
    | inr rests ↦
        rest_whole k p ik rests ip ∙ sym (ap (is_whole before p) (kind_is k p ik))
        ∙ by_plan.not_and (is_whole before p (kind_in k.recipe p)) (is_wanted_back before settings nothing_done plan k p) (or_first (among settings.targets p) _ (in_among settings.targets p target))
        (whole_then k p ik rests ip)
  ]
