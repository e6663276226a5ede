-- How the calls that close a job go on, carried out or cut short: where one fails the run stops, and else it comes to where this says.
use Rattle.std.proofs.Common.{◌≡◌, ◌⊎◌, inl, inr, ℕ, Bool, true, false, List, [], ◌∷◌, ◌++◌, map, filter, refl, sym, ap, subst, ◌∙◌, bytes_eq, Some, Ok}
use Rattle.std.specs.Prelude.{IsTrue, if◌then◌else◌, option_map}
use Rattle.std.proofs.lemmas.Bool.{cases_Bool}
use Rattle.smk_base.specs.Path.{is_under, is_at_or_under, own_folder}
use Rattle.smk_base.specs.Place.{mark_place, record_place}
use Rattle.smk_base.proofs.Places.{same_place}
use Rattle.smk_base.proofs.Apart.{outside-own, same_record}
use Rattle.smk_world.specs.declared.event.Call.{Call}
use Rattle.smk_world.specs.declared.event.Call.TheVariants.{Written, Removed, MadeParents, Settled}
use Rattle.smk_world.specs.declared.event.Event.{Event}
use Rattle.smk_world.specs.declared.event.Node.TheVariants.{Regular}
use Rattle.smk_world.specs.World.{World, after, reading}
use Rattle.smk_world.specs.Calls.{failed}
use Rattle.smk_world.specs.Runs.{Follows}
use Rattle.smk_world.specs.Requests.{Request, request, Carries}
use Rattle.smk_world.specs.Requests.Request.{MakeParents, Write, Remove, Settle}
use Rattle.smk_world.specs.Trees.{Path, IsIn, Each, among, is_path_text, outs_of}
use Rattle.smk_record.specs.declared.record.Member.{Member}
use Rattle.smk_record.specs.Records.{core, members_of}
use Rattle.smk_record.specs.Records as records
use Rattle.smk_record.specs.Spelling.{spelling}
use Rattle.smk_store.specs.declared.store.Kept.TheVariants.{Absent, Held}
use Rattle.smk_store.specs.Images.{kept_by, readable, members_under}
use Rattle.smk_store.specs.Soundness.{Outside}
use Rattle.smk_store.specs.Steps.{write_each, remove_each}
use Rattle.smk_laws_protocol.specs.Protocol.{OpenJob, RunState, Phase, Ended, Firm, Recorded, Dropping, Dropped, Runs, Done, Next, Step, Go, Close, Fail, Moves, MakeFolders, AllMade, Write as WriteMove, AllWritten, Drop, AllDropped, Unmark, Closes, AllUnmarked, outputs, record_places, record_of, listed_of, as_ok, now, runs, is_running, IsGood, IsWritten, IsAbsent}
use Rattle.smk_laws_protocol.proofs.Basics.{each_of}
use Rattle.smk_job.proofs.Single.{IsKnown, Stepped, step_known, step_keeps, written}
use Rattle.smk_laws_job.proofs.Still.{IsStill, still_settled, still_apart}
use Rattle.smk_laws_job.proofs.Abandoning.{removed_call, settled_call, in_first, in_second, in_either, in_map, absent_now, absent_still}
use Rattle.smk_job.proofs.Lists.{among_by}
use Rattle.smk_laws_job.proofs.Beginning.{parents_call, stepped}
use Rattle.smk_laws_job.proofs.Called.{as_parents, as_removed, as_settled, as_written, written_call, holds_reading, folder_kept}

pub without : {A : Type 0} (f : A → Bool) (xs ys : List A) (x : A) → f x ≡ false → filter f (xs ++ x ∷ ys) ≡ filter f (xs ++ ys)
without f [] ys x h = ap (λ (b : Bool). if b then x ∷ filter f ys else filter f ys) h
without f (y ∷ xs) ys x h = ap (λ t. if f y then y ∷ t else t) (without f xs ys x h)

module _ (o : Outside) (ok : Bool) where
  -- A call, by its request.
  pub one_call : (s mid goal : RunState) (w : World) (es : List Event) (r : Request) (rs : List Request)
      → (ok ≡ false → record s { jobs = filter (runs o) s.jobs; top = mid.top; faulted = true } ≡ goal)
      → Carries (r ∷ rs) ok es → Follows o.act w es
      → ((e : Event) → request e.call ≡ r → Step o s w (record e { call = as_ok e.call }) mid)
      → ((e : Event) → request e.call ≡ r → failed e.call ≡ false → Step o s w e mid)
      → ((v : World) (fs : List Event) → Stepped o.act r w v → Follows o.act v fs → Carries rs ok fs → Runs o mid v fs goal)
      → Runs o s w es goal
  one_call s mid goal w es r rs halts carries follows may go more = by ok es (λ e. halts e) carries follows (λ v fs st later rest. more v fs st later rest)
    where
      by : (good : Bool) (es : List Event) → (good ≡ false → record s { jobs = filter (runs o) s.jobs; top = mid.top; faulted = true } ≡ goal)
          → Carries (r ∷ rs) good es → Follows o.act w es
          → ((v : World) (fs : List Event) → Stepped o.act r w v → Follows o.act v fs → Carries rs good fs → Runs o mid v fs goal)
          → Runs o s w es goal
      by true [] halts carries follows more = absurd carries
      by true (e ∷ es) halts carries follows more =
          Next s mid goal w e es (go e carries.0 carries.1) (more (after w e) es (stepped o.act r w e follows.0.lets carries.0 carries.1) follows.1 carries.2)
      by false [] halts carries follows more = absurd carries
      by false (e ∷ []) halts carries follows more =
          subst (λ x. Runs o s w (e ∷ []) x) (halts refl) (Next s _ _ w e [] (Fail e mid carries.1 (may e carries.0)) (Done _ (after w e)))
      by false (e ∷ (f ∷ es)) halts carries follows more =
          Next s mid goal w e (f ∷ es) (go e carries.0 carries.1) (more (after w e) (f ∷ es) (stepped o.act r w e follows.0.lets carries.0 carries.1) follows.1 carries.2)

-- ## What was removed

abbrev pub Clears : World → List Path → World → Type 0
Clears w ps v = (x : Path) → IsIn ps x ⊎ IsAbsent w x → IsAbsent v x

cleared : (o : Outside) (w v u : World) (p : Path) (ps : List Path) → Stepped o.act (Remove p) w v → Clears v ps u → Clears w (p ∷ ps) u
cleared o w v u p ps st clears x c =
    let call = removed_call st.event.call p st.is st.quiet in
    clears x (elim c [
      | inl i ↦ elim i [
        | inl same ↦ inr (subst (λ y. IsAbsent v y) (sym same) (subst (λ y. IsAbsent y p) (sym st.now) (absent_now o.act w st.event p call st.lets)))
        | inr rest ↦ inl rest
      ]
      | inr h ↦ inr (subst (λ y. IsAbsent y x) (sym st.now) (absent_still o.act w st.event p call st.lets x h))
    ])

-- ## What was written

-- these bytes stand in the record's place
abbrev pub Has : (Path → List ℕ) → World → Path → Type 0
Has full w p = (time : ℕ) × (read_only : Bool) × (reading (w.nodes (record_place p)) ≡ Some (Regular (full p) time read_only))

-- ## One job of a run

-- where a failed call leads, whatever the phase
abbrev pub halted : Outside → RunState → List OpenJob → List OpenJob → RunState
halted o s js ks = record s { jobs = filter (runs o) (js ++ ks); faulted = true }

module _ (o : Outside) (ok : Bool) (goal s : RunState) (js ks : List OpenJob) (j : OpenJob) (calm : s.faulted ≡ false) (halts : ok ≡ false → halted o s js ks ≡ goal) where
  abbrev pub at_phase : Phase → RunState
  at_phase phase = record s { jobs = js ++ (record j { phase = phase }) ∷ ks }

  abbrev pub Goes : Phase → World → List Event → Type 0
  Goes phase w es = Runs o (at_phase phase) w es goal

  -- what comes after these calls
  abbrev pub Then : Phase → List Request → World → List Event → Type 0
  Then phase rs v fs = Follows o.act v fs → Carries rs ok fs → Goes phase v fs

  halts_at : (phase : Phase) → is_running phase ≡ false → ok ≡ false → record s { jobs = filter (runs o) (js ++ (record j { phase = phase }) ∷ ks); faulted = true } ≡ goal
  halts_at phase idle bad = ap (λ (l : List OpenJob). record s { jobs = l; faulted = true }) (without (runs o) js ks (record j { phase = phase }) idle) ∙ halts bad

  -- a call that leads from one phase to another
  goes : (from to : Phase) (w : World) (es : List Event) (r : Request) (rs : List Request) (call : Call) → is_running from ≡ false
      → ((c : Call) → request c ≡ r → as_ok c ≡ call) → ((c : Call) → request c ≡ r → failed c ≡ false → c ≡ call)
      → Moves o w (record j { phase = from }) call to
      → Follows o.act w es → Carries (r ∷ rs) ok es
      → ((v : World) (fs : List Event) → Stepped o.act r w v → Then to rs v fs)
      → Goes from w es
  goes from to w es r rs call idle as_good as_done move follows carries more =
      one_call o ok (at_phase from) (at_phase to) goal w es r rs (halts_at from idle) carries follows
      (λ e is. moves (record e { call = as_ok e.call }) (as_good e.call is))
      (λ e is quiet. moves e (as_done e.call is quiet))
      (λ v fs st later rest. more v fs st later rest)
    where
      moves : (e : Event) → e.call ≡ call → Step o (at_phase from) w e (at_phase to)
      moves e is = Go e js ks (record j { phase = from }) to refl (inl calm) (subst (λ c. Moves o w (record j { phase = from }) c to) (sym is) move)

  -- ## Dropping

  drops : (ps : List Path) (w : World) (es : List Event) (qs : List Request) → ((p : Path) → IsIn ps p → IsIn (outputs j ++ record_places j) p)
      → Follows o.act w es → Carries (remove_each ps ++ qs) ok es
      → ((v : World) (fs : List Event) → Clears w ps v → Then Dropping qs v fs) → Goes Dropping w es
  drops [] w es qs own follows carries more = more w es (λ x c. elim c [ inl i ↦ absurd i | inr h ↦ h ]) follows carries
  drops (p ∷ ps) w es qs own follows carries more =
      goes Dropping Dropping w es (Remove p) (remove_each ps ++ qs) (Removed p (Ok tt)) refl (λ c is. as_removed c p is) (λ c is quiet. removed_call c p is quiet)
      (Drop p (inr refl) (own p (inl refl))) follows carries
      (λ v fs st later rest. drops ps v fs qs (λ q i. own q (inr i)) later rest (λ u gs clear. more u gs (cleared o w v u p ps st clear)))

  -- the first of them
  pub drops_first : (status : ℕ) (ps : List Path) (w : World) (es : List Event) (qs : List Request) → (ps ≡ [] → ⊥) → ((p : Path) → IsIn ps p → IsIn (outputs j ++ record_places j) p)
      → Follows o.act w es → Carries (remove_each ps ++ qs) ok es
      → ((v : World) (fs : List Event) → Clears w ps v → Then Dropping qs v fs) → Goes (Ended status) w es
  drops_first status [] w es qs some own follows carries more = absurd (some refl)
  drops_first status (p ∷ ps) w es qs some own follows carries more =
      goes (Ended status) Dropping w es (Remove p) (remove_each ps ++ qs) (Removed p (Ok tt)) refl (λ c is. as_removed c p is) (λ c is quiet. removed_call c p is quiet)
      (Drop p (inl (status, refl)) (own p (inl refl))) follows carries
      (λ v fs st later rest. drops ps v fs qs (λ q i. own q (inr i)) later rest (λ u gs clear. more u gs (cleared o w v u p ps st clear)))

  pub drops_settled : (w : World) (es : List Event) (qs : List Request) → ((p : Path) → IsIn (outputs j ++ record_places j) p → IsAbsent w p)
      → Follows o.act w es → Carries (Settle (outputs j ++ record_places j) ∷ qs) ok es
      → ((v : World) (fs : List Event) → Then Dropped qs v fs) → Goes Dropping w es
  drops_settled w es qs gone follows carries more =
      let all = outputs j ++ record_places j in
      goes Dropping Dropped w es (Settle all) qs (Settled all (Ok tt)) refl (λ c is. as_settled c all is) (λ c is quiet. settled_call c all is quiet)
      (AllDropped all refl (each_of (IsAbsent w) all gone) (each_of (λ p. IsTrue (among all p)) all (λ p i. among_by all p i))) follows carries
      (λ v fs st later rest. more v fs later rest)

  -- ## Marks

  -- its marks may go
  abbrev pub IsLast : Phase → Type 0
  IsLast phase = (phase ≡ Recorded) ⊎ (phase ≡ Dropped)

  idle_last : (phase : Phase) → IsLast phase → is_running phase ≡ false
  idle_last phase (inl e) = ap is_running e
  idle_last phase (inr e) = ap is_running e

  unmarks : (phase : Phase) (at : IsLast phase) (ps : List Path) (w : World) (es : List Event) (qs : List Request) → ((p : Path) → IsIn ps p → IsIn (outputs j) p)
      → Follows o.act w es → Carries (remove_each (map mark_place ps) ++ qs) ok es
      → ((v : World) (fs : List Event) → Clears w (map mark_place ps) v → Then phase qs v fs) → Goes phase w es
  unmarks phase at [] w es qs own follows carries more = more w es (λ x c. elim c [ inl i ↦ absurd i | inr h ↦ h ]) follows carries
  unmarks phase at (p ∷ ps) w es qs own follows carries more =
      goes phase phase w es (Remove (mark_place p)) (remove_each (map mark_place ps) ++ qs) (Removed (mark_place p) (Ok tt)) (idle_last phase at)
      (λ c is. as_removed c (mark_place p) is) (λ c is quiet. removed_call c (mark_place p) is quiet)
      (Unmark p at (own p (inl refl))) follows carries
      (λ v fs st later rest. unmarks phase at ps v fs qs (λ q i. own q (inr i)) later rest (λ u gs clear. more u gs (cleared o w v u (mark_place p) (map mark_place ps) st clear)))

  closes : (phase : Phase) (at : IsLast phase) (w : World) (es : List Event) → ((p : Path) → IsIn (map mark_place (outputs j)) p → IsAbsent w p)
      → (ok ≡ true → record s { jobs = js ++ ks } ≡ goal) → Follows o.act w es → Carries (Settle (map mark_place (outputs j)) ∷ []) ok es → Goes phase w es
  closes phase at w es gone done follows carries =
      let all = map mark_place (outputs j) in
      one_call o ok (at_phase phase) (record s { jobs = js ++ ks }) goal w es (Settle all) [] (halts_at phase (idle_last phase at)) carries follows
      (λ e is. close (record e { call = as_ok e.call }) (as_settled e.call all is))
      (λ e is quiet. close e (settled_call e.call all is quiet))
      (λ v fs st later rest. over ok fs done rest)
    where
      close : (e : Event) → e.call ≡ Settled (map mark_place (outputs j)) (Ok tt) → Step o (at_phase phase) w e (record s { jobs = js ++ ks })
      close e is =
          Close e js ks (record j { phase = phase }) refl calm
          (subst (λ c. Closes o w (record j { phase = phase }) c) (sym is)
          (AllUnmarked (map mark_place (outputs j)) at
          (each_of (λ p. IsAbsent w (mark_place p)) (outputs j) (λ p i. gone (mark_place p) (in_map mark_place (outputs j) p i)))
          (each_of (λ p. IsTrue (among (map mark_place (outputs j)) p)) (map mark_place (outputs j)) (λ p i. among_by (map mark_place (outputs j)) p i))))

      over : {v : World} (good : Bool) (fs : List Event) → (good ≡ true → record s { jobs = js ++ ks } ≡ goal) → Carries [] good fs → Runs o (record s { jobs = js ++ ks }) v fs goal
      over {v} true [] done rest = subst (λ x. Runs o (record s { jobs = js ++ ks }) v [] x) (done refl) (Done (record s { jobs = js ++ ks }) v)
      over true (f ∷ fs) done rest = absurd rest
      over false fs done rest = absurd rest

  -- the marks are removed, and that is settled
  pub closing : (phase : Phase) (at : IsLast phase) (w : World) (es : List Event) → (ok ≡ true → record s { jobs = js ++ ks } ≡ goal)
      → Then phase (remove_each (map mark_place (outputs j)) ++ Settle (map mark_place (outputs j)) ∷ []) w es
  closing phase at w es done follows carries =
      unmarks phase at (outputs j) w es (Settle (map mark_place (outputs j)) ∷ []) (λ p i. i) follows carries
      (λ v fs clears later rest. closes phase at v fs (λ p i. clears p (inl i)) done later rest)

  -- ## Keeping

  pub makes_firm : (w : World) (es : List Event) (qs : List Request) → Each (IsGood o w) (outs_of j.recipe)
      → Follows o.act w es → Carries (Settle (outputs j) ∷ qs) ok es
      → ((v : World) (fs : List Event) → Stepped o.act (Settle (outputs j)) w v → Then Firm qs v fs) → Goes (Ended 0) w es
  makes_firm w es qs good follows carries more =
      let all = outputs j in
      goes (Ended 0) Firm w es (Settle all) qs (Settled all (Ok tt)) refl (λ c is. as_settled c all is) (λ c is quiet. settled_call c all is quiet)
      (AllMade all refl good (each_of (λ p. IsTrue (among all p)) all (λ p i. among_by all p i))) follows carries more

-- the bytes of an output's record with these members
abbrev pub full_of : OpenJob → (Path → List Member) → Path → List ℕ
full_of j L p = spelling (records.record_of p j.serial j.recipe j.stamps (L p))

-- Records with these members read as they are written, and these are the members that are there as long as what stands outside the
-- engine's folder stays.
pub record AreListed (o : Outside) (j : OpenJob) (u : World) (L : Path → List Member) : Type 0 where
  pub paths : (p : Path) → IsIn (outputs j) p → IsTrue (is_path_text p)
  pub reads : (p : Path) → IsIn (outputs j) p → (time : ℕ) (read_only : Bool) → kept_by o.read p (Some (Regular (full_of j L p) time read_only)) ≡ Held (record (record_of j p) { members = L p })
  pub lists : (v : World) → IsStill u v → (p : Path) → IsIn (outputs j) p → listed_of j p (members_under (now o v) p) ≡ L p

kept_there : (o : Outside) (j : OpenJob) (u v : World) (L : Path → List Member) (p : Path) → AreListed o j u L → IsIn (outputs j) p → Has (full_of j L) v p → (now o v).kept p ≡ Held (record (record_of j p) { members = L p })
kept_there o j u v L p listed i (time, read_only, there) =
    ap (λ (b : Bool). if b then kept_by o.read p (reading (v.nodes (record_place p))) else Absent) (listed.paths p i) ∙ ap (kept_by o.read p) there ∙ listed.reads p i time read_only

is_written : (o : Outside) (j : OpenJob) (u v : World) (L : Path → List Member) (p : Path) → AreListed o j u L → IsStill u v → IsIn (outputs j) p → Has (full_of j L) v p → IsWritten o v j p
is_written o j u v L p listed still i there =
    let kept = kept_there o j u v L p listed i there in
    (ap (λ k. option_map core (readable k)) kept, ap (λ k. members_of (readable k)) kept ∙ sym (listed.lists v still p i))

-- the engine's places are none of those outside its folder
off_record : (p q : Path) → is_at_or_under q own_folder ≡ false → (is_under (record_place p) q ≡ false) × (bytes_eq q (record_place p) ≡ false)
off_record p q out = let apart = outside-own q (record_place p) out refl in (apart.over, apart.differs)

module _ (o : Outside) (ok : Bool) (goal s : RunState) (js ks : List OpenJob) (j : OpenJob) (calm : s.faulted ≡ false) (halts : ok ≡ false → halted o s js ks ≡ goal)
    (u : World) (L : Path → List Member) (listed : AreListed o j u L) where
  abbrev After : Phase → List Request → World → List Event → Type 0
  After phase rs v fs = Then o ok goal s js ks j calm halts phase rs v fs

  -- records are written
  writes : (ps : List Path) (w : World) (es : List Event) (qs : List Request) → IsStill u w → ((p : Path) → IsIn ps p → IsIn (outputs j) p) → ((p : Path) → IsIn ps p → IsKnown (w.nodes (record_place p)))
      → Follows o.act w es → Carries (write_each (map record_place ps) (map (full_of j L) ps) ++ qs) ok es
      → ((v : World) (fs : List Event) → IsStill u v → ((x : Path) → IsIn ps x ⊎ Has (full_of j L) w x → Has (full_of j L) v x) → After Firm qs v fs)
      → Goes o ok goal s js ks j calm halts Firm w es
  writes [] w es qs still own known follows carries more = more w es still (λ x c. elim c [ inl i ↦ absurd i | inr h ↦ h ]) follows carries
  writes (p ∷ ps) w es qs still own known follows carries more =
      let place = record_place p in
      let bytes = full_of j L p in
      goes o ok goal s js ks j calm halts Firm Firm w es (MakeParents place) (Write place bytes ∷ (write_each (map record_place ps) (map (full_of j L) ps) ++ qs)) (MadeParents place (Ok tt)) refl
      (λ c is. as_parents c place is) (λ c is quiet. parents_call c place is quiet)
      (MakeFolders place (inr (inr (refl, in_map record_place (outputs j) p (own p (inl refl)))))) follows carries
      (λ v fs s1 follows1 carries1.
      let still1 : IsStill u v = still_apart o.act (MakeParents place) u w v (λ q out. (off_record p q out).0) s1 still in
      let its : (time : ℕ) (read_only : Bool) → kept_by o.read p (Some (Regular bytes time read_only)) ≡ Held (record (record_of j p) { members = listed_of j p (members_under (now o v) p) }) =
      λ time read_only. listed.reads p (own p (inl refl)) time read_only ∙ ap (λ ms. Held (record (record_of j p) { members = ms })) (sym (listed.lists v still1 p (own p (inl refl)))) in
      goes o ok goal s js ks j calm halts Firm Firm v fs (Write place bytes) (write_each (map record_place ps) (map (full_of j L) ps) ++ qs) (Written place bytes (Ok tt)) refl
      (λ c is. as_written c place bytes is) (λ c is quiet. written_call c place bytes is quiet)
      (WriteMove p bytes refl (own p (inl refl)) its) follows1 carries1
      (λ x gs s2 follows2 carries2.
      let here : Has (full_of j L) x p = holds_reading bytes (x.nodes place) (written o.act place bytes v x s2 (step_known o.act (MakeParents place) w v place s1 refl (known p (inl refl)))) in
      let through : (y : Path) → Has (full_of j L) w y → Has (full_of j L) v y =
      λ y h. (h.0, h.1, folder_kept o.act place w v (record_place y) _ s1 h.2) in
      let onward : (y : Path) → Has (full_of j L) v y → Has (full_of j L) x y =
      λ y h. elim (cases_Bool (bytes_eq (record_place y) place)) [
        | inl same ↦ subst (Has (full_of j L) x) (sym (same_record y p (same_place (record_place y) place same))) here
        | inr other ↦ (h.0, h.1, ap reading (step_keeps o.act (Write place bytes) v x (record_place y) s2 other) ∙ h.2)
      ] in
      writes ps x gs qs (still_apart o.act (Write place bytes) u v x (λ q out. (off_record p q out).1) s2 still1) (λ q i. own q (inr i))
      (λ q i. step_known o.act (Write place bytes) v x (record_place q) s2 refl (step_known o.act (MakeParents place) w v (record_place q) s1 refl (known q (inr i)))) follows2 carries2
      (λ y hs still2 held. more y hs still2 (λ z c. held z (elim c [
        | inl i ↦ elim i [
          | inl same ↦ inr (subst (Has (full_of j L) x) (sym same) here)
          | inr rest ↦ inl rest
        ]
        | inr h ↦ inr (onward z (through z h))
      ])))))

  records_settled : (w : World) (es : List Event) (qs : List Request) → IsStill u w → ((p : Path) → IsIn (outputs j) p → Has (full_of j L) w p)
      → Follows o.act w es → Carries (Settle (record_places j) ∷ qs) ok es
      → ((v : World) (fs : List Event) → After Recorded qs v fs) → Goes o ok goal s js ks j calm halts Firm w es
  records_settled w es qs still there follows carries more =
      let all = record_places j in
      goes o ok goal s js ks j calm halts Firm Recorded w es (Settle all) qs (Settled all (Ok tt)) refl (λ c is. as_settled c all is) (λ c is quiet. settled_call c all is quiet)
      (AllWritten all refl (each_of (IsWritten o w (record j { phase = Firm })) (outputs j) (λ p i. is_written o j u w L p listed still i (there p i)))
      (each_of (λ p. IsTrue (among all p)) all (λ p i. among_by all p i))) follows carries
      (λ v fs st later rest. more v fs later rest)

  -- all calls of `finish` after the looks
  pub keeps_all : (es : List Event) → IsStill u u → Each (IsGood o u) (outs_of j.recipe) → ((p : Path) → IsIn (outputs j) p → IsKnown (u.nodes (record_place p)))
      → (ok ≡ true → record s { jobs = js ++ ks } ≡ goal) → Follows o.act u es
      → Carries (Settle (outputs j) ∷ (write_each (map record_place (outputs j)) (map (full_of j L) (outputs j)) ++ Settle (record_places j) ∷ (remove_each (map mark_place (outputs j)) ++ Settle (map mark_place (outputs j)) ∷ []))) ok es
      → Goes o ok goal s js ks j calm halts (Ended 0) u es
  keeps_all es still good known done follows carries =
      let closes_with : List Request = remove_each (map mark_place (outputs j)) ++ Settle (map mark_place (outputs j)) ∷ [] in
      makes_firm o ok goal s js ks j calm halts u es (write_each (map record_place (outputs j)) (map (full_of j L) (outputs j)) ++ Settle (record_places j) ∷ closes_with) good follows carries
      (λ v fs st follows1 carries1.
      writes (outputs j) v fs (Settle (record_places j) ∷ closes_with) (still_settled o.act (outputs j) u u v st still) (λ p i. i)
      (λ p i. step_known o.act (Settle (outputs j)) u v (record_place p) st refl (known p i)) follows1 carries1
      (λ x gs still2 held follows2 carries2.
      records_settled x gs closes_with still2 (λ p i. held p (inl i)) follows2 carries2
      (λ y hs follows3 carries3. closing o ok goal s js ks j calm halts Recorded (inl refl) y hs done follows3 carries3)))

  over : (good : Bool) (st : RunState) (v : World) (fs : List Event) → (good ≡ true → st ≡ goal) → Carries [] good fs → Runs o st v fs goal
  over true st v [] there rest = subst (λ x. Runs o st v [] x) (there refl) (Done st v)
  over true st v (f ∷ fs) there rest = absurd rest
  over false st v fs there rest = absurd rest

  -- all calls of `finish` after the looks, up to where the records are firm
  pub keeps_records : (es : List Event) → IsStill u u → Each (IsGood o u) (outs_of j.recipe) → ((p : Path) → IsIn (outputs j) p → IsKnown (u.nodes (record_place p)))
      → (ok ≡ true → at_phase o ok goal s js ks j calm halts Recorded ≡ goal) → Follows o.act u es
      → Carries (Settle (outputs j) ∷ (write_each (map record_place (outputs j)) (map (full_of j L) (outputs j)) ++ Settle (record_places j) ∷ [])) ok es
      → Goes o ok goal s js ks j calm halts (Ended 0) u es
  keeps_records es still good known there follows carries =
      makes_firm o ok goal s js ks j calm halts u es (write_each (map record_place (outputs j)) (map (full_of j L) (outputs j)) ++ Settle (record_places j) ∷ []) good follows carries
      (λ v fs st follows1 carries1.
      writes (outputs j) v fs (Settle (record_places j) ∷ []) (still_settled o.act (outputs j) u u v st still) (λ p i. i)
      (λ p i. step_known o.act (Settle (outputs j)) u v (record_place p) st refl (known p i)) follows1 carries1
      (λ x gs still2 held follows2 carries2.
      records_settled x gs [] still2 (λ p i. held p (inl i)) follows2 carries2
      (λ y hs follows3 carries3. over ok (at_phase o ok goal s js ks j calm halts Recorded) y hs there carries3)))

-- all calls of `abandon`
pub loses_all : (o : Outside) (ok : Bool) (goal s : RunState) (js ks : List OpenJob) (j : OpenJob) (calm : s.faulted ≡ false) (halts : ok ≡ false → halted o s js ks ≡ goal)
    (status : ℕ) (w : World) (es : List Event) → (outputs j ≡ [] → ⊥) → (ok ≡ true → record s { jobs = js ++ ks } ≡ goal) → Follows o.act w es
    → Carries (remove_each (outputs j) ++ (remove_each (record_places j) ++ Settle (outputs j ++ record_places j) ∷ (remove_each (map mark_place (outputs j)) ++ Settle (map mark_place (outputs j)) ∷ []))) ok es
    → Goes o ok goal s js ks j calm halts (Ended status) w es
loses_all o ok goal s js ks j calm halts status w es some done follows carries =
    let outs = outputs j in
    let kept = record_places j in
    let closes_with : List Request = remove_each (map mark_place outs) ++ Settle (map mark_place outs) ∷ [] in
    drops_first o ok goal s js ks j calm halts status outs w es (remove_each kept ++ Settle (outs ++ kept) ∷ closes_with) some (in_first outs kept) follows carries
    (λ v fs clears follows1 carries1.
    drops o ok goal s js ks j calm halts kept v fs (Settle (outs ++ kept) ∷ closes_with) (in_second outs kept) follows1 carries1
    (λ x gs clears2 follows2 carries2.
    drops_settled o ok goal s js ks j calm halts x gs closes_with
    (λ p i. elim (in_either outs kept p i) [ inl l ↦ clears2 p (inr (clears p (inl l))) | inr r ↦ clears2 p (inl r) ]) follows2 carries2
    (λ y hs follows3 carries3. closing o ok goal s js ks j calm halts Dropped (inr refl) y hs done follows3 carries3)))
