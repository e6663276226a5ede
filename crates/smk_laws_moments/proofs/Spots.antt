-- What derived jobs make and log lies apart: from each other, from sources, and from what is known of other paths.
use Rattle.std.proofs.Common.{◌≡◌, ◌≢◌, inl, inr, Bool, true, false, ◌&&◌, ◌||◌, not, List, [], ◌∷◌, ◌++◌, map, flat_map, refl, ap, sym, subst, ◌∙◌, true≢false}
use Rattle.std.specs.Prelude.{bytes_eq}
use Rattle.std.specs.List.{list_any}
use Rattle.std.proofs.lemmas.Bool.{cases_Bool}
use Rattle.smk_base.specs.Path.{is_path, is_under, is_at_or_under, overlaps}
use Rattle.smk_base.proofs.Places.{same_place}
use Rattle.smk_base.proofs.Apart.{apart_unless}
use Rattle.smk_base.proofs.Under.{at_itself, at_or_under_further, at_when_under, both_true, false_unless, never_both, or_cases, overlaps_above_both, overlaps_at}
use Rattle.smk_world.specs.declared.recipe.Out.{Out}
use Rattle.smk_world.specs.declared.recipe.OutItem.{OutItem}
use Rattle.smk_world.specs.World.{out_paths, owned_paths}
use Rattle.smk_world.specs.Calls.{any_overlap, are_apart}
use Rattle.smk_world.specs.Trees.{Path, IsIn, outs_of}
use Rattle.smk_pattern.specs.Reading.{fill}
use Rattle.smk_flow.specs.declared.job.Job.{Job}
use Rattle.smk_flow.specs.declared.rule.FlaggedText.{FlaggedText}
use Rattle.smk_flow.specs.declared.rule.OutPart.{OutPart}
use Rattle.smk_flow.specs.Flows.{Flow, Candidate, logs, outputs, outs}
use Rattle.smk_flow.specs.Jobs.{filled_out, filled_outs}
use Rattle.smk_store.specs.Images.{Image, stands, is_source, sources, holds_source}
use Rattle.smk_choose.specs.Choose.{choose, Make}
use Rattle.smk_chain.specs.Derive.{Listings, Derived, derivation, distinct, hinders, has_record_or_mark, job, recipe, same_candidate, sources_of, spots, walk}
use Rattle.smk_laws_protocol.proofs.Basics.{none_of, none_by, some_of}
use Rattle.smk_plan.specs.States.{makes}
use Rattle.smk_laws_plan.specs.Current.{IsComplete}
use Rattle.smk_laws_plan.proofs.CurrentApart.{SpotsApart, makes_above, spot_free, spots_append, spots_apart}
use Rattle.smk_laws_plan.proofs.CurrentChosen.{chosen_candidate, paths_are}
use Rattle.smk_laws_plan.proofs.CurrentLists.{all_in, and_right, distinct_in, flat_in, in_either, in_filter, in_flat, in_left, in_map, in_right, map_in, not_true}
use Rattle.smk_laws_plan.proofs.CurrentMeaning.{source_file}
use Rattle.smk_laws_plan.proofs.CurrentPaths.{Above, among_in}
use Rattle.smk_laws_plan.proofs.CurrentWalked.{walked_chosen}
use Rattle.smk_laws_plan.proofs.PlanOne.{derived, derived_clear, job_makes}
use Rattle.smk_laws_plan.proofs.PlanOrder.{some_node}

-- what the job makes and logs
abbrev pub owned : Job → List Path
owned j = owned_paths j.recipe j.logs

-- ## Paths

pub flipped : (p q : Path) → overlaps p q ≡ false → overlaps q p ≡ false
flipped p q h = (apart_unless p q (λ t. never_both (overlaps p q) t h)).overlapped

overlaps_back : (p q : Path) → overlaps p q ≡ true → overlaps q p ≡ true
overlaps_back p q h = elim (cases_Bool (overlaps q p)) [ inl e ↦ e | inr e ↦ absurd (never_both (overlaps p q) h (flipped q p e)) ]

-- what overlaps a path overlaps what the path is at or under
pub overlaps_above : (x q o : Path) → is_at_or_under q o ≡ true → overlaps x q ≡ true → overlaps x o ≡ true
overlaps_above x q o at over = elim (or_cases (bytes_eq x q) (is_under x q || is_under q x) over) [
  | inl e ↦ overlaps_at x o (subst (λ z. is_at_or_under z o ≡ true) (sym (same_place x q e)) at)
  | inr k ↦ elim (or_cases (is_under x q) (is_under q x) k) [
    | inl u ↦ overlaps_at x o (at_or_under_further x q o (at_when_under x q u) at)
    | inr u ↦ overlaps_above_both q x o (at_when_under q x u) at
  ]
]

apart_above : (x q o : Path) → Above q o → overlaps x o ≡ false → overlaps x q ≡ false
apart_above x q o above h = false_unless (overlaps x q) (λ over. never_both (overlaps x o) (overlaps_above x q o (at above) over) h)
  where
    at : Above q o → is_at_or_under q o ≡ true
    at (inl e) = subst (λ z. is_at_or_under q z ≡ true) e (at_itself q)
    at (inr u) = at_when_under q o u

pub each_apart : (ps qs : List Path) → ((p q : Path) → IsIn ps p → IsIn qs q → overlaps p q ≡ false) → any_overlap ps qs ≡ false
each_apart ps qs h = none_by (λ p. list_any (overlaps p) qs) ps (λ p i. none_by (overlaps p) qs (λ q k. h p q i k))

-- ## Spots

abbrev places : List (Path × Bool) → List Path
places ss = map (λ (s : Path × Bool). s.0) ss

output_in_spots : (j : Job) (p : Path) → IsIn (out_paths j.recipe) p → IsIn (spots j) (p, true)
output_in_spots j p i =
    in_left (p, true) (map (λ q. (q, true)) (out_paths j.recipe)) (map (λ q. (q, false)) j.logs)
    (in_map (λ q. (q, true)) (out_paths j.recipe) p i)

log_in_spots : (j : Job) (p : Path) → IsIn j.logs p → IsIn (spots j) (p, false)
log_in_spots j p i =
    in_right (p, false) (map (λ q. (q, true)) (out_paths j.recipe)) (map (λ q. (q, false)) j.logs) (in_map (λ q. (q, false)) j.logs p i)

-- what a job owns is a spot of it
spot_of : (j : Job) (p : Path) → IsIn (owned j) p → (b : Bool) × IsIn (spots j) (p, b)
spot_of j p i = elim (in_either p (out_paths j.recipe) j.logs i) [
  | inl k ↦ (true, output_in_spots j p k)
  | inr k ↦ (false, log_in_spots j p k)
]

tagged : (b : Bool) (ps : List Path) → places (map (λ p. (p, b)) ps) ≡ ps
tagged b [] = refl
tagged b (p ∷ ps) = ap (λ l. p ∷ l) (tagged b ps)

places_append : (xs ys : List (Path × Bool)) → places (xs ++ ys) ≡ places xs ++ places ys
places_append [] ys = refl
places_append (x ∷ xs) ys = ap (λ l. x.0 ∷ l) (places_append xs ys)

spots_places : (j : Job) → places (spots j) ≡ owned j
spots_places j =
    places_append (map (λ p. (p, true)) (out_paths j.recipe)) (map (λ p. (p, false)) j.logs)
    ∙ ap (λ l. l ++ places (map (λ p. (p, false)) j.logs)) (tagged true (out_paths j.recipe))
    ∙ ap (λ l. out_paths j.recipe ++ l) (tagged false j.logs)

apart_spots : (ss : List (Path × Bool)) → SpotsApart ss → are_apart (places ss) ≡ true
apart_spots [] h = refl
apart_spots (s ∷ ss) h =
    both_true (not (list_any (overlaps s.0) (places ss))) (are_apart (places ss))
    (ap not (none_by (overlaps s.0) (places ss) (λ x ix.
    let t = map_in (λ (u : Path × Bool). u.0) ss x ix in subst (λ y. overlaps s.0 y ≡ false) (sym t.2) (flipped t.0.0 s.0 (h.0 t.0 t.1)))))
    (apart_spots ss h.1)

one_spots : (js : List Job) (j : Job) → SpotsApart (flat_map spots js) → IsIn js j → SpotsApart (spots j)
one_spots [] j h i = absurd i
one_spots (k ∷ js) j h (inl e) = subst (λ (z : Job). SpotsApart (spots z)) (sym e) (spots_append (spots k) (flat_map spots js) h).0
one_spots (k ∷ js) j h (inr i) = one_spots js j (spots_append (spots k) (flat_map spots js) h).1 i

-- two jobs of which one passes a test and the other doesn't own nothing that overlaps
spots_between :
    (f : Job → Bool) (js : List Job) (j k : Job) (s u : Path × Bool) → SpotsApart (flat_map spots js) → IsIn js j → IsIn js k → f j ≡ true → f k ≡ false →
    IsIn (spots j) s → IsIn (spots k) u → overlaps u.0 s.0 ≡ false
spots_between f [] j k s u h i l a b x y = absurd i
spots_between f (z ∷ js) j k s u h i l a b x y = go i l (spots_append (spots z) (flat_map spots js) h) (λ r m n. spots_between f js j k s u r m n a b x y)
  where
    go :
        IsIn (z ∷ js) j → IsIn (z ∷ js) k →
        SpotsApart (spots z) × SpotsApart (flat_map spots js)
        × ((s t : Path × Bool) → IsIn (spots z) s → IsIn (flat_map spots js) t → overlaps t.0 s.0 ≡ false) →
        (SpotsApart (flat_map spots js) → IsIn js j → IsIn js k → overlaps u.0 s.0 ≡ false) → overlaps u.0 s.0 ≡ false
    go (inl e) (inl d) r again = absurd (true≢false (sym a ∙ ap f (e ∙ sym d) ∙ b))
    go (inl e) (inr n) r again = r.2 s u (subst (λ q. IsIn (spots q) s) e x) (in_flat spots js k u n y)
    go (inr m) (inl d) r again = flipped s.0 u.0 (r.2 u s (subst (λ q. IsIn (spots q) u) d y) (in_flat spots js j s m x))
    go (inr m) (inr n) r again = again r.1 m n

-- an output's spot lets no record or mark of another path be
own_spot : (over noted has same : Bool) → (over && (noted || (has && not same))) ≡ false → over ≡ true → has ≡ true → same ≡ true
own_spot over noted has true h k l = refl
own_spot true true has false h k l = absurd (true≢false h)
own_spot true false true false h k l = absurd (true≢false h)
own_spot true false false false h k l = absurd (true≢false (sym l))
own_spot false noted has false h k l = absurd (true≢false (sym k))

-- a log's spot lets none be
log_spot : (over noted has same : Bool) → (over && (has || (noted && not same))) ≡ false → over ≡ true → has ≡ true → ⊥
log_spot true noted true same h k l = true≢false h
log_spot true noted false same h k l = true≢false (sym l)
log_spot false noted has same h k l = true≢false (sym k)

known_of : (a b c : Bool) → (a || b) ≡ true → (a || (b || c)) ≡ true
known_of true b c h = refl
known_of false true c h = refl
known_of false false c h = absurd (true≢false (sym h))

-- ## The texts of a candidate

module _ (flow : Flow) (L : Listings) where
  output_text : (c : Candidate) (o : Path) → IsIn (out_paths (recipe flow L c)) o → IsIn (outputs flow c) o
  output_text c o h =
      let a = map_in (λ (x : Out). x.path) (outs_of (recipe flow L c)) o (subst (λ ps. IsIn ps o) (paths_are (recipe flow L c)) h) in
      let b = flat_in (λ (i : OutItem). i.outs) (recipe flow L c).outputs a.0 a.1 in
      let d = map_in (filled_outs c.binding) c.part.outputs b.0 b.1 in
      let f = map_in (filled_out c.binding) d.0.outs a.0 (subst (λ (i : OutItem). IsIn i.outs a.0) d.2 b.2) in
      subst (λ p. IsIn (outputs flow c) p) (sym (a.2 ∙ ap (λ (x : Out). x.path) f.2))
      (in_map (λ (x : FlaggedText). fill c.binding x.text) (outs c.part) f.0 (in_flat (λ (x : OutPart). x.outs) c.part.outputs d.0 f.0 d.1 f.1))

  owned_text : (c : Candidate) (o : Path) → IsIn (out_paths (recipe flow L c) ++ logs flow c) o → IsIn (outputs flow c ++ logs flow c) o
  owned_text c o i = elim (in_either o (out_paths (recipe flow L c)) (logs flow c) i) [
    | inl k ↦ in_left o (outputs flow c) (logs flow c) (output_text c o k)
    | inr k ↦ in_right o (outputs flow c) (logs flow c) k
  ]

-- ## The jobs of a derivation

module _
    (flow : Flow) (image : Image) (L : Listings) (targets : List Path) (js : List Job) (complete : IsComplete image)
    (is : derivation flow image L targets ≡ Derived js) where
  all_apart : SpotsApart (flat_map spots js)
  all_apart = spots_apart image [] (flat_map spots js) (derived_clear flow image L targets js complete is)

  -- a job is that of a candidate which is chosen for a path
  pub record IsChosen (j : Job) : Type 0 where
    pub candidate : Candidate
    pub is_job : j ≡ job flow L candidate
    pub path : Path
    pub chosen : choose flow (sources_of image) path ≡ Make candidate

  chosen_for : (j : Job) → IsIn js j → IsChosen j
  chosen_for j i =
      let all_walked = flat_map (walk flow (sources_of image) L 200) targets in
      let is_all = derived flow image L targets js complete is in
      let m = map_in (job flow L) (distinct same_candidate all_walked) j (subst (λ ks. IsIn ks j) (sym is_all.1) i) in
      let u = flat_in (walk flow (sources_of image) L 200) targets m.0 (distinct_in same_candidate all_walked m.0 m.1) in
      let c = walked_chosen flow (sources_of image) L 200 u.0 m.0 u.2 in
      record { candidate = m.0; is_job = m.2; path = c.0; chosen = c.1 }

  -- a job has an output
  pub has_output : (j : Job) → IsIn js j → out_paths j.recipe ≢ []
  has_output j i =
      let c = chosen_for j i in
      let made = subst (λ (z : Job). makes z c.path ≡ true) (sym c.is_job) (job_makes flow (sources_of image) L c.path c.candidate c.chosen) in
      let o = makes_above j c.path made in
      λ none. subst (λ ps. IsIn ps o.0) none o.1

  unheld : (j : Job) (x : Path) → IsIn js j → IsIn (owned j) x → holds_source image x ≡ false
  unheld j x i ix =
      let c = chosen_for j i in
      let d = c.candidate in
      not_true (holds_source image x) (and_right (is_path x) (not (holds_source image x))
      (all_in (λ q. is_path q && not (holds_source image q)) (outputs flow d ++ logs flow d) x (chosen_candidate flow (sources_of image) c.path d c.chosen).1
      (owned_text flow L d x (subst (λ (z : Job). IsIn (owned z) x) c.is_job ix))))

  -- no source overlaps what a job makes or logs
  pub no_source : (j : Job) (q : Path) → IsIn js j → is_source image q ≡ true → list_any (overlaps q) (owned j) ≡ false
  no_source j q i source =
      let f = source_file image q source in
      let named = in_filter (is_source image) image.names q (among_in image.names q (complete.names q ∙ some_node (image.node q) f.0 f.1)) source in
      none_by (overlaps q) (owned j) (λ x k. flipped x q (none_of (overlaps x) (sources image) q (unheld j x i k) named))

  -- a record or a mark stands at the path
  abbrev IsTaken : Path → Type 0
  IsTaken q = (stands (image.kept q) || image.marked q) ≡ true

  free_spot : (j : Job) (s : Path × Bool) (q : Path) → IsIn js j → IsIn (spots j) s → IsTaken q → hinders image s q ≡ false
  free_spot j s q i k known =
      spot_free image [] (flat_map spots js) (derived_clear flow image L targets js complete is) s q (in_flat spots js j s i k)
      (among_in image.known q (complete.known q (known_of (stands (image.kept q)) (image.marked q) (image.noted q) known)))

  -- a record or a mark that overlaps what a job makes or logs is that of an output of it
  pub no_clash : (j : Job) (q : Path) → IsIn js j → IsTaken q → list_any (overlaps q) (owned j) ≡ true → IsIn (out_paths j.recipe) q
  no_clash j q i known over =
      let x = some_of (overlaps q) (owned j) over in
      let back = overlaps_back q x.0 x.2 in
      elim (in_either x.0 (out_paths j.recipe) j.logs x.1) [
        | inl k ↦ subst (IsIn (out_paths j.recipe))
            (same_place x.0 q
            (own_spot (overlaps x.0 q) (image.noted q) (has_record_or_mark image q) (bytes_eq x.0 q)
            (free_spot j (x.0, true) q i (output_in_spots j x.0 k) known) back known)) k
        | inr k ↦ absurd (log_spot (overlaps x.0 q) (image.noted q) (has_record_or_mark image q) (bytes_eq x.0 q)
            (free_spot j (x.0, false) q i (log_in_spots j x.0 k) known) back known)
      ]

  -- what a job makes and logs is apart by itself
  pub own_apart : (j : Job) → IsIn js j → are_apart (owned j) ≡ true
  own_apart j i = subst (λ ps. are_apart ps ≡ true) (spots_places j) (apart_spots (spots j) (one_spots js j all_apart i))

  -- and from what another job makes and logs
  pub owned_between : (f : Job → Bool) (j k : Job) → IsIn js j → IsIn js k → f j ≡ true → f k ≡ false → any_overlap (owned j) (owned k) ≡ false
  owned_between f j k i l a b = each_apart (owned j) (owned k) (λ x y ix iy.
      let s = spot_of j x ix in
      let u = spot_of k y iy in flipped y x (spots_between f js j k (x, s.0) (y, u.0) all_apart i l a b s.1 u.1))

  -- what a job owns overlaps nothing that another one makes, members included
  pub made_clear : (m j : Job) (q x : Path) → IsIn js m → IsIn js j → makes m q ≡ true → makes j q ≡ false → IsIn (owned j) x → overlaps x q ≡ false
  made_clear m j q x im ij here never ix =
      let o = makes_above m q here in
      let s = spot_of j x ix in
      apart_above x q o.0 o.2 (spots_between (λ k. makes k q) js m j (o.0, true) (x, s.0) all_apart im ij here never (output_in_spots m o.0 o.1) s.1)
