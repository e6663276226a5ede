-- Where the calls with which a job begins are, and what is off them.
use Rattle.std.proofs.Common.{◌≡◌, ◌⊎◌, inl, inr, ℕ, true, false, List, [], ◌∷◌, ◌++◌, map, refl, subst, sym}
use Rattle.smk_base.specs.Path.{is_at_or_under, is_path, overlaps, own_folder}
use Rattle.smk_base.specs.Place.{mark_place, note_place, record_place}
use Rattle.smk_base.proofs.Apart.{IsApart, apart_flipped, mark-mark, mark-note, path-mark, path-record, record-mark, record-note}
use Rattle.smk_base.proofs.Under.{at_or_under_further, false_unless, never_both, or_second}
use Rattle.smk_world.specs.Requests.Request.{Settle, Start}
use Rattle.smk_world.specs.Trees.{Each, IsIn, Path, among}
use Rattle.smk_world.specs.World.{is_above, is_within, out_paths}
use Rattle.smk_flow.specs.declared.job.Job.{Job}
use Rattle.smk_store.specs.Steps.{make_each, mark_requests, places_of, remove_each}
use Rattle.smk_job.specs.Jobs.{begin_requests, clear_requests, parents_each}
use Rattle.smk_job.proofs.Firmly.{clear_off, keeps_append}
use Rattle.smk_job.proofs.Single.{KeepsOff}
use Rattle.smk_run.proofs.Calls.{each_append}
use Rattle.smk_laws_plan.proofs.CurrentLists.{in_either, in_left, in_map, in_right, map_in}
use Rattle.smk_laws_plan.proofs.CurrentPaths.{in_among}
use Rattle.smk_laws_protocol.proofs.Basics.{each_in, each_of}
use Rattle.smk_laws_moments.specs.Owning.{sites}
use Rattle.smk_laws_turns.proofs.Requests.{settles_apart}
use Rattle.smk_laws_turns.specs.Off.{IsOff}
use Rattle.smk_laws_turns.proofs.BegunCalls.{AreFree, IsCallAt, both_false}
use Rattle.smk_laws_turns.proofs.JobPaths.{owned}
use Rattle.smk_laws_turns.proofs.Ours.{within_some}

-- ## Calls at places

makes_at : (all ps : List Path) → ((p : Path) → IsIn ps p → IsIn all p) → Each (IsCallAt all) (make_each ps)
makes_at all [] at = tt
makes_at all (p ∷ ps) at = (at p (inl refl), (at p (inl refl), makes_at all ps (λ q i. at q (inr i))))

removes_at : (all ps : List Path) → ((p : Path) → IsIn ps p → IsIn all p) → Each (IsCallAt all) (remove_each ps)
removes_at all [] at = tt
removes_at all (p ∷ ps) at = (at p (inl refl), removes_at all ps (λ q i. at q (inr i)))

parents_at : (all ps : List Path) → ((p : Path) → IsIn ps p → IsIn all p) → Each (IsCallAt all) (parents_each ps)
parents_at all [] at = tt
parents_at all (p ∷ ps) at = (at p (inl refl), parents_at all ps (λ q i. at q (inr i)))

makes_keep : (ps : List Path) (q : Path) → ((p : Path) → IsIn ps p → IsApart p q) → KeepsOff (make_each ps) q
makes_keep [] q apart = tt
makes_keep (p ∷ ps) q apart = ((apart p (inl refl)).under, ((apart p (inl refl)).differed, makes_keep ps q (λ x i. apart x (inr i))))

within_right : (ps qs : List Path) (q : Path) → is_within q qs ≡ true → is_within q (ps ++ qs) ≡ true
within_right [] qs q h = h
within_right (p ∷ ps) qs q h = or_second (is_at_or_under q p) (is_within q (ps ++ qs)) (within_right ps qs q h)

-- what is outside of the engine's folder is under nothing in it
outside_own :
    (ps : List Path) (q : Path) → is_at_or_under q own_folder ≡ false → ((p : Path) → IsIn ps p → is_at_or_under p own_folder ≡ true) →
    is_within q ps ≡ false
outside_own ps q outside inside =
    false_unless (is_within q ps)
    (λ t. let p = within_some ps q t in
    never_both (is_at_or_under q own_folder) (at_or_under_further q p.0 own_folder p.2 (inside p.0 p.1)) outside)

module _ (j : Job) where
  abbrev pub outs : List Path
  outs = out_paths j.recipe

  abbrev pub marking : List Path
  marking = map mark_place outs ++ map note_place j.logs

  -- where the calls are with which it begins
  abbrev pub touched : List Path
  touched = marking ++ owned j

  pub begin_at : (command : List ℕ) → Each (IsCallAt touched) (begin_requests j.recipe j.logs command)
  begin_at command =
      each_append (IsCallAt touched) (mark_requests (places_of outs j.logs) ++ clear_requests outs (owned j)) (Start j.recipe j.logs command ∷ [])
      (each_append (IsCallAt touched) (make_each marking ++ Settle marking ∷ []) (remove_each outs ++ parents_each (owned j))
      (each_append (IsCallAt touched) (make_each marking) (Settle marking ∷ []) (makes_at touched marking (λ p i. in_left p marking (owned j) i)) (tt, tt))
      (each_append (IsCallAt touched) (remove_each outs) (parents_each (owned j))
      (removes_at touched outs (λ p i. in_right p marking (owned j) (in_left p outs j.logs i)))
      (parents_at touched (owned j) (λ p i. in_right p marking (owned j) i))))
      (λ q h. within_right marking (owned j) q h, tt)

  -- ## What is free of them

  -- what is so of outputs, logs, marks and notes
  pub all_touched :
      (P : Path → Type 0) → ((p : Path) → IsIn (owned j) p → P p) → ((p : Path) → IsIn outs p → P (mark_place p)) →
      ((p : Path) → IsIn j.logs p → P (note_place p)) → (p : Path) → IsIn touched p → P p
  all_touched P own mark note p i = go (in_either p marking (owned j) i)
    where
      at : IsIn (map mark_place outs) p ⊎ IsIn (map note_place j.logs) p → P p
      at (inl m) = let x = map_in mark_place outs p m in subst P (sym x.2) (mark x.0 x.1)
      at (inr n) = let x = map_in note_place j.logs p n in subst P (sym x.2) (note x.0 x.1)

      go : IsIn marking p ⊎ IsIn (owned j) p → P p
      go (inl m) = at (in_either p (map mark_place outs) (map note_place j.logs) m)
      go (inr o) = own p o

  abbrev records : List Path
  records = map record_place outs

  abbrev rest : List Path
  rest = map mark_place outs ++ (records ++ map note_place j.logs)

  touched_site : (p : Path) → IsIn touched p → IsIn (sites j) p
  touched_site p i =
      all_touched (IsIn (sites j)) own
      (λ q k. in_left (mark_place q) (outs ++ rest) j.logs
      (in_right (mark_place q) outs rest (in_left (mark_place q) (map mark_place outs) (records ++ map note_place j.logs) (in_map mark_place outs q k))))
      (λ q k. in_left (note_place q) (outs ++ rest) j.logs
      (in_right (note_place q) outs rest
      (in_right (note_place q) (map mark_place outs) (records ++ map note_place j.logs)
      (in_right (note_place q) records (map note_place j.logs) (in_map note_place j.logs q k)))))
      p i
    where
      own : (q : Path) → IsIn (owned j) q → IsIn (sites j) q
      own q k = go (in_either q outs j.logs k)
        where
          go : IsIn outs q ⊎ IsIn j.logs q → IsIn (sites j) q
          go (inl o) = in_left q (outs ++ rest) j.logs (in_left q outs rest o)
          go (inr l) = in_right q (outs ++ rest) j.logs l

  -- what is off the job
  pub free_off : (p : Path) → IsOff j p → AreFree p touched
  free_off p off =
      each_of (λ s. overlaps s p ≡ false) touched (λ s i. each_in (λ s. overlaps s p ≡ false) (sites j) s off (touched_site s i))

  module _ (paths : Each (λ q. is_path q ≡ true) (owned j)) where
    its_path : (p : Path) → IsIn (owned j) p → is_path p ≡ true
    its_path p i = each_in (λ q. is_path q ≡ true) (owned j) p paths i

    -- all records
    pub free_record : (p : Path) → AreFree (record_place p) touched
    free_record p =
        each_of (λ s. overlaps s (record_place p) ≡ false) touched
        (λ s i. all_touched (λ x. overlaps x (record_place p) ≡ false) (λ q k. (path-record q p (its_path q k)).overlap)
        (λ q k. (record-mark p q).overlapped) (λ q k. (record-note p q).overlapped) s i)

    -- marks of other paths
    pub mark_apart : (p : Path) → among outs p ≡ false → (s : Path) → IsIn touched s → IsApart s (mark_place p)
    mark_apart p out s i =
        all_touched (λ x. IsApart x (mark_place p)) (λ q k. path-mark q p (its_path q k)) (λ q k. mark-mark q p (another q k))
        (λ q k. apart_flipped (mark_place p) (note_place q) (mark-note p q)) s i
      where
        another : (q : Path) → IsIn outs q → q ≡ p → ⊥
        another q k same = never_both (among outs p) (subst (λ x. among outs x ≡ true) same (in_among outs q k)) out

    -- they are left just as they are
    pub mark_kept : (command : List ℕ) (p : Path) → among outs p ≡ false → KeepsOff (begin_requests j.recipe j.logs command) (mark_place p)
    mark_kept command p out =
        let apart = mark_apart p out in
        let signs : (s : Path) → IsIn marking s → IsApart s (mark_place p) = λ s i. apart s (in_left s marking (owned j) i) in
        let own : (s : Path) → IsIn (owned j) s → IsApart s (mark_place p) = λ s i. apart s (in_right s marking (owned j) i) in
        let firm = settles_apart p marking (λ s i. apart_flipped s (mark_place p) (signs s i)) in
        keeps_append (mark_requests (places_of outs j.logs) ++ clear_requests outs (owned j)) (Start j.recipe j.logs command ∷ []) (mark_place p)
        (keeps_append (make_each marking ++ Settle marking ∷ []) (clear_requests outs (owned j)) (mark_place p)
        (keeps_append (make_each marking) (Settle marking ∷ []) (mark_place p) (makes_keep marking (mark_place p) signs)
        (both_false (is_within (mark_place p) marking) (is_above (mark_place p) marking) firm.0 firm.1, tt))
        (clear_off outs (owned j) (mark_place p) (each_of (λ s. IsApart s (mark_place p)) outs (λ s i. own s (in_left s outs j.logs i)))
        (each_of (λ s. IsApart s (mark_place p)) (owned j) own)))
        (never_in (mark_place p) (owned j) own, tt)
      where
        never_in : (q : Path) (ps : List Path) → ((s : Path) → IsIn ps s → IsApart s q) → is_within q ps ≡ false
        never_in q ps apart =
            false_unless (is_within q ps) (λ t. let s = within_some ps q t in never_both (is_at_or_under q s.0) s.2 (apart s.0 s.1).at_or_over)

  -- a place outside of the engine's folder is at or under none but outputs and logs
  pub signs_inside : (q : Path) → is_at_or_under q own_folder ≡ false → is_within q marking ≡ false
  signs_inside q outside = outside_own marking q outside inside
    where
      inside : (p : Path) → IsIn marking p → is_at_or_under p own_folder ≡ true
      inside p i = go (in_either p (map mark_place outs) (map note_place j.logs) i)
        where
          go : IsIn (map mark_place outs) p ⊎ IsIn (map note_place j.logs) p → is_at_or_under p own_folder ≡ true
          go (inl m) = let x = map_in mark_place outs p m in subst (λ z. is_at_or_under z own_folder ≡ true) (sym x.2) refl
          go (inr n) = let x = map_in note_place j.logs p n in subst (λ z. is_at_or_under z own_folder ≡ true) (sym x.2) refl
