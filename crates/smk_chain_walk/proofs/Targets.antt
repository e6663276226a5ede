-- A walk from each target, one after another.
use Rattle.std.proofs.Common.{◌≡◌, ◌∙◌, ℕ, zero, suc, ◌<◌, ◌≤◌, eqb, false, List, [], ◌∷◌, ◌++◌, map, length, take, get_or, Ok, Err, refl, sym, ap, subst, arith}
use Rattle.std.specs.List.{flat_map, AllByRecursion}
use Rattle.std.proofs.lemmas.List.Concat.{flat_map-append}
use Rattle.smk_world.specs.Trees.{Path}
use Rattle.smk_flow.specs.Flows.{Flow, Candidate}
use Rattle.smk_choose.specs.declared.table.Choices.{Choices}
use Rattle.smk_choose.specs.Choose.{Sources}
use Rattle.smk_choose.specs.Told.{Covers, CoversAll}
use Rattle.smk_chain.specs.declared.fault.ChainFault.{ChainFault}
use Rattle.smk_chain.specs.declared.jobs.Jobs.{Jobs}
use Rattle.smk_chain.specs.Derive.{Listings, height, refused, job, jobs, wants, chosen}
use Rattle.std.specs.Prelude.{is_some, true}
use Rattle.indexmap.specs.IndexMap.{values}
use Rattle.smk_pattern.specs.Shapes.{Text}
use Rattle.smk_chain_walk.specs.Links.{AreLinked, AreOnce, AreLower, maker_told}
use Rattle.smk_chain.specs.Told.{TellsFirst}
use Rattle.smk_chain_walk.specs.declared.reached.Reached.{Reached}
use Rattle.smk_chain_walk.specs.Numbers.{all_added}
use Rattle.smk_chain_walk.specs.Steps.{Fits, refused_for, called_for, done_at, is_done, Holds, Walked}
use Rattle.smk_chain_walk.proofs.Links.{told_is, once_is}
use Rattle.smk_chain_walk.proofs.Depths.{all_map, fits_shallow, refused_all, called_all, all_push, flat_push}
use Rattle.smk_chain_walk.proofs.Adding.{all_added_append, distinct_is}
use Rattle.smk_chain_walk.proofs.Visiting.{tells_in}

pub split_of : {A : Type 0} (xs : List A) (i : ℕ) (x : A) → i < length xs → x ≡ get_or xs i x → (rest : List A) × (xs ≡ take i xs ++ x ∷ rest)
split_of [] i x lt e = absurd (omega arith)
split_of (y ∷ xs) zero x lt e = (xs, ap (λ z. z ∷ xs) (sym e))
split_of (y ∷ xs) (suc i) x lt e = let r = split_of xs i x (omega arith) e in (r.0, ap (λ ys. y ∷ ys) r.1)

pub take_of : {A : Type 0} (xs : List A) (i : ℕ) (x : A) → i < length xs → x ≡ get_or xs i x → take i xs ++ x ∷ [] ≡ take (suc i) xs
take_of [] i x lt e = absurd (omega arith)
take_of (y ∷ xs) zero x lt e = ap (λ z. z ∷ []) e
take_of (y ∷ xs) (suc i) x lt e = ap (λ ys. y ∷ ys) (take_of xs i x (omega arith) e)

pub all_of : {A : Type 0} (P : A → Type 0) (xs : List A) (i : ℕ) (x : A) → i < length xs → x ≡ get_or xs i x → AllByRecursion P xs → P x
all_of P [] i x lt e h = absurd (omega arith)
all_of P (y ∷ xs) zero x lt e h = subst P (sym e) h.0
all_of P (y ∷ xs) (suc i) x lt e h = all_of P xs i x (omega arith) e h.1

pub take_whole : {A : Type 0} (xs : List A) (i : ℕ) → length xs ≤ i → take i xs ≡ xs
take_whole [] zero h = refl
take_whole [] (suc i) h = refl
take_whole (x ∷ xs) zero h = absurd (omega arith)
take_whole (x ∷ xs) (suc i) h = ap (λ ys. x ∷ ys) (take_whole xs i (omega arith))

module _ (flow : Flow) (sources : Sources) (L : Listings) where
  -- nothing was refused of these targets, and what they call for was reached
  abbrev pub Reaches : Reached → List Path → Type 0
  Reaches now ts = (flat_map (refused_for flow sources L) ts ≡ []) × Holds flow sources L now (all_added [] (flat_map (called_for flow sources L) ts))
      × AllByRecursion (λ t. is_done now t ≡ true) ts

  pub target_on : (now new : Reached) (ts : List Path) (i : ℕ) (t : Path) → i < length ts → t ≡ get_or ts i t → Reaches now (take i ts) → Walked flow sources L now new t (Ok tt) → Reaches new (take (suc i) ts)
  target_on now new ts i t lt at so walked =
      let front = take i ts in
      let k = walked (all_added [] (flat_map (called_for flow sources L) front)) so.1 in
      subst (Reaches new) (take_of ts i t lt at) (
        flat_push (refused_for flow sources L) front t ∙ ap (λ rs. rs ++ refused_for flow sources L t) so.0 ∙ k.0,
        subst (λ xs. Holds flow sources L new (all_added [] xs)) (sym (flat_push (called_for flow sources L) front t))
            (subst (Holds flow sources L new) (sym (all_added_append [] (flat_map (called_for flow sources L) front) (called_for flow sources L t))) k.1),
        all_push (λ x. is_done new x ≡ true) front t (all_map (λ x. is_done now x ≡ true) (λ x. is_done new x ≡ true) (λ x e. k.3 x e) front so.2) k.2,
      )

  pub target_stop : (now new : Reached) (ts : List Path) (i : ℕ) (t : Path) (f : ChainFault) → i < length ts → t ≡ get_or ts i t → Reaches now (take i ts) → Walked flow sources L now new t (Err f) →
      TellsFirst flow (flat_map (refused flow sources L 201) ts) f
  target_stop now new ts i t f lt at so walked =
      let r = split_of ts i t lt at in
      let ask = refused_for flow sources L in
      let whole : flat_map (refused flow sources L 201) ts ≡ flat_map ask (take i ts) ++ (ask t ++ flat_map ask r.0) =
      refused_all flow sources L ts ∙ ap (flat_map ask) r.1 ∙ flat_map-append ask (take i ts) (t ∷ r.0) in
      subst (λ rs. TellsFirst flow rs f) (sym whole)
      (tells_in flow (flat_map ask (take i ts)) (ask t) (flat_map ask r.0) f so.0 (walked (all_added [] (flat_map (called_for flow sources L) (take i ts))) so.1))

  pub target_none : (now : Reached) (ts : List Path) → Reaches now ts → flat_map (refused flow sources L 201) ts ≡ []
  target_none now ts so = refused_all flow sources L ts ∙ so.0

  pub target_jobs : (now : Reached) (ts : List Path) → Reaches now ts → now.jobs ≡ jobs flow sources L ts
  target_jobs now ts so =
      so.1.jobs ∙ ap (map (job flow L)) (ap (all_added []) (sym (called_all flow sources L ts)) ∙ sym (distinct_is (flat_map (Rattle.smk_chain.specs.Derive.walk flow sources L 200) ts)))

  pub target_fits : (ts : List Path) (i : ℕ) (t : Path) → i < length ts → t ≡ get_or ts i t → AllByRecursion (λ p. eqb (height flow sources L 201 p) 201 ≡ false) ts → Fits flow sources L 200 t
  target_fits ts i t lt at h = fits_shallow flow sources L t (all_of (λ p. eqb (height flow sources L 201 p) 201 ≡ false) ts i t lt at h)

  pub target_covers : (table : Choices) (ts : List Path) (i : ℕ) (t : Path) → i < length ts → t ≡ get_or ts i t → CoversAll flow sources table 201 ts → Covers flow sources table 201 t
  target_covers table ts i t lt at h = all_of (Covers flow sources table 201) ts i t lt at h

  pub chosen_is : (ts : List Path) → all_added [] (flat_map (called_for flow sources L) ts) ≡ chosen flow sources L ts
  chosen_is ts = ap (all_added []) (sym (called_all flow sources L ts)) ∙ sym (distinct_is (flat_map (Rattle.smk_chain.specs.Derive.walk flow sources L 200) ts))

  -- the links between the jobs of the targets
  pub target_links : (now : Reached) (ts : List Path) (made : Jobs) → made.makers ≡ values now.done → made.befores ≡ now.befores → Reaches now ts → AreLinked flow sources L ts made
  target_links now ts made makers befores so =
      let h = subst (Holds flow sources L now) (chosen_is ts) so.1 in
      let seen : (q : Path) → maker_told made.makers q ≡ done_at now q = λ q. ap (λ ms. maker_told ms q) makers ∙ told_is now.done.entries h.told.own q in
      record {
        once = subst AreOnce (sym makers) (once_is now.done.entries h.told);
        right = λ q number e. (h.done q number (sym (seen q) ∙ e)).is;
        all_targets = all_map (λ t. is_done now t ≡ true) (λ t. is_some (maker_told made.makers t) ≡ true) (λ t e. ap is_some (seen t) ∙ e) ts so.2;
        all_wants = all_map (λ (c : Candidate). AllByRecursion (λ (w : Text). is_done now w ≡ true) (wants flow L c)) (λ (c : Candidate). AllByRecursion (λ (w : Text). is_some (maker_told made.makers w) ≡ true) (wants flow L c))
            (λ c all. all_map (λ (w : Text). is_done now w ≡ true) (λ (w : Text). is_some (maker_told made.makers w) ≡ true) (λ w e. ap is_some (seen w) ∙ e) (wants flow L c) all) (chosen flow sources L ts) h.served;
        befores = befores ∙ h.befores;
        lower = subst (AreLower 0) (sym befores) h.lower;
      }
