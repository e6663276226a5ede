-- A child that is started has a number of its own, and its records can be written.
use Rattle.std.proofs.Common.{◌≡◌, ◌⊎◌, ℕ, Bool, true, false, not, List, [], ◌∷◌, ◌++◌, map, zip, cond, refl, sym, ap, subst, ◌∙◌, inl, inr, arith, eq-eqb, Option, Some, None, option_map, Ok, Err}
use Rattle.std.specs.Prelude.{Contains, if◌then◌else◌}
use Rattle.std.proofs.lemmas.List.Elements.{Contains-append_left, Contains-append_right, Contains-append_cases}
use Rattle.std.proofs.lemmas.Option.{same_Some}
use Rattle.smk_world.specs.declared.event.Call.{Call}
use Rattle.smk_world.specs.declared.event.Call.TheVariants.{Created, Looked, MadeParents, Protected, ReadFile, ReadFolder, Removed, Settled, Started, Waited, Written}
use Rattle.smk_world.specs.declared.event.Change.{Change}
use Rattle.smk_world.specs.declared.event.Event.{Event}
use Rattle.smk_world.specs.Calls.{Lets, started_number, started_numbers}
use Rattle.smk_world.specs.Runs.{Follows}
use Rattle.smk_world.specs.Trees.{Act, Each, IsIn, Path}
use Rattle.smk_world.specs.World.{World, after, numbers}
use Rattle.smk_record.specs.declared.record.Stamp.{Stamp}
use Rattle.smk_record.specs.declared.record.Stamp.TheVariants.{Sum, Time}
use Rattle.smk_store.specs.Images.{Content, Image, file_at, is_source, source_at}
use Rattle.smk_store.specs.Soundness.{SameSources, told}
use Rattle.smk_store.specs.Trust.{content_stamp, is_summed, stamp_now, sum_of}
use Rattle.smk_plan.specs.Summed.{has_other_time}
use Rattle.smk_laws_plan.proofs.CurrentMeaning.{source_stamp}
use Rattle.smk_laws_protocol.proofs.Basics.{each_of}
use Rattle.smk_laws_moments.proofs.Keeping.{zip_now}
use Rattle.smk_job.specs.Jobs.{Underway}
use Rattle.smk_laws_turns.specs.Hubs.{child_of}

-- ## Numbers

contains_before : (n : ℕ) (es fs : List Event) → Contains (started_numbers es) n → Contains (started_numbers (es ++ fs)) n
contains_before n [] fs h = absurd (omega (arith, h.1))
contains_before n (e ∷ es) fs h =
    elim (Contains-append_cases (started_number e.call) (started_numbers es) n h) [
      | inl k ↦ Contains-append_left (started_number e.call) (started_numbers (es ++ fs)) n k
      | inr k ↦ Contains-append_right (started_number e.call) (started_numbers (es ++ fs)) n (contains_before n es fs k)
    ]

-- a call starts no child; or one with a number that none has had
starts_one :
    (act : Act) (w : World) (call : Call) (left : List Change) → Lets act w call left →
    (started_number call ≡ []) ⊎ ((m : ℕ) × (started_number call ≡ m ∷ []) × (¬ (Contains (started_numbers w.log) m)))
starts_one act w (Started recipe logs command (Ok m)) left lets = inr (m, refl, lets.1)
starts_one act w (Started recipe logs command (Err e)) left lets = inl refl
starts_one act w (Looked p r) left lets = inl refl
starts_one act w (ReadFile p limit r) left lets = inl refl
starts_one act w (ReadFolder p r) left lets = inl refl
starts_one act w (Written p bytes r) left lets = inl refl
starts_one act w (Created p r) left lets = inl refl
starts_one act w (Removed p r) left lets = inl refl
starts_one act w (MadeParents p r) left lets = inl refl
starts_one act w (Settled ps r) left lets = inl refl
starts_one act w (Protected p r) left lets = inl refl
starts_one act w (Waited r) left lets = inl refl

first_is : {m n : ℕ} {ms ns : List ℕ} → m ∷ ms ≡ n ∷ ns → m ≡ n
first_is e = cc

-- the number of the one child that was started is new
pub number_is_new : (act : Act) (w : World) (es : List Event) (n : ℕ) → Follows act w es → started_numbers es ≡ n ∷ [] → ¬ (Contains (started_numbers w.log) n)
number_is_new act w [] n follows is = cc
number_is_new act w (e ∷ es) n follows is = go (starts_one act w e.call e.left follows.0.lets) (number_is_new act (after w e) es n follows.1)
  where
    go :
        (started_number e.call ≡ []) ⊎ ((m : ℕ) × (started_number e.call ≡ m ∷ []) × (¬ (Contains (started_numbers w.log) m))) →
        (started_numbers es ≡ n ∷ [] → ¬ (Contains (started_numbers (after w e).log) n)) → ¬ (Contains (started_numbers w.log) n)
    go (inl none) again = λ had. again (ap (λ ns. ns ++ started_numbers es) (sym none) ∙ is) (contains_before n w.log (e ∷ []) had)
    go (inr one) again =
        λ had. one.2 (subst (Contains (started_numbers w.log)) (sym (first_is (ap (λ ns. ns ++ started_numbers es) (sym one.1) ∙ is))) had)

-- the number of a child that runs
pub number_in : (gs : List Underway) (g : Underway) → IsIn gs g → Contains (numbers (map child_of gs)) g.number
number_in [] g i = absurd i
number_in (x ∷ gs) g (inl e) = (0, omega arith, ap (λ (y : Underway). y.number) (sym e))
number_in (x ∷ gs) g (inr i) = Contains-append_right (x.number ∷ []) (numbers (map child_of gs)) g.number (number_in gs g i)

-- ## Stamps

-- the time of a stamp of a file is the file's
own_time : (g : Content) (t : ℕ) → g.time ≡ t → has_other_time (content_stamp g) t ≡ false
own_time g t e = go (is_summed g.bytes)
  where
    go : (b : Bool) → has_other_time (if b then Sum g.time (sum_of g.bytes) else Time g.time) t ≡ false
    go true = ap not (eq-eqb g.time t e)
    go false = refl

same_told : (o p : Option Content) (f : Content) → option_map told o ≡ option_map told p → p ≡ Some f → (g : Content) × (o ≡ Some g) × (g.time ≡ f.time)
same_told None None f same is = cc
same_told None (Some c) f same is = cc
same_told (Some g) None f same is = cc
same_told (Some g) (Some c) f same is = (g, refl, ap (λ x. x.1) (same_Some (told g) (told c) same) ∙ ap (λ (x : Content). x.time) (same_Some c f is))

-- where a source stands there is a file, and it is a source
source_of : (image : Image) (q : Path) (g : Content) → source_at image q ≡ Some g → (is_source image q ≡ true) × (file_at image q ≡ Some g)
source_of image q g h = go (is_source image q) refl h
  where
    go : (b : Bool) → is_source image q ≡ b → cond b (file_at image q) None ≡ Some g → (is_source image q ≡ true) × (file_at image q ≡ Some g)
    go true e k = (e, k)
    go false e k = cc

-- stamps of now have the times of the sources that the run found
pub stamps_are_timed :
    (first image : Image) (ps : List Path) (stamps : List Stamp) → SameSources first image → map Some stamps ≡ map (stamp_now image) ps →
    Each (λ (x : Path × Stamp). (f : Content) → source_at first x.0 ≡ Some f → has_other_time x.1 f.time ≡ false) (zip ps stamps)
stamps_are_timed first image ps stamps same now =
    each_of (λ (x : Path × Stamp). (f : Content) → source_at first x.0 ≡ Some f → has_other_time x.1 f.time ≡ false) (zip ps stamps) (λ x i f found.
    let g = same_told (source_at image x.0) (source_at first x.0) f (same x.0) found in
    let is = source_of image x.0 g.0 g.1 in
    let stamp : x.1 ≡ content_stamp g.0 =
    same_Some x.1 (content_stamp g.0) (sym (zip_now (stamp_now image) ps stamps x.0 x.1 now i) ∙ source_stamp image x.0 g.0 is.0 is.1) in
    ap (λ s. has_other_time s f.time) stamp ∙ own_time g.0 f.time g.2)
