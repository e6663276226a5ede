-- Without a Clash the outputs of a plan lie apart from one another and from what is known at other paths.
use Rattle.std.proofs.Common.{◌≡◌, ◌⊎◌, Bool, true, false, not, cond, ◌&&◌, ◌||◌, List, [], ◌∷◌, ◌++◌, map, filter, flat_map, find, zip, refl, sym, ap, subst, inl, inr, ◌∙◌, Option, Some, None, is_some, true≢false}
use Rattle.std.specs.Prelude.{bytes_eq}
use Rattle.smk_laws_plan.proofs.CurrentLists.{In, in_left, in_right, in_map, in_flat, filter_nil, map_nil, append_nil_left, append_nil_right, find_in, or_cases, or_first, clash_of, and_both, none_some, or_right}
use Rattle.smk_laws_plan.proofs.CurrentPaths.{Touch, touch_overlaps, touch_turned, Above, above_touch, among_in}
use Rattle.smk_laws_plan.proofs.CurrentChosen.{folders_paths}
use Rattle.smk_base.proofs.Places.{same_place}
use Rattle.smk_base.specs.Path.{is_under, overlaps}
use Rattle.smk_laws_plan.specs.Current.{IsComplete}
use Rattle.smk_chain.specs.Derive.{Clash, clashes, has_record_or_mark, hinders, spots}
use Rattle.smk_flow.specs.declared.job.Job.{Job}
use Rattle.smk_plan.specs.States.{makes}
use Rattle.smk_record.specs.declared.record.Record.{Record}
use Rattle.smk_store.specs.Images.{Image, readable, record_at, stands}
use Rattle.smk_store.specs.declared.store.Kept.{Kept}
use Rattle.smk_world.specs.Trees.{Path, among, folder_over, folders_of}
use Rattle.smk_world.specs.World.{out_paths}

abbrev pub Spot : Type 0
Spot = Path × Bool

abbrev pub SpotsApart : List Spot → Type 0
SpotsApart [] = Unit {0}
SpotsApart (s ∷ ss) = ((t : Spot) → In t ss → overlaps t.0 s.0 ≡ false) × SpotsApart ss

module _ (image : Image) where
  clash_split :
      (earlier : List Path) (s : Spot) (rest : List Spot) → clashes image earlier (s ∷ rest) ≡ [] →
      (filter (overlaps s.0) earlier ≡ []) × (filter (hinders image s) (image.known) ≡ []) × (clashes image (earlier ++ s.0 ∷ []) rest ≡ [])
  clash_split earlier s rest h =
      let both_nil = map_nil (Clash s.0) (filter (overlaps s.0) earlier ++ filter (hinders image s) (image.known)) (append_nil_left _ _ h) in
      (append_nil_left _ _ both_nil, append_nil_right (filter (overlaps s.0) earlier) _ both_nil, append_nil_right (map (Clash s.0) (filter (overlaps s.0) earlier ++ filter (hinders image s) (image.known))) _ h)

  clash_earlier :
      (earlier : List Path) (spots : List Spot) → clashes image earlier spots ≡ [] →
      (t : Spot) (e : Path) → In t spots → In e earlier → overlaps t.0 e ≡ false
  clash_earlier earlier [] h t e i k = absurd i
  clash_earlier earlier (s ∷ rest) h t e (inl same) k =
      subst (λ (u : Spot). overlaps u.0 e ≡ false) (sym same) (filter_nil (overlaps s.0) earlier e ((clash_split earlier s rest h).0) k)
  clash_earlier earlier (s ∷ rest) h t e (inr i) k =
      clash_earlier (earlier ++ s.0 ∷ []) rest ((clash_split earlier s rest h).2) t e i (in_left e earlier (s.0 ∷ []) k)

  pub spots_apart : (earlier : List Path) (spots : List Spot) → clashes image earlier spots ≡ [] → SpotsApart spots
  spots_apart earlier [] h = tt
  spots_apart earlier (s ∷ rest) h =
      let later = (clash_split earlier s rest h).2 in
      (λ t i. clash_earlier (earlier ++ s.0 ∷ []) rest later t s.0 i (in_right s.0 earlier (s.0 ∷ []) (inl refl)), spots_apart (earlier ++ s.0 ∷ []) rest later)

  pub spot_free :
      (earlier : List Path) (spots : List Spot) → clashes image earlier spots ≡ [] →
      (s : Spot) (q : Path) → In s spots → In q (image.known) → hinders image s q ≡ false
  spot_free earlier [] h s q i k = absurd i
  spot_free earlier (t ∷ rest) h s q (inl same) k =
      subst (λ (u : Spot). hinders image u q ≡ false) (sym same) (filter_nil (hinders image t) (image.known) q ((clash_split earlier t rest h).1) k)
  spot_free earlier (t ∷ rest) h s q (inr i) k = spot_free (earlier ++ t.0 ∷ []) rest ((clash_split earlier t rest h).2) s q i k

-- ## The outputs of jobs

abbrev pub Apart : List Path → Type 0
Apart [] = Unit {0}
Apart (p ∷ ps) = ((q : Path) → In q ps → overlaps q p ≡ false) × Apart ps

abbrev pub JobsApart : List Job → Type 0
JobsApart [] = Unit {0}
JobsApart (j ∷ js) =
    ((k : Job) (p q : Path) → In k js → In p (out_paths j.recipe) → In q (out_paths k.recipe) → overlaps q p ≡ false)
    × Apart (out_paths j.recipe)
    × JobsApart js

pub spots_append : (xs ys : List Spot) → SpotsApart (xs ++ ys) → SpotsApart xs × SpotsApart ys × ((s t : Spot) → In s xs → In t ys → overlaps t.0 s.0 ≡ false)
spots_append [] ys h = (tt, h, λ s t i k. absurd i)
spots_append (x ∷ xs) ys h =
    let r = spots_append xs ys h.1 in
    ((λ t i. h.0 t (in_left t xs ys i), r.0), r.1, λ s t i k. pick s t i k r.2)
  where
    pick : (s t : Spot) → In s (x ∷ xs) → In t ys → ((s t : Spot) → In s xs → In t ys → overlaps t.0 s.0 ≡ false) → overlaps t.0 s.0 ≡ false
    pick s t (inl e) k ih = subst (λ (u : Spot). overlaps t.0 u.0 ≡ false) (sym e) (h.0 t (in_right t xs ys k))
    pick s t (inr i) k ih = ih s t i k

paths_apart : (ps : List Path) → SpotsApart (map (λ p. (p, true)) ps) → Apart ps
paths_apart [] h = tt
paths_apart (p ∷ ps) h = (λ q i. h.0 (q, true) (in_map (λ p. (p, true)) ps q i), paths_apart ps h.1)

pub output_spot : (j : Job) (p : Path) → In p (out_paths j.recipe) → In (p, true) (spots j)
output_spot j p h = in_left (p, true) (map (λ p. (p, true)) (out_paths j.recipe)) (map (λ p. (p, false)) j.logs) (in_map (λ p. (p, true)) (out_paths j.recipe) p h)

pub jobs_apart : (js : List Job) → SpotsApart (flat_map spots js) → JobsApart js
jobs_apart [] h = tt
jobs_apart (j ∷ js) h =
    let r = spots_append (spots j) (flat_map spots js) h in (
      λ k p q i a b. r.2 (p, true) (q, true) (output_spot j p a) (in_flat spots js k (q, true) i (output_spot k q b)),
      paths_apart (out_paths j.recipe) ((spots_append (map (λ p. (p, true)) (out_paths j.recipe)) (map (λ p. (p, false)) j.logs) r.0).0),
      jobs_apart js r.1,
    )

pub own_apart : (js : List Job) (j : Job) → JobsApart js → In j js → Apart (out_paths j.recipe)
own_apart [] j h i = absurd i
own_apart (k ∷ js) j h (inl e) = subst (λ (x : Job). Apart (out_paths x.recipe)) (sym e) h.1
own_apart (k ∷ js) j h (inr i) = own_apart js j h.2 i

-- two outputs of one job that touch are one
pub apart_same : (ps : List Path) (a b : Path) → Apart ps → In a ps → In b ps → Touch a b → a ≡ b
apart_same [] a b h i k t = absurd i
apart_same (p ∷ ps) a b h (inl e) (inl f) t = e ∙ sym f
apart_same (p ∷ ps) a b h (inl e) (inr k) t = absurd (clash_of (overlaps b p) (touch_overlaps b p (touch_turned p b (subst (λ c. Touch c b) e t))) (h.0 b k))
apart_same (p ∷ ps) a b h (inr i) (inl f) t = absurd (clash_of (overlaps a p) (touch_overlaps a p (subst (Touch a) f t)) (h.0 a i))
apart_same (p ∷ ps) a b h (inr i) (inr k) t = apart_same ps a b h.1 i k t

-- ## The one maker

pub makes_above : (j : Job) (q : Path) → makes j q ≡ true → (o : Path) × In o (out_paths j.recipe) × Above q o
makes_above j q h = go (or_cases (among (out_paths j.recipe) q) (is_some (folder_over j.recipe q)) h)
  where
    over : (o : Option Path) → folder_over j.recipe q ≡ o → is_some o ≡ true → (o : Path) × In o (out_paths j.recipe) × Above q o
    over None e k = absurd (true≢false (sym k))
    over (Some f) e k = let r = find_in (is_under q) (folders_of j.recipe) f e in (f, folders_paths j.recipe f r.0, inr r.1)

    go : (among (out_paths j.recipe) q ≡ true) ⊎ (is_some (folder_over j.recipe q) ≡ true) → (o : Path) × In o (out_paths j.recipe) × Above q o
    go (inl k) = (q, among_in (out_paths j.recipe) q k, inl refl)
    go (inr k) = over (folder_over j.recipe q) refl k

pub maker_found :
    {B : Type 0} (f : Job → B) (js : List Job) (j : Job) (q : Path) → JobsApart js → In j js → makes j q ≡ true →
    find (λ (e : Job × B). makes e.0 q) (zip js (map f js)) ≡ Some (j, f j)
maker_found f [] j q h i m = absurd i
maker_found {B} f (k ∷ js) j q h i m = go (makes k q) refl i (λ i. maker_found f js j q h.2 i m)
  where
    same_head : In j (k ∷ js) → makes k q ≡ true → j ≡ k
    same_head (inl e) n = e
    same_head (inr i) n =
        let a = makes_above k q n in
        let b = makes_above j q m in
        absurd (clash_of (overlaps b.0 a.0) (touch_overlaps b.0 a.0 (above_touch q b.0 a.0 b.2 a.2)) (h.0 j a.0 b.0 i a.1 b.1))

    in_tail : In j (k ∷ js) → makes k q ≡ false → In j js
    in_tail (inl e) n = absurd (clash_of (makes k q) (subst (λ (x : Job). makes x q ≡ true) e m) n)
    in_tail (inr i) n = i

    go : (b : Bool) → makes k q ≡ b → In j (k ∷ js) → (In j js → find (λ (e : Job × B). makes e.0 q) (zip js (map f js)) ≡ Some (j, f j)) → cond b (Some (k, f k)) (find (λ (e : Job × B). makes e.0 q) (zip js (map f js))) ≡ Some (j, f j)
    go true n i ih = ap (λ x. Some (x, f x)) (sym (same_head i n))
    go false n i ih = ih (in_tail i n)

-- ## What is known

pub same_trans : (x y z : Path) → bytes_eq x y ≡ true → bytes_eq y z ≡ true → bytes_eq x z ≡ true
same_trans x y z h k = subst (λ w. bytes_eq x w ≡ true) (same_place y z k) h

module _ (image : Image) where
  pub record_stands : IsComplete image → (q : Path) (r : Record) → record_at image q ≡ Some r → (stands (image.kept q) ≡ true) × In q image.known
  record_stands complete q r h =
      let s = held (image.kept q) h in
      (s, among_in image.known q (complete.known q (or_first (stands (image.kept q)) (image.marked q || image.noted q) s)))
    where
      held : (k : Kept) → readable k ≡ Some r → stands k ≡ true
      held Kept.Absent e = absurd (none_some None r refl e)
      held Kept.Unreadable e = absurd (none_some None r refl e)
      held (Kept.Held s) e = refl

  -- a record at a path that touches an output stands at this output
  pub record_at_output :
      IsComplete image → (js : List Job) → clashes image [] (flat_map spots js) ≡ [] → (j : Job) → In j js → (o : Path) → In o (out_paths j.recipe) →
      (q : Path) (r : Record) → record_at image q ≡ Some r → Touch o q → o ≡ q
  record_at_output complete js h j i o k q r e t =
      let s = record_stands complete q r e in
      let free = spot_free image [] (flat_map spots js) h (o, true) q (in_flat spots js j (o, true) i (output_spot j o k)) s.1 in
      go (bytes_eq o q) refl (and_right_false (overlaps o q) _ (touch_overlaps o q t) free) s.0
    where
      and_right_false : (a b : Bool) → a ≡ true → (a && b) ≡ false → b ≡ false
      and_right_false true b x y = y
      and_right_false false b x y = absurd (true≢false (sym x))

      go : (b : Bool) → bytes_eq o q ≡ b → (image.noted q || (has_record_or_mark image q && not b)) ≡ false → stands (image.kept q) ≡ true → o ≡ q
      go true is free st = same_place o q is
      go false is free st =
          absurd (clash_of _ (and_both (has_record_or_mark image q) true (or_first (stands (image.kept q)) (image.marked q) st) refl) (or_right (image.noted q) _ free))
