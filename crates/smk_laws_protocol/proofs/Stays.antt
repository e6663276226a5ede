-- What holds of an open job in every phase stays, as a job's event changes the world: of that job, and of one that it is apart from.
use Rattle.std.proofs.Common.{◌≡◌, ◌⊎◌, ℕ, true, false, List, [], ◌∷◌, ◌++◌, zip, refl, sym, ap, subst, inl, inr, ◌∙◌, Option, Some}
use Rattle.std.specs.Prelude.{bytes_eq, IsTrue, IsSome, is_some, if◌then◌else◌, find, reverse}
use Rattle.std.specs.List.{list_any}
use Rattle.smk_record.specs.declared.record.Stamp.{Stamp}
use Rattle.smk_record.specs.declared.record.Stamp.TheVariants.{Time, Sum, Made}
use Rattle.smk_record.specs.declared.record.Record.{Record}
use Rattle.smk_world.specs.Trees.{Path, among, IsIn}
use Rattle.smk_base.specs.Path.{overlaps}
use Rattle.smk_world.specs.World.{folders_above, in_paths, World, IsFormed}
use Rattle.smk_store.specs.Trust.{Versions, is_folder_record, Eased}
use Rattle.smk_laws_protocol.proofs.View.{kind_in, View, holder, is_source, source_at, is_whole}
use Rattle.smk_record.specs.Records.{stamped}
use Rattle.smk_laws_protocol.proofs.Views.{Nodes, EachImage, reads, view_of}
use Rattle.smk_store.specs.Soundness.{Outside}
use Rattle.smk_laws_protocol.specs.Protocol.{OpenJob, own, outputs, begun_with, record_of}
use Rattle.smk_laws_protocol.proofs.Rows.{now, IsAtHand}
use Rattle.smk_laws_protocol.proofs.Between.{Fits, HasSources, HasNoClash, HasNoRecordClash, IsUnnamed, IsUnused}
use Rattle.smk_laws_protocol.proofs.Basics.{each_in, each_of, in_among, any_by, by_test, clash}
use Rattle.smk_laws_protocol.proofs.Holders.{holder_over, found_same, IsOver}
use Rattle.smk_laws_protocol.proofs.Crux.{whole_on}
use Rattle.smk_laws_protocol.proofs.Events.{same_source}
use Rattle.smk_laws_protocol.proofs.Change.{Change, Differs, IsOwner}
use Rattle.smk_laws_protocol.proofs.Like.{like_named}
use Rattle.smk_laws_protocol.proofs.Moves.{Counted}
use Rattle.smk_laws_protocol.proofs.Naming.{NamesLaws, IsWide, each_image, of_wide, now_image}
use Rattle.smk_base.proofs.Places.{place_itself}
use Rattle.smk_laws_protocol.proofs.Texts.{OverlapLaws}

-- of the job itself, and of a job that it is apart from
pub record Meets (j k : OpenJob) : Type 0 where
  pub clash : (q : Path) → IsIn (outputs j) q → list_any (overlaps q) (own k) ≡ true → IsIn (outputs k) q
  pub unnamed : k.kept ≡ [] → (x : Path) → IsIn (begun_with j) (x, Made k.serial) → ⊥
  pub unused : k.kept ≡ [] → j.serial ≡ k.serial → (q : Path) → IsIn (outputs j) q → IsIn (outputs k) q
  pub inputs : (q : Path) → IsIn (in_paths k.recipe) q → list_any (overlaps q) (own j) ≡ false

pub in_left : {A : Type 0} (xs ys : List A) (x : A) → IsIn xs x → IsIn (xs ++ ys) x
in_left [] ys x i = absurd i
in_left (y ∷ xs) ys x (inl e) = inl e
in_left (y ∷ xs) ys x (inr i) = inr (in_left xs ys x i)

pub in_right : {A : Type 0} (xs ys : List A) (x : A) → IsIn ys x → IsIn (xs ++ ys) x
in_right [] ys x i = i
in_right (y ∷ xs) ys x i = inr (in_right xs ys x i)

pub in_zip : {A B : Type 0} (xs : List A) (ys : List B) (x : A) (y : B) → IsIn (zip xs ys) (x, y) → IsIn xs x
in_zip [] ys x y i = absurd i
in_zip (z ∷ xs) [] x y i = absurd i
in_zip (z ∷ xs) (t ∷ ys) x y (inl e) = inl (ap (λ (p : _ × _). p.0) e)
in_zip (z ∷ xs) (t ∷ ys) x y (inr i) = inr (in_zip xs ys x y i)

-- an output of the job, or none
pub own_or_not : (j : OpenJob) (q : Path) → IsIn (outputs j) q ⊎ (IsIn (outputs j) q → ⊥)
own_or_not j q = by_test (among (outputs j) q) (λ h. inl (in_among (outputs j) q h)) (λ h. inr (λ i. clash (among (outputs j) q) (any_by (bytes_eq q) (outputs j) q i (place_itself q)) h))

module _ (laws : OverlapLaws) (j : OpenJob) (v v' : View) (differs : Differs j v v') (q : Path) (free : list_any (overlaps q) (own j) ≡ false) where
  -- no output of the job is q or above it
  pub not_over : (h : Path) → IsOver q h → IsIn (outputs j) h → ⊥
  not_over h over i = clash (list_any (overlaps q) (own j)) (any_by (overlaps q) (own j) h (in_left (outputs j) j.logs h i) (meets over)) free
    where
      meets : IsOver q h → overlaps q h ≡ true
      meets (inl e) = subst (λ x. overlaps q x ≡ true) (sym e) (laws.self q)
      meets (inr f) = laws.swap q h ∙ laws.above h q (laws.folder q h f)

  pub holder_same : holder v' q ≡ holder v q
  holder_same =
      (λ i. if is_some ((differs.records q (not_over q (inl refl))).at i) then Some q else find (λ f. is_folder_record f (v'.record_at f)) (reverse (folders_above q)))
      ∙ (λ i. if is_some (v.record_at q) then Some q else
      found_same (λ f. is_folder_record f (v'.record_at f)) (λ f. is_folder_record f (v.record_at f)) (reverse (folders_above q))
      (λ f k. ap (is_folder_record f) (differs.records f (not_over f (inr k))).at) i)

  -- an input of the one is at hand as before
  pub hand_made :
      (o : Outside) (m : ℕ) → HasNoRecordClash o j v → is_source v' q ≡ is_source v q → IsAtHand o v (q, Made m) → IsAtHand o v' (q, Made m)
  hand_made o m no_clash same hand =
      let h = hand.0 in
      let r = hand.1 in
      let s = hand.2.0 in
      let over = holder_over v q h s.holder in
      let out = not_over h over in
      let here = differs.records h out in (
        h,
        r,
        (
          record { no_source = same ∙ s.no_source; holder = holder_same ∙ s.holder; clear = (here.at ∙ s.clear.0, unmarked h (differs.marks h out) s.clear.1) },
          hand.2.1,
          (whole h r s.clear.0 out hand.2.2),
          filed h hand.2.3,
        ),
      )
    where
      unmarked : (h : Path) → v'.marked h ≡ v.marked h → (v.marked h ≡ false) ⊎ ⊥ → (v'.marked h ≡ false) ⊎ ⊥
      unmarked h e (inl k) = inl (e ∙ k)
      unmarked h e (inr k) = inr k

      some : (x : Option Record) (r : Record) → x ≡ Some r → IsSome x
      some x r e = rw e refl

      apart : (h : Path) (r : Record) → v.record_at h ≡ Some r → (IsIn (outputs j) h → ⊥) → list_any (overlaps h) (own j) ≡ false
      apart h r at out = by_test (list_any (overlaps h) (own j)) (λ k. absurd (out (no_clash h (some (v.record_at h) r at) k))) (λ k. k)

      filed : (h : Path) → (q ≡ h) ⊎ IsTrue (is_some (v.file q)) → (q ≡ h) ⊎ IsTrue (is_some (v'.file q))
      filed h (inl k) = inl k
      filed h (inr k) = inr (subst (λ f. IsTrue (is_some f)) (sym (differs.nodes q free).file) k)

      whole : (h : Path) (r : Record) → v.record_at h ≡ Some r → (IsIn (outputs j) h → ⊥) → IsTrue (is_whole v h (kind_in r h)) → IsTrue (is_whole v' h (kind_in r h))
      whole h r at out =
          let here = differs.nodes h (apart h r at out) in
          whole_on v v' h (kind_in r h) here.file here.folder here.members (differs.records h out).listed

module _
    (o : Outside) (laws : OverlapLaws) (naming : NamesLaws o.read) (entry : World) (H : Versions) (j : OpenJob) (e e' : Eased) (top : ℕ) (w w' : World)
    (formed : IsFormed w) (sources : EachImage o.read w (HasSources o (now o entry)))
    (fits_own : IsOwner o top w j) (change : Change o entry H j e e' w w') (k : OpenJob) (meets : Meets j k) where
  -- the sources now are as before
  pub sources_same : (q : Path) → source_at (now o w') q ≡ source_at (now o w) q
  sources_same q =
      each_image o.read w' (HasSources o (now o entry)) change.sources w'.names _ (now_image w' change.formed) q
      ∙ sym (each_image o.read w (HasSources o (now o entry)) sources w.names _ (now_image w formed) q)

  hand : (x : Path × Stamp) → IsIn (begun_with k) x → IsAtHand o (now o w) x → IsAtHand o (now o w') x
  hand (q, Time t) i h = (h.0, sources_same q ∙ h.1, h.2)
  hand (q, Sum t d) i h = (h.0, sources_same q ∙ h.1, h.2)
  hand (q, Made m) i h =
      hand_made laws j (now o w) (now o w') change.differs_now q (meets.inputs q (in_zip (in_paths k.recipe) k.stamps q (Made m) i)) o m
      (each_image o.read w (HasNoRecordClash o j) fits_own.no_record_clash w.names (reads w) (now_image w formed)) (same_source (now o w') (now o w) sources_same q) h

  pub fits_change : Fits o entry e top w k → Fits o entry e' top w' k
  fits_change fits =
      record {
        paths = fits.paths;
        texts = fits.texts;
        apart = fits.apart;
        from_inputs = fits.from_inputs;
        no_source = fits.no_source;
        each_stamped = fits.each_stamped;
        kept_own = fits.kept_own;
        kept_all = fits.kept_all;
        no_record_clash = of_wide o.read naming w formed w' (HasNoRecordClash o k) (λ names g i q is over. record_clash names g i q is over (own_or_not j q));
        no_clash = of_wide o.read naming w formed w' (HasNoClash o e' k) (λ names g i q r c over. clashes names g i q r over (change.counts names g i q r c));
        unnamed = λ h. of_wide o.read naming w formed w' (IsUnnamed o e' k) (λ names g i q x r c named. names_not h names g i q x r named (change.counts names g i q r c));
        unused = λ h. of_wide o.read naming w formed w' (IsUnused o e' k) (λ names g i q r c same. uses_not h names g i q r same (change.counts names g i q r c));
        numbered = fits.numbered;
        names_other = fits.names_other;
        at_hand = each_of (IsAtHand o (now o w')) (begun_with k) (λ x i. hand x i (each_in (IsAtHand o (now o w)) (begun_with k) x fits.at_hand i));
      }
    where
      record_clash :
          (names : List Path) (g : Nodes) (i : IsWide w w' names g) (q : Path) → IsSome ((view_of o.read names g).record_at q) → list_any (overlaps q) (own k) ≡ true →
          IsIn (outputs j) q ⊎ (IsIn (outputs j) q → ⊥) → IsIn (outputs k) q
      record_clash names g i q is over (inl mine) = meets.clash q mine over
      record_clash names g i q is over (inr other) =
          each_image o.read w (HasNoRecordClash o k) fits.no_record_clash names (change.before g) (change.image names g i) q (subst (λ (r : Option Record). IsSome r) ((change.differs names g i).records q other).at is) over

      clashes :
          (names : List Path) (g : Nodes) (i : IsWide w w' names g) (q : Path) (r : Record) → list_any (overlaps q) (own k) ≡ true →
          Counted H (view_of o.read names (change.before g)) e q r ⊎ IsIn (outputs j) q × (r ≡ record_of j q) → IsIn (outputs k) q
      clashes names g i q r over (inl c) = each_image o.read w (HasNoClash o e k) fits.no_clash names (change.before g) (change.image names g i) q c.0 c.1 over
      clashes names g i q r over (inr m) = meets.clash q m.0 over

      names_not :
          k.kept ≡ [] → (names : List Path) (g : Nodes) (i : IsWide w w' names g) (q x : Path) (r : Record) → IsIn (stamped r) (x, Made k.serial) →
          Counted H (view_of o.read names (change.before g)) e q r ⊎ IsIn (outputs j) q × (r ≡ record_of j q) → ⊥
      names_not h names g i q x r named (inl c) =
          each_image o.read w (IsUnnamed o e k) (fits.unnamed h) names (change.before g) (change.image names g i) q x c.0 c.1 (like_named H r c.0 c.2 x k.serial named)
      names_not h names g i q x r named (inr m) = meets.unnamed h x (subst (λ s. IsIn (stamped s) (x, Made k.serial)) m.1 named)

      uses_not :
          k.kept ≡ [] → (names : List Path) (g : Nodes) (i : IsWide w w' names g) (q : Path) (r : Record) → r.made ≡ k.serial →
          Counted H (view_of o.read names (change.before g)) e q r ⊎ IsIn (outputs j) q × (r ≡ record_of j q) → IsIn (outputs k) q
      uses_not h names g i q r same (inl c) = each_image o.read w (IsUnused o e k) (fits.unused h) names (change.before g) (change.image names g i) q c.0 c.1 (sym c.2.made ∙ same)
      uses_not h names g i q r same (inr m) = meets.unused h (sym (ap (λ (s : Record). s.made) m.1) ∙ same) q m.0
