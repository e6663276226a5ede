-- What holds of the images stays, as a job's event changes the world.
use Rattle.std.proofs.Common.{◌≡◌, ◌⊎◌, ◌≤◌, ℕ, Bool, true, List, sym, subst, inl, inr, ◌∙◌, Option}
use Rattle.std.specs.Prelude.{IsSome, ◌||◌}
use Rattle.smk_record.specs.declared.record.Record.{Record}
use Rattle.smk_world.specs.Trees.{Path, IsIn}
use Rattle.smk_base.specs.Path.{overlaps}
use Rattle.smk_store.specs.Trust.{Versions, Eased, none_eased}
use Rattle.smk_record.specs.Records.{serials}
use Rattle.smk_laws_protocol.proofs.View.{View, Clear}
use Rattle.smk_laws_protocol.proofs.Views.{Nodes, EachImage, view_of}
use Rattle.smk_world.specs.World.{World, IsFormed}
use Rattle.smk_store.specs.Soundness.{Outside}
use Rattle.smk_laws_protocol.specs.Protocol.{OpenJob, own, outputs, record_of}
use Rattle.smk_laws_protocol.proofs.Rows.{now}
use Rattle.smk_laws_protocol.proofs.Between.{Images, IsBounded, IsTop, HasNoNested, HasNoRecordClash, HasKnown}
use Rattle.smk_laws_protocol.proofs.Basics.{any_by}
use Rattle.smk_laws_protocol.proofs.Change.{Change, IsOwner}
use Rattle.smk_laws_protocol.proofs.Moves.{Counted}
use Rattle.smk_laws_protocol.proofs.Naming.{NamesLaws, IsWide, each_image, of_wide}
use Rattle.smk_laws_protocol.proofs.Texts.{OverlapLaws}
use Rattle.smk_laws_protocol.proofs.Apart.{apart_same}
use Rattle.smk_laws_protocol.proofs.Stays.{in_left, own_or_not}

module _
    (o : Outside) (laws : OverlapLaws) (naming : NamesLaws o.read) (entry : World) (H : Versions) (j : OpenJob) (e e' : Eased) (top : ℕ) (steady : Bool) (w w' : World) (formed : IsFormed w)
    (fits : IsOwner o top w j) (change : Change o entry H j e e' w w') where
  bounded_by : (v : View) → IsBounded o e top v → (q : Path) (r : Record) (n : ℕ) → IsIn (serials r) n → Counted H v e q r ⊎ IsIn (outputs j) q × (r ≡ record_of j q) → n ≤ top
  bounded_by v b q r n i (inl c) = b q c.0 n c.1 (subst (λ ns. IsIn ns n) c.2.serials i)
  bounded_by v b q r n i (inr m) = fits.numbers_low q n (subst (λ s. IsIn (serials s) n) m.1 i)

  nested : EachImage o.read w (HasNoNested o) → EachImage o.read w' (HasNoNested o)
  nested none = of_wide o.read naming w formed w' (HasNoNested o) (λ names g i p q is is' over. go names g i p q is is' over (own_or_not j p) (own_or_not j q))
    where
      -- a record that overlaps an output is that output's
      own_clash : (names : List Path) (g : Nodes) (i : IsWide w w' names g) (p q : Path) → IsIn (outputs j) p → IsSome ((view_of o.read names (change.before g)).record_at q) → overlaps q p ≡ true → p ≡ q
      own_clash names g i p q k is over =
          apart_same laws (own j) p q fits.apart (in_left (outputs j) j.logs p k)
          (in_left (outputs j) j.logs q
          (each_image o.read w (HasNoRecordClash o j) fits.no_record_clash names (change.before g) (change.image names g i) q is (any_by (overlaps q) (own j) p (in_left (outputs j) j.logs p k) over)))
          (laws.swap p q ∙ over)

      before : (names : List Path) (g : Nodes) (i : IsWide w w' names g) (q : Path) → (IsIn (outputs j) q → ⊥) → IsSome ((view_of o.read names g).record_at q) → IsSome ((view_of o.read names (change.before g)).record_at q)
      before names g i q other is = subst (λ (r : Option Record). IsSome r) ((change.differs names g i).records q other).at is

      go :
          (names : List Path) (g : Nodes) (i : IsWide w w' names g) (p q : Path) → IsSome ((view_of o.read names g).record_at p) → IsSome ((view_of o.read names g).record_at q) → overlaps p q ≡ true →
          IsIn (outputs j) p ⊎ (IsIn (outputs j) p → ⊥) → IsIn (outputs j) q ⊎ (IsIn (outputs j) q → ⊥) → p ≡ q
      go names g i p q is is' over (inr a) (inr b) =
          each_image o.read w (HasNoNested o) none names (change.before g) (change.image names g i) p q (before names g i p a is) (before names g i q b is') over
      go names g i p q is is' over (inl a) (inr b) = own_clash names g i p q a (before names g i q b is') (laws.swap q p ∙ over)
      go names g i p q is is' over (inr a) (inl b) = sym (own_clash names g i q p b (before names g i p a is) over)
      go names g i p q is is' over (inl a) (inl b) = apart_same laws (own j) p q fits.apart (in_left (outputs j) j.logs p a) (in_left (outputs j) j.logs q b) over

  known_on : EachImage o.read w (HasKnown o (now o w)) → EachImage o.read w' (HasKnown o (now o w'))
  known_on known = of_wide o.read naming w formed w' (HasKnown o (now o w')) (λ names g i q is. go names g i q is (own_or_not j q))
    where
      go : (names : List Path) (g : Nodes) (i : IsWide w w' names g) (q : Path) → (view_of o.read names g).has_record q ≡ true → IsIn (outputs j) q ⊎ (IsIn (outputs j) q → ⊥) → ((now o w').has_record q || (now o w').marked q) ≡ true
      go names g i q is (inl mine) = change.known_own names g i q mine is
      go names g i q is (inr other) =
          (λ k. (change.differs_now.records q other).has k || change.differs_now.marks q other k)
          ∙ each_image o.read w (HasKnown o (now o w)) known names (change.before g) (change.image names g i) q (sym ((change.differs names g i).records q other).has ∙ is)

  top_on : IsTop o w top → IsTop o w' top
  top_on is p r n at unmarked i = go (change.counts_now p r (at, inl unmarked))
    where
      counted : (s : Record) → Clear (now o w) none_eased p s → IsIn (serials s) n → n ≤ top
      counted s (at, inl m) i = is p s n at m i
      counted s (at, inr m) i = absurd m

      go : Counted H (now o w) none_eased p r ⊎ IsIn (outputs j) p × (r ≡ record_of j p) → n ≤ top
      go (inl c) = counted c.0 c.1 (subst (λ ns. IsIn ns n) c.2.serials i)
      go (inr m) = fits.numbers_low p n (subst (λ s. IsIn (serials s) n) m.1 i)

  pub images_change : Images o entry H e top steady w → Images o entry H e' top steady w'
  images_change m =
      record {
        formed = change.formed;
        sound = change.sound;
        sources = change.sources;
        no_new = change.no_new;
        bounded = λ h. of_wide o.read naming w formed w' (IsBounded o e' top) (λ names g i p r n c k.
            bounded_by (view_of o.read names (change.before g)) (each_image o.read w (IsBounded o e top) (m.bounded h) names (change.before g) (change.image names g i)) p r n k
            (change.counts names g i p r c));
        no_nested = nested m.no_nested;
        known = known_on m.known;
        unsteady = λ h. top_on (m.unsteady h);
      }
