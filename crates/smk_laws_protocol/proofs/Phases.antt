-- What holds of an open job by its phase stays, as the event of another job changes the world.
use Rattle.std.proofs.Common.{◌≡◌, ◌⊎◌, ℕ, true, false, List, sym, ap, inl, inr, ◌∙◌, Some}
use Rattle.std.specs.List.{list_any}
use Rattle.smk_world.specs.declared.event.Child.{Child}
use Rattle.smk_record.specs.declared.record.Record.{Record}
use Rattle.smk_world.specs.Trees.{Path, value_at, all_of, IsIn, Each}
use Rattle.smk_base.specs.Path.{overlaps}
use Rattle.smk_laws_protocol.specs.Protocol.{kept_at, Running, OpenJob, own, outputs, record_of, listed_of}
use Rattle.smk_world.specs.World.{in_paths, World, IsFormed}
use Rattle.smk_store.specs.Trust.{Versions, Eased}
use Rattle.smk_laws_protocol.proofs.View.{View}
use Rattle.smk_laws_protocol.proofs.Views.{view_of}
use Rattle.smk_base.specs.Place.{mark_place, note_place}
use Rattle.smk_store.specs.Soundness.{Outside}
use Rattle.smk_laws_protocol.proofs.Rows.{now}
use Rattle.smk_laws_protocol.proofs.Between.{InPhase, IsFirmly, IsKept, IsActed, HoldsGiven, given, IsKnown, IsGone, AreGone, trees_at}
use Rattle.smk_laws_protocol.proofs.Basics.{each_in, each_of, none_of, none_by, any_by, by_test, clash}
use Rattle.smk_laws_protocol.proofs.Change.{Change, Differs}
use Rattle.smk_laws_protocol.proofs.Naming.{NamesLaws, each_image, of_wide}
use Rattle.smk_laws_protocol.proofs.Chains.{map_same}
use Rattle.smk_laws_protocol.proofs.Moves.{covers}
use Rattle.smk_laws_protocol.proofs.Stays.{in_left, in_right}
use Rattle.smk_laws_protocol.proofs.Texts.{OverlapLaws}

-- the job is another one: it owns nothing of this one's paths, and reads nothing of them
pub record IsOther (j k : OpenJob) : Type 0 where
  pub own_free : (q : Path) → IsIn (own k) q → list_any (overlaps q) (own j) ≡ false
  pub inputs_free : (q : Path) → IsIn (in_paths k.recipe) q → list_any (overlaps q) (own j) ≡ false

module _ (o : Outside) (laws : OverlapLaws) (j k : OpenJob) (other : IsOther j k) where
  not_output : (p : Path) → IsIn (own k) p → IsIn (outputs j) p → ⊥
  not_output p i h = clash (list_any (overlaps p) (own j)) (any_by (overlaps p) (own j) p (in_left (outputs j) j.logs p h) (laws.self p)) (other.own_free p i)

  not_own : (p : Path) → IsIn (own k) p → IsIn (own j) p → ⊥
  not_own p i h = clash (list_any (overlaps p) (own j)) (any_by (overlaps p) (own j) p h (laws.self p)) (other.own_free p i)

  -- what is at or under a path of the other overlaps nothing of this one
  under_free : (p q : Path) → IsIn (own k) p → covers p q ≡ true → list_any (overlaps q) (own j) ≡ false
  under_free p q i c =
      none_by (overlaps q) (own j)
      (λ x h. by_test (overlaps q x) (λ t. clash (overlaps p x) (laws.down p q x (sym (laws.covers p q) ∙ c) t) (none_of (overlaps p) (own j) x (other.own_free p i) h)) (λ f. f))

  trees_same : (n n' : View) → Differs j n n' → (ps : List Path) → ((q : Path) → IsIn ps q → list_any (overlaps q) (own j) ≡ false) → trees_at n' ps ≡ trees_at n ps
  trees_same n n' d ps free = map_same n'.tree n.tree ps (λ q i. (d.nodes q (free q i)).tree)

  given_same : (n n' : View) → Differs j n n' → (p : Path) → given o n' k p ≡ given o n k p
  given_same n n' d p = ap (λ ts. value_at o.act k.recipe p (all_of ts)) (trees_same n n' d (in_paths k.recipe) other.inputs_free)

  acted_on : (n n' : View) → Differs j n n' → IsActed o n k → IsActed o n' k
  acted_on n n' d acted trees is =
      let h = acted trees (sym (trees_same n n' d (in_paths k.recipe) other.inputs_free) ∙ is) in
      (h.0, h.1 ∙ sym (trees_same n n' d (outputs k) (λ q i. other.own_free q (in_left (outputs k) k.logs q i))))

  holds_on : (n n' v v' : View) → Differs j n n' → Differs j v v' → (p : Path) → IsIn (outputs k) p → HoldsGiven o n k v p → HoldsGiven o n' k v' p
  holds_on n n' v v' dn dv p i h = (h.0, given_same n n' dn p ∙ h.1, (dv.nodes p (other.own_free p (in_left (outputs k) k.logs p i))).tree ∙ h.2)

  known_on : (n n' v v' : View) → Differs j n n' → Differs j v v' → (p : Path) → IsIn (outputs k) p → IsKnown o n k v p → IsKnown o n' k v' p
  known_on n n' v v' dn dv p i h =
      let i' = in_left (outputs k) k.logs p i in
      let d = dv.records p (not_output p i') in
      record {
        stands = d.has ∙ h.stands;
        reads = d.at ∙ h.reads;
        lists = d.listed ∙ h.lists ∙ ap (listed_of k p) (sym (dn.nodes p (other.own_free p i')).members);
      }

  gone_on : (v v' : View) → Differs j v v' → (p : Path) → IsIn (outputs k) p → IsGone o v p → IsGone o v' p
  gone_on v v' d p i h =
      let i' = in_left (outputs k) k.logs p i in
      let r = d.records p (not_output p i') in
      record {
        no_record = r.at ∙ h.no_record;
        no_bytes = r.has ∙ h.no_bytes;
        nothing = λ q c. (d.nodes q (under_free p q i' c)).file ∙ h.nothing q c;
      }

pub each_with : {A : Type 0} (P Q : A → Type 0) (xs : List A) → ((x : A) → IsIn xs x → P x → Q x) → Each P xs → Each Q xs
each_with P Q xs on h = each_of Q xs (λ x i. on x i (each_in P xs x h i))

module _
    (o : Outside) (laws : OverlapLaws) (naming : NamesLaws o.read) (entry : World) (H : Versions) (j k : OpenJob) (e e' : Eased) (w w' : World) (formed : IsFormed w)
    (change : Change o entry H j e e' w w') (other : IsOther j k) where
  kept_on : ((p : Path) (r : Record) → kept_at k.kept p ≡ Some r → IsIn (outputs k) p) → IsKept o (now o w) k → IsKept o (now o w') k
  kept_on own_kept kept p r at = go (kept p r at)
    where
      same : (now o w').record_at p ≡ (now o w).record_at p
      same = (change.differs_now.records p (not_output o laws j k other p (in_left (outputs k) k.logs p (own_kept p r at)))).at

      go :
          ((now o w).record_at p ≡ Some r) ⊎ ((now o w).record_at p ≡ Some (record_of k p)) →
          ((now o w').record_at p ≡ Some r) ⊎ ((now o w').record_at p ≡ Some (record_of k p))
      go (inl is) = inl (same ∙ is)
      go (inr is) = inr (same ∙ is)

  pub phase_change :
      ((p : Path) (r : Record) → kept_at k.kept p ≡ Some r → IsIn (outputs k) p) →
      ((n : ℕ) → k.phase ≡ Running n → (c : Child) × IsIn w'.children c × (c.number ≡ n)) → InPhase o w k → InPhase o w' k
  phase_change own_kept child p =
      record {
        marks = λ h. each_with (λ x. IsFirmly o w (mark_place x)) (λ x. IsFirmly o w' (mark_place x)) (outputs k)
            (λ x i f. (f.0, change.mark_places x (not_output o laws j k other x (in_left (outputs k) k.logs x i)) (Some f.0) f.1)) (p.marks h);
        notes = λ h. each_with (λ x. IsFirmly o w (note_place x)) (λ x. IsFirmly o w' (note_place x)) k.logs
            (λ x i f. (f.0, change.note_places x (not_own o laws j k other x (in_right (outputs k) k.logs x i)) (Some f.0) f.1)) (p.notes h);
        kept = λ h. kept_on own_kept (p.kept h);
        child = child;
        ended = λ h. acted_on o laws j k other (now o w) (now o w') change.differs_now (p.ended h);
        made = λ h. of_wide o.read naming w formed w' (λ v. Each (HoldsGiven o (now o w') k v) (outputs k)) (λ names g i.
            let b = change.before g in
            each_with (HoldsGiven o (now o w) k (view_of o.read names b)) (HoldsGiven o (now o w') k (view_of o.read names g)) (outputs k)
            (λ x ix. holds_on o laws j k other (now o w) (now o w') (view_of o.read names b) (view_of o.read names g) change.differs_now (change.differs names g i) x ix)
            (each_image o.read w (λ v. Each (HoldsGiven o (now o w) k v) (outputs k)) (p.made h) names b (change.image names g i)));
        known = λ h. of_wide o.read naming w formed w' (λ v. Each (IsKnown o (now o w') k v) (outputs k)) (λ names g i.
            let b = change.before g in
            each_with (IsKnown o (now o w) k (view_of o.read names b)) (IsKnown o (now o w') k (view_of o.read names g)) (outputs k)
            (λ x ix. known_on o laws j k other (now o w) (now o w') (view_of o.read names b) (view_of o.read names g) change.differs_now (change.differs names g i) x ix)
            (each_image o.read w (λ v. Each (IsKnown o (now o w) k v) (outputs k)) (p.known h) names b (change.image names g i)));
        gone = λ h. of_wide o.read naming w formed w' (AreGone o k) (λ names g i.
            let b = change.before g in
            each_with (IsGone o (view_of o.read names b)) (IsGone o (view_of o.read names g)) (outputs k)
            (λ x ix. gone_on o laws j k other (view_of o.read names b) (view_of o.read names g) (change.differs names g i) x ix)
            (each_image o.read w (AreGone o k) (p.gone h) names b (change.image names g i)));
      }
