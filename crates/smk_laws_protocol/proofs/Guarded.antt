-- While a job's marks and notes are firm they stand in each image, and what is at or under its paths is covered.
use Rattle.std.proofs.Common.{◌≡◌, ◌⊎◌, Bool, true, false, List, [], ◌∷◌, ◌++◌, ap, subst, inl, inr, arith, ◌∙◌, Option, Some, None}
use Rattle.std.specs.Prelude.{is_some, ◌||◌, IsTrue, if◌then◌else◌}
use Rattle.std.specs.List.{list_any}
use Rattle.smk_world.specs.declared.event.Node.{Node}
use Rattle.smk_world.specs.declared.event.NodeState.{NodeState}
use Rattle.smk_world.specs.Trees.{Path, IsIn, is_path_text, Each}
use Rattle.smk_base.specs.Path.{overlaps, is_at_or_under}
use Rattle.smk_laws_protocol.proofs.View.{View, is_known, is_covered}
use Rattle.smk_laws_protocol.proofs.Views.{EachImage}
use Rattle.smk_world.specs.World.{World, MayLeave, firmly, is_within}
use Rattle.smk_base.specs.Place.{mark_place, note_place}
use Rattle.smk_store.specs.Soundness.{Outside}
use Rattle.smk_laws_protocol.specs.Protocol.{OpenJob, own, outputs}
use Rattle.smk_laws_protocol.proofs.Between.{InPhase, IsFirmly, has_firm_marks, is_marking}
use Rattle.smk_laws_protocol.proofs.Basics.{each_in, some_of, none_by, none_of, by_test, clash}
use Rattle.smk_laws_protocol.proofs.Moves.{is_covered_by}
use Rattle.smk_laws_protocol.proofs.Texts.{OverlapLaws}

pub record IsGuarded (j : OpenJob) (v : View) : Type 0 where
  pub marks : (p : Path) → IsIn (outputs j) p → v.marked p ≡ true
  pub notes : (p : Path) → IsIn j.logs p → v.noted p ≡ true

pub in_either : {A : Type 0} (xs ys : List A) (x : A) → IsIn (xs ++ ys) x → IsIn xs x ⊎ IsIn ys x
in_either [] ys x i = inr i
in_either (y ∷ xs) ys x (inl e) = inl (inl e)
in_either (y ∷ xs) ys x (inr i) = turn (in_either xs ys x i)
  where
    turn : IsIn xs x ⊎ IsIn ys x → IsIn (y ∷ xs) x ⊎ IsIn ys x
    turn (inl k) = inl (inr k)
    turn (inr k) = inr k

firm_stays : (s : NodeState) (n : Node) (m : Option Node) → s ≡ firmly (Some n) → MayLeave s m → is_some m ≡ true
firm_stays s n m h leaves = go m (subst (λ t. MayLeave t m) h leaves)
  where
    go : (m : Option Node) → (m ≡ Some n) ⊎ ⊥ → is_some m ≡ true
    go m (inl e) = ap (λ (x : Option Node). is_some x) e
    go m (inr e) = absurd e

in_first : {A : Type 0} (xs ys : List A) (x : A) → IsIn xs x → IsIn (xs ++ ys) x
in_first [] ys x i = absurd i
in_first (y ∷ xs) ys x (inl e) = inl e
in_first (y ∷ xs) ys x (inr i) = inr (in_first xs ys x i)

in_second : {A : Type 0} (xs ys : List A) (x : A) → IsIn ys x → IsIn (xs ++ ys) x
in_second [] ys x i = i
in_second (y ∷ xs) ys x i = inr (in_second xs ys x i)

pub guarded : (o : Outside) (w : World) (j : OpenJob) → Each (λ p. IsTrue (is_path_text p)) (own j) → has_firm_marks o j.phase ≡ true → is_marking o j.phase ≡ false → InPhase o w j → EachImage o.read w (IsGuarded j)
guarded o w j texts marks notes p names f rising complete covered leaves =
    record {
      marks = λ x i. ap (λ t. is_some (if t then f (mark_place x) else None)) (each_in (λ p. IsTrue (is_path_text p)) (own j) x texts (in_first (outputs j) j.logs x i)) ∙ (let k = each_in (λ x. IsFirmly o w (mark_place x)) (outputs j) x (p.marks marks) i in firm_stays (w.nodes (mark_place x)) k.0 (f (mark_place x)) k.1 (leaves (mark_place x)));
      notes = λ x i. ap (λ t. is_some (if t then f (note_place x) else None)) (each_in (λ p. IsTrue (is_path_text p)) (own j) x texts (in_second (outputs j) j.logs x i)) ∙ (let k = each_in (λ x. IsFirmly o w (note_place x)) j.logs x (p.notes notes) i in firm_stays (w.nodes (note_place x)) k.0 (f (note_place x)) k.1 (leaves (note_place x)));
    }

pub guarded_known : (j : OpenJob) (v : View) → IsGuarded j v → (p : Path) → IsIn (own j) p → is_known v p ≡ true
guarded_known j v g p i = go (in_either (outputs j) j.logs p i)
  where
    second : (a b c : Bool) → b ≡ true → (a || b || c) ≡ true
    second a b c h = grind arith

    third : (a b c : Bool) → c ≡ true → (a || b || c) ≡ true
    third a b c h = grind arith

    go : IsIn (outputs j) p ⊎ IsIn j.logs p → is_known v p ≡ true
    go (inl k) = second (v.has_record p) (v.marked p) (v.noted p) (g.marks p k)
    go (inr k) = third (v.has_record p) (v.marked p) (v.noted p) (g.notes p k)

pub guarded_covered : (laws : OverlapLaws) (j : OpenJob) (v : View) → IsGuarded j v → (places : List Path) → ((p : Path) → IsIn places p → IsIn (own j) p) → (q : Path) → is_within q places ≡ true → is_covered v q ≡ true
guarded_covered laws j v g places own_places q h =
    let k = some_of (is_at_or_under q) places h in
    is_covered_by v k.0 q (guarded_known j v g k.0 (own_places k.0 k.1)) (laws.covers k.0 q ∙ k.2)

-- what is at or under a path that is apart from the job isn't within its places
pub free_under : (laws : OverlapLaws) (j : OpenJob) (places : List Path) → ((p : Path) → IsIn places p → IsIn (own j) p) → (x q : Path) → list_any (overlaps x) (own j) ≡ false → is_at_or_under q x ≡ true → is_within q places ≡ false
free_under laws j places own_places x q free under =
    none_by (is_at_or_under q) places
    (λ p i. by_test (is_at_or_under q p) (λ h. clash (overlaps x p) (laws.down x q p under (laws.within p q h)) (none_of (overlaps x) (own j) p free (own_places p i))) (λ h. h))
