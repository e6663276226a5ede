-- What a job knows once its outputs, its records, or the absence of both are settled.
use Rattle.smk_laws_protocol.proofs.Formed.{all_named}
use Rattle.std.proofs.Common.{◌≡◌, ◌⊎◌, Bool, true, false, List, [], ◌∷◌, ◌++◌, map, refl, sym, ap, subst, inl, inr, ◌∙◌, Option, Some, None}
use Rattle.std.specs.Prelude.{IsTrue, IsSome, is_some, option_map, if◌then◌else◌, ◌||◌, ◌&&◌, Ok}
use Rattle.smk_world.specs.declared.event.Call.TheVariants.{Settled}
use Rattle.smk_world.specs.declared.event.Change.{Change as LeftNode}
use Rattle.smk_world.specs.declared.event.Node.{Node}
use Rattle.smk_world.specs.declared.event.NodeState.{NodeState}
use Rattle.smk_world.specs.declared.event.NodeState.TheVariants.{Owned, Known}
use Rattle.smk_base.specs.declared.tree.Tree.{Tree}
use Rattle.smk_world.specs.Trees.{Path, among, IsIn, Each, is_path_text}
use Rattle.smk_store.specs.Images.{is_outside}
use Rattle.smk_laws_protocol.proofs.View.{file_of}
use Rattle.smk_record.specs.Records.{members_of, core}
use Rattle.smk_laws_protocol.proofs.Views.{EachImage, reads, view_of, read_at, place_node}
use Rattle.smk_world.specs.World.{World, IsFormed, MayLeave, after, reading, firmly, firm, is_within, is_above, reads_folder}
use Rattle.smk_base.specs.Path.{is_at_or_under}
use Rattle.smk_base.specs.Place.{record_place}
use Rattle.smk_store.specs.Soundness.{Outside}
use Rattle.smk_laws_protocol.specs.Protocol.{OpenJob, outputs, record_places, record_of, listed_of, AreAmong, IsAbsent, IsThere}
use Rattle.smk_laws_protocol.proofs.Rows.{now, IsWritten}
use Rattle.smk_laws_protocol.proofs.Between.{HoldsGiven, given, IsKnown, IsGone, AreGone, IsFirmly}
use Rattle.smk_laws_protocol.proofs.Basics.{each_in, each_of, in_among, any_by, clash, none_some}
use Rattle.smk_laws_protocol.proofs.Calls.{event}
use Rattle.smk_base.proofs.Places.{place_itself}
use Rattle.smk_laws_protocol.proofs.Stays.{in_left, in_right}
use Rattle.smk_laws_protocol.proofs.Texts.{Texts}

-- at what is settled nothing but what reads may be left
pub firm_is : (s : NodeState) → (s ≡ Owned → ⊥) → firm s ≡ firmly (reading s)
firm_is Owned h = absurd (h refl)
firm_is (Known n besides) h = refl

pub map_in : {A B : Type 0} (f : A → B) (xs : List A) (x : A) → IsIn xs x → IsIn (map f xs) (f x)
map_in f [] x i = absurd i
map_in f (y ∷ xs) x (inl e) = inl (ap f e)
map_in f (y ∷ xs) x (inr i) = inr (map_in f xs x i)

module _ (o : Outside) (texts : Texts o.read) (w : World) (ps : List Path) (left : List LeftNode) (formed : IsFormed w) where
  abbrev w' : World
  w' = after w (event (Settled ps (Ok tt)) left)

  pub within : (places : List Path) → AreAmong ps places → (p q : Path) → IsIn places p → is_at_or_under q p ≡ true → is_within q ps ≡ true
  within places all p q i u = any_by (is_at_or_under q) ps p (in_among ps p (each_in (λ p. IsTrue (among ps p)) places p all i)) u

  node_there : (q : Path) → is_within q ps ≡ true → w'.nodes q ≡ firm (w.nodes q)
  node_there q h = ap (λ (b : Bool). if b || is_above q ps && reads_folder (w.nodes q) then firm (w.nodes q) else w.nodes q) h

  pub only_reads : (q : Path) (n : Option Node) → is_within q ps ≡ true → (w.nodes q ≡ Owned → ⊥) → MayLeave (w'.nodes q) n → n ≡ reads w q
  only_reads q n h owned leaves = go (subst (λ s. MayLeave s n) (node_there q h ∙ firm_is (w.nodes q) owned) leaves)
    where
      go : (n ≡ reads w q) ⊎ ⊥ → n ≡ reads w q
      go (inl k) = k
      go (inr k) = absurd k

  at_self : (x : Path) → is_at_or_under x x ≡ true
  at_self x = rw (place_itself x) refl

  -- marks or notes that stand are firm
  pub all_firm : (places : List Path) → AreAmong ps places → (p : Path) → IsIn places p → IsThere w p → IsFirmly o w' p
  all_firm places all p i stand = go (w.nodes p) refl
    where
      go : (s : NodeState) → w.nodes p ≡ s → IsFirmly o w' p
      go Owned h = clash false (subst (λ t. IsSome (reading t)) h stand) refl
      go (Known None besides) h = clash false (subst (λ t. IsSome (reading t)) h stand) refl
      go (Known (Some n) besides) h = (n, node_there p (within places all p p i (at_self p)) ∙ ap firm h)

  module _ (j : OpenJob) (formed' : IsFormed w') (not_owned : (p q : Path) → IsIn (outputs j) p → is_at_or_under q p ≡ true → w.nodes q ≡ Owned → ⊥) where
    -- outputs that are what act gives now are so in each image
    pub all_made :
        AreAmong ps (outputs j) → ((p : Path) → IsIn (outputs j) p → given o (now o w') j p ≡ (now o w).tree p) → ((p : Path) → IsIn (outputs j) p → is_some ((now o w).tree p) ≡ true) →
        EachImage o.read w' (λ v. Each (HoldsGiven o (now o w') j v) (outputs j))
    all_made all gives some names g rising complete covered leaves =
        each_of (HoldsGiven o (now o w') j (view_of o.read names g)) (outputs j) (λ p i. holds p i (some p i) ((now o w).tree p) refl)
      where
        tree_is : (p : Path) → IsIn (outputs j) p → (view_of o.read names g).tree p ≡ (now o w).tree p
        tree_is p i =
            (texts.folders names w.names g (reads w) p rising formed.rising complete (all_named _ formed)
            (λ q u k. only_reads q (g q) (within (outputs j) all p q i u) (not_owned p q i u) (leaves q))).1

        holds : (p : Path) → IsIn (outputs j) p → is_some ((now o w).tree p) ≡ true → (t : Option Tree) → (now o w).tree p ≡ t → HoldsGiven o (now o w') j (view_of o.read names g) p
        holds p i s None h = clash (is_some ((now o w).tree p)) s (ap (λ (x : Option Tree). is_some x) h)
        holds p i s (Some t) h = (t, gives p i ∙ h, tree_is p i ∙ h)

    -- records that are written now are so in each image
    pub all_known :
        AreAmong ps (record_places j) → Each (IsWritten o w j) (outputs j) → ((p : Path) → IsIn (outputs j) p → (now o w').members p ≡ (now o w).members p) →
        EachImage o.read w' (λ v. Each (IsKnown o (now o w') j v) (outputs j))
    all_known all written members names g rising complete covered leaves =
        each_of (IsKnown o (now o w') j (view_of o.read names g)) (outputs j) (λ p i. known p i (each_in (IsWritten o w j) (outputs j) p written i))
      where
        place_in : (p : Path) → IsIn (outputs j) p → IsIn (record_places j) (record_place p)
        place_in p i = map_in record_place (outputs j) p i

        none_text : (p : Path) (t : Bool) → option_map core (read_at o.read p (if t then None else None)) ≡ None
        none_text p true = refl
        none_text p false = refl

        not_there : (p : Path) → (now o w).record_at p ≡ Some (record_of j p) → w.nodes (record_place p) ≡ Owned → ⊥
        not_there p at h = none_some (option_map core (read_at o.read p (if is_path_text p then reading Owned else None))) (none_text p (is_path_text p)) (sym (ap (λ s. option_map core (read_at o.read p (if is_path_text p then reading s else None))) h) ∙ at)

        known : (p : Path) → IsIn (outputs j) p → IsWritten o w j p → IsKnown o (now o w') j (view_of o.read names g) p
        known p i h =
            let is = only_reads (record_place p) (g (record_place p)) (within (record_places j) all (record_place p) (record_place p) (place_in p i) (at_self (record_place p))) (not_there p h.0) (leaves (record_place p)) in
            let at = ap (λ n. option_map core (read_at o.read p (if is_path_text p then n else None))) is ∙ h.0 in
            record {
              stands = some_node (place_node g record_place p) at;
              reads = at;
              lists = ap (λ n. members_of (read_at o.read p (if is_path_text p then n else None))) is ∙ h.1 ∙ ap (listed_of j p) (sym (members p i));
            }
          where
            some_node : (n : Option Node) → option_map core (read_at o.read p n) ≡ Some (record_of j p) → is_some n ≡ true
            some_node None h = none_some None refl h
            some_node (Some n) h = refl

    -- outputs and records of which nothing reads now are gone in each image
    pub all_gone : AreAmong ps (outputs j ++ record_places j) → Each (IsAbsent w) (outputs j ++ record_places j) → ((p : Path) → IsIn (outputs j) p → w.nodes (record_place p) ≡ Owned → ⊥) → EachImage o.read w' (AreGone o j)
    all_gone all absent records_owned names g rising complete covered leaves =
        each_of (IsGone o (view_of o.read names g)) (outputs j) (λ p i. gone p i)
      where
        nothing : (p q : Path) → IsIn (outputs j ++ record_places j) p → is_at_or_under q p ≡ true → (w.nodes q ≡ Owned → ⊥) → g q ≡ None
        nothing p q i u owned =
            only_reads q (g q) (within (outputs j ++ record_places j) all p q i u) owned (leaves q) ∙ each_in (IsAbsent w) (outputs j ++ record_places j) p absent i q u

        none_read : (p : Path) (t : Bool) → option_map core (read_at o.read p (if t then None else None)) ≡ None
        none_read p true = refl
        none_read p false = refl

        none_stands : (t : Bool) → is_some {T = Node} (if t then None else None) ≡ false
        none_stands true = refl
        none_stands false = refl

        gone : (p : Path) → IsIn (outputs j) p → IsGone o (view_of o.read names g) p
        gone p i =
            let r = nothing (record_place p) (record_place p) (in_right (outputs j) (record_places j) (record_place p) (map_in record_place (outputs j) p i)) (at_self (record_place p)) (records_owned p i) in
            record {
              no_record = ap (λ n. option_map core (read_at o.read p (if is_path_text p then n else None))) r ∙ none_read p (is_path_text p);
              no_bytes = ap (λ (n : Option Node). is_some (if is_path_text p then n else None)) r ∙ none_stands (is_path_text p);
              nothing = λ q c.
                  let u = sym (texts.overlap.covers p q) ∙ c in
                  none_file (is_outside q) (nothing p q (in_left (outputs j) (record_places j) p i) u (not_owned p q i u));
            }
          where
            none_file : {n : Option Node} (b : Bool) → n ≡ None → file_of (if b then n else None) ≡ None
            none_file true h = ap file_of h
            none_file false h = refl
