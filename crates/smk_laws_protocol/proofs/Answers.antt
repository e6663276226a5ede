-- What a world lets a call answer and leave, along the protocol, as far as the law needs it.
use Rattle.std.proofs.Common.{◌≡◌, ◌⊎◌, ℕ, Bool, true, false, List, [], ◌∷◌, refl, sym, ap, subst, inl, inr, ◌∙◌, Option, Some, None, Contains, eqb-true}
use Rattle.std.specs.Prelude.{IsTrue, bytes_eq, nat_eq, option_map, if◌then◌else◌, Ok, Err}
use Rattle.smk_base.proofs.Places.{place_itself}
use Rattle.smk_world.specs.declared.event.Call.{Call}
use Rattle.smk_world.specs.declared.event.Call.TheVariants.{Looked, ReadFile, ReadFolder, Written, Created, Removed, MadeParents, Settled, Protected, Started, Waited}
use Rattle.smk_world.specs.declared.event.Change.{Change as LeftNode}
use Rattle.smk_world.specs.declared.event.Child.{Child}
use Rattle.smk_world.specs.declared.event.Node.{Node}
use Rattle.smk_world.specs.declared.event.NodeState.{NodeState}
use Rattle.smk_world.specs.declared.event.NodeState.TheVariants.{Owned, Known}
use Rattle.smk_world.specs.World.{World, after, reading, reads_nothing, standing, protected, child_numbered, numbers, in_paths, out_paths}
use Rattle.smk_world.specs.Calls.{Lets as WorldLets, Reads, MayRead, MayRemain, MayBeProtected}
use Rattle.smk_world.specs.Trees.{Path, IsIn, Each}
use Rattle.smk_world.proofs.Owners.{AreNumbered}
use Rattle.smk_store.specs.Images.{is_outside}
use Rattle.smk_store.specs.Soundness.{Outside}
use Rattle.smk_store.specs.Trust.{Versions}
use Rattle.smk_laws_protocol.specs.Protocol.{RunState, own, outputs, eased}
use Rattle.smk_laws_protocol.proofs.Rows.{now}
use Rattle.smk_laws_protocol.proofs.Between.{Midway, Fits, Lets, IsOfJob, trees_at}
use Rattle.smk_laws_protocol.proofs.Acted.{outs_are}
use Rattle.smk_laws_protocol.proofs.Basics.{each_in, each_of, clash, none_some, some_same}
use Rattle.smk_laws_protocol.proofs.Calls.{event}
use Rattle.smk_laws_protocol.proofs.Formed.{formed_after}
use Rattle.smk_laws_protocol.proofs.Reading.{contains_of, contents_are, outputs_are, in_mapped}
use Rattle.smk_laws_protocol.proofs.Stays.{in_left}
use Rattle.smk_laws_protocol.proofs.Unowned.{Unowned, input_unowned}

-- ---- of one place

no_place : (p q : Path) → bytes_eq q p ≡ false → q ≡ p → ⊥
no_place p q h e = clash (bytes_eq q p) (subst (λ y. bytes_eq q y ≡ true) e (place_itself q)) h

nothing : (s : NodeState) → (s ≡ Owned → ⊥) → MayRead None s → reads_nothing s ≡ true
nothing Owned free h = absurd (free refl)
nothing (Known None b) free h = refl
nothing (Known (Some n) b) free h = none_some None refl (sym h)

something : (s : NodeState) → (Reads None s → ⊥) → reads_nothing s ≡ false
something Owned h = refl
something (Known None b) h = absurd (h refl)
something (Known (Some n) b) h = refl

read_as : (s : NodeState) (n : Option Node) → (s ≡ Owned → ⊥) → MayRead n s → n ≡ reading s
read_as Owned n free h = absurd (free refl)
read_as (Known m b) n free h = sym h

pub remains : (s : NodeState) (n : Option Node) → (s ≡ Owned → ⊥) → MayRemain n s → (n ≡ None) ⊎ (n ≡ reading s)
remains s n free (inl h) = inl h
remains s n free (inr h) = inr (read_as s n free h)

protects : (s : NodeState) (n : Option Node) → (s ≡ Owned → ⊥) → MayBeProtected n s → (n ≡ None) ⊎ ((n ≡ reading s) ⊎ (n ≡ option_map protected (reading s)))
protects s None free h = inl refl
protects s (Some n) free (inl h) = inr (inl (read_as s (Some n) free h))
protects s (Some n) free (inr (m, is, h)) = inr (inr (ap Some is ∙ ap (option_map protected) (read_as s (Some m) free h)))

-- ---- of children

numbered_at : (n : ℕ) (cs : List Child) (c : Child) → child_numbered n cs ≡ Some c → IsIn cs c × (c.number ≡ n)
numbered_at n [] c h = none_some None refl h
numbered_at n (x ∷ cs) c h = go (nat_eq x.number n) refl h (numbered_at n cs c)
  where
    go : (b : Bool) → nat_eq x.number n ≡ b → (if b then Some x else child_numbered n cs) ≡ Some c → (child_numbered n cs ≡ Some c → IsIn cs c × (c.number ≡ n)) → IsIn (x ∷ cs) c × (c.number ≡ n)
    go true e k ih = let same = some_same k in (inl (sym same), ap (λ (y : Child). y.number) (sym same) ∙ eqb-true x.number n e)
    go false e k ih = let r = ih k in (inr r.0, r.1)

pub has_number : (w : World) (c : Child) (n : ℕ) → IsIn w.children c → c.number ≡ n → Contains (numbers w.children) n
has_number w c n i same = subst (Contains (numbers w.children)) same (contains_of (numbers w.children) c.number (in_mapped (λ (x : Child). x.number) w.children c i))

module _ (o : Outside) (entry : World) (H : Versions) (s : RunState) (w : World) (m : Midway o entry H s w) (numbered : AreNumbered w) where
  pub answers : (c : Call) (left : List LeftNode) → Unowned w c → WorldLets o.act w c left → Lets o w (event c left) c
  answers (Looked p r) left free lets = tt
  answers (ReadFile p limit r) left free lets = tt
  answers (ReadFolder p r) left free lets = tt
  answers (Written p bytes (Ok u)) left free lets = lets
  answers (Written p bytes (Err x)) left free lets = λ q h. lets q (no_place p q h)
  answers (Created p (Ok true)) left free lets = (nothing (w.nodes p) free lets.0, lets.1)
  answers (Created p (Ok false)) left free lets = (something (w.nodes p) lets.0, lets.1)
  answers (Created p (Err x)) left free lets = λ q h. lets q (no_place p q h)
  answers (Removed p (Ok u)) left free lets = lets
  answers (Removed p (Err x)) left free lets = λ q h. remains (w.nodes q) (standing left q) (free q h) (lets q h)
  answers (MadeParents p r) left free lets = tt
  answers (Settled ps r) left free lets = tt
  answers (Protected p (Ok u)) left free lets = tt
  answers (Protected p (Err x)) left free lets = protects (w.nodes p) (standing left p) free lets
  answers (Started recipe logs command (Ok n)) left free lets =
      each_of (λ (c : Child). c.number ≡ n → ⊥) w.children (λ c i same. lets.1 (numbered.started n (has_number w c n i same)))
  answers (Started recipe logs command (Err x)) left free lets = tt
  answers (Waited (Ok end)) left free lets =
      let at = numbered_at end.number w.children lets.0 lets.1 in
      let k = each_in (IsOfJob o s.jobs) w.children lets.0 m.children at.0 in
      let c = lets.0 in (
        c,
        at.0,
        at.1,
        λ zero trees is.
            let r = lets.2 zero trees (contents_are o w m.images.formed (in_paths c.recipe) trees (λ p i. input_unowned o entry H s w m k.0 k.1 p (subst (λ x. IsIn (in_paths x) p) k.3 i)) is) in (
              r.0,
              outputs_are o (after w (event (Waited (Ok end)) left)) (formed_after w (event (Waited (Ok end)) left) m.images.formed) (out_paths c.recipe) (o.act c.recipe trees).outputs
                  (subst (λ x. Each (λ p. IsTrue (is_outside p)) (out_paths x)) (sym k.3) (paths_of k))
                  r.1
                  ∙ ap (trees_at (now o (after w (event (Waited (Ok end)) left)))) (outs_are c.recipe),
            ),
      )
    where
      paths_of : (k : IsOfJob o s.jobs lets.0) → Each (λ p. IsTrue (is_outside p)) (outputs k.0)
      paths_of k =
          each_of (λ p. IsTrue (is_outside p)) (outputs k.0) (λ p i.
          each_in (λ p. IsTrue (is_outside p)) (own k.0) p (each_in (Fits o entry (eased s) s.top w) s.jobs k.0 m.fits k.1).paths (in_left (outputs k.0) k.0.logs p i))
  answers (Waited (Err x)) left free lets = tt
