-- Sights to which digests were put.
use Rattle.std.proofs.Common.{◌≡◌, ℕ, Bool, true, false, cond, List, [], ◌∷◌, ◌++◌, reverse, refl, sym, ap, subst, ◌∙◌, Option, Some, None, bytes_eq}
use Rattle.std.specs.Prelude.{is_some, if◌then◌else◌}
use Rattle.std.specs.List.{AllZip, find}
use Rattle.std.specs.Option.{option_and_then}
use Rattle.std.proofs.lemmas.Bool.{true≢false}
use Rattle.std.proofs.lemmas.List.{append_assoc, reverse-append, reverse-reverse}
use Rattle.std.proofs.lemmas.Option.{same_Some, none-some}
use Rattle.smk_base.specs.declared.sum.Sum.{Sum as Digest}
use Rattle.smk_base.proofs.Places.{same_place}
use Rattle.smk_world.specs.Devices.{Device, WhereTold}
use Rattle.smk_world.specs.Trees.{Path}
use Rattle.smk_digest.specs.Digests.{AreSums}
use Rattle.smk_record.specs.Records.{are_rising}
use Rattle.smk_plan.specs.declared.seen.Sight.{Sight}
use Rattle.smk_plan.specs.States.{test_some}
use Rattle.smk_plan.specs.Sights.{AreRising, sight_at}
use Rattle.smk_plan.specs.Summed.{is_seen_summed}
use Rattle.smk_plan_look.specs.Needs.{time_by, time_seen}
use Rattle.smk_plan_look.specs.Putting.{HavePut, with_sum, next_sum, paths_where, put_sums, sums_after}
use Rattle.smk_plan_look.specs.Seeing.{are_paths}

-- ## The first sight

abbrev when_first : Bool → Sight → List Sight → Path → Option Sight
when_first b s sights q = cond b (Some s) (find (λ (x : Sight). bytes_eq x.path q) sights)

sight_here : (s : Sight) (sights : List Sight) (q : Path) → bytes_eq s.path q ≡ true → sight_at (s ∷ sights) q ≡ Some s
sight_here s sights q e = ap (λ (b : Bool). when_first b s sights q) e

sight_there : (s : Sight) (sights : List Sight) (q : Path) → bytes_eq s.path q ≡ false → sight_at (s ∷ sights) q ≡ sight_at sights q
sight_there s sights q e = ap (λ (b : Bool). when_first b s sights q) e

abbrev time_of : Option Sight → Option ℕ
time_of o = option_and_then (λ (s : Sight). time_by s.stat) o

abbrev has_digest : Option Sight → Bool
has_digest o = test_some (λ (s : Sight). is_some s.sum) o

next_needed : (b : Bool) (ds : List (Option Digest)) → is_some (next_sum b ds) ≡ true → b ≡ true
next_needed true ds h = refl
next_needed false ds h = absurd (true≢false (sym h))

module _ (needed : Path → Bool) where
  put_paths : (sights : List Sight) (ds : List (Option Digest)) → are_paths (put_sums needed sights ds) ≡ are_paths sights
  put_paths [] ds = refl
  put_paths (s ∷ sights) ds = ap (λ (ps : List Path). s.path ∷ ps) (put_paths sights (sums_after (needed s.path) ds))

  -- the paths still rise
  pub put_rising : (sights : List Sight) (ds : List (Option Digest)) → AreRising sights → AreRising (put_sums needed sights ds)
  put_rising sights ds rising = ap are_rising (put_paths sights ds) ∙ rising

  -- the times that were seen are the same
  pub put_time : (sights : List Sight) (ds : List (Option Digest)) (q : Path) → time_seen (put_sums needed sights ds) q ≡ time_seen sights q
  put_time [] ds q = refl
  put_time (s ∷ sights) ds q = go (bytes_eq s.path q) refl (put_time sights (sums_after (needed s.path) ds) q)
    where
      go : (b : Bool) → bytes_eq s.path q ≡ b → time_seen (put_sums needed sights (sums_after (needed s.path) ds)) q ≡ time_seen sights q
          → time_seen (put_sums needed (s ∷ sights) ds) q ≡ time_seen (s ∷ sights) q
      go true e more =
          ap time_of (sight_here (with_sum s (next_sum (needed s.path) ds)) (put_sums needed sights (sums_after (needed s.path) ds)) q e)
          ∙ sym (ap time_of (sight_here s sights q e))
      go false e more =
          ap time_of (sight_there (with_sum s (next_sum (needed s.path) ds)) (put_sums needed sights (sums_after (needed s.path) ds)) q e)
          ∙ more ∙ sym (ap time_of (sight_there s sights q e))

  -- only where one is needed a digest was put
  pub put_spared : (sights : List Sight) (ds : List (Option Digest)) (q : Path) → is_seen_summed (put_sums needed sights ds) q ≡ true → needed q ≡ true
  put_spared [] ds q h = absurd (true≢false (sym h))
  put_spared (s ∷ sights) ds q h = go (bytes_eq s.path q) refl (λ k. put_spared sights (sums_after (needed s.path) ds) q k)
    where
      go : (b : Bool) → bytes_eq s.path q ≡ b → (is_seen_summed (put_sums needed sights (sums_after (needed s.path) ds)) q ≡ true → needed q ≡ true) → needed q ≡ true
      go true e more =
          sym (ap needed (same_place s.path q e))
          ∙ next_needed (needed s.path) ds (sym (ap has_digest (sight_here (with_sum s (next_sum (needed s.path) ds)) (put_sums needed sights (sums_after (needed s.path) ds)) q e)) ∙ h)
      go false e more = more (sym (ap has_digest (sight_there (with_sum s (next_sum (needed s.path) ds)) (put_sums needed sights (sums_after (needed s.path) ds)) q e)) ∙ h)

  module _ (R : Path → Option Digest → Type 0) where
    -- the sight was found with a digest that is right, where one is needed, and with none elsewhere
    pub record IsPut (s : Sight) (q : Path) (found : Option Sight) : Type 0 where
      pub sum : Option Digest
      pub seen : found ≡ Some (with_sum s sum)
      pub right : needed q ≡ true → R q sum
      pub none : needed q ≡ false → sum ≡ None

    record IsNext (b : Bool) (p : Path) (ps : List Path) (ds : List (Option Digest)) : Type 0 where
      pub right : b ≡ true → R p (next_sum b ds)
      pub none : b ≡ false → next_sum b ds ≡ None
      pub rest : AllZip R ps (sums_after b ds)

    next_is : (b : Bool) (p : Path) (ps : List Path) (ds : List (Option Digest)) → AllZip R ((if b then p ∷ [] else []) ++ ps) ds → IsNext b p ps ds
    next_is false p ps ds h = record { right = λ e. absurd (true≢false (sym e)); none = λ e. refl; rest = h }
    next_is true p ps [] h = absurd h
    next_is true p ps (d ∷ ds) h = record { right = λ e. h.0; none = λ e. absurd (true≢false e); rest = h.1 }

    put_first : (x : Sight) (others rest : List Sight) (ds : List (Option Digest)) (q : Path) (s : Sight) → sight_at (x ∷ rest) q ≡ Some s → IsNext (needed x.path) x.path (paths_where needed rest) ds
        → (sight_at rest q ≡ Some s → IsPut s q (sight_at others q)) → IsPut s q (sight_at (with_sum x (next_sum (needed x.path) ds) ∷ others) q)
    put_first x others rest ds q s found n more = go (bytes_eq x.path q) refl
      where
        go : (b : Bool) → bytes_eq x.path q ≡ b → IsPut s q (sight_at (with_sum x (next_sum (needed x.path) ds) ∷ others) q)
        go true e =
            let same : x ≡ s = same_Some x s (sym (sight_here x rest q e) ∙ found) in
            let at : x.path ≡ q = same_place x.path q e in
            record {
              sum = next_sum (needed x.path) ds;
              seen = sight_here (with_sum x (next_sum (needed x.path) ds)) others q e ∙ ap (λ (y : Sight). Some (with_sum y (next_sum (needed x.path) ds))) same;
              right = λ h. subst (λ (p : Path). R p (next_sum (needed x.path) ds)) at (n.right (ap needed at ∙ h));
              none = λ h. n.none (ap needed at ∙ h);
            }
        go false e = subst (IsPut s q) (sym (sight_there (with_sum x (next_sum (needed x.path) ds)) others q e)) (more (sym (sight_there x rest q e) ∙ found))

    pub put_at : (sights : List Sight) (ds : List (Option Digest)) (q : Path) (s : Sight) → AllZip R (paths_where needed sights) ds → sight_at sights q ≡ Some s → IsPut s q (sight_at (put_sums needed sights ds) q)
    put_at [] ds q s all found = absurd (none-some s found)
    put_at (x ∷ sights) ds q s all found =
        let n = next_is (needed x.path) x.path (paths_where needed sights) ds all in
        put_first x (put_sums needed sights (sums_after (needed x.path) ds)) sights ds q s found n (λ k. put_at sights (sums_after (needed x.path) ds) q s n.rest k)

-- ## One sight after another

-- the last sight is the first from the other end
pub from_last : {A : Type 0} (all left : List A) (x : A) → all ≡ left ++ x ∷ [] → reverse all ≡ x ∷ reverse left
from_last all left x last = ap reverse last ∙ reverse-append left (x ∷ [])

pub pushed : (needed : Path → Bool) (old new : List Sight) (s put : Sight) (ds rest : List (Option Digest)) (b : Bool) → b ≡ needed s.path → new ≡ old ++ put ∷ [] → put ≡ with_sum s (next_sum b ds) → rest ≡ sums_after b ds
    → (later : List Sight) → new ++ put_sums needed later rest ≡ old ++ put_sums needed (s ∷ later) ds
pushed needed old new s put ds rest b is made one left later =
    ap (λ (l : List Sight). l ++ put_sums needed later rest) made ∙ append_assoc old (put ∷ []) (put_sums needed later rest)
    ∙ ap (λ (x : Sight). old ++ (x ∷ put_sums needed later rest)) one
    ∙ ap (λ (x : List (Option Digest)). old ++ (with_sum s (next_sum b ds) ∷ put_sums needed later x)) left
    ∙ ap (λ (c : Bool). old ++ (with_sum s (next_sum c ds) ∷ put_sums needed later (sums_after c ds))) is

-- one more, of those that are left
pub put_more : (needed : Path → Bool) (found new left all : List Sight) (s : Sight) (rest more : List (Option Digest)) (goal : List Sight) → all ≡ left ++ s ∷ []
    → ((later : List Sight) → new ++ put_sums needed later more ≡ found ++ put_sums needed (s ∷ later) rest) → found ++ put_sums needed (reverse all) rest ≡ goal → new ++ put_sums needed (reverse left) more ≡ goal
put_more needed found new left all s rest more goal last step before =
    step (reverse left) ∙ ap (λ (l : List Sight). found ++ put_sums needed l rest) (sym (from_last all left s last)) ∙ before

-- ## All of them

pub have_put : (d : Device) (needed : Path → Bool) (sights turned found : List Sight) (ds : List (Option Digest)) (paths : List Path) → paths ≡ paths_where needed sights → WhereTold d (λ w. AreSums w paths ds) → turned ≡ reverse sights
    → found ≡ put_sums needed (reverse turned) ds → HavePut d needed sights found
have_put d needed sights turned found ds paths are told from put =
    record {
      sums = ds;
      put = put ∙ ap (λ (l : List Sight). put_sums needed l ds) (ap reverse from ∙ reverse-reverse sights);
      told = λ w at. subst (λ (ps : List Path). AreSums w ps ds) are (told w at);
    }

-- the same, by another test of what is needed
pub put_by : (d : Device) (test needed : Path → Bool) (sights before found after : List Sight) → ((q : Path) → test q ≡ needed q) → sights ≡ before → after ≡ found → HavePut d test sights found → HavePut d needed before after
put_by d test needed sights before found after same from is put =
    subst (HavePut d needed before) (sym is) (subst (λ (l : List Sight). HavePut d needed l found) from (subst (λ (f : Path → Bool). HavePut d f sights found) (λ i. λ q. same q i) put))

pub put_rises : (d : Device) (needed : Path → Bool) (before after : List Sight) → HavePut d needed before after → AreRising before → AreRising after
put_rises d needed before after put rising = subst AreRising (sym put.put) (put_rising needed before put.sums rising)
