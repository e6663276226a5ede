-- Why the job that is next doesn't begin: no serial is left, or its record would be too long.
use Rattle.std.proofs.Common.{◌≡◌, ◌<◌, ◌^◌, ℕ, Bool, true, false, List, [], ◌∷◌, ◌++◌, map, length, refl, sym, ap, subst, ◌∙◌, arith, Some, None}
use Rattle.std.specs.Prelude.{if◌then◌else◌, nat_lt}
use Rattle.std.specs.List.{find, flat_map}
use Rattle.std.proofs.lemmas.List.{map-append}
use Rattle.std.proofs.lemmas.Option.{same_Some}
use Rattle.smk_world.specs.declared.event.Event.{Event}
use Rattle.smk_world.specs.declared.recipe.Out.{Out}
use Rattle.smk_world.specs.declared.recipe.OutItem.{OutItem}
use Rattle.smk_world.specs.World.{World, in_paths, out_paths}
use Rattle.smk_world.specs.Trees.{Each, outs_of}
use Rattle.smk_record.specs.declared.record.Stamp.{Stamp}
use Rattle.smk_record.specs.Records.{record_of}
use Rattle.smk_record.specs.Spelling.{spelling}
use Rattle.smk_flow.specs.declared.job.Job.{Job}
use Rattle.smk_flow.specs.Flows.{rule_name}
use Rattle.smk_store.specs.Trust.{stamp_now}
use Rattle.smk_trigger.specs.declared.reason.State.{State}
use Rattle.smk_plan.specs.States.{none_or_one}
use Rattle.smk_report.specs.declared.fault.Fault.TheVariants as fault
use Rattle.smk_job.specs.Jobs.{bare_bytes, is_long, too_long}
use Rattle.smk_drive.specs.Moments.{Begun, Rules, begun_of, seen, serial_of}
use Rattle.smk_drive.specs.Refusals.{record_length}
use Rattle.smk_drive_course.specs.Refusals.{LongRecord, NoSerial}
use Rattle.smk_drive_course.specs.Refusals as target
use Rattle.smk_drive_course.specs.Stands.{Refuses, Stand, moment_of}
use Rattle.smk_drive_course.specs.Steps.{IsNext}

-- ## The first that passes

-- Up to the first one that passes, and after it.
pub record IsFirstOf {A : Type 0} (f : A → ℕ) (p : ℕ → Bool) (xs : List A) (n : ℕ) : Type 0 where
  pub before : List A
  pub x : A
  pub after : List A
  pub split : xs ≡ before ++ x ∷ after
  pub is : f x ≡ n
  pub passes : p (f x) ≡ true
  pub none : Each (λ y. p (f y) ≡ false) before

pub first_of : {A : Type 0} (f : A → ℕ) (p : ℕ → Bool) (xs : List A) (n : ℕ) → find p (map f xs) ≡ Some n → IsFirstOf f p xs n
first_of f p [] n h = absurd (none_some h)
  where
    none_some : None ≡ Some n → ⊥
    none_some k = cc
first_of f p (y ∷ ys) n h = go (p (f y)) refl h (first_of f p ys n)
  where
    go :
        (b : Bool) → p (f y) ≡ b → (if b then Some (f y) else find p (map f ys)) ≡ Some n → (find p (map f ys) ≡ Some n → IsFirstOf f p ys n) → IsFirstOf f p (y ∷ ys) n
    go true e k again = record { before = []; x = y; after = ys; split = refl; is = same_Some (f y) n k; passes = e; none = tt }
    go false e k again =
        let r = again k in
        record {
          before = y ∷ r.before;
          x = r.x;
          after = r.after;
          split = ap (λ zs. y ∷ zs) r.split;
          is = r.is;
          passes = r.passes;
          none = (e, r.none);
        }

-- the paths of the outputs
paths_are : (items : List OutItem) → flat_map (λ (i : OutItem). map (λ (o : Out). o.path) i.outs) items ≡ map (λ (o : Out). o.path) (flat_map (λ (i : OutItem). i.outs) items)
paths_are [] = refl
paths_are (i ∷ items) =
    ap (λ ps. map (λ (o : Out). o.path) i.outs ++ ps) (paths_are items)
    ∙ sym (map-append (λ (o : Out). o.path) i.outs (flat_map (λ (x : OutItem). x.outs) items))

map_twice : {A B C : Type 0} (f : B → C) (g : A → B) (xs : List A) → map f (map g xs) ≡ map (λ x. f (g x)) xs
map_twice f g [] = refl
map_twice f g (x ∷ xs) = ap (λ ys. f (g x) ∷ ys) (map_twice f g xs)

kept : (stamps : List Stamp) → flat_map none_or_one (map Some stamps) ≡ stamps
kept [] = refl
kept (s ∷ stamps) = ap (λ xs. s ∷ xs) (kept stamps)

long_is : (n : ℕ) → nat_lt 1048576 n ≡ true → 1048576 < n
long_is n h = grind (arith, h)

short_is : (n : ℕ) → nat_lt 1048576 n ≡ false → 1048576 < n → ⊥
short_is n h low = grind (arith, h, low)

each_more : {A : Type 0} (P Q : A → Type 0) → ((x : A) → P x → Q x) → (xs : List A) → Each P xs → Each Q xs
each_more P Q f [] h = tt
each_more P Q f (x ∷ xs) h = (f x h.0, each_more P Q f xs h.1)

module _ (rules : Rules) (entry : World) (s : Stand) (w : World) (before : List Event) (e : Job × State) (next : IsNext rules s w before e) where
  is_next : target.IsNext rules (moment_of s w before) e
  is_next = record { going = next.going_on; first = next.first; unrefused = next.clear.unrefused }

  -- no serial is left
  pub serials_refused : serial_of rules entry (moment_of s w before) e.0 e.1 ≡ 2 ^ 64 → Refuses rules entry s w before fault.Serials
  serials_refused full = NoSerial e next.clear.at_rest is_next full

  module _ (made : ℕ) (stamps : List Stamp) (serial : made ≡ serial_of rules entry (moment_of s w before) e.0 e.1)
      (stamped : map Some stamps ≡ map (stamp_now (seen rules w)) (in_paths e.0.recipe)) where
    abbrev b : Begun
    b = begun_of rules entry (moment_of s w before) e

    abbrev lengths : Out → ℕ
    lengths o = length (bare_bytes made e.0.recipe stamps o.path)

    same_length : (o : Out) → record_length rules (moment_of s w before) b o ≡ lengths o
    same_length o =
        let serials = sym serial in
        let told : flat_map none_or_one b.stamps ≡ stamps = ap (λ ss. flat_map none_or_one ss) (sym stamped) ∙ kept stamps in
        λ i. length (spelling (record_of o.path (serials i) e.0.recipe (told i) []))

    -- the record of an output is too long
    pub length_refused :
        (bytes : ℕ) → made < 2 ^ 64 → too_long made e.0.recipe stamps ≡ Some bytes →
        Refuses rules entry s w before (fault.TooLong (rule_name rules.flow e.0.rule) bytes)
    length_refused bytes fits long =
        let all : map (λ p. length (bare_bytes made e.0.recipe stamps p)) (out_paths e.0.recipe) ≡ map lengths (outs_of e.0.recipe) =
        ap (map (λ p. length (bare_bytes made e.0.recipe stamps p))) (paths_are e.0.recipe.outputs)
        ∙ map_twice (λ p. length (bare_bytes made e.0.recipe stamps p)) (λ (o : Out). o.path) (outs_of e.0.recipe) in
        let f = first_of lengths is_long (outs_of e.0.recipe) bytes (ap (find is_long) (sym all) ∙ long) in
        subst (λ n. Refuses rules entry s w before (fault.TooLong (rule_name rules.flow e.0.rule) n)) (same_length f.x ∙ f.is)
        (LongRecord e f.x f.before f.after next.clear.at_rest is_next (subst (λ n. n < 2 ^ 64) serial fits) f.split
        (each_more (λ o. is_long (lengths o) ≡ false) (λ o. ¬ (1048576 < record_length rules (moment_of s w before) b o))
        (λ o short low. short_is (lengths o) short (subst (λ n. 1048576 < n) (same_length o) low)) f.before f.none)
        (subst (λ n. 1048576 < n) (sym (same_length f.x)) (long_is (lengths f.x) f.passes)))
