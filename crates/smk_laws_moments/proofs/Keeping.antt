-- A job without reasons that may be restored: a record stands at each of its outputs, unmarked, and the job's own may be written in its place.
use Rattle.std.proofs.Common.{◌≡◌, ◌≢◌, inl, inr, ℕ, Bool, true, false, ◌&&◌, not, List, [], ◌∷◌, ◌++◌, map, zip, flat_map, length, refl, ap, sym, subst, ◌∙◌, arith, Option, Some, None, IsTrue, true≢false, eqb-true}
use Rattle.std.specs.Prelude.{bytes_eq, if◌then◌else◌, ◌==◌}
use Rattle.std.specs.List.{AllZip}
use Rattle.smk_base.proofs.Places.{place_itself, same_place}
use Rattle.smk_world.specs.declared.recipe.Recipe.{Recipe}
use Rattle.smk_world.specs.World.{in_paths, out_paths}
use Rattle.smk_world.specs.Trees.{Path, IsIn, first}
use Rattle.smk_record.specs.declared.record.Record.{Record}
use Rattle.smk_record.specs.declared.record.Stamp.{Stamp}
use Rattle.smk_record.specs.Records.{agree, core, stamped}
use Rattle.smk_pattern.specs.Reading.{or_empty}
use Rattle.smk_flow.specs.declared.job.Job.{Job}
use Rattle.smk_store.specs.Images.{Image, core_at, record_at}
use Rattle.smk_store.specs.Trust.{is_marked_but, made_at, stamp_now, stamp_now_but}
use Rattle.smk_trigger.specs.Reasons.{all_same, held, once, own_reasons, same_job}
use Rattle.smk_plan.specs.States.{job_path, none_or_one}
use Rattle.smk_laws_protocol.specs.Protocol.{IsAgain, kept_at}
use Rattle.smk_laws_plan.specs.Current.{HasValidRecords}
use Rattle.smk_laws_plan.proofs.CurrentLists.{all_in, and_left, any_none, in_map, zip_first}
use Rattle.smk_laws_plan.proofs.CurrentProducts.{core_reads, each_stamped}
use Rattle.smk_laws_plan.proofs.CurrentSame.{held_agrees, in_once_of, kept_record, own_calm}
use Rattle.smk_laws_moments.specs.Opened.{found_at}
use Rattle.smk_laws_moments.proofs.Inputs.{stamp_whatever}

-- ## Stamps

-- of each input the stamp that it has now
pub zip_now :
    (g : Path → Option Stamp) (ps : List Path) (xs : List Stamp) (q : Path) (x : Stamp) → map Some xs ≡ map g ps → IsIn (zip ps xs) (q, x) → g q ≡ Some x
zip_now g [] xs q x now i = absurd i
zip_now g (p ∷ ps) [] q x now i = absurd i
zip_now g (p ∷ ps) (y ∷ xs) q x now (inl e) = ap (λ (z : Path × Stamp). g z.0) e ∙ sym (head now) ∙ ap (λ (z : Path × Stamp). Some z.1) (sym e)
  where
    head : Some y ∷ map Some xs ≡ g p ∷ map g ps → Some y ≡ g p
    head k = cc
zip_now g (p ∷ ps) (y ∷ xs) q x now (inr i) = zip_now g ps xs q x (tail now) i
  where
    tail : Some y ∷ map Some xs ≡ g p ∷ map g ps → map Some xs ≡ map g ps
    tail k = cc

pub as_many : (g : Path → Option Stamp) (ps : List Path) (xs : List Stamp) → map Some xs ≡ map g ps → length xs ≡ length ps
as_many g [] [] now = refl
as_many g [] (x ∷ xs) now = cc
as_many g (p ∷ ps) [] now = cc
as_many g (p ∷ ps) (x ∷ xs) now = let more = as_many g ps xs (tail now) in omega (arith, more)
  where
    tail : Some x ∷ map Some xs ≡ g p ∷ map g ps → map Some xs ≡ map g ps
    tail k = cc

-- where each recorded stamp agrees with what its input has now, they agree with the stamps of now one by one
stamps_agree :
    (g : Path → Option Stamp) (ps : List Path) (ss xs : List Stamp) → length ss ≡ length ps → map Some xs ≡ map g ps →
    ((q : Path) (s x : Stamp) → IsIn (zip ps ss) (q, s) → g q ≡ Some x → agree s x ≡ true) →
    AllZip (λ (recorded now : Stamp). IsTrue (agree recorded now)) ss xs
stamps_agree g [] [] [] e now h = tt
stamps_agree g [] [] (x ∷ xs) e now h = cc
stamps_agree g [] (s ∷ ss) xs e now h = absurd (omega (arith, e))
stamps_agree g (p ∷ ps) [] xs e now h = absurd (omega (arith, e))
stamps_agree g (p ∷ ps) (s ∷ ss) [] e now h = cc
stamps_agree g (p ∷ ps) (s ∷ ss) (x ∷ xs) e now h =
    (h p s x (inl refl) (sym (head now)), stamps_agree g ps ss xs (omega (arith, e)) (tail now) (λ q t y k. h q t y (inr k)))
  where
    head : Some x ∷ map Some xs ≡ g p ∷ map g ps → Some x ≡ g p
    head k = cc

    tail : Some x ∷ map Some xs ≡ g p ∷ map g ps → map Some xs ≡ map g ps
    tail k = cc

-- ## The records that are found

abbrev paired : Path → Option Record → List (Path × Record)
paired p r = map (λ (x : Record). (p, x)) (none_or_one r)

none_is : {r : Record} → None ≡ Some r → ⊥
none_is e = cc

kept_finds : (image : Image) (ps : List Path) (p : Path) (r : Record) → IsIn ps p → core_at image p ≡ Some r → kept_at (flat_map (found_at image) ps) p ≡ Some r
kept_finds image [] p r i h = absurd i
kept_finds image (x ∷ ps) p r i h = go (bytes_eq x p) refl (core_at image x) refl i (λ k. kept_finds image ps p r k h)
  where
    further : (b : Bool) → bytes_eq x p ≡ b → b ≡ false → IsIn (x ∷ ps) p → IsIn ps p
    further b e none_here (inl same) = absurd (true≢false (sym (place_itself x) ∙ ap (bytes_eq x) (sym same) ∙ e ∙ none_here))
    further b e none_here (inr k) = k

    go :
        (b : Bool) → bytes_eq x p ≡ b → (o : Option Record) → core_at image x ≡ o → IsIn (x ∷ ps) p →
        (IsIn ps p → kept_at (flat_map (found_at image) ps) p ≡ Some r) → kept_at (paired x o ++ flat_map (found_at image) ps) p ≡ Some r
    go true e None none k again = absurd (none_is (sym none ∙ ap (core_at image) (same_place x p e) ∙ h))
    go false e None none k again = again (further false e refl k)
    go true e (Some y) there k again =
        ap (λ b. if b then Some y else kept_at (flat_map (found_at image) ps) p) e ∙ sym there ∙ ap (core_at image) (same_place x p e) ∙ h
    go false e (Some y) there k again = ap (λ b. if b then Some y else kept_at (flat_map (found_at image) ps) p) e ∙ again (further false e refl k)

pub kept_among : (image : Image) (ps : List Path) (p : Path) (r : Record) → kept_at (flat_map (found_at image) ps) p ≡ Some r → IsIn ps p
kept_among image [] p r h = cc
kept_among image (x ∷ ps) p r h = go (bytes_eq x p) refl (core_at image x) h (kept_among image ps p r)
  where
    go :
        (b : Bool) → bytes_eq x p ≡ b → (o : Option Record) → kept_at (paired x o ++ flat_map (found_at image) ps) p ≡ Some r →
        (kept_at (flat_map (found_at image) ps) p ≡ Some r → IsIn ps p) → IsIn (x ∷ ps) p
    go b e None k again = inr (again k)
    go true e (Some y) k again = inl (sym (same_place x p e))
    go false e (Some y) k again = inr (again (sym (ap (λ b. if b then Some y else kept_at (flat_map (found_at image) ps) p) e) ∙ k))

-- ## One job

-- the records of one job have one serial
same_serial : (rs : List Record) (a b : Record) → all_same rs ≡ true → IsIn rs a → IsIn rs b → a.made ≡ b.made
same_serial [] a b same i k = absurd i
same_serial (r ∷ rs) a b same i k = sym (of_first a i) ∙ of_first b k
  where
    of_first : (x : Record) → IsIn (r ∷ rs) x → r.made ≡ x.made
    of_first x (inl e) = ap (λ (y : Record). y.made) (sym e)
    of_first x (inr l) = eqb-true r.made x.made (and_left (r.made == x.made) _ (all_in (same_job r) rs x same l))

module _ (image : Image) (valid : HasValidRecords image) (left : Path → Bool) (j : Job)
    (calm : own_reasons j.recipe (map image.kept (out_paths j.recipe)) (map (is_marked_but image left) (out_paths j.recipe))
    (map (λ q. (q, stamp_now_but image left q)) (in_paths j.recipe)) ≡ [])
    (left_none : (p : Path) → IsIn (out_paths j.recipe) p → left p ≡ false) where
  -- the record at an output
  pub record HasRecord (p : Path) : Type 0 where
    pub r : Record
    pub reads : record_at image p ≡ Some r
    pub held_there : IsIn (flat_map held (map image.kept (out_paths j.recipe))) r
    pub same : r.recipe ≡ j.recipe
    pub unmarked : image.marked p ≡ false
    pub steady : (q : Path) (s x : Stamp) → IsIn (in_paths j.recipe) q → stamp_now_but image left q ≡ Some x → IsIn (stamped r) (q, s) → agree s x ≡ true

  has_record : (p : Path) → IsIn (out_paths j.recipe) p → HasRecord p
  has_record p ip =
      let kept = map image.kept (out_paths j.recipe) in
      let marked = map (is_marked_but image left) (out_paths j.recipe) in
      let stamps = map (λ q. (q, stamp_now_but image left q)) (in_paths j.recipe) in
      let own = own_calm j.recipe kept marked stamps calm in
      let found = kept_record image (out_paths j.recipe) p own.present own.readable ip in
      let agrees = held_agrees j.recipe kept marked stamps own found.0 found.2 in
      record {
        r = found.0;
        reads = found.1;
        held_there = found.2;
        same = agrees.same;
        unmarked = and_not (image.marked p) (left p) (left_none p ip)
            (any_none (λ b. b) marked (is_marked_but image left p) own.unmarked (in_map (is_marked_but image left) (out_paths j.recipe) p ip));
        steady = λ q s x iq e h. agrees.steady q s x
            (subst (λ y. IsIn (once stamps) (q, y)) e (in_once_of (stamp_now_but image left) (in_paths j.recipe) q iq)) h;
      }
    where
      and_not : (a b : Bool) → b ≡ false → (a && not b) ≡ false → a ≡ false
      and_not true b x y = absurd (true≢false (sym (ap not x) ∙ y))
      and_not false b x y = refl

  one_serial : (p q : Path) (h : HasRecord p) (k : HasRecord q) → h.r.made ≡ k.r.made
  one_serial p q h k =
      let kept = map image.kept (out_paths j.recipe) in
      let marked = map (is_marked_but image left) (out_paths j.recipe) in
      let stamps = map (λ q. (q, stamp_now_but image left q)) (in_paths j.recipe) in
      same_serial (flat_map held kept) h.r k.r (own_calm j.recipe kept marked stamps calm).alike h.held_there k.held_there

  first_path : (ps : List Path) (p : Path) → IsIn ps p → IsIn ps (or_empty (first ps))
  first_path [] p i = absurd i
  first_path (x ∷ ps) p i = inl refl

  -- the serial that it keeps is that of each of its records
  keeps_serial : (p : Path) (h : HasRecord p) → IsIn (out_paths j.recipe) p → h.r.made ≡ made_at (record_at image (job_path j))
  keeps_serial p h ip =
      let k = has_record (job_path j) (first_path (out_paths j.recipe) p ip) in
      one_serial p (job_path j) h k ∙ ap made_at (sym k.reads)

  -- What a job finds at an output: an unmarked record, in whose place its own may be written.
  pub record FindsRecord (made : ℕ) (stamps : List Stamp) (p : Path) : Type 0 where
    pub found : Record
    pub stands : core_at image p ≡ Some found
    pub unmarked : image.marked p ≡ false
    pub kept : kept_at (flat_map (found_at image) (out_paths j.recipe)) p ≡ Some found
    pub again : IsAgain found (record { format = 2; path = p; made = made; recipe = j.recipe; stamps = stamps; members = [] })

  pub finds_record :
      (made : ℕ) (stamps : List Stamp) (p : Path) → made ≡ made_at (record_at image (job_path j)) →
      map Some stamps ≡ map (stamp_now image) (in_paths j.recipe) →
      IsIn (out_paths j.recipe) p → FindsRecord made stamps p
  finds_record made stamps p serial now ip =
      let h = has_record p ip in
      let own = valid p h.r h.reads in
      let there = core_reads image p h.r h.reads in
      record {
        found = core h.r;
        stands = there;
        unmarked = h.unmarked;
        kept = kept_finds image (out_paths j.recipe) p (core h.r) ip there;
        again = record {
          path = own.0;
          made = keeps_serial p h ip ∙ sym serial;
          recipe = h.same;
          members = refl;
          stamps = stamps_agree (stamp_now image) (in_paths j.recipe) h.r.stamps stamps
              (each_stamped h.r own.1 ∙ ap (λ (x : Recipe). length (in_paths x)) h.same) now
              (λ q s x k e.
              h.steady q s x (zip_first (in_paths j.recipe) h.r.stamps q s k) (stamp_whatever image left q x e)
              (subst (λ (r : Recipe). IsIn (zip (in_paths r) h.r.stamps) (q, s)) (sym h.same) k));
        };
      }

  -- a job with an output finds something
  pub finds_some : out_paths j.recipe ≢ [] → flat_map (found_at image) (out_paths j.recipe) ≢ []
  finds_some some none = go (out_paths j.recipe) some (λ p i. i) none
    where
      not_none : {x : Path × Record} {xs : List (Path × Record)} → x ∷ xs ≡ [] → ⊥
      not_none e = cc

      go : (ps : List Path) → ps ≢ [] → ((p : Path) → IsIn ps p → IsIn (out_paths j.recipe) p) → flat_map (found_at image) ps ≡ [] → ⊥
      go [] some sub k = some refl
      go (p ∷ ps) some sub k =
          let h = has_record p (sub p (inl refl)) in
          not_none (sym (ap (λ r. paired p r ++ flat_map (found_at image) ps) (core_reads image p h.r h.reads)) ∙ k)
